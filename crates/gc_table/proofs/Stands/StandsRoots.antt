-- A root is stored: a variable of the plain heap gets the reference that agrees with the word, or that of a new object.
use Rattle.mark_core.proofs.References.ReferencesNow.{the-roots, now-stores, now-holds}
use Rattle.mark_core.proofs.Lagging.{now-length}
use Rattle.mark_core.specs.Variables.{roots_now}
use Rattle.mark_core.specs.Bits.{with_bit, reference_in}
use Rattle.mark_core.proofs.Used.UsedSeats.{IsMadeBy}
use Rattle.std.proofs.Common.{ℕ, ◌≡◌, ◌≢◌, ◌+◌, ◌-◌, ◌*◌, ◌<◌, ◌≤◌, zero, suc, List, [], ◌∷◌, ◌++◌, set, get_or, replicate, length, arith, refl, sym, ap, ◌∙◌, subst, true, not, eqb, Option, Some, None, ◌⊎◌, inl, inr, ⊎_elim}
use Rattle.std.specs.Prelude.{IsFalse, IfSome, slice_get, slice_index, slice_index_or, nat_lt}
use Rattle.std.proofs.lemmas.Bool.{true≢false, and_parts, not-true, eqb-true, eqb-false, ltb-true, cases_eq}
use Rattle.std.proofs.lemmas.List.{get_or-set_same, get_or-set_other, get_or-replicate, length-set, length-append}
use Rattle.std.proofs.lemmas.Option.{same_Some, slice_get_within}
use Rattle.mark_core.specs.Layout.{Words, words_of}
use Rattle.mark_core.specs.Seats.{is_the, last_made, has_making, may_mutate}
use Rattle.mark_core.specs.Rules.HeapRules.{section_of_cell, number_of_cell}
use Rattle.mark_core.specs.Steps.MutatorSteps.{names_last}
use Rattle.mark_core.specs.Effects.{seat_after}
use Rattle.mark_core.specs.Steps.{Core}
use Rattle.mark_core.proofs.Known.{found, words_left, seats_left}
use Rattle.mark_core.proofs.HeldBlock.{roots-length}
use Rattle.mark_core.proofs.Blocks.BlocksStopped.{Taken}
use Rattle.mark_core.proofs.References.ReferencesRoots.{seat-formed}
use Rattle.mark_core.specs.declared.kinds.Step.{Step}
use Rattle.mark_core.specs.declared.kinds.Step.TheVariants.{StoreRoot, HoldRoot}
use Rattle.mark_core.specs.declared.seat.SeatState.{SeatState}
use Rattle.plain_heap.specs.declared.object.Object.{Object}
use Rattle.plain_heap.specs.declared.object.Ref.{Ref}
use Rattle.plain_heap.specs.declared.object.Ref.TheVariants as refs
use Rattle.plain_heap.specs.declared.operation.Op.{Op}
use Rattle.plain_heap.specs.declared.operation.Op.TheVariants as ops
use Rattle.plain_heap.specs.PlainHeap.{Heap, variable}
use Rattle.plain_heap.specs.PlainStep.{heap_after, assigned, with_new, new_object, followed, lent_variable}
use Rattle.gc_table.specs.StandsFor.{object_count, objects_in, WordAgrees, IsForNextObject, IsCellOf, ValuesFit, SeatStands, StandsIn, StandsFor}
use Rattle.gc_table.specs.declared.view.Meaning.{Meaning}
use Rattle.gc_table.specs.PlainSteps.{catalogue_seen, own_section, meaning_of, changed, with_got, stepped, IsAssignment, AsksIn}
use Rattle.gc_table.proofs.Stands.StandsAgree.{Stays, next-on, agrees-on}
use Rattle.gc_table.proofs.Stands.StandsFrame.{cell-on, Moves, moved, had-meaning, get-set_same, counts-grow}
use Rattle.gc_table.proofs.Stands.StandsSeat.{Mutates, mutates, env-agrees}
use Rattle.mark_core.specs.Numbers.{value_bound, section_span}

-- each root of the section agrees, if one is stored beside its variable
own_root : (ids : List ℕ) (q : ℕ → ℕ) (i v r : ℕ) (roots : List ℕ) (vars : List Ref) (ref : Ref) → length vars ≡ 32 → i * 32 + v < length roots → v < 32 → WordAgrees ids q i r ref
    → ((u : ℕ) → u < 32 → WordAgrees ids q i (get_or roots (i * 32 + u) 0) (get_or vars u refs.Nil)) → (u : ℕ) → u < 32 → WordAgrees ids q i (get_or (set roots (i * 32 + v) r) (i * 32 + u) 0) (get_or (set vars v ref) u refs.Nil)
own_root ids q i v r roots vars ref l h hv now before u hu =
    ⊎_elim
    (λ (e : u ≡ v). rw (e, get_or-set_same roots (i * 32 + v) r 0 h, get_or-set_same vars v ref refs.Nil (omega (arith, l, hv))) now)
    (λ (d : u ≢ v). rw (get_or-set_other roots (i * 32 + v) (i * 32 + u) r 0 (λ z. d (omega (arith, z))), get_or-set_other vars v u ref refs.Nil d) (before u hu))
    (cases_eq u v)

-- what becomes of the plain heap, if the variable gets this reference
pub record Assigns (c : Core) (i : ℕ) (s : SeatState) (v r : ℕ) (m n : Meaning) (ms : List Meaning) (ref : Ref) : Type 0 where
  pub variables : n.heap.variables ≡ set m.heap.variables v ref
  pub section : n.heap.section ≡ m.heap.section
  pub fields : n.heap.fields ≡ m.heap.fields
  pub value : n.value ≡ m.value
  pub fit : ValuesFit m.heap → m.value < value_bound → ValuesFit n.heap
  pub got : n.got ≡ refs.Nil
  pub more : length m.heap.objects ≤ length n.heap.objects
  pub agrees : WordAgrees (words_of c.shape c.words).identities (object_count (set ms i n)) i r ref
  pub made : (length n.heap.objects ≡ s.made) ⊎ ((length n.heap.objects + 1 ≡ s.made) × IsFalse (has_making s.cache))
  pub held : (y : ℕ) → y < length m.heap.objects → slice_get n.heap.objects y ≡ slice_get m.heap.objects y
  pub next : (y : ℕ) → IsForNextObject c.shape (words_of c.shape c.words).identities (words_of c.shape c.words).values (words_of c.shape c.words).fields m y
      → IsCellOf c.shape (words_of c.shape c.words).identities (words_of c.shape c.words).values (words_of c.shape c.words).fields (object_count (set ms i n)) n y

-- the record of the seat after it
abbrev assigned_seat : SeatState → ℕ → ℕ → ℕ → SeatState
assigned_seat s v r lags = record s { env = set s.env v (reference_in r); lags = lags; got = 0 }

root_moves : (c : Core) (i : ℕ) (s : SeatState) (step : Step) (v r : ℕ) (words : List ℕ) (lags : ℕ) (ms : List Meaning) (n : Meaning) (ref : Ref) → roots_now words (set c.seats i (assigned_seat s v r lags)) ≡ set (the-roots c) (i * 32 + v) r
    → ((y : ℕ) → IsMadeBy c.shape step y → ⊥) → Taken c i s step → StandsFor c ms → (a : Mutates c i s ms) → v < 32 → Assigns c i s v r (meaning_of ms i) n ms ref
    → Moves c i s step (record (words_of c.shape c.words) { roots = words }) (assigned_seat s v r lags) n ms
root_moves c i s step v r words lags ms n ref kept none k st a hv x = record {
  numbered = (
    x.section ∙ (st.numbered i m a.there).0,
    ap (λ vs. length vs) x.variables ∙ length-set m.heap.variables v ref ∙ (st.numbered i m a.there).1,
    x.fields ∙ (st.numbered i m a.there).2,
    omega (arith, x.value, (st.numbered i m a.there).3),
    x.fit (st.numbered i m a.there).4 (st.numbered i m a.there).3,
  );
  more = x.more;
  identities_kept = λ y u. refl;
  now_roots = set (the-roots c) (i * 32 + v) r;
  now = kept;
  other_roots = λ j u d hu. get_or-set_other (the-roots c) (i * 32 + v) (j * 32 + u) r 0 (λ e. d (omega (arith, e, hu, hv)));
  slots_nil = λ j. get_or-set_other (the-roots c) (i * 32 + v) (c.shape.sections * 32 + j) r 0 (λ e. omega (arith, e, hv, a.inside, st.sections)) ∙ st.slots_nil j;
  own_roots =
      λ u hu.
      subst (λ (vs : List Ref). WordAgrees w.identities q i (slice_index (set (the-roots c) (i * 32 + v) r) (i * 32 + u)) (slice_index_or vs u refs.Nil)) (sym x.variables)
      (own_root w.identities q i v r (the-roots c) m.heap.variables ref (st.numbered i m a.there).1 inside hv x.agrees
      (λ y h. agrees-on w.identities w.identities (object_count ms) q i _ _ (λ some. refl) more (st.roots_agree i m a.there y h)) u hu);
  cells =
      λ y h u.
      let before = had-meaning c i s step ms y k st (none y) h u in
      let stays : Stays c.shape w.identities w.identities w.values w.values w.fields w.fields (object_count ms) q y = record { identity = refl; value = refl; each_field = λ j l. refl; targets = λ j l some. refl; more = more } in
      cell-on c.shape w.identities w.identities w.values w.values w.fields w.fields ms i m n y a.there stays (λ e o. x.held (number_of_cell w.identities y) (slice_get_within m.heap.objects (number_of_cell w.identities y) o.object o.there)) (λ e o. x.next y o) before.1;
  other_making = λ j o d g live y part e. refl;
  own_seat =
      λ live.
      record {
        got = inl (refl, x.got);
        made = x.made;
        making = λ y part e l. mine.making y part e l ∙ sym x.value;
        last = mine.last;
      };
}
  where
    w : Words
    w = words_of c.shape c.words

    m : Meaning
    m = meaning_of ms i

    q : ℕ → ℕ
    q = object_count (set ms i n)

    more : (j : ℕ) → object_count ms j ≤ q j
    more = counts-grow ms i m n a.there x.more

    mine : SeatStands c.shape w.identities w.values (object_count ms) i s m
    mine = st.seats_agree i s m k.got a.there k.live

    inside : i * 32 + v < length (the-roots c)
    inside = omega (arith, roots-length c k.core, now-length w.roots c.seats, a.inside, hv)

-- the variable gets a reference that agrees already
assigns_known : (c : Core) (i : ℕ) (s : SeatState) (step : Step) (v r : ℕ) (ms : List Meaning) (ref : Ref) → Taken c i s step → StandsFor c ms → (a : Mutates c i s ms) → WordAgrees (words_of c.shape c.words).identities (object_count ms) i r ref
    → Assigns c i s v r (meaning_of ms i) (with_got refs.Nil (record (meaning_of ms i) { heap = assigned (meaning_of ms i).heap v ref })) ms ref
assigns_known c i s step v r ms ref k st a agrees =
    let w : Words = words_of c.shape c.words in
    let m : Meaning = meaning_of ms i in
    let n : Meaning = with_got refs.Nil (record m { heap = assigned m.heap v ref }) in
    let more : (j : ℕ) → object_count ms j ≤ object_count (set ms i n) j = counts-grow ms i m n a.there (omega arith) in
    record {
      variables = refl;
      section = refl;
      fields = refl;
      value = refl;
      fit = λ f small. f;
      got = refl;
      more = omega arith;
      agrees = agrees-on w.identities w.identities (object_count ms) (object_count (set ms i n)) i r ref (λ some. refl) more agrees;
      made = (st.seats_agree i s m k.got a.there k.live).made;
      held = λ y h. refl;
      next =
          λ y o.
          inr (next-on c.shape w.identities w.identities w.values w.values w.fields w.fields (object_count ms) (object_count (set ms i n)) m n y (record { identity = refl; value = refl; each_field = λ j l. refl; targets = λ j l some. refl; more = more }) refl refl o);
    }

pub last-is : (o : Option ℕ) (x : ℕ) → is_the o x ≡ true → o ≡ Some x
last-is None x e = absurd (true≢false (sym e))
last-is (Some y) x e = ap (λ z. Some z) (eqb-true y x e)

-- an object that was added, and those before it
pub get-front : {X : Type 0} (xs : List X) (y : X) (k : ℕ) → k < length xs → slice_get (xs ++ y ∷ []) k ≡ slice_get xs k
get-front [] y k h = absurd (omega (arith, h))
get-front (x ∷ xs) y zero h = refl
get-front (x ∷ xs) y (suc k) h = get-front xs y k (omega (arith, h))

pub get-added : {X : Type 0} (xs : List X) (y : X) → slice_get (xs ++ y ∷ []) (length xs) ≡ Some y
get-added [] y = refl
get-added (x ∷ xs) y = get-added xs y

-- values that fit, and one more
fit-added : (xs : List Object) (y : Object) → ((k : ℕ) (x : Object) → slice_get xs k ≡ Some x → x.value < value_bound) → y.value < value_bound → (k : ℕ) (x : Object) → slice_get (xs ++ y ∷ []) k ≡ Some x → x.value < value_bound
fit-added [] y f small zero x e = subst (λ (z : Object). z.value < value_bound) (same_Some y x e) small
fit-added [] y f small (suc k) x e = absurd (cc)
fit-added (z ∷ xs) y f small zero x e = f 0 x e
fit-added (z ∷ xs) y f small (suc k) x e = fit-added xs y (λ j w h. f (suc j) w h) small k x e

nils : (n j : ℕ) → get_or (replicate n refs.Nil) j refs.Nil ≡ refs.Nil
nils zero j = refl
nils (suc n) zero = refl
nils (suc n) (suc j) = nils n j

-- the variable gets the object for which the cell was made
assigns_new : (c : Core) (i : ℕ) (s : SeatState) (step : Step) (v r : ℕ) (ms : List Meaning) → Taken c i s step → StandsFor c ms → (a : Mutates c i s ms) → names_last s.cache r ≡ true → length (meaning_of ms i).heap.objects + 1 ≡ s.made
    → Assigns c i s v r (meaning_of ms i) (with_got refs.Nil (record (meaning_of ms i) { heap = with_new (meaning_of ms i).heap v (meaning_of ms i).value })) ms (refs.Own (length (meaning_of ms i).heap.objects))
assigns_new c i s step v r ms k st a last room = record {
  variables = refl;
  section = refl;
  fields = refl;
  value = refl;
  fit = fit-added m.heap.objects (new_object m.value);
  got = refl;
  more = omega (arith, longer);
  agrees = inr (some, (section, number), omega (arith, number, count, longer));
  made = inl (longer ∙ room);
  held = λ y h. get-front m.heap.objects (new_object m.value) y h;
  next =
      λ y o.
      inl
      (record {
        object = new_object m.value;
        there = ap (λ j. slice_get n.heap.objects j) o.number ∙ get-added m.heap.objects (new_object m.value);
        room = refl;
        rest = λ j l. nils 16 j;
        value = o.value;
        each_field = λ j l. inl (o.nil j l, get_or-replicate 16 j refs.Nil refs.Nil (omega (arith, l, k.core.formed.shaped.fields)));
      });
}
  where
    w : Words
    w = words_of c.shape c.words

    m : Meaning
    m = meaning_of ms i

    n : Meaning
    n = with_got refs.Nil (record m { heap = with_new m.heap v m.value })

    longer : length n.heap.objects ≡ length m.heap.objects + 1
    longer = length-append m.heap.objects (new_object m.value ∷ [])

    parts : (not (eqb r 0) ≡ true) × (is_the (last_made s.cache) (r - 1) ≡ true)
    parts = and_parts (not (eqb r 0)) (is_the (last_made s.cache) (r - 1)) last

    not_nil : r ≡ 0 → ⊥
    not_nil = eqb-false r 0 (not-true (eqb r 0) parts.0)

    some : 0 < r
    some = omega (arith, not_nil)

    mine : SeatStands c.shape w.identities w.values (object_count ms) i s m
    mine = st.seats_agree i s m k.got a.there k.live

    identity : (slice_index w.identities (r - 1) + 1 ≡ i * section_span + s.made) × (0 < s.made)
    identity = subst (λ (o : Option ℕ). IfSome o (λ x. (slice_index w.identities x + 1 ≡ i * section_span + s.made) × (0 < s.made))) (last-is (last_made s.cache) (r - 1) parts.1) mine.last

    few : s.made < section_span
    few = omega (arith, (seat-formed c i s step k).made, k.core.formed.shaped.objects)

    section : section_of_cell w.identities (r - 1) ≡ i
    section = omega (arith, identity.0, identity.1, few)

    number : number_of_cell w.identities (r - 1) ≡ length m.heap.objects
    number = omega (arith, identity.0, identity.1, few, room)

    count : object_count (set ms i n) (section_of_cell w.identities (r - 1)) ≡ length n.heap.objects
    count = ap (λ j. object_count (set ms i n) j) section ∙ ap objects_in (get-set_same ms i m n a.there)

-- which reference the variable gets
abbrev AssignsSome : Core → ℕ → SeatState → ℕ → ℕ → List Meaning → Heap → Type 0
AssignsSome c i s v r ms heap = (ref : Ref) × Assigns c i s v r (meaning_of ms i) (with_got refs.Nil (record (meaning_of ms i) { heap = heap })) ms ref

-- the register has the reference
from_register : (c : Core) (i : ℕ) (s : SeatState) (step : Step) (v r : ℕ) (ms : List Meaning) (u : ℕ) (ref : Ref) → Taken c i s step → StandsFor c ms → (a : Mutates c i s ms) → u ≡ v → r ≡ s.got → (meaning_of ms i).got ≡ ref
    → AssignsSome c i s v r ms (assigned (meaning_of ms i).heap u ref)
from_register c i s step v r ms u ref k st a e word is =
    let w : Words = words_of c.shape c.words in
    let mine : SeatStands c.shape w.identities w.values (object_count ms) i s (meaning_of ms i) = st.seats_agree i s (meaning_of ms i) k.got a.there k.live in
    let agrees : WordAgrees w.identities (object_count ms) i r ref = subst (λ (y : ℕ). WordAgrees w.identities (object_count ms) i y ref) (sym word) (subst (λ (z : Ref). WordAgrees w.identities (object_count ms) i s.got z) is mine.got) in
    subst (λ (z : ℕ). AssignsSome c i s v r ms (assigned (meaning_of ms i).heap z ref)) (sym e) (ref, assigns_known c i s step v r ms ref k st a agrees)

assigns : (c : Core) (i : ℕ) (s : SeatState) (step : Step) (v r : ℕ) (op : Op) (ms : List Meaning) → Taken c i s step → StandsFor c ms → (a : Mutates c i s ms) → IsAssignment s (meaning_of ms i) (catalogue_seen ms i) v r op
    → AssignsSome c i s v r ms (heap_after (meaning_of ms i).heap (catalogue_seen ms i) op)
assigns c i s step v r (ops.New u n) ms k st a (e, value, last, room) =
    subst (λ (z : ℕ). AssignsSome c i s v r ms (with_new (meaning_of ms i).heap z n)) (sym e)
    (subst (λ (z : ℕ). AssignsSome c i s v r ms (with_new (meaning_of ms i).heap v z)) (sym value) (refs.Own (length (meaning_of ms i).heap.objects), assigns_new c i s step v r ms k st a last room))
assigns c i s step v r (ops.Nil u) ms k st a (e, nil) =
    subst (λ (z : ℕ). AssignsSome c i s v r ms (assigned (meaning_of ms i).heap z refs.Nil)) (sym e) (refs.Nil, assigns_known c i s step v r ms refs.Nil k st a (inl (nil, refl)))
assigns c i s step v r (ops.Let u x) ms k st a (e, h, word) =
    let ref : Ref = variable (meaning_of ms i).heap x in
    subst (λ (z : ℕ). AssignsSome c i s v r ms (assigned (meaning_of ms i).heap z ref)) (sym e)
    (ref, assigns_known c i s step v r ms ref k st a (subst (λ (y : ℕ). WordAgrees (words_of c.shape c.words).identities (object_count ms) i y ref) (sym word) (env-agrees c i s step ms x k st a h)))
assigns c i s step v r (ops.Get u x j) ms k st a (e, word, is, x_below, j_below) = from_register c i s step v r ms u (followed (meaning_of ms i).heap (catalogue_seen ms i) (variable (meaning_of ms i).heap x) j) k st a e word is
assigns c i s step v r (ops.Cat u x) ms k st a (e, word, is, x_below) = from_register c i s step v r ms u (lent_variable (catalogue_seen ms i) x) k st a e word is
assigns c i s step v r (ops.Set u x y) ms k st a z = absurd z
assigns c i s step v r (ops.Put u x) ms k st a y = absurd y
assigns c i s step v r (ops.Say u) ms k st a z = absurd z
assigns c i s step v r (ops.Sum u x y) ms k st a z = absurd z
assigns c i s step v r ops.Collect ms k st a z = absurd z

-- 19: a root is stored
pub store-root : (c : Core) (i : ℕ) (s : SeatState) (v r : ℕ) (op : Op) (ms : List Meaning) → Taken c i s (StoreRoot v r) → StandsFor c ms → AsksIn s ms (StoreRoot v r) op
    → StandsIn c.shape (words_left c s (StoreRoot v r)) (seats_left c i s (StoreRoot v r)) (changed ms (own_section s) (λ m. with_got refs.Nil (stepped (catalogue_seen ms (own_section s)) op m)))
store-root c i s v r op ms k st asks =
    let step : Step = StoreRoot v r in
    let b = and_parts (nat_lt v 32) (may_mutate s) k.ok.0 in
    let a : Mutates c i s ms = mutates c i s step ms k st b.1 in
    let mine : IsAssignment s (meaning_of ms i) (catalogue_seen ms i) v r op = subst (λ (o : ℕ). IsAssignment s (meaning_of ms o) (catalogue_seen ms o) v r op) a.own asks.1 in
    let x = assigns c i s step v r op ms k st a mine in
    let n : Meaning = with_got refs.Nil (stepped (catalogue_seen ms i) op (meaning_of ms i)) in
    subst (λ (o : ℕ). StandsIn c.shape (words_left c s step) (seats_left c i s step) (changed ms o (λ m. with_got refs.Nil (stepped (catalogue_seen ms o) op m)))) (sym a.own)
    (moved c i s step (words_left c s step) (seat_after c.shape s step (found c s step)) n ms k st a
    (root_moves c i s step v r (words_left c s step).roots s.lags ms n x.0 (now-stores c i s v r k) (λ y e. e) k st a (ltb-true v 32 b.0) x.1))

-- 54: a variable is held
pub hold-root : (c : Core) (i : ℕ) (s : SeatState) (v r : ℕ) (op : Op) (ms : List Meaning) → Taken c i s (HoldRoot v r) → StandsFor c ms → AsksIn s ms (HoldRoot v r) op
    → StandsIn c.shape (words_left c s (HoldRoot v r)) (seats_left c i s (HoldRoot v r)) (changed ms (own_section s) (λ m. with_got refs.Nil (stepped (catalogue_seen ms (own_section s)) op m)))
hold-root c i s v r op ms k st asks =
    let step : Step = HoldRoot v r in
    let b = and_parts (nat_lt v 32) (may_mutate s) k.ok.0 in
    let a : Mutates c i s ms = mutates c i s step ms k st b.1 in
    let mine : IsAssignment s (meaning_of ms i) (catalogue_seen ms i) v r op = subst (λ (o : ℕ). IsAssignment s (meaning_of ms o) (catalogue_seen ms o) v r op) a.own asks.1 in
    let x = assigns c i s step v r op ms k st a mine in
    let n : Meaning = with_got refs.Nil (stepped (catalogue_seen ms i) op (meaning_of ms i)) in
    subst (λ (o : ℕ). StandsIn c.shape (words_left c s step) (seats_left c i s step) (changed ms o (λ m. with_got refs.Nil (stepped (catalogue_seen ms o) op m)))) (sym a.own)
    (moved c i s step (words_left c s step) (seat_after c.shape s step (found c s step)) n ms k st a
    (root_moves c i s step v r (words_left c s step).roots (with_bit s.lags v) ms n x.0 (now-holds c i s v r k) (λ y e. e) k st a (ltb-true v 32 b.0) x.1))
