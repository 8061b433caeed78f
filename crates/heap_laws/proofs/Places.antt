-- Where objects lie: no event moves one, and none frees a cell to which a path leads.
use Rattle.std.proofs.Common.{ℕ, ◌≡◌, ◌+◌, ◌<◌, ◌≤◌, ◌/◌, ◌%◌, zero, suc, List, [], ◌∷◌, take, length, arith, refl, sym, ap, ◌∙◌, subst, Bool, true, false, Some, None, ⊎_elim, ◌⊎◌, inl, inr, ◌≢◌}
use Rattle.std.specs.Prelude.{slice_index}
use Rattle.std.specs.List.{list_any}
use Rattle.std.proofs.lemmas.Bool.{true≢false, cases_Bool, cases_eq, cases_lt, or_cases, or_left, or_right}
use Rattle.std.proofs.lemmas.Option.{slice_get_within, get_or_from_slice_get, same_Some}
use Rattle.plain_heap.specs.Paths.{Name}
use Rattle.mark_core.specs.Bits.{cell_bit}
use Rattle.mark_core.specs.Cells.{in_use, used_by}
use Rattle.mark_core.specs.Closed.{IsReachableIn, is_published}
use Rattle.mark_core.specs.Laws.{IsCore}
use Rattle.mark_core.specs.Layout.{words_of}
use Rattle.mark_core.specs.Numbers.{section_span}
use Rattle.mark_core.specs.Rules.HeapRules.{NamesInUse}
use Rattle.mark_core.specs.Steps.{Core, after_event, failing_part, run_of, start_core}
use Rattle.mark_core.specs.Steps.MutatorSteps.{seat_variable}
use Rattle.mark_core.specs.Views.{makers}
use Rattle.mark_core.specs.Weak.{IsAt, IsGone}
use Rattle.mark_core.specs.declared.kinds.Event.{Event}
use Rattle.mark_core.specs.declared.kinds.Shape.{Shape}
use Rattle.mark_core.specs.declared.seat.SeatState.{SeatState}
use Rattle.mark_core.proofs.Blocks.BlocksStopped.{kept-after}
use Rattle.mark_core.proofs.Known.{words_left, seats_left}
use Rattle.mark_core.proofs.Used.UsedKept.{still-made}
use Rattle.mark_core.proofs.Consequences.Closing.{reachable_stay}
use Rattle.mark_core.proofs.Consequences.WeakFound.{weak_is_made}
use Rattle.mark_core.proofs.Consequences.WeakKept.{gone-kept, places-kept}
use Rattle.gc_table.specs.AgreementLaws.{IsCellFor}
use Rattle.gc_table.specs.RunWorlds.{World, name_at, name_in, referred, start_world, variable_of}
use Rattle.gc_table.specs.Runs.{AreAllowed, core_after}
use Rattle.gc_table.specs.Sharing.{heap_after_events}
use Rattle.gc_table.proofs.Frame.{used-exists, names as word-names}
use Rattle.gc_table.proofs.History.Past.{run-first}
use Rattle.gc_table.proofs.Lending.{Sound, later-sound}
use Rattle.gc_table.proofs.Reached.{along}
use Rattle.gc_table.proofs.Stands.StandsStores.{reachable-used}
use Rattle.heap_laws.specs.Moments.{IsHistory, IsMoment}
use Rattle.heap_laws.specs.Places.{HasObject, IsSeatOf, NoneInUseFreed, ObjectsKeepCells, is_used}
use Rattle.heap_laws.proofs.Moments.{Next, each-allowed, moment-after, next-at}
use Rattle.heap_laws.proofs.Variables.{variables_named}

-- what each event keeps, any number of them keep
abbrev EventsKeep : (Core → Type 0) → Type 0
EventsKeep R = (c : Core) (e : Event) → IsCore c → failing_part c e ≡ None → R c → R (after_event c e)

kept_between : (R : Core → Type 0) → EventsKeep R → (es : List Event) (c : Core) → Sound c es → AreAllowed c es → (k l : ℕ) → k ≤ l → R (run_of (take k es) c) → R (run_of (take l es) c)
kept_between R keep [] c core ok zero zero h r = r
kept_between R keep [] c core ok zero (suc l) h r = r
kept_between R keep [] c core ok (suc k) zero h r = r
kept_between R keep [] c core ok (suc k) (suc l) h r = r
kept_between R keep (e ∷ es) c core ok zero zero h r = r
kept_between R keep (e ∷ es) c core ok zero (suc l) h r =
    subst R (sym (run-first c e (take l es) ok.0))
    (kept_between R keep es (after_event c e) (later-sound c e es ok.0 core) ok.1 zero l (omega arith) (keep c e (core 0) ok.0 r))
kept_between R keep (e ∷ es) c core ok (suc k) zero h r = absurd (omega (arith, h))
kept_between R keep (e ∷ es) c core ok (suc k) (suc l) h r =
    subst R (sym (run-first c e (take l es) ok.0))
    (kept_between R keep es (after_event c e) (later-sound c e es ok.0 core) ok.1 k l (omega (arith, h)) (subst R (run-first c e (take k es) ok.0) r))

kept_on : (R : Core → Type 0) → EventsKeep R → (sh : Shape) (es : List Event) → IsHistory sh es → (k l : ℕ) → k ≤ l → R (core_after sh 1 es k) → R (core_after sh 1 es l)
kept_on R keep sh es h k l b r = kept_between R keep es (start_core sh 1) h.sound (each-allowed sh es h) k l b r

-- the identity in cell x
abbrev identity_at : Core → ℕ → ℕ
identity_at c x = slice_index (words_of c.shape c.words).identities x

-- a name has one identity
one_identity : (id other : ℕ) → name_in other ≡ name_in id → other ≡ id
one_identity id other e =
    let section : other / section_span ≡ id / section_span = ap (λ (n : Name). n.section) e in
    let number : other % section_span ≡ id % section_span = ap (λ (n : Name). n.number) e in
    omega (arith, section, number)

-- an object that is in cell x is there for good, or gone
stays_at : (sh : Shape) (es : List Event) → IsHistory sh es → (k l : ℕ) → k ≤ l → (name : Name) (x : ℕ) → HasObject (core_after sh 1 es k) name x → IsAt (core_after sh 1 es l) (identity_at (core_after sh 1 es k) x) x
stays_at sh es h k l b name x has =
    let id : ℕ = identity_at (core_after sh 1 es k) x in
    kept_on (λ c. IsAt c id x) (λ c e core ok at. places-kept c e id x core ok at) sh es h k l b (weak_is_made.used (core_after sh 1 es k) x (h.sound k) has.0)

one_later : (sh : Shape) (es : List Event) → IsHistory sh es → (k l : ℕ) → k ≤ l → (name : Name) (x y : ℕ) → HasObject (core_after sh 1 es k) name x → HasObject (core_after sh 1 es l) name y → x ≡ y
one_later sh es h k l b name x y has later =
    let c : Core = core_after sh 1 es k in
    let d : Core = core_after sh 1 es l in
    let same : identity_at d y ≡ identity_at c x = one_identity (identity_at c x) (identity_at d y) (later.1 ∙ sym has.1) in
    sym ((stays_at sh es h k l b name x has).only y (used-exists d (h.sound l) y later.0) later.0 same)

one_cell : (sh : Shape) (es : List Event) → IsHistory sh es → (k l : ℕ) (name : Name) (x y : ℕ) → HasObject (core_after sh 1 es k) name x → HasObject (core_after sh 1 es l) name y → x ≡ y
one_cell sh es h k l name x y has other =
    ⊎_elim
    (λ (b : l < k). sym (one_later sh es h l k (omega (arith, b)) name y x other has))
    (λ (b : k ≤ l). one_later sh es h k l b name x y has other)
    (cases_lt l k)

-- what is there again later was there all the time
stays_between : (sh : Shape) (es : List Event) → IsHistory sh es → (k m l : ℕ) (name : Name) (x : ℕ) → k ≤ m → m ≤ l → HasObject (core_after sh 1 es k) name x → HasObject (core_after sh 1 es l) name x → HasObject (core_after sh 1 es m) name x
stays_between sh es h k m l name x a b has later = by_use (cases_Bool (is_used d x)) (cases_eq (identity_at d x) id)
  where
    d : Core
    d = core_after sh 1 es m

    id : ℕ
    id = identity_at (core_after sh 1 es k) x

    at : IsAt d id x
    at = stays_at sh es h k m a name x has

    back : ((y : ℕ) → y < d.shape.cells → is_used d y ≡ true → identity_at d y ≡ id → ⊥) → HasObject d name x
    back none =
        let last : Core = core_after sh 1 es l in
        let gone : IsGone d id = record { given = at.given; seated = at.seated; only = none } in
        let still : IsGone last id = kept_on (λ c. IsGone c id) (λ c e core ok g. gone-kept c e id core ok g) sh es h m l b gone in
        absurd (still.only x (used-exists last (h.sound l) x later.0) later.0 (one_identity id (identity_at last x) (later.1 ∙ sym has.1)))

    by_use : (is_used d x ≡ true) ⊎ (is_used d x ≡ false) → (identity_at d x ≡ id) ⊎ (identity_at d x ≢ id) → HasObject d name x
    by_use (inl u) (inl e) = (u, ap name_in e ∙ has.1)
    by_use (inl u) (inr e) = back (λ y z v f. e (subst (λ (n : ℕ). identity_at d n ≡ id) (at.only y z v f) f))
    by_use (inr u) e = back (λ y z v f. true≢false (sym (subst (λ (n : ℕ). is_used d n ≡ true) (at.only y z v f) v) ∙ u))

-- a variable that refers to an object names its cell
named_cell : (ids : List ℕ) (word : ℕ) (name : Name) → referred ids word ≡ Some name → (x : ℕ) × (word ≡ suc x) × (name_at ids x ≡ name)
named_cell ids zero name e = absurd (cc)
named_cell ids (suc x) name e = (x, refl, same_Some (name_at ids x) name e)

has_variable : (c : Core) (world : World) (i v : ℕ) (s : SeatState) (name : Name) → IsMoment c world → IsSeatOf c i s → v < 32 → variable_of world i v ≡ Some name → (x : ℕ) × (seat_variable s v ≡ suc x) × HasObject c name x
has_variable c world i v s name m seat below e =
    let r = named_cell (words_of c.shape c.words).identities (seat_variable s v) name (variables_named c world m i s seat.there seat.live seat.inside v below ∙ e) in
    (r.0, r.1, (used_of r.0 r.1, r.2))
  where
    used_of : (x : ℕ) → seat_variable s v ≡ suc x → is_used c x ≡ true
    used_of x w =
        let names : NamesInUse (words_of c.shape c.words).allocs (makers c.seats) s =
        subst (NamesInUse (words_of c.shape c.words).allocs (makers c.seats)) (get_or_from_slice_get c.seats i s s seat.there) (m.core.sound.references.seats_in_use i s (slice_get_within c.seats i s seat.there)) in
        word-names (is_used c) (seat_variable s v) x w (names.0 v 0 (omega (arith, below, (m.core.formed.seats i s seat.there).env)))

pub objects_keep_cells : ObjectsKeepCells
objects_keep_cells =
    record {
      reached =
          λ sh es h k l name r q.
          let m = moment-after sh es h k in
          let n = moment-after sh es h l in
          let a : (x : ℕ) × IsCellFor (core_after sh 1 es k) (heap_after_events sh es k) name x = along (core_after sh 1 es k) (heap_after_events sh es k) name r.0 m.core m.agrees r.1 in
          let b : (x : ℕ) × IsCellFor (core_after sh 1 es l) (heap_after_events sh es l) name x = along (core_after sh 1 es l) (heap_after_events sh es l) name q.0 n.core n.agrees q.1 in
          let same : b.0 ≡ a.0 = one_cell sh es h l k name b.0 a.0 (b.1.0, b.1.2) (a.1.0, a.1.2) in
          (a.0, a.1, subst (IsCellFor (core_after sh 1 es l) (heap_after_events sh es l) name) same b.1);
      one = one_cell;
      stays = stays_between;
      alone = λ sh es h k m l name other x a b has later there. sym there.1 ∙ (stays_between sh es h k m l name x a b has later).1;
      variables =
          λ sh es h k l i j v u name s t p q hv hu e f.
          let a = has_variable (core_after sh 1 es k) (heap_after_events sh es k) i v s name (moment-after sh es h k) p hv e in
          let b = has_variable (core_after sh 1 es l) (heap_after_events sh es l) j u t name (moment-after sh es h l) q hu f in
          a.1 ∙ (ap (λ (x : ℕ). suc x) (one_cell sh es h k l name a.0 b.0 a.2 b.2) ∙ sym b.1);
    }

-- a cell in use to which a path leads stays in use
used_on : (c : Core) (e : Event) (x : ℕ) → IsCore c → failing_part c e ≡ None → IsReachableIn c x → is_used c x ≡ true → is_used (after_event c e) x ≡ true
used_on c e x core ok reach u =
    ⊎_elim
    (λ (a : is_published c x ≡ true). or_left (is_published (after_event c e) x) (list_any (used_by x) (makers (after_event c e).seats)) (reachable_stay c e core ok x reach a))
    (λ (a : list_any (used_by x) (makers c.seats) ≡ true).
    kept-after (λ sh w seats. in_use w.allocs (makers seats) x ≡ true) c e core ok
    (λ s acted t.
    let bit : Bool = cell_bit (words_left c s e.step).allocs x in
    let some : Bool = list_any (used_by x) (makers (seats_left c e.seat s e.step)) in
    ⊎_elim (λ (b : bit ≡ true). or_left bit some b) (λ (b : some ≡ true). or_right bit some b) (still-made c e.seat s e.step x t a)))
    (or_cases (is_published c x) (list_any (used_by x) (makers c.seats)) u)

used_next : (sh : Shape) (es : List Event) → IsHistory sh es → (k x : ℕ) → k < length es → IsReachableIn (core_after sh 1 es k) x → is_used (core_after sh 1 es (k + 1)) x ≡ true
used_next sh es h k x b reach =
    let n : Next es (start_core sh 1) (start_world sh) k = next-at es (start_core sh 1) (start_world sh) (each-allowed sh es h) k b in
    let c : Core = core_after sh 1 es k in
    let plus : suc k ≡ k + 1 = omega arith in
    subst (λ (m : ℕ). is_used (core_after sh 1 es m) x ≡ true) plus
    (subst (λ (d : Core). is_used d x ≡ true) (sym n.core) (used_on c n.event x (h.sound k) n.allowed reach (reachable-used c x (h.sound k) reach)))

pub none_in_use_freed : NoneInUseFreed
none_in_use_freed =
    record {
      event = λ c e x core ok reach. let u = reachable-used c x core reach in (u, used_on c e x core ok reach u);
      history = λ sh es h k x b reach. (reachable-used (core_after sh 1 es k) x (h.sound k) reach, used_next sh es h k x b reach);
    }
