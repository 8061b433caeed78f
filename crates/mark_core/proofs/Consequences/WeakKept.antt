-- What is known of an object by its identity stays: no identity is given twice, and no object moves.
use Rattle.std.proofs.Common.{ℕ, ◌≡◌, ◌+◌, ◌*◌, ◌/◌, ◌%◌, ◌<◌, ◌≤◌, List, set, get_or, length, arith, refl, sym, ap, ◌∙◌, subst, Bool, true, false, ◌&&◌, eqb, cond, Option, Some, None, ⊎_elim, ◌⊎◌, [], ◌∷◌, ◌++◌}
use Rattle.std.specs.Prelude.{IsTrue, IsFalse, IfSome, slice_get, slice_index, unwrap_or, is_some, is_none, nat_lt, nat_le, if◌then◌else◌}
use Rattle.std.specs.List.{All, list_any}
use Rattle.std.proofs.lemmas.Bool.{and_parts, or_cases, or_right, true≢false, false≢true, ltb-true, le-ltb, ne_eqb, eqb-true, eq-eqb}
use Rattle.std.proofs.lemmas.List.{length-set, length-append, get_or-set_same}
use Rattle.std.proofs.lemmas.List.Elements.{All-set, All-head, All-tail}
use Rattle.mark_core.specs.Layout.{Words, words_of, put_word}
use Rattle.mark_core.specs.Bits.{cell_bit}
use Rattle.mark_core.specs.Seats.{is_the, free_in, used_in}
use Rattle.mark_core.specs.Views.{Maker, makers, maker_of}
use Rattle.mark_core.specs.Cells.{in_use, used_by}
use Rattle.mark_core.specs.Rules.HeapRules.{CachesUnpublished}
use Rattle.mark_core.specs.Steps.MutatorSteps.{fits_part, part_at}
use Rattle.mark_core.specs.Effects.{seat_after, written}
use Rattle.mark_core.specs.Start.{start_seat, spent_seat}
use Rattle.mark_core.specs.Steps.{Core, failing_part, after_event, run_of}
use Rattle.mark_core.specs.Laws.{IsCore, NumbersFit, AllNumbersFit}
use Rattle.mark_core.specs.Numbers.{section_span}
use Rattle.mark_core.specs.Weak.{HasGiven, IsOnly, IsAt, IsWeak, IsGone, RunsKeep, WeakStays}
use Rattle.mark_core.proofs.Known.{Acted, found, words_left, seats_left}
use Rattle.mark_core.proofs.Blocks.BlocksStopped.{Taken, mine as own-fact, words-read, kept-after}
use Rattle.mark_core.proofs.Caches.CachesAt.{caching, maker-at}
use Rattle.mark_core.proofs.Caches.CachesSeat.{CacheFacts, next-free}
use Rattle.mark_core.proofs.Caches.CachesClaims.{free-unused, user}
use Rattle.mark_core.proofs.Caches.CachesStores.{other-word}
use Rattle.mark_core.proofs.Caches.CachesKept.{next_section}
use Rattle.mark_core.proofs.Formed.FormedLearns.{one-of}
use Rattle.mark_core.proofs.Writing.Ranges.{either}
use Rattle.mark_core.proofs.Writing.RegionWrites.{identities-kept}
use Rattle.mark_core.proofs.Used.UsedKept.{frees, alloc-on, used-back, makers_back}
use Rattle.mark_core.proofs.Used.UsedSeats.{IsMadeBy}
use Rattle.mark_core.proofs.References.ReferencesRoots.{Used, UsedAfter}
use Rattle.mark_core.proofs.Doing.{all-push}
use Rattle.mark_core.proofs.CoreKept.{core_kept}
use Rattle.mark_core.specs.declared.kinds.Shape.{Shape}
use Rattle.mark_core.specs.declared.kinds.Event.{Event}
use Rattle.mark_core.specs.declared.kinds.Step.{Step}
use Rattle.mark_core.specs.declared.kinds.Step.TheVariants.{Reserve, ReadIdent, StoreNew, StoreAlloc, Split, Join}
use Rattle.mark_core.specs.declared.seat.SeatState.{SeatState}
use Rattle.mark_core.specs.declared.seat.CacheState.{CacheState}

-- A seat's numbers only grow, and its section stays.
same_or_more : (b : Bool) (n : ℕ) → n ≤ cond b n (n + 1)
same_or_more true n = omega arith
same_or_more false n = omega arith

no_less : (n : ℕ) → n ≤ n
no_less n = omega arith

made_grows : (sh : Shape) (s : SeatState) (step : Step) (old : ℕ) → s.made ≤ (seat_after sh s step old).made
made_grows sh s (StoreNew c part word) old = same_or_more (nat_le part sh.fields) s.made
made_grows sh s step old = no_less s.made

same_section : (sh : Shape) (s : SeatState) (step : Step) (old : ℕ) → (seat_after sh s step old).section ≡ s.section
same_section sh s Reserve old = refl
same_section sh s step old = refl

given_after : (sh : Shape) (s : SeatState) (step : Step) (old id : ℕ) → s.spent ≡ false → HasGiven id s → HasGiven id (seat_after sh s step old)
given_after sh s step old id live h e z =
    let a : id % section_span < s.made = h live (ap (λ (o : Option ℕ). is_the o (id / section_span)) (sym (same_section sh s step old)) ∙ z) in
    omega (arith, a, made_grows sh s step old)

-- a new seat has a section that had no seat
given_new : (sh : Shape) (n id : ℕ) → (id / section_span < sh.sections → id / section_span < n) → HasGiven id (start_seat sh n)
given_new sh n id seated live z = let a = next_section sh n (id / section_span) z in absurd (omega (arith, a.0, seated a.1))

given_left : (c : Core) (i : ℕ) (s : SeatState) (step : Step) (id : ℕ) → Taken c i s step → (id / section_span < c.shape.sections → id / section_span < length c.seats) → All (HasGiven id) c.seats → All (HasGiven id) (seats_left c i s step)
given_left c i s Split id k seated a =
    let mine : HasGiven id s = own-fact c i s Split (HasGiven id) k a in
    let ss : List SeatState = set c.seats i s in
    all-push (HasGiven id) ss (start_seat c.shape (length ss)) (All-set (HasGiven id) c.seats i s mine a) (given_new c.shape (length ss) id (λ h. rw length-set (seated h)))
given_left c i s (Join other) id k seated a =
    let mine : HasGiven id s = own-fact c i s (Join other) (HasGiven id) k a in
    All-set (HasGiven id) (set c.seats i s) other (spent_seat c.shape other) (λ live. absurd (true≢false live)) (All-set (HasGiven id) c.seats i s mine a)
given_left c i s step id k seated a =
    All-set (HasGiven id) c.seats i (seat_after c.shape s step (found c s step)) (given_after c.shape s step (found c s step) id k.live (own-fact c i s step (HasGiven id) k a)) a

pub seated-left : (c : Core) (i : ℕ) (s : SeatState) (step : Step) → length c.seats ≤ length (seats_left c i s step)
seated-left c i s Split = rw (length-append, length-set) (omega arith)
seated-left c i s (Join other) = rw (length-set, length-set) (no_less (length c.seats))
seated-left c i s step = rw length-set (no_less (length c.seats))

-- The identity of a cell in use stays.
stored_elsewhere : (c : Core) (i : ℕ) (s : SeatState) (x part word y : ℕ) → Taken c i s (StoreNew x part word) → Used c y ≡ true → slice_index (words_left c s (StoreNew x part word)).identities y ≡ slice_index (words_of c.shape c.words).identities y
stored_elsewhere c i s x part word y k u =
    let w : Words = words_of c.shape c.words in
    let h : x < c.shape.cells = ltb-true x c.shape.cells (and_parts _ _ (and_parts _ _ k.ok.0).0).0 in
    let facts : CacheFacts s.cache = one-of (λ (m : Maker). CacheFacts m.cache) (makers c.seats) i (maker_of s) (maker-at c.seats i s k.got) (caching c k.core).facts in
    let free : free_in s.cache x ≡ true = next-free s.cache x part facts.made_from_free k.ok.1.0 in
    let unused : Used c x ≡ false =
    free-unused c.shape w.owners w.allocs (makers c.seats) i x (maker_of s) k.core.formed.shaped k.core.sound.caches.owned k.core.sound.caches.unpublished facts (maker-at c.seats i s k.got) h free in
    let P : ℕ × ℕ → Type 0 = λ at. slice_index (put_word at word w).identities y ≡ slice_index w.identities y in
    either P (nat_lt part c.shape.fields) _ _ (λ e. refl) (λ e. either P (eqb part c.shape.fields) _ _ (λ f. refl) (λ f. other-word w.identities x word y (Used c) unused u))

identity-stays : (c : Core) (i : ℕ) (s : SeatState) (step : Step) (y : ℕ) → Taken c i s step → Used c y ≡ true → slice_index (words_left c s step).identities y ≡ slice_index (words_of c.shape c.words).identities y
identity-stays c i s (ReadIdent x) y k u = ap (λ (w : Words). slice_index w.identities y) (words-read c i s (ReadIdent x) k refl)
identity-stays c i s (StoreNew x part word) y k u = stored_elsewhere c i s x part word y k u
identity-stays c i s step y k u = ap (λ (ids : List ℕ). slice_index ids y) (identities-kept c.shape s step (written c.shape s step (found c s step)) (words_of c.shape c.words) refl)

-- A cell that is made has an identity that wasn't given.
some_is : (o : Option ℕ) → is_some o ≡ true → o ≡ Some (unwrap_or o 0)
some_is None e = absurd (false≢true e)
some_is (Some x) e = refl

section_of : (z made : ℕ) → made < section_span → (z * section_span + made) / section_span ≡ z
section_of z made h = omega (arith, h)

number_of : (z made : ℕ) → made < section_span → (z * section_span + made) % section_span ≡ made
number_of z made h = omega (arith, h)

given_not : (s : SeatState) (objects word id : ℕ) → s.spent ≡ false → HasGiven id s → objects ≤ 4294967295 → (is_some s.section && nat_lt s.made objects && eqb word (unwrap_or s.section 0 * section_span + s.made)) ≡ true → word ≡ id → ⊥
given_not s objects word id live given few e is =
    let a = and_parts (is_some s.section && nat_lt s.made objects) (eqb word (unwrap_or s.section 0 * section_span + s.made)) e in
    let b = and_parts (is_some s.section) (nat_lt s.made objects) a.0 in
    let z : ℕ = unwrap_or s.section 0 in
    let room : s.made < section_span = omega (arith, ltb-true s.made objects b.1, few) in
    let same : id ≡ z * section_span + s.made = sym is ∙ eqb-true word (z * section_span + s.made) a.1 in
    let section : id / section_span ≡ z = ap (λ n. n / section_span) same ∙ section_of z s.made room in
    let number : id % section_span ≡ s.made = ap (λ n. n % section_span) same ∙ number_of z s.made room in
    let mine : is_the s.section (id / section_span) ≡ true = ap (λ (o : Option ℕ). is_the o (id / section_span)) (some_is s.section b.0) ∙ eq-eqb z (id / section_span) (sym section) in
    omega (arith, given live mine, number)

not_made : (c : Core) (i : ℕ) (s : SeatState) (step : Step) (y id : ℕ) → Taken c i s step → HasGiven id s → IsMadeBy c.shape step y → slice_index (words_left c s step).identities y ≡ id → ⊥
not_made c i s (StoreNew x part word) y id k given m e =
    let w : Words = words_of c.shape c.words in
    let h : x < c.shape.cells = ltb-true x c.shape.cells (and_parts _ _ (and_parts _ _ k.ok.0).0).0 in
    let a : nat_lt part c.shape.fields ≡ false = le-ltb part c.shape.fields (omega (arith, m.1)) in
    let b : eqb part c.shape.fields ≡ false = ne_eqb part c.shape.fields (λ z. omega (arith, m.1, z)) in
    let fits : fits_part c.shape s part word ≡ true = k.ok.1.1.0 in
    let last = rw (a, b) at fits in
    let at : part_at c.shape x part ≡ (9, x) = rw (a, b) refl in
    let is : slice_index (put_word (part_at c.shape x part) word w).identities y ≡ word =
    ap (λ (p : ℕ × ℕ). slice_index (put_word p word w).identities y) at ∙ (ap (λ (j : ℕ). slice_index (set w.identities x word) j) m.0 ∙ get_or-set_same w.identities x word 0 (omega (arith, h, (caching c k.core).ids_long))) in
    given_not s c.shape.objects word id k.live given k.core.formed.shaped.objects.1 last (sym is ∙ e)
not_made c i s step y id k given m e = absurd m

-- what is known of an object stays, if the property of its cell goes over to what it is afterwards
pub only-left : (c : Core) (i : ℕ) (s : SeatState) (step : Step) (id : ℕ) (P Q : ℕ → Type 0) → Taken c i s step → ((y : ℕ) → y < c.shape.cells → UsedAfter c i s step y ≡ true → P y → Q y) → IsOnly c.shape (words_of c.shape c.words) c.seats id P
    → IsOnly c.shape (words_left c s step) (seats_left c i s step) id Q
only-left c i s step id P Q k on a =
    record {
      given = given_left c i s step id k a.seated a.given;
      seated = λ h. omega (arith, a.seated h, seated-left c i s step);
      only =
          λ y h u e.
          ⊎_elim
          (λ (b : Used c y ≡ true). on y h u (a.only y h b (sym (identity-stays c i s step y k b) ∙ e)))
          (λ (m : IsMadeBy c.shape step y). absurd (not_made c i s step y id k (own-fact c i s step (HasGiven id) k a.given) m e))
          (used-back c i s step y k u);
    }

-- a cell that some seat has made and not published isn't published
unpublished_yet : (c : Core) (y : ℕ) → IsCore c → list_any (used_by y) (makers c.seats) ≡ true → y < c.shape.cells → cell_bit (words_of c.shape c.words).allocs y ≡ false
unpublished_yet c y k e h =
    let r = user (makers c.seats) y e in
    let P : Maker → Type 0 = CachesUnpublished c.shape (words_of c.shape c.words).allocs in
    one-of P (makers c.seats) r.0 r.1 r.2 k.sound.caches.unpublished y h (or_right (free_in r.1.cache y) (used_in r.1.cache y) r.3)

-- a cell in use that is published stays published while it is in use
pub published-on : (c : Core) (i : ℕ) (s : SeatState) (step : Step) (y : ℕ) → Taken c i s step → y < c.shape.cells → UsedAfter c i s step y ≡ true → cell_bit (words_of c.shape c.words).allocs y ≡ true → cell_bit (words_left c s step).allocs y ≡ true
published-on c i s StoreAlloc y k h u e =
    let bit : Bool = cell_bit (words_left c s StoreAlloc).allocs y in
    ⊎_elim
    (λ (a : bit ≡ true). a)
    (λ (a : list_any (used_by y) (makers (seats_left c i s StoreAlloc)) ≡ true).
    ⊎_elim
    (λ (b : list_any (used_by y) (makers c.seats) ≡ true). absurd (true≢false (sym e ∙ unpublished_yet c y k.core b h)))
    (λ (m : IsMadeBy c.shape StoreAlloc y). absurd m)
    (makers_back c i s StoreAlloc y k a))
    (or_cases bit (list_any (used_by y) (makers (seats_left c i s StoreAlloc))) u)
published-on c i s step y k h u e = alloc-on c i s step y k refl e

-- Whatever anyone does.
pub places-kept : (c : Core) (e : Event) (id x : ℕ) → IsCore c → failing_part c e ≡ None → IsAt c id x → IsAt (after_event c e) id x
places-kept c e id x k f a =
    kept-after (λ sh w seats. IsOnly sh w seats id (λ y. y ≡ x)) c e k f (λ s acted t. only-left c e.seat s e.step id (λ y. y ≡ x) (λ y. y ≡ x) t (λ y h u p. p) a)

pub weak-kept : (c : Core) (e : Event) (id x : ℕ) → IsCore c → failing_part c e ≡ None → IsWeak c id x → IsWeak (after_event c e) id x
weak-kept c e id x k f a =
    kept-after (λ sh w seats. IsOnly sh w seats id (λ y. (y ≡ x) × IsTrue (cell_bit w.allocs y))) c e k f
    (λ s acted t.
    only-left c e.seat s e.step id (λ y. (y ≡ x) × IsTrue (cell_bit (words_of c.shape c.words).allocs y)) (λ y. (y ≡ x) × IsTrue (cell_bit (words_left c s e.step).allocs y)) t
    (λ y h u p. (p.0, published-on c e.seat s e.step y t h u p.1))
    a)

pub gone-kept : (c : Core) (e : Event) (id : ℕ) → IsCore c → failing_part c e ≡ None → IsGone c id → IsGone (after_event c e) id
gone-kept c e id k f a = kept-after (λ sh w seats. IsOnly sh w seats id (λ y. ⊥)) c e k f (λ s acted t. only-left c e.seat s e.step id (λ y. ⊥) (λ y. ⊥) t (λ y h u p. p) a)

-- what each event that is allowed keeps, a run keeps, by whether its first event is allowed
abbrev EventsKeep : (Core → Type 0) → Type 0
EventsKeep R = (c : Core) (e : Event) → IsCore c → failing_part c e ≡ None → R c → R (after_event c e)

run_by : (R : Core → Type 0) (e : Event) (es : List Event) (c : Core) → EventsKeep R → IsCore c → NumbersFit e.step → R c → ((d : Core) → IsCore d → R d → R (run_of es d)) → (o : Option ℕ) → failing_part c e ≡ o → R (if is_none o then run_of es (after_event c e) else c)
run_by R e es c keep k n r later None f = later (after_event c e) (core_kept c e k n f) (keep c e k f r)
run_by R e es c keep k n r later (Some part) f = r

run_keeps : (R : Core → Type 0) → EventsKeep R → (es : List Event) (c : Core) → IsCore c → AllNumbersFit es → R c → R (run_of es c)
run_keeps R keep [] c k fit r = r
run_keeps R keep (e ∷ es) c k fit r =
    run_by R e es c keep k (All-head (λ (x : Event). NumbersFit x.step) e es fit) r (λ d h q. run_keeps R keep es d h (All-tail (λ (x : Event). NumbersFit x.step) e es fit) q) (failing_part c e) refl

pub weak_stays : WeakStays
weak_stays =
    record {
      places = λ id x c es k fit a. run_keeps (λ d. IsAt d id x) (λ d e h f b. places-kept d e id x h f b) es c k fit a;
      weak = λ id x c es k fit a. run_keeps (λ d. IsWeak d id x) (λ d e h f b. weak-kept d e id x h f b) es c k fit a;
      gone = λ id c es k fit a. run_keeps (λ d. IsGone d id) (λ d e h f b. gone-kept d e id h f b) es c k fit a;
    }
