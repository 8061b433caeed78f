-- The rule of what words stand for, put together after one seat has acted.
use Rattle.mark_core.proofs.References.ReferencesNow.{the-roots}
use Rattle.mark_core.specs.Variables.{roots_now}
use Rattle.std.proofs.Common.{ℕ, ◌≡◌, ◌≢◌, ◌+◌, ◌-◌, ◌*◌, ◌<◌, ◌≤◌, zero, suc, List, [], ◌∷◌, set, length, arith, refl, sym, ap, ◌∙◌, subst, true, Some, ◌⊎◌, inl, inr, ⊎_elim}
use Rattle.std.specs.Prelude.{slice_get, slice_index, IsFalse, slice_index_or, IsTrue}
use Rattle.std.proofs.lemmas.Bool.{cases_eq}
use Rattle.std.proofs.lemmas.List.{length-set}
use Rattle.mark_core.specs.Seats.{makes, last_made}
use Rattle.mark_core.specs.Rules.HeapRules.{section_of_cell, number_of_cell}
use Rattle.mark_core.proofs.Formed.FormedLearns.{set-cases, set-here, set-there}
use Rattle.mark_core.specs.declared.kinds.Shape.{Shape}
use Rattle.mark_core.specs.declared.seat.SeatState.{SeatState}
use Rattle.plain_heap.specs.PlainHeap.{variable}
use Rattle.gc_table.specs.StandsFor.{object_count, objects_in, WordAgrees, IsCellOf, IsSection, SeatStands, Stands, HoldsObject, IsForNextObject, StandsFor}
use Rattle.gc_table.specs.declared.view.Meaning.{Meaning}
use Rattle.gc_table.proofs.Stands.StandsAgree.{agrees-on, seat-on, Stays, holds-on, next-on, section-same, lent-agrees}
use Rattle.std.proofs.lemmas.Option.{same_Some}
use Rattle.mark_core.specs.Cells.{field}
use Rattle.plain_heap.specs.declared.object.Ref.{Ref}
use Rattle.plain_heap.specs.declared.object.Ref.TheVariants as refs
use Rattle.plain_heap.specs.PlainStep.{followed, lent, field_of}
use Rattle.gc_table.specs.PlainSteps.{heap_in, catalogue_seen, meaning_of}
use Rattle.mark_core.specs.Layout.{Words, words_of}
use Rattle.mark_core.specs.Steps.{Core}
use Rattle.mark_core.proofs.Blocks.BlocksStopped.{Taken, within}
use Rattle.mark_core.proofs.References.ReferencesRoots.{Used, UsedAfter}
use Rattle.mark_core.proofs.Used.UsedKept.{used-back}
use Rattle.mark_core.proofs.Used.UsedSeats.{IsMadeBy}
use Rattle.mark_core.specs.declared.kinds.Step.{Step}
use Rattle.mark_core.specs.declared.kinds.Step.TheVariants.{ReadCount}
use Rattle.gc_table.proofs.Stands.StandsSeat.{Mutates, looks, got-used, last-used, root-used}

-- an element that was written, and one of another place
pub get-set_same : {X : Type 0} (xs : List X) (i : ℕ) (x y : X) → slice_get xs i ≡ Some x → slice_get (set xs i y) i ≡ Some y
get-set_same [] zero x y e = cc
get-set_same [] (suc i) x y e = cc
get-set_same (z ∷ xs) zero x y e = refl
get-set_same (z ∷ xs) (suc i) x y e = get-set_same xs i x y e

pub get-set_other : {X : Type 0} (xs : List X) (i k : ℕ) (y : X) → k ≢ i → slice_get (set xs i y) k ≡ slice_get xs k
get-set_other [] i k y d = refl
get-set_other (x ∷ xs) zero zero y d = absurd (d refl)
get-set_other (x ∷ xs) zero (suc k) y d = refl
get-set_other (x ∷ xs) (suc i) zero y d = refl
get-set_other (x ∷ xs) (suc i) (suc k) y d = get-set_other xs i k y (λ e. d (ap (λ (n : ℕ). suc n) e))

-- no section loses an object
pub counts-grow : (ms : List Meaning) (i : ℕ) (m n : Meaning) → slice_get ms i ≡ Some m → length m.heap.objects ≤ length n.heap.objects → (k : ℕ) → object_count ms k ≤ object_count (set ms i n) k
counts-grow ms i m n g more k =
    ⊎_elim
    (λ (e : k ≡ i).
    let before : object_count ms k ≡ length m.heap.objects = ap (λ j. object_count ms j) e ∙ ap objects_in g in
    let after : object_count (set ms i n) k ≡ length n.heap.objects = ap (λ j. object_count (set ms i n) j) e ∙ ap objects_in (get-set_same ms i m n g) in
    omega (arith, before, after, more))
    (λ (d : k ≢ i). let same : object_count (set ms i n) k ≡ object_count ms k = ap objects_in (get-set_other ms i k n d) in omega (arith, same))
    (cases_eq k i)

-- a step that leaves roots, identities, values and fields of cells in use, and all meanings
pub stands-same : (sh : Shape) (roots ids values fields : List ℕ) (used used' : ℕ → Type 0) (seats seats' : List SeatState) (ms : List Meaning) → ((c : ℕ) → c < sh.cells → used' c → used c)
    → ((w : ℕ) (s : SeatState) (m : Meaning) → slice_get seats' w ≡ Some s → slice_get ms w ≡ Some m → IsFalse s.spent → SeatStands sh ids values (object_count ms) w s m)
    → length seats ≤ length seats' → Stands sh roots ids values fields used seats ms → Stands sh roots ids values fields used' seats' ms
stands-same sh roots ids values fields used used' seats seats' ms fewer each longer k =
    record {
      sections = k.sections;
      numbered = k.numbered;
      roots_agree = k.roots_agree;
      slots_nil = k.slots_nil;
      cells_agree = λ c h u. k.cells_agree c h (fewer c h u);
      seats_agree = each;
      unseated = λ w m l g. k.unseated w m (omega (arith, l, longer)) g;
    }

-- what one seat's step on its own section shows
pub record Changes (sh : Shape) (roots roots' ids ids' values values' fields' : List ℕ) (used used' : ℕ → Type 0) (seats : List SeatState) (ms : List Meaning) (i : ℕ) (t : SeatState) (m n : Meaning) : Type 0 where
  pub meaning : slice_get ms i ≡ Some m
  pub numbered : IsSection sh i n
  pub more : length m.heap.objects ≤ length n.heap.objects
  -- the identities of cells in use stay
  pub identities : (c : ℕ) → used c → slice_index ids' c ≡ slice_index ids c
  pub roots_used : (k : ℕ) → 0 < slice_index roots k → used (slice_index roots k - 1)
  pub other_roots : (w v : ℕ) → w ≢ i → v < 32 → slice_index roots' (w * 32 + v) ≡ slice_index roots (w * 32 + v)
  pub slots_nil : (j : ℕ) → slice_index roots' (sh.sections * 32 + j) ≡ 0
  pub own_roots : (v : ℕ) → v < 32 → WordAgrees ids' (object_count (set ms i n)) i (slice_index roots' (i * 32 + v)) (variable n.heap v)
  pub cells : (c : ℕ) → c < sh.cells → used' c → (x : Meaning) × (slice_get (set ms i n) (section_of_cell ids' c) ≡ Some x) × IsCellOf sh ids' values' fields' (object_count (set ms i n)) x c
  pub other_got : (w : ℕ) (s : SeatState) → w ≢ i → slice_get seats w ≡ Some s → IsFalse s.spent → 0 < s.got → used (s.got - 1)
  pub other_making : (w : ℕ) (s : SeatState) → w ≢ i → slice_get seats w ≡ Some s → IsFalse s.spent → (c part : ℕ) → makes s.cache c part ≡ true → slice_index values' c ≡ slice_index values c
  pub other_last : (w : ℕ) (s : SeatState) → w ≢ i → slice_get seats w ≡ Some s → IsFalse s.spent → (c : ℕ) → last_made s.cache ≡ Some c → used c
  pub own_seat : IsFalse t.spent → SeatStands sh ids' values' (object_count (set ms i n)) i t n
  pub within : i < length seats

pub stands-changed : (sh : Shape) (roots roots' ids ids' values values' fields fields' : List ℕ) (used used' : ℕ → Type 0) (seats : List SeatState) (ms : List Meaning) (i : ℕ) (t : SeatState) (m n : Meaning)
    → Changes sh roots roots' ids ids' values values' fields' used used' seats ms i t m n → Stands sh roots ids values fields used seats ms → Stands sh roots' ids' values' fields' used' (set seats i t) (set ms i n)
stands-changed sh roots roots' ids ids' values values' fields fields' used used' seats ms i t m n x k = record {
  sections = length-set ms i n ∙ k.sections;
  numbered = λ w y g. numbered w y (set-cases ms i w n y g);
  roots_agree = λ w y g v h. rooted w y v h g (cases_eq w i);
  slots_nil = x.slots_nil;
  cells_agree = x.cells;
  seats_agree = λ w s y f g live. seated w s y f g live (cases_eq w i);
  unseated = λ w y l g. k.unseated w y (omega (arith, l, length-set seats i t)) (set-there ms i w n y (λ e. omega (arith, e, l, length-set seats i t, x.within)) g);
}
  where
    more : (j : ℕ) → object_count ms j ≤ object_count (set ms i n) j
    more = counts-grow ms i m n x.meaning x.more

    numbered : (w : ℕ) (y : Meaning) → ((w ≡ i) × (n ≡ y)) ⊎ (slice_get ms w ≡ Some y) → IsSection sh w y
    numbered w y (inl e) = subst (λ (z : Meaning). IsSection sh w z) e.1 (subst (λ (j : ℕ). IsSection sh j n) (sym e.0) x.numbered)
    numbered w y (inr g) = k.numbered w y g

    rooted : (w : ℕ) (y : Meaning) (v : ℕ) → v < 32 → slice_get (set ms i n) w ≡ Some y → (w ≡ i) ⊎ (w ≢ i) → WordAgrees ids' (object_count (set ms i n)) w (slice_index roots' (w * 32 + v)) (variable y.heap v)
    rooted w y v h g (inl e) =
        let same : n ≡ y = set-here ms i n y (subst (λ (j : ℕ). slice_get (set ms i n) j ≡ Some y) e g) in
        subst (λ (j : ℕ). WordAgrees ids' (object_count (set ms i n)) j (slice_index roots' (j * 32 + v)) (variable y.heap v)) (sym e)
        (subst (λ (z : Meaning). WordAgrees ids' (object_count (set ms i n)) i (slice_index roots' (i * 32 + v)) (variable z.heap v)) same (x.own_roots v h))
    rooted w y v h g (inr d) =
        subst (λ (word : ℕ). WordAgrees ids' (object_count (set ms i n)) w word (variable y.heap v)) (sym (x.other_roots w v d h))
        (agrees-on ids ids' (object_count ms) (object_count (set ms i n)) w (slice_index roots (w * 32 + v)) (variable y.heap v) (λ some. x.identities (slice_index roots (w * 32 + v) - 1) (x.roots_used (w * 32 + v) some)) more
        (k.roots_agree w y (set-there ms i w n y d g) v h))

    seated : (w : ℕ) (s : SeatState) (y : Meaning) → slice_get (set seats i t) w ≡ Some s → slice_get (set ms i n) w ≡ Some y → IsFalse s.spent → (w ≡ i) ⊎ (w ≢ i) → SeatStands sh ids' values' (object_count (set ms i n)) w s y
    seated w s y f g live (inl e) =
        let record_is : t ≡ s = set-here seats i t s (subst (λ (j : ℕ). slice_get (set seats i t) j ≡ Some s) e f) in
        let meaning_is : n ≡ y = set-here ms i n y (subst (λ (j : ℕ). slice_get (set ms i n) j ≡ Some y) e g) in
        let P : ℕ → SeatState → Meaning → Type 0 = λ j a b. SeatStands sh ids' values' (object_count (set ms i n)) j a b in
        subst (λ (j : ℕ). P j s y) (sym e) (subst (λ (b : Meaning). P i s b) meaning_is (subst (λ (a : SeatState). IsFalse a.spent → P i a n) record_is x.own_seat live))
    seated w s y f g live (inr d) =
        let before : slice_get seats w ≡ Some s = set-there seats i w t s d f in
        seat-on sh ids ids' values values' (object_count ms) (object_count (set ms i n)) w s y (λ some. x.identities (s.got - 1) (x.other_got w s d before live some)) (x.other_making w s d before live) (λ c e. x.identities c (x.other_last w s d before live c e)) more
        (k.seats_agree w s y before (set-there ms i w n y d g) live)

-- A cell that keeps its words still has its object, or is still made for the next one, after one section's meaning has changed.
-- what cell c is, in words and meanings
abbrev pub HasMeaning : Shape → List ℕ → List ℕ → List ℕ → List Meaning → ℕ → Type 0
HasMeaning sh ids values fields ms c = (x : Meaning) × (slice_get ms (section_of_cell ids c) ≡ Some x) × IsCellOf sh ids values fields (object_count ms) x c

-- the cells of the section that changed keep theirs by what is shown of its objects, and the other ones as they are
pub cell-on : (sh : Shape) (ids ids' values values' fields fields' : List ℕ) (ms : List Meaning) (i : ℕ) (m n : Meaning) (c : ℕ) → slice_get ms i ≡ Some m → Stays sh ids ids' values values' fields fields' (object_count ms) (object_count (set ms i n)) c
    → (section_of_cell ids c ≡ i → HoldsObject sh ids values fields (object_count ms) m c → slice_get n.heap.objects (number_of_cell ids c) ≡ slice_get m.heap.objects (number_of_cell ids c))
    → (section_of_cell ids c ≡ i → IsForNextObject sh ids values fields m c → IsCellOf sh ids' values' fields' (object_count (set ms i n)) n c) → HasMeaning sh ids values fields ms c → HasMeaning sh ids' values' fields' (set ms i n) c
cell-on sh ids ids' values values' fields fields' ms i m n c g k held next (x, there, cell) = of (cases_eq (section_of_cell ids c) i)
  where
    p : ℕ → ℕ
    p = object_count ms

    q : ℕ → ℕ
    q = object_count (set ms i n)

    place : section_of_cell ids' c ≡ section_of_cell ids c
    place = section-same ids ids' c k.identity

    own : section_of_cell ids c ≡ i → IsCellOf sh ids values fields p m c → IsCellOf sh ids' values' fields' q n c
    own e (inl h) = inl (holds-on sh ids ids' values values' fields fields' p q m n c k (held e h) h)
    own e (inr h) = next e h

    other : IsCellOf sh ids values fields p x c → IsCellOf sh ids' values' fields' q x c
    other (inl h) = inl (holds-on sh ids ids' values values' fields fields' p q x x c k refl h)
    other (inr h) = inr (next-on sh ids ids' values values' fields fields' p q x x c k refl refl h)

    of : (section_of_cell ids c ≡ i) ⊎ (section_of_cell ids c ≢ i) → HasMeaning sh ids' values' fields' (set ms i n) c
    of (inl e) =
        let same : m ≡ x = same_Some m x (sym g ∙ ap (λ j. slice_get ms j) (sym e) ∙ there) in
        (n, ap (λ j. slice_get (set ms i n) j) (place ∙ e) ∙ get-set_same ms i m n g, own e (subst (λ (y : Meaning). IsCellOf sh ids values fields p y c) (sym same) cell))
    of (inr d) = (x, ap (λ j. slice_get (set ms i n) j) place ∙ get-set_other ms i (section_of_cell ids c) n d ∙ there, other cell)

-- the object of a cell that is named
pub named-object : (sh : Shape) (ids values fields : List ℕ) (ms : List Meaning) (c : ℕ) → number_of_cell ids c < object_count ms (section_of_cell ids c) → HasMeaning sh ids values fields ms c
    → (x : Meaning) × (slice_get ms (section_of_cell ids c) ≡ Some x) × HoldsObject sh ids values fields (object_count ms) x c
named-object sh ids values fields ms c below (x, there, inl h) = (x, there, h)
named-object sh ids values fields ms c below (x, there, inr h) = let count : object_count ms (section_of_cell ids c) ≡ length x.heap.objects = ap objects_in there in absurd (omega (arith, below, count, h.number))

-- a field of a cell that a reference names agrees with what the plain heap finds there
pub field-agrees : (sh : Shape) (ids values fields : List ℕ) (ms : List Meaning) (i c j : ℕ) (m : Meaning) (ref : Ref) → slice_get ms i ≡ Some m → j < sh.fields → WordAgrees ids (object_count ms) i (c + 1) ref → HasMeaning sh ids values fields ms c
    → WordAgrees ids (object_count ms) i (field sh fields c j) (followed m.heap (catalogue_seen ms i) ref j)
field-agrees sh ids values fields ms i c j m refs.Nil g l (inl z) cell = absurd (omega (arith, z.0))
field-agrees sh ids values fields ms i c j m refs.Nil g l (inr (some, names, below)) cell = absurd names
field-agrees sh ids values fields ms i c j m (refs.Own n) g l (inl z) cell = absurd (omega (arith, z.0))
field-agrees sh ids values fields ms i c j m (refs.Own n) g l (inr (some, names, below)) cell =
    let at : c + 1 - 1 ≡ c = omega arith in
    let section : section_of_cell ids c ≡ i = subst (λ d. section_of_cell ids d ≡ i) at names.0 in
    let number : number_of_cell ids c ≡ n = subst (λ d. number_of_cell ids d ≡ n) at names.1 in
    let o = named-object sh ids values fields ms c (subst (λ d. number_of_cell ids d < object_count ms (section_of_cell ids d)) at below) cell in
    let same : m ≡ o.0 = same_Some m o.0 (sym g ∙ ap (λ k. slice_get ms k) (sym section) ∙ o.1) in
    let object_is : slice_get m.heap.objects n ≡ Some o.2.object = ap (λ (x : Meaning). slice_get x.heap.objects n) same ∙ ap (λ k. slice_get o.0.heap.objects k) (sym number) ∙ o.2.there in
    subst (λ (r : Ref). WordAgrees ids (object_count ms) i (field sh fields c j) r) (sym (ap (λ x. field_of x j) object_is))
    (subst (λ k. WordAgrees ids (object_count ms) k (field sh fields c j) (slice_index_or o.2.object.refs j refs.Nil)) section (o.2.each_field j l))
field-agrees sh ids values fields ms i c j m (refs.Cat n) g l (inl z) cell = absurd (omega (arith, z.0))
field-agrees sh ids values fields ms zero c j m (refs.Cat n) g l (inr (some, names, below)) cell = absurd names
field-agrees sh ids values fields ms (suc i) c j m (refs.Cat n) g l (inr (some, names, below)) cell =
    let at : c + 1 - 1 ≡ c = omega arith in
    let section : section_of_cell ids c ≡ 0 = subst (λ d. section_of_cell ids d ≡ 0) at names.0 in
    let number : number_of_cell ids c ≡ n = subst (λ d. number_of_cell ids d ≡ n) at names.1 in
    let o = named-object sh ids values fields ms c (subst (λ d. number_of_cell ids d < object_count ms (section_of_cell ids d)) at below) cell in
    let seen : slice_get ms 0 ≡ Some o.0 = ap (λ k. slice_get ms k) (sym section) ∙ o.1 in
    let object_is : slice_get o.0.heap.objects n ≡ Some o.2.object = ap (λ k. slice_get o.0.heap.objects k) (sym number) ∙ o.2.there in
    let is : followed m.heap (catalogue_seen ms (suc i)) (refs.Cat n) j ≡ lent (slice_index_or o.2.object.refs j refs.Nil) =
    ap (λ y. followed m.heap (heap_in y) (refs.Cat n) j) seen ∙ ap (λ y. lent (field_of y j)) object_is in
    subst (λ (r : Ref). WordAgrees ids (object_count ms) (suc i) (field sh fields c j) r) (sym is)
    (lent-agrees ids (object_count ms) i (field sh fields c j) (slice_index_or o.2.object.refs j refs.Nil) (subst (λ k. WordAgrees ids (object_count ms) k (field sh fields c j) (slice_index_or o.2.object.refs j refs.Nil)) section (o.2.each_field j l)))

-- A step of a mutator on its own section: what is to be shown of the words, the record and the meaning after it.
-- the words become x, the record of the seat t, and the meaning of its section n
pub record Moves (c : Core) (i : ℕ) (s : SeatState) (step : Step) (x : Words) (t : SeatState) (n : Meaning) (ms : List Meaning) : Type 0 where
  pub numbered : IsSection c.shape i n
  pub more : length (meaning_of ms i).heap.objects ≤ length n.heap.objects
  pub identities_kept : (y : ℕ) → Used c y ≡ true → slice_index x.identities y ≡ slice_index (words_of c.shape c.words).identities y
  -- the roots as the seats have them
  pub now_roots : List ℕ
  pub now : roots_now x.roots (set c.seats i t) ≡ now_roots
  pub other_roots : (w v : ℕ) → w ≢ i → v < 32 → slice_index now_roots (w * 32 + v) ≡ slice_index (the-roots c) (w * 32 + v)
  pub slots_nil : (j : ℕ) → slice_index now_roots (c.shape.sections * 32 + j) ≡ 0
  pub own_roots : (v : ℕ) → v < 32 → WordAgrees x.identities (object_count (set ms i n)) i (slice_index now_roots (i * 32 + v)) (variable n.heap v)
  pub cells : (y : ℕ) → y < c.shape.cells → UsedAfter c i s step y ≡ true → HasMeaning c.shape x.identities x.values x.fields (set ms i n) y
  pub other_making : (w : ℕ) (o : SeatState) → w ≢ i → slice_get c.seats w ≡ Some o → IsFalse o.spent → (y part : ℕ) → makes o.cache y part ≡ true → slice_index x.values y ≡ slice_index (words_of c.shape c.words).values y
  pub own_seat : IsFalse t.spent → SeatStands c.shape x.identities x.values (object_count (set ms i n)) i t n

-- so the words stand for what they stood for, with the new meaning
pub moved : (c : Core) (i : ℕ) (s : SeatState) (step : Step) (x : Words) (t : SeatState) (n : Meaning) (ms : List Meaning) → Taken c i s step → StandsFor c ms → Mutates c i s ms → Moves c i s step x t n ms
    → Stands c.shape (roots_now x.roots (set c.seats i t)) x.identities x.values x.fields (λ y. IsTrue (UsedAfter c i s step y)) (set c.seats i t) (set ms i n)
moved c i s step x t n ms k st a move =
    let w : Words = words_of c.shape c.words in
    let used : ℕ → Type 0 = λ y. IsTrue (Used c y) in
    let after : ℕ → Type 0 = λ y. IsTrue (UsedAfter c i s step y) in
    let changes : Changes c.shape (the-roots c) move.now_roots w.identities x.identities w.values x.values x.fields used after c.seats ms i t (meaning_of ms i) n =
    record {
      meaning = a.there;
      numbered = move.numbered;
      more = move.more;
      identities = move.identities_kept;
      roots_used = λ j some. root-used c j k.core some;
      other_roots = move.other_roots;
      slots_nil = move.slots_nil;
      own_roots = move.own_roots;
      cells = move.cells;
      other_got = λ v o d g live some. got-used c v o ReadCount (looks c v o k.core g live) some;
      other_making = move.other_making;
      other_last = λ v o d g live y e. last-used c v o ReadCount y (looks c v o k.core g live) e;
      own_seat = move.own_seat;
      within = within c i s step k;
    } in
    subst (λ (rs : List ℕ). Stands c.shape rs x.identities x.values x.fields after (set c.seats i t) (set ms i n)) (sym move.now)
    (stands-changed c.shape (the-roots c) move.now_roots w.identities x.identities w.values x.values w.fields x.fields used after c.seats ms i t (meaning_of ms i) n changes st)

-- a cell in use after a step that makes none was in use before, and had its meaning
pub had-meaning : (c : Core) (i : ℕ) (s : SeatState) (step : Step) (ms : List Meaning) (y : ℕ) → Taken c i s step → StandsFor c ms → (IsMadeBy c.shape step y → ⊥) → y < c.shape.cells → UsedAfter c i s step y ≡ true
    → (Used c y ≡ true) × HasMeaning c.shape (words_of c.shape c.words).identities (words_of c.shape c.words).values (words_of c.shape c.words).fields ms y
had-meaning c i s step ms y k st none h u =
    let before : Used c y ≡ true = ⊎_elim (λ (e : Used c y ≡ true). e) (λ (e : IsMadeBy c.shape step y). absurd (none e)) (used-back c i s step y k u) in
    (before, st.cells_agree y h before)
