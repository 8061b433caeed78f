-- A seat that makes cells goes on making them after each step.
use Rattle.std.proofs.Common.{ℕ, ◌≡◌, ◌+◌, List, [], ◌∷◌, length, true, false, Bool, Option, None, Some, cond, refl, sym, ap, ◌∙◌, ◌-◌, ◌<◌, not, arith, subst, suc, ◌++◌}
use Rattle.std.specs.Prelude.{IsTrue, IsFalse, is_some, ◌==◌, ◌%◌}
use Rattle.std.proofs.lemmas.Bool.{false≢true, and_from, or_right, eq-eqb, ne_eqb, lt-ltb}
use Rattle.std.proofs.lemmas.List.{length-append, map-append, append_assoc}
use Rattle.mark_core.specs.Effects.{seat_after}
use Rattle.mark_core.specs.Steps.MutatorSteps.{with_made, with_free, without_used, names_last, with_making}
use Rattle.mark_core.specs.Seats.{free_in, has_making, is_unread, makes}
use Rattle.mark_core.specs.declared.kinds.Phase.{Phase}
use Rattle.mark_core.specs.declared.kinds.Phase.TheVariants.{Full}
use Rattle.mark_core.specs.declared.kinds.Step.{Step}
use Rattle.mark_core.specs.declared.kinds.Step.TheVariants.{StoreNew, StoreRoot}
use Rattle.mark_core.specs.declared.seat.SeatState.{SeatState}
use Rattle.mark_core.specs.declared.seat.CacheState.{CacheState}
use Rattle.plain_heap.specs.declared.operation.Op.TheVariants.{New}
use Rattle.plain_heap.specs.PlainHeap.{Heap as Plain}
use Rattle.plain_heap.specs.PlainStep.{new_object}
use Rattle.gc_table.specs.declared.seat.Heap.{Heap}
use Rattle.gc_table.specs.declared.seat.HeapSeat.{HeapSeat}
use Rattle.gc_table.specs.PlainSteps.{Asks}
use Rattle.gc_table.specs.Seats.{Sits, Stored, IsPlainStep, view_of}
use Rattle.gc_table.specs.Sections.{section_after, seen_by}
use Rattle.gc_table.specs.Taking.{after, won, May}
use Rattle.bench_steps.specs.Records.{sizes, SitsWithRecord}
use Rattle.bench_steps.specs.Making.{MayMakeCells, maker, block_of_maker, cells_made, objects_of}
use Rattle.mark_core.specs.Layout.{Words}
use Rattle.mark_core.specs.Parts.{parts}
use Rattle.mark_core.specs.Steps.{AllTrue}
use Rattle.gc_table.specs.declared.view.Entry.{Entry}
use Rattle.gc_table.specs.declared.view.View.{View}
use Rattle.gc_table.proofs.RecordSteps.{may-by, state-after}
use Rattle.bench_steps.specs.Taken.{TakesRounds, steps_in, rounds_of}

-- The record of a seat that stores the last word of a new cell, and then the cell in a variable.
-- A step whose condition the record meets by itself, and the record and the steps after it.
-- the seat may take the step
pub may-at : (h : Heap) (s : SeatState) (x : HeapSeat) (step : Step) → SitsWithRecord h s x → ((w : Words) (seats : List SeatState) → AllTrue (parts sizes w seats s step)) → May step (view_of x)
may-at h s x step a met = may-by sizes (view_of x) s step (a.1.1 ∙ a.0) a.2 met

-- the record after it
pub at-after : (h : Heap) (s : SeatState) (x y : HeapSeat) (step : Step) (n : ℕ) → SitsWithRecord h s x → Sits h y → view_of y ≡ after step n (view_of x) → SitsWithRecord h (seat_after sizes s step n) y
at-after h s x y step n a sits e = (a.0, sits, state-after sizes (view_of x) (view_of y) s step n (a.1.1 ∙ a.0) a.2 e)

-- the objects after a step that makes none
pub objects-after :
    (x y : HeapSeat) (step : Step) (n : ℕ)
    → view_of y ≡ after step n (view_of x)
    → length (section_after (view_of x).shape (view_of x).plan (view_of x).state step (view_of x).own).meaning.heap.objects ≡ objects_of x
    → objects_of y ≡ objects_of x
objects-after x y step n e same = ap (λ (v : View). length v.own.meaning.heap.objects) e ∙ same

-- the steps of one round more
pub takes-more :
    (f : ℕ → List Step) (k : ℕ) (x y z : HeapSeat) (step : Step) (n : ℕ)
    → f k ≡ step ∷ [] → TakesRounds f k x y → view_of z ≡ after step n (view_of y) → TakesRounds f (k + 1) x z
takes-more f k x y z step n one taken e =
    let more : rounds_of f (k + 1) ≡ rounds_of f k ++ step ∷ [] = (let is : k + 1 ≡ suc k = omega arith in ap (rounds_of f) is) ∙ ap (λ (l : List Step). rounds_of f k ++ l) one in
    ap steps_in e
    ∙ map-append (λ (r : Entry). r.step) (view_of y).log (record { step = step; found = n; won = won step n } ∷ [])
    ∙ ap (λ (l : List Step). l ++ step ∷ []) taken
    ∙ append_assoc (steps_in (view_of x)) (rounds_of f k) (step ∷ [])
    ∙ ap (λ (l : List Step). steps_in (view_of x) ++ l) (sym more)

-- the block after the first three words
abbrev pub three_stored : Option CacheState → ℕ → Option CacheState
three_stored cache c = with_making (with_making (with_making cache c 1) c 2) c 3

-- the fourth word is the next
pub fourth-next : (cache : Option CacheState) (c : ℕ) → free_in cache c ≡ true → makes (three_stored cache c) c 3 ≡ true
fourth-next None c e = e
fourth-next (Some x) c e = and_from (c == c) (3 == 3) (eq-eqb c c refl) refl

-- no cell is half made after it
pub none-half-made : (cache : Option CacheState) (c : ℕ) → not (has_making (with_made (three_stored cache c) c)) ≡ true
none-half-made None c = refl
none-half-made (Some x) c = refl

-- the cell is the one made last
pub made-last : (cache : Option CacheState) (c r : ℕ) → free_in cache c ≡ true → r ≡ c + 1 → names_last (with_made (three_stored cache c) c) r ≡ true
made-last None c r e is = absurd (false≢true e)
made-last (Some x) c r e is = and_from (not (r == 0)) (c == r - 1) (let z : (r == 0) ≡ false = ne_eqb r 0 (λ y. omega arith) in rw z refl) (eq-eqb c (r - 1) (omega arith))

-- the identity may be stored
pub identity-met :
    (p : Phase) (t : ℕ) (env : List ℕ) (cache : Option CacheState) (made c word : ℕ) (w : Words) (seats : List SeatState)
    → (t % 2 == 0) ≡ true → free_in cache c ≡ true → c < 4096 → made < 2000000 → word ≡ made
    → AllTrue (parts sizes w seats (maker p t env (three_stored cache c) made) (StoreNew c 3 word))
identity-met p t env cache made c word w seats turn free small few is =
    (and_from _ _ (and_from _ _ (lt-ltb c 4096 small) refl) turn, (fourth-next cache c free, (and_from _ _ (lt-ltb made 2000000 few) (eq-eqb word _ (omega arith)), tt)))

-- the variable may get the cell
pub root-met :
    (p : Phase) (t : ℕ) (env : List ℕ) (cache : Option CacheState) (made c r : ℕ) (w : Words) (seats : List SeatState)
    → (t % 2 == 0) ≡ true → free_in cache c ≡ true → r ≡ c + 1
    → AllTrue (parts sizes w seats (maker p t env (with_made (three_stored cache c) c) made) (StoreRoot 0 r))
root-met p t env cache made c r w seats turn free is = (turn, (or_right _ _ (made-last cache c r free is), (none-half-made cache c, tt)))

-- the cell is free in the block that the record says
pub free-there : (h : Heap) (x : HeapSeat) (m : MayMakeCells h x) (c number : ℕ) → free_in (block_of_maker x) number ≡ true → c ≡ number → free_in m.cache c ≡ true
free-there h x m c number free is = subst (λ (k : ℕ). free_in m.cache k ≡ true) (sym is) (ap (λ (s : SeatState). free_in s.cache number) (sym m.at.2) ∙ free)

-- the record after the first three words
pub three-at :
    (h : Heap) (x a b d : HeapSeat) (m : MayMakeCells h x) (c n : ℕ)
    → Sits h a → Stored (StoreNew c 0 0) (view_of x) (view_of a)
    → Sits h b → Stored (StoreNew c 1 0) (view_of a) (view_of b)
    → Sits h d → Stored (StoreNew c 2 n) (view_of b) (view_of d)
    → SitsWithRecord h (maker m.phase m.season m.env (three_stored m.cache c) m.made) d
three-at h x a b d m c n sa va sb vb sd vd =
    let s : Option CacheState → SeatState = λ k. maker m.phase m.season m.env k m.made in
    let one = at-after h (s m.cache) x a (StoreNew c 0 0) _ m.at sa va in
    let two = at-after h (s (with_making m.cache c 1)) a b (StoreNew c 1 0) _ one sb vb in
    at-after h (s (with_making (with_making m.cache c 1) c 2)) b d (StoreNew c 2 n) _ two sd vd

-- a step that changes nothing but the block
pub makes-after :
    (h : Heap) (x y : HeapSeat) (step : Step) (n : ℕ) (cache : Option CacheState) (m : MayMakeCells h x)
    → Sits h y → view_of y ≡ after step n (view_of x)
    → seat_after sizes (maker m.phase m.season m.env m.cache m.made) step n ≡ maker m.phase m.season m.env cache m.made
    → IsFalse (has_making cache)
    → length (section_after (view_of x).shape (view_of x).plan (view_of x).state step (view_of x).own).meaning.heap.objects ≡ objects_of x
    → MayMakeCells h y × (block_of_maker y ≡ cache) × (cells_made y ≡ cells_made x)
makes-after h x y step n cache m sits e is whole same =
    let a = at-after h (maker m.phase m.season m.env m.cache m.made) x y step n m.at sits e in
    let state = a.2 ∙ is in (
      record { phase = m.phase; season = m.season; env = m.env; cache = cache; made = m.made; seen = m.seen; turn = m.turn; whole = whole; at = (a.0, a.1, state); objects = objects-after x y step n e same ∙ m.objects },
      ap (λ (s : SeatState). s.cache) state,
      ap (λ (s : SeatState). s.made) state ∙ sym (ap (λ (s : SeatState). s.made) m.at.2),
    )

-- the block is that of the record
pub cache-is : (h : Heap) (x : HeapSeat) (m : MayMakeCells h x) → block_of_maker x ≡ m.cache
cache-is h x m = ap (λ (s : SeatState). s.cache) m.at.2

-- no cell is half made in a block that was claimed, read or published
pub claimed-whole : (won : Bool) (x : CacheState) (k : Option CacheState) → x.making ≡ None → IsFalse (has_making k) → IsFalse (has_making (cond won (Some x) k))
claimed-whole true x k e whole = ap is_some e
claimed-whole false x k e whole = whole

pub read-whole : (k : Option CacheState) (n : ℕ) → IsFalse (has_making k) → IsFalse (has_making (with_free k n))
read-whole None n whole = refl
read-whole (Some x) n whole = whole

pub published-whole : (k : Option CacheState) → IsFalse (has_making k) → IsFalse (has_making (without_used k))
published-whole None whole = refl
published-whole (Some x) whole = whole

pub made-whole : (k : Option CacheState) (c : ℕ) → IsFalse (has_making (with_made (three_stored k c) c))
made-whole None c = refl
made-whole (Some x) c = refl

-- there still is a block
pub read-some : (k : Option CacheState) (n : ℕ) → IsTrue (is_unread k) → IsTrue (is_some (with_free k n))
read-some None n e = absurd (false≢true e)
read-some (Some x) n e = refl

pub made-some : (k : Option CacheState) (c : ℕ) → free_in k c ≡ true → IsTrue (is_some (with_made (three_stored k c) c))
made-some None c e = absurd (false≢true e)
made-some (Some x) c e = refl

-- the record after all words of a new cell, and the objects, which are one fewer than the cells
pub four-at :
    (h : Heap) (x a b d y : HeapSeat) (m : MayMakeCells h x) (c n i : ℕ)
    → Sits h a → Stored (StoreNew c 0 0) (view_of x) (view_of a)
    → Sits h b → Stored (StoreNew c 1 0) (view_of a) (view_of b)
    → Sits h d → Stored (StoreNew c 2 n) (view_of b) (view_of d)
    → Sits h y → Stored (StoreNew c 3 i) (view_of d) (view_of y)
    → SitsWithRecord h (maker m.phase m.season m.env (with_made (three_stored m.cache c) c) (m.made + 1)) y × (objects_of y ≡ m.made)
four-at h x a b d y m c n i sa va sb vb sd vd sy vy =
    let at = three-at h x a b d m c n sa va sb vb sd vd in (
      at-after h (maker m.phase m.season m.env (three_stored m.cache c) m.made) d y (StoreNew c 3 i) _ at sy vy,
      objects-after d y (StoreNew c 3 i) _ vy refl ∙ objects-after b d (StoreNew c 2 n) _ vd refl ∙ objects-after a b (StoreNew c 1 0) _ vb refl ∙ objects-after x a (StoreNew c 0 0) _ va refl ∙ m.objects,
    )

-- the store of the new cell in variable 0 is the plain step that makes its object
pub asks-new :
    (h : Heap) (y : HeapSeat) (p : Phase) (t : ℕ) (env : List ℕ) (cache : Option CacheState) (made c r : ℕ)
    → (p ≡ Full → ⊥) → SitsWithRecord h (maker p t env (with_made (three_stored cache c) c) (made + 1)) y → objects_of y ≡ made → free_in cache c ≡ true → r ≡ c + 1
    → Asks (view_of y).state (view_of y).own.meaning (seen_by (view_of y).shape (view_of y).plan (view_of y).state) (StoreRoot 0 r) (New 0 (view_of y).own.meaning.value)
asks-new h y p t env cache made c r seen at objects free is =
    ((p, ap (λ (s : SeatState). s.phase_seen) at.2, seen), (refl, refl, ap (λ (s : SeatState). names_last s.cache r) at.2 ∙ made-last cache c r free is, ap (λ (k : ℕ). k + 1) objects ∙ sym (ap (λ (s : SeatState). s.made) at.2)))

-- there is one object more after it
pub one-more :
    (y z : HeapSeat) (r n : ℕ)
    → IsFalse (view_of y).shape.sharing
    → Asks (view_of y).state (view_of y).own.meaning (seen_by (view_of y).shape (view_of y).plan (view_of y).state) (StoreRoot 0 r) (New 0 n)
    → IsPlainStep (StoreRoot 0 r) (view_of y) (view_of z)
    → objects_of z ≡ objects_of y + 1
one-more y z r n alone asks plain = ap (λ (x : Plain). length x.objects) (plain alone (New 0 n) asks) ∙ length-append (view_of y).own.meaning.heap.objects (new_object n ∷ [])
