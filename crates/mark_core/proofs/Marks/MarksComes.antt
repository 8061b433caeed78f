-- What a step takes in hand is marked, published or in use.
use Rattle.std.proofs.Common.{ℕ, ◌≡◌, ◌+◌, ◌-◌, ◌*◌, ◌/◌, ◌%◌, ◌<◌, List, set, get_or, length, arith, sym, ap, ◌∙◌, subst, Bool, true, false, cond, eqb, ◌||◌, Option, Some, None, ⊎_elim, refl}
use Rattle.std.specs.Prelude.{IsTrue, IfSome, slice_get}
use Rattle.std.specs.List.{All, list_any}
use Rattle.std.proofs.lemmas.Bool.{false≢true, and_parts, or_cases, or_left, eqb-true, or_right, true≢false}
use Rattle.std.proofs.lemmas.List.{set-get_or}
use Rattle.std.proofs.lemmas.List.Elements.{All-map, All-get_or}
use Rattle.std.proofs.lemmas.Option.{slice_get-get_or}
use Rattle.mark_core.specs.Layout.{Words, words_of, region_sizes, block_count, root_count}
use Rattle.mark_core.specs.Bits.{has_bit, with_bit, cell_bit, cell_of, nil_or}
use Rattle.mark_core.specs.Seats.{is_the, is_phase, is_unpublished, work_in_hand}
use Rattle.mark_core.specs.Held.{length_in_hand}
use Rattle.mark_core.specs.Views.{makers, maker_of, hands}
use Rattle.mark_core.specs.Cells.{in_use, used_by, entry}
use Rattle.mark_core.specs.Rules.WorldRules.{is_tracing}
use Rattle.mark_core.specs.Parts.{parts}
use Rattle.mark_core.specs.Steps.{Core, AllTrue, failing_part, after_event}
use Rattle.mark_core.specs.Laws.{IsCore}
use Rattle.mark_core.proofs.Writing.Ranges.{placed}
use Rattle.mark_core.proofs.Writing.Places.{region-length}
use Rattle.mark_core.proofs.Known.{in_range, found, words_left, HasCache, bit-below, in_use-below, seats_left}
use Rattle.mark_core.proofs.Count.CountWork.{work-reads, work-marks}
use Rattle.mark_core.proofs.Marks.MarksIdle.{mark-sets, found-word, at-seat, work-traces, idle-seats, block-stops, marks-grow, marks-from, marks-value}
use Rattle.mark_core.proofs.Marks.MarksQueues.{IsPushed, pops-off, entries-after}
use Rattle.mark_core.proofs.Marks.MarksHands.{HandMarked, HandPublished, ComesMarked, ComesPublished, ComesUsed, field-cell, may-load, HandUsed, marked-more, published-more, used-more, marked-after, published-after, used-after}
use Rattle.mark_core.proofs.Marks.MarksBefore.{published-now, entries-now, EntriesGo, entries-more, MarksOf, marked-now, used-now, idle-published, idle-used, new-marked, ended-marked, new-published, ended-published, marks-of}
use Rattle.mark_core.specs.declared.kinds.Shape.{Shape}
use Rattle.mark_core.specs.declared.kinds.Phase.TheVariants.{Sweep}
use Rattle.mark_core.specs.declared.kinds.Step.{Step}
use Rattle.mark_core.specs.declared.kinds.Step.TheVariants.{Push, Pop, ReadAlloc, ReadField, ReadRoot, SetMark, ReadMarks, LoadSlot, StoreAlloc}
use Rattle.mark_core.specs.declared.seat.SeatState.{SeatState}
use Rattle.mark_core.specs.Steps.SweepSteps.{own_block, survivors}
use Rattle.mark_core.proofs.Writing.CellBits.{bits-grow}
use Rattle.mark_core.proofs.HeldBlock.{own-strong}
use Rattle.mark_core.proofs.Consequences.Closing.{survives}
use Rattle.mark_core.proofs.Blocks.BlocksStopped.{Taken, kept-after}
use Rattle.mark_core.proofs.Used.UsedKept.{still-made, frees, alloc-on}
use Rattle.mark_core.specs.Effects.{seat_after}
use Rattle.mark_core.proofs.Doing.{local-kept}
use Rattle.mark_core.proofs.Blocks.BlocksStretch.{may-store-some}
use Rattle.mark_core.specs.declared.kinds.Event.{Event}

-- 6: the entry that is popped is marked
named_cell : (m : ℕ → Bool) (word : ℕ) → ((x : ℕ) → m x ≡ true → x < 16777216) → m (word - 1) ≡ true → m (cell_of word) ≡ true
named_cell m word f e = let same : cell_of word ≡ word - 1 = omega (arith, f (word - 1) e) in ap m same ∙ e

popped_marked : (c : Core) (i : ℕ) (s : SeatState) (p : ℕ) → IsCore c → slice_get c.seats i ≡ Some s → AllTrue (parts c.shape (words_of c.shape c.words) c.seats s (Pop p)) → cell_bit (words_of c.shape c.words).marks (cell_of (found c s (Pop p))) ≡ true
popped_marked c i s p k g ok =
    let sh : Shape = c.shape in
    let w : Words = words_of sh c.words in
    let n : ℕ = length_in_hand s.held p in
    let o = pops-off c i s p k g ok in
    let there = entries-now c k p o.packet (n - 1) (omega (arith, o.before, o.some)) in
    let long : length w.marks ≡ block_count sh = region-length (region_sizes sh) 5 c.words (omega (arith, k.formed.words)) in
    let near : (x : ℕ) → cell_bit w.marks x ≡ true → x < 16777216 = λ x e. omega (arith, bit-below sh w.marks x k.formed.shaped long e, k.formed.shaped.cells.1) in
    rw o.word (named_cell (cell_bit w.marks) (entry sh w.entries p (n - 1)) near (and_parts _ _ there).1)

-- the cells that come into hand are marked
pub comes-marked : (c : Core) (i : ℕ) (s : SeatState) (step : Step) → IsCore c → slice_get c.seats i ≡ Some s → AllTrue (parts c.shape (words_of c.shape c.words) c.seats s step) → ComesMarked (cell_bit (words_left c s step).marks) step (found c s step)
comes-marked c i s (Pop p) k g ok = popped_marked c i s p k g ok
comes-marked c i s (SetMark m) k g ok =
    let sh : Shape = c.shape in
    let marks : List ℕ = (words_of sh c.words).marks in
    let long : length marks ≡ block_count sh = region-length (region_sizes sh) 5 c.words (omega (arith, k.formed.words)) in
    let h : m / 64 < length marks = rw long (placed sh (words_of sh c.words) c.seats s (SetMark m) (in_range c i s k g) ok) in
    subst (λ (old : ℕ). cell_bit (set marks (m / 64) (with_bit old (m % 64))) m ≡ true) (sym (found-word c i s (SetMark m) k g ok)) (mark-sets marks m h)
comes-marked c i s (ReadMarks b) k g ok =
    let marks : List ℕ = (words_of c.shape c.words).marks in
    let here : found c s (ReadMarks b) ≡ get_or marks b 0 = found-word c i s (ReadMarks b) k g ok in
    λ x e h.
    let same : set marks b (found c s (ReadMarks b)) ≡ marks = rw here (set-get_or marks b 0) in
    let bit : has_bit (get_or marks b 0) (x % 64) ≡ true = rw here at h in
    ap (λ ws. cell_bit ws x) same ∙ rw e at bit
comes-marked c i s step k g ok = tt

-- the cells that are seen allocated are
pub comes-published : (c : Core) (i : ℕ) (s : SeatState) (step : Step) → IsCore c → slice_get c.seats i ≡ Some s → AllTrue (parts c.shape (words_of c.shape c.words) c.seats s step) → ComesPublished (cell_bit (words_left c s step).allocs) step (found c s step)
comes-published c i s (ReadAlloc b) k g ok =
    let allocs : List ℕ = (words_of c.shape c.words).allocs in
    let here : found c s (ReadAlloc b) ≡ get_or allocs b 0 = found-word c i s (ReadAlloc b) k g ok in
    λ x e h.
    let same : set allocs b (found c s (ReadAlloc b)) ≡ allocs = rw here (set-get_or allocs b 0) in
    let bit : has_bit (get_or allocs b 0) (x % 64) ≡ true = rw here at h in
    ap (λ ws. cell_bit ws x) same ∙ rw e at bit
comes-published c i s step k g ok = tt

-- a word that is nil or goes to a cell in use names such a cell, if it names one
named : (u : ℕ → Bool) (word : ℕ) (b : Bool) → ((x : ℕ) → u x ≡ true → x < 16777216) → (b || u (word - 1)) ≡ true → IfSome (cond b None (Some (cell_of word))) (λ x. IsTrue (u x))
named u word true f e = tt
named u word false f e = named_cell u word f e

-- cells in use exist
pub use-below : (c : Core) → IsCore c → (x : ℕ) → in_use (words_of c.shape c.words).allocs (makers c.seats) x ≡ true → x < 16777216
use-below c k x e =
    let sh : Shape = c.shape in
    let w : Words = words_of sh c.words in
    let long : length w.allocs ≡ block_count sh = region-length (region_sizes sh) 4 c.words (omega (arith, k.formed.words)) in
    let caches : All (HasCache sh) (makers c.seats) = All-map (HasCache sh) maker_of c.seats (λ j d h. (k.formed.seats j (get_or c.seats j d) (slice_get-get_or c.seats j d h)).cache) in
    omega (arith, in_use-below sh w.allocs (makers c.seats) x k.formed.shaped long caches e, k.formed.shaped.cells.1)

not_sweep : (phase : ℕ) → is_tracing phase ≡ true → is_phase phase Sweep ≡ false
not_sweep phase t =
    ⊎_elim
    (λ (e : eqb phase 1 ≡ true). ap (λ n. is_phase n Sweep) (eqb-true phase 1 e))
    (λ (e : eqb phase 2 ≡ true). ap (λ n. is_phase n Sweep) (eqb-true phase 2 e))
    (or_cases (eqb phase 1) (eqb phase 2) t)

-- 10: the field of a published cell goes to a cell in use
pub loaded-field : (c : Core) (i : ℕ) (s : SeatState) (x f : ℕ) → IsCore c → slice_get c.seats i ≡ Some s → AllTrue (parts c.shape (words_of c.shape c.words) c.seats s (ReadField x f))
    → nil_or (in_use (words_of c.shape c.words).allocs (makers c.seats)) (found c s (ReadField x f)) ≡ true
loaded-field c i s x f k g ok =
    let sh : Shape = c.shape in
    let w : Words = words_of sh c.words in
    let a = may-load sh s x f ok.0 in
    let mine = at-seat (HandPublished sh.fields (cell_bit w.allocs)) c i s g (published-now c k) in
    let there : cell_bit w.allocs x ≡ true = field-cell sh (λ y. IsTrue (cell_bit w.allocs y)) s x f a.1 mine.scan (mine.left x) a.2 in
    let tracing = work-traces c i s k g (work-reads sh s x f a.1 a.2) in
    rw (found-word c i s (ReadField x f) k g ok)
    (k.sound.references.fields_in_use (not_sweep w.phase tracing) x a.0 (or_left (cell_bit w.allocs x) (list_any (used_by x) (makers c.seats)) there) f a.1)

loaded_root : (c : Core) (j : ℕ) → IsCore c → j < root_count c.shape → nil_or (in_use (words_of c.shape c.words).allocs (makers c.seats)) (get_or (words_of c.shape c.words).roots j 0) ≡ true
loaded_root c j k at =
    let w : Words = words_of c.shape c.words in
    let long : length w.roots ≡ root_count c.shape = region-length (region_sizes c.shape) 2 c.words (omega (arith, k.formed.words)) in
    let h : j < length w.roots = rw long at in
    All-get_or (λ r. IsTrue (nil_or (in_use w.allocs (makers c.seats)) r)) w.roots j 0 h k.sound.references.roots_in_use

-- the cell that is loaded is in use
pub comes-used : (c : Core) (i : ℕ) (s : SeatState) (step : Step) → IsCore c → slice_get c.seats i ≡ Some s → AllTrue (parts c.shape (words_of c.shape c.words) c.seats s step)
    → ComesUsed (in_use (words_of c.shape c.words).allocs (makers c.seats)) step (found c s step)
comes-used c i s (ReadField x f) k g ok = let word : ℕ = found c s (ReadField x f) in named (in_use (words_of c.shape c.words).allocs (makers c.seats)) word (eqb word 0) (use-below c k) (loaded-field c i s x f k g ok)
comes-used c i s (ReadRoot section v) k g ok =
    let word : ℕ = found c s (ReadRoot section v) in
    let step : Step = ReadRoot section v in
    let at = placed c.shape (words_of c.shape c.words) c.seats s step (in_range c i s k g) ok in
    named (in_use (words_of c.shape c.words).allocs (makers c.seats)) word (eqb word 0) (use-below c k) (rw (found-word c i s step k g ok) (loaded_root c (section * 32 + v) k at))
comes-used c i s (LoadSlot section j) k g ok =
    let step : Step = LoadSlot section j in
    let word : ℕ = found c s step in
    let at = placed c.shape (words_of c.shape c.words) c.seats s step (in_range c i s k g) ok in
    named (in_use (words_of c.shape c.words).allocs (makers c.seats)) word (eqb word 0) (use-below c k) (rw (found-word c i s step k g ok) (loaded_root c (c.shape.sections * 32 + (section * c.shape.slots + j)) k at))
comes-used c i s step k g ok = tt

-- a cell that is pushed is fresh or popped
pub the-cell : (m : ℕ → Bool) (o : Option ℕ) (x : ℕ) → IfSome o (λ y. IsTrue (m y)) → is_the o x ≡ true → m x ≡ true
the-cell m None x k e = absurd (false≢true e)
the-cell m (Some y) x k e = ap m (sym (eqb-true y x e)) ∙ k

popped_cell : (m : ℕ → Bool) (o : Option (ℕ × Bool)) (x : ℕ) → IfSome o (λ y. IsTrue (m y.0)) → is_unpublished o x ≡ true → m x ≡ true
popped_cell m None x k e = absurd (false≢true e)
popped_cell m (Some y) x k e = ap m (sym (eqb-true y.0 x (and_parts (eqb y.0 x) y.1 e).0)) ∙ k

pub comes-pushed : (c : Core) (i : ℕ) (s : SeatState) (step : Step) (m : ℕ → Bool) → HandMarked c.shape.fields m s → AllTrue (parts c.shape (words_of c.shape c.words) c.seats s step) → IsPushed m step
comes-pushed c i s (Push p x) m k ok =
    ⊎_elim (λ (e : is_the s.fresh x ≡ true). the-cell m s.fresh x k.fresh e) (λ (e : is_unpublished s.popped x ≡ true). popped_cell m s.popped x k.popped e) (or_cases (is_the s.fresh x) (is_unpublished s.popped x) ok.1.1.0)
comes-pushed c i s step m k ok = tt

-- Each event that is allowed keeps the rule of marks.
-- A cell in use stays in use over each step, unless its block is swept while it has no mark.
-- an allocated cell stays so, if it is marked or no block is swept
pub alloc-stays : (c : Core) (i : ℕ) (s : SeatState) (step : Step) → Taken c i s step → (x : ℕ) → (frees step ≡ true → cell_bit (words_of c.shape c.words).marks x ≡ true) → cell_bit (words_of c.shape c.words).allocs x ≡ true → cell_bit (words_left c s step).allocs x ≡ true
alloc-stays c i s StoreAlloc t x f e =
    let w : Words = words_of c.shape c.words in
    bits-grow w.allocs (own_block s) (survivors s.block) x (λ here _. survives w.phase w.next_block w.allocs w.marks s.block x t.ok.1.0 (own-strong c i s StoreAlloc t) (sym here) e (λ _. f refl)) e
alloc-stays c i s step t x f e = alloc-on c i s step x t refl e

-- a cell in use stays in use, if it is marked or no block is swept
pub use-kept : (c : Core) (i : ℕ) (s : SeatState) (step : Step) → Taken c i s step → (x : ℕ) → (frees step ≡ true → cell_bit (words_of c.shape c.words).marks x ≡ true) → in_use (words_of c.shape c.words).allocs (makers c.seats) x ≡ true
    → in_use (words_left c s step).allocs (makers (seats_left c i s step)) x ≡ true
use-kept c i s step t x f e =
    let w : Words = words_of c.shape c.words in
    let bit : Bool = cell_bit (words_left c s step).allocs x in
    let some : Bool = list_any (used_by x) (makers (seats_left c i s step)) in
    ⊎_elim
    (λ (a : cell_bit w.allocs x ≡ true). or_left bit some (alloc-stays c i s step t x f a))
    (λ (a : list_any (used_by x) (makers c.seats) ≡ true). ⊎_elim (λ (b : bit ≡ true). or_left bit some b) (λ (b : some ≡ true). or_right bit some b) (still-made c i s step x t a))
    (or_cases (cell_bit w.allocs x) (list_any (used_by x) (makers c.seats)) e)

-- the cell that the seat loaded stays in use
value_stays : (c : Core) (i : ℕ) (s : SeatState) (step : Step) → Taken c i s step → (x : ℕ) → is_the s.value x ≡ true → in_use (words_left c s step).allocs (makers (seats_left c i s step)) x ≡ true
value_stays c i s StoreAlloc a x v = absurd (true≢false (sym (work-marks c.shape.fields s x v) ∙ at-seat (λ (t : SeatState). work_in_hand c.shape.fields t ≡ false) c i s a.got (idle-seats c a.core (block-stops c i s a.core a.got (may-store-some s.block a.ok.1.0)))))
value_stays c i s step a x v =
    let u : ℕ → Bool = in_use (words_of c.shape c.words).allocs (makers c.seats) in
    use-kept c i s step a x (λ f. absurd (false≢true f)) (the-cell u s.value x (at-seat (HandUsed u) c i s a.got (used-now c a.core)) v)

-- what is marked stays in use
in_use_after : (c : Core) (i : ℕ) (s : SeatState) (step : Step) → Taken c i s step → (x : ℕ) → x < c.shape.cells → cell_bit (words_left c s step).marks x ≡ true → in_use (words_left c s step).allocs (makers (seats_left c i s step)) x ≡ true
in_use_after c i s step a x h e =
    let w : Words = words_of c.shape c.words in
    let u : ℕ → Bool = in_use w.allocs (makers c.seats) in
    ⊎_elim
    (λ (m : cell_bit w.marks x ≡ true). use-kept c i s step a x (λ f. m) (a.core.sound.marks.marked_in_use x h m))
    (λ v. value_stays c i s step a x (marks-value c s step x a.ok v))
    (marks-from c i s step a.core a.got a.ok x e)

-- the entries of packets are marked
entries_at : (c : Core) (i : ℕ) (s : SeatState) (step : Step) → Taken c i s step → IsTrue (is_tracing (words_left c s step).phase)
    → EntriesGo c.shape (cell_bit (words_left c s step).marks) (words_left c s step).heads (words_left c s step).entries (hands (seats_left c i s step))
entries_at c i s step a t =
    let sh : Shape = c.shape in
    let w : Words = words_of sh c.words in
    let m : ℕ → Bool = cell_bit (words_left c s step).marks in
    let grow = marks-grow c i s step a.core a.got a.ok t in
    let mine : HandMarked sh.fields m s = marked-more sh.fields (cell_bit w.marks) m s grow (at-seat (HandMarked sh.fields (cell_bit w.marks)) c i s a.got (marked-now c a.core)) in
    entries-after c i s step a.core a.got a.ok m (comes-pushed c i s step m mine a.ok) (entries-more sh (cell_bit w.marks) m w.heads w.entries (hands c.seats) grow (entries-now c a.core))

-- the cells in hand are marked
marked_at : (c : Core) (i : ℕ) (s : SeatState) (step : Step) → Taken c i s step → IsTrue (is_tracing (words_left c s step).phase) → All (HandMarked c.shape.fields (cell_bit (words_left c s step).marks)) (seats_left c i s step)
marked_at c i s step a t =
    let sh : Shape = c.shape in
    let w : Words = words_of sh c.words in
    let m : ℕ → Bool = cell_bit (words_left c s step).marks in
    let P : SeatState → Type 0 = HandMarked sh.fields m in
    let all : All P c.seats = λ j d h. marked-more sh.fields (cell_bit w.marks) m _ (marks-grow c i s step a.core a.got a.ok t) (marked-now c a.core j d h) in
    local-kept P sh step c.seats i (seat_after sh s step (found c s step)) (new-marked sh m) (ended-marked sh m) all
    (marked-after sh w c.seats s step (found c s step) m (at-seat P c i s a.got all) a.ok (comes-marked c i s step a.core a.got a.ok))

-- no seat has work in hand while a block is swept
idle_at : (c : Core) (i : ℕ) (s : SeatState) → Taken c i s StoreAlloc → All (λ (t : SeatState). work_in_hand c.shape.fields t ≡ false) (seats_left c i s StoreAlloc)
idle_at c i s a =
    let P : SeatState → Type 0 = λ t. work_in_hand c.shape.fields t ≡ false in
    let all : All P c.seats = idle-seats c a.core (block-stops c i s a.core a.got (may-store-some s.block a.ok.1.0)) in
    local-kept P c.shape StoreAlloc c.seats i (seat_after c.shape s StoreAlloc (found c s StoreAlloc)) (λ k. refl) (λ k. refl) all (at-seat P c i s a.got all)

-- the cells in scan are published
published_kept : (c : Core) (i : ℕ) (s : SeatState) (step : Step) → Taken c i s step → frees step ≡ false → All (HandPublished c.shape.fields (cell_bit (words_left c s step).allocs)) (seats_left c i s step)
published_kept c i s step a f =
    let sh : Shape = c.shape in
    let w : Words = words_of sh c.words in
    let p : ℕ → Bool = cell_bit (words_left c s step).allocs in
    let P : SeatState → Type 0 = HandPublished sh.fields p in
    let all : All P c.seats = λ j d h. published-more sh.fields (cell_bit w.allocs) p _ (λ x h. alloc-on c i s step x a f h) (published-now c a.core j d h) in
    local-kept P sh step c.seats i (seat_after sh s step (found c s step)) (new-published sh p) (ended-published sh p) all
    (published-after sh w c.seats s step (found c s step) p (at-seat P c i s a.got all) a.ok (comes-published c i s step a.core a.got a.ok))

published_at : (c : Core) (i : ℕ) (s : SeatState) (step : Step) → Taken c i s step → All (HandPublished c.shape.fields (cell_bit (words_left c s step).allocs)) (seats_left c i s step)
published_at c i s StoreAlloc a = λ j d h. idle-published c.shape.fields _ _ (idle_at c i s a j d h)
published_at c i s step a = published_kept c i s step a refl

-- the cells that were loaded are in use
used_kept : (c : Core) (i : ℕ) (s : SeatState) (step : Step) → Taken c i s step → frees step ≡ false → All (HandUsed (in_use (words_left c s step).allocs (makers (seats_left c i s step)))) (seats_left c i s step)
used_kept c i s step a f =
    let sh : Shape = c.shape in
    let w : Words = words_of sh c.words in
    let u : ℕ → Bool = in_use w.allocs (makers c.seats) in
    let v : ℕ → Bool = in_use (words_left c s step).allocs (makers (seats_left c i s step)) in
    let grow : (x : ℕ) → u x ≡ true → v x ≡ true = λ x e. use-kept c i s step a x (λ t. absurd (true≢false (sym t ∙ f))) e in
    let t : SeatState = seat_after sh s step (found c s step) in
    let mine : HandUsed u t = used-after sh s step (found c s step) u (at-seat (HandUsed u) c i s a.got (used-now c a.core)) (comes-used c i s step a.core a.got a.ok) in
    local-kept (HandUsed v) sh step c.seats i t (λ k. tt) (λ k. tt) (λ j d h. used-more u v (get_or c.seats j d) grow (used-now c a.core j d h)) (used-more u v t grow mine)

used_at : (c : Core) (i : ℕ) (s : SeatState) (step : Step) → Taken c i s step → All (HandUsed (in_use (words_left c s step).allocs (makers (seats_left c i s step)))) (seats_left c i s step)
used_at c i s StoreAlloc a = λ j d h. idle-used c.shape.fields (in_use (words_left c s StoreAlloc).allocs (makers (seats_left c i s StoreAlloc))) (get_or (seats_left c i s StoreAlloc) j d) (idle_at c i s a j d h)
used_at c i s step a = used_kept c i s step a refl

marks_at : (c : Core) (i : ℕ) (s : SeatState) (step : Step) → Taken c i s step → MarksOf c.shape (words_left c s step) (seats_left c i s step)
marks_at c i s step a =
    let w : Words = words_left c s step in
    marks-of c.shape w.phase w.allocs w.marks w.heads w.entries (seats_left c i s step)
    (record {
      marked_in_use = λ x h e. in_use_after c i s step a x h e;
      entries_marked = λ t. entries_at c i s step a t;
      marked = λ t. marked_at c i s step a t;
      published = published_at c i s step a;
      used = used_at c i s step a;
    })

-- each event that is allowed keeps the rule of marks
pub marks-kept_by : (c : Core) (e : Event) → IsCore c → failing_part c e ≡ None → MarksOf (after_event c e).shape (words_of (after_event c e).shape (after_event c e).words) (after_event c e).seats
marks-kept_by c e k f = kept-after MarksOf c e k f (λ s _ t. marks_at c e.seat s e.step t)
