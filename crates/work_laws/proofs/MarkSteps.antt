-- What one step marks, and what it leaves to mark.
use Rattle.std.proofs.Common.{ℕ, ◌≡◌, ◌≢◌, ◌+◌, ◌*◌, ◌/◌, ◌%◌, ◌<◌, ◌≤◌, List, set, get_or, length, arith, refl, sym, ap, ◌∙◌, Bool, true, false, not, ◌||◌, eqb, cond, None, ⊎_elim}
use Rattle.std.specs.Prelude.{is_some}
use Rattle.std.specs.List.{count_by, range_with_len}
use Rattle.std.proofs.lemmas.Bool.{cases_eq, cases_Bool, and_parts, or_cases, eqb-true, ltb-true, true≢false}
use Rattle.std.proofs.lemmas.List.{length-map}
use Rattle.std.proofs.lemmas.List.Sums.{count_by-le-length}
use Rattle.std.proofs.lemmas.List.FromFn.{length-range_with_len}
use Rattle.mark_core.specs.Layout.{Words, words_of, region_sizes, block_count}
use Rattle.mark_core.specs.Bits.{has_bit, with_bit, cell_bit}
use Rattle.mark_core.specs.Rules.WorldRules.{is_tracing}
use Rattle.mark_core.specs.Steps.{Core}
use Rattle.mark_core.specs.declared.kinds.Phase.{Phase}
use Rattle.mark_core.specs.declared.kinds.Phase.TheVariants.{Idle, Marking, Drain, Sweep, Clear, Full}
use Rattle.mark_core.specs.declared.kinds.Shape.{Shape}
use Rattle.mark_core.specs.declared.kinds.Step.{Step}
use Rattle.mark_core.specs.declared.kinds.Step.TheVariants.{SetMark, StorePhase, ClearMarks, StoreField, ExchangeField, StoreRoot, FlushRoot, StoreSlot, StoreNew, PublishCells, NextBlock, StoreAlloc, Reset}
use Rattle.mark_core.specs.declared.seat.SeatState.{SeatState}
use Rattle.mark_core.proofs.Known.{found, words_left}
use Rattle.mark_core.proofs.Count.CountMoves.{bit, count-but-one}
use Rattle.mark_core.proofs.Writing.Places.{words-get, region-length}
use Rattle.mark_core.proofs.Writing.CellBits.{with_same, with_other, same-index, bit-here, bit-there}
use Rattle.mark_core.proofs.Writing.RegionWrites.{marks-kept}
use Rattle.mark_core.proofs.Writing.Writes.{phase-kept}
use Rattle.mark_core.proofs.Blocks.BlocksStopped.{Taken, within, in-place, none-in-hand, tracing}
use Rattle.mark_core.proofs.Blocks.BlocksSteps.{own-block}
use Rattle.mark_core.proofs.Blocks.BlocksWords.{heap-left}
use Rattle.work_laws.specs.Marking.{marks_anew, begins_marking, white_in}

-- a word with one more cell
abbrev marked_word : List ℕ → ℕ → ℕ
marked_word ws y = with_bit (get_or ws (y / 64) 0) (y % 64)

-- another cell's bit stays when this one's is set
other_bit : (ws : List ℕ) (y x : ℕ) → y / 64 < length ws → x ≢ y → cell_bit (set ws (y / 64) (marked_word ws y)) x ≡ cell_bit ws x
other_bit ws y x h n =
    ⊎_elim
    (λ (b : x / 64 ≡ y / 64).
    let far : x % 64 ≢ y % 64 = λ z. n (same-index x y b z) in
    bit-here ws (y / 64) (marked_word ws y) x h (sym b) ∙ (with_other (get_or ws (y / 64) 0) (y % 64) (x % 64) far ∙ ap (λ g. has_bit (get_or ws g 0) (x % 64)) (sym b)))
    (λ (m : x / 64 ≡ y / 64 → ⊥). bit-there ws (y / 64) (marked_word ws y) x m)
    (cases_eq (x / 64) (y / 64))

-- the cells that aren't marked
abbrev whites : Shape → List ℕ → ℕ
whites sh marks = count_by (λ x. not (cell_bit marks x)) (range_with_len 0 sh.cells)

-- a cell fewer is white if this one was
one_fewer : (sh : Shape) (ws : List ℕ) (y : ℕ) → y < sh.cells → y / 64 < length ws → bit (not (cell_bit ws y)) + whites sh (set ws (y / 64) (marked_word ws y)) ≡ whites sh ws
one_fewer sh ws y hy h =
    let f : ℕ → Bool = λ x. not (cell_bit ws x) in
    let g : ℕ → Bool = λ x. not (cell_bit (set ws (y / 64) (marked_word ws y)) x) in
    let is : cell_bit (set ws (y / 64) (marked_word ws y)) y ≡ true = bit-here ws (y / 64) (marked_word ws y) y h refl ∙ with_same (get_or ws (y / 64) 0) (y % 64) in
    let gone : bit (g y) ≡ 0 = ap (λ b. bit (not b)) is in
    let moved = count-but-one f g y 0 sh.cells (omega arith) (omega (arith, hy)) (λ x l k n. ap not (other_bit ws y x h n)) in
    omega (arith, moved, gone)

abbrev Marked : Core → SeatState → Step → Type 0
Marked c s step = bit (marks_anew c s step) + white_in c.shape (words_left c s step) ≤ white_in c.shape (words_of c.shape c.words) + c.shape.cells * bit (begins_marking c s step)

-- a cell is marked
set_mark : (c : Core) (i : ℕ) (s : SeatState) (y : ℕ) → Taken c i s (SetMark y) → Marked c s (SetMark y)
set_mark c i s y t =
    let w : Words = words_of c.shape c.words in
    let at = in-place c i s (SetMark y) t in
    let here : found c s (SetMark y) ≡ get_or w.marks (y / 64) 0 = words-get (region_sizes c.shape) 5 c.words (y / 64) 0 at in
    let long : length w.marks ≡ block_count c.shape = region-length (region_sizes c.shape) 5 c.words (omega (arith, t.core.formed.words)) in
    let hy : y < c.shape.cells = ltb-true y c.shape.cells (and_parts _ _ t.ok.0).0 in
    let time : is_tracing w.phase ≡ true = tracing c i s (SetMark y) t t.ok.1.0 in
    let one = one_fewer c.shape w.marks y hy (omega (arith, at, long)) in
    rw (here, time) (omega (arith, one))

-- no mark is lost while cells are marked
not_tracing : (phase : ℕ) → is_tracing phase ≡ true → (eqb phase 3 || eqb phase 4) ≡ false
not_tracing phase e =
    ⊎_elim
    (λ (a : eqb phase 1 ≡ true). ap (λ p. eqb p 3 || eqb p 4) (eqb-true phase 1 a))
    (λ (a : eqb phase 2 ≡ true). ap (λ p. eqb p 3 || eqb p 4) (eqb-true phase 2 a))
    (or_cases (eqb phase 1) (eqb phase 2) e)

clear_marks : (c : Core) (i : ℕ) (s : SeatState) → Taken c i s ClearMarks → Marked c s ClearMarks
clear_marks c i s t =
    let phase : ℕ = (words_of c.shape c.words).phase in
    ⊎_elim
    (λ (e : is_tracing phase ≡ true).
    let none : s.block ≡ None = sym (own-block c i s ClearMarks None t) ∙ none-in-hand c t.core (not_tracing phase e) i None (rw length-map (within c i s ClearMarks t)) in
    absurd (true≢false (sym t.ok.0 ∙ ap is_some none)))
    (λ (e : is_tracing phase ≡ false). rw e (omega arith))
    (cases_Bool (is_tracing phase))

few_white : (sh : Shape) (ws : List ℕ) → whites sh ws ≤ sh.cells
few_white sh ws = omega (arith, count_by-le-length (λ x. not (cell_bit ws x)) (range_with_len 0 sh.cells), length-range_with_len 0 sh.cells)

-- the white cells count in this phase
abbrev counted : ℕ → ℕ → ℕ
counted phase n = cond (is_tracing phase) n 0

try_marking : (phase n cells : ℕ) (b : Bool) → eqb phase 0 ≡ b → n ≤ cells → counted (cond b 1 phase) n ≤ counted phase n + cells * bit b
try_marking phase n cells true e h = omega (arith, h)
try_marking phase n cells false e h = omega arith

to_drain : (phase n cells : ℕ) (b : Bool) → eqb phase 1 ≡ b → n ≤ cells → n ≤ counted phase n + cells * bit (not b)
to_drain phase n cells true e h = rw (eqb-true phase 1 e) (omega arith)
to_drain phase n cells false e h = omega (arith, h)

-- the phase moves
store_phase : (c : Core) (i : ℕ) (s : SeatState) (to : Phase) → Taken c i s (StorePhase to) → Marked c s (StorePhase to)
store_phase c i s Marking t = let w : Words = words_of c.shape c.words in omega (arith, try_marking w.phase (whites c.shape w.marks) c.shape.cells (eqb w.phase 0) refl (few_white c.shape w.marks))
store_phase c i s Drain t = let w : Words = words_of c.shape c.words in omega (arith, to_drain w.phase (whites c.shape w.marks) c.shape.cells (eqb w.phase 1) refl (few_white c.shape w.marks))
store_phase c i s Idle t = omega arith
store_phase c i s Sweep t = omega arith
store_phase c i s Clear t = omega arith
store_phase c i s Full t = omega arith

-- a step that leaves the phase and the marks
same_white : (c : Core) (s : SeatState) (step : Step) → (words_left c s step).phase ≡ (words_of c.shape c.words).phase → (words_left c s step).marks ≡ (words_of c.shape c.words).marks → white_in c.shape (words_left c s step) ≡ white_in c.shape (words_of c.shape c.words)
same_white c s step p m = ap (λ (q : ℕ). cond (is_tracing q) (whites c.shape (words_left c s step).marks) 0) p ∙ ap (λ (ws : List ℕ). cond (is_tracing (words_of c.shape c.words).phase) (whites c.shape ws) 0) m

-- what a step marks
pub marks-paid : (c : Core) (i : ℕ) (s : SeatState) (step : Step) → Taken c i s step → Marked c s step
marks-paid c i s (SetMark y) t = set_mark c i s y t
marks-paid c i s ClearMarks t = clear_marks c i s t
marks-paid c i s (StorePhase to) t = store_phase c i s to t
marks-paid c i s (StoreField v f x) t = omega arith
marks-paid c i s (ExchangeField v f x y) t = omega arith
marks-paid c i s (StoreRoot v r) t = omega arith
marks-paid c i s (FlushRoot v) t = omega arith
marks-paid c i s (StoreSlot k r) t = omega arith
marks-paid c i s (StoreNew x part word) t = omega (arith, same_white c s (StoreNew x part word) (phase-kept c.shape s (StoreNew x part word) word (words_of c.shape c.words) refl) (marks-kept c.shape s (StoreNew x part word) word (words_of c.shape c.words) refl))
marks-paid c i s PublishCells t = omega arith
marks-paid c i s NextBlock t = omega arith
marks-paid c i s StoreAlloc t = omega arith
marks-paid c i s (Reset which) t = omega (arith, same_white c s (Reset which) (phase-kept c.shape s (Reset which) 0 (words_of c.shape c.words) refl) (marks-kept c.shape s (Reset which) 0 (words_of c.shape c.words) refl))
marks-paid c i s step t = omega (arith, same_white c s step (heap-left c i s step t refl).phase (heap-left c i s step t refl).marks)
