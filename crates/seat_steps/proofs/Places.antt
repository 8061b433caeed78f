-- Where the object of a variable lies.
use Rattle.std.proofs.Common.{ℕ, ◌≡◌, ◌<◌, ◌+◌, ◌∙◌, ap, arith, length, subst, sym}
use Rattle.std.proofs.Math.Logic.{∥∥₁_elim}
use Rattle.std.proofs.Props.{props}
use Rattle.std.proofs.lemmas.Bool.{lt-ltb, ltb-true}
use Rattle.std.proofs.lemmas.List.{get_or-set_same}
use Rattle.mark_core.specs.Bits.{reference_in}
use Rattle.mark_core.specs.Numbers.{section_variables}
use Rattle.mark_core.specs.Steps.MutatorSteps.{seat_variable as word_in}
use Rattle.mark_core.specs.declared.kinds.Shape.{Shape}
use Rattle.mark_core.specs.declared.seat.SeatState.{SeatState}
use Rattle.mark_core.specs.declared.kinds.Step.TheVariants.{ReadCount}
use Rattle.mark_core.proofs.Formed.FormedLearns.{used-exists}
use Rattle.mark_core.proofs.References.ReferencesRoots.{known-used}
use Rattle.gc_table.specs.Rule.{IsPossible}
use Rattle.gc_table.specs.Seats.{Sits, view_of}
use Rattle.gc_table.specs.declared.seat.Heap.{Heap}
use Rattle.gc_table.specs.declared.seat.HeapSeat.{HeapSeat}
use Rattle.gc_table.specs.declared.view.View.{View}
use Rattle.gc_table.proofs.Running.{ran-shape}
use Rattle.mutator_ops.proofs.Knowing.{knows-there, taken-there}
use Rattle.seat_turns.specs.Sharing.{MakesSharedAfter}

-- what a variable names is a cell of the heap
word_inside : (v : View) (u c : ℕ) → ∥ IsPossible v ∥₁ → u < section_variables → word_in v.state u ≡ c + 1 → c < v.shape.cells
word_inside v u c p below e =
    ltb-true c v.shape.cells
    (∥∥₁_elim p (Prim.hlevel props)
    (λ (q : IsPossible v).
    let used = known-used q.state.core q.index v.state ReadCount c (taken-there q.state q.index v q.whole q.agrees q.live) (knows-there q.state q.index v q.whole q.agrees q.live u c below e) in
    lt-ltb c v.shape.cells (subst (λ (sh : Shape). c < sh.cells) (sym q.agrees.shape) (used-exists q.state.core c q.whole.core.formed used))))

pub seat-inside : (h : Heap) (x : HeapSeat) (u c : ℕ) → Sits h x → u < section_variables → word_in (view_of x).state u ≡ c + 1 → c < h.shape.cells
seat-inside h x u c sits below e = subst (λ (sh : Shape). c < sh.cells) sits.1 (word_inside (view_of x) u c x.possible below e)

env_long : (v : View) → ∥ IsPossible v ∥₁ → length v.state.env ≡ section_variables
env_long v p = ∥∥₁_elim p (Prim.hlevel props) (λ (q : IsPossible v). (q.whole.core.formed.seats q.index v.state q.agrees.seat).env)

small : (c : ℕ) → c < 16777216 → reference_in (c + 1) ≡ c + 1
small c l = omega (arith, l)

-- the variable of an object that was made isn't nil
pub made-some : (h : Heap) (x y : HeapSeat) (u n : ℕ) → Sits h x → u < section_variables → MakesSharedAfter u n (view_of x) (view_of y) → 0 < word_in (view_of y).state u
made-some h x y u n sits below k =
    let v : View = view_of x in
    let w : View = view_of y in
    let came : View = k.came in
    let m = k.makes in
    let shape = ran-shape v came k.leaves.ran ∙ sits.1 in
    let cells : m.cell < h.shape.cells = subst (λ (sh : Shape). m.cell < sh.cells) shape m.inside in
    let low : m.cell < 16777216 = let most = h.shaped.cells.1 in omega (arith, cells, most) in
    let long : length came.state.env ≡ section_variables = ap length k.leaves.words ∙ env_long v x.possible in
    let here : u < length came.state.env = omega (arith, below, long) in
    let word : word_in w.state u ≡ m.cell + 1 = ap (λ (s : SeatState). word_in s u) m.creates.state ∙ (get_or-set_same came.state.env u (reference_in (m.cell + 1)) 0 here ∙ small m.cell low) in
    omega (arith, word)
