use Rattle.std.proofs.Common.{ℕ, ◌≡◌, ◌<◌, ◌-◌, Option, None, Some}
use Rattle.std.specs.Prelude.{IfNone, IfSome}
use Rattle.mark_core.specs.declared.kinds.Step.TheVariants.{ReadValue}
use Rattle.gc_table.specs.Seats.{Found, Sits, view_of}
use Rattle.gc_table.specs.declared.seat.Heap.{Heap}
use Rattle.gc_table.specs.declared.seat.HeapSeat.{HeapSeat}
use Rattle.mutator_ops.specs.Sharing.{SharesReady}
use Rattle.seat_turns.specs.Standing.{HoldsTurn}
use Rattle.seat_turns.proofs.Held.{held-read-in, held-still-in, holds-in}
use Rattle.seat_steps.proofs.Few.{found-one}
use Rattle.shared_heap.proofs.mutator.SharedMutator.value.Goals as goal

-- a read of a value leaves the mutator at its turn, and so does none
still-there : (a h : Heap) (x y : HeapSeat) (word : ℕ) (r : Option ℕ) → h ≡ a → HoldsTurn a x → Sits h y × SharesReady (view_of y)
    → IfSome r (λ n. (0 < word) × Found (ReadValue (word - 1)) n (view_of x) (view_of y)) → IfNone r ((word ≡ 0) × (view_of y ≡ view_of x)) → HoldsTurn a y
still-there a h x y word (Some n) same t ready found none = held-read-in a h x y (word - 1) n same t ready found.1
still-there a h x y word None same t ready found none = held-still-in a h x y same t ready none.1

pub share_value_of-requires-clause-seat : goal.share_value_of-requires-clause-seat
share_value_of-requires-clause-seat c = let m = c.args.self.now in holds-in _ _ m.seat c.deref.ensures (m.inside c.in-Inside.is) m.shared

pub invariant_of-self-clause-inside : goal.invariant_of-self-clause-inside
invariant_of-self-clause-inside c = λ _.
    let m = c.args.self.now in
    let e = c.share_value_of.ensures in
    still-there _ _ m.seat c.share_value_of.new.seat _ c.share_value_of.result c.deref.ensures (m.inside c.in-Inside.is) e.seat e.some e.none

pub returns-in-Some-clause-few : goal.returns-in-Some-clause-few
returns-in-Some-clause-few c = found-one _ _ (view_of c.args.self.now.seat) (view_of c.share_value_of.new.seat) c.in-Some.ensures.some.1
