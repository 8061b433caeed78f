use Rattle.std.proofs.Common.{◌∙◌, ap, subst, sym}
use Rattle.std.specs.Arc.{arc_value}
use Rattle.gc_table.specs.Seats.{view_of}
use Rattle.gc_table.specs.declared.seat.Heap.{Heap}
use Rattle.gc_table.specs.declared.seat.HeapSeat.{HeapSeat}
use Rattle.seat_turns.specs.Sharing.{LeavesHeap}
use Rattle.shared_heap.specs.Calls.{LeavesFrom}
use Rattle.shared_heap.specs.declared.mutator.Place.{Place}
use Rattle.shared_heap.proofs.mutator.SharedMutator.into_steps.Goals as goal

pub returns : goal.returns
returns c =
    let e = c.of_resting.ensures.stepped in
    let l = c.leave.ensures in
    record {
      steps = record {
        outside = e.outside;
        rests = λ out. e.seat ∙ subst (λ (p : Place). LeavesFrom p c.args.self.seat c.leave.new.self.seat) out l.left.leaves;
        left = subst (λ (s : HeapSeat). LeavesFrom c.args.self.place c.args.self.seat s) (sym e.seat) l.left.leaves;
        leaves = subst (λ (s : HeapSeat). LeavesHeap (view_of c.args.self.seat) (view_of s)) (sym e.seat) l.left.same.leaves;
        world = ap (λ h. arc_value h) e.heap ∙ l.world;
        name_is = e.name_is ∙ l.name;
        shared = ap (λ (h : Heap). h.shape.sharing) (ap (λ h. arc_value h) e.heap) ∙ c.leave.new.self.shared;
        stops = e.stops;
        new = e.new;
      };
    }
