use Rattle.std.proofs.Common.{ℕ, ◌<◌, ◌≤◌, ◌+◌, ◌*◌, length, [], ◌∷◌, false}
use Rattle.std.specs.Prelude.{IsFalse, IsTrue}
use Rattle.mark_core.specs.Seats.{work_in_hand}
use Rattle.gc_table.specs.Seats.{Sits, view_of}
use Rattle.packet_pools.specs.OnlyTraced.{OnlyTraced}
use Rattle.gc_table.specs.Log.{events}
use Rattle.packet_pools.specs.Tracing.{Traces}
use Rattle.packet_pools.specs.StepBounds.{any_steps, follow_steps, room_left, room_steps}
use Rattle.packet_pools.specs.Tried.{DirtiesLast, IsTried}
use Rattle.tracer.specs.Hands.{Carries}
use Rattle.tracer.specs.Roots.{FollowsRoots, root_marked, roots_of}
use Rattle.tracer.proofs.roots.scan_roots.Given as goal

abbrev pub invariant-loop-variable : goal.invariant-loop-variable
invariant-loop-variable l = record {
  sits : Sits l.heap l.seat;
  traces : Traces (view_of l.seat);
  only : OnlyTraced (view_of l.fn.seat) (view_of l.seat);
  out : Carries (l.out ∷ []) (view_of l.seat);
  work : IsFalse (work_in_hand l.heap.shape.fields (view_of l.seat).state);
  most : l.marked ≤ l.variable;
  follows : (lost : ℕ) × (lost ≤ l.marked) × FollowsRoots l.heap.shape (roots_of l.fn.section l.variable) l.marked lost (events (view_of l.fn.seat) (view_of l.seat));
  seen : (v : ℕ) → v < l.variable → IsTrue (root_marked l.fn.section v (events (view_of l.fn.seat) (view_of l.seat)));
  tried : IsTried l.heap.shape (λ p. false) l.search l.out (events (view_of l.fn.seat) (view_of l.seat));
  cause : DirtiesLast l.heap.shape (events (view_of l.fn.seat) (view_of l.seat));
  few : length (events (view_of l.fn.seat) (view_of l.seat)) + room_left l.heap.shape l.search l.out.length ≤ any_steps l.heap.shape + room_steps l.heap.shape + l.variable * follow_steps l.heap.shape;
}
