use Rattle.std.proofs.Common.{◌≤◌}
use Rattle.shared_heap.specs.Logs.{AddsRaises}
use Rattle.example_heaps.proofs.counting.raise.Given as goal

abbrev pub invariant-loop : goal.invariant-loop
invariant-loop g l = record {
  next : (goal.iterator-loop g).can_next l.iterator';
  finite : (goal.iterator-loop g).is_finite l.iterator';
  raised : AddsRaises l.won l.fn.m l.m;
  below : l.won ≤ l.times;
}
