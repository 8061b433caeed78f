use Rattle.std.proofs.Common.{◌+◌, ◌≤◌, false}
use Rattle.example_locks.specs.Visits.{AddsVisits}
use Rattle.example_locks.proofs.visiting.visit_often.Given as goal

abbrev pub invariant-loop : goal.invariant-loop
invariant-loop g l = record {
  next : (goal.iterator-loop g).can_next l.iterator';
  finite : (goal.iterator-loop g).is_finite l.iterator';
  visited : AddsVisits false false (l.done + l.done) l.fn.m l.m;
  below : l.done ≤ l.times;
}
