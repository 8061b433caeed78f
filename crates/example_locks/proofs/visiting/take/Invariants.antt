use Rattle.std.specs.Prelude.{false, if◌then◌else◌}
use Rattle.example_locks.specs.Visits.{AddsVisits}
use Rattle.example_locks.proofs.visiting.take.Given as goal

abbrev pub invariant-loop : goal.invariant-loop
invariant-loop g l = record {
  next : (goal.iterator-loop g).can_next l.iterator';
  finite : (goal.iterator-loop g).is_finite l.iterator';
  taken : AddsVisits false l.had (if l.had then 1 else 0) l.fn.m l.m;
}
