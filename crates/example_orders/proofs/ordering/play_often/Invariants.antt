use Rattle.std.proofs.Common.{◌≡◌}
use Rattle.example_orders.proofs.ordering.play_often.Given as goal

abbrev pub invariant-loop : goal.invariant-loop
invariant-loop g l = record {
  next : (goal.iterator-loop g).can_next l.iterator';
  finite : (goal.iterator-loop g).is_finite l.iterator';
  none : l.against ≡ 0;
}
