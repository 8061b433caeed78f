use Rattle.std.proofs.Common.{◌≤◌, take}
use Rattle.managed_heap_c.specs.Deaths.{AsksFirst}
use Rattle.managed_heap_c.proofs.deaths.go_through.Given as goal

abbrev pub invariant-loop-k : goal.invariant-loop-k
invariant-loop-k l = record {
  below : l.many ≤ l.k;
  asks : AsksFirst l.k l.fn.v l.fn.weaks (take l.many l.dead) l.fn.stepper l.stepper;
}
