use Rattle.std.specs.Prelude.{Bool, false, true}
use Rattle.std.specs.Bool.{OnTrue}
use Rattle.std.proofs.Common.{not}
use Rattle.std.specs.Prelude.{if◌then◌else◌}
use Rattle.shared_heap.specs.Logs.{AddsLocks}
use Rattle.shared_heap.specs.declared.mutator.SharedMutator.{SharedMutator}
use Rattle.shared_heap.proofs.Logs.{leave-locks}
use Rattle.example_heaps.proofs.locking.leave.Goals as goal

by_won : (won : Bool) (x y : SharedMutator) → AddsLocks true (not won) (if won then 1 else 0) x y → OnTrue won (AddsLocks true false 1 x y)
by_won true x y a = a
by_won false x y a = tt

pub returns-in-Ok : goal.returns-in-Ok
returns-in-Ok c = record { left = by_won c.in-Ok.won c.args.m.now c.exchange_value.new.self (leave-locks _ c.args.m.now c.exchange_value.new.self 0 c.in-Ok.won c.in-Ok.ensures.done) }
