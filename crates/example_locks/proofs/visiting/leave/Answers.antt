use Rattle.std.proofs.Common.{not}
use Rattle.std.specs.Prelude.{Bool, false, if◌then◌else◌, true}
use Rattle.std.specs.Bool.{OnTrue}
use Rattle.shared_heap.specs.declared.mutator.SharedMutator.{SharedMutator}
use Rattle.example_locks.specs.Visits.{AddsVisits}
use Rattle.example_locks.proofs.Calls.{leave-visits}
use Rattle.example_locks.proofs.visiting.leave.Goals as goal

by_won : (won : Bool) (x y : SharedMutator) → AddsVisits true (not won) (if won then 1 else 0) x y → OnTrue won (AddsVisits true false 1 x y)
by_won true x y a = a
by_won false x y a = tt

pub returns-in-Ok : goal.returns-in-Ok
returns-in-Ok c = record { left = by_won c.in-Ok.won c.args.m.now c.exchange_value.new.self (leave-visits _ c.args.m.now c.exchange_value.new.self c.in-Ok.won c.in-Ok.ensures.done) }
