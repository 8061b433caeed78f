use Rattle.std.proofs.Common.{rules}
use Rattle.shared_heap.proofs.Deaths.{known-dead, told-dead}
use Rattle.shared_heap.proofs.mutator.SharedMutator.upgrade.Goals as goal

pub returns-in-Ok-false-clause-death : goal.returns-in-Ok-false-clause-death
returns-in-Ok-false-clause-death c = told-dead c.args.weak c.args.v c.args.self.now c.upgrade_here.new.self (search rules)

pub returns-in-Ok-false-clause-whoever : goal.returns-in-Ok-false-clause-whoever
returns-in-Ok-false-clause-whoever c = known-dead c.args.weak c.args.v c.args.self.now c.upgrade_here.new.self (search rules)
