use Rattle.std.proofs.Common.{take, refl, arith}
use Rattle.managed_heap_c.proofs.Died.{none-noted, noted}
use Rattle.managed_heap_c.proofs.deaths.counts.Goals as goal

pub returns-in-Done-clause-counts : goal.returns-in-Done-clause-counts
returns-in-Done-clause-counts c = none-noted c.args.came c.args.k (take c.args.many.now c.args.dead.now) c.in-Done.is

pub returns-in-Dead-clause-counts : goal.returns-in-Dead-clause-counts
returns-in-Dead-clause-counts c = noted c.args.came c.args.k c.args.many.now c.args.dead.now c.in-Dead.is (omega (arith, c.requires.room))

pub returns-in_default-clause-refused : goal.returns-in_default-clause-refused
returns-in_default-clause-refused c = ((c.in_default.not-Done, c.in_default.not-Dead), refl)
