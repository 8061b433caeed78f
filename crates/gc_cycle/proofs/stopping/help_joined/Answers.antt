use Rattle.gc_table.specs.Seats.{view_of}
use Rattle.gc_cycle.proofs.SectionKept.{goes-out}
use Rattle.gc_cycle.proofs.stopping.help_joined.Goals as goal

pub returns-in-Some-Drain-clause-out : goal.returns-in-Some-Drain-clause-out
returns-in-Some-Drain-clause-out c = goes-out (view_of c.args.seat.now) (view_of c.help_with.new.seat) c.help_with.ensures.ran c.help_with.ensures.only

pub returns-in-Some-Sweep-clause-out : goal.returns-in-Some-Sweep-clause-out
returns-in-Some-Sweep-clause-out c = goes-out (view_of c.args.seat.now) (view_of c.help_with-in-Some-Sweep.new.seat) c.help_with-in-Some-Sweep.ensures.ran c.help_with-in-Some-Sweep.ensures.only

pub returns-in-Some-Drain-clause-helps : goal.returns-in-Some-Drain-clause-helps
returns-in-Some-Drain-clause-helps c = λ _. (c.help_with.result, c.help_with.ensures.helps)

pub returns-in-Some-Sweep-clause-helps : goal.returns-in-Some-Sweep-clause-helps
returns-in-Some-Sweep-clause-helps c = λ _. (c.help_with-in-Some-Sweep.result, c.help_with-in-Some-Sweep.ensures.helps)

pub returns-in-Some-Drain-clause-passes : goal.returns-in-Some-Drain-clause-passes
returns-in-Some-Drain-clause-passes c = c.help_with.ensures.passes
