use Rattle.gc_cycle.proofs.helping.help.Goals as goal

pub returns-clause-unpassed : goal.returns-clause-unpassed
returns-clause-unpassed c = c.help_with.ensures.passes
