use Rattle.mark_core.proofs.conditions.failing_part.Goals as goal

pub returns-in-Mutator : goal.returns-in-Mutator
returns-in-Mutator c = c.of_mutator.ensures c.args.seats.now
