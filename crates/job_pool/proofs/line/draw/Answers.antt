use Rattle.job_pool.proofs.Rule.{draws, learns}
use Rattle.job_pool.proofs.line.draw.Goals as goal

pub pop_as-requires-clause-rule : goal.pop_as-requires-clause-rule
pop_as-requires-clause-rule g c = (draws _ _ c.requires.me.1, learns _ _)
