use Rattle.std.proofs.Common.{inl}
use Rattle.bench_steps.proofs.operations.sweeping.prepare.Goals as goal

pub drains-requires-clause-begins : goal.drains-requires-clause-begins
drains-requires-clause-begins c = inl c.requires.alone
