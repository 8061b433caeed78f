use Rattle.bench_steps.proofs.operations.sweeping.settle.Goals as goal

pub returns-clause-ready : goal.returns-clause-ready
returns-clause-ready c = c.if-not-drained.ensures.drained.rooted.ready
