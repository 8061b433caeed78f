use Rattle.std.proofs.Common.{refl}
use Rattle.mark_core.specs.declared.kinds.Step.TheVariants.{ReadCount}
use Rattle.bench_steps.specs.Records.{resting}
use Rattle.bench_steps.specs.Taken.{a_load}
use Rattle.bench_steps.proofs.Makers.{at-after, takes-more}
use Rattle.bench_steps.proofs.table.loads.loads.Goals as goal

pub loop-round-preserved : goal.loop-round-preserved
loop-round-preserved c =
    let y = c.loop-round.seat in
    let r = c.read_count-sum in
    (at-after c.args.heap.now resting y r.new.seat ReadCount r.result c.loop-round.invariant.0 r.ensures.seat r.ensures.view.0, takes-more a_load c.loop-round._round c.args.seat.now y r.new.seat ReadCount r.result refl c.loop-round.invariant.1 r.ensures.view.0)
