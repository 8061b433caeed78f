use Rattle.std.proofs.Common.{refl, ◌%◌}
use Rattle.mark_core.specs.declared.kinds.Step.TheVariants.{ReadCard}
use Rattle.bench_steps.specs.Records.{cards_in_all, resting}
use Rattle.bench_steps.specs.Taken.{a_look}
use Rattle.bench_steps.proofs.Makers.{at-after, takes-more}
use Rattle.bench_steps.proofs.table.loads.looks.Goals as goal

pub loop-round-preserved : goal.loop-round-preserved
loop-round-preserved c =
    let y = c.loop-round.seat in
    let k = c.loop-round.round in
    let r = c.read_card in
    let v = r.ensures.view in
    (at-after c.args.heap.now resting y r.new.seat (ReadCard (k % cards_in_all)) v.0 c.loop-round.invariant.0 r.ensures.seat v.1, takes-more a_look k c.args.seat.now y r.new.seat (ReadCard (k % cards_in_all)) v.0 refl c.loop-round.invariant.1 v.1)
