use Rattle.std.proofs.Common.{None, refl, ap, ◌∙◌}
use Rattle.std.specs.Prelude.{is_none}
use Rattle.mark_core.specs.Steps.MutatorSteps.{without_used}
use Rattle.mark_core.specs.declared.kinds.Step.TheVariants.{PublishCells, ReleaseBlock}
use Rattle.bench_steps.proofs.Makers.{makes-after, published-whole}
use Rattle.bench_steps.proofs.table.making.finish.Goals as goal

pub returns : goal.returns
returns c =
    let h = c.args.heap.now in
    let x = c.args.seat.now in
    let p = c.publish_cells in
    let r = c.release_block in
    let m = c.requires.0 in
    let one = makes-after h x p.new.seat PublishCells p.result (without_used m.cache) m p.ensures.seat p.ensures.view.0 refl (published-whole m.cache m.whole) refl in
    let two = makes-after h p.new.seat r.new.seat ReleaseBlock _ None one.0 r.ensures.seat r.ensures.view refl refl refl in
    (two.0, ap is_none two.1, two.2 ∙ one.2)
