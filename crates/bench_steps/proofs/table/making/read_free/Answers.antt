use Rattle.std.proofs.Common.{◌∙◌, refl, ap, sym}
use Rattle.std.specs.Prelude.{is_some}
use Rattle.mark_core.specs.Steps.MutatorSteps.{with_free}
use Rattle.mark_core.specs.Seats.{is_unread}
use Rattle.mark_core.specs.declared.kinds.Step.TheVariants.{ReadFree}
use Rattle.bench_steps.proofs.Makers.{makes-after, cache-is, read-whole, read-some}
use Rattle.bench_steps.proofs.table.making.read_free.Goals as goal

pub returns : goal.returns
returns c =
    let h = c.args.heap.now in
    let x = c.args.seat.now in
    let r = c.read_free in
    let m = c.requires.0 in
    let makes = makes-after h x r.new.seat ReadFree r.result (with_free m.cache r.result) m r.ensures.seat r.ensures.view.0 refl (read-whole m.cache r.result m.whole) refl in
    let unread = sym (ap is_unread (cache-is h x m)) ∙ c.requires.1 in
    (makes.0, ap is_some makes.1 ∙ read-some m.cache r.result unread, makes.2)
