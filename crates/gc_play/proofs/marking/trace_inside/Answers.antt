use Rattle.std.proofs.Common.{false, refl, sym, ap, ◌∙◌, ◌++◌, subst, arith}
use Rattle.mark_core.specs.Numbers.{traced_count}
use Rattle.mark_core.specs.declared.kinds.Step.{Step}
use Rattle.mark_core.specs.declared.kinds.Step.TheVariants.{AddStat}
use Rattle.gc_table.specs.Log.{events}
use Rattle.gc_table.specs.Seats.{view_of}
use Rattle.gc_table.specs.declared.view.View.{View}
use Rattle.gc_table.proofs.History.Log.{events-after}
use Rattle.gc_table.proofs.Running.{ran-events, ran-took}
use Rattle.seat_turns.proofs.Tending.{recycles-tend}
use Rattle.gc_play.specs.Turns.{TracesInside}
use Rattle.gc_play.proofs.Steps.{stays-add_stat, stays-join}
use Rattle.gc_play.proofs.Tending.{inside-counted, inside-idle, marked-on, marked-stays}
use Rattle.gc_play.proofs.marking.trace_inside.Goals as goal

pub returns-then-traced-gt0-clause-traces : goal.returns-then-traced-gt0-clause-traces
returns-then-traced-gt0-clause-traces c =
    let a : View = view_of c.args.seat.now in
    let b : View = view_of c.mark_and_recycle-traced.new.seat in
    let d : View = view_of c.add_stat.new.seat in
    let n = c.mark_and_recycle-traced.result in
    let m = c.mark_and_recycle-traced.ensures.marks in
    let t = recycles-tend n a b m in
    let told = c.add_stat.ensures.view in
    let step : Step = AddStat traced_count n false in
    subst (TracesInside c.args.heap.now.shape a.state) (sym (ran-events a b d t.ran (ran-took b d step refl told) ∙ ap (λ l. events a b ++ l) (events-after b d step told.0 told.1.0)))
    (inside-counted c.args.heap.now.shape a.state n told.0 (events a b) (omega (arith, c.if-traced-gt0.true)) t.only t.done (marked-on c.args.heap.now.shape n a b c.requires.goes.sits.1 m))

pub returns-else-traced-gt0-clause-traces : goal.returns-else-traced-gt0-clause-traces
returns-else-traced-gt0-clause-traces c =
    let a : View = view_of c.args.seat.now in
    let b : View = view_of c.mark_and_recycle-traced.new.seat in
    let n = c.mark_and_recycle-traced.result in
    let m = c.mark_and_recycle-traced.ensures.marks in
    let t = recycles-tend n a b m in
    inside-idle c.args.heap.now.shape a.state n (events a b) (omega (arith, c.if-traced-gt0.false)) t.only t.done (marked-on c.args.heap.now.shape n a b c.requires.goes.sits.1 m)

pub returns-then-traced-gt0-clause-stays : goal.returns-then-traced-gt0-clause-stays
returns-then-traced-gt0-clause-stays c =
    let x = c.args.seat.now in
    let y = c.mark_and_recycle-traced.new.seat in
    let z = c.add_stat.new.seat in
    let e = c.mark_and_recycle-traced.ensures in
    let n = c.mark_and_recycle-traced.result in
    let told = c.add_stat.ensures.view in
    stays-join (view_of x) (view_of y) (view_of z) (marked-stays n c.args.heap.now x y c.requires e.seat (recycles-tend n (view_of x) (view_of y) e.marks)) (stays-add_stat (view_of y) (view_of z) traced_count n told.0 false told.1)

pub returns-else-traced-gt0-clause-stays : goal.returns-else-traced-gt0-clause-stays
returns-else-traced-gt0-clause-stays c =
    let x = c.args.seat.now in
    let y = c.mark_and_recycle-traced.new.seat in
    let e = c.mark_and_recycle-traced.ensures in
    let n = c.mark_and_recycle-traced.result in
    marked-stays n c.args.heap.now x y c.requires e.seat (recycles-tend n (view_of x) (view_of y) e.marks)
