use Rattle.std.proofs.Common.{◌+◌, ◌-◌, ◌∙◌, ap, arith, sym, subst}
use Rattle.gc_table.specs.Seats.{view_of}
use Rattle.gc_table.specs.declared.view.View.{View}
use Rattle.gc_table.specs.Log.{events}
use Rattle.gc_table.proofs.Running.{ran-events, ran-join}
use Rattle.gc_cycle.specs.Draining.{HelpsOn}
use Rattle.gc_cycle.specs.Events.{never}
use Rattle.gc_cycle.specs.Sorts.{passes_card}
use Rattle.gc_cycle.proofs.Ends.Finishes.{never-both}
use Rattle.gc_cycle.proofs.Stops.Admitted.{unpassed}
use Rattle.gc_cycle.proofs.Stops.HelperDrains.{helped-still, helped-traced}
use Rattle.gc_cycle.proofs.helping.trace_on.Goals as goal

pub returns-then-lacks_work-clause-helps : goal.returns-then-lacks_work-clause-helps
returns-then-lacks_work-clause-helps c = λ u h.
    let e = c.lacks_work.ensures in
    helped-still c.args.quota c.args.before u (view_of c.args.seat.now) (view_of c.lacks_work.new.seat) h c.requires.ended e.traced e.unpopped e.unpassed e.rescanned

pub returns-clause-helps : goal.returns-clause-helps
returns-clause-helps c = λ u h.
    let v : View = view_of c.args.seat.now in
    let w : View = view_of c.lacks_work.new.seat in
    let x : View = view_of c.trace-more.new.seat in
    let e = c.lacks_work.ensures in
    let t = c.trace-more.ensures in
    let low = c.requires.quota.0 in
    let still = helped-still c.args.quota c.args.before u v w h c.requires.ended e.traced e.unpopped e.unpassed e.rescanned in
    subst
    (λ k. HelpsOn c.args.quota (record { traced = c.args.before.traced + c.trace-more.result.done; rescanned = c.args.before.rescanned; swept = c.args.before.swept; ended = k }) u x)
    (sym c.end_of.ensures)
    (helped-traced c.args.quota (c.args.quota - c.args.before.traced) c.args.before c.trace-more.result u w x still t.traced t.ends t.most (omega (arith, low)) t.rescanned t.uncleaned)

pub returns-then-lacks_work-clause-unpassed : goal.returns-then-lacks_work-clause-unpassed
returns-then-lacks_work-clause-unpassed c = c.lacks_work.ensures.unpassed

pub returns-clause-unpassed : goal.returns-clause-unpassed
returns-clause-unpassed c =
    let v : View = view_of c.args.seat.now in
    let w : View = view_of c.lacks_work.new.seat in
    let x : View = view_of c.trace-more.new.seat in
    let e = c.lacks_work.ensures in
    let t = c.trace-more.ensures in
    ap (never passes_card) (ran-events v w x e.traced.ran t.traced.ran) ∙ never-both passes_card (events v w) (events w x) e.unpassed (unpassed (events w x) t.uncounted t.uncleaned)

pub returns-clause-ran : goal.returns-clause-ran
returns-clause-ran c = ran-join (view_of c.args.seat.now) (view_of c.lacks_work.new.seat) (view_of c.trace-more.new.seat) c.lacks_work.ensures.traced.ran c.trace-more.ensures.traced.ran
