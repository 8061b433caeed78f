use Rattle.std.proofs.Common.{refl, ap, ◌∙◌}
use Rattle.mark_core.specs.declared.kinds.Step.TheVariants.{Observe}
use Rattle.gc_table.specs.Log.{events}
use Rattle.gc_table.specs.Seats.{view_of}
use Rattle.gc_table.specs.declared.view.View.{View}
use Rattle.gc_table.proofs.History.Log.{events-after, only-after}
use Rattle.gc_table.proofs.Running.{ran-events, ran-only}
use Rattle.gc_cycle.specs.Events.{never}
use Rattle.gc_cycle.specs.Sorts.{leaves}
use Rattle.gc_cycle.specs.Statistics.{leaves_numbers}
use Rattle.gc_cycle.proofs.SectionKept.{out-join}
use Rattle.gc_cycle.proofs.Stops.OutAndIn.{polled-out}
use Rattle.gc_cycle.proofs.Stops.Waits.{stays-join}
use Rattle.gc_cycle.proofs.Turns.{apart-join, apart-look}
use Rattle.gc_cycle.proofs.stopping.is_over_or_wanted.Goals as goal

pub returns-clause-out : goal.returns-clause-out
returns-clause-out c =
    let v : View = view_of c.args.seat.now in
    let w : View = view_of c.poll.new.seat in
    let t = c.poll.ensures.step in
    out-join v w (view_of c.is_wanted.new.seat) (polled-out v w t.0 c.poll.ensures.ran t.1).0 c.is_wanted.ensures.out

pub returns-clause-numbers : goal.returns-clause-numbers
returns-clause-numbers c =
    let v : View = view_of c.args.seat.now in
    let w : View = view_of c.poll.new.seat in
    let t = c.poll.ensures.step in
    let e = c.is_wanted.ensures in
    ran-only leaves_numbers v w (view_of c.is_wanted.new.seat) c.poll.ensures.ran e.out.ran (only-after leaves_numbers v w Observe t.0 refl t.1) e.numbers

pub returns-clause-inside : goal.returns-clause-inside
returns-clause-inside c =
    let v : View = view_of c.args.seat.now in
    let w : View = view_of c.poll.new.seat in
    let x : View = view_of c.is_wanted.new.seat in
    let t = c.poll.ensures.step in
    let e = c.is_wanted.ensures in
    ap (never leaves) (ran-events v w x c.poll.ensures.ran e.out.ran) ∙ stays-join (events v w) (events w x) (ap (never leaves) (events-after v w Observe t.0 t.1)) e.inside

pub returns-clause-apart : goal.returns-clause-apart
returns-clause-apart c =
    let v : View = view_of c.args.seat.now in
    let w : View = view_of c.poll.new.seat in
    let t = c.poll.ensures.step in
    let e = c.is_wanted.ensures in
    (apart-join v w (view_of c.is_wanted.new.seat) (apart-look v w t.0 c.poll.ensures.ran t.1) (record { ran = e.out.ran; apart = e.apart })).apart
