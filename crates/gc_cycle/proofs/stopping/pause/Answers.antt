use Rattle.std.proofs.Common.{refl, ap, ◌∙◌}
use Rattle.gc_table.specs.Seats.{view_of}
use Rattle.gc_table.specs.declared.view.View.{View}
use Rattle.gc_table.proofs.History.Log.{events-none, only-none}
use Rattle.gc_cycle.specs.Events.{never}
use Rattle.gc_cycle.specs.Sorts.{joins, leaves}
use Rattle.gc_cycle.proofs.SectionKept.{out-join, out-none}
use Rattle.gc_cycle.proofs.Stops.Waits.{stays-join}
use Rattle.gc_cycle.proofs.Turns.{apart-join}
use Rattle.gc_cycle.specs.Statistics.{leaves_numbers}
use Rattle.gc_table.proofs.Running.{ran-events, ran-only}
use Rattle.gc_table.specs.Log.{events}
use Rattle.gc_cycle.proofs.stopping.pause.Goals as goal

pub loop-init : goal.loop-init
loop-init c =
    let v : View = view_of c.args.seat.now in
    record { sits = c.requires.seat.0; out = c.requires.seat.1; goes = out-none v; own = refl; inside = ap (never leaves) (events-none v); numbers = only-none leaves_numbers v; apart = ap (never joins) (events-none v) }

pub loop-preserved : goal.loop-preserved
loop-preserved c =
    let u : View = view_of c.args.seat.now in
    let v : View = view_of c.loop.seat in
    let w : View = view_of c.is_over_or_wanted.new.seat in
    let i = c.loop.invariant in
    let e = c.is_over_or_wanted.ensures in
    record {
      sits = e.seat.0;
      out = e.seat.1;
      goes = out-join u v w i.goes e.out;
      own = e.own ∙ i.own;
      inside = ap (never leaves) (ran-events u v w i.goes.ran e.out.ran) ∙ stays-join (events u v) (events v w) i.inside e.inside;
      numbers = ran-only leaves_numbers u v w i.goes.ran e.out.ran i.numbers e.numbers;
      apart = (apart-join u v w (record { ran = i.goes.ran; apart = i.apart }) (record { ran = e.out.ran; apart = e.apart })).apart;
    }

pub returns-then-is_over_or_wanted-clause-out : goal.returns-then-is_over_or_wanted-clause-out
returns-then-is_over_or_wanted-clause-out c = out-join (view_of c.args.seat.now) (view_of c.loop.seat) (view_of c.is_over_or_wanted.new.seat) c.loop.invariant.goes c.is_over_or_wanted.ensures.out

pub returns-then-is_over_or_wanted-clause-numbers : goal.returns-then-is_over_or_wanted-clause-numbers
returns-then-is_over_or_wanted-clause-numbers c =
    let i = c.loop.invariant in
    let e = c.is_over_or_wanted.ensures in
    ran-only leaves_numbers (view_of c.args.seat.now) (view_of c.loop.seat) (view_of c.is_over_or_wanted.new.seat) i.goes.ran e.out.ran i.numbers e.numbers

pub returns-then-is_over_or_wanted-clause-inside : goal.returns-then-is_over_or_wanted-clause-inside
returns-then-is_over_or_wanted-clause-inside c =
    let u : View = view_of c.args.seat.now in
    let v : View = view_of c.loop.seat in
    let w : View = view_of c.is_over_or_wanted.new.seat in
    let i = c.loop.invariant in
    let e = c.is_over_or_wanted.ensures in
    ap (never leaves) (ran-events u v w i.goes.ran e.out.ran) ∙ stays-join (events u v) (events v w) i.inside e.inside

pub returns-then-is_over_or_wanted-clause-apart : goal.returns-then-is_over_or_wanted-clause-apart
returns-then-is_over_or_wanted-clause-apart c =
    let i = c.loop.invariant in
    let e = c.is_over_or_wanted.ensures in
    (apart-join (view_of c.args.seat.now) (view_of c.loop.seat) (view_of c.is_over_or_wanted.new.seat) (record { ran = i.goes.ran; apart = i.apart }) (record { ran = e.out.ran; apart = e.apart })).apart
