use Rattle.gc_table.specs.Seats.{view_of}
use Rattle.seat_turns.proofs.Leaving.{leaves-join}
use Rattle.std.proofs.lemmas.Result.{IfErr-weaker, IfOk-weaker}
use Rattle.gc_cycle.specs.declared.counts.Refill.{Refill}
use Rattle.gc_cycle.specs.declared.counts.Refill.TheVariants as refills
use Rattle.gc_table.specs.declared.view.View.{View}
use Rattle.seat_turns.specs.Coming.{FillsOnce, RefillsBeside, RefillsInStops}
use Rattle.seat_turns.proofs.Coming.{by-pace, by-stops, filled-with}
use Rattle.std.proofs.Common.{Bool, false, subst, sym, true}
use Rattle.mark_core.specs.declared.kinds.Shape.{Shape}
use Rattle.gc_cycle.proofs.Stops.Spared.{spares-retires}
use Rattle.cache_refills.proofs.Telling.{told-more}
use Rattle.seat_turns.specs.Telling.{TellsFill, TellsFills}
use Rattle.seat_turns.proofs.Telling.{fills-first, fills-one}
use Rattle.seat_turns.proofs.turns.fill.Goals as goal

pub returns-then-in_stops-clause-leaves : goal.returns-then-in_stops-clause-leaves
returns-then-in_stops-clause-leaves g c = leaves-join (view_of c.args.seat.now) (view_of c.retire_some.new.seat) (view_of c.fill_in_stops.new.seat) c.retire_some.ensures.leaves c.fill_in_stops.ensures.leaves

pub returns-else-in_stops-clause-leaves : goal.returns-else-in_stops-clause-leaves
returns-else-in_stops-clause-leaves g c = leaves-join (view_of c.args.seat.now) (view_of c.retire_some.new.seat) (view_of c.fill_beside.new.seat) c.retire_some.ensures.leaves c.fill_beside.ensures.leaves

pub returns-then-in_stops-clause-fills : goal.returns-then-in_stops-clause-fills
returns-then-in_stops-clause-fills g c =
    let sh = c.args.heap.now.shape in
    let v : View = view_of c.args.seat.now in
    let u : View = view_of c.retire_some.new.seat in
    let w : View = view_of c.fill_in_stops.new.seat in
    let once : (r : Refill) → RefillsInStops sh r u w → FillsOnce c.args.in_stops sh c.args.cache r v w =
    λ r x. record { lacks = c.requires.lacks; given = u; gives = c.retire_some.ensures.gives; refills = by-stops c.args.in_stops sh r u w c.if-in_stops.true x } in
    IfOk-weaker c.fill_in_stops.result _ _ (λ kept filled. filled-with kept (RefillsInStops sh) (FillsOnce c.args.in_stops sh c.args.cache) v u w once filled) c.fill_in_stops.ensures.refilled

pub returns-then-in_stops-clause-full : goal.returns-then-in_stops-clause-full
returns-then-in_stops-clause-full g c =
    let sh = c.args.heap.now.shape in
    let v : View = view_of c.args.seat.now in
    let u : View = view_of c.retire_some.new.seat in
    let w : View = view_of c.fill_in_stops.new.seat in
    let once : RefillsInStops sh refills.Full u w → FillsOnce c.args.in_stops sh c.args.cache refills.Full v w =
    λ x. record { lacks = c.requires.lacks; given = u; gives = c.retire_some.ensures.gives; refills = by-stops c.args.in_stops sh refills.Full u w c.if-in_stops.true x } in
    IfErr-weaker c.fill_in_stops.result _ _ (λ e x. once x) c.fill_in_stops.ensures.full

pub returns-else-in_stops-clause-fills : goal.returns-else-in_stops-clause-fills
returns-else-in_stops-clause-fills g c =
    let sh = c.args.heap.now.shape in
    let v : View = view_of c.args.seat.now in
    let u : View = view_of c.retire_some.new.seat in
    let w : View = view_of c.fill_beside.new.seat in
    let once : (r : Refill) → RefillsBeside sh r u w → FillsOnce c.args.in_stops sh c.args.cache r v w =
    λ r x. record { lacks = c.requires.lacks; given = u; gives = c.retire_some.ensures.gives; refills = by-pace c.args.in_stops sh r u w c.if-in_stops.false x } in
    IfOk-weaker c.fill_beside.result _ _ (λ kept filled. filled-with kept (RefillsBeside sh) (FillsOnce c.args.in_stops sh c.args.cache) v u w once filled) c.fill_beside.ensures.refilled

pub returns-else-in_stops-clause-full : goal.returns-else-in_stops-clause-full
returns-else-in_stops-clause-full g c =
    let sh = c.args.heap.now.shape in
    let v : View = view_of c.args.seat.now in
    let u : View = view_of c.retire_some.new.seat in
    let w : View = view_of c.fill_beside.new.seat in
    let once : RefillsBeside sh refills.Full u w → FillsOnce c.args.in_stops sh c.args.cache refills.Full v w =
    λ x. record { lacks = c.requires.lacks; given = u; gives = c.retire_some.ensures.gives; refills = by-pace c.args.in_stops sh refills.Full u w c.if-in_stops.false x } in
    IfErr-weaker c.fill_beside.result _ _ (λ e x. once x) c.fill_beside.ensures.full

pub returns-then-in_stops-clause-told : goal.returns-then-in_stops-clause-told
returns-then-in_stops-clause-told g c =
    let sh : Shape = c.args.heap.now.shape in
    let v : View = view_of c.args.seat.now in
    let u : View = view_of c.retire_some.new.seat in
    let w : View = view_of c.fill_in_stops.new.seat in
    let r = c.retire_some.ensures in
    told-more g.W.Watch.hears (λ ns. TellsFill true sh ns u w) (λ ns. TellsFills c.args.in_stops sh ns v w) c.args.watch.now c.fill_in_stops.new.watch
    (λ ns k. subst (λ (b : Bool). TellsFills b sh ns v w) (sym c.if-in_stops.true) (fills-first true sh ns v u w (r.ran, spares-retires v u r.only) (fills-one true sh ns u w c.fill_in_stops.ensures.leaves.ran k))) c.fill_in_stops.ensures.told

pub returns-else-in_stops-clause-told : goal.returns-else-in_stops-clause-told
returns-else-in_stops-clause-told g c =
    let sh : Shape = c.args.heap.now.shape in
    let v : View = view_of c.args.seat.now in
    let u : View = view_of c.retire_some.new.seat in
    let w : View = view_of c.fill_beside.new.seat in
    let r = c.retire_some.ensures in
    told-more g.W.Watch.hears (λ ns. TellsFill false sh ns u w) (λ ns. TellsFills c.args.in_stops sh ns v w) c.args.watch.now c.fill_beside.new.watch
    (λ ns k. subst (λ (b : Bool). TellsFills b sh ns v w) (sym c.if-in_stops.false) (fills-first false sh ns v u w (r.ran, spares-retires v u r.only) (fills-one false sh ns u w c.fill_beside.ensures.leaves.ran k))) c.fill_beside.ensures.told
