use Rattle.seat_turns.proofs.Seats.{kept-works}
use Rattle.gc_table.specs.Seats.{view_of}
use Rattle.seat_turns.proofs.Leaving.{leaves-filled}
use Rattle.std.proofs.Common.{ℕ, ◌≡◌, ap, subst}
use Rattle.mark_core.specs.declared.seat.SeatState.{SeatState}
use Rattle.gc_cycle.specs.declared.counts.Refill.TheVariants as refills
use Rattle.cache_refills.specs.InStops.{FillsTo}
use Rattle.mark_core.specs.declared.kinds.Shape.{Shape}
use Rattle.gc_table.specs.declared.view.View.{View}
use Rattle.std.proofs.Common.{true}
use Rattle.cache_refills.specs.Telling.{TellsStops}
use Rattle.cache_refills.proofs.Telling.{told-more}
use Rattle.seat_turns.specs.Telling.{TellsFill}
use Rattle.seat_turns.proofs.Telling.{in-stops-of}
use Rattle.seat_turns.proofs.turns.fill_in_stops.Goals as goal

pub returns-in-Cache-clause-ok : goal.returns-in-Cache-clause-ok
returns-in-Cache-clause-ok g c =
    let r = c.in-Cache.ensures in
    (kept-works c.args.heap.now c.args.seat.now c.refill_in_stops.new.seat c.requires.halts.works r.seat r.fills.goes_on.mutates r.rules.ran r.rules.keeps.0 r.rules.keeps.1, r.fills.cached)

pub returns-in-Full-clause-err : goal.returns-in-Full-clause-err
returns-in-Full-clause-err g c =
    let r = c.in-Full.ensures in
    (record { works = kept-works c.args.heap.now c.args.seat.now c.refill_in_stops.new.seat c.requires.halts.works r.seat r.fills.mutates r.rules.ran r.rules.keeps.0 r.rules.keeps.1; cache = r.fills.cache }, r.rules.spares)

pub returns-in-Cache-clause-leaves : goal.returns-in-Cache-clause-leaves
returns-in-Cache-clause-leaves g c = let r = c.in-Cache.ensures in leaves-filled (view_of c.args.seat.now) (view_of c.refill_in_stops.new.seat) r.rules.ran r.rules.only r.rules.keeps.0

pub returns-in-Full-clause-leaves : goal.returns-in-Full-clause-leaves
returns-in-Full-clause-leaves g c = let r = c.in-Full.ensures in leaves-filled (view_of c.args.seat.now) (view_of c.refill_in_stops.new.seat) r.rules.ran r.rules.only r.rules.keeps.0

pub returns-in-Cache-clause-refilled : goal.returns-in-Cache-clause-refilled
returns-in-Cache-clause-refilled g c =
    let r = c.in-Cache.ensures in
    let made : c.state.result.now.made ≡ (view_of c.args.seat.now).state.made = ap (λ (s : SeatState). s.made) c.state.ensures in (
      c.in-Cache._paid,
      record {
        ran = r.rules.ran;
        fills = subst (λ (n : ℕ). FillsTo (refills.Cache c.in-Cache.cache c.in-Cache._paid) n (view_of c.args.seat.now) (view_of c.refill_in_stops.new.seat)) made r.fills;
        stops = r.rules.stops;
        visit = r.rules.visit;
        again = r.rules.again;
        collects = r.rules.collects;
        cycles = r.rules.cycles;
        pops = r.pops;
        full = r.rules.fills;
        unbegun = r.unbegun;
        only = r.rules.only;
        numbers = r.rules.numbers;
      },
    )

pub returns-in-Full-clause-full : goal.returns-in-Full-clause-full
returns-in-Full-clause-full g c =
    let r = c.in-Full.ensures in
    let made : c.state.result.now.made ≡ (view_of c.args.seat.now).state.made = ap (λ (s : SeatState). s.made) c.state.ensures in
    record { ran = r.rules.ran; fills = subst (λ (n : ℕ). FillsTo refills.Full n (view_of c.args.seat.now) (view_of c.refill_in_stops.new.seat)) made r.fills; stops = r.rules.stops; visit = r.rules.visit; again = r.rules.again; collects = r.rules.collects; cycles = r.rules.cycles; pops = r.pops; full = r.rules.fills; unbegun = r.unbegun; only = r.rules.only; numbers = r.rules.numbers }

pub returns-in-Cache-clause-told : goal.returns-in-Cache-clause-told
returns-in-Cache-clause-told g c =
    let v : View = view_of c.args.seat.now in
    let w : View = view_of c.refill_in_stops.new.seat in
    let sh : Shape = c.args.heap.now.shape in
    let r = c.in-Cache.ensures in
    let made : c.state.result.now.made ≡ v.state.made = ap (λ (s : SeatState). s.made) c.state.ensures in
    let by = in-stops-of sh (refills.Cache c.in-Cache.cache c.in-Cache._paid) c.state.result.now.made v w made r.rules r.fills r.pops r.unbegun in
    told-more g.W.Watch.hears (λ ns. TellsStops ns v w) (λ ns. TellsFill true sh ns v w) c.args.watch.now c.refill_in_stops.new.watch (λ ns k. ((refills.Cache c.in-Cache.cache c.in-Cache._paid), by, k)) r.told

pub returns-in-Full-clause-told : goal.returns-in-Full-clause-told
returns-in-Full-clause-told g c =
    let v : View = view_of c.args.seat.now in
    let w : View = view_of c.refill_in_stops.new.seat in
    let sh : Shape = c.args.heap.now.shape in
    let r = c.in-Full.ensures in
    let made : c.state.result.now.made ≡ v.state.made = ap (λ (s : SeatState). s.made) c.state.ensures in
    let by = in-stops-of sh refills.Full c.state.result.now.made v w made r.rules r.fills r.pops r.unbegun in
    told-more g.W.Watch.hears (λ ns. TellsStops ns v w) (λ ns. TellsFill true sh ns v w) c.args.watch.now c.refill_in_stops.new.watch (λ ns k. (refills.Full, by, k)) r.told
