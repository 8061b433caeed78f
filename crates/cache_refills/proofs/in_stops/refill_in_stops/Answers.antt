use Rattle.gc_table.specs.Seats.{view_of}
use Rattle.gc_table.specs.declared.view.View.{View}
use Rattle.mark_core.specs.declared.kinds.Shape.{Shape}
use Rattle.gc_table.specs.Log.{events}
use Rattle.cache_refills.specs.Stops.{stops_in_visit, stops_with_cause}
use Rattle.std.proofs.Common.{ap, sym, subst, true, ◌≡◌, ◌∙◌, []}
use Rattle.gc_table.proofs.Running.{ran-events, ran-refl}
use Rattle.gc_cycle.specs.Mutating.{pops_in_stops}
use Rattle.cache_refills.proofs.Refills.Popping.{pops-join}
use Rattle.gc_cycle.proofs.Refills.KnownFull.{tells-none}
use Rattle.cache_refills.proofs.Refills.RoundsSoFar.{ends-round, rules-at, tried-more, tried-none}
use Rattle.cache_refills.proofs.Stops.InStops.{unbegun-empty, unbegun-join}
use Rattle.gc_cycle.proofs.Changes.{by-none, numbers-join, numbers-one}
use Rattle.cache_refills.specs.Telling.{TellsStops}
use Rattle.cache_refills.proofs.Telling.{stops-join, told-join, told-none, untold-none}
use Rattle.cache_refills.proofs.in_stops.refill_in_stops.Goals as goal

pub loop-init : goal.loop-init
loop-init g c = record { next = tt; finite = tt; sits = c.requires.seat.0; numbers = numbers-one [] (view_of c.args.seat.now) (view_of c.args.seat.now) (by-none (view_of c.args.seat.now)); tried = tried-none c.args.done (view_of c.args.seat.now) c.requires.seat.1 c.requires.cache; unbegun = unbegun-empty (view_of c.args.seat.now); told = told-none g.W.Watch.hears (λ ns. TellsStops ns (view_of c.args.seat.now) (view_of c.args.seat.now)) c.args.watch.now (untold-none (view_of c.args.seat.now)) }

pub loop-preserved : goal.loop-preserved
loop-preserved g c =
    let i = c.loop.invariant in
    let e = c.fill_once.ensures in
    record { next = tt; finite = tt; sits = e.seat; numbers = numbers-join [] (view_of c.args.seat.now) (view_of c.loop.seat) (view_of c.fill_once.new.seat) i.numbers c.in_default.ensures.numbers; tried = tried-more c.args.done (view_of c.args.seat.now) (view_of c.loop.seat) (view_of c.fill_once.new.seat) i.tried c.in_default.ensures.round (subst (λ (sh : Shape). stops_with_cause sh (events (view_of c.loop.seat) (view_of c.fill_once.new.seat)) ≡ true) (sym i.sits.1) e.stops) (subst (λ (sh : Shape). stops_in_visit sh (events (view_of c.loop.seat) (view_of c.fill_once.new.seat)) ≡ true) (sym i.sits.1) e.visit); unbegun = unbegun-join (view_of c.args.seat.now) (view_of c.loop.seat) (view_of c.fill_once.new.seat) i.tried.ran e.round.ran i.unbegun e.unbegun; told = told-join g.W.Watch.hears (λ ns. TellsStops ns (view_of c.args.seat.now) (view_of c.loop.seat)) (λ ns. TellsStops ns (view_of c.loop.seat) (view_of c.fill_once.new.seat)) (λ ns. TellsStops ns (view_of c.args.seat.now) (view_of c.fill_once.new.seat)) c.args.watch.now c.loop.watch c.fill_once.new.watch (λ ms ns a b. stops-join ms ns (view_of c.args.seat.now) (view_of c.loop.seat) (view_of c.fill_once.new.seat) a b) i.told e.told }

pub returns-in-Some-fill_once : goal.returns-in-Some-fill_once
returns-in-Some-fill_once g c =
    let u : View = view_of c.args.seat.now in
    let v : View = view_of c.loop.seat in
    let w : View = view_of c.fill_once.new.seat in
    let i = c.loop.invariant in
    let t = i.tried in
    let e = c.in-Some-fill_once.ensures in
    let d = ends-round _ c.args.done u v w t e.round (subst (λ (sh : Shape). stops_with_cause sh (events v w) ≡ true) (sym i.sits.1) e.stops) (subst (λ (sh : Shape). stops_in_visit sh (events v w) ≡ true) (sym i.sits.1) e.visit) i.numbers e.numbers in
    record {
      seat = e.seat;
      rules = rules-at c.args.heap.now.shape _ u w c.requires.seat.0.1 d;
      fills = e.some u t.ran (t.tells u (ran-refl u) (tells-none u)) t.position;
      pops = ap pops_in_stops (ran-events u v w t.ran e.round.ran) ∙ pops-join (events u v) (events v w) t.pops e.pops;
      unbegun = unbegun-join u v w t.ran e.round.ran i.unbegun e.unbegun;
      told = told-join g.W.Watch.hears (λ ns. TellsStops ns u v) (λ ns. TellsStops ns v w) (λ ns. TellsStops ns u w) c.args.watch.now c.loop.watch c.fill_once.new.watch (λ ms ns a b. stops-join ms ns u v w a b) i.told e.told;
    }
