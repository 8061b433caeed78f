use Rattle.std.proofs.Common.{◌<◌, Some, subst}
use Rattle.mark_core.specs.Layout.{block_count}
use Rattle.mark_core.specs.declared.kinds.Shape.{Shape}
use Rattle.gc_table.specs.Seats.{view_of}
use Rattle.gc_table.specs.declared.view.View.{View}
use Rattle.gc_table.proofs.History.Log.{only-more}
use Rattle.gc_table.proofs.Running.{ran-join}
use Rattle.alloc_cache.specs.Claiming.{seeks_block}
use Rattle.cache_refills.specs.Refilling.{prepares}
use Rattle.cache_refills.proofs.Refills.Paced.{seeks-prepare}
use Rattle.cache_refills.proofs.Positions.{stored-more}
use Rattle.cache_refills.proofs.Refills.Claimed.{claims-cached, claims-only}
use Rattle.cache_refills.proofs.Refills.Rounds.{leads-prepared, later-some, round-calm, round-later, searched-stops, some-blocks}
use Rattle.gc_table.specs.Log.{events}
use Rattle.gc_cycle.specs.Answering.{answers}
use Rattle.gc_cycle.specs.Sorts.{comes_in}
use Rattle.gc_cycle.proofs.Sequences.{none-of-steps}
use Rattle.cache_refills.proofs.Stops.StopEnds.{answers-in}
use Rattle.cache_refills.proofs.Refills.Popping.{answered-pops, unpopped}
use Rattle.cache_refills.proofs.Refills.Visiting.{calm-stops, calm-visits, leads-caused, leads-pops, leads-stops, leads-visited, leads-visits}
use Rattle.gc_cycle.specs.Mutating.{stays_calm}
use Rattle.gc_cycle.proofs.Refills.Answered.{answers-calm}
use Rattle.cache_refills.proofs.Stops.InStops.{fills-from, searched, unbegun-answers, unbegun-claims, unbegun-join, unbegun-seeks}
use Rattle.cache_refills.proofs.Refills.RoundsSoFar.{claims-refill, leaves-first}
use Rattle.gc_cycle.proofs.Changes.{seeks-by}
use Rattle.std.proofs.Common.{None}
use Rattle.cache_refills.specs.Telling.{TellsStops}
use Rattle.cache_refills.proofs.Stops.Told.{answers-untold, claims-untold}
use Rattle.cache_refills.proofs.Telling.{stops-first, told-more, told-none, untold-join}
use Rattle.cache_refills.proofs.in_stops.fill_once.Goals as goal

pub returns-in-None-clause-round : goal.returns-in-None-clause-round
returns-in-None-clause-round g c =
    let v : View = view_of c.args.seat.now in
    let x : View = view_of c.claim.new.seat in
    round-later c.args.done v x (view_of c.refill_in_stop.new.seat) c.refill_in_stop.result (leads-prepared v x c.claim.ensures.ran (only-more seeks_block prepares seeks-prepare v x c.in-None.ensures.none.3)) c.refill_in_stop.ensures.round

pub returns-in-None-clause-stops : goal.returns-in-None-clause-stops
returns-in-None-clause-stops g c =
    let v : View = view_of c.args.seat.now in
    let x : View = view_of c.claim.new.seat in
    let sh : Shape = c.args.heap.now.shape in
    let n = c.in-None.ensures.none in
    let some : 0 < block_count sh = subst (λ (s : Shape). 0 < block_count s) c.requires.seat.0.1 (some-blocks v c.args.seat.now.possible) in
    leads-caused sh v x (view_of c.refill_in_stop.new.seat) (leads-prepared v x c.claim.ensures.ran (only-more seeks_block prepares seeks-prepare v x n.3)) c.refill_in_stop.ensures.round.ran (searched-stops sh v x some n.3 n.2)

pub returns-in-None-clause-some : goal.returns-in-None-clause-some
returns-in-None-clause-some g c =
    let v : View = view_of c.args.seat.now in
    let x : View = view_of c.claim.new.seat in
    let l = leads-prepared v x c.claim.ensures.ran (only-more seeks_block prepares seeks-prepare v x c.in-None.ensures.none.3) in
    later-some c.refill_in_stop.result (λ r f u q t k. fills-from r c.args.done u (view_of c.refill_in_stop.new.seat) (f u (ran-join u v x q l.ran) (l.tells u q t) (stored-more c.args.done u v x q l.ran l.inside k))) c.refill_in_stop.ensures.some

pub returns-in-Some-clause-round : goal.returns-in-Some-clause-round
returns-in-Some-clause-round g c =
    let v : View = view_of c.args.seat.now in
    let x : View = view_of c.claim.new.seat in
    let w : View = view_of c.keep_cache.new.seat in
    let p = c.keep_cache.ensures in
    round-later c.args.done v x w (Some c.keep_cache.result) (leads-prepared v x c.claim.ensures.ran (claims-only c.in-Some.cache v x c.in-Some.ensures.some)) (round-calm c.args.done x w c.keep_cache.result p.ran (only-more answers stays_calm answers-calm x w p.only) (none-of-steps answers comes_in answers-in (events x w) p.only) p.known)

pub returns-in-Some-clause-stops : goal.returns-in-Some-clause-stops
returns-in-Some-clause-stops g c =
    let v : View = view_of c.args.seat.now in
    let x : View = view_of c.claim.new.seat in
    let w : View = view_of c.keep_cache.new.seat in
    let p = c.keep_cache.ensures in
    let sh : Shape = c.args.heap.now.shape in
    leads-stops sh v x w (leads-prepared v x c.claim.ensures.ran (claims-only c.in-Some.cache v x c.in-Some.ensures.some)) p.ran (calm-stops sh x w (only-more answers stays_calm answers-calm x w p.only))

pub returns-in-Some-clause-some : goal.returns-in-Some-clause-some
returns-in-Some-clause-some g c =
    let v : View = view_of c.args.seat.now in
    let x : View = view_of c.claim.new.seat in
    λ u q t k. c.keep_cache.ensures.fills u (searched c.in-Some.cache c.args.done u v x q t k c.claim.ensures.ran c.in-Some.ensures.some)

pub keep_cache-requires-clause-cache : goal.keep_cache-requires-clause-cache
keep_cache-requires-clause-cache g c = claims-cached c.in-Some.cache (view_of c.args.seat.now) (view_of c.claim.new.seat) c.in-Some.ensures.some

pub returns-in-None-clause-numbers : goal.returns-in-None-clause-numbers
returns-in-None-clause-numbers g c =
    let v : View = view_of c.args.seat.now in
    let x : View = view_of c.claim.new.seat in
    leaves-first c.refill_in_stop.result v x (view_of c.refill_in_stop.new.seat) (seeks-by v x c.claim.ensures.ran c.in-None.ensures.none.3) c.refill_in_stop.ensures.numbers

pub returns-in-Some-clause-numbers : goal.returns-in-Some-clause-numbers
returns-in-Some-clause-numbers g c =
    claims-refill c.keep_cache.result c.in-Some.cache (view_of c.args.seat.now) (view_of c.claim.new.seat) (view_of c.keep_cache.new.seat) c.claim.ensures.ran c.in-Some.ensures.some c.keep_cache.ensures.numbers

pub returns-in-None-clause-unbegun : goal.returns-in-None-clause-unbegun
returns-in-None-clause-unbegun g c =
    let v : View = view_of c.args.seat.now in
    let x : View = view_of c.claim.new.seat in
    unbegun-join v x (view_of c.refill_in_stop.new.seat) c.claim.ensures.ran c.refill_in_stop.ensures.round.ran (unbegun-seeks v x c.in-None.ensures.none.3) c.refill_in_stop.ensures.unbegun

pub returns-in-Some-clause-unbegun : goal.returns-in-Some-clause-unbegun
returns-in-Some-clause-unbegun g c =
    let v : View = view_of c.args.seat.now in
    let x : View = view_of c.claim.new.seat in
    let w : View = view_of c.keep_cache.new.seat in
    let p = c.keep_cache.ensures in
    unbegun-join v x w c.claim.ensures.ran p.ran (unbegun-claims c.in-Some.cache v x c.in-Some.ensures.some) (unbegun-answers x w p.only)

pub returns-in-None-clause-visit : goal.returns-in-None-clause-visit
returns-in-None-clause-visit g c =
    let v : View = view_of c.args.seat.now in
    let x : View = view_of c.claim.new.seat in
    let sh : Shape = c.args.heap.now.shape in
    let n = c.in-None.ensures.none in
    let r = c.refill_in_stop.ensures in
    let some : 0 < block_count sh = subst (λ (s : Shape). 0 < block_count s) c.requires.seat.0.1 (some-blocks v c.args.seat.now.possible) in
    leads-visited sh v x (view_of c.refill_in_stop.new.seat) (leads-prepared v x c.claim.ensures.ran (only-more seeks_block prepares seeks-prepare v x n.3)) r.round.ran (searched-stops sh v x some n.3 n.2) r.outside

pub returns-in-Some-clause-visit : goal.returns-in-Some-clause-visit
returns-in-Some-clause-visit g c =
    let v : View = view_of c.args.seat.now in
    let x : View = view_of c.claim.new.seat in
    let w : View = view_of c.keep_cache.new.seat in
    let p = c.keep_cache.ensures in
    let sh : Shape = c.args.heap.now.shape in
    leads-visits sh v x w (leads-prepared v x c.claim.ensures.ran (claims-only c.in-Some.cache v x c.in-Some.ensures.some)) p.ran (calm-visits sh x w (only-more answers stays_calm answers-calm x w p.only))

pub returns-in-None-clause-pops : goal.returns-in-None-clause-pops
returns-in-None-clause-pops g c =
    let v : View = view_of c.args.seat.now in
    let x : View = view_of c.claim.new.seat in
    let r = c.refill_in_stop.ensures in
    leads-pops v x (view_of c.refill_in_stop.new.seat) (leads-prepared v x c.claim.ensures.ran (only-more seeks_block prepares seeks-prepare v x c.in-None.ensures.none.3)) r.round.ran r.pops

pub returns-in-Some-clause-pops : goal.returns-in-Some-clause-pops
returns-in-Some-clause-pops g c =
    let v : View = view_of c.args.seat.now in
    let x : View = view_of c.claim.new.seat in
    let w : View = view_of c.keep_cache.new.seat in
    let p = c.keep_cache.ensures in
    leads-pops v x w (leads-prepared v x c.claim.ensures.ran (claims-only c.in-Some.cache v x c.in-Some.ensures.some)) p.ran (unpopped (events x w) (answered-pops x w p.only))

pub returns-in-None-clause-told : goal.returns-in-None-clause-told
returns-in-None-clause-told g c =
    let v : View = view_of c.args.seat.now in
    let x : View = view_of c.claim.new.seat in
    let y : View = view_of c.refill_in_stop.new.seat in
    let before = claims-untold c.args.heap.now.shape None v x c.claim.ensures.ran tt c.in-None.ensures.none in
    told-more g.W.Watch.hears (λ ns. TellsStops ns x y) (λ ns. TellsStops ns v y) c.args.watch.now c.refill_in_stop.new.watch (λ ns k. stops-first ns v x y before k) c.refill_in_stop.ensures.told

pub returns-in-Some-clause-told : goal.returns-in-Some-clause-told
returns-in-Some-clause-told g c =
    let v : View = view_of c.args.seat.now in
    let x : View = view_of c.claim.new.seat in
    let w : View = view_of c.keep_cache.new.seat in
    let e = c.keep_cache.ensures in
    told-none g.W.Watch.hears (λ ns. TellsStops ns v w) c.args.watch.now
    (untold-join v x w (claims-untold c.args.heap.now.shape (Some c.in-Some.cache) v x c.claim.ensures.ran c.in-Some.ensures.some tt) (answers-untold x w e.ran e.only))
