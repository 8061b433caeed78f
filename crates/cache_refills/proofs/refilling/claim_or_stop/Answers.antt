use Rattle.std.proofs.Common.{◌≡◌, ◌<◌, ◌∙◌, ap, None, Some, subst}
use Rattle.std.proofs.lemmas.Bool.{not-true}
use Rattle.mark_core.specs.Layout.{block_count}
use Rattle.mark_core.specs.declared.kinds.Shape.{Shape}
use Rattle.gc_table.specs.Seats.{view_of}
use Rattle.gc_table.specs.declared.view.View.{View}
use Rattle.gc_table.proofs.History.Log.{only-more}
use Rattle.gc_table.proofs.Running.{ran-join}
use Rattle.alloc_cache.specs.Claiming.{seeks_block}
use Rattle.cache_refills.specs.Refilling.{prepares}
use Rattle.cache_refills.proofs.Refills.Paced.{seeks-prepare}
use Rattle.cache_refills.proofs.Positions.{stored-more}
use Rattle.cache_refills.proofs.Refills.Claimed.{claims-block, claims-cached, claims-claimed, claims-only}
use Rattle.cache_refills.proofs.Refills.Rounds.{leads-prepared, later-some, round-calm, round-later, searched-stops, some-blocks}
use Rattle.cache_refills.proofs.Refills.Popping.{calm-claims, stops-paid}
use Rattle.cache_refills.proofs.Refills.Visiting.{calm-stops, calm-visits, leads-caused, leads-claimed, leads-pops, leads-stops, leads-visited, leads-visits}
use Rattle.cache_refills.proofs.Refills.RoundsSoFar.{claims-refill, leaves-first}
use Rattle.gc_cycle.proofs.Changes.{seeks-by}
use Rattle.gc_table.specs.Log.{events}
use Rattle.cache_refills.proofs.Due.{due-calm, due-join, due-none}
use Rattle.cache_refills.proofs.Stops.InStops.{unbegun-claims, unbegun-seeks}
use Rattle.gc_table.proofs.Running.{ran-events}
use Rattle.packet_pools.specs.Seeking.{some_event}
use Rattle.packet_pools.proofs.Searches.{some-left}
use Rattle.gc_cycle.specs.Sorts.{claims}
use Rattle.cache_refills.specs.Telling.{TellsRefill, TellsRound, TellsStops, payment}
use Rattle.cache_refills.proofs.Stops.Told.{calm-untold, claims-untold}
use Rattle.cache_refills.proofs.Telling.{inside-round, outside-refill, telling-later, told-more, untold-join}
use Rattle.cache_refills.proofs.refilling.claim_or_stop.Goals as goal

pub returns-in-None-clause-round : goal.returns-in-None-clause-round
returns-in-None-clause-round g c =
    let v : View = view_of c.args.seat.now in
    let x : View = view_of c.claim.new.seat in
    round-later c.args.done v x (view_of c.refill_in_stop.new.seat) c.refill_in_stop.result (leads-prepared v x c.claim.ensures.ran (only-more seeks_block prepares seeks-prepare v x c.in-None.ensures.none.3)) c.refill_in_stop.ensures.round

pub returns-in-None-clause-stops : goal.returns-in-None-clause-stops
returns-in-None-clause-stops g c =
    let v : View = view_of c.args.seat.now in
    let x : View = view_of c.claim.new.seat in
    let sh : Shape = c.args.heap.now.shape in
    let n = c.in-None.ensures.none in
    let some : 0 < block_count sh = subst (λ (s : Shape). 0 < block_count s) c.requires.seat.0.1 (some-blocks v c.args.seat.now.possible) in
    leads-caused sh v x (view_of c.refill_in_stop.new.seat) (leads-prepared v x c.claim.ensures.ran (only-more seeks_block prepares seeks-prepare v x n.3)) c.refill_in_stop.ensures.round.ran (searched-stops sh v x some n.3 n.2)

pub returns-in-None-clause-some : goal.returns-in-None-clause-some
returns-in-None-clause-some g c =
    let v : View = view_of c.args.seat.now in
    let x : View = view_of c.claim.new.seat in
    let l = leads-prepared v x c.claim.ensures.ran (only-more seeks_block prepares seeks-prepare v x c.in-None.ensures.none.3) in
    later-some c.refill_in_stop.result (λ r f u q t k p. f u (ran-join u v x q l.ran) (l.tells u q t) (stored-more c.args.done u v x q l.ran l.inside k)) c.refill_in_stop.ensures.some

pub returns-in-Some-clause-round : goal.returns-in-Some-clause-round
returns-in-Some-clause-round g c =
    let v : View = view_of c.args.seat.now in
    let x : View = view_of c.claim.new.seat in
    let w : View = view_of c.pay_for-refill.new.seat in
    let p = c.pay_for-refill.ensures in
    round-later c.args.done v x w (Some c.pay_for-refill.result) (leads-prepared v x c.claim.ensures.ran (claims-only c.in-Some.cache v x c.in-Some.ensures.some)) (round-calm c.args.done x w c.pay_for-refill.result p.ran p.only (not-true _ p.inside) p.known)

pub returns-in-Some-clause-stops : goal.returns-in-Some-clause-stops
returns-in-Some-clause-stops g c =
    let v : View = view_of c.args.seat.now in
    let x : View = view_of c.claim.new.seat in
    let w : View = view_of c.pay_for-refill.new.seat in
    let p = c.pay_for-refill.ensures in
    let sh : Shape = c.args.heap.now.shape in
    leads-stops sh v x w (leads-prepared v x c.claim.ensures.ran (claims-only c.in-Some.cache v x c.in-Some.ensures.some)) p.ran (calm-stops sh x w p.only)

pub returns-in-Some-clause-some : goal.returns-in-Some-clause-some
returns-in-Some-clause-some g c =
    let v : View = view_of c.args.seat.now in
    let x : View = view_of c.claim.new.seat in
    λ u q t k p. c.pay_for-refill.ensures.refills u (claims-claimed c.in-Some.cache c.args.done u v x c.requires.seat.1.active q t k p c.claim.ensures.ran c.in-Some.ensures.some)

pub pay_for-refill-requires-clause-cache : goal.pay_for-refill-requires-clause-cache
pay_for-refill-requires-clause-cache g c = claims-cached c.in-Some.cache (view_of c.args.seat.now) (view_of c.claim.new.seat) c.in-Some.ensures.some

pub returns-in-None-clause-numbers : goal.returns-in-None-clause-numbers
returns-in-None-clause-numbers g c =
    let v : View = view_of c.args.seat.now in
    let x : View = view_of c.claim.new.seat in
    leaves-first c.refill_in_stop.result v x (view_of c.refill_in_stop.new.seat) (seeks-by v x c.claim.ensures.ran c.in-None.ensures.none.3) c.refill_in_stop.ensures.numbers

pub returns-in-Some-clause-numbers : goal.returns-in-Some-clause-numbers
returns-in-Some-clause-numbers g c =
    claims-refill c.pay_for-refill.result c.in-Some.cache (view_of c.args.seat.now) (view_of c.claim.new.seat) (view_of c.pay_for-refill.new.seat) c.claim.ensures.ran c.in-Some.ensures.some c.pay_for-refill.ensures.numbers

pub returns-in-None-clause-due : goal.returns-in-None-clause-due
returns-in-None-clause-due g c =
    let v : View = view_of c.args.seat.now in
    let x : View = view_of c.claim.new.seat in
    let y : View = view_of c.refill_in_stop.new.seat in
    let r = c.refill_in_stop.ensures in
    due-join v x y c.claim.ensures.ran r.round.ran (due-none (events v x) (unbegun-seeks v x c.in-None.ensures.none.3)) (due-none (events x y) r.unbegun)

pub returns-in-Some-clause-due : goal.returns-in-Some-clause-due
returns-in-Some-clause-due g c =
    let v : View = view_of c.args.seat.now in
    let x : View = view_of c.claim.new.seat in
    let w : View = view_of c.pay_for-refill.new.seat in
    let p = c.pay_for-refill.ensures in
    due-join v x w c.claim.ensures.ran p.ran (due-none (events v x) (unbegun-claims c.in-Some.cache v x c.in-Some.ensures.some)) (due-calm x w p.only)

pub returns-in-None-clause-visit : goal.returns-in-None-clause-visit
returns-in-None-clause-visit g c =
    let v : View = view_of c.args.seat.now in
    let x : View = view_of c.claim.new.seat in
    let sh : Shape = c.args.heap.now.shape in
    let n = c.in-None.ensures.none in
    let r = c.refill_in_stop.ensures in
    let some : 0 < block_count sh = subst (λ (s : Shape). 0 < block_count s) c.requires.seat.0.1 (some-blocks v c.args.seat.now.possible) in
    leads-visited sh v x (view_of c.refill_in_stop.new.seat) (leads-prepared v x c.claim.ensures.ran (only-more seeks_block prepares seeks-prepare v x n.3)) r.round.ran (searched-stops sh v x some n.3 n.2) r.outside

pub returns-in-Some-clause-visit : goal.returns-in-Some-clause-visit
returns-in-Some-clause-visit g c =
    let v : View = view_of c.args.seat.now in
    let x : View = view_of c.claim.new.seat in
    let w : View = view_of c.pay_for-refill.new.seat in
    let p = c.pay_for-refill.ensures in
    let sh : Shape = c.args.heap.now.shape in
    leads-visits sh v x w (leads-prepared v x c.claim.ensures.ran (claims-only c.in-Some.cache v x c.in-Some.ensures.some)) p.ran (calm-visits sh x w p.only)

pub returns-in-None-clause-pops : goal.returns-in-None-clause-pops
returns-in-None-clause-pops g c =
    let v : View = view_of c.args.seat.now in
    let x : View = view_of c.claim.new.seat in
    let w : View = view_of c.refill_in_stop.new.seat in
    let r = c.refill_in_stop.ensures in
    stops-paid (events v w) (leads-pops v x w (leads-prepared v x c.claim.ensures.ran (only-more seeks_block prepares seeks-prepare v x c.in-None.ensures.none.3)) r.round.ran r.pops)

pub returns-in-Some-clause-pops : goal.returns-in-Some-clause-pops
returns-in-Some-clause-pops g c =
    let v : View = view_of c.args.seat.now in
    let x : View = view_of c.claim.new.seat in
    let w : View = view_of c.pay_for-refill.new.seat in
    let p = c.pay_for-refill.ensures in
    leads-claimed v x w (leads-prepared v x c.claim.ensures.ran (claims-only c.in-Some.cache v x c.in-Some.ensures.some)) p.ran (claims-block c.in-Some.cache v x c.in-Some.ensures.some) (calm-claims x w p.only)

pub returns-in-None-clause-told : goal.returns-in-None-clause-told
returns-in-None-clause-told g c =
    let v : View = view_of c.args.seat.now in
    let x : View = view_of c.claim.new.seat in
    let y : View = view_of c.refill_in_stop.new.seat in
    let o = c.refill_in_stop.result in
    let r = c.refill_in_stop.ensures in
    told-more g.W.Watch.hears (λ ns. TellsStops ns x y) (λ ns. TellsRound o ns v y) c.args.watch.now c.refill_in_stop.new.watch
    (λ ns k. telling-later o ns v x y r.round.ran (claims-untold c.args.heap.now.shape None v x c.claim.ensures.ran tt c.in-None.ensures.none) (inside-round o ns x y r.inside k)) r.told

pub returns-in-Some-clause-told : goal.returns-in-Some-clause-told
returns-in-Some-clause-told g c =
    let v : View = view_of c.args.seat.now in
    let x : View = view_of c.claim.new.seat in
    let w : View = view_of c.pay_for-refill.new.seat in
    let some = c.in-Some.ensures.some in
    let ran = c.claim.ensures.ran in
    let r = c.pay_for-refill.result in
    let p = c.pay_for-refill.ensures in
    let untold = untold-join v x w (claims-untold c.args.heap.now.shape (Some c.in-Some.cache) v x ran some tt) (calm-untold x w p.ran p.only p.inside) in
    let claimed = ap (some_event claims) (ran-events v x w ran p.ran) ∙ some-left claims (events v x) (events x w) (claims-block c.in-Some.cache v x some) in
    told-more g.W.Watch.hears (λ ns. ns ≡ payment r) (λ ns. TellsRefill r ns v w) c.args.watch.now c.tell_paid.new.watch (λ ns e. outside-refill r ns v w untold claimed e) c.tell_paid.ensures
