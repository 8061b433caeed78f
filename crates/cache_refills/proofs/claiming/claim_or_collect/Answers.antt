use Rattle.std.proofs.Common.{[], ◌∷◌, ◌++◌, ◌<◌, ◌≤◌, List, None, Some, arith, inl, ap, ◌≡◌, ◌∙◌, true, sym, subst}
use Rattle.std.proofs.lemmas.Bool.{not-true}
use Rattle.mark_core.specs.Layout.{block_count}
use Rattle.gc_table.specs.declared.view.Entry.{Entry}
use Rattle.packet_pools.specs.Counts.{count_of}
use Rattle.gc_cycle.specs.Events.{each_after, never}
use Rattle.cache_refills.specs.Stops.{claim_failed, may_end}
use Rattle.cache_refills.proofs.Causes.{after-join, search-failed}
use Rattle.cache_refills.proofs.Refills.Rounds.{some-blocks}
use Rattle.cache_refills.proofs.Stops.Visits.{after-once, failed-may, unended-later}
use Rattle.mark_core.specs.declared.kinds.Shape.{Shape}
use Rattle.mark_core.specs.declared.seat.SeatState.{SeatState}
use Rattle.gc_table.specs.Log.{events}
use Rattle.gc_table.specs.Seats.{view_of}
use Rattle.gc_table.specs.declared.view.View.{View}
use Rattle.gc_table.specs.Running.{Ran}
use Rattle.gc_table.proofs.Running.{ran-events, ran-join}
use Rattle.gc_cycle.specs.Cycles.{collects, collects_exactly}
use Rattle.gc_cycle.specs.Moments.{begins}
use Rattle.cache_refills.specs.Refilling.{HasMissed}
use Rattle.gc_cycle.specs.Sorts.{begins_exactly, ends_cycle}
use Rattle.gc_cycle.proofs.Refills.Collected.{exactly-collects}
use Rattle.cache_refills.proofs.Stops.InStop.{alone-same, claims-alone, claims-later, fills-caused, quiet-claim, quiet-finish, quiet-join, rests-later, unfills}
use Rattle.gc_cycle.proofs.Sequences.{followed-later}
use Rattle.gc_cycle.proofs.Changes.{numbers-after, numbers-join, numbers-one, claim-by, seeks-by}
use Rattle.gc_cycle.specs.Statistics.{taken}
use Rattle.cache_refills.proofs.Stops.InStops.{unbegun-claims, unbegun-join, unbegun-seeks, unended-claims, unended-seeks}
use Rattle.cache_refills.specs.Notices as notices
use Rattle.cache_refills.specs.Telling.{TellsStops}
use Rattle.cache_refills.proofs.Stops.Told.{claims-untold}
use Rattle.cache_refills.proofs.Telling.{stops-first, stops-last, stops-one, told-none, told-one}
use Rattle.cache_refills.proofs.claiming.claim_or_collect.Goals as goal

collected-after : (sh : Shape) (u v w : View) → Ran u v → Ran v w → collects_exactly sh (begins v) (events v w) ≡ true → collects (events u w) ≡ true
collected-after sh u v w r q c = ap collects (ran-events u v w r q) ∙ followed-later begins_exactly ends_cycle (events u v) (events v w) (exactly-collects sh (begins v) (events v w) c)

pub returns-in-Some-clause-claims : goal.returns-in-Some-clause-claims
returns-in-Some-clause-claims g c =
    claims-alone (Some c.in-Some.cache) c.args.heap.now.shape (view_of c.args.seat.now) (view_of c.claim.new.seat) c.requires.alone.0 c.requires.alone.1 c.claim.ensures.ran c.in-Some.ensures.some tt

pub returns-in-Some-clause-fills : goal.returns-in-Some-clause-fills
returns-in-Some-clause-fills g c =
    let u : View = view_of c.args.seat.now in
    let v : View = view_of c.claim.new.seat in
    let sh : Shape = c.args.heap.now.shape in
    unfills sh [] u v (quiet-claim (Some c.in-Some.cache) sh u v c.claim.ensures.ran c.in-Some.ensures.some tt).spares

pub precise-requires-clause-alone : goal.precise-requires-clause-alone
precise-requires-clause-alone g c = let n = c.in_default.ensures.none in inl (alone-same (view_of c.args.seat.now) (view_of c.claim.new.seat) n.0 c.claim.ensures.ran n.3 c.requires.alone.0)

pub claim_or_fill-requires-clause-alone : goal.claim_or_fill-requires-clause-alone
claim_or_fill-requires-clause-alone g c = let n = c.in_default.ensures.none in let p = c.precise.ensures.ends in (p.idle, rests-later (view_of c.claim.new.seat) (view_of c.precise.new.seat) p.ran p.only (view_of c.args.seat.now) (ap (λ (s : SeatState). s.section) n.0) (ap (λ (s : SeatState). s.helping) n.0) c.requires.alone.1)

pub returns-clause-claims : goal.returns-clause-claims
returns-clause-claims g c =
    let u : View = view_of c.args.seat.now in
    let v : View = view_of c.claim.new.seat in
    let w : View = view_of c.precise.new.seat in
    let p = c.precise.ensures.ends in
    claims-later c.claim_or_fill.result u w (view_of c.claim_or_fill.new.seat)
    (quiet-join u v w (quiet-claim None c.args.heap.now.shape u v c.claim.ensures.ran tt c.in_default.ensures.none) (quiet-finish v w p.ran p.only p.spares p.going))
    c.claim_or_fill.ensures.claims

pub returns-clause-missed : goal.returns-clause-missed
returns-clause-missed g c =
    let u : View = view_of c.args.seat.now in
    let v : View = view_of c.claim.new.seat in
    let w : View = view_of c.precise.new.seat in
    let x : View = view_of c.claim_or_fill.new.seat in
    let sh : Shape = c.args.heap.now.shape in
    let p = c.precise.ensures.ends in
    let f = c.claim_or_fill.ensures in
    subst (λ es. HasMissed sh c.claim_or_fill.result es x) (sym (ran-events u w x (ran-join u v w c.claim.ensures.ran p.ran) f.claims.ran)) (f.missed (events u w) (collected-after sh u v w c.claim.ensures.ran p.ran c.precise.ensures.collects))

pub returns-clause-fills : goal.returns-clause-fills
returns-clause-fills g c =
    let u : View = view_of c.args.seat.now in
    let v : View = view_of c.claim.new.seat in
    let w : View = view_of c.precise.new.seat in
    let sh : Shape = c.args.heap.now.shape in
    let p = c.precise.ensures.ends in
    let f = c.claim_or_fill.ensures in
    fills-caused sh u w (view_of c.claim_or_fill.new.seat)
    (quiet-join u v w (quiet-claim None sh u v c.claim.ensures.ran tt c.in_default.ensures.none) (quiet-finish v w p.ran p.only p.spares p.going))
    f.claims.ran (f.fills (events u w) (collected-after sh u v w c.claim.ensures.ran p.ran c.precise.ensures.collects))

pub returns-in-Some-clause-numbers : goal.returns-in-Some-clause-numbers
returns-in-Some-clause-numbers g c =
    let u : View = view_of c.args.seat.now in
    let v : View = view_of c.claim.new.seat in
    numbers-one (taken (Some c.in-Some.cache)) u v (claim-by c.in-Some.cache u v c.claim.ensures.ran c.in-Some.ensures.some)

pub returns-clause-numbers : goal.returns-clause-numbers
returns-clause-numbers g c =
    let u : View = view_of c.args.seat.now in
    let v : View = view_of c.claim.new.seat in
    let w : View = view_of c.precise.new.seat in
    let x : View = view_of c.claim_or_fill.new.seat in
    let n = c.in_default.ensures.none in
    let p = c.precise.ensures.ends in
    numbers-join (taken c.claim_or_fill.result) u v x (numbers-one [] u v (seeks-by u v c.claim.ensures.ran n.3)) (numbers-after (taken c.claim_or_fill.result) v w x p c.claim_or_fill.ensures.numbers)

pub returns-in-Some-clause-unbegun : goal.returns-in-Some-clause-unbegun
returns-in-Some-clause-unbegun g c = unbegun-claims c.in-Some.cache (view_of c.args.seat.now) (view_of c.claim.new.seat) c.in-Some.ensures.some

pub returns-clause-unbegun : goal.returns-clause-unbegun
returns-clause-unbegun g c =
    let u : View = view_of c.args.seat.now in
    let v : View = view_of c.claim.new.seat in
    let w : View = view_of c.precise.new.seat in
    let x : View = view_of c.claim_or_fill.new.seat in
    let p = c.precise.ensures.ends in
    let f = c.claim_or_fill.ensures in
    unbegun-join u v x c.claim.ensures.ran (ran-join v w x p.ran f.claims.ran) (unbegun-seeks u v c.in_default.ensures.none.3) (unbegun-join v w x p.ran f.claims.ran p.unbegun f.unbegun)

-- a search in vain, a collection that ended one cycle, and then none more
collected-cycles : (sh : Shape) (before : List Entry) (u v w x : View) → Ran u v → Ran v w → Ran w x → never ends_cycle (events u v) ≡ true → claim_failed sh (events u v) ≡ true → count_of ends_cycle (events v w) ≡ 1 → never ends_cycle (events w x) ≡ true → each_after (may_end sh) ends_cycle before (events u x) ≡ true
collected-cycles sh before u v w x r q p n h one last =
    let few : count_of ends_cycle (events v w) ≤ 1 = omega (arith, one) in
    ap (each_after (may_end sh) ends_cycle before) (ran-events u v x r (ran-join v w x q p) ∙ ap (λ es. events u v ++ es) (ran-events v w x q p))
    ∙ after-join (may_end sh) ends_cycle before (events u v) (events v w ++ events w x) (unended-later sh before (events u v) n)
    (after-join (may_end sh) ends_cycle (before ++ events u v) (events v w) (events w x)
    (after-once (may_end sh) ends_cycle (before ++ events u v) (events v w) (λ xs k. failed-may sh before (events u v) xs (not-true _ n) h k) few)
    (unended-later sh ((before ++ events u v) ++ events v w) (events w x) last))

pub returns-in-Some-clause-cycles : goal.returns-in-Some-clause-cycles
returns-in-Some-clause-cycles g c = λ before.
    let u : View = view_of c.args.seat.now in
    let v : View = view_of c.claim.new.seat in
    unended-later c.args.heap.now.shape before (events u v) (unended-claims c.in-Some.cache u v c.in-Some.ensures.some)

pub returns-clause-cycles : goal.returns-clause-cycles
returns-clause-cycles g c = λ before.
    let u : View = view_of c.args.seat.now in
    let v : View = view_of c.claim.new.seat in
    let sh : Shape = c.args.heap.now.shape in
    let n = c.in_default.ensures.none in
    let p = c.precise.ensures.ends in
    let f = c.claim_or_fill.ensures in
    let some : 0 < block_count sh = subst (λ (s : Shape). 0 < block_count s) c.requires.seat.1 (some-blocks u c.args.seat.now.possible) in
    collected-cycles sh before u v (view_of c.precise.new.seat) (view_of c.claim_or_fill.new.seat) c.claim.ensures.ran p.ran f.claims.ran (unended-seeks u v n.3) (search-failed sh (events u v) some n.3 n.2) p.once f.unended

pub returns-in-Some-clause-told : goal.returns-in-Some-clause-told
returns-in-Some-clause-told g c =
    let u : View = view_of c.args.seat.now in
    let v : View = view_of c.claim.new.seat in
    told-none g.W.Watch.hears (λ ns. TellsStops ns u v) c.args.watch.now (claims-untold c.args.heap.now.shape (Some c.in-Some.cache) u v c.claim.ensures.ran c.in-Some.ensures.some tt)

pub returns-clause-told : goal.returns-clause-told
returns-clause-told g c =
    let u : View = view_of c.args.seat.now in
    let v : View = view_of c.claim.new.seat in
    let w : View = view_of c.precise.new.seat in
    let x : View = view_of c.claim_or_fill.new.seat in
    let sh : Shape = c.args.heap.now.shape in
    let p = c.precise.ensures in
    let n = notices.collects c.precise.result in
    let one = stops-one n v w p.ends.ran (record { ends = p.ends; collected = exactly-collects sh (begins v) (events v w) p.collects; exact = p.exact }) in
    told-one g.W.Watch.hears (λ ns. TellsStops ns u x) n c.args.watch.now c.collects.new.self c.collects.ensures
    (stops-first (n ∷ []) u v x (claims-untold sh None u v c.claim.ensures.ran tt c.in_default.ensures.none) (stops-last (n ∷ []) v w x one c.claim_or_fill.ensures.untold))
