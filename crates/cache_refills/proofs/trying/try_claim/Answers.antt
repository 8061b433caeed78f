use Rattle.std.proofs.Common.{[], ◌+◌, ◌*◌, arith}
use Rattle.mark_core.specs.Layout.{block_count}
use Rattle.gc_table.specs.Seats.{view_of}
use Rattle.gc_table.specs.declared.view.View.{View}
use Rattle.gc_table.proofs.History.Log.{only-more}
use Rattle.alloc_cache.specs.Claiming.{seeks_block}
use Rattle.cache_refills.specs.Pace.Pacing.{card_looks}
use Rattle.cache_refills.specs.Pace.StepBounds.{payment_steps}
use Rattle.cache_refills.specs.Refilling.{prepares}
use Rattle.gc_cycle.proofs.Changes.{numbers-one, seeks-by}
use Rattle.gc_cycle.proofs.Few.{few-join}
use Rattle.cache_refills.proofs.Refills.Claimed.{claims-block, claims-cached, claims-claimed, claims-only}
use Rattle.cache_refills.proofs.Refills.Paced.{seeks-prepare}
use Rattle.cache_refills.proofs.Refills.Popping.{calm-claims, stops-paid, unpopped}
use Rattle.cache_refills.proofs.Refills.Visiting.{leads-claimed}
use Rattle.cache_refills.proofs.Refills.Passed.{found-none, plays-calm, plays-join, plays-leads}
use Rattle.cache_refills.proofs.Refills.RoundsSoFar.{claims-refill}
use Rattle.cache_refills.proofs.Refills.Rounds.{leads-prepared, some-blocks, spares-refill}
use Rattle.gc_table.specs.Log.{events}
use Rattle.cache_refills.proofs.Due.{due-calm, due-join, due-none}
use Rattle.cache_refills.proofs.Stops.InStops.{unbegun-claims, unbegun-seeks}
use Rattle.cache_refills.proofs.trying.try_claim.Goals as goal

pub returns-in-None-clause-plays : goal.returns-in-None-clause-plays
returns-in-None-clause-plays c =
    let v : View = view_of c.args.seat.now in
    let x : View = view_of c.claim.new.seat in
    plays-leads v x (leads-prepared v x c.claim.ensures.ran (only-more seeks_block prepares seeks-prepare v x c.in-None.ensures.none.3))

pub returns-in-None-clause-none : goal.returns-in-None-clause-none
returns-in-None-clause-none c =
    let v : View = view_of c.args.seat.now in
    let n = c.in-None.ensures.none in
    found-none c.args.heap.now.shape v (view_of c.claim.new.seat) c.requires.seat.1 c.requires.cache c.requires.seat.0.1 (some-blocks v c.args.seat.now.possible) c.claim.ensures.ran n.0 n.2 n.3

pub returns-in-None-clause-numbers : goal.returns-in-None-clause-numbers
returns-in-None-clause-numbers c =
    let v : View = view_of c.args.seat.now in
    let x : View = view_of c.claim.new.seat in
    numbers-one [] v x (seeks-by v x c.claim.ensures.ran c.in-None.ensures.none.3)

pub pay_for-requires-clause-cache : goal.pay_for-requires-clause-cache
pay_for-requires-clause-cache c = claims-cached c.in-Some.cache (view_of c.args.seat.now) (view_of c.claim.new.seat) c.in-Some.ensures.some

pub returns-in-Some-clause-plays : goal.returns-in-Some-clause-plays
returns-in-Some-clause-plays c =
    let v : View = view_of c.args.seat.now in
    let x : View = view_of c.claim.new.seat in
    let w : View = view_of c.pay_for.new.seat in
    let p = c.pay_for.ensures in
    plays-join v x w (plays-leads v x (leads-prepared v x c.claim.ensures.ran (claims-only c.in-Some.cache v x c.in-Some.ensures.some))) (plays-calm x w p.ran p.only)

pub returns-in-Some-clause-some : goal.returns-in-Some-clause-some
returns-in-Some-clause-some c =
    let v : View = view_of c.args.seat.now in
    let x : View = view_of c.claim.new.seat in
    λ u q t k p. c.pay_for.ensures.refills u (claims-claimed c.in-Some.cache c.args.done u v x c.requires.seat.1.active q t k p c.claim.ensures.ran c.in-Some.ensures.some)

pub returns-in-Some-clause-spares : goal.returns-in-Some-clause-spares
returns-in-Some-clause-spares c =
    let v : View = view_of c.args.seat.now in
    let x : View = view_of c.claim.new.seat in
    let w : View = view_of c.pay_for.new.seat in
    let p = c.pay_for.ensures in
    let l = leads-prepared v x c.claim.ensures.ran (claims-only c.in-Some.cache v x c.in-Some.ensures.some) in
    spares-refill c.pay_for.result v x w l.ran p.ran l.spares p.known

pub returns-in-Some-clause-numbers : goal.returns-in-Some-clause-numbers
returns-in-Some-clause-numbers c =
    claims-refill c.pay_for.result c.in-Some.cache (view_of c.args.seat.now) (view_of c.claim.new.seat) (view_of c.pay_for.new.seat) c.claim.ensures.ran c.in-Some.ensures.some c.pay_for.ensures.numbers

pub returns-in-None-clause-due : goal.returns-in-None-clause-due
returns-in-None-clause-due c =
    let v : View = view_of c.args.seat.now in
    let x : View = view_of c.claim.new.seat in
    due-none (events v x) (unbegun-seeks v x c.in-None.ensures.none.3)

pub returns-in-Some-clause-due : goal.returns-in-Some-clause-due
returns-in-Some-clause-due c =
    let v : View = view_of c.args.seat.now in
    let x : View = view_of c.claim.new.seat in
    let w : View = view_of c.pay_for.new.seat in
    let p = c.pay_for.ensures in
    due-join v x w c.claim.ensures.ran p.ran (due-none (events v x) (unbegun-claims c.in-Some.cache v x c.in-Some.ensures.some)) (due-calm x w p.only)

pub returns-in-None-clause-pops : goal.returns-in-None-clause-pops
returns-in-None-clause-pops c =
    let v : View = view_of c.args.seat.now in
    let x : View = view_of c.claim.new.seat in
    stops-paid (events v x) (unpopped (events v x) (leads-prepared v x c.claim.ensures.ran (only-more seeks_block prepares seeks-prepare v x c.in-None.ensures.none.3)).unpopped)

pub returns-in-None-clause-unpopped : goal.returns-in-None-clause-unpopped
returns-in-None-clause-unpopped c =
    let v : View = view_of c.args.seat.now in
    let x : View = view_of c.claim.new.seat in
    (leads-prepared v x c.claim.ensures.ran (only-more seeks_block prepares seeks-prepare v x c.in-None.ensures.none.3)).unpopped

pub returns-in-Some-clause-pops : goal.returns-in-Some-clause-pops
returns-in-Some-clause-pops c =
    let v : View = view_of c.args.seat.now in
    let x : View = view_of c.claim.new.seat in
    let w : View = view_of c.pay_for.new.seat in
    let p = c.pay_for.ensures in
    leads-claimed v x w (leads-prepared v x c.claim.ensures.ran (claims-only c.in-Some.cache v x c.in-Some.ensures.some)) p.ran (claims-block c.in-Some.cache v x c.in-Some.ensures.some) (calm-claims x w p.only)

pub returns-in-None-clause-longest : goal.returns-in-None-clause-longest
returns-in-None-clause-longest c = let few = c.claim.ensures.few in omega (arith, few)

pub returns-in-Some-clause-longest : goal.returns-in-Some-clause-longest
returns-in-Some-clause-longest c =
    let p = c.pay_for.ensures in
    let k = c.claim.ensures in
    let all = few-join (3 * block_count c.args.heap.now.shape) (1 + payment_steps 1024 card_looks c.args.heap.now.shape) (view_of c.args.seat.now) (view_of c.claim.new.seat) (view_of c.pay_for.new.seat) k.ran p.ran k.few p.longest in
    omega (arith, all)
