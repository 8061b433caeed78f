use Rattle.std.proofs.Common.{[], Option, sym, subst, ◌+◌, ◌*◌, arith}
use Rattle.gc_table.specs.Log.{events}
use Rattle.gc_table.specs.Seats.{view_of}
use Rattle.gc_table.specs.declared.view.View.{View}
use Rattle.gc_table.proofs.History.Log.{only-more}
use Rattle.alloc_cache.specs.Claiming.{seeks_block}
use Rattle.cache_refills.specs.Refilling.{prepares}
use Rattle.gc_cycle.specs.declared.counts.Refill.{Refill}
use Rattle.gc_cycle.specs.Sparing.{SparesRefill}
use Rattle.gc_cycle.specs.Statistics.{RoundNumbers}
use Rattle.gc_cycle.proofs.Changes.{numbers-one, seeks-by}
use Rattle.cache_refills.proofs.Due.{due-calm, due-join, due-none}
use Rattle.cache_refills.proofs.Refills.Claimed.{claims-block, claims-cached, claims-claimed, claims-only}
use Rattle.cache_refills.proofs.Refills.Paced.{seeks-prepare}
use Rattle.cache_refills.proofs.Refills.Passed.{plays-calm, plays-join, plays-leads}
use Rattle.cache_refills.proofs.Refills.Pieced.{misses-blocks, misses-without, of-none, of-some, paid-sees, paid-short}
use Rattle.cache_refills.proofs.Refills.Popping.{calm-claims, stops-paid, unpopped}
use Rattle.cache_refills.proofs.Refills.RoundsSoFar.{claims-refill}
use Rattle.cache_refills.proofs.Refills.Rounds.{leads-prepared, spares-refill}
use Rattle.cache_refills.proofs.Refills.Visiting.{leads-claimed}
use Rattle.cache_refills.proofs.Refills.Together.{answered-comes, ended-collects, seen-on}
use Rattle.cache_refills.proofs.Stops.InStops.{unbegun-claims, unbegun-seeks}
use Rattle.cache_refills.specs.Pace.Pacing.{card_looks}
use Rattle.cache_refills.specs.Pace.StepBounds.{payment_steps}
use Rattle.gc_cycle.proofs.Few.{few-join}
use Rattle.cache_refills.proofs.pieces.search_some.Goals as goal

pub pay_for-requires-clause-cache : goal.pay_for-requires-clause-cache
pay_for-requires-clause-cache c = claims-cached c.in-Claimed.cache (view_of c.args.seat.now) (view_of c.claim_some.new.seat) c.in-Claimed.ensures.searches.claims

pub returns-in-Claimed-clause-plays : goal.returns-in-Claimed-clause-plays
returns-in-Claimed-clause-plays c =
    let v : View = view_of c.args.seat.now in
    let x : View = view_of c.claim_some.new.seat in
    let w : View = view_of c.pay_for.new.seat in
    let p = c.pay_for.ensures in
    let k = c.in-Claimed.ensures in
    plays-join v x w (plays-leads v x (leads-prepared v x k.ran (claims-only c.in-Claimed.cache v x k.searches.claims))) (plays-calm x w p.ran p.only)

pub returns-in-Claimed-clause-some : goal.returns-in-Claimed-clause-some
returns-in-Claimed-clause-some c =
    let v : View = view_of c.args.seat.now in
    let x : View = view_of c.claim_some.new.seat in
    let k = c.in-Claimed.ensures in
    of-some _ c.piece_of.result c.pay_for.result c.piece_of.ensures
    (λ u q t s p. c.pay_for.ensures.refills u (claims-claimed c.in-Claimed.cache c.args.done u v x c.requires.seat.1.active q t s p k.ran k.searches.claims))

pub returns-in-Claimed-clause-spares : goal.returns-in-Claimed-clause-spares
returns-in-Claimed-clause-spares c =
    let v : View = view_of c.args.seat.now in
    let x : View = view_of c.claim_some.new.seat in
    let w : View = view_of c.pay_for.new.seat in
    let p = c.pay_for.ensures in
    let k = c.in-Claimed.ensures in
    let l = leads-prepared v x k.ran (claims-only c.in-Claimed.cache v x k.searches.claims) in
    of-some (λ r. SparesRefill r v w) c.piece_of.result c.pay_for.result c.piece_of.ensures (spares-refill c.pay_for.result v x w k.ran p.ran l.spares p.known)

pub returns-in-Claimed-clause-due : goal.returns-in-Claimed-clause-due
returns-in-Claimed-clause-due c =
    let v : View = view_of c.args.seat.now in
    let x : View = view_of c.claim_some.new.seat in
    let w : View = view_of c.pay_for.new.seat in
    let p = c.pay_for.ensures in
    let k = c.in-Claimed.ensures in
    due-join v x w k.ran p.ran (due-none (events v x) (unbegun-claims c.in-Claimed.cache v x k.searches.claims)) (due-calm x w p.only)

pub returns-in-Claimed-clause-numbers : goal.returns-in-Claimed-clause-numbers
returns-in-Claimed-clause-numbers c =
    let v : View = view_of c.args.seat.now in
    let x : View = view_of c.claim_some.new.seat in
    let w : View = view_of c.pay_for.new.seat in
    let k = c.in-Claimed.ensures in
    subst (λ (o : Option Refill). RoundNumbers o v w) (sym c.piece_of.ensures) (claims-refill c.pay_for.result c.in-Claimed.cache v x w k.ran k.searches.claims c.pay_for.ensures.numbers)

pub returns-in-Claimed-clause-sees : goal.returns-in-Claimed-clause-sees
returns-in-Claimed-clause-sees c =
    let p = c.pay_for.ensures in
    let k = c.in-Claimed.ensures in
    paid-sees c.args.from c.args.most c.in-Claimed.cache c.piece_of.result c.pay_for.result (view_of c.args.seat.now) (view_of c.claim_some.new.seat) (view_of c.pay_for.new.seat) c.piece_of.ensures k.ran p.ran k.searches p.only p.numbers

pub returns-in-Claimed-clause-calls : goal.returns-in-Claimed-clause-calls
returns-in-Claimed-clause-calls c = λ u a. answered-comes c.piece_of.result c.pay_for.result u (view_of c.pay_for.new.seat) c.piece_of.ensures

pub returns-in-Claimed-clause-few : goal.returns-in-Claimed-clause-few
returns-in-Claimed-clause-few c =
    let p = c.pay_for.ensures in
    let k = c.in-Claimed.ensures in
    paid-short c.args.from c.args.most c.in-Claimed.cache c.piece_of.result c.pay_for.result (view_of c.args.seat.now) (view_of c.claim_some.new.seat) (view_of c.pay_for.new.seat) c.piece_of.ensures k.ran p.ran k.searches p.only p.few

pub returns-in-Next-clause-plays : goal.returns-in-Next-clause-plays
returns-in-Next-clause-plays c =
    let v : View = view_of c.args.seat.now in
    let x : View = view_of c.claim_some.new.seat in
    let k = c.in-Next.ensures in
    plays-leads v x (leads-prepared v x k.ran (only-more seeks_block prepares seeks-prepare v x k.searches.2.seeks))

pub returns-in-Next-clause-none : goal.returns-in-Next-clause-none
returns-in-Next-clause-none c =
    let k = c.in-Next.ensures in misses-without c.args.from c.in-Next.next (view_of c.args.seat.now) (view_of c.claim_some.new.seat) c.requires.seat.1 c.requires.cache k.ran k.searches.2

pub returns-in-Next-clause-due : goal.returns-in-Next-clause-due
returns-in-Next-clause-due c =
    let v : View = view_of c.args.seat.now in
    let x : View = view_of c.claim_some.new.seat in
    due-none (events v x) (unbegun-seeks v x c.in-Next.ensures.searches.2.seeks)

pub returns-in-Next-clause-numbers : goal.returns-in-Next-clause-numbers
returns-in-Next-clause-numbers c =
    let v : View = view_of c.args.seat.now in
    let x : View = view_of c.claim_some.new.seat in
    let k = c.in-Next.ensures in
    numbers-one [] v x (seeks-by v x k.ran k.searches.2.seeks)

pub returns-in-Next-clause-sees : goal.returns-in-Next-clause-sees
returns-in-Next-clause-sees c =
    let k = c.in-Next.ensures in
    let s = k.searches in
    (s.0, s.1, misses-blocks c.args.from c.in-Next.next (view_of c.args.seat.now) (view_of c.claim_some.new.seat) k.ran s.2)

pub returns-in-Next-clause-calls : goal.returns-in-Next-clause-calls
returns-in-Next-clause-calls c = λ u a.
    let v : View = view_of c.args.seat.now in
    let x : View = view_of c.claim_some.new.seat in
    let k = c.in-Next.ensures in
    seen-on c.args.from c.in-Next.next u v x k.ran a (misses-blocks c.args.from c.in-Next.next v x k.ran k.searches.2)

pub returns-in-Ended-clause-plays : goal.returns-in-Ended-clause-plays
returns-in-Ended-clause-plays c =
    let v : View = view_of c.args.seat.now in
    let x : View = view_of c.claim_some.new.seat in
    let k = c.in-Ended.ensures in
    plays-leads v x (leads-prepared v x k.ran (only-more seeks_block prepares seeks-prepare v x k.searches.1.seeks))

pub returns-in-Ended-clause-none : goal.returns-in-Ended-clause-none
returns-in-Ended-clause-none c =
    let k = c.in-Ended.ensures in misses-without c.args.from _ (view_of c.args.seat.now) (view_of c.claim_some.new.seat) c.requires.seat.1 c.requires.cache k.ran k.searches.1

pub returns-in-Ended-clause-due : goal.returns-in-Ended-clause-due
returns-in-Ended-clause-due c =
    let v : View = view_of c.args.seat.now in
    let x : View = view_of c.claim_some.new.seat in
    due-none (events v x) (unbegun-seeks v x c.in-Ended.ensures.searches.1.seeks)

pub returns-in-Ended-clause-numbers : goal.returns-in-Ended-clause-numbers
returns-in-Ended-clause-numbers c =
    let v : View = view_of c.args.seat.now in
    let x : View = view_of c.claim_some.new.seat in
    let k = c.in-Ended.ensures in
    numbers-one [] v x (seeks-by v x k.ran k.searches.1.seeks)

pub returns-in-Ended-clause-sees : goal.returns-in-Ended-clause-sees
returns-in-Ended-clause-sees c =
    let k = c.in-Ended.ensures in
    (k.searches.0, misses-blocks c.args.from _ (view_of c.args.seat.now) (view_of c.claim_some.new.seat) k.ran k.searches.1)

pub returns-in-Ended-clause-calls : goal.returns-in-Ended-clause-calls
returns-in-Ended-clause-calls c = λ u a.
    let v : View = view_of c.args.seat.now in
    let x : View = view_of c.claim_some.new.seat in
    let k = c.in-Ended.ensures in
    ended-collects c.args.from u v x k.ran a (misses-blocks c.args.from _ v x k.ran k.searches.1)

pub returns-in-Claimed-clause-longest : goal.returns-in-Claimed-clause-longest
returns-in-Claimed-clause-longest c =
    let p = c.pay_for.ensures in
    let k = c.in-Claimed.ensures in
    let s = k.searches in
    let few = s.few in
    let within = s.within in
    let low = within.0 in
    let high = within.1 in
    let all = few-join (3 * c.args.most) (1 + payment_steps 1024 card_looks c.args.heap.now.shape) (view_of c.args.seat.now) (view_of c.claim_some.new.seat) (view_of c.pay_for.new.seat) k.ran p.ran (omega (arith, few, low, high)) p.longest in
    omega (arith, all)

pub returns-in-Next-clause-longest : goal.returns-in-Next-clause-longest
returns-in-Next-clause-longest c =
    let s = c.in-Next.ensures.searches in
    let next = s.0 in
    let few = s.2.few in
    omega (arith, few, next)

pub returns-in-Ended-clause-longest : goal.returns-in-Ended-clause-longest
returns-in-Ended-clause-longest c =
    let s = c.in-Ended.ensures.searches in
    let end = s.0 in
    let few = s.1.few in
    omega (arith, few, end)

pub returns-in-Next-clause-pops : goal.returns-in-Next-clause-pops
returns-in-Next-clause-pops c =
    let v : View = view_of c.args.seat.now in
    let x : View = view_of c.claim_some.new.seat in
    let k = c.in-Next.ensures in
    stops-paid (events v x) (unpopped (events v x) (leads-prepared v x k.ran (only-more seeks_block prepares seeks-prepare v x k.searches.2.seeks)).unpopped)

pub returns-in-Next-clause-unpopped : goal.returns-in-Next-clause-unpopped
returns-in-Next-clause-unpopped c =
    let v : View = view_of c.args.seat.now in
    let x : View = view_of c.claim_some.new.seat in
    let k = c.in-Next.ensures in
    (leads-prepared v x k.ran (only-more seeks_block prepares seeks-prepare v x k.searches.2.seeks)).unpopped

pub returns-in-Ended-clause-pops : goal.returns-in-Ended-clause-pops
returns-in-Ended-clause-pops c =
    let v : View = view_of c.args.seat.now in
    let x : View = view_of c.claim_some.new.seat in
    let k = c.in-Ended.ensures in
    stops-paid (events v x) (unpopped (events v x) (leads-prepared v x k.ran (only-more seeks_block prepares seeks-prepare v x k.searches.1.seeks)).unpopped)

pub returns-in-Ended-clause-unpopped : goal.returns-in-Ended-clause-unpopped
returns-in-Ended-clause-unpopped c =
    let v : View = view_of c.args.seat.now in
    let x : View = view_of c.claim_some.new.seat in
    let k = c.in-Ended.ensures in
    (leads-prepared v x k.ran (only-more seeks_block prepares seeks-prepare v x k.searches.1.seeks)).unpopped

pub returns-in-Claimed-clause-pops : goal.returns-in-Claimed-clause-pops
returns-in-Claimed-clause-pops c =
    let v : View = view_of c.args.seat.now in
    let x : View = view_of c.claim_some.new.seat in
    let w : View = view_of c.pay_for.new.seat in
    let p = c.pay_for.ensures in
    let k = c.in-Claimed.ensures in
    leads-claimed v x w (leads-prepared v x k.ran (claims-only c.in-Claimed.cache v x k.searches.claims)) p.ran (claims-block c.in-Claimed.cache v x k.searches.claims) (calm-claims x w p.only)

pub returns-in-Claimed-clause-unpopped : goal.returns-in-Claimed-clause-unpopped
returns-in-Claimed-clause-unpopped c = of-none _ c.piece_of.result c.pay_for.result c.piece_of.ensures
