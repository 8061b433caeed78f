use Rattle.gc_table.specs.Seats.{view_of}
use Rattle.gc_table.specs.declared.view.View.{View}
use Rattle.gc_table.proofs.Running.{ran-join}
use Rattle.gc_cycle.specs.Answering.{answers}
use Rattle.gc_cycle.specs.Mutating.{stays_calm}
use Rattle.gc_table.proofs.History.Log.{only-more}
use Rattle.gc_cycle.proofs.Refills.Answered.{answers-calm, full-later}
use Rattle.cache_refills.proofs.Positions.{stored-more}
use Rattle.cache_refills.proofs.Refills.Rounds.{later-some, leads-join, leads-looked, leads-prepared, looked-seen, marked-stops, marking-known, paced-after, round-calm, round-later}
use Rattle.cache_refills.proofs.Refills.Popping.{answered-pops, stops-paid, unpopped}
use Rattle.cache_refills.proofs.Refills.Visiting.{calm-stops, calm-visits, leads-caused, leads-paid, leads-pops, leads-stops, leads-visited, leads-visits}
use Rattle.gc_cycle.specs.Sorts.{comes_in}
use Rattle.gc_cycle.proofs.Sequences.{none-of-steps}
use Rattle.cache_refills.proofs.Stops.StopEnds.{answers-in}
use Rattle.cache_refills.proofs.Refills.RoundsSoFar.{leaves-first, leaves-full}
use Rattle.gc_cycle.proofs.Changes.{by-join}
use Rattle.gc_table.specs.Log.{events}
use Rattle.cache_refills.proofs.Due.{due-calm, due-join, due-none}
use Rattle.std.proofs.Common.{[], Some, refl}
use Rattle.gc_cycle.specs.declared.counts.Refill.TheVariants as refills
use Rattle.cache_refills.specs.Refilling.{prepares}
use Rattle.cache_refills.specs.Telling.{IsUntold, TellsRound, TellsStops}
use Rattle.cache_refills.proofs.Stops.Told.{answers-untold, prepared-untold}
use Rattle.cache_refills.proofs.Telling.{inside-round, telling-later, told-more, told-none, untold-join}
use Rattle.cache_refills.proofs.refilling.refill_once.Goals as goal

pub returns-then-stores_if_full-clause-round : goal.returns-then-stores_if_full-clause-round
returns-then-stores_if_full-clause-round g c =
    let v : View = view_of c.args.seat.now in
    let w : View = view_of c.stores_if_full.new.seat in
    let e = c.stores_if_full.ensures in
    round-calm c.args.done v w _ e.ran (only-more answers stays_calm answers-calm v w e.only) (none-of-steps answers comes_in answers-in (events v w) e.only) c.if-stores_if_full.ensures.full.1

pub returns-then-stores_if_full-clause-stops : goal.returns-then-stores_if_full-clause-stops
returns-then-stores_if_full-clause-stops g c =
    let v : View = view_of c.args.seat.now in
    let w : View = view_of c.stores_if_full.new.seat in
    calm-stops c.args.heap.now.shape v w (only-more answers stays_calm answers-calm v w c.stores_if_full.ensures.only)

pub returns-then-stores_if_full-clause-some : goal.returns-then-stores_if_full-clause-some
returns-then-stores_if_full-clause-some g c =
    λ u r t s. full-later c.args.done u (view_of c.args.seat.now) (view_of c.stores_if_full.new.seat) r c.stores_if_full.ensures.ran c.if-stores_if_full.ensures.full.0

pub sees_to_cycle-requires-clause-marking : goal.sees_to_cycle-requires-clause-marking
sees_to_cycle-requires-clause-marking g c =
    let v : View = view_of c.args.seat.now in
    let w : View = view_of c.stores_if_full.new.seat in
    let t = c.if-stores_if_full.ensures.going.looked in
    λ h. marking-known v w t c.stores_if_full.ensures.seat.1.active (looked-seen v w t c.requires.seat.1 h)

pub returns-then-sees_to_cycle-clause-round : goal.returns-then-sees_to_cycle-clause-round
returns-then-sees_to_cycle-clause-round g c =
    let v : View = view_of c.args.seat.now in
    let w : View = view_of c.stores_if_full.new.seat in
    let x : View = view_of c.sees_to_cycle.new.seat in
    let s = c.sees_to_cycle.ensures in
    round-later c.args.done v x (view_of c.refill_in_stop.new.seat) c.refill_in_stop.result (leads-join v w x (leads-looked v w c.if-stores_if_full.ensures.going) (leads-prepared w x s.ran s.only)) c.refill_in_stop.ensures.round

pub returns-then-sees_to_cycle-clause-stops : goal.returns-then-sees_to_cycle-clause-stops
returns-then-sees_to_cycle-clause-stops g c =
    let v : View = view_of c.args.seat.now in
    let w : View = view_of c.stores_if_full.new.seat in
    let x : View = view_of c.sees_to_cycle.new.seat in
    let s = c.sees_to_cycle.ensures in
    let t = c.if-stores_if_full.ensures.going.looked in
    let d = c.if-sees_to_cycle.ensures.done in
    leads-caused c.args.heap.now.shape v x (view_of c.refill_in_stop.new.seat) (leads-join v w x (leads-looked v w c.if-stores_if_full.ensures.going) (leads-prepared w x s.ran s.only)) c.refill_in_stop.ensures.round.ran
    (marked-stops c.args.heap.now.shape v w x t (looked-seen v w t c.requires.seat.1 d.0) s.ran d.1)

pub returns-then-sees_to_cycle-clause-some : goal.returns-then-sees_to_cycle-clause-some
returns-then-sees_to_cycle-clause-some g c =
    let v : View = view_of c.args.seat.now in
    let w : View = view_of c.stores_if_full.new.seat in
    let x : View = view_of c.sees_to_cycle.new.seat in
    let s = c.sees_to_cycle.ensures in
    let l = leads-join v w x (leads-looked v w c.if-stores_if_full.ensures.going) (leads-prepared w x s.ran s.only) in
    later-some c.refill_in_stop.result (λ r f u q t k. f u (ran-join u v x q l.ran) (l.tells u q t) (stored-more c.args.done u v x q l.ran l.inside k)) c.refill_in_stop.ensures.some

pub returns-clause-round : goal.returns-clause-round
returns-clause-round g c =
    let v : View = view_of c.args.seat.now in
    let w : View = view_of c.stores_if_full.new.seat in
    let x : View = view_of c.sees_to_cycle.new.seat in
    let s = c.sees_to_cycle.ensures in
    round-later c.args.done v x (view_of c.claim_or_stop.new.seat) c.claim_or_stop.result (leads-join v w x (leads-looked v w c.if-stores_if_full.ensures.going) (leads-prepared w x s.ran s.only)) c.claim_or_stop.ensures.round

pub returns-clause-stops : goal.returns-clause-stops
returns-clause-stops g c =
    let v : View = view_of c.args.seat.now in
    let w : View = view_of c.stores_if_full.new.seat in
    let x : View = view_of c.sees_to_cycle.new.seat in
    let s = c.sees_to_cycle.ensures in
    leads-stops c.args.heap.now.shape v x (view_of c.claim_or_stop.new.seat) (leads-join v w x (leads-looked v w c.if-stores_if_full.ensures.going) (leads-prepared w x s.ran s.only)) c.claim_or_stop.ensures.round.ran c.claim_or_stop.ensures.stops

pub returns-clause-some : goal.returns-clause-some
returns-clause-some g c =
    let v : View = view_of c.args.seat.now in
    let w : View = view_of c.stores_if_full.new.seat in
    let x : View = view_of c.sees_to_cycle.new.seat in
    let s = c.sees_to_cycle.ensures in
    let a = leads-looked v w c.if-stores_if_full.ensures.going in
    let l = leads-join v w x a (leads-prepared w x s.ran s.only) in
    later-some c.claim_or_stop.result (λ r f u q t k. f u (ran-join u v x q l.ran) (l.tells u q t) (stored-more c.args.done u v x q l.ran l.inside k) (paced-after u w x (ran-join u v w q a.ran) s.ran c.if-sees_to_cycle.ensures.paced)) c.claim_or_stop.ensures.some

pub returns-then-stores_if_full-clause-numbers : goal.returns-then-stores_if_full-clause-numbers
returns-then-stores_if_full-clause-numbers g c = leaves-full (view_of c.args.seat.now) (view_of c.stores_if_full.new.seat) c.stores_if_full.ensures.numbers

pub returns-then-sees_to_cycle-clause-numbers : goal.returns-then-sees_to_cycle-clause-numbers
returns-then-sees_to_cycle-clause-numbers g c =
    let v : View = view_of c.args.seat.now in
    let w : View = view_of c.stores_if_full.new.seat in
    let x : View = view_of c.sees_to_cycle.new.seat in
    leaves-first c.refill_in_stop.result v x (view_of c.refill_in_stop.new.seat) (by-join [] [] v w x c.stores_if_full.ensures.numbers c.sees_to_cycle.ensures.numbers) c.refill_in_stop.ensures.numbers

pub returns-clause-numbers : goal.returns-clause-numbers
returns-clause-numbers g c =
    let v : View = view_of c.args.seat.now in
    let w : View = view_of c.stores_if_full.new.seat in
    let x : View = view_of c.sees_to_cycle.new.seat in
    leaves-first c.claim_or_stop.result v x (view_of c.claim_or_stop.new.seat) (by-join [] [] v w x c.stores_if_full.ensures.numbers c.sees_to_cycle.ensures.numbers) c.claim_or_stop.ensures.numbers

pub returns-then-stores_if_full-clause-due : goal.returns-then-stores_if_full-clause-due
returns-then-stores_if_full-clause-due g c =
    let v : View = view_of c.args.seat.now in
    let w : View = view_of c.stores_if_full.new.seat in
    due-calm v w (only-more answers stays_calm answers-calm v w c.stores_if_full.ensures.only)

pub returns-then-sees_to_cycle-clause-due : goal.returns-then-sees_to_cycle-clause-due
returns-then-sees_to_cycle-clause-due g c =
    let v : View = view_of c.args.seat.now in
    let w : View = view_of c.stores_if_full.new.seat in
    let x : View = view_of c.sees_to_cycle.new.seat in
    let y : View = view_of c.refill_in_stop.new.seat in
    let e = c.stores_if_full.ensures in
    let s = c.sees_to_cycle.ensures in
    let r = c.refill_in_stop.ensures in
    due-join v w y e.ran (ran-join w x y s.ran r.round.ran) (due-calm v w (only-more answers stays_calm answers-calm v w e.only)) (due-join w x y s.ran r.round.ran s.due (due-none (events x y) r.unbegun))

pub returns-clause-due : goal.returns-clause-due
returns-clause-due g c =
    let v : View = view_of c.args.seat.now in
    let w : View = view_of c.stores_if_full.new.seat in
    let x : View = view_of c.sees_to_cycle.new.seat in
    let y : View = view_of c.claim_or_stop.new.seat in
    let e = c.stores_if_full.ensures in
    let s = c.sees_to_cycle.ensures in
    let r = c.claim_or_stop.ensures in
    due-join v w y e.ran (ran-join w x y s.ran r.round.ran) (due-calm v w (only-more answers stays_calm answers-calm v w e.only)) (due-join w x y s.ran r.round.ran s.due r.due)

pub returns-then-stores_if_full-clause-visit : goal.returns-then-stores_if_full-clause-visit
returns-then-stores_if_full-clause-visit g c =
    let v : View = view_of c.args.seat.now in
    let w : View = view_of c.stores_if_full.new.seat in
    calm-visits c.args.heap.now.shape v w (only-more answers stays_calm answers-calm v w c.stores_if_full.ensures.only)

pub returns-then-sees_to_cycle-clause-visit : goal.returns-then-sees_to_cycle-clause-visit
returns-then-sees_to_cycle-clause-visit g c =
    let v : View = view_of c.args.seat.now in
    let w : View = view_of c.stores_if_full.new.seat in
    let x : View = view_of c.sees_to_cycle.new.seat in
    let s = c.sees_to_cycle.ensures in
    let t = c.if-stores_if_full.ensures.going.looked in
    let d = c.if-sees_to_cycle.ensures.done in
    let r = c.refill_in_stop.ensures in
    leads-visited c.args.heap.now.shape v x (view_of c.refill_in_stop.new.seat) (leads-join v w x (leads-looked v w c.if-stores_if_full.ensures.going) (leads-prepared w x s.ran s.only)) r.round.ran
    (marked-stops c.args.heap.now.shape v w x t (looked-seen v w t c.requires.seat.1 d.0) s.ran d.1) r.outside

pub returns-clause-visit : goal.returns-clause-visit
returns-clause-visit g c =
    let v : View = view_of c.args.seat.now in
    let w : View = view_of c.stores_if_full.new.seat in
    let x : View = view_of c.sees_to_cycle.new.seat in
    let s = c.sees_to_cycle.ensures in
    leads-visits c.args.heap.now.shape v x (view_of c.claim_or_stop.new.seat) (leads-join v w x (leads-looked v w c.if-stores_if_full.ensures.going) (leads-prepared w x s.ran s.only)) c.claim_or_stop.ensures.round.ran c.claim_or_stop.ensures.visit

pub returns-then-stores_if_full-clause-pops : goal.returns-then-stores_if_full-clause-pops
returns-then-stores_if_full-clause-pops g c =
    let v : View = view_of c.args.seat.now in
    let w : View = view_of c.stores_if_full.new.seat in
    stops-paid (events v w) (unpopped (events v w) (answered-pops v w c.stores_if_full.ensures.only))

pub returns-then-sees_to_cycle-clause-pops : goal.returns-then-sees_to_cycle-clause-pops
returns-then-sees_to_cycle-clause-pops g c =
    let v : View = view_of c.args.seat.now in
    let w : View = view_of c.stores_if_full.new.seat in
    let x : View = view_of c.sees_to_cycle.new.seat in
    let y : View = view_of c.refill_in_stop.new.seat in
    let s = c.sees_to_cycle.ensures in
    let r = c.refill_in_stop.ensures in
    stops-paid (events v y) (leads-pops v x y (leads-join v w x (leads-looked v w c.if-stores_if_full.ensures.going) (leads-prepared w x s.ran s.only)) r.round.ran r.pops)

pub returns-clause-pops : goal.returns-clause-pops
returns-clause-pops g c =
    let v : View = view_of c.args.seat.now in
    let w : View = view_of c.stores_if_full.new.seat in
    let x : View = view_of c.sees_to_cycle.new.seat in
    let s = c.sees_to_cycle.ensures in
    leads-paid v x (view_of c.claim_or_stop.new.seat) (leads-join v w x (leads-looked v w c.if-stores_if_full.ensures.going) (leads-prepared w x s.ran s.only)) c.claim_or_stop.ensures.round.ran c.claim_or_stop.ensures.pops

pub returns-then-stores_if_full-clause-told : goal.returns-then-stores_if_full-clause-told
returns-then-stores_if_full-clause-told g c =
    let v : View = view_of c.args.seat.now in
    let w : View = view_of c.stores_if_full.new.seat in
    let e = c.stores_if_full.ensures in
    told-none g.W.Watch.hears (λ ns. TellsRound (Some refills.Full) ns v w) c.args.watch.now (record { stops = []; last = []; all = refl; tells = answers-untold v w e.ran e.only; paid = refl })

pub returns-then-sees_to_cycle-clause-told : goal.returns-then-sees_to_cycle-clause-told
returns-then-sees_to_cycle-clause-told g c =
    let v : View = view_of c.args.seat.now in
    let w : View = view_of c.stores_if_full.new.seat in
    let x : View = view_of c.sees_to_cycle.new.seat in
    let y : View = view_of c.refill_in_stop.new.seat in
    let e = c.stores_if_full.ensures in
    let s = c.sees_to_cycle.ensures in
    let r = c.refill_in_stop.ensures in
    let o = c.refill_in_stop.result in
    let untold : IsUntold v x = untold-join v w x (answers-untold v w e.ran e.only) (prepared-untold w x s.ran s.only) in
    told-more g.W.Watch.hears (λ ns. TellsStops ns x y) (λ ns. TellsRound o ns v y) c.args.watch.now c.refill_in_stop.new.watch
    (λ ns k. telling-later o ns v x y r.round.ran untold (inside-round o ns x y r.inside k)) r.told

pub returns-clause-told : goal.returns-clause-told
returns-clause-told g c =
    let v : View = view_of c.args.seat.now in
    let w : View = view_of c.stores_if_full.new.seat in
    let x : View = view_of c.sees_to_cycle.new.seat in
    let y : View = view_of c.claim_or_stop.new.seat in
    let e = c.stores_if_full.ensures in
    let s = c.sees_to_cycle.ensures in
    let r = c.claim_or_stop.ensures in
    let o = c.claim_or_stop.result in
    let untold : IsUntold v x = untold-join v w x (answers-untold v w e.ran e.only) (prepared-untold w x s.ran s.only) in
    told-more g.W.Watch.hears (λ ns. TellsRound o ns x y) (λ ns. TellsRound o ns v y) c.args.watch.now c.claim_or_stop.new.watch (λ ns k. telling-later o ns v x y r.round.ran untold k) r.told
