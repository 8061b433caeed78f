use Rattle.std.proofs.Common.{◌∙◌, ap, Bool, [], subst}
use Rattle.std.specs.Prelude.{if◌then◌else◌}
use Rattle.gc_table.specs.Seats.{view_of}
use Rattle.gc_table.specs.declared.view.View.{View}
use Rattle.cache_refills.proofs.Stops.AfterStop.{done-resuming, round-cache, round-full, round-gets, round-none, round-theirs, to-drop}
use Rattle.gc_cycle.proofs.Refills.Answered.{full-later}
use Rattle.cache_refills.proofs.Stops.InStops.{unbegun-stop, unbegun-tries}
use Rattle.cache_refills.proofs.Stops.StopEnds.{stop-outside, stop-pops}
use Rattle.gc_cycle.proofs.Changes.{numbers-one, only-changes}
use Rattle.gc_cycle.specs.Statistics.{GivesUp, taken}
use Rattle.cache_refills.proofs.Refills.RoundsSoFar.{stop-full, stop-none, stop-some, stop-takes}
use Rattle.gc_table.specs.Log.{events}
use Rattle.gc_cycle.proofs.Stops.Popping.{works-pop}
use Rattle.cache_refills.specs.Notices as notices
use Rattle.cache_refills.specs.Telling.{TellsStops}
use Rattle.cache_refills.proofs.Stops.Told.{stop-inside, stop-told}
use Rattle.cache_refills.proofs.Telling.{stops-asking, told-one}
use Rattle.std.specs.Prelude.{is_some}
use Rattle.gc_cycle.proofs.Refills.Answered.{cached-still}
use Rattle.cache_refills.proofs.refilling.refill_in_stop.Goals as goal

pub returns-then-not-stop-clause-round : goal.returns-then-not-stop-clause-round
returns-then-not-stop-clause-round g c = round-theirs c.args.done (view_of c.args.seat.now) (view_of c.stop.new.seat) c.stop.ensures.tries c.stop.ensures.position (c.stop.ensures.raises ∙ ap (λ (b : Bool). if b then 1 else 0) c.if-not-stop.true) c.stop.ensures.unresumed (works-pop (events (view_of c.args.seat.now) (view_of c.stop.new.seat)) c.stop.ensures.pops) c.if-not-stop.ensures.theirs

pub resume-requires-clause-done : goal.resume-requires-clause-done
resume-requires-clause-done g c = done-resuming (view_of c.claim_in_stop-cache.new.seat) c.claim_in_stop-cache.ensures.claims.resume

pub spend_none-requires : goal.spend_none-requires
spend_none-requires g c = c.if-not-goes_on.ensures.full.1

pub returns-then-not-goes_on-clause-round : goal.returns-then-not-goes_on-clause-round
returns-then-not-goes_on-clause-round g c =
    let u : View = view_of c.args.seat.now in
    let v : View = view_of c.stop.new.seat in
    let w : View = view_of c.claim_in_stop-cache.new.seat in
    let x : View = view_of c.resume.new.seat in
    let y : View = view_of c.goes_on.new.seat in
    let o = c.claim_in_stop-cache.result in
    let t = c.stop.ensures.tries in
    let once = c.stop.ensures.raises ∙ ap (λ (b : Bool). if b then 1 else 0) c.if-not-stop.false in
    let i = c.claim_in_stop-cache.ensures in
    let d = c.resume.ensures.step in
    let e = c.goes_on.ensures in
    round-full o u v w x y t once i.claims d e.ran e.only c.args.done c.args.heap.now.shape c.requires.seat.0.1 c.if-not-stop.ensures.yours.raised i.fills c.stop.ensures.unresumed i.cycles c.if-not-goes_on.ensures.full.0.0.read c.if-not-goes_on.ensures.full.0.1

pub returns-then-not-goes_on-clause-some : goal.returns-then-not-goes_on-clause-some
returns-then-not-goes_on-clause-some g c =
    let u : View = view_of c.args.seat.now in
    let v : View = view_of c.stop.new.seat in
    let w : View = view_of c.claim_in_stop-cache.new.seat in
    let x : View = view_of c.resume.new.seat in
    let y : View = view_of c.goes_on.new.seat in
    let o = c.claim_in_stop-cache.result in
    let t = c.stop.ensures.tries in
    let once = c.stop.ensures.raises ∙ ap (λ (b : Bool). if b then 1 else 0) c.if-not-stop.false in
    let i = c.claim_in_stop-cache.ensures in
    let d = c.resume.ensures.step in
    let e = c.goes_on.ensures in
    λ z r k s. full-later c.args.done z x y (to-drop o u v w x y t once i.claims d e.ran e.only z r) e.ran c.if-not-goes_on.ensures.full.0.0

pub returns-in-Some-clause-round : goal.returns-in-Some-clause-round
returns-in-Some-clause-round g c =
    let u : View = view_of c.args.seat.now in
    let v : View = view_of c.stop.new.seat in
    let w : View = view_of c.claim_in_stop-cache.new.seat in
    let x : View = view_of c.resume.new.seat in
    let y : View = view_of c.goes_on.new.seat in
    let o = c.claim_in_stop-cache.result in
    let t = c.stop.ensures.tries in
    let once = c.stop.ensures.raises ∙ ap (λ (b : Bool). if b then 1 else 0) c.if-not-stop.false in
    let i = c.claim_in_stop-cache.ensures in
    let d = c.resume.ensures.step in
    let e = c.goes_on.ensures in
    let k = rw c.in-Some.is at c.if-not-goes_on.ensures.going in
    round-cache o u v w x y t once i.claims d e.ran e.only c.args.done c.args.heap.now.shape c.requires.seat.0.1 c.if-not-stop.ensures.yours.raised i.fills c.stop.ensures.unresumed i.cycles i.ends c.in-Some.kept c.nothing_paid.result k

pub returns-in-Some-clause-some : goal.returns-in-Some-clause-some
returns-in-Some-clause-some g c =
    let u : View = view_of c.args.seat.now in
    let v : View = view_of c.stop.new.seat in
    let w : View = view_of c.claim_in_stop-cache.new.seat in
    let x : View = view_of c.resume.new.seat in
    let y : View = view_of c.goes_on.new.seat in
    let o = c.claim_in_stop-cache.result in
    let t = c.stop.ensures.tries in
    let once = c.stop.ensures.raises ∙ ap (λ (b : Bool). if b then 1 else 0) c.if-not-stop.false in
    let i = c.claim_in_stop-cache.ensures in
    let d = c.resume.ensures.step in
    let e = c.goes_on.ensures in
    let k = rw c.in-Some.is at c.if-not-goes_on.ensures.going in
    λ z r b s. round-gets o u v w x y t once i.claims d e.ran e.only c.args.done z c.stop.ensures.position i.full r b c.in-Some.kept c.nothing_paid.result c.nothing_paid.ensures k

pub returns-in-None-clause-round : goal.returns-in-None-clause-round
returns-in-None-clause-round g c =
    let u : View = view_of c.args.seat.now in
    let v : View = view_of c.stop.new.seat in
    let w : View = view_of c.claim_in_stop-cache.new.seat in
    let x : View = view_of c.resume.new.seat in
    let y : View = view_of c.goes_on.new.seat in
    let o = c.claim_in_stop-cache.result in
    let t = c.stop.ensures.tries in
    let once = c.stop.ensures.raises ∙ ap (λ (b : Bool). if b then 1 else 0) c.if-not-stop.false in
    let i = c.claim_in_stop-cache.ensures in
    let d = c.resume.ensures.step in
    let e = c.goes_on.ensures in
    let k = rw c.in-None.is at c.if-not-goes_on.ensures.going in
    round-none o u v w x y t once i.claims d e.ran e.only c.args.done c.args.heap.now.shape c.stop.ensures.position c.requires.seat.0.1 c.if-not-stop.ensures.yours.raised i.fills c.stop.ensures.unresumed i.cycles i.ends (works-pop (events u v) c.stop.ensures.pops) i.full i.missed k e.seat.1

pub returns-then-not-stop-clause-numbers : goal.returns-then-not-stop-clause-numbers
returns-then-not-stop-clause-numbers g c =
    let u : View = view_of c.args.seat.now in
    let v : View = view_of c.stop.new.seat in
    numbers-one [] u v (only-changes u v c.stop.ensures.tries.ran c.stop.ensures.numbers)

pub returns-then-not-goes_on-clause-numbers : goal.returns-then-not-goes_on-clause-numbers
returns-then-not-goes_on-clause-numbers g c =
    let u : View = view_of c.args.seat.now in
    let v : View = view_of c.stop.new.seat in
    let x : View = view_of c.resume.new.seat in
    let o = c.claim_in_stop-cache.result in
    let k = stop-takes (taken o) u v (view_of c.claim_in_stop-cache.new.seat) x (only-changes u v c.stop.ensures.tries.ran c.stop.ensures.numbers) c.claim_in_stop-cache.ensures.numbers c.resume.ensures.ran c.resume.ensures.step in
    let y : View = view_of c.goes_on.new.seat in
    stop-full o u x y k (subst (λ kept. GivesUp o kept x y) c.if-not-goes_on.ensures.full.1 c.goes_on.ensures.numbers)

pub returns-in-Some-clause-numbers : goal.returns-in-Some-clause-numbers
returns-in-Some-clause-numbers g c =
    let u : View = view_of c.args.seat.now in
    let v : View = view_of c.stop.new.seat in
    let x : View = view_of c.resume.new.seat in
    let o = c.claim_in_stop-cache.result in
    let k = stop-takes (taken o) u v (view_of c.claim_in_stop-cache.new.seat) x (only-changes u v c.stop.ensures.tries.ran c.stop.ensures.numbers) c.claim_in_stop-cache.ensures.numbers c.resume.ensures.ran c.resume.ensures.step in
    let going = rw c.in-Some.is at c.if-not-goes_on.ensures.going in
    stop-some o c.in-Some.kept c.nothing_paid.result u x (view_of c.goes_on.new.seat) going.same k going.looked

pub returns-in-None-clause-numbers : goal.returns-in-None-clause-numbers
returns-in-None-clause-numbers g c =
    let u : View = view_of c.args.seat.now in
    let v : View = view_of c.stop.new.seat in
    let x : View = view_of c.resume.new.seat in
    let o = c.claim_in_stop-cache.result in
    let k = stop-takes (taken o) u v (view_of c.claim_in_stop-cache.new.seat) x (only-changes u v c.stop.ensures.tries.ran c.stop.ensures.numbers) c.claim_in_stop-cache.ensures.numbers c.resume.ensures.ran c.resume.ensures.step in
    let going = rw c.in-None.is at c.if-not-goes_on.ensures.going in
    stop-none o u x (view_of c.goes_on.new.seat) going.same k going.looked

pub returns-then-not-stop-clause-unbegun : goal.returns-then-not-stop-clause-unbegun
returns-then-not-stop-clause-unbegun g c = unbegun-tries (view_of c.args.seat.now) (view_of c.stop.new.seat) c.stop.ensures.tries.only

pub returns-then-not-goes_on-clause-unbegun : goal.returns-then-not-goes_on-clause-unbegun
returns-then-not-goes_on-clause-unbegun g c =
    let t = c.stop.ensures.tries in
    let i = c.claim_in_stop-cache.ensures in
    let e = c.goes_on.ensures in
    unbegun-stop (view_of c.args.seat.now) (view_of c.stop.new.seat) (view_of c.claim_in_stop-cache.new.seat) (view_of c.resume.new.seat) (view_of c.goes_on.new.seat) t.ran i.claims.ran c.resume.ensures.ran e.ran t.only i.unbegun
    c.resume.ensures.step e.only

pub returns-in-Some-clause-unbegun : goal.returns-in-Some-clause-unbegun
returns-in-Some-clause-unbegun g c =
    let t = c.stop.ensures.tries in
    let i = c.claim_in_stop-cache.ensures in
    let e = c.goes_on.ensures in
    unbegun-stop (view_of c.args.seat.now) (view_of c.stop.new.seat) (view_of c.claim_in_stop-cache.new.seat) (view_of c.resume.new.seat) (view_of c.goes_on.new.seat) t.ran i.claims.ran c.resume.ensures.ran e.ran t.only i.unbegun
    c.resume.ensures.step e.only

pub returns-in-None-clause-unbegun : goal.returns-in-None-clause-unbegun
returns-in-None-clause-unbegun g c =
    let t = c.stop.ensures.tries in
    let i = c.claim_in_stop-cache.ensures in
    let e = c.goes_on.ensures in
    unbegun-stop (view_of c.args.seat.now) (view_of c.stop.new.seat) (view_of c.claim_in_stop-cache.new.seat) (view_of c.resume.new.seat) (view_of c.goes_on.new.seat) t.ran i.claims.ran c.resume.ensures.ran e.ran t.only i.unbegun
    c.resume.ensures.step e.only

pub returns-then-not-stop-clause-outside : goal.returns-then-not-stop-clause-outside
returns-then-not-stop-clause-outside g c = c.stop.ensures.outside

pub returns-then-not-goes_on-clause-outside : goal.returns-then-not-goes_on-clause-outside
returns-then-not-goes_on-clause-outside g c =
    let i = c.claim_in_stop-cache.ensures.claims in
    stop-outside (view_of c.args.seat.now) (view_of c.stop.new.seat) (view_of c.claim_in_stop-cache.new.seat) (view_of c.resume.new.seat) (view_of c.goes_on.new.seat) c.stop.ensures.tries.ran i.ran c.resume.ensures.step c.goes_on.ensures.ran c.goes_on.ensures.only
    c.stop.ensures.outside i.calm

pub returns-in-Some-clause-outside : goal.returns-in-Some-clause-outside
returns-in-Some-clause-outside g c =
    let i = c.claim_in_stop-cache.ensures.claims in
    stop-outside (view_of c.args.seat.now) (view_of c.stop.new.seat) (view_of c.claim_in_stop-cache.new.seat) (view_of c.resume.new.seat) (view_of c.goes_on.new.seat) c.stop.ensures.tries.ran i.ran c.resume.ensures.step c.goes_on.ensures.ran c.goes_on.ensures.only
    c.stop.ensures.outside i.calm

pub returns-in-None-clause-outside : goal.returns-in-None-clause-outside
returns-in-None-clause-outside g c =
    let i = c.claim_in_stop-cache.ensures.claims in
    stop-outside (view_of c.args.seat.now) (view_of c.stop.new.seat) (view_of c.claim_in_stop-cache.new.seat) (view_of c.resume.new.seat) (view_of c.goes_on.new.seat) c.stop.ensures.tries.ran i.ran c.resume.ensures.step c.goes_on.ensures.ran c.goes_on.ensures.only
    c.stop.ensures.outside i.calm

pub returns-then-not-stop-clause-pops : goal.returns-then-not-stop-clause-pops
returns-then-not-stop-clause-pops g c = works-pop (events (view_of c.args.seat.now) (view_of c.stop.new.seat)) c.stop.ensures.pops

pub returns-then-not-goes_on-clause-pops : goal.returns-then-not-goes_on-clause-pops
returns-then-not-goes_on-clause-pops g c =
    let i = c.claim_in_stop-cache.ensures.claims in
    let s = c.stop.ensures in
    stop-pops (view_of c.args.seat.now) (view_of c.stop.new.seat) (view_of c.claim_in_stop-cache.new.seat) (view_of c.resume.new.seat) (view_of c.goes_on.new.seat) s.tries.ran i.ran c.resume.ensures.step c.goes_on.ensures.ran c.goes_on.ensures.only
    (works-pop (events (view_of c.args.seat.now) (view_of c.stop.new.seat)) s.pops) c.if-not-stop.ensures.yours.raised s.unresumed i.stopped

pub returns-in-Some-clause-pops : goal.returns-in-Some-clause-pops
returns-in-Some-clause-pops g c =
    let i = c.claim_in_stop-cache.ensures.claims in
    let s = c.stop.ensures in
    stop-pops (view_of c.args.seat.now) (view_of c.stop.new.seat) (view_of c.claim_in_stop-cache.new.seat) (view_of c.resume.new.seat) (view_of c.goes_on.new.seat) s.tries.ran i.ran c.resume.ensures.step c.goes_on.ensures.ran c.goes_on.ensures.only
    (works-pop (events (view_of c.args.seat.now) (view_of c.stop.new.seat)) s.pops) c.if-not-stop.ensures.yours.raised s.unresumed i.stopped

pub returns-in-None-clause-pops : goal.returns-in-None-clause-pops
returns-in-None-clause-pops g c =
    let i = c.claim_in_stop-cache.ensures.claims in
    let s = c.stop.ensures in
    stop-pops (view_of c.args.seat.now) (view_of c.stop.new.seat) (view_of c.claim_in_stop-cache.new.seat) (view_of c.resume.new.seat) (view_of c.goes_on.new.seat) s.tries.ran i.ran c.resume.ensures.step c.goes_on.ensures.ran c.goes_on.ensures.only
    (works-pop (events (view_of c.args.seat.now) (view_of c.stop.new.seat)) s.pops) c.if-not-stop.ensures.yours.raised s.unresumed i.stopped

pub returns-then-not-stop-clause-told : goal.returns-then-not-stop-clause-told
returns-then-not-stop-clause-told g c =
    let u : View = view_of c.args.seat.now in
    let v : View = view_of c.stop.new.seat in
    told-one g.W.Watch.hears (λ ns. TellsStops ns u v) notices.asks c.args.watch.now c.asks.new.self c.asks.ensures (stops-asking u v c.stop.ensures.asks)

pub returns-then-not-goes_on-clause-told : goal.returns-then-not-goes_on-clause-told
returns-then-not-goes_on-clause-told g c =
    let e = c.goes_on.ensures in
    stop-told (view_of c.stop.new.seat) (view_of c.claim_in_stop-cache.new.seat) (view_of c.resume.new.seat) (view_of c.goes_on.new.seat) c.resume.ensures.step e.ran e.only g.W.Watch.hears (view_of c.args.seat.now)
    c.args.watch.now c.asks.new.self c.claim_in_stop-cache.new.watch c.resumes.new.self c.stop.ensures.asks c.asks.ensures c.claim_in_stop-cache.ensures.told c.resumes.ensures

pub returns-in-Some-clause-told : goal.returns-in-Some-clause-told
returns-in-Some-clause-told g c =
    let e = c.goes_on.ensures in
    stop-told (view_of c.stop.new.seat) (view_of c.claim_in_stop-cache.new.seat) (view_of c.resume.new.seat) (view_of c.goes_on.new.seat) c.resume.ensures.step e.ran e.only g.W.Watch.hears (view_of c.args.seat.now)
    c.args.watch.now c.asks.new.self c.claim_in_stop-cache.new.watch c.resumes.new.self c.stop.ensures.asks c.asks.ensures c.claim_in_stop-cache.ensures.told c.resumes.ensures

pub returns-in-None-clause-told : goal.returns-in-None-clause-told
returns-in-None-clause-told g c =
    let e = c.goes_on.ensures in
    stop-told (view_of c.stop.new.seat) (view_of c.claim_in_stop-cache.new.seat) (view_of c.resume.new.seat) (view_of c.goes_on.new.seat) c.resume.ensures.step e.ran e.only g.W.Watch.hears (view_of c.args.seat.now)
    c.args.watch.now c.asks.new.self c.claim_in_stop-cache.new.watch c.resumes.new.self c.stop.ensures.asks c.asks.ensures c.claim_in_stop-cache.ensures.told c.resumes.ensures

pub returns-in-Some-clause-inside : goal.returns-in-Some-clause-inside
returns-in-Some-clause-inside g c =
    let e = c.goes_on.ensures in
    let k = rw c.in-Some.is at c.if-not-goes_on.ensures.going in
    stop-inside (view_of c.stop.new.seat) (view_of c.claim_in_stop-cache.new.seat) (view_of c.resume.new.seat) (view_of c.goes_on.new.seat) c.resume.ensures.step e.ran e.only c.claim_in_stop-cache.result c.in-Some.kept (view_of c.args.seat.now)
    c.stop.ensures.tries.ran c.claim_in_stop-cache.ensures.claims k.same

pub claim_in_stop-cache-requires-clause-stopped : goal.claim_in_stop-cache-requires-clause-stopped
claim_in_stop-cache-requires-clause-stopped g c =
    let y = c.if-not-stop.ensures.yours in
    record { rest = y.rest; section = ap (λ o. is_some o) c.stop.ensures.tries.seat.section ∙ c.requires.seat.1.section; unhelping = y.unhelping; phase = y.phase; alone = y.alone; seen = y.seen; left = y.left }

pub goes_on-requires-clause-cache : goal.goes_on-requires-clause-cache
goes_on-requires-clause-cache g c =
    cached-still c.claim_in_stop-cache.result (view_of c.claim_in_stop-cache.new.seat) (view_of c.resume.new.seat) (ap (λ (x : View). x.state.cache) c.resume.ensures.step.1.0) c.claim_in_stop-cache.ensures.claims.cached
