use Rattle.std.proofs.Common.{◌≡◌, ◌∙◌, sym, ap, subst, true}
use Rattle.std.specs.Prelude.{Some}
use Rattle.gc_table.specs.Log.{events}
use Rattle.gc_table.specs.Seats.{view_of}
use Rattle.gc_table.specs.declared.view.View.{View}
use Rattle.gc_table.proofs.Running.{ran-section}
use Rattle.mark_core.specs.Seats.{has_turn}
use Rattle.mark_core.specs.declared.kinds.Shape.{Shape}
use Rattle.cache_refills.specs.Stops.{stops_with_cause}
use Rattle.gc_cycle.specs.Answering.{HasCache}
use Rattle.warehouse.proofs.Leavings.{waits-join, waits-ran}
use Rattle.warehouse.proofs.Causes.{waits-caused}
use Rattle.warehouse.proofs.FullStops.{counted-kept, finds-after, finds-later}
use Rattle.warehouse.proofs.Pacing.{paces-refilled}
use Rattle.warehouse.proofs.Readying.{ready-after, ready-waits}
use Rattle.warehouse.proofs.InTheStop.{retired-stays, retired-waits, stays-join, stays-none, stays-spared, waits-none}
use Rattle.warehouse.proofs.turn.await_cell.Goals as goal

pub loop-init : goal.loop-init
loop-init g c =
    record {
      next = tt;
      finite = tt;
      sits = c.requires.seat.0;
      mutates = c.requires.seat.1;
      cached = c.requires.cache;
      stays = stays-none (view_of c.args.seat.now);
      waits = waits-none (view_of c.args.seat.now);
    }

pub await_turn-requires-clause-owned : goal.await_turn-requires-clause-owned
await_turn-requires-clause-owned g c = ap (λ (sh : Shape). sh.sharing) c.loop.invariant.stays.shape ∙ c.requires.owned

pub await_turn-requires-clause-counted : goal.await_turn-requires-clause-counted
await_turn-requires-clause-counted g c =
    let i = c.loop.invariant in
    counted-kept (view_of c.args.seat.now) (view_of c.loop.seat) i.stays.still.heap i.stays.made c.requires.counted

pub await_turn-requires-clause-turn : goal.await_turn-requires-clause-turn
await_turn-requires-clause-turn g c =
    let u : View = view_of c.args.seat.now in
    let v : View = view_of c.loop.seat in
    ap (λ o. has_turn o (Some c.args.turn)) (ran-section u v (waits-ran u v c.loop.invariant.waits)) ∙ c.requires.turn

pub returns-then-not-await_turn-clause-full : goal.returns-then-not-await_turn-clause-full
returns-then-not-await_turn-clause-full g c =
    let i = c.loop.invariant in
    let full = c.if-not-await_turn.ensures.full in
    (finds-later c.args.done (view_of c.args.seat.now) (view_of c.loop.seat) (view_of c.await_turn.new.seat) i.stays i.waits full.0, full.1)

pub returns-then-has_free-clause-ready : goal.returns-then-has_free-clause-ready
returns-then-has_free-clause-ready g c =
    let i = c.loop.invariant in (
      ready-after c.args.turn c.await_turn.new.cache (view_of c.args.seat.now) (view_of c.loop.seat) (view_of c.await_turn.new.seat) i.stays i.waits c.if-not-await_turn.ensures.ready,
      c.has_free.ensures.free c.if-has_free.true,
    )

pub retire_some-requires-clause-seat : goal.retire_some-requires-clause-seat
retire_some-requires-clause-seat g c = (c.await_turn.ensures.seat, c.if-not-await_turn.ensures.ready.mutates)

pub retire_some-requires-clause-cache : goal.retire_some-requires-clause-cache
retire_some-requires-clause-cache g c = subst (λ o. HasCache o (view_of c.await_turn.new.seat)) (sym c.take_empty.ensures.value) c.if-not-await_turn.ensures.ready.cached

pub keep-requires : goal.keep-requires
keep-requires g c = c.take_empty.ensures.after

pub loop-preserved : goal.loop-preserved
loop-preserved g c =
    let u : View = view_of c.args.seat.now in
    let v : View = view_of c.loop.seat in
    let w : View = view_of c.await_turn.new.seat in
    let x : View = view_of c.retire_some.new.seat in
    let y : View = view_of c.refill.new.seat in
    let i = c.loop.invariant in
    let k = c.if-not-await_turn.ensures.ready in
    let r = c.retire_some.ensures in
    let f = c.refill.ensures in
    let cause = subst (λ (sh : Shape). stops_with_cause sh (events x y) ≡ true) (sym r.seat.0.1) f.rules.stops in
    let had = subst (λ o. HasCache o w) (sym c.take_empty.ensures.value) k.cached in
    let paced = paces-refilled c.refill.result c.args.done x y f.refills f.rules.numbers f.due in
    record {
      next = tt;
      finite = tt;
      sits = f.seat;
      mutates = c.in-Cache.ensures.refills.goes_on.mutates;
      cached = subst (λ o. HasCache o y) (sym c.keep.ensures) c.in-Cache.ensures.refills.cached;
      stays = stays-join u v y i.stays (stays-join v w y k.stays (stays-join w x y (retired-stays w x r.ran r.state r.own) (stays-spared x y f.rules.ran c.in-Cache.ensures.rules.spares f.rules.keeps.0)));
      waits = waits-join u v y i.waits (waits-join v w y (ready-waits c.args.turn c.await_turn.new.cache v w k) (waits-join w x y (retired-waits c.take_empty.result w x had r.ran r.only r.state r.numbers) (waits-caused x y f.rules.ran f.rules.only cause paced)));
    }

pub returns-in-Full-clause-full : goal.returns-in-Full-clause-full
returns-in-Full-clause-full g c =
    let u : View = view_of c.args.seat.now in
    let v : View = view_of c.loop.seat in
    let w : View = view_of c.await_turn.new.seat in
    let x : View = view_of c.retire_some.new.seat in
    let y : View = view_of c.refill.new.seat in
    let i = c.loop.invariant in
    let k = c.if-not-await_turn.ensures.ready in
    let r = c.retire_some.ensures in
    let f = c.refill.ensures in
    let cause = subst (λ (sh : Shape). stops_with_cause sh (events x y) ≡ true) (sym r.seat.0.1) f.rules.stops in
    let had = subst (λ o. HasCache o w) (sym c.take_empty.ensures.value) k.cached in
    let paced = paces-refilled c.refill.result c.args.done x y f.refills f.rules.numbers f.due in (
      finds-after c.args.done u x y (stays-join u v x i.stays (stays-join v w x k.stays (retired-stays w x r.ran r.state r.own)))
          (waits-join u v x i.waits (waits-join v w x (ready-waits c.args.turn c.await_turn.new.cache v w k) (retired-waits c.take_empty.result w x had r.ran r.only r.state r.numbers))) f.rules.keeps.0 f.rules.keeps.1 (waits-caused x y f.rules.ran f.rules.only cause paced)
          c.in-Full.ensures.refills c.in-Full.ensures.rules.spares,
      c.take_empty.ensures.after,
    )
