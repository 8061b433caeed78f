use Rattle.std.proofs.Common.{◌∙◌, ap, subst, sym}
use Rattle.gc_table.specs.Seats.{view_of}
use Rattle.gc_cycle.specs.Answering.{HasCache}
use Rattle.gc_table.specs.declared.view.View.{View}
use Rattle.gc_table.proofs.Running.{ran-section}
use Rattle.mark_core.specs.Seats.{has_turn}
use Rattle.mark_core.specs.declared.kinds.Shape.{Shape}
use Rattle.std.specs.Prelude.{Some}
use Rattle.std.proofs.lemmas.Bool.{OnFalse_at}
use Rattle.warehouse.proofs.Leavings.{waits-join, waits-ran}
use Rattle.warehouse.proofs.FullStops.{counted-kept, finds-after}
use Rattle.warehouse.proofs.Pacing.{paces-passed}
use Rattle.warehouse.proofs.Readying.{looks-cache, looks-stays, looks-waits, reads-ready, ready-after}
use Rattle.warehouse.proofs.InTheStop.{stays-join, stays-none, stays-spared, waits-calm, waits-none}
use Rattle.warehouse.proofs.turn.await_turn.Goals as goal

pub loop-init : goal.loop-init
loop-init g c =
    record {
      next = tt;
      finite = tt;
      sits = c.requires.seat.0;
      mutates = c.requires.seat.1;
      cached = c.requires.cache;
      stays = stays-none (view_of c.args.seat.now);
      waits = waits-none (view_of c.args.seat.now);
    }

pub returns-then-not-pass_safe_point-clause-full : goal.returns-then-not-pass_safe_point-clause-full
returns-then-not-pass_safe_point-clause-full g c =
    let u : View = view_of c.args.seat.now in
    let v : View = view_of c.loop.seat in
    let w : View = view_of c.pass_safe_point.new.seat in
    let i = c.loop.invariant in
    let s = c.pass_safe_point.ensures in
    let full = c.if-not-pass_safe_point.ensures.full in
    let has = subst (λ o. HasCache o w) (sym full.2) full.0.cache in
    let paced = paces-passed c.loop.cache c.pass_safe_point.new.cache v w i.cached has s.polled s.calm s.numbers s.unbegun in
    (finds-after c.args.done u v w i.stays i.waits s.keeps.0 s.keeps.1 (waits-calm v w s.ran s.spares s.calm paced) full.0 full.1, full.2)

pub returns-then-not-pass_safe_point-clause-unfilled : goal.returns-then-not-pass_safe_point-clause-unfilled
returns-then-not-pass_safe_point-clause-unfilled g c =
    let s = c.pass_safe_point.ensures in
    (stays-spared (view_of c.loop.seat) (view_of c.pass_safe_point.new.seat) s.ran s.spares s.keeps.0).still.full ∙ c.loop.invariant.stays.still.full

pub loop-preserved : goal.loop-preserved
loop-preserved g c =
    let u : View = view_of c.args.seat.now in
    let v : View = view_of c.loop.seat in
    let w : View = view_of c.pass_safe_point.new.seat in
    let x : View = view_of c.is_turn.new.seat in
    let y : View = view_of c.leave_and_enter.new.seat in
    let i = c.loop.invariant in
    let s = c.pass_safe_point.ensures in
    let looks = c.is_turn.ensures.looks in
    let gone = c.leave_and_enter.ensures in
    let paced = paces-passed c.loop.cache c.pass_safe_point.new.cache v w i.cached c.if-not-pass_safe_point.ensures.going.cached s.polled s.calm s.numbers s.unbegun in
    record {
      next = tt;
      finite = tt;
      sits = gone.seat.0;
      mutates = gone.seat.1;
      cached = subst (λ o. HasCache o y) (sym gone.none) gone.cache;
      stays = stays-join u v y i.stays (stays-join v w y (stays-spared v w s.ran s.spares s.keeps.0) (stays-join w x y (looks-stays w x looks) gone.stays));
      waits = waits-join u v y i.waits (waits-join v w y (waits-calm v w s.ran s.spares s.calm paced) (waits-join w x y (looks-waits w x looks) gone.acts));
    }

pub returns-then-is_turn-clause-ready : goal.returns-then-is_turn-clause-ready
returns-then-is_turn-clause-ready g c =
    let u : View = view_of c.args.seat.now in
    let v : View = view_of c.loop.seat in
    let w : View = view_of c.pass_safe_point.new.seat in
    let x : View = view_of c.is_turn.new.seat in
    let i = c.loop.invariant in
    let s = c.pass_safe_point.ensures in
    let k = c.if-not-pass_safe_point.ensures.going in
    let looks = c.is_turn.ensures.looks in
    ready-after c.args.turn c.pass_safe_point.new.cache u v x i.stays i.waits
    (reads-ready c.args.turn c.pass_safe_point.new.cache v w x (ap (λ (sh : Shape). sh.sharing) i.stays.shape ∙ c.requires.owned) s.ran s.spares s.calm s.keeps.0 s.polled
    (paces-passed c.loop.cache c.pass_safe_point.new.cache v w i.cached k.cached s.polled s.calm s.numbers s.unbegun) k.goes_on k.cached
    (counted-kept u v i.stays.still.heap i.stays.made c.requires.counted) (ap (λ o. has_turn o (Some c.args.turn)) (ran-section u v (waits-ran u v i.waits)) ∙ c.requires.turn) looks
    (c.is_turn.ensures.turn c.if-is_turn.true))

pub returns-then-is_turn-clause-unfilled : goal.returns-then-is_turn-clause-unfilled
returns-then-is_turn-clause-unfilled g c =
    let v : View = view_of c.loop.seat in
    let w : View = view_of c.pass_safe_point.new.seat in
    let x : View = view_of c.is_turn.new.seat in
    let s = c.pass_safe_point.ensures in
    let looks = c.is_turn.ensures.looks in
    (looks-stays w x looks).still.full ∙ ((stays-spared v w s.ran s.spares s.keeps.0).still.full ∙ c.loop.invariant.stays.still.full)

pub leave_and_enter-requires-clause-cache : goal.leave_and_enter-requires-clause-cache
leave_and_enter-requires-clause-cache g c =
    looks-cache (view_of c.pass_safe_point.new.seat) (view_of c.is_turn.new.seat) c.is_turn.ensures.looks c.pass_safe_point.new.cache c.if-not-pass_safe_point.ensures.going.cached

pub leave_and_enter-requires-clause-other : goal.leave_and_enter-requires-clause-other
leave_and_enter-requires-clause-other g c = (c.args.turn, OnFalse_at c.if-is_turn.false c.is_turn.ensures.other)
