use Rattle.std.proofs.Common.{◌∙◌, Bool, inl, refl, subst, sym}
use Rattle.gc_table.specs.declared.seat.Heap.{Heap}
use Rattle.gc_table.specs.Seats.{view_of}
use Rattle.gc_cycle.specs.Stepping.{AsksOnce}
use Rattle.gc_table.proofs.Running.{ran-join}
use Rattle.seat_turns.specs.Standing.{IsAtTurn, flush_steps}
use Rattle.seat_turns.proofs.Leaving.{leaves-join}
use Rattle.seat_steps.proofs.Answered.{cycle-kept}
use Rattle.seat_steps.proofs.Amounts.{asks-few, flushes-do}
use Rattle.seat_steps.specs.declared.stepper.Stage.TheVariants as stages
use Rattle.seat_steps.proofs.Stages.{bounded-on, step-on}
use Rattle.seat_steps.proofs.stepper.Stepper.ask.Goals as goal

pub retire_own_cache-requires : goal.retire_own_cache-requires
retire_own_cache-requires c =
    let s = c.args.self.now in
    record { turn = subst (λ (h : Heap). IsAtTurn h c.flush_turn.new.seat) (c.deref.ensures ∙ sym c.deref-2.ensures) (c.flush_turn.ensures.turn (s.inside c.requires.inside).phase) }

pub returns-then-asks : goal.returns-then-asks
returns-then-asks c =
    let x = c.args.self.now in
    let f = c.flush_turn.ensures in
    let r = c.retire_own_cache.ensures in
    let a = c.asks.ensures in
    let u = view_of x.seat in
    let t = view_of c.flush_turn.new.seat in
    let v = view_of c.retire_own_cache.new.seat in
    let w = view_of c.asks.new.seat in
    record {
      collects = λ most.
          step-on c.args.precise most x _ stages.Inside stages.Stopping c.requires.inside refl (refl, refl, (refl, (refl, refl, refl), refl, refl, refl))
          (record { flushed = t; flushes = f.flushes; retired = v; gives = r.gives; asks = subst (λ (b : Bool). AsksOnce v.state.made b v w) c.if-asks.true a.asks }, refl)
          (record { heap = a.same ∙ r.same ∙ f.same; leaves = leaves-join u t w f.leaves (leaves-join t v w r.leaves a.leaves); world = refl; name_is = refl; stops = refl; search = record { paid_is = refl; block = refl; seen = refl } });
      bounded = λ most. bounded-on most x _ stages.Inside stages.Stopping c.requires.inside refl (flushes-do (flush_steps u) 6 u t w f.flushes f.few (ran-join t v w r.ran a.leaves.ran) (asks-few v.state.made c.asks.result t v w r.ran r.gives r.few a.leaves.ran a.asks));
    }

pub returns : goal.returns
returns c =
    let x = c.args.self.now in
    let f = c.flush_turn.ensures in
    let r = c.retire_own_cache.ensures in
    let a = c.asks.ensures in
    let u = view_of x.seat in
    let t = view_of c.flush_turn.new.seat in
    let v = view_of c.retire_own_cache.new.seat in
    let w = view_of c.asks.new.seat in
    record {
      collects = λ most. (
        inl (c.requires.inside, record { flushed = t; flushes = f.flushes; retired = v; gives = r.gives; asks = subst (λ (b : Bool). AsksOnce v.state.made b v w) c.if-asks.false a.asks }, cycle-kept x _ refl),
        refl,
        record { heap = a.same ∙ r.same ∙ f.same; leaves = leaves-join u t w f.leaves (leaves-join t v w r.leaves a.leaves); world = refl; name_is = refl; stops = refl; search = record { paid_is = refl; block = refl; seen = refl } },
      );
      bounded = λ most. bounded-on most x _ stages.Inside stages.Outside c.requires.inside refl (flushes-do (flush_steps u) 6 u t w f.flushes f.few (ran-join t v w r.ran a.leaves.ran) (asks-few v.state.made c.asks.result t v w r.ran r.gives r.few a.leaves.ran a.asks));
    }
