use Rattle.std.proofs.Common.{None, arith, sym, ap, ◌∙◌, refl, subst}
use Rattle.mark_core.specs.declared.kinds.Step.TheVariants.{Observe}
use Rattle.gc_table.specs.Seats.{view_of}
use Rattle.gc_table.specs.declared.view.View.{View}
use Rattle.gc_table.proofs.History.Log.{only-more}
use Rattle.gc_cycle.specs.Answering.{HasCache}
use Rattle.gc_cycle.specs.Mutating.{stays_calm}
use Rattle.gc_cycle.specs.Sparing.{spares_part}
use Rattle.gc_cycle.specs.Statistics.{GivesUp}
use Rattle.gc_cycle.proofs.Refills.Answered.{cached-still, polled-mutates}
use Rattle.gc_cycle.proofs.Changes.{changes-after, gives-join, keeps-up, only-changes}
use Rattle.gc_cycle.proofs.Refills.Collected.{calm-spares}
use Rattle.cache_refills.proofs.Refills.Passed.{gone-full, gone-out, gone-past, stepped-out}
use Rattle.gc_table.proofs.Running.{ran-join}
use Rattle.gc_cycle.proofs.Few.{few-after, few-events, few-join}
use Rattle.cache_refills.proofs.trying.try_safe_point.Goals as goal

pub retire_some-requires-clause-seat : goal.retire_some-requires-clause-seat
retire_some-requires-clause-seat c =
    let t = c.poll.ensures.step in
    (c.poll.ensures.seat, polled-mutates (view_of c.args.seat.now) (view_of c.poll.new.seat) t.0 t.1 c.requires.seat.1)

pub retire_some-requires-clause-cache : goal.retire_some-requires-clause-cache
retire_some-requires-clause-cache c =
    subst (λ o. HasCache o (view_of c.poll.new.seat)) (sym c.take.ensures.value)
    (cached-still c.args.cache.now (view_of c.args.seat.now) (view_of c.poll.new.seat) (ap (λ (x : View). x.state.cache) c.poll.ensures.step.1) c.requires.cache)

pub returns-then-poll : goal.returns-then-poll
returns-then-poll c =
    let u : View = view_of c.args.seat.now in
    let v : View = view_of c.poll.new.seat in
    let w : View = view_of c.retire_some.new.seat in
    let x : View = view_of c.go_out.new.seat in
    let t = c.poll.ensures.step in
    let r = c.retire_some.ensures in
    let o = c.go_out.ensures in
    let old = c.args.cache.now in
    let given = subst (λ k. GivesUp k None v w) c.take.ensures.value r.numbers in
    let s = stepped-out u v w x t.0 c.poll.ensures.ran t.1 (sym t.3 ∙ c.if-poll.true) r.ran r.only o.out in
    record {
      seat = o.seat.0;
      passes = record { found = s.1; out = o.seat.1; position = o.position; none = c.take.ensures.after };
      polled = s.2;
      out = s.0;
      spares = only-more stays_calm spares_part calm-spares u x s.0.only;
      numbers =
          subst (λ k. GivesUp old k u x) (sym c.take.ensures.after)
          (gives-join old old None u v x (keeps-up old u v (changes-after u v Observe t.0 refl c.poll.ensures.ran t.1))
          (gives-join old None None v w x given (keeps-up None w x (only-changes w x o.out.ran o.numbers))));
      few = few-join 1 5 u v x c.poll.ensures.ran (ran-join v w x r.ran o.out.ran) (few-after u v Observe t.0 t.1) (few-join 3 2 v w x r.ran o.out.ran r.few (few-events 2 w x _ o.left.1 (omega arith)));
    }

pub goes_on-requires-clause-seat : goal.goes_on-requires-clause-seat
goes_on-requires-clause-seat c =
    let t = c.poll.ensures.step in
    (c.poll.ensures.seat, polled-mutates (view_of c.args.seat.now) (view_of c.poll.new.seat) t.0 t.1 c.requires.seat.1)

pub goes_on-requires-clause-cache : goal.goes_on-requires-clause-cache
goes_on-requires-clause-cache c = cached-still c.args.cache.now (view_of c.args.seat.now) (view_of c.poll.new.seat) (ap (λ (x : View). x.state.cache) c.poll.ensures.step.1) c.requires.cache

pub returns-then-goes_on : goal.returns-then-goes_on
returns-then-goes_on c =
    let u : View = view_of c.args.seat.now in
    let v : View = view_of c.poll.new.seat in
    let w : View = view_of c.goes_on.new.seat in
    let t = c.poll.ensures.step in
    let e = c.goes_on.ensures in
    let old = c.args.cache.now in
    let new = c.goes_on.new.cache in
    let f = sym t.3 ∙ c.if-poll.false in
    let o = gone-out u v w t.0 c.args.done old c.poll.ensures.ran t.1 f c.requires.cache e.ran e.only in
    record {
      seat = e.seat.0;
      passes = gone-past u v w t.0 c.args.done old c.poll.ensures.ran t.1 f c.requires.cache e.ran new c.if-goes_on.ensures.going;
      polled = o.1;
      out = o.0;
      spares = only-more stays_calm spares_part calm-spares u w o.0.only;
      numbers = gives-join old old new u v w (keeps-up old u v (changes-after u v Observe t.0 refl c.poll.ensures.ran t.1)) e.numbers;
      few = few-join 1 5 u v w c.poll.ensures.ran e.ran (few-after u v Observe t.0 t.1) e.few;
    }

pub returns : goal.returns
returns c =
    let u : View = view_of c.args.seat.now in
    let v : View = view_of c.poll.new.seat in
    let w : View = view_of c.goes_on.new.seat in
    let t = c.poll.ensures.step in
    let e = c.goes_on.ensures in
    let old = c.args.cache.now in
    let new = c.goes_on.new.cache in
    let f = sym t.3 ∙ c.if-poll.false in
    let o = gone-out u v w t.0 c.args.done old c.poll.ensures.ran t.1 f c.requires.cache e.ran e.only in
    record {
      seat = e.seat.0;
      passes = gone-full u v w t.0 c.args.done old c.poll.ensures.ran t.1 f c.requires.cache e.ran new (c.if-goes_on.ensures.full.0, c.if-goes_on.ensures.full.1);
      polled = o.1;
      out = o.0;
      spares = only-more stays_calm spares_part calm-spares u w o.0.only;
      numbers = gives-join old old new u v w (keeps-up old u v (changes-after u v Observe t.0 refl c.poll.ensures.ran t.1)) e.numbers;
      few = few-join 1 5 u v w c.poll.ensures.ran e.ran (few-after u v Observe t.0 t.1) e.few;
    }
