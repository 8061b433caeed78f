use Rattle.std.proofs.Common.{◌∙◌, ap, Bool, [], rules}
use Rattle.std.specs.Prelude.{if◌then◌else◌}
use Rattle.gc_table.specs.Seats.{view_of}
use Rattle.gc_table.specs.Log.{events}
use Rattle.gc_table.specs.declared.view.View.{View}
use Rattle.gc_table.proofs.Running.{ran-join}
use Rattle.packet_pools.specs.Counts.{count_of}
use Rattle.gc_cycle.specs.Sorts.{ends_cycle, raises_flag}
use Rattle.gc_cycle.proofs.Refills.Answered.{full-later}
use Rattle.gc_cycle.proofs.Refills.Collected.{answers-section, answers-tried, answers-uncounted, goes-collected, held, none-raised, stopped, tells-tried, tried}
use Rattle.gc_cycle.proofs.Refills.OneCycle.{tried-unended}
use Rattle.gc_cycle.proofs.Changes.{by-join, numbers-collected, numbers-one, only-changes}
use Rattle.gc_cycle.proofs.Stops.Popping.{answered-works, raised-holds, stopped-works, tried-works, unworked}
use Rattle.gc_cycle.proofs.Unbegun.{answers-unbegun, stopped-unbegun, tries-unbegun, unbegun-join}
use Rattle.gc_cycle.proofs.collecting.collect_once.Goals as goal

pub collect_in_stop-requires-clause-stopped : goal.collect_in_stop-requires-clause-stopped
collect_in_stop-requires-clause-stopped g c =
    held (view_of c.stores_if_full.new.seat) (view_of c.stop.new.seat) c.stores_if_full.ensures.seat.1 c.stop.ensures.tries c.if-not-stop.ensures.yours

pub returns-then-stores_if_full-clause-some : goal.returns-then-stores_if_full-clause-some
returns-then-stores_if_full-clause-some g c =
    let u : View = view_of c.args.seat.now in
    let v : View = view_of c.stores_if_full.new.seat in
    λ z r t. full-later c.args.done z u v r c.stores_if_full.ensures.ran c.if-stores_if_full.ensures.full.0

pub returns-then-stores_if_full-clause-once : goal.returns-then-stores_if_full-clause-once
returns-then-stores_if_full-clause-once g c =
    let u : View = view_of c.args.seat.now in
    let v : View = view_of c.stores_if_full.new.seat in
    none-raised (count_of raises_flag (events u v)) (answers-uncounted u v c.stores_if_full.ensures.ran c.stores_if_full.ensures.only)

pub returns-then-stores_if_full-clause-cycles : goal.returns-then-stores_if_full-clause-cycles
returns-then-stores_if_full-clause-cycles g c =
    let u : View = view_of c.args.seat.now in
    let v : View = view_of c.stores_if_full.new.seat in
    none-raised (count_of ends_cycle (events u v)) (tried-unended u v (answers-tried u v c.stores_if_full.ensures.only))

pub returns-then-stores_if_full-clause-only : goal.returns-then-stores_if_full-clause-only
returns-then-stores_if_full-clause-only g c =
    let u : View = view_of c.args.seat.now in
    let v : View = view_of c.stores_if_full.new.seat in
    answers-section u v c.stores_if_full.ensures.only

pub returns-then-stores_if_full-clause-numbers : goal.returns-then-stores_if_full-clause-numbers
returns-then-stores_if_full-clause-numbers g c = numbers-one [] (view_of c.args.seat.now) (view_of c.stores_if_full.new.seat) c.stores_if_full.ensures.numbers

pub returns-then-stores_if_full-clause-unbegun : goal.returns-then-stores_if_full-clause-unbegun
returns-then-stores_if_full-clause-unbegun g c = answers-unbegun (view_of c.args.seat.now) (view_of c.stores_if_full.new.seat) c.stores_if_full.ensures.only

pub returns-then-stores_if_full-clause-pops : goal.returns-then-stores_if_full-clause-pops
returns-then-stores_if_full-clause-pops g c =
    let u : View = view_of c.args.seat.now in
    let v : View = view_of c.stores_if_full.new.seat in
    unworked (events u v) (answered-works u v c.stores_if_full.ensures.only)

pub returns-then-not-stop : goal.returns-then-not-stop
returns-then-not-stop g c =
    let u : View = view_of c.args.seat.now in
    let v : View = view_of c.stores_if_full.new.seat in
    let w : View = view_of c.stop.new.seat in
    let e = c.stores_if_full.ensures in
    let t = c.stop.ensures in
    let d = tried c.args.done u v w e.ran e.only t.tries t.position (t.raises ∙ ap (λ (b : Bool). if b then 1 else 0) c.if-not-stop.true) c.if-not-stop.ensures.theirs in
    record {
      seat = search rules;
      ran = d.0;
      none = d.1;
      some = tt;
      once = none-raised (count_of raises_flag (events u w)) d.1.calm;
      cycles = none-raised (count_of ends_cycle (events u w)) (tried-unended u w d.1.only);
      only = d.2;
      numbers = numbers-one [] u w (by-join [] [] u v w e.numbers (only-changes v w t.tries.ran t.numbers));
      unbegun = unbegun-join u v w e.ran t.tries.ran (answers-unbegun u v e.only) (tries-unbegun v w t.tries.only);
      pops = tried-works u v w e.ran e.only t.tries.ran t.pops;
      known = tt;
    }

pub returns-then-stores_if_full-2 : goal.returns-then-stores_if_full-2
returns-then-stores_if_full-2 g c =
    let u : View = view_of c.args.seat.now in
    let v : View = view_of c.stores_if_full.new.seat in
    let w : View = view_of c.stop.new.seat in
    let x : View = view_of c.collect_in_stop.new.seat in
    let y : View = view_of c.stores_if_full-2.new.seat in
    let e = c.stores_if_full.ensures in
    let t = c.stop.ensures in
    let i = c.collect_in_stop.ensures in
    let l = c.stores_if_full-2.ensures in
    let d = stopped u v w x y e.ran e.only t.tries (t.raises ∙ ap (λ (b : Bool). if b then 1 else 0) c.if-not-stop.false) i.ends l.ran l.only in
    record {
      seat = search rules;
      ran = d.0;
      none = tt;
      some = λ z r k. full-later c.args.done z x y (ran-join z w x (tells-tried z u v w r k e.ran e.only t.tries).0 i.ends.ran) l.ran c.if-stores_if_full-2.ensures.full.0;
      once = d.2;
      cycles = d.3;
      only = d.1;
      numbers = numbers-collected u v w x y e.numbers (only-changes v w t.tries.ran t.numbers) i.numbers l.numbers;
      unbegun = stopped-unbegun u v w x y e.ran e.only t.tries i.ends.ran i.unbegun l.ran l.only;
      pops = stopped-works u v w x y e.ran e.only t.tries.ran t.pops (raised-holds (events v w) c.if-not-stop.ensures.yours.raised t.unresumed) i.ends.ran i.pops l.ran l.only;
      known = search rules;
    }

pub returns : goal.returns
returns g c =
    let u : View = view_of c.args.seat.now in
    let v : View = view_of c.stores_if_full.new.seat in
    let w : View = view_of c.stop.new.seat in
    let x : View = view_of c.collect_in_stop.new.seat in
    let y : View = view_of c.stores_if_full-2.new.seat in
    let e = c.stores_if_full.ensures in
    let t = c.stop.ensures in
    let i = c.collect_in_stop.ensures in
    let l = c.stores_if_full-2.ensures in
    let d = stopped u v w x y e.ran e.only t.tries (t.raises ∙ ap (λ (b : Bool). if b then 1 else 0) c.if-not-stop.false) i.ends l.ran l.only in
    record {
      seat = search rules;
      ran = d.0;
      none = tt;
      some = λ z r k. let b = tells-tried z u v w r k e.ran e.only t.tries in goes-collected c.args.done z w x y b.0 b.1 t.position i.ends.ran l.ran i.ends c.if-stores_if_full-2.ensures.going;
      once = d.2;
      cycles = d.3;
      only = d.1;
      numbers = numbers-collected u v w x y e.numbers (only-changes v w t.tries.ran t.numbers) i.numbers l.numbers;
      unbegun = stopped-unbegun u v w x y e.ran e.only t.tries i.ends.ran i.unbegun l.ran l.only;
      pops = stopped-works u v w x y e.ran e.only t.tries.ran t.pops (raised-holds (events v w) c.if-not-stop.ensures.yours.raised t.unresumed) i.ends.ran i.pops l.ran l.only;
      known = search rules;
    }
