use Rattle.std.proofs.Common.{◌∙◌, arith, ap, []}
use Rattle.gc_table.specs.Log.{events}
use Rattle.gc_table.specs.Seats.{view_of}
use Rattle.gc_table.specs.declared.view.View.{View}
use Rattle.gc_table.proofs.History.Log.{events-none, only-none}
use Rattle.gc_table.proofs.Running.{ran-events, ran-join, ran-only, ran-refl}
use Rattle.packet_pools.specs.Counts.{count_of}
use Rattle.packet_pools.proofs.Counting.{count-join}
use Rattle.gc_cycle.specs.Collecting.{spares_section}
use Rattle.gc_cycle.specs.Mutating.{tries_stopping, works_in_stops}
use Rattle.gc_cycle.specs.Sorts.{raises_flag}
use Rattle.gc_cycle.proofs.Refills.Collected.{section-kept, tries-spare}
use Rattle.gc_cycle.proofs.Refills.OneCycle.{cycles-join, tried-unended}
use Rattle.gc_cycle.proofs.Refills.KnownFull.{tells-more, tells-none}
use Rattle.gc_cycle.proofs.Stops.FlagRaised.{count-calls}
use Rattle.gc_cycle.proofs.Stops.Popping.{works-join}
use Rattle.gc_cycle.proofs.Changes.{by-none, numbers-join, numbers-one}
use Rattle.gc_cycle.proofs.Unbegun.{tries-unbegun, unbegun-join}
use Rattle.gc_cycle.proofs.collecting.collect.Goals as goal

pub loop-init : goal.loop-init
loop-init g c =
    let u : View = view_of c.args.seat.now in
    record {
      next = tt;
      finite = tt;
      sits = c.requires.seat.0;
      mutates = c.requires.seat.1;
      cache = c.requires.cache;
      ran = ran-refl u;
      only = only-none tries_stopping u;
      calm = ap (count_of raises_flag) (events-none u);
      numbers = numbers-one [] u u (by-none u);
      tells = tells-none u;
      pops = ap works_in_stops (events-none u);
    }

pub loop-preserved : goal.loop-preserved
loop-preserved g c =
    let u : View = view_of c.args.seat.now in
    let v : View = view_of c.loop.seat in
    let w : View = view_of c.collect_once.new.seat in
    let i = c.loop.invariant in
    let e = c.collect_once.ensures in
    let n = c.in_default.ensures.none in
    record {
      next = tt;
      finite = tt;
      sits = e.seat;
      mutates = n.mutates;
      cache = n.cache;
      ran = ran-join u v w i.ran e.ran;
      only = ran-only tries_stopping u v w i.ran e.ran i.only n.only;
      calm = count-calls u v w 0 0 i.ran e.ran i.calm n.calm;
      numbers = numbers-join [] u v w i.numbers e.numbers;
      tells = tells-more u v w i.ran e.ran n.only i.tells;
      pops = ap works_in_stops (ran-events u v w i.ran e.ran) ∙ works-join (events u v) (events v w) i.pops e.pops;
    }

pub returns-in-Some-collect_once-clause-ran : goal.returns-in-Some-collect_once-clause-ran
returns-in-Some-collect_once-clause-ran g c =
    let u : View = view_of c.args.seat.now in
    let v : View = view_of c.loop.seat in
    let w : View = view_of c.collect_once.new.seat in
    let i = c.loop.invariant in
    let e = c.collect_once.ensures in
    ran-join u v w i.ran e.ran

pub returns-in-Some-collect_once-clause-once : goal.returns-in-Some-collect_once-clause-once
returns-in-Some-collect_once-clause-once g c =
    let u : View = view_of c.args.seat.now in
    let v : View = view_of c.loop.seat in
    let w : View = view_of c.collect_once.new.seat in
    let i = c.loop.invariant in
    let e = c.collect_once.ensures in
    let all = ap (count_of raises_flag) (ran-events u v w i.ran e.ran) ∙ count-join raises_flag (events u v) (events v w) in
    omega (arith, all, i.calm, e.once)

pub returns-in-Some-collect_once-clause-cycles : goal.returns-in-Some-collect_once-clause-cycles
returns-in-Some-collect_once-clause-cycles g c =
    let u : View = view_of c.args.seat.now in
    let v : View = view_of c.loop.seat in
    let w : View = view_of c.collect_once.new.seat in
    let i = c.loop.invariant in
    let e = c.collect_once.ensures in
    let all = cycles-join u v w 0 1 i.ran e.ran (tried-unended u v i.only) e.cycles in
    omega (arith, all)

pub returns-in-Some-collect_once-clause-not_full : goal.returns-in-Some-collect_once-clause-not_full
returns-in-Some-collect_once-clause-not_full g c =
    let u : View = view_of c.args.seat.now in
    let v : View = view_of c.loop.seat in
    let w : View = view_of c.collect_once.new.seat in
    let i = c.loop.invariant in
    let e = c.collect_once.ensures in
    let k = section-kept u w (ran-join u v w i.ran e.ran) (ran-only spares_section u v w i.ran e.ran (tries-spare u v i.only) e.only) in
    k.2

pub returns-in-Some-collect_once-clause-keeps : goal.returns-in-Some-collect_once-clause-keeps
returns-in-Some-collect_once-clause-keeps g c =
    let u : View = view_of c.args.seat.now in
    let v : View = view_of c.loop.seat in
    let w : View = view_of c.collect_once.new.seat in
    let i = c.loop.invariant in
    let e = c.collect_once.ensures in
    let k = section-kept u w (ran-join u v w i.ran e.ran) (ran-only spares_section u v w i.ran e.ran (tries-spare u v i.only) e.only) in
    (k.0, k.1)

pub returns-in-Some-collect_once-clause-spares : goal.returns-in-Some-collect_once-clause-spares
returns-in-Some-collect_once-clause-spares g c =
    let u : View = view_of c.args.seat.now in
    let v : View = view_of c.loop.seat in
    let w : View = view_of c.collect_once.new.seat in
    let i = c.loop.invariant in
    let e = c.collect_once.ensures in
    let k = section-kept u w (ran-join u v w i.ran e.ran) (ran-only spares_section u v w i.ran e.ran (tries-spare u v i.only) e.only) in
    k.3

pub returns-in-Some-collect_once-clause-numbers : goal.returns-in-Some-collect_once-clause-numbers
returns-in-Some-collect_once-clause-numbers g c =
    numbers-join [] (view_of c.args.seat.now) (view_of c.loop.seat) (view_of c.collect_once.new.seat) c.loop.invariant.numbers c.collect_once.ensures.numbers

pub returns-in-Some-collect_once-clause-unbegun : goal.returns-in-Some-collect_once-clause-unbegun
returns-in-Some-collect_once-clause-unbegun g c =
    let u : View = view_of c.args.seat.now in
    let v : View = view_of c.loop.seat in
    let i = c.loop.invariant in
    let e = c.collect_once.ensures in
    unbegun-join u v (view_of c.collect_once.new.seat) i.ran e.ran (tries-unbegun u v i.only) e.unbegun

pub returns-in-Some-collect_once-clause-pops : goal.returns-in-Some-collect_once-clause-pops
returns-in-Some-collect_once-clause-pops g c =
    let u : View = view_of c.args.seat.now in
    let v : View = view_of c.loop.seat in
    let w : View = view_of c.collect_once.new.seat in
    let i = c.loop.invariant in
    let e = c.collect_once.ensures in
    ap works_in_stops (ran-events u v w i.ran e.ran) ∙ works-join (events u v) (events v w) i.pops e.pops
