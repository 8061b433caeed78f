use Rattle.std.proofs.Common.{arith, ap}
use Rattle.mark_core.specs.Numbers.{high_pool_number}
use Rattle.mark_core.specs.declared.kinds.Shape.{Shape}
use Rattle.gc_table.specs.Seats.{view_of}
use Rattle.packet_pools.proofs.HighSearch.{passes-end, passes-few, passes-gains, passes-next, passes-start}
use Rattle.packet_pools.proofs.TracedSteps.{traced-join}
use Rattle.packet_pools.proofs.WordSearch.{seeks-on}
use Rattle.packet_pools.proofs.seeking.take_high_from.Goals as goal

pub loop-p-init : goal.loop-p-init
loop-p-init c = record { sits = c.requires.seat.0; passes = passes-start c.args.heap.now.shape c.args.from (view_of c.args.seat.now) }

pub take_high_at-requires-clause-seat : goal.take_high_at-requires-clause-seat
take_high_at-requires-clause-seat c =
    let i = c.loop-p.invariant in
    (i.sits, seeks-on high_pool_number (view_of c.args.seat.now) (view_of c.loop-p.seat) i.passes.only i.passes.state c.requires.seat.1)

pub loop-p-preserved : goal.loop-p-preserved
loop-p-preserved c =
    let i = c.loop-p.invariant in
    let e = c.in_default.ensures in
    record {
      sits = e.seat;
      passes = passes-next c.args.heap.now.shape c.args.from c.loop-p.p (view_of c.args.seat.now) (view_of c.loop-p.seat) (omega (arith, c.loop-p.auto.p)) (let packets = ap (λ (s : Shape). s.packets) c.shape-p-end.ensures in omega (arith, c.loop-p-test.true, packets)) i.passes (view_of c.take_high_at.new.seat) e.only e.none e.few.1;
    }

pub returns-in-Some-clause-only : goal.returns-in-Some-clause-only
returns-in-Some-clause-only c = traced-join (view_of c.args.seat.now) (view_of c.loop-p.seat) (view_of c.take_high_at.new.seat) c.loop-p.invariant.passes.only c.in-Some.ensures.only

pub returns-in-Some-clause-some : goal.returns-in-Some-clause-some
returns-in-Some-clause-some c =
    let packets = ap (λ (s : Shape). s.packets) c.shape-p-end.ensures in
    passes-gains c.args.heap.now.shape c.args.from c.loop-p.p (view_of c.args.seat.now) (view_of c.loop-p.seat) (omega (arith, c.loop-p.auto.p)) (omega (arith, c.loop-p-test.true, packets)) c.loop-p.invariant.passes c.in-Some.held (view_of c.take_high_at.new.seat) c.in-Some.ensures.only c.in-Some.ensures.some

pub returns-in-Some-clause-few : goal.returns-in-Some-clause-few
returns-in-Some-clause-few c =
    let packets = ap (λ (s : Shape). s.packets) c.shape-p-end.ensures in
    (passes-few c.args.heap.now.shape c.args.from c.loop-p.p (view_of c.args.seat.now) (view_of c.loop-p.seat) (omega (arith, c.loop-p.auto.p)) (omega (arith, c.loop-p-test.true, packets)) c.loop-p.invariant.passes c.in-Some.held (view_of c.take_high_at.new.seat) c.in-Some.ensures.only c.in-Some.ensures.some.1 c.in-Some.ensures.few.0, tt)

pub returns-clause-none : goal.returns-clause-none
returns-clause-none c =
    let packets = ap (λ (s : Shape). s.packets) c.shape-p-end.ensures in
    passes-end c.args.heap.now.shape c.args.from c.loop-p.p (view_of c.args.seat.now) (view_of c.loop-p.seat) (let past = c.loop-p-test.false in omega (arith, past, packets)) c.loop-p.invariant.passes
