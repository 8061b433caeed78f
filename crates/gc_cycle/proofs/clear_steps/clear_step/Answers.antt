use Rattle.std.proofs.Common.{ℕ, ◌≡◌, ◌≤◌, ◌+◌, ◌*◌, ap, arith, refl, subst}
use Rattle.std.specs.Prelude.{length}
use Rattle.mark_core.specs.Layout.{block_count}
use Rattle.mark_core.specs.declared.kinds.Phase.TheVariants.{Clear}
use Rattle.packet_pools.specs.Counts.{count_of}
use Rattle.gc_table.specs.Log.{events}
use Rattle.gc_table.specs.Seats.{view_of}
use Rattle.gc_table.specs.declared.view.View.{View}
use Rattle.gc_table.proofs.History.Log.{events-none, only-none}
use Rattle.gc_table.proofs.Running.{ran-only}
use Rattle.gc_cycle.specs.Sorts.{draws_block}
use Rattle.gc_cycle.specs.Statistics.{leaves_numbers}
use Rattle.gc_cycle.proofs.Few.{few-join}
use Rattle.gc_cycle.proofs.Parts.{part-join, part-none}
use Rattle.gc_cycle.proofs.Stepped.{part-keeps}
use Rattle.gc_cycle.proofs.Stops.Admitted.{count-run}
use Rattle.gc_cycle.proofs.ClearedBlocks.{clears-on, has-cleared, more-stretches, within-stretches}
use Rattle.gc_cycle.proofs.clear_steps.clear_step.Goals as goal

pub loop-stretches-init : goal.loop-stretches-init
loop-stretches-init c =
    let v : View = view_of c.args.seat.now in
    let none = ap length (events-none v) in
    record {
      sits = c.requires.seat;
      part = part-none Clear v c.requires.clears.alone;
      numbers = only-none leaves_numbers v;
      count = ap (count_of (draws_block (block_count c.args.heap.now.shape))) (events-none v);
      few = omega (arith, none);
    }

pub clear_next-requires-clause-alone : goal.clear_next-requires-clause-alone
clear_next-requires-clause-alone c = c.loop-stretches.invariant.part.alone

pub loop-stretches-preserved : goal.loop-stretches-preserved
loop-stretches-preserved c =
    let u : View = view_of c.args.seat.now in
    let v : View = view_of c.loop-stretches.seat in
    let w : View = view_of c.clear_next.new.seat in
    let i = c.loop-stretches.invariant in
    let e = c.clear_next.ensures in
    let counts = count-run (draws_block (block_count c.args.heap.now.shape)) u v w i.part.ran e.part.ran in
    let one = e.some c.if-not-clear_next.false in
    let first = one.0 in
    let so_far = i.count in
    let each : ℕ = 2 + c.args.heap.now.shape.stretch in
    let k : ℕ = c.loop-stretches.stretches in
    let long = few-join (k * each) each u v w i.part.ran e.part.ran i.few one.1 in
    let more = more-stretches k each in
    record {
      sits = e.seat;
      part = part-join Clear u v w i.part e.part;
      numbers = ran-only leaves_numbers u v w i.part.ran e.part.ran i.numbers e.numbers;
      count = omega (arith, counts, first, so_far);
      few = omega (arith, long, more);
    }

pub returns-then-not-clear_next : goal.returns-then-not-clear_next
returns-then-not-clear_next c =
    let u : View = view_of c.args.seat.now in
    let v : View = view_of c.loop-stretches.seat in
    let w : View = view_of c.clear_next.new.seat in
    let i = c.loop-stretches.invariant in
    let e = c.clear_next.ensures in
    let p = part-join Clear u v w i.part e.part in
    let counts = count-run (draws_block (block_count c.args.heap.now.shape)) u v w i.part.ran e.part.ran in
    let last = e.none c.if-not-clear_next.true in
    let none = last.0 in
    let so_far = i.count in
    let below = c.loop-stretches-test.true in
    let each : ℕ = 2 + c.args.heap.now.shape.stretch in
    let k : ℕ = c.loop-stretches.stretches in
    let long = few-join (k * each) 2 u v w i.part.ran e.part.ran i.few last.1 in
    let room = within-stretches k c.args.most each below in
    let s = clears-on u w c.requires.clears p in
    record {
      seat = e.seat;
      part = p;
      clears = s;
      cleared = λ _. has-cleared c.args.heap.now.shape w e.seat.1 s last.2;
      stretches = (omega (arith, below), omega (arith, counts, none, so_far));
      few = omega (arith, long, room);
      numbers = ran-only leaves_numbers u v w i.part.ran e.part.ran i.numbers e.numbers;
      keeps = part-keeps Clear u w p;
    }

pub returns : goal.returns
returns c =
    let u : View = view_of c.args.seat.now in
    let v : View = view_of c.loop-stretches.seat in
    let i = c.loop-stretches.invariant in
    let far = c.loop-stretches-test.false in
    let count = i.count in
    let long = i.few in
    let end = c.loop-stretches.auto.stretches-end in
    let last : c.loop-stretches.stretches ≡ c.args.most = omega (arith, far, end) in
    record {
      seat = i.sits;
      part = i.part;
      clears = clears-on u v c.requires.clears i.part;
      cleared = λ n. absurd (n refl);
      stretches = (omega arith, omega (arith, far, count));
      few = subst (λ k. length (events u v) ≤ k * (2 + c.args.heap.now.shape.stretch)) last long;
      numbers = i.numbers;
      keeps = part-keeps Clear u v i.part;
    }
