use Rattle.std.proofs.Common.{ap, arith, refl, ℕ, ◌≡◌, ◌≤◌, ◌+◌, ◌*◌, ◌∙◌, length, subst}
use Rattle.mark_core.specs.Layout.{block_count}
use Rattle.mark_core.specs.declared.seat.SeatState.{SeatState}
use Rattle.packet_pools.specs.Counts.{count_of}
use Rattle.packet_pools.specs.Seeking.{some_event}
use Rattle.sweeper.specs.Freeing.{freed_in}
use Rattle.sweeper.proofs.SweptBlocks.{freed-join as freed-run}
use Rattle.gc_table.specs.Log.{events}
use Rattle.gc_table.specs.Seats.{view_of}
use Rattle.gc_table.specs.declared.view.View.{View}
use Rattle.gc_table.proofs.History.Log.{events-none}
use Rattle.gc_table.proofs.Running.{ran-events}
use Rattle.packet_pools.proofs.Searches.{some-right}
use Rattle.gc_cycle.specs.SharedSteps.{SweepsSome}
use Rattle.gc_cycle.specs.Sorts.{draws_block, sees_last_block}
use Rattle.gc_cycle.proofs.ClearedBlocks.{more-stretches, within-stretches}
use Rattle.gc_cycle.proofs.Few.{few-join}
use Rattle.gc_cycle.proofs.OpenSteps.{may-still, swept-join, swept-none}
use Rattle.gc_cycle.proofs.Stops.Admitted.{count-run}
use Rattle.gc_cycle.proofs.sweep_steps.sweep_some.Goals as goal

pub loop-stretches-init : goal.loop-stretches-init
loop-stretches-init c =
    let v : View = view_of c.args.seat.now in
    let none = ap (freed_in v) (events-none v) in
    let steps = ap length (events-none v) in
    record {
      sits = c.requires.seat;
      may = c.requires.sweeps;
      free = c.requires.block;
      swept = swept-none v;
      count = ap (count_of (draws_block (block_count c.args.heap.now.shape))) (events-none v);
      freed = omega (arith, none);
      few = omega (arith, steps);
    }

pub loop-stretches-preserved : goal.loop-stretches-preserved
loop-stretches-preserved c =
    let u : View = view_of c.args.seat.now in
    let v : View = view_of c.loop-stretches.seat in
    let w : View = view_of c.sweep_next.new.seat in
    let i = c.loop-stretches.invariant in
    let e = c.in-Some.ensures in
    let s : SweepsSome v w = record { ran = e.ran; only = e.only; record_is = e.state; left = e.left } in
    let counts = count-run (draws_block (block_count c.args.heap.now.shape)) u v w i.swept.ran e.ran in
    let one = e.some.3 in
    let so_far = i.count in
    let total = freed-run u v w i.swept.ran e.ran in
    let more = e.some.0 in
    let before = i.freed in
    let sum = c.saturating_add-freed.ensures in
    let each : ℕ = 2 + 4 * c.args.heap.now.shape.stretch in
    let k : ℕ = c.loop-stretches.stretches in
    let long = few-join (k * each) each u v w i.swept.ran e.ran i.few e.few in
    let grown = more-stretches k each in
    record {
      sits = e.seat;
      may = may-still v w s i.may;
      free = ap (λ (x : SeatState). x.block) e.state ∙ i.free;
      swept = swept-join u v w i.swept s;
      count = omega (arith, counts, one, so_far);
      freed = omega (arith, total, more, before, sum);
      few = omega (arith, long, grown);
    }

pub returns-in_default : goal.returns-in_default
returns-in_default c =
    let u : View = view_of c.args.seat.now in
    let v : View = view_of c.loop-stretches.seat in
    let w : View = view_of c.sweep_next.new.seat in
    let i = c.loop-stretches.invariant in
    let e = c.in_default.ensures in
    let s : SweepsSome v w = record { ran = e.ran; only = e.only; record_is = e.state; left = e.left } in
    let counts = count-run (draws_block (block_count c.args.heap.now.shape)) u v w i.swept.ran e.ran in
    let none = e.none.2 in
    let so_far = i.count in
    let total = freed-run u v w i.swept.ran e.ran in
    let unfreed = e.unfreed in
    let before = i.freed in
    let below = c.loop-stretches-test.true in
    let each : ℕ = 2 + 4 * c.args.heap.now.shape.stretch in
    let k : ℕ = c.loop-stretches.stretches in
    let long = few-join (k * each) each u v w i.swept.ran e.ran i.few e.few in
    let room = within-stretches k c.args.most each below in
    let ends = sees_last_block (block_count c.args.heap.now.shape) in
    let seen = ap (some_event ends) (ran-events u v w i.swept.ran e.ran) ∙ some-right ends (events u v) (events v w) e.none.0 in
    record {
      seat = e.seat;
      sweeps = swept-join u v w i.swept s;
      end = λ _. (seen, e.none.1);
      stretches = (omega (arith, below), omega (arith, counts, none, so_far));
      freed = omega (arith, total, unfreed, before);
      few = omega (arith, long, room);
    }

pub returns : goal.returns
returns c =
    let u : View = view_of c.args.seat.now in
    let v : View = view_of c.loop-stretches.seat in
    let i = c.loop-stretches.invariant in
    let far = c.loop-stretches-test.false in
    let end = c.loop-stretches.auto.stretches-end in
    let last : c.loop-stretches.stretches ≡ c.args.most = omega (arith, far, end) in
    let count = i.count in
    record {
      seat = i.sits;
      sweeps = i.swept;
      end = λ n. absurd (n refl);
      stretches = (omega arith, omega (arith, far, count));
      freed = i.freed;
      few = subst (λ k. length (events u v) ≤ k * (2 + 4 * c.args.heap.now.shape.stretch)) last i.few;
    }
