use Rattle.std.proofs.Common.{◌-◌, arith, ap, ◌∙◌, subst}
use Rattle.std.specs.Prelude.{◌<◌, ◌≤◌, length}
use Rattle.mark_core.specs.Layout.{block_count}
use Rattle.mark_core.specs.Steps.SweepSteps.{stretch_end}
use Rattle.mark_core.specs.declared.kinds.Shape.{Shape}
use Rattle.gc_table.specs.Seats.{view_of}
use Rattle.gc_table.specs.declared.view.View.{View}
use Rattle.gc_table.proofs.History.Log.{only-more}
use Rattle.packet_pools.specs.Counts.{count_of}
use Rattle.sweeper.specs.Freeing.{block_floor}
use Rattle.sweeper.specs.Sweepers.{is_clearing}
use Rattle.gc_cycle.specs.Sorts.{draws_block}
use Rattle.gc_cycle.specs.Statistics.{leaves_numbers}
use Rattle.gc_cycle.proofs.ClearedBlocks.{cleared-part, clearing-leaves, drawn-none, looks-few, may-clear, cleared-few, cleared-one}
use Rattle.gc_cycle.proofs.Ends.Swept.{floor-above}
use Rattle.gc_cycle.proofs.clear_steps.clear_next.Goals as goal

pub clear_marks_next-requires : goal.clear_marks_next-requires
clear_marks_next-requires c = record { seat = (c.requires.seat, may-clear (view_of c.args.seat.now) c.requires.alone) }

pub returns-in-Some-clause-part : goal.returns-in-Some-clause-part
returns-in-Some-clause-part c =
    let e = c.in-Some.ensures in cleared-part (view_of c.args.seat.now) (view_of c.clear_marks_next.new.seat) c.requires.alone e.ran e.only e.some.state

pub returns-in-Some-clause-numbers : goal.returns-in-Some-clause-numbers
returns-in-Some-clause-numbers c = only-more is_clearing leaves_numbers clearing-leaves (view_of c.args.seat.now) (view_of c.clear_marks_next.new.seat) c.in-Some.ensures.only

pub returns-in-Some-clause-some : goal.returns-in-Some-clause-some
returns-in-Some-clause-some c _ =
    let s = c.in-Some.ensures.some in
    let sh : Shape = c.args.heap.now.shape in
    let v : View = view_of c.args.seat.now in
    let b = c.in-Some.field-0 in
    let long = ap length s.events in
    let few = cleared-few v.shape b s.seen in
    let stretch = ap (λ (x : Shape). x.stretch) c.requires.seat.1 in (
      ap (count_of (draws_block (block_count sh))) s.events ∙ cleared-one (block_count sh) b s.seen (stretch_end v.shape b - b) (subst (λ (x : Shape). b < block_count x) c.requires.seat.1 s.there),
      omega (arith, long, few, stretch),
    )

pub returns-in-None-clause-part : goal.returns-in-None-clause-part
returns-in-None-clause-part c =
    let e = c.in-None.ensures in cleared-part (view_of c.args.seat.now) (view_of c.clear_marks_next.new.seat) c.requires.alone e.ran e.only e.none.state

pub returns-in-None-clause-numbers : goal.returns-in-None-clause-numbers
returns-in-None-clause-numbers c = only-more is_clearing leaves_numbers clearing-leaves (view_of c.args.seat.now) (view_of c.clear_marks_next.new.seat) c.in-None.ensures.only

pub returns-in-None-clause-none : goal.returns-in-None-clause-none
returns-in-None-clause-none c _ =
    let v : View = view_of c.args.seat.now in
    let w : View = view_of c.clear_marks_next.new.seat in
    let e = c.in-None.ensures.none in
    let shape = c.requires.seat.1 in (
      drawn-none (block_count c.args.heap.now.shape) v w e (subst (λ (sh : Shape). block_count sh ≤ e.number) shape e.end),
      looks-few v w e,
      subst (λ (sh : Shape). block_count sh ≤ block_floor w) shape (floor-above (block_count v.shape) w e.above),
    )
