use Rattle.std.proofs.Common.{◌≡◌, arith, refl, ap, subst, is_some}
use Rattle.mark_core.specs.declared.kinds.Phase.TheVariants.{Clear}
use Rattle.mark_core.specs.declared.kinds.Step.TheVariants.{ClearMarks}
use Rattle.gc_table.specs.declared.view.View.{View}
use Rattle.gc_table.specs.Seats.{view_of}
use Rattle.gc_table.proofs.History.Log.{only-after, only-none}
use Rattle.gc_table.proofs.Running.{ran-join, ran-only, ran-refl, ran-stored}
use Rattle.sweeper.specs.Blocks.{ClearsOn}
use Rattle.sweeper.specs.Sweepers.{is_clearing, is_sweeping}
use Rattle.sweeper.proofs.Sweepers.{stopped-kept}
use Rattle.sweeper.proofs.SweptBlocks.{may-clear_all}
use Rattle.sweeper.proofs.Stretches.{clears-begin, clears-hand, clears-next}
use Rattle.sweeper.proofs.sweeping.clear_stretch.Goals as goal

pub loop-block-init : goal.loop-block-init
loop-block-init c =
    let v : View = view_of c.args.seat.now in
    record {
      sits = c.requires.seat;
      clears = c.requires.clears;
      ran = ran-refl v;
      only = only-none is_clearing v;
      low = omega arith;
      cleared = clears-begin c.args.first c.args.until v c.requires.hand c.requires.there;
    }

pub clear_marks-requires : goal.clear_marks-requires
clear_marks-requires c =
    let v : View = view_of c.loop-block.seat in
    let i = c.loop-block.invariant in
    let hand = clears-hand c.args.first c.loop-block.block c.args.until (view_of c.args.seat.now) v c.loop-block-test.true i.cleared in
    record { seat = i.sits; may = may-clear_all v i.clears (ap (λ o. is_some o) hand.1) }

pub loop-block-preserved : goal.loop-block-preserved
loop-block-preserved c =
    let u : View = view_of c.args.seat.now in
    let v : View = view_of c.loop-block.seat in
    let w : View = view_of c.clear_marks.new.seat in
    let i = c.loop-block.invariant in
    let s = c.clear_marks.ensures.view in
    let r = ran-stored v w ClearMarks refl s in
    let low = i.low in
    record {
      sits = c.clear_marks.ensures.seat;
      clears = stopped-kept Clear v w r (only-after is_sweeping v w ClearMarks 0 refl s) i.clears;
      ran = ran-join u v w i.ran r;
      only = ran-only is_clearing u v w i.ran r i.only (only-after is_clearing v w ClearMarks 0 refl s);
      low = omega (arith, low);
      cleared = clears-next c.args.first c.loop-block.block c.args.until u v w i.ran r c.loop-block-test.true i.cleared s;
    }

pub returns-clause-cleared : goal.returns-clause-cleared
returns-clause-cleared c =
    let last : c.loop-block.block ≡ c.args.until = omega (arith, c.loop-block-test.false, c.loop-block.auto.block-end) in
    subst (λ n. ClearsOn c.args.first n c.args.until (view_of c.args.seat.now) (view_of c.loop-block.seat)) last c.loop-block.invariant.cleared
