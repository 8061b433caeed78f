use Rattle.std.proofs.Common.{◌≡◌, arith, subst}
use Rattle.gc_table.specs.declared.view.View.{View}
use Rattle.gc_table.specs.Seats.{view_of}
use Rattle.gc_table.proofs.History.Log.{only-none}
use Rattle.gc_table.proofs.Running.{ran-join, ran-only, ran-refl}
use Rattle.sweeper.specs.Blocks.{SweepsOn}
use Rattle.sweeper.specs.Sweepers.{is_sweeping}
use Rattle.sweeper.proofs.Sweepers.{sweeps-kept}
use Rattle.sweeper.proofs.Stretches.{sweeps-begin, sweeps-hand, sweeps-next}
use Rattle.sweeper.proofs.sweeping.sweep_stretch.Goals as goal

pub loop-block-init : goal.loop-block-init
loop-block-init c =
    let v : View = view_of c.args.seat.now in
    record {
      sits = c.requires.seat;
      sweeps = c.requires.sweeps;
      ran = ran-refl v;
      only = only-none is_sweeping v;
      low = omega arith;
      swept = sweeps-begin c.args.first c.args.until v c.requires.hand c.requires.there.0;
    }

pub sweep_block-freed-requires : goal.sweep_block-freed-requires
sweep_block-freed-requires c =
    let i = c.loop-block.invariant in
    let in_it = c.loop-block-test.true in
    let there = c.requires.there.1 in
    record {
      seat = i.sits;
      sweeps = i.sweeps;
      there = omega (arith, in_it, there);
      hand = sweeps-hand c.args.first c.loop-block.block c.args.until c.loop-block.freed (view_of c.args.seat.now) (view_of c.loop-block.seat) in_it i.swept;
    }

pub loop-block-preserved : goal.loop-block-preserved
loop-block-preserved c =
    let u : View = view_of c.args.seat.now in
    let v : View = view_of c.loop-block.seat in
    let w : View = view_of c.sweep_block-freed.new.seat in
    let i = c.loop-block.invariant in
    let e = c.sweep_block-freed.ensures in
    let low = i.low in
    record {
      sits = e.seat;
      sweeps = sweeps-kept v w e.ran e.only i.sweeps;
      ran = ran-join u v w i.ran e.ran;
      only = ran-only is_sweeping u v w i.ran e.ran i.only e.only;
      low = omega (arith, low);
      swept = sweeps-next c.args.first c.loop-block.block c.args.until u v w i.ran e.ran c.loop-block-test.true c.loop-block.freed c.sweep_block-freed.result i.swept e.swept e.few;
    }

pub returns-clause-swept : goal.returns-clause-swept
returns-clause-swept c =
    let last : c.loop-block.block ≡ c.args.until = omega (arith, c.loop-block-test.false, c.loop-block.auto.block-end) in
    subst (λ n. SweepsOn c.args.first n c.args.until c.loop-block.freed (view_of c.args.seat.now) (view_of c.loop-block.seat)) last c.loop-block.invariant.swept
