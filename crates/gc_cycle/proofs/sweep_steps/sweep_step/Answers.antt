use Rattle.std.proofs.Common.{inl}
use Rattle.mark_core.specs.declared.kinds.Phase.TheVariants.{Sweep}
use Rattle.gc_table.specs.Seats.{view_of}
use Rattle.gc_table.specs.declared.view.View.{View}
use Rattle.gc_table.proofs.History.Log.{only-more}
use Rattle.gc_cycle.specs.Lower.{sweeps_next}
use Rattle.gc_cycle.specs.Statistics.{leaves_numbers}
use Rattle.gc_cycle.proofs.Ends.Moving.{no-block}
use Rattle.gc_cycle.proofs.Exactly.{exact-part}
use Rattle.gc_cycle.proofs.Leaving.{sweeps-leave}
use Rattle.gc_cycle.proofs.Stepped.{has-swept, may-sweep, next-alone, part-keeps, sweeps-on}
use Rattle.gc_cycle.proofs.sweep_steps.sweep_step.Goals as goal

pub sweep_some-requires-clause-sweeps : goal.sweep_some-requires-clause-sweeps
sweep_some-requires-clause-sweeps c = inl (may-sweep (view_of c.args.seat.now) c.requires.sweeps.alone)

pub sweep_some-requires-clause-block : goal.sweep_some-requires-clause-block
sweep_some-requires-clause-block c = no-block (view_of c.args.seat.now) c.requires.sweeps.alone.rest

pub returns : goal.returns
returns c =
    let v : View = view_of c.args.seat.now in
    let w : View = view_of c.sweep_some.new.seat in
    let e = c.sweep_some.ensures in
    let p = next-alone v w c.requires.sweeps.alone e.sweeps.ran e.sweeps.only e.sweeps.record_is e.sweeps.left in
    let s = sweeps-on v w c.requires.sweeps p in
    record {
      seat = e.seat;
      part = p;
      sweeps = s;
      swept = λ n. has-swept c.args.heap.now.shape w e.seat.1 s (e.end n).1;
      stretches = e.stretches;
      freed = e.freed;
      exact = λ u k. exact-part Sweep u v w p k;
      numbers = only-more sweeps_next leaves_numbers sweeps-leave v w e.sweeps.only;
      keeps = part-keeps Sweep v w p;
      few = e.few;
    }
