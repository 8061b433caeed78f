use Rattle.std.proofs.Common.{ap, inl}
use Rattle.std.proofs.lemmas.Bool.{and_from}
use Rattle.mark_core.specs.Seats.{is_the}
use Rattle.mark_core.specs.declared.kinds.Phase.TheVariants.{Sweep}
use Rattle.mark_core.specs.declared.seat.SeatState.{SeatState}
use Rattle.gc_table.specs.Seats.{view_of}
use Rattle.gc_table.specs.declared.view.View.{View}
use Rattle.gc_table.proofs.History.Log.{only-more}
use Rattle.gc_cycle.specs.Lower.{sweeps_next}
use Rattle.gc_cycle.specs.Statistics.{leaves_numbers}
use Rattle.gc_cycle.proofs.Leaving.{sweeps-leave}
use Rattle.gc_cycle.proofs.OpenSteps.{exact-run, open-keeps, shared-on, swept-open}
use Rattle.gc_cycle.proofs.Stops.OutAndIn.{is-done}
use Rattle.gc_cycle.proofs.shared_steps.sweep_shared.Goals as goal

pub sweep_some-requires-clause-sweeps : goal.sweep_some-requires-clause-sweeps
sweep_some-requires-clause-sweeps c = let o = c.requires.sweeps.opened in inl (and_from _ _ o.knows (ap (λ q. is_the q 3) o.phase.0))

pub sweep_some-requires-clause-block : goal.sweep_some-requires-clause-block
sweep_some-requires-clause-block c = (is-done (view_of c.args.seat.now) c.requires.sweeps.opened.rest).block

pub returns : goal.returns
returns c =
    let v : View = view_of c.args.seat.now in
    let w : View = view_of c.sweep_some.new.seat in
    let e = c.sweep_some.ensures in
    let p = swept-open v w c.requires.sweeps.opened e.sweeps in
    record {
      seat = e.seat;
      part = p;
      sweeps = shared-on Sweep v w c.requires.sweeps p;
      swept = λ n. (e.end n).1;
      stretches = e.stretches;
      freed = e.freed;
      exact = λ u k. exact-run u v w e.sweeps.ran (ap (λ (s : SeatState). s.exact) e.sweeps.record_is) k;
      numbers = only-more sweeps_next leaves_numbers sweeps-leave v w e.sweeps.only;
      keeps = open-keeps Sweep v w p;
      few = e.few;
    }
