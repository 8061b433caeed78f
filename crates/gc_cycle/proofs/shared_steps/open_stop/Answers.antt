use Rattle.std.proofs.Common.{ap, refl}
use Rattle.mark_core.specs.declared.kinds.Step.TheVariants.{OpenStep}
use Rattle.gc_table.specs.Log.{Only}
use Rattle.gc_table.specs.Seats.{Took, view_of}
use Rattle.gc_table.specs.declared.view.View.{View}
use Rattle.gc_table.proofs.History.Log.{only-after}
use Rattle.gc_table.proofs.Noticing.{alone-phase}
use Rattle.gc_cycle.specs.Finishing.{finishes}
use Rattle.gc_cycle.proofs.Ends.Spared.{finish-keeps}
use Rattle.gc_cycle.proofs.OpenSteps.{exact-run, openable-either}
use Rattle.gc_cycle.proofs.Stepped.{owner-kept}
use Rattle.gc_cycle.proofs.Stops.Opened.{opened}
use Rattle.gc_cycle.proofs.shared_steps.open_stop.Goals as goal

pub open_help-requires-clause-openable : goal.open_help-requires-clause-openable
open_help-requires-clause-openable c = openable-either (view_of c.args.seat.now) c.args.seat.now.possible c.requires.alone

opens : (v w : View) → Took OpenStep v w → Only finishes v w
opens v w t = only-after finishes v w OpenStep t.0 refl t.1.0

pub returns : goal.returns
returns c =
    let v : View = view_of c.args.seat.now in
    let w : View = view_of c.open_help.new.seat in
    let o = c.open_help.ensures in
    let f = opens v w o.step in
    record {
      seat = o.seat;
      step = o.step;
      shared = λ p a. record { owner = owner-kept v w o.ran f c.requires.owner; opened = opened p v w a o.step (o.phase p (alone-phase p v a.alone)) };
      exact = λ u k. exact-run u v w o.ran (ap (λ (x : View). x.state.exact) o.step.1.0) k;
      keeps = finish-keeps v w o.ran f;
    }
