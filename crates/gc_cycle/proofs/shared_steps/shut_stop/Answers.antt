use Rattle.std.proofs.Common.{ap, refl}
use Rattle.mark_core.specs.declared.kinds.Step.TheVariants.{CloseStep}
use Rattle.gc_table.specs.Log.{Only}
use Rattle.gc_table.specs.Seats.{Took, view_of}
use Rattle.gc_table.specs.declared.view.View.{View}
use Rattle.gc_table.proofs.History.Log.{only-after}
use Rattle.gc_cycle.specs.Finishing.{finishes}
use Rattle.gc_cycle.proofs.Ends.Spared.{finish-keeps}
use Rattle.gc_cycle.proofs.OpenSteps.{closing-of, exact-run}
use Rattle.gc_cycle.proofs.Stepped.{owner-kept}
use Rattle.gc_cycle.proofs.Stops.Opened.{closes-block_floor}
use Rattle.gc_cycle.proofs.shared_steps.shut_stop.Goals as goal

pub shut_help-requires-clause-opened : goal.shut_help-requires-clause-opened
shut_help-requires-clause-opened c = c.requires.shared.1.opened.opened

shuts : (v w : View) → Took CloseStep v w → Only finishes v w
shuts v w t = only-after finishes v w CloseStep t.0 refl t.1.0

pub returns : goal.returns
returns c =
    let v : View = view_of c.args.seat.now in
    let w : View = view_of c.shut_help.new.seat in
    let h = c.shut_help.ensures in
    let f = shuts v w h.step in
    let owner = owner-kept v w h.closes.ran f c.requires.shared.1.owner in
    record {
      seat = h.seat;
      step = h.step;
      closing = λ p s. closing-of p v w h.closes owner s;
      floor = λ n l. closes-block_floor n v w h.closes.ran h.closes.only c.requires.shared.1.opened.knows l;
      exact = λ u k. exact-run u v w h.closes.ran (ap (λ (x : View). x.state.exact) h.step.1.0) k;
      keeps = finish-keeps v w h.closes.ran f;
    }
