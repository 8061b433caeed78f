use Rattle.std.proofs.Common.{ap, refl, ◌∙◌, ◌≡◌, true, Bool, ◌||◌}
use Rattle.std.proofs.lemmas.Bool.{OnFalse_from, OnTrue_at, OnTrue_from}
use Rattle.mark_core.specs.Steps.WorldSteps.{has_nothing}
use Rattle.mark_core.specs.declared.kinds.Phase.{Phase}
use Rattle.mark_core.specs.declared.kinds.Shape.{Shape}
use Rattle.mark_core.specs.declared.kinds.Step.TheVariants.{SeeHelp}
use Rattle.mark_core.specs.declared.seat.SeatState.{SeatState}
use Rattle.gc_table.specs.Running.{Ran}
use Rattle.gc_table.specs.Seats.{view_of}
use Rattle.gc_table.specs.declared.view.View.{View}
use Rattle.gc_table.proofs.History.Log.{only-after}
use Rattle.gc_table.proofs.Running.{ran-shape}
use Rattle.stop_world.specs.Waiting.{closes}
use Rattle.gc_cycle.specs.Finishing.{finishes}
use Rattle.gc_cycle.specs.SharedSteps.{IsClosing}
use Rattle.gc_cycle.proofs.Ends.Spared.{finish-keeps}
use Rattle.gc_cycle.proofs.OpenSteps.{exact-run}
use Rattle.gc_cycle.proofs.Stepped.{owner-kept}
use Rattle.gc_cycle.proofs.Stops.Opened.{closes-block_floor}
use Rattle.gc_cycle.proofs.shared_steps.finds_helpers_gone.Goals as goal

pub finds_alone-requires-clause-closed : goal.finds_alone-requires-clause-closed
finds_alone-requires-clause-closed c = (c.requires.closing.1.knows, c.requires.closing.1.shut)

nothing-left : (p : Phase) (v w : View) (b : Bool) → IsClosing p v → Ran v w → w.state ≡ record v.state { alone = b } → has_nothing w.shape w.state ≡ true
nothing-left p v w b k r e = ap (λ (sh : Shape). has_nothing sh w.state) (ran-shape v w r) ∙ (ap (λ (s : SeatState). has_nothing v.shape s) e ∙ k.rest)

pub returns : goal.returns
returns c =
    let v : View = view_of c.args.seat.now in
    let w : View = view_of c.finds_alone.new.seat in
    let e = c.finds_alone.ensures in
    let f = only-after finishes v w SeeHelp e.step.0 refl e.step.1 in
    let b : Bool = v.state.alone || c.finds_alone.result in
    record {
      seat = e.seat;
      step = e.step;
      alone =
          OnTrue_from c.finds_alone.result _
          (λ t p k.
          let a = OnTrue_at t e.alone p k.phase in
          (owner-kept v w e.ran f k.owner, record { rest = record { knows = a.knows; alone = a.alone; rest = nothing-left p v w b k e.ran e.state }; alone = a }));
      closing =
          OnFalse_from c.finds_alone.result _
          (λ t p k.
          record {
            owner = owner-kept v w e.ran f k.owner;
            knows = ap (λ (s : SeatState). s.knows) e.state ∙ k.knows;
            shut = ap (λ (s : SeatState). s.opened) e.state ∙ k.shut;
            phase = e.phase p k.phase;
            rest = nothing-left p v w b k e.ran e.state;
          });
      floor = λ n l. closes-block_floor n v w e.ran (only-after closes v w SeeHelp e.step.0 refl e.step.1) c.requires.closing.1.knows l;
      exact = λ u k. exact-run u v w e.ran (ap (λ (s : SeatState). s.exact) e.state) k;
      keeps = finish-keeps v w e.ran f;
    }
