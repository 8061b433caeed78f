use Rattle.std.proofs.Common.{[], ap, arith, Bool, false, not, refl, sym, true, ℕ, ◌++◌, ◌∙◌, ◌∷◌, ◌≡◌}
use Rattle.std.proofs.lemmas.Bool.{false≢true}
use Rattle.stop_world.specs.declared.Raised.{Raised}
use Rattle.stop_world.specs.declared.Raised.TheVariants.{Theirs, Yours}
use Rattle.std.specs.Prelude.{if◌then◌else◌, is_some}
use Rattle.mark_core.specs.Bits.{has_flag}
use Rattle.mark_core.specs.Steps.WorldSteps.{has_nothing}
use Rattle.gc_table.specs.Seats.{view_of}
use Rattle.gc_table.specs.declared.view.View.{View}
use Rattle.stop_world.proofs.Standing.{unaware-alone}
use Rattle.stop_world.proofs.Waits.{aware-at}
use Rattle.gc_cycle.proofs.Stops.OutAndIn.{bare-parts}
use Rattle.gc_cycle.proofs.Stops.FlagRaised.{out-unaware, theirs-out}
use Rattle.stop_world.proofs.Flagged.{yours-free}
use Rattle.mark_core.specs.declared.kinds.Step.TheVariants.{LeaveStep, RaiseStep, StorePosition}
use Rattle.gc_table.specs.Log.{event, events}
use Rattle.gc_table.specs.Running.{Ran}
use Rattle.gc_table.specs.Taking.{after}
use Rattle.gc_table.proofs.History.Log.{events-after}
use Rattle.gc_table.proofs.Running.{ran-events, ran-join}
use Rattle.gc_cycle.proofs.Few.{few-events}
use Rattle.gc_cycle.proofs.stepping.ask_to_stop.Goals as goal

pub returns-in-Yours-clause-yours : goal.returns-in-Yours-clause-yours
returns-in-Yours-clause-yours c =
    let v : View = view_of c.go_out.new.seat in
    let w : View = view_of c.raise.new.seat in
    let t = c.in-Yours.ensures.step in
    let g = c.go_out.ensures in
    let k = out-unaware v w t.0 g.seat.1 t.1 t.2 in
    record {
      owner =
          record {
            section = ap (λ (y : View). is_some y.state.section) t.1 ∙ (ap (λ q. is_some q) g.out.seat.section ∙ c.requires.seat.1.section);
            unhelping = ap (λ (y : View). y.state.helping) t.1 ∙ (bare-parts v.state g.seat.1.bare).2;
          };
      aware = aware-at w (ap (λ (x : View). x.state.raised) t.1 ∙ ap not (yours-free (has_flag t.0) t.3)) c.raise.ensures.unmoved k (unaware-alone w k c.raise.new.seat.possible);
      unaware = k;
      rest = ap (λ (y : View). has_nothing y.shape y.state) t.1 ∙ g.seat.1.rest;
    }

pub returns-in-Theirs-clause-theirs : goal.returns-in-Theirs-clause-theirs
returns-in-Theirs-clause-theirs c =
    let t = c.in-Theirs.ensures.step in
    theirs-out (view_of c.go_out.new.seat) (view_of c.raise.new.seat) t.0 c.go_out.ensures.seat.1 t.1 t.3

by-theirs : (b : Bool) → Theirs ≡ (if b then Theirs else Yours) → false ≡ not b
by-theirs true e = refl
by-theirs false e = absurd (false≢true (ap is_yours e))
  where
    is_yours : Raised → Bool
    is_yours Yours = true
    is_yours Theirs = false

asked : (u v w : View) (done left found : ℕ) → Ran u v → Ran v w → events u v ≡ event (StorePosition done) done ∷ event LeaveStep left ∷ [] → w ≡ after RaiseStep found v → events u w ≡ event (StorePosition done) done ∷ event LeaveStep left ∷ event RaiseStep found ∷ []
asked u v w done left found r q a is = ran-events u v w r q ∙ (ap (λ es. es ++ events v w) a ∙ ap (λ es. event (StorePosition done) done ∷ event LeaveStep left ∷ es) (events-after v w RaiseStep found is))

pub returns-in-Yours-clause-asks : goal.returns-in-Yours-clause-asks
returns-in-Yours-clause-asks c =
    let o = c.go_out.ensures in
    let t = c.in-Yours.ensures.step in
    record {
      left = o.left.0;
      found = t.0;
      all = asked (view_of c.args.seat.now) (view_of c.go_out.new.seat) (view_of c.raise.new.seat) c.args.done o.left.0 t.0 o.out.ran c.raise.ensures.ran o.left.1 t.1;
      answer = ap not (sym (yours-free (has_flag t.0) t.3));
    }

pub returns-in-Theirs-clause-asks : goal.returns-in-Theirs-clause-asks
returns-in-Theirs-clause-asks c =
    let o = c.go_out.ensures in
    let t = c.in-Theirs.ensures.step in
    record {
      left = o.left.0;
      found = t.0;
      all = asked (view_of c.args.seat.now) (view_of c.go_out.new.seat) (view_of c.raise.new.seat) c.args.done o.left.0 t.0 o.out.ran c.raise.ensures.ran o.left.1 t.1;
      answer = by-theirs (has_flag t.0) t.3;
    }

pub returns-in-Yours-clause-ran : goal.returns-in-Yours-clause-ran
returns-in-Yours-clause-ran c = ran-join (view_of c.args.seat.now) (view_of c.go_out.new.seat) (view_of c.raise.new.seat) c.go_out.ensures.out.ran c.raise.ensures.ran

pub returns-in-Theirs-clause-ran : goal.returns-in-Theirs-clause-ran
returns-in-Theirs-clause-ran c = ran-join (view_of c.args.seat.now) (view_of c.go_out.new.seat) (view_of c.raise.new.seat) c.go_out.ensures.out.ran c.raise.ensures.ran

pub returns-in-Yours-clause-position : goal.returns-in-Yours-clause-position
returns-in-Yours-clause-position c = ap (λ (y : View). y.own.position) c.in-Yours.ensures.step.1 ∙ c.go_out.ensures.position

pub returns-in-Theirs-clause-position : goal.returns-in-Theirs-clause-position
returns-in-Theirs-clause-position c = ap (λ (y : View). y.own.position) c.in-Theirs.ensures.step.1 ∙ c.go_out.ensures.position

pub returns-in-Yours-clause-few : goal.returns-in-Yours-clause-few
returns-in-Yours-clause-few c =
    let o = c.go_out.ensures in
    let t = c.in-Yours.ensures.step in
    let u : View = view_of c.args.seat.now in
    let w : View = view_of c.raise.new.seat in
    few-events 3 u w _ (asked u (view_of c.go_out.new.seat) w c.args.done o.left.0 t.0 o.out.ran c.raise.ensures.ran o.left.1 t.1) (omega arith)

pub returns-in-Theirs-clause-few : goal.returns-in-Theirs-clause-few
returns-in-Theirs-clause-few c =
    let o = c.go_out.ensures in
    let t = c.in-Theirs.ensures.step in
    let u : View = view_of c.args.seat.now in
    let w : View = view_of c.raise.new.seat in
    few-events 3 u w _ (asked u (view_of c.go_out.new.seat) w c.args.done o.left.0 t.0 o.out.ran c.raise.ensures.ran o.left.1 t.1) (omega arith)
