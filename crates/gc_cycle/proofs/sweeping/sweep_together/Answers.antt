use Rattle.std.proofs.Common.{ℕ, ◌≡◌, ◌≤◌, refl, sym, subst, ap, ◌∙◌, Bool, true, false, Option}
use Rattle.std.proofs.lemmas.Bool.{and_from, false≢true, or_left}
use Rattle.mark_core.specs.Layout.{block_count}
use Rattle.mark_core.specs.Places.{the_phase}
use Rattle.mark_core.specs.Seats.{cleaning_left, is_the}
use Rattle.mark_core.specs.Steps.WorldSteps.{has_nothing}
use Rattle.mark_core.specs.declared.kinds.Phase.TheVariants.{Sweep}
use Rattle.mark_core.specs.declared.kinds.Shape.{Shape}
use Rattle.mark_core.specs.declared.kinds.Step.{Step}
use Rattle.mark_core.specs.declared.kinds.Step.TheVariants.{CloseStep, OpenStep, SeeHelp}
use Rattle.mark_core.specs.declared.seat.Cleaning.{Cleaning}
use Rattle.mark_core.specs.declared.seat.SeatState.{SeatState}
use Rattle.gc_table.specs.Seats.{Took, view_of}
use Rattle.gc_table.specs.declared.view.View.{View}
use Rattle.stop_world.specs.Waiting.{closes}
use Rattle.gc_table.specs.Running.{Known}
use Rattle.gc_table.proofs.History.Log.{only-more}
use Rattle.gc_table.proofs.Noticing.{alone-phase}
use Rattle.gc_table.proofs.Running.{ran-join, ran-shape}
use Rattle.sweeper.specs.Sweepers.{is_sweeping}
use Rattle.gc_cycle.specs.Finishing.{IsAloneIn, IsOpen, stays_in}
use Rattle.sweeper.specs.Freeing.{block_floor, frees}
use Rattle.sweeper.proofs.Sweepers.{sweeping-stays as sweeps-quiet}
use Rattle.gc_cycle.proofs.Ends.Moving.{no-block}
use Rattle.gc_cycle.proofs.Stops.Opened.{closed, closes-block_floor, open-event, open-part, open-total, opened, phase-kept}
use Rattle.gc_cycle.proofs.Stops.Unopened.{openable}
use Rattle.gc_cycle.proofs.Sequences.{freed-same}
use Rattle.gc_table.specs.Log.{events}
use Rattle.gc_cycle.proofs.Ends.Swept.{cleaning-done, done-of, floor-above, nothing_by, sweeps-stay}
use Rattle.gc_cycle.proofs.sweeping.sweep_together.Goals as goal

closes-none : (s : SeatState) (step : Step) (n : ℕ) → closes step ≡ true → frees s step n ≡ 0
closes-none s CloseStep n e = refl
closes-none s SeeHelp n e = refl
closes-none s step n e = absurd (false≢true e)

-- a seat that has opened, and swept
swept-open : (v w : View) → IsOpen Sweep v → w.shape ≡ v.shape → (b : Bool) (y : Option Cleaning) → w.state ≡ record v.state { below_block = b; cleaning = y } → cleaning_left y ≡ false → Known w the_phase 3 → IsOpen Sweep w
swept-open v w o sh b y e left k =
    record {
      knows = ap (λ (s : SeatState). s.knows) e ∙ o.knows;
      opened = ap (λ (s : SeatState). s.opened) e ∙ o.opened;
      phase = k;
      rest =
          ap (λ (x : Shape). has_nothing x w.state) sh
          ∙ (ap (λ (s : SeatState). has_nothing v.shape s) e ∙ (ap (nothing_by v.shape v.state) (left ∙ sym (done-of v o.rest)) ∙ o.rest));
    }

pub open_help-requires-clause-openable : goal.open_help-requires-clause-openable
open_help-requires-clause-openable g c = openable Sweep (view_of c.args.seat.now) c.args.seat.now.possible c.requires.alone refl

pub sweep_rest-freed-requires : goal.sweep_rest-freed-requires
sweep_rest-freed-requires g c =
    let v : View = view_of c.args.seat.now in
    let w : View = view_of c.open_help.new.seat in
    let a = c.requires.alone in
    let known = c.open_help.ensures.phase Sweep (alone-phase Sweep v a.alone) in
    let o = opened Sweep v w a c.open_help.ensures.step known in
    let may = or_left _ _ (and_from _ _ o.knows (ap (λ (n : Option ℕ). is_the n 3) known.0)) in
    record { seat = (c.open_help.ensures.seat, record { may = may; free = ap (λ (x : View). x.state.block) c.open_help.ensures.step.1.0 ∙ no-block v a.rest }) }

pub returns-clause-part : goal.returns-clause-part
returns-clause-part g c =
    let v : View = view_of c.args.seat.now in
    let w : View = view_of c.open_help.new.seat in
    let x : View = view_of c.sweep_rest-freed.new.seat in
    let y : View = view_of c.close_help.new.seat in
    let a = c.requires.alone in
    let r = c.sweep_rest-freed.ensures in
    let q = c.close_help.ensures in
    let o = opened Sweep v w a c.open_help.ensures.step (c.open_help.ensures.phase Sweep (alone-phase Sweep v a.alone)) in
    let known : Known x the_phase 3 = phase-kept is_sweeping 3 sweeps-quiet w x r.ran r.only o.knows o.phase in
    let z = swept-open w x o (ran-shape w x r.ran) false x.state.cleaning r.state (cleaning-done w x r.ran r.only (done-of w o.rest)) known in
    open-part Sweep v w x y c.open_help.ensures.step r.ran (only-more is_sweeping (stays_in Sweep) sweeps-stay w x r.only) q.ran q.only (closed Sweep x y z q.ran q.state q.phase)

-- the seat has opened
there : (v w : View) → IsAloneIn Sweep v → Took OpenStep v w → w.state.knows ≡ true
there v w a t = ap (λ (x : View). x.state.knows) t.1.0 ∙ a.rest.knows

pub returns-clause-opened : goal.returns-clause-opened
returns-clause-opened g c =
    let w : View = view_of c.open_help.new.seat in
    let x : View = view_of c.sweep_rest-freed.new.seat in
    let y : View = view_of c.close_help.new.seat in
    open-event (view_of c.args.seat.now) w y c.open_help.ensures.step (ran-join w x y c.sweep_rest-freed.ensures.ran c.close_help.ensures.ran)

pub returns-clause-end : goal.returns-clause-end
returns-clause-end g c =
    let w : View = view_of c.open_help.new.seat in
    let x : View = view_of c.sweep_rest-freed.new.seat in
    let knows = there (view_of c.args.seat.now) w c.requires.alone c.open_help.ensures.step in
    closes-block_floor (block_count c.args.heap.now.shape) x (view_of c.close_help.new.seat) c.close_help.ensures.ran c.close_help.ensures.only (ap (λ (s : SeatState). s.knows) c.sweep_rest-freed.ensures.state ∙ knows) (floor-above (block_count c.args.heap.now.shape) x c.sweep_rest-freed.ensures.end)

pub returns-clause-freed : goal.returns-clause-freed
returns-clause-freed g c =
    let w : View = view_of c.open_help.new.seat in
    let x : View = view_of c.sweep_rest-freed.new.seat in
    let v : View = view_of c.args.seat.now in
    let y : View = view_of c.close_help.new.seat in
    let same = open-total frees (λ s n. refl) closes-none v w x y c.open_help.ensures.step c.sweep_rest-freed.ensures.ran c.close_help.ensures.ran c.close_help.ensures.only in
    sym (freed-same (events v y) v) ∙ (same ∙ (freed-same (events w x) w ∙ c.sweep_rest-freed.ensures.freed))

pub returns-clause-sweeps : goal.returns-clause-sweeps
unfolding returns-clause-part
returns-clause-sweeps g c =
    let x : View = view_of c.sweep_rest-freed.new.seat in
    let r = c.sweep_rest-freed.ensures in
    let q = c.close_help.ensures in
    record {
      let_in = view_of c.open_help.new.seat;
      swept = x;
      part = returns-clause-part g c;
      opens = c.open_help.ensures.step;
      sweeps = (r.ran, r.only);
      end = subst (λ (sh : Shape). block_count sh ≤ block_floor x) (sym c.requires.seat.1) (floor-above (block_count c.args.heap.now.shape) x r.end);
      closes = (q.ran, q.only);
    }
