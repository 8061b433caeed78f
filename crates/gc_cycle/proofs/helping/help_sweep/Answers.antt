use Rattle.std.proofs.Common.{◌≡◌, ◌∙◌, arith, refl, sym, ap, subst, Bool, true, false, not, Option, ◌&&◌, ◌||◌}
use Rattle.std.specs.Prelude.{is_some, is_none, ◌==◌}
use Rattle.std.proofs.lemmas.Bool.{and_parts, not-true, or_parts}
use Rattle.mark_core.specs.Layout.{block_count}
use Rattle.mark_core.specs.Seats.{cleaning_left, empty_handed, saw, scan_left, work_in_hand}
use Rattle.mark_core.specs.Steps.WorldSteps.{has_nothing}
use Rattle.mark_core.specs.declared.kinds.Phase.TheVariants.{Drain, Sweep}
use Rattle.mark_core.specs.declared.kinds.Shape.{Shape}
use Rattle.mark_core.specs.declared.seat.Cleaning.{Cleaning}
use Rattle.mark_core.specs.declared.seat.SeatState.{SeatState}
use Rattle.gc_table.specs.Log.{events}
use Rattle.gc_table.specs.Seats.{view_of}
use Rattle.gc_table.specs.declared.view.View.{View}
use Rattle.gc_table.proofs.Running.{ran-events, ran-join, ran-only, ran-shape}
use Rattle.packet_pools.specs.Counts.{count_of}
use Rattle.packet_pools.specs.Seeking.{some_event}
use Rattle.packet_pools.proofs.Searches.{some-right}
use Rattle.gc_cycle.specs.Lower.{sweeps_next}
use Rattle.gc_cycle.specs.Sorts.{draws_block, sees_last_block}
use Rattle.gc_cycle.specs.Standing.{Helps}
use Rattle.gc_cycle.proofs.Stops.Admitted.{count-run}
use Rattle.gc_cycle.proofs.helping.help_sweep.Goals as goal

-- nothing is in hand, by whether something of a cleaning is left
abbrev pub nothing_by : Shape → SeatState → Bool → Bool
nothing_by sh s left =
    empty_handed s && not (is_some s.popped || scan_left sh.fields s.scan || is_some s.value || is_some s.fresh || left) && is_none s.owes && is_none s.cache && is_none s.block && ((s.got == 0) && (s.lags == 0))

-- nothing is left of a cleaning
done-of : (w : View) → Helps w → cleaning_left w.state.cleaning ≡ false
done-of w o =
    let work : not (work_in_hand w.shape.fields w.state) ≡ true = (and_parts _ _ (and_parts _ _ (and_parts _ _ (and_parts _ _ (and_parts _ _ o.rest).0).0).0).0).1 in
    (or_parts _ (cleaning_left w.state.cleaning) (not-true (work_in_hand w.shape.fields w.state) work)).1

-- a helper that swept is one still
swept-helps : (v w : View) → Helps v → w.shape ≡ v.shape → (b : Bool) (y : Option Cleaning) → w.state ≡ record v.state { below_block = b; cleaning = y } → cleaning_left y ≡ false → Helps w
swept-helps v w o sh b y e left =
    record {
      admitted = ap (λ (s : SeatState). s.admitted) e ∙ o.admitted;
      phase = ap (λ (s : SeatState). saw s.phase_seen Drain || saw s.phase_seen Sweep) e ∙ o.phase;
      rest =
          ap (λ (x : Shape). has_nothing x w.state) sh
          ∙ (ap (λ (s : SeatState). has_nothing v.shape s) e ∙ (ap (nothing_by v.shape v.state) (left ∙ sym (done-of v o)) ∙ o.rest));
    }

pub loop-swept-preserved : goal.loop-swept-preserved
loop-swept-preserved c =
    let u : View = view_of c.args.seat.now in
    let v : View = view_of c.loop-swept.seat in
    let w : View = view_of c.sweep_next.new.seat in
    let i = c.loop-swept.invariant in
    let e = c.in-Some.ensures in
    let counts = count-run (draws_block (block_count c.args.heap.now.shape)) u v w i.ran e.ran in
    let one = e.some.3 in
    let so_far = i.count in
    let few = i.few in
    let rises = e.some.1 in
    record {
      sits = e.seat;
      helps = swept-helps v w i.helps (ran-shape v w e.ran) w.state.below_block w.state.cleaning e.state (e.left (done-of v i.helps));
      ran = ran-join u v w i.ran e.ran;
      only = ran-only sweeps_next u v w i.ran e.ran i.only e.only;
      phase = ap (λ (s : SeatState). s.phase_seen) e.state ∙ i.phase;
      count = omega (arith, counts, one, so_far);
      few = omega (arith, few, rises);
    }

pub returns-clause-swept : goal.returns-clause-swept
returns-clause-swept c =
    let u : View = view_of c.args.seat.now in
    let v : View = view_of c.loop-swept.seat in
    let w : View = view_of c.sweep_next.new.seat in
    let i = c.loop-swept.invariant in
    let e = c.in_default.ensures in
    let back = sym c.requires.seat.0.1 in
    let counts = count-run (draws_block (block_count c.args.heap.now.shape)) u v w i.ran e.ran in
    let none = e.none.2 in
    let so_far = i.count in
    let all : count_of (draws_block (block_count c.args.heap.now.shape)) (events u w) ≡ c.loop-swept.swept = omega (arith, counts, none, so_far) in
    record {
      ran = ran-join u v w i.ran e.ran;
      only = ran-only sweeps_next u v w i.ran e.ran i.only e.only;
      helps = swept-helps v w i.helps (ran-shape v w e.ran) w.state.below_block w.state.cleaning e.state (e.left (done-of v i.helps));
      phase = ap (λ (s : SeatState). s.phase_seen) e.state ∙ i.phase;
      traced = refl;
      rescanned = refl;
      swept = subst (λ (sh : Shape). count_of (draws_block (block_count sh)) (events u w) ≡ c.loop-swept.swept) back all;
      ended = refl;
      end =
          subst (λ (sh : Shape). some_event (sees_last_block (block_count sh)) (events u w) ≡ true) back
          (ap (some_event (sees_last_block (block_count c.args.heap.now.shape))) (ran-events u v w i.ran e.ran) ∙ some-right (sees_last_block (block_count c.args.heap.now.shape)) (events u v) (events v w) e.none.0);
    }
