use Rattle.std.proofs.Common.{ℕ, ◌≡◌, [], ◌∷◌, ◌++◌, ap, ◌∙◌, not, refl, true, false}
use Rattle.std.proofs.lemmas.Bool.{and_from, false≢true, not-true, or_right}
use Rattle.mark_core.specs.Bits.{has_flag}
use Rattle.mark_core.specs.Steps.WorldSteps.{has_nothing}
use Rattle.mark_core.specs.declared.kinds.Shape.{Shape}
use Rattle.mark_core.specs.declared.seat.SeatState.{SeatState}
use Rattle.gc_table.specs.Seats.{view_of}
use Rattle.gc_table.specs.declared.view.View.{View}
use Rattle.packet_pools.specs.Seeking.{some_event}
use Rattle.packet_pools.proofs.Searches.{some-left, some-right}
use Rattle.gc_table.specs.Log.{all_steps, event, events}
use Rattle.gc_table.proofs.History.Log.{only-more, only-after}
use Rattle.gc_table.proofs.Running.{ran-events, ran-join, ran-only, ran-shape}
use Rattle.stop_world.specs.Waiting.{watches}
use Rattle.mark_core.specs.declared.kinds.Step.TheVariants.{LeaveStep, StorePosition}
use Rattle.gc_cycle.specs.Mutating.{is_in_stop, spares_blocks, stays_calm, tries_stopping, works_in_stops}
use Rattle.gc_cycle.specs.Events.{each_after, never}
use Rattle.gc_cycle.specs.Sorts.{comes_in, pops_or_clears, raises_flag, resumes}
use Rattle.gc_cycle.proofs.SectionKept.{calm-tries}
use Rattle.gc_cycle.proofs.Stops.OutAndIn.{bare-parts, no-cache}
use Rattle.gc_cycle.proofs.Stops.FlagRaised.{calm-count, count-calls, mutators-left, out-unaware, raised-event, raised-never, raised-once, raised-only, theirs-out, tries, watches-own, watches-try}
use Rattle.gc_cycle.proofs.Stops.Spared.{spares-calm, spares-watching}
use Rattle.stop_world.proofs.Flagged.{yours-free}
use Rattle.gc_cycle.specs.Statistics.{leaves_numbers}
use Rattle.gc_cycle.proofs.Leaving.{watches-leave}
use Rattle.mark_core.specs.declared.kinds.Step.{Step}
use Rattle.mark_core.specs.declared.kinds.Step.TheVariants.{Observe, RaiseStep, ReadPhase}
use Rattle.gc_table.specs.Running.{Ran}
use Rattle.gc_table.specs.Taking.{after}
use Rattle.gc_table.proofs.History.Log.{events-after}
use Rattle.packet_pools.proofs.Counting.{after-join, after-none}
use Rattle.gc_cycle.proofs.Sequences.{none-of-steps, some-none}
use Rattle.gc_cycle.proofs.stopping.stop.Goals as goal

pub await_stopped-requires-clause-unaware : goal.await_stopped-requires-clause-unaware
await_stopped-requires-clause-unaware g c =
    let t = c.raise.ensures.step in
    out-unaware (view_of c.go_out.new.seat) (view_of c.raise.new.seat) t.0 c.go_out.ensures.seat.1 t.1 t.2

pub go_in-requires-clause-seat : goal.go_in-requires-clause-seat
go_in-requires-clause-seat g c =
    let t = c.in-Theirs.ensures.step in
    (c.raise.ensures.seat, theirs-out (view_of c.go_out.new.seat) (view_of c.raise.new.seat) t.0 c.go_out.ensures.seat.1 t.1 t.3)

pub returns-in-Yours-clause-tries : goal.returns-in-Yours-clause-tries
returns-in-Yours-clause-tries g c =
    let u : View = view_of c.args.seat.now in
    let v : View = view_of c.go_out.new.seat in
    let w : View = view_of c.raise.new.seat in
    let x : View = view_of c.await_stopped.new.seat in
    let o = c.go_out.ensures.out in
    let t = c.raise.ensures.step in
    let a = c.await_stopped.ensures in
    let later = ran-join v w x c.raise.ensures.ran a.ran in
    let only = ran-only tries_stopping u v x o.ran later (only-more stays_calm tries_stopping calm-tries u v o.only)
    (ran-only tries_stopping v w x c.raise.ensures.ran a.ran (raised-only v w t.0 t.1) (only-more watches tries_stopping watches-try w x a.only)) in
    let none = ap (λ (s : SeatState). s.cache) a.state ∙ (ap (λ (y : View). y.state.cache) t.1 ∙ no-cache v.shape v.state c.go_out.ensures.seat.1.rest) in
    tries u x (ran-join u v x o.ran later) only none

pub returns-in-Yours-clause-yours : goal.returns-in-Yours-clause-yours
returns-in-Yours-clause-yours g c =
    let u : View = view_of c.args.seat.now in
    let v : View = view_of c.go_out.new.seat in
    let w : View = view_of c.raise.new.seat in
    let x : View = view_of c.await_stopped.new.seat in
    let o = c.go_out.ensures.out in
    let t = c.in-Yours.ensures.step in
    let a = c.await_stopped.ensures in
    let later = ran-join v w x c.raise.ensures.ran a.ran in
    let raised = raised-event v w t.0 t.1 t.3 in
    record {
      rest =
          record {
            knows = ap (λ (s : SeatState). s.knows) a.state;
            alone = ap (λ (s : SeatState). s.alone) a.state;
            rest =
                ap (λ (sh : Shape). has_nothing sh x.state) (ran-shape w x a.ran)
                ∙ (ap (λ (s : SeatState). has_nothing w.shape s) a.state ∙ (ap (λ (y : View). has_nothing y.shape y.state) t.1 ∙ c.go_out.ensures.seat.1.rest));
          };
      phase = a.stopped.phase;
      alone = a.stopped.alone;
      seen = a.stopped.seen;
      unhelping = ap (λ (s : SeatState). s.helping) a.state ∙ (ap (λ (y : View). y.state.helping) t.1 ∙ (bare-parts v.state c.go_out.ensures.seat.1.bare).2);
      left = mutators-left a.stopped.phase a.stopped.left;
      raised =
          ap (some_event raises_flag) (ran-events u v x o.ran later)
          ∙ some-right raises_flag (events u v) (events v x) (ap (some_event raises_flag) (ran-events v w x c.raise.ensures.ran a.ran) ∙ some-left raises_flag (events v w) (events w x) raised);
    }

pub returns-in-Yours-clause-position : goal.returns-in-Yours-clause-position
returns-in-Yours-clause-position g c =
    let w : View = view_of c.raise.new.seat in
    let x : View = view_of c.await_stopped.new.seat in
    let a = c.await_stopped.ensures in
    ap (λ s. s.position) (watches-own w x a.ran a.only) ∙ (ap (λ (y : View). y.own.position) c.raise.ensures.step.1 ∙ c.go_out.ensures.position)

pub returns-in-Theirs-clause-tries : goal.returns-in-Theirs-clause-tries
returns-in-Theirs-clause-tries g c =
    let u : View = view_of c.args.seat.now in
    let v : View = view_of c.go_out.new.seat in
    let w : View = view_of c.raise.new.seat in
    let x : View = view_of c.go_in.new.seat in
    let o = c.go_out.ensures.out in
    let t = c.raise.ensures.step in
    let e = c.go_in.ensures.entered in
    let later = ran-join v w x c.raise.ensures.ran e.out.ran in
    let only = ran-only tries_stopping u v x o.ran later (only-more stays_calm tries_stopping calm-tries u v o.only)
    (ran-only tries_stopping v w x c.raise.ensures.ran e.out.ran (raised-only v w t.0 t.1) (only-more stays_calm tries_stopping calm-tries w x e.out.only)) in
    tries u x (ran-join u v x o.ran later) only e.cache

pub await_stopped-requires-clause-raised : goal.await_stopped-requires-clause-raised
await_stopped-requires-clause-raised g c = let t = c.in-Yours.ensures.step in (ap (λ (x : View). x.state.raised) t.1 ∙ ap not (yours-free (has_flag t.0) t.3), c.raise.ensures.unmoved)

pub returns-in-Yours-clause-raises : goal.returns-in-Yours-clause-raises
returns-in-Yours-clause-raises g c =
    let u : View = view_of c.args.seat.now in
    let v : View = view_of c.go_out.new.seat in
    let w : View = view_of c.raise.new.seat in
    let x : View = view_of c.await_stopped.new.seat in
    let o = c.go_out.ensures.out in
    let t = c.in-Yours.ensures.step in
    let a = c.await_stopped.ensures in
    count-calls u v x 0 1 o.ran (ran-join v w x c.raise.ensures.ran a.ran) (calm-count (events u v) o.calm) (raised-once v w x t.0 c.raise.ensures.ran a.ran t.1 a.only t.3)

pub returns-in-Theirs-clause-raises : goal.returns-in-Theirs-clause-raises
returns-in-Theirs-clause-raises g c =
    let u : View = view_of c.args.seat.now in
    let v : View = view_of c.go_out.new.seat in
    let w : View = view_of c.raise.new.seat in
    let x : View = view_of c.go_in.new.seat in
    let o = c.go_out.ensures.out in
    let t = c.in-Theirs.ensures.step in
    let e = c.go_in.ensures.entered in
    count-calls u v x 0 0 o.ran (ran-join v w x c.raise.ensures.ran e.out.ran) (calm-count (events u v) o.calm)
    (count-calls v w x 0 0 c.raise.ensures.ran e.out.ran (raised-never v w t.0 t.1 t.3) (calm-count (events w x) e.out.calm))

pub returns-in-Yours-clause-numbers : goal.returns-in-Yours-clause-numbers
returns-in-Yours-clause-numbers g c =
    let u : View = view_of c.args.seat.now in
    let v : View = view_of c.go_out.new.seat in
    let w : View = view_of c.raise.new.seat in
    let x : View = view_of c.await_stopped.new.seat in
    let o = c.go_out.ensures in
    let t = c.raise.ensures.step in
    let a = c.await_stopped.ensures in
    ran-only leaves_numbers u v x o.out.ran (ran-join v w x c.raise.ensures.ran a.ran) o.numbers
    (ran-only leaves_numbers v w x c.raise.ensures.ran a.ran (only-after leaves_numbers v w RaiseStep t.0 refl t.1) (only-more watches leaves_numbers watches-leave w x a.only))

pub returns-in-Theirs-clause-numbers : goal.returns-in-Theirs-clause-numbers
returns-in-Theirs-clause-numbers g c =
    let u : View = view_of c.args.seat.now in
    let v : View = view_of c.go_out.new.seat in
    let w : View = view_of c.raise.new.seat in
    let x : View = view_of c.go_in.new.seat in
    let o = c.go_out.ensures in
    let t = c.raise.ensures.step in
    let e = c.go_in.ensures in
    ran-only leaves_numbers u v x o.out.ran (ran-join v w x c.raise.ensures.ran e.entered.out.ran) o.numbers
    (ran-only leaves_numbers v w x c.raise.ensures.ran e.entered.out.ran (only-after leaves_numbers v w RaiseStep t.0 refl t.1) e.numbers)

-- a seat that waits for the world to stop neither raises the flag nor resumes the world

watches-calm : (step : Step) (n : ℕ) → watches step ≡ true → raises_flag step n ≡ false
watches-calm Observe n e = refl
watches-calm ReadPhase n e = refl
watches-calm step n e = absurd (false≢true e)

watches-unresumed : (step : Step) (n : ℕ) → watches step ≡ true → resumes step n ≡ false
watches-unresumed Observe n e = refl
watches-unresumed ReadPhase n e = refl
watches-unresumed step n e = absurd (false≢true e)

-- the seat left, tried to raise the flag, and raised it no more
raised-outside : (u v w x : View) (n : ℕ) → Ran u v → Ran v w → Ran w x → some_event raises_flag (events u v) ≡ false → never comes_in (events u v) ≡ true → w ≡ after RaiseStep n v → some_event raises_flag (events w x) ≡ false → each_after (never comes_in) raises_flag [] (events u x) ≡ true
raised-outside u v w x n r q p a i e b =
    ap (each_after (never comes_in) raises_flag []) (ran-events u v x r (ran-join v w x q p) ∙ ap (λ es. events u v ++ es) (ran-events v w x q p ∙ ap (λ es. es ++ events w x) (events-after v w RaiseStep n e)))
    ∙ after-join (never comes_in) raises_flag [] (events u v) (event RaiseStep n ∷ events w x) (after-none (never comes_in) raises_flag [] (events u v) a)
    (and_from _ _ (or_right (not (raises_flag RaiseStep n)) _ i) (after-none (never comes_in) raises_flag (events u v ++ event RaiseStep n ∷ []) (events w x) b))

still-stopped : (u v w x : View) (n : ℕ) → Ran u v → Ran v w → Ran w x → some_event resumes (events u v) ≡ false → w ≡ after RaiseStep n v → some_event resumes (events w x) ≡ false → never resumes (events u x) ≡ true
still-stopped u v w x n r q p a e b =
    ap (never resumes) (ran-events u v x r (ran-join v w x q p))
    ∙ ap not
    (some-none resumes (events u v) (events v x) a
    (ap (some_event resumes) (ran-events v w x q p) ∙ some-none resumes (events v w) (events w x) (ap (some_event resumes) (events-after v w RaiseStep n e)) b))

pub returns-in-Yours-clause-outside : goal.returns-in-Yours-clause-outside
returns-in-Yours-clause-outside g c =
    let u : View = view_of c.args.seat.now in
    let w : View = view_of c.raise.new.seat in
    let x : View = view_of c.await_stopped.new.seat in
    let o = c.go_out.ensures in
    let t = c.raise.ensures.step in
    let a = c.await_stopped.ensures in
    raised-outside u (view_of c.go_out.new.seat) w x t.0 o.out.ran c.raise.ensures.ran a.ran (ap (some_event raises_flag) o.left.1) (ap (never comes_in) o.left.1) t.1 (none-of-steps watches raises_flag watches-calm (events w x) a.only)

pub returns-in-Theirs-clause-outside : goal.returns-in-Theirs-clause-outside
returns-in-Theirs-clause-outside g c =
    let u : View = view_of c.args.seat.now in
    let o = c.go_out.ensures in
    let t = c.raise.ensures.step in
    let e = c.go_in.ensures.entered.out in
    raised-outside u (view_of c.go_out.new.seat) (view_of c.raise.new.seat) (view_of c.go_in.new.seat) t.0 o.out.ran c.raise.ensures.ran e.ran (ap (some_event raises_flag) o.left.1) (ap (never comes_in) o.left.1) t.1 (not-true _ e.calm)

pub returns-in-Yours-clause-unresumed : goal.returns-in-Yours-clause-unresumed
returns-in-Yours-clause-unresumed g c =
    let u : View = view_of c.args.seat.now in
    let w : View = view_of c.raise.new.seat in
    let x : View = view_of c.await_stopped.new.seat in
    let o = c.go_out.ensures in
    let t = c.raise.ensures.step in
    let a = c.await_stopped.ensures in
    still-stopped u (view_of c.go_out.new.seat) w x t.0 o.out.ran c.raise.ensures.ran a.ran (ap (some_event resumes) o.left.1) t.1 (none-of-steps watches resumes watches-unresumed (events w x) a.only)

pub returns-in-Theirs-clause-unresumed : goal.returns-in-Theirs-clause-unresumed
returns-in-Theirs-clause-unresumed g c =
    let u : View = view_of c.args.seat.now in
    let o = c.go_out.ensures in
    let t = c.raise.ensures.step in
    let e = c.go_in.ensures in
    still-stopped u (view_of c.go_out.new.seat) (view_of c.raise.new.seat) (view_of c.go_in.new.seat) t.0 o.out.ran c.raise.ensures.ran e.entered.out.ran (ap (some_event resumes) o.left.1) t.1 (not-true _ e.unresumed)

-- it left and tried to raise the flag before all that it popped and cleared
left-works : (u v w x : View) (done left n : ℕ) → Ran u v → Ran v w → Ran w x → events u v ≡ event (StorePosition done) done ∷ event LeaveStep left ∷ [] → w ≡ after RaiseStep n v → each_after is_in_stop pops_or_clears (event (StorePosition done) done ∷ event LeaveStep left ∷ event RaiseStep n ∷ []) (events w x) ≡ true → works_in_stops (events u x) ≡ true
left-works u v w x done left n r q p e is h =
    ap works_in_stops (ran-events u v x r (ran-join v w x q p) ∙ ((λ i. e i ++ ran-events v w x q p i) ∙ ap (λ es. event (StorePosition done) done ∷ event LeaveStep left ∷ es) (ap (λ es. es ++ events w x) (events-after v w RaiseStep n is)))) ∙ h

watches-unworked : (step : Step) (n : ℕ) → watches step ≡ true → pops_or_clears step n ≡ false
watches-unworked Observe n e = refl
watches-unworked ReadPhase n e = refl
watches-unworked step n e = absurd (false≢true e)

pub returns-in-Yours-clause-pops : goal.returns-in-Yours-clause-pops
returns-in-Yours-clause-pops g c =
    let u : View = view_of c.args.seat.now in
    let w : View = view_of c.raise.new.seat in
    let x : View = view_of c.await_stopped.new.seat in
    let o = c.go_out.ensures in
    let t = c.raise.ensures.step in
    let a = c.await_stopped.ensures in
    left-works u (view_of c.go_out.new.seat) w x c.args.done o.left.0 t.0 o.out.ran c.raise.ensures.ran a.ran o.left.1 t.1 (after-none is_in_stop pops_or_clears _ (events w x) (none-of-steps watches pops_or_clears watches-unworked (events w x) a.only))

pub returns-in-Theirs-clause-pops : goal.returns-in-Theirs-clause-pops
returns-in-Theirs-clause-pops g c =
    let u : View = view_of c.args.seat.now in
    let o = c.go_out.ensures in
    let t = c.raise.ensures.step in
    let e = c.go_in.ensures in
    left-works u (view_of c.go_out.new.seat) (view_of c.raise.new.seat) (view_of c.go_in.new.seat) c.args.done o.left.0 t.0 o.out.ran c.raise.ensures.ran e.entered.out.ran o.left.1 t.1
    (e.away (event (StorePosition c.args.done) c.args.done ∷ event LeaveStep o.left.0 ∷ event RaiseStep t.0 ∷ []) refl)

pub returns-in-Yours-clause-asks : goal.returns-in-Yours-clause-asks
returns-in-Yours-clause-asks g c =
    let o = c.go_out.ensures in
    let t = c.raise.ensures.step in
    let a = c.await_stopped.ensures in
    record {
      asking = view_of c.go_out.new.seat;
      asked = view_of c.raise.new.seat;
      leaves = (o.out.ran, ap (all_steps spares_blocks) o.left.1);
      asks = (t.0, (t.1, t.2));
      waits = (a.ran, spares-watching (view_of c.raise.new.seat) (view_of c.await_stopped.new.seat) a.only);
    }

pub returns-in-Theirs-clause-asks : goal.returns-in-Theirs-clause-asks
returns-in-Theirs-clause-asks g c =
    let o = c.go_out.ensures in
    let t = c.raise.ensures.step in
    let e = c.go_in.ensures in
    record {
      asking = view_of c.go_out.new.seat;
      asked = view_of c.raise.new.seat;
      leaves = (o.out.ran, ap (all_steps spares_blocks) o.left.1);
      asks = (t.0, (t.1, t.2));
      waits = (e.entered.out.ran, spares-calm (view_of c.raise.new.seat) (view_of c.go_in.new.seat) e.entered.out.only e.unresumed);
    }
