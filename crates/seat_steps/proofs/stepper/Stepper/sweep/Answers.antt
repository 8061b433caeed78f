use Rattle.std.proofs.Common.{◌≡◌, ◌<◌, ◌≤◌, ◌+◌, ◌*◌, ℕ, ◌∙◌, ap, arith, not, refl, subst, sym, true, false}
use Rattle.std.proofs.lemmas.Bool.{false≢true}
use Rattle.std.specs.Prelude.{min}
use Rattle.mark_core.specs.Layout.{block_count}
use Rattle.mark_core.specs.declared.kinds.Phase.TheVariants.{Sweep}
use Rattle.mark_core.specs.declared.kinds.Shape.{Shape}
use Rattle.mark_core.specs.declared.kinds.Step.{Step}
use Rattle.mark_core.specs.declared.kinds.Step.TheVariants.{Pop}
use Rattle.gc_table.specs.Log.{events}
use Rattle.gc_table.specs.Seats.{Across, did, view_of}
use Rattle.gc_table.specs.declared.seat.Heap.{Heap}
use Rattle.gc_table.specs.declared.view.View.{View}
use Rattle.gc_table.proofs.Running.{ran-shape}
use Rattle.packet_pools.specs.Counts.{count_of}
use Rattle.sweeper.specs.Freeing.{block_floor, freed_in}
use Rattle.sweeper.proofs.SweptBlocks.{freed-join as freed-run}
use Rattle.gc_cycle.specs.Finishing.{most as greatest, stays_in}
use Rattle.gc_cycle.specs.Sorts.{draws_block, pops}
use Rattle.gc_cycle.proofs.Stops.Admitted.{count-run}
use Rattle.gc_cycle.specs.Pieces.{stretches_in}
use Rattle.gc_cycle.proofs.Sequences.{none-of-steps}
use Rattle.mutator_ops.specs.Few.{AtMost}
use Rattle.mutator_ops.proofs.Few.{at-most-join}
use Rattle.seat_steps.specs.Amounts.{PassesFew}
use Rattle.seat_steps.specs.Asked.{SweepsSinceAsked}
use Rattle.seat_steps.specs.Bounds.{sweeping_steps}
use Rattle.seat_steps.specs.Steps.{draws_for, shape_of}
use Rattle.seat_steps.specs.declared.stepper.Stage.TheVariants as stages
use Rattle.seat_steps.proofs.Amounts.{pops-join, unpopped, fewer-of}
use Rattle.seat_steps.proofs.Gates.{gate-few, gate-frees, gate-kept, gate-stays, shuts}
use Rattle.seat_steps.proofs.Sparing.{Kept, goes-on, keeps-rest, kept-join, sits-in, stays-kept}
use Rattle.seat_steps.proofs.SinceAsked.{sweeps-on}
use Rattle.seat_steps.proofs.Stages.{bounded-on, step-on}
use Rattle.seat_steps.proofs.stepper.Stepper.sweep.Goals as goal
use Rattle.seat_steps.proofs.stepper.Stepper.sweep.Goals.{After-sweep_shared-step}

-- cells are popped only in a drain
popless : (step : Step) (n : ℕ) → stays_in Sweep step ≡ true → pops step n ≡ false
popless (Pop packet) n e = absurd (false≢true e)
popless step n e = refl

kept : (c : After-sweep_shared-step) → Kept c.args.self.now.seat c.sweep_shared-step.new.seat
kept c = let e = c.sweep_shared-step.ensures in stays-kept Sweep c.args.self.now.seat c.sweep_shared-step.new.seat e.part.ran e.part.only e.keeps

sweeps : (c : After-sweep_shared-step) → SweepsSinceAsked c.args.self.now.exact (view_of c.sweep_shared-step.new.seat)
sweeps c = let x = c.args.self.now in let e = c.sweep_shared-step.ensures in sweeps-on x.exact (view_of x.seat) (view_of c.sweep_shared-step.new.seat) e.part.ran e.part.only e.exact (x.sweeping c.requires.sweeping).since

draws : (c : After-sweep_shared-step) → c.stretches_of-draws.result ≡ draws_for c.args.most c.args.self.now
draws c = subst (λ (h : Heap). c.stretches_of-draws.result ≡ stretches_in h.shape c.args.most) c.deref.ensures c.stretches_of-draws.ensures

drawn : (c : After-sweep_shared-step) → count_of (draws_block (block_count (shape_of c.args.self.now))) (did c.args.self.now.seat c.sweep_shared-step.new.seat) ≡ c.sweep_shared-step.result.stretches
drawn c = subst (λ (h : Heap). count_of (draws_block (block_count h.shape)) (did c.args.self.now.seat c.sweep_shared-step.new.seat) ≡ c.sweep_shared-step.result.stretches) c.deref-2.ensures c.sweep_shared-step.ensures.stretches.1

few : (c : After-sweep_shared-step) → Across (PassesFew (sweeping_steps (draws_for c.args.most c.args.self.now) c.args.self.now)) c.args.self.now.seat c.sweep_shared-step.new.seat
few c =
    let x = c.args.self.now in
    let u : View = view_of x.seat in
    let v : View = view_of c.sweep_shared-step.new.seat in
    let e = c.sweep_shared-step.ensures in
    let steps = subst (λ (h : Heap). AtMost (c.stretches_of-draws.result * (2 + 4 * h.shape.stretch)) u v) c.deref-2.ensures e.few in
    (unpopped u v (ap not (none-of-steps (stays_in Sweep) pops popless (events u v) e.part.only)), subst (λ (k : ℕ). AtMost (k * (2 + 4 * (shape_of x).stretch)) u v) (draws c) steps)

pub sweep_shared-step-requires : goal.sweep_shared-step-requires
sweep_shared-step-requires c = let x = c.args.self.now in let s = x.sweeping c.requires.sweeping in record { seat = sits-in _ _ x.seat c.deref-2.ensures s.sits; sweeps = s.stands }

pub returns-then-step-draws-clause-collects : goal.returns-then-step-draws-clause-collects
returns-then-step-draws-clause-collects c =
    let x = c.args.self.now in
    let here = (goal.at.returns-then-step-draws-clause-collects c).After-sweep_shared-step in
    let sum = c.saturating_add-self.ensures in
    let more = c.sweep_shared-step.ensures.freed in
    let freed : c.saturating_add-self.result ≡ min (x.freed + freed_in (view_of x.seat) (did x.seat c.sweep_shared-step.new.seat)) greatest = omega (arith, sum, more) in
    λ precise. step-on precise c.args.most x _ stages.Sweeping stages.Sweeping c.requires.sweeping c.requires.sweeping refl (drawn here ∙ (c.if-step-draws.true ∙ draws here), c.sweep_shared-step.ensures.part, freed, ((refl, refl), refl, refl), (refl, refl, refl)) (keeps-rest x _ (kept here) refl refl)

pub returns-then-step-draws-clause-bounded : goal.returns-then-step-draws-clause-bounded
returns-then-step-draws-clause-bounded c =
    let here = (goal.at.returns-then-step-draws-clause-bounded c).After-sweep_shared-step in
    let count = drawn here in
    let bound = c.sweep_shared-step.ensures.stretches.0 in
    let told = draws here in
    bounded-on c.args.most c.args.self.now _ stages.Sweeping stages.Sweeping c.requires.sweeping c.requires.sweeping (omega (arith, count, bound, told), few here)

pub invariant_of-self-clause-sweeping : goal.invariant_of-self-clause-sweeping
invariant_of-self-clause-sweeping c = λ is.
    let x = c.args.self.now in
    let e = c.sweep_shared-step.ensures in
    let here = (goal.at.invariant_of-self-clause-sweeping c).After-sweep_shared-step in
    goes-on _ _ x.seat c.sweep_shared-step.new.seat c.deref-2.ensures (x.sweeping c.requires.sweeping).mutator (kept here) e.seat e.sweeps (sweeps here)

pub shut_stop-requires-clause-shared : goal.shut_stop-requires-clause-shared
shut_stop-requires-clause-shared c = (Sweep, c.sweep_shared-step.ensures.sweeps)

pub returns-clause-collects : goal.returns-clause-collects
returns-clause-collects c =
    let x = c.args.self.now in
    let z = c.shut_stop.new.seat in
    let u = view_of x.seat in
    let v = view_of c.sweep_shared-step.new.seat in
    let w = view_of z in
    let here = (goal.at.returns-clause-collects c).After-sweep_shared-step in
    let e = c.sweep_shared-step.ensures in
    let h = c.shut_stop.ensures in
    let g = shuts v w h.step in
    let fewer = fewer-of _ c.sweep_shared-step.result.stretches c.stretches_of-draws.result (draws_for c.args.most x) (drawn here) e.stretches.0 c.if-step-draws.false (draws here) in
    let all = count-run (draws_block (block_count (shape_of x))) u v w e.part.ran g.ran in
    let none = (gate-few v w g).0.1 (block_count (shape_of x)) in
    let drawn : count_of (draws_block (block_count (shape_of x))) (did x.seat z) < draws_for c.args.most x = omega (arith, all, none, fewer) in
    let sum = c.saturating_add-self.ensures in
    let more = e.freed in
    let total = freed-run u v w e.part.ran g.ran in
    let unfreed = gate-frees v w g in
    let freed : c.saturating_add-self.result ≡ min (x.freed + freed_in u (did x.seat z)) greatest = omega (arith, sum, more, total, unfreed) in
    λ precise. step-on precise c.args.most x _ stages.Sweeping stages.Parting c.requires.sweeping refl refl (drawn, freed, record { swept = v; part = e.part; shuts = h.step }, ((refl, refl), refl, refl), (refl, refl, refl))
    (keeps-rest x _ (kept-join x.seat c.sweep_shared-step.new.seat z (kept here) (gate-kept Sweep c.sweep_shared-step.new.seat z g h.keeps)) refl refl)

pub returns-clause-bounded : goal.returns-clause-bounded
returns-clause-bounded c =
    let x = c.args.self.now in
    let u = view_of x.seat in
    let v = view_of c.sweep_shared-step.new.seat in
    let w = view_of c.shut_stop.new.seat in
    let here = (goal.at.returns-clause-bounded c).After-sweep_shared-step in
    let e = c.sweep_shared-step.ensures in
    let g = shuts v w c.shut_stop.ensures.step in
    let count = drawn here in
    let bound = e.stretches.0 in
    let told = draws here in
    let all = count-run (draws_block (block_count (shape_of x))) u v w e.part.ran g.ran in
    let last = gate-few v w g in
    let short = few here in
    let none = last.0.1 (block_count (shape_of x)) in
    bounded-on c.args.most x _ stages.Sweeping stages.Parting c.requires.sweeping refl (
      omega (arith, all, none, count, bound, told),
      (pops-join u v w e.part.ran g.ran short.0 last.0.0, at-most-join (sweeping_steps (draws_for c.args.most x) x) 1 u v w e.part.ran g.ran short.1 last.1),
    )

pub invariant_of-self-2-clause-parting : goal.invariant_of-self-2-clause-parting
invariant_of-self-2-clause-parting c = λ is.
    let x = c.args.self.now in
    let y = c.sweep_shared-step.new.seat in
    let z = c.shut_stop.new.seat in
    let here = (goal.at.invariant_of-self-2-clause-parting c).After-sweep_shared-step in
    let e = c.sweep_shared-step.ensures in
    let h = c.shut_stop.ensures in
    let g = shuts (view_of y) (view_of z) h.step in
    let end = h.floor _ (e.swept c.if-step-draws.false) in
    goes-on _ _ x.seat z c.deref-3.ensures (x.sweeping c.requires.sweeping).mutator (kept-join x.seat y z (kept here) (gate-kept Sweep y z g h.keeps)) h.seat
    (record { closing = h.closing Sweep e.sweeps; end = subst (λ (sh : Shape). block_count sh ≤ block_floor (view_of z)) (sym (ran-shape (view_of y) (view_of z) g.ran ∙ e.seat.1)) end })
    (sweeps-on x.exact (view_of y) (view_of z) g.ran (gate-stays Sweep (view_of y) (view_of z) g) h.exact (sweeps here))
