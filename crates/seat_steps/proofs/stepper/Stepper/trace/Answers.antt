use Rattle.std.proofs.Common.{◌≡◌, ◌<◌, ◌+◌, arith, refl, subst}
use Rattle.std.specs.Prelude.{min}
use Rattle.std.specs.Arc.{arc_value}
use Rattle.mark_core.specs.declared.kinds.Phase.TheVariants.{Drain}
use Rattle.gc_table.specs.Seats.{Across, did, view_of}
use Rattle.gc_table.specs.declared.seat.Heap.{Heap}
use Rattle.gc_table.specs.declared.view.View.{View}
use Rattle.packet_pools.specs.Counts.{count_of}
use Rattle.tracer.specs.StepBounds.{recycle_steps, trace_steps}
use Rattle.mutator_ops.specs.Few.{AtMost}
use Rattle.mutator_ops.proofs.Few.{at-most-more}
use Rattle.gc_cycle.specs.Finishing.{most as greatest}
use Rattle.gc_cycle.specs.Sorts.{pops}
use Rattle.seat_steps.specs.Amounts.{DrawsNone}
use Rattle.seat_steps.specs.Asked.{MarksSinceAsked}
use Rattle.seat_steps.specs.Bounds.{tracing_steps}
use Rattle.seat_steps.specs.Collecting.{Collects}
use Rattle.seat_steps.specs.Passes.{TracesFor}
use Rattle.seat_steps.specs.declared.stepper.Stage.TheVariants as stages
use Rattle.seat_steps.proofs.Sparing.{Kept, goes-on, keeps-rest, part-kept, sits-in}
use Rattle.seat_steps.proofs.Amounts.{drain-draws-none, traced-more}
use Rattle.seat_steps.proofs.SinceAsked.{marks-on}
use Rattle.seat_steps.proofs.Stages.{bounded-on, step-on}
use Rattle.seat_steps.proofs.stepper.Stepper.trace.Goals as goal
use Rattle.seat_steps.proofs.stepper.Stepper.trace.Goals.{After-trace_step-popped}

kept : (c : After-trace_step-popped) → Kept c.args.self.now.seat c.trace_step-popped.new.seat
kept c = let e = c.trace_step-popped.ensures in part-kept Drain c.args.self.now.seat c.trace_step-popped.new.seat e.part e.keeps

traces : (c : After-trace_step-popped) → Across (TracesFor c.args.most) c.args.self.now.seat c.trace_step-popped.new.seat
traces c = let e = c.trace_step-popped.ensures in let few = e.popped in record { part = e.part; brings = e.brings; worked = e.worked; at_most = omega (arith, few) }

undrawn : (c : After-trace_step-popped) → Across DrawsNone c.args.self.now.seat c.trace_step-popped.new.seat
undrawn c =
    let x = c.args.self.now in
    let r = (x.draining c.requires.draining).stands in
    drain-draws-none (view_of x.seat) (view_of c.trace_step-popped.new.seat) c.trace_step-popped.ensures.part r.owner r.drain

few : (c : After-trace_step-popped) → Across (AtMost (tracing_steps c.args.most c.args.self.now)) c.args.self.now.seat c.trace_step-popped.new.seat
few c =
    let u : View = view_of c.args.self.now.seat in
    let v : View = view_of c.trace_step-popped.new.seat in
    let e = c.trace_step-popped.ensures in
    subst (λ (h : Heap). AtMost (recycle_steps h.shape + trace_steps c.args.most h.shape) u v) c.deref.ensures
    (at-most-more _ _ u v (traced-more c.trace_step-popped.result c.args.most c.deref.result.now.shape e.popped.0) e.few)

on : (c : After-trace_step-popped) (Stands : View → Type 0) → Stands (view_of c.trace_step-popped.new.seat) → Collects Stands (MarksSinceAsked c.args.self.now.exact c.args.self.now.again) (arc_value c.args.self.now.heap) c.trace_step-popped.new.seat
on c Stands stands =
    let x = c.args.self.now in
    let s = x.draining c.requires.draining in
    let e = c.trace_step-popped.ensures in
    goes-on _ _ x.seat c.trace_step-popped.new.seat c.deref.ensures s.mutator (kept c) e.seat stands (marks-on x.exact x.again (view_of x.seat) (view_of c.trace_step-popped.new.seat) e.part.ran e.part.only e.exact s.since)

pub trace_step-popped-requires : goal.trace_step-popped-requires
trace_step-popped-requires c = let x = c.args.self.now in let s = x.draining c.requires.draining in record { seat = sits-in _ _ x.seat c.deref.ensures s.sits; drains = s.stands }

pub returns-then-popped-most-clause-collects : goal.returns-then-popped-most-clause-collects
returns-then-popped-most-clause-collects c =
    let x = c.args.self.now in
    let here = (goal.at.returns-then-popped-most-clause-collects c).After-trace_step-popped in
    let e = c.trace_step-popped.ensures in
    let bound = e.popped.0 in
    let count = e.popped.1 in
    let other = c.if-popped-most.true in
    let fewer : count_of pops (did x.seat c.trace_step-popped.new.seat) < c.args.most = omega (arith, bound, count, other) in
    let sum = c.saturating_add-self.ensures in
    let traced : c.saturating_add-self.result ≡ min (x.traced + count_of pops (did x.seat c.trace_step-popped.new.seat)) greatest = omega (arith, sum, count) in
    λ precise. step-on precise c.args.most x _ stages.Draining stages.Looking c.requires.draining refl (refl, refl) (fewer, traces here, refl, ((refl, refl), refl, refl), (traced, refl, refl)) (keeps-rest x _ (kept here) refl refl)

pub returns-then-popped-most-clause-bounded : goal.returns-then-popped-most-clause-bounded
returns-then-popped-most-clause-bounded c =
    let here = (goal.at.returns-then-popped-most-clause-bounded c).After-trace_step-popped in
    let popped = c.trace_step-popped.ensures.popped in
    bounded-on c.args.most c.args.self.now _ stages.Draining stages.Looking c.requires.draining refl (omega (arith, popped), undrawn here, few here)

pub invariant_of-self-clause-looking : goal.invariant_of-self-clause-looking
invariant_of-self-clause-looking c = λ is.
    on (goal.at.invariant_of-self-clause-looking c).After-trace_step-popped _ (record { drains = c.trace_step-popped.ensures.drains; below = λ card low high. absurd (omega (arith, high)) })

pub returns-else-popped-most-clause-collects : goal.returns-else-popped-most-clause-collects
returns-else-popped-most-clause-collects c =
    let x = c.args.self.now in
    let here = (goal.at.returns-else-popped-most-clause-collects c).After-trace_step-popped in
    let count = c.trace_step-popped.ensures.popped.1 in
    let all = c.if-popped-most.false in
    let popped : count_of pops (did x.seat c.trace_step-popped.new.seat) ≡ c.args.most = omega (arith, count, all) in
    let sum = c.saturating_add-self.ensures in
    let traced : c.saturating_add-self.result ≡ min (x.traced + count_of pops (did x.seat c.trace_step-popped.new.seat)) greatest = omega (arith, sum, count) in
    λ precise. step-on precise c.args.most x _ stages.Draining stages.Draining c.requires.draining c.requires.draining (refl, refl) (popped, traces here, ((refl, refl), refl, refl), (traced, refl, refl)) (keeps-rest x _ (kept here) refl refl)

pub returns-else-popped-most-clause-bounded : goal.returns-else-popped-most-clause-bounded
returns-else-popped-most-clause-bounded c =
    let here = (goal.at.returns-else-popped-most-clause-bounded c).After-trace_step-popped in
    let popped = c.trace_step-popped.ensures.popped in
    bounded-on c.args.most c.args.self.now _ stages.Draining stages.Draining c.requires.draining c.requires.draining (omega (arith, popped), undrawn here, few here)

pub invariant_of-self-else-popped-most-clause-draining : goal.invariant_of-self-else-popped-most-clause-draining
invariant_of-self-else-popped-most-clause-draining c = λ is. on (goal.at.invariant_of-self-else-popped-most-clause-draining c).After-trace_step-popped _ c.trace_step-popped.ensures.drains
