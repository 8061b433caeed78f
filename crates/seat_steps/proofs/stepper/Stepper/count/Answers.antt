use Rattle.std.proofs.Common.{ℕ, ◌≡◌, ◌+◌, ◌-◌, ap, arith, refl, subst}
use Rattle.std.specs.Prelude.{min}
use Rattle.std.specs.Arc.{arc_value}
use Rattle.mark_core.specs.Layout.{block_count}
use Rattle.mark_core.specs.declared.kinds.Phase.TheVariants.{Idle}
use Rattle.gc_table.specs.Log.{steps_of}
use Rattle.gc_table.specs.Seats.{Across, did, view_of}
use Rattle.gc_table.specs.declared.seat.Heap.{Heap}
use Rattle.gc_table.specs.declared.view.View.{View}
use Rattle.gc_cycle.specs.Settling.{alloc_reads}
use Rattle.seat_steps.specs.Amounts.{DoesFew}
use Rattle.seat_steps.specs.Asked.{CountsSinceAsked}
use Rattle.seat_steps.specs.Collecting.{Collects}
use Rattle.seat_steps.specs.Steps.{blocks_left}
use Rattle.seat_steps.specs.declared.stepper.Stage.TheVariants as stages
use Rattle.seat_steps.proofs.Sparing.{Kept, goes-on, keeps-rest, part-kept, sits-in}
use Rattle.seat_steps.proofs.Amounts.{all-left, as-many, blocks-small, count-few}
use Rattle.seat_steps.proofs.SinceAsked.{counts-on}
use Rattle.seat_steps.proofs.Stages.{bounded-on, step-on}
use Rattle.seat_steps.proofs.stepper.Stepper.count.Goals as goal
use Rattle.seat_steps.proofs.stepper.Stepper.count.Goals.{After-count_step-step}

kept : (c : After-count_step-step) → Kept c.args.self.now.seat c.count_step-step.new.seat
kept c = let e = c.count_step-step.ensures in part-kept Idle c.args.self.now.seat c.count_step-step.new.seat e.part e.keeps

few : (c : After-count_step-step) → Across (DoesFew c.args.most) c.args.self.now.seat c.count_step-step.new.seat
few c =
    let x = c.args.self.now in
    let e = c.count_step-step.ensures in
    count-few c.args.most x.next x.counted (view_of x.seat) (view_of c.count_step-step.new.seat) e.part (x.counting c.requires.counting).stands e.few

on : (c : After-count_step-step) (Stands : View → Type 0) → Stands (view_of c.count_step-step.new.seat) → Collects Stands (CountsSinceAsked c.args.self.now.exact) (arc_value c.args.self.now.heap) c.count_step-step.new.seat
on c Stands stands =
    let x = c.args.self.now in
    let s = x.counting c.requires.counting in
    let e = c.count_step-step.ensures in
    goes-on _ _ x.seat c.count_step-step.new.seat c.deref.ensures s.mutator (kept c) e.seat stands (counts-on x.exact (view_of x.seat) (view_of c.count_step-step.new.seat) e.part e.collects s.since)

pub count_step-step-requires : goal.count_step-step-requires
count_step-step-requires c = let x = c.args.self.now in let s = x.counting c.requires.counting in record { seat = sits-in _ _ x.seat c.deref.ensures s.sits; counts = s.stands }

pub returns-then-step-most-clause-collects : goal.returns-then-step-most-clause-collects
returns-then-step-most-clause-collects c =
    let x = c.args.self.now in
    let e = c.count_step-step.ensures in
    let n : ℕ = c.count_step-step.result.blocks in
    let is = c.if-step-most.true in
    let count : n ≡ min c.args.most (blocks_left x) = subst (λ (h : Heap). n ≡ min c.args.most (block_count h.shape - x.next)) c.deref.ensures e.blocks in
    λ precise. step-on precise c.args.most x _ stages.Counting stages.Counting c.requires.counting c.requires.counting refl
    (as-many n c.args.most (blocks_left x) count is, subst (λ k. steps_of (did x.seat c.count_step-step.new.seat) ≡ alloc_reads x.next k) is e.reads, ap (λ k. x.next + k) is, refl, ((refl, refl), refl, refl), (refl, refl, refl))
    (keeps-rest x _ (kept (goal.at.returns-then-step-most-clause-collects c).After-count_step-step) refl refl)

pub returns-then-step-most-clause-bounded : goal.returns-then-step-most-clause-bounded
returns-then-step-most-clause-bounded c =
    bounded-on c.args.most c.args.self.now _ stages.Counting stages.Counting c.requires.counting c.requires.counting (few (goal.at.returns-then-step-most-clause-bounded c).After-count_step-step)

pub invariant_of-self-clause-counting : goal.invariant_of-self-clause-counting
invariant_of-self-clause-counting c = λ is. on (goal.at.invariant_of-self-clause-counting c).After-count_step-step _ c.count_step-step.ensures.counts

pub returns-clause-collects : goal.returns-clause-collects
returns-clause-collects c =
    let x = c.args.self.now in
    let e = c.count_step-step.ensures in
    let n : ℕ = c.count_step-step.result.blocks in
    let count : n ≡ min c.args.most (blocks_left x) = subst (λ (h : Heap). n ≡ min c.args.most (block_count h.shape - x.next)) c.deref.ensures e.blocks in
    let all = all-left n c.args.most (blocks_left x) count c.if-step-most.false in
    λ precise. step-on precise c.args.most x _ stages.Counting stages.Ending c.requires.counting refl refl
    (all.0, subst (λ k. steps_of (did x.seat c.count_step-step.new.seat) ≡ alloc_reads x.next k) all.1 e.reads, refl, ((refl, refl), refl, refl), (refl, refl, refl))
    (keeps-rest x _ (kept (goal.at.returns-clause-collects c).After-count_step-step) refl refl)

pub returns-clause-bounded : goal.returns-clause-bounded
returns-clause-bounded c = bounded-on c.args.most c.args.self.now _ stages.Counting stages.Ending c.requires.counting refl (few (goal.at.returns-clause-bounded c).After-count_step-step)

pub invariant_of-self-2-clause-ending : goal.invariant_of-self-2-clause-ending
invariant_of-self-2-clause-ending c = λ is. on (goal.at.invariant_of-self-2-clause-ending c).After-count_step-step _ (c.count_step-step.ensures.counted c.if-step-most.false)

pub overflow_add-self : goal.overflow_add-self
overflow_add-self c =
    let small = blocks-small c.deref.result.now.shape c.deref.result.now.shaped in
    let count = c.count_step-step.ensures.blocks in
    omega (arith, small, count)
