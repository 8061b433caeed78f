use Rattle.std.proofs.Common.{ℕ, ◌≡◌, ◌<◌, ◌+◌, ◌*◌, ◌∙◌, arith, refl, sym, subst}
use Rattle.mark_core.specs.Layout.{block_count}
use Rattle.mark_core.specs.declared.kinds.Phase.TheVariants.{Clear}
use Rattle.mark_core.specs.declared.kinds.Shape.{Shape}
use Rattle.gc_table.specs.Seats.{Across, did, view_of}
use Rattle.gc_table.specs.declared.seat.Heap.{Heap}
use Rattle.gc_table.specs.declared.view.View.{View}
use Rattle.packet_pools.specs.Counts.{count_of}
use Rattle.gc_cycle.specs.Sorts.{draws_block}
use Rattle.gc_cycle.proofs.Stops.Admitted.{count-run}
use Rattle.gc_cycle.specs.Pieces.{stretches_in}
use Rattle.gc_cycle.proofs.Changes.{part-unpopped}
use Rattle.mutator_ops.specs.Few.{AtMost}
use Rattle.mutator_ops.proofs.Few.{at-most-join}
use Rattle.seat_steps.specs.Amounts.{PassesFew}
use Rattle.seat_steps.specs.Bounds.{clearing_steps}
use Rattle.seat_steps.specs.Steps.{draws_for, shape_of}
use Rattle.seat_steps.specs.declared.stepper.Stage.TheVariants as stages
use Rattle.seat_steps.proofs.Amounts.{all-told, pops-join, unpopped, fewer-of, sees-first}
use Rattle.seat_steps.proofs.Sparing.{Kept, course-kept, goes-on, keeps-rest, kept-join, part-kept, sits-in}
use Rattle.seat_steps.proofs.SinceAsked.{clears-on, marks-again}
use Rattle.seat_steps.proofs.Stages.{bounded-on, step-on}
use Rattle.seat_steps.proofs.stepper.Stepper.clear.Goals as goal
use Rattle.seat_steps.proofs.stepper.Stepper.clear.Goals.{After-clear_step}

kept : (c : After-clear_step) → Kept c.args.self.now.seat c.clear_step.new.seat
kept c = let e = c.clear_step.ensures in part-kept Clear c.args.self.now.seat c.clear_step.new.seat e.part e.keeps

draws : (c : After-clear_step) → c.stretches_of-draws.result ≡ draws_for c.args.most c.args.self.now
draws c = subst (λ (h : Heap). c.stretches_of-draws.result ≡ stretches_in h.shape c.args.most) c.deref.ensures c.stretches_of-draws.ensures

drawn : (c : After-clear_step) → count_of (draws_block (block_count (shape_of c.args.self.now))) (did c.args.self.now.seat c.clear_step.new.seat) ≡ c.clear_step.result
drawn c = subst (λ (h : Heap). count_of (draws_block (block_count h.shape)) (did c.args.self.now.seat c.clear_step.new.seat) ≡ c.clear_step.result) c.deref-2.ensures c.clear_step.ensures.stretches.1

few : (c : After-clear_step) → Across (PassesFew (clearing_steps (draws_for c.args.most c.args.self.now) c.args.self.now)) c.args.self.now.seat c.clear_step.new.seat
few c =
    let x = c.args.self.now in
    let u : View = view_of x.seat in
    let v : View = view_of c.clear_step.new.seat in
    let e = c.clear_step.ensures in
    let steps = subst (λ (h : Heap). AtMost (c.stretches_of-draws.result * (2 + h.shape.stretch)) u v) c.deref-2.ensures e.few in
    (unpopped u v (part-unpopped Clear refl u v e.part), subst (λ (k : ℕ). AtMost (k * (2 + (shape_of x).stretch)) u v) (draws c) steps)

pub clear_step-requires : goal.clear_step-requires
clear_step-requires c = let x = c.args.self.now in let s = x.clearing c.requires.clearing in record { seat = sits-in _ _ x.seat c.deref-2.ensures s.sits; clears = s.stands }

pub returns-then-clear_step-draws : goal.returns-then-clear_step-draws
returns-then-clear_step-draws c =
    let x = c.args.self.now in
    let here = (goal.at.returns-then-clear_step-draws c).After-clear_step in
    let all = drawn here ∙ (c.if-clear_step-draws.true ∙ draws here) in
    record {
      collects = λ precise. step-on precise c.args.most x _ stages.Clearing stages.Clearing c.requires.clearing c.requires.clearing (refl, refl) (all, c.clear_step.ensures.part, ((refl, refl), refl, refl), (refl, refl, refl)) (keeps-rest x _ (kept here) refl refl);
      bounded = bounded-on c.args.most x _ stages.Clearing stages.Clearing c.requires.clearing c.requires.clearing (omega (arith, all), few here);
    }

pub invariant_of-self-clause-clearing : goal.invariant_of-self-clause-clearing
invariant_of-self-clause-clearing c = λ is.
    let x = c.args.self.now in
    let s = x.clearing c.requires.clearing in
    let e = c.clear_step.ensures in
    goes-on _ _ x.seat c.clear_step.new.seat c.deref-2.ensures s.mutator (kept (goal.at.invariant_of-self-clause-clearing c).After-clear_step) e.seat e.clears (clears-on (view_of x.seat) (view_of c.clear_step.new.seat) e.part s.since)

pub finish_clear-requires-clause-cleared : goal.finish_clear-requires-clause-cleared
finish_clear-requires-clause-cleared c = c.clear_step.ensures.cleared c.if-clear_step-draws.false

pub returns-clause-collects : goal.returns-clause-collects
returns-clause-collects c =
    let x = c.args.self.now in
    let y = c.clear_step.new.seat in
    let z = c.finish_clear.new.seat in
    let here = (goal.at.returns-clause-collects c).After-clear_step in
    let e = c.clear_step.ensures in
    let b = c.finish_clear.ensures in
    let fewer = fewer-of _ c.clear_step.result c.stretches_of-draws.result (draws_for c.args.most x) (drawn here) e.stretches.0 c.if-clear_step-draws.false (draws here) in
    λ precise. step-on precise c.args.most x _ stages.Clearing stages.Rooting c.requires.clearing refl (refl, refl) (
      record {
        cleared = view_of y;
        part = e.part;
        stretches = subst (λ (sh : Shape). count_of (draws_block (block_count sh)) (did x.seat y) < draws_for c.args.most x) (sym (x.clearing c.requires.clearing).sits.1) fewer;
        course = b.course;
      },
      refl,
      refl,
      (refl, refl),
      (refl, refl, refl),
      refl,
    )
    (keeps-rest x _ (kept-join x.seat y z (kept here) (course-kept y z b.ran b.course.only b.keeps)) refl refl)

pub returns-clause-bounded : goal.returns-clause-bounded
returns-clause-bounded c =
    let x = c.args.self.now in
    let u = view_of x.seat in
    let v = view_of c.clear_step.new.seat in
    let w = view_of c.finish_clear.new.seat in
    let here = (goal.at.returns-clause-bounded c).After-clear_step in
    let e = c.clear_step.ensures in
    let b = c.finish_clear.ensures in
    let all = count-run (draws_block (block_count (shape_of x))) u v w e.part.ran b.ran in
    let first = drawn here in
    let bound = e.stretches.0 in
    let none = all-told (block_count (shape_of x)) 3 _ _ v w b.course b.few (omega arith) in
    let short = few here in
    let told = draws here in
    bounded-on c.args.most x _ stages.Clearing stages.Rooting c.requires.clearing refl (
      omega (arith, all, first, bound, none, told),
      (pops-join u v w e.part.ran b.ran short.0 (unpopped v w b.course.unpopped), at-most-join (clearing_steps (draws_for c.args.most x) x) 3 u v w e.part.ran b.ran short.1 b.few),
    )

pub invariant_of-self-2-clause-rooting : goal.invariant_of-self-2-clause-rooting
invariant_of-self-2-clause-rooting c = λ is.
    let x = c.args.self.now in
    let y = c.clear_step.new.seat in
    let z = c.finish_clear.new.seat in
    let s = x.clearing c.requires.clearing in
    let e = c.clear_step.ensures in
    let b = c.finish_clear.ensures in
    goes-on _ _ x.seat z c.deref-3.ensures s.mutator (kept-join x.seat y z (kept (goal.at.invariant_of-self-2-clause-rooting c).After-clear_step) (course-kept y z b.ran b.course.only b.keeps)) b.seat (sees-first (view_of z) b.roots)
    (marks-again x.exact _ (view_of y) (view_of z) b.course b.exact (clears-on (view_of x.seat) (view_of y) e.part s.since))
