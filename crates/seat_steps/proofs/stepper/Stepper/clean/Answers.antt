use Rattle.std.proofs.Common.{ℕ, ◌≡◌, ◌+◌, ◌-◌, ◌*◌, ap, arith, inl, inr, refl, subst}
use Rattle.std.specs.Prelude.{min}
use Rattle.std.specs.Arc.{arc_value}
use Rattle.mark_core.specs.Layout.{card_count}
use Rattle.mark_core.specs.Cards.{card_cells}
use Rattle.mark_core.specs.declared.kinds.Phase.TheVariants.{Drain}
use Rattle.gc_table.specs.Seats.{Across, did, view_of}
use Rattle.gc_table.specs.declared.seat.Heap.{Heap}
use Rattle.gc_table.specs.declared.view.View.{View}
use Rattle.packet_pools.specs.Counts.{count_of}
use Rattle.tracer.specs.StepBounds.{recycle_steps}
use Rattle.card_clean.specs.Leaving.{rescanned_in}
use Rattle.card_clean.specs.StepBounds.{clean_some_steps}
use Rattle.mutator_ops.specs.Few.{AtMost}
use Rattle.gc_cycle.specs.Finishing.{most as greatest}
use Rattle.gc_cycle.specs.Sorts.{clears}
use Rattle.gc_cycle.proofs.Stops.Admitted.{count-none}
use Rattle.gc_cycle.specs.Pieces.{CleansCards}
use Rattle.seat_steps.specs.Amounts.{DoesFew}
use Rattle.seat_steps.specs.Asked.{MarksSinceAsked}
use Rattle.seat_steps.specs.Bounds.{cleaning_steps}
use Rattle.seat_steps.specs.Collecting.{Collects}
use Rattle.gc_cycle.specs.Stepping.{Drains}
use Rattle.seat_steps.specs.Steps.{cards_left}
use Rattle.seat_steps.specs.declared.stepper.Stage.TheVariants as stages
use Rattle.seat_steps.proofs.Sparing.{Kept, goes-on, keeps-rest, part-kept, sits-in}
use Rattle.seat_steps.proofs.Amounts.{all-left, as-many, cards-small, drain-few, few-of}
use Rattle.seat_steps.proofs.SinceAsked.{marks-on}
use Rattle.seat_steps.proofs.Stages.{bounded-on, step-on}
use Rattle.seat_steps.proofs.stepper.Stepper.clean.Goals as goal
use Rattle.seat_steps.proofs.stepper.Stepper.clean.Goals.{After-clean_step}

kept : (c : After-clean_step) → Kept c.args.self.now.seat c.clean_step.new.seat
kept c = let e = c.clean_step.ensures in part-kept Drain c.args.self.now.seat c.clean_step.new.seat e.part e.keeps

few : (c : After-clean_step) → Across (DoesFew (cleaning_steps c.args.most c.args.self.now)) c.args.self.now.seat c.clean_step.new.seat
few c =
    let x = c.args.self.now in
    let u : View = view_of x.seat in
    let v : View = view_of c.clean_step.new.seat in
    let e = c.clean_step.ensures in
    let r = (x.cleaning c.requires.cleaning).stands in
    drain-few (cleaning_steps c.args.most x) u v e.unpopped e.part r.owner r.drain (subst (λ (h : Heap). AtMost (clean_some_steps c.args.most (card_cells * c.args.most) h.shape + recycle_steps h.shape) u v) c.deref.ensures e.few)

on : (c : After-clean_step) → Collects Drains (MarksSinceAsked c.args.self.now.exact c.args.self.now.again) (arc_value c.args.self.now.heap) c.clean_step.new.seat
on c =
    let x = c.args.self.now in
    let s = x.cleaning c.requires.cleaning in
    let e = c.clean_step.ensures in
    goes-on _ _ x.seat c.clean_step.new.seat c.deref.ensures s.mutator (kept c) e.seat e.drains (marks-on x.exact x.again (view_of x.seat) (view_of c.clean_step.new.seat) e.part.ran e.part.only e.exact s.since)

pub clean_step-requires : goal.clean_step-requires
clean_step-requires c = let x = c.args.self.now in let s = x.cleaning c.requires.cleaning in record { seat = sits-in _ _ x.seat c.deref.ensures s.sits; drains = s.stands }

pub returns-in_default : goal.returns-in_default
returns-in_default c =
    let x = c.args.self.now in
    let here = (goal.at.returns-in_default c).After-clean_step in
    let e = c.in_default.ensures in
    record {
      collects =
          λ precise. step-on precise c.args.most x _ stages.Cleaning stages.Cleaning c.requires.cleaning c.requires.cleaning (refl, refl) (inr (refl, e.lacks, count-none clears (did x.seat c.clean_step.new.seat) e.uncleaned, e.unscanned, (refl, refl, refl)), ((refl, refl), refl, refl))
          (keeps-rest x _ (kept here) refl refl);
      bounded = bounded-on c.args.most x _ stages.Cleaning stages.Cleaning c.requires.cleaning c.requires.cleaning (inr e.lacks, few here);
    }

pub invariant_of-self-clause-cleaning : goal.invariant_of-self-clause-cleaning
invariant_of-self-clause-cleaning c = λ is. on (goal.at.invariant_of-self-clause-cleaning c).After-clean_step

pub returns-then-step-most-clause-collects : goal.returns-then-step-most-clause-collects
returns-then-step-most-clause-collects c =
    let x = c.args.self.now in
    let here = (goal.at.returns-then-step-most-clause-collects c).After-clean_step in
    let e = c.in-Some.ensures in
    let n : ℕ = c.in-Some.step.passed in
    let is = c.if-step-most.true in
    let count : n ≡ min c.args.most (cards_left x) = subst (λ (h : Heap). n ≡ min c.args.most (card_count h.shape - x.next)) c.deref.ensures e.cleaned.0 in
    let sum = c.saturating_add-self.ensures in
    let counts = e.counts.1 in
    let cleaned : c.saturating_add-self.result ≡ min (x.cleaned + count_of clears (did x.seat c.clean_step.new.seat)) greatest = omega (arith, sum, counts) in
    let scanned = c.saturating_add-self-2.ensures in
    let objects = e.rescanned in
    let rescanned : c.saturating_add-self-2.result ≡ min (x.rescanned + rescanned_in (view_of x.seat) (did x.seat c.clean_step.new.seat)) greatest = omega (arith, scanned, objects) in
    λ precise. step-on precise c.args.most x _ stages.Cleaning stages.Cleaning c.requires.cleaning c.requires.cleaning (refl, refl)
    (inl (as-many n c.args.most (cards_left x) count is, ap (λ k. x.next + k) is, subst (λ k. Across (CleansCards x.next k) x.seat c.clean_step.new.seat) is e.cleaned.1, (refl, cleaned, rescanned)), ((refl, refl), refl, refl))
    (keeps-rest x _ (kept here) refl refl)

pub returns-then-step-most-clause-bounded : goal.returns-then-step-most-clause-bounded
returns-then-step-most-clause-bounded c =
    let e = c.in-Some.ensures.cleaned in
    bounded-on c.args.most c.args.self.now _ stages.Cleaning stages.Cleaning c.requires.cleaning c.requires.cleaning (inl (c.in-Some.step.passed, few-of c.in-Some.step.passed c.args.most _ e.0, e.1), few (goal.at.returns-then-step-most-clause-bounded c).After-clean_step)

pub invariant_of-self-then-step-most-clause-cleaning : goal.invariant_of-self-then-step-most-clause-cleaning
invariant_of-self-then-step-most-clause-cleaning c = λ is. on (goal.at.invariant_of-self-then-step-most-clause-cleaning c).After-clean_step

pub returns-clause-collects : goal.returns-clause-collects
returns-clause-collects c =
    let x = c.args.self.now in
    let here = (goal.at.returns-clause-collects c).After-clean_step in
    let e = c.in-Some.ensures in
    let n : ℕ = c.in-Some.step.passed in
    let count : n ≡ min c.args.most (cards_left x) = subst (λ (h : Heap). n ≡ min c.args.most (card_count h.shape - x.next)) c.deref.ensures e.cleaned.0 in
    let sum = c.saturating_add-self.ensures in
    let counts = e.counts.1 in
    let cleaned : c.saturating_add-self.result ≡ min (x.cleaned + count_of clears (did x.seat c.clean_step.new.seat)) greatest = omega (arith, sum, counts) in
    let scanned = c.saturating_add-self-2.ensures in
    let objects = e.rescanned in
    let rescanned : c.saturating_add-self-2.result ≡ min (x.rescanned + rescanned_in (view_of x.seat) (did x.seat c.clean_step.new.seat)) greatest = omega (arith, scanned, objects) in
    let all = all-left n c.args.most (cards_left x) count c.if-step-most.false in
    λ precise. step-on precise c.args.most x _ stages.Cleaning stages.Draining c.requires.cleaning refl (refl, refl) (all.0, subst (λ k. Across (CleansCards x.next k) x.seat c.clean_step.new.seat) all.1 e.cleaned.1, ((refl, refl), refl, refl), (refl, cleaned, rescanned)) (keeps-rest x _ (kept here) refl refl)

pub returns-clause-bounded : goal.returns-clause-bounded
returns-clause-bounded c =
    let e = c.in-Some.ensures.cleaned in
    bounded-on c.args.most c.args.self.now _ stages.Cleaning stages.Draining c.requires.cleaning refl (inl (c.in-Some.step.passed, few-of c.in-Some.step.passed c.args.most _ e.0, e.1), few (goal.at.returns-clause-bounded c).After-clean_step)

pub invariant_of-self-2-clause-draining : goal.invariant_of-self-2-clause-draining
invariant_of-self-2-clause-draining c = λ is. on (goal.at.invariant_of-self-2-clause-draining c).After-clean_step

pub overflow_add-self : goal.overflow_add-self
overflow_add-self c =
    let small = cards-small c.deref.result.now.shape c.deref.result.now.shaped in
    let count = c.in-Some.ensures.cleaned.0 in
    omega (arith, small, count)
