use Rattle.std.proofs.Common.{ℕ, ◌≡◌, ◌+◌, ◌-◌, ap, arith, inl, inr, refl, subst}
use Rattle.std.specs.Prelude.{min}
use Rattle.std.specs.Arc.{arc_value}
use Rattle.mark_core.specs.Layout.{root_count}
use Rattle.mark_core.specs.declared.kinds.Phase.TheVariants.{Drain}
use Rattle.mark_core.specs.declared.kinds.Step.TheVariants.{OpenStep}
use Rattle.gc_table.specs.Seats.{Across, Took, view_of}
use Rattle.gc_table.specs.declared.seat.Heap.{Heap}
use Rattle.gc_table.specs.declared.seat.HeapSeat.{HeapSeat}
use Rattle.gc_table.specs.declared.view.View.{View}
use Rattle.tracer.specs.StepBounds.{recycle_steps}
use Rattle.card_clean.specs.StepBounds.{see_to_steps}
use Rattle.mutator_ops.specs.Few.{AtMost}
use Rattle.seat_steps.specs.Amounts.{DoesFew}
use Rattle.seat_steps.specs.Asked.{MarksSinceAsked}
use Rattle.seat_steps.specs.Bounds.{rooting_steps}
use Rattle.seat_steps.specs.Collecting.{Collects}
use Rattle.seat_steps.specs.Passes.{SeesRoots}
use Rattle.seat_steps.specs.Steps.{roots_left}
use Rattle.seat_steps.specs.declared.stepper.Stage.TheVariants as stages
use Rattle.gc_cycle.specs.Stepping.{Keeps}
use Rattle.seat_steps.proofs.Gates.{gate-few, gate-kept, gate-stays, opens}
use Rattle.seat_steps.proofs.Sparing.{Kept, goes-on, keeps-rest, kept-join, part-kept, sits-in}
use Rattle.seat_steps.proofs.Amounts.{all-left, as-many, drain-few, few-join, few-of, roots-small, sees-so}
use Rattle.seat_steps.proofs.SinceAsked.{marks-on}
use Rattle.seat_steps.proofs.Stages.{bounded-on, step-on}
use Rattle.seat_steps.proofs.stepper.Stepper.scan.Goals as goal
use Rattle.seat_steps.proofs.stepper.Stepper.scan.Goals.{After-root_piece, In-Some}

kept : (c : After-root_piece) → Kept c.args.self.now.seat c.root_piece.new.seat
kept c = let e = c.root_piece.ensures in part-kept Drain c.args.self.now.seat c.root_piece.new.seat e.part e.keeps

few : (c : After-root_piece) → Across (DoesFew (rooting_steps c.args.most c.args.self.now)) c.args.self.now.seat c.root_piece.new.seat
few c =
    let x = c.args.self.now in
    let u : View = view_of x.seat in
    let v : View = view_of c.root_piece.new.seat in
    let e = c.root_piece.ensures in
    let r = (x.rooting c.requires.rooting).stands.roots in
    drain-few (rooting_steps c.args.most x) u v e.unpopped e.part r.owner r.alone.alone (subst (λ (h : Heap). AtMost (see_to_steps c.args.most h.shape + recycle_steps h.shape) u v) c.deref.ensures e.few)

on : (c : After-root_piece) (Stands : View → Type 0) → Stands (view_of c.root_piece.new.seat) → Collects Stands (MarksSinceAsked c.args.self.now.exact c.args.self.now.again) (arc_value c.args.self.now.heap) c.root_piece.new.seat
on c Stands stands =
    let x = c.args.self.now in
    let s = x.rooting c.requires.rooting in
    let e = c.root_piece.ensures in
    goes-on _ _ x.seat c.root_piece.new.seat c.deref.ensures s.mutator (kept c) e.seat stands (marks-on x.exact x.again (view_of x.seat) (view_of c.root_piece.new.seat) e.part.ran e.part.only e.exact s.since)

pub root_piece-requires : goal.root_piece-requires
root_piece-requires c = let x = c.args.self.now in let s = x.rooting c.requires.rooting in record { seat = sits-in _ _ x.seat c.deref.ensures s.sits; roots = s.stands }

pub returns-in_default : goal.returns-in_default
returns-in_default c =
    let x = c.args.self.now in
    let here = (goal.at.returns-in_default c).After-root_piece in
    let lacks = c.in_default.ensures.not_yet.1 in
    record {
      collects = λ precise. step-on precise c.args.most x _ stages.Rooting stages.Rooting c.requires.rooting c.requires.rooting (refl, refl) (inr (refl, lacks), ((refl, refl), refl, refl), (refl, refl, refl)) (keeps-rest x _ (kept here) refl refl);
      bounded = bounded-on c.args.most x _ stages.Rooting stages.Rooting c.requires.rooting c.requires.rooting (inr lacks, few here);
    }

pub invariant_of-self-clause-rooting : goal.invariant_of-self-clause-rooting
invariant_of-self-clause-rooting c = λ is. on (goal.at.invariant_of-self-clause-rooting c).After-root_piece _ c.in_default.ensures.not_yet.0

-- so many roots were seen to
sees : (c : In-Some) → Across (SeesRoots c.args.self.now.next c.in-Some.number) c.args.self.now.seat c.root_piece.new.seat
sees c =
    let x = c.args.self.now in
    let e = c.in-Some.ensures in
    sees-so c.deref.result.now x.seat c.root_piece.new.seat x.next c.in-Some.number (sits-in _ _ x.seat c.deref.ensures (x.rooting c.requires.rooting).sits) e.part e.only e.reads

pub returns-then-number-most-clause-collects : goal.returns-then-number-most-clause-collects
returns-then-number-most-clause-collects c =
    let x = c.args.self.now in
    let here = goal.at.returns-then-number-most-clause-collects c in
    let n : ℕ = c.in-Some.number in
    let is = c.if-number-most.true in
    let count : n ≡ min c.args.most (roots_left x) = subst (λ (h : Heap). n ≡ min c.args.most (root_count h.shape - x.next)) c.deref.ensures c.in-Some.ensures.some.1 in
    λ precise. step-on precise c.args.most x _ stages.Rooting stages.Rooting c.requires.rooting c.requires.rooting (refl, refl)
    (inl (as-many n c.args.most (roots_left x) count is, ap (λ k. x.next + k) is, subst (λ k. Across (SeesRoots x.next k) x.seat c.root_piece.new.seat) is (sees here.In-Some)), ((refl, refl), refl, refl), (refl, refl, refl))
    (keeps-rest x _ (kept here.After-root_piece) refl refl)

pub returns-then-number-most-clause-bounded : goal.returns-then-number-most-clause-bounded
returns-then-number-most-clause-bounded c =
    let here = goal.at.returns-then-number-most-clause-bounded c in
    bounded-on c.args.most c.args.self.now _ stages.Rooting stages.Rooting c.requires.rooting c.requires.rooting (inl (c.in-Some.number, few-of c.in-Some.number c.args.most _ c.in-Some.ensures.some.1, sees here.In-Some), few here.After-root_piece)

pub invariant_of-self-then-number-most-clause-rooting : goal.invariant_of-self-then-number-most-clause-rooting
invariant_of-self-then-number-most-clause-rooting c = λ is. on (goal.at.invariant_of-self-then-number-most-clause-rooting c).After-root_piece _ c.in-Some.ensures.some.0

pub returns-then-self-clause-collects : goal.returns-then-self-clause-collects
returns-then-self-clause-collects c =
    let x = c.args.self.now in
    let here = goal.at.returns-then-self-clause-collects c in
    let n : ℕ = c.in-Some.number in
    let count : n ≡ min c.args.most (roots_left x) = subst (λ (h : Heap). n ≡ min c.args.most (root_count h.shape - x.next)) c.deref.ensures c.in-Some.ensures.some.1 in
    let all = all-left n c.args.most (roots_left x) count c.if-number-most.false in
    λ precise. step-on precise c.args.most x _ stages.Rooting stages.Draining c.requires.rooting refl (refl, refl) (all.0, subst (λ k. Across (SeesRoots x.next k) x.seat c.root_piece.new.seat) all.1 (sees here.In-Some), ((refl, refl), refl, refl), (refl, refl, refl)) (keeps-rest x _ (kept here.After-root_piece) refl refl)

pub returns-then-self-clause-bounded : goal.returns-then-self-clause-bounded
returns-then-self-clause-bounded c =
    let here = goal.at.returns-then-self-clause-bounded c in
    bounded-on c.args.most c.args.self.now _ stages.Rooting stages.Draining c.requires.rooting refl (inl (c.in-Some.number, few-of c.in-Some.number c.args.most _ c.in-Some.ensures.some.1, sees here.In-Some), few here.After-root_piece)

pub invariant_of-self-then-self-clause-draining : goal.invariant_of-self-then-self-clause-draining
invariant_of-self-then-self-clause-draining c = λ is. on (goal.at.invariant_of-self-then-self-clause-draining c).After-root_piece _ (c.in-Some.ensures.rooted c.if-number-most.false)

-- and the stop is opened
opened : (x y z : HeapSeat) → Kept x y → Took OpenStep (view_of y) (view_of z) → Keeps (view_of y) (view_of z) → Kept x z
opened x y z k t keeps = kept-join x y z k (gate-kept Drain y z (opens (view_of y) (view_of z) t) keeps)

pub open_stop-requires-clause-owner : goal.open_stop-requires-clause-owner
open_stop-requires-clause-owner c = (c.in-Some.ensures.rooted c.if-number-most.false).owner

pub open_stop-requires-clause-alone : goal.open_stop-requires-clause-alone
open_stop-requires-clause-alone c = let d = c.in-Some.ensures.rooted c.if-number-most.false in inl (record { rest = d.rest; alone = d.drain })

pub returns-clause-collects : goal.returns-clause-collects
returns-clause-collects c =
    let x = c.args.self.now in
    let y = c.root_piece.new.seat in
    let z = c.open_stop.new.seat in
    let here = goal.at.returns-clause-collects c in
    let n : ℕ = c.in-Some.number in
    let o = c.open_stop.ensures in
    let count : n ≡ min c.args.most (roots_left x) = subst (λ (h : Heap). n ≡ min c.args.most (root_count h.shape - x.next)) c.deref.ensures c.in-Some.ensures.some.1 in
    let all = all-left n c.args.most (roots_left x) count c.if-number-most.false in
    λ precise. step-on precise c.args.most x _ stages.Rooting stages.Sharing c.requires.rooting refl (refl, refl) (
      all.0,
      record { rooted = view_of y; sees = subst (λ k. Across (SeesRoots x.next k) x.seat y) all.1 (sees here.In-Some); opens = o.step },
      c.if-self.false,
      refl,
      refl,
      (refl, refl),
      refl,
      (refl, refl, refl),
    )
    (keeps-rest x _ (opened x.seat y z (kept here.After-root_piece) o.step o.keeps) refl refl)

pub returns-clause-bounded : goal.returns-clause-bounded
returns-clause-bounded c =
    let x = c.args.self.now in
    let u = view_of x.seat in
    let v = view_of c.root_piece.new.seat in
    let w = view_of c.open_stop.new.seat in
    let here = (goal.at.returns-clause-bounded c).After-root_piece in
    let g = opens v w c.open_stop.ensures.step in
    bounded-on c.args.most x _ stages.Rooting stages.Sharing c.requires.rooting refl (few-join (rooting_steps c.args.most x) 1 u v w c.root_piece.ensures.part.ran g.ran (few here) (gate-few v w g))

pub invariant_of-self-2-clause-sharing : goal.invariant_of-self-2-clause-sharing
invariant_of-self-2-clause-sharing c = λ is.
    let x = c.args.self.now in
    let y = c.root_piece.new.seat in
    let z = c.open_stop.new.seat in
    let s = x.rooting c.requires.rooting in
    let here = (goal.at.invariant_of-self-2-clause-sharing c).After-root_piece in
    let e = c.root_piece.ensures in
    let o = c.open_stop.ensures in
    let d = c.in-Some.ensures.rooted c.if-number-most.false in
    let g = opens (view_of y) (view_of z) o.step in
    goes-on _ _ x.seat z c.deref-2.ensures s.mutator (opened x.seat y z (kept here) o.step o.keeps) o.seat (o.shared Drain (record { rest = d.rest; alone = d.drain }))
    (marks-on x.exact x.again (view_of y) (view_of z) g.ran (gate-stays Drain (view_of y) (view_of z) g) o.exact (marks-on x.exact x.again (view_of x.seat) (view_of y) e.part.ran e.part.only e.exact s.since))

pub overflow_add-self : goal.overflow_add-self
overflow_add-self c =
    let small = roots-small c.deref.result.now.shape c.deref.result.now.shaped in
    let count = c.in-Some.ensures.some.1 in
    omega (arith, small, count)
