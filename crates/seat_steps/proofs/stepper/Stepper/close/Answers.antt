use Rattle.std.proofs.Common.{◌≡◌, ◌∙◌, [], ◌∷◌, ap, eqb-true, eq-eqb, refl, sym}
use Rattle.std.proofs.lemmas.Bool.{OnFalse_at, OnTrue_at, true≢false}
use Rattle.mark_core.specs.declared.kinds.Phase.TheVariants.{Drain}
use Rattle.mark_core.specs.declared.kinds.Step.TheVariants.{SeeHelp}
use Rattle.gc_table.specs.Log.{event}
use Rattle.gc_table.specs.Seats.{view_of}
use Rattle.gc_table.proofs.History.Log.{events-after}
use Rattle.gc_cycle.specs.Finishing.{IsAloneIn}
use Rattle.gc_cycle.specs.Stepping.{IsOwner}
use Rattle.seat_steps.specs.Asked.{MarksSinceAsked}
use Rattle.seat_steps.specs.declared.stepper.Stage.TheVariants as stages
use Rattle.seat_steps.proofs.Amounts.{drain-few, few-join, sees-first}
use Rattle.seat_steps.proofs.Gates.{Gates, gate-few, gate-kept, gate-stays, looks}
use Rattle.seat_steps.proofs.Sparing.{Kept, goes-on, keeps-rest, kept-join, part-kept, sits-in}
use Rattle.seat_steps.proofs.SinceAsked.{marks-on}
use Rattle.seat_steps.proofs.Stages.{bounded-on, step-on}
use Rattle.seat_steps.proofs.stepper.Stepper.close.Goals as goal
use Rattle.seat_steps.proofs.stepper.Stepper.close.Goals.{After-finds_helpers_gone, Else-not-finds_helpers_gone}

looked : (c : After-finds_helpers_gone) → Gates (view_of c.args.self.now.seat) (view_of c.finds_helpers_gone.new.seat)
looked c = looks _ (view_of c.args.self.now.seat) (view_of c.finds_helpers_gone.new.seat) c.finds_helpers_gone.ensures.step

kept : (c : After-finds_helpers_gone) → Kept c.args.self.now.seat c.finds_helpers_gone.new.seat
kept c =
    let x = c.args.self.now.seat in
    let y = c.finds_helpers_gone.new.seat in
    gate-kept Drain x y (looked c) c.finds_helpers_gone.ensures.keeps

marks : (c : After-finds_helpers_gone) → MarksSinceAsked c.args.self.now.exact c.args.self.now.again (view_of c.finds_helpers_gone.new.seat)
marks c =
    let x = c.args.self.now in
    let y = view_of c.finds_helpers_gone.new.seat in
    let g = looked c in
    marks-on x.exact x.again (view_of x.seat) y g.ran (gate-stays Drain (view_of x.seat) y g) c.finds_helpers_gone.ensures.exact (x.closing c.requires.closing).since

pub finds_helpers_gone-requires : goal.finds_helpers_gone-requires
finds_helpers_gone-requires c = let x = c.args.self.now in let s = x.closing c.requires.closing in record { seat = sits-in _ _ x.seat c.deref.ensures s.sits; closing = (Drain, s.stands) }

pub returns-then-not-finds_helpers_gone-clause-collects : goal.returns-then-not-finds_helpers_gone-clause-collects
returns-then-not-finds_helpers_gone-clause-collects c =
    let x = c.args.self.now in
    let here = (goal.at.returns-then-not-finds_helpers_gone-clause-collects c).After-finds_helpers_gone in
    let s = c.finds_helpers_gone.ensures.step in
    λ precise most. step-on precise most x _ stages.Closing stages.Closing c.requires.closing c.requires.closing (refl, refl) (
      record { found = s.0; some = λ z. true≢false (sym (s.3 ∙ eq-eqb s.0 0 z) ∙ c.if-not-finds_helpers_gone.true); all = events-after (view_of x.seat) (view_of c.finds_helpers_gone.new.seat) SeeHelp s.0 s.1 },
      ((refl, refl), refl, refl),
      (refl, refl, refl),
    )
    (keeps-rest x _ (kept here) refl refl)

pub returns-then-not-finds_helpers_gone-clause-bounded : goal.returns-then-not-finds_helpers_gone-clause-bounded
returns-then-not-finds_helpers_gone-clause-bounded c =
    let x = c.args.self.now in
    let here = (goal.at.returns-then-not-finds_helpers_gone-clause-bounded c).After-finds_helpers_gone in
    λ most. bounded-on most x _ stages.Closing stages.Closing c.requires.closing c.requires.closing (gate-few (view_of x.seat) (view_of c.finds_helpers_gone.new.seat) (looked here))

pub invariant_of-self-clause-closing : goal.invariant_of-self-clause-closing
invariant_of-self-clause-closing c = λ is.
    let x = c.args.self.now in
    let here = (goal.at.invariant_of-self-clause-closing c).After-finds_helpers_gone in
    let e = c.finds_helpers_gone.ensures in
    let s = x.closing c.requires.closing in
    goes-on _ _ x.seat c.finds_helpers_gone.new.seat c.deref.ensures s.mutator (kept here) e.seat (OnFalse_at c.if-not-finds_helpers_gone.true e.closing Drain s.stands) (marks here)

-- the seat is alone
alone : (c : Else-not-finds_helpers_gone) → IsOwner (view_of c.finds_helpers_gone.new.seat) × IsAloneIn Drain (view_of c.finds_helpers_gone.new.seat)
alone c = OnTrue_at c.if-not-finds_helpers_gone.false c.finds_helpers_gone.ensures.alone Drain (c.args.self.now.closing c.requires.closing).stands

pub return_to_roots-requires-clause-owner : goal.return_to_roots-requires-clause-owner
return_to_roots-requires-clause-owner c = (alone (goal.at.return_to_roots-requires-clause-owner c).Else-not-finds_helpers_gone).0

pub return_to_roots-requires-clause-alone : goal.return_to_roots-requires-clause-alone
return_to_roots-requires-clause-alone c = (alone (goal.at.return_to_roots-requires-clause-alone c).Else-not-finds_helpers_gone).1

pub returns-clause-collects : goal.returns-clause-collects
returns-clause-collects c =
    let x = c.args.self.now in
    let y = c.finds_helpers_gone.new.seat in
    let z = c.return_to_roots.new.seat in
    let here = (goal.at.returns-clause-collects c).After-finds_helpers_gone in
    let s = c.finds_helpers_gone.ensures.step in
    let b = c.return_to_roots.ensures in
    let none : s.0 ≡ 0 = eqb-true s.0 0 (sym s.3 ∙ c.if-not-finds_helpers_gone.false) in
    λ precise most. step-on precise most x _ stages.Closing stages.Rooting c.requires.closing refl (refl, refl) (
      record { alone = view_of y; looks = events-after (view_of x.seat) (view_of y) SeeHelp s.0 s.1 ∙ ap (λ n. event SeeHelp n ∷ []) none; course = b.course },
      refl,
      ((refl, refl), refl, refl),
      (refl, refl, refl),
    )
    (keeps-rest x _ (kept-join x.seat y z (kept here) (part-kept Drain y z b.part b.keeps)) refl refl)

pub returns-clause-bounded : goal.returns-clause-bounded
returns-clause-bounded c =
    let x = c.args.self.now in
    let u = view_of x.seat in
    let v = view_of c.finds_helpers_gone.new.seat in
    let w = view_of c.return_to_roots.new.seat in
    let here = goal.at.returns-clause-bounded c in
    let g = looked here.After-finds_helpers_gone in
    let a = alone here.Else-not-finds_helpers_gone in
    let b = c.return_to_roots.ensures in
    λ most. bounded-on most x _ stages.Closing stages.Rooting c.requires.closing refl (few-join 1 1 u v w g.ran b.part.ran (gate-few u v g) (drain-few 1 v w b.course.unpopped b.part a.0 a.1.alone b.few))

pub invariant_of-self-2-clause-rooting : goal.invariant_of-self-2-clause-rooting
invariant_of-self-2-clause-rooting c = λ is.
    let x = c.args.self.now in
    let y = c.finds_helpers_gone.new.seat in
    let z = c.return_to_roots.new.seat in
    let here = (goal.at.invariant_of-self-2-clause-rooting c).After-finds_helpers_gone in
    let b = c.return_to_roots.ensures in
    goes-on _ _ x.seat z c.deref-2.ensures (x.closing c.requires.closing).mutator (kept-join x.seat y z (kept here) (part-kept Drain y z b.part b.keeps)) b.seat (sees-first (view_of z) b.roots)
    (marks-on x.exact x.again (view_of y) (view_of z) b.part.ran b.part.only b.exact (marks here))
