use Rattle.std.proofs.Common.{◌≡◌, ◌≤◌, ◌∙◌, [], ◌∷◌, ap, eqb-true, eq-eqb, refl, subst, sym}
use Rattle.std.proofs.lemmas.Bool.{OnFalse_at, OnTrue_at, true≢false}
use Rattle.mark_core.specs.Layout.{block_count}
use Rattle.mark_core.specs.declared.kinds.Phase.TheVariants.{Idle, Sweep}
use Rattle.mark_core.specs.declared.kinds.Shape.{Shape}
use Rattle.mark_core.specs.declared.kinds.Step.TheVariants.{SeeHelp}
use Rattle.gc_table.specs.Log.{event}
use Rattle.gc_table.specs.Seats.{view_of}
use Rattle.gc_table.proofs.History.Log.{events-after}
use Rattle.gc_table.proofs.Running.{ran-shape}
use Rattle.sweeper.specs.Freeing.{block_floor}
use Rattle.seat_steps.specs.Asked.{SweepsSinceAsked}
use Rattle.seat_steps.specs.declared.stepper.Stage.TheVariants as stages
use Rattle.seat_steps.proofs.Amounts.{few-join, move-few}
use Rattle.seat_steps.proofs.Gates.{Gates, gate-few, gate-kept, gate-stays, looks}
use Rattle.seat_steps.proofs.Sparing.{Kept, goes-on, keeps-rest, kept-join, move-kept, sits-in}
use Rattle.seat_steps.proofs.SinceAsked.{counts-begun, sweeps-on}
use Rattle.seat_steps.proofs.Stages.{bounded-on, step-on}
use Rattle.seat_steps.proofs.stepper.Stepper.part.Goals as goal
use Rattle.seat_steps.proofs.stepper.Stepper.part.Goals.{After-finds_helpers_gone}

looked : (c : After-finds_helpers_gone) → Gates (view_of c.args.self.now.seat) (view_of c.finds_helpers_gone.new.seat)
looked c = looks _ (view_of c.args.self.now.seat) (view_of c.finds_helpers_gone.new.seat) c.finds_helpers_gone.ensures.step

kept : (c : After-finds_helpers_gone) → Kept c.args.self.now.seat c.finds_helpers_gone.new.seat
kept c =
    let x = c.args.self.now.seat in
    let y = c.finds_helpers_gone.new.seat in
    gate-kept Sweep x y (looked c) c.finds_helpers_gone.ensures.keeps

sweeps : (c : After-finds_helpers_gone) → SweepsSinceAsked c.args.self.now.exact (view_of c.finds_helpers_gone.new.seat)
sweeps c =
    let x = c.args.self.now in
    let y = view_of c.finds_helpers_gone.new.seat in
    let g = looked c in
    sweeps-on x.exact (view_of x.seat) y g.ran (gate-stays Sweep (view_of x.seat) y g) c.finds_helpers_gone.ensures.exact (x.parting c.requires.parting).since

pub finds_helpers_gone-requires : goal.finds_helpers_gone-requires
finds_helpers_gone-requires c = let x = c.args.self.now in let s = x.parting c.requires.parting in record { seat = sits-in _ _ x.seat c.deref.ensures s.sits; closing = (Sweep, s.stands.closing) }

-- every block was handed out still
end : (c : After-finds_helpers_gone) → block_count (view_of c.finds_helpers_gone.new.seat).shape ≤ block_floor (view_of c.finds_helpers_gone.new.seat)
end c =
    let x = c.args.self.now in
    let y = view_of c.finds_helpers_gone.new.seat in
    let e = c.finds_helpers_gone.ensures in
    let s = x.parting c.requires.parting in
    subst (λ (sh : Shape). block_count sh ≤ block_floor y) (sym (ran-shape (view_of x.seat) y (looked c).ran)) (e.floor _ s.stands.end)

pub returns-then-not-finds_helpers_gone-clause-collects : goal.returns-then-not-finds_helpers_gone-clause-collects
returns-then-not-finds_helpers_gone-clause-collects c =
    let x = c.args.self.now in
    let here = (goal.at.returns-then-not-finds_helpers_gone-clause-collects c).After-finds_helpers_gone in
    let s = c.finds_helpers_gone.ensures.step in
    λ precise most. step-on precise most x _ stages.Parting stages.Parting c.requires.parting c.requires.parting refl (
      record { found = s.0; some = λ z. true≢false (sym (s.3 ∙ eq-eqb s.0 0 z) ∙ c.if-not-finds_helpers_gone.true); all = events-after (view_of x.seat) (view_of c.finds_helpers_gone.new.seat) SeeHelp s.0 s.1 },
      refl,
      ((refl, refl), refl, refl),
      (refl, refl, refl),
    )
    (keeps-rest x _ (kept here) refl refl)

pub returns-then-not-finds_helpers_gone-clause-bounded : goal.returns-then-not-finds_helpers_gone-clause-bounded
returns-then-not-finds_helpers_gone-clause-bounded c =
    let x = c.args.self.now in
    let here = (goal.at.returns-then-not-finds_helpers_gone-clause-bounded c).After-finds_helpers_gone in
    λ most. bounded-on most x _ stages.Parting stages.Parting c.requires.parting c.requires.parting (gate-few (view_of x.seat) (view_of c.finds_helpers_gone.new.seat) (looked here))

pub invariant_of-self-clause-parting : goal.invariant_of-self-clause-parting
invariant_of-self-clause-parting c = λ is.
    let x = c.args.self.now in
    let here = (goal.at.invariant_of-self-clause-parting c).After-finds_helpers_gone in
    let e = c.finds_helpers_gone.ensures in
    let s = x.parting c.requires.parting in
    goes-on _ _ x.seat c.finds_helpers_gone.new.seat c.deref.ensures s.mutator (kept here) e.seat (record { closing = OnFalse_at c.if-not-finds_helpers_gone.true e.closing Sweep s.stands.closing; end = end here }) (sweeps here)

pub start_count-requires-clause-swept : goal.start_count-requires-clause-swept
start_count-requires-clause-swept c =
    let here = (goal.at.start_count-requires-clause-swept c).After-finds_helpers_gone in
    let a = OnTrue_at c.if-not-finds_helpers_gone.false c.finds_helpers_gone.ensures.alone Sweep (c.args.self.now.parting c.requires.parting).stands.closing in
    record { sweeps = record { owner = a.0; alone = a.1 }; end = end here }

pub returns-clause-collects : goal.returns-clause-collects
returns-clause-collects c =
    let x = c.args.self.now in
    let y = c.finds_helpers_gone.new.seat in
    let z = c.start_count.new.seat in
    let here = (goal.at.returns-clause-collects c).After-finds_helpers_gone in
    let s = c.finds_helpers_gone.ensures.step in
    let m = c.start_count.ensures in
    let none : s.0 ≡ 0 = eqb-true s.0 0 (sym s.3 ∙ c.if-not-finds_helpers_gone.false) in
    λ precise most. step-on precise most x _ stages.Parting stages.Counting c.requires.parting refl refl (
      record { alone = view_of y; looks = events-after (view_of x.seat) (view_of y) SeeHelp s.0 s.1 ∙ ap (λ n. event SeeHelp n ∷ []) none; moved = m.moved },
      refl,
      refl,
      refl,
      ((refl, refl), refl, refl),
      (refl, refl, refl),
    )
    (keeps-rest x _ (kept-join x.seat y z (kept here) (move-kept Sweep Idle y z m.moved m.keeps)) refl refl)

pub returns-clause-bounded : goal.returns-clause-bounded
returns-clause-bounded c =
    let x = c.args.self.now in
    let u = view_of x.seat in
    let v = view_of c.finds_helpers_gone.new.seat in
    let w = view_of c.start_count.new.seat in
    let here = (goal.at.returns-clause-bounded c).After-finds_helpers_gone in
    let g = looked here in
    let m = c.start_count.ensures.moved in
    λ most. bounded-on most x _ stages.Parting stages.Counting c.requires.parting refl (few-join 1 1 u v w g.ran m.ran (gate-few u v g) (move-few Sweep Idle v w m))

pub invariant_of-self-2-clause-counting : goal.invariant_of-self-2-clause-counting
invariant_of-self-2-clause-counting c = λ is.
    let x = c.args.self.now in
    let y = c.finds_helpers_gone.new.seat in
    let z = c.start_count.new.seat in
    let here = (goal.at.invariant_of-self-2-clause-counting c).After-finds_helpers_gone in
    let m = c.start_count.ensures in
    goes-on _ _ x.seat z c.deref-2.ensures (x.parting c.requires.parting).mutator (kept-join x.seat y z (kept here) (move-kept Sweep Idle y z m.moved m.keeps)) m.seat m.counts (counts-begun x.exact (view_of y) (view_of z) m.moved m.collects (sweeps here))
