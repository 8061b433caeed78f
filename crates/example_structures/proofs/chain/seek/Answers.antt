use Rattle.std.proofs.Common.{arith, subst, sym, ◌∙◌}
use Rattle.example_structures.specs.Changes.{IsTold}
use Rattle.example_structures.proofs.chain.seek.Goals.{in-None, in-Some+then-is_nil, in-Some+else-is_nil+in_ok-value+then-branch-from}
use Rattle.example_structures.proofs.chain.seek.Goals as goal

pub loop-round-preserved : goal.loop-round-preserved
loop-round-preserved g c =
    let before = c.loop-round.invariant in
    record {
      inside = c.get-in-loop-round.ensures.inside;
      world = c.get-in-loop-round.ensures.world ∙ (c.value.ensures.world ∙ before.world);
      none = c.get-in-loop-round.ensures.none ∙ (c.value.ensures.none ∙ before.none);
      told = λ t. c.get-in-loop-round.ensures.told (c.value.ensures.told (before.told t));
    }

pub loop-round-init : goal.loop-round-init
loop-round-init g c =
    record {
      inside = c.copy.ensures.inside;
      world = c.copy.ensures.world ∙ c.forget.ensures.world;
      none = c.copy.ensures.none ∙ c.forget.ensures.none;
      told = λ t. c.copy.ensures.told (c.forget.ensures.told (λ e. omega (arith, e)) t);
    }

pub returns-clause-told : goal.returns-clause-told
returns-clause-told g c = λ t.
    let before = c.loop-round.invariant in
    elim c.match-next.branch [
      | in-None w ↦ subst (IsTold 21) (sym w.m-is) (before.told t)
      | in-Some+then-is_nil w ↦ subst (IsTold 21) (sym w.m-is) (before.told t)
      | in-Some+else-is_nil+in_ok-value+then-branch-from w ↦ subst (IsTold 21) (sym w.m-is) (w.get.ensures.told (w.value.ensures.told (before.told t)))
    ]
