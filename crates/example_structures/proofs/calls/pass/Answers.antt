use Rattle.example_structures.specs.Changes.{ChangesNone}
use Rattle.example_structures.specs.Refusing.{GivenUp}
use Rattle.example_structures.proofs.Called.{same-none}
use Rattle.example_structures.proofs.Refused.{either-way, stay-given-up, stay-none, when-err}
use Rattle.example_structures.proofs.calls.pass.Goals as goal

pub returns-clause-none : goal.returns-clause-none
returns-clause-none g c =
    let x = c.args.m.now in
    let y = c.safe_point.new.self in
    either-way c.safe_point.result (ChangesNone x y) _ _ c.safe_point.ensures.passed c.safe_point.ensures.refused (λ _ s. same-none x y s.same) (λ e r. stay-none x y e r)

pub returns-clause-refused : goal.returns-clause-refused
returns-clause-refused g c = when-err c.safe_point.result _ (λ e. GivenUp e c.safe_point.new.self) c.safe_point.ensures.refused (λ e r. stay-given-up c.args.m.now c.safe_point.new.self e c.requires.inside r)
