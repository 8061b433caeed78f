use Rattle.example_structures.specs.Changes.{ChangesNone}
use Rattle.example_structures.specs.Refusing.{IsFor, NotBegun}
use Rattle.example_structures.proofs.Called.{get-none}
use Rattle.example_structures.proofs.Refused.{act-none, either-way, not-begun, when-err}
use Rattle.example_structures.proofs.hands.begin.Goals as goal

pub returns-clause-refused : goal.returns-clause-refused
returns-clause-refused c =
    let x = c.args.m.now in
    let y = c.get.new.self in
    when-err c.get.result _ (λ e. NotBegun e (IsFor c.args.v c.args.least x) x y) c.get.ensures.refused (λ e r. not-begun x y e c.args.least c.args.v c.requires.least r)

pub returns-clause-none : goal.returns-clause-none
returns-clause-none c =
    let x = c.args.m.now in
    let y = c.get.new.self in
    either-way c.get.result (ChangesNone x y) _ _ c.get.ensures.done c.get.ensures.refused (λ _ s. get-none x y 20 20 _ s.does) (λ e r. act-none x y e _ r)
