use Rattle.std.proofs.Common.{◌≡◌}
use Rattle.shared_heap.specs.declared.mutator.Place.TheVariants.{Inside}
use Rattle.example_structures.specs.Changes.{ChangesNone, IsTold}
use Rattle.example_structures.specs.Refusing.{GivenUp}
use Rattle.example_structures.proofs.Called.{value-none, value-told}
use Rattle.example_structures.proofs.Refused.{either-way, read-inside, read-none, read-told, when-err}
use Rattle.example_structures.proofs.calls.value.Goals as goal

pub returns-clause-inside : goal.returns-clause-inside
returns-clause-inside c =
    let x = c.args.m.now in
    let y = c.value.new.self in
    either-way c.value.result (y.place ≡ Inside) _ _ c.value.ensures.value c.value.ensures.refused (λ n s. s.inside) (λ e r. (read-inside x y e c.args.v c.requires.inside c.requires.range r).0)

pub returns-clause-refused : goal.returns-clause-refused
returns-clause-refused c =
    let x = c.args.m.now in
    let y = c.value.new.self in
    when-err c.value.result _ (λ e. GivenUp e y) c.value.ensures.refused (λ e r. (read-inside x y e c.args.v c.requires.inside c.requires.range r).1)

pub returns-clause-none : goal.returns-clause-none
returns-clause-none c =
    let x = c.args.m.now in
    let y = c.value.new.self in
    either-way c.value.result (ChangesNone x y) _ _ c.value.ensures.value c.value.ensures.refused (λ n s. value-none x y c.args.v n s.does) (λ e r. read-none x y e c.args.v r)

pub returns-clause-told : goal.returns-clause-told
returns-clause-told c =
    let x = c.args.m.now in
    let y = c.value.new.self in
    either-way c.value.result (IsTold 21 x → IsTold 21 y) _ _ c.value.ensures.value c.value.ensures.refused (λ n s. value-told x y 21 c.args.v n s.does) (λ e r. read-told x y 21 e c.args.v r)
