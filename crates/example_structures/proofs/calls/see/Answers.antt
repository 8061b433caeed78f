use Rattle.std.proofs.Common.{arith}
use Rattle.example_structures.specs.Changes.{ChangesNone, IsTold}
use Rattle.example_structures.proofs.Called.{get-none, get-tells}
use Rattle.example_structures.proofs.Refused.{act-none, cant-act, either-way}
use Rattle.example_structures.proofs.calls.see.Goals as goal

pub returns-clause-none : goal.returns-clause-none
returns-clause-none c =
    let x = c.args.m.now in
    let y = c.get-done.new.self in
    either-way c.get-done.result (ChangesNone x y) _ _ c.get-done.ensures.done c.get-done.ensures.refused (λ _ s. get-none x y 21 c.args.v c.args.i s.does) (λ e r. act-none x y e _ r)

pub returns-clause-told : goal.returns-clause-told
returns-clause-told c =
    let x = c.args.m.now in
    let y = c.get-done.new.self in
    either-way c.get-done.result (IsTold 21 y) _ _ c.get-done.ensures.done c.get-done.ensures.refused (λ _ s. get-tells x y 21 c.args.v c.args.i (omega arith) s.does)
    (λ e r. absurd (cant-act x e _ c.requires.inside (omega arith, c.requires.range.0, c.requires.range.1) r.why))
