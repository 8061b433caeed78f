use Rattle.std.proofs.Common.{sym}
use Rattle.example_structures.specs.Changes.{ChangesNone, IsTold}
use Rattle.example_structures.proofs.Called.{get-none, get-told}
use Rattle.example_structures.proofs.Refused.{act-none, act-told, either-way}
use Rattle.example_structures.proofs.calls.get.Goals as goal

pub returns-clause-none : goal.returns-clause-none
returns-clause-none c =
    let x = c.args.m.now in
    let y = c.get-done.new.self in
    either-way c.get-done.result (ChangesNone x y) _ _ c.get-done.ensures.done c.get-done.ensures.refused (λ _ s. get-none x y c.args.w c.args.v c.args.i s.does) (λ e r. act-none x y e _ r)

pub returns-clause-told : goal.returns-clause-told
returns-clause-told c =
    let x = c.args.m.now in
    let y = c.get-done.new.self in
    either-way c.get-done.result (IsTold 21 x → IsTold 21 y) _ _ c.get-done.ensures.done c.get-done.ensures.refused (λ _ s. get-told x y 21 c.args.w c.args.v c.args.i (λ e. c.requires.other (sym e)) s.does) (λ e r. act-told x y 21 e _ r)
