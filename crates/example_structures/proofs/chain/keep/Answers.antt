use Rattle.example_structures.specs.Changes.{IsTold}
use Rattle.example_structures.specs.Maps.{Renews}
use Rattle.example_structures.proofs.Called.{set-changes, set-told}
use Rattle.example_structures.proofs.Counted.{kept-renews, none-renews}
use Rattle.example_structures.proofs.Refused.{act-none, act-told, either-way}
use Rattle.example_structures.proofs.chain.keep.Goals as goal

pub returns-clause-made : goal.returns-clause-made
returns-clause-made c =
    let x = c.args.m.now in
    let y = c.set-done.new.self in
    either-way c.set-done.result (Renews 0 x y) _ _ c.set-done.ensures.done c.set-done.ensures.refused (λ _ s. kept-renews x y c.args.i c.args.v (set-changes x y 26 c.args.i c.args.v s.does)) (λ e r. none-renews x y (act-none x y e _ r))

pub returns-clause-told : goal.returns-clause-told
returns-clause-told c =
    let x = c.args.m.now in
    let y = c.set-done.new.self in
    either-way c.set-done.result (IsTold 21 x → IsTold 21 y) _ _ c.set-done.ensures.done c.set-done.ensures.refused (λ _ s. set-told x y 21 26 c.args.i c.args.v s.does) (λ e r. act-told x y 21 e _ r)
