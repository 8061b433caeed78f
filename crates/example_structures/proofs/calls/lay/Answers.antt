use Rattle.std.proofs.Common.{arith}
use Rattle.example_structures.specs.Making.{Lays}
use Rattle.example_structures.proofs.Called.{set-some}
use Rattle.example_structures.proofs.Counted.{laid-one}
use Rattle.example_structures.proofs.Refused.{cant-act, either-way}
use Rattle.example_structures.proofs.calls.lay.Goals as goal

pub returns-clause-lays : goal.returns-clause-lays
returns-clause-lays c =
    let x = c.args.m.now in
    let y = c.set-done.new.self in
    either-way c.set-done.result (Lays c.args.v 1 x y) _ _ c.set-done.ensures.done c.set-done.ensures.refused (λ _ s. laid-one x y c.args.v c.args.i (set-some x y c.args.v c.args.i 20 c.requires.some s.does))
    (λ e r. absurd (cant-act x e _ c.requires.inside (c.requires.range.0, c.requires.range.1, omega arith) r.why))
