use Rattle.std.proofs.Common.{sym}
use Rattle.mark_core.specs.Steps.MutatorSteps.{seat_variable as word_in}
use Rattle.gc_table.specs.Seats.{Across, state_of}
use Rattle.mutator_ops.specs.Sharing.{SetsVariable}
use Rattle.example_structures.specs.Changes.{ChangesNone, IsTold}
use Rattle.example_structures.proofs.Called.{variable-none, variable-told}
use Rattle.example_structures.proofs.Refused.{act-none, act-told, cant-act, either-way}
use Rattle.example_structures.proofs.calls.copy.Goals as goal

pub returns-clause-none : goal.returns-clause-none
returns-clause-none c =
    let x = c.args.m.now in
    let y = c.copy-done.new.self in
    either-way c.copy-done.result (ChangesNone x y) _ _ c.copy-done.ensures.done c.copy-done.ensures.refused (λ _ s. variable-none x y c.args.w _ s.does) (λ e r. act-none x y e _ r)

pub returns-clause-told : goal.returns-clause-told
returns-clause-told c =
    let x = c.args.m.now in
    let y = c.copy-done.new.self in
    either-way c.copy-done.result (IsTold 21 x → IsTold 21 y) _ _ c.copy-done.ensures.done c.copy-done.ensures.refused (λ _ s. variable-told x y 21 c.args.w _ (λ e. c.requires.other (sym e)) s.does) (λ e r. act-told x y 21 e _ r)

pub returns-clause-sets : goal.returns-clause-sets
returns-clause-sets c =
    let x = c.args.m.now in
    let y = c.copy-done.new.self in
    either-way c.copy-done.result (Across (SetsVariable c.args.w (word_in (state_of x.seat) c.args.v)) x.seat y.seat) _ _ c.copy-done.ensures.done c.copy-done.ensures.refused (λ _ s. s.does)
    (λ e r. absurd (cant-act x e _ c.requires.inside (c.requires.range.0, c.requires.range.1) r.why))
