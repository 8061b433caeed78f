use Rattle.std.proofs.Common.{◌≡◌, ◌∙◌, sym, subst, true, inl, inr}
use Rattle.std.specs.Prelude.{Some}
use Rattle.std.proofs.lemmas.Bool.{OnFalse_at, OnTrue_at, false≢true}
use Rattle.gc_script.specs.Shown.{execution_of}
use Rattle.gc_table.specs.Seats.{view_of}
use Rattle.mark_core.specs.Seats.{has_turn}
use Rattle.warehouse.proofs.Coming.{comes-by, comes-full, comes-going, makes-new, moved, own-turn}
use Rattle.warehouse.proofs.commands.come_late.Goals as goal

pub await_cell-requires-clause-owned : goal.await_cell-requires-clause-owned
await_cell-requires-clause-owned g c = c.requires.left.left.of.owned

pub await_cell-requires-clause-turn : goal.await_cell-requires-clause-turn
await_cell-requires-clause-turn g c =
    let n = c.requires.left in
    subst (λ k. has_turn (view_of c.args.mutator.now.seat).state.section (Some k) ≡ true) (sym n.part.0) (own-turn c.args.section.now.number n.z _ n.part.1 n.left.of.own)

pub await_turn-requires-clause-owned : goal.await_turn-requires-clause-owned
await_turn-requires-clause-owned g c = c.requires.left.left.of.owned

pub await_turn-requires-clause-turn : goal.await_turn-requires-clause-turn
await_turn-requires-clause-turn g c =
    let n = c.requires.left in
    subst (λ k. has_turn (view_of c.args.mutator.now.seat).state.section (Some k) ≡ true) (sym n.part.0) (own-turn c.args.section.now.number n.z _ n.part.1 n.left.of.own)

pub returns-then-makes : goal.returns-then-makes
returns-then-makes g c =
    let h = c.args.heap.now in
    let p = c.args.section.now in
    let e = execution_of c.args.command.now in
    let m = c.args.mutator.now in
    let s = c.await_cell.new.seat in
    let kept = c.await_cell.new.cache in
    let a = c.await_cell.ensures in
    comes-by c.await_cell.result h p c.args.turn kept e m (moved m s)
    (λ is. let k = OnTrue_at is a.ready in comes-going h p c.args.turn e m s a.seat c.requires.playing.counted c.requires.left kept k.0 (λ makes. k.1))
    (λ is.
    let k = OnFalse_at is a.full in
    (comes-full h p c.args.turn e m s a.seat c.requires.playing.counted c.requires.left k.0 (λ full. inr (makes-new e.op (sym c.makes.ensures ∙ c.if-makes.true))), k.1))

pub returns-else-makes : goal.returns-else-makes
returns-else-makes g c =
    let h = c.args.heap.now in
    let p = c.args.section.now in
    let e = execution_of c.args.command.now in
    let m = c.args.mutator.now in
    let s = c.await_turn.new.seat in
    let kept = c.await_turn.new.cache in
    let a = c.await_turn.ensures in
    comes-by c.await_turn.result h p c.args.turn kept e m (moved m s)
    (λ is.
    comes-going h p c.args.turn e m s a.seat c.requires.playing.counted c.requires.left kept (OnTrue_at is a.ready)
    (λ makes. absurd (false≢true (sym c.if-makes.false ∙ (c.makes.ensures ∙ makes)))))
    (λ is.
    let k = OnFalse_at is a.full in
    (comes-full h p c.args.turn e m s a.seat c.requires.playing.counted c.requires.left k.0 (λ full. inl (sym a.unfilled ∙ full)), k.1))
