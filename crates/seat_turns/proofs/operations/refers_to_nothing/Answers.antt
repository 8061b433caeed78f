use Rattle.std.proofs.Common.{ℕ, zero, suc, ◌≡◌, ◌<◌, ◌==◌, false, eqb-true, sym, ◌∙◌, subst, arith}
use Rattle.std.proofs.lemmas.Bool.{OnFalse_from, OnTrue_from, true≢false}
use Rattle.gc_table.specs.Seats.{view_of}
use Rattle.mutator_ops.proofs.Knowing.{nil-variable, some-variable}
use Rattle.seat_turns.proofs.Done.{alone-there}
use Rattle.seat_turns.proofs.Seats.{turn-plays}
use Rattle.seat_turns.proofs.operations.refers_to_nothing.Goals as goal

pub returns-clause-nil : goal.returns-clause-nil
returns-clause-nil c =
    let p = turn-plays c.args._heap.now c.args.seat.now c.requires.turn in
    OnTrue_from _ _ (λ e. nil-variable (view_of c.args.seat.now) c.args.v (alone-there c.args._heap.now c.args.seat.now c.requires.turn.works.sits c.requires.owned) c.args.seat.now.possible p.operates.stores.turn c.requires.range (sym c.word_of.ensures ∙ eqb-true c.word_of.result 0 e))

positive : (w : ℕ) → (w == 0) ≡ false → 0 < w
positive zero e = absurd (true≢false e)
positive (suc w) e = omega arith

pub returns-clause-some : goal.returns-clause-some
returns-clause-some c =
    let p = turn-plays c.args._heap.now c.args.seat.now c.requires.turn in
    OnFalse_from _ _ (λ e. some-variable (view_of c.args.seat.now) c.args.v (alone-there c.args._heap.now c.args.seat.now c.requires.turn.works.sits c.requires.owned) c.args.seat.now.possible p.operates.stores.turn c.requires.range (subst (λ w. 0 < w) c.word_of.ensures (positive c.word_of.result e)))
