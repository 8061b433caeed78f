use Rattle.std.proofs.Common.{◌≡◌, ◌==◌, sym, ◌∙◌, eqb-true, false}
use Rattle.std.proofs.lemmas.Bool.{OnFalse_from, OnTrue_from, eq-eqb, true≢false}
use Rattle.plain_heap.specs.PlainHeap.{variable}
use Rattle.gc_table.specs.Seats.{view_of}
use Rattle.seat_turns.specs.Standing.{plain_of}
use Rattle.seat_turns.proofs.Naming.{one-reference, one-word}
use Rattle.seat_turns.proofs.Done.{alone-there}
use Rattle.seat_turns.proofs.Seats.{turn-plays}
use Rattle.seat_turns.proofs.operations.refer_to_one.Goals as goal

pub returns-clause-one : goal.returns-clause-one
returns-clause-one c =
    let p = turn-plays c.args._heap.now c.args.seat.now c.requires.turn in
    OnTrue_from _ _
    (λ e. one-reference (view_of c.args.seat.now) c.args.v c.args.w (alone-there c.args._heap.now c.args.seat.now c.requires.turn.works.sits c.requires.owned) c.args.seat.now.possible p.operates.stores.turn c.requires.range.0 c.requires.range.1 (sym c.word_of.ensures ∙ (eqb-true c.word_of.result c.word_of-2.result e ∙ c.word_of-2.ensures)))

pub returns-clause-two : goal.returns-clause-two
returns-clause-two c =
    let p = turn-plays c.args._heap.now c.args.seat.now c.requires.turn in
    let s = c.args.seat.now in
    let other : (c.word_of.result == c.word_of-2.result) ≡ false → variable (plain_of s) c.args.v ≡ variable (plain_of s) c.args.w → ⊥ =
    λ e same.
    true≢false
    (sym (eq-eqb c.word_of.result c.word_of-2.result (c.word_of.ensures ∙ (one-word (view_of s) c.args.v c.args.w (alone-there c.args._heap.now c.args.seat.now c.requires.turn.works.sits c.requires.owned) s.possible p.operates.stores.turn c.requires.range.0 c.requires.range.1 same ∙ sym c.word_of-2.ensures))) ∙ e) in
    OnFalse_from _ _ other
