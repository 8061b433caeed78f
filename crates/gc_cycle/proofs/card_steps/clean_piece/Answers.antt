use Rattle.std.proofs.Common.{◌≡◌, ◌-◌, ◌+◌, ℕ, arith, ap, subst, ◌≤◌, ◌*◌, length}
use Rattle.mark_core.specs.declared.kinds.Shape.{Shape}
use Rattle.gc_table.specs.Seats.{view_of}
use Rattle.gc_table.specs.declared.view.View.{View}
use Rattle.gc_table.proofs.History.Log.{events-none}
use Rattle.gc_cycle.specs.Events.{never}
use Rattle.gc_cycle.specs.Pieces.{CleansCards}
use Rattle.packet_pools.specs.Counts.{count_of}
use Rattle.gc_cycle.specs.Sorts.{clears, pops}
use Rattle.gc_cycle.proofs.CardPieces.{cleans-none}
use Rattle.gc_cycle.proofs.Traced.{drains-rest, traced-nothing-done}
use Rattle.mark_core.specs.Cards.{card_cells}
use Rattle.card_clean.specs.Leaving.{rescanned_in}
use Rattle.card_clean.specs.StepBounds.{clean_some_steps}
use Rattle.tracer.specs.StepBounds.{recycle_steps}
use Rattle.gc_cycle.proofs.Few.{cards-fewer}
use Rattle.gc_cycle.proofs.card_steps.clean_piece.Goals as goal

pub returns-then-number-eq0-clause-traced : goal.returns-then-number-eq0-clause-traced
returns-then-number-eq0-clause-traced c = let v : View = view_of c.args.seat.now in traced-nothing-done v (drains-rest v c.requires.drains)

pub returns-then-number-eq0-clause-unpopped : goal.returns-then-number-eq0-clause-unpopped
returns-then-number-eq0-clause-unpopped c = ap (never pops) (events-none (view_of c.args.seat.now))

pub returns-then-number-eq0-clause-cleaned : goal.returns-then-number-eq0-clause-cleaned
returns-then-number-eq0-clause-cleaned c =
    let none = c.if-number-eq0.true in
    let many = c.at_most-number.ensures in
    let cells = ap (λ (s : Shape). s.cells) c.shape.ensures in
    (omega (arith, none, many, cells), cleans-none c.args.from (view_of c.args.seat.now))

pub returns-then-number-eq0-clause-counts : goal.returns-then-number-eq0-clause-counts
returns-then-number-eq0-clause-counts c = (omega arith, ap (count_of clears) (events-none (view_of c.args.seat.now)))

pub returns-then-number-eq0-clause-rescanned : goal.returns-then-number-eq0-clause-rescanned
returns-then-number-eq0-clause-rescanned c = let v : View = view_of c.args.seat.now in ap (rescanned_in v) (events-none v)

pub cleans_some-requires-clause-cards : goal.cleans_some-requires-clause-cards
cleans_some-requires-clause-cards c =
    let some = c.if-number-eq0.false in
    let many = c.at_most-number.ensures in
    let cells = ap (λ (s : Shape). s.cells) c.shape.ensures in
    (omega arith, omega (arith, some, many, cells))

pub returns-in-Some-clause-cleaned : goal.returns-in-Some-clause-cleaned
returns-in-Some-clause-cleaned c =
    let n : ℕ = c.at_most-number.result in
    let same : c.args.from + n - c.args.from ≡ n = omega arith in
    let many = c.at_most-number.ensures in
    let cells = ap (λ (s : Shape). s.cells) c.shape.ensures in
    (omega (arith, many, cells), subst (λ k. CleansCards c.args.from k (view_of c.args.seat.now) (view_of c.cleans_some.new.seat)) same c.in-Some.ensures.cleaned)

pub returns-in-Some-clause-counts : goal.returns-in-Some-clause-counts
returns-in-Some-clause-counts c = let counts = c.in-Some.ensures.counts in (omega (arith, counts.0), counts.1)

pub returns-then-number-eq0-clause-few : goal.returns-then-number-eq0-clause-few
returns-then-number-eq0-clause-few c = let none = ap length (events-none (view_of c.args.seat.now)) in omega (arith, none)

-- what was passed is at most what was to be
piece-few : (from number most : ℕ) (sh : Shape) (k r : ℕ) → number ≤ most → k ≤ clean_some_steps (from + number - from) (card_cells * (from + number - from)) sh + r → k ≤ clean_some_steps most (card_cells * most) sh + r
piece-few from number most sh k r l few =
    let n : ℕ = from + number - from in
    let same : n ≡ number = omega arith in
    let all = cards-fewer n most (card_cells * n) (card_cells * most) sh (clean_some_steps n (card_cells * n) sh) (omega (arith, same, l)) (omega (arith, same, l)) (omega arith) in
    omega (arith, few, all)

pub returns-in-Some-clause-few : goal.returns-in-Some-clause-few
returns-in-Some-clause-few c =
    let sh : Shape = c.args.heap.now.shape in
    let many = c.at_most-number.ensures in
    piece-few c.args.from c.at_most-number.result c.args.most sh _ (recycle_steps sh) (omega (arith, many)) c.cleans_some.ensures.few

pub returns-in-None-clause-few : goal.returns-in-None-clause-few
returns-in-None-clause-few c =
    let sh : Shape = c.args.heap.now.shape in
    let many = c.at_most-number.ensures in
    piece-few c.args.from c.at_most-number.result c.args.most sh _ (recycle_steps sh) (omega (arith, many)) c.cleans_some.ensures.few
