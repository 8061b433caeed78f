use Rattle.std.proofs.Common.{ℕ, ◌≡◌, ◌<◌, ◌+◌, ◌∙◌, ⊎_elim, ap, arith, get_or, sym}
use Rattle.std.proofs.lemmas.Option.{get_or_from_slice_get, slice_get_within}
use Rattle.gc_table.specs.Seats.{state_of}
use Rattle.managed_heap.proofs.SeatsGathered.{below-or-last}
use Rattle.managed_heap.proofs.gathering.are_all.Goals as goal

pub loop-at-preserved : goal.loop-at-preserved
loop-at-preserved g c = record {
  order = λ k m below at.
      ⊎_elim (λ (l : k < c.loop-at.at). c.loop-at.invariant.order k m l at)
      (λ (e : k ≡ c.loop-at.at).
      let same : get_or c.args.all.now c.loop-at.at c.index-all-at.result ≡ m =
      ap (λ n. get_or c.args.all.now n c.index-all-at.result) (sym e) ∙ get_or_from_slice_get c.args.all.now k m c.index-all-at.result at in
      ap (λ x. (state_of (g.M.Lent.seat_in x)).number) (sym same) ∙ (ap (λ x. (state_of (g.M.Lent.seat_in x)).number) (sym c.index-all-at.is) ∙ (sym c.seat_number.ensures.number ∙ (c.if-seat_number-first.false ∙ ap (λ (n : ℕ). c.args.first + n) (sym e)))))
      (below-or-last k c.loop-at.at below);
}

pub returns-clause-all : goal.returns-clause-all
returns-clause-all g c = (
  c.if-all-count.false,
  λ i m at. c.loop-at.invariant.order i m (let within = slice_get_within c.args.all.now i m at in let over = c.loop-at-test.false in omega (arith, within, over)) at,
)
