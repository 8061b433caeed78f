use Rattle.std.proofs.Common.{length, sym, ap, ◌∙◌, subst, arith}
use Rattle.mark_core.proofs.Opening.{start-length}
use Rattle.gc_table.specs.Rule.{IsPossible}
use Rattle.gc_table.specs.Seen.{Recalls}
use Rattle.gc_table.proofs.Opening.{newcomer-possible}
use Rattle.gc_table.proofs.TokensOpened.{newcomer-recalls, starts-history}
use Rattle.gc_table.proofs.seat.Heap.first.Goals as goal

pub of_words-requires : goal.of_words-requires
of_words-requires c = starts-history c.args.shape c.args.plan.parts _ c.requires (c.as_slice.ensures.value ∙ c.in_ok-words.ensures)

pub invariant_of-result-clause-sized : goal.invariant_of-result-clause-sized
invariant_of-result-clause-sized c = c.in_ok-table.ensures.0 ∙ (ap length (c.as_slice.ensures.value ∙ c.in_ok-words.ensures) ∙ start-length c.args.shape)

pub invariant_of-result-2-clause-agrees : goal.invariant_of-result-2-clause-agrees
invariant_of-result-2-clause-agrees c = c.start_seat-state.ensures ∙ sym (ap (λ m. m.0.view.state) c.in_ok-table.ensures.4)

pub invariant_of-result-2-clause-possible : goal.invariant_of-result-2-clause-possible
invariant_of-result-2-clause-possible c = ∣ subst IsPossible (sym (ap (λ m. m.0.view) c.in_ok-table.ensures.4)) (newcomer-possible c.args.shape c.args.plan.parts 0 c.requires (omega arith)) ∣₁

pub invariant_of-result-2-clause-recalls : goal.invariant_of-result-2-clause-recalls
invariant_of-result-2-clause-recalls c = ∣ subst Recalls (sym (ap (λ m. m.0) c.in_ok-table.ensures.4)) (newcomer-recalls c.args.shape c.args.plan.parts 0 c.requires) ∣₁
