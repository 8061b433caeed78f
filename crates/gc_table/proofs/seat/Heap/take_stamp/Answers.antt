use Rattle.std.proofs.Common.{rules, sym, ap, subst}
use Rattle.std.proofs.Math.Logic.{∥∥₁_map}
use Rattle.gc_table.specs.Rule.{IsPossible}
use Rattle.gc_table.specs.Seen.{Recalls}
use Rattle.gc_table.proofs.TokensOpened.{stamp-recalls, splits-stamp}
use Rattle.gc_table.proofs.seat.Heap.take_stamp.Goals as goal

pub split_seat-token-requires : goal.split_seat-token-requires
split_seat-token-requires c = (search rules, search rules, splits-stamp _ _ _ _)

pub invariant_of-seat-clause-possible : goal.invariant_of-seat-clause-possible
invariant_of-seat-clause-possible c = ∥∥₁_map c.args.seat.now.possible (λ p. subst IsPossible (sym (ap (λ m. m.0.view) c.split_seat-token.ensures.2)) p)

pub invariant_of-seat-clause-recalls : goal.invariant_of-seat-clause-recalls
invariant_of-seat-clause-recalls c = ∥∥₁_map c.args.seat.now.recalls (λ p. subst Recalls (sym (ap (λ m. m.0) c.split_seat-token.ensures.2)) p)

pub invariant_of-result-clause-recalls : goal.invariant_of-result-clause-recalls
invariant_of-result-clause-recalls c = ∥∥₁_map c.args.seat.now.recalls (λ p. subst Recalls (sym (ap (λ m. m.0) c.split_seat-token.ensures.4)) (stamp-recalls _ p))
