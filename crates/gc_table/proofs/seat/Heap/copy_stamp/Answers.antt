use Rattle.std.proofs.Common.{rules, sym, ap, subst}
use Rattle.std.proofs.Math.Logic.{∥∥₁_map}
use Rattle.gc_table.specs.Seen.{Recalls}
use Rattle.gc_table.proofs.TokensOpened.{stamp-recalls, splits-stamp}
use Rattle.gc_table.proofs.seat.Heap.copy_stamp.Goals as goal

pub split_seat-token-requires : goal.split_seat-token-requires
split_seat-token-requires c = (search rules, search rules, splits-stamp _ _ _ _)

pub invariant_of-stamp-clause-recalls : goal.invariant_of-stamp-clause-recalls
invariant_of-stamp-clause-recalls c = ∥∥₁_map c.args.stamp.now.recalls (λ p. subst Recalls (sym (ap (λ m. m.0) c.split_seat-token.ensures.2)) p)

pub invariant_of-result-clause-recalls : goal.invariant_of-result-clause-recalls
invariant_of-result-clause-recalls c = ∥∥₁_map c.args.stamp.now.recalls (λ p. subst Recalls (sym (ap (λ m. m.0) c.split_seat-token.ensures.4)) (stamp-recalls _ p))
