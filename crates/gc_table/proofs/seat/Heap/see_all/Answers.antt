use Rattle.std.proofs.Common.{rules, sym, ap, subst}
use Rattle.std.proofs.Math.Logic.{∥∥₁_map}
use Rattle.gc_table.specs.Rule.{IsPossible}
use Rattle.gc_table.proofs.Allowed.{allows-look}
use Rattle.gc_table.proofs.Fitting.{possible-live}
use Rattle.gc_table.proofs.seat.Heap.see_all.Goals as goal

pub load-requires : goal.load-requires
load-requires c =
    let s = c.args.seat.now in
    (search rules, search rules, allows-look _ _ _ _ _ _ s.bare s.seated (possible-live _ s.possible))

pub invariant_of-seat-clause-possible : goal.invariant_of-seat-clause-possible
invariant_of-seat-clause-possible c = ∥∥₁_map c.args.seat.now.possible (λ p. subst IsPossible (sym (ap (λ m. m.0.view) c.load.ensures.2.0)) p)

pub invariant_of-seat-clause-recalls : goal.invariant_of-seat-clause-recalls
invariant_of-seat-clause-recalls c = ∣ c.load.ensures.2.1 ∣₁

pub returns-clause-sees : goal.returns-clause-sees
returns-clause-sees c = let q = c.load.ensures.2 in record { view = ap (λ m. m.0.view) q.0; own = q.2.0; all = q.2.2 }
