use Rattle.std.proofs.Common.{rules, sym, ap, subst, ◌∙◌}
use Rattle.std.proofs.Math.Logic.{∥∥₁_map}
use Rattle.gc_table.specs.Rule.{IsPossible}
use Rattle.gc_table.proofs.Allowed.{allows-look}
use Rattle.gc_table.proofs.Fitting.{possible-live}
use Rattle.gc_table.proofs.TokensClosed.{joins-stamp, learned}
use Rattle.gc_table.proofs.seat.Heap.learn.Goals as goal

pub join_seat-requires : goal.join_seat-requires
join_seat-requires c = (search rules, search rules, search rules, search rules, joins-stamp _ _ _ _ _ _ c.args.seat.now.seated c.args.stamp.is_stamp)

pub load-requires : goal.load-requires
load-requires c =
    let s = c.args.seat.now in (
      search rules,
      search rules,
      allows-look _ _ _ _ _ _ (ap (λ m. m.1) c.join_seat.ensures.2 ∙ s.bare) (ap (λ m. m.0.stamp) c.join_seat.ensures.2 ∙ s.seated) (ap (λ m. m.0.view.state.spent) c.join_seat.ensures.2 ∙ possible-live _ s.possible),
    )

pub invariant_of-seat-clause-possible : goal.invariant_of-seat-clause-possible
invariant_of-seat-clause-possible c = ∥∥₁_map c.args.seat.now.possible (λ p. subst IsPossible (sym (ap (λ m. m.0.view) c.load.ensures.2.0 ∙ ap (λ m. m.0.view) c.join_seat.ensures.2)) p)

pub invariant_of-seat-clause-recalls : goal.invariant_of-seat-clause-recalls
invariant_of-seat-clause-recalls c = ∣ c.load.ensures.2.1 ∣₁

pub returns-clause-sees : goal.returns-clause-sees
returns-clause-sees c =
    let s = c.args.seat.now.token.me.0 in
    let heard = ap (λ m. m.0) c.join_seat.ensures.2 in
    let q = c.load.ensures.2 in
    record { view = ap (λ m. m.0.view) q.0 ∙ ap (λ k. k.view) heard; own = (learned s c.args.stamp.token.me.0 c.join_seat.new.seat.me.0 c.load.new.seat.me.0 heard q.2).0; all = q.2.2 }

pub returns-clause-told : goal.returns-clause-told
returns-clause-told c = (learned c.args.seat.now.token.me.0 c.args.stamp.token.me.0 c.join_seat.new.seat.me.0 c.load.new.seat.me.0 (ap (λ m. m.0) c.join_seat.ensures.2) c.load.ensures.2.2).1
