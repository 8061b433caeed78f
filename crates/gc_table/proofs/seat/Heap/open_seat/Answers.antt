use Rattle.std.proofs.Common.{rules, ◌≡◌, ◌∙◌, sym, ap, subst, arith}
use Rattle.std.proofs.Math.Logic.{∥∥₁_map}
use Rattle.mark_core.specs.Shapes.{IsShape}
use Rattle.mark_core.specs.Start.{start_seat}
use Rattle.gc_table.specs.declared.view.View.{View}
use Rattle.gc_table.specs.Rule.{IsPossible}
use Rattle.gc_table.specs.Seen.{Recalls}
use Rattle.gc_table.proofs.Opening.{newcomer-possible, opens-possible}
use Rattle.gc_table.proofs.TokensOpened.{newcomer-recalls, opens-recalls, splits-seat}
use Rattle.gc_table.proofs.seat.Heap.open_seat.Goals as goal

pub split_seat-token-requires : goal.split_seat-token-requires
split_seat-token-requires c =
    let q = c.requires in
    let v : View = c.args.first.now.token.me.0.view in
    let h = c.args.self.now in
    let shaped : v.shape ≡ h.table.shared.key.shape = q.seat.0.1 ∙ h.keyed in
    (search rules, search rules, splits-seat _ _ _ c.args.first.now.token.me.0 c.args.first.now.seated shaped q.plan (q.seat.1 ∙ ap (λ sh. start_seat sh 0) h.keyed) (omega (arith, q.number.0, q.number.1)))

pub invariant_of-first-clause-possible : goal.invariant_of-first-clause-possible
invariant_of-first-clause-possible c = ∥∥₁_map c.args.first.now.possible (λ p. subst IsPossible (sym (ap (λ m. m.0.view) c.split_seat-token.ensures.2)) (opens-possible (c.args.first.now.token.me.0.view) p))

pub invariant_of-result-clause-agrees : goal.invariant_of-result-clause-agrees
invariant_of-result-clause-agrees c =
    let q = c.requires in
    c.start_seat.ensures ∙ ((λ x. start_seat (sym q.seat.0.1 x) (sym q.number.0 x)) ∙ sym (ap (λ m. m.0.view.state) c.split_seat-token.ensures.4))

pub invariant_of-result-clause-possible : goal.invariant_of-result-clause-possible
invariant_of-result-clause-possible c =
    let q = c.requires in
    let v : View = c.args.first.now.token.me.0.view in
    ∣ subst IsPossible (sym (ap (λ m. m.0.view) c.split_seat-token.ensures.4)) (newcomer-possible v.shape v.plan v.opened (subst IsShape (sym q.seat.0.1) c.args.self.now.shaped) (omega (arith, q.number.0, q.number.1))) ∣₁

pub invariant_of-first-clause-recalls : goal.invariant_of-first-clause-recalls
invariant_of-first-clause-recalls c = ∥∥₁_map c.args.first.now.recalls (λ p. subst Recalls (sym (ap (λ m. m.0) c.split_seat-token.ensures.2)) (opens-recalls (c.args.first.now.token.me.0) p))

pub invariant_of-result-clause-recalls : goal.invariant_of-result-clause-recalls
invariant_of-result-clause-recalls c =
    let q = c.requires in
    let v : View = c.args.first.now.token.me.0.view in
    ∣ subst Recalls (sym (ap (λ m. m.0) c.split_seat-token.ensures.4)) (newcomer-recalls v.shape v.plan v.opened (subst IsShape (sym q.seat.0.1) c.args.self.now.shaped)) ∣₁
