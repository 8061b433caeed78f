use Rattle.std.proofs.Common.{ℕ, ◌≡◌, ◌∙◌, Bool, ap, refl, sym, subst}
use Rattle.mark_core.specs.Seats.{used_in}
use Rattle.mark_core.specs.declared.seat.SeatState.{SeatState}
use Rattle.gc_table.specs.Seats.{view_of}
use Rattle.mutator_ops.specs.Weak.{PublishesIf}
use Rattle.mutator_ops.proofs.WeakTaken.{by-one, may-publish, published-clear, published-ready}
use Rattle.mutator_ops.proofs.weak.publish_own.Goals as goal

-- what the test found is true of the seat
same : (n : ℕ) {m : Bool} {s t : SeatState} → s ≡ t → m ≡ used_in s.cache n → used_in t.cache n ≡ m
same n {m} {s} {t} e f = ap (λ (x : SeatState). used_in x.cache n) (sym e) ∙ sym f

pub publish_cells-requires-clause-may : goal.publish_cells-requires-clause-may
publish_cells-requires-clause-may c = may-publish c.args.c (view_of c.args.seat.now) c.requires.seat.1 (same c.args.c c.state.ensures c.used_in.ensures ∙ c.if-used_in.true)

pub returns-then-used_in-clause-seat : goal.returns-then-used_in-clause-seat
returns-then-used_in-clause-seat c =
    let v = view_of c.args.seat.now in
    let w = view_of c.publish_cells.new.seat in
    (c.publish_cells.ensures.seat, published-ready v w c.requires.seat.1 (by-one c.publish_cells.result v w c.publish_cells.ensures.view))

pub returns-then-used_in-clause-publishes : goal.returns-then-used_in-clause-publishes
returns-then-used_in-clause-publishes c =
    subst (λ b. PublishesIf b (view_of c.args.seat.now) (view_of c.publish_cells.new.seat)) (sym (same c.args.c c.state.ensures c.used_in.ensures ∙ c.if-used_in.true)) (c.publish_cells.result, c.publish_cells.ensures.view)

pub returns-then-used_in-clause-none : goal.returns-then-used_in-clause-none
returns-then-used_in-clause-none c = published-clear c.args.c c.publish_cells.result (view_of c.args.seat.now) (view_of c.publish_cells.new.seat) c.publish_cells.ensures.view

pub returns-else-used_in-clause-publishes : goal.returns-else-used_in-clause-publishes
returns-else-used_in-clause-publishes c = subst (λ b. PublishesIf b (view_of c.args.seat.now) (view_of c.args.seat.now)) (sym (same c.args.c c.state.ensures c.used_in.ensures ∙ c.if-used_in.false)) refl
