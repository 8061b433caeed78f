use Rattle.std.proofs.Common.{ℕ, ◌<◌, ap, ◌∙◌, sym, subst, refl, Some, None, Option}
use Rattle.mark_core.specs.Seats.{may_mutate}
use Rattle.mark_core.specs.declared.kinds.Shape.{Shape}
use Rattle.mark_core.specs.declared.seat.SeatState.{SeatState}
use Rattle.plain_heap.specs.declared.operation.Op.TheVariants as ops
use Rattle.gc_table.specs.declared.view.View.{View}
use Rattle.gc_table.specs.Seats.{view_of}
use Rattle.gc_table.specs.Taking.{Asked}
use Rattle.mark_core.specs.declared.kinds.Step.TheVariants.{StoreField}
use Rattle.gc_table.proofs.Fitting.{possible-live}
use Rattle.card_clean.specs.Barrier.{IsStorable, MayStore}
use Rattle.card_clean.proofs.Owned.{may-store_field}
use Rattle.card_clean.proofs.Paying.{Stores, stores-paid}
use Rattle.card_clean.proofs.barrier.store_ref.Goals as goal

pub store_field-requires-clause-may : goal.store_field-requires-clause-may
store_field-requires-clause-may c =
    let v : View = view_of c.args.seat.now in
    may-store_field v c.args.v c.args.field c.args.w c.requires.alone (possible-live v c.args.seat.now.possible) c.requires.seat.1 c.requires.own (subst (λ (sh : Shape). c.args.field < sh.fields) (sym c.requires.seat.0.1) c.requires.field) c.requires.stored

asked : (v : View) (u i : ℕ) (w : Option ℕ) → MayStore v → IsStorable v w → Asked (StoreField u i w) v
asked v u i None m h = (m.seen, λ alone. (ops.Set u i h.0, (m.seen, (h.0, h.1, h.2, refl))))
asked v u i (Some w) m h = (m.seen, λ alone. (ops.Set u i w, (m.seen, refl)))

pub store_field-requires-clause-asked : goal.store_field-requires-clause-asked
store_field-requires-clause-asked c = asked (view_of c.args.seat.now) c.args.v c.args.field c.args.w c.requires.seat.1 c.requires.stored

pub pay_card-requires-clause-turn : goal.pay_card-requires-clause-turn
pay_card-requires-clause-turn c = ap (λ (x : View). may_mutate x.state) c.store_field.ensures.view ∙ c.requires.seat.1.turn

pub pay_card-requires-clause-owes : goal.pay_card-requires-clause-owes
pay_card-requires-clause-owes c = sym (ap (λ (s : SeatState). s.owes) c.state.ensures) ∙ c.in-Some.is

stored : (c : goal.After-pay_card) → Stores c.args.v c.args.field c.args.w (view_of c.args.seat.now) (view_of c.pay_card.new.seat)
stored c =
    stores-paid (view_of c.args.seat.now) (view_of c.store_field.new.seat) (view_of c.pay_card.new.seat) c.args.v c.args.field c.in-Some.card c.args.w c.requires.seat.1 c.store_field.ensures.view
    (sym (ap (λ (s : SeatState). s.owes) c.state.ensures) ∙ c.in-Some.is) c.pay_card.ensures.paid

pub returns-in-Some-clause-seat : goal.returns-in-Some-clause-seat
returns-in-Some-clause-seat c = (c.pay_card.ensures.seat, (stored c).may)

pub returns-in-Some-clause-ran : goal.returns-in-Some-clause-ran
returns-in-Some-clause-ran c = (stored c).ran

pub returns-in-Some-clause-steps : goal.returns-in-Some-clause-steps
returns-in-Some-clause-steps c = (stored c).steps

pub returns-in-Some-clause-state : goal.returns-in-Some-clause-state
returns-in-Some-clause-state c = (stored c).state
