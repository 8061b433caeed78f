use Rattle.std.proofs.Common.{ap, ◌∙◌, sym}
use Rattle.mark_core.specs.Seats.{may_mutate}
use Rattle.mark_core.specs.declared.seat.SeatState.{SeatState}
use Rattle.gc_table.specs.declared.view.View.{View}
use Rattle.gc_table.specs.Seats.{view_of}
use Rattle.card_clean.proofs.Paying.{Stores, stores-paid}
use Rattle.card_clean.proofs.sharing.share_ref.Goals as goal

pub pay_card-requires-clause-turn : goal.pay_card-requires-clause-turn
pay_card-requires-clause-turn c = ap (λ (x : View). may_mutate x.state) c.store_field.ensures.view ∙ c.requires.seat.1.turn

pub pay_card-requires-clause-owes : goal.pay_card-requires-clause-owes
pay_card-requires-clause-owes c = sym (ap (λ (s : SeatState). s.owes) c.state.ensures) ∙ c.in-Some.is

stored : (c : goal.After-pay_card) → Stores c.args.v c.args.field c.args.w (view_of c.args.seat.now) (view_of c.pay_card.new.seat)
stored c =
    stores-paid (view_of c.args.seat.now) (view_of c.store_field.new.seat) (view_of c.pay_card.new.seat) c.args.v c.args.field c.in-Some.card c.args.w c.requires.seat.1 c.store_field.ensures.view
    (sym (ap (λ (s : SeatState). s.owes) c.state.ensures) ∙ c.in-Some.is) c.pay_card.ensures.paid

pub returns-in-Some-clause-seat : goal.returns-in-Some-clause-seat
returns-in-Some-clause-seat c = (c.pay_card.ensures.seat, (stored c).may)

pub returns-in-Some-clause-ran : goal.returns-in-Some-clause-ran
returns-in-Some-clause-ran c = (stored c).ran

pub returns-in-Some-clause-steps : goal.returns-in-Some-clause-steps
returns-in-Some-clause-steps c = (stored c).steps

pub returns-in-Some-clause-state : goal.returns-in-Some-clause-state
returns-in-Some-clause-state c = (stored c).state
