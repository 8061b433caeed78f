use Rattle.std.proofs.Common.{ap, ◌∙◌, sym}
use Rattle.mark_core.specs.Seats.{may_mutate}
use Rattle.gc_table.specs.declared.view.View.{View}
use Rattle.gc_table.specs.Seats.{view_of}
use Rattle.card_clean.proofs.Owned.{may-check_owed, may-dirty_owed}
use Rattle.card_clean.proofs.Paying.{paid-clean, paid-dirty, still-owes}
use Rattle.card_clean.proofs.barrier.pay_card.Goals as goal

pub check_card-requires-clause-may : goal.check_card-requires-clause-may
check_card-requires-clause-may c = may-check_owed (view_of c.args.seat.now) c.args.card c.requires.turn c.requires.owes

pub dirty_card-requires-clause-may : goal.dirty_card-requires-clause-may
dirty_card-requires-clause-may c =
    let v : View = view_of c.args.seat.now in
    let w : View = view_of c.check_card.new.seat in
    let e = c.check_card.ensures.view in
    may-dirty_owed w c.args.card (ap (λ (x : View). may_mutate x.state) e.1 ∙ c.requires.turn) (still-owes v w c.args.card e.0 e.1 (sym e.3 ∙ c.if-not-check_card.true) ∙ c.requires.owes)

pub returns-then-not-check_card-clause-paid : goal.returns-then-not-check_card-clause-paid
returns-then-not-check_card-clause-paid c =
    let v : View = view_of c.args.seat.now in
    let w : View = view_of c.check_card.new.seat in
    let e = c.check_card.ensures.view in
    paid-clean v w (view_of c.dirty_card.new.seat) c.args.card e.0 (e.1, e.2) (sym e.3 ∙ c.if-not-check_card.true) c.dirty_card.ensures.view

pub returns-else-not-check_card-clause-paid : goal.returns-else-not-check_card-clause-paid
returns-else-not-check_card-clause-paid c =
    let v : View = view_of c.args.seat.now in
    let w : View = view_of c.check_card.new.seat in
    let e = c.check_card.ensures.view in
    paid-dirty v w c.args.card e.0 c.requires.owes (e.1, e.2) (sym e.3 ∙ c.if-not-check_card.false)
