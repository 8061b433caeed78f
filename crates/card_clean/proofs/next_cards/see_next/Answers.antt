use Rattle.std.proofs.Common.{◌<◌, sym, ap, ◌∙◌, subst, Some, None}
use Rattle.std.proofs.lemmas.Bool.{lt-ltb}
use Rattle.mark_core.specs.Layout.{card_count}
use Rattle.mark_core.specs.declared.kinds.Shape.{Shape}
use Rattle.gc_table.specs.Seats.{view_of}
use Rattle.gc_table.specs.declared.view.View.{View}
use Rattle.packet_pools.proofs.Doing.{traces-on}
use Rattle.card_clean.proofs.NextCards.{passed-drawn, passed-join, passed-traced}
use Rattle.card_clean.proofs.Steps.{traced-read_card}
use Rattle.card_clean.proofs.next_cards.see_next.Goals as goal

pub read_card-requires-clause-may : goal.read_card-requires-clause-may
read_card-requires-clause-may c = λ x i s a.
    (lt-ltb c.in-Some.card (card_count x.core.shape) (subst (λ (sh : Shape). c.in-Some.card < card_count sh) (sym c.next_card.ensures.seat.0.1 ∙ a.shape) c.in-Some.ensures.there), tt)

pub returns-in-Some-clause-seat : goal.returns-in-Some-clause-seat
returns-in-Some-clause-seat c =
    let w : View = view_of c.next_card.new.seat in
    let x : View = view_of c.read_card.new.seat in
    let e = c.read_card.ensures.view in
    (c.read_card.ensures.seat, traces-on w x (traced-read_card w x e.0 c.in-Some.card e.2 e.1) c.next_card.ensures.seat.1 (ap (λ (z : View). z.state.reserved) e.1) (ap (λ (z : View). z.state.credit) e.1))

pub returns-in-Some-clause-only : goal.returns-in-Some-clause-only
returns-in-Some-clause-only c =
    let v : View = view_of c.args.seat.now in
    let w : View = view_of c.next_card.new.seat in
    let x : View = view_of c.read_card.new.seat in
    let n = c.next_card.ensures in
    let e = c.read_card.ensures.view in
    passed-join v w x (passed-drawn (Some c.in-Some.card) v w n.ran n.only c.in-Some.ensures.draws n.state) (passed-traced w x (traced-read_card w x e.0 c.in-Some.card e.2 e.1))

pub returns-in-None-clause-only : goal.returns-in-None-clause-only
returns-in-None-clause-only c = let n = c.next_card.ensures in passed-drawn None (view_of c.args.seat.now) (view_of c.next_card.new.seat) n.ran n.only c.in-None.ensures.draws n.state
