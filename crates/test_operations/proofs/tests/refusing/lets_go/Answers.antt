use Rattle.std.proofs.Common.{ℕ, ◌≡◌, ◌∙◌, Some, ap, false, refl, subst, sym}
use Rattle.std.proofs.lemmas.Bool.{false≢true}
use Rattle.mark_core.specs.Cards.{card_of}
use Rattle.mark_core.specs.Held.{known_length}
use Rattle.mark_core.specs.Seats.{work_in_hand}
use Rattle.mark_core.specs.declared.kinds.Shape.{Shape}
use Rattle.mark_core.specs.declared.kinds.Step.TheVariants.{DirtyCard}
use Rattle.mark_core.specs.declared.seat.SeatState.{SeatState}
use Rattle.gc_table.specs.Seats.{Stored, state_of, view_of}
use Rattle.gc_table.specs.Taking.{May}
use Rattle.gc_table.specs.declared.view.View.{View}
use Rattle.packet_pools.specs.Hands.{HoldsPacket}
use Rattle.packet_pools.specs.Tracing.{Traces}
use Rattle.packet_pools.specs.declared.held.Held.{Held}
use Rattle.packet_pools.proofs.Doing.{traces-on}
use Rattle.packet_pools.proofs.Filled.{held-same}
use Rattle.packet_pools.proofs.ScanSteps.{fresh-answers, may-dirty_card, traced-dirty_card}
use Rattle.test_operations.proofs.tests.refusing.lets_go.Goals as goal

-- the card of the cell in hand was dirtied
module _ (v w : View) (x card : ℕ) (fresh : v.state.fresh ≡ Some x) (is : card ≡ card_of x) (e : Stored (DirtyCard card) v w) where
  dirtied-traces : Traces v → Traces w
  dirtied-traces t =
      traces-on v w (traced-dirty_card v w _ card refl (fresh-answers v.state x card fresh (sym is)) e) t (ap (λ (z : View). z.state.reserved) e) (ap (λ (z : View). z.state.credit) e)

  dirtied-held : (h : Held) → HoldsPacket h v → HoldsPacket h w
  dirtied-held h k = held-same v w h (ap (λ (z : View). z.shape) e) (ap (λ (z : View). known_length z.state.held h.packet) e) k

pub dirty_card-requires-clause-may : goal.dirty_card-requires-clause-may
dirty_card-requires-clause-may g c =
    let v : View = view_of c.args.seat.now in
    subst (λ k. May (DirtyCard k) v) (sym c.card_of.ensures) (may-dirty_card v c.args.cell c.requires.seat.1.may c.requires.fresh)

pub give-requires-clause-seat : goal.give-requires-clause-seat
give-requires-clause-seat g c = (
  c.dirty_card.ensures.seat,
  dirtied-traces (view_of c.args.seat.now) (view_of c.dirty_card.new.seat) c.args.cell c.card_of.result c.requires.fresh c.card_of.ensures c.dirty_card.ensures.view c.requires.seat.1,
)

pub give-requires-clause-held : goal.give-requires-clause-held
give-requires-clause-held g c =
    dirtied-held (view_of c.args.seat.now) (view_of c.dirty_card.new.seat) c.args.cell c.card_of.result c.requires.fresh c.card_of.ensures c.dirty_card.ensures.view c.args.held c.requires.held

pub give-requires-clause-work : goal.give-requires-clause-work
give-requires-clause-work g c work =
    let s : SeatState = state_of c.dirty_card.new.seat in
    let idle : work_in_hand c.args.heap.now.shape.fields s ≡ false = ap (λ (sh : Shape). work_in_hand sh.fields s) (sym c.shape.ensures) ∙ (sym c.work_in_hand.ensures ∙ c.if-work_in_hand.false) in
    absurd (false≢true (sym idle ∙ work))
