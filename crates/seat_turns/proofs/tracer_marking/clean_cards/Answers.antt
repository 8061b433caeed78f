use Rattle.std.proofs.Common.{◌≤◌, arith, false, subst, sym}
use Rattle.mark_core.specs.Held.{Slots}
use Rattle.gc_table.specs.Seats.{view_of}
use Rattle.packet_pools.specs.Hands.{free_slots}
use Rattle.card_clean.proofs.Few.{next-few}
use Rattle.seat_turns.specs.CardPass.{turn_cards}
use Rattle.seat_turns.proofs.Cards.{cards-passed, passes-some}
use Rattle.seat_turns.proofs.TracerStanding.{empty-of, marks-idle, marks-passed, marks-trace}
use Rattle.seat_turns.proofs.tracer_marking.clean_cards.Goals as goal

pub clean_next-requires-clause-seat : goal.clean_next-requires-clause-seat
clean_next-requires-clause-seat c = (c.requires.goes.sits, marks-trace c.args.heap.now c.args.seat.now c.requires)

pub clean_next-requires-clause-free : goal.clean_next-requires-clause-free
clean_next-requires-clause-free c = subst (λ (hs : Slots). 2 ≤ free_slots hs) (sym (marks-idle c.args.heap.now c.args.seat.now c.args.seat.now.possible c.requires).held) (omega arith)

pub clean_next-requires-clause-work : goal.clean_next-requires-clause-work
clean_next-requires-clause-work c = (empty-of c.args.heap.now.shape (view_of c.args.seat.now).state c.requires.goes.idle).work

pub returns-clause-seat : goal.returns-clause-seat
returns-clause-seat c = let e = c.clean_next.ensures in marks-passed c.args.heap.now c.args.seat.now c.clean_next.new.seat c.requires e.only e.seat.0 e.seat.1 e.held e.work

pub returns-clause-tends : goal.returns-clause-tends
returns-clause-tends c =
    let e = c.clean_next.ensures in cards-passed c.clean_next.result false turn_cards (view_of c.args.seat.now) (view_of c.clean_next.new.seat) e.only e.some e.none

pub returns-clause-passes : goal.returns-clause-passes
returns-clause-passes c = let e = c.clean_next.ensures in passes-some c.clean_next.result (view_of c.args.seat.now) (view_of c.clean_next.new.seat) e.some e.none

pub returns-clause-few : goal.returns-clause-few
returns-clause-few c = next-few c.clean_next.result turn_cards c.args.heap.now.shape _ c.clean_next.ensures.few
