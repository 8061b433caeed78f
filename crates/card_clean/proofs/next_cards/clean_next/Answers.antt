use Rattle.std.proofs.Common.{◌≤◌, arith, ap, ◌∙◌, inl, sym, subst}
use Rattle.std.specs.Prelude.{is_some}
use Rattle.mark_core.specs.Seats.{work_in_hand}
use Rattle.mark_core.specs.declared.seat.SeatState.{SeatState}
use Rattle.gc_table.specs.Seats.{view_of}
use Rattle.packet_pools.specs.Hands.{free_slots}
use Rattle.card_clean.proofs.Few.{from-few}
use Rattle.card_clean.proofs.NextCards.{none-passed, passed-join, some-passed}
use Rattle.card_clean.proofs.next_cards.clean_next.Goals as goal

pub pass_from-requires-clause-free : goal.pass_from-requires-clause-free
pass_from-requires-clause-free c = subst (λ n. 2 ≤ n) (sym (ap (λ (s : SeatState). free_slots s.held) c.meet_dirty.ensures.state)) c.requires.free

pub pass_from-requires-clause-work : goal.pass_from-requires-clause-work
pass_from-requires-clause-work c = ap (λ (s : SeatState). work_in_hand c.args.heap.now.shape.fields s) c.meet_dirty.ensures.state ∙ c.requires.work

pub returns-in_default-clause-held : goal.returns-in_default-clause-held
returns-in_default-clause-held c = ap (λ (s : SeatState). s.held) c.meet_dirty.ensures.state

pub returns-in_default-clause-work : goal.returns-in_default-clause-work
returns-in_default-clause-work c = ap (λ (s : SeatState). work_in_hand c.args.heap.now.shape.fields s) c.meet_dirty.ensures.state ∙ c.requires.work

pub returns-in_default-clause-none : goal.returns-in_default-clause-none
returns-in_default-clause-none c = inl c.in_default.ensures.none

pub returns-in_default-clause-few : goal.returns-in_default-clause-few
returns-in_default-clause-few c = let few = c.in_default.ensures.few.1 in (tt, omega (arith, few))

pub returns-clause-only : goal.returns-clause-only
returns-clause-only c = passed-join (view_of c.args.seat.now) (view_of c.meet_dirty.new.seat) (view_of c.pass_from.new.seat) c.meet_dirty.ensures.only c.pass_from.ensures.only

pub returns-clause-held : goal.returns-clause-held
returns-clause-held c = c.pass_from.ensures.held ∙ ap (λ (s : SeatState). s.held) c.meet_dirty.ensures.state

pub returns-clause-some : goal.returns-clause-some
returns-clause-some c =
    some-passed c.pass_from.result (is_some c.args.enough) c.in-Some.left c.args.looks c.in-Some.card (view_of c.args.seat.now) (view_of c.meet_dirty.new.seat) (view_of c.pass_from.new.seat) c.in-Some.ensures.some c.pass_from.ensures.some

pub returns-clause-none : goal.returns-clause-none
returns-clause-none c =
    none-passed c.pass_from.result c.args.heap.now.shape c.in-Some.left c.args.looks c.in-Some.card (view_of c.args.seat.now) (view_of c.meet_dirty.new.seat) (view_of c.pass_from.new.seat) c.requires.seat.0.1 c.in-Some.ensures.some c.pass_from.ensures.only.ran c.pass_from.ensures.none

pub returns-clause-few : goal.returns-clause-few
returns-clause-few c =
    let m = c.in-Some.ensures in
    let looked = m.some.looked in
    from-few c.pass_from.result c.args.looks c.in-Some.left c.args.heap.now.shape (view_of c.args.seat.now) (view_of c.meet_dirty.new.seat) (view_of c.pass_from.new.seat) m.only.ran c.pass_from.ensures.only.ran (omega (arith, looked)) m.few.0 c.pass_from.ensures.few
