use Rattle.std.proofs.Common.{◌≡◌, ◌≤◌, arith, ap, ◌∙◌, sym, subst, true}
use Rattle.mark_core.specs.Layout.{card_count}
use Rattle.mark_core.specs.Seats.{work_in_hand}
use Rattle.mark_core.specs.declared.kinds.Shape.{Shape}
use Rattle.gc_table.specs.Log.{events}
use Rattle.gc_table.specs.Seats.{view_of}
use Rattle.gc_table.specs.declared.view.View.{View}
use Rattle.packet_pools.specs.Counts.{count_of}
use Rattle.gc_cycle.specs.Sorts.{reads_card_left}
use Rattle.gc_cycle.specs.Standing.{is_at_rest}
use Rattle.gc_cycle.proofs.Ends.Rooted.{rest-room}
use Rattle.gc_cycle.proofs.Idling.{rest-parts, traced-passed, traces-of}
use Rattle.gc_cycle.proofs.NextCards.{Passed, looked-most, passed-any}
use Rattle.gc_cycle.proofs.cards.clean_next.Goals as goal
use Rattle.gc_cycle.proofs.cards.clean_next.Goals.{After-clean_next}

rests : (c : After-clean_next) → is_at_rest (view_of c.args.seat.now).shape (view_of c.args.seat.now).state ≡ true
rests c = subst (λ (sh : Shape). is_at_rest sh (view_of c.args.seat.now).state ≡ true) (sym c.requires.seat.0.1) c.requires.rest

pub clean_next-requires-clause-seat : goal.clean_next-requires-clause-seat
clean_next-requires-clause-seat c = (c.requires.seat.0, traces-of c.args.heap.now.shape (view_of c.args.seat.now) c.requires.seat.1 c.requires.rest)

pub clean_next-requires-clause-free : goal.clean_next-requires-clause-free
clean_next-requires-clause-free c =
    let v : View = view_of c.args.seat.now in
    rest-room v c.args.seat.now.possible (subst (λ (sh : Shape). is_at_rest sh v.state ≡ true) (sym c.requires.seat.0.1) c.requires.rest)

pub clean_next-requires-clause-work : goal.clean_next-requires-clause-work
clean_next-requires-clause-work c = (rest-parts c.args.heap.now.shape (view_of c.args.seat.now).state c.requires.rest).work

pub returns-clause-traced : goal.returns-clause-traced
returns-clause-traced c =
    let w : View = view_of c.clean_next.new.seat in
    let e = c.clean_next.ensures in
    traced-passed (view_of c.args.seat.now) w e.only e.seat.1 e.held (ap (λ (sh : Shape). work_in_hand sh.fields w.state) e.seat.0.1 ∙ e.work) (rests c)

all : (c : After-clean_next) → Passed c.args.looks (view_of c.args.seat.now) (view_of c.clean_next.new.seat)
all c = passed-any c.clean_next.result true c.args.looks (view_of c.args.seat.now) (view_of c.clean_next.new.seat) c.clean_next.ensures.some c.clean_next.ensures.none

pub returns-clause-looked : goal.returns-clause-looked
returns-clause-looked c = looked-most c.clean_next.result true c.args.looks (view_of c.args.seat.now) (view_of c.clean_next.new.seat) c.clean_next.ensures.some c.clean_next.ensures.none

pub returns-clause-late : goal.returns-clause-late
returns-clause-late c = let p = all c in omega (arith, p.piece.draws_are, p.piece.looks_are, p.seen)

pub returns-clause-counted : goal.returns-clause-counted
returns-clause-counted c =
    let v : View = view_of c.args.seat.now in
    let w : View = view_of c.clean_next.new.seat in
    let p = all c in
    let left = subst (λ (sh : Shape). count_of (reads_card_left (card_count sh)) (events v w) ≤ p.left) c.requires.seat.0.1 p.piece.left_most in
    let counted = p.counted in
    omega (arith, left, counted, p.piece.draws_are)

pub returns-clause-unpopped : goal.returns-clause-unpopped
returns-clause-unpopped c = (all c).piece.unpopped

pub returns-clause-unrooted : goal.returns-clause-unrooted
returns-clause-unrooted c = (all c).piece.unrooted

pub returns-clause-undeferred : goal.returns-clause-undeferred
returns-clause-undeferred c = (all c).piece.undeferred

pub returns-clause-unread : goal.returns-clause-unread
returns-clause-unread c = (all c).piece.unread
