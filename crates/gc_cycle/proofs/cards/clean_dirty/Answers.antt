use Rattle.std.proofs.Common.{◌≡◌, sym, ap, ◌∙◌, subst, true, false}
use Rattle.mark_core.specs.Held.{holds_any}
use Rattle.mark_core.specs.Seats.{work_in_hand}
use Rattle.mark_core.specs.declared.kinds.Shape.{Shape}
use Rattle.gc_table.specs.Seats.{view_of}
use Rattle.gc_table.specs.declared.view.View.{View}
use Rattle.gc_cycle.specs.Standing.{is_at_rest}
use Rattle.gc_cycle.proofs.Idling.{rest-again, rest-parts, traced-of, traces-of}
use Rattle.gc_cycle.proofs.Ends.Rooted.{rest-room}
use Rattle.gc_cycle.proofs.cards.clean_dirty.Goals as goal

pub clean_dirty-requires-clause-seat : goal.clean_dirty-requires-clause-seat
clean_dirty-requires-clause-seat c = (c.requires.seat.0, traces-of c.args.heap.now.shape (view_of c.args.seat.now) c.requires.seat.1 c.requires.rest)

pub clean_dirty-requires-clause-free : goal.clean_dirty-requires-clause-free
clean_dirty-requires-clause-free c =
    let v : View = view_of c.args.seat.now in
    rest-room v c.args.seat.now.possible (subst (λ (sh : Shape). is_at_rest sh v.state ≡ true) (sym c.requires.seat.0.1) c.requires.rest)

pub clean_dirty-requires-clause-work : goal.clean_dirty-requires-clause-work
clean_dirty-requires-clause-work c = (rest-parts c.args.heap.now.shape (view_of c.args.seat.now).state c.requires.rest).work

pub returns-clause-traced : goal.returns-clause-traced
returns-clause-traced c =
    let v : View = view_of c.args.seat.now in
    let w : View = view_of c.clean_dirty.new.seat in
    let e = c.clean_dirty.ensures in
    let before : is_at_rest v.shape v.state ≡ true = subst (λ (sh : Shape). is_at_rest sh v.state ≡ true) (sym c.requires.seat.0.1) c.requires.rest in
    let packets : holds_any w.state.held ≡ false = ap holds_any e.held ∙ (rest-parts v.shape v.state before).packets in
    let work : work_in_hand w.shape.fields w.state ≡ false = ap (λ (sh : Shape). work_in_hand sh.fields w.state) e.seat.0.1 ∙ e.work in
    traced-of v w e.only (rest-again v w e.only e.seat.1 packets work before)

pub returns-clause-rescanned : goal.returns-clause-rescanned
returns-clause-rescanned c = c.clean_dirty.ensures.left

pub returns-clause-packet : goal.returns-clause-packet
returns-clause-packet c = λ alone deferred. c.clean_dirty.ensures.packet alone (rest-parts c.args.heap.now.shape (view_of c.args.seat.now).state c.requires.rest).packets deferred
