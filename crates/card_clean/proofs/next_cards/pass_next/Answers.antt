use Rattle.std.proofs.Common.{arith, sym, ap, ◌∙◌, Some, None}
use Rattle.std.proofs.Math.Nat.{mul-le-mul_right}
use Rattle.mark_core.specs.Cards.{card_cells}
use Rattle.mark_core.specs.Seats.{work_in_hand}
use Rattle.mark_core.specs.declared.kinds.Shape.{Shape}
use Rattle.mark_core.specs.declared.seat.SeatState.{SeatState}
use Rattle.gc_table.specs.Log.{events}
use Rattle.gc_table.specs.Seats.{view_of}
use Rattle.gc_table.specs.declared.view.View.{View}
use Rattle.gc_table.proofs.Running.{ran-events}
use Rattle.packet_pools.specs.Scanning.{Fills}
use Rattle.packet_pools.specs.StepBounds.{scan_steps}
use Rattle.packet_pools.specs.Tried.{SearchesThrough}
use Rattle.packet_pools.proofs.Few.{few-sum}
use Rattle.packet_pools.proofs.Filled.{fills-join, fills-same}
use Rattle.packet_pools.proofs.Overflows.{overflows-join}
use Rattle.card_clean.proofs.NextCards.{overflows-drawn, passed-drawn, passed-join, passed-traced}
use Rattle.card_clean.proofs.next_cards.pass_next.Goals as goal
use Rattle.card_clean.proofs.next_cards.pass_next.Goals.{After-next_card}

-- the draw leaves the packet in hand, and tries none
fills : (c : After-next_card) → Fills c.args.out.now c.args.out.now (view_of c.args.seat.now) (view_of c.next_card.new.seat)
fills c =
    let v : View = view_of c.args.seat.now in
    let e = c.next_card.ensures in
    fills-same v (view_of c.next_card.new.seat) c.args.out.now (e.seat.0.1 ∙ sym c.requires.seat.0.1) (ap (λ (s : SeatState). s.held) e.state) c.requires.out.0 c.requires.out.1

tried : (c : After-next_card) → SearchesThrough c.args.heap.now.shape c.args.search.now c.args.search.now c.args.out.now c.args.out.now (events (view_of c.args.seat.now) (view_of c.next_card.new.seat))
tried c = overflows-drawn c.args.heap.now.shape c.args.search.now c.args.out.now c.next_card.result (view_of c.args.seat.now) (view_of c.next_card.new.seat) c.next_card.ensures.draws

pub clean_where_dirty-requires-clause-out : goal.clean_where_dirty-requires-clause-out
clean_where_dirty-requires-clause-out c = let f = fills (goal.at.clean_where_dirty-requires-clause-out c).After-next_card in (f.held, f.free)

pub clean_where_dirty-requires-clause-work : goal.clean_where_dirty-requires-clause-work
clean_where_dirty-requires-clause-work c = ap (λ (s : SeatState). work_in_hand c.args.heap.now.shape.fields s) c.next_card.ensures.state ∙ c.requires.work

pub returns-in_default-clause-only : goal.returns-in_default-clause-only
returns-in_default-clause-only c = let n = c.next_card.ensures in passed-drawn None (view_of c.args.seat.now) (view_of c.next_card.new.seat) n.ran n.only c.in_default.ensures.draws n.state

pub returns-in_default-clause-out : goal.returns-in_default-clause-out
returns-in_default-clause-out c = fills (goal.at.returns-in_default-clause-out c).After-next_card

pub returns-in_default-clause-work : goal.returns-in_default-clause-work
returns-in_default-clause-work c = ap (λ (s : SeatState). work_in_hand c.args.heap.now.shape.fields s) c.next_card.ensures.state ∙ c.requires.work

pub returns-in_default-clause-tried : goal.returns-in_default-clause-tried
returns-in_default-clause-tried c = tried (goal.at.returns-in_default-clause-tried c).After-next_card

pub returns-in_default-clause-few : goal.returns-in_default-clause-few
returns-in_default-clause-few c = let few = c.next_card.ensures.few in omega (arith, few)

pub returns-clause-only : goal.returns-clause-only
returns-clause-only c =
    let v : View = view_of c.args.seat.now in
    let w : View = view_of c.next_card.new.seat in
    let x : View = view_of c.clean_where_dirty.new.seat in
    let n = c.next_card.ensures in
    passed-join v w x (passed-drawn (Some c.in-Some.card) v w n.ran n.only c.in-Some.ensures.draws n.state) (passed-traced w x c.clean_where_dirty.ensures.only)

pub returns-clause-out : goal.returns-clause-out
returns-clause-out c =
    fills-join (view_of c.args.seat.now) (view_of c.next_card.new.seat) (view_of c.clean_where_dirty.new.seat) c.args.out.now c.args.out.now c.clean_where_dirty.new.out (fills (goal.at.returns-clause-out c).After-next_card) c.clean_where_dirty.ensures.out

pub returns-clause-passes : goal.returns-clause-passes
returns-clause-passes c = record { card = c.in-Some.card; drawn = view_of c.next_card.new.seat; draws = c.in-Some.ensures.draws; looks = c.clean_where_dirty.ensures.looks }

pub returns-clause-tried : goal.returns-clause-tried
returns-clause-tried c =
    let s = c.args.search.now in
    let h = c.args.out.now in
    let v : View = view_of c.args.seat.now in
    let w : View = view_of c.next_card.new.seat in
    let x : View = view_of c.clean_where_dirty.new.seat in
    let d = c.clean_where_dirty.ensures in
    overflows-join c.args.heap.now.shape s s c.clean_where_dirty.new.search h h c.clean_where_dirty.new.out (events v w) (events w x) (events v x) (ran-events v w x c.next_card.ensures.ran d.only.ran) (tried (goal.at.returns-clause-tried c).After-next_card) d.tried

pub returns-clause-few : goal.returns-clause-few
returns-clause-few c =
    let sh : Shape = c.args.heap.now.shape in
    let d = c.clean_where_dirty.ensures in
    let all = few-sum (view_of c.args.seat.now) (view_of c.next_card.new.seat) (view_of c.clean_where_dirty.new.seat) c.next_card.ensures.ran d.only.ran in
    let two = c.next_card.ensures.few in
    let cells = mul-le-mul_right {m = c.clean_where_dirty.result.rescanned} {n = card_cells} (scan_steps sh.fields sh) d.most.0 in
    let rest = d.few in
    omega (arith, all, two, rest, cells)
