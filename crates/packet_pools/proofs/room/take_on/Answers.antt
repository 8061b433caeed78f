use Rattle.std.proofs.Common.{ap, refl, subst, sym, true}
use Rattle.mark_core.specs.Numbers.{high_pool_number}
use Rattle.mark_core.specs.declared.kinds.Shape.{Shape}
use Rattle.gc_table.specs.declared.view.View.{View}
use Rattle.gc_table.specs.Log.{events}
use Rattle.gc_table.specs.Seats.{view_of}
use Rattle.packet_pools.specs.declared.search.Search.TheVariants.{Tried}
use Rattle.packet_pools.specs.Tried.{StaysFull}
use Rattle.packet_pools.proofs.Doing.{traces-gained, traces-same}
use Rattle.packet_pools.proofs.Spare.{gains-brings, moves-high}
use Rattle.packet_pools.proofs.Tried.{leads-found, leads-past}
use Rattle.packet_pools.proofs.room.take_on.Goals as goal

pub returns-in-Some-clause-seat : goal.returns-in-Some-clause-seat
returns-in-Some-clause-seat c =
    let e = c.in-Some.ensures in
    let t = c.requires.seat.1 in
    (e.seat, traces-gained high_pool_number true c.in-Some.held (view_of c.args.seat.now) (view_of c.take_high_from.new.seat) e.only e.some.gains t.may t.uncredited)

pub returns-in-Some-clause-some : goal.returns-in-Some-clause-some
returns-in-Some-clause-some c =
    let v : View = view_of c.args.seat.now in
    let w : View = view_of c.take_high_from.new.seat in
    let g = c.in-Some.ensures.some in
    (g, gains-brings high_pool_number true c.in-Some.held v w c.requires.seat.1.unreserved g.gains, refl, leads-found c.args.heap.now.shape c.args.from c.in-Some.held v w g)

pub returns-in-Some-clause-moves : goal.returns-in-Some-clause-moves
returns-in-Some-clause-moves c = moves-high (events (view_of c.args.seat.now) (view_of c.take_high_from.new.seat)) c.in-Some.ensures.some.gains.moves

pub returns-in-None-clause-seat : goal.returns-in-None-clause-seat
returns-in-None-clause-seat c =
    let e = c.in-None.ensures in
    (e.seat, traces-same (view_of c.args.seat.now) (view_of c.take_high_from.new.seat) e.only e.none.0 c.requires.seat.1)

pub returns-in-None-clause-none : goal.returns-in-None-clause-none
returns-in-None-clause-none c =
    let sh : Shape = c.args.heap.now.shape in
    let es = events (view_of c.args.seat.now) (view_of c.take_high_from.new.seat) in
    let n = c.in-None.ensures.none in (
      n.0,
      ap (λ (s : Shape). Tried s.packets) c.shape.ensures,
      subst (λ (s : Shape). StaysFull sh (Tried c.args.from) (Tried s.packets) es) (sym c.shape.ensures) (leads-past sh c.args.from es n.1),
    )

pub returns-in-None-clause-moves : goal.returns-in-None-clause-moves
returns-in-None-clause-moves c = moves-high (events (view_of c.args.seat.now) (view_of c.take_high_from.new.seat)) c.in-None.ensures.none.1.moves
