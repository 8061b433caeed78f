use Rattle.std.proofs.Common.{ap, refl, arith}
use Rattle.packet_pools.proofs.TracedSteps.{traced-join}
use Rattle.tracer.specs.declared.packets.Packets.{Packets}
use Rattle.tracer.specs.Hands.{packets_of}
use Rattle.tracer.proofs.Carried.{carries-free, carries-take, packets-three}
use Rattle.tracer.proofs.Joined.{did-then}
use Rattle.tracer.proofs.Moves.{input-moves}
use Rattle.tracer.proofs.Quiet.{did-moves}
use Rattle.gc_table.specs.declared.view.View.{View}
use Rattle.gc_table.specs.Seats.{view_of}
use Rattle.packet_pools.specs.Seeking.{input_pools}
use Rattle.gc_table.specs.Log.{events}
use Rattle.packet_pools.specs.StepBounds.{give_steps, input_steps}
use Rattle.packet_pools.proofs.Few.{few-join}
use Rattle.tracer.proofs.finding.take_next.Goals as goal

pub take_input-requires-clause-free : goal.take_input-requires-clause-free
take_input-requires-clause-free c = carries-free (packets_of c.args.packets.now) (view_of c.args.seat.now) (packets-three c.args.packets.now) c.requires.packets.0

pub returns-in_default-clause-part : goal.returns-in_default-clause-part
returns-in_default-clause-part c =
    let v : View = view_of c.args.seat.now in
    let w : View = view_of c.take_input.new.seat in
    λ o. did-moves o v (events v w) (input-moves (events v w) c.in_default.ensures.none.2)

pub go_on-requires-clause-packets : goal.go_on-requires-clause-packets
go_on-requires-clause-packets c =
    let v : View = view_of c.args.seat.now in
    let w : View = view_of c.take_input.new.seat in
    let x : Packets = c.args.packets.now in
    let e = c.in-Some.ensures in
    carries-take v w e.only.shape input_pools c.in-Some.next (packets_of x) e.some.0 (carries-free (packets_of x) v (packets-three x) c.requires.packets.0) c.requires.packets.0

pub returns-clause-only : goal.returns-clause-only
returns-clause-only c = traced-join (view_of c.args.seat.now) (view_of c.take_input.new.seat) (view_of c.go_on.new.seat) c.in-Some.ensures.only c.go_on.ensures.only

pub returns-clause-packets : goal.returns-clause-packets
returns-clause-packets c = (c.go_on.ensures.packets.0, ap (λ (x : Packets). x.deferred) c.go_on.ensures.packets.1)

pub returns-clause-part : goal.returns-clause-part
returns-clause-part c =
    let v : View = view_of c.args.seat.now in
    let w : View = view_of c.take_input.new.seat in
    let y : View = view_of c.go_on.new.seat in
    let e = c.in-Some.ensures in
    let g = c.go_on.ensures in
    λ o.
    did-then o o o 0 0 0 0 0 0 0 0 0 v w y e.only g.only refl refl refl
    (did-moves o v (events v w) (input-moves (events v w) e.some.0.moves))
    (g.part o)

pub returns-in_default-clause-few : goal.returns-in_default-clause-few
returns-in_default-clause-few c = let few = c.in_default.ensures.few in omega (arith, few)

pub returns-clause-few : goal.returns-clause-few
returns-clause-few c =
    let e = c.in-Some.ensures in
    let g = c.go_on.ensures in
    few-join (input_steps c.args.heap.now.shape) give_steps (view_of c.args.seat.now) (view_of c.take_input.new.seat) (view_of c.go_on.new.seat) e.only.ran g.only.ran e.few g.few
