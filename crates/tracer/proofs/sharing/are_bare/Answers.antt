use Rattle.gc_table.specs.Seats.{view_of}
use Rattle.packet_pools.specs.Seeking.{input_pools}
use Rattle.packet_pools.proofs.TracedSteps.{traced-join}
use Rattle.tracer.proofs.Moves.{moves-then}
use Rattle.packet_pools.proofs.Few.{few-join}
use Rattle.tracer.proofs.sharing.are_bare.Goals as goal

pub returns-clause-only : goal.returns-clause-only
returns-clause-only c = traced-join (view_of c.args.seat.now) (view_of c.is_bare.new.seat) (view_of c.is_bare-2.new.seat) c.is_bare.ensures.only c.is_bare-2.ensures.only

pub returns-clause-moves : goal.returns-clause-moves
returns-clause-moves c =
    let e = c.is_bare.ensures in
    let f = c.is_bare-2.ensures in
    moves-then input_pools (view_of c.args.seat.now) (view_of c.is_bare.new.seat) (view_of c.is_bare-2.new.seat) e.only f.only (e.moves input_pools) (f.moves input_pools)

pub returns-clause-few : goal.returns-clause-few
returns-clause-few c =
    let e = c.is_bare.ensures in
    let f = c.is_bare-2.ensures in
    few-join 1 1 (view_of c.args.seat.now) (view_of c.is_bare.new.seat) (view_of c.is_bare-2.new.seat) e.only.ran f.only.ran e.few f.few
