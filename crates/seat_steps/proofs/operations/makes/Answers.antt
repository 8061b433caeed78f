use Rattle.std.proofs.Common.{◌+◌, refl}
use Rattle.mark_core.specs.declared.kinds.Step.TheVariants.{HoldRoot, StoreRoot}
use Rattle.seat_steps.proofs.Doing.{alone-of, makes-alone, makes-sharing, shared-of}
use Rattle.gc_table.specs.Seats.{view_of}
use Rattle.seat_steps.proofs.Paced.{creates-quiet}
use Rattle.seat_turns.proofs.Held.{holds-own, turn-holds}
use Rattle.seat_turns.proofs.Seats.{turn-plays}
use Rattle.seat_steps.proofs.operations.makes.Goals as goal

pub make_in-requires-clause-plays : goal.make_in-requires-clause-plays
make_in-requires-clause-plays c = turn-plays c.args.heap.now c.args.seat.now (holds-own c.args.heap.now c.args.seat.now c.requires.turn (alone-of c.args.heap.now c.shape.result c.shape.ensures c.if-shape.false))

pub returns-else-shape-clause-turn : goal.returns-else-shape-clause-turn
returns-else-shape-clause-turn c = turn-holds c.args.heap.now c.make_in.new.seat c.make_in.ensures.turn

pub returns-then-shape-clause-made : goal.returns-then-shape-clause-made
returns-then-shape-clause-made c = makes-sharing c.args.heap.now c.args.seat.now c.make_shared_in.new.seat c.args.v c.args.value (shared-of c.args.heap.now c.shape.result c.shape.ensures c.if-shape.true) c.make_shared_in.ensures.makes

pub returns-else-shape-clause-made : goal.returns-else-shape-clause-made
returns-else-shape-clause-made c =
    let e = c.make_in.ensures in
    makes-alone c.args.heap.now c.args.seat.now c.make_in.new.seat c.args.v c.args.value (alone-of c.args.heap.now c.shape.result c.shape.ensures c.if-shape.false) c.requires.turn.holds.sits e.steps e.takes

pub returns-then-shape-clause-quiet : goal.returns-then-shape-clause-quiet
returns-then-shape-clause-quiet c =
    let m = c.make_shared_in.ensures.makes in
    (creates-quiet _ m.cell _ _ (HoldRoot c.args.v (m.cell + 1)) (view_of c.args.seat.now) (view_of c.make_shared_in.new.seat) refl m.creates.ran m.creates.steps_are).0

pub returns-then-shape-clause-numbers : goal.returns-then-shape-clause-numbers
returns-then-shape-clause-numbers c =
    let m = c.make_shared_in.ensures.makes in
    (creates-quiet _ m.cell _ _ (HoldRoot c.args.v (m.cell + 1)) (view_of c.args.seat.now) (view_of c.make_shared_in.new.seat) refl m.creates.ran m.creates.steps_are).1

pub returns-else-shape-clause-quiet : goal.returns-else-shape-clause-quiet
returns-else-shape-clause-quiet c =
    let e = c.make_in.ensures in
    (creates-quiet _ e.takes.0 _ _ (StoreRoot c.args.v (e.takes.0 + 1)) (view_of c.args.seat.now) (view_of c.make_in.new.seat) refl e.ran e.takes.1).0

pub returns-else-shape-clause-numbers : goal.returns-else-shape-clause-numbers
returns-else-shape-clause-numbers c =
    let e = c.make_in.ensures in
    (creates-quiet _ e.takes.0 _ _ (StoreRoot c.args.v (e.takes.0 + 1)) (view_of c.args.seat.now) (view_of c.make_in.new.seat) refl e.ran e.takes.1).1
