use Rattle.std.proofs.Common.{Option, None, Some, [], refl, arith}
use Rattle.std.specs.Prelude.{IfNone}
use Rattle.tracer.specs.Causes.{NotesNoInput}
use Rattle.tracer.specs.declared.packets.Packets.{Packets}
use Rattle.packet_pools.specs.Seeking.{input_pools}
use Rattle.tracer.proofs.Carried.{carries-free, carries-none, carries-take}
use Rattle.tracer.proofs.Moves.{input-moves}
use Rattle.tracer.proofs.Quiet.{did-moves}
use Rattle.gc_table.specs.declared.view.View.{View}
use Rattle.gc_table.specs.Seats.{view_of}
use Rattle.gc_table.specs.Log.{events}
use Rattle.tracer.proofs.tracing.begin.Goals as goal

pub take_input-requires-clause-free : goal.take_input-requires-clause-free
take_input-requires-clause-free c = carries-free [] (view_of c.args.seat.now) (omega arith) (carries-none (view_of c.args.seat.now) c.requires.idle.held)

pub returns-in_err-input-clause-part : goal.returns-in_err-input-clause-part
returns-in_err-input-clause-part c =
    let v : View = view_of c.args.seat.now in
    let w : View = view_of c.take_input.new.seat in
    did-moves None v (events v w) (input-moves (events v w) c.in_err-input.ensures.none.2)

pub returns-clause-part : goal.returns-clause-part
returns-clause-part c =
    let v : View = view_of c.args.seat.now in
    let w : View = view_of c.take_input.new.seat in
    did-moves None v (events v w) (input-moves (events v w) c.in_ok-input.ensures.some.0.moves)

pub returns-clause-some : goal.returns-clause-some
returns-clause-some c =
    let v : View = view_of c.args.seat.now in
    let w : View = view_of c.take_input.new.seat in
    let e = c.in_ok-input.ensures in
    let none = carries-none v c.requires.idle.held in
    (carries-take v w e.only.shape input_pools c.in_ok-input.input [] e.some.0 (carries-free [] v (omega arith) none) none, refl)

any-none : (o : Option Packets) (P : Type 0) → P → IfNone o P
any-none None P p = p
any-none (Some x) P p = tt

pub returns-in_err-input-clause-noted : goal.returns-in_err-input-clause-noted
returns-in_err-input-clause-noted c =
    let v : View = view_of c.args.seat.now in
    let w : View = view_of c.take_input.new.seat in
    let e = c.in_err-input.ensures in
    let none : NotesNoInput v w = record { high = λ alone. (e.noted alone).0; low = λ alone. (e.noted alone).1; others = e.outside } in
    any-none c.from_residual.result (NotesNoInput v w) none

pub returns-clause-full : goal.returns-clause-full
returns-clause-full c = c.in_ok-input.ensures.some.1
