use Rattle.std.proofs.Common.{ap}
use Rattle.std.specs.Prelude.{is_some}
use Rattle.gc_table.specs.Seats.{view_of}
use Rattle.gc_table.specs.declared.view.View.{View}
use Rattle.warehouse.specs.Commands.{CountsPart}
use Rattle.warehouse.specs.Playing.{Stays}
use Rattle.warehouse.proofs.Coming.{moved, room-moved, says-moved}
use Rattle.warehouse.proofs.Leavings.{full-left, leaves-calm}
use Rattle.warehouse.proofs.Pacing.{paces-out}
use Rattle.warehouse.proofs.Parting.{begins-may, begins-playing, part-done, part-full}
use Rattle.warehouse.proofs.InTheStop.{stays-spared, waits-calm}
use Rattle.warehouse.proofs.part.play_part.Goals as goal

pub go_in-requires-clause-section : goal.go_in-requires-clause-section
go_in-requires-clause-section g c = ap (λ o. is_some o) c.requires.of.own

pub play_commands-requires-clause-playing : goal.play_commands-requires-clause-playing
play_commands-requires-clause-playing g c =
    let u : View = view_of c.args.mutator.now.seat in
    let v : View = view_of c.go_in.new.seat in
    let e = c.go_in.ensures in
    begins-playing c.args.heap.now c.args.section.now c.args.season c.args.mutator.now c.go_in.new.seat c.requires e.seat.0 e.seat.1 e.entered.cache (stays-spared u v e.entered.out.ran e.spares e.entered.out.seat) (waits-calm u v e.entered.out.ran e.spares e.entered.out.calm (paces-out u v e.entered.out e.numbers)) e.entered.position

pub play_commands-requires-clause-before : goal.play_commands-requires-clause-before
play_commands-requires-clause-before g c =
    let u : View = view_of c.args.mutator.now.seat in
    let v : View = view_of c.go_in.new.seat in
    let e = c.go_in.ensures in
    begins-may c.args.heap.now c.args.section.now c.args.season c.args.mutator.now c.go_in.new.seat c.requires e.seat.0 e.seat.1 e.entered.cache (stays-spared u v e.entered.out.ran e.spares e.entered.out.seat) (waits-calm u v e.entered.out.ran e.spares e.entered.out.calm (paces-out u v e.entered.out e.numbers)) e.entered.position

pub returns-in-Going : goal.returns-in-Going
returns-in-Going g c =
    let u : View = view_of c.args.mutator.now.seat in
    let v : View = view_of c.go_in.new.seat in
    let e = c.go_in.ensures in
    part-done c.args.heap.now c.args.section.now c.args.season c.args.mutator.now c.go_in.new.seat c.requires e.seat.0 e.seat.1 e.entered.cache (stays-spared u v e.entered.out.ran e.spares e.entered.out.seat) (waits-calm u v e.entered.out.ran e.spares e.entered.out.calm (paces-out u v e.entered.out e.numbers)) e.entered.position
    c.in-Going.cache c.play_commands.new.mutator c.end_part.new.mutator c.in-Going.ensures c.end_part.ensures

pub returns-in-Full : goal.returns-in-Full
returns-in-Full g c =
    let u : View = view_of c.args.mutator.now.seat in
    let v : View = view_of c.go_in.new.seat in
    let m = c.play_commands.new.mutator in
    let t = c.go_out.new.seat in
    let w : View = view_of m.seat in
    let x : View = view_of t in
    let e = c.go_in.ensures in
    let o = c.go_out.ensures in
    let k = c.in-Full.ensures in
    let stays : Stays w x = stays-spared w x o.out.ran o.spares o.out.seat in
    let out : CountsPart 0 c.args.heap.now c.args.section.now m (moved m t) =
    record {
      sits = o.seat.0;
      out = o.seat.1;
      stays = stays;
      says = says-moved m t;
      position = o.position;
      leaves = leaves-calm w x o.out.ran o.spares o.out.calm (paces-out w x o.out o.numbers);
      room = room-moved m t stays;
    } in
    part-full c.args.heap.now c.args.section.now c.args.season c.args.mutator.now c.go_in.new.seat c.requires e.seat.0 e.seat.1 e.entered.cache (stays-spared u v e.entered.out.ran e.spares e.entered.out.seat) (waits-calm u v e.entered.out.ran e.spares e.entered.out.calm (paces-out u v e.entered.out e.numbers)) e.entered.position m (moved m t) k
    out (full-left m.count o.left.0 w x o.out.ran o.left.1 k.stops.known)
