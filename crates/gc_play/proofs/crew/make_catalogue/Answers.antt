use Rattle.std.proofs.Common.{ap, ◌∙◌, subst, arith}
use Rattle.std.proofs.lemmas.Bool.{true≢false}
use Rattle.plain_heap.specs.Sections.{Parts, joined}
use Rattle.gc_table.specs.Seats.{view_of}
use Rattle.gc_table.specs.declared.seat.HeapSeat.{HeapSeat}
use Rattle.gc_table.specs.declared.view.SectionState.{SectionState}
use Rattle.warehouse.specs.Playing.{HasRoomForCommands}
use Rattle.gc_play.proofs.Starting.{new-made, new-objects, new-played}
use Rattle.gc_play.proofs.crew.make_catalogue.Goals as goal

pub returns-in-Ok : goal.returns-in-Ok
returns-in-Ok c h n =
    let s = c.args.script.now.sections in
    let m = c.in-Ok.mutator in
    let e = c.in-Ok.ensures in
    let q = new-played h s 0 c.args.seat n m e.made.0 (omega arith) e.made.1 e.made.2 e.made.3 e.made.4
    (subst (λ (p : Parts). HasRoomForCommands (joined p.parts) m) c.in-Some.ensures.same (e.room (new-made h s 0 c.args.seat n) (new-objects h s 0 c.args.seat n))) in
    record {
      seated = q.seated;
      played = q.after.played;
      moved_is = ap (λ (y : HeapSeat). (view_of y).own.seasons) e.made.0 ∙ ap (λ (o : SectionState). o.seasons) n.fresh.own;
      goes_on = (λ none. true≢false (c.in-Some.ensures.none.1 none), q);
    }
