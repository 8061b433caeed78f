use Rattle.std.proofs.Common.{ℕ, List, map, subst}
use Rattle.gc_table.specs.declared.seat.HeapSeat.{HeapSeat}
use Rattle.gc_table.specs.declared.words.Words.{Words}
use Rattle.play_report.specs.Report.{survivor_of}
use Rattle.play_end.specs.Ended.{AreListed}
use Rattle.play_end.proofs.EndClosed.{end-sized, end-apart, end-count}
use Rattle.play_end.proofs.Reporting.{are-held, reports}
use Rattle.play_end.proofs.closing.close_played.Goals as goal

pub survivors_of-requires-clause-sized : goal.survivors_of-requires-clause-sized
survivors_of-requires-clause-sized c =
    end-sized c.args.script.now.sections c.args.heap.shape.cells c.args.heap.shape c.args.seats.items c.in-Ok.words (record { end = c.in-Ok.ensures; made = c.requires.made })

pub survivors_of-requires-clause-apart : goal.survivors_of-requires-clause-apart
survivors_of-requires-clause-apart c =
    end-apart c.args.script.now.sections c.args.heap.shape.cells c.args.heap.shape c.args.seats.items c.in-Ok.words (record { end = c.in-Ok.ensures; made = c.requires.made })

pub returns-in-Ok-survivors_of-clause-report : goal.returns-in-Ok-survivors_of-clause-report
returns-in-Ok-survivors_of-clause-report c =
    let s = c.args.script.now.sections in
    let sh = c.args.heap.shape in
    let seats : List HeapSeat = c.args.seats.items in
    let w : Words = c.in-Ok.words in
    reports s sh.cells sh seats w (record { parts = c.args.parts; survivors = c.in-Ok-survivors_of.survivors }) c.see_limits.ensures c.see_ranges.ensures (record { end = c.in-Ok.ensures; made = c.requires.made }) c.requires.played
    c.requires.parts
    (subst (λ (n : ℕ). AreListed n w.idents.items w.values.items w.alloc.items (map survivor_of c.in-Ok-survivors_of.survivors.items))
    (end-count s sh.cells sh seats w (record { end = c.in-Ok.ensures; made = c.requires.made })) c.in-Ok-survivors_of.ensures)

pub returns-in-Ok-survivors_of-clause-held : goal.returns-in-Ok-survivors_of-clause-held
returns-in-Ok-survivors_of-clause-held c =
    are-held c.args.script.now.sections c.args.heap.shape.cells c.args.heap.shape c.args.seats.items c.in-Ok.words (record { parts = c.args.parts; survivors = c.in-Ok-survivors_of.survivors }) c.see_ranges.ensures
    (record { end = c.in-Ok.ensures; made = c.requires.made }) c.requires.played c.requires.parts
