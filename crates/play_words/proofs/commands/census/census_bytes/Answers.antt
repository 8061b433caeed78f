use Rattle.heap_dump.specs.Reading.{heap_of_dump}
use Rattle.play_words.specs.Counting.{IsCensusAnswer, IsCensusText, IsCountOf}
use Rattle.gc_play.proofs.Taking.{text_ends, other_ends}
use Rattle.play_words.proofs.ReadDumps.{count_answer, read_fault}
use Rattle.play_words.proofs.commands.census.census_bytes.Goals as goal

pub returns-in-Err : goal.returns-in-Err
returns-in-Err g c =
    text_ends (IsCensusAnswer c.args.bytes.now) _ _ _ _ _ _ _ _ c.after.ensures tt (read_fault IsCensusText c.args.bytes.now c.in-Err.fault c.in-Err.ensures.exact) c.write_dump_fault.ensures

pub returns-in-Ok : goal.returns-in-Ok
returns-in-Ok g c =
    other_ends (IsCountOf (heap_of_dump c.in-Ok.dump)) (IsCensusAnswer c.args.bytes.now) _ _ _ _ _
    (count_answer c.args.bytes.now c.in-Ok.dump c.in-Ok.ensures.exact c.in-Ok.ensures.found.0) c.count_records.ensures
