use Rattle.play_report.proofs.Turns.{turn_err}
use Rattle.heap_dump.specs.Final.{blank}
use Rattle.heap_dump.specs.Reading.{heap_of_dump, object_in}
use Rattle.heap_dump.specs.Text.{object_text}
use Rattle.heap_dump.proofs.text.write_objects.Goals as goal

pub returns-in-Err : goal.returns-in-Err
returns-in-Err g c =
    turn_err object_text (heap_of_dump c.args.dump.now).records c.loop-k.k blank (object_in c.in-Some.object) _ _ _ _ _ _ c.in-Some.ensures.0 c.in-Some.ensures.2 c.loop-k.invariant c.in-Err.ensures
