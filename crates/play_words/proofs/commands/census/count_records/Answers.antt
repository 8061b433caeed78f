use Rattle.std.proofs.Common.{refl}
use Rattle.heap_dump.specs.Reading.{heap_of_dump}
use Rattle.play_words.specs.Counting.{IsCountOf}
use Rattle.gc_play.proofs.Taking.{text_ends}
use Rattle.play_words.proofs.commands.census.count_records.Goals as goal

pub returns-in-Ok : goal.returns-in-Ok
returns-in-Ok g c = text_ends (IsCountOf (heap_of_dump c.args.dump.now)) _ _ _ _ _ _ _ _ c.after.ensures tt (refl, record { counts = c.in-Ok.census; right = c.in-Ok.ensures; written = refl }) c.write_census.ensures
