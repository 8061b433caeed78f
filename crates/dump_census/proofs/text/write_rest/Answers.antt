use Rattle.std.proofs.Common.{◌++◌, ap, codes}
use Rattle.std.specs.Prelude.{flat_map}
use Rattle.play_report.specs.Text.{named_text, numbered_texts}
use Rattle.play_report.proofs.Turns.{then_writes, stops_writes, same_writes, same_stops}
use Rattle.dump_census.specs.Text.{section_text, value_text}
use Rattle.dump_census.proofs.text.write_rest.Goals as goal

pub returns-in-Ok : goal.returns-in-Ok
returns-in-Ok g c =
    let both = then_writes _ _ _ _ _ _ _ _ _ c.in-Ok.ensures.0 c.in-Ok.ensures.1 c.write_counts.ensures in
    same_writes _ _ _ _ _ _ _ (ap (λ n. named_text (codes "unreached ") n ++ (numbered_texts section_text 0 c.args.census.now.sections ++ flat_map value_text c.args.census.now.values)) c.unreached.ensures) both

pub returns-in-Err : goal.returns-in-Err
returns-in-Err g c =
    same_stops _ _ _ _ _ _ (ap (λ n. named_text (codes "unreached ") n ++ (numbered_texts section_text 0 c.args.census.now.sections ++ flat_map value_text c.args.census.now.values)) c.unreached.ensures)
    (stops_writes _ _ _ _ _ _ c.in-Err.ensures)
