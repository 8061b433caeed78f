use Rattle.std.proofs.Common.{◌∙◌, ap}
use Rattle.heap_dump.specs.Reading.{heap_of_dump}
use Rattle.dump_census.specs.Rounds.{Progress, reach_all}
use Rattle.dump_census.proofs.Leveling.{first}
use Rattle.dump_census.proofs.levels.first_round.Goals as goal

pub returns-in-Ok-reach_variables : goal.returns-in-Ok-reach_variables
returns-in-Ok-reach_variables c =
    let h = heap_of_dump c.args.dump.now in
    first h c.records.result c.reach_variables.new.self c.records.ensures.legal c.records.ensures.count
    (c.in-Ok-reach_variables.ensures ∙ ap (λ (p : Progress). reach_all 0 p h.roots) c.in-Ok.ensures)
