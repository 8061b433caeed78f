use Rattle.std.proofs.Common.{◌≡◌, ◌∙◌, List, ℕ, Option, ap, sym, subst, length}
use Rattle.std.proofs.lemmas.Bool.{eqb-true}
use Rattle.heap_dump.specs.Reading.{heap_of_dump}
use Rattle.dump_census.specs.Rounds.{Progress}
use Rattle.dump_census.specs.Levels.{AreLevels}
use Rattle.dump_census.specs.Counted.{level_counts}
use Rattle.dump_census.proofs.Leveling.{levels_found}
use Rattle.dump_census.proofs.levels.find_levels.Goals as goal

pub returns : goal.returns
returns c =
    let h = heap_of_dump c.args.dump.now in
    let empty = eqb-true _ _ (sym c.is_empty.ensures ∙ c.rounds-test.false) in
    let none : length c.rounds.search.fresh ≡ 0 = sym (ap (λ (p : Progress). length p.fresh) c.search.view_is) ∙ sym c.search.inside.fresh.ok.0 ∙ empty in
    subst (λ (f : List (Option ℕ)). AreLevels h f × (c.rounds.counts.items ≡ level_counts f)) (sym (ap (λ (p : Progress). p.found) c.search.view_is))
    (levels_found h c.rounds.search c.rounds.counts.items c.rounds.invariant none)
