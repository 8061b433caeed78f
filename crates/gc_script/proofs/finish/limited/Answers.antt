use Rattle.std.proofs.Common.{◌≤◌, map, ap, arith}
use Rattle.std.specs.Prelude.{option_map}
use Rattle.gc_script.specs.Blocks.{counts}
use Rattle.gc_script.specs.Sectioned.{in_sections}
use Rattle.gc_script.specs.Finished.{parts_shown}
use Rattle.gc_script.specs.declared.block.Kind.TheVariants.{All}
use Rattle.gc_script.proofs.Finishing.{small}
use Rattle.gc_script.proofs.finish.limited.Goals as goal

pub script_of_sections-requires-clause-small : goal.script_of_sections-requires-clause-small
script_of_sections-requires-clause-small c =
    let same = ap (λ ws. in_sections (counts All) (option_map parts_shown c.args.kept.catalogue) (map parts_shown ws)) c.as_slice.ensures.value in
    let few : in_sections (counts All) (option_map parts_shown c.args.kept.catalogue) (map parts_shown c.args.kept.warehouses.items) ≤ 2000000 = omega (arith, same, c.count_in_sections-executed.ensures) in
    small c.args.fields _ _ c.requires few
