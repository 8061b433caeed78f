use Rattle.std.proofs.Common.{map, ap, ◌∙◌}
use Rattle.std.specs.Prelude.{option_map}
use Rattle.plain_heap.specs.Sections.{Sections}
use Rattle.gc_script.specs.Finished.{parts_shown}
use Rattle.gc_script.proofs.Finishing.{shown, counted_sections}
use Rattle.gc_script.proofs.finish.script_of_sections.Goals as goal

pub make-requires : goal.make-requires
make-requires c =
    counted_sections c.args.fields c.catalogue_section-catalogue.result c.in-Ok.warehouses.items c.as_slice.result.now (option_map parts_shown c.args.kept.catalogue) (map parts_shown c.args.kept.warehouses.items) _ _ _
    c.catalogue_section-catalogue.ensures c.in-Ok.ensures c.as_slice.ensures.value c.requires.executed c.requires.printed c.most_seasons-seasons.ensures c.requires.small

pub returns-clause-made : goal.returns-clause-made
returns-clause-made c =
    c.make.ensures
    ∙ ap (λ (s : Sections). record { version = c.args.version; sections = s })
    (shown c.args.fields c.catalogue_section-catalogue.result c.in-Ok.warehouses.items (option_map parts_shown c.args.kept.catalogue) (map parts_shown c.args.kept.warehouses.items) c.catalogue_section-catalogue.ensures c.in-Ok.ensures)
