use Rattle.std.proofs.Common.{◌-◌, ◌*◌, subst}
use Rattle.gc_play.specs.Crews.{CatalogueAt}
use Rattle.gc_play.proofs.Catalogues.{catalogue-part, catalogue-absent}
use Rattle.gc_play.proofs.season.play_catalogue.Goals as goal

pub returns-in-Some : goal.returns-in-Some
returns-in-Some g c =
    let h = c.args.heap.now in
    let s = c.args.script.now.sections in
    let z = c.args.season in
    catalogue-part h s z c.play_part.result (2 * z - 2) c.in-Playing.mutator c.play_part.new.mutator c.in-Some.section.now c.in-Some.ensures.same
    (subst (CatalogueAt h s (z - 1) (2 * z - 2)) c.in-Playing.is c.requires.before) c.play_part.ensures

pub returns-in-Absent : goal.returns-in-Absent
returns-in-Absent g c =
    let h = c.args.heap.now in
    let s = c.args.script.now.sections in
    let z = c.args.season in
    catalogue-absent h s z (2 * z - 2) c.in-Absent.seat c.play_absent.new.seat c.requires.season (subst (CatalogueAt h s (z - 1) (2 * z - 2)) c.in-Absent.is c.requires.before) c.play_absent.ensures.seat c.play_absent.ensures.counts
