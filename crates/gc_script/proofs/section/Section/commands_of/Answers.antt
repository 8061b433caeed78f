use Rattle.std.proofs.Common.{◌≤◌, ◌-◌, length, get_or, subst, map, arith, []}
use Rattle.std.specs.List.{All}
use Rattle.plain_heap.specs.Sections.{Parts}
use Rattle.plain_heap.specs.PlainStep.{IsInRange}
use Rattle.gc_script.specs.Blocks.{part_shown}
use Rattle.gc_script.proofs.Sectioning.{piece_all, piece_few}
use Rattle.gc_script.proofs.section.Section.commands_of.Goals as goal

pub returns-clause-range : goal.returns-clause-range
returns-clause-range c =
    subst (λ (p : Parts). All (λ e. IsInRange p.fields e.op) (get_or p.parts (c.args.season - 1) [])) c.self.view_is
    (piece_all (λ e. IsInRange c.self.inside.fields e.op) (map part_shown c.self.inside.parts.items) (c.args.season - 1) c.self.invariant.small.range)

pub returns-clause-few : goal.returns-clause-few
returns-clause-few c =
    subst (λ (p : Parts). length (get_or p.parts (c.args.season - 1) []) ≤ 2000000) c.self.view_is
    (omega (arith, piece_few (map part_shown c.self.inside.parts.items) (c.args.season - 1), c.self.invariant.small.few))
