use Rattle.std.proofs.Common.{sym, ◌∙◌}
use Rattle.std.proofs.lemmas.Bool.{OnTrue_at}
use Rattle.managed_heap.proofs.world.World.take_mutator.Goals as goal

pub returns-clause-back : goal.returns-clause-back
returns-clause-back c =
    let left = c.leave.ensures.left in
    let lacks = OnTrue_at c.if-not-lacks_mutator.false c.lacks_mutator.ensures.lacks in
    record { name_is = sym left.same.name_is ∙ lacks.0; out = lacks.1; left = c.leave.new.self; has_left = left; items = c.push_reserved.ensures.items }
