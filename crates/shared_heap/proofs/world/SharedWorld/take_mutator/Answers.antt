use Rattle.std.proofs.lemmas.Bool.{OnTrue_at}
use Rattle.shared_heap.proofs.world.SharedWorld.take_mutator.Goals as goal

pub returns-clause-back : goal.returns-clause-back
returns-clause-back c =
    let lacks = OnTrue_at c.if-not-lacks_mutator.false c.lacks_mutator.ensures.lacks in
    record { name_is = lacks.0; out = lacks.1; left = c.leave.new.self; has_left = c.leave.ensures.left; items = c.push_reserved.ensures.items }
