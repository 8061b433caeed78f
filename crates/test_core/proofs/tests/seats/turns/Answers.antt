use Rattle.std.proofs.Common.{◌∙◌}
use Rattle.test_core.proofs.Owned.{ready-start}
use Rattle.test_core.proofs.tests.seats.turns.Goals as goal

pub returns : goal.returns
returns g c =
    let e = c.if-not-next_turn.ensures in
    ready-start c.args.heap.now 0 c.next_turn.new.seat e.rests.0 e.rests.1 (e.meaning ∙ c.requires.0.1)
