use Rattle.std.specs.Prelude.{true}
use Rattle.example_locks.proofs.Calls.{visits-last}
use Rattle.example_locks.proofs.visiting.act_inside.Goals as goal

pub returns : goal.returns
returns c = record { changed = visits-last c.args.m.now c.look.new.m c.change.new.m true true 0 c.in_ok-whole.ensures.spares c.in_ok-change.ensures.changed }
