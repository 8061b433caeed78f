use Rattle.example_queues.proofs.Parting.{are-new}
use Rattle.example_queues.proofs.worlds.open.Goals as goal

pub returns : goal.returns
returns c = record { new = are-new c.args.sizes c.in-Ok.world c.mutator.new.self c.mutator-2.new.self c.mutator-3.new.self c.in-Some.first c.in-Some-mutator.second c.in-Some-mutator-2.maker c.in-Ok.ensures.opened c.in-Some.ensures.some c.mutator.ensures.rest.0 c.in-Some-mutator.ensures.some c.mutator-2.ensures.rest.0 c.in-Some-mutator-2.ensures.some c.mutator-3.ensures.rest.0 }
