use Rattle.example_heaps.proofs.Own.{are-own}
use Rattle.example_heaps.proofs.worlds.open.Goals as goal

pub returns : goal.returns
returns c = record { own = are-own c.args.sizes c.in-Ok.world c.mutator.new.self c.mutator-2.new.self c.in-Some-mutator.first c.in-Some.second c.in-Ok.ensures.opened c.in-Some.ensures.some c.mutator.ensures.rest.0 c.in-Some-mutator.ensures.some c.mutator-2.ensures.rest.0 }
