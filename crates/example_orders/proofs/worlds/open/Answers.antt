use Rattle.example_orders.proofs.Ended.{are-new}
use Rattle.example_orders.proofs.worlds.open.Goals as goal

pub returns : goal.returns
returns c =
    record {
      new =
          are-new c.args.sizes c.in-Ok.world c.mutator.new.self c.mutator-2.new.self c.mutator-3.new.self c.mutator-4.new.self c.in-Some.value c.in-Some-mutator.field c.in-Some-mutator-2.first c.in-Some-mutator-3.second c.in-Ok.ensures.opened c.in-Some.ensures.some c.mutator.ensures.rest.0
          c.in-Some-mutator.ensures.some c.mutator-2.ensures.rest.0 c.in-Some-mutator-2.ensures.some c.mutator-3.ensures.rest.0 c.in-Some-mutator-3.ensures.some c.mutator-4.ensures.rest.0;
    }
