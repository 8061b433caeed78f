use Rattle.std.proofs.Common.{◌∙◌}
use Rattle.managed_heap_c.proofs.Stamped.{caught-up}
use Rattle.managed_heap_c.proofs.stamps.catch_up.Goals as goal

pub returns : goal.returns
returns c = record { catches = caught-up c.args.world c.see_all.result c.args.stepper.now c.see_all.new.self (c.if-world-name.false ∙ c.name.ensures.name) c.see_all.ensures.sees }
