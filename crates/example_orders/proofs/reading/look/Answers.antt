use Rattle.example_orders.proofs.Calls.{look-adds}
use Rattle.example_orders.proofs.reading.look.Goals as goal

pub returns : goal.returns
returns c = record { looked = look-adds _ c.args.m.now c.get.new.self c.in_ok-nil.nil c.in_ok-get.ensures.done c.in_ok-nil.ensures.nil c.in_ok-nil.ensures.some }
