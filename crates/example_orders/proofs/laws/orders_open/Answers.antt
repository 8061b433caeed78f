use Rattle.example_orders.proofs.Opened.{orders-open}
use Rattle.example_orders.proofs.laws.orders_open.Goals as goal

pub returns : goal.returns
returns c = orders-open c.seats_share_run.ensures c.lent_by_log.ensures c.variables_read.ensures
