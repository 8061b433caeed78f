use Rattle.std.proofs.Common.{refl}
use Rattle.mark_core.specs.declared.kinds.Step.TheVariants.{ExchangeValue}
use Rattle.gc_table.specs.Seats.{view_of}
use Rattle.gc_table.proofs.Running.{ran-answered}
use Rattle.card_clean.proofs.Owned.{may-exchange_value}
use Rattle.card_clean.proofs.sharing.exchange_value.Goals as goal

pub exchange_value-requires-clause-may : goal.exchange_value-requires-clause-may
exchange_value-requires-clause-may c = let q = c.requires in may-exchange_value (view_of c.args.seat.now) c.args.v c.args.new c.args.expected q.shared q.seat.1 q.some.0 q.some.1 c.ranges.new.fits

pub returns-clause-ran : goal.returns-clause-ran
returns-clause-ran c = ran-answered (view_of c.args.seat.now) (view_of c.exchange_value.new.seat) (ExchangeValue c.args.v c.args.expected c.args.new) _ refl c.exchange_value.ensures.view
