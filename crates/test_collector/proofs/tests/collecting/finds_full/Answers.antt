use Rattle.gc_table.specs.Seats.{view_of}
use Rattle.gc_cycle.proofs.Refills.Retired.{owes-none}
use Rattle.test_collector.proofs.tests.collecting.finds_full.Goals as goal

pub retire-requires-clause-owes : goal.retire-requires-clause-owes
retire-requires-clause-owes g c = owes-none (view_of c.refill.new.seat) c.in-Cache.ensures.refills.goes_on.mutates
