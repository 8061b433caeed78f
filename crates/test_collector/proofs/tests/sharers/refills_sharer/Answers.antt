use Rattle.std.proofs.Common.{ap, ◌∙◌}
use Rattle.gc_table.specs.Seats.{view_of}
use Rattle.gc_table.specs.declared.view.View.{View}
use Rattle.gc_cycle.proofs.Refills.Retired.{owes-none}
use Rattle.test_collector.proofs.tests.sharers.refills_sharer.Goals as goal

pub retire-requires-clause-owes : goal.retire-requires-clause-owes
retire-requires-clause-owes g c = ap (λ (v : View). v.state.owes) c.read_season.ensures.view.0 ∙ owes-none (view_of c.refill.new.seat) c.in-Cache.ensures.refills.goes_on.mutates
