use Rattle.gc_table.specs.Seats.{view_of}
use Rattle.cache_refills.proofs.Due.{may-try}
use Rattle.test_collector.proofs.tests.seasons.try_marking.Goals as goal

pub store_phase-requires-clause-may : goal.store_phase-requires-clause-may
store_phase-requires-clause-may c = may-try (view_of c.args.seat.now) c.requires.active
