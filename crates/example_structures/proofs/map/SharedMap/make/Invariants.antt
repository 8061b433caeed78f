use Rattle.std.proofs.Common.{◌≡◌, ◌<◌}
use Rattle.std.specs.Arc.{arc_value}
use Rattle.mark_core.specs.Steps.MutatorSteps.{seat_variable as word_in}
use Rattle.gc_table.specs.Seats.{state_of}
use Rattle.shared_heap.specs.declared.mutator.Place.TheVariants.{Inside}
use Rattle.example_structures.specs.Making.{Lays}
use Rattle.example_structures.proofs.map.SharedMap.make.Given as goal

abbrev pub invariant-loop-row : goal.invariant-loop-row
invariant-loop-row g l = record {
  inside : l.m.place ≡ Inside;
  world : arc_value l.m.heap ≡ arc_value l.fn.m.heap;
  some : 0 < word_in (state_of l.m.seat) l.self.map;
  lays : Lays l.self.map l.row l.fn.m l.m;
}
