use Rattle.std.proofs.Common.{◌≡◌, ◌≢◌, []}
use Rattle.std.specs.Arc.{arc_value}
use Rattle.shared_heap.specs.declared.mutator.Place.TheVariants.{Inside}
use Rattle.example_structures.specs.Carrying.{Carries}
use Rattle.example_structures.specs.Fitting.{AddsFitting}
use Rattle.example_structures.specs.Queues.{Moves}
use Rattle.example_structures.proofs.queue.SharedQueue.take.Given as goal

abbrev pub invariant-loop-round : goal.invariant-loop-round
invariant-loop-round g l = record {
  inside : l.m.place ≡ Inside;
  world : arc_value l.m.heap ≡ arc_value l.fn.m.heap;
  moves : Moves l.self.queue 0 0 l.fn.m l.m;
  fits : l.item ≢ l.self.queue → AddsFitting l.self.queue l.fn.m l.m;
  numbers : l.item ≢ l.self.queue → Carries l.self.queue [] [] l.fn.m l.m;
}
