use Rattle.std.proofs.Common.{◌≡◌, [], ◌∷◌}
use Rattle.std.specs.Prelude.{if◌then◌else◌}
use Rattle.std.specs.Arc.{arc_value}
use Rattle.shared_heap.specs.declared.mutator.Place.TheVariants.{Inside}
use Rattle.example_structures.specs.Carrying.{Carried, HasOwn}
use Rattle.example_structures.specs.Fitting.{Began, FitsSince, StaysFresh}
use Rattle.example_structures.specs.Queues.{Moves}
use Rattle.example_structures.proofs.queue.SharedQueue.put.Given as goal

abbrev pub invariant-loop-round : goal.invariant-loop-round
invariant-loop-round g l = record {
  next : (goal.iterator-loop-round g).can_next l._round-iterator;
  finite : (goal.iterator-loop-round g).is_finite l._round-iterator;
  inside : l.m.place ≡ Inside;
  world : arc_value l.m.heap ≡ arc_value l.fn.m.heap;
  moves : Moves l.self.queue (if l.is_in then 1 else 0) 0 l.fn.m l.m;
  fits : (b : Began) → FitsSince l.self.queue b l.fn.m → FitsSince l.self.queue b l.m × StaysFresh b l.m l.is_in;
  numbers : (b : Began) → FitsSince l.self.queue b l.fn.m → Carried l.self.queue b (if l.is_in then l.number ∷ [] else []) [] l.fn.m l.m × HasOwn l.self.queue b l.number l.m;
}
