use Rattle.std.proofs.Common.{ℕ, ◌≡◌, ◌-◌, ◌<◌, ◌≤◌, false, map, length, get_or}
use Rattle.gc_play.specs.Dealing.{StandsAt, seat_number}
use Rattle.warehouse.specs.declared.mutator.Mutator.{Mutator}
use Rattle.gc_play.proofs.workers.play_share.Given as goal

abbrev pub invariant-loop-i : goal.invariant-loop-i
invariant-loop-i g l = record {
  empty : l.worker.full ≡ false;
  played : (k : ℕ) (d : Mutator) → k < l.i → StandsAt l.heap l.script.sections l.season (get_or l.worker.mutators.items k d);
  others : (k : ℕ) (d : Mutator) → l.i ≤ k → k < length l.worker.mutators.items → StandsAt l.heap l.script.sections (l.season - 1) (get_or l.worker.mutators.items k d);
  numbers : map seat_number l.worker.mutators.items ≡ map seat_number l.fn.worker.mutators.items;
}
