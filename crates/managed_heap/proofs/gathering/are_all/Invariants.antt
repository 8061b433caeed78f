use Rattle.std.proofs.Common.{ℕ, ◌≡◌, ◌<◌, ◌+◌, Some}
use Rattle.std.specs.Prelude.{slice_get}
use Rattle.gc_table.specs.Seats.{state_of}
use Rattle.managed_heap.proofs.gathering.are_all.Given as goal

abbrev pub invariant-loop-at : goal.invariant-loop-at
invariant-loop-at g l = record { order : (k : ℕ) (m : g.row.M.Denot) → k < l.at → slice_get l.all k ≡ Some m → (state_of (g.M.Lent.seat_in m)).number ≡ l.first + k }
