-- What a safe point came to that found a stop.
use Rattle.std.proofs.Common.{◌≡◌, Bool, ap, false, refl, true}
use Rattle.std.proofs.lemmas.Bool.{false≢true}
use Rattle.gc_table.specs.declared.seat.Heap.{Heap}
use Rattle.gc_table.specs.declared.seat.HeapSeat.{HeapSeat}
use Rattle.gc_table.specs.declared.view.View.{View}
use Rattle.seat_turns.proofs.Held.{turn-holds}
use Rattle.seat_turns.specs.Halting.{LeftFull, MadeNone}
use Rattle.shared_heap.specs.Passing.{IsLeftSo}
use Rattle.seat_turns.specs.Standing.{HoldsTurn, IsMutatorOutside}
use Rattle.seat_turns.specs.declared.refused.Refused.{Refused}
use Rattle.seat_turns.specs.declared.refused.Refused.TheVariants as refusals
use Rattle.shared_heap.specs.declared.mutator.Place.{Place}
use Rattle.shared_heap.specs.declared.mutator.Place.TheVariants.{Inside, Outside}
use Rattle.seat_steps.specs.Arriving.{Arrives}
use Rattle.seat_steps.specs.Causes.{PassesBy}
use Rattle.seat_steps.specs.declared.came.Came.{Came}
use Rattle.seat_steps.specs.declared.came.Came.TheVariants as cames

pub stopped-out : (c : Came) (h : Heap) (s : HeapSeat) → (c ≡ cames.Done → ⊥) → (c ≡ cames.Full → ⊥) → Arrives c h s → IsMutatorOutside h s
stopped-out cames.Done h s n m a = absurd (n refl)
stopped-out cames.Stopped h s n m a = a
stopped-out cames.Full h s n m a = absurd (m refl)
stopped-out c h s n m a = absurd a

pub stopped-by : (c : Came) (v w : View) → (c ≡ cames.Done → ⊥) → (c ≡ cames.Full → ⊥) → PassesBy c v w → PassesBy cames.Stopped v w
stopped-by cames.Done v w n m p = absurd (n refl)
stopped-by cames.Stopped v w n m p = p
stopped-by cames.Full v w n m p = absurd (m refl)
stopped-by c v w n m p = absurd p

-- the heap is full, and the mutator outside: no object was made
pub left-none : (e : Refused) (h : Heap) (s : HeapSeat) → LeftFull e h s → IsLeftSo e h s
left-none refusals.Full h s l = l
left-none e h s l = absurd l

pub none-left : (e : Refused) (h : Heap) (s : HeapSeat) → MadeNone e h s → IsLeftSo e h s
none-left refusals.Full h s m = m
none-left refusals.Spent h s m = (turn-holds h s m.0, m.1)
none-left e h s m = absurd m

-- where the mutator stands after a call that was refused, or wasn't
pub left-out : (e : Refused) (h : Heap) (s : HeapSeat) → LeftFull e h s → IsMutatorOutside h s
left-out refusals.Full h s l = l.0
left-out e h s l = absurd l

pub so-stands : (e : Refused) (h : Heap) (s : HeapSeat) → (e ≡ refusals.Full → ⊥) → IsLeftSo e h s → HoldsTurn h s
so-stands refusals.Full h s other l = absurd (other refl)
so-stands refusals.Spent h s other l = l.0
so-stands e h s other l = absurd l

abbrev is_out : Place → Bool
is_out Outside = true
is_out p = false

-- a mutator that is inside isn't outside
pub inside_out : Inside ≡ Outside → ⊥
inside_out e = false≢true (ap is_out e)

pub ruleset standing = (turn-holds, left-out)
