-- What the stamps of a shared world's mutators say.
use Rattle.std.specs.Prelude.{◌≡◌, ◌≢◌, List, length, take}
use Rattle.std.specs.Arc.{arc_value}
use Rattle.mark_core.specs.declared.kinds.Event.{Event}
use Rattle.gc_table.specs.OpenRuns.{LogBegins}
use Rattle.gc_table.specs.Past.{log_of}
use Rattle.gc_table.specs.Seats.{seen_of, state_of, view_of}
use Rattle.gc_table.specs.Seen.{Begins}
use Rattle.gc_table.specs.Stamps.{IsStampOf, SeesAll, StampFits, seen_by_stamp, stamp_view}
use Rattle.seat_steps.specs.declared.stamping.Stamp.{Stamp}
use Rattle.shared_heap.specs.declared.mutator.SharedMutator.{SharedMutator}

-- if the stamp has the name of the mutator's world, it is of its heap: no two worlds have one name
abbrev pub IsOfWorld : Stamp → SharedMutator → Type 0
IsOfWorld s m = s.world ≡ m.name → StampFits (arc_value m.heap) s.stamp

-- the stamp has all that the mutator had done and seen; the mutator knows and has seen what it had, and stands where it stood
pub record Stamps (s : Stamp) (x y : SharedMutator) : Type 0 where
  pub of : IsStampOf x.seat s.stamp
  pub fits : StampFits (arc_value x.heap) s.stamp
  pub world_is : s.world ≡ x.name
  pub view : view_of y.seat ≡ view_of x.seat
  pub seen : seen_of y.seat ≡ seen_of x.seat
  pub place : y.place ≡ x.place
  pub world : arc_value y.heap ≡ arc_value x.heap
  pub name_is : y.name ≡ x.name

-- the mutator knows what it knew, goes on from all that it had seen, and from what the stamp has, and stands where it stood
pub record GoesOnFrom (s : Stamp) (x y : SharedMutator) : Type 0 where
  pub world_is : s.world ≡ x.name
  pub sees : SeesAll x.seat y.seat
  pub told : Begins (seen_by_stamp s.stamp) (seen_of y.seat)
  pub place : y.place ≡ x.place
  pub world : arc_value y.heap ≡ arc_value x.heap
  pub name_is : y.name ≡ x.name

-- the stamp is another world's, and nothing changed
pub record IsOther (s : Stamp) (x y : SharedMutator) : Type 0 where
  pub world_is_not : s.world ≢ x.name
  pub same : y ≡ x

-- a mutator came after stamp a, and gave stamp b then. In each run that goes on from b the first events, as many as b has, have all that a's mutator had done,
-- and of the other one exactly what it had done by then: what it does afterwards stands behind all that a's mutator had done
abbrev pub CallsInOrder : Type 0
CallsInOrder =
    (a b : Stamp) (x y z : SharedMutator) (es : List Event) → StampFits (arc_value x.heap) a.stamp → GoesOnFrom a x y → Stamps b y z → Begins (seen_by_stamp b.stamp) es
    → let log = log_of (view_of x.seat).shape (take (length (seen_by_stamp b.stamp)) es) in ∥ LogBegins (stamp_view a.stamp).log (log (stamp_view a.stamp).state.number) × (log (state_of x.seat).number ≡ (view_of x.seat).log) ∥₁
