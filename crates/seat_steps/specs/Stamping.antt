-- What a stepper has seen of what others did, and what the stamps of a world's mutators say.
use Rattle.std.specs.Prelude.{◌≡◌, ◌≢◌, IsTrue, List, length, take}
use Rattle.std.specs.Arc.{arc_value}
use Rattle.mark_core.specs.declared.kinds.Event.{Event}
use Rattle.gc_table.specs.OpenRuns.{LogBegins}
use Rattle.gc_table.specs.Past.{log_of}
use Rattle.gc_table.specs.Seats.{seen_of, state_of, view_of}
use Rattle.gc_table.specs.Seen.{Begins}
use Rattle.gc_table.specs.Stamps.{IsSameStamp, IsStampOf, SeesAll, StampFits, seen_by_stamp, stamp_view}
use Rattle.seat_steps.specs.Stepping.{KeepsCycle, KeepsSearch, is_collecting}
use Rattle.seat_steps.specs.declared.came.Came.{Came}
use Rattle.seat_steps.specs.declared.came.Came.TheVariants as cames
use Rattle.seat_steps.specs.declared.stamping.Stamp.{Stamp}
use Rattle.seat_steps.specs.declared.stepper.Stepper.{Stepper}

-- if the stamp has the name of the mutator's world, it is of its heap: no two worlds have one name
abbrev pub IsOfWorld : Stamp → Stepper → Type 0
IsOfWorld s m = s.world ≡ m.name → StampFits (arc_value m.heap) s.stamp

-- the stamp has what it had
abbrev pub StampKept : Stamp → Stamp → Type 0
StampKept s t = (t.world ≡ s.world) × IsSameStamp s.stamp t.stamp

-- the stepper stands where it stood, is of the same world, and has counted what it had
pub record StandsStill (x y : Stepper) : Type 0 where
  pub stage : y.stage ≡ x.stage
  pub world : arc_value y.heap ≡ arc_value x.heap
  pub name_is : y.name ≡ x.name
  pub stops : y.in_stops ≡ x.in_stops
  pub search : KeepsSearch x y
  pub cycle : KeepsCycle x y

-- the stepper collects, and is as it was
abbrev pub CollectsNow : Came → Stepper → Stepper → Type 0
CollectsNow cames.Collecting x y = IsTrue (is_collecting x.stage) × (y ≡ x)
CollectsNow came x y = ⊥

-- the stamp has all that the mutator had done and seen; the mutator knows and has seen what it had
pub record Stamps (s : Stamp) (x y : Stepper) : Type 0 where
  pub of : IsStampOf x.seat s.stamp
  pub fits : StampFits (arc_value x.heap) s.stamp
  pub world_is : s.world ≡ x.name
  pub view : view_of y.seat ≡ view_of x.seat
  pub seen : seen_of y.seat ≡ seen_of x.seat
  pub still : StandsStill x y

-- the mutator knows what it knew, and goes on from all that it had seen, and from what the stamp has
pub record GoesOnFrom (s : Stamp) (x y : Stepper) : Type 0 where
  pub world_is : s.world ≡ x.name
  pub sees : SeesAll x.seat y.seat
  pub told : Begins (seen_by_stamp s.stamp) (seen_of y.seat)
  pub still : StandsStill x y

-- what coming after a stamp came to
abbrev pub ComesAfter : Came → Stamp → Stepper → Stepper → Type 0
ComesAfter cames.Done s x y = GoesOnFrom s x y
ComesAfter cames.OtherWorld s x y = (s.world ≢ x.name) × (y ≡ x)
ComesAfter cames.Collecting s x y = (s.world ≡ x.name) × IsTrue (is_collecting x.stage) × (y ≡ x)
ComesAfter came s x y = ⊥

-- what seeing all came to: the mutator knows what it knew, and what it has seen is all that had happened at some moment
abbrev pub SeesTo : Came → Stepper → Stepper → Type 0
SeesTo cames.Done x y = SeesAll x.seat y.seat × StandsStill x y
SeesTo cames.Collecting x y = IsTrue (is_collecting x.stage) × (y ≡ x)
SeesTo came x y = ⊥

-- a stepper came after stamp a, and gave stamp b then. In each run that goes on from b the first events, as many as b has, have all that a's mutator had done,
-- and of the stepper exactly what it had done by then: what it does afterwards stands behind all that a's mutator had done
abbrev pub SteppersInOrder : Type 0
SteppersInOrder =
    (a b : Stamp) (x y z : Stepper) (es : List Event) → StampFits (arc_value x.heap) a.stamp → GoesOnFrom a x y → Stamps b y z → Begins (seen_by_stamp b.stamp) es
    → let log = log_of (view_of x.seat).shape (take (length (seen_by_stamp b.stamp)) es) in ∥ LogBegins (stamp_view a.stamp).log (log (stamp_view a.stamp).state.number) × (log (state_of x.seat).number ≡ (view_of x.seat).log) ∥₁
