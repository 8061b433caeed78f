-- That what three mutators do later comes behind what each of them had done.
use Rattle.std.specs.Prelude.{◌≡◌, List, length}
use Rattle.std.specs.Arc.{arc_value}
use Rattle.mark_core.specs.declared.kinds.Event.{Event}
use Rattle.mark_core.specs.declared.kinds.Shape.{Shape}
use Rattle.gc_table.specs.Past.{log_of}
use Rattle.gc_table.specs.Seats.{state_of, view_of}
use Rattle.gc_table.specs.Seen.{Begins}
use Rattle.gc_table.specs.Stamps.{StampFits, seen_by_stamp}
use Rattle.seat_steps.specs.declared.stamping.Stamp.{Stamp}
use Rattle.shared_heap.specs.declared.mutator.SharedMutator.{SharedMutator}

-- the mutator knows what it knew, and stands where it stood
pub record Stays (x y : SharedMutator) : Type 0 where
  pub view : view_of y.seat ≡ view_of x.seat
  pub place : y.place ≡ x.place
  pub world : arc_value y.heap ≡ arc_value x.heap
  pub name_is : y.name ≡ x.name

-- of these events the mutator's part is as long as all that it has done
abbrev pub HasAll : Shape → List Event → SharedMutator → Type 0
HasAll sh past m = length (log_of sh past (state_of m.seat).number) ≡ length (view_of m.seat).log

-- events with all that the three have done so far begin what both stamps have
pub record AreInLine (one two : Stamp) (a b c x y z : SharedMutator) : Type 0 where
  pub first : Stays a x
  pub second : Stays b y
  pub maker : Stays c z
  pub first_shape : (view_of x.seat).shape ≡ (arc_value c.heap).shape
  pub second_shape : (view_of y.seat).shape ≡ (arc_value c.heap).shape
  pub past : List Event
  pub has_first : HasAll (arc_value c.heap).shape past x
  pub has_second : HasAll (arc_value c.heap).shape past y
  pub has_maker : HasAll (arc_value c.heap).shape past z
  pub one_goes_on : Begins past (seen_by_stamp one.stamp)
  pub two_goes_on : Begins past (seen_by_stamp two.stamp)
  pub one_fits : StampFits (arc_value c.heap) one.stamp
  pub two_fits : StampFits (arc_value c.heap) two.stamp
