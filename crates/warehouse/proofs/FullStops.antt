-- A mutator that waits finds the heap full.
use Rattle.std.proofs.Common.{ℕ, ◌≡◌, sym, ap, ◌∙◌, length}
use Rattle.plain_heap.specs.PlainHeap.{Heap}
use Rattle.gc_table.specs.Rule.{KnowsFull}
use Rattle.gc_table.specs.declared.view.Meaning.{Meaning}
use Rattle.gc_table.specs.declared.view.View.{View}
use Rattle.gc_cycle.specs.Answering.{EndsFull}
use Rattle.warehouse.specs.Playing.{FindsFull, ObjectsHaveCells, Stays, DoesNothing}
use Rattle.gc_cycle.specs.Standing.{KeepsSeat, KeepsSection}
use Rattle.gc_cycle.proofs.Refills.Answered.{full-later as ends-before}
use Rattle.warehouse.proofs.Leavings.{waits-join, waits-ran}

-- the call that finds it leaves the section, after others that did
pub finds-after : (done : ℕ) (u v w : View) → Stays u v → DoesNothing u v → KeepsSeat v w → KeepsSection v w → DoesNothing v w → EndsFull done v w → KnowsFull w → FindsFull done u w
finds-after done u v w stays before seat section acts ends known =
    record {
      heap = ap (λ (m : Meaning). m.heap) section.meaning ∙ stays.still.heap;
      turns = section.turns ∙ stays.still.turns;
      places = section.places ∙ stays.still.places;
      ends = ends-before done u v w (waits-ran u v before) (waits-ran v w acts) ends;
      known = known;
      made = seat.made ∙ stays.made;
      acts = waits-join u v w before acts;
    }

-- the call that finds the heap full leaves the section, after calls that found room
pub finds-later : (done : ℕ) (u v w : View) → Stays u v → DoesNothing u v → FindsFull done v w → FindsFull done u w
finds-later done u v w stays before f =
    record {
      heap = f.heap ∙ stays.still.heap;
      turns = f.turns ∙ stays.still.turns;
      places = f.places ∙ stays.still.places;
      ends = ends-before done u v w (waits-ran u v before) (waits-ran v w f.acts) f.ends;
      known = f.known;
      made = f.made ∙ stays.made;
      acts = waits-join u v w before f.acts;
    }

-- each object has its cell still
pub counted-kept : (v w : View) → w.own.meaning.heap ≡ v.own.meaning.heap → w.state.made ≡ v.state.made → ObjectsHaveCells v → ObjectsHaveCells w
counted-kept v w heap made c = ap (λ (h : Heap). length h.objects) heap ∙ c ∙ sym made
