-- No plain heap sees a step of a collection.
use Rattle.std.proofs.Common.{ℕ, ◌≡◌, ap, refl, Bool, true, false, ◌∙◌, subst, sym}
use Rattle.std.proofs.lemmas.Bool.{false≢true}
use Rattle.std.specs.Bool.{OnFalse, OnTrue}
use Rattle.mark_core.specs.declared.kinds.Phase.{Phase}
use Rattle.mark_core.specs.declared.kinds.Step.{Step}
use Rattle.mark_core.specs.declared.kinds.Step.TheVariants.{AddStat, ExchangeField, ExchangeValue, NextSeason, ReadSeason, StoreField, StoreNew, StoreRoot, StoreSlot, StoreValue, HoldRoot}
use Rattle.gc_table.specs.Log.{Only, all_steps}
use Rattle.gc_table.specs.Running.{Ran}
use Rattle.gc_table.specs.declared.view.View.{View}
use Rattle.gc_table.proofs.History.Log.{only-more}
use Rattle.gc_cycle.specs.Courses.{goes_on}
use Rattle.gc_cycle.specs.Finishing.{IsMove, IsPart, stays_in}
use Rattle.gc_cycle.specs.Sparing.{fills_part}
use Rattle.gc_cycle.specs.Standing.{KeepsSeat}
use Rattle.gc_cycle.specs.Stepping.{AsksOnce, FindsRunning, FindsStopped, Keeps, RunsAgain}
use Rattle.seat_turns.specs.Sharing.{LeavesHeap}
use Rattle.seat_turns.proofs.Leaving.{leaves-filled, leaves-join}
use Rattle.std.specs.Arc.{arc_value}
use Rattle.gc_table.specs.Seats.{Sits, view_of}
use Rattle.gc_table.specs.declared.seat.Heap.{Heap}
use Rattle.gc_table.specs.declared.seat.HeapSeat.{HeapSeat}
use Rattle.seat_turns.specs.Standing.{Halts, IsMutator, plain_of}
use Rattle.seat_turns.proofs.Seats.{kept-heap, mutator-kept}
use Rattle.seat_steps.specs.Collecting.{Collects}
use Rattle.seat_steps.specs.Stepping.{KeepsAll, KeepsCycle, KeepsRest}
use Rattle.seat_steps.specs.declared.stepper.Stepper.{Stepper}

goes_fills : (step : Step) → goes_on step ≡ true → fills_part step ≡ true
goes_fills (StoreField v i w) e = absurd (false≢true e)
goes_fills (StoreValue v n) e = absurd (false≢true e)
goes_fills (StoreRoot v r) e = absurd (false≢true e)
goes_fills (HoldRoot v r) e = absurd (false≢true e)
goes_fills (StoreSlot k r) e = absurd (false≢true e)
goes_fills (ExchangeField v i x y) e = absurd (false≢true e)
goes_fills (ExchangeValue v m n) e = absurd (false≢true e)
goes_fills (StoreNew c part word) e = absurd (false≢true e)
goes_fills ReadSeason e = absurd (false≢true e)
goes_fills NextSeason e = absurd (false≢true e)
goes_fills (AddStat which by down) e = e
goes_fills step e = refl

stays_fills : (p : Phase) (step : Step) → stays_in p step ≡ true → fills_part step ≡ true
stays_fills p (StoreField v i w) e = absurd (false≢true e)
stays_fills p (StoreValue v n) e = absurd (false≢true e)
stays_fills p (StoreRoot v r) e = absurd (false≢true e)
stays_fills p (HoldRoot v r) e = absurd (false≢true e)
stays_fills p (StoreSlot k r) e = absurd (false≢true e)
stays_fills p (ExchangeField v i x y) e = absurd (false≢true e)
stays_fills p (ExchangeValue v m n) e = absurd (false≢true e)
stays_fills p (StoreNew c part word) e = absurd (false≢true e)
stays_fills p ReadSeason e = absurd (false≢true e)
stays_fills p NextSeason e = absurd (false≢true e)
stays_fills p (AddStat which by down) e = e
stays_fills p step e = refl

pub course-leaves : (v w : View) → Ran v w → Only goes_on v w → KeepsSeat v w → LeavesHeap v w
course-leaves v w r o k = leaves-filled v w r (only-more goes_on fills_part goes_fills v w o) k

stays-leaves : (p : Phase) (v w : View) → Ran v w → Only (stays_in p) v w → KeepsSeat v w → LeavesHeap v w
stays-leaves p v w r o k = leaves-filled v w r (only-more (stays_in p) fills_part (stays_fills p) v w o) k

pub move-leaves : (from to : Phase) (v w : View) → IsMove from to v w → KeepsSeat v w → LeavesHeap v w
move-leaves from to v w m k = leaves-filled v w m.ran (ap (all_steps fills_part) m.events_are) k

pub asks-leaves : (done : ℕ) (yours : Bool) (v w : View) → Ran v w → AsksOnce done yours v w → KeepsSeat v w → LeavesHeap v w
asks-leaves done yours v w r a k = leaves-filled v w r (ap (all_steps fills_part) a.all) k

pub looks-leaves : (b : Bool) (P Q : Type 0) (v w : View) → Ran v w → OnTrue b (P × FindsStopped v w) → OnFalse b (Q × FindsRunning v w) → KeepsSeat v w → LeavesHeap v w
looks-leaves true P Q v w r s f k = leaves-filled v w r (ap (all_steps fills_part) s.1.all) k
looks-leaves false P Q v w r s f k = leaves-filled v w r (ap (all_steps fills_part) f.1.all) k

-- What a call of a collection leaves as it was: its seat is a mutator's still, and no plain heap sees what it did.
pub record Kept (x y : HeapSeat) : Type 0 where
  pub mutator : IsMutator (view_of x) → IsMutator (view_of y)
  pub same : plain_of y ≡ plain_of x
  pub leaves : LeavesHeap (view_of x) (view_of y)

kept : (x y : HeapSeat) → Keeps (view_of x) (view_of y) → LeavesHeap (view_of x) (view_of y) → Kept x y
kept x y k l = record { mutator = λ m. mutator-kept (view_of x) (view_of y) m l.ran k.0 k.1; same = kept-heap (view_of x) (view_of y) k.1; leaves = l }

pub stays-kept : (p : Phase) (x y : HeapSeat) → Ran (view_of x) (view_of y) → Only (stays_in p) (view_of x) (view_of y) → Keeps (view_of x) (view_of y) → Kept x y
stays-kept p x y r o k = kept x y k (stays-leaves p (view_of x) (view_of y) r o k.0)

pub part-kept : (p : Phase) (x y : HeapSeat) → IsPart p (view_of x) (view_of y) → Keeps (view_of x) (view_of y) → Kept x y
part-kept p x y h k = stays-kept p x y h.ran h.only k

pub move-kept : (from to : Phase) (x y : HeapSeat) → IsMove from to (view_of x) (view_of y) → Keeps (view_of x) (view_of y) → Kept x y
move-kept from to x y m k = kept x y k (move-leaves from to (view_of x) (view_of y) m k.0)

pub course-kept : (x y : HeapSeat) → Ran (view_of x) (view_of y) → Only goes_on (view_of x) (view_of y) → Keeps (view_of x) (view_of y) → Kept x y
course-kept x y r o k = kept x y k (course-leaves (view_of x) (view_of y) r o k.0)

pub looks-kept :
    (b : Bool) (P Q : Type 0) (x y : HeapSeat) → Ran (view_of x) (view_of y) → OnTrue b (P × FindsStopped (view_of x) (view_of y)) → OnFalse b (Q × FindsRunning (view_of x) (view_of y)) → Keeps (view_of x) (view_of y) → Kept x y
looks-kept b P Q x y r s f k = kept x y k (looks-leaves b P Q (view_of x) (view_of y) r s f k.0)

-- one call after another
pub kept-join : (x y z : HeapSeat) → Kept x y → Kept y z → Kept x z
kept-join x y z a b = record { mutator = λ m. b.mutator (a.mutator m); same = b.same ∙ a.same; leaves = leaves-join (view_of x) (view_of y) (view_of z) a.leaves b.leaves }

-- the heap of a collection, as a call has it, and as it is
pub sits-in : (g h : Heap) (s : HeapSeat) → g ≡ h → Sits h s → Sits g s
sits-in g h s e sits = subst (λ (i : Heap). Sits i s) (sym e) sits

pub sits-on : (g h : Heap) (s : HeapSeat) → g ≡ h → Sits g s → Sits h s
sits-on g h s e sits = subst (λ (i : Heap). Sits i s) e sits

-- so a stepper keeps the rest
abbrev rest_of : Stepper → ℕ × Bool × ℕ × ℕ × ℕ
rest_of x = (x.name, x.in_stops, x.paid, x.block, x.seen)

pub keeps-rest : (x y : Stepper) → Kept x.seat y.seat → arc_value y.heap ≡ arc_value x.heap → rest_of y ≡ rest_of x → KeepsRest x y
keeps-rest x y k world rest =
    record {
      heap = k.same;
      leaves = k.leaves;
      world = world;
      name_is = ap (λ (t : ℕ × Bool × ℕ × ℕ × ℕ). t.0) rest;
      stops = ap (λ (t : ℕ × Bool × ℕ × ℕ × ℕ). t.1) rest;
      search =
          record {
            paid_is = ap (λ (t : ℕ × Bool × ℕ × ℕ × ℕ). t.2) rest;
            block = ap (λ (t : ℕ × Bool × ℕ × ℕ × ℕ). t.3) rest;
            seen = ap (λ (t : ℕ × Bool × ℕ × ℕ × ℕ). t.4) rest;
          };
    }

-- and all, if it tells of the same collection
pub keeps-all : (x y : Stepper) → KeepsRest x y → KeepsCycle x y → KeepsAll x y
keeps-all x y k cycle = record { heap = k.heap; leaves = k.leaves; world = k.world; name_is = k.name_is; stops = k.stops; search = k.search; cycle = cycle }

-- and its collection goes on
pub goes-on : {Stands Since : View → Type 0} (g h : Heap) (x y : HeapSeat) → g ≡ h → IsMutator (view_of x) → Kept x y → Sits g y → Stands (view_of y) → Since (view_of y) → Collects Stands Since h y
goes-on g h x y e m k sits stands since = record { sits = sits-on g h y e sits; mutator = k.mutator m; stands = stands; since = since }

-- or the seat runs again
pub runs-again : (h : Heap) (x y : HeapSeat) → IsMutator (view_of x) → Kept x y → Sits h y → RunsAgain (view_of y) → Halts h y
runs-again h x y m k sits r = record { works = record { sits = sits; mutates = r.mutates; mutator = k.mutator m }; cache = r.cache }
