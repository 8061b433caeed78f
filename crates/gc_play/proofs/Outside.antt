-- A seat that waits outside: one that never leaves and is outside at the end never entered.
use Rattle.std.proofs.Common.{ℕ, ◌≡◌, List, [], ◌∷◌, refl, sym, ap, ◌∙◌, ⊎_elim, Bool, true, false, not}
use Rattle.std.specs.Prelude.{IsTrue}
use Rattle.std.proofs.lemmas.Bool.{cases_Bool, or_cases, or_parts, true≢false}
use Rattle.mark_core.specs.Effects.{seat_after}
use Rattle.mark_core.specs.declared.kinds.Shape.{Shape}
use Rattle.mark_core.specs.declared.kinds.Step.{Step}
use Rattle.mark_core.specs.declared.kinds.Step.TheVariants.{DropStep, EnterStep, LeaveStep, ReadStat}
use Rattle.mark_core.specs.declared.seat.SeatState.{SeatState}
use Rattle.gc_table.specs.Log.{events, Only}
use Rattle.gc_table.specs.Running.{Ran}
use Rattle.gc_table.specs.Seats.{view_of}
use Rattle.gc_table.specs.declared.seat.Heap.{Heap}
use Rattle.gc_table.specs.declared.seat.HeapSeat.{HeapSeat}
use Rattle.gc_table.specs.declared.view.Entry.{Entry}
use Rattle.gc_table.specs.declared.view.View.{View}
use Rattle.gc_table.proofs.History.Log.{only-more}
use Rattle.gc_table.proofs.Running.{ran-number, ran-plan, ran-section, ran-shape}
use Rattle.packet_pools.specs.Seeking.{some_event}
use Rattle.gc_cycle.specs.Events.{never}
use Rattle.gc_cycle.specs.Mutating.{stays_calm}
use Rattle.gc_cycle.specs.Sorts.{enters, leaves}
use Rattle.gc_cycle.specs.Standing.{IsOut}
use Rattle.gc_cycle.specs.Statistics.{leaves_numbers}
use Rattle.gc_cycle.proofs.Changes.{only-changes}
use Rattle.gc_cycle.proofs.Unbegun.{calm-unbegun}
use Rattle.gc_play.specs.Standing.{Rests}
use Rattle.gc_play.specs.Stays.{SeatStays}
use Rattle.gc_play.specs.Turns.{LeavesNumbers, WaitsOutside, leaves_done, record_after}
use Rattle.gc_play.proofs.Parts.{rests-out}
use Rattle.gc_play.proofs.Rounds.{ran-state}
use Rattle.gc_play.proofs.Steps.{bare-parts}
use Rattle.gc_play.proofs.TurnCuts.{quiet-only}

-- a step that doesn't leave keeps the seat counted
counted-step : (sh : Shape) (s : SeatState) (step : Step) (n : ℕ) → leaves step n ≡ false → s.counted ≡ true → (seat_after sh s step n).counted ≡ true
counted-step sh s LeaveStep n l c = absurd (true≢false l)
counted-step sh s EnterStep n l c = refl
counted-step sh s DropStep n l c = refl
counted-step sh s step n l c = c

counted-stays : (sh : Shape) (es : List Entry) (s : SeatState) → some_event leaves es ≡ false → s.counted ≡ true → (record_after sh s es).counted ≡ true
counted-stays sh [] s l c = c
counted-stays sh (e ∷ es) s l c =
    let p = or_parts (leaves e.step e.found) (some_event leaves es) l in counted-stays sh es (seat_after sh s e.step e.found) p.1 (counted-step sh s e.step e.found p.0 c)

enters-counts : (sh : Shape) (s : SeatState) (step : Step) (n : ℕ) → enters step n ≡ true → (seat_after sh s step n).counted ≡ true
enters-counts sh s EnterStep n e = refl
enters-counts sh s step n e = absurd (true≢false (sym e))

counted-after : (sh : Shape) (es : List Entry) (s : SeatState) → some_event leaves es ≡ false → some_event enters es ≡ true → (record_after sh s es).counted ≡ true
counted-after sh [] s l e = absurd (true≢false (sym e))
counted-after sh (x ∷ es) s l e =
    let p = or_parts (leaves x.step x.found) (some_event leaves es) l in
    let t : SeatState = seat_after sh s x.step x.found in
    ⊎_elim
    (λ (h : enters x.step x.found ≡ true). counted-stays sh es t p.1 (enters-counts sh s x.step x.found h))
    (λ (h : some_event enters es ≡ true). counted-after sh es t p.1 h)
    (or_cases (enters x.step x.found) (some_event enters es) e)

pub never-enters : (v w : View) → Ran v w → IsTrue (never leaves (events v w)) → w.state.counted ≡ false → some_event enters (events v w) ≡ false
never-enters v w r l out =
    ⊎_elim
    (λ (e : some_event enters (events v w) ≡ true).
    absurd (true≢false (sym (counted-after v.shape (events v w) v.state (none (some_event leaves (events v w)) l) e) ∙ (ap (λ (s : SeatState). s.counted) (ran-state v w r) ∙ out))))
    (λ (e : some_event enters (events v w) ≡ false). e)
    (cases_Bool (some_event enters (events v w)))
  where
    none : (b : Bool) → not b ≡ true → b ≡ false
    none true e = sym e
    none false e = refl

-- a seat that waited until a stop had ended is the same
pub waited-stays : (h : Heap) (x : HeapSeat) (w : View) → Rests h x → Ran (view_of x) w → w.own ≡ (view_of x).own → IsOut w → SeatStays (view_of x) w
waited-stays h x w rests r own out =
    let v : View = view_of x in
    record {
      shape = ran-shape v w r;
      number = ran-number v w r;
      section = ran-section v w r;
      plan_is = ran-plan v w r;
      own = own;
      idle = out.rest ∙ sym (rests-out h x rests).rest;
      ran = r;
    }

-- a step of waiting doesn't read how many parts were played
calm-leaves : (step : Step) → stays_calm step ≡ true → leaves_done step ≡ true
calm-leaves (ReadStat which) e = e
calm-leaves step e = refl

-- it read no number of parts, and didn't enter
pub waited-outside : (v w : View) → Ran v w → Only stays_calm v w → IsTrue (never leaves (events v w)) → IsOut w → WaitsOutside (events v w)
waited-outside v w r only l out = record {
  quiet = quiet-only (events v w) (only-more stays_calm leaves_done calm-leaves v w only);
  outside = ap not (never-enters v w r l (bare-parts w.state out.bare).0);
}

-- and changed no number
pub waited-numbers : (v w : View) → Ran v w → Only stays_calm v w → Only leaves_numbers v w → LeavesNumbers (events v w)
waited-numbers v w r only numbers = record { numbers = (only-changes v w r numbers).all; unbegun = calm-unbegun v w only }
