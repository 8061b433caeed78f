-- Steps outside a command, and what they leave.
use Rattle.std.proofs.Common.{ℕ, ◌≡◌, refl, sym, ap, ◌∙◌, Bool, true, false, not, ◌&&◌, subst, ◌∷◌, []}
use Rattle.std.proofs.lemmas.Bool.{and_parts, and_from}
use Rattle.mark_core.specs.Seats.{is_bare, phase_of}
use Rattle.mark_core.specs.Steps.WorldSteps.{has_nothing}
use Rattle.mark_core.specs.declared.kinds.Phase.{Phase}
use Rattle.mark_core.specs.Effects.{seat_after}
use Rattle.mark_core.specs.declared.kinds.Step.{Step}
use Rattle.mark_core.specs.declared.kinds.Step.TheVariants.{AddStat, EnterStep, LeaveStep, ReadPhase, ReadStat}
use Rattle.mark_core.specs.declared.seat.SeatState.{SeatState}
use Rattle.gc_table.specs.declared.view.View.{View}
use Rattle.gc_table.specs.Taking.{after}
use Rattle.gc_table.specs.Running.{is_store, AllSeen, Ran, after_all}
use Rattle.gc_table.specs.Log.{events, event}
use Rattle.gc_table.specs.Seats.{Answered, Found, Sits, view_of}
use Rattle.gc_table.proofs.History.Log.{events-after}
use Rattle.gc_table.proofs.Running.{ran-found, ran-join, ran-number, ran-plan, ran-section, ran-shape}
use Rattle.gc_play.specs.Stays.{SeatStays}
use Rattle.gc_play.specs.Turns.{SeesPhase}
use Rattle.gc_table.specs.declared.seat.Heap.{Heap}
use Rattle.gc_table.specs.declared.seat.HeapSeat.{HeapSeat}
use Rattle.stop_world.specs.Gates.{Enters, TurnsBack}
use Rattle.seat_turns.specs.TracerStanding.{Goes}
use Rattle.gc_play.specs.Standing.{Rests}

pub bare-parts : (s : SeatState) → is_bare s ≡ true → (s.counted ≡ false) × (s.raised ≡ false) × (s.helping ≡ false)
bare-parts s e =
    let p = and_parts (not s.counted && not s.raised) (not s.helping) e in
    let q = and_parts (not s.counted) (not s.raised) p.0 in
    (from_not s.counted q.0, from_not s.raised q.1, from_not s.helping p.1)
  where
    from_not : (b : Bool) → not b ≡ true → b ≡ false
    from_not true e = sym e
    from_not false e = refl

pub bare-from : (s : SeatState) → s.counted ≡ false → s.raised ≡ false → s.helping ≡ false → is_bare s ≡ true
bare-from s a b c = and_from (not s.counted && not s.raised) (not s.helping) (and_from (not s.counted) (not s.raised) (ap not a) (ap not b)) (ap not c)

pub stays-join : (u v w : View) → SeatStays u v → SeatStays v w → SeatStays u w
stays-join u v w a b =
    record {
      shape = b.shape ∙ a.shape;
      number = b.number ∙ a.number;
      section = b.section ∙ a.section;
      plan_is = b.plan_is ∙ a.plan_is;
      own = b.own ∙ a.own;
      idle = b.idle ∙ a.idle;
      ran = ran-join u v w a.ran b.ran;
    }

-- a step that changes nothing of the section, and leaves in hand what was there
stays-step : (v w : View) (step : Step) (n : ℕ) → is_store step ≡ false → (after step n v).own ≡ v.own → has_nothing v.shape (seat_after v.shape v.state step n) ≡ has_nothing v.shape v.state → Found step n v w → SeatStays v w
stays-step v w step n k own idle f =
    let r = ran-found v w step n k f in
    record {
      shape = ran-shape v w r;
      number = ran-number v w r;
      section = ran-section v w r;
      plan_is = ran-plan v w r;
      own = ap (λ (x : View). x.own) f.0 ∙ own;
      idle = ap (λ (x : View). has_nothing x.shape x.state) f.0 ∙ idle;
      ran = r;
    }

pub stays-enter : (v w : View) (n : ℕ) → Found EnterStep n v w → SeatStays v w
stays-enter v w n f = stays-step v w EnterStep n refl refl refl f

pub stays-leave : (v w : View) (n : ℕ) → Found LeaveStep n v w → SeatStays v w
stays-leave v w n f = stays-step v w LeaveStep n refl refl refl f

stays-read_phase : (v w : View) (n : ℕ) → Found ReadPhase n v w → SeatStays v w
stays-read_phase v w n f = stays-step v w ReadPhase n refl refl refl f

-- the phase was read
pub stays-seen : (p : Phase) (v w : View) → Answered ReadPhase (λ n. p ≡ phase_of n) v w → SeatStays v w
stays-seen p v w a = stays-read_phase v w a.0 (a.1, a.2)

pub sees-seen : (p : Phase) (v w : View) → Answered ReadPhase (λ n. p ≡ phase_of n) v w → SeesPhase p (events v w)
sees-seen p v w a = (a.0, a.3, events-after v w ReadPhase a.0 a.1)

pub stays-read_stat : (v w : View) (which n : ℕ) → Found (ReadStat which) n v w → SeatStays v w
stays-read_stat v w which n f = stays-step v w (ReadStat which) n refl refl refl f

-- and the seat is at rest as before
pub read-rests : (h : Heap) (x y : HeapSeat) (which n : ℕ) → Rests h x → Sits h y → Found (ReadStat which) n (view_of x) (view_of y) → Rests h y
read-rests h x y which n r sits f = record {
  sits = sits;
  outside = ap (λ (v : View). is_bare v.state) f.0 ∙ r.outside;
  idle = ap (λ (v : View). has_nothing h.shape v.state) f.0 ∙ r.idle;
}

pub stays-add_stat : (v w : View) (which by n : ℕ) (down : Bool) → Found (AddStat which by down) n v w → SeatStays v w
stays-add_stat v w which by n down f = stays-step v w (AddStat which by down) n refl refl refl f

-- A tracer that goes into the world, or finds a stop and turns back.
pub entered-stays : (v w : View) → Ran v w → Enters v w → SeatStays v w
entered-stays v w r e =
    let seen : AllSeen (event EnterStep e.word ∷ []) v = subst (λ es. AllSeen es v) e.events r.seen in
    stays-enter v w e.word (r.steps ∙ ap (λ es. after_all es v) e.events, seen.0.found refl)

pub turned-stays : (v w : View) → Ran v w → TurnsBack v w → SeatStays v w
turned-stays v w r t =
    let inside : View = after EnterStep t.word v in
    let seen : AllSeen (event EnterStep t.word ∷ event LeaveStep t.left ∷ []) v = subst (λ es. AllSeen es v) t.events r.seen in
    stays-join v inside w (stays-enter v inside t.word (refl, seen.0.found refl)) (stays-leave inside w t.left (r.steps ∙ ap (λ es. after_all es v) t.events, seen.1.0.found refl))

pub entered-goes : (h : Heap) (x y : HeapSeat) → Rests h x → Sits h y → Enters (view_of x) (view_of y) → Goes h y
entered-goes h x y r sits e =
    let b = bare-parts (view_of x).state r.outside in
    record {
      sits = sits;
      counted = ap (λ (s : SeatState). s.counted) e.state;
      active = ap (λ (s : SeatState). s.active) e.state;
      unraised = ap (λ (s : SeatState). s.raised) e.state ∙ b.1;
      unhelping = ap (λ (s : SeatState). s.helping) e.state ∙ b.2;
      idle = ap (λ (s : SeatState). has_nothing h.shape s) e.state ∙ r.idle;
    }

pub turned-rests : (h : Heap) (x y : HeapSeat) → Rests h x → Sits h y → TurnsBack (view_of x) (view_of y) → Rests h y
turned-rests h x y r sits t =
    let b = bare-parts (view_of x).state r.outside in
    record {
      sits = sits;
      outside = bare-from (view_of y).state (ap (λ (s : SeatState). s.counted) t.state ∙ b.0) (ap (λ (s : SeatState). s.raised) t.state ∙ b.1) (ap (λ (s : SeatState). s.helping) t.state ∙ b.2);
      idle = ap (λ (s : SeatState). has_nothing h.shape s) t.state ∙ r.idle;
    }
