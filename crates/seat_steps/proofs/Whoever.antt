-- A mutator that finds a weak reference's object dead knows so in each history, whoever took the weak reference.
use Rattle.std.proofs.Common.{ℕ, ◌≡◌, ◌≢◌, ◌||◌, ◌+◌, ◌%◌, ◌<◌, ◌∙◌, arith, List, [], ◌∷◌, ◌++◌, append_assoc, ap, refl, subst, sym, Bool, true, false, cond, inl, inr}
use Rattle.std.proofs.Math.Logic.{∥∥₁_map, ∥∥₁_map₂}
use Rattle.std.proofs.lemmas.Bool.{and_parts, ltb-true}
use Rattle.mark_core.specs.Bits.{has_bit, reference_in}
use Rattle.mark_core.specs.Seats.{used_in}
use Rattle.mark_core.specs.Shapes.{IsShape}
use Rattle.mark_core.specs.Steps.{Core, after_event, start_core}
use Rattle.mark_core.specs.Steps.MutatorSteps.{weak_reference}
use Rattle.mark_core.specs.declared.kinds.Event.{Event}
use Rattle.mark_core.specs.declared.kinds.Shape.{Shape}
use Rattle.mark_core.specs.declared.kinds.Step.TheVariants.{ReadIdent, ReadWeak}
use Rattle.mark_core.specs.declared.seat.SeatState.{SeatState}
use Rattle.mark_core.proofs.Known.{Acted, acts}
use Rattle.gc_table.specs.AgreementLaws.{world_run}
use Rattle.gc_table.specs.Entries.{event}
use Rattle.gc_table.specs.Log.{events}
use Rattle.gc_table.specs.OpenRuns.{IsSeatAt, LogBegins}
use Rattle.gc_table.specs.Past.{LeadTo, adds, log_from, log_of}
use Rattle.gc_table.specs.Running.{Ran}
use Rattle.gc_table.specs.RunWorlds.{start_world}
use Rattle.gc_table.specs.Seats.{Across, seen_of, view_of}
use Rattle.gc_table.specs.Seen.{Begins, Recalls, WereAll}
use Rattle.gc_table.specs.Stamps.{IsStampOf, seen_by_stamp, stamp_view}
use Rattle.gc_table.specs.Taking.{Finds}
use Rattle.gc_table.specs.Weak.{HasWeak, IsLostForGood}
use Rattle.gc_table.specs.declared.seat.HeapSeat.{HeapSeat}
use Rattle.gc_table.specs.declared.seat.Stamp.{Stamp as HeapStamp}
use Rattle.gc_table.specs.declared.view.Entry.{Entry}
use Rattle.gc_table.specs.declared.view.TokenState.{TokenState}
use Rattle.gc_table.specs.declared.view.View.{View}
use Rattle.gc_table.proofs.Remembering.{weak-more}
use Rattle.gc_table.proofs.Running.{ran-number, ran-shape}
use Rattle.gc_table.proofs.Stamped.{seats_share_run}
use Rattle.mutator_ops.specs.Upgrading.{Upgrades}
use Rattle.seat_turns.specs.Weak.{identity_of}
use Rattle.seat_turns.specs.declared.weak.Weak.{Weak}
use Rattle.seat_steps.specs.Deaths.{AsksFor, AsksTo}
use Rattle.seat_steps.specs.Received.{DeadWhoeverTook, DeathReceived, DeathsTold, HasSeenTaken, KnowsDeath, StampHasTaken, TakenBefore, TakingsSeen, WasTaken}
use Rattle.seat_steps.specs.Taken.{AskingTellsDeath, UpgradeTellsDeath}
use Rattle.seat_steps.specs.Weak.{UpgradesTo}
use Rattle.seat_steps.specs.declared.came.Came.{Came}
use Rattle.seat_steps.specs.declared.came.Came.TheVariants as cames
use Rattle.seat_steps.specs.declared.stepper.Stepper.{Stepper}
use Rattle.seat_steps.proofs.Received.{death_known}
use Rattle.seat_steps.proofs.Taken.{asking-told, log_is, seen-are, takes-it, upgrade-told}

clear_by : (b used : Bool) (r : ℕ) → r ≢ 0 → cond (b || used) r 0 ≡ 0 → b ≡ false
clear_by true used r some e = absurd (some e)
clear_by false used r some e = refl

-- who is given no reference has found the cell's bit clear
bit_clear : (c bits : ℕ) (v : View) → Finds (ReadWeak c) bits v → weak_reference v.state c bits ≡ 0 → has_bit bits (c % 64) ≡ false
bit_clear c bits v f none =
    let d : Core = f.state.core in
    let e : Event = record { seat = f.index; step = ReadWeak c } in
    let acted : (s : SeatState) × Acted d e s = acts d e f.whole.core f.allowed in
    let low : c < d.shape.cells = ltb-true c d.shape.cells (and_parts _ _ acted.1.ok.0).0 in
    clear_by (has_bit bits (c % 64)) (used_in v.state.cache c) (reference_in (c + 1)) (λ z. omega (arith, low, f.whole.core.formed.shaped.cells, z)) none

first_found : (c bits : ℕ) (more : List Entry) (v x : View) → Ran v x → events v x ≡ event (ReadWeak c) bits ∷ more → Finds (ReadWeak c) bits v
first_found c bits more v x ran are = (seen-are v x (event (ReadWeak c) bits ∷ more) ran are).0.found refl

shape_of : (c bits : ℕ) (v : View) → Finds (ReadWeak c) bits v → IsShape v.shape
shape_of c bits v f = subst IsShape (sym f.agrees.shape) f.whole.core.formed.shaped

-- a history that has what a call did has its first steps
begins_with : (v x : View) (es later : List Entry) (log : List Entry) → Ran v x → events v x ≡ es ++ later → LogBegins x.log log → LogBegins (v.log ++ es) log
begins_with v x es later log ran are done = (
  later ++ done.0,
  done.1 ∙ (ap (λ (l : List Entry). l ++ done.0) (log_is v x ran ∙ (ap (λ (l : List Entry). v.log ++ l) are ∙ sym (append_assoc v.log es later))) ∙ append_assoc (v.log ++ es) later done.0),
)

-- nothing was found in the cell
free-known : (c id bits : ℕ) (more : List Entry) (v x : View) → Ran v x → events v x ≡ event (ReadWeak c) bits ∷ more → weak_reference v.state c bits ≡ 0 → KnowsDeath c id v x
free-known c id bits more v x ran are none es end led taken done =
    let f : Finds (ReadWeak c) bits v = first_found c bits more v x ran are in
    let a : Entry = event (ReadWeak c) bits in
    death_known v.shape es end c id v.state.number v.log a (shape_of c bits v f) led taken (inl (bits, refl, bit_clear c bits v f none)) (begins_with v x (a ∷ []) more (log_of v.shape es v.state.number) ran are done)

-- another object was
other-known : (c id bits other : ℕ) (more : List Entry) (v x : View) → Ran v x → events v x ≡ event (ReadWeak c) bits ∷ event (ReadIdent c) other ∷ more → other ≢ id → KnowsDeath c id v x
other-known c id bits other more v x ran are differs es end led taken done =
    let f : Finds (ReadWeak c) bits v = first_found c bits (event (ReadIdent c) other ∷ more) v x ran are in
    let read : List Entry = event (ReadWeak c) bits ∷ [] in
    let a : Entry = event (ReadIdent c) other in
    let i : ℕ = v.state.number in
    let later : TakenBefore v.shape c id i (v.log ++ read) es =
    record {
      past = taken.past;
      begins = taken.begins;
      taken = taken.taken;
      before = (taken.before.0 ++ read, ap (λ (l : List Entry). l ++ read) taken.before.1 ∙ append_assoc (log_of v.shape taken.past i) taken.before.0 read);
    } in
    let steps : LogBegins (v.log ++ (read ++ a ∷ [])) (log_of v.shape es i) = begins_with v x (read ++ a ∷ []) more (log_of v.shape es i) ran are done in
    death_known v.shape es end c id i (v.log ++ read) a (shape_of c bits v f) led later (inr (other, refl, differs))
    (subst (λ (l : List Entry). LogBegins l (log_of v.shape es i)) (sym (append_assoc v.log read (a ∷ []))) steps)

pub upgrade-known : (u c id : ℕ) (v x : View) → Upgrades u c id false v x → KnowsDeath c id v x
upgrade-known u c id v x (inl e) = free-known c id e.bits _ v x e.ran e.events_are e.none
upgrade-known u c id v x (inr (other, differs, e)) = other-known c id e.bits other _ v x e.ran e.events_are differs

pub asking-known : (u c id : ℕ) (v x : View) → AsksFor u c id false v x → KnowsDeath c id v x
asking-known u c id v x (inl e) = free-known c id e.bits _ v x e.ran e.events_are e.none
asking-known u c id v x (inr (other, differs, e)) = other-known c id e.bits other _ v x e.ran e.events_are differs

upgraded : (came : Came) (weak : Weak) (v : ℕ) (x y : Stepper) → UpgradesTo came weak v x y → UpgradeTellsDeath came weak v x y × DeadWhoeverTook came weak x y
upgraded cames.Dead weak v x y e =
    (λ h. upgrade-told v weak.place (identity_of weak) (view_of x.seat) (view_of y.seat) h e.1.acts, upgrade-known v weak.place (identity_of weak) (view_of x.seat) (view_of y.seat) e.1.acts)
upgraded came weak v x y e = (tt, tt)

asked : (came : Came) (weak : Weak) (v : ℕ) (x y : Stepper) → AsksTo came weak v x y → AskingTellsDeath came weak v x y × DeadWhoeverTook came weak x y
asked cames.Dead weak v x y e =
    (λ h. asking-told v weak.place (identity_of weak) (view_of x.seat) (view_of y.seat) h e.1.acts, asking-known v weak.place (identity_of weak) (view_of x.seat) (view_of y.seat) e.1.acts)
asked came weak v x y e = (tt, tt)

pub deaths_told : DeathsTold
deaths_told = record { taken = λ name v weak x y t. takes-it name v weak (view_of x.seat) (view_of y.seat) t; upgraded = upgraded; asked = asked }

-- a log grows with the history
log_split : (k : ℕ) (c : Core) (es fs : List Event) → (more : List Entry) × (log_from k c (es ++ fs) ≡ log_from k c es ++ more)
log_split k c [] fs = (log_from k c fs, refl)
log_split k c (e ∷ es) fs =
    let rest = log_split k (after_event c e) es fs in
    (rest.0, ap (λ (l : List Entry). adds k c e ++ l) rest.1 ∙ sym (append_assoc (adds k c e) (log_from k (after_event c e) es) rest.0))

taken_on : (sh : Shape) (c id : ℕ) (es fs : List Event) → WasTaken sh es c id → WasTaken sh (es ++ fs) c id
taken_on sh c id es fs h =
    let q = log_split h.0 (start_core sh 1) es fs in
    (h.0, subst (HasWeak c id) (sym q.1) (weak-more c id (log_of sh es h.0) q.0 h.1))

-- who took it has seen so
own : (weak : Weak) (s : HeapSeat) → Recalls s.token.me.0 → HasWeak weak.place (identity_of weak) (view_of s).log → HasSeenTaken weak s
own weak s r h = ((view_of s).state.number, subst (HasWeak weak.place (identity_of weak)) r.log h)

stamped : (weak : Weak) (s : HeapSeat) (n : HeapStamp) → HasSeenTaken weak s → IsStampOf s n → StampHasTaken weak n
stamped weak s n h of =
    subst (λ (es : List Event). WasTaken (stamp_view n).shape es weak.place (identity_of weak)) (sym of.0)
    (subst (λ (v : View). WasTaken v.shape (seen_of s) weak.place (identity_of weak)) (sym of.1) h)

received : (weak : Weak) (n : HeapStamp) (s : HeapSeat) → (stamp_view n).shape ≡ (view_of s).shape → StampHasTaken weak n → Begins (seen_by_stamp n) (seen_of s) → HasSeenTaken weak s
received weak n s same h b =
    subst (λ (es : List Event). WasTaken (view_of s).shape es weak.place (identity_of weak)) (sym b.1)
    (subst (λ (sh : Shape). WasTaken sh (seen_by_stamp n ++ b.0) weak.place (identity_of weak)) same (taken_on (stamp_view n).shape weak.place (identity_of weak) (seen_by_stamp n) b.0 h))

all : (weak : Weak) (s : HeapSeat) (w : WereAll (view_of s).shape (view_of s).plan (seen_of s)) (i : ℕ) (k : TokenState) → IsSeatAt w.0 i k → HasWeak weak.place (identity_of weak) k.view.log → HasSeenTaken weak s
all weak s w i k at h =
    let run = seats_share_run (view_of s).shape (view_of s).plan w.0 w.1 in (
      k.view.state.number,
      subst (λ (es : List Event). HasWeak weak.place (identity_of weak) (log_of (view_of s).shape es k.view.state.number)) w.2 (subst (HasWeak weak.place (identity_of weak)) (run.parts i k at) h),
    )

-- the seat's log was what it had seen of itself, and went on
before : (weak : Weak) (s t : HeapSeat) (es : List Event) → Recalls s.token.me.0 → HasSeenTaken weak s → Across Ran s t → Begins (seen_of s) es → TakenBefore (view_of t).shape weak.place (identity_of weak) (view_of t).state.number (view_of t).log es
before weak s t es r h ran b =
    let v : View = view_of s in
    let w : View = view_of t in
    let here : TakenBefore v.shape weak.place (identity_of weak) v.state.number w.log es =
    record {
      past = seen_of s;
      begins = b;
      taken = h;
      before = (events v w, log_is v w ran ∙ ap (λ (l : List Entry). l ++ events v w) r.log);
    } in
    subst (λ (sh : Shape). TakenBefore sh weak.place (identity_of weak) w.state.number w.log es) (sym (ran-shape v w ran))
    (subst (λ (k : ℕ). TakenBefore v.shape weak.place (identity_of weak) k w.log es) (sym (ran-number v w ran)) here)

pub takings_seen : TakingsSeen
takings_seen =
    record {
      own = λ weak s h. ∥∥₁_map s.recalls (λ r. own weak s r h);
      stamped = stamped;
      received = received;
      all = all;
      before = λ weak s t es h ran b. ∥∥₁_map s.recalls (λ r. before weak s t es r h ran b);
    }

-- what a mutator that came after a stamp knows of whatever the stamp's mutator took
pub death-reaches :
    (weak : Weak) (n : HeapStamp) (m y z d : HeapSeat) (es : List Event) (end : Core) → HasWeak weak.place (identity_of weak) (view_of m).log → IsStampOf m n → (stamp_view n).shape ≡ (view_of y).shape → Begins (seen_by_stamp n) (seen_of y) → Across Ran y z
    → Across (KnowsDeath weak.place (identity_of weak)) z d → Begins (seen_of y) es → LeadTo (view_of z).shape es end → LogBegins (view_of d).log (log_of (view_of z).shape es (view_of z).state.number)
    → ∥ IsLostForGood end (world_run es (start_core (view_of z).shape 1) (start_world (view_of z).shape)) (identity_of weak) ∥₁
death-reaches weak n m y z d es end taken of same told ran dead b led done =
    ∥∥₁_map₂ m.recalls y.recalls (λ r q. dead es end led (before weak y z es q (received weak n y same (stamped weak m n (own weak m r taken) of) told) ran b) done)

pub death_received : DeathReceived
death_received weak a m n x y z d es end taken stamps goes same ran dead b led done =
    death-reaches weak a.stamp m.seat y.seat z.seat d.seat es end taken stamps.of same goes.told ran dead b led done
