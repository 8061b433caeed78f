-- What a mutator is told of the death of an object, whoever took the weak reference.
use Rattle.std.specs.Prelude.{ℕ, ◌≡◌, ◌≢◌, ◌⊎◌, ◌%◌, List, [], ◌∷◌, ◌++◌, IsFalse}
use Rattle.mark_core.specs.Bits.{has_bit}
use Rattle.mark_core.specs.Cards.{block_cells}
use Rattle.mark_core.specs.Shapes.{IsShape}
use Rattle.mark_core.specs.Steps.{Core, start_core}
use Rattle.mark_core.specs.declared.kinds.Event.{Event}
use Rattle.mark_core.specs.declared.kinds.Shape.{Shape}
use Rattle.mark_core.specs.declared.kinds.Step.TheVariants.{ReadIdent, ReadWeak}
use Rattle.gc_table.specs.AgreementLaws.{world_run}
use Rattle.gc_table.specs.Entries.{event}
use Rattle.gc_table.specs.OpenRuns.{IsSeatAt, LogBegins}
use Rattle.gc_table.specs.Past.{LeadTo, log_of}
use Rattle.gc_table.specs.Running.{Ran}
use Rattle.gc_table.specs.RunWorlds.{start_world}
use Rattle.gc_table.specs.Seats.{Across, seen_of, state_of, view_of}
use Rattle.gc_table.specs.Seen.{Begins, WereAll}
use Rattle.gc_table.specs.Stamps.{IsStampOf, seen_by_stamp, stamp_view}
use Rattle.gc_table.specs.Weak.{HasWeak, IsLostForGood}
use Rattle.gc_table.specs.declared.seat.HeapSeat.{HeapSeat}
use Rattle.gc_table.specs.declared.seat.Stamp.{Stamp as HeapStamp}
use Rattle.gc_table.specs.declared.view.Entry.{Entry}
use Rattle.gc_table.specs.declared.view.TokenState.{TokenState}
use Rattle.gc_table.specs.declared.view.View.{View}
use Rattle.seat_turns.specs.Weak.{TakesWeakIn, identity_of}
use Rattle.seat_turns.specs.declared.weak.Weak.{Weak}
use Rattle.seat_steps.specs.declared.came.Came.{Came}
use Rattle.seat_steps.specs.declared.came.Came.TheVariants as cames
use Rattle.seat_steps.specs.declared.stamping.Stamp.{Stamp}
use Rattle.seat_steps.specs.declared.stepper.Stepper.{Stepper}
use Rattle.seat_steps.specs.Stamping.{GoesOnFrom, Stamps}
use Rattle.seat_steps.specs.Deaths.{AsksTo}
use Rattle.seat_steps.specs.Taken.{AskingTellsDeath, HasTaken, UpgradeTellsDeath}
use Rattle.seat_steps.specs.Weak.{UpgradesTo}

-- by the end of these events some seat had taken a weak reference to the object of this identity in cell c
abbrev pub WasTaken : Shape → List Event → ℕ → ℕ → Type 0
WasTaken sh es c id = (k : ℕ) × HasWeak c id (log_of sh es k)

-- the history has a beginning by whose end some seat had taken the weak reference, and seat i had done no more than this
pub record TakenBefore (sh : Shape) (c id i : ℕ) (log : List Entry) (es : List Event) : Type 0 where
  pub past : List Event
  pub begins : Begins past es
  pub taken : WasTaken sh past c id
  pub before : LogBegins (log_of sh past i) log

-- by this step its seat finds that the cell has no published object, or one of another identity
abbrev pub FindsDead : ℕ → ℕ → Entry → Type 0
FindsDead c id a = ((bits : ℕ) × (a ≡ event (ReadWeak c) bits) × IsFalse (has_bit bits (c % block_cells))) ⊎ ((other : ℕ) × (a ≡ event (ReadIdent c) other) × (other ≢ id))

-- whoever took a weak reference: once a seat has then found so, the object is lost for good at the end of the history
abbrev pub DeathKnown : Type 0
DeathKnown =
    (sh : Shape) (es : List Event) (end : Core) (c id i : ℕ) (log : List Entry) (a : Entry) → IsShape sh → LeadTo sh es end → TakenBefore sh c id i log es → FindsDead c id a → LogBegins (log ++ a ∷ []) (log_of sh es i)
    → IsLostForGood end (world_run es (start_core sh 1) (start_world sh)) id

-- at the end of each history that has what the seat had done by the end of this call the object is lost for good, if anybody had taken the weak reference before the call
abbrev pub KnowsDeath : ℕ → ℕ → View → View → Type 0
KnowsDeath c id v x =
    (es : List Event) (end : Core) → LeadTo v.shape es end → TakenBefore v.shape c id v.state.number v.log es → LogBegins x.log (log_of v.shape es v.state.number)
    → IsLostForGood end (world_run es (start_core v.shape 1) (start_world v.shape)) id

-- so it is if a stepper is answered `Dead`
abbrev pub DeadWhoeverTook : Came → Weak → Stepper → Stepper → Type 0
DeadWhoeverTook cames.Dead weak x y = Across (KnowsDeath weak.place (identity_of weak)) x.seat y.seat
DeadWhoeverTook came weak x y = Unit {0}

-- in what the seat has seen somebody took the weak reference
abbrev pub HasSeenTaken : Weak → HeapSeat → Type 0
HasSeenTaken weak s = WasTaken (view_of s).shape (seen_of s) weak.place (identity_of weak)

-- in what the stamp has somebody took it
abbrev pub StampHasTaken : Weak → HeapStamp → Type 0
StampHasTaken weak n = WasTaken (stamp_view n).shape (seen_by_stamp n) weak.place (identity_of weak)

-- how it is known that a weak reference was taken before
pub record TakingsSeen : Type 0 where
  -- who took it has seen so
  pub own : (weak : Weak) (s : HeapSeat) → HasWeak weak.place (identity_of weak) (view_of s).log → ∥ HasSeenTaken weak s ∥₁
  -- the stamps of whoever has seen so have it
  pub stamped : (weak : Weak) (s : HeapSeat) (n : HeapStamp) → HasSeenTaken weak s → IsStampOf s n → StampHasTaken weak n
  -- who comes after such a stamp has seen so
  pub received : (weak : Weak) (n : HeapStamp) (s : HeapSeat) → (stamp_view n).shape ≡ (view_of s).shape → StampHasTaken weak n → Begins (seen_by_stamp n) (seen_of s) → HasSeenTaken weak s
  -- so has who has seen all that had happened at a moment at which some seat's log had it
  pub all : (weak : Weak) (s : HeapSeat) (w : WereAll (view_of s).shape (view_of s).plan (seen_of s)) (i : ℕ) (k : TokenState) → IsSeatAt w.0 i k → HasWeak weak.place (identity_of weak) k.view.log → HasSeenTaken weak s
  -- whatever a seat did since it has seen so: each history that goes on from what it had seen has the taking before what the seat does next
  pub before : (weak : Weak) (s t : HeapSeat) (es : List Event) → HasSeenTaken weak s → Across Ran s t → Begins (seen_of s) es → ∥ TakenBefore (view_of t).shape weak.place (identity_of weak) (view_of t).state.number (view_of t).log es ∥₁

-- a stepper that had taken a weak reference gave a stamp; another came after the stamp, went on, and was answered `Dead`: then the object is lost for good at the
-- end of each history that goes on from what that one had seen as it came after the stamp, and has what it has done
abbrev pub DeathReceived : Type 0
DeathReceived =
    (weak : Weak) (a : Stamp) (m n x y z d : Stepper) (es : List Event) (end : Core) → HasTaken weak m → Stamps a m n → GoesOnFrom a x y → (stamp_view a.stamp).shape ≡ (view_of y.seat).shape → Across Ran y.seat z.seat
    → DeadWhoeverTook cames.Dead weak z d → Begins (seen_of y.seat) es
    → let sh = (view_of z.seat).shape in LeadTo sh es end → LogBegins (view_of d.seat).log (log_of sh es (state_of z.seat).number)
    → ∥ IsLostForGood end (world_run es (start_core sh 1) (start_world sh)) (identity_of weak) ∥₁

-- what the answers of calls tell by themselves, as they reach a program in C: who took a weak reference, and what is told to that one and to all others
pub record DeathsTold : Type 0 where
  pub taken : (name v : ℕ) (weak : Weak) (x y : Stepper) → Across (TakesWeakIn name v weak) x.seat y.seat → HasTaken weak y
  pub upgraded : (came : Came) (weak : Weak) (v : ℕ) (x y : Stepper) → UpgradesTo came weak v x y → UpgradeTellsDeath came weak v x y × DeadWhoeverTook came weak x y
  pub asked : (came : Came) (weak : Weak) (v : ℕ) (x y : Stepper) → AsksTo came weak v x y → AskingTellsDeath came weak v x y × DeadWhoeverTook came weak x y
