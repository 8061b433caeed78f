-- What an export answers.
use Rattle.std.specs.Prelude.{ℕ, ◌≡◌, ◌⊎◌, Option, Some, None, IsFalse, IsTrue}
use Rattle.seat_steps.specs.declared.came.Came.{Came}
use Rattle.seat_steps.specs.declared.came.Came.TheVariants as cames
use Rattle.seat_steps.specs.Stepping.{ReadsValue, is_collecting}
use Rattle.seat_steps.specs.declared.stepper.Stepper.{Stepper}
use Rattle.managed_heap_c.specs.Kinds.{Counts, HasAll, Refuses, TakesBack}
use Rattle.managed_heap_c.specs.declared.hands.AnyWorld.{AnyWorld}
use Rattle.managed_heap_c.specs.declared.hands.Hand.{Hand}
use Rattle.managed_heap_c.specs.declared.sizes.CNumbers.{CNumbers}

-- the number of what a mutator's call came to
abbrev pub status_of_came : Came → ℕ
status_of_came cames.Done = 0
status_of_came cames.NotYet = 1
status_of_came cames.Stopped = 2
status_of_came cames.NoCell = 3
status_of_came cames.Outside = 4
status_of_came cames.Collecting = 5
status_of_came cames.OutOfRange = 6
status_of_came cames.Nil = 7
status_of_came cames.Full = 8
status_of_came cames.Spent = 9
status_of_came cames.NotShared = 19
status_of_came cames.NoCache = 20
status_of_came cames.Dead = 21
status_of_came cames.Unpublished = 22
status_of_came cames.OtherWorld = 14
status_of_came cames.Inside = 23
status_of_came cames.NoHelp = 24

-- another call uses the handle, and nothing changed
abbrev pub IsInUse : ℕ → Hand → Hand → Type 0
IsInUse n x y = (n ≡ 12) × IsTrue x.busy × (y ≡ x)

-- the handle was given back, or else the call came to what the answer says, and did this
abbrev pub Answers : (Came → Stepper → Stepper → Type 0) → ℕ → Option Stepper → Option Stepper → Type 0
Answers P n None y = (n ≡ 11) × (y ≡ None)
Answers P n (Some s) y = (came : Came) × (t : Stepper) × (n ≡ status_of_came came) × (y ≡ Some t) × P came s t

-- the answer of a call by a handle that no other uses, and none does afterwards; or another uses it, and nothing changed
abbrev pub AnswersOnce : (Came → Stepper → Stepper → Type 0) → ℕ → Hand → Hand → Type 0
AnswersOnce P n x y = (IsFalse x.busy × IsFalse y.busy × Answers P n x.stepper y.stepper) ⊎ IsInUse n x y

-- what reading a value came to, by what the variable of C was and is
abbrev pub ReadsTo : ℕ → ℕ → ℕ → Came → Stepper → Stepper → Type 0
ReadsTo v before after came x y = ReadsValue came v x y before after

-- nothing is written by a handle that was given back
abbrev pub SparesGone : {X : Type 0} → Option Stepper → X → X → Type 0
SparesGone None before after = after ≡ before
SparesGone (Some s) before after = Unit {0}

-- nothing is written by a handle that another call uses, or that was given back
abbrev pub SparesUnused : {X : Type 0} → Hand → X → X → Type 0
SparesUnused h before after = (IsTrue h.busy → after ≡ before) × SparesGone h.stepper before after

-- the mutator is between two steps of a collection and stays, and nothing changed; or the world refused it
abbrev pub StaysWith : ℕ → AnyWorld → AnyWorld → Stepper → Stepper → Type 0
StaysWith n w x s t = ((n ≡ 5) × IsTrue (is_collecting s.stage) × (t ≡ s) × (x ≡ w)) ⊎ ((n ≡ 14) × Refuses s t w x)

-- the mutator went back, or there was none to go back, or the handle keeps it
abbrev pub GivesBack : ℕ → AnyWorld → AnyWorld → Option Stepper → Option Stepper → Type 0
GivesBack n w x None None = (n ≡ 11) × (x ≡ w)
GivesBack n w x None (Some t) = ⊥
GivesBack n w x (Some s) None = (n ≡ 0) × TakesBack s w x
GivesBack n w x (Some s) (Some t) = StaysWith n w x s t

-- the world was closed, or it has the mutator back, or the handle keeps it, or there was none to give back
abbrev pub Gives : ℕ → Option AnyWorld → Option AnyWorld → Option Stepper → Option Stepper → Type 0
Gives n None y s t = (n ≡ 11) × (y ≡ None) × (t ≡ s)
Gives n (Some w) None s t = ⊥
Gives n (Some w) (Some x) s t = GivesBack n w x s t

-- the answer of giving a mutator back by a handle that no other call uses; or another uses it, and nothing changed
abbrev pub GivesOnce : ℕ → Option AnyWorld → Option AnyWorld → Hand → Hand → Type 0
GivesOnce n w x h k = (IsFalse h.busy × IsFalse k.busy × Gives n w x h.stepper k.stepper) ⊎ (IsInUse n h k × (x ≡ w))

-- the world was closed as all were back, or it was closed before, or not all are back
abbrev pub ClosesWorld : ℕ → Option AnyWorld → Option AnyWorld → Type 0
ClosesWorld n None y = (n ≡ 11) × (y ≡ None)
ClosesWorld n (Some w) None = (n ≡ 0) × HasAll w
ClosesWorld n (Some w) (Some x) = (n ≡ 17) × (x ≡ w) × (HasAll w → ⊥)

-- the numbers were read, or the world was closed and nothing is written
abbrev pub CountsWorld : ℕ → Option AnyWorld → Option AnyWorld → CNumbers → CNumbers → Type 0
CountsWorld n None y before after = (n ≡ 11) × (y ≡ None) × (after ≡ before)
CountsWorld n (Some w) None before after = ⊥
CountsWorld n (Some w) (Some x) before after = (n ≡ 0) × Counts w x after
