-- That what a mutator did fits a queue, as its log tells: each change of a node or of the queue is one of the kinds by which it stays first in, first out.
use Rattle.std.specs.Prelude.{ℕ, ◌≡◌, ◌<◌, ◌&&◌, Bool, List, [], ◌∷◌, ◌++◌, Some, true, false, IfOk, IsTrue, drop, length}
use Rattle.std.specs.declared.result.Result.{Result}
use Rattle.mark_core.specs.Numbers.{section_variables}
use Rattle.mark_core.specs.Steps.MutatorSteps.{seat_variable as word_in}
use Rattle.mark_core.specs.declared.seat.SeatState.{SeatState}
use Rattle.gc_table.specs.Lending.{leaves_variable}
use Rattle.gc_table.specs.Log.{all_steps}
use Rattle.gc_table.specs.Seats.{state_of, view_of}
use Rattle.gc_table.specs.declared.view.Entry.{Entry}
use Rattle.queue_laws.specs.QueueLogs.{Hands, fits, follows, has_read, is_fresh, is_linked, keeps_beside}
use Rattle.queue_laws.specs.Reads.{readings, starting}
use Rattle.seat_turns.specs.declared.refused.Refused.{Refused}
use Rattle.shared_heap.specs.declared.mutator.SharedMutator.{SharedMutator}

-- the variables of the calls of variable q's queue
abbrev pub hands : ℕ → Hands
hands q = record { queue = q; own = 20; seen = 21; tail = 22; next = 23 }

-- each of these entries fits, given the log before it
abbrev pub fit_all : ℕ → SeatState → Hands → List Entry → List Entry → Bool
fit_all fields s h before [] = true
fit_all fields s h before (e ∷ es) = fits fields s h before e.step && fit_all fields s h (before ++ e ∷ []) es

-- where a seat was as a run began: how many references objects have, its record, and its log
pub record Began : Type 0 where
  pub fields : ℕ
  pub seat : SeatState
  pub log : List Entry

-- what the mutator did since
abbrev pub since : Began → SharedMutator → List Entry
since b m = drop (length b.log) (view_of m.seat).log

-- all of it fits variable q's queue, leaves this variable, and tells what the variables refer to now
pub record FitsSince (q : ℕ) (b : Began) (m : SharedMutator) : Type 0 where
  pub shape : (view_of m.seat).shape.fields ≡ b.fields
  pub log : (view_of m.seat).log ≡ b.log ++ since b m
  pub fit : IsTrue (fit_all b.fields b.seat (hands q) [] (since b m))
  pub left : IsTrue (all_steps (leaves_variable q) (since b m))
  pub told : (v u f : ℕ) → v < section_variables → (readings v u f (starting b.seat v) (since b m)).word ≡ word_in (state_of m.seat) v

-- if all that was done before fits, so does what the call did
abbrev pub AddsFitting : ℕ → SharedMutator → SharedMutator → Type 0
AddsFitting q x y = (b : Began) → FitsSince q b x → FitsSince q b y

-- variable 20 has a node that the mutator made and hasn't put in
abbrev pub HasFresh : Began → SharedMutator → Type 0
HasFresh b m = IsTrue (is_fresh b.fields 20 (since b m))

-- variable u, unless it refers to nothing, has what was read in field f of the object of variable v
abbrev pub HasRead : ℕ → ℕ → ℕ → Began → SharedMutator → Type 0
HasRead v u f b m = 0 < word_in (state_of m.seat) u → IsTrue (has_read b.seat v u f (since b m))

-- the words of variables stay, and what each has of another
pub record KeepsRead (q : ℕ) (x y : SharedMutator) : Type 0 where
  pub words : (v : ℕ) → word_in (state_of y.seat) v ≡ word_in (state_of x.seat) v
  pub read : (b : Began) → FitsSince q b x → (v u f : ℕ) → HasRead v u f b x → HasRead v u f b y

-- the queue's last moves on to variable `to` so that it fits, and a node that was made stays so
abbrev pub FitsFollowing : ℕ → ℕ → SharedMutator → SharedMutator → Type 0
FitsFollowing q to x y = (b : Began) → FitsSince q b x → IsTrue (follows b.seat (hands q) (since b x) q 1 (Some to)) → FitsSince q b y × (HasFresh b x → HasFresh b y)

-- field 1 of variable v's object is stored so that it fits, and a node that was made stays so
abbrev pub FitsKeeping : ℕ → ℕ → SharedMutator → SharedMutator → Type 0
FitsKeeping q v x y = (b : Began) → FitsSince q b x → IsTrue (keeps_beside b.fields b.seat (hands q) (since b x) v) → FitsSince q b y × (HasFresh b x → HasFresh b y)

-- variable 22 has what was the queue's last, behind which variable 21 saw nothing, and variable 20 a node that was made
abbrev pub MayLink : ℕ → Began → SharedMutator → Type 0
MayLink q b x = HasRead q 22 1 b x × (word_in (state_of x.seat) 21 ≡ 0) × HasFresh b x

-- after the exchange by which that node comes behind the last, by whether it was won
abbrev pub Linked : ℕ → Began → SharedMutator → Bool → Type 0
Linked q b y true = IsTrue (is_linked (hands q) false (since b y)) × IsTrue (has_read b.seat q 22 1 (since b y))
Linked q b y false = HasFresh b y

-- a node that wasn't put in stays one that was made
abbrev pub StaysFresh : Began → SharedMutator → Bool → Type 0
StaysFresh b y true = Unit {0}
StaysFresh b y false = HasFresh b y

-- a try to put that node in fits
abbrev pub FitsPutting : ℕ → Result Bool Refused → SharedMutator → SharedMutator → Type 0
FitsPutting q result x y = (b : Began) → FitsSince q b x → HasFresh b x → FitsSince q b y × IfOk result (StaysFresh b y)

-- variable 21 has what was the queue's first, and variable 23 what was behind it, unless that is nil
pub record SeesFirst (q : ℕ) (b : Began) (m : SharedMutator) : Type 0 where
  pub first : HasRead q 21 0 b m
  pub behind : HasRead 21 23 0 b m
  pub some : 0 < word_in (state_of m.seat) 23 → 0 < word_in (state_of m.seat) 21

-- the one behind the first becomes the first so that it fits
abbrev pub FitsTaking : ℕ → SharedMutator → SharedMutator → Type 0
FitsTaking q x y = (b : Began) → FitsSince q b x → SeesFirst q b x → FitsSince q b y
