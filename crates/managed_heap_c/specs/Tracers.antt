-- What an export of a tracer answers.
use Rattle.std.specs.Prelude.{ℕ, ◌≡◌, ◌⊎◌, Option, Some, None, IsFalse, IsTrue}
use Rattle.gc_table.specs.Seats.{Across}
use Rattle.seat_turns.specs.TracerHelps.{TracerHelps}
use Rattle.seat_turns.specs.TracerTries.{TriesTurn}
use Rattle.seat_turns.specs.declared.background.Tracer.{Tracer}
use Rattle.seat_turns.specs.declared.helping.TryHelp.{TryHelp}
use Rattle.seat_turns.specs.declared.helping.TryHelp.TheVariants as helps
use Rattle.seat_turns.specs.declared.try_turns.TryTurn.{TryTurn}
use Rattle.seat_turns.specs.declared.try_turns.TryTurn.TheVariants as tries
use Rattle.managed_heap_c.specs.Kinds as kinds
use Rattle.managed_heap_c.specs.declared.hands.AnyWorld.{AnyWorld}
use Rattle.managed_heap_c.specs.declared.hands.TracerHand.{TracerHand}
use Rattle.managed_heap_c.specs.declared.slots.TracerSlot.{TracerSlot}

-- the number of what a tracer's turn came to
abbrev pub status_of_turn : TryTurn → ℕ
status_of_turn tries.Marked = 0
status_of_turn tries.Stopped = 2
status_of_turn tries.Full = 8
status_of_turn tries.Idle = 15
status_of_turn tries.Dismissed = 16

-- the tracer took this turn, and is of the same world
abbrev pub TriesTracerTurn : TryTurn → Tracer → Tracer → Type 0
TriesTracerTurn tried x y = Across (TriesTurn tried) x.seat y.seat × (y.heap ≡ x.heap) × (y.name ≡ x.name)

-- the handle was given back, or else the turn came to what the answer says, and did this
abbrev pub AnswersTurn : ℕ → Option Tracer → Option Tracer → Type 0
AnswersTurn n None y = (n ≡ 11) × (y ≡ None)
AnswersTurn n (Some s) y = (tried : TryTurn) × (t : Tracer) × (n ≡ status_of_turn tried) × (y ≡ Some t) × TriesTracerTurn tried s t

-- the number of what a tracer's step of help came to
abbrev pub status_of_help : TryHelp → ℕ
status_of_help helps.Helped = 0
status_of_help helps.OutOfRange = 6
status_of_help helps.NoHelp = 24

-- the handle was given back, or else the step of help came to what the answer says, and did this
abbrev pub AnswersHelp : ℕ → ℕ → Option Tracer → Option Tracer → Type 0
AnswersHelp most n None y = (n ≡ 11) × (y ≡ None)
AnswersHelp most n (Some s) y = (helped : TryHelp) × (t : Tracer) × (n ≡ status_of_help helped) × (y ≡ Some t) × TracerHelps most helped s t

-- another call uses the tracer's handle, and nothing changed
abbrev pub IsTracerInUse : ℕ → TracerHand → TracerHand → Type 0
IsTracerInUse n x y = (n ≡ 12) × IsTrue x.busy × (y ≡ x)

-- the answer of a turn by a handle that no other call uses, and none does afterwards; or another uses it, and nothing changed
abbrev pub AnswersTurnOnce : ℕ → TracerHand → TracerHand → Type 0
AnswersTurnOnce n x y = (IsFalse x.busy × IsFalse y.busy × AnswersTurn n x.tracer y.tracer) ⊎ IsTracerInUse n x y

-- the answer of a step of help by a handle that no other call uses, and none does afterwards; or another uses it, and nothing changed
abbrev pub AnswersHelpOnce : ℕ → ℕ → TracerHand → TracerHand → Type 0
AnswersHelpOnce most n x y = (IsFalse x.busy × IsFalse y.busy × AnswersHelp most n x.tracer y.tracer) ⊎ IsTracerInUse n x y

-- the world had this tracer, and has the others still
abbrev pub IsLent : Tracer → Option AnyWorld → Option AnyWorld → Type 0
IsLent t (Some w) (Some x) = kinds.LendsTracer t w x
IsLent t w x = ⊥

-- the world was closed, or has no tracer left, and has all that it had
abbrev pub LendsNone : ℕ → Option AnyWorld → Option AnyWorld → Type 0
LendsNone n None y = (n ≡ 11) × (y ≡ None)
LendsNone n (Some w) None = ⊥
LendsNone n (Some w) (Some x) = (n ≡ 13) × kinds.LacksTracer w x

-- the handle is filled, what is behind it has this tracer, and no call uses it
abbrev pub HoldsTracer : Tracer → TracerSlot → Type 0
HoldsTracer t slot = (hand : TracerHand) × (slot.hand ≡ Some hand) × (hand.tracer ≡ Some t) × IsFalse hand.busy

-- a tracer of the world was taken, and the handle has it; or nothing is written, and there was no memory, or no tracer
abbrev pub TakesTracer : ℕ → Option AnyWorld → Option AnyWorld → TracerSlot → TracerSlot → Type 0
TakesTracer n w x before after = ((n ≡ 0) × ((t : Tracer) × IsLent t w x × HoldsTracer t after)) ⊎ ((after ≡ before) × (((n ≡ 10) × (x ≡ w)) ⊎ LendsNone n w x))

-- the tracer went back, or there was none to go back, or the world refused it and the handle keeps it
abbrev pub GivesTracerBack : ℕ → AnyWorld → AnyWorld → Option Tracer → Option Tracer → Type 0
GivesTracerBack n w x None None = (n ≡ 11) × (x ≡ w)
GivesTracerBack n w x None (Some t) = ⊥
GivesTracerBack n w x (Some s) None = (n ≡ 0) × kinds.TakesTracer s w x
GivesTracerBack n w x (Some s) (Some t) = (n ≡ 14) × (t ≡ s) × kinds.RefusesTracer w x

-- the world was closed, or it has the tracer back, or refused it, or there was none to give back
abbrev pub GivesTracer : ℕ → Option AnyWorld → Option AnyWorld → Option Tracer → Option Tracer → Type 0
GivesTracer n None y s t = (n ≡ 11) × (y ≡ None) × (t ≡ s)
GivesTracer n (Some w) None s t = ⊥
GivesTracer n (Some w) (Some x) s t = GivesTracerBack n w x s t

-- the answer of giving a tracer back by a handle that no other call uses; or another uses it, and nothing changed
abbrev pub GivesTracerOnce : ℕ → Option AnyWorld → Option AnyWorld → TracerHand → TracerHand → Type 0
GivesTracerOnce n w x h k = (IsFalse h.busy × IsFalse k.busy × GivesTracer n w x h.tracer k.tracer) ⊎ (IsTracerInUse n h k × (x ≡ w))

-- the tracers were told that they are dismissed, or a stop was under way
abbrev pub DismissesIn : ℕ → AnyWorld → AnyWorld → Type 0
DismissesIn n w x = ((n ≡ 0) × kinds.TellsTracers w x) ⊎ ((n ≡ 2) × kinds.FindsStop w x)

-- the world was closed, or its tracers were told that they are dismissed, or a stop was under way
abbrev pub Dismissing : ℕ → Option AnyWorld → Option AnyWorld → Type 0
Dismissing n None y = (n ≡ 11) × (y ≡ None)
Dismissing n (Some w) None = ⊥
Dismissing n (Some w) (Some x) = DismissesIn n w x
