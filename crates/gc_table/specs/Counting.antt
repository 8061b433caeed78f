-- A counter: an object whose value threads raise by exchanges, each from a number to the next.
use Rattle.std.specs.Prelude.{ℕ, ◌≡◌, ◌+◌, ◌==◌, ◌&&◌, if◌then◌else◌, List, [], ◌∷◌, Bool, false, Option, None, Some, slice_get}
use Rattle.plain_heap.specs.Paths.{Name}
use Rattle.mark_core.specs.Laws.{IsCore}
use Rattle.mark_core.specs.Steps.{Core, after_event, failing_part}
use Rattle.mark_core.specs.declared.kinds.Event.{Event}
use Rattle.mark_core.specs.declared.kinds.Step.{Step}
use Rattle.mark_core.specs.declared.kinds.Step.TheVariants.{ExchangeValue}
use Rattle.mark_core.specs.declared.seat.SeatState.{SeatState}
use Rattle.gc_table.specs.Entries.{won}
use Rattle.gc_table.specs.Agreement.{AgreesWith}
use Rattle.gc_table.specs.AgreementLaws.{StoresOf, found_of, world_after, world_run}
use Rattle.gc_table.specs.RunWorlds.{World, WorldObject, is_same, object_of, own_section, variable_of}
use Rattle.gc_table.specs.Runs.{AreAllowed}

-- an exchange of a number for the next
abbrev pub IsRaise : Step → Type 0
IsRaise (ExchangeValue v m n) = n ≡ m + 1
IsRaise step = ⊥

-- whoever stores in the object of this name raises it
abbrev pub OnlyRaised : List Event → Core → World → Name → Type 0
OnlyRaised [] c world name = Unit {0}
OnlyRaised (e ∷ es) c world name = (StoresOf world (slice_get c.seats e.seat) e.step name → IsRaise e.step) × OnlyRaised es (after_event c e) (world_after c e world) name

-- there is an object, and this is its value
abbrev pub has_value : Option WorldObject → ℕ → Bool
has_value None m = false
has_value (Some object) m = object.value == m

-- an exchange in the object of this name that finds what it expects, if the seat's record was looked up
abbrev pub wins_in : World → Option SeatState → Step → Name → Bool
wins_in world None step name = false
wins_in world (Some s) (ExchangeValue v m n) name = is_same (variable_of world (own_section s) v) (Some name) && has_value (object_of world name) m
wins_in world (Some s) step name = false

-- how many of these events win an exchange in the object of this name
abbrev pub count_won : List Event → Core → World → Name → ℕ
count_won [] c world name = 0
count_won (e ∷ es) c world name = (if wins_in world (slice_get c.seats e.seat) e.step name then 1 else 0) + count_won es (after_event c e) (world_after c e world) name

-- a counter that is only raised has grown by the number of exchanges that were won, whichever threads took them and in whatever order
abbrev pub RaisesCounted : Type 0
RaisesCounted =
    (c : Core) (world : World) (es : List Event) → AreAllowed c es → (name : Name) (object : WorldObject) → object_of world name ≡ Some object → OnlyRaised es c world name
    → (after : WorldObject) × (object_of (world_run es c world) name ≡ Some after) × (after.value ≡ object.value + count_won es c world name)

-- an exchange that a seat takes through a variable that refers to the object is won there exactly if the seat's log says so
abbrev pub WinsTold : Type 0
WinsTold =
    (c : Core) (world : World) (e : Event) (s : SeatState) (v m n : ℕ) (name : Name) → IsCore c → AgreesWith c world → failing_part c e ≡ None → slice_get c.seats e.seat ≡ Some s → e.step ≡ ExchangeValue v m n
    → variable_of world (own_section s) v ≡ Some name → wins_in world (Some s) e.step name ≡ won e.step (found_of c (Some s) e.step)
