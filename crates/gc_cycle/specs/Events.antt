-- Tests over the events of a call, in their order.
use Rattle.std.specs.Prelude.{ℕ, ◌&&◌, ◌||◌, ◌==◌, not, if◌then◌else◌, List, [], ◌∷◌, Bool, true, false}
use Rattle.mark_core.specs.declared.kinds.Step.{Step}
use Rattle.gc_table.specs.declared.view.Entry.{Entry}
use Rattle.packet_pools.specs.Seeking.{some_event}
pub use Rattle.packet_pools.specs.Orders.{each_after}
pub use Rattle.tracer.specs.Moments.{front}

-- what an event did, by its step and the word that it found
abbrev pub Sort : Type 0
Sort = Step → ℕ → Bool

-- an event like f, and after it one like g
abbrev pub followed_by : Sort → Sort → List Entry → Bool
followed_by f g [] = false
followed_by f g (e ∷ es) = (f e.step e.found && some_event g es) || followed_by f g es

-- the events after the last one like f, and none if no event is like it
abbrev pub since_last : Sort → List Entry → List Entry
since_last f [] = []
since_last f (e ∷ es) = if f e.step e.found && not (some_event f es) then es else since_last f es

-- the events after the last one like f, and all if no event is like it
abbrev pub since_or_all : Sort → List Entry → List Entry
since_or_all f es = if some_event f es then since_last f es else es

-- the events before the last one like f, and none if no event is like it
abbrev pub before_last : Sort → List Entry → List Entry
before_last f [] = []
before_last f (e ∷ es) = if some_event f es then e ∷ before_last f es else []

-- the events before the first one like f, and all if no event is like it
abbrev pub until_first : Sort → List Entry → List Entry
until_first f [] = []
until_first f (e ∷ es) = if f e.step e.found then [] else e ∷ until_first f es

-- there is an event like f, and the first of them is like g too
abbrev pub first_is : Sort → Sort → List Entry → Bool
first_is f g [] = false
first_is f g (e ∷ es) = if f e.step e.found then g e.step e.found else first_is f g es

-- there is an event like f, and the last of them is like g too
abbrev pub last_is : Sort → Sort → List Entry → Bool
last_is f g [] = false
last_is f g (e ∷ es) = if some_event f es then last_is f g es else f e.step e.found && g e.step e.found

-- the events of the call after each one like f meet this test
abbrev pub each_before : (List Entry → Bool) → Sort → List Entry → Bool
each_before test f [] = true
each_before test f (e ∷ es) = (not (f e.step e.found) || test es) && each_before test f es

-- no event is like this
abbrev pub never : Sort → List Entry → Bool
never f es = not (some_event f es)

-- the list has this number, and nothing else
abbrev pub is_just : ℕ → List ℕ → Bool
is_just n [] = false
is_just n (x ∷ []) = x == n
is_just n (x ∷ y ∷ xs) = false
