-- Which numbers a seat puts in and takes out, as its log tells.
use Rattle.std.specs.Prelude.{ℕ, ◌+◌, ◌==◌, ◌&&◌, if◌then◌else◌, nat_le, List, [], ◌∷◌, ◌++◌, Bool, false, Option, None, Some}
use Rattle.mark_core.specs.Bits.{reference_in}
use Rattle.mark_core.specs.Steps.MutatorSteps.{seat_variable}
use Rattle.mark_core.specs.declared.kinds.Step.{Step}
use Rattle.mark_core.specs.declared.kinds.Step.TheVariants.{ExchangeField, ExchangeValue, HoldRoot, ReadValue, StoreNew, StoreRoot, StoreValue}
use Rattle.mark_core.specs.declared.seat.SeatState.{SeatState}
use Rattle.gc_table.specs.declared.view.Entry.{Entry}
use Rattle.heap_laws.specs.Lent.{is_lent}
use Rattle.heap_laws.specs.Pairs.{is_source}
use Rattle.queue_laws.specs.QueueLogs.{Hands, is_link}

-- what a log tells of a variable: the value that was stored last in a cell that the seat makes; the reference to the object that the last step made, if it made one; the
-- variable's word; and the value of its object: the one with which the seat made it, or else the first that it read there, if the seat stored no value since
pub record Numbering : Type 0 where
  pub coming : Option ℕ
  pub newest : Option ℕ
  pub word : ℕ
  pub number : Option ℕ

-- the first of the two, if there is one
abbrev pub first_of : Option ℕ → Option ℕ → Option ℕ
first_of None y = y
first_of (Some n) y = Some n

-- variable x is assigned reference r: its value is known if that is the object made last
abbrev pub assigned_number : ℕ → Numbering → ℕ → ℕ → Numbering
assigned_number o known x r =
    record { coming = known.coming; newest = None; word = if x == o then reference_in r else known.word; number = if x == o then (if is_lent known.newest r then known.coming else None) else known.number }

-- the same of variable o after a step that found this word, if objects have so many fields
abbrev pub numbering_after : ℕ → ℕ → Numbering → Step → ℕ → Numbering
numbering_after fields o known (StoreNew c part word) found = record known { coming = if part == fields then Some word else known.coming; newest = if nat_le part fields then None else Some (c + 1) }
numbering_after fields o known (StoreRoot x r) found = assigned_number o known x r
numbering_after fields o known (HoldRoot x r) found = assigned_number o known x r
numbering_after fields o known (ReadValue c) found = record known { newest = None; number = first_of known.number (if known.word == c + 1 then Some found else None) }
numbering_after fields o known (StoreValue v n) found = record known { newest = None; number = None }
numbering_after fields o known (ExchangeValue v m n) found = record known { newest = None; number = None }
numbering_after fields o known step found = record known { newest = None }

-- the same after these entries
abbrev pub numberings : ℕ → ℕ → Numbering → List Entry → Numbering
numberings fields o known [] = known
numberings fields o known (e ∷ es) = numberings fields o (numbering_after fields o known e.step e.found) es

-- what is known of a variable's word and no more
abbrev pub unnumbered : ℕ → Numbering
unnumbered word = record { coming = None; newest = None; word = word; number = None }

-- what a log tells of the variables of a call: of the own node, of the one behind the first, and the word of what was seen
pub record Telling : Type 0 where
  pub own : Numbering
  pub next : Numbering
  pub seen : ℕ

-- the word of a variable after a step
abbrev pub word_after : ℕ → ℕ → Step → ℕ
word_after v word (StoreRoot x r) = if x == v then reference_in r else word
word_after v word (HoldRoot x r) = if x == v then reference_in r else word
word_after v word step = word

abbrev pub telling_after : ℕ → Hands → Telling → Step → ℕ → Telling
telling_after fields h t step found = record { own = numbering_after fields h.own t.own step found; next = numbering_after fields h.next t.next step found; seen = word_after h.seen t.seen step }

-- the same after these entries
abbrev pub tellings : ℕ → Hands → Telling → List Entry → Telling
tellings fields h t [] = t
tellings fields h t (e ∷ es) = tellings fields h (telling_after fields h t e.step e.found) es

-- what is known of a seat at the start
abbrev pub telling_at : Hands → SeatState → Telling
telling_at h s = record { own = unnumbered (seat_variable s h.own); next = unnumbered (seat_variable s h.next); seen = seat_variable s h.seen }

-- by this step the one behind the first became the first, if the first was what was seen there
abbrev pub is_advance : Hands → ℕ → Step → ℕ → Bool
is_advance h seen (ExchangeField v f x y) found = is_source y (Some h.next) && ((f == 0) && ((v == h.queue) && (found == seen)))
is_advance h seen step found = false

-- the number of the node that a step puts in, and of the one that it takes out, if there is one: None if the log doesn't tell it
abbrev pub put_now : Hands → Telling → Step → ℕ → List (Option ℕ)
put_now h t step found = if is_link h step found then t.own.number ∷ [] else []

abbrev pub taken_now : Hands → Telling → Step → ℕ → List (Option ℕ)
taken_now h t step found = if is_advance h t.seen step found then t.next.number ∷ [] else []

-- those of all that these entries put in, and of all that they take out, in order
abbrev pub puts_told : ℕ → Hands → Telling → List Entry → List (Option ℕ)
puts_told fields h t [] = []
puts_told fields h t (e ∷ es) = put_now h t e.step e.found ++ puts_told fields h (telling_after fields h t e.step e.found) es

abbrev pub takes_told : ℕ → Hands → Telling → List Entry → List (Option ℕ)
takes_told fields h t [] = []
takes_told fields h t (e ∷ es) = taken_now h t e.step e.found ++ takes_told fields h (telling_after fields h t e.step e.found) es

-- numbers, each of which is told
abbrev pub all_told : List ℕ → List (Option ℕ)
all_told [] = []
all_told (n ∷ ns) = Some n ∷ all_told ns
