-- What the log of a seat has of a step.
use Rattle.std.specs.Prelude.{ℕ, ◌%◌, ◌==◌, Bool, true, false, not}
use Rattle.mark_core.specs.Bits.{has_bit, has_flag}
use Rattle.mark_core.specs.Cards.{block_cells}
use Rattle.mark_core.specs.Seats.{is_phase}
use Rattle.mark_core.specs.declared.kinds.Phase.{Phase}
use Rattle.mark_core.specs.declared.kinds.Phase.TheVariants.{Idle, Marking}
use Rattle.mark_core.specs.declared.kinds.Step.{Step}
use Rattle.mark_core.specs.declared.kinds.Step.TheVariants.{Take, SetMark, ClearCard, ReadCard, ClaimBlock, EnterStep, RaiseStep, StorePhase, JoinHelpStep, Split, Join, Push, DirtyCard, StoreField, StoreValue, StoreRoot, ReleaseBlock, StoreNew, StoreAlloc, ClearMarks, WipeCard, StorePosition, StoreNamed, Reset, StoreLength, ExchangeValue, StoreSlot, CheckCard, FlushRoot}
use Rattle.gc_table.specs.declared.view.Entry.{Entry}
use Rattle.mark_core.specs.Numbers.{word_bits}

-- a move of the phase takes place, if this phase is found
abbrev pub moves_from : ℕ → Phase → Bool
moves_from n Marking = is_phase n Idle
moves_from n to = true

-- the step got what it tried to get, if it found this word; whether an exchange of a field did, its seat tells by its variables
abbrev pub won : Step → ℕ → Bool
won (Take q p) n = has_bit n (p % word_bits)
won (SetMark c) n = not (has_bit n (c % block_cells))
won (ClearCard card) n = n == 1
won (ReadCard card) n = n == 1
won (CheckCard card) n = n == 1
won (ClaimBlock b) n = n == 0
won EnterStep n = not (has_flag n)
won RaiseStep n = not (has_flag n)
won JoinHelpStep n = has_flag n
won (StorePhase to) n = moves_from n to
won (ExchangeValue v m x) n = n == m
won step n = true

-- the event of a step that found n
abbrev pub event : Step → ℕ → Entry
event step n = record { step = step; found = n; won = won step n }

-- the step stores its word, whatever was there
abbrev pub is_store : Step → Bool
is_store (Push p c) = true
is_store (DirtyCard card) = true
is_store (StoreField v i w) = true
is_store (StoreValue v n) = true
is_store (StoreRoot v r) = true
is_store (FlushRoot v) = true
is_store (StoreSlot k r) = true
is_store ReleaseBlock = true
is_store (StoreNew c part word) = true
is_store StoreAlloc = true
is_store ClearMarks = true
is_store (WipeCard card) = true
is_store (StorePosition done) = true
is_store StoreNamed = true
is_store (Reset which) = true
is_store (StoreLength p) = true
is_store step = false

-- a seat is made or joined by no step of its log
abbrev pub is_logged : Step → Bool
is_logged Split = false
is_logged (Join other) = false
is_logged step = true
