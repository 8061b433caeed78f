-- The forms of parameters: what a word says, if it has the form.
use Rattle.std.specs.Prelude.{ℕ, List, Bool, true, false, ◌==◌, nat_lt, if◌then◌else◌, Option, Some, None, codes}
use Rattle.std.specs.Str.{bytes_eq}
use Rattle.gc_script.specs.ScriptText.{number_of}
use Rattle.mark_core.specs.declared.kinds.Phase.{Phase}
use Rattle.mark_core.specs.declared.kinds.Phase.TheVariants.{Idle, Marking, Drain, Sweep, Clear, Full}

-- a number below the limit
abbrev pub below : ℕ → Option ℕ → Option ℕ
below limit None = None
below limit (Some n) = if nat_lt n limit then Some n else None

-- a number of eight bits
abbrev pub byte : List ℕ → Option ℕ
byte word = below 256 (number_of word)

-- a number of thirty-two bits
abbrev pub number_word : List ℕ → Option ℕ
number_word word = below 4294967296 (number_of word)

-- a number of sixty-four bits
abbrev pub long : List ℕ → Option ℕ
long word = below 18446744073709551616 (number_of word)

-- a cell is its number
abbrev pub cell : List ℕ → Option ℕ
cell word = number_word word

-- the flag that a number says: 0 or 1
abbrev pub flag_of : Option ℕ → Option Bool
flag_of None = None
flag_of (Some n) = if n == 0 then Some false else (if n == 1 then Some true else None)

-- false is 0, and true is 1
abbrev pub flag_word : List ℕ → Option Bool
flag_word word = flag_of (number_of word)

-- the phase that a number says: 0 to 5
abbrev pub phase_of_number : Option ℕ → Option Phase
phase_of_number None = None
phase_of_number (Some n) =
    if n == 0 then Some Idle
    else (if n == 1 then Some Marking
    else (if n == 2 then Some Drain
    else (if n == 3 then Some Sweep
    else (if n == 4 then Some Clear
    else (if n == 5 then Some Full
    else None)))))

-- a phase is its number
abbrev pub phase : List ℕ → Option Phase
phase word = phase_of_number (number_of word)

-- a variable of this number, if there is a number
abbrev pub present : Option ℕ → Option (Option ℕ)
present None = None
present (Some n) = Some (Some n)

-- a variable, or `-` for none
abbrev pub variable_word : List ℕ → Option (Option ℕ)
variable_word word = if bytes_eq word (codes "-") then Some None else present (byte word)
