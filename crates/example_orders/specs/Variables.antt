-- What the log of a seat tells of its variables 0 and 1: their words, and whether variable 0 refers to the root.
use Rattle.std.specs.Prelude.{ℕ, ◌==◌, if◌then◌else◌, List, [], ◌∷◌, Bool, false, Option, None}
use Rattle.mark_core.specs.Bits.{reference_in}
use Rattle.mark_core.specs.declared.kinds.Step.{Step}
use Rattle.mark_core.specs.declared.kinds.Step.TheVariants.{HoldRoot, StoreRoot}
use Rattle.gc_table.specs.declared.view.Entry.{Entry}
use Rattle.heap_laws.specs.Lent.{lent_after, read_by}

pub record Variables : Type 0 where
  -- the reference in the register, if it was read from variable 0 of section 0, which refers to the root
  pub loaded : Option ℕ
  -- whether variable 0 has such a reference
  pub lent : Bool
  -- the words of variables 0 and 1
  pub first : ℕ
  pub second : ℕ

-- before anything is done all variables are nil
abbrev pub all_nil : Variables
all_nil = record { loaded = None; lent = false; first = 0; second = 0 }

-- the word of variable v after a step
abbrev pub word_after : ℕ → ℕ → Step → ℕ
word_after v w (StoreRoot u r) = if u == v then reference_in r else w
word_after v w (HoldRoot u r) = if u == v then reference_in r else w
word_after v w step = w

-- what is so after a step that found this word
abbrev pub after_step : Variables → Step → ℕ → Variables
after_step k step found = record { loaded = read_by 0 k.loaded step found; lent = lent_after 0 k.loaded k.lent step; first = word_after 0 k.first step; second = word_after 1 k.second step }

-- and after these entries
abbrev pub after_log : Variables → List Entry → Variables
after_log k [] = k
after_log k (e ∷ es) = after_log (after_step k e.step e.found) es
