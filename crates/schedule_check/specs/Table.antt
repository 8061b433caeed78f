-- The table of steps: the name of each, and the forms of its parameters in order.
use Rattle.std.specs.Prelude.{ℕ, List, [], ◌∷◌, if◌then◌else◌, Option, Some, None, codes}
use Rattle.std.specs.Str.{bytes_eq}
use Rattle.schedule_check.specs.Forms.{byte, number_word, long, cell, flag_word, phase, variable_word}
use Rattle.mark_core.specs.declared.kinds.Step.{Step}
use Rattle.mark_core.specs.declared.kinds.Step.TheVariants.{Reserve, Take, Give, Credit, Push, Pop, Look, ReadCount, ReadAlloc, ReadField, ReadRoot, SetMark, DirtyCard, ClearCard, ReadMarks, ReadCard, ReadPhase, ReadOwn, ReadValue, ReadIdent, ReadCat, StoreField, StoreValue, StoreRoot, ClaimBlock, ReleaseBlock, ReadFree, StoreNew, PublishCells, EnterStep, LeaveStep, RaiseStep, Observe, DropStep, StorePhase, Split, Join, NextBlock, NextOfCards, ReadBlockMarks, StoreAlloc, ClearMarks, WipeCard, StorePosition, StoreNamed, Reset, AddStat, ReadStat, StoreLength, ReadLength, OpenStep, JoinHelpStep, LeaveHelpStep, CloseStep, SeeHelp, ReadSeason, NextSeason, ReadWeak, CheckCard}

-- the parameters, if there are this many and each has its form
abbrev pub both : {A B : Type 0} → Option A → Option B → Option (A × B)
both (Some x) (Some y) = Some (x, y)
both x y = None

-- three parameters, if each has its form
abbrev pub all_three : {A B C : Type 0} → Option A → Option B → Option C → Option (A × B × C)
all_three (Some x) (Some y) (Some z) = Some (x, y, z)
all_three x y z = None

-- the one parameter, if there is one of this form
abbrev pub single : {A : Type 0} → (List ℕ → Option A) → List (List ℕ) → Option A
single a (u ∷ []) = a u
single a words = None

-- the two parameters, if there are two of these forms
abbrev pub pair : {A B : Type 0} → (List ℕ → Option A) → (List ℕ → Option B) → List (List ℕ) → Option (A × B)
pair a b (u ∷ v ∷ []) = both (a u) (b v)
pair a b words = None

-- the three parameters, if there are three of these forms
abbrev pub triple : {A B C : Type 0} → (List ℕ → Option A) → (List ℕ → Option B) → (List ℕ → Option C) → List (List ℕ) → Option (A × B × C)
triple a b c (u ∷ v ∷ w ∷ []) = all_three (a u) (b v) (c w)
triple a b c words = None

-- the step that the parameters give
abbrev pub with_one : {A : Type 0} → (A → Step) → Option A → Option Step
with_one step None = None
with_one step (Some x) = Some (step x)

-- the step that two parameters give
abbrev pub with_two : {A B : Type 0} → (A → B → Step) → Option (A × B) → Option Step
with_two step None = None
with_two step (Some x) = Some (step x.0 x.1)

-- the step that three parameters give
abbrev pub with_three : {A B C : Type 0} → (A → B → C → Step) → Option (A × B × C) → Option Step
with_three step None = None
with_three step (Some x) = Some (step x.0 x.1 x.2)

-- a step without parameters, or with parameters of these forms
abbrev pub none : Step → List (List ℕ) → Option Step
none step [] = Some step
none step (word ∷ words) = None

-- a step with one parameter
abbrev pub one : {A : Type 0} → (List ℕ → Option A) → (A → Step) → List (List ℕ) → Option Step
one a step words = with_one step (single a words)

-- a step with two parameters
abbrev pub two : {A B : Type 0} → (List ℕ → Option A) → (List ℕ → Option B) → (A → B → Step) → List (List ℕ) → Option Step
two a b step words = with_two step (pair a b words)

-- a step with three parameters
abbrev pub three : {A B C : Type 0} → (List ℕ → Option A) → (List ℕ → Option B) → (List ℕ → Option C) → (A → B → C → Step) → List (List ℕ) → Option Step
three a b c step words = with_three step (triple a b c words)

-- a row: the name, and the step that the parameters give
pub record Row : Type 0 where
  pub name : List ℕ
  pub step : List (List ℕ) → Option Step

abbrev row : List ℕ → (List (List ℕ) → Option Step) → Row
row name step = record { name = name; step = step }

-- steps on packets and pools
abbrev pub packet_rows : List Row
packet_rows =
    row (codes "reserve") (none Reserve)
    ∷ row (codes "take") (two byte number_word Take)
    ∷ row (codes "give") (two number_word flag_word Give)
    ∷ row (codes "credit") (none Credit)
    ∷ row (codes "push") (two number_word cell Push)
    ∷ row (codes "pop") (one number_word Pop)
    ∷ row (codes "look") (two byte number_word Look)
    ∷ row (codes "read_count") (none ReadCount)
    ∷ row (codes "store_length") (one number_word StoreLength)
    ∷ row (codes "read_length") (one number_word ReadLength)
    ∷ []

-- steps on mark bits and cards, and what tracing reads
abbrev pub colour_rows : List Row
colour_rows =
    row (codes "read_alloc") (one number_word ReadAlloc)
    ∷ row (codes "read_field") (two cell byte ReadField)
    ∷ row (codes "read_root") (two number_word byte ReadRoot)
    ∷ row (codes "set_mark") (one cell SetMark)
    ∷ row (codes "dirty_card") (one number_word DirtyCard)
    ∷ row (codes "clear_card") (one number_word ClearCard)
    ∷ row (codes "read_marks") (one number_word ReadMarks)
    ∷ row (codes "read_card") (one number_word ReadCard)
    ∷ row (codes "read_phase") (none ReadPhase)
    ∷ row (codes "check_card") (one number_word CheckCard)
    ∷ []

-- a mutator's reads and stores
abbrev pub mutator_rows : List Row
mutator_rows =
    row (codes "read_own") (two cell byte ReadOwn)
    ∷ row (codes "read_value") (one cell ReadValue)
    ∷ row (codes "read_ident") (one cell ReadIdent)
    ∷ row (codes "read_cat") (one byte ReadCat)
    ∷ row (codes "read_weak") (one cell ReadWeak)
    ∷ row (codes "store_field") (three byte byte variable_word StoreField)
    ∷ row (codes "store_value") (two byte number_word StoreValue)
    ∷ row (codes "store_root") (two byte long StoreRoot)
    ∷ []

-- steps on blocks of free cells and new objects
abbrev pub making_rows : List Row
making_rows =
    row (codes "claim_block") (one number_word ClaimBlock)
    ∷ row (codes "release_block") (none ReleaseBlock)
    ∷ row (codes "read_free") (none ReadFree)
    ∷ row (codes "store_new") (three cell byte long StoreNew)
    ∷ row (codes "publish_cells") (none PublishCells)
    ∷ []

-- steps on the world word, on phases and on seats
abbrev pub world_rows : List Row
world_rows =
    row (codes "enter_step") (none EnterStep)
    ∷ row (codes "leave_step") (none LeaveStep)
    ∷ row (codes "raise_step") (none RaiseStep)
    ∷ row (codes "observe") (none Observe)
    ∷ row (codes "drop_step") (none DropStep)
    ∷ row (codes "store_phase") (one phase StorePhase)
    ∷ row (codes "split") (none Split)
    ∷ row (codes "join") (one number_word Join)
    ∷ []

-- steps of the sweep
abbrev pub sweep_rows : List Row
sweep_rows =
    row (codes "next_block") (none NextBlock)
    ∷ row (codes "next_of_cards") (none NextOfCards)
    ∷ row (codes "read_block_marks") (none ReadBlockMarks)
    ∷ row (codes "store_alloc") (none StoreAlloc)
    ∷ row (codes "clear_marks") (none ClearMarks)
    ∷ row (codes "wipe_card") (one number_word WipeCard)
    ∷ []

-- steps on positions, numbers and counters
abbrev pub counter_rows : List Row
counter_rows =
    row (codes "store_position") (one number_word StorePosition)
    ∷ row (codes "store_named") (none StoreNamed)
    ∷ row (codes "reset") (one byte Reset)
    ∷ row (codes "add_stat") (three byte number_word flag_word AddStat)
    ∷ row (codes "read_stat") (one byte ReadStat)
    ∷ []

-- steps of help in a stop, and of seasons
abbrev pub help_rows : List Row
help_rows =
    row (codes "open_step") (none OpenStep)
    ∷ row (codes "join_help_step") (none JoinHelpStep)
    ∷ row (codes "leave_help_step") (none LeaveHelpStep)
    ∷ row (codes "close_step") (none CloseStep)
    ∷ row (codes "see_help") (none SeeHelp)
    ∷ row (codes "read_season") (none ReadSeason)
    ∷ row (codes "next_season") (none NextSeason)
    ∷ []

-- what these rows, and then another lookup, say of a name with its parameters
abbrev pub by_rows : List Row → Option Step → List ℕ → List (List ℕ) → Option Step
by_rows [] rest name words = rest
by_rows (r ∷ rows) rest name words = if bytes_eq name r.name then r.step words else by_rows rows rest name words

-- the table, group by group
abbrev pub table : List (List Row)
table = packet_rows ∷ colour_rows ∷ mutator_rows ∷ making_rows ∷ world_rows ∷ sweep_rows ∷ counter_rows ∷ help_rows ∷ []

-- the step of a name with its parameters, by these groups of rows
abbrev pub by_groups : List (List Row) → List ℕ → List (List ℕ) → Option Step
by_groups [] name words = None
by_groups (rows ∷ groups) name words = by_rows rows (by_groups groups name words) name words

-- the step of a name with its parameters
abbrev pub step_of : List ℕ → List (List ℕ) → Option Step
step_of name words = by_groups table name words
