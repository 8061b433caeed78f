-- Sorts of events: what one step did, by the word that it found.
use Rattle.std.specs.Prelude.{ℕ, ◌==◌, ◌&&◌, ◌||◌, not, if◌then◌else◌, List, [], ◌∷◌, Bool, true, false, nat_le, nat_lt, Some}
use Rattle.mark_core.specs.Numbers.{block_counter, card_counter, deferred_pool_number, free_count, last_count, traced_count}
use Rattle.mark_core.specs.Bits.{all_ones, has_flag}
use Rattle.mark_core.specs.Seats.{is_phase, phase_of, saw}
use Rattle.mark_core.specs.declared.kinds.Phase.{Phase}
use Rattle.mark_core.specs.declared.kinds.Phase.TheVariants.{Idle, Marking, Drain, Sweep, Clear, Full}
use Rattle.mark_core.specs.declared.kinds.Step.{Step}
use Rattle.mark_core.specs.declared.kinds.Step.TheVariants.{ReadCount, ReadAlloc, ReadRoot, ClearCard, ReadPhase, StoreField, StoreValue, StoreRoot, StoreNew, ClaimBlock, EnterStep, LeaveStep, RaiseStep, Observe, DropStep, StorePhase, NextBlock, NextOfCards, StoreNamed, AddStat, ReadStat, OpenStep, JoinHelpStep, ExchangeField, ExchangeValue, LoadSlot, StoreSlot, HoldRoot, Take}
use Rattle.gc_table.specs.Taking.{moves_from}
pub use Rattle.card_clean.specs.Cleaning.{clears}
pub use Rattle.tracer.specs.Roots.{shows_marked}
pub use Rattle.tracer.specs.Tally.{pops}

-- the stop flag was raised: it was clear
abbrev pub raises_flag : Step → ℕ → Bool
raises_flag RaiseStep found = not (has_flag found)
raises_flag step found = false

-- the word of the world was read
abbrev pub polls : Step → ℕ → Bool
polls Observe found = true
polls step found = false

-- the word of the world was read, and had the stop flag
abbrev pub sees_flag : Step → ℕ → Bool
sees_flag Observe found = has_flag found
sees_flag step found = false

-- the word of the world was read, and had no stop flag
abbrev pub sees_no_flag : Step → ℕ → Bool
sees_no_flag Observe found = not (has_flag found)
sees_no_flag step found = false

-- the world was entered, while a stop was under way or not
abbrev pub enters : Step → ℕ → Bool
enters EnterStep found = true
enters step found = false

-- the world was entered while no stop was under way
abbrev pub enters_freely : Step → ℕ → Bool
enters_freely EnterStep found = not (has_flag found)
enters_freely step found = false

-- the world was left
abbrev pub leaves : Step → ℕ → Bool
leaves LeaveStep found = true
leaves step found = false

-- the seat came into the running world: it entered, whether a stop was under way or not, or resumed the world
abbrev pub comes_in : Step → ℕ → Bool
comes_in EnterStep found = true
comes_in DropStep found = true
comes_in step found = false

-- the world was resumed
abbrev pub resumes : Step → ℕ → Bool
resumes DropStep found = true
resumes step found = false

-- help was opened
abbrev pub opens_help : Step → ℕ → Bool
opens_help OpenStep found = true
opens_help step found = false

-- the helpers were joined, or tried to
abbrev pub joins : Step → ℕ → Bool
joins JoinHelpStep found = true
joins step found = false

-- the helpers were joined while help was open
abbrev pub lets_in : Step → ℕ → Bool
lets_in JoinHelpStep found = has_flag found
lets_in step found = false

-- the phase was read
abbrev pub looks_at_phase : Step → ℕ → Bool
looks_at_phase ReadPhase found = true
looks_at_phase step found = false

-- the phase was read, and it was this one
abbrev pub reads_phase : Phase → Step → ℕ → Bool
reads_phase p ReadPhase found = saw (Some (phase_of found)) p
reads_phase p step found = false

-- the phase moved to this one
abbrev pub moves_to : Phase → Step → ℕ → Bool
moves_to p (StorePhase to) found = saw (Some to) p && moves_from found to
moves_to p step found = false

-- the heap was said to be full, or seen to be
abbrev pub tells_full : Step → ℕ → Bool
tells_full step found = moves_to Full step found || reads_phase Full step found

-- the phase was moved from the first to the second
abbrev pub moves : Phase → Phase → Step → ℕ → Bool
moves from to step found = moves_to to step found && is_phase found from

-- a drain began in which no cell was marked
abbrev pub begins_exactly : Step → ℕ → Bool
begins_exactly step found = moves Idle Drain step found || moves Clear Drain step found

-- a try to begin a cycle
abbrev pub tries_marking : Step → ℕ → Bool
tries_marking (StorePhase Marking) found = true
tries_marking step found = false

-- a cycle ended
abbrev pub ends_cycle : Step → ℕ → Bool
ends_cycle step found = moves Sweep Idle step found

-- a block was claimed that nobody had
abbrev pub claims : Step → ℕ → Bool
claims (ClaimBlock b) found = found == 0
claims step found = false

-- a root was read
abbrev pub reads_root : Step → ℕ → Bool
reads_root (ReadRoot section v) found = true
reads_root (LoadSlot section k) found = true
reads_root step found = false

-- the count of empty packets was read, and said all packets
abbrev pub sees_all_empty : ℕ → Step → ℕ → Bool
sees_all_empty all ReadCount found = found == all
sees_all_empty all step found = false

-- the count of empty packets was read
abbrev pub reads_count : Step → ℕ → Bool
reads_count ReadCount found = true
reads_count step found = false

-- the counter of cards was seen at its end, or raised there
abbrev pub sees_last_card : ℕ → Step → ℕ → Bool
sees_last_card cards (ReadStat which) found = (which == card_counter) && nat_le cards found
sees_last_card cards NextOfCards found = nat_le cards found
sees_last_card cards step found = false

-- the counter of blocks was seen at its end, or raised there
abbrev pub sees_last_block : ℕ → Step → ℕ → Bool
sees_last_block blocks (ReadStat which) found = (which == block_counter) && nat_le blocks found
sees_last_block blocks NextBlock found = nat_le blocks found
sees_last_block blocks step found = false

-- the counter of cards was raised
abbrev pub draws : Step → ℕ → Bool
draws NextOfCards found = true
draws step found = false

-- the counter of cards was raised, or a card was cleared, or found clean
abbrev pub draws_or_clears : Step → ℕ → Bool
draws_or_clears NextOfCards found = true
draws_or_clears (ClearCard card) found = true
draws_or_clears step found = false

-- a cell was popped, or a card was cleared
abbrev pub pops_or_clears : Step → ℕ → Bool
pops_or_clears step found = pops step found || clears step found

-- a stretch of blocks came in hand
abbrev pub draws_block : ℕ → Step → ℕ → Bool
draws_block blocks NextBlock found = nat_lt found blocks
draws_block blocks step found = false

-- the allocation bits of the block were read, and all were set
abbrev pub reads_all_ones : ℕ → Step → ℕ → Bool
reads_all_ones b (ReadAlloc block) found = (block == b) && (found == all_ones)
reads_all_ones b step found = false

-- the allocation bits of a block below this number were read, and not all were set: it has a free cell
abbrev pub reads_free_cell : ℕ → Step → ℕ → Bool
reads_free_cell blocks (ReadAlloc b) found = nat_lt b blocks && not (found == all_ones)
reads_free_cell blocks step found = false

-- a packet was taken out of the deferred pool, or tried to be
abbrev pub takes_deferred : Step → ℕ → Bool
takes_deferred (Take pool packet) found = pool == deferred_pool_number
takes_deferred step found = false

-- the section was named, before it finds the heap full
abbrev pub names : Step → ℕ → Bool
names StoreNamed found = true
names step found = false

-- a word of a new cell was stored
abbrev pub stores_new : Step → ℕ → Bool
stores_new (StoreNew c part word) found = true
stores_new step found = false

-- a mutator stored
abbrev pub mutator_stores : Step → ℕ → Bool
mutator_stores (StoreField v i w) found = true
mutator_stores (StoreValue v n) found = true
mutator_stores (StoreRoot v r) found = true
mutator_stores (HoldRoot v r) found = true
mutator_stores (StoreSlot k r) found = true
mutator_stores (ExchangeField v i x y) found = true
mutator_stores (ExchangeValue v m n) found = true
mutator_stores step found = false

-- a number was read that paces a cycle
abbrev pub reads_pace : Step → ℕ → Bool
reads_pace (ReadStat which) found = nat_le last_count which
reads_pace step found = false

-- the counter of cards was read
abbrev pub reads_counter : Step → ℕ → Bool
reads_counter (ReadStat which) found = which == card_counter
reads_counter step found = false

-- a step of a pass over cards: their counter was read or raised, or a card was cleared, or found clean
abbrev pub passes_card : Step → ℕ → Bool
passes_card step found = reads_counter step found || draws_or_clears step found

-- the counter of cards was read below this number
abbrev pub reads_card_left : ℕ → Step → ℕ → Bool
reads_card_left cards step found = reads_counter step found && nat_lt found cards

-- by how much the number of traced cells was raised
abbrev pub raises_traced : Step → ℕ → List ℕ
raises_traced (AddStat which by down) found = if (which == traced_count) && not down then by ∷ [] else []
raises_traced step found = []

-- by how much the number of free cells was lowered
abbrev pub lowers_free : Step → ℕ → List ℕ
lowers_free (AddStat which by down) found = if (which == free_count) && down then by ∷ [] else []
lowers_free step found = []
