-- The numbers that pace a cycle, as a call read and changed them.
use Rattle.std.specs.Prelude.{ℕ, ◌≡◌, ◌+◌, ◌*◌, ◌==◌, ◌&&◌, ◌||◌, not, if◌then◌else◌, min, max, nat_le, nat_lt, List, [], ◌∷◌, Bool, true, false, Option, Some, None}
use Rattle.mark_core.specs.Cells.{or_else}
use Rattle.mark_core.specs.Numbers.{free_count, last_count, rescanned_count, traced_count}
use Rattle.mark_core.specs.declared.kinds.Phase.TheVariants.{Idle, Marking}
use Rattle.mark_core.specs.declared.kinds.Step.{Step}
use Rattle.mark_core.specs.declared.kinds.Step.TheVariants.{ReadStat, StorePhase}
use Rattle.gc_table.specs.declared.view.Entry.{Entry}
use Rattle.packet_pools.specs.Seeking.{some_event}
use Rattle.cache_refills.specs.Pace.Quota.{floor, quota}
use Rattle.gc_cycle.specs.Events.{each_after}
use Rattle.gc_cycle.specs.Sorts.{moves}
pub use Rattle.gc_cycle.specs.Sorts.{tries_marking}

-- the most that a statistic tells: the cells of the largest heap
abbrev pub most_told : ℕ
most_told = 16777216

-- the number in the word of a statistic, which is bounded, and 0 if the word fell below 0
abbrev pub statistic : ℕ → ℕ
statistic word = if nat_le 9223372036854775808 word then 0 else min word most_told

-- the statistic that the event read
abbrev pub read_of : ℕ → Step → ℕ → Option ℕ
read_of which (ReadStat w) found = if w == which then Some (statistic found) else None
read_of which step found = None

-- the statistic as read last
abbrev pub last_read : ℕ → List Entry → Option ℕ
last_read which [] = None
last_read which (e ∷ es) = or_else (last_read which es) (read_of which e.step e.found)

-- a cycle is due by these numbers
abbrev pub due_by : Option ℕ → Option ℕ → Option ℕ → Option Bool
due_by (Some last) (Some rescanned) (Some free) = Some (nat_lt (8 * free) (last + rescanned))
due_by last rescanned free = None

-- whether a cycle was due, by the numbers of cells marked last, rescanned last and free as read last
abbrev pub due_seen : List Entry → Option Bool
due_seen es = due_by (last_read last_count es) (last_read rescanned_count es) (last_read free_count es)

-- the numbers were read, and no cycle was due by them
abbrev pub not_due : Option Bool → Bool
not_due None = false
not_due (Some due) = not due

-- the numbers were read by these events, and no cycle was due by them
abbrev pub was_not_due : List Entry → Bool
was_not_due es = not_due (due_seen es)

-- the quota by these numbers
abbrev pub quota_by : ℕ → Option ℕ → Option ℕ → Option ℕ → Option ℕ → Option ℕ
quota_by cells (Some last) (Some rescanned) (Some traced) (Some free) = Some (quota cells last rescanned traced free)
quota_by cells last rescanned traced free = None

-- the quota for a cache of this many free cells, by the numbers as read last
abbrev pub quota_seen : ℕ → List Entry → Option ℕ
quota_seen cells es = quota_by cells (last_read last_count es) (last_read rescanned_count es) (last_read traced_count es) (last_read free_count es)

-- the floor by these numbers
abbrev pub floor_by : ℕ → Option ℕ → Option ℕ → Option ℕ
floor_by cells (Some last) (Some free) = Some (floor cells last free)
floor_by cells last free = None

-- the floor for a cache of this many free cells, by the numbers as read last
abbrev pub floor_seen : ℕ → List Entry → Option ℕ
floor_seen cells es = floor_by cells (last_read last_count es) (last_read free_count es)

-- the larger of a quota and a floor
abbrev pub owed_by : Option ℕ → Option ℕ → Option ℕ
owed_by (Some quota) (Some floor) = Some (max quota floor)
owed_by quota floor = None

-- what was owed for a cache of this many free cells, by the numbers as read last
abbrev pub owed_seen : ℕ → List Entry → Option ℕ
owed_seen cells es = owed_by (quota_seen cells es) (floor_seen cells es)

-- a cycle is far on by these numbers: seven eighths of what the last one traced are traced, or hardly a cell is free
abbrev pub late : ℕ → ℕ → ℕ → Bool
late last traced free = nat_le (7 * last) (8 * traced) || nat_le (64 * free) last

-- whether it is by these numbers, if each was read
abbrev pub late_by : Option ℕ → Option ℕ → Option ℕ → Option Bool
late_by (Some last) (Some traced) (Some free) = Some (late last traced free)
late_by last traced free = None

-- whether it was, by the numbers as read last
abbrev pub late_seen : List Entry → Option Bool
late_seen es = late_by (last_read last_count es) (last_read traced_count es) (last_read free_count es)

-- a payment looks at this many cards at most
abbrev pub card_looks : ℕ
card_looks = 1024

-- how many cards are worth a look, by whether the cycle is far on
abbrev pub looks_by : Option Bool → ℕ
looks_by None = 0
looks_by (Some far) = if far then card_looks else 0

-- how many were, by the numbers as read last
abbrev pub looks_seen : List Entry → ℕ
looks_seen es = looks_by (late_seen es)

-- the numbers were read, and a cycle was due by them
abbrev pub is_due : Option Bool → Bool
is_due None = false
is_due (Some due) = due

-- the numbers were read by these events, and a cycle was due by them
abbrev pub was_due : List Entry → Bool
was_due es = is_due (due_seen es)

-- a try to begin a cycle came only if one was due, by the numbers as read last before it
abbrev pub begins_where_due : List Entry → Bool
begins_where_due es = each_after was_due tries_marking [] es

-- a step of beginning a cycle
abbrev pub kicks : Step → Bool
kicks (ReadStat which) = true
kicks (StorePhase Marking) = true
kicks step = false

-- the call read whether a cycle was due, tried to begin one exactly if it was, and began one exactly if it says so
pub record KicksOff (began : Bool) (es : List Entry) : Type 0 where
  pub due : Bool
  pub read : due_seen es ≡ Some due
  pub tried : some_event tries_marking es ≡ due
  pub answer : began ≡ (due && some_event (moves Idle Marking) es)
