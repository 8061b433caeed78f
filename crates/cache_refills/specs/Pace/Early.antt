-- Which cards a payment passes early in a cycle.
use Rattle.std.specs.Prelude.{ℕ, ◌≡◌, ◌<◌, ◌≤◌, ◌+◌, ◌-◌, ◌*◌, ◌/◌, ◌⊎◌, if◌then◌else◌, min, List, [], ◌++◌, Bool, Option, Some, IsTrue}
use Rattle.mark_core.specs.Layout.{card_count}
use Rattle.mark_core.specs.Numbers.{free_count, last_count, rescanned_count}
use Rattle.mark_core.specs.declared.kinds.Shape.{Shape}
use Rattle.gc_table.specs.Log.{events}
use Rattle.gc_table.specs.declared.view.Entry.{Entry}
use Rattle.gc_table.specs.declared.view.View.{View}
use Rattle.packet_pools.specs.Counts.{count_of}
use Rattle.gc_cycle.specs.CardLooks.{PassesCards, looks_at_card}
use Rattle.gc_cycle.specs.Events.{never}
use Rattle.gc_cycle.specs.Moments.{at_some_moment, begins, finds_no_packet}
use Rattle.cache_refills.specs.Pace.Pacing.{last_read, late_seen, looks_seen}

-- up to which card they are passed, by these numbers: sixteen for each cell that was claimed since the cycle began, which was when the free cells were an
-- eighth of the work of the last one; and none if the cycle is far on
abbrev pub early_end : Bool → ℕ → ℕ → ℕ → ℕ
early_end far last rescanned free = if far then 0 else 16 * ((last + rescanned) / 8 - free)

-- so if each number was read
abbrev pub early_by : Option Bool → Option ℕ → Option ℕ → Option ℕ → ℕ
early_by (Some far) (Some last) (Some rescanned) (Some free) = early_end far last rescanned free
early_by far last rescanned free = 0

-- so by the numbers as read last
abbrev pub early_seen : List Entry → ℕ
early_seen es = early_by (late_seen es) (last_read last_count es) (last_read rescanned_count es) (last_read free_count es)

-- these cards were passed, as far as the heap has them: with a packet that was taken for it, or none was found
abbrev pub PassesEarly : Shape → ℕ → ℕ → List Entry → Type 0
PassesEarly sh from end es = ((min end (card_count sh) ≤ from) × (es ≡ [])) ⊎ ((from < min end (card_count sh)) × PassesCards sh from (min end (card_count sh)) es)

-- these cards were passed; before that no card was looked at, and after it this many at most
pub record PassesOnce (sh : Shape) (from end looks : ℕ) (es : List Entry) : Type 0 where
  pub first : List Entry
  pub passing : List Entry
  pub rest : List Entry
  pub events_are : es ≡ first ++ (passing ++ rest)
  pub unlooked : IsTrue (never looks_at_card first)
  pub passes : PassesEarly sh from end passing
  pub late : count_of looks_at_card rest ≤ looks

-- so; or no packet could be taken, and no card was looked at
abbrev pub HasPassed : Shape → ℕ → ℕ → ℕ → View → View → Type 0
HasPassed sh from end looks v w = (IsTrue (never looks_at_card (events v w)) × IsTrue (at_some_moment v.shape (finds_no_packet v.shape) (begins v) (events v w))) ⊎ PassesOnce sh from end looks (events v w)

-- a payment for this many cells passed those that are the next ones by the numbers that it read, sixteen for each cell; after that it looked at as many cards at
-- most as are worth a look by these numbers
abbrev pub PassesNext : Shape → ℕ → View → View → Type 0
PassesNext sh cells v w = HasPassed sh (early_seen (events v w) - 16 * cells) (early_seen (events v w)) (looks_seen (events v w)) v w
