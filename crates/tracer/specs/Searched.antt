-- What a trace has tried of the packets with room.
use Rattle.std.specs.Prelude.{ℕ, ◌≡◌, ◌<◌, ◌++◌, ◌||◌, ◌&&◌, List, Bool, IsTrue}
use Rattle.std.specs.List.{list_all, range_with_len}
use Rattle.mark_core.specs.Numbers.{high_pool_number}
use Rattle.mark_core.specs.declared.kinds.Shape.{Shape}
use Rattle.gc_table.specs.declared.view.Entry.{Entry}
use Rattle.packet_pools.specs.Seeking.{all_missed, was_got, was_missed}
use Rattle.packet_pools.specs.Orders.{each_after, some_end}
use Rattle.packet_pools.specs.Counts.{dirties}
use Rattle.packet_pools.specs.Tried.{spare_pools}
use Rattle.packet_pools.specs.declared.search.Search.{Search}
use Rattle.packet_pools.specs.declared.search.Search.TheVariants.{Open, Tried}

-- packet p was taken, or couldn't be had out of the high pool
abbrev pub is_passed : ℕ → List Entry → Bool
is_passed p es = was_got p es || was_missed high_pool_number p es

-- no packet of the empty and the low pool could be had in these events, and each other one was taken, or couldn't be had out of the high pool
abbrev pub tries_all : Shape → List Entry → Bool
tries_all sh es = all_missed sh spare_pools es && list_all (λ p. is_passed p es) (range_with_len 0 sh.packets)

-- each card that was dirtied was so after all packets were tried; `before` are the events of the call that came before these
abbrev pub DirtiesOnceTried : Shape → List Entry → List Entry → Type 0
DirtiesOnceTried sh before es = IsTrue (each_after (some_end (tries_all sh)) dirties before es)

-- no packet of the empty and the low pool could be had, and each one below n was taken, or couldn't be had out of the high pool
pub record HasSearched (sh : Shape) (n : ℕ) (es : List Entry) : Type 0 where
  pub missed : IsTrue (all_missed sh spare_pools es)
  pub passed : (p : ℕ) → p < sh.packets → p < n → IsTrue (is_passed p es)

-- what the search says is so by the last of these events
abbrev pub IsSearched : Shape → Search → List Entry → Type 0
IsSearched sh Open es = Unit {0}
IsSearched sh (Tried n) es = (earlier later : List Entry) × (es ≡ earlier ++ later) × HasSearched sh n later

-- if what the search says is so, the events dirtied no card before all packets were tried, and what it says afterwards is so again
pub record Searches (sh : Shape) (s t : Search) (es : List Entry) : Type 0 where
  pub cause : (before : List Entry) → IsSearched sh s before → DirtiesOnceTried sh before es
  pub leads : (before : List Entry) → IsSearched sh s before → IsSearched sh t (before ++ es)
