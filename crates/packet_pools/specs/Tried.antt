-- What a call has tried of the packets with room.
use Rattle.std.specs.Prelude.{ℕ, ◌≡◌, ◌<◌, ◌⊎◌, ◌==◌, ◌+◌, ◌++◌, ◌||◌, ◌&&◌, not, if◌then◌else◌, List, [], ◌∷◌, Bool, false, nat_le, IsTrue, IsFalse}
use Rattle.std.specs.List.{list_all, range_with_len}
use Rattle.mark_core.specs.Bits.{reference_in}
use Rattle.mark_core.specs.Numbers.{empty_pool_number, high_pool_number, low_pool_number}
use Rattle.mark_core.specs.declared.kinds.Shape.{Shape}
use Rattle.mark_core.specs.declared.kinds.Step.{Step}
use Rattle.mark_core.specs.declared.kinds.Step.TheVariants.{Push, ReadLength}
use Rattle.gc_table.specs.declared.view.Entry.{Entry}
use Rattle.packet_pools.specs.Seeking.{all_missed, moves_packet, output_pools, was_got, was_missed}
use Rattle.packet_pools.specs.Orders.{each_after, some_end}
use Rattle.packet_pools.specs.Counts.{count_of, dirties, marks_white}
use Rattle.packet_pools.specs.declared.held.Held.{Held}
use Rattle.packet_pools.specs.declared.search.Search.{Search}
use Rattle.packet_pools.specs.declared.search.Search.TheVariants.{Open, Tried}

-- the pools whose packets are half free at least, in the order in which they are asked
abbrev pub spare_pools : List ℕ
spare_pools = empty_pool_number ∷ low_pool_number ∷ []

-- no packet of them could be had, and none was taken
pub record NoSpare (sh : Shape) (es : List Entry) : Type 0 where
  pub missed : IsTrue (all_missed sh spare_pools es)
  pub ungot : (p : ℕ) → IsFalse (was_got p es)

-- a cell was put into packet p
abbrev pub pushes_into : ℕ → Step → ℕ → Bool
pushes_into p (Push packet cell) found = packet == p
pushes_into p step found = false

-- a length of packet p that is m at least with so many cells more
abbrev pub reads_with : ℕ → ℕ → ℕ → Step → ℕ → Bool
reads_with more m p (ReadLength packet) found = (packet == p) && nat_le m (reference_in found + more)
reads_with more m p step found = false

-- the length of packet p was read, and with what was pushed into it since then it had m cells at least
abbrev pub was_filled : ℕ → ℕ → List Entry → Bool
was_filled m p [] = false
was_filled m p (e ∷ es) = reads_with (count_of (pushes_into p) es) m p e.step e.found || was_filled m p es

-- packet p couldn't be had out of the high pool; or it was taken, and had m cells then
abbrev pub is_spent : ℕ → ℕ → List Entry → Bool
is_spent m p es = was_missed high_pool_number p es || (was_got p es && was_filled m p es)

-- no packet of the empty and the low pool could be had, and each other one not out of the high pool, or it had no room left; some packets are excused
abbrev pub all_tried : Shape → (ℕ → Bool) → List Entry → Bool
all_tried sh excused es = all_missed sh spare_pools es && list_all (λ p. excused p || is_spent sh.entries p es) (range_with_len 0 sh.packets)

-- the cells that are asked of packet p: those that it has if cells go into it now, and else no room is left
abbrev pub fill_of : Shape → Held → ℕ → ℕ
fill_of sh h p = if p == h.packet then h.length else sh.entries

-- no packet of the empty and the low pool could be had, and each one below n and each one that was taken is spent, while h is filled
pub record HasTried (sh : Shape) (excused : ℕ → Bool) (n : ℕ) (h : Held) (es : List Entry) : Type 0 where
  pub missed : IsTrue (all_missed sh spare_pools es)
  pub spent : (p : ℕ) → p < sh.packets → (p < n) ⊎ IsTrue (was_got p es) → IsTrue (excused p || is_spent (fill_of sh h p) p es)

-- what the search says is so by the last of these events, while h is filled
abbrev pub IsTried : Shape → (ℕ → Bool) → Search → Held → List Entry → Type 0
IsTried sh excused Open h es = Unit {0}
IsTried sh excused (Tried n) h es = (earlier later : List Entry) × (es ≡ earlier ++ later) × HasTried sh excused n h later

-- these events lead from one search to another, and from a packet that is filled to another, whatever came before
abbrev pub Leads : Shape → Search → Search → Held → Held → List Entry → Type 0
Leads sh s t h k es = (excused : ℕ → Bool) (before : List Entry) → IsTried sh excused s h before → IsTried sh excused t k (before ++ es)

-- so from each packet that is full, to k or to itself
abbrev pub LeadsFull : Shape → Search → Search → Held → List Entry → Type 0
LeadsFull sh s t k es = (h : Held) → h.length ≡ sh.entries → Leads sh s t h k es

abbrev pub StaysFull : Shape → Search → Search → List Entry → Type 0
StaysFull sh s t es = (h : Held) → h.length ≡ sh.entries → Leads sh s t h h es

-- each card that was dirtied was so after all packets were tried; `before` are the events that came before these
abbrev pub DirtiesTried : Shape → (ℕ → Bool) → List Entry → List Entry → Type 0
DirtiesTried sh excused before es = IsTrue (each_after (some_end (all_tried sh excused)) dirties before es)

-- if what the search says is so, the events dirtied no card before all packets were tried, and what it says afterwards is so again
pub record SearchesOn (sh : Shape) (s t : Search) (h k : Held) (es : List Entry) : Type 0 where
  pub cause : (excused : ℕ → Bool) (before : List Entry) → IsTried sh excused s h before → DirtiesTried sh excused before es
  pub leads : Leads sh s t h k es

-- so from the begin of a call, with no excuse
abbrev pub DirtiesLast : Shape → List Entry → Type 0
DirtiesLast sh es = DirtiesTried sh (λ p. false) [] es

-- after these events a cell that was white was marked last, as b says of before them: moves of packets leave it so
abbrev pub fresh_after : Bool → List Entry → Bool
fresh_after b [] = b
fresh_after b (e ∷ es) = fresh_after (if moves_packet output_pools e.step then b else marks_white e.step e.found) es

-- the last of these events, but for moves of packets, marked a cell that was white
abbrev pub ends_fresh : List Entry → Bool
ends_fresh es = fresh_after false es

-- a card that is dirtied next isn't for a cell that was just marked, or all packets were tried
abbrev pub may_overflow : Shape → (ℕ → Bool) → List Entry → Bool
may_overflow sh excused es = not (ends_fresh es) || some_end (all_tried sh excused) es

-- each card that was dirtied for a cell that was just marked was so after all packets were tried; `before` are the events that came before these
abbrev pub OverflowsTried : Shape → (ℕ → Bool) → List Entry → List Entry → Type 0
OverflowsTried sh excused before es = IsTrue (each_after (may_overflow sh excused) dirties before es)

-- as SearchesOn, where a card may also be dirtied for another reason than a cell that was just marked
pub record SearchesThrough (sh : Shape) (s t : Search) (h k : Held) (es : List Entry) : Type 0 where
  pub cause : (excused : ℕ → Bool) (before : List Entry) → IsTried sh excused s h before → OverflowsTried sh excused before es
  pub leads : Leads sh s t h k es

-- so from the begin of a call, with no excuse
abbrev pub OverflowsLast : Shape → List Entry → Type 0
OverflowsLast sh es = OverflowsTried sh (λ p. false) [] es
