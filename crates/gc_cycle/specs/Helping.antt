-- What a helper does in a stop, and why it ends.
use Rattle.std.specs.Prelude.{ℕ, ◌≡◌, ◌≢◌, ◌≤◌, ◌+◌, ◌&&◌, ◌||◌, List, Bool, true, false, nat_le, IsTrue}
use Rattle.mark_core.specs.Layout.{block_count}
use Rattle.mark_core.specs.Numbers.{empty_offset}
use Rattle.mark_core.specs.Seats.{saw}
use Rattle.mark_core.specs.declared.kinds.Phase.TheVariants.{Drain, Sweep}
use Rattle.mark_core.specs.declared.kinds.Shape.{Shape}
use Rattle.gc_table.specs.declared.view.Entry.{Entry}
use Rattle.gc_table.specs.declared.view.View.{View}
use Rattle.gc_table.specs.Log.{events}
use Rattle.gc_table.specs.Running.{Ran}
use Rattle.packet_pools.specs.Counts.{count_of}
use Rattle.packet_pools.specs.Seeking.{some_event}
use Rattle.card_clean.specs.DirtyCards.{CleansRound}
use Rattle.card_clean.specs.Leaving.{rescanned_in}
use Rattle.gc_cycle.specs.declared.counts.Helped.{Helped}
use Rattle.gc_cycle.specs.declared.counts.HelpEnd.{HelpEnd}
use Rattle.gc_cycle.specs.declared.counts.HelpEnd.TheVariants.{Quota, NoWork, NoPacket, Swept}
use Rattle.gc_cycle.specs.Events.{never}
use Rattle.gc_cycle.specs.Sorts.{clears, draws_block, passes_card, pops, reads_count, sees_all_empty, sees_last_block}
use Rattle.gc_cycle.specs.Moments.{Moment, at_some_moment, begins, finds_no_room, finds_no_work}

-- after the last card that was cleared nothing was left in hand, and there was no packet to read from
abbrev pub helped_to_the_end : Shape → Moment → List Entry → Bool
helped_to_the_end sh m es = at_some_moment sh (λ n later. never clears later && finds_no_work sh n later) m es

-- how often a helper without work looks whether others give it some
abbrev pub help_looks : ℕ
help_looks = 64

-- the count said that all packets are empty, or it was read so often
abbrev pub waited : Shape → List Entry → Bool
waited sh es = some_event (sees_all_empty (empty_offset + sh.packets)) es || nat_le help_looks (count_of reads_count es)

-- why a helper that traces ended: Quota exactly if it traced as many as it should, and NoWork only once it had waited for work
abbrev pub DrainsTo : HelpEnd → Shape → ℕ → ℕ → Moment → List Entry → Type 0
DrainsTo Quota sh quota done m es = done ≡ quota
DrainsTo NoWork sh quota done m es = (done ≢ quota) × IsTrue (helped_to_the_end sh m es) × IsTrue (waited sh es)
DrainsTo NoPacket sh quota done m es = (done ≢ quota) × IsTrue (at_some_moment sh (finds_no_room sh) m es)
DrainsTo Swept sh quota done m es = ⊥

-- all cards were passed, and after that none was drawn or cleared
pub record PassesAll (v w : View) : Type 0 where
  pub passed : View
  pub first : Ran v passed
  pub rescanned : ℕ
  pub cleans : CleansRound v.shape rescanned (events v passed)
  pub later : Ran passed w
  pub unpassed : IsTrue (never passes_card (events passed w))

-- all cards were passed first, or none was drawn or cleared
abbrev pub PassesIf : Bool → View → View → Type 0
PassesIf true v w = PassesAll v w
PassesIf false v w = IsTrue (never passes_card (events v w))

-- a helper that was to look at cards passed all of them first in a drain, and else it drew and cleared none
abbrev pub PassesFirst : Bool → View → View → Type 0
PassesFirst cards v w = PassesIf (cards && saw v.state.phase_seen Drain) v w

-- a helper swept until no block was left
pub record SweepsAll (sh : Shape) (helped : Helped) (es : List Entry) : Type 0 where
  pub ended : helped.ended ≡ Swept
  pub end : IsTrue (some_event (sees_last_block (block_count sh)) es)

-- what it did is what it says, by the phase in which it helped
pub record HelpsAs (quota : ℕ) (helped : Helped) (v : View) (es : List Entry) : Type 0 where
  pub traced : count_of pops es ≡ helped.traced
  pub most : helped.traced ≤ quota
  pub rescanned : rescanned_in v es ≡ helped.rescanned
  pub swept : count_of (draws_block (block_count v.shape)) es ≡ helped.swept
  pub drain : IsTrue (saw v.state.phase_seen Drain) → DrainsTo helped.ended v.shape quota helped.traced (begins v) es
  pub sweep : IsTrue (saw v.state.phase_seen Sweep) → (helped.traced ≡ 0) × SweepsAll v.shape helped es
