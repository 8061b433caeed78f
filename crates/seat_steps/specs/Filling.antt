-- A try to get a cell: how many steps it takes at most, and how many are taken besides. It looks at each block at most, and may pay for a cache.
use Rattle.std.specs.Prelude.{ℕ, ◌≡◌, ◌+◌, ◌*◌, ◌⊎◌, Option, None, Some, IsTrue}
use Rattle.mark_core.specs.Layout.{block_count}
use Rattle.mark_core.specs.declared.kinds.Shape.{Shape}
use Rattle.gc_table.specs.Log.{events}
use Rattle.gc_table.specs.Running.{Ran}
use Rattle.gc_table.specs.declared.view.View.{View}
use Rattle.packet_pools.specs.Counts.{count_of}
use Rattle.mutator_ops.specs.Few.{AtMost}
use Rattle.gc_cycle.specs.Sorts.{pops}
use Rattle.gc_cycle.specs.declared.counts.Refill.{Refill}
use Rattle.cache_refills.specs.Getting.{RefillsTo}
use Rattle.cache_refills.specs.Pace.Pacing.{card_looks}
use Rattle.cache_refills.specs.Pace.Paying.{pops_where_paid}
use Rattle.cache_refills.specs.Pace.StepBounds.{payment_steps}
use Rattle.cache_refills.specs.Stops.{may_stop}

-- no cell was popped
abbrev pub PopsNone : View → View → Type 0
PopsNone v w = count_of pops (events v w) ≡ 0

-- how many steps a try takes at most that gets no cell: three for each block, and five
abbrev pub search_steps : Shape → ℕ
search_steps sh = 3 * block_count sh + 5

-- and whatever it comes to: those of a payment besides, and one more
abbrev pub filling_steps : Shape → ℕ
filling_steps sh = 3 * block_count sh + 6 + payment_steps 1024 card_looks sh

-- how many steps it takes at most to make an object, with a try: five before it, and after it six, and one for each reference
abbrev pub make_steps : Shape → ℕ
make_steps sh = filling_steps sh + (sh.fields + 11)

-- what a try came to: no block had a free cell, or marking was done, and no cell was popped; or it got a cache and paid for it, or found the heap full, and
-- before the block was claimed no cell was popped; and this many steps were taken at most
abbrev pub TriesToFill : Option Refill → View → View → Type 0
TriesToFill None v w = IsTrue (may_stop v.shape (events v w)) × PopsNone v w × AtMost (search_steps v.shape) v w
TriesToFill (Some refill) v w = RefillsTo refill v.state.made v w × IsTrue (pops_where_paid (events v w)) × AtMost (filling_steps v.shape) v w

-- this many steps were taken at most, then a try was made that came to this, and then this many steps
pub record TriesOnce (before later : ℕ) (tried : Option Refill) (v w : View) : Type 0 where
  pub asked : View
  pub first : Ran v asked
  pub first_few : AtMost before v asked
  pub got : View
  pub ran : Ran asked got
  pub tries : TriesToFill tried asked got
  pub last : Ran got w
  pub last_few : AtMost later got w

-- and whatever it came to
abbrev pub TriesSome : ℕ → ℕ → View → View → Type 0
TriesSome before later v w = (tried : Option Refill) × TriesOnce before later tried v w

-- this many steps were taken at most in all, or this many before a try to get a cell and this many after it
abbrev pub FewBesides : ℕ → ℕ → ℕ → View → View → Type 0
FewBesides most before later v w = AtMost most v w ⊎ TriesSome before later v w
