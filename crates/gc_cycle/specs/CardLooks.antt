-- Looks at cards that are passed beside others.
use Rattle.std.specs.Prelude.{ℕ, ◌-◌, ◌⊎◌, List, Bool, true, false, IsTrue}
use Rattle.mark_core.specs.declared.kinds.Shape.{Shape}
use Rattle.mark_core.specs.declared.kinds.Step.{Step}
use Rattle.mark_core.specs.declared.kinds.Step.TheVariants.{ReadCard}
use Rattle.gc_table.specs.declared.view.Entry.{Entry}
use Rattle.packet_pools.specs.Seeking.{only_moves, output_pools}
use Rattle.card_clean.specs.DirtyCards.{CleanedFrom}
use Rattle.card_clean.specs.Taking.{CleansWithPacket, NoPacket}

-- a card was looked at
abbrev pub looks_at_card : Step → ℕ → Bool
looks_at_card (ReadCard card) found = true
looks_at_card step found = false

-- with a packet that was taken for it, each of these cards was seen clean, or seen dirty and cleaned, in order; or no packet was found for it, and none was looked at
abbrev pub PassesCards : Shape → ℕ → ℕ → List Entry → Type 0
PassesCards sh first end es = ((n : ℕ) × CleansWithPacket sh (CleanedFrom sh first (end - first) n) es) ⊎ (NoPacket sh es × IsTrue (only_moves output_pools es))
