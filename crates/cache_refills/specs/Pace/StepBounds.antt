-- How many steps a payment takes at most.
use Rattle.std.specs.Prelude.{ℕ, ◌+◌, ◌*◌}
use Rattle.mark_core.specs.Cards.{card_cells}
use Rattle.mark_core.specs.declared.kinds.Shape.{Shape}
use Rattle.tracer.specs.StepBounds.{recycle_steps, section_steps, trace_steps}
use Rattle.card_clean.specs.StepBounds.{clean_next_steps, clean_some_steps, next_steps}
use Rattle.cache_refills.specs.Pace.Pacing.{card_looks}

-- a payment cleans cards with a packet so often at most, and traces what was found
abbrev pub payment_rounds : ℕ
payment_rounds = 8

-- a packet is taken for cards and given back, and tracing goes on
abbrev pub round_steps : Shape → ℕ
round_steps sh = clean_next_steps 0 sh + trace_steps 0 sh

-- a quota is traced, this many objects of it, and this many cards are looked at; what was deferred is brought back
abbrev pub quota_steps : ℕ → ℕ → Shape → ℕ
quota_steps done looks sh = trace_steps done sh + payment_rounds * round_steps sh + looks * next_steps sh + recycle_steps sh

-- cards are passed early in a cycle
abbrev pub early_steps : Shape → ℕ
early_steps sh = clean_some_steps card_looks (card_cells * card_looks) sh

-- the numbers are read, the roots of two sections scanned, cards passed early, a quota traced, and the number of traced objects raised
abbrev pub payment_steps : ℕ → ℕ → Shape → ℕ
payment_steps done looks sh = 2 * section_steps sh + early_steps sh + quota_steps done looks sh + 5
