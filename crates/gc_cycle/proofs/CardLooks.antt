-- Calls that look at no card, and what a pass over some cards doesn't do.
use Rattle.std.proofs.Common.{ℕ, ◌≡◌, ◌≤◌, ◌-◌, ◌*◌, List, arith, length, true, false, Option, Some, None, inl, inr, refl}
use Rattle.std.specs.Prelude.{IfNone, IfSome}
use Rattle.std.proofs.lemmas.Bool.{false≢true}
use Rattle.mark_core.specs.Cards.{card_cells}
use Rattle.mark_core.specs.declared.kinds.Shape.{Shape}
use Rattle.mark_core.specs.declared.kinds.Step.TheVariants.{ClearCard, DirtyCard, ReadAlloc, ReadCard, ReadMarks}
use Rattle.gc_table.specs.Log.{events}
use Rattle.gc_table.specs.declared.view.Entry.{Entry}
use Rattle.gc_table.specs.declared.view.View.{View}
use Rattle.packet_pools.specs.Counts.{scans_object}
use Rattle.packet_pools.specs.Seeking.{moves_packet, only_moves, output_pools}
use Rattle.packet_pools.specs.StepBounds.{any_steps}
use Rattle.card_clean.specs.declared.cleaned.CleanedCards.{CleanedCards}
use Rattle.card_clean.specs.DirtyCards.{CleanedFrom}
use Rattle.card_clean.specs.Leaving.{rescanned_in}
use Rattle.card_clean.specs.StepBounds.{clean_some_steps}
use Rattle.card_clean.specs.Taking.{CleansWithPacket, NoPacket}
use Rattle.tracer.specs.Roots.{scans_roots}
use Rattle.tracer.specs.Tally.{is_trace_step}
use Rattle.gc_cycle.specs.CardLooks.{looks_at_card, PassesCards}
use Rattle.gc_cycle.specs.Events.{never, Sort}
use Rattle.gc_cycle.proofs.CleaningSpares.{none-with, moved-untaken, Spares}
use Rattle.gc_cycle.proofs.Few.{cards-fewer}

pub trace-unlooked : Spares is_trace_step looks_at_card
trace-unlooked (ReadCard card) n e = absurd (false≢true e)
trace-unlooked step n e = refl

pub roots-unlooked : Spares scans_roots looks_at_card
roots-unlooked (ReadCard card) n e = absurd (false≢true e)
roots-unlooked step n e = refl

pub scan-unlooked : Spares scans_object looks_at_card
scan-unlooked (ReadCard card) n e = absurd (false≢true e)
scan-unlooked step n e = refl

pub moves-unlooked : (qs : List ℕ) → Spares (moves_packet qs) looks_at_card
moves-unlooked qs (ReadCard card) n e = absurd (false≢true e)
moves-unlooked qs step n e = refl

-- what the cleaning of some cards came to
module _ (sh : Shape) (first end : ℕ) (v w : View) where
  pub passed : (o : Option CleanedCards) → IfSome o (λ r. (r.rescanned ≤ card_cells * (end - first)) × (rescanned_in v (events v w) ≡ r.rescanned) × CleansWithPacket sh (CleanedFrom sh first (end - first) r.rescanned) (events v w)) → IfNone o (NoPacket sh (events v w) × (only_moves output_pools (events v w) ≡ true) × (rescanned_in v (events v w) ≡ 0)) → PassesCards sh first end (events v w)
  passed (Some r) s m = inl (r.rescanned, s.2)
  passed None s m = inr (m.0, m.1)

  pub passed-few : (o : Option CleanedCards) → IfSome o (λ r. (r.rescanned ≤ card_cells * (end - first)) × (rescanned_in v (events v w) ≡ r.rescanned) × CleansWithPacket sh (CleanedFrom sh first (end - first) r.rescanned) (events v w)) → IfSome o (λ r. length (events v w) ≤ clean_some_steps (end - first) r.rescanned sh) × IfNone o (length (events v w) ≤ any_steps sh) → length (events v w) ≤ clean_some_steps (end - first) (card_cells * (end - first)) sh
  passed-few (Some r) s f = cards-fewer (end - first) (end - first) r.rescanned (card_cells * (end - first)) sh (length (events v w)) (omega arith) s.0 f.0
  passed-few None s f = let few = f.1 in omega (arith, few)

-- what is neither a move of packets nor a step of a scan, and isn't one of the steps of cleaning itself, isn't there
pub pass-spares : (f : Sort) → Spares (moves_packet output_pools) f → Spares scans_object f → ((card n : ℕ) → f (ClearCard card) n ≡ false) → ((b n : ℕ) → f (ReadMarks b) n ≡ false) → ((b n : ℕ) → f (ReadAlloc b) n ≡ false) → ((card n : ℕ) → f (DirtyCard card) n ≡ false) → ((card n : ℕ) → f (ReadCard card) n ≡ false)
    → (sh : Shape) (first end : ℕ) (es : List Entry) → PassesCards sh first end es → never f es ≡ true
pass-spares f h k cleared marks allocs dirtied looks sh first end es (inl c) = none-with f h k cleared marks allocs dirtied sh first (end - first) c.0 es looks c.1
pass-spares f h k cleared marks allocs dirtied looks sh first end es (inr m) = moved-untaken output_pools f h es m.1
