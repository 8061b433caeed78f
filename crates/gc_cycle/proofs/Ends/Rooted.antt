-- A seat that is alone in a drain may see to the roots once the counter of blocks is set, and a seat at rest has room for packets.
use Rattle.std.proofs.Common.{◌≡◌, ◌≤◌, ◌∙◌, arith, ap, refl, true, Some}
use Rattle.mark_core.specs.Numbers.{block_counter}
use Rattle.mark_core.specs.Places.{the_next_block}
use Rattle.mark_core.specs.declared.kinds.Phase.TheVariants.{Drain}
use Rattle.mark_core.specs.declared.kinds.Step.TheVariants.{Reset}
use Rattle.gc_table.specs.Notes.{look}
use Rattle.gc_table.specs.Rule.{IsPossible}
use Rattle.gc_table.specs.Taking.{after}
use Rattle.gc_table.specs.declared.view.View.{View}
use Rattle.gc_table.proofs.Noticing.{alone-steady, known-here}
use Rattle.packet_pools.specs.Hands.{free_slots}
use Rattle.card_clean.specs.Drained.{IsBeforeSweep}
use Rattle.gc_cycle.specs.Finishing.{IsAloneIn}
use Rattle.gc_cycle.specs.Standing.{is_at_rest}
use Rattle.gc_cycle.proofs.Idling.{idle-of}

pub ready-of : (v : View) → IsAloneIn Drain v → look the_next_block v.known ≡ Some 0 → IsBeforeSweep v
ready-of v a n = record { drains = a.alone; next_block = n }

-- a seat at rest has room for packets
pub rest-room : (v : View) → ∥ IsPossible v ∥₁ → is_at_rest v.shape v.state ≡ true → 2 ≤ free_slots v.state.held
rest-room v p e = let four : free_slots v.state.held ≡ 4 = ap free_slots (idle-of v p e).held in omega (arith, four)

-- the counter of blocks is noted as 0
pub cleared : (v w : View) → IsAloneIn Drain v → w ≡ after (Reset block_counter) 0 v → look the_next_block w.known ≡ Some 0
cleared v w a is = ap (λ (x : View). look the_next_block x.known) is ∙ (known-here v (Reset block_counter) 0 the_next_block refl (alone-steady v.state the_next_block 0 refl a.rest.alone)).0
