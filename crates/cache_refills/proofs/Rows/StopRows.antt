-- Stops with cause and without, computed.
use Rattle.std.proofs.Common.{◌≡◌, refl, [], ◌∷◌, true, false}
use Rattle.mark_core.specs.Numbers.{card_counter}
use Rattle.mark_core.specs.declared.kinds.Step.TheVariants.{ClaimBlock, LeaveStep, RaiseStep, ReadCount, ReadFree, ReadPhase, ReadStat, ReleaseBlock, StoreNew, StoreRoot, Observe}
use Rattle.cache_refills.specs.Stops.{stops_with_cause, stops_without_cause}
use Rattle.cache_refills.specs.PartEvents.{polled_last}
use Rattle.gc_cycle.proofs.Rows.CycleRows.{small, double, did, flagged}

-- the one block has an owner
claimed_by_another : stops_with_cause small (did (ClaimBlock 0) 2 ∷ did LeaveStep 1 ∷ did RaiseStep 0 ∷ []) ≡ true
claimed_by_another = refl

-- it was got, and all its cells are published
block_is_full : stops_with_cause small (did (ClaimBlock 0) 0 ∷ did ReadFree 18446744073709551615 ∷ did ReleaseBlock 0 ∷ did LeaveStep 1 ∷ did RaiseStep 0 ∷ []) ≡ true
block_is_full = refl

-- the pass of cards has ended, and all packets are empty
marking_is_done : stops_with_cause small (did ReadPhase 1 ∷ did (ReadStat card_counter) 4 ∷ did ReadCount 66 ∷ did LeaveStep 1 ∷ did RaiseStep 0 ∷ []) ≡ true
marking_is_done = refl

-- another seat had raised the flag
lost_raise : stops_with_cause small (did LeaveStep 1 ∷ did RaiseStep (flagged 1) ∷ []) ≡ true
lost_raise = refl

-- the world is stopped at each call
stops_at_once : stops_with_cause small (did LeaveStep 1 ∷ did RaiseStep 0 ∷ []) ≡ false
stops_at_once = refl

-- one block has a free cell
block_has_room : stops_with_cause small (did (ClaimBlock 0) 0 ∷ did ReadFree 7 ∷ did ReleaseBlock 0 ∷ did LeaveStep 1 ∷ did RaiseStep 0 ∷ []) ≡ false
block_has_room = refl

-- the search came after the flag
searches_too_late : stops_with_cause small (did LeaveStep 1 ∷ did RaiseStep 0 ∷ did (ClaimBlock 0) 2 ∷ []) ≡ false
searches_too_late = refl

-- one of two blocks wasn't looked at
looks_at_half : stops_with_cause double (did (ClaimBlock 0) 2 ∷ did LeaveStep 1 ∷ did RaiseStep 0 ∷ []) ≡ false
looks_at_half = refl

-- the two blocks were not looked at in one search
searches_in_pieces : stops_with_cause double (did (ClaimBlock 0) 2 ∷ did ReadPhase 0 ∷ did (ClaimBlock 1) 2 ∷ did LeaveStep 1 ∷ did RaiseStep 0 ∷ []) ≡ false
searches_in_pieces = refl

searches_in_one : stops_with_cause double (did ReadPhase 0 ∷ did (ClaimBlock 0) 2 ∷ did (ClaimBlock 1) 2 ∷ did LeaveStep 1 ∷ did RaiseStep 0 ∷ []) ≡ true
searches_in_one = refl

-- what was read before the phase doesn't count
phase_read_last : stops_with_cause small (did (ReadStat card_counter) 4 ∷ did ReadCount 66 ∷ did ReadPhase 1 ∷ did LeaveStep 1 ∷ did RaiseStep 0 ∷ []) ≡ false
phase_read_last = refl

-- a packet is missing
packet_is_out : stops_with_cause small (did ReadPhase 1 ∷ did (ReadStat card_counter) 4 ∷ did ReadCount 65 ∷ did LeaveStep 1 ∷ did RaiseStep 0 ∷ []) ≡ false
packet_is_out = refl

-- a card is left in the pass
card_is_left : stops_with_cause small (did ReadPhase 1 ∷ did (ReadStat card_counter) 3 ∷ did ReadCount 66 ∷ did LeaveStep 1 ∷ did RaiseStep 0 ∷ []) ≡ false
card_is_left = refl

-- over a part of a section: the cause came after the last store into a new cell, or before it
caused_since_new : stops_without_cause small [] (did (StoreNew 3 0 0) 0 ∷ did (ClaimBlock 0) 2 ∷ did LeaveStep 1 ∷ did RaiseStep 0 ∷ []) ≡ 0
caused_since_new = refl

caused_before_new : stops_without_cause small [] (did (ClaimBlock 0) 2 ∷ did (StoreNew 3 0 0) 0 ∷ did LeaveStep 1 ∷ did RaiseStep 0 ∷ []) ≡ 1
caused_before_new = refl

-- one cause serves until the next new cell
two_stops : stops_without_cause small [] (did LeaveStep 1 ∷ did RaiseStep 0 ∷ did LeaveStep 1 ∷ did RaiseStep 0 ∷ []) ≡ 2
two_stops = refl

-- a poll stands between two commands
polled : polled_last (did (StoreRoot 0 1) 1 ∷ did Observe 1 ∷ did ReadPhase 0 ∷ []) ≡ true
polled = refl

stored_since : polled_last (did Observe 1 ∷ did (StoreRoot 0 1) 1 ∷ []) ≡ false
stored_since = refl
