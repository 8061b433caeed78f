-- Helpers, computed.
use Rattle.std.proofs.Common.{ℕ, ◌≡◌, ◌+◌, ◌-◌, arith, refl, sym, ap, List, [], ◌∷◌, ◌++◌, true, false}
use Rattle.std.specs.Prelude.{◌==◌}
use Rattle.std.proofs.lemmas.Bool.{true≢false}
use Rattle.mark_core.specs.Numbers.{block_counter, card_counter, empty_offset, high_pool_number, low_pool_number}
use Rattle.mark_core.specs.declared.kinds.Step.TheVariants.{ClearCard, JoinHelpStep, LeaveHelpStep, Look, NextOfCards, Observe, ReadCount, ReadPhase, ReadStat, Take}
use Rattle.gc_table.specs.declared.view.Entry.{Entry}
use Rattle.gc_cycle.specs.declared.counts.Helped.{Helped}
use Rattle.gc_cycle.specs.declared.counts.HelpEnd.TheVariants.{NoWork, Swept}
use Rattle.gc_cycle.specs.Helping.{HelpsAs, helped_to_the_end, waited}
use Rattle.gc_cycle.specs.Polling.{offered_help, saw_resumed}
use Rattle.gc_cycle.proofs.Rows.CycleRows.{small, did, at_rest, drainer, flagged, no_input_looks, seen_by, sweeper}

abbrev nothing_to_do : Helped
nothing_to_do = record { traced = 0; rescanned = 0; swept = 0; ended = NoWork }

-- a card is cleaned; no packet has work, and the count says that all are empty
abbrev cleans_the_last : List Entry
cleans_the_last = did (ClearCard 3) 0 ∷ no_input_looks ++ (did ReadCount (empty_offset + small.packets) ∷ [])

to_the_end : helped_to_the_end small (at_rest drainer) cleans_the_last ≡ true
to_the_end = refl

help_ends : HelpsAs 100 nothing_to_do (seen_by drainer) cleans_the_last
help_ends = record { traced = refl; most = omega arith; rescanned = refl; swept = refl; drain = λ e. (differ, refl, refl); sweep = λ e. absurd (true≢false (sym e)) }
  where
    differ : (◌≡◌ {A = ℕ} 0 100) → ⊥
    differ e = absurd (true≢false (sym (ap (λ n. n == 100) e)))

-- nothing was done
does_nothing : helped_to_the_end small (at_rest drainer) [] ≡ false
does_nothing = refl

-- it didn't wait for work
hurries : waited small no_input_looks ≡ false
hurries = refl

-- the count said that a packet isn't empty
sees_one_filled : waited small (did ReadCount (empty_offset + small.packets - 1) ∷ []) ≡ false
sees_one_filled = refl

-- a card was cleared after the end was seen
cleans_afterwards : helped_to_the_end small (at_rest drainer) (did (ReadStat card_counter) 4 ∷ no_input_looks ++ did (ClearCard 3) 0 ∷ []) ≡ false
cleans_afterwards = refl

-- packets were looked for before the last card was cleared, and not after
looks_too_soon : helped_to_the_end small (at_rest drainer) (no_input_looks ++ (did NextOfCards 3 ∷ did (ClearCard 3) 0 ∷ did (ReadStat card_counter) 4 ∷ [])) ≡ false
looks_too_soon = refl

-- a pool wasn't looked at
leaves_a_pool : helped_to_the_end small (at_rest drainer) (did (ReadStat card_counter) 4 ∷ did (Look high_pool_number 0) 0 ∷ []) ≡ false
leaves_a_pool = refl

-- a packet was there
leaves_a_packet : helped_to_the_end small (at_rest drainer) (did (ReadStat card_counter) 4 ∷ did (Look high_pool_number 0) 2 ∷ did (Look low_pool_number 0) 0 ∷ []) ≡ false
leaves_a_packet = refl

-- the packets lie in the low pool, and each was taken there by another seat before
loses_each : helped_to_the_end small (at_rest drainer) (did (ReadStat card_counter) 4 ∷ did (Look high_pool_number 0) 0 ∷ did (Look low_pool_number 0) 3 ∷ did (Take low_pool_number 0) 0 ∷ did (Take low_pool_number 1) 0 ∷ []) ≡ true
loses_each = refl

-- it takes them out of the high pool, where they aren't
takes_elsewhere : helped_to_the_end small (at_rest drainer) (did (ReadStat card_counter) 4 ∷ did (Look high_pool_number 0) 0 ∷ did (Look low_pool_number 0) 3 ∷ did (Take high_pool_number 0) 0 ∷ did (Take high_pool_number 1) 0 ∷ []) ≡ false
takes_elsewhere = refl

-- a sweep to its end
abbrev all_swept : Helped
all_swept = record { traced = 0; rescanned = 0; swept = 0; ended = Swept }

sweeps : HelpsAs 100 all_swept (seen_by sweeper) (did (ReadStat block_counter) 1 ∷ [])
sweeps = record { traced = refl; most = omega arith; rescanned = refl; swept = refl; drain = λ e. absurd (true≢false (sym e)); sweep = λ e. (refl, record { ended = refl; end = refl }) }

refused-sweep : HelpsAs 100 all_swept (seen_by sweeper) [] → ⊥
refused-sweep h = absurd (true≢false (sym (h.sweep refl).1.end))

-- in a drain nobody answers that all is swept
refused-swept : (es : List Entry) → HelpsAs 100 all_swept (seen_by drainer) es → ⊥
refused-swept es h = h.drain refl

-- waiting: the stop was seen, help was offered, and the end of the stop was seen
abbrev waits : List Entry
waits = did Observe (flagged 0) ∷ did JoinHelpStep (flagged 0) ∷ did ReadPhase 2 ∷ did LeaveHelpStep (flagged 1) ∷ did Observe 1 ∷ []

offered : offered_help waits ≡ true
offered = refl

resumed : saw_resumed waits ≡ true
resumed = refl

not_offered : offered_help (did Observe (flagged 0) ∷ did Observe 1 ∷ []) ≡ false
not_offered = refl

not_resumed : saw_resumed (did Observe 1 ∷ did Observe (flagged 0) ∷ []) ≡ false
not_resumed = refl

no_stop : offered_help (did Observe 1 ∷ []) ≡ true
no_stop = refl
