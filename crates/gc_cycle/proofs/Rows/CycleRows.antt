-- Cycles, precise and not, computed.
use Rattle.std.proofs.Common.{◌≡◌, refl, List, [], ◌∷◌, ◌++◌, true, false, ℕ, arith, sym, ap, inl, Bool, ◌+◌, Some}
use Rattle.mark_core.specs.declared.kinds.Phase.TheVariants.{Idle, Drain, Sweep, Clear, Full, Marking}
use Rattle.mark_core.specs.declared.kinds.Step.TheVariants.{ClaimBlock, CloseStep, DropStep, Observe, OpenStep, RaiseStep, ReadAlloc, SeeHelp, StoreNamed, StorePhase, NextBlock, ReadCard, ReadCount, Reset, ReadRoot, ReadFree, AddStat, Look}
use Rattle.gc_table.specs.declared.view.Entry.{Entry}
use Rattle.gc_cycle.specs.Cycles.{collects, collects_exactly, fills_with_cause, lets_help}
use Rattle.std.proofs.lemmas.Bool.{true≢false}
use Rattle.mark_core.specs.Numbers.{card_counter, free_count, high_pool_number, low_pool_number, section_variables}
use Rattle.mark_core.specs.declared.kinds.Step.{Step}
use Rattle.gc_table.specs.Log.{event}
use Rattle.gc_table.specs.declared.view.View.{View}
use Rattle.packet_pools.specs.Seeking.{some_event}
use Rattle.card_clean.specs.Drained.{FindsNoDirtyCard, FindsWork}
use Rattle.gc_cycle.specs.DrainRounds.{BeginsDrain, LeavesDrain}
use Rattle.gc_cycle.specs.Events.{since_last}
use Rattle.gc_cycle.specs.Sorts.{moves_to, sees_all_empty}
use Rattle.gc_cycle.specs.Turns.{DrainsFor, SeesToRoots, round_quota}
use Rattle.std.specs.Prelude.{map}
use Rattle.std.specs.List.{range_with_len}
use Rattle.mark_core.specs.Start.{start_seat}
use Rattle.mark_core.specs.declared.kinds.Shape.{Shape}
use Rattle.mark_core.specs.declared.seat.SeatState.{SeatState}
use Rattle.gc_table.specs.Rule.{newcomer}
use Rattle.gc_cycle.specs.Moments.{Moment}

-- Drains, computed.
-- Small logs, of which the rows compute what the definitions say.
-- one block, four cards, two packets of two entries, and one warehouse
abbrev pub small : Shape
small = record { cells = 64; packets = 2; entries = 2; sections = 2; fields = 1; objects = 2000000; sharing = false; slots = 0; stretch = 1 }

-- two blocks
abbrev pub double : Shape
double = record small { cells = 128 }

-- the step found this word
abbrev pub did : Step → ℕ → Entry
did step n = record { step = step; found = n; won = true }

-- the flag of the world, beside this number
abbrev pub flagged : ℕ → ℕ
flagged n = 4294967296 + n

-- a moment at which no packet in hand has a deferred cell
abbrev pub at_rest : SeatState → Moment
at_rest s = record { state = s; deferring = [] }

-- the warehouse's mutator, that saw marking
abbrev pub marker : SeatState
marker = record (start_seat small 1) { counted = true; active = true; phase_seen = Some Marking }

-- a tracer outside
abbrev pub outsider : SeatState
outsider = start_seat small 2

-- the tracer as a helper in a drain, and in a sweep
abbrev pub drainer : SeatState
drainer = record outsider { helping = true; admitted = true; phase_seen = Some Drain }

abbrev pub sweeper : SeatState
sweeper = record outsider { helping = true; admitted = true; phase_seen = Some Sweep }

-- the seat that stopped the world
abbrev pub stopper : SeatState
stopper = record (start_seat small 1) { raised = true; knows = true; alone = true }

-- all variables of the warehouse are read as nil
abbrev pub nil_roots : List Entry
nil_roots = map (λ v. did (ReadRoot 1 v) 0) (range_with_len 0 section_variables)

-- block 0 is claimed, with this allocation word and this many free cells
abbrev pub claiming : ℕ → ℕ → List Entry
claiming word free = did (ClaimBlock 0) 0 ∷ did ReadFree word ∷ did (AddStat free_count free true) 100 ∷ []

-- no packet is found to read from
abbrev pub no_input_looks : List Entry
no_input_looks = did (Look high_pool_number 0) 0 ∷ did (Look low_pool_number 0) 0 ∷ []

-- the view of a seat with this record, which has done nothing yet
abbrev pub seen_by : SeatState → View
seen_by s = record (newcomer small [] s.number) { state = s }

-- the stopper, before and after these events
abbrev before : View
before = seen_by stopper

abbrev after_these : List Entry → View
after_these es = record before { log = es }

-- a round that finds no work
works : DrainsFor round_quota before (after_these no_input_looks)
works = refl

-- a round that doesn't even look for a packet is refused
refused-lazy : DrainsFor round_quota before (after_these (did (ReadCard 0) 1 ∷ did ReadCount 64 ∷ [])) → ⊥
refused-lazy h = absurd (true≢false (sym h))

-- all roots of the warehouse are nil
sees_roots : SeesToRoots 1 before (after_these nil_roots)
sees_roots = refl

-- a look at the roots that leaves out those of the catalogue is refused
refused-roots : SeesToRoots 0 before (after_these nil_roots) → ⊥
refused-roots h = absurd (true≢false (sym h))

-- a look at all four cards, and then at the count of packets
abbrev clean_cards : List Entry
clean_cards = event (ReadCard 0) 0 ∷ event (ReadCard 1) 0 ∷ event (ReadCard 2) 0 ∷ event (ReadCard 3) 0 ∷ []

sees_end : FindsNoDirtyCard small (clean_cards ++ event ReadCount 66 ∷ [])
sees_end = refl

-- a packet is missing
refused-end : FindsNoDirtyCard small (clean_cards ++ event ReadCount 65 ∷ []) → ⊥
refused-end h = absurd (true≢false (sym (ap (some_event (sees_all_empty 66)) h)))

-- a card was dirty
sees_work : FindsWork small (event (ReadCard 0) 0 ∷ event (ReadCard 1) 1 ∷ [])
sees_work = inl (1, omega arith, refl)

-- since the phase moved to Drain only the counter of cards was set
begins : since_last (moves_to Drain) (did (StorePhase Drain) 1 ∷ did (Reset card_counter) 0 ∷ []) ≡ did (Reset card_counter) 0 ∷ []
begins = refl

-- a drain that begins is refused if a block was read after the counter was set
refused-late : BeginsDrain before (after_these (did (StorePhase Drain) 1 ∷ did (Reset card_counter) 0 ∷ did (ReadAlloc 0) 0 ∷ [])) → ⊥
refused-late h = absurd (true≢false (ap (some_event reads_alloc) h.1))
  where
    reads_alloc : Step → ℕ → Bool
    reads_alloc (ReadAlloc b) n = true
    reads_alloc step n = false

-- the drain is left for the sweep, and not for the clearing of marks
leaves : LeavesDrain Sweep before (after_these (did (StorePhase Sweep) 2 ∷ did NextBlock 0 ∷ []))
leaves = (did NextBlock 0 ∷ [], refl)

refused-leaves : LeavesDrain Clear before (after_these (did (StorePhase Sweep) 2 ∷ [])) → ⊥
refused-leaves h = absurd (true≢false (sym (ap (some_event (moves_to Clear)) h.1)))

-- helpers are let in, and have left
abbrev helped : List Entry
helped = did OpenStep 0 ∷ did CloseStep (flagged 0) ∷ did SeeHelp 0 ∷ []

-- the end of a cycle from its last drain on
abbrev ending : List Entry
ending = helped ++ (did (StorePhase Sweep) 2 ∷ helped ++ did (StorePhase Idle) 3 ∷ [])

-- a cycle that was marking ends, with help in both parts
cycle_with_help : lets_help (did (StorePhase Drain) 1 ∷ ending) ≡ true
cycle_with_help = refl

-- none was let in to sweep
no_help_in_sweep : lets_help (did (StorePhase Drain) 1 ∷ helped ++ (did (StorePhase Sweep) 2 ∷ did (StorePhase Idle) 3 ∷ [])) ≡ false
no_help_in_sweep = refl

-- none was let in to drain
no_help_in_drain : lets_help (did (StorePhase Drain) 1 ∷ did (StorePhase Sweep) 2 ∷ helped ++ did (StorePhase Idle) 3 ∷ []) ≡ false
no_help_in_drain = refl

-- help in a drain that was given up doesn't count
help_in_another_drain : lets_help (did (StorePhase Drain) 1 ∷ helped ++ (did (StorePhase Clear) 2 ∷ did (StorePhase Drain) 4 ∷ did (StorePhase Sweep) 2 ∷ helped ++ did (StorePhase Idle) 3 ∷ [])) ≡ false
help_in_another_drain = refl

-- from Idle
precise_from_idle : collects_exactly small (at_rest stopper) (did (StorePhase Drain) 0 ∷ ending) ≡ true
precise_from_idle = refl

-- from Marking all marks are cleared first
precise_from_marking : collects_exactly small (at_rest stopper) (did (StorePhase Drain) 1 ∷ helped ++ (did (StorePhase Clear) 2 ∷ did (StorePhase Drain) 4 ∷ ending)) ≡ true
precise_from_marking = refl

-- the cycle is ended, and another follows
two_cycles : collects_exactly small (at_rest stopper) (did (StorePhase Drain) 1 ∷ ending ++ (did (StorePhase Drain) 0 ∷ ending)) ≡ true
two_cycles = refl

-- without clearing, what floats stays
not_cleared : collects_exactly small (at_rest stopper) (did (StorePhase Drain) 1 ∷ ending) ≡ false
not_cleared = refl

not_cleared_collects : collects (did (StorePhase Drain) 1 ∷ ending) ≡ false
not_cleared_collects = refl

-- the cycle didn't end
not_ended : collects (did (StorePhase Drain) 0 ∷ helped ++ did (StorePhase Sweep) 2 ∷ []) ≡ false
not_ended = refl

-- an exact drain of one stop, and the end of an ordinary cycle of another
of_two_stops : collects_exactly small (at_rest stopper) (did (StorePhase Drain) 0 ∷ did DropStep (flagged 0) ∷ did (StorePhase Drain) 1 ∷ ending) ≡ false
of_two_stops = refl

-- the heap is full: a precise collection, every allocation word, and the name
abbrev stopping : List Entry
stopping = did RaiseStep 0 ∷ did Observe (flagged 0) ∷ []

full_with_cause : fills_with_cause small (stopping ++ (did (StorePhase Drain) 0 ∷ ending ++ (did (ReadAlloc 0) 18446744073709551615 ∷ did StoreNamed 1 ∷ did (StorePhase Full) 0 ∷ []))) ≡ true
full_with_cause = refl

-- as soon as no block can be claimed
full_at_once : fills_with_cause small (did (ClaimBlock 0) 2 ∷ stopping ++ (did (ReadAlloc 0) 18446744073709551615 ∷ did StoreNamed 1 ∷ did (StorePhase Full) 0 ∷ [])) ≡ false
full_at_once = refl

-- the allocation words were read before the sweep
read_before_sweep : fills_with_cause small (stopping ++ (did (ReadAlloc 0) 18446744073709551615 ∷ did (StorePhase Drain) 0 ∷ ending ++ (did StoreNamed 1 ∷ did (StorePhase Full) 0 ∷ []))) ≡ false
read_before_sweep = refl

-- the collection was of an earlier stop
of_an_earlier_stop : fills_with_cause small (stopping ++ (did (StorePhase Drain) 0 ∷ ending ++ (did DropStep (flagged 0) ∷ stopping ++ (did (ReadAlloc 0) 18446744073709551615 ∷ did StoreNamed 1 ∷ did (StorePhase Full) 0 ∷ [])))) ≡ false
of_an_earlier_stop = refl

-- no section was named
not_named : fills_with_cause small (stopping ++ (did (StorePhase Drain) 0 ∷ ending ++ (did (ReadAlloc 0) 18446744073709551615 ∷ did (StorePhase Full) 0 ∷ []))) ≡ false
not_named = refl
