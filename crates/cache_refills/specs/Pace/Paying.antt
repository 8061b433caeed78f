-- What a mutator pays for its cache.
use Rattle.std.specs.Prelude.{ℕ, ◌≡◌, ◌≢◌, ◌≤◌, ◌&&◌, ◌||◌, if◌then◌else◌, List, [], ◌∷◌, length, Bool, Some, IsTrue, IsFalse}
use Rattle.mark_core.specs.declared.kinds.Phase.TheVariants.{Idle, Marking}
use Rattle.mark_core.specs.declared.kinds.Shape.{Shape}
use Rattle.gc_table.specs.declared.view.Entry.{Entry}
use Rattle.packet_pools.specs.Counts.{count_of}
use Rattle.packet_pools.specs.Fields.{picked}
use Rattle.packet_pools.specs.Seeking.{some_event}
use Rattle.tracer.specs.declared.traced.Stopped.{Stopped}
use Rattle.tracer.specs.declared.traced.Stopped.TheVariants.{Quota, NoWork, NoPacket}
use Rattle.gc_cycle.specs.declared.counts.Paid.{Paid}
use Rattle.gc_cycle.specs.Events.{before_last, never, since_last, until_first}
use Rattle.gc_cycle.specs.Sorts.{claims, draws, pops, raises_flag, raises_traced, reads_phase, reads_root, resumes}
use Rattle.gc_cycle.specs.Moments.{Moment, at_some_moment, finds_no_packet, finds_no_room, finds_no_work}
use Rattle.gc_cycle.specs.Mutating.{pops_in_stops}
use Rattle.cache_refills.specs.Pace.Pacing.{looks_seen, owed_seen, was_not_due}
use Rattle.gc_cycle.specs.Roots.{roots_scanned}

-- the events since the call claimed the block of its cache
abbrev pub since_claim : List Entry → List Entry
since_claim es = since_last claims es

-- before the call claimed the block of its cache, or if it claimed none, it popped cells only in stops
abbrev pub pops_where_paid : List Entry → Bool
pops_where_paid es = pops_in_stops (if some_event claims es then before_last claims es else es)

-- the seat claimed the block while it had the world stopped, and resumed the world after that
abbrev pub claimed_in_stop : List Entry → Bool
claimed_in_stop es = some_event resumes (since_claim es)

-- from here on no block is claimed and no root is read
abbrev pub roots_are_read : List Entry → Bool
roots_are_read es = never claims es && never reads_root es

-- after the claim and after the last root was read, nothing was left in hand and there was no packet to read from
abbrev pub ran_out_of_work : Shape → Moment → List Entry → Bool
ran_out_of_work sh m es = at_some_moment sh (λ n later. roots_are_read later && finds_no_work sh n later) m es

-- after the claim and after the last root was read, at most one packet was in hand and there was none with room
abbrev pub ran_out_of_packets : Shape → Moment → List Entry → Bool
ran_out_of_packets sh m es = at_some_moment sh (λ n later. roots_are_read later && finds_no_room sh n later) m es

-- why it stopped to trace: Quota exactly if it traced as many as it should
abbrev pub StopsAs : Stopped → Shape → ℕ → ℕ → Moment → List Entry → Type 0
StopsAs Quota sh quota done m es = done ≡ quota
StopsAs NoWork sh quota done m es = (done ≢ quota) × IsTrue (ran_out_of_work sh m es)
StopsAs NoPacket sh quota done m es = (done ≢ quota) × IsTrue (ran_out_of_packets sh m es)

-- marking was under way when the block had been claimed, outside a stop of the call: the mutator marked its roots and traced what it owed
pub record PaysInMarking (sh : Shape) (section cells : ℕ) (paid : Paid) (m : Moment) (es : List Entry) : Type 0 where
  pub outside : IsFalse (claimed_in_stop es)
  pub read : IsTrue (some_event (reads_phase Marking) (since_claim es))
  -- the roots were marked, or no packet could be taken
  pub roots : IsTrue (roots_scanned section (since_claim es) || at_some_moment sh (λ n later. never claims later && finds_no_packet sh n later) m es)
  -- the numbers were read after the claim, and before a cell was popped: it was to trace the larger of the quota and the floor by them
  pub owed : owed_seen cells (since_claim es) ≡ Some paid.quota
  pub early : owed_seen cells (until_first pops (since_claim es)) ≡ Some paid.quota
  pub done : count_of pops (since_claim es) ≡ paid.done
  pub most : paid.done ≤ paid.quota
  -- that is at most 1,024 objects; and as many cards of the pass were drawn, at most, and none if the cycle wasn't far on by the numbers read
  pub short : paid.quota ≤ 1024
  pub looked : count_of draws (since_claim es) ≤ looks_seen (since_claim es)
  pub stopped : StopsAs paid.stopped sh paid.quota paid.done m es
  -- the number of traced cells was raised once, by as many
  pub told : picked raises_traced (since_claim es) ≡ paid.done ∷ []

-- nothing was owed
abbrev pub IsFree : Paid → Type 0
IsFree paid = (paid.quota ≡ 0) × (paid.done ≡ 0) × (paid.stopped ≡ Quota)

-- no cycle was under way when the block had been claimed, outside a stop of the call; and by the numbers that it had read none was due, or it had stopped the
-- world
pub record PaysInIdle (paid : Paid) (es : List Entry) : Type 0 where
  pub outside : IsFalse (claimed_in_stop es)
  pub read : IsTrue (some_event (reads_phase Idle) (since_claim es))
  -- at no look since the claim was a cycle marking
  pub unmarked : IsTrue (never (reads_phase Marking) (since_claim es))
  -- no cell was popped, and the number of traced cells was not raised
  pub unpopped : IsTrue (never pops (since_claim es))
  pub untold : picked raises_traced (since_claim es) ≡ []
  pub free : IsFree paid
  -- the claim was ended by two steps, and a look at the phase followed
  pub few : length (since_claim es) ≤ 3
  pub cause : IsTrue (was_not_due (before_last claims es) || some_event raises_flag es)

-- the block was claimed in a stop of the call
pub record PaysInStop (paid : Paid) (es : List Entry) : Type 0 where
  pub inside : IsTrue (claimed_in_stop es)
  pub unpopped : IsTrue (never pops (since_claim es))
  pub untold : picked raises_traced (since_claim es) ≡ []
  pub free : IsFree paid

-- what was paid for a cache: in Marking, or with no cycle under way, or in a stop of the call
pub data Pays (sh : Shape) (section cells : ℕ) (paid : Paid) (m : Moment) (es : List Entry) : Type 0 where
  in_marking : PaysInMarking sh section cells paid m es → Pays sh section cells paid m es
  in_idle : PaysInIdle paid es → Pays sh section cells paid m es
  in_stop : PaysInStop paid es → Pays sh section cells paid m es
