-- A mutator polls and reads the phase, and so sees whether it may go on at once.
use Rattle.std.proofs.Common.{ℕ, ◌≡◌, ◌∙◌, ◌++◌, List, refl, ap, true, false, inl, inr}
use Rattle.std.specs.Prelude.{Some}
use Rattle.std.proofs.lemmas.Bool.{or_left}
use Rattle.mark_core.specs.Bits.{has_flag}
use Rattle.mark_core.specs.Seats.{phase_of, saw}
use Rattle.mark_core.specs.declared.kinds.Phase.TheVariants.{Full}
use Rattle.mark_core.specs.declared.kinds.Step.TheVariants.{Observe, ReadPhase}
use Rattle.gc_table.specs.Log.{events}
use Rattle.gc_table.specs.Running.{Ran}
use Rattle.gc_table.specs.Seats.{Found}
use Rattle.gc_table.specs.declared.view.Entry.{Entry}
use Rattle.gc_table.specs.declared.view.View.{View}
use Rattle.gc_table.proofs.History.Log.{events-after, only-after}
use Rattle.gc_table.proofs.Running.{ran-events, ran-found, ran-only, ran-refl}
use Rattle.packet_pools.specs.Seeking.{some_event}
use Rattle.packet_pools.proofs.Searches.{some-left, some-right}
use Rattle.gc_cycle.specs.Answering.{GoesOn, TellsFull}
use Rattle.gc_cycle.specs.Mutating.{stays_calm, tries_stopping}
use Rattle.gc_cycle.specs.Polling.{poll_found_stop, saw_full}
use Rattle.gc_cycle.specs.Sorts.{polls, reads_phase}
use Rattle.gc_cycle.specs.Standing.{Mutates}
use Rattle.gc_cycle.specs.Statistics.{leaves_numbers}
use Rattle.gc_cycle.proofs.Refills.Answered.{polled-mutates}
use Rattle.gc_cycle.proofs.Refills.KnownFull.{goes-on, mutates-still, tells-more, tells-none}
use Rattle.gc_cycle.proofs.SectionKept.{goes-out, out-join}
use Rattle.warehouse.specs.Playing.{Glances, IsHindered}

module _ (n : ℕ) (u v : View) (polled : Found Observe n u v) (mutates : Mutates u) where
  poll_ran : Ran u v
  poll_ran = ran-found u v Observe n refl polled

  pub poll-mutates : Mutates v
  poll-mutates = polled-mutates u v n polled.0 mutates

  pub poll-glances : Glances u v
  poll-glances =
      record {
        out = goes-out u v poll_ran (only-after stays_calm u v Observe n refl polled.0);
        numbers = only-after leaves_numbers u v Observe n refl polled.0;
        polled = ap (some_event polls) (events-after u v Observe n polled.0);
        cache = ap (λ (x : View). x.state.cache) polled.0;
      }

  -- it found a stop
  pub poll-hindered : has_flag n ≡ true → IsHindered u v
  poll-hindered stop = inl (ap poll_found_stop (events-after u v Observe n polled.0) ∙ stop)

  -- the phase after it
  module _ (m : ℕ) (w : View) (read : Found ReadPhase m v w) where
    read_ran : Ran v w
    read_ran = ran-found v w ReadPhase m refl read

    pub glance-mutates : Mutates w
    glance-mutates = mutates-still v w m read poll-mutates

    pub glances : Glances u w
    glances =
        record {
          out = out-join u v w poll-glances.out (goes-out v w read_ran (only-after stays_calm v w ReadPhase m refl read.0));
          numbers = ran-only leaves_numbers u v w poll_ran read_ran poll-glances.numbers (only-after leaves_numbers v w ReadPhase m refl read.0);
          polled = ap (some_event polls) (ran-events u v w poll_ran read_ran) ∙ some-left polls (events u v) (events v w) poll-glances.polled;
          cache = ap (λ (x : View). x.state.cache) read.0 ∙ poll-glances.cache;
        }

    -- the poll found what it found
    pub glance-free : has_flag n ≡ false → poll_found_stop (events u w) ≡ false
    glance-free none = ap poll_found_stop (ran-events u v w poll_ran read_ran ∙ ap (λ (es : List Entry). es ++ events v w) (events-after u v Observe n polled.0)) ∙ none

    -- if it was Full, the mutator is hindered
    pub glance-full : saw (Some (phase_of m)) Full ≡ true → IsHindered u w
    glance-full full =
        let last : saw_full (events v w) ≡ true = ap saw_full (events-after v w ReadPhase m read.0) ∙ or_left (saw (Some (phase_of m)) Full) false full in
        inr (ap saw_full (ran-events u v w poll_ran read_ran) ∙ some-right (reads_phase Full) (events u v) (events v w) last)

    -- if it wasn't Full, the mutator goes on
    pub glance-goes : saw (Some (phase_of m)) Full ≡ false → GoesOn u w
    glance-goes low =
        let tells : TellsFull u v = tells-more u u v (ran-refl u) poll_ran (only-after tries_stopping u v Observe n refl polled.0) (tells-none u) in
        goes-on u v w m poll_ran tells read poll-mutates low
