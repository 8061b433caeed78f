-- A stop of the mutator's own: when its flag was raised, and which cycles ended in it.
use Rattle.std.proofs.Common.{ℕ, ◌≡◌, List, [], ◌∷◌, ◌++◌, refl, sym, ap, ◌∙◌, Bool, true, false}
use Rattle.std.specs.Prelude.{if◌then◌else◌}
use Rattle.std.proofs.lemmas.Bool.{and_from, false≢true, not-true}
use Rattle.std.proofs.lemmas.List.{append-nil, append_assoc}
use Rattle.mark_core.specs.declared.kinds.Phase.TheVariants.{Full}
use Rattle.mark_core.specs.declared.kinds.Shape.{Shape}
use Rattle.mark_core.specs.declared.kinds.Step.{Step}
use Rattle.mark_core.specs.declared.kinds.Step.TheVariants.{DropStep, EnterStep}
use Rattle.gc_table.specs.Log.{event, events, Only}
use Rattle.gc_table.specs.Running.{Ran}
use Rattle.gc_table.specs.Seats.{Took}
use Rattle.gc_table.specs.declared.view.Entry.{Entry}
use Rattle.gc_table.specs.declared.view.View.{View}
use Rattle.gc_table.proofs.History.Log.{events-after}
use Rattle.gc_table.proofs.Running.{ran-events, ran-join, ran-took}
use Rattle.packet_pools.specs.Seeking.{some_event}
use Rattle.packet_pools.proofs.Searches.{some-right}
use Rattle.gc_cycle.specs.Answering.{answers}
use Rattle.gc_cycle.specs.Events.{before_last, each_after, never, since_last, since_or_all}
use Rattle.gc_cycle.specs.Polling.{saw_full}
use Rattle.gc_cycle.specs.Sorts.{comes_in, ends_cycle, pops, raises_flag, reads_phase, resumes}
use Rattle.cache_refills.specs.Stops.{cycles_with_cause, has_ended, may_end, resumes_with_end, stops_collect}
use Rattle.cache_refills.proofs.Causes.{after-join, after-none, since-more}
use Rattle.cache_refills.proofs.Stops.StopsAgain.{tried-unended}
use Rattle.gc_cycle.specs.Mutating.{is_in_stop, pops_in_stops, tries_stopping}
use Rattle.gc_cycle.proofs.Stops.Popping.{answered-pops, held-on}
use Rattle.cache_refills.proofs.Stops.Visits.{before-later, unresumed-ends}
use Rattle.gc_cycle.proofs.Refills.Answered.{answers-out}
use Rattle.gc_cycle.proofs.Sequences.{none-of-steps, some-none}

pub answers-in : (step : Step) (n : ℕ) → answers step ≡ true → comes_in step n ≡ false
answers-in EnterStep n e = absurd (false≢true e)
answers-in DropStep n e = absurd (false≢true e)
answers-in step n e = refl

answers-unresumed : (step : Step) (n : ℕ) → answers step ≡ true → resumes step n ≡ false
answers-unresumed DropStep n e = absurd (false≢true e)
answers-unresumed step n e = refl

-- which cycles ended in it: by what was done in the stop
pub stop-cycles : (sh : Shape) (u v w y : View) → Ran u v → Ran v w → Ran w y → Only tries_stopping u v → Only tries_stopping w y → some_event raises_flag (events u v) ≡ true → ((before : List Entry) → some_event raises_flag (since_or_all ends_cycle before) ≡ true → each_after (may_end sh) ends_cycle before (events v w) ≡ true) → cycles_with_cause sh (events u y) ≡ true
stop-cycles sh u v w y r q p o a raised cycles =
    let first : some_event ends_cycle (events u v) ≡ false = tried-unended (events u v) o in
    let all : some_event raises_flag (since_or_all ends_cycle (events u v)) ≡ true =
    ap (λ (b : Bool). some_event raises_flag (if b then since_last ends_cycle (events u v) else events u v)) first ∙ raised in
    ap (cycles_with_cause sh) (ran-events u v y r (ran-join v w y q p) ∙ ap (λ es. events u v ++ es) (ran-events v w y q p))
    ∙ after-join (may_end sh) ends_cycle [] (events u v) (events v w ++ events w y) (after-none (may_end sh) ends_cycle [] (events u v) first)
    (after-join (may_end sh) ends_cycle (events u v) (events v w) (events w y) (cycles (events u v) all) (after-none (may_end sh) ends_cycle (events u v ++ events v w) (events w y) (tried-unended (events w y) a)))

-- the flag, what was done in the stop, its end, and a look at the phase after it
module _ (u v w x y : View) (r : Ran u v) (q : Ran v w) (d : Took DropStep w x) (p : Ran x y) (a : Only answers x y) where
  dropped : Ran w x
  dropped = ran-took w x DropStep refl d

  drop-events : events w y ≡ event DropStep d.0 ∷ events x y
  drop-events = ran-events w x y dropped p ∙ ap (λ es. es ++ events x y) (events-after w x DropStep d.0 d.1.0)

  later-events : events v y ≡ events v w ++ (event DropStep d.0 ∷ events x y)
  later-events = ran-events v w y q (ran-join w x y dropped p) ∙ ap (λ es. events v w ++ es) drop-events

  all-events : events u y ≡ (events u v ++ events v w) ++ (event DropStep d.0 ∷ events x y)
  all-events =
      ran-events u v y r (ran-join v w y q (ran-join w x y dropped p))
      ∙ (ap (λ es. events u v ++ es) later-events ∙ sym (append_assoc (events u v) (events v w) (event DropStep d.0 ∷ events x y)))

  last : some_event resumes (events x y) ≡ false
  last = none-of-steps answers resumes answers-unresumed (events x y) a

  -- the flag was raised before the seat came in again
  pub stop-outside : each_after (never comes_in) raises_flag [] (events u v) ≡ true → never raises_flag (events v w) ≡ true → each_after (never comes_in) raises_flag [] (events u y) ≡ true
  stop-outside o calm =
      ap (each_after (never comes_in) raises_flag []) (ran-events u v y r (ran-join v w y q (ran-join w x y dropped p)))
      ∙ after-join (never comes_in) raises_flag [] (events u v) (events v y) o
      (after-none (never comes_in) raises_flag (events u v) (events v y)
      (ap (some_event raises_flag) later-events ∙ some-none raises_flag (events v w) (event DropStep d.0 ∷ events x y) (not-true _ calm) (not-true _ (answers-out x y p a).calm)))

  -- cells were popped while the seat was out, or held the stop
  pub stop-pops : pops_in_stops (events u v) ≡ true → some_event raises_flag (events u v) ≡ true → never resumes (events u v) ≡ true → never resumes (events v w) ≡ true → pops_in_stops (events u y) ≡ true
  stop-pops away raised out inside =
      let first : List Entry = events u v ++ events v w in
      let held : some_event raises_flag (since_or_all resumes (events u v)) ≡ true =
      ap (λ (b : Bool). some_event raises_flag (if b then since_last resumes (events u v) else events u v)) (not-true _ out) ∙ raised in
      ap pops_in_stops all-events
      ∙ after-join is_in_stop pops [] first (event DropStep d.0 ∷ events x y) (after-join is_in_stop pops [] (events u v) (events v w) away (held-on pops (events u v) (events v w) (not-true _ inside) held))
      (after-none is_in_stop pops first (event DropStep d.0 ∷ events x y) (answered-pops x y a))

  -- a cycle ended in it
  pub stop-ends : some_event raises_flag (events u v) ≡ true → never resumes (events u v) ≡ true → never raises_flag (events v w) ≡ true → never resumes (events v w) ≡ true → some_event ends_cycle (events v w) ≡ true → resumes_with_end (events u y) ≡ true
  stop-ends raised out calm inside ends =
      let first : List Entry = events u v ++ events v w in
      let ended : has_ended first ≡ true =
      ap (some_event ends_cycle) (since-more raises_flag (events u v) (events v w) raised (not-true _ calm)) ∙ some-right ends_cycle (since_last raises_flag (events u v)) (events v w) ends in
      ap resumes_with_end all-events
      ∙ after-join has_ended resumes [] first (event DropStep d.0 ∷ events x y) (unresumed-ends first (some-none resumes (events u v) (events v w) (not-true _ out) (not-true _ inside)))
      (and_from _ _ ended (after-none has_ended resumes (first ++ event DropStep d.0 ∷ []) (events x y) last))

  -- the heap is full, as the look after it found
  pub stop-full : never resumes (events u v) ≡ true → never resumes (events v w) ≡ true → saw_full (events x y) ≡ true → stops_collect (events u y) ≡ true
  stop-full out inside full =
      let first : List Entry = events u v ++ events v w in
      let tail : List Entry = event DropStep d.0 ∷ events x y in
      let seen : saw_full (events u y) ≡ true = ap saw_full all-events ∙ some-right (reads_phase Full) first tail full in
      let up : before_last resumes (events u y) ≡ first =
      ap (before_last resumes) all-events
      ∙ (before-later resumes first tail refl ∙ (ap (λ (b : Bool). first ++ (if b then event DropStep d.0 ∷ before_last resumes (events x y) else [])) last ∙ append-nil first)) in
      ap (λ (b : Bool). resumes_with_end (if b then before_last resumes (events u y) else events u y)) seen
      ∙ (ap resumes_with_end up ∙ unresumed-ends first (some-none resumes (events u v) (events v w) (not-true _ out) (not-true _ inside)))
