-- What one thread adds in all.
use Rattle.std.proofs.Common.{ℕ, ◌≡◌, ◌<◌, List, [], ◌∷◌, arith, subst, true, false, None}
use Rattle.std.specs.Prelude.{slice_index, slice_set}
use Rattle.mark_core.specs.Bits.{reference_in}
use Rattle.mark_core.specs.Steps.MutatorSteps.{seat_variable as word_in}
use Rattle.mark_core.specs.declared.seat.SeatState.{SeatState}
use Rattle.gc_table.specs.Log.{all_steps, events}
use Rattle.gc_table.specs.Seats.{state_of, view_of}
use Rattle.gc_table.specs.declared.view.Entry.{Entry}
use Rattle.gc_table.specs.declared.view.View.{View}
use Rattle.mutator_ops.specs.Sharing.{LendsFound}
use Rattle.seat_turns.specs.Sharing.{spares_heap}
use Rattle.shared_heap.specs.Calls.{IsSame, SharerActs, field_count_of}
use Rattle.shared_heap.specs.Logs.{Adds}
use Rattle.shared_heap.specs.declared.mutator.SharedMutator.{SharedMutator}
use Rattle.shared_heap.proofs.Logs.{adds-join}
use Rattle.example_locks.specs.Visits.{AddsVisits, AddsWhole, Visits, VisitsRoot}
use Rattle.example_locks.proofs.Calls.{ran_log, same_fields}
use Rattle.example_locks.proofs.Lent.{Asks, asking, asks-first, visits-asked, visits-more}

abbrev AreSpared : List Entry → Type 0
AreSpared es = all_steps spares_heap es ≡ true

spared : (x y : SharedMutator) → IsSame x y → Adds AreSpared x y
spared x y s = record { heap = s.world; more = events (view_of x.seat) (view_of y.seat); log = ran_log (view_of x.seat) (view_of y.seat) s.leaves.ran; are = s.leaves.only }

-- the root's variable isn't nil, so nor was what was found
found_some : (env : List ℕ) (word : ℕ) → 0 < slice_index (slice_set env 0 (reference_in word)) 0 → 0 < reference_in word
found_some [] word h = let none : 0 < 0 = h in absurd (omega (arith, none))
found_some (x ∷ env) word h = h

abbrev AsksWord : ℕ → ℕ → List Entry → Type 0
AsksWord word old es = (es ≡ asking word old []) × (0 < reference_in word)

asked : (range : Type 0) (x y : SharedMutator) (s : SharerActs range (LendsFound 0 0) x y) → 0 < word_in (state_of y.seat) 0 → Adds (AsksWord s.does.found s.does.old) x y
asked range x y s some =
    let v : View = view_of x.seat in
    let w : View = view_of y.seat in
    record {
      heap = s.world;
      more = events v w;
      log = ran_log v w s.does.ran;
      are = (s.does.events_are, found_some v.state.env s.does.found (subst (λ (t : SeatState). 0 < word_in t 0) s.does.state some));
    }

module _ (v w x y z : SharedMutator) where
  pub whole-visits : (range : Type 0) (n : ℕ) → IsSame v w → SharerActs range (LendsFound 0 0) w x → 0 < word_in (state_of x.seat) 0 → AddsVisits false false n x y → IsSame y z → AddsWhole n v z
  whole-visits range n enters root some visits leaves =
      let f : ℕ = field_count_of v in
      let word : ℕ = root.does.found in
      let one : Adds Asks v x = adds-join AreSpared (AsksWord word root.does.old) Asks (asks-first word root.does.old) v w x (spared v w enters) (asked range w x root some) in
      let own : Adds (Visits f false false None None n) x y = same_fields (λ k. Visits k false false None None n) v x y one.heap visits in
      let two : Adds (VisitsRoot f n) v y = adds-join Asks (Visits f false false None None n) (VisitsRoot f n) (visits-asked f n) v x y one own in
      adds-join (VisitsRoot f n) AreSpared (VisitsRoot f n) (visits-more f n) v y z two (spared y z leaves)
