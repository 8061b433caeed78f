-- What the threads of a closed world did is one run, which frees no reachable cell, and its words are the mutators' plain heaps.
use Rattle.std.proofs.Common.{ℕ, ◌≡◌, ◌∙◌, zero, suc, List, [], ◌∷◌, ◌++◌, refl, ap, subst, Some}
use Rattle.std.specs.Arc.{arc_value}
use Rattle.std.specs.Prelude.{slice_get}
use Rattle.std.proofs.lemmas.Option.{same_Some}
use Rattle.gc_table.specs.Seats.{view_of}
use Rattle.gc_table.specs.declared.seat.HeapSeat.{HeapSeat}
use Rattle.gc_table.proofs.Freeing.{threads_free_none}
use Rattle.gc_table.proofs.Running.{ran-section}
use Rattle.heap_laws.proofs.Ends.{ends_stand}
use Rattle.managed_heap.specs.Closing.{HasLeft, all_seats}
use Rattle.managed_heap.specs.Gathering.{AreLeft, seats_of}
use Rattle.managed_heap.specs.Threads.{ThreadsRun, WordsStand}
use Rattle.managed_heap.specs.declared.mutator.Mutator.{Mutator}

pub threads-run : ThreadsRun
threads-run world mutators tracers w end =
    let r = threads_free_none (arc_value world.heap).shape (all_seats world end.rest tracers) w end.ends in
    (r.0, record { run = r.1; no_others = r.1.no_others world.zero refl end.all; frees_none = r.2 })

pub ruleset threads = (threads-run)

-- the seat that is left of a mutator
left_at : (ms : List Mutator) (ss ts : List HeapSeat) (i : ℕ) (m : Mutator) → AreLeft HasLeft ms ss → slice_get ms i ≡ Some m → (s : HeapSeat) × (slice_get (ss ++ ts) i ≡ Some s) × HasLeft m s
left_at [] [] ts zero m a at = absurd (cc)
left_at [] [] ts (suc i) m a at = absurd (cc)
left_at [] (s ∷ ss) ts i m a at = absurd a
left_at (x ∷ ms) [] ts i m a at = absurd a
left_at (x ∷ ms) (s ∷ ss) ts zero m a at = (s, refl, subst (λ (y : Mutator). HasLeft y s) (same_Some x m at) a.0)
left_at (x ∷ ms) (s ∷ ss) ts (suc i) m a at = left_at ms ss ts i m a.1 at

pub words_stand : WordsStand
words_stand world mutators tracers w end apart =
    let words = ends_stand (arc_value world.heap).shape (all_seats world end.rest tracers) w end.ends apart in
    record {
      words = words;
      heaps =
          λ i k m at section.
          let l = left_at mutators end.rest (seats_of tracers) i m end.left at in
          let has : HasLeft m l.0 = l.2 in
          let here : (view_of l.0).state.section ≡ Some k = ap (λ (s : HeapSeat). (view_of s).state.section) has.seat_is ∙ (ran-section (view_of m.seat) (view_of has.left.seat) has.ran ∙ section) in
          ((view_of l.0).own.meaning, words.own (suc i) l.0 k l.1 here, ap (λ (s : HeapSeat). (view_of s).own.meaning.heap) has.seat_is ∙ has.leaves.same.heap);
    }
