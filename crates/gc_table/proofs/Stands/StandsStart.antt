-- The state in which nothing has happened stands for empty heaps.
use Rattle.mark_core.proofs.Lagging.{now-still, Shows}
use Rattle.mark_core.specs.Variables.{roots_now}
use Rattle.std.proofs.Common.{slice_index, ℕ, ◌≡◌, ◌+◌, ◌*◌, List, zero, suc, map, length, arith, refl, sym, ap, ◌∙◌, subst, Some, inl}
use Rattle.std.specs.Prelude.{slice_get}
use Rattle.std.specs.List.{range_with_len}
use Rattle.std.proofs.lemmas.Bool.{true≢false, false≢true}
use Rattle.std.proofs.lemmas.List.{get_or-replicate}
use Rattle.std.proofs.lemmas.List.FromFn.{length-map-range_with_len}
use Rattle.std.proofs.lemmas.Option.{same_Some}
use Rattle.mark_core.specs.Layout.{Words, words_of}
use Rattle.mark_core.specs.Start.{start_words, start_seat, start_seats}
use Rattle.mark_core.proofs.Pool.PoolStart.{each-seat}
use Rattle.mark_core.proofs.Known.{some_none}
use Rattle.mark_core.proofs.Formed.FormedSeats.{seat-at}
use Rattle.mark_core.proofs.References.ReferencesRoots.{no-root, none-used}
use Rattle.mark_core.specs.declared.kinds.Shape.{Shape}
use Rattle.mark_core.specs.declared.seat.SeatState.{SeatState}
use Rattle.plain_heap.specs.declared.object.Ref.TheVariants as refs
use Rattle.plain_heap.specs.PlainHeap.{variable}
use Rattle.gc_table.specs.StandsFor.{object_count, IsSection, SeatStands, start_meaning, start_meanings}
use Rattle.gc_table.specs.declared.view.Meaning.{Meaning}
use Rattle.gc_table.specs.Laws.{StartStands}

-- the meaning of section w at the start
meaning_at : (sh : Shape) (a n w : ℕ) (m : Meaning) → slice_get (map (start_meaning sh) (range_with_len a n)) w ≡ Some m → m ≡ start_meaning sh (a + w)
meaning_at sh a zero w m e = absurd (some_none m (sym e))
meaning_at sh a (suc n) zero m e = sym (same_Some (start_meaning sh a) m e) ∙ ap (start_meaning sh) (omega arith)
meaning_at sh a (suc n) (suc w) m e = meaning_at sh (a + 1) n w m e ∙ ap (start_meaning sh) (omega arith)

meaning_is : (sh : Shape) (w : ℕ) (m : Meaning) → slice_get (start_meanings sh) w ≡ Some m → m ≡ start_meaning sh w
meaning_is sh w m e = meaning_at sh 0 sh.sections w m e ∙ ap (start_meaning sh) (omega arith)

pub stands_starts : StartStands
stands_starts sh n z =
    let w : Words = words_of sh (start_words sh) in
    let p : ℕ → ℕ = object_count (start_meanings sh) in
    let same : roots_now w.roots (start_seats sh n) ≡ w.roots = now-still w.roots (start_seats sh n) (each-seat Shows sh n (λ k. refl)) in
    record {
      sections = length-map-range_with_len (start_meaning sh) 0 sh.sections;
      numbered = λ k m g. subst (λ (x : Meaning). IsSection sh k x) (sym (meaning_is sh k m g)) (refl, refl, refl, omega arith, λ j object e. absurd (cc));
      roots_agree =
          λ k m g v h.
          inl (ap (λ (rs : List ℕ). slice_index rs (k * 32 + v)) same ∙ no-root sh (k * 32 + v), subst (λ (x : Meaning). variable x.heap v ≡ refs.Nil) (sym (meaning_is sh k m g)) (get_or-replicate 32 v refs.Nil refs.Nil h));
      slots_nil = λ k. ap (λ (rs : List ℕ). slice_index rs (sh.sections * 32 + k)) same ∙ no-root sh (sh.sections * 32 + k);
      cells_agree = λ y h u. absurd (true≢false (sym u ∙ none-used sh n z y h));
      seats_agree =
          λ k s m f g live.
          subst (λ (t : SeatState). SeatStands sh w.identities w.values p k t m) (sym (seat-at sh 0 n k s f))
          (subst (λ (x : Meaning). SeatStands sh w.identities w.values p k (start_seat sh (0 + k)) x) (sym (meaning_is sh k m g))
          (record { got = inl (refl, refl); made = inl refl; making = λ y part e l. absurd (false≢true e); last = tt }));
      unseated = λ k m l g. subst (λ (x : Meaning). (x.got ≡ refs.Nil) × (length x.heap.objects ≡ 0)) (sym (meaning_is sh k m g)) (refl, refl);
    }
