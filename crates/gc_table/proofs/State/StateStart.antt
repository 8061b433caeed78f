-- The state in which nothing has happened meets the rule of the table.
use Rattle.std.proofs.Common.{ℕ, ◌≡◌, ◌+◌, ◌-◌, ◌*◌, ◌<◌, ◌≤◌, zero, suc, List, ◌∷◌, map, length, arith, refl, sym, ap, ◌∙◌, subst, false, Some}
use Rattle.std.specs.Prelude.{slice_get, slice_index, slice_index_or}
use Rattle.std.specs.List.{range_with_len}
use Rattle.std.proofs.lemmas.Bool.{true≢false}
use Rattle.std.proofs.lemmas.List.{get_or-append_right, get_or-replicate}
use Rattle.std.proofs.lemmas.List.FromFn.{length-map-range_with_len}
use Rattle.std.proofs.lemmas.Option.{same_Some, slice_get_within}
use Rattle.mark_core.specs.Shapes.{IsShape}
use Rattle.mark_core.specs.Layout.{words_of, region_base, region_sizes, pool_words}
use Rattle.mark_core.specs.Start.{start_words, start_seats, full_pool, packet_bits}
use Rattle.mark_core.proofs.Known.{some_none}
use Rattle.mark_core.proofs.CoreKept.{core-starts}
use Rattle.mark_core.proofs.Formed.FormedSeats.{seat-at}
use Rattle.mark_core.proofs.Pool.PoolStart.{in-gap, past-gap, gap, singles, tail_words}
use Rattle.mark_core.proofs.References.ReferencesRoots.{none-used}
use Rattle.mark_core.proofs.Writing.Places.{words-get}
use Rattle.mark_core.proofs.Swept.SweptStart.{swept_starts}
use Rattle.mark_core.specs.declared.kinds.Shape.{Shape}
use Rattle.mark_core.specs.declared.seat.SeatState.{SeatState}
use Rattle.plain_heap.specs.declared.operation.Op.{Op}
use Rattle.gc_table.specs.StandsFor.{StandsFor, start_meaning}
use Rattle.gc_table.specs.declared.view.Meaning.{Meaning}
use Rattle.gc_table.specs.declared.view.SectionState.{SectionState}
use Rattle.gc_table.specs.Sections.{start_section, start_sections}
use Rattle.gc_table.specs.TableState.{start_state, meanings_of, no_section, section_at}
use Rattle.gc_table.specs.Told.{EachSection, IsTold}
use Rattle.gc_table.specs.Rule.{IsState}
use Rattle.gc_table.proofs.Stands.StandsStart.{stands_starts}

-- a section at the start
section_from : (sh : Shape) (a n w : ℕ) (x : SectionState) → slice_get (map (start_section sh) (range_with_len a n)) w ≡ Some x → x ≡ start_section sh (a + w)
section_from sh a zero w x e = absurd (some_none x (sym e))
section_from sh a (suc n) zero x e = sym (same_Some (start_section sh a) x e) ∙ ap (start_section sh) (omega arith)
section_from sh a (suc n) (suc w) x e = section_from sh (a + 1) n w x e ∙ ap (start_section sh) (omega arith)

section_is : (sh : Shape) (w : ℕ) (x : SectionState) → slice_get (start_sections sh) w ≡ Some x → x ≡ start_section sh w
section_is sh w x e = section_from sh 0 sh.sections w x e ∙ ap (start_section sh) (omega arith)

-- what holds of each section at the start
each_starts : (sh : Shape) (P : ℕ → SectionState → Type 0) → ((w : ℕ) → P w (start_section sh w)) → EachSection (start_sections sh) P
each_starts sh P p w x e = subst (P w) (sym (section_is sh w x e)) (p w)

first_from : (sh : Shape) (n : ℕ) (P : SectionState → Type 0) → P no_section → P (start_section sh 0) → P (slice_index_or (map (start_section sh) (range_with_len 0 n)) 0 no_section)
first_from sh zero P none first = none
first_from sh (suc n) P none first = first

-- the catalogue's section
first_starts : (sh : Shape) (P : SectionState → Type 0) → P no_section → P (start_section sh 0) → P (section_at (start_sections sh) 0)
first_starts sh P none first = first_from sh sh.sections P none first

-- no section has done a command
no_position : (sh : Shape) (w : ℕ) → w < sh.sections → slice_index (words_of sh (start_words sh)).positions w ≡ 0
no_position sh w h =
    sym (words-get (region_sizes sh) 1 (start_words sh) w 0 h)
    ∙ in-gap (singles sh) (full_pool sh) (tail_words sh) 11 (gap sh) (region_base (region_sizes sh) 1 + w) refl (omega arith) (omega (arith, h))

-- it is the first season
no_season : (sh : Shape) → (words_of sh (start_words sh)).season ≡ 0
no_season sh =
    let w : ℕ = pool_words sh in
    let long : length (full_pool sh) ≡ w = length-map-range_with_len (packet_bits sh.packets) 0 w in
    sym (words-get (region_sizes sh) 13 (start_words sh) 1 0 (omega arith))
    ∙ (past-gap (singles sh) (full_pool sh) (tail_words sh) 11 (gap sh) (region_base (region_sizes sh) 13 + 1) (4 * w + 1) refl (omega arith)
    ∙ (get_or-append_right (full_pool sh) (tail_words sh) w (4 * w + 1) 0 long (omega arith) ∙ get_or-replicate (3 * w + 2) (4 * w + 1 - w) 0 0 (omega arith)))

pub told-starts : (sh : Shape) (plan : List (List Op)) (n : ℕ) → IsShape sh → 1 ≤ n → n ≤ 41 → IsTold (start_state sh plan n)
told-starts sh plan n z some few = record {
  unseated = λ w x e l. section_is sh w x e;
  placed =
      record {
        at_place = λ c h u. absurd (true≢false (sym u ∙ none-used sh n z c h));
        counted = each_starts sh (λ w x. (s : SeatState) → slice_get (start_seats sh n) w ≡ Some s → s.spent ≡ false → length x.places ≡ s.made) (λ w s e live. sym (ap (λ (t : SeatState). t.made) (seat-at sh 0 n w s e)));
        unseated = each_starts sh _ (λ w l. refl);
        below = each_starts sh _ (λ w k p e. absurd (some_none p (sym e)));
      };
  positioned = λ w x e. no_position sh w (omega (arith, slice_get_within (start_sections sh) w x e, length-map-range_with_len (start_section sh) 0 sh.sections)) ∙ sym (ap (λ (y : SectionState). y.position) (section_is sh w x e));
  seasons = record { moved = no_season sh ∙ sym (first_starts sh (λ y. y.seasons ≡ 0) refl refl); planned_there = λ e. absurd (omega (arith, e, no_season sh)) };
  turns =
      record {
        turns_past = each_starts sh _ (λ w k t e. absurd (some_none t (sym e)));
        places_past = each_starts sh _ (λ w k p e. absurd (some_none p (sym e)));
        last = each_starts sh _ (λ w. refl);
      };
  apart = λ alone. each_starts sh _ (λ w k m p o l e f r same. absurd (some_none p (sym e)));
  fullness =
      record {
        found_by = each_starts sh _ (λ w e. absurd (true≢false (sym e)));
        found = λ e. absurd (omega (arith, e));
        published = λ e. absurd (omega (arith, e));
        reached = λ e. absurd (omega (arith, e));
        seen = λ e. absurd (omega (arith, e));
      };
  settled = λ e. absurd (true≢false (sym e ∙ first_starts sh (λ y. y.settled ≡ false) refl refl));
}

meanings_from : (sh : Shape) (a n : ℕ) → meanings_of (map (start_section sh) (range_with_len a n)) ≡ map (start_meaning sh) (range_with_len a n)
meanings_from sh a zero = refl
meanings_from sh a (suc n) = ap (λ ms. start_meaning sh a ∷ ms) (meanings_from sh (a + 1) n)

pub whole_starts : (sh : Shape) (plan : List (List Op)) (n : ℕ) → IsShape sh → 1 ≤ n → n ≤ 41 → IsState (start_state sh plan n)
whole_starts sh plan n z some few =
    record {
      core = core-starts sh n z some few;
      swept = swept_starts sh n z;
      sections = length-map-range_with_len (start_section sh) 0 sh.sections;
      stands = λ alone. subst (λ (ms : List Meaning). StandsFor (start_state sh plan n).core ms) (sym (meanings_from sh 0 sh.sections)) (stands_starts sh n z);
      told = told-starts sh plan n z some few;
    }
