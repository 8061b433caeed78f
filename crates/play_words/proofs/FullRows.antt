-- Scripts for which 64 cells are too few, with their whole output.
use Rattle.std.proofs.Common.{◌≡◌, ◌<◌, ◌≤◌, ℕ, zero, suc, List, [], ◌∷◌, refl, codes, map, arith}
use Rattle.std.specs.Prelude.{slice_index_or}
use Rattle.std.specs.Fmt.{digits}
use Rattle.plain_heap.specs.declared.operation.Op.TheVariants as ops
use Rattle.plain_heap.specs.PlainHeap.{Heap}
use Rattle.plain_heap.specs.Sections.{Sections, Execution, section_numbers, end_of, part_of}
use Rattle.plain_heap.specs.PlainRun.{plain}
use Rattle.plain_heap.specs.Paths.{name_of}
use Rattle.plain_heap.specs.Placement.{position}
use Rattle.plain_heap.proofs.Found.{Witness, survivors_of, found}
use Rattle.plain_heap.proofs.Search.{searched}
use Rattle.gc_script.specs.Script.{script}
use Rattle.play_report.specs.Text.{IsFullText, named_text, pair_text}
use Rattle.play_words.proofs.LoadRows.{sections_in}

abbrev heaps_of : Sections → List ℕ → List Heap
heaps_of s done = map (λ w. plain s w (position done w)) (section_numbers s)

abbrev witnesses_of : Sections → List ℕ → List Witness
witnesses_of s done = searched (heaps_of s done) 64

abbrev next_of : Sections → ℕ → ℕ → ℕ → Execution
next_of s w z place = slice_index_or (part_of s w z) place (record { line = 0; label = []; op = ops.Collect })

-- a chain of sixty-four objects, and one more is wanted
abbrev sections_1 : Sections
sections_1 = sections_in (script (codes "gcscript 1\nwarehouse\nnil x\nrepeat 65\nnew y 1\nset y 0 x\nlet x y\nend\nsum s x 0 100\n"))

turn_1 : (w : ℕ) → 0 < w → w < 2 → (end_of sections_1 w 0 ≤ position (0 ∷ 193 ∷ []) w) × (position (0 ∷ 193 ∷ []) w ≤ end_of sections_1 w 1)
turn_1 zero some small = absurd (no some)
  where
    no : 0 < 0 → ⊥
    no h = grind arith
turn_1 (suc zero) some small = (omega arith, omega arith)
turn_1 (suc (suc w)) some small = absurd (no small)
  where
    no : suc (suc w) < 2 → ⊥
    no h = grind arith

full_1 : IsFullText sections_1 64 (codes "full section 1\nposition 0 0\nposition 1 193\n")
unfolding digits named_text pair_text
full_1 = record {
  section = 1;
  positions = 0 ∷ 193 ∷ [];
  filled = record {
    sections = refl;
    is_section = omega arith;
    names = map name_of (survivors_of (witnesses_of sections_1 (0 ∷ 193 ∷ [])));
    reachable = (found (heaps_of sections_1 (0 ∷ 193 ∷ [])) (witnesses_of sections_1 (0 ∷ 193 ∷ [])) refl).reachable;
    full = refl;
    season = 1;
    next = next_of sections_1 1 1 193;
    is_next = record { season = omega arith; place = 193; before = refl; there = refl };
    is_new = tt;
    turn = (refl, turn_1);
  };
  written = refl;
}

-- a warehouse holds what the catalogue dropped in the season before
abbrev sections_2 : Sections
sections_2 = sections_in (script (codes "gcscript 3\nfields 2\ncatalogue\nnil x\nrepeat 40\nnew y 1\nset y 0 x\nlet x y\nend\nseason\nnil x\nnil y\nnil x\nrepeat 40\nnew y 1\nset y 0 x\nlet x y\nend\nwarehouse\ncat k x\n"))

turn_2 : (w : ℕ) → 0 < w → w < 2 → position (196 ∷ 1 ∷ []) w ≡ end_of sections_2 w 1
turn_2 zero some small = absurd (no some)
  where
    no : 0 < 0 → ⊥
    no h = grind arith
turn_2 (suc zero) some small = refl
turn_2 (suc (suc w)) some small = absurd (no small)
  where
    no : suc (suc w) < 2 → ⊥
    no h = grind arith

full_2 : IsFullText sections_2 64 (codes "full section 0\nposition 0 196\nposition 1 1\n")
unfolding digits named_text pair_text
full_2 = record {
  section = 0;
  positions = 196 ∷ 1 ∷ [];
  filled = record {
    sections = refl;
    is_section = omega arith;
    names = map name_of (survivors_of (witnesses_of sections_2 (196 ∷ 1 ∷ [])));
    reachable = (found (heaps_of sections_2 (196 ∷ 1 ∷ [])) (witnesses_of sections_2 (196 ∷ 1 ∷ [])) refl).reachable;
    full = refl;
    season = 2;
    next = next_of sections_2 0 2 75;
    is_next = record { season = omega arith; place = 75; before = refl; there = refl };
    is_new = tt;
    turn = (omega arith, omega arith, turn_2);
  };
  written = refl;
}
