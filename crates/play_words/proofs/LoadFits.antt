-- A play of few sections has few survivors, and prints no more lines than it executes commands.
use Rattle.std.proofs.Common.{◌≡◌, ◌≤◌, ◌<◌, inl, inr, ℕ, zero, suc, ◌+◌, ◌*◌, List, [], ◌∷◌, length, get_or, map, refl, sym, ap, ◌∙◌, arith, length-append, sum_by, ◌++◌, append_assoc, codes}
use Rattle.std.proofs.lemmas.List.{get_or-map, length-map}
use Rattle.std.proofs.lemmas.List.Elements.{Contains-get_or, All-head, All-tail}
use Rattle.std.proofs.lemmas.List.Folds.{fold-map}
use Rattle.std.proofs.lemmas.List.Sums.{get_or-le-sum_by, sum_by-le-sum_by}
use Rattle.std.specs.Prelude.{Option, Some, None, All, slice_get, Ok}
use Rattle.plain_heap.specs.declared.operation.Line.{Line}
use Rattle.plain_heap.specs.PlainHeap.{Heap, empty_heap}
use Rattle.plain_heap.specs.PlainStep.{heap_after, line_of}
use Rattle.plain_heap.specs.Sections.{Execution, Sections, parts_of, joined, executed_of, executed_total, section_numbers}
use Rattle.plain_heap.specs.PlainRun.{Printed, heap_from, ops_of, with_label, printed_from, printed_in_parts, heap_after_parts, seen_catalogue, last_heap, last_heaps, transcript}
use Rattle.plain_heap.specs.Paths.{Name, IsReachable, IsOrdered, ComesBefore, name_of, Survivor}
use Rattle.plain_heap.specs.Placement.{cells_of}
use Rattle.play_report.specs.Report.{Outcome, outcome_of, survivor_of}
use Rattle.play_report.specs.Text.{outcome, outcomes, placed_count, printed_count, named_text, brief_text, load_text, total_value, IsLoadText}
use Rattle.play_report.specs.declared.report.Report.{Report}
use Rattle.play_end.specs.Answers.{IsReport, places_of}
use Rattle.plain_heap.proofs.Turns.{section-at, section-count}
use Rattle.plain_heap.proofs.Steps.{section_from}
use Rattle.std.specs.List.{fold}
use Rattle.play_report.specs.Order.{IsPlaced}
use Rattle.gc_script.specs.Script.{Script}
use Rattle.command_words.specs.Words.{Options}
use Rattle.play_words.specs.Loading.{LoadsTo}

labelled : (label : List ℕ) (line : Option Line) (printed : List Printed) → length (with_label label line printed) ≤ length printed + 1
labelled label None printed = omega arith
labelled label (Some line) printed = omega arith

part_short : (catalogue : Option Heap) (heap : Heap) (es : List Execution) → length (printed_from catalogue heap es) ≤ length es
part_short catalogue heap [] = omega arith
part_short catalogue heap (e ∷ es) =
    let rest = part_short catalogue (heap_after heap catalogue e.op) es in
    omega (arith, rest, labelled e.label (line_of heap catalogue e.op) (printed_from catalogue (heap_after heap catalogue e.op) es))

parts_short : (s : Sections) (w z : ℕ) (heap : Heap) (parts : List (List Execution)) → length (printed_in_parts s w z heap parts) ≤ length (joined parts)
parts_short s w z heap [] = omega arith
parts_short s w z heap (part ∷ parts) =
    let here = part_short (seen_catalogue s w z) heap part in
    let rest = parts_short s w (z + 1) (heap_from (seen_catalogue s w z) heap (ops_of part)) parts in
    omega (
      arith,
      here,
      rest,
      length-append (printed_from (seen_catalogue s w z) heap part) (printed_in_parts s w (z + 1) (heap_from (seen_catalogue s w z) heap (ops_of part)) parts),
      length-append part (joined parts),
    )

-- how many lines the outcomes hold
pub lines_of : (s : Sections) (places : List (List ℕ)) → printed_count (outcomes s places) ≡ sum_by (λ w. length (transcript s w)) (section_numbers s)
lines_of s places = fold-map (λ n (o : Outcome). n + length o.said) (outcome s places) 0 (section_numbers s)

-- how many objects have a cell
pub cells_counted : (s : Sections) (places : List (List ℕ)) → placed_count (outcomes s places) ≡ sum_by (λ w. length (cells_of places w)) (section_numbers s)
cells_counted s places = fold-map (λ n (o : Outcome). n + length o.places) (outcome s places) 0 (section_numbers s)

-- the lines of a report fit if its commands do
pub lines_fit : (s : Sections) (cells limit commands : ℕ) (r : Report) → IsReport s cells r → commands ≡ executed_total s → commands < limit → printed_count (map outcome_of r.parts.items) < limit
lines_fit s cells limit commands r report count few =
    let fewer : sum_by (λ w. length (transcript s w)) (section_numbers s) ≤ executed_total s =
    sum_by-le-sum_by (λ w. length (transcript s w)) (λ w. length (executed_of s w)) (section_numbers s) (λ w. parts_short s w 1 (empty_heap s.fields w) (parts_of s w)) in
    omega (arith, fewer, count, few, ap printed_count report.outcomes ∙ lines_of s (places_of r))

section_is : (s : Sections) (w z : ℕ) (heap : Heap) (parts : List (List Execution)) → (heap_after_parts s w z heap parts).section ≡ heap.section
section_is s w z heap [] = refl
section_is s w z heap (part ∷ parts) =
    section_is s w (z + 1) (heap_from (seen_catalogue s w z) heap (ops_of part)) parts ∙ section_from (seen_catalogue s w z) heap (ops_of part)

-- a name of a small section and with a small number
abbrev IsSmall : Name → Type 0
IsSmall name = (name.section ≤ 32) × (name.number < 2000000)

-- all small names by one number
abbrev key : Name → ℕ
key name = name.section * 2000000 + name.number

key_rises : (a b : Name) → IsSmall a → ComesBefore a b → key a + 1 ≤ key b
key_rises a b small (inl less) = omega (arith, small.1, less)
key_rises a b small (inr same) = omega (arith, same.0, same.1)

few_from : (from : ℕ) (names : List Name) → from ≤ 66000000 → IsOrdered names → All IsSmall names → All (λ name. from ≤ key name) names → length names + from ≤ 66000000
few_from from [] low ordered small above = omega arith
few_from from (name ∷ names) low ordered small above =
    let first : IsSmall name = small 0 name (omega arith) in
    let here : from ≤ key name = above 0 name (omega arith) in
    let rest : length names + (key name + 1) ≤ 66000000 =
    few_from (key name + 1) names (omega (arith, first.0, first.1))
    (λ i j d l m. ordered (suc i) (suc j) d (omega arith) (omega arith))
    (λ k d l. small (suc k) d (omega arith))
    (λ k d l. key_rises name (get_or names k d) first (ordered 0 (suc k) d (omega arith) (omega arith))) in
    omega (arith, here, rest)

get_within : {X : Type 0} (xs : List X) (n : ℕ) (x : X) → slice_get xs n ≡ Some x → n < length xs
get_within [] n x e = cc
get_within (y ∷ ys) zero x e = omega arith
get_within (y ∷ ys) (suc n) x e = omega (arith, get_within ys n x e)

module _ (s : Sections) (cells : ℕ) (r : Report) (report : IsReport s cells r) (few : length s.warehouses ≤ 32) where
  objects_few : (w : ℕ) → w < length (section_numbers s) → length (last_heap s w).objects ≤ 2000000
  objects_few w inside =
      let count : length (cells_of (places_of r) w) ≡ length (last_heap s w).objects = report.placed.each w (omega (arith, inside, report.placed.sections)) in
      let at : get_or (section_numbers s) w 0 ≡ w = section-at s w 0 inside in
      let part : length (cells_of (places_of r) (get_or (section_numbers s) w 0)) ≤ sum_by (λ v. length (cells_of (places_of r) v)) (section_numbers s) =
      get_or-le-sum_by (λ v. length (cells_of (places_of r) v)) (section_numbers s) w 0 inside in
      omega (arith, count, ap (λ v. length (cells_of (places_of r) v)) at, part, report.few, ap placed_count report.outcomes ∙ cells_counted s (places_of r))

  is_small : (name : Name) → IsReachable (last_heaps s) name → IsSmall name
  is_small name ((object, (heap, (i, inside, at), section, there)), path, ends) =
      let within : i < length (section_numbers s) = omega (arith, inside, length-map (section_numbers s) (last_heap s)) in
      let same : heap ≡ last_heap s i =
      sym at ∙ get_or-map (last_heap s) (section_numbers s) i 0 heap within ∙ ap (last_heap s) (section-at s i 0 within) in
      let number : name.number < length heap.objects = get_within heap.objects name.number object there in (
        omega (
          arith,
          within,
          section-count s,
          few,
          sym section ∙ ap (λ (h : Heap). h.section) same ∙ section_is s i 1 (empty_heap s.fields i) (parts_of s i),
        ),
        omega (arith, number, ap (λ (h : Heap). length h.objects) same, objects_few i within),
      )

  pub few_survivors : length r.survivors.items ≤ 66000000
  few_survivors =
      let names : List Name = map name_of (map survivor_of r.survivors.items) in
      let many : length names + 0 ≤ 66000000 =
      few_from 0 names (omega arith) report.survivors.reachable.ordered
      (λ k d l. is_small (get_or names k d) ((report.survivors.reachable.each (get_or names k d)).0 (Contains-get_or names k d l)))
      (λ k d l. omega arith) in
      omega (arith, many, length-map (map survivor_of r.survivors.items) name_of, length-map r.survivors.items survivor_of)

-- A report in five lines.
sum_same : {X : Type 0} (f g : X → ℕ) (a : ℕ) (xs : List X) → All (λ x. f x ≡ g x) xs → fold (λ a x. a + f x) a xs ≡ fold (λ a x. a + g x) a xs
sum_same f g a [] h = refl
sum_same f g a (x ∷ xs) h =
    ap (λ (n : ℕ). fold (λ b y. b + f y) (a + n) xs) (All-head (λ y. f y ≡ g y) x xs h) ∙ sum_same f g (a + g x) xs (All-tail (λ y. f y ≡ g y) x xs h)

-- each object that was made has its cell
objects_counted : (s : Sections) (cells : ℕ) (places : List (List ℕ)) → IsPlaced s cells places → sum_by (λ w. length (last_heap s w).objects) (section_numbers s) ≡ placed_count (outcomes s places)
objects_counted s cells places placed =
    sym (sum_same (λ w. length (cells_of places w)) (λ w. length (last_heap s w).objects) 0 (section_numbers s) each) ∙ sym (cells_counted s places)
  where
    each : All (λ w. length (cells_of places w) ≡ length (last_heap s w).objects) (section_numbers s)
    each k d inside = placed.each (get_or (section_numbers s) k d) (omega (arith, section-at s k d inside, inside, placed.sections))

-- five pieces, grouped in two ways
grouped : (a b c d e : List ℕ) → a ++ ((b ++ c) ++ (d ++ e)) ≡ a ++ b ++ c ++ d ++ e
grouped a b c d e =
    sym (append_assoc a (b ++ c) (d ++ e))
    ∙ ap (λ (l : List ℕ). l ++ (d ++ e)) (sym (append_assoc a b c))
    ∙ sym (append_assoc (a ++ b ++ c) d e)

five_lines : (s : Sections) (cells : ℕ) (places : List (List ℕ)) (survivors : List Survivor) → IsPlaced s cells places
    → brief_text (executed_total s) (outcomes s places) survivors ≡ load_text s survivors
five_lines s cells places survivors placed =
    grouped (named_text (codes "commands ") (executed_total s)) (named_text (codes "objects ") (placed_count (outcomes s places))) (named_text (codes "lines ") (printed_count (outcomes s places)))
    (named_text (codes "survivors ") (length survivors)) (named_text (codes "total ") (total_value survivors))
    ∙ ap
    (λ (n : ℕ). named_text (codes "commands ") (executed_total s) ++ named_text (codes "objects ") n ++ named_text (codes "lines ") (printed_count (outcomes s places))
    ++ named_text (codes "survivors ") (length survivors) ++ named_text (codes "total ") (total_value survivors)) (sym (objects_counted s cells places placed))
    ∙ ap
    (λ (n : ℕ). named_text (codes "commands ") (executed_total s) ++ named_text (codes "objects ") (sum_by (λ w. length (last_heap s w).objects) (section_numbers s)) ++ named_text (codes "lines ") n
    ++ named_text (codes "survivors ") (length survivors) ++ named_text (codes "total ") (total_value survivors)) (lines_of s places)

-- the five lines of a report are those of its script
pub load_text_of : (s : Sections) (cells commands : ℕ) (r : Report) → IsReport s cells r → commands ≡ executed_total s
    → IsLoadText s (brief_text commands (map outcome_of r.parts.items) (map survivor_of r.survivors.items))
load_text_of s cells commands r report count = record {
  survivors = map survivor_of r.survivors.items;
  reached = report.survivors;
  written = ap (λ (n : ℕ). brief_text n (map outcome_of r.parts.items) (map survivor_of r.survivors.items)) count
      ∙ ap (λ (os : List Outcome). brief_text (executed_total s) os (map survivor_of r.survivors.items)) report.outcomes
      ∙ five_lines s cells (places_of r) (map survivor_of r.survivors.items) report.placed;
}

-- the five lines of a report answer `load`
pub five_answer : (o : Options) (s : Script) (commands : ℕ) (r : Report) → IsReport s.sections o.cells r → commands ≡ executed_total s.sections
    → LoadsTo o (Ok s) 0 (brief_text commands (map outcome_of r.parts.items) (map survivor_of r.survivors.items))
five_answer o s commands r report count = inl (refl, load_text_of s.sections o.cells commands r report count)
