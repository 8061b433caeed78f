-- The report follows from what a closed heap gives and from what the players had.
use Rattle.std.proofs.Common.{◌≡◌, ℕ, suc, ◌+◌, ◌%◌, ◌<◌, ◌≤◌, refl, ap, sym, ◌∙◌, subst, arith, List, [], ◌∷◌, length, map, get_or, inl, inr, zero, ◌-◌}
use Rattle.std.proofs.lemmas.List.{length-map, get_or-map, get_or_default}
use Rattle.std.proofs.lemmas.List.Sums.{count_by-le-length, sum_by-cons, get_or-le-sum_by}
use Rattle.std.proofs.lemmas.Option.{slice_get_within, get_or_from_slice_get, slice_get-get_or}
use Rattle.std.specs.Prelude.{Some, slice_get, sum_by, slice_index}
use Rattle.std.specs.List.{All}
use Rattle.std.proofs.lemmas.List.Elements.{All-head, All-tail}
use Rattle.mark_core.specs.Bits.{reference_in}
use Rattle.mark_core.specs.Numbers.{reference_bound}
use Rattle.gc_table.specs.Rule.{KnowsFull}
use Rattle.mark_core.specs.declared.kinds.Shape.{Shape}
use Rattle.plain_heap.specs.PlainHeap.{Heap}
use Rattle.plain_heap.specs.Sections.{Sections, counted, section_numbers, executed_of, seasons, end_of, makes_object, Execution, executed_total}
use Rattle.plain_heap.specs.PlainRun.{Printed, last_heap, transcript}
use Rattle.plain_heap.specs.Placement.{IsFilled, cells_of}
use Rattle.play_report.specs.Order.{IsPlaced}
use Rattle.plain_heap.proofs.Turns.{section-count, at-last, at-last-printed, section-at, end-most}
use Rattle.plain_heap.proofs.SectionNames.{sum-most}
use Rattle.plain_heap.proofs.Steps.{objects-most}
use Rattle.play_report.specs.Report.{Outcome, printed_of, outcome_of, survivor_of}
use Rattle.play_report.specs.Text.{outcome, outcomes, placed_count}
use Rattle.play_report.specs.declared.report.Part.{Part}
use Rattle.play_report.specs.declared.report.Report.{Report}
use Rattle.gc_table.specs.declared.seat.HeapSeat.{HeapSeat}
use Rattle.gc_table.specs.declared.words.Words.{Words}
use Rattle.gc_table.specs.Seats.{view_of}
use Rattle.play_end.specs.Done.{HasSaid, HasPlayed, HasStoppedInPart}
use Rattle.play_end.specs.Ended.{AreCommandsInRange, IsHeapOf, ArePositions, CameTo, HaveStopped}
use Rattle.play_end.specs.Closed.{IsClosed, PlayedAll, ArePlacesOf, EndsWell, SeatsStopped, ArePositionsFilled}
use Rattle.play_end.specs.Answers.{places_of, IsReport}
use Rattle.play_end.specs.Reported.{AreSurvivorsPlaced, AreParts, ListsWords, IsShort}
use Rattle.play_end.proofs.EndClosed.{element-at, ends-well, heap-of, of-seat, position-count, positions-are}
use Rattle.mark_core.specs.Layout.{words_of}
use Rattle.mark_core.specs.Seats.{phase_of, phase_number}
use Rattle.mark_core.specs.declared.kinds.Phase.TheVariants.{Full}
use Rattle.gc_table.specs.declared.view.SectionState.{SectionState}
use Rattle.gc_table.specs.TableState.{TableState, no_section, section_at}
use Rattle.play_end.proofs.EndListed.{the_words}
use Rattle.play_end.proofs.EndFilled.{filled-for}

-- What a closed heap gives of a play that stopped in it, since it was full.
-- the phase of a word
phase-five : (n : ℕ) → n ≤ 5 → phase_of n ≡ Full → n ≡ 5
phase-five zero low e = absurd (omega (arith, ap phase_number e))
phase-five (suc zero) low e = absurd (omega (arith, ap phase_number e))
phase-five (suc (suc zero)) low e = absurd (omega (arith, ap phase_number e))
phase-five (suc (suc (suc zero))) low e = absurd (omega (arith, ap phase_number e))
phase-five (suc (suc (suc (suc zero)))) low e = absurd (omega (arith, ap phase_number e))
phase-five (suc (suc (suc (suc (suc n))))) low e = omega (arith, low)

stopped-of : (s : Sections) (cells : ℕ) (sh : Shape) (seats : List HeapSeat) (w : Words) (z : ℕ) (k : IsClosed s cells sh seats w) → SeatsStopped s z seats → HaveStopped s z k.end.state.sections
stopped-of s cells sh seats w z k (inl t) = inl
    (record {
      at = t.at;
      catalogue = of-seat s cells sh seats w k (λ i y. HasStoppedInPart s i z t.at y) 0 (omega arith) t.catalogue;
      warehouses = λ j some below. of-seat s cells sh seats w k (λ i y. HasPlayed s i (z - 1) y) j below (λ seat at. t.warehouses j seat at some below);
    })
stopped-of s cells sh seats w z k (inr t) = inr
    (record {
      season = t.season;
      catalogue = of-seat s cells sh seats w k (λ i y. HasPlayed s i z y) 0 (omega arith) t.catalogue;
      warehouses = λ j some below. of-seat s cells sh seats w k (λ i y. CameTo s i z y) j below (λ seat at. t.warehouses j seat at some below);
    })

-- a section's position is among its commands
came-few : (s : Sections) (j z : ℕ) (y : SectionState) → CameTo s j z y → y.position ≤ length (executed_of s j)
came-few s j z y (inl p) = omega (arith, p.position, end-most s j z)
came-few s j z y (inr (n, p)) = omega (arith, p.position, p.before, end-most s j z)

stopped-few : (s : Sections) (z : ℕ) (x : TableState) (j : ℕ) → HaveStopped s z x.sections → j < length (section_numbers s) → (section_at x.sections j).position ≤ length (executed_of s j)
stopped-few s z x zero (inl t) below = omega (arith, t.catalogue.position, t.catalogue.before, end-most s 0 z)
stopped-few s z x (suc j) (inl t) below = omega (arith, (t.warehouses (suc j) (omega arith) below).position, end-most s (suc j) (z - 1))
stopped-few s z x zero (inr t) below = omega (arith, t.catalogue.position, end-most s 0 z)
stopped-few s z x (suc j) (inr t) below = came-few s (suc j) z (section_at x.sections (suc j)) (t.warehouses (suc j) (omega arith) below)

-- the commands of a section are among those of all sections
executed-few : (s : Sections) (j : ℕ) → j < length (section_numbers s) → length (executed_of s j) ≤ executed_total s
executed-few s j below =
    let each = get_or-le-sum_by (λ w. length (executed_of s w)) (section_numbers s) j 0 below in
    omega (arith, each, ap (λ (n : ℕ). length (executed_of s n)) (section-at s j 0 below))

-- a play that stopped in a full heap
pub ends-full : (s : Sections) (cells : ℕ) (sh : Shape) (seats : List HeapSeat) (w : Words) (z : ℕ) → IsClosed s cells sh seats w → SeatsStopped s z seats → w.phase ≡ Full → ArePositionsFilled s cells w
ends-full s cells sh seats w z k stopped full = record { count = p.sections; few = few; filled = filled-for s cells z w.named w.positions.items x h (stopped-of s cells sh seats w z k stopped) p five named }
  where
    x : TableState
    x = k.end.state

    h : IsHeapOf s cells x
    h = heap-of s cells sh seats w k

    five : (the_words x).phase ≡ 5
    five = phase-five (the_words x).phase h.whole.core.formed.phase (ap (λ (y : Shape). phase_of (words_of y x.core.words).phase) k.end.shape ∙ (sym k.end.words.phase ∙ full))

    named : w.named ≡ reference_in (the_words x).named
    named = k.end.words.named ∙ ap (λ (y : Shape). reference_in (words_of y x.core.words).named) (sym k.end.shape)

    p : ArePositions s x w.positions.items
    p = record {
      sections = ap length (positions-are s cells sh seats w k) ∙ position-count s cells x h;
      each = λ j inside.
          let below : j < length x.sections = omega (arith, inside, ap length (positions-are s cells sh seats w k), position-count s cells x h, sections-count) in
          ap (λ (l : List ℕ). slice_index l j) (positions-are s cells sh seats w k) ∙ h.whole.told.positioned j (section_at x.sections j) (slice_get-get_or x.sections j no_section below);
    }
      where
        sections-count : length x.sections ≡ length (section_numbers s)
        sections-count = h.whole.sections ∙ h.sections

    few : All (λ q. q ≤ executed_total s) w.positions.items
    few j d inside =
        let below : j < length (section_numbers s) = omega (arith, inside, p.sections) in
        omega (arith, get_or_default w.positions.items j d 0 inside, p.each j inside, stopped-few s z x j (stopped-of s cells sh seats w z k stopped) below, executed-few s j below)

-- what a section said, dropped and placed
abbrev said_of : Part → List Printed
said_of p = map printed_of p.said.items

abbrev placed_of : Part → List ℕ
placed_of p = p.places.items

abbrev dropped_of : Part → ℕ
dropped_of p = p.dropped

-- the parts of a report, if each is how its section ends
outcomes-are : (s : Sections) (places : List (List ℕ)) (n : ℕ) (parts : List Part)
    → ((i : ℕ) → i < length parts → get_or (map said_of parts) i [] ≡ transcript s (n + i))
    → ((i : ℕ) → i < length parts → get_or (map dropped_of parts) i 0 ≡ (last_heap s (n + i)).dropped)
    → ((i : ℕ) → i < length parts → get_or (map placed_of parts) i [] ≡ cells_of places (n + i))
    → map outcome_of parts ≡ map (outcome s places) (counted n (length parts))
outcomes-are s places n [] said dropped placed = refl
outcomes-are s places n (p ∷ parts) said dropped placed =
    ap (λ (o : Outcome). o ∷ map outcome_of parts)
    (first (said_of p) (transcript s n) p.dropped (last_heap s n).dropped (placed_of p) (cells_of places n)
    (said 0 (omega arith) ∙ ap (transcript s) here) (dropped 0 (omega arith) ∙ ap (λ (w : ℕ). (last_heap s w).dropped) here) (placed 0 (omega arith) ∙ ap (cells_of places) here))
    ∙ ap (λ (os : List Outcome). outcome s places n ∷ os)
    (outcomes-are s places (n + 1) parts (λ i inside. said (suc i) (omega arith) ∙ ap (transcript s) (later i))
    (λ i inside. dropped (suc i) (omega arith) ∙ ap (λ (w : ℕ). (last_heap s w).dropped) (later i))
    (λ i inside. placed (suc i) (omega arith) ∙ ap (cells_of places) (later i)))
  where
    here : n + 0 ≡ n
    here = omega arith

    later : (i : ℕ) → n + suc i ≡ n + 1 + i
    later i = omega arith

    first : (a b : List Printed) (c d : ℕ) (e f : List ℕ) → a ≡ b → c ≡ d → e ≡ f
        → ◌≡◌ {A = Outcome} (record { said = a; dropped = c; places = e }) (record { said = b; dropped = d; places = f })
    first a b c d e f x y z = cc

-- the objects of all sections are at most as many as the commands
placed-sum : (s : Sections) (places : List (List ℕ)) (ws : List ℕ) → sum_by (λ o. length o.places) (map (outcome s places) ws) ≡ sum_by (λ w. length (cells_of places w)) ws
placed-sum s places [] = refl
placed-sum s places (w ∷ ws) =
    omega (arith, sum_by-cons (λ (o : Outcome). length o.places) (outcome s places w) (map (outcome s places) ws), sum_by-cons (λ (w : ℕ). length (cells_of places w)) w ws, placed-sum s places ws)

placed-few : (s : Sections) (places : List (List ℕ)) → IsShort s → ((w : ℕ) → w < length (section_numbers s) → length (cells_of places w) ≡ length (last_heap s w).objects)
    → placed_count (outcomes s places) ≤ 2000000
placed-few s places small each =
    omega (
      arith,
      placed-sum s places (section_numbers s),
      sum-most (λ w. length (cells_of places w)) (λ w. length (executed_of s w)) 0 (suc (length s.warehouses)) (λ w above below. made w (omega (arith, section-count s))),
      small,
    )
  where
    made : (w : ℕ) → w < length (section_numbers s) → length (cells_of places w) ≤ length (executed_of s w)
    made w inside = omega (
      arith,
      each w inside,
      ap (λ (h : Heap). length h.objects) (at-last s w (seasons s) (omega arith)),
      objects-most s w (end_of s w (seasons s)),
      count_by-le-length (λ (e : Execution). makes_object e.op) (executed_of s w),
    )

-- what the player of section k had, by its place in the report
part-had : (s : Sections) (seats : List HeapSeat) (r : Report) (k : ℕ) → AreParts s seats r.parts.items → length (section_numbers s) ≤ length seats → k < length r.parts.items
    → (p : Part) × (seat : HeapSeat) × (slice_get r.parts.items k ≡ Some p) × (slice_get seats k ≡ Some seat) × HasSaid s k (end_of s k (seasons s)) (said_of p) (dropped_of p) (placed_of p) (view_of seat).own
part-had s seats r k a seated below =
    let part = element-at r.parts.items k below in
    let seat = element-at seats k (omega (arith, below, a.sections, seated)) in
    (part.0, seat.0, part.1, seat.1, a.each k part.0 seat.0 part.1 seat.1)

-- a field of part k
part-field : {X : Type 0} (f : Part → X) (parts : List Part) (k : ℕ) (p : Part) (d : X) → slice_get parts k ≡ Some p → get_or (map f parts) k d ≡ f p
part-field f parts k p d at = get_or-map f parts k p d (slice_get_within parts k p at) ∙ ap f (get_or_from_slice_get parts k p p at)

-- the places in a report are those of the seats
reported-places : (s : Sections) (seats : List HeapSeat) (r : Report) → AreParts s seats r.parts.items → length (section_numbers s) ≤ length seats → ArePlacesOf s seats (places_of r)
reported-places s seats r parts seated = record {
  sections = length-map r.parts.items placed_of ∙ parts.sections;
  each = λ i seat at below.
      let had = part-had s seats r i parts seated (omega (arith, below, parts.sections)) in
      part-field placed_of r.parts.items i had.0 [] had.2 ∙ (parts.each i had.0 seat had.2 at).cells_are;
}

-- a survivor lies where its place says
pub are-held : (s : Sections) (cells : ℕ) (sh : Shape) (seats : List HeapSeat) (w : Words) (r : Report) → AreCommandsInRange s → IsClosed s cells sh seats w → PlayedAll s seats → AreParts s seats r.parts.items → AreSurvivorsPlaced s w r
are-held s cells sh seats w r range k played parts =
    λ name cell reached lies. (ends-well s cells sh seats w range k played).held (places_of r) name cell (reported-places s seats r parts k.made.seated) reached lies

pub reports : (s : Sections) (cells : ℕ) (sh : Shape) (seats : List HeapSeat) (w : Words) (r : Report) → IsShort s → AreCommandsInRange s → IsClosed s cells sh seats w → PlayedAll s seats → AreParts s seats r.parts.items → ListsWords cells w r → IsReport s cells r
reports s cells sh seats w r short range k played parts lists = record {
  outcomes = outcomes_are;
  survivors = well.survivors (map survivor_of r.survivors.items) lists;
  placed = placed;
  few = subst (λ (os : List Outcome). placed_count os ≤ 2000000) (sym outcomes_are) (placed-few s (places_of r) short (λ i below. placed.each i (omega (arith, below, placed.sections))));
}
  where
    well : EndsWell s cells seats w
    well = ends-well s cells sh seats w range k played

    inside : (i : ℕ) → i < length r.parts.items → i < length (section_numbers s)
    inside i below = omega (arith, below, parts.sections)

    are_places : ArePlacesOf s seats (places_of r)
    are_places = reported-places s seats r parts k.made.seated

    placed : IsPlaced s cells (places_of r)
    placed = well.placed (places_of r) are_places

    at : (i : ℕ) → 0 + i ≡ i
    at i = omega arith

    said_is : (i : ℕ) → i < length r.parts.items → get_or (map said_of r.parts.items) i [] ≡ transcript s (0 + i)
    said_is i below =
        let had = part-had s seats r i parts k.made.seated below in
        part-field said_of r.parts.items i had.0 [] had.2 ∙ (had.4.said_is ∙ (at-last-printed s i (seasons s) (omega arith) ∙ ap (transcript s) (sym (at i))))

    dropped_is : (i : ℕ) → i < length r.parts.items → get_or (map dropped_of r.parts.items) i 0 ≡ (last_heap s (0 + i)).dropped
    dropped_is i below =
        let had = part-had s seats r i parts k.made.seated below in
        part-field dropped_of r.parts.items i had.0 0 had.2 ∙ (had.4.dropped_is ∙ (ap (λ (h : Heap). h.dropped) (at-last s i (seasons s) (omega arith)) ∙ ap (λ (v : ℕ). (last_heap s v).dropped) (sym (at i))))

    outcomes_are : map outcome_of r.parts.items ≡ outcomes s (places_of r)
    outcomes_are =
        outcomes-are s (places_of r) 0 r.parts.items said_is dropped_is (λ i below. ap (cells_of (places_of r)) (sym (at i)))
        ∙ ap (λ (n : ℕ). map (outcome s (places_of r)) (counted 0 n)) (let e : length r.parts.items ≡ suc (length s.warehouses) = omega (arith, parts.sections, section-count s) in e)

-- numbers that are small are as they are read
pub small-words : (xs : List ℕ) → All (λ x. x ≤ 2000000) xs → map reference_in xs ≡ xs
small-words [] small = refl
small-words (x ∷ xs) small =
    ap (λ (n : ℕ). n ∷ map reference_in xs) (let e : x % reference_bound ≡ x = omega (arith, All-head (λ (y : ℕ). y ≤ 2000000) x xs small) in e)
    ∙ ap (λ (l : List ℕ). x ∷ l) (small-words xs (All-tail (λ (y : ℕ). y ≤ 2000000) x xs small))

-- if a play stopped, its positions are filled
pub stops : (s : Sections) (cells : ℕ) (sh : Shape) (seats : List HeapSeat) (w : Words) (done : List ℕ) → IsShort s → IsClosed s cells sh seats w → (z : ℕ) × SeatsStopped s z seats
    → (i : ℕ) × (seat : HeapSeat) × (slice_get seats i ≡ Some seat) × KnowsFull (view_of seat) → done ≡ map reference_in w.positions.items → IsFilled s cells w.named done
stops s cells sh seats w done short k (z, stopped) (i, seat, at, knows) is =
    let full : ArePositionsFilled s cells w = ends-full s cells sh seats w z k stopped (k.end.full i seat at knows) in
    let small : All (λ x. x ≤ 2000000) w.positions.items = λ j d below. omega (arith, full.few j d below, short) in
    subst (λ (l : List ℕ). IsFilled s cells w.named l) (sym (is ∙ small-words w.positions.items small)) full.filled
