-- The events of a heap that was closed give one order of the commands of all sections, in which each `new` takes a free cell.
use Rattle.std.proofs.Common.{◌≡◌, ℕ, zero, suc, ◌<◌, ◌≤◌, refl, ap, sym, ◌∙◌, subst, arith, List, [], ◌∷◌, ◌++◌, length, ⊎_elim, ◌+◌, get_or}
use Rattle.std.proofs.lemmas.List.{append-nil, append_cancel_left, length-map, get_or_default}
use Rattle.std.proofs.lemmas.Option.{get_or_from_slice_get, none-some, slice_get_within, slice_get-get_or, same_Some}
use Rattle.mark_core.specs.declared.kinds.Event.{Event}
use Rattle.plain_heap.specs.PlainHeap.{empty_heap, Heap}
use Rattle.plain_heap.specs.Sections.{Sections, section_numbers, executed_of, seasons}
use Rattle.plain_heap.specs.PlainRun.{plain, plan_of, last_heap, last_heaps}
use Rattle.plain_heap.specs.Placement.{position, cells_of, LiesIn}
use Rattle.plain_heap.proofs.Turns.{section-count, at-start, at-last}
use Rattle.play_report.specs.Order.{done_in, heaps_done, IsPlaced}
use Rattle.play_end.proofs.SectionLists.{map-at, map-sections}
use Rattle.gc_table.specs.declared.view.SectionState.{SectionState}
use Rattle.gc_table.specs.Rule.{Leads}
use Rattle.gc_table.specs.Sections.{start_section, start_sections}
use Rattle.gc_table.specs.TableState.{TableState, section_at, start_state, state_after, no_section, meanings_of}
use Rattle.play_end.specs.Done.{IsQuiet, Follow, HasDone}
use Rattle.play_end.proofs.Alike.{alike-same}
use Rattle.play_end.proofs.OneEvent.{season_in, Rests, Steps, one-event}
use Rattle.play_end.proofs.OnTheWay.{way-alone}
use Rattle.play_end.proofs.Orders.{Order}
use Rattle.play_end.proofs.SeasonOrder.{come, order-ends}
use Rattle.play_end.proofs.Standing.{IsPlayed, Stands, last}
use Rattle.play_end.proofs.RestOrder.{stand-still, order-still}
use Rattle.play_end.proofs.StepOrder.{moved, stand-next, order-step}
use Rattle.std.proofs.lemmas.List.FromFn.{get_or-map-range_with_len}
use Rattle.std.specs.Prelude.{IsFalse, Some, slice_get}
use Rattle.mark_core.specs.Numbers.{most_seats}
use Rattle.mark_core.specs.Shapes.{IsShape}
use Rattle.mark_core.specs.declared.kinds.Shape.{Shape}
use Rattle.gc_table.proofs.State.StateStart.{whole_starts}
use Rattle.play_end.specs.Ended.{IsStateOf, IsUsed, AreCellsOfPlaces, DidAll}
use Rattle.play_end.proofs.Doing.{done-start}
use Rattle.std.specs.List.{All}
use Rattle.plain_heap.specs.Paths.{Name, IsReachable}
use Rattle.gc_table.specs.declared.view.Place.{Place}
use Rattle.gc_table.specs.StandsFor.{name_at}
use Rattle.gc_table.proofs.Stands.StandsReached.{objects_have_cells}
use Rattle.gc_table.proofs.Stands.StandsStores.{used-exists}
use Rattle.play_end.proofs.EndListed.{sections-length, section-there, reached-stand, the_words}
use Rattle.play_end.proofs.SoFar.{lies-place}

-- The state in which nothing has happened is that of each script.
pub starts-at : (sh : Shape) (w : ℕ) → w < sh.sections → section_at (start_sections sh) w ≡ start_section sh w
starts-at sh w below = get_or-map-range_with_len (start_section sh) 0 sh.sections w w no_section below (let e : 0 + w ≡ w = omega arith in e)

pub starts : (s : Sections) (sh : Shape) (n : ℕ) → IsShape sh → IsFalse sh.sharing → 1 ≤ n → n ≤ most_seats → sh.fields ≡ s.fields → sh.sections ≡ length (section_numbers s) → IsStateOf s sh.cells [] (start_state sh (plan_of s) n)
starts s sh n shaped alone some few fields sections = record {
  heap = record { whole = whole_starts sh (plan_of s) n shaped some few; owned = alone; cell_count = refl; fields = fields; sections = sections; plan = refl };
  each = λ w inside. subst (HasDone s w 0) (sym (starts-at sh w (omega (arith, inside, sections)))) (done-start s sh w fields);
}

module _ (s : Sections) (f : TableState) (places : List (List ℕ)) (g : IsPlayed s f places) where
  abbrev n : ℕ
  n = length (section_numbers s)

  -- all events
  order-runs : (es : List Event) (y : TableState) (at : ℕ → ℕ) → Leads es y f → ((w : ℕ) → w < n → Stands s f places g y w (at w)) → Order s places (λ w. come s w (at w) (season_in y.sections)) → Order s places (λ w. length (executed_of s w))
  order-runs [] y at l stand ord = order-ends s places at (season_in y.sections) (λ w low. (stand w low).far) (λ w low. (ends w low).1) (λ w low. (ends w low).0) ord
    where
      ends : (w : ℕ) (low : w < n) → (at w ≤ length (executed_of s w)) × IsQuiet s w (at w) (length (executed_of s w))
      ends w low =
          let t = stand w low in
          let none : [] ≡ t.rest =
          append_cancel_left (section_at y.sections w).history [] t.rest (append-nil (section_at y.sections w).history ∙ (ap (λ (x : TableState). (section_at x.sections w).history) l ∙ t.history)) in
          let left = subst (Follow s w (position g.done w) (at w)) (sym none) t.follow in
          (omega (arith, left.0, last s f places g w low), subst (IsQuiet s w (at w)) (last s f places g w low) left.1)
  order-runs (e ∷ es) y at l stand ord =
      ⊎_elim
      (λ (r : Rests y.sections (state_after y e).sections). order-runs es (state_after y e) at l.2 (stand-still s f places g e es y at l stand r) (order-still s f places g e es y at l stand r ord))
      (λ (r : Steps y (state_after y e).sections). order-runs es (state_after y e) (moved s f places g e es y at l stand r) l.2 (stand-next s f places g e es y at l stand r) (order-step s f places g e es y at l stand r ord))
      (one-event y e l.0 (way-alone f g.state.heap.whole g.state.heap.owned (e ∷ es) y l) l.1)

  -- from the start
  pub order-of : (es : List Event) → Leads es (start_state f.core.shape f.plan 1) f → Order s places (λ w. length (executed_of s w))
  order-of es l = order-runs es y (λ w. 0) l start (record { order = []; fits = λ k w e. absurd (none-some w e); counts = λ w low. none w low ∙ (let e : 0 ≡ come s w 0 (season_in y.sections) = omega (arith, zero-come w) in e) })
    where
      y : TableState
      y = start_state f.core.shape f.plan 1

      starts : (w : ℕ) → w < n → section_at y.sections w ≡ start_section f.core.shape w
      starts w low = starts-at f.core.shape w (omega (arith, low, g.state.heap.sections))

      season : season_in y.sections ≡ 0
      season = ap (λ (x : SectionState). x.seasons) (starts 0 (omega (arith, section-count s)))

      zero-come : (w : ℕ) → come s w 0 (season_in y.sections) ≡ 0
      zero-come w = ap (come s w 0) season ∙ none-ended w
        where
          none-ended : (w : ℕ) → come s w 0 0 ≡ 0
          none-ended zero = refl
          none-ended (suc w) = refl

      none : (w : ℕ) → w < n → position (done_in s []) w ≡ 0
      none w low = get_or_from_slice_get (done_in s []) w 0 0 (map-at (λ u. 0) s w low)

      start : (w : ℕ) → w < n → Stands s f places g y w 0
      start w low = record {
        heap = alike-same (section_at y.sections w).meaning.heap (plain s w 0) (ap (λ (x : SectionState). x.meaning.heap) (starts w low) ∙ (ap (λ k. empty_heap k w) g.state.heap.fields ∙ sym (at-start s w)));
        rest = (section_at f.sections w).history;
        history = ap (λ (x : SectionState). x.history ++ (section_at f.sections w).history) (sym (starts w low));
        follow = (g.state.each w low).steps;
        far = omega arith;
      }

-- Where the objects of all sections lie, when each section did all its parts.
last-heap : (s : Sections) (done : List ℕ) (w : ℕ) → DidAll s done → w < length (section_numbers s) → plain s w (position done w) ≡ last_heap s w
last-heap s done w all inside = ap (plain s w) (all w inside) ∙ at-last s w (seasons s) (omega arith)

pub last-done : (s : Sections) (done : List ℕ) → DidAll s done → heaps_done s done ≡ last_heaps s
last-done s done all = map-sections (λ w. plain s w (position done w)) (last_heap s) s (λ w inside. last-heap s done w all inside)

-- an object that is reachable at the end lies in the cell that has its identity
pub lies-in : (s : Sections) (cells : ℕ) (done : List ℕ) (x : TableState) (places : List (List ℕ)) (name : Name) (cell : ℕ) → IsStateOf s cells done x → AreCellsOfPlaces s x places → IsReachable (heaps_done s done) name → LiesIn places name cell
    → IsUsed x.core cell × (name_at (the_words x).identities cell ≡ name)
lies-in s cells done x places name cell o a reach lies =
    let ids : List ℕ = (the_words x).identities in
    let found = objects_have_cells x.core (meanings_of x.sections) o.heap.whole.core (o.heap.whole.stands o.heap.owned) name (reached-stand s cells done x name o reach) in
    let c : ℕ = found.0 in
    let at = o.heap.whole.told.placed.at_place c (used-exists x.core o.heap.whole.core c found.1.0) found.1.0 in
    let section : slice_get x.sections name.section ≡ Some at.0 = ap (λ (m : Name). slice_get x.sections m.section) (sym found.1.1) ∙ at.1 in
    let within : name.section < length (section_numbers s) = omega (arith, slice_get_within x.sections name.section at.0 section, sections-length s cells done x o) in
    let own : at.0 ≡ section_at x.sections name.section = same_Some at.0 (section_at x.sections name.section) (sym section ∙ section-there s cells done x name.section o within) in
    let there : slice_get (section_at x.sections name.section).places name.number ≡ Some at.2.0 = ap (λ (y : SectionState). slice_get y.places name.number) (sym own) ∙ (ap (λ (m : Name). slice_get at.0.places m.number) (sym found.1.1) ∙ at.2.1) in
    let p = lies-place s x places name.section name.number cell a within lies in
    let same : p.0 ≡ at.2.0 = same_Some p.0 at.2.0 (sym p.1 ∙ there) in
    let is : c ≡ cell = sym at.2.2 ∙ (ap (λ (m : Place). m.cell) (sym same) ∙ p.2) in
    (subst (λ (n : ℕ). IsUsed x.core n) is found.1.0, subst (λ (n : ℕ). name_at ids n ≡ name) is found.1.1)

-- all cells of places are cells of the heap
cells-below : (s : Sections) (cells : ℕ) (done : List ℕ) (x : TableState) (places : List (List ℕ)) → IsStateOf s cells done x → AreCellsOfPlaces s x places → All (All (λ cell. cell < cells)) places
cells-below s cells done x places o a w d inside n f short =
    let within : w < length (section_numbers s) = omega (arith, inside, a.sections) in
    let y : SectionState = section_at x.sections w in
    let here : get_or places w d ≡ cells_of places w = get_or_default places w d [] inside in
    let below : n < length (cells_of places w) = subst (λ (l : List ℕ). n < length l) here short in
    let at : slice_get (cells_of places w) n ≡ Some (get_or (cells_of places w) n f) = slice_get-get_or (cells_of places w) n f below in
    let p = lies-place s x places w n (get_or (cells_of places w) n f) a within at in
    let low : p.0.cell < x.core.shape.cells = o.heap.whole.told.placed.below w y (section-there s cells done x w o within) n p.0 p.1 in
    subst (λ (l : List ℕ). get_or l n f < cells) (sym here) (omega (arith, low, p.2, o.heap.cell_count))

-- each object of each section has a legal place
pub placed-legally : (s : Sections) (cells : ℕ) (done : List ℕ) (x : TableState) (places : List (List ℕ)) (es : List Event) → IsStateOf s cells done x → DidAll s done → AreCellsOfPlaces s x places
    → Leads es (start_state x.core.shape x.plan 1) x → IsPlaced s cells places
placed-legally s cells done x places es o all a led = record {
  sections = a.sections;
  each = λ w inside. each w inside (omega (arith, inside, a.sections));
  below = cells-below s cells done x places o a;
  order = order.order;
  is_order = record { whole = order.counts; turns = λ k w z e at next. (order.fits k w at).turn z e next };
  free = λ k w at. (order.fits k w at).free;
  apart = λ m n cell r q i j. sym (holds m cell r i) ∙ holds n cell q j;
}
  where
    each : (w : ℕ) → w < length places → w < length (section_numbers s) → length (cells_of places w) ≡ length (last_heap s w).objects
    each w inside within =
        ap length (a.each w inside) ∙ (length-map (section_at x.sections w).places (λ (p : Place). p.cell) ∙ ((o.each w within).counted ∙ ap (λ (h : Heap). length h.objects) (last-heap s done w all within)))

    order : Order s places (λ w. length (executed_of s w))
    order = order-of s x places (record { cells = cells; done = done; state = o; all = all; places_are = a }) es led

    holds : (name : Name) (cell : ℕ) → IsReachable (last_heaps s) name → LiesIn places name cell → name_at (the_words x).identities cell ≡ name
    holds name cell reach lies = (lies-in s cells done x places name cell o a (subst (λ (hs : List Heap). IsReachable hs name) (sym (last-done s done all)) reach) lies).1
