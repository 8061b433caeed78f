-- Each cell that can be reached has a survivor, and the cell is its place in the report.
use Rattle.std.proofs.Common.{◌≡◌, ◌⊎◌, inl, inr, ℕ, ◌<◌, ◌≤◌, ap, sym, ◌∙◌, subst, arith, List, [], length, map, get_or}
use Rattle.std.specs.Prelude.{Option, Some, option_map, slice_get, slice_index}
use Rattle.std.proofs.lemmas.Bool.{cases_lt}
use Rattle.std.proofs.lemmas.List.{length-map}
use Rattle.std.proofs.lemmas.Option.{slice_get-map, slice_get_within, slice_get-get_or, get_or_from_slice_get}
use Rattle.mark_core.specs.declared.kinds.Shape.{Shape}
use Rattle.mark_core.specs.Closed.{IsReachableIn}
use Rattle.plain_heap.specs.PlainHeap.{Heap}
use Rattle.plain_heap.specs.Sections.{Sections, section_numbers}
use Rattle.plain_heap.specs.PlainRun.{last_heap, last_heaps}
use Rattle.plain_heap.specs.Paths.{Name, ComesBefore, IsReachable, Survivor as Listed, name_of}
use Rattle.plain_heap.specs.Placement.{cells_of}
use Rattle.play_report.specs.Report.{survivor_of}
use Rattle.play_report.specs.declared.report.Part.{Part}
use Rattle.play_report.specs.declared.report.Report.{Report}
use Rattle.play_report.specs.declared.report.Survivor.{Survivor}
use Rattle.play_end.specs.Answers.{places_of}
use Rattle.gc_table.specs.declared.view.Meaning.{Meaning}
use Rattle.gc_table.specs.declared.view.Place.{Place}
use Rattle.gc_table.specs.declared.view.SectionState.{SectionState}
use Rattle.gc_table.specs.declared.words.Words.{Words}
use Rattle.gc_table.specs.Laws.{IsCellOfObject}
use Rattle.gc_table.specs.StandsFor.{name_at}
use Rattle.gc_table.specs.TableState.{TableState, meanings_of, section_at}
use Rattle.gc_table.proofs.Stands.StandsReached.{objects_have_cells, cells_have_objects}
use Rattle.gc_table.proofs.Stands.StandsStores.{used-exists, reachable-used}
use Rattle.play_end.specs.Ended.{IsStateOf, IsUsed, AreCellsOfPlaces}
use Rattle.play_end.proofs.EndClosed.{element-at, end-count, end-position, end-positions, own-section, played-state}
use Rattle.play_end.proofs.EndFilled.{halves}
use Rattle.play_end.proofs.EndListed.{reached-run, reached-stand, the_words}
use Rattle.play_end.proofs.Deciding.{map-from, map-to}
use Rattle.play_end.proofs.PlaceOrder.{last-done, lies-in}
use Rattle.play_end.proofs.SectionLists.{got, contains_got, reached-object}
use Rattle.play_words.specs.EndOfPlay.{IsEndOf}
use Rattle.play_words.specs.DumpTelling.{IsSurvivor, cell_of_survivor, ArePlaced}
use Rattle.play_words.proofs.FinalHeap.Loops.{image-at, few-images}

-- the name of a survivor
abbrev pub named : Survivor → Name
named y = name_of (survivor_of y)

-- the state in which the play ended
abbrev pub end_state : (s : Sections) (r : Report) (w : Words) → IsEndOf s r w → TableState
end_state s r w e = e.closed.end.state

module _ (s : Sections) (r : Report) (w : Words) (e : IsEndOf s r w) where
  pub stands : IsStateOf s e.shape.cells (end-positions s) (end_state s r w e)
  stands = played-state s e.shape.cells e.shape e.seats w e.closed e.played

  -- the cells of each section's objects are those of its report
  pub are-places : AreCellsOfPlaces s (end_state s r w e) (places_of r)
  are-places = record { sections = length-map r.parts.items (λ (p : Part). p.places.items) ∙ e.parts.sections; each = each }
    where
      each : (i : ℕ) → i < length (places_of r) → cells_of (places_of r) i ≡ map (λ (p : Place). p.cell) (section_at (end_state s r w e).sections i).places
      each i below =
          let inside : i < length r.parts.items = omega (arith, below, length-map r.parts.items (λ (p : Part). p.places.items)) in
          let within : i < length (section_numbers s) = omega (arith, inside, e.parts.sections) in
          let p = element-at r.parts.items i inside in
          let seat = element-at e.seats i (omega (arith, within, e.closed.made.seated)) in
          image-at (λ (q : Part). q.places.items) r.parts.items p.0 [] i p.1
          ∙ ((e.parts.each i p.0 seat.0 p.1 seat.1).cells_are ∙ ap (λ (y : SectionState). map (λ (q : Place). q.cell) y.places) (sym (own-section s e.shape.cells e.shape e.seats w e.closed i seat.0 seat.1 within)))

  -- the survivors are those of the report
  pub reached-survivor : (name : Name) → IsReachable (last_heaps s) name → (j : ℕ) × (y : Survivor) × IsSurvivor r j y × (named y ≡ name)
  reached-survivor name reach =
      let items : List Survivor = r.survivors.items in
      let l = map-from name_of (map survivor_of items) name ((e.report.survivors.reachable.each name).1 reach) in
      let y = map-from survivor_of items l.0 l.1 in
      let j = got items y.0 y.1 in
      (j.0, y.0, j.1, ap name_of y.2 ∙ l.2)

  pub survivor-reached : (j : ℕ) (y : Survivor) → IsSurvivor r j y → IsReachable (last_heaps s) (named y)
  survivor-reached j y at =
      let items : List Survivor = r.survivors.items in
      (e.report.survivors.reachable.each (named y)).0 (map-to name_of (map survivor_of items) (survivor_of y) (map-to survivor_of items y (contains_got items j y at)))

  -- a survivor has a place
  pub survivor-section : (j : ℕ) (y : Survivor) → IsSurvivor r j y → y.section < length r.parts.items
  survivor-section j y at = omega (arith, (reached-object s (named y) (survivor-reached j y at)).0, e.parts.sections)

  pub survivor-number : (j : ℕ) (y : Survivor) → IsSurvivor r j y → y.number < length (cells_of (places_of r) y.section)
  survivor-number j y at =
      let o = reached-object s (named y) (survivor-reached j y at) in
      let long = e.report.placed.each y.section (omega (arith, o.0, e.report.placed.sections)) in
      omega (arith, slice_get_within (last_heap s y.section).objects y.number o.1.0 o.1.1, long)

  -- the cell there is in use, and has the survivor's name
  pub in-cell : (j : ℕ) (y : Survivor) → IsSurvivor r j y → IsUsed (end_state s r w e).core (cell_of_survivor r y) × (name_at (the_words (end_state s r w e)).identities (cell_of_survivor r y) ≡ named y)
  in-cell j y at =
      lies-in s e.shape.cells (end-positions s) (end_state s r w e) (places_of r) (named y) (cell_of_survivor r y) stands are-places
      (subst (λ (hs : List Heap). IsReachable hs (named y)) (sym (last-done s (end-positions s) (end-position s))) (survivor-reached j y at))
      (slice_get-get_or (cells_of (places_of r) y.section) y.number 0 (survivor-number j y at))

  -- no two cells in use have one name
  pub one-cell : (c d : ℕ) → IsUsed (end_state s r w e).core c → IsUsed (end_state s r w e).core d → name_at (the_words (end_state s r w e)).identities c ≡ name_at (the_words (end_state s r w e)).identities d → c ≡ d
  one-cell c d one other same =
      let core = (end_state s r w e).core in
      let ids : List ℕ = (the_words (end_state s r w e)).identities in
      e.closed.end.whole.core.sound.caches.distinct c (used-exists core e.closed.end.whole.core c one) d (used-exists core e.closed.end.whole.core d other) one other
      (halves (slice_index ids c) (slice_index ids d) (ap (λ (n : Name). n.section) same) (ap (λ (n : Name). n.number) same))

  -- a cell that can be reached is the place of a survivor
  pub cell-survivor : (c : ℕ) → IsReachableIn (end_state s r w e).core c → (j : ℕ) × (y : Survivor) × IsSurvivor r j y × (cell_of_survivor r y ≡ c)
  cell-survivor c reach =
      let x : TableState = end_state s r w e in
      let name : Name = name_at (the_words x).identities c in
      let reached : IsReachable (last_heaps s) name =
      subst (λ (hs : List Heap). IsReachable hs name) (last-done s (end-positions s) (end-position s))
      (reached-run s e.shape.cells (end-positions s) x name stands (cells_have_objects x.core (meanings_of x.sections) e.closed.end.whole.core (e.closed.end.whole.stands stands.heap.owned) c reach).1) in
      let y = reached-survivor name reached in
      let at = in-cell y.0 y.1 y.2 in
      (y.0, y.1, y.2, one-cell (cell_of_survivor r y.1) c at.0 (reachable-used x.core c e.closed.end.whole.core reach) (at.1 ∙ y.3))

  pub cell-exists : (c : ℕ) → IsReachableIn (end_state s r w e).core c → c < length w.idents.items
  cell-exists c reach =
      let core = (end_state s r w e).core in
      omega (arith, used-exists core e.closed.end.whole.core c (reachable-used core c e.closed.end.whole.core reach), ap (λ (h : Shape). h.cells) e.closed.end.shape, end-count s e.shape.cells e.shape e.seats w e.closed)

  -- the place of a survivor can be reached, and has its object
  pub survivor-cell : (j : ℕ) (y : Survivor) → IsSurvivor r j y → IsCellOfObject (end_state s r w e).core (meanings_of (end_state s r w e).sections) (named y) (cell_of_survivor r y) × IsReachableIn (end_state s r w e).core (cell_of_survivor r y)
  survivor-cell j y at =
      let x : TableState = end_state s r w e in
      let ms : List Meaning = meanings_of x.sections in
      let cell =
      objects_have_cells x.core ms e.closed.end.whole.core (e.closed.end.whole.stands stands.heap.owned) (named y)
      (reached-stand s e.shape.cells (end-positions s) x (named y) stands (subst (λ (hs : List Heap). IsReachable hs (named y)) (sym (last-done s (end-positions s) (end-position s))) (survivor-reached j y at))) in
      let here = in-cell j y at in
      let same : cell.0 ≡ cell_of_survivor r y = one-cell cell.0 (cell_of_survivor r y) cell.1.0 here.0 (cell.1.1 ∙ sym here.1) in
      (subst (IsCellOfObject x.core ms (named y)) same cell.1, subst (IsReachableIn x.core) same cell.2)

  -- two survivors have two names
  pub names-apart : (j k : ℕ) (x y : Survivor) → IsSurvivor r j x → IsSurvivor r k y → named x ≡ named y → j ≡ k
  names-apart j k x y at-j at-k same = of (cases_lt j k) (cases_lt k j)
    where
      names : List Name
      names = map name_of (map survivor_of r.survivors.items)

      at-name : (i : ℕ) (z : Survivor) → IsSurvivor r i z → slice_get names i ≡ Some (named z)
      at-name i z at =
          slice_get-map name_of (map survivor_of r.survivors.items) i
          ∙ ap (λ (o : Option Listed). option_map name_of o) (slice_get-map survivor_of r.survivors.items i ∙ ap (λ (o : Option Survivor). option_map survivor_of o) at)

      before : (i l : ℕ) (a b : Survivor) → IsSurvivor r i a → IsSurvivor r l b → i < l → ComesBefore (named a) (named b)
      before i l a b at-a at-b less =
          subst (λ (n : Name). ComesBefore n (named b)) (get_or_from_slice_get names i (named a) (named a) (at-name i a at-a))
          (subst (λ (n : Name). ComesBefore (get_or names i (named a)) n) (get_or_from_slice_get names l (named b) (named a) (at-name l b at-b))
          (e.report.survivors.reachable.ordered i l (named a) less (slice_get_within names l (named b) (at-name l b at-b))))

      never : (a b : Name) → a ≡ b → ComesBefore a b → ⊥
      never a b is (inl less) = omega (arith, less, ap (λ (n : Name). n.section) is)
      never a b is (inr (one, less)) = omega (arith, less, ap (λ (n : Name). n.number) is)

      of : (j < k) ⊎ (k ≤ j) → (k < j) ⊎ (j ≤ k) → j ≡ k
      of (inl less) other = absurd (never (named x) (named y) same (before j k x y at-j at-k less))
      of (inr less) (inl more) = absurd (never (named y) (named x) (sym same) (before k j y x at-k at-j more))
      of (inr less) (inr more) = omega arith

  -- so each survivor has a place of its own
  pub places-apart : (j k : ℕ) (x y : Survivor) → IsSurvivor r j x → IsSurvivor r k y → cell_of_survivor r x ≡ cell_of_survivor r y → j ≡ k
  places-apart j k x y at-j at-k same =
      names-apart j k x y at-j at-k
      (sym (in-cell j x at-j).1 ∙ (ap (name_at (the_words (end_state s r w e)).identities) same ∙ (in-cell k y at-k).1))

  pub are-placed : ArePlaced r (length w.idents.items)
  are-placed = record {
    few = omega (arith, few-images (cell_of_survivor r) r.survivors.items (length w.idents.items) (record { section = 0; number = 0; value = 0 }) below places-apart, end-count s e.shape.cells e.shape e.seats w e.closed, ap (λ (h : Shape). h.cells) e.closed.end.shape, e.few);
    each = λ j y at. record { section = survivor-section j y at; number = survivor-number j y at; cell = below j y at };
    apart = places-apart;
  }
    where
      below : (j : ℕ) (y : Survivor) → IsSurvivor r j y → cell_of_survivor r y < length w.idents.items
      below j y at = cell-exists (cell_of_survivor r y) (survivor-cell j y at).1
