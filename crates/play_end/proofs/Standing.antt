-- How the sections stand in a state on the way, and in which cells what is reachable then lies.
use Rattle.std.proofs.Common.{◌≡◌, ℕ, ◌+◌, ◌<◌, ◌≤◌, ap, sym, ◌∙◌, subst, arith, List, ◌++◌, length, Some, Option}
use Rattle.std.specs.Prelude.{option_map, slice_get}
use Rattle.std.specs.List.{All}
use Rattle.std.proofs.lemmas.List.{append_cancel_left}
use Rattle.std.proofs.lemmas.Option.{slice_get-map, slice_get_within, same_Some}
use Rattle.mark_core.specs.declared.kinds.Event.{Event}
use Rattle.plain_heap.specs.PlainHeap.{Heap}
use Rattle.plain_heap.specs.Sections.{Sections, section_numbers, executed_of, seasons, end_of}
use Rattle.plain_heap.specs.PlainRun.{plain}
use Rattle.plain_heap.specs.Paths.{Name, IsReachable}
use Rattle.plain_heap.specs.Placement.{LiesIn, position}
use Rattle.plain_heap.proofs.Turns.{last-end}
use Rattle.play_report.specs.Order.{heaps_done}
use Rattle.play_end.proofs.SectionLists.{of-section}
use Rattle.gc_table.specs.declared.view.Meaning.{Meaning}
use Rattle.gc_table.specs.declared.view.Place.{Place}
use Rattle.gc_table.specs.declared.view.PlainStep.{PlainStep}
use Rattle.gc_table.specs.declared.view.SectionState.{SectionState}
use Rattle.gc_table.specs.Rule.{Leads}
use Rattle.gc_table.specs.StandsFor.{heaps_of, name_at}
use Rattle.gc_table.specs.TableState.{TableState, meanings_of, section_at}
use Rattle.gc_table.proofs.Stands.StandsReached.{heap-there, objects_have_cells}
use Rattle.gc_table.proofs.Stands.StandsStores.{used-exists}
use Rattle.play_end.specs.Alike.{AreAlike, AreAmong}
use Rattle.play_end.specs.Done.{IsQuiet, Follow}
use Rattle.play_end.specs.Ended.{IsStateOf, IsUsed, AreCellsOfPlaces, DidAll}
use Rattle.play_end.proofs.Alike.{alike-back, alike-then, alike-same, alike-reached}
use Rattle.play_end.proofs.EndListed.{the_words}
use Rattle.play_end.proofs.SoFar.{lies-place}
use Rattle.play_end.proofs.OneEvent.{season_in, HasNewCell}
use Rattle.play_end.proofs.OnTheWay.{Later, later, places-led, same-shape, way-alone, way-there, way-whole}
use Rattle.play_end.proofs.SeasonOrder.{come, quiet-until, ended}

-- a play that came to this state, in which the sections' objects have these places
pub record IsPlayed (s : Sections) (f : TableState) (places : List (List ℕ)) : Type 0 where
  pub cells : ℕ
  pub done : List ℕ
  pub state : IsStateOf s cells done f
  pub all : DidAll s done
  pub places_are : AreCellsOfPlaces s f places

module _ (s : Sections) (f : TableState) (places : List (List ℕ)) (g : IsPlayed s f places) where
  abbrev o : IsStateOf s g.cells g.done f
  o = g.state

  abbrev n : ℕ
  n = length (section_numbers s)

  pub last : (w : ℕ) → w < n → position g.done w ≡ length (executed_of s w)
  last w low = g.all w low ∙ last-end s w (seasons s) (omega arith)

  -- section w stands after its first k commands, and its other plain steps follow
  pub record Stands (y : TableState) (w k : ℕ) : Type 0 where
    pub heap : AreAlike (section_at y.sections w).meaning.heap (plain s w k)
    pub rest : List PlainStep
    pub history : (section_at f.sections w).history ≡ (section_at y.sections w).history ++ rest
    pub follow : Follow s w (position g.done w) k rest
    pub far : k ≤ end_of s w (ended w (season_in y.sections + 1))

  -- what is left of turns that are over changes nothing
  pub still-quiet : (es : List Event) (y : TableState) (w k : ℕ) (ts : List PlainStep) → Leads es y f → w < n → (section_at f.sections w).history ≡ (section_at y.sections w).history ++ ts → Follow s w (position g.done w) k ts
      → IsQuiet s w k (come s w k (season_in y.sections))
  still-quiet es y w k ts l low history follow =
      let n' : Later f o.heap.whole o.heap.owned y w = later f o.heap.whole o.heap.owned es y l w in
      let same : n'.more ≡ ts = append_cancel_left (section_at y.sections w).history n'.more ts (sym n'.history ∙ history) in
      quiet-until s w (position g.done w) k (season_in y.sections) ts (omega (arith, last w low)) follow (subst (All (λ (t : PlainStep). season_in y.sections ≤ t.season)) same n'.late)

  -- an object that has a cell in use at some time lies in this cell
  in-cell : (es : List Event) (y : TableState) (c : ℕ) (name : Name) (cell : ℕ) → Leads es y f → IsUsed y.core c → name_at (the_words y).identities c ≡ name → LiesIn places name cell → cell ≡ c
  in-cell es y c name cell l used is lies =
      let whole = way-whole f o.heap.whole o.heap.owned es y l in
      let at = whole.told.placed.at_place c (used-exists y.core whole.core c used) used in
      let there : slice_get y.sections name.section ≡ Some at.0 = ap (λ (m : Name). slice_get y.sections m.section) (sym is) ∙ at.1 in
      let inside : name.section < n = omega (arith, slice_get_within y.sections name.section at.0 there, whole.sections, ap (λ sh. sh.sections) (same-shape f o.heap.whole o.heap.owned es y l), o.heap.sections) in
      let own : at.0 ≡ section_at y.sections name.section = same_Some at.0 (section_at y.sections name.section) (sym there ∙ way-there f o.heap.whole o.heap.owned es y name.section l (omega (arith, inside, o.heap.sections))) in
      let place : slice_get (section_at y.sections name.section).places name.number ≡ Some at.2.0 = ap (λ (x : SectionState). slice_get x.places name.number) (sym own) ∙ (ap (λ (m : Name). slice_get at.0.places m.number) (sym is) ∙ at.2.1) in
      let kept : slice_get (section_at f.sections name.section).places name.number ≡ Some at.2.0 = places-led f o.heap.whole o.heap.owned es y l name.section name.number at.2.0 place in
      let p = lies-place s f places name.section name.number cell g.places_are inside lies in
      sym p.2 ∙ (ap (λ (q : Place). q.cell) (same_Some p.0 at.2.0 (sym p.1 ∙ kept)) ∙ at.2.2)

  -- what is reachable in heaps like those of this state doesn't lie in the cell of the object that comes next
  pub free-cell : (es : List Event) (y : TableState) (w : ℕ) (heaps : List Heap) → Leads es y f → w < n → AreAmong heaps (heaps_of (meanings_of y.sections)) → HasNewCell y w
      → (name : Name) (cell : ℕ) → IsReachable heaps name → LiesIn places name cell → LiesIn places (record { section = w; number = length (section_at y.sections w).meaning.heap.objects }) cell → ⊥
  free-cell es y w heaps l low among new name cell reach lies there =
      let whole = way-whole f o.heap.whole o.heap.owned es y l in
      let alone = way-alone f o.heap.whole o.heap.owned es y l in
      let found = objects_have_cells y.core (meanings_of y.sections) whole.core (whole.stands alone) name (alike-reached heaps (heaps_of (meanings_of y.sections)) name among reach) in
      let used : IsUsed y.core found.0 = found.1.0 in
      let next : Name = record { section = w; number = length (section_at y.sections w).meaning.heap.objects } in
      let same : found.0 ≡ new.0 = sym (in-cell es y found.0 name cell l used found.1.1 lies) ∙ in-cell es y new.0 next cell l new.1 new.2 there in
      let is : name ≡ next = sym found.1.1 ∙ (ap (name_at (the_words y).identities) same ∙ new.2) in
      let m : Meaning = found.1.2.0 in
      let own : m ≡ (section_at y.sections w).meaning =
      same_Some m (section_at y.sections w).meaning
      (sym found.1.2.1 ∙ (ap (λ (k : Name). slice_get (meanings_of y.sections) k.section) is ∙ (slice_get-map (λ (x : SectionState). x.meaning) y.sections w
      ∙ ap (λ (p : Option SectionState). option_map (λ (x : SectionState). x.meaning) p) (way-there f o.heap.whole o.heap.owned es y w l (omega (arith, low, o.heap.sections)))))) in
      let inside : name.number < length m.heap.objects =
      subst (λ (k : Name). k.number < length m.heap.objects) found.1.1 (slice_get_within m.heap.objects _ found.1.2.2.object found.1.2.2.there) in
      omega (arith, inside, ap (λ (k : Meaning). length k.heap.objects) own, ap (λ (k : Name). k.number) is)

  -- the heaps of the plain run are like those of a state, if each section stands at a position that comes to the same
  pub heaps-among : (es : List Event) (y : TableState) (ks : List ℕ) → Leads es y f → ((u : ℕ) → u < n → AreAlike (section_at y.sections u).meaning.heap (plain s u (position ks u))) → AreAmong (heaps_done s ks) (heaps_of (meanings_of y.sections))
  heaps-among es y ks l alike heap there =
      let u = of-section (λ w. plain s w (position ks w)) s heap there in
      let own : Heap = (section_at y.sections u.0).meaning.heap in
      let at : slice_get (meanings_of y.sections) u.0 ≡ Some (section_at y.sections u.0).meaning =
      slice_get-map (λ (x : SectionState). x.meaning) y.sections u.0 ∙ ap (λ (p : Option SectionState). option_map (λ (x : SectionState). x.meaning) p) (way-there f o.heap.whole o.heap.owned es y u.0 l (omega (arith, u.1, o.heap.sections))) in (
        own,
        heap-there (meanings_of y.sections) u.0 (section_at y.sections u.0).meaning at,
        alike-back own heap (alike-then own (plain s u.0 (position ks u.0)) heap (alike u.0 u.1) (alike-same (plain s u.0 (position ks u.0)) heap u.2)),
      )
