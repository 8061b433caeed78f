-- Where objects lie after a step that gives no cell its identity: where they lay.
use Rattle.std.proofs.Common.{ℕ, ◌≡◌, ◌≢◌, ◌<◌, ◌≤◌, List, [], ◌∷◌, ◌++◌, set, length, arith, sym, ap, ◌∙◌, subst, Option, Some, None, ◌⊎◌, inl, inr, ⊎_elim}
use Rattle.std.specs.Prelude.{IsTrue, IsFalse, slice_get}
use Rattle.std.proofs.lemmas.Bool.{true≢false, cases_eq}
use Rattle.std.proofs.lemmas.Option.{get_or_from_slice_get}
use Rattle.mark_core.specs.Layout.{Words}
use Rattle.mark_core.specs.Views.{makers}
use Rattle.mark_core.specs.Cells.{in_use}
use Rattle.mark_core.specs.Rules.HeapRules.{section_of_cell, number_of_cell}
use Rattle.mark_core.specs.Start.{start_seat, spent_seat}
use Rattle.mark_core.proofs.Formed.FormedLearns.{set-cases, push-cases}
use Rattle.mark_core.specs.declared.kinds.Shape.{Shape}
use Rattle.mark_core.specs.declared.seat.SeatState.{SeatState}
use Rattle.gc_table.specs.declared.view.Place.{Place}
use Rattle.gc_table.specs.declared.view.SectionState.{SectionState}
use Rattle.gc_table.specs.TableState.{no_section, section_at, with_section}
use Rattle.gc_table.specs.Told.{EachSection, LiesAt, Placed}
use Rattle.gc_table.proofs.Stands.StandsFrame.{get-set_same, get-set_other}
use Rattle.gc_table.proofs.State.StateSteps.{each-left}

-- where objects lie, of words, records and sections
abbrev pub PlacedIn : Shape → Words → List SeatState → List SectionState → Type 0
PlacedIn sh w seats xs = Placed sh w.identities (λ c. IsTrue (in_use w.allocs (makers seats) c)) seats xs

-- a section that was there is there after the step, as it was or as its seat leaves it
pub left-there : (o : Option ℕ) (f : SectionState → SectionState) (xs : List SectionState) (w : ℕ) (y : SectionState) → slice_get xs w ≡ Some y
    → (slice_get (with_section o f xs) w ≡ Some y) ⊎ ((o ≡ Some w) × (slice_get (with_section o f xs) w ≡ Some (f y)))
left-there None f xs w y e = inl e
left-there (Some k) f xs w y e =
    ⊎_elim
    (λ (h : w ≡ k).
    let here : slice_get xs k ≡ Some y = subst (λ j. slice_get xs j ≡ Some y) h e in
    let at : section_at xs k ≡ y = get_or_from_slice_get xs k y no_section here in
    inr (ap Some (sym h), ap (λ j. slice_get (set xs k (f (section_at xs k))) j) h ∙ (get-set_same xs k y (f (section_at xs k)) here ∙ ap (λ z. Some (f z)) at)))
    (λ (d : w ≢ k). inl (get-set_other xs k w (f (section_at xs k)) d ∙ e))
    (cases_eq w k)

-- the number of a section's places is the number of cells that its seat made
abbrev pub Counted : List SeatState → List SectionState → Type 0
Counted seats xs = EachSection xs (λ w x. (s : SeatState) → slice_get seats w ≡ Some s → IsFalse s.spent → length x.places ≡ s.made)

-- one seat's record changed, and it made no cell
pub counted-seat : (seats : List SeatState) (i : ℕ) (s t : SeatState) (xs : List SectionState) → slice_get seats i ≡ Some s → IsFalse s.spent → t.made ≡ s.made → Counted seats xs → Counted (set seats i t) xs
counted-seat seats i s t xs got live made k w x g u a alive =
    ⊎_elim
    (λ (e : (w ≡ i) × (t ≡ u)). k w x g s (subst (λ j. slice_get seats j ≡ Some s) (sym e.0) got) live ∙ (sym made ∙ ap (λ (z : SeatState). z.made) e.1))
    (λ (e : slice_get seats w ≡ Some u). k w x g u e alive)
    (set-cases seats i w t u a)

-- a further seat has made none
pub counted-split : (sh : Shape) (seats : List SeatState) (xs : List SectionState) → EachSection xs (λ w x. length seats ≤ w → x.places ≡ []) → Counted seats xs → Counted (seats ++ start_seat sh (length seats) ∷ []) xs
counted-split sh seats xs unseated k w x g u a alive =
    ⊎_elim
    (λ (e : (w ≡ length seats) × (start_seat sh (length seats) ≡ u)). ap (λ (ps : List Place). length ps) (unseated w x g (omega (arith, e.0))) ∙ ap (λ (z : SeatState). z.made) e.1)
    (λ (e : slice_get seats w ≡ Some u). k w x g u e alive)
    (push-cases seats w (start_seat sh (length seats)) u a)

-- a seat that was ended counts no more
pub counted-join : (sh : Shape) (seats : List SeatState) (other : ℕ) (xs : List SectionState) → Counted seats xs → Counted (set seats other (spent_seat sh other)) xs
counted-join sh seats other xs k w x g u a alive =
    ⊎_elim
    (λ (e : (w ≡ other) × (spent_seat sh other ≡ u)). absurd (true≢false (ap (λ (z : SeatState). z.spent) e.1 ∙ alive)))
    (λ (e : slice_get seats w ≡ Some u). k w x g u e alive)
    (set-cases seats other w (spent_seat sh other) u a)

-- a step that adds no place
pub placed-same : (sh : Shape) (ids : List ℕ) (used used' : ℕ → Type 0) (seats seats' : List SeatState) (o : Option ℕ) (f : SectionState → SectionState) (xs : List SectionState) → ((y : SectionState) → (f y).places ≡ y.places)
    → ((c : ℕ) → c < sh.cells → used' c → used c) → Counted seats' xs → length seats ≤ length seats' → Placed sh ids used seats xs → Placed sh ids used' seats' (with_section o f xs)
placed-same sh ids used used' seats seats' o f xs same fewer counted longer k = record {
  at_place = λ c h u. let a = k.at_place c h (fewer c h u) in lies c a.0 a.2 (left-there o f xs (section_of_cell ids c) a.0 a.1);
  counted =
      each-left (λ w x. (s : SeatState) → slice_get seats' w ≡ Some s → IsFalse s.spent → length x.places ≡ s.made) f o xs (λ w y g d. counted w y g)
      (λ w y g e s a live. ap (λ (ps : List Place). length ps) (same y) ∙ counted w y g s a live);
  unseated = each-left (λ w x. length seats' ≤ w → x.places ≡ []) f o xs (λ w y g d l. k.unseated w y g (omega (arith, l, longer))) (λ w y g e l. same y ∙ k.unseated w y g (omega (arith, l, longer)));
  below =
      each-left (λ w x. (n : ℕ) (p : Place) → slice_get x.places n ≡ Some p → p.cell < sh.cells) f o xs (λ w y g d. k.below w y g)
      (λ w y g e n p h. k.below w y g n p (ap (λ (ps : List Place). slice_get ps n) (sym (same y)) ∙ h));
}
  where
    lies : (c : ℕ) (y : SectionState) → LiesAt y (number_of_cell ids c) c → (slice_get (with_section o f xs) (section_of_cell ids c) ≡ Some y) ⊎ ((o ≡ Some (section_of_cell ids c)) × (slice_get (with_section o f xs) (section_of_cell ids c) ≡ Some (f y)))
        → (x : SectionState) × (slice_get (with_section o f xs) (section_of_cell ids c) ≡ Some x) × LiesAt x (number_of_cell ids c) c
    lies c y at (inl e) = (y, e, at)
    lies c y at (inr e) = (f y, e.1, (at.0, ap (λ (ps : List Place). slice_get ps (number_of_cell ids c)) (same y) ∙ at.1, at.2))
