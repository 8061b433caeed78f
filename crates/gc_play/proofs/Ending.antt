-- What the seats of a play say at its end, as its closing asks for it.
use Rattle.std.proofs.Common.{ℕ, zero, suc, ◌≡◌, ◌≢◌, ◌+◌, ◌-◌, ◌<◌, inl, inr, List, length, get_or, Some, refl, sym, ◌∙◌, subst, arith}
use Rattle.std.specs.Prelude.{IsTrue, slice_get}
use Rattle.std.proofs.lemmas.Option.{get_or_from_slice_get, slice_get-get_or, slice_get_within}
use Rattle.plain_heap.specs.Sections.{Sections, seasons, section_numbers}
use Rattle.plain_heap.proofs.Turns.{section-count}
use Rattle.play_report.specs.declared.report.Part.{Part}
use Rattle.gc_table.specs.Rule.{KnowsFull}
use Rattle.gc_table.specs.Seats.{Sits, IsOutside, view_of}
use Rattle.gc_table.specs.declared.seat.Heap.{Heap}
use Rattle.gc_table.specs.declared.seat.HeapSeat.{HeapSeat}
use Rattle.gc_table.specs.declared.view.SectionState.{SectionState}
use Rattle.gc_table.proofs.Joining.{some-at}
use Rattle.play_end.specs.Closed.{AreSeated, PlayedAll, SeatsStopped}
use Rattle.play_end.specs.Done.{HasPlayed, HasStoppedInPart}
use Rattle.play_end.specs.Ended.{CameTo}
use Rattle.play_end.specs.Reported.{AreParts}
use Rattle.gc_play.specs.declared.season.Ended.{Ended}
use Rattle.gc_play.specs.declared.season.Ended.TheVariants.{Done, First, Later}
use Rattle.gc_play.specs.Crews.{AreSaid, CameIn, IsSeatLeftBy, IsMadeForScript, KnowsEnd, Numbered, SaysOfSection, SettlesEnd}

module _ (r : Ended) (h : Heap) (s : Sections) (z : ℕ) (xs : List HeapSeat) (made : IsMadeForScript s h xs) (left : Numbered (IsSeatLeftBy r h s z) 0 xs) where
  left-at : (i : ℕ) (x : HeapSeat) → slice_get xs i ≡ Some x → IsSeatLeftBy r h s z i x
  left-at i x e =
      subst (IsSeatLeftBy r h s z i) (get_or_from_slice_get xs i x x e)
      (subst (λ k. IsSeatLeftBy r h s z k (get_or xs i x)) (let q : 0 + i ≡ i = omega arith in q) (left i x (slice_get_within xs i x e)))

  pub are-ready : (i : ℕ) (x : HeapSeat) → slice_get xs i ≡ Some x → Sits h x × ((view_of x).state.number ≡ i) × IsOutside (view_of x)
  are-ready i x e = let l = left-at i x e in (l.sits, l.number, l.outside)

  pub are-seated : AreSeated s h.shape.cells h.shape xs
  are-seated = record {
    owned = made.owned;
    slots = made.slots;
    cell_count = refl;
    fields = made.fields;
    sections = omega (arith, made.sections, section-count s);
    seated = omega (arith, made.enough, section-count s);
    own = λ k x e low. ((left-at k x e).of_section (omega (arith, low, section-count s))).section;
    plan = λ x e. ((left-at 0 x e).of_section (omega arith)).plan_is;
  }

  came-at : (k : ℕ) (x : HeapSeat) → slice_get xs k ≡ Some x → k < length (section_numbers s) → CameIn r s z k (view_of x).own
  came-at k x e low = ((left-at k x e).of_section (omega (arith, low, section-count s))).came

module _ (h : Heap) (s : Sections) (z : ℕ) (xs : List HeapSeat) (made : IsMadeForScript s h xs) where
  -- if all was played
  pub all-played : Numbered (IsSeatLeftBy Done h s z) 0 xs → z ≡ seasons s → SettlesEnd Done xs → PlayedAll s xs
  all-played left all settles = record {
    played = λ k x e low. subst (λ n. HasPlayed s k n (view_of x).own) all (came-at Done h s z xs made left k x e low);
    settled = λ x e. subst (λ (y : HeapSeat). IsTrue (view_of y).own.settled) (get_or_from_slice_get xs 0 x x e) (settles x);
  }

  pub are-parts : (ps : List Part) → z ≡ seasons s → length ps ≡ 1 + length s.warehouses → AreSaid Done s z 0 xs ps → AreParts s xs ps
  are-parts ps all long said = record {
    sections = omega (arith, long, section-count s);
    each =
        λ k p x here seat.
        subst (λ n. SaysOfSection Done s n k x p) all
        (subst (λ (y : HeapSeat). SaysOfSection Done s z k y p) (get_or_from_slice_get xs k x x seat)
        (subst (λ (q : Part). SaysOfSection Done s z k (get_or xs k x) q) (get_or_from_slice_get ps k p p here)
        (subst (λ i. SaysOfSection Done s z i (get_or xs k x) (get_or ps k p)) (let e : 0 + k ≡ k = omega arith in e) (said k x p (slice_get_within ps k p here)))));
  }

  came-first : (k : ℕ) (y : SectionState) → 0 < k → CameIn First s z k y → HasPlayed s k (z - 1) y
  came-first zero y low c = absurd (omega (arith, low))
  came-first (suc w) y low c = c

  came-later : (k : ℕ) (y : SectionState) → 0 < k → CameIn Later s z k y → CameTo s k z y
  came-later zero y low c = absurd (omega (arith, low))
  came-later (suc w) y low c = c

  -- if the heap was found full
  pub have-stopped : (r : Ended) → r ≢ Done → 0 < z → Numbered (IsSeatLeftBy r h s z) 0 xs → SeatsStopped s z xs
  have-stopped Done n season left = absurd (n refl)
  have-stopped First n season left =
      let some : 0 < length xs = omega (arith, made.enough) in
      let one = some-at xs 0 some in
      let c = came-at First h s z xs made left 0 one.0 one.1 (omega (arith, section-count s)) in
      inl (record {
        at = c.0;
        catalogue =
            λ x e.
            subst (λ (y : HeapSeat). HasStoppedInPart s 0 z c.0 (view_of y).own)
            (sym (get_or_from_slice_get xs 0 one.0 one.0 one.1) ∙ get_or_from_slice_get xs 0 x one.0 e) c.1;
        warehouses = λ k x e above low. came-first k (view_of x).own above (came-at First h s z xs made left k x e low);
      })
  have-stopped Later n season left =
      inr (record {
        season = season;
        catalogue = λ x e. came-at Later h s z xs made left 0 x e (omega (arith, section-count s));
        warehouses = λ k x e above low. came-later k (view_of x).own above (came-at Later h s z xs made left k x e low);
      })

  pub some-knows : (r : Ended) → r ≢ Done → KnowsEnd r xs → (i : ℕ) × (x : HeapSeat) × (slice_get xs i ≡ Some x) × KnowsFull (view_of x)
  some-knows Done n k = absurd (n refl)
  some-knows First n k = let d : HeapSeat = (some-at xs k.0 k.1).0 in (k.0, get_or xs k.0 d, slice_get-get_or xs k.0 d k.1, k.2 d)
  some-knows Later n k = let d : HeapSeat = (some-at xs k.0 k.1).0 in (k.0, get_or xs k.0 d, slice_get-get_or xs k.0 d k.1, k.2 d)
