-- What is known of a pair between two events, and what a step leaves of it that stores in no field.
use Rattle.std.proofs.Common.{ℕ, ◌≡◌, ◌≢◌, ◌∙◌, suc, List, ◌++◌, take, refl, sym, ap, subst, Bool, true, false, Option, None, Some, ⊎_elim}
use Rattle.std.specs.Prelude.{replicate, slice_index_or}
use Rattle.std.proofs.lemmas.Bool.{cases_eq, ltb-true}
use Rattle.std.proofs.lemmas.Option.{same_Some}
use Rattle.plain_heap.specs.Paths.{Name}
use Rattle.mark_core.specs.Layout.{words_of}
use Rattle.mark_core.specs.Steps.{Core}
use Rattle.mark_core.specs.Steps.MutatorSteps.{in_variables}
use Rattle.mark_core.specs.declared.kinds.Event.{Event}
use Rattle.mark_core.specs.declared.kinds.Shape.{Shape}
use Rattle.mark_core.specs.declared.seat.SeatState.{SeatState}
use Rattle.gc_table.specs.AgreementLaws.{world_after, world_of}
use Rattle.gc_table.specs.Past.{adds, entries_of, log_from}
use Rattle.gc_table.specs.RunWorlds.{World, WorldObject, WorldSection, object_of, reference_of, stored, variable_of, world_by}
use Rattle.gc_table.specs.Single.{is_inside}
use Rattle.gc_table.specs.declared.view.Entry.{Entry}
use Rattle.gc_table.proofs.Counted.{other_adds}
use Rattle.heap_laws.specs.Pairs.{IsWholePair, KeepsPair, fits_pair, fits_pairs, pending, pending_after}
use Rattle.heap_laws.proofs.LentLocks.{In, Happening, core, heap, others, own, inside_next, split, start}
use Rattle.heap_laws.proofs.Made.{made-object}
use Rattle.heap_laws.proofs.Fields.{kept_refs, none_replicate, stores_field}
use Rattle.heap_laws.proofs.PairLogs.{fits_split, leaves, one_fits, one_pending, pending_join, quiet_inside, quiet_pending}
use Rattle.heap_laws.proofs.Sections.{section_stays, variable_stays}

module _ (sh : Shape) (es : List Event) (u : ℕ) (name : Name) (p : KeepsPair sh es u name) where
  abbrev pub world : ℕ → World
  world k = heap sh es u name p.takes k

  abbrev pub log : ℕ → ℕ → List Entry
  log k i = log_from i (start sh es u name p.takes) (take k es)

  abbrev pub Inside : ℕ → ℕ → Bool
  Inside k i = In sh es u name p.takes k i

  -- what seat i has stored in field 0 only
  abbrev pub waits : ℕ → ℕ → Option (Option ℕ)
  waits k i = pending None (log k i)

  -- nobody has stored one field only
  pub record Free (k : ℕ) : Type 0 where
    pub none : (i : ℕ) → waits k i ≡ None
    pub whole : IsWholePair (world k) name

  -- one seat has, and is inside
  pub record Half (k : ℕ) : Type 0 where
    pub seat : ℕ
    pub source : Option ℕ
    pub is : waits k seat ≡ Some source
    pub inside : Inside k seat ≡ true
    pub exists : in_variables source ≡ true
    pub only : (i : ℕ) → i ≢ seat → waits k i ≡ None
    pub object : WorldObject
    pub there : object_of (world k) name ≡ Some object
    pub first : reference_of object 0 ≡ stored (world k) seat source

  module _ (k : ℕ) (x : Happening sh es u name p.takes k) where
    abbrev pub e : Event
    e = x.event

    abbrev pub s : SeatState
    s = x.seat

    abbrev pub j : ℕ
    j = x.event.seat

    abbrev pub c : Core
    c = core sh es u name p.takes k

    pub moved : world (suc k) ≡ world_by c.shape (words_of c.shape c.words) s e.step (world k)
    moved = x.after ∙ ap (λ (o : Option SeatState). world_of c o e.step (world k)) x.taken.got

    pub mine : adds j c e ≡ entries_of c (Some s) e.step
    mine = own sh es u name p.takes k x

    waits_next : (i : ℕ) → waits (suc k) i ≡ pending (waits k i) (adds i c e)
    waits_next i = ap (pending None) (split sh es u name p.takes k x i).more ∙ pending_join None (log k i) (adds i c e)

    pub waits_other : (i : ℕ) → i ≢ j → waits (suc k) i ≡ waits k i
    waits_other i d = waits_next i ∙ ap (pending (waits k i)) (other_adds i c e d)

    pub waits_own : waits (suc k) j ≡ pending_after (waits k j) e.step
    waits_own = waits_next j ∙ (ap (pending (waits k j)) mine ∙ one_pending (waits k j) c s e.step)

    pub inside_own : Inside (suc k) j ≡ is_inside (Inside k j) (entries_of c (Some s) e.step)
    inside_own = inside_next sh es u name p.takes k x j ∙ ap (is_inside (Inside k j)) mine

    pub inside_other : (i : ℕ) → i ≢ j → Inside (suc k) i ≡ Inside k i
    inside_other i d = others sh es u name p.takes k x i d

    pub fits : fits_pair (Inside k j) (waits k j) e.step ≡ true
    fits =
        let it = split sh es u name p.takes k x j in
        let all : fits_pairs false None ((log k j ++ adds j c e) ++ it.rest) ≡ true = subst (λ (z : List Entry). fits_pairs false None z ≡ true) it.whole (p.pairs j) in
        let first = (fits_split false None (log k j ++ adds j c e) it.rest all).0 in
        let here = (fits_split false None (log k j) (adds j c e) first).1 in
        one_fits (Inside k j) (waits k j) c s e.step (subst (λ (z : List Entry). fits_pairs (Inside k j) (waits k j) z ≡ true) mine here)

    -- what a seat that is half done has stored stays what its variable refers to
    pub source_stays : (i : ℕ) (source : Option ℕ) → in_variables source ≡ true → (i ≡ j → fits_pair (Inside k j) (Some source) e.step ≡ true) → stored (world (suc k)) i source ≡ stored (world k) i source
    source_stays i None exists fit = refl
    source_stays i (Some y) exists fit =
        ap (λ (w : World). variable_of w i y) moved
        ∙ ⊎_elim
        (λ (same : i ≡ j). variable_stays c s e.step (world k) i y (ltb-true y 32 exists) (leaves (Inside k j) y e.step (fit same)))
        (λ (d : i ≢ j). section_stays (λ (z : WorldSection). slice_index_or z.variables y None) (λ z objects. refl) c j s e.step (world k) i x.taken d)
        (cases_eq i j)

    -- a step that stores in no field
    pub quiet_free : stores_field e.step ≡ false → Free k → Free (suc k)
    quiet_free quiet free = record { none = none; whole = whole (object_of (world k) name) refl }
      where
        none : (i : ℕ) → waits (suc k) i ≡ None
        none i =
            ⊎_elim
            (λ (same : i ≡ j). ap (waits (suc k)) same ∙ (waits_own ∙ (quiet_pending (waits k j) e.step quiet ∙ free.none j)))
            (λ (d : i ≢ j). waits_other i d ∙ free.none i)
            (cases_eq i j)

        whole : (o : Option WorldObject) → object_of (world k) name ≡ o → IsWholePair (world (suc k)) name
        whole (Some object) there after is =
            let r = kept_refs c e s (world k) name object x.taken.got quiet there in
            let same : after ≡ r.0 = same_Some after r.0 (sym is ∙ (ap (λ (w : World). object_of w name) x.after ∙ r.1)) in
            let refs : after.refs ≡ object.refs = ap (λ (o : WorldObject). o.refs) same ∙ r.2 in
            ap (λ (l : List (Option Name)). slice_index_or l 0 None) refs ∙ (free.whole object there ∙ ap (λ (l : List (Option Name)). slice_index_or l 1 None) (sym refs))
        whole None there after is =
            let new = made-object c s e.step (world k) name after there (ap (λ (w : World). object_of w name) (sym moved) ∙ is) in
            let refs : after.refs ≡ replicate c.shape.fields None = ap (λ (o : WorldObject). o.refs) new in
            ap (λ (l : List (Option Name)). slice_index_or l 0 None) refs ∙ (none_replicate c.shape.fields 0 ∙ (sym (none_replicate c.shape.fields 1) ∙ ap (λ (l : List (Option Name)). slice_index_or l 1 None) (sym refs)))

    pub quiet_half : stores_field e.step ≡ false → Half k → Half (suc k)
    quiet_half quiet h =
        record {
          seat = h.seat;
          source = h.source;
          is = waits_same h.seat ∙ h.is;
          inside = inside_same;
          exists = h.exists;
          only = λ i d. waits_same i ∙ h.only i d;
          object = r.0;
          there = ap (λ (w : World). object_of w name) x.after ∙ r.1;
          first = ap (λ (l : List (Option Name)). slice_index_or l 0 None) r.2 ∙ (h.first ∙ sym (source_stays h.seat h.source h.exists fit));
        }
      where
        r : (after : WorldObject) × (object_of (world_after c e (world k)) name ≡ Some after) × (after.refs ≡ h.object.refs)
        r = kept_refs c e s (world k) name h.object x.taken.got quiet h.there

        waits_same : (i : ℕ) → waits (suc k) i ≡ waits k i
        waits_same i =
            ⊎_elim
            (λ (same : i ≡ j). ap (waits (suc k)) same ∙ (waits_own ∙ (quiet_pending (waits k j) e.step quiet ∙ ap (waits k) (sym same))))
            (λ (d : i ≢ j). waits_other i d)
            (cases_eq i j)

        fit : h.seat ≡ j → fits_pair (Inside k j) (Some h.source) e.step ≡ true
        fit same = subst (λ (q : Option (Option ℕ)). fits_pair (Inside k j) q e.step ≡ true) (ap (waits k) (sym same) ∙ h.is) fits

        inside_same : Inside (suc k) h.seat ≡ true
        inside_same =
            ⊎_elim
            (λ (same : h.seat ≡ j). ap (Inside (suc k)) same ∙ (inside_own ∙ (quiet_inside (Inside k j) h.source c s e.step (fit same) ∙ (ap (Inside k) (sym same) ∙ h.inside))))
            (λ (d : h.seat ≢ j). inside_other h.seat d ∙ h.inside)
            (cases_eq h.seat j)
