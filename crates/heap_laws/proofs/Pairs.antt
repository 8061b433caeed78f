-- Whoever comes in finds the pair whole.
use Rattle.std.proofs.Common.{ℕ, ◌≡◌, ◌≢◌, ◌⊎◌, ◌+◌, ◌-◌, ◌<◌, ◌≤◌, ◌==◌, ◌&&◌, ◌∙◌, zero, suc, List, [], ◌∷◌, ◌++◌, append_assoc, take, length, arith, refl, sym, ap, subst, Bool, true, false, Option, None, Some, eqb-true, inl, inr, ⊎_elim}
use Rattle.std.specs.Prelude.{if◌then◌else◌, is_none, nat_lt, slice_index_or}
use Rattle.std.proofs.lemmas.Bool.{and_parts, cases_eq, eqb-false, false≢true, ltb-true, true≢false}
use Rattle.std.proofs.lemmas.List.{get_or-set_other, get_or-set_same}
use Rattle.std.proofs.lemmas.Option.{same_Some}
use Rattle.plain_heap.specs.Paths.{Name}
use Rattle.mark_core.specs.Layout.{words_of}
use Rattle.mark_core.specs.Seats.{may_mutate}
use Rattle.mark_core.specs.Steps.{Core}
use Rattle.mark_core.specs.Steps.MutatorSteps.{in_variables, seat_variable as word_in}
use Rattle.mark_core.specs.declared.kinds.Event.{Event}
use Rattle.mark_core.specs.declared.kinds.Shape.{Shape}
use Rattle.mark_core.specs.declared.kinds.Step.{Step}
use Rattle.mark_core.specs.declared.kinds.Step.TheVariants.{ExchangeField, StoreField}
use Rattle.mark_core.specs.declared.seat.SeatState.{SeatState}
use Rattle.mark_core.proofs.Blocks.BlocksStopped.{Taken}
use Rattle.gc_table.specs.Entries.{event}
use Rattle.gc_table.specs.Past.{adds, entries_of, log_from, log_of, word_told}
use Rattle.gc_table.specs.Sharing.{heap_after_events}
use Rattle.gc_table.specs.RunWorlds.{World, WorldObject, WorldSection, name_at, object_of, reference_of, stored, variable_of, with_object, with_reference, world_by}
use Rattle.gc_table.specs.Single.{is_inside}
use Rattle.gc_table.specs.declared.view.Entry.{Entry}
use Rattle.gc_table.proofs.Frame.{Mutates, mutates}
use Rattle.gc_table.proofs.Reading.{object-changed}
use Rattle.gc_table.proofs.Stores.{Refers, refers}
use Rattle.heap_laws.specs.Pairs.{IsWholePair, KeepsPair, PairByLog, fits_pair, is_pending, pending_after}
use Rattle.heap_laws.proofs.Lent.{lent_by_log}
use Rattle.heap_laws.proofs.LentLocks.{Happening, core, event_at, lock_by_log, split, start, starts_empty}
use Rattle.heap_laws.proofs.Fields.{stores_field}
use Rattle.heap_laws.proofs.PairLogs.{some_other, source_is}
use Rattle.heap_laws.proofs.Sections.{object_keeps}
use Rattle.heap_laws.proofs.PairSteps as steps

module _ (sh : Shape) (es : List Event) (u : ℕ) (name : Name) (p : KeepsPair sh es u name) where
  abbrev world : ℕ → World
  world = steps.world sh es u name p

  abbrev log : ℕ → ℕ → List Entry
  log = steps.log sh es u name p

  abbrev Inside : ℕ → ℕ → Bool
  Inside = steps.Inside sh es u name p

  abbrev waits : ℕ → ℕ → Option (Option ℕ)
  waits = steps.waits sh es u name p

  abbrev Free : ℕ → Type 0
  Free = steps.Free sh es u name p

  abbrev Half : ℕ → Type 0
  Half = steps.Half sh es u name p

  module _ (k : ℕ) (x : Happening sh es u name p.takes k) where
    abbrev e : Event
    e = x.event

    abbrev s : SeatState
    s = x.seat

    abbrev j : ℕ
    j = x.event.seat

    abbrev c : Core
    c = core sh es u name p.takes k

    moved : world (suc k) ≡ world_by c.shape (words_of c.shape c.words) s e.step (world k)
    moved = steps.moved sh es u name p k x

    mine : adds j c e ≡ entries_of c (Some s) e.step
    mine = steps.mine sh es u name p k x

    waits_other : (i : ℕ) → i ≢ j → waits (suc k) i ≡ waits k i
    waits_other = steps.waits_other sh es u name p k x

    waits_own : waits (suc k) j ≡ pending_after (waits k j) e.step
    waits_own = steps.waits_own sh es u name p k x

    inside_own : Inside (suc k) j ≡ is_inside (Inside k j) (entries_of c (Some s) e.step)
    inside_own = steps.inside_own sh es u name p k x

    inside_other : (i : ℕ) → i ≢ j → Inside (suc k) i ≡ Inside k i
    inside_other = steps.inside_other sh es u name p k x

    fits : fits_pair (Inside k j) (waits k j) e.step ≡ true
    fits = steps.fits sh es u name p k x

    source_stays : (i : ℕ) (source : Option ℕ) → in_variables source ≡ true → (i ≡ j → fits_pair (Inside k j) (Some source) e.step ≡ true) → stored (world (suc k)) i source ≡ stored (world k) i source
    source_stays = steps.source_stays sh es u name p k x

    quiet_free : stores_field e.step ≡ false → Free k → Free (suc k)
    quiet_free = steps.quiet_free sh es u name p k x

    quiet_half : stores_field e.step ≡ false → Half k → Half (suc k)
    quiet_half = steps.quiet_half sh es u name p k x

    -- a store in a field is one of the lock, whose seat is inside
    record Stores (v f : ℕ) (y : Option ℕ) : Type 0 where
      in_now : Inside k j ≡ true
      in_then : Inside (suc k) j ≡ true
      exists : in_variables y ≡ true
      object : WorldObject
      there : object_of (world k) name ≡ Some object
      after : object_of (world (suc k)) name ≡ Some (with_reference f (stored (world k) j y) object)
      room : f < length object.refs
      same : stored (world (suc k)) j y ≡ stored (world k) j y

    stores : (v f : ℕ) (y : Option ℕ) → e.step ≡ StoreField v f y → Stores v f y
    stores v f y is =
        let step : Step = StoreField v f y in
        let t : Taken c j s step = subst (λ (a : Step). Taken c j s a) is x.taken in
        let b = and_parts (nat_lt v 32 && nat_lt f c.shape.fields && in_variables y) (may_mutate s) t.ok.0 in
        let d = and_parts (nat_lt v 32 && nat_lt f c.shape.fields) (in_variables y) b.0 in
        let q = and_parts (nat_lt v 32) (nat_lt f c.shape.fields) d.0 in
        let mu : Mutates c j s = mutates c j s step t b.1 in
        let r : Refers c j s v (world k) (word_in s v - 1) = refers c j s step v (world k) t x.moment.agrees mu (ltb-true v 32 q.0) t.ok.1.0 in
        let it = split sh es u name p.takes k x j in
        let entry : Entry = event step (word_told c s step) in
        let one : adds j c e ≡ entry ∷ [] = mine ∙ ap (λ (a : Step). entries_of c (Some s) a) is in
        let log_is : log_from j (start sh es u name p.takes) es ≡ log k j ++ entry ∷ it.rest = it.whole ∙ (ap (λ (z : List Entry). (log k j ++ z) ++ it.rest) one ∙ append_assoc (log k j) (entry ∷ []) it.rest) in
        let lent = p.stored j (log k j) it.rest entry v f y log_is refl in
        let to : variable_of (world k) j v ≡ Some name = lent_by_log sh es p.takes.history u name p.takes.below p.takes.lends j v k lent.0 lent.1 in
        let named : name_at (words_of c.shape c.words).identities (word_in s v - 1) ≡ name = same_Some _ name (sym r.variable ∙ to) in
        let there : object_of (world k) name ≡ Some r.holds.object = ap (object_of (world k)) (sym named) ∙ r.holds.there in
        let fit : fits_pair (Inside k j) (waits k j) step ≡ true = subst (λ (a : Step). fits_pair (Inside k j) (waits k j) a ≡ true) is fits in
        let inside : Inside k j ≡ true = (and_parts (Inside k j) _ fit).0 in
        let made : world (suc k) ≡ with_object (world k) (Some name) (with_reference f (stored (world k) j y)) =
        moved ∙ (ap (λ (a : Step). world_by c.shape (words_of c.shape c.words) s a (world k)) is
        ∙ (ap (λ (z : ℕ). with_object (world k) (variable_of (world k) z v) (with_reference f (stored (world k) z y))) mu.own ∙ ap (λ (o : Option Name). with_object (world k) o (with_reference f (stored (world k) j y))) to)) in
        record {
          in_now = inside;
          in_then = inside_own ∙ (ap (λ (a : Step). is_inside (Inside k j) (entries_of c (Some s) a)) is ∙ inside);
          exists = d.1;
          object = r.holds.object;
          there = there;
          after = ap (λ (w : World). object_of w name) made ∙ object-changed (world k) name (with_reference f (stored (world k) j y)) r.holds.object there;
          room = omega (arith, ltb-true f c.shape.fields q.1, r.holds.room);
          same = stored_same y made d.1;
        }
      where
        stored_same : (z : Option ℕ) → world (suc k) ≡ with_object (world k) (Some name) (with_reference f (stored (world k) j y)) → in_variables z ≡ true → stored (world (suc k)) j z ≡ stored (world k) j z
        stored_same None made exists = refl
        stored_same (Some z) made exists = ap (λ (w : World). variable_of w j z) made ∙ object_keeps (λ (q : WorldSection). slice_index_or q.variables z None) (λ q objects. refl) (world k) (Some name) (with_reference f (stored (world k) j y)) j

    -- the waits after a store in a field
    waits_stored : (v f : ℕ) (y : Option ℕ) → e.step ≡ StoreField v f y → waits (suc k) j ≡ (if f == 0 then Some y else if f == 1 then None else waits k j)
    waits_stored v f y is = waits_own ∙ ap (pending_after (waits k j)) is

    store_free : (v f : ℕ) (y : Option ℕ) → e.step ≡ StoreField v f y → Free k → Free (suc k) ⊎ Half (suc k)
    store_free v f y is free = by_field (f == 0) (f == 1) refl refl
      where
        a : Stores v f y
        a = stores v f y is

        fit : (Inside k j && (if f == 0 then is_none (waits k j) else if f == 1 then is_pending (waits k j) y else true)) ≡ true
        fit = subst (λ (z : Step). fits_pair (Inside k j) (waits k j) z ≡ true) is fits

        by_field : (zero_field one_field : Bool) → (f == 0) ≡ zero_field → (f == 1) ≡ one_field → Free (suc k) ⊎ Half (suc k)
        by_field true one_field z o =
            let at : f ≡ 0 = eqb-true f 0 z in
            inr (record {
              seat = j;
              source = y;
              is = waits_stored v f y is ∙ ap (λ (b : Bool). if b then Some y else if f == 1 then None else waits k j) z;
              inside = a.in_then;
              exists = a.exists;
              only = λ i d. waits_other i d ∙ free.none i;
              object = with_reference f (stored (world k) j y) a.object;
              there = a.after;
              first =
                  ap (λ (n : ℕ). reference_of (with_reference f (stored (world k) j y) a.object) n) (sym at)
                  ∙ (get_or-set_same a.object.refs f (stored (world k) j y) None a.room ∙ sym a.same);
            })
        by_field false true z o =
            absurd (
            let q = (and_parts (Inside k j) (if f == 0 then is_none (waits k j) else if f == 1 then is_pending (waits k j) y else true) fit).1 in
            let r : (if f == 1 then is_pending (waits k j) y else true) ≡ true = subst (λ (b : Bool). (if b then is_none (waits k j) else if f == 1 then is_pending (waits k j) y else true) ≡ true) z q in
            let t : is_pending (waits k j) y ≡ true = subst (λ (b : Bool). (if b then is_pending (waits k j) y else true) ≡ true) o r in
            false≢true (subst (λ (w : Option (Option ℕ)). is_pending w y ≡ true) (free.none j) t)
            )
        by_field false false z o =
            inl (record {
              none =
                  λ i.
                  ⊎_elim
                  (λ (same : i ≡ j).
                  ap (waits (suc k)) same
                  ∙ (waits_stored v f y is
                  ∙ (ap (λ (b : Bool). if b then Some y else if f == 1 then None else waits k j) z ∙ (ap (λ (b : Bool). if b then None else waits k j) o ∙ free.none j))))
                  (λ (d : i ≢ j). waits_other i d ∙ free.none i)
                  (cases_eq i j);
              whole = whole;
            })
          where
            whole : IsWholePair (world (suc k)) name
            whole object at =
                let new : WorldObject = with_reference f (stored (world k) j y) a.object in
                let same : object ≡ new = same_Some object new (sym at ∙ a.after) in
                let zero_kept : reference_of new 0 ≡ reference_of a.object 0 = get_or-set_other a.object.refs f 0 _ None (λ q. eqb-false f 0 z (sym q)) in
                let one_kept : reference_of new 1 ≡ reference_of a.object 1 = get_or-set_other a.object.refs f 1 _ None (λ q. eqb-false f 1 o (sym q)) in
                ap (λ (n : WorldObject). reference_of n 0) same ∙ (zero_kept ∙ (free.whole a.object a.there ∙ (sym one_kept ∙ ap (λ (n : WorldObject). reference_of n 1) (sym same))))

    store_half : (v f : ℕ) (y : Option ℕ) → e.step ≡ StoreField v f y → Half k → Free (suc k) ⊎ Half (suc k)
    store_half v f y is h = by_field (f == 0) (f == 1) refl refl
      where
        a : Stores v f y
        a = stores v f y is

        here : h.seat ≡ j
        here = lock_by_log sh es u name p.takes k h.seat j h.inside a.in_now

        waiting : waits k j ≡ Some h.source
        waiting = ap (waits k) (sym here) ∙ h.is

        fit : (Inside k j && (if f == 0 then is_none (waits k j) else if f == 1 then is_pending (waits k j) y else true)) ≡ true
        fit = subst (λ (z : Step). fits_pair (Inside k j) (waits k j) z ≡ true) is fits

        rest_fit : (if f == 0 then is_none (waits k j) else if f == 1 then is_pending (waits k j) y else true) ≡ true
        rest_fit = (and_parts (Inside k j) (if f == 0 then is_none (waits k j) else if f == 1 then is_pending (waits k j) y else true) fit).1

        same_object : a.object ≡ h.object
        same_object = same_Some a.object h.object (sym a.there ∙ h.there)

        first : reference_of a.object 0 ≡ stored (world k) j h.source
        first = ap (λ (n : WorldObject). reference_of n 0) same_object ∙ (h.first ∙ ap (λ (i : ℕ). stored (world k) i h.source) here)

        others_none : (i : ℕ) → i ≢ j → waits (suc k) i ≡ None
        others_none i d = waits_other i d ∙ h.only i (λ z. d (z ∙ here))

        whole : h.source ≡ y → (f == 0) ≡ false → (f == 1) ≡ true → IsWholePair (world (suc k)) name
        whole source z o object at =
            let new : WorldObject = with_reference f (stored (world k) j y) a.object in
            let is_one : f ≡ 1 = eqb-true f 1 o in
            let same : object ≡ new = same_Some object new (sym at ∙ a.after) in
            let zero_kept : reference_of new 0 ≡ reference_of a.object 0 = get_or-set_other a.object.refs f 0 _ None (λ q. eqb-false f 0 z (sym q)) in
            let one_new : reference_of new 1 ≡ stored (world k) j y = ap (λ (n : ℕ). reference_of new n) (sym is_one) ∙ get_or-set_same a.object.refs f (stored (world k) j y) None a.room in
            ap (λ (n : WorldObject). reference_of n 0) same
            ∙ (zero_kept ∙ (first ∙ (ap (stored (world k) j) source ∙ (sym one_new ∙ ap (λ (n : WorldObject). reference_of n 1) (sym same)))))

        by_field : (zero_field one_field : Bool) → (f == 0) ≡ zero_field → (f == 1) ≡ one_field → Free (suc k) ⊎ Half (suc k)
        by_field true one_field z o =
            absurd (
            let t : is_none (waits k j) ≡ true = subst (λ (b : Bool). (if b then is_none (waits k j) else if f == 1 then is_pending (waits k j) y else true) ≡ true) z rest_fit in
            some_other (waits k j) h.source waiting t
            )
        by_field false true z o =
            let r : (if f == 1 then is_pending (waits k j) y else true) ≡ true = subst (λ (b : Bool). (if b then is_none (waits k j) else if f == 1 then is_pending (waits k j) y else true) ≡ true) z rest_fit in
            let t : is_pending (waits k j) y ≡ true = subst (λ (b : Bool). (if b then is_pending (waits k j) y else true) ≡ true) o r in
            let source : h.source ≡ y = source_is h.source y (subst (λ (w : Option (Option ℕ)). is_pending w y ≡ true) waiting t) in
            inl (record {
              none =
                  λ i.
                  ⊎_elim
                  (λ (same : i ≡ j). ap (waits (suc k)) same ∙ (waits_stored v f y is ∙ (ap (λ (b : Bool). if b then Some y else if f == 1 then None else waits k j) z ∙ ap (λ (b : Bool). if b then None else waits k j) o)))
                  (λ (d : i ≢ j). others_none i d)
                  (cases_eq i j);
              whole = whole source z o;
            })
        by_field false false z o =
            inr (record {
              seat = j;
              source = h.source;
              is = waits_stored v f y is ∙ (ap (λ (b : Bool). if b then Some y else if f == 1 then None else waits k j) z ∙ (ap (λ (b : Bool). if b then None else waits k j) o ∙ waiting));
              inside = a.in_then;
              exists = h.exists;
              only = others_none;
              object = with_reference f (stored (world k) j y) a.object;
              there = a.after;
              first = get_or-set_other a.object.refs f 0 _ None (λ q. eqb-false f 0 z (sym q)) ∙ (first ∙ sym (source_stays j h.source h.exists (λ _. kept_fit)));
            })
          where
            kept_fit : fits_pair (Inside k j) (Some h.source) e.step ≡ true
            kept_fit = subst (λ (w : Option (Option ℕ)). fits_pair (Inside k j) w e.step ≡ true) waiting fits

    next_free : (a : Step) → e.step ≡ a → Free k → Free (suc k) ⊎ Half (suc k)
    next_free (StoreField v f y) is free = store_free v f y is free
    next_free (ExchangeField v f y z) is free = absurd (false≢true (subst (λ (b : Step). fits_pair (Inside k j) (waits k j) b ≡ true) is fits))
    next_free a is free = inl (quiet_free (ap stores_field is) free)

    next_half : (a : Step) → e.step ≡ a → Half k → Free (suc k) ⊎ Half (suc k)
    next_half (StoreField v f y) is h = store_half v f y is h
    next_half (ExchangeField v f y z) is h = absurd (false≢true (subst (λ (b : Step). fits_pair (Inside k j) (waits k j) b ≡ true) is fits))
    next_half a is h = inr (quiet_half (ap stores_field is) h)

    -- who comes in stores in no field
    comes_quiet : (a : Step) → e.step ≡ a → Inside k j ≡ false → stores_field a ≡ false
    comes_quiet (StoreField v f y) is out = absurd (true≢false (sym (stores v f y is).in_now ∙ out))
    comes_quiet (ExchangeField v f y z) is out = absurd (false≢true (subst (λ (b : Step). fits_pair (Inside k j) (waits k j) b ≡ true) is fits))
    comes_quiet a is out = refl

  status : (k : ℕ) → k ≤ length es → Free k ⊎ Half k
  status zero h = inl (record { none = λ i. refl; whole = λ object at. absurd (none_made object at) })
    where
      none_made : (object : WorldObject) → object_of (world zero) name ≡ Some object → ⊥
      none_made object at = starts_empty sh name object at
  status (suc k) h =
      let x = event_at sh es u name p.takes k (omega (arith, h)) in
      ⊎_elim (λ (free : Free k). next_free k x x.event.step refl free) (λ (half : Half k). next_half k x x.event.step refl half) (status k (omega (arith, h)))

  comes : (k i : ℕ) → k < length es → Inside k i ≡ false → Inside (suc k) i ≡ true → IsWholePair (world k) name × IsWholePair (world (suc k)) name
  comes k i h out come =
      ⊎_elim
      (λ (free : Free k). (free.whole, (quiet_free k x (comes_quiet k x x.event.step refl (ap (Inside k) (sym own_turn) ∙ out)) free).whole))
      (λ (half : Half k).
      let differ : half.seat ≢ i = λ z. true≢false (sym half.inside ∙ (ap (Inside k) z ∙ out)) in
      let still : Inside (suc k) half.seat ≡ true = inside_other k x half.seat (λ z. differ (z ∙ sym own_turn)) ∙ half.inside in
      absurd (differ (lock_by_log sh es u name p.takes (suc k) half.seat i still come)))
      (status k (omega (arith, h)))
    where
      x : Happening sh es u name p.takes k
      x = event_at sh es u name p.takes k h

      own_turn : i ≡ x.event.seat
      own_turn = ⊎_elim (λ (same : i ≡ x.event.seat). same) (λ (d : i ≢ x.event.seat). absurd (true≢false (sym come ∙ (inside_other k x i d ∙ out)))) (cases_eq i x.event.seat)

pub pair_by_log : PairByLog
pair_by_log sh es u name p k i h out come =
    let plus : suc k ≡ k + 1 = omega arith in
    let minus : k + 1 ≡ suc k = omega arith in
    let r = comes sh es u name p k i h out (subst (λ (n : ℕ). is_inside false (log_of sh (take n es) i) ≡ true) minus come) in
    (r.0, subst (λ (n : ℕ). IsWholePair (heap_after_events sh es n) name) plus r.1)
