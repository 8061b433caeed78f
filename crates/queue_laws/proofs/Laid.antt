-- What the heap is like while one seat lays a queue out.
use Rattle.std.proofs.Common.{ℕ, ◌≡◌, ◌≢◌, ◌⊎◌, ◌-◌, ◌<◌, ◌≤◌, ◌==◌, ◌&&◌, ◌∙◌, zero, suc, List, [], take, length, arith, refl, sym, ap, subst, inl, inr, ⊎_elim, Bool, true, Option, None, Some, eqb-true}
use Rattle.std.specs.Prelude.{if◌then◌else◌, nat_lt, replicate, slice_get, slice_index_or}
use Rattle.std.proofs.lemmas.Bool.{and_parts, cases_eq, false≢true, ltb-true, ne_eqb}
use Rattle.std.proofs.lemmas.List.{get_or-set_other, get_or-set_same}
use Rattle.std.proofs.lemmas.Option.{same_Some}
use Rattle.plain_heap.specs.Paths.{Name}
use Rattle.mark_core.specs.Layout.{words_of}
use Rattle.mark_core.specs.Seats.{may_mutate}
use Rattle.mark_core.specs.Steps.{Core, run_of, start_core}
use Rattle.mark_core.specs.Steps.MutatorSteps.{in_variables, seat_variable}
use Rattle.mark_core.specs.declared.kinds.Event.{Event}
use Rattle.mark_core.specs.declared.kinds.Shape.{Shape}
use Rattle.mark_core.specs.declared.kinds.Step.{Step}
use Rattle.mark_core.specs.declared.kinds.Step.TheVariants.{ExchangeField, StoreField}
use Rattle.mark_core.specs.declared.seat.SeatState.{SeatState}
use Rattle.mark_core.proofs.Blocks.BlocksStopped.{Taken}
use Rattle.gc_table.specs.AgreementLaws.{HasReference, world_run}
use Rattle.gc_table.specs.Lending.{RefersTo, leaves_variable}
use Rattle.gc_table.specs.Log.{all_steps}
use Rattle.gc_table.specs.Past.{log_of}
use Rattle.gc_table.specs.RunWorlds.{World, WorldObject, name_at, object_of, own_section, reference_of, new_section, start_section, start_world, stored, variable_of, with_object, with_reference, world_by}
use Rattle.gc_table.proofs.Frame.{Mutates, mutates}
use Rattle.gc_table.proofs.Reading.{none-some, object-changed}
use Rattle.gc_table.proofs.Stores.{Refers, refers}
use Rattle.heap_laws.specs.Moments.{IsHistory}
use Rattle.heap_laws.specs.Pairs.{is_source}
use Rattle.heap_laws.proofs.Fields.{stores_field}
use Rattle.heap_laws.proofs.PairLogs.{source_is}
use Rattle.queue_laws.specs.LentQueues.{Laying, keeps_objects, laid_after, layings, nothing_laid, only_lays}
use Rattle.queue_laws.specs.QueueLogs.{AreHands, Hands}
use Rattle.queue_laws.proofs.Moves.{made_next, stored_next}
use Rattle.queue_laws.proofs.LaidSteps as steps

module _ (sh : Shape) (es : List Event) (h : IsHistory sh es) (u : ℕ) (hd : Hands) (hands : AreHands hd) (root : Name) (below : u < 32) (lends : (k : ℕ) → RefersTo sh es u root k) (m : ℕ) (inside : m < sh.sections) (only : (layings u hd nothing_laid (log_of sh es m)).only ≡ true)
    (quiet : (i : ℕ) → i ≢ m → all_steps keeps_objects (log_of sh es i) ≡ true) where
  abbrev core : ℕ → Core
  core k = run_of (take k es) (start_core sh 1)

  abbrev heap : ℕ → World
  heap k = world_run (take k es) (start_core sh 1) (start_world sh)

  abbrev hand : ℕ → Laying
  hand k = layings u hd nothing_laid (log_of sh (take k es) m)

  abbrev own : ℕ → Option Name
  own k = variable_of (heap k) m hd.own

  abbrev pub Laid : ℕ → Type 0
  Laid k = steps.Laid sh es h u hd hands root below lends m inside only quiet k

  abbrev At : ℕ → Type 0
  At k = steps.At sh es h u hd hands root below lends m inside only quiet k

  module _ (k : ℕ) (x : At k) (before : Laid k) where
    abbrev e : Event
    e = x.event

    abbrev s : SeatState
    s = x.seat

    abbrev c : Core
    c = core k

    abbrev Told : ℕ → Bool → Bool → Type 0
    Told f was now = steps.Told sh es h u hd hands root below lends m inside only quiet k x before f was now

    -- a store in a field
    module _ (v i : ℕ) (y : Option ℕ) (is : e.step ≡ StoreField v i y) where
      mine : m ≡ e.seat
      mine = ⊎_elim (λ (same : e.seat ≡ m). sym same) (λ (d : e.seat ≢ m). absurd (false≢true (sym (ap keeps_objects is) ∙ steps.others_keep sh es h u hd hands root below lends m inside only quiet k x before d))) (cases_eq e.seat m)

      lays : ((hand k).lent ≡ true) × (v ≡ hd.queue) × (y ≡ Some hd.own)
      lays =
          let a = and_parts (hand k).lent ((v == hd.queue) && is_source y (Some hd.own)) (sym (ap (only_lays hd (hand k).lent) is) ∙ steps.own_lays sh es h u hd hands root below lends m inside only quiet k x before mine) in
          let b = and_parts (v == hd.queue) (is_source y (Some hd.own)) a.1 in
          (a.0, eqb-true v hd.queue b.0, source_is y (Some hd.own) b.1)

      act : Taken c e.seat s (StoreField v i y)
      act = subst (λ (a : Step). Taken c e.seat s a) is x.act

      parts : ((nat_lt v 32 ≡ true) × (nat_lt i c.shape.fields ≡ true)) × (may_mutate s ≡ true)
      parts =
          let b = and_parts (nat_lt v 32 && nat_lt i c.shape.fields && in_variables y) (may_mutate s) act.ok.0 in
          let d = and_parts (nat_lt v 32 && nat_lt i c.shape.fields) (in_variables y) b.0 in
          let f = and_parts (nat_lt v 32) (nat_lt i c.shape.fields) d.0 in
          ((f.0, f.1), b.1)

      mu : Mutates c e.seat s
      mu = mutates c e.seat s (StoreField v i y) act parts.1

      target : Refers c e.seat s v (heap k) (seat_variable s v - 1)
      target = refers c e.seat s (StoreField v i y) v (heap k) act x.agrees mu (ltb-true v 32 parts.0.0) act.ok.1.0

      at_root : variable_of (heap k) (own_section s) v ≡ Some root
      at_root = ap (λ (n : ℕ). variable_of (heap k) n v) (mu.own ∙ sym mine) ∙ (ap (variable_of (heap k) m) lays.1 ∙ steps.lent_at sh es h u hd hands root below lends m inside only quiet k lays.0)

      given : stored (heap k) (own_section s) y ≡ own k
      given = ap (λ (n : ℕ). stored (heap k) n y) (mu.own ∙ sym mine) ∙ ap (stored (heap k) m) lays.2

      abbrev object : WorldObject
      object = target.holds.object

      root_there : object_of (heap k) root ≡ Some object
      root_there = ap (object_of (heap k)) (same_Some root (name_at (words_of c.shape c.words).identities (seat_variable s v - 1)) (sym at_root ∙ (ap (λ (n : ℕ). variable_of (heap k) n v) mu.own ∙ target.variable))) ∙ target.holds.there

      room : i < length object.refs
      room = let long = target.holds.room in let low = ltb-true i c.shape.fields parts.0.1 in omega (arith, long, low)

      heap_is : heap (suc k) ≡ with_object (heap k) (Some root) (with_reference i (own k))
      heap_is =
          steps.moved sh es h u hd hands root below lends m inside only quiet k x before
          ∙ (ap (λ (a : Step). world_by c.shape (words_of c.shape c.words) s a (heap k)) is
          ∙ (ap (λ (o : Option Name). with_object (heap k) o (with_reference i (stored (heap k) (own_section s) y))) at_root ∙ ap (λ (o : Option Name). with_object (heap k) (Some root) (with_reference i o)) given))

      root_now : object_of (heap (suc k)) root ≡ Some (with_reference i (own k) object)
      root_now = ap (λ (w : World). object_of w root) heap_is ∙ object-changed (heap k) root (with_reference i (own k)) object root_there

      own_same : own (suc k) ≡ own k
      own_same = steps.own_stays sh es h u hd hands root below lends m inside only quiet k x before (λ same. ap (leaves_variable hd.own) is)

      laid_stored : (f : ℕ) (was now : Bool) → Told f was now → (was ≡ true → HasReference (heap k) root f (own k)) → now ≡ true → HasReference (heap (suc k)) root f (own (suc k))
      laid_stored f was now told had t =
          ⊎_elim
          (λ (same : f ≡ i). (with_reference i (own k) object, root_now, ap (reference_of (with_reference i (own k) object)) same ∙ (get_or-set_same object.refs i (own k) None room ∙ sym own_same)))
          (λ (d : f ≢ i).
          let o = had (old d) in
          (with_reference i (own k) object, root_now, get_or-set_other object.refs i f (own k) None d ∙ (ap (λ (z : WorldObject). reference_of z f) (same_Some object o.0 (sym root_there ∙ o.1)) ∙ (o.2 ∙ sym own_same))))
          (cases_eq f i)
        where
          old : f ≢ i → was ≡ true
          old d = by_told (told.1 mine)
            where
              by_told : ((now ≡ was) × ((z : ℕ) → leaves_variable z e.step ≡ true)) ⊎ (now ≡ laid_after hd.own f was e.step) → was ≡ true
              by_told (inl z) = sym z.0 ∙ t
              by_told (inr z) = sym (ap (λ (b : Bool). if b then true else was) (ne_eqb i f (λ q. d (sym q)))) ∙ (sym (z ∙ ap (laid_after hd.own f was) is) ∙ t)

      others_stored : (name : Name) (a : WorldObject) → object_of (heap (suc k)) name ≡ Some a → name ≢ root → (f : ℕ) → reference_of a f ≡ None
      others_stored name a now d f = by_object (object_of (heap k) name) refl
        where
          by_object : (o : Option WorldObject) → object_of (heap k) name ≡ o → reference_of a f ≡ None
          by_object (Some o) was =
              let r = stored_next c e s v i y (heap k) name o x.act.got is was in
              let same : a ≡ r.0 = same_Some a r.0 (sym now ∙ (ap (λ (w : World). object_of w name) x.after ∙ r.1)) in
              ap (λ (z : WorldObject). reference_of z f) same ∙ (r.3 f (λ to. absurd (d (same_Some name root (sym to ∙ at_root)))) ∙ before.others name o was d f)
          by_object None was = made_next c e s (heap k) name a f x.act.got was (ap (λ (w : World). object_of w name) (sym x.after) ∙ now)

    laid_next : Laid (suc k)
    laid_next = by_step e.step refl
      where
        by_step : (a : Step) → e.step ≡ a → Laid (suc k)
        by_step (StoreField v i y) is =
            record {
              none = steps.none_after sh es h u hd hands root below lends m inside only quiet k x before;
              apart = steps.apart_after sh es h u hd hands root below lends m inside only quiet k x before;
              others = others_stored v i y is;
              first = laid_stored v i y is 0 (hand k).first (hand (suc k)).first (steps.told_first sh es h u hd hands root below lends m inside only quiet k x before) before.first;
              last = laid_stored v i y is 1 (hand k).last (hand (suc k)).last (steps.told_last sh es h u hd hands root below lends m inside only quiet k x before) before.last;
            }
        by_step (ExchangeField v i y z) is =
            absurd
            (⊎_elim
            (λ (same : m ≡ e.seat). false≢true (sym (ap (only_lays hd (hand k).lent) is) ∙ steps.own_lays sh es h u hd hands root below lends m inside only quiet k x before same))
            (λ (d : m ≢ e.seat). false≢true (sym (ap keeps_objects is) ∙ steps.others_keep sh es h u hd hands root below lends m inside only quiet k x before (λ q. d (sym q))))
            (cases_eq m e.seat))
        by_step a is = steps.quiet_next sh es h u hd hands root below lends m inside only quiet k x before (ap stores_field is)

  no_objects : (n j : ℕ) → (slice_index_or (replicate n (start_section sh)) j new_section).objects ≡ []
  no_objects zero zero = refl
  no_objects zero (suc j) = refl
  no_objects (suc n) zero = refl
  no_objects (suc n) (suc j) = no_objects n j

  pub laid : (k : ℕ) → k ≤ length es → Laid k
  laid zero l =
      record {
        none = λ t. ap (λ (xs : List WorldObject). length xs) (no_objects sh.sections m);
        apart = λ t. absurd (false≢true t);
        others = λ name object now d f. absurd (none-some object (ap (λ (xs : List WorldObject). slice_get xs name.number) (sym (no_objects sh.sections name.section)) ∙ now));
        first = λ t. absurd (false≢true t);
        last = λ t. absurd (false≢true t);
      }
  laid (suc k) l = laid_next k (steps.at sh es h u hd hands root below lends m inside only quiet k (omega (arith, l))) (laid k (omega (arith, l)))
