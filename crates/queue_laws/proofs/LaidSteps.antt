-- What the heap is like while one seat lays a queue out, after a step that stores in no field.
use Rattle.std.proofs.Common.{ℕ, ◌≡◌, ◌≢◌, ◌⊎◌, ◌+◌, ◌<◌, ◌&&◌, ◌∙◌, suc, List, [], ◌++◌, take, length, arith, refl, sym, ap, subst, inl, inr, ⊎_elim, Bool, true, false, Option, None, Some}
use Rattle.std.specs.Prelude.{slice_get, slice_index_or}
use Rattle.std.proofs.lemmas.Bool.{and_parts, cases_eq, or_cases}
use Rattle.std.proofs.lemmas.Option.{same_Some, slice_get_within}
use Rattle.plain_heap.specs.Paths.{Name}
use Rattle.mark_core.specs.Layout.{words_of}
use Rattle.mark_core.specs.Steps.{Core, run_of, start_core}
use Rattle.mark_core.specs.declared.kinds.Event.{Event}
use Rattle.mark_core.specs.declared.kinds.Shape.{Shape}
use Rattle.mark_core.specs.declared.kinds.Step.{Step}
use Rattle.mark_core.specs.declared.kinds.Step.TheVariants.{Join, Split}
use Rattle.mark_core.specs.declared.seat.SeatState.{SeatState}
use Rattle.mark_core.proofs.Known.{Acted, acts}
use Rattle.mark_core.proofs.Blocks.BlocksStopped.{Taken}
use Rattle.gc_table.specs.Agreement.{AgreesWith}
use Rattle.gc_table.specs.AgreementLaws.{HasReference, IsCellFor, world_after, world_of, world_run}
use Rattle.gc_table.specs.Lending.{RefersTo, leaves_variable}
use Rattle.gc_table.specs.Log.{all_steps}
use Rattle.gc_table.specs.Past.{adds, entries_of, log_of, word_told}
use Rattle.gc_table.specs.RunWorlds.{World, WorldObject, WorldSection, object_of, reference_of, section_of, start_world, variable_of, world_by}
use Rattle.gc_table.specs.declared.view.Entry.{Entry}
use Rattle.gc_table.proofs.Counted.{logged_all, other_adds, own_adds}
use Rattle.gc_table.proofs.Kept.{agrees-starts}
use Rattle.gc_table.proofs.Lending.{agree-on, all_split}
use Rattle.gc_table.proofs.Reached.{along}
use Rattle.heap_laws.specs.Moments.{IsHistory}
use Rattle.heap_laws.proofs.Fields.{kept_refs, stores_field}
use Rattle.heap_laws.proofs.Lent.{lent_by_log}
use Rattle.heap_laws.proofs.Moments.{Next, each-allowed, next-at}
use Rattle.heap_laws.proofs.Sections.{section_stays, variable_stays}
use Rattle.heap_laws.proofs.SplitLogs.{SplitLog, split_log}
use Rattle.queue_laws.specs.LentQueues.{Laying, keeps_objects, laid_after, laying_after, layings, makes_none, nothing_laid, only_lays}
use Rattle.queue_laws.specs.QueueLogs.{AreHands, Hands}
use Rattle.queue_laws.proofs.MakeLogs.{shape_on}
use Rattle.queue_laws.proofs.Moves.{made_next}
use Rattle.queue_laws.proofs.Tries.{cell_there}
use Rattle.queue_laws.proofs.LaidLogs.{data_none, laid_kept, layings_join, lent_told, none_next, only_before}

module _ (sh : Shape) (es : List Event) (h : IsHistory sh es) (u : ℕ) (hd : Hands) (hands : AreHands hd) (root : Name) (below : u < 32) (lends : (k : ℕ) → RefersTo sh es u root k) (m : ℕ) (inside : m < sh.sections) (only : (layings u hd nothing_laid (log_of sh es m)).only ≡ true)
    (quiet : (i : ℕ) → i ≢ m → all_steps keeps_objects (log_of sh es i) ≡ true) where
  abbrev pub core : ℕ → Core
  core k = run_of (take k es) (start_core sh 1)

  abbrev pub heap : ℕ → World
  heap k = world_run (take k es) (start_core sh 1) (start_world sh)

  abbrev log : ℕ → ℕ → List Entry
  log i k = log_of sh (take k es) i

  abbrev pub hand : ℕ → Laying
  hand k = layings u hd nothing_laid (log m k)

  -- what the own variable refers to
  abbrev pub own : ℕ → Option Name
  own k = variable_of (heap k) m hd.own

  pub record Laid (k : ℕ) : Type 0 where
    pub none : (hand k).none ≡ true → length (section_of (heap k) m).objects ≡ 0
    pub apart : (hand k).apart ≡ true → root.section ≢ m
    pub others : (name : Name) (object : WorldObject) → object_of (heap k) name ≡ Some object → name ≢ root → (f : ℕ) → reference_of object f ≡ None
    pub first : (hand k).first ≡ true → HasReference (heap k) root 0 (own k)
    pub last : (hand k).last ≡ true → HasReference (heap k) root 1 (own k)

  -- the queue's variable has what is lent
  pub lent_at : (k : ℕ) → (hand k).lent ≡ true → variable_of (heap k) m hd.queue ≡ Some root
  lent_at k e = lent_by_log sh es h u root below lends m hd.queue k hands.exist.0 (sym (lent_told u hd nothing_laid (log m k)) ∙ e)

  -- an object that a variable refers to is there
  pub there_by : (k v : ℕ) (name : Name) → v < 32 → variable_of (heap k) m v ≡ Some name → (object : WorldObject) × (object_of (heap k) name ≡ Some object)
  there_by k v name low e = by_cell (along (core k) (heap k) name [] (h.sound k) agrees (m, v, omega (arith, here, a), omega (arith, low, long), e))
    where
      agrees : AgreesWith (core k) (heap k)
      agrees = agree-on es (start_core sh 1) (start_world sh) h.sound (each-allowed sh es h) (agrees-starts sh 1 (h.sound 0).formed.shaped) k

      same : (core k).shape ≡ sh
      same = shape_on es (start_core sh 1) (each-allowed sh es h) k

      here : m < (core k).shape.sections
      here = subst (λ (z : Shape). m < z.sections) (sym same) inside

      a : length (heap k) ≡ (core k).shape.sections
      a = agrees.sections

      long : length (section_of (heap k) m).variables ≡ 32 + (core k).shape.slots
      long = agrees.variables m here

      by_cell : (x : ℕ) × IsCellFor (core k) (heap k) name x → (object : WorldObject) × (object_of (heap k) name ≡ Some object)
      by_cell p = cell_there (core k) (heap k) name p

  -- the event after the first k
  pub record At (k : ℕ) : Type 0 where
    pub event : Event
    pub there : slice_get es k ≡ Some event
    pub seat : SeatState
    pub act : Taken (core k) event.seat seat event.step
    pub agrees : AgreesWith (core k) (heap k)
    pub after : heap (suc k) ≡ world_after (core k) event (heap k)

  pub at : (k : ℕ) → k < length es → At k
  at k l =
      let n : Next es (start_core sh 1) (start_world sh) k = next-at es (start_core sh 1) (start_world sh) (each-allowed sh es h) k l in
      let r : (s : SeatState) × Acted (core k) n.event s = acts (core k) n.event (h.sound k) n.allowed in
      record {
        event = n.event;
        there = n.there;
        seat = r.0;
        act = record { core = h.sound k; got = r.1.seat; live = r.1.live; ok = r.1.ok };
        agrees = agree-on es (start_core sh 1) (start_world sh) h.sound (each-allowed sh es h) (agrees-starts sh 1 (h.sound 0).formed.shaped) k;
        after = n.heap;
      }

  module _ (k : ℕ) (x : At k) (before : Laid k) where
    abbrev e : Event
    e = x.event

    abbrev s : SeatState
    s = x.seat

    abbrev c : Core
    c = core k

    split : (i : ℕ) → SplitLog i es (start_core sh 1) k e
    split i = split_log i es (start_core sh 1) (each-allowed sh es h) k e x.there

    pub moved : heap (suc k) ≡ world_by c.shape (words_of c.shape c.words) s e.step (heap k)
    moved = x.after ∙ ap (λ (o : Option SeatState). world_of c o e.step (heap k)) x.act.got

    hand_next : hand (suc k) ≡ layings u hd (hand k) (adds m c e)
    hand_next = ap (layings u hd nothing_laid) (split m).more ∙ layings_join u hd nothing_laid (log m k) (adds m c e)

    -- after a step of another seat
    hand_other : m ≢ e.seat → hand (suc k) ≡ hand k
    hand_other d = hand_next ∙ ap (layings u hd (hand k)) (other_adds m c e d)

    -- after an own one
    abbrev after_own : Laying
    after_own = layings u hd (hand k) (entries_of c (Some s) e.step)

    abbrev after_step : Laying
    after_step = laying_after u hd (hand k) e.step (word_told c s e.step)

    now_own : m ≡ e.seat → hand (suc k) ≡ after_own
    now_own same = hand_next ∙ ap (layings u hd (hand k)) (ap (λ (i : ℕ). adds i c e) same ∙ own_adds c e s x.act.got)

    hand_own : m ≡ e.seat → ((hand (suc k) ≡ hand k) × ((v : ℕ) → leaves_variable v e.step ≡ true)) ⊎ (hand (suc k) ≡ after_step)
    hand_own same = by_entries (data_none u hd (hand k) c s e.step)
      where
        by_entries : ((after_own ≡ hand k) × ((v : ℕ) → leaves_variable v e.step ≡ true)) ⊎ (after_own ≡ after_step) → ((hand (suc k) ≡ hand k) × ((v : ℕ) → leaves_variable v e.step ≡ true)) ⊎ (hand (suc k) ≡ after_step)
        by_entries (inl z) = inl (now_own same ∙ z.0, z.1)
        by_entries (inr z) = inr (now_own same ∙ z)

    only_next : (hand (suc k)).only ≡ true
    only_next =
        let whole : (layings u hd nothing_laid ((log m k ++ adds m c e) ++ (split m).rest)).only ≡ true = ap (λ (l : List Entry). (layings u hd nothing_laid l).only) (sym (split m).whole) ∙ only in
        ap (λ (l : List Entry). (layings u hd nothing_laid l).only) (split m).more
        ∙ only_before u hd (layings u hd nothing_laid (log m k ++ adds m c e)) (split m).rest (ap (λ (z : Laying). z.only) (sym (layings_join u hd nothing_laid (log m k ++ adds m c e) (split m).rest)) ∙ whole)

    -- a step of another seat changes no object
    pub others_keep : e.seat ≢ m → keeps_objects e.step ≡ true
    others_keep d =
        let all : all_steps keeps_objects ((log e.seat k ++ adds e.seat c e) ++ (split e.seat).rest) ≡ true = subst (λ (l : List Entry). all_steps keeps_objects l ≡ true) (split e.seat).whole (quiet e.seat d) in
        let front = all_split keeps_objects (log e.seat k ++ adds e.seat c e) (split e.seat).rest all in
        let own_part = all_split keeps_objects (log e.seat k) (adds e.seat c e) front.0 in
        logged_all keeps_objects refl (λ o. refl) c s e.step (subst (λ (l : List Entry). all_steps keeps_objects l ≡ true) (own_adds c e s x.act.got) own_part.1)

    -- one of the own seat only lays
    pub own_lays : m ≡ e.seat → only_lays hd (hand k).lent e.step ≡ true
    own_lays same =
        let now : (layings u hd (hand k) (entries_of c (Some s) e.step)).only ≡ true =
        ap (λ (z : Laying). z.only) (sym (now_own same)) ∙ only_next in
        by_step e.step now
      where
        by_step : (a : Step) → (layings u hd (hand k) (entries_of c (Some s) a)).only ≡ true → only_lays hd (hand k).lent a ≡ true
        by_step Split t = refl
        by_step (Join o) t = refl
        by_step a t = (and_parts (hand k).only (only_lays hd (hand k).lent a) t).1

    -- the count of the own objects
    pub none_after : (hand (suc k)).none ≡ true → length (section_of (heap (suc k)) m).objects ≡ 0
    none_after t =
        ap (λ (w : World). length (section_of w m).objects) moved
        ∙ (none_next c e.seat s e.step (heap k) m x.act makes ∙ before.none old)
      where
        by_own : m ≡ e.seat → ((hand k).none ≡ true) × (makes_none e.step ≡ true)
        by_own same = by_entries e.step (ap (λ (z : Laying). z.none) (sym (now_own same)) ∙ t)
          where
            by_entries : (a : Step) → (layings u hd (hand k) (entries_of c (Some s) a)).none ≡ true → ((hand k).none ≡ true) × (makes_none a ≡ true)
            by_entries Split z = (z, refl)
            by_entries (Join o) z = (z, refl)
            by_entries a z = and_parts (hand k).none (makes_none a) z

        makes : m ≡ e.seat → makes_none e.step ≡ true
        makes same = (by_own same).1

        old : (hand k).none ≡ true
        old = ⊎_elim (λ (same : m ≡ e.seat). (by_own same).0) (λ (d : m ≢ e.seat). ap (λ (z : Laying). z.none) (sym (hand_other d)) ∙ t) (cases_eq m e.seat)

    -- what is lent isn't of the own section, if it was there before this section had an object
    apart_now : (hand (suc k)).lent ≡ true → (hand (suc k)).none ≡ true → root.section ≢ m
    apart_now lent none same =
        let o = there_by (suc k) hd.queue root hands.exist.0 (lent_at (suc k) lent) in
        let few = none_after none in
        let within = slice_get_within (section_of (heap (suc k)) root.section).objects root.number o.0 o.1 in
        let here : length (section_of (heap (suc k)) root.section).objects ≡ length (section_of (heap (suc k)) m).objects = ap (λ (n : ℕ). length (section_of (heap (suc k)) n).objects) same in
        omega (arith, few, within, here)

    -- the own variable, if it was left
    pub own_stays : (m ≡ e.seat → leaves_variable hd.own e.step ≡ true) → own (suc k) ≡ own k
    own_stays leaves =
        ap (λ (w : World). variable_of w m hd.own) moved
        ∙ ⊎_elim
        (λ (same : m ≡ e.seat). variable_stays c s e.step (heap k) m hd.own hands.exist.1 (leaves same))
        (λ (d : m ≢ e.seat). section_stays (λ (z : WorldSection). slice_index_or z.variables hd.own None) (λ z objects. refl) c e.seat s e.step (heap k) m x.act d)
        (cases_eq m e.seat)

    -- the references of an object after a step that stores in no field
    kept_object : stores_field e.step ≡ false → (name : Name) (o : WorldObject) → object_of (heap k) name ≡ Some o → (a : WorldObject) × (object_of (heap (suc k)) name ≡ Some a) × (a.refs ≡ o.refs)
    kept_object none name o was = let r = kept_refs c e s (heap k) name o x.act.got none was in (r.0, ap (λ (w : World). object_of w name) x.after ∙ r.1, r.2)

    others_quiet : stores_field e.step ≡ false → (name : Name) (object : WorldObject) → object_of (heap (suc k)) name ≡ Some object → name ≢ root → (f : ℕ) → reference_of object f ≡ None
    others_quiet none name object now d f = by_object (object_of (heap k) name) refl
      where
        by_object : (o : Option WorldObject) → object_of (heap k) name ≡ o → reference_of object f ≡ None
        by_object (Some o) was =
            let r = kept_object none name o was in
            let same : object ≡ r.0 = same_Some object r.0 (sym now ∙ r.1) in
            ap (λ (z : WorldObject). reference_of z f) same ∙ (ap (λ (l : List (Option Name)). slice_index_or l f None) r.2 ∙ before.others name o was d f)
        by_object None was = made_next c e s (heap k) name object f x.act.got was (ap (λ (w : World). object_of w name) (sym x.after) ∙ now)

    -- what a fold over the log says of a field, after this event
    abbrev pub Told : ℕ → Bool → Bool → Type 0
    Told f was now = (m ≢ e.seat → now ≡ was) × (m ≡ e.seat → ((now ≡ was) × ((v : ℕ) → leaves_variable v e.step ≡ true)) ⊎ (now ≡ laid_after hd.own f was e.step))

    laid_quiet : (f : ℕ) (was now : Bool) → Told f was now → stores_field e.step ≡ false → (was ≡ true → HasReference (heap k) root f (own k)) → now ≡ true → HasReference (heap (suc k)) root f (own (suc k))
    laid_quiet f was now told none had t = (r.0, r.1, ap (λ (l : List (Option Name)). slice_index_or l f None) r.2 ∙ ((had old.0).2 ∙ sym (own_stays old.1)))
      where
        by_own : m ≡ e.seat → (was ≡ true) × (leaves_variable hd.own e.step ≡ true)
        by_own same = by_told (told.1 same)
          where
            by_told : ((now ≡ was) × ((v : ℕ) → leaves_variable v e.step ≡ true)) ⊎ (now ≡ laid_after hd.own f was e.step) → (was ≡ true) × (leaves_variable hd.own e.step ≡ true)
            by_told (inl z) = (sym z.0 ∙ t, z.1 hd.own)
            by_told (inr z) = laid_kept hd.own f was e.step none (sym z ∙ t)

        old : (was ≡ true) × (m ≡ e.seat → leaves_variable hd.own e.step ≡ true)
        old = (⊎_elim (λ (same : m ≡ e.seat). (by_own same).0) (λ (d : m ≢ e.seat). sym (told.0 d) ∙ t) (cases_eq m e.seat), λ same. (by_own same).1)

        r : (a : WorldObject) × (object_of (heap (suc k)) root ≡ Some a) × (a.refs ≡ (had old.0).0.refs)
        r = kept_object none root (had old.0).0 (had old.0).1

    pub told_first : Told 0 (hand k).first (hand (suc k)).first
    told_first = (λ d. ap (λ (z : Laying). z.first) (hand_other d), λ same. by_hand (hand_own same))
      where
        by_hand : ((hand (suc k) ≡ hand k) × ((v : ℕ) → leaves_variable v e.step ≡ true)) ⊎ (hand (suc k) ≡ after_step) → (((hand (suc k)).first ≡ (hand k).first) × ((v : ℕ) → leaves_variable v e.step ≡ true)) ⊎ ((hand (suc k)).first ≡ laid_after hd.own 0 (hand k).first e.step)
        by_hand (inl z) = inl (ap (λ (q : Laying). q.first) z.0, z.1)
        by_hand (inr z) = inr (ap (λ (q : Laying). q.first) z)

    pub told_last : Told 1 (hand k).last (hand (suc k)).last
    told_last = (λ d. ap (λ (z : Laying). z.last) (hand_other d), λ same. by_hand (hand_own same))
      where
        by_hand : ((hand (suc k) ≡ hand k) × ((v : ℕ) → leaves_variable v e.step ≡ true)) ⊎ (hand (suc k) ≡ after_step) → (((hand (suc k)).last ≡ (hand k).last) × ((v : ℕ) → leaves_variable v e.step ≡ true)) ⊎ ((hand (suc k)).last ≡ laid_after hd.own 1 (hand k).last e.step)
        by_hand (inl z) = inl (ap (λ (q : Laying). q.last) z.0, z.1)
        by_hand (inr z) = inr (ap (λ (q : Laying). q.last) z)

    pub apart_after : (hand (suc k)).apart ≡ true → root.section ≢ m
    apart_after t =
        ⊎_elim
        (λ (same : m ≡ e.seat). by_hand (hand_own same))
        (λ (d : m ≢ e.seat). before.apart (ap (λ (z : Laying). z.apart) (sym (hand_other d)) ∙ t))
        (cases_eq m e.seat)
      where
        by_hand : ((hand (suc k) ≡ hand k) × ((v : ℕ) → leaves_variable v e.step ≡ true)) ⊎ (hand (suc k) ≡ after_step) → root.section ≢ m
        by_hand (inl z) = before.apart (ap (λ (q : Laying). q.apart) (sym z.0) ∙ t)
        by_hand (inr z) =
            ⊎_elim before.apart
            (λ (both : (after_step.lent && after_step.none) ≡ true).
            let p = and_parts after_step.lent after_step.none both in
            apart_now (ap (λ (q : Laying). q.lent) z ∙ p.0) (ap (λ (q : Laying). q.none) z ∙ p.1))
            (or_cases (hand k).apart (after_step.lent && after_step.none) (ap (λ (q : Laying). q.apart) (sym z) ∙ t))

    pub quiet_next : stores_field e.step ≡ false → Laid (suc k)
    quiet_next none =
        record {
          none = none_after;
          apart = apart_after;
          others = others_quiet none;
          first = laid_quiet 0 (hand k).first (hand (suc k)).first told_first none before.first;
          last = laid_quiet 1 (hand k).last (hand (suc k)).last told_last none before.last;
        }
