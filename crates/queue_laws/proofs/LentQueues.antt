-- What section 0 lends is a queue from the moment on at which one seat has laid it out, if the logs of all say so.
use Rattle.std.proofs.Common.{ℕ, ◌≡◌, ◌≢◌, ◌⊎◌, ◌+◌, ◌<◌, ◌≤◌, ◌==◌, ◌∙◌, List, [], ◌∷◌, ◌++◌, append_assoc, take, length, arith, refl, sym, ap, subst, not, inl, inr, ⊎_elim, Bool, true, false, Option, None, Some}
use Rattle.std.specs.Prelude.{if◌then◌else◌, slice_get, slice_index_or}
use Rattle.std.proofs.Math.Seq.{take-length}
use Rattle.std.proofs.lemmas.Bool.{and_parts, cases_Bool, cases_lt, false_from_ne_true, false≢true, not-true, true≢false}
use Rattle.std.proofs.lemmas.List.{get_or_past}
use Rattle.std.proofs.lemmas.Option.{same_Some, slice_get-get_or, slice_get_within}
use Rattle.plain_heap.specs.Paths.{Name}
use Rattle.mark_core.specs.Start.{start_seat}
use Rattle.mark_core.specs.Steps.{Core, failing_part, run_of, start_core}
use Rattle.mark_core.specs.declared.kinds.Event.{Event}
use Rattle.mark_core.specs.declared.kinds.Shape.{Shape}
use Rattle.mark_core.specs.declared.kinds.Step.{Step}
use Rattle.mark_core.specs.declared.kinds.Step.TheVariants.{ExchangeField, ExchangeValue, HoldRoot, StoreField, StoreRoot, StoreValue}
use Rattle.mark_core.specs.declared.seat.SeatState.{SeatState}
use Rattle.mark_core.proofs.Known.{Acted, acts}
use Rattle.gc_table.specs.AgreementLaws.{HasReference, world_run}
use Rattle.gc_table.specs.Entries.{event, is_logged}
use Rattle.gc_table.specs.Lending.{RefersTo, leaves_variable}
use Rattle.gc_table.specs.Log.{all_steps}
use Rattle.gc_table.specs.Past.{adds, log_from, log_of, word_told}
use Rattle.gc_table.specs.RunWorlds.{World, WorldObject, WorldSection, is_same, new_section, object_of, reference_of, start_world, variable_of}
use Rattle.gc_table.specs.declared.view.Entry.{Entry}
use Rattle.gc_table.proofs.Counted.{own_adds}
use Rattle.gc_table.proofs.Exchanges.{same-as}
use Rattle.gc_table.proofs.Forgetting.{same-is}
use Rattle.gc_table.proofs.Lending.{all_split}
use Rattle.gc_table.proofs.Reading.{none-some}
use Rattle.heap_laws.specs.Lent.{holds_lent, is_lent, lent_after, read_by}
use Rattle.heap_laws.specs.Moments.{IsHistory}
use Rattle.heap_laws.specs.Named.{IsRunOn, through}
use Rattle.heap_laws.proofs.Fields.{none_replicate}
use Rattle.heap_laws.proofs.Lent.{lent_by_log}
use Rattle.heap_laws.proofs.Moments.{Next, each-allowed, next-at}
use Rattle.heap_laws.proofs.SplitLogs.{SplitLog, split_log}
use Rattle.queue_laws.specs.LentQueues.{KeepsObjects, LentQueue, UsesLent, core_past, heap_past, keeps_objects, layings, log_since, nothing_laid}
use Rattle.queue_laws.specs.Making.{makings, nothing_made}
use Rattle.queue_laws.specs.Orders.{Begins}
use Rattle.queue_laws.specs.QueueLogs.{FitsQueue, Hands, fits, is_callers}
use Rattle.queue_laws.specs.Queues.{Queue, heap_at}
use Rattle.queue_laws.proofs.Created.{Came, came, came-first, made-told, spent-none, words-told}
use Rattle.queue_laws.proofs.FitSteps.{logged_entry}
use Rattle.queue_laws.proofs.Laid.{laid}
use Rattle.queue_laws.proofs.LaidSteps.{Laid, there_by}
use Rattle.queue_laws.proofs.MakeLogs.{shape_on}
use Rattle.queue_laws.proofs.Parts.{heap-more, log-more, part-at, past-history, rest-run}

through_logged : (step : Step) (v : ℕ) → through step ≡ Some v → is_logged step ≡ true
through_logged (StoreField w i x) v e = refl
through_logged (StoreValue w n) v e = refl
through_logged (ExchangeField w i x y) v e = refl
through_logged (ExchangeValue w m n) v e = refl
through_logged step v e = absurd (none-some v e)

through_changes : (step : Step) (v : ℕ) → through step ≡ Some v → keeps_objects step ≡ true → ⊥
through_changes (StoreField w i x) v e k = false≢true k
through_changes (StoreValue w n) v e k = false≢true k
through_changes (ExchangeField w i x y) v e k = false≢true k
through_changes (ExchangeValue w m n) v e k = false≢true k
through_changes step v e k = none-some v e

fits_kept : (fields : ℕ) (s : SeatState) (h : Hands) (before : List Entry) (step : Step) → keeps_objects step ≡ true → fits fields s h before step ≡ true
fits_kept fields s h before (StoreField v i x) e = absurd (false≢true e)
fits_kept fields s h before (StoreValue v n) e = absurd (false≢true e)
fits_kept fields s h before (ExchangeField v i x y) e = absurd (false≢true e)
fits_kept fields s h before (ExchangeValue v m n) e = absurd (false≢true e)
fits_kept fields s h before step e = refl

-- a variable that has what is lent has it as long as it is left
lent_left : (v : ℕ) (r : Option ℕ) (step : Step) → leaves_variable v step ≡ true → lent_after v r true step ≡ true
lent_left v r (StoreRoot w x) e = ap (λ (b : Bool). if b then is_lent r x else true) (not-true (w == v) e)
lent_left v r (HoldRoot w x) e = ap (λ (b : Bool). if b then is_lent r x else true) (not-true (w == v) e)
lent_left v r step e = refl

lent_on : (u v : ℕ) (r : Option ℕ) (b : Bool) (ys : List Entry) → b ≡ true → all_steps (leaves_variable v) ys ≡ true → holds_lent u v r b ys ≡ true
lent_on u v r b [] e a = e
lent_on u v r b (y ∷ ys) e a =
    let p = and_parts (leaves_variable v y.step) (all_steps (leaves_variable v) ys) a in
    lent_on u v (read_by u r y.step y.found) (lent_after v r b y.step) ys (ap (λ (c : Bool). lent_after v r c y.step) e ∙ lent_left v r y.step p.0) p.1

lent_join : (u v : ℕ) (r : Option ℕ) (b : Bool) (xs ys : List Entry) → holds_lent u v r b xs ≡ true → all_steps (leaves_variable v) ys ≡ true → holds_lent u v r b (xs ++ ys) ≡ true
lent_join u v r b [] ys e a = lent_on u v r b ys e a
lent_join u v r b (x ∷ xs) ys e a = lent_join u v (read_by u r x.step x.found) (lent_after v r b x.step) xs ys e a

none_before : (before after : List Entry) (x : Entry) → [] ≡ before ++ x ∷ after → ⊥
none_before [] after x e = cc
none_before (y ∷ before) after x e = cc

one_of : (P : Step → Bool) (log before after : List Entry) (x : Entry) → all_steps P log ≡ true → log ≡ before ++ x ∷ after → P x.step ≡ true
one_of P log before after x a e = (and_parts (P x.step) (all_steps P after) (all_split P before (x ∷ after) (subst (λ (l : List Entry). all_steps P l ≡ true) e a)).1).0

no_variable : (world : World) (m v : ℕ) (name : Name) → length world ≤ m → variable_of world m v ≡ Some name → ⊥
no_variable world m v name past e = none-some name (sym (ap (λ (x : WorldSection). slice_index_or x.variables v None) (get_or_past world m new_section past) ∙ none_replicate 32 v) ∙ e)

module _ (sh : Shape) (past rest : List Event) (u : ℕ) (h : Hands) (root : Name) (p : LentQueue sh past rest u h root) where
  abbrev c : Core
  c = core_past sh past

  abbrev world : World
  world = heap_past sh past

  abbrev m : ℕ
  m = p.maker

  pub first_part : IsHistory sh past
  first_part = past-history sh past rest p.history

  pub run : IsRunOn c world rest
  run = rest-run sh past rest p.history

  lends_past : (k : ℕ) → RefersTo sh past u root k
  lends_past k =
      let q = part-at sh past rest p.history k in
      subst (λ (es : List Event). (variable_of (world_run es (start_core sh 1) (start_world sh)) 0 u ≡ None) ⊎ (variable_of (world_run es (start_core sh 1) (start_world sh)) 0 u ≡ Some root)) (sym q.1) (p.lends q.0)

  -- a seat that did something is there
  pub came_by : (i : ℕ) → (log_of sh past i ≡ [] → ⊥) → Came sh past first_part i (length past)
  came_by i some = ⊎_elim (λ a. absurd (some (ap (λ (es : List Event). log_of sh es i) (sym (take-length past)) ∙ a.1))) (λ (k : Came sh past first_part i (length past)). k) (came sh past first_part i (length past) (omega arith))

  maker_came : Came sh past first_part m (length past)
  maker_came = came_by m (λ none. false≢true (sym (ap (λ (l : List Entry). (makings sh.fields h.own nothing_made l).fresh) none) ∙ p.lays.fresh))

  pub dummy : (name : Name) × (variable_of world m h.own ≡ Some name) × (name.section ≡ m)
  dummy = made-told sh past first_part m maker_came h.own p.hands.exist.1 p.lays.fresh

  abbrev pub d : Name
  d = dummy.0

  pub shape_is : c.shape ≡ sh
  shape_is = ap (λ (es : List Event). (run_of es (start_core sh 1)).shape) (sym (take-length past)) ∙ shape_on past (start_core sh 1) (each-allowed sh past first_part) (length past)

  inside : m < sh.sections
  inside =
      let sections : length world ≡ c.shape.sections = run.agrees.sections in
      let same = ap (λ (z : Shape). z.sections) shape_is in
      ⊎_elim (λ (l : m < length world). omega (arith, l, sections, same)) (λ (l : length world ≤ m). absurd (no_variable world m h.own d l dummy.1)) (cases_lt m (length world))

  only_told : (layings u h nothing_laid (log_of sh past m)).only ≡ true
  only_told = p.lays.only

  abbrev IsLaid : ℕ → Type 0
  IsLaid = Laid sh past first_part u h p.hands root p.below lends_past m inside only_told p.others

  it : IsLaid (length past)
  it = laid sh past first_part u h p.hands root p.below lends_past m inside only_told p.others (length past) (omega arith)

  whole : take (length past) past ≡ past
  whole = take-length past

  laid_field : (f : ℕ) → HasReference (world_run (take (length past) past) (start_core sh 1) (start_world sh)) root f (variable_of (world_run (take (length past) past) (start_core sh 1) (start_world sh)) m h.own) → HasReference world root f (Some d)
  laid_field f r =
      let moved : HasReference world root f (variable_of world m h.own) =
      subst (λ (es : List Event). HasReference (world_run es (start_core sh 1) (start_world sh)) root f (variable_of (world_run es (start_core sh 1) (start_world sh)) m h.own)) whole r in
      (moved.0, moved.1, moved.2 ∙ dummy.1)

  first_field : HasReference world root 0 (Some d)
  first_field = laid_field 0 (it.first (ap (λ (es : List Event). (layings u h nothing_laid (log_of sh es m)).first) whole ∙ p.lays.first))

  last_field : HasReference world root 1 (Some d)
  last_field = laid_field 1 (it.last (ap (λ (es : List Event). (layings u h nothing_laid (log_of sh es m)).last) whole ∙ p.lays.last))

  apart : d ≢ root
  apart e = it.apart (ap (λ (es : List Event). (layings u h nothing_laid (log_of sh es m)).apart) whole ∙ p.lays.apart) (ap (λ (n : Name). n.section) (sym e) ∙ dummy.2)

  others_nil : (name : Name) (object : WorldObject) → object_of world name ≡ Some object → name ≢ root → (f : ℕ) → reference_of object f ≡ None
  others_nil name object there other f = it.others name object (ap (λ (es : List Event). object_of (world_run es (start_core sh 1) (start_world sh)) name) whole ∙ there) other f

  -- all objects but what is lent are nodes
  abbrev pub q : Queue
  q = record { object = root; is_node = λ (n : Name). not (is_same (Some n) (Some root)); dummy = d }

  node : (name : Name) → name ≢ root → q.is_node name ≡ true
  node name other = ap not (false_from_ne_true (is_same (Some name) (Some root)) (λ t. other (same_Some name root (same-is (Some name) (Some root) t))))

  no_node : q.is_node root ≡ false
  no_node = ap not (same-as (Some root))

  dummy_there : (object : WorldObject) × (object_of world d ≡ Some object)
  dummy_there =
      let o = there_by sh past first_part u h p.hands root p.below lends_past m inside only_told p.others (length past) h.own d p.hands.exist.1 (ap (λ (es : List Event). variable_of (world_run es (start_core sh 1) (start_world sh)) m h.own) whole ∙ dummy.1) in
      (o.0, ap (λ (es : List Event). object_of (world_run es (start_core sh 1) (start_world sh)) d) (sym whole) ∙ o.1)

  begins : Begins q c world rest
  begins =
      record {
        run = run;
        apart = no_node;
        dummy = node d apart;
        there = (dummy_there.0, dummy_there.1, others_nil d dummy_there.0 dummy_there.1 apart 0);
        first = first_field;
        last = last_field;
        ends = λ name object is there. others_nil name object there (λ e. true≢false (sym is ∙ (ap q.is_node e ∙ no_node))) 0;
      }

  -- Who acts later.
  -- the log has each logged event
  record Acting (k : ℕ) (e : Event) : Type 0 where
    entry : Entry
    step : entry.step ≡ e.step
    after : List Entry
    log : log_since sh past rest e.seat ≡ log_from e.seat c (take k rest) ++ entry ∷ after

  acting : (k : ℕ) (e : Event) → slice_get rest k ≡ Some e → is_logged e.step ≡ true → Acting k e
  acting k e at logged =
      let n : Next rest c world k = next-at rest c world run.allowed k (slice_get_within rest k e at) in
      let same : n.event ≡ e = same_Some n.event e (sym n.there ∙ at) in
      let r : (s : SeatState) × Acted (run_of (take k rest) c) e s = acts (run_of (take k rest) c) e (run.sound k) (subst (λ (f : Event). failing_part (run_of (take k rest) c) f ≡ None) same n.allowed) in
      let it : SplitLog e.seat rest c k e = split_log e.seat rest c run.allowed k e at in
      let x : Entry = event e.step (word_told (run_of (take k rest) c) r.0 e.step) in
      let one : adds e.seat (run_of (take k rest) c) e ≡ x ∷ [] = own_adds (run_of (take k rest) c) e r.0 r.1.seat ∙ logged_entry (run_of (take k rest) c) r.0 e.step logged in
      record {
        entry = x;
        step = refl;
        after = it.rest;
        log = it.whole ∙ (ap (λ (l : List Entry). (log_from e.seat c (take k rest) ++ l) ++ it.rest) one ∙ append_assoc (log_from e.seat c (take k rest)) (x ∷ []) it.rest);
      }

  -- a seat that had what is lent did something
  pub lent_some : (i : ℕ) → holds_lent u h.queue None false (log_of sh past i) ≡ true → log_of sh past i ≡ [] → ⊥
  lent_some i e none = false≢true (sym (ap (holds_lent u h.queue None false) none) ∙ e)

  -- the record of a seat that came
  pub record_of : (i : ℕ) → Came sh past first_part i (length past) → (s : SeatState) × (slice_get c.seats i ≡ Some s)
  record_of i k =
      let there : i < length c.seats = subst (λ (es : List Event). i < length (run_of es (start_core sh 1)).seats) whole k.still in
      (_, slice_get-get_or c.seats i (start_seat sh i) there)

  seats : (k : ℕ) (e : Event) → slice_get rest k ≡ Some e → is_logged e.step ≡ true → (s : SeatState) × (slice_get c.seats e.seat ≡ Some s)
  seats k e at logged = by_since (p.since e.seat)
    where
      act : Acting k e
      act = acting k e at logged

      by_since : (log_since sh past rest e.seat ≡ []) ⊎ (KeepsObjects e.seat (log_of sh past e.seat) (log_since sh past rest e.seat) ⊎ UsesLent sh.fields u h (log_of sh past e.seat) (log_since sh past rest e.seat)) → (s : SeatState) × (slice_get c.seats e.seat ≡ Some s)
      by_since (inl none) = absurd (none_before (log_from e.seat c (take k rest)) act.after act.entry (sym none ∙ act.log))
      by_since (inr (inl keeps)) =
          record_of e.seat
          (⊎_elim
          (λ (zero_seat : e.seat ≡ 0). came-first sh past first_part e.seat zero_seat (length past) (omega arith))
          (λ (some : 0 < length (log_of sh past e.seat)). came_by e.seat (λ none. let long = ap (λ (l : List Entry). length l) none in omega (arith, some, long)))
          keeps.0)
      by_since (inr (inr uses)) = record_of e.seat (came_by e.seat (lent_some e.seat uses.lent))

  names : (k : ℕ) (e : Event) (v : ℕ) → slice_get rest k ≡ Some e → through e.step ≡ Some v → is_callers e.step ≡ false → variable_of (heap_at c world rest k) e.seat h.queue ≡ Some q.object
  names k e v at goes low = by_since (p.since e.seat)
    where
      act : Acting k e
      act = acting k e at (through_logged e.step v goes)

      by_since : (log_since sh past rest e.seat ≡ []) ⊎ (KeepsObjects e.seat (log_of sh past e.seat) (log_since sh past rest e.seat) ⊎ UsesLent sh.fields u h (log_of sh past e.seat) (log_since sh past rest e.seat)) → variable_of (heap_at c world rest k) e.seat h.queue ≡ Some root
      by_since (inl none) = absurd (none_before (log_from e.seat c (take k rest)) act.after act.entry (sym none ∙ act.log))
      by_since (inr (inl keeps)) = absurd (through_changes e.step v goes (sym (ap keeps_objects act.step) ∙ one_of keeps_objects (log_since sh past rest e.seat) (log_from e.seat c (take k rest)) act.after act.entry keeps.1 act.log))
      by_since (inr (inr uses)) =
          let left = all_split (leaves_variable h.queue) (log_from e.seat c (take k rest)) (act.entry ∷ act.after) (subst (λ (l : List Entry). all_steps (leaves_variable h.queue) l ≡ true) act.log uses.left) in
          ap (λ (w : World). variable_of w e.seat h.queue) (heap-more sh past rest p.history k)
          ∙ lent_by_log sh (past ++ rest) p.history u root p.below p.lends e.seat h.queue (length past + k) p.hands.exist.0
          (ap (holds_lent u h.queue None false) (log-more sh past rest p.history e.seat k) ∙ lent_join u h.queue None false (log_of sh past e.seat) (log_from e.seat c (take k rest)) uses.lent left.0)

  fit : (i : ℕ) (s : SeatState) → slice_get c.seats i ≡ Some s → (before after : List Entry) (x : Entry) → log_from i c rest ≡ before ++ x ∷ after → fits c.shape.fields s h before x.step ≡ true
  fit i s got before after x is = subst (λ (z : Shape). fits z.fields s h before x.step ≡ true) (sym shape_is) (by_since (p.since i))
    where
      by_since : (log_since sh past rest i ≡ []) ⊎ (KeepsObjects i (log_of sh past i) (log_since sh past rest i) ⊎ UsesLent sh.fields u h (log_of sh past i) (log_since sh past rest i)) → fits sh.fields s h before x.step ≡ true
      by_since (inl none) = absurd (none_before before after x (sym none ∙ is))
      by_since (inr (inl keeps)) = fits_kept sh.fields s h before x.step (one_of keeps_objects (log_since sh past rest i) before after x keeps.1 is)
      by_since (inr (inr uses)) =
          uses.fit s
          (words-told sh past first_part i (came_by i (lent_some i uses.lent)) s got
          (⊎_elim
          (λ (gone : s.spent ≡ true). absurd (none_before before after x (sym (spent-none i rest c run.sound run.allowed s got gone) ∙ is)))
          (λ (live : s.spent ≡ false). live)
          (cases_Bool s.spent)))
          before after x is

  pub fits_lent : FitsQueue q c world rest h
  fits_lent =
      record {
        begins = begins;
        hands = p.hands;
        new = λ name none. node name (λ e. none-some first_field.0 (sym none ∙ (ap (object_of world) e ∙ first_field.1)));
        seats = seats;
        names = names;
        fit = fit;
      }
