-- What a log that fits a queue tells of the variables of its seat, and that a node which was put in is behind the last.
use Rattle.std.proofs.Common.{ℕ, ◌≡◌, ◌≢◌, ◌⊎◌, ◌<◌, ◌≤◌, ◌&&◌, ◌||◌, zero, suc, List, [], ◌∷◌, ◌++◌, append_assoc, take, length, arith, refl, sym, ap, ◌∙◌, Bool, true, false, Option, None, Some, eqb-true, inl, ⊎_elim}
use Rattle.std.specs.Prelude.{if◌then◌else◌, slice_get, slice_index_or}
use Rattle.std.proofs.lemmas.Bool.{and_parts, cases_eq, or_cases, true≢false}
use Rattle.plain_heap.specs.Paths.{Name}
use Rattle.mark_core.specs.Layout.{words_of}
use Rattle.mark_core.specs.Steps.{Core, run_of}
use Rattle.mark_core.specs.declared.kinds.Event.{Event}
use Rattle.mark_core.specs.declared.kinds.Step.{Step}
use Rattle.mark_core.specs.declared.kinds.Step.TheVariants.{Join, Split}
use Rattle.mark_core.specs.declared.seat.SeatState.{SeatState}
use Rattle.mark_core.proofs.Known.{Acted, acts}
use Rattle.mark_core.proofs.Blocks.BlocksStopped.{Taken}
use Rattle.gc_table.specs.Agreement.{AgreesWith}
use Rattle.gc_table.specs.AgreementLaws.{world_of}
use Rattle.gc_table.specs.Entries.{event, is_logged}
use Rattle.gc_table.specs.Lending.{leaves_variable}
use Rattle.gc_table.specs.Past.{adds, entries_of, log_from, word_told}
use Rattle.gc_table.specs.RunWorlds.{World, WorldObject, WorldSection, object_of, referred, variable_of, world_by}
use Rattle.gc_table.specs.declared.view.Entry.{Entry}
use Rattle.gc_table.proofs.Counted.{own_adds}
use Rattle.gc_table.proofs.Frame.{Mutates}
use Rattle.gc_table.proofs.Lending.{agree-on}
use Rattle.gc_table.proofs.Stores.{env-agrees}
use Rattle.heap_laws.specs.Named.{IsRunOn}
use Rattle.heap_laws.proofs.Moments.{Next, next-at}
use Rattle.heap_laws.proofs.Sections.{section_stays, variable_stays}
use Rattle.heap_laws.proofs.SplitLogs.{split_log}
use Rattle.heap_laws.proofs.Values.{value-next}
use Rattle.queue_laws.specs.QueueLogs.{FitsQueue, Hands, fits, is_link, is_linked, saw_nil}
use Rattle.queue_laws.specs.Queues.{Queue, heap_at}
use Rattle.queue_laws.proofs.KindLogs.{known-at}

-- what a log with more entries tells
pub linked_join : (h : Hands) (b : Bool) (xs ys : List Entry) → is_linked h b (xs ++ ys) ≡ is_linked h (is_linked h b xs) ys
linked_join h b [] ys = refl
linked_join h b (x ∷ xs) ys = linked_join h (leaves_variable h.tail x.step && (leaves_variable h.own x.step && (b || is_link h x.step x.found))) xs ys

-- what the entries of one step tell
pub entry_linked : (h : Hands) (c : Core) (s : SeatState) (step : Step) (b : Bool) → is_linked h b (entries_of c (Some s) step) ≡ true
    → (leaves_variable h.tail step ≡ true) × (leaves_variable h.own step ≡ true) × ((b ≡ true) ⊎ (is_link h step (word_told c s step) ≡ true))
entry_linked h c s Split b e = (refl, refl, inl e)
entry_linked h c s (Join other) b e = (refl, refl, inl e)
entry_linked h c s step b e =
    let p = and_parts (leaves_variable h.tail step) (leaves_variable h.own step && (b || is_link h step (word_told c s step))) e in
    let r = and_parts (leaves_variable h.own step) (b || is_link h step (word_told c s step)) p.1 in
    (p.0, r.0, or_cases b (is_link h step (word_told c s step)) r.1)

pub logged_entry : (c : Core) (s : SeatState) (step : Step) → is_logged step ≡ true → entries_of c (Some s) step ≡ event step (word_told c s step) ∷ []
logged_entry c s step e = ap (λ (b : Bool). if b then event step (word_told c s step) ∷ [] else []) e

module _ (q : Queue) (c : Core) (world : World) (es : List Event) (h : Hands) (p : FitsQueue q c world es h) where
  abbrev core : ℕ → Core
  core k = run_of (take k es) c

  abbrev heap : ℕ → World
  heap k = heap_at c world es k

  abbrev log : ℕ → ℕ → List Entry
  log i k = log_from i c (take k es)

  abbrev run : IsRunOn c world es
  run = p.begins.run

  -- the event after the first k
  pub record At (k : ℕ) : Type 0 where
    pub event : Event
    pub there : slice_get es k ≡ Some event
    pub first : SeatState
    pub is_first : is_logged event.step ≡ true → slice_get c.seats event.seat ≡ Some first
    pub seat : SeatState
    pub act : Taken (core k) event.seat seat event.step
    pub agrees : AgreesWith (core k) (heap k)
    pub after : heap (suc k) ≡ world_by (core k).shape (words_of (core k).shape (core k).words) seat event.step (heap k)
    pub below : k < length es

  -- the seat's record at the start, if the event is logged
  first_of : (e : Event) (s : SeatState) → (is_logged e.step ≡ true → (t : SeatState) × (slice_get c.seats e.seat ≡ Some t)) → (b : Bool) → is_logged e.step ≡ b → (t : SeatState) × (is_logged e.step ≡ true → slice_get c.seats e.seat ≡ Some t)
  first_of e s there true is = let t = there is in (t.0, λ l. t.1)
  first_of e s there false is = (s, λ l. absurd (true≢false (sym l ∙ is)))

  pub at : (k : ℕ) → k < length es → At k
  at k l =
      let n : Next es c world k = next-at es c world run.allowed k l in
      let r : (s : SeatState) × Acted (core k) n.event s = acts (core k) n.event (run.sound k) n.allowed in
      let s = first_of n.event r.0 (p.seats k n.event n.there) (is_logged n.event.step) refl in
      record {
        event = n.event;
        there = n.there;
        first = s.0;
        is_first = s.1;
        seat = r.0;
        act = record { core = run.sound k; got = r.1.seat; live = r.1.live; ok = r.1.ok };
        agrees = agree-on es c world run.sound run.allowed run.agrees k;
        after = n.heap ∙ ap (λ (o : Option SeatState). world_of (core k) o n.event.step (heap k)) r.1.seat;
        below = l;
      }

  module _ (k : ℕ) (x : At k) where
    abbrev e : Event
    e = x.event

    -- the step fits
    pub fit : is_logged x.event.step ≡ true → fits c.shape.fields x.first h (log x.event.seat k) x.event.step ≡ true
    fit logged =
        let it = split_log e.seat es c run.allowed k e x.there in
        let one : adds e.seat (core k) e ≡ event e.step (word_told (core k) x.seat e.step) ∷ [] = own_adds (core k) e x.seat x.act.got ∙ logged_entry (core k) x.seat e.step logged in
        p.fit e.seat x.first (x.is_first logged) (log e.seat k) it.rest (event e.step (word_told (core k) x.seat e.step))
        (it.whole ∙ (ap (λ (l : List Entry). (log e.seat k ++ l) ++ it.rest) one ∙ append_assoc (log e.seat k) (event e.step (word_told (core k) x.seat e.step) ∷ []) it.rest))

    -- a variable that the event leaves
    pub kept : (j y : ℕ) → y < 32 → (j ≡ x.event.seat → leaves_variable y x.event.step ≡ true) → variable_of (heap (suc k)) j y ≡ variable_of (heap k) j y
    kept j y below leaves =
        ap (λ (z : World). variable_of z j y) x.after
        ∙ ⊎_elim
        (λ (same : j ≡ e.seat). variable_stays (core k) x.seat e.step (heap k) j y below (leaves same))
        (λ (d : j ≢ e.seat). section_stays (λ (z : WorldSection). slice_index_or z.variables y None) (λ z objects. refl) (core k) e.seat x.seat e.step (heap k) j x.act d)
        (cases_eq j e.seat)

  -- an object that is there at the start stays
  pub there_at : (name : Name) (object : WorldObject) → object_of world name ≡ Some object → (k : ℕ) → k ≤ length es → (o : WorldObject) × (object_of (heap k) name ≡ Some o)
  there_at name object there zero l = (object, there)
  there_at name object there (suc k) l =
      let before = there_at name object there k (omega (arith, l)) in
      let x : At k = at k (omega (arith, l)) in
      let r = value-next (core k) x.event x.seat (heap k) name before.0 x.act.got before.1 in
      (r.0, ap (λ (z : World). object_of z name) (x.after ∙ sym (ap (λ (o : Option SeatState). world_of (core k) o x.event.step (heap k)) x.act.got)) ∙ r.1)

  -- what was seen is nil
  pub nil : (k : ℕ) (x : At k) → is_logged x.event.step ≡ true → Mutates (core k) x.event.seat x.seat → saw_nil x.first h (log x.event.seat k) ≡ true → variable_of (heap k) x.event.seat h.seen ≡ None
  nil k x logged mu saw =
      let below = x.below in
      let seen : h.seen < 32 = p.hands.exist.2 in
      let word = known-at c world es run x.event.seat h.seen h.tail 0 x.first (x.is_first logged) seen p.hands.exist.3 p.hands.differ.4 k (omega (arith, below)) x.seat x.act.got x.act.live in
      sym (env-agrees (core k) x.event.seat x.seat x.event.step (heap k) h.seen x.act x.agrees mu seen)
      ∙ ap (referred (words_of (core k).shape (core k).words).identities) (word ∙ eqb-true _ 0 saw)
