-- From when on a seat is there, and what its whole log tells of its variables.
use Rattle.std.proofs.Common.{ℕ, ◌≡◌, ◌≢◌, ◌⊎◌, ◌<◌, ◌≤◌, ◌∙◌, zero, suc, List, [], ◌∷◌, ◌++◌, set, take, drop, length, length-set, length-append, arith, refl, sym, ap, subst, inl, inr, ⊎_elim, true, false, None, Some}
use Rattle.std.proofs.Math.Seq.{take-length}
use Rattle.std.specs.Prelude.{slice_get}
use Rattle.std.proofs.lemmas.Bool.{cases_eq, cases_lt, true≢false}
use Rattle.std.proofs.lemmas.List.{get_or-replicate, take-append-drop}
use Rattle.std.proofs.lemmas.Option.{same_Some, slice_get_within}
use Rattle.plain_heap.specs.Paths.{Name}
use Rattle.mark_core.specs.Effects.{seat_after}
use Rattle.mark_core.specs.Numbers.{section_variables}
use Rattle.mark_core.specs.Start.{spent_seat, start_seat}
use Rattle.mark_core.specs.Steps.{Core, after_event, run_of, start_core}
use Rattle.mark_core.specs.declared.kinds.Event.{Event}
use Rattle.mark_core.specs.declared.kinds.Shape.{Shape}
use Rattle.mark_core.specs.declared.kinds.Step.{Step}
use Rattle.mark_core.specs.declared.kinds.Step.TheVariants.{Join, Split}
use Rattle.mark_core.specs.declared.seat.SeatState.{SeatState}
use Rattle.mark_core.proofs.Known.{Acted, acts, found, seats_left}
use Rattle.mark_core.proofs.Consequences.WeakKept.{seated-left}
use Rattle.gc_table.specs.AgreementLaws.{world_run}
use Rattle.gc_table.specs.Past.{adds, log_from, log_of}
use Rattle.gc_table.specs.RunWorlds.{World, start_world, variable_of}
use Rattle.gc_table.specs.Runs.{AreAllowed}
use Rattle.gc_table.specs.declared.view.Entry.{Entry}
use Rattle.gc_table.proofs.Counted.{other_adds}
use Rattle.gc_table.proofs.Lending.{Sound, later-sound}
use Rattle.gc_table.proofs.Reading.{get-added, get-front, get-set_other, get-set_same}
use Rattle.heap_laws.specs.Moments.{IsHistory}
use Rattle.heap_laws.proofs.Moments.{Next, each-allowed, next-at}
use Rattle.heap_laws.proofs.SplitLogs.{split_log}
use Rattle.queue_laws.specs.LentQueues.{IsRecordAfter, core_past, heap_past}
use Rattle.queue_laws.specs.Making.{makings, nothing_made}
use Rattle.queue_laws.specs.Reads.{Reading, readings, starting}
use Rattle.queue_laws.proofs.KindLogs.{known-at, made_by_log}
use Rattle.queue_laws.proofs.MakeLogs.{shape_on}
use Rattle.queue_laws.proofs.Parts.{allowed-front, log-join, rest-run, run-join, world-join}

-- a seat that comes has done nothing
grown : (c : Core) (j : ℕ) (s : SeatState) (step : Step) (i : ℕ) → length c.seats ≤ i → i < length (seats_left c j s step) → slice_get (seats_left c j s step) i ≡ Some (start_seat c.shape i)
grown c j s Split i past there =
    let xs : List SeatState = set c.seats j s in
    let same : i ≡ length xs = omega (arith, past, there, length-set c.seats j s, length-append xs (start_seat c.shape (length xs) ∷ [])) in
    subst (λ (n : ℕ). slice_get (xs ++ start_seat c.shape (length xs) ∷ []) n ≡ Some (start_seat c.shape n)) (sym same) (get-added xs (start_seat c.shape (length xs)))
grown c j s (Join other) i past there = absurd (omega (arith, past, there, length-set c.seats j s, length-set (set c.seats j s) other (spent_seat c.shape other)))
grown c j s step i past there = absurd (omega (arith, past, there, length-set c.seats j (seat_after c.shape s step (found c s step))))

module _ (sh : Shape) (es : List Event) (h : IsHistory sh es) (i : ℕ) where
  abbrev core : ℕ → Core
  core k = run_of (take k es) (start_core sh 1)

  abbrev log : ℕ → List Entry
  log k = log_of sh (take k es) i

  -- the seat came, and had done nothing
  pub record Came (k : ℕ) : Type 0 where
    pub moment : ℕ
    pub before : moment ≤ k
    pub there : slice_get (core moment).seats i ≡ Some (start_seat sh i)
    pub none : log moment ≡ []
    pub still : i < length (core k).seats

  abbrev Absent : ℕ → Type 0
  Absent k = (length (core k).seats ≤ i) × (log k ≡ [])

  first_one : (n : ℕ) → i ≡ n → Absent 0 ⊎ Came 0
  first_one zero e = inr (record { moment = 0; before = omega arith; there = subst (λ (j : ℕ). slice_get (core 0).seats j ≡ Some (start_seat sh j)) (sym e) refl; none = refl; still = omega (arith, e) })
  first_one (suc n) e = inl (omega (arith, e), refl)

  next : (k : ℕ) → k < length es → Absent k → Absent (suc k) ⊎ Came (suc k)
  next k l a =
      let n : Next es (start_core sh 1) (start_world sh) k = next-at es (start_core sh 1) (start_world sh) (each-allowed sh es h) k l in
      let r : (s : SeatState) × Acted (core k) n.event s = acts (core k) n.event (h.sound k) n.allowed in
      let within = slice_get_within (core k).seats n.event.seat r.0 r.1.seat in
      let other : i ≢ n.event.seat = λ e. omega (arith, e, within, a.0) in
      let none : log (suc k) ≡ [] =
      (split_log i es (start_core sh 1) (each-allowed sh es h) k n.event n.there).more
      ∙ (ap (λ (l : List Entry). l ++ adds i (core k) n.event) a.1 ∙ other_adds i (core k) n.event other) in
      let seats : (core (suc k)).seats ≡ seats_left (core k) n.event.seat r.0 n.event.step = ap (λ (c : Core). c.seats) n.core ∙ r.1.seats in
      ⊎_elim
      (λ (there : i < length (core (suc k)).seats).
      inr
      (record {
        moment = suc k;
        before = omega arith;
        there =
            ap (λ (xs : List SeatState). slice_get xs i) seats
            ∙ (grown (core k) n.event.seat r.0 n.event.step i a.0 (let same = ap (λ (xs : List SeatState). length xs) seats in omega (arith, there, same))
            ∙ ap (λ (z : Shape). Some (start_seat z i)) (shape_on es (start_core sh 1) (each-allowed sh es h) k));
        none = none;
        still = there;
      }))
      (λ (past : length (core (suc k)).seats ≤ i). inl (past, none))
      (cases_lt i (length (core (suc k)).seats))

  stays : (k : ℕ) → k < length es → Came k → Came (suc k)
  stays k l c =
      let n : Next es (start_core sh 1) (start_world sh) k = next-at es (start_core sh 1) (start_world sh) (each-allowed sh es h) k l in
      let r : (s : SeatState) × Acted (core k) n.event s = acts (core k) n.event (h.sound k) n.allowed in
      let low = c.before in
      record {
        moment = c.moment;
        before = omega (arith, low);
        there = c.there;
        none = c.none;
        still =
            let long = seated-left (core k) n.event.seat r.0 n.event.step in
            let now = c.still in
            let same = ap (λ (xs : List SeatState). length xs) (ap (λ (d : Core). d.seats) n.core ∙ r.1.seats) in
            omega (arith, long, now, same);
      }

  pub came : (k : ℕ) → k ≤ length es → Absent k ⊎ Came k
  came zero l = first_one i refl
  came (suc k) l = ⊎_elim (λ (a : Absent k). next k (omega (arith, l)) a) (λ (c : Came k). inr (stays k (omega (arith, l)) c)) (came k (omega (arith, l)))

  -- the first seat is there from the start on
  pub came-first : i ≡ 0 → (k : ℕ) → k ≤ length es → Came k
  came-first e zero l = record { moment = 0; before = omega arith; there = subst (λ (j : ℕ). slice_get (core 0).seats j ≡ Some (start_seat sh j)) (sym e) refl; none = refl; still = omega (arith, e) }
  came-first e (suc k) l = stays k (omega (arith, l)) (came-first e k (omega (arith, l)))

-- What is so if the seat came after the first of these events.
module _ (sh : Shape) (past rest : List Event) (h : IsHistory sh (past ++ rest)) (i : ℕ) (there : slice_get (core_past sh past).seats i ≡ Some (start_seat sh i)) (none : log_of sh past i ≡ []) where
  own : log_from i (core_past sh past) (take (length rest) rest) ≡ log_of sh (past ++ rest) i
  own =
      ap (log_from i (core_past sh past)) (take-length rest)
      ∙ (sym (ap (λ (l : List Entry). l ++ log_from i (core_past sh past) rest) none) ∙ sym (log-join i past rest (start_core sh 1) (each-allowed sh (past ++ rest) h)))

  end : run_of (take (length rest) rest) (core_past sh past) ≡ core_past sh (past ++ rest)
  end = ap (λ (es : List Event). run_of es (core_past sh past)) (take-length rest) ∙ sym (run-join past rest (start_core sh 1) (each-allowed sh (past ++ rest) h))

  end_heap : world_run (take (length rest) rest) (core_past sh past) (heap_past sh past) ≡ heap_past sh (past ++ rest)
  end_heap =
      ap (λ (es : List Event). world_run es (core_past sh past) (heap_past sh past)) (take-length rest)
      ∙ sym (world-join past rest (start_core sh 1) (start_world sh) (each-allowed sh (past ++ rest) h))

  bare : (v : ℕ) → v < section_variables → starting (start_seat sh i) v ≡ record { word = 0; loaded = None; held = false }
  bare v low = ap (λ (n : ℕ). record { word = n; loaded = None; held = false }) (get_or-replicate section_variables v 0 0 low)

  words_on : (t : SeatState) → slice_get (core_past sh (past ++ rest)).seats i ≡ Some t → t.spent ≡ false → IsRecordAfter (log_of sh (past ++ rest) i) t
  words_on t got live v u hv hu d =
      known-at (core_past sh past) (heap_past sh past) rest (rest-run sh past rest h) i v u 0 (start_seat sh i) there hv hu d (length rest) (omega arith) t (subst (λ (c : Core). slice_get c.seats i ≡ Some t) (sym end) got) live
      ∙ (ap (λ (l : List Entry). (readings v u 0 (starting (start_seat sh i) v) l).word) own ∙ ap (λ (r : Reading). (readings v u 0 r (log_of sh (past ++ rest) i)).word) (bare v hv))

  made_on : (o : ℕ) → o < section_variables → (makings sh.fields o nothing_made (log_of sh (past ++ rest) i)).fresh ≡ true → (name : Name) × (variable_of (heap_past sh (past ++ rest)) i o ≡ Some name) × (name.section ≡ i)
  made_on o low fresh =
      let shape : (core_past sh past).shape ≡ sh =
      ap (λ (es : List Event). (run_of es (start_core sh 1)).shape) (sym (take-length past)) ∙ shape_on past (start_core sh 1) (allowed-front past rest (start_core sh 1) (each-allowed sh (past ++ rest) h)) (length past) in
      let r =
      made_by_log (core_past sh past) (heap_past sh past) rest (rest-run sh past rest h) i o (start_seat sh i) there low (length rest) (omega arith)
      (ap (λ (z : Shape). (makings z.fields o nothing_made (log_from i (core_past sh past) (take (length rest) rest))).fresh) shape ∙ (ap (λ (l : List Entry). (makings sh.fields o nothing_made l).fresh) own ∙ fresh)) in
      (r.0, ap (λ (w : World). variable_of w i o) (sym end_heap) ∙ r.1, r.2)

module _ (sh : Shape) (es : List Event) (h : IsHistory sh es) (i : ℕ) (c : Came sh es h i (length es)) where
  cut : take c.moment es ++ drop c.moment es ≡ es
  cut = take-append-drop c.moment es

  whole : IsHistory sh (take c.moment es ++ drop c.moment es)
  whole = subst (IsHistory sh) (sym cut) h

  -- the variables of a seat that is there are those that its log tells
  pub words-told : (t : SeatState) → slice_get (core_past sh es).seats i ≡ Some t → t.spent ≡ false → IsRecordAfter (log_of sh es i) t
  words-told =
      subst (λ (fs : List Event). (t : SeatState) → slice_get (core_past sh fs).seats i ≡ Some t → t.spent ≡ false → IsRecordAfter (log_of sh fs i) t) cut
      (words_on sh (take c.moment es) (drop c.moment es) whole i c.there c.none)

  -- a variable that has an object which the seat made
  pub made-told : (o : ℕ) → o < section_variables → (makings sh.fields o nothing_made (log_of sh es i)).fresh ≡ true → (name : Name) × (variable_of (heap_past sh es) i o ≡ Some name) × (name.section ≡ i)
  made-told =
      subst (λ (fs : List Event). (o : ℕ) → o < section_variables → (makings sh.fields o nothing_made (log_of sh fs i)).fresh ≡ true → (name : Name) × (variable_of (heap_past sh fs) i o ≡ Some name) × (name.section ≡ i)) cut
      (made_on sh (take c.moment es) (drop c.moment es) whole i c.there c.none)

-- A seat that was joined into another takes no step.
spent_next : (c : Core) (j i : ℕ) (s t : SeatState) (step : Step) → i ≢ j → slice_get c.seats i ≡ Some t → t.spent ≡ true → (u : SeatState) × (slice_get (seats_left c j s step) i ≡ Some u) × (u.spent ≡ true)
spent_next c j i s t Split d at gone =
    let xs : List SeatState = set c.seats j s in
    let within = slice_get_within c.seats i t at in
    (t, get-front xs (start_seat c.shape (length xs)) i (omega (arith, within, length-set c.seats j s)) ∙ (get-set_other c.seats j i s d ∙ at), gone)
spent_next c j i s t (Join other) d at gone =
    let xs : List SeatState = set c.seats j s in
    ⊎_elim
    (λ (e : i ≡ other). (spent_seat c.shape other, subst (λ (k : ℕ). slice_get (set xs k (spent_seat c.shape other)) i ≡ Some (spent_seat c.shape other)) e (get-set_same xs i t (spent_seat c.shape other) (get-set_other c.seats j i s d ∙ at)), refl))
    (λ (n : i ≢ other). (t, get-set_other xs other i (spent_seat c.shape other) n ∙ (get-set_other c.seats j i s d ∙ at), gone))
    (cases_eq i other)
spent_next c j i s t step d at gone = (t, get-set_other c.seats j i (seat_after c.shape s step (found c s step)) d ∙ at, gone)

pub spent-none : (i : ℕ) (es : List Event) (c : Core) → Sound c es → AreAllowed c es → (t : SeatState) → slice_get c.seats i ≡ Some t → t.spent ≡ true → log_from i c es ≡ []
spent-none i [] c sound ok t at gone = refl
spent-none i (e ∷ es) c sound ok t at gone =
    let r : (s : SeatState) × Acted c e s = acts c e (sound 0) ok.0 in
    let other : i ≢ e.seat = λ q. true≢false (sym gone ∙ (ap (λ (z : SeatState). z.spent) (same_Some t r.0 (sym at ∙ (ap (λ (k : ℕ). slice_get c.seats k) q ∙ r.1.seat))) ∙ r.1.live)) in
    let n = spent_next c e.seat i r.0 t e.step other at gone in
    let now : slice_get (after_event c e).seats i ≡ Some n.0 = ap (λ (xs : List SeatState). slice_get xs i) r.1.seats ∙ n.1 in
    ap (λ (l : List Entry). l ++ log_from i (after_event c e) es) (other_adds i c e other) ∙ spent-none i es (after_event c e) (later-sound c e es ok.0 sound) ok.1 n.0 now n.2
