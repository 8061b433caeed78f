-- Who knows that the heap is full has read it, or knew it before.
use Rattle.std.proofs.Common.{ℕ, ◌≡◌, ◌⊎◌, List, [], ◌∷◌, ◌++◌, length, inl, inr, refl, sym, ap, ◌∙◌, subst, Bool, true, false, Option, Some, None, cond, true≢false, ⊎_elim, arith}
use Rattle.std.specs.Prelude.{unwrap_or}
use Rattle.std.proofs.lemmas.Bool.{ne_eqb, or_left, or_right}
use Rattle.mark_core.specs.Effects.{place, seat_after, written}
use Rattle.mark_core.specs.Notes.{same_place, steady}
use Rattle.mark_core.specs.Places.{the_phase}
use Rattle.mark_core.specs.Seats.{phase_of, saw}
use Rattle.mark_core.specs.declared.kinds.Phase.{Phase}
use Rattle.mark_core.specs.declared.kinds.Phase.TheVariants.{Full}
use Rattle.mark_core.specs.declared.kinds.Shape.{Shape}
use Rattle.mark_core.specs.declared.kinds.Step.{Step}
use Rattle.mark_core.specs.declared.kinds.Step.TheVariants.{AddStat, Observe, ReadPhase, ReadStat, Reset, StoreNew, StorePhase}
use Rattle.mark_core.specs.declared.seat.SeatState.{SeatState}
use Rattle.mark_core.proofs.Known.{some_none}
use Rattle.mark_core.proofs.Writing.Writes.{at_counter, at_part}
use Rattle.gc_table.specs.Log.{events}
use Rattle.gc_table.specs.Notes.{Notes, if_kept, look, noting}
use Rattle.gc_table.specs.Rule.{KnowsFull}
use Rattle.gc_table.specs.Running.{Ran, after_all}
use Rattle.gc_table.specs.Taking.{after}
use Rattle.gc_table.specs.declared.view.Entry.{Entry}
use Rattle.gc_table.specs.declared.view.View.{View}
use Rattle.gc_table.proofs.Noticing.{look-map}
use Rattle.gc_table.proofs.Running.{ran-events, ran-join}
use Rattle.packet_pools.specs.Fields.{picked}
use Rattle.packet_pools.proofs.Searches.{some-left, some-right}
use Rattle.gc_cycle.specs.Courses.{TakesCourse, phase_stored}
use Rattle.gc_cycle.specs.Polling.{saw_full}
use Rattle.gc_cycle.specs.Sorts.{reads_phase}
use Rattle.gc_cycle.specs.Stepping.{FindsStopped}
use Rattle.seat_steps.specs.Causes.{FoundFull}

-- a note that was kept was there
kept_some : (keeps : ℕ × ℕ → ℕ → Bool) (at : ℕ × ℕ) (o : Option ℕ) (m : ℕ) → if_kept keeps at o ≡ Some m → o ≡ Some m
kept_some keeps at None m e = absurd (some_none m (sym e))
kept_some keeps at (Some n) m e = by (keeps at n) e
  where
    by : (b : Bool) → cond b (Some n) None ≡ Some m → Some n ≡ Some m
    by true h = h
    by false h = absurd (some_none m (sym h))

-- what is noted after a step was left by it, or was noted before
noted_by : (keeps : ℕ × ℕ → ℕ → Bool) (to at : ℕ × ℕ) (word : ℕ) (xs : Notes) (m : ℕ) → look at (noting keeps to word xs) ≡ Some m → ((same_place to at ≡ true) × (Some word ≡ Some m)) ⊎ (look at xs ≡ Some m)
noted_by keeps to at word xs m e = by (same_place to at) refl (kept_some keeps at _ m (sym (look-map keeps at ((to, Some word) ∷ xs)) ∙ e))
  where
    by : (b : Bool) → same_place to at ≡ b → cond b (Some word) (look at xs) ≡ Some m → ((same_place to at ≡ true) × (Some word ≡ Some m)) ⊎ (look at xs ≡ Some m)
    by true h k = inl (h, k)
    by false h k = inr k

-- a step at the word of the phase
abbrev at_phase : Step → Bool
at_phase (StorePhase to) = true
at_phase ReadPhase = true
at_phase step = false

elsewhere : (sh : Shape) (s : SeatState) (step : Step) → at_phase step ≡ false → same_place (place sh s step) the_phase ≡ false
elsewhere sh s (StorePhase to) e = absurd (true≢false e)
elsewhere sh s ReadPhase e = absurd (true≢false e)
elsewhere sh s (StoreNew c part word) e = at_part (λ at. same_place at the_phase ≡ false) sh c part (λ i. refl) (λ i. refl) (λ i. refl)
elsewhere sh s (Reset which) e = at_counter (λ at. same_place at the_phase ≡ false) which (λ i h. rw (ne_eqb i 1 (λ g. omega (arith, h, g))) refl) (λ i. refl)
elsewhere sh s (AddStat which by down) e = at_counter (λ at. same_place at the_phase ≡ false) which (λ i h. rw (ne_eqb i 1 (λ g. omega (arith, h, g))) refl) (λ i. refl)
elsewhere sh s (ReadStat which) e = at_counter (λ at. same_place at the_phase ≡ false) which (λ i h. rw (ne_eqb i 1 (λ g. omega (arith, h, g))) refl) (λ i. refl)
elsewhere sh s step e = refl

reads_five : (n : ℕ) → n ≡ 5 → reads_phase Full ReadPhase n ≡ true
reads_five n e = subst (λ (k : ℕ). saw (Some (phase_of k)) Full ≡ true) (sym e) refl

same_some : (m n : ℕ) → Some m ≡ Some n → m ≡ n
same_some m n e = ap (λ (o : Option ℕ). unwrap_or o 0) e

-- a step that doesn't move the phase, and leaves it noted as Full, read it so
reads_full : (sh : Shape) (s : SeatState) (step : Step) (n : ℕ) → phase_stored step n ≡ [] → same_place (place sh s step) the_phase ≡ true → written sh s step n ≡ 5 → reads_phase Full step n ≡ true
reads_full sh s (StorePhase to) n q h e = absurd (let long = ap length q in omega (arith, long))
reads_full sh s ReadPhase n q h e = reads_five n e
reads_full sh s step n q h e = absurd (true≢false (sym h ∙ elsewhere sh s step refl))

unmoved_first : (step : Step) (n : ℕ) (ps : List Phase) → phase_stored step n ++ ps ≡ [] → (phase_stored step n ≡ []) × (ps ≡ [])
unmoved_first (StorePhase to) n ps e = absurd (let long = ap length e in omega (arith, long))
unmoved_first step n ps e = (refl, e)

full_read : (es : List Entry) (v : View) → picked phase_stored es ≡ [] → look the_phase (after_all es v).known ≡ Some 5 → (look the_phase v.known ≡ Some 5) ⊎ (saw_full es ≡ true)
full_read [] v q k = inl k
full_read (e ∷ es) v q k =
    let p = unmoved_first e.step e.found (picked phase_stored es) q in
    let u : View = after e.step e.found v in
    ⊎_elim
    (λ (h : look the_phase u.known ≡ Some 5).
    ⊎_elim
    (λ (here : (same_place (place v.shape v.state e.step) the_phase ≡ true) × (Some (written v.shape v.state e.step e.found) ≡ Some 5)).
    inr (or_left (reads_phase Full e.step e.found) (saw_full es) (reads_full v.shape v.state e.step e.found p.0 here.0 (same_some _ 5 here.1))))
    (λ (before : look the_phase v.known ≡ Some 5). inl before)
    (noted_by (steady (seat_after v.shape v.state e.step e.found)) (place v.shape v.state e.step) the_phase (written v.shape v.state e.step e.found) v.known 5 h))
    (λ (h : saw_full es ≡ true). inr (or_right (reads_phase Full e.step e.found) (saw_full es) h))
    (full_read es u p.1 k)

-- what a look at the phase noted was what it found
noted_here : (keeps : ℕ × ℕ → ℕ → Bool) (word : ℕ) (xs : Notes) (m : ℕ) → look the_phase (noting keeps the_phase word xs) ≡ Some m → word ≡ m
noted_here keeps word xs m e = same_some word m (kept_some keeps the_phase (Some word) m (sym (look-map keeps the_phase ((the_phase, Some word) ∷ xs)) ∙ e))

-- who found the world stopped knows of a full heap by what it read then
stopped_full : (v w : View) → Ran v w → FindsStopped v w → KnowsFull w → saw_full (events v w) ≡ true
stopped_full v w r f k =
    let u : View = after Observe f.found v in
    let is : w ≡ after ReadPhase f.phase u = r.steps ∙ ap (λ (es : List Entry). after_all es v) f.all in
    let h : look the_phase (after ReadPhase f.phase u).known ≡ Some 5 = subst (λ (x : View). look the_phase x.known ≡ Some 5) is k in
    let five = noted_here (steady (seat_after u.shape u.state ReadPhase f.phase)) f.phase u.known 5 h in
    ap saw_full f.all ∙ or_left (reads_phase Full ReadPhase f.phase) _ (reads_five f.phase five)

-- so does who went on after that, and moved no phase
pub begins-full : (u v w x : View) → Ran u v → FindsStopped u v → TakesCourse [] [] v w → KnowsFull w → Ran w x → KnowsFull x → FoundFull u x
begins-full u v w x a f c k b full =
    let q : Ran v x = ran-join v w x c.changed.ran b in
    let noted : look the_phase (after_all (events v w) v).known ≡ Some 5 = subst (λ (y : View). look the_phase y.known ≡ Some 5) c.changed.ran.steps k in
    let all = ap saw_full (ran-events u v x a q) in (
      ⊎_elim
          (λ (before : KnowsFull v). all ∙ some-left (reads_phase Full) (events u v) (events v x) (stopped_full u v a f before))
          (λ (read : saw_full (events v w) ≡ true).
          all ∙ some-right (reads_phase Full) (events u v) (events v x) (ap saw_full (ran-events v w x c.changed.ran b) ∙ some-left (reads_phase Full) (events v w) (events w x) read))
          (full_read (events v w) v c.moved noted),
      full,
    )
