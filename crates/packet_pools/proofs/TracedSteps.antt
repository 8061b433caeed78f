-- One step of tracing leaves the rest as it was, and so do many.
use Rattle.std.proofs.Common.{◌≡◌, ℕ, List, [], ◌∷◌, ◌++◌, refl, sym, ap, ◌∙◌, true, ◌/◌, ◌%◌, ◌^◌, subst, Bool, false, cond, Some, None, ⊎_elim, eq-eqb, ◌⊎◌, inl, inr}
use Rattle.std.proofs.lemmas.Bool.{and_parts, and_from, cases_Bool, true≢false, false≢true, false_from_ne_true}
use Rattle.mark_core.specs.declared.kinds.Step.{Step}
use Rattle.gc_table.specs.declared.view.Entry.{Entry}
use Rattle.gc_table.specs.declared.view.View.{View}
use Rattle.gc_table.specs.Log.{events, Only}
use Rattle.gc_table.specs.Running.{after_all, Ran, is_store, IsSeen, ends_alone}
use Rattle.gc_table.specs.Taking.{after, Finds}
use Rattle.gc_table.proofs.History.Log.{events-after, events-none, grows-refl, grows-join, grows-after, only-none, only-after, only-join}
use Rattle.packet_pools.specs.Keeping.{all_keep, keeps_cells}
use Rattle.std.specs.Prelude.{◌||◌}
use Rattle.mark_core.specs.Cards.{block_cells}
use Rattle.mark_core.specs.Effects.{place, written, seat_after}
use Rattle.mark_core.specs.Notes.{same_place, steady, keeps_bound, keeps_single, is_counter}
use Rattle.mark_core.specs.Bits.{has_bit, with_bit}
use Rattle.mark_core.specs.Places.{mark_at}
use Rattle.mark_core.specs.declared.kinds.Step.TheVariants.{SetMark, ReadMarks, ClearMarks, ReadBlockMarks, DropStep, OpenStep, Reset, AddStat, ReadStat, StoreNew, StorePhase}
use Rattle.mark_core.proofs.Writing.CellBits.{bit-more, with_same}
use Rattle.mark_core.specs.declared.seat.SeatState.{SeatState}
use Rattle.gc_table.specs.Sections.{section_after}
use Rattle.gc_table.specs.Notes.{Notes, look, if_kept, noting}
use Rattle.gc_table.proofs.Noticing.{place-same, look-map, found-noted, is_load, known-step, alone-stays, alone-steady}
use Rattle.gc_table.proofs.Running.{ran-refl, ran-after, ran-join, ran-events, run-keeps}
use Rattle.packet_pools.specs.OnlyTraced.{is_traced, rest_of, IsNotedMarked, traces_cells, OnlyTracedBy, OnlyTraced, OnlyCleaned}

-- The steps of one call, and those of another after them, lose no cell in hand.
pub keep-append : (xs ys : List Entry) (v : View) → all_keep v xs ≡ true → all_keep (after_all xs v) ys ≡ true → all_keep v (xs ++ ys) ≡ true
keep-append [] ys v a b = b
keep-append (x ∷ xs) ys v a b = let h = and_parts (keeps_cells v.state x.step) (all_keep (after x.step x.found v) xs) a in and_from _ _ h.0 (keep-append xs ys (after x.step x.found v) h.1 b)

pub keep-none : (v : View) → all_keep v (events v v) ≡ true
keep-none v = ap (all_keep v) (events-none v)

pub keep-one : (v : View) (step : Step) (n : ℕ) → keeps_cells v.state step ≡ true → all_keep v (events v (after step n v)) ≡ true
keep-one v step n e = ap (all_keep v) (events-after v (after step n v) step n refl) ∙ and_from _ _ e refl

pub keep-join : (u v w : View) → events u w ≡ events u v ++ events v w → Ran u v → all_keep u (events u v) ≡ true → all_keep v (events v w) ≡ true → all_keep u (events u w) ≡ true
keep-join u v w all a x y = ap (all_keep u) all ∙ keep-append (events u v) (events v w) u x (ap (λ z. all_keep z (events v w)) (sym a.steps) ∙ y)

-- what was noted of another place stays, if it may be kept
note-stays : (keeps : ℕ × ℕ → ℕ → Bool) (to at : ℕ × ℕ) (word n : ℕ) (xs : Notes) → same_place to at ≡ false → keeps at n ≡ true → look at xs ≡ Some n → look at (noting keeps to word xs) ≡ Some n
note-stays keeps to at word n xs apart k h =
    look-map keeps at ((to, Some word) ∷ xs)
    ∙ (ap (λ (b : Bool). if_kept keeps at (cond b (Some word) (look at xs))) apart ∙ (ap (if_kept keeps at) h ∙ ap (λ (b : Bool). cond b (Some n) None) k))

-- what was noted of this place stays, if the word is left
note-again : (keeps : ℕ × ℕ → ℕ → Bool) (to at : ℕ × ℕ) (word n : ℕ) (xs : Notes) → same_place to at ≡ true → word ≡ n → keeps at n ≡ true → look at (noting keeps to word xs) ≡ Some n
note-again keeps to at word n xs here is k =
    look-map keeps at ((to, Some word) ∷ xs)
    ∙ (ap (λ (b : Bool). if_kept keeps at (cond b (Some word) (look at xs))) here ∙ (ap (λ m. if_kept keeps at (Some m)) is ∙ ap (λ (b : Bool). cond b (Some n) None) k))

traced-apart : (to at : ℕ × ℕ) → is_traced to ≡ true → is_traced at ≡ false → same_place to at ≡ false
traced-apart to at t f = false_from_ne_true (same_place to at) (λ e. true≢false (sym t ∙ (ap is_traced (place-same to at e) ∙ f)))

pub place-again : (at : ℕ × ℕ) → same_place at at ≡ true
place-again at = and_from _ _ (eq-eqb at.0 at.0 refl) (eq-eqb at.1 at.1 refl)

same-steady : (s t : SeatState) (at : ℕ × ℕ) (n : ℕ) → rest_of t ≡ rest_of s → steady s at n ≡ true → steady t at n ≡ true
same-steady s t at n e h = ap (λ (x : SeatState). steady x at n) e ∙ h

same-bound : (s t : SeatState) (at : ℕ × ℕ) → rest_of t ≡ rest_of s → keeps_bound s at ≡ true → keeps_bound t at ≡ true
same-bound s t at e h = ap (λ (x : SeatState). keeps_bound x at) e ∙ h

-- a seat that is alone keeps its notes of mark words
mark-steady : (s : SeatState) (b n : ℕ) → s.alone ≡ true → steady s (mark_at b) n ≡ true
mark-steady s b n h = ap (λ (a : Bool). a || keeps_single s (mark_at b) n) h

-- the word of an event is what its step found, or what it stored
pub seen-found : (v : View) (step : Step) (n : ℕ) → is_store step ≡ false → Finds step n v → IsSeen step n v
seen-found v step n k f = record { found = λ _. f; stored = λ t. absurd (true≢false (sym t ∙ k)) }

pub seen-stored : (v : View) (step : Step) (n : ℕ) → is_store step ≡ true → n ≡ written v.shape v.state step 0 → IsSeen step n v
seen-stored v step n k e = record { found = λ f. absurd (true≢false (sym k ∙ f)); stored = λ _. e }

pub traced-refl : (v : View) → OnlyTraced v v
traced-refl v = record { shape = refl; opened = refl; plan = refl; own = refl; joined = refl; rest = refl; log = grows-refl v; notes = λ at n f k h. h; floors = λ at n f k h. h; ran = ran-refl v; only = only-none traces_cells v; cells = λ _. keep-none v }

by-join : (t : Bool) (u v w : View) → OnlyTracedBy t u v → OnlyTracedBy t v w → OnlyTracedBy t u w
by-join t u v w a b =
    record {
      shape = b.shape ∙ a.shape;
      opened = b.opened ∙ a.opened;
      plan = b.plan ∙ a.plan;
      own = b.own ∙ a.own;
      joined = b.joined ∙ a.joined;
      rest = b.rest ∙ a.rest;
      log = grows-join u v w a.log b.log;
      notes = λ at n f k h. b.notes at n f (same-steady u.state v.state at n a.rest k) (a.notes at n f k h);
      floors = λ at n f k h. b.floors at n f (same-bound u.state v.state at a.rest k) (a.floors at n f k h);
      ran = ran-join u v w a.ran b.ran;
      only = only-join traces_cells u v w a.log b.log a.only b.only;
      cells = λ h. keep-join u v w (ran-events u v w a.ran b.ran) a.ran (a.cells h) (b.cells h);
    }

pub traced-join : (u v w : View) → OnlyTraced u v → OnlyTraced v w → OnlyTraced u w
traced-join u v w a b = by-join true u v w a b

pub cleaned-join : (u v w : View) → OnlyCleaned u v → OnlyCleaned v w → OnlyCleaned u w
cleaned-join u v w a b = by-join false u v w a b

-- a seat that traced may have cleaned, too
pub traced-cleaned : (v w : View) → OnlyTraced v w → OnlyCleaned v w
traced-cleaned v w a =
    record {
      shape = a.shape;
      opened = a.opened;
      plan = a.plan;
      own = a.own;
      joined = a.joined;
      rest = a.rest;
      log = a.log;
      notes = a.notes;
      floors = a.floors;
      ran = a.ran;
      only = a.only;
      cells = λ t. absurd (false≢true t);
    }

-- a step that writes a word of tracing
by-step : (b : Bool) (v : View) (step : Step) (n : ℕ) → is_traced (place v.shape v.state step) ≡ true → rest_of (seat_after v.shape v.state step n) ≡ rest_of v.state → section_after v.shape v.plan v.state step v.own ≡ v.own → IsSeen step n v → traces_cells step ≡ true → (b ≡ true → keeps_cells v.state step ≡ true)
    → OnlyTracedBy b v (after step n v)
by-step b v step n t e same seen sort keeps =
    let to : ℕ × ℕ = place v.shape v.state step in
    let s : SeatState = seat_after v.shape v.state step n in
    record {
      shape = refl;
      opened = refl;
      plan = refl;
      own = same;
      joined = refl;
      rest = e;
      log = grows-after v step n;
      notes = λ at m f k h. note-stays (steady s) to at (written v.shape v.state step n) m v.known (traced-apart to at t f) (same-steady v.state s at m e k) h;
      floors = λ at m f k h. note-stays (λ p x. keeps_bound s p) to at (written v.shape v.state step n) m v.floors (traced-apart to at t f) (same-bound v.state s at e k) h;
      ran = ran-after v (after step n v) step n refl seen;
      only = only-after traces_cells v (after step n v) step n sort refl;
      cells = λ h. keep-one v step n (keeps h);
    }

pub traced-step : (v : View) (step : Step) (n : ℕ) → is_traced (place v.shape v.state step) ≡ true → rest_of (seat_after v.shape v.state step n) ≡ rest_of v.state → section_after v.shape v.plan v.state step v.own ≡ v.own → IsSeen step n v → traces_cells step ≡ true → keeps_cells v.state step ≡ true → OnlyTraced v (after step n v)
traced-step v step n t e same seen sort keeps = by-step true v step n t e same seen sort (λ _. keeps)

-- so if a cell in hand may be lost
pub cleaned-step : (v : View) (step : Step) (n : ℕ) → is_traced (place v.shape v.state step) ≡ true → rest_of (seat_after v.shape v.state step n) ≡ rest_of v.state → section_after v.shape v.plan v.state step v.own ≡ v.own → IsSeen step n v → traces_cells step ≡ true → OnlyCleaned v (after step n v)
cleaned-step v step n t e same seen sort = by-step false v step n t e same seen sort (λ h. absurd (false≢true h))

bound-counter : (s : SeatState) (at : ℕ × ℕ) → keeps_bound s at ≡ true → is_counter at ≡ true
bound-counter s at h = (and_parts (is_counter at) (s.admitted || s.knows) h).0

-- a step that reads a word leaves each note
pub read-keeps : (v : View) (step : Step) (n : ℕ) → written v.shape v.state step n ≡ n → Finds step n v → (at : ℕ × ℕ) (m : ℕ) → steady (seat_after v.shape v.state step n) at m ≡ true → look at v.known ≡ Some m → look at (after step n v).known ≡ Some m
read-keeps v step n reads f at m k h =
    let to : ℕ × ℕ = place v.shape v.state step in
    let s : SeatState = seat_after v.shape v.state step n in
    ⊎_elim
    (λ (here : same_place to at ≡ true). note-again (steady s) to at (written v.shape v.state step n) m v.known here (reads ∙ found-noted v step n m at f here h) k)
    (λ (apart : same_place to at ≡ false). note-stays (steady s) to at (written v.shape v.state step n) m v.known apart k h)
    (cases_Bool (same_place to at))

-- a step that reads a word, other than a counter
pub traced-read : (v : View) (step : Step) (n : ℕ) → written v.shape v.state step n ≡ n → is_counter (place v.shape v.state step) ≡ false → Finds step n v → rest_of (seat_after v.shape v.state step n) ≡ rest_of v.state → section_after v.shape v.plan v.state step v.own ≡ v.own → is_store step ≡ false → traces_cells step ≡ true → keeps_cells v.state step ≡ true → OnlyTraced v (after step n v)
traced-read v step n reads c f e same load sort keeps =
    let to : ℕ × ℕ = place v.shape v.state step in
    let s : SeatState = seat_after v.shape v.state step n in
    record {
      shape = refl;
      opened = refl;
      plan = refl;
      own = same;
      joined = refl;
      rest = e;
      log = grows-after v step n;
      notes = λ at m _ k h. read-keeps v step n reads f at m (same-steady v.state s at m e k) h;
      floors =
          λ at m _ k h.
          note-stays (λ p x. keeps_bound s p) to at (written v.shape v.state step n) m v.floors
          (false_from_ne_true (same_place to at) (λ here. true≢false (sym (bound-counter v.state at k) ∙ (ap is_counter (sym (place-same to at here)) ∙ c))))
          (same-bound v.state s at e k)
          h;
      ran = ran-after v (after step n v) step n refl (seen-found v step n load f);
      only = only-after traces_cells v (after step n v) step n sort refl;
      cells = λ _. keep-one v step n keeps;
    }

-- a cell is marked: the others of its block stay marked
pub mark-keeps : (v : View) (x n c : ℕ) → Finds (SetMark x) n v → v.state.alone ≡ true → IsNotedMarked v c → IsNotedMarked (after (SetMark x) n v) c
mark-keeps v x n c f alone k =
    let to : ℕ × ℕ = mark_at (x / block_cells) in
    let s : SeatState = seat_after v.shape v.state (SetMark x) n in
    ⊎_elim
    (λ (here : same_place to (mark_at (c / block_cells)) ≡ true).
    let word : ℕ = with_bit n (x % block_cells) in (
      word,
      note-again (steady s) to (mark_at (c / block_cells)) word word v.known here refl (mark-steady s (c / block_cells) word alone),
      bit-more n (2 ^ (x % block_cells)) (c % block_cells) (ap (λ m. has_bit m (c % block_cells)) (found-noted v (SetMark x) n k.0 (mark_at (c / block_cells)) f here k.1) ∙ k.2),
    ))
    (λ (apart : same_place to (mark_at (c / block_cells)) ≡ false).
    (k.0, note-stays (steady s) to (mark_at (c / block_cells)) (with_bit n (x % block_cells)) k.0 v.known apart (mark-steady s (c / block_cells) k.0 alone) k.1, k.2))
    (cases_Bool (same_place to (mark_at (c / block_cells))))

-- the cell that is marked is noted as marked
pub marks-noted : (v : View) (x n : ℕ) → v.state.alone ≡ true → IsNotedMarked (after (SetMark x) n v) x
marks-noted v x n alone =
    let at : ℕ × ℕ = mark_at (x / block_cells) in
    let s : SeatState = seat_after v.shape v.state (SetMark x) n in
    let word : ℕ = with_bit n (x % block_cells) in
    (word, note-again (steady s) at at word word v.known (place-again at) refl (mark-steady s (x / block_cells) word alone), with_same n (x % block_cells))

-- the seat only traced up to the view after the call, if it is that after the step
pub traced-to : (v w : View) (step : Step) (n : ℕ) → w ≡ after step n v → OnlyTraced v (after step n v) → OnlyTraced v w
traced-to v w step n e k = subst (OnlyTraced v) (sym e) k

pub cleaned-to : (v w : View) (step : Step) (n : ℕ) → w ≡ after step n v → OnlyCleaned v (after step n v) → OnlyCleaned v w
cleaned-to v w step n e k = subst (OnlyCleaned v) (sym e) k

-- What a seat that is alone has noted as marked stays marked while it traces: by the steps that it takes alone.
-- a seat that is alone stays so while it traces
pub tracing-alone : (step : Step) → traces_cells step ≡ true → ends_alone step ≡ false
tracing-alone OpenStep p = absurd (false≢true p)
tracing-alone DropStep p = absurd (false≢true p)
tracing-alone (StorePhase to) p = absurd (false≢true p)
tracing-alone step p = refl

-- alone, and cell c is noted as marked
abbrev pub AloneMarked : ℕ → View → Type 0
AloneMarked c v = (v.state.alone ≡ true) × IsNotedMarked v c

other-step : (c : ℕ) (x : View) (step : Step) (n : ℕ) → traces_cells step ≡ true → IsSeen step n x → AloneMarked c x → (same_place (place x.shape x.state step) (mark_at (c / block_cells)) ≡ false) ⊎ (is_load step ≡ true) → AloneMarked c (after step n x)
other-step c x step n p s q spared =
    let alone = alone-stays x.shape x.state step n (tracing-alone step p) q.0 in
    let note = known-step x step n (mark_at (c / block_cells)) q.1.0 spared s (alone-steady (seat_after x.shape x.state step n) (mark_at (c / block_cells)) q.1.0 refl alone) q.1.1 in
    (alone, (q.1.0, note.0, q.1.2))

marked-step : (c : ℕ) (x : View) (step : Step) (n : ℕ) → traces_cells step ≡ true → IsSeen step n x → AloneMarked c x → AloneMarked c (after step n x)
marked-step c x (SetMark y) n p s q = (q.0, mark-keeps x y n c (s.found refl) q.0 q.1)
marked-step c x (ReadMarks b) n p s q = other-step c x (ReadMarks b) n p s q (inr refl)
marked-step c x ClearMarks n p s q = absurd (false≢true p)
marked-step c x ReadBlockMarks n p s q = absurd (false≢true p)
marked-step c x (Reset which) n p s q = absurd (false≢true p)
marked-step c x (AddStat which by down) n p s q = absurd (false≢true p)
marked-step c x (ReadStat which) n p s q = absurd (false≢true p)
marked-step c x (StoreNew cell part word) n p s q = absurd (false≢true p)
marked-step c x step n p s q = other-step c x step n p s q (inl refl)

pub marked-stays : (v w : View) → Ran v w → Only traces_cells v w → (c : ℕ) → v.state.alone ≡ true → IsNotedMarked v c → IsNotedMarked w c
marked-stays v w r o c alone k = (run-keeps traces_cells (AloneMarked c) (marked-step c) v w r o (alone, k)).1
