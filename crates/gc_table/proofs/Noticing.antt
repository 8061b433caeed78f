-- What a seat has noted, and what of it a call keeps.
use Rattle.std.proofs.Common.{ℕ, ◌≡◌, ◌≤◌, ◌∷◌, ◌⊎◌, inl, inr, arith, refl, sym, ap, ◌∙◌, subst, Bool, true, false, true≢false, cond, ◌||◌, Some, None, ⊎_elim, [], map, Option, eqb, eq-eqb, eqb-true}
use Rattle.std.proofs.lemmas.Bool.{cases_Bool, ne_eqb, and_parts}
use Rattle.mark_core.specs.Effects.{place, written, seat_after}
use Rattle.mark_core.specs.Notes.{same_place, is_gate, steady, keeps_bound, word_at}
use Rattle.mark_core.specs.Places.{the_phase}
use Rattle.mark_core.specs.Seats.{phase_number}
use Rattle.mark_core.specs.declared.kinds.Phase.{Phase}
use Rattle.mark_core.specs.declared.kinds.Shape.{Shape}
use Rattle.mark_core.specs.declared.kinds.Step.{Step}
use Rattle.mark_core.specs.declared.kinds.Step.TheVariants.{Pop, Look, ReadCount, ReadLength, ReadAlloc, ReadField, ReadRoot, ReadMarks, ReadCard, ReadPhase, ReadOwn, ReadValue, ReadIdent, ReadCat, ReadFree, StoreNew, Observe, DropStep, StorePhase, ReadBlockMarks, Reset, AddStat, ReadStat, OpenStep, SeeHelp, ReadSeason, LoadSlot, ReadSlot, ReadWeak, CheckCard, HoldRoot}
use Rattle.mark_core.specs.declared.seat.SeatState.{SeatState}
use Rattle.mark_core.proofs.Writing.Writes.{at_part, at_counter}
use Rattle.gc_table.specs.declared.view.View.{View}
use Rattle.gc_table.specs.Log.{Only}
use Rattle.gc_table.specs.Notes.{Notes, look, if_kept, noting}
use Rattle.gc_table.specs.Running.{is_store, IsSeen, Ran, Known, AtLeast, Alone, ends_alone}
use Rattle.gc_table.specs.Rule.{Agrees}
use Rattle.gc_table.specs.Taking.{after, Finds}
use Rattle.gc_table.specs.TableState.{TableState}
use Rattle.gc_table.proofs.Running.{run-keeps}

-- What is noted after a step.
pub place-same : (x y : ℕ × ℕ) → same_place x y ≡ true → x ≡ y
place-same x y e = let p = and_parts (eqb x.0 y.0) (eqb x.1 y.1) e in ap (λ a. (a, x.1)) (eqb-true x.0 y.0 p.0) ∙ ap (λ b. (y.0, b)) (eqb-true x.1 y.1 p.1)

pub place-apart : (x y : ℕ × ℕ) → same_place x y ≡ false → (y.0 ≡ x.0) × (y.1 ≡ x.1) → ⊥
place-apart x y e p = true≢false (sym (rw (eq-eqb x.0 y.0 (sym p.0), eq-eqb x.1 y.1 (sym p.1)) refl) ∙ e)

pub some-is : (m n : ℕ) → Some m ≡ Some n → m ≡ n
some-is m n e = cc

-- the whole list at once
pub look-map : (keeps : ℕ × ℕ → ℕ → Bool) (at : ℕ × ℕ) (xs : Notes) → look at (map (λ x. (x.0, if_kept keeps x.0 x.1)) xs) ≡ if_kept keeps at (look at xs)
look-map keeps at [] = refl
look-map keeps at (x ∷ xs) = by_test (same_place x.0 at) refl (look-map keeps at xs)
  where
    by_test : (b : Bool) → same_place x.0 at ≡ b → look at (map (λ y. (y.0, if_kept keeps y.0 y.1)) xs) ≡ if_kept keeps at (look at xs) → cond b (if_kept keeps x.0 x.1) (look at (map (λ y. (y.0, if_kept keeps y.0 y.1)) xs)) ≡ if_kept keeps at (cond b x.1 (look at xs))
    by_test true e h = ap (λ p. if_kept keeps p x.1) (place-same x.0 at e)
    by_test false e h = h

kept-some : (keeps : ℕ × ℕ → ℕ → Bool) (at : ℕ × ℕ) (n : ℕ) (o : Option ℕ) → if_kept keeps at o ≡ Some n → (keeps at n ≡ true) × (o ≡ Some n)
kept-some keeps at n None e = absurd (cc)
kept-some keeps at n (Some m) e = by_test (keeps at m) refl e
  where
    by_test : (b : Bool) → keeps at m ≡ b → cond b (Some m) None ≡ Some n → (keeps at n ≡ true) × (Some m ≡ Some n)
    by_test true k e = let is : m ≡ n = cc in (subst (λ x. keeps at x ≡ true) is k, e)
    by_test false k e = absurd (cc)

-- what is noted of a place is the word that the step left there, or an older note of another place; and it may be kept
pub noted-after : (keeps : ℕ × ℕ → ℕ → Bool) (to at : ℕ × ℕ) (word n : ℕ) (xs : Notes) → look at (noting keeps to word xs) ≡ Some n → (keeps at n ≡ true) × (cond (same_place to at) (Some word) (look at xs) ≡ Some n)
noted-after keeps to at word n xs e = kept-some keeps at n (cond (same_place to at) (Some word) (look at xs)) (sym (look-map keeps at ((to, Some word) ∷ xs)) ∙ e)

-- the step reads its word and leaves it
abbrev pub is_load : Step → Bool
is_load (Pop p) = true
is_load (Look q g) = true
is_load ReadCount = true
is_load (ReadLength p) = true
is_load (ReadAlloc b) = true
is_load (ReadField c i) = true
is_load (ReadRoot section v) = true
is_load (ReadMarks b) = true
is_load (ReadCard card) = true
is_load (CheckCard card) = true
is_load ReadPhase = true
is_load (ReadOwn c i) = true
is_load (ReadValue c) = true
is_load (ReadIdent c) = true
is_load (ReadCat v) = true
is_load (ReadSlot k) = true
is_load (ReadWeak c) = true
is_load (HoldRoot v r) = true
is_load (LoadSlot section k) = true
is_load ReadFree = true
is_load Observe = true
is_load ReadBlockMarks = true
is_load (ReadStat which) = true
is_load SeeHelp = true
is_load ReadSeason = true
is_load step = false

pub load-leaves : (sh : Shape) (s : SeatState) (step : Step) (n : ℕ) → is_load step ≡ true → written sh s step n ≡ n
load-leaves sh s (Pop p) n e = refl
load-leaves sh s (Look q g) n e = refl
load-leaves sh s ReadCount n e = refl
load-leaves sh s (ReadLength p) n e = refl
load-leaves sh s (ReadAlloc b) n e = refl
load-leaves sh s (ReadField c i) n e = refl
load-leaves sh s (ReadRoot section v) n e = refl
load-leaves sh s (ReadMarks b) n e = refl
load-leaves sh s (ReadCard card) n e = refl
load-leaves sh s (CheckCard card) n e = refl
load-leaves sh s ReadPhase n e = refl
load-leaves sh s (ReadOwn c i) n e = refl
load-leaves sh s (ReadValue c) n e = refl
load-leaves sh s (ReadIdent c) n e = refl
load-leaves sh s (ReadCat v) n e = refl
load-leaves sh s (ReadSlot k) n e = refl
load-leaves sh s (ReadWeak c) n e = refl
load-leaves sh s (HoldRoot v r) n e = refl
load-leaves sh s (LoadSlot section k) n e = refl
load-leaves sh s ReadFree n e = refl
load-leaves sh s Observe n e = refl
load-leaves sh s ReadBlockMarks n e = refl
load-leaves sh s (ReadStat which) n e = refl
load-leaves sh s SeeHelp n e = refl
load-leaves sh s ReadSeason n e = refl
load-leaves sh s step n e = absurd (true≢false (sym e))

load-found : (step : Step) → is_load step ≡ true → is_store step ≡ false
load-found (Pop p) e = refl
load-found (Look q g) e = refl
load-found ReadCount e = refl
load-found (ReadLength p) e = refl
load-found (ReadAlloc b) e = refl
load-found (ReadField c i) e = refl
load-found (ReadRoot section v) e = refl
load-found (ReadMarks b) e = refl
load-found (ReadCard card) e = refl
load-found (CheckCard card) e = refl
load-found ReadPhase e = refl
load-found (ReadOwn c i) e = refl
load-found (ReadValue c) e = refl
load-found (ReadIdent c) e = refl
load-found (ReadCat v) e = refl
load-found (ReadSlot k) e = refl
load-found (ReadWeak c) e = refl
load-found (HoldRoot v r) e = refl
load-found (LoadSlot section k) e = refl
load-found ReadFree e = refl
load-found Observe e = refl
load-found ReadBlockMarks e = refl
load-found (ReadStat which) e = refl
load-found SeeHelp e = refl
load-found ReadSeason e = refl
load-found step e = absurd (true≢false (sym e))

-- what is noted of another place stays, if it may be kept
pub note-stays : (keeps : ℕ × ℕ → ℕ → Bool) (to at : ℕ × ℕ) (word n : ℕ) (xs : Notes) → same_place to at ≡ false → keeps at n ≡ true → look at xs ≡ Some n → look at (noting keeps to word xs) ≡ Some n
note-stays keeps to at word n xs apart k h =
    look-map keeps at ((to, Some word) ∷ xs)
    ∙ (ap (λ (b : Bool). if_kept keeps at (cond b (Some word) (look at xs))) apart ∙ (ap (if_kept keeps at) h ∙ ap (λ (b : Bool). cond b (Some n) None) k))

-- the word that a step leaves is noted, if it may be kept
pub note-left : (keeps : ℕ × ℕ → ℕ → Bool) (to at : ℕ × ℕ) (word : ℕ) (xs : Notes) → same_place to at ≡ true → keeps at word ≡ true → look at (noting keeps to word xs) ≡ Some word
note-left keeps to at word xs here k =
    look-map keeps at ((to, Some word) ∷ xs) ∙ (ap (λ (b : Bool). if_kept keeps at (cond b (Some word) (look at xs))) here ∙ ap (λ (b : Bool). cond b (Some word) None) k)

-- what a step finds at a noted place is the note
pub found-noted : (v : View) (step : Step) (n m : ℕ) (at : ℕ × ℕ) → Finds step n v → same_place (place v.shape v.state step) at ≡ true → look at v.known ≡ Some m → n ≡ m
found-noted v step n m at f e h =
    let to : place f.state.core.shape v.state step ≡ at = ap (λ (sh : Shape). place sh v.state step) (sym f.agrees.shape) ∙ place-same (place v.shape v.state step) at e in
    sym f.word ∙ (ap (λ p. word_at f.state.core.shape f.state.core.words p) to ∙ (f.agrees.noted at m h).1)

-- what a step finds at a counter with a floor isn't below the floor
pub found-floored : (v : View) (step : Step) (n m : ℕ) (at : ℕ × ℕ) → Finds step n v → same_place (place v.shape v.state step) at ≡ true → look at v.floors ≡ Some m → m ≤ n
found-floored v step n m at f e h =
    let to : place f.state.core.shape v.state step ≡ at = ap (λ (sh : Shape). place sh v.state step) (sym f.agrees.shape) ∙ place-same (place v.shape v.state step) at e in
    subst (λ k. m ≤ k) (ap (λ p. word_at f.state.core.shape f.state.core.words p) (sym to) ∙ f.word) (f.agrees.floored at m h).1

-- a step elsewhere
pub known-elsewhere : (v : View) (step : Step) (n : ℕ) (at : ℕ × ℕ) (m : ℕ) → same_place (place v.shape v.state step) at ≡ false → steady (seat_after v.shape v.state step n) at m ≡ true → look at v.known ≡ Some m → Known (after step n v) at m
known-elsewhere v step n at m apart k h = (note-stays (steady (seat_after v.shape v.state step n)) (place v.shape v.state step) at (written v.shape v.state step n) m v.known apart k h, k)

-- a step here
pub known-here : (v : View) (step : Step) (n : ℕ) (at : ℕ × ℕ) → same_place (place v.shape v.state step) at ≡ true → steady (seat_after v.shape v.state step n) at (written v.shape v.state step n) ≡ true → Known (after step n v) at (written v.shape v.state step n)
known-here v step n at here k = (note-left (steady (seat_after v.shape v.state step n)) (place v.shape v.state step) at (written v.shape v.state step n) v.known here k, k)

-- a step that reads here what was noted
pub known-read : (v : View) (step : Step) (n : ℕ) (at : ℕ × ℕ) (m : ℕ) → is_load step ≡ true → IsSeen step n v → same_place (place v.shape v.state step) at ≡ true → steady (seat_after v.shape v.state step n) at m ≡ true → look at v.known ≡ Some m → Known (after step n v) at m
known-read v step n at m l s here k h =
    let same : written v.shape v.state step n ≡ m = load-leaves v.shape v.state step n l ∙ found-noted v step n m at (s.found (load-found step l)) here h in
    subst (λ x. Known (after step n v) at x) same (known-here v step n at here (subst (λ x. steady (seat_after v.shape v.state step n) at x ≡ true) (sym same) k))

-- steps of this sort leave the word at a place
abbrev pub Spares : (Step → Bool) → ℕ × ℕ → Type 0
Spares P at = (sh : Shape) (s : SeatState) (step : Step) → P step ≡ true → (same_place (place sh s step) at ≡ false) ⊎ (is_load step ≡ true)

-- one of them
pub known-step : (v : View) (step : Step) (n : ℕ) (at : ℕ × ℕ) (m : ℕ) → (same_place (place v.shape v.state step) at ≡ false) ⊎ (is_load step ≡ true) → IsSeen step n v → steady (seat_after v.shape v.state step n) at m ≡ true → look at v.known ≡ Some m → Known (after step n v) at m
known-step v step n at m spares s k h =
    ⊎_elim
    (λ (here : same_place (place v.shape v.state step) at ≡ true).
    ⊎_elim
    (λ (apart : same_place (place v.shape v.state step) at ≡ false). absurd (true≢false (sym here ∙ apart)))
    (λ (l : is_load step ≡ true). known-read v step n at m l s here k h)
    spares)
    (λ (apart : same_place (place v.shape v.state step) at ≡ false). known-elsewhere v step n at m apart k h)
    (cases_Bool (same_place (place v.shape v.state step) at))

-- a seat that is alone notes all words but those that count seats
pub alone-steady : (s : SeatState) (at : ℕ × ℕ) (n : ℕ) → is_gate at ≡ false → s.alone ≡ true → steady s at n ≡ true
alone-steady s at n g a = rw (g, a) refl

-- one that knows notes the phase
pub knows-steady : (s : SeatState) (n : ℕ) → s.knows ≡ true → steady s the_phase n ≡ true
knows-steady s n k = rw k (by_alone s.alone)
  where
    by_alone : (b : Bool) → (b || true) ≡ true
    by_alone true = refl
    by_alone false = refl

pub alone-stays : (sh : Shape) (s : SeatState) (step : Step) (old : ℕ) → ends_alone step ≡ false → s.alone ≡ true → (seat_after sh s step old).alone ≡ true
alone-stays sh s OpenStep old e a = absurd (true≢false e)
alone-stays sh s DropStep old e a = absurd (true≢false e)
alone-stays sh s Observe old e a = rw a refl
alone-stays sh s SeeHelp old e a = rw a refl
alone-stays sh s step old e a = a

pub knows-stays : (sh : Shape) (s : SeatState) (step : Step) (old : ℕ) → ends_alone step ≡ false → s.knows ≡ true → (seat_after sh s step old).knows ≡ true
knows-stays sh s DropStep old e a = absurd (true≢false e)
knows-stays sh s Observe old e a = rw a refl
knows-stays sh s step old e a = a

-- no step but a move of the phase writes its word
pub spares-phase : (sh : Shape) (s : SeatState) (step : Step) → ends_alone step ≡ false → (same_place (place sh s step) the_phase ≡ false) ⊎ (is_load step ≡ true)
spares-phase sh s (StorePhase to) e = absurd (true≢false e)
spares-phase sh s ReadPhase e = inr refl
spares-phase sh s (StoreNew c part word) e = inl (at_part (λ at. same_place at the_phase ≡ false) sh c part (λ i. refl) (λ i. refl) (λ i. refl))
spares-phase sh s (Reset which) e = inl (at_counter (λ at. same_place at the_phase ≡ false) which (λ i h. rw (ne_eqb i 1 (λ g. omega (arith, h, g))) refl) (λ i. refl))
spares-phase sh s (AddStat which by down) e = inl (at_counter (λ at. same_place at the_phase ≡ false) which (λ i h. rw (ne_eqb i 1 (λ g. omega (arith, h, g))) refl) (λ i. refl))
spares-phase sh s (ReadStat which) e = inl (at_counter (λ at. same_place at the_phase ≡ false) which (λ i h. rw (ne_eqb i 1 (λ g. omega (arith, h, g))) refl) (λ i. refl))
spares-phase sh s step e = inl refl

pub alone-phase : (p : Phase) (v : View) → Alone p v → Known v the_phase (phase_number p)
alone-phase p v a = (a.phase, knows-steady v.state (phase_number p) a.knows)

pub alone-step : (p : Phase) (v : View) (step : Step) (n : ℕ) → ends_alone step ≡ false → IsSeen step n v → Alone p v → Alone p (after step n v)
alone-step p v step n e s a =
    let knows = knows-stays v.shape v.state step n e a.knows in
    record {
      knows = knows;
      alone = alone-stays v.shape v.state step n e a.alone;
      phase = (known-step v step n the_phase (phase_number p) (spares-phase v.shape v.state step e) s (knows-steady (seat_after v.shape v.state step n) (phase_number p) knows) a.phase).0;
    }

-- a call stays alone, in the same phase
pub alone-kept : (p : Phase) (P : Step → Bool) → ((step : Step) → P step ≡ true → ends_alone step ≡ false) → (v w : View) → Ran v w → Only P v w → Alone p v → Alone p w
alone-kept p P h v w r o a = run-keeps P (Alone p) (λ x step n b s q. alone-step p x step n (h step b) s q) v w r o a

-- what a seat that is alone has noted of a word stays, if no step of the call writes the word
pub known-alone : (P : Step → Bool) (at : ℕ × ℕ) (m : ℕ) → ((step : Step) → P step ≡ true → ends_alone step ≡ false) → Spares P at → is_gate at ≡ false → (v w : View) → Ran v w → Only P v w → v.state.alone ≡ true → Known v at m → Known w at m
known-alone P at m h spares g v w r o a k =
    (run-keeps P (λ (x : View). (x.state.alone ≡ true) × Known x at m)
    (λ x step n b s q.
    let alone = alone-stays x.shape x.state step n (h step b) q.0 in
    (alone, known-step x step n at m (spares x.shape x.state step b) s (alone-steady (seat_after x.shape x.state step n) at m g alone) q.1.0))
    v w r o (a, k)).1

-- a step that leaves a counter at m or above
pub floor-here : (v : View) (step : Step) (n : ℕ) (at : ℕ × ℕ) (m : ℕ) → same_place (place v.shape v.state step) at ≡ true → keeps_bound (seat_after v.shape v.state step n) at ≡ true → m ≤ written v.shape v.state step n → AtLeast (after step n v) at m
floor-here v step n at m here k h =
    record {
      floor = written v.shape v.state step n;
      noted = note-left (λ p x. keeps_bound (seat_after v.shape v.state step n) p) (place v.shape v.state step) at (written v.shape v.state step n) v.floors here k;
      above = h;
      kept = k;
    }

-- a step elsewhere
pub floor-elsewhere : (v : View) (step : Step) (n : ℕ) (at : ℕ × ℕ) (m : ℕ) → same_place (place v.shape v.state step) at ≡ false → keeps_bound (seat_after v.shape v.state step n) at ≡ true → AtLeast v at m → AtLeast (after step n v) at m
floor-elsewhere v step n at m apart k a =
    record {
      floor = a.floor;
      noted = note-stays (λ p x. keeps_bound (seat_after v.shape v.state step n) p) (place v.shape v.state step) at (written v.shape v.state step n) a.floor v.floors apart k a.noted;
      above = a.above;
      kept = k;
    }

-- what a step finds at a counter isn't below its floor
pub found-above : (v : View) (step : Step) (n : ℕ) (at : ℕ × ℕ) (m : ℕ) → Finds step n v → same_place (place v.shape v.state step) at ≡ true → AtLeast v at m → m ≤ n
found-above v step n at m f e a = let low = found-floored v step n a.floor at f e a.noted in omega (arith, low, a.above)

-- the counter itself isn't below it, in a state that agrees with the view
pub word-above : (x : TableState) (i : ℕ) (v : View) (at : ℕ × ℕ) (m : ℕ) → Agrees x i v → AtLeast v at m → m ≤ word_at x.core.shape x.core.words at
word-above x i v at m a f = let low = (a.floored at f.floor f.noted).1 in omega (arith, low, f.above)
