-- Outside tracing no seat has work in hand, a block is in hand only outside tracing, and what a seat that has nothing lacks.
use Rattle.std.proofs.Common.{ℕ, ◌≡◌, ◌<◌, List, get_or, length, refl, sym, ap, ◌∙◌, subst, Bool, true, false, not, ◌&&◌, ◌||◌, eqb, Option, Some, None, ⊎_elim, ◌/◌, ◌%◌, set, ◌⊎◌, inl, ◌^◌, arith, inr}
use Rattle.std.specs.Prelude.{IsFalse, IfSome, is_some, is_none, slice_get, IsTrue}
use Rattle.std.specs.List.{All}
use Rattle.std.proofs.lemmas.Bool.{true≢false, false≢true, cases_Bool, or_cases, or_parts, and_parts, not-true, eqb-true, cases_eq}
use Rattle.std.proofs.lemmas.List.{length-map, get_or-map, set-get_or}
use Rattle.std.proofs.lemmas.Option.{slice_get_within, get_or_from_slice_get}
use Rattle.mark_core.specs.Layout.{Words, words_of, region_sizes, region_words}
use Rattle.mark_core.specs.Held.{holds_any}
use Rattle.mark_core.specs.Seats.{left_in, cleaning_left, work_in_hand, empty_handed, is_the}
use Rattle.mark_core.specs.Views.{blocks}
use Rattle.mark_core.specs.Rules.WorldRules.{is_tracing}
use Rattle.mark_core.specs.Steps.WorldSteps.{has_nothing}
use Rattle.mark_core.specs.Strong.{IsStrongBlock}
use Rattle.mark_core.specs.Steps.{Core, AllTrue}
use Rattle.mark_core.specs.Laws.{IsCore}
use Rattle.mark_core.proofs.Hands.HandsCleaning.{in_set-none}
use Rattle.mark_core.specs.declared.kinds.Shape.{Shape}
use Rattle.mark_core.specs.declared.seat.SeatState.{SeatState}
use Rattle.mark_core.specs.declared.seat.Cleaning.{Cleaning}
use Rattle.mark_core.specs.declared.seat.BlockState.{BlockState}
use Rattle.mark_core.specs.Cards.{block_of_card}
use Rattle.mark_core.specs.Bits.{with_bit, cell_bit, has_bit}
use Rattle.mark_core.specs.Steps.SweepSteps.{own_block}
use Rattle.mark_core.specs.Parts.{parts}
use Rattle.mark_core.specs.Effects.{place, written}
use Rattle.mark_core.proofs.Writing.Places.{words-get}
use Rattle.mark_core.proofs.Writing.Ranges.{placed}
use Rattle.mark_core.proofs.Known.{found, words_left, in_range}
use Rattle.mark_core.proofs.Writing.RegionWrites.{marks-kept}
use Rattle.mark_core.specs.declared.kinds.Step.{Step}
use Rattle.mark_core.specs.declared.kinds.Step.TheVariants.{SetMark, ReadMarks, ReadBlockMarks, ClearMarks}
use Rattle.std.specs.Int.{bit_at}
use Rattle.std.proofs.lemmas.Nat.Bits.{bit_at-pow_other}
use Rattle.mark_core.proofs.Writing.CellBits.{no-bit, with_same, bit-more, bit-either, bit-here, bits-grow, bits-from, same-index}

-- outside tracing no seat has work in hand
pub idle-seats : (c : Core) → IsCore c → is_tracing (words_of c.shape c.words).phase ≡ false → All (λ (s : SeatState). work_in_hand c.shape.fields s ≡ false) c.seats
idle-seats c k e i d h =
    let s : SeatState = get_or c.seats i d in
    let none : IsFalse (holds_any s.held) = subst (λ x. IsFalse (holds_any x)) (get_or-map (λ (t : SeatState). t.held) c.seats i d d.held h) (k.sound.phases.hands_empty e i d.held (rw length-map h)) in
    ⊎_elim
    (λ (f : work_in_hand c.shape.fields s ≡ true). absurd (true≢false (sym (k.sound.counts.work_holds i d h f) ∙ none)))
    (λ (f : work_in_hand c.shape.fields s ≡ false). f)
    (cases_Bool (work_in_hand c.shape.fields s))

-- a fact of all seats, at this one
pub at-seat : (P : SeatState → Type 0) (c : Core) (i : ℕ) (s : SeatState) → slice_get c.seats i ≡ Some s → All P c.seats → P s
at-seat P c i s g a = subst P (get_or_from_slice_get c.seats i s s g) (a i s (slice_get_within c.seats i s g))

-- a seat with work in hand is in tracing
pub work-traces : (c : Core) (i : ℕ) (s : SeatState) → IsCore c → slice_get c.seats i ≡ Some s → work_in_hand c.shape.fields s ≡ true → is_tracing (words_of c.shape c.words).phase ≡ true
work-traces c i s k g e =
    let phase : ℕ = (words_of c.shape c.words).phase in
    ⊎_elim
    (λ (f : is_tracing phase ≡ true). f)
    (λ (f : is_tracing phase ≡ false). absurd (true≢false (sym e ∙ at-seat (λ (t : SeatState). work_in_hand c.shape.fields t ≡ false) c i s g (idle-seats c k f))))
    (cases_Bool (is_tracing phase))

-- neither is a block in hand
block_time : (phase next : ℕ) (allocs marks : List ℕ) (o : Option BlockState) → IfSome o (IsStrongBlock phase next allocs marks) → is_some o ≡ true → is_tracing phase ≡ false
block_time phase next allocs marks None k e = absurd (false≢true e)
block_time phase next allocs marks (Some x) k e =
    ⊎_elim
    (λ (a : eqb phase 3 ≡ true). ap is_tracing (eqb-true phase 3 a))
    (λ (a : eqb phase 4 ≡ true). ap is_tracing (eqb-true phase 4 a))
    (or_cases (eqb phase 3) (eqb phase 4) k.block_in_time)

-- the block that a seat has in hand
pub own-block : (c : Core) (i : ℕ) (s : SeatState) → IsCore c → slice_get c.seats i ≡ Some s
    → IfSome s.block (IsStrongBlock (words_of c.shape c.words).phase (words_of c.shape c.words).next_block (words_of c.shape c.words).allocs (words_of c.shape c.words).marks)
own-block c i s k g =
    let w : Words = words_of c.shape c.words in
    let P : Option BlockState → Type 0 = λ o. IfSome o (IsStrongBlock w.phase w.next_block w.allocs w.marks) in
    let h : i < length c.seats = slice_get_within c.seats i s g in
    let at : get_or (blocks c.seats) i s.block ≡ s.block = get_or-map (λ (t : SeatState). t.block) c.seats i s s.block h ∙ ap (λ (t : SeatState). t.block) (get_or_from_slice_get c.seats i s s g) in
    subst P at (k.strong.blocks_strong i s.block (rw length-map h))

pub block-stops : (c : Core) (i : ℕ) (s : SeatState) → IsCore c → slice_get c.seats i ≡ Some s → is_some s.block ≡ true → is_tracing (words_of c.shape c.words).phase ≡ false
block-stops c i s k g e = let w : Words = words_of c.shape c.words in block_time w.phase w.next_block w.allocs w.marks s.block (own-block c i s k g) e

-- a cleaning with nothing left
zero_left : (k z r : Bool) → (not k || not z || r) ≡ false → z ≡ true
zero_left k true r e = refl
zero_left true false r e = absurd (true≢false e)
zero_left false false r e = absurd (true≢false e)

-- if a cell is left, the cleaning isn't done
pub left-works : (o : Option Cleaning) (c : ℕ) (P : Type 0) → cleaning_left o ≡ false → left_in o c ≡ true → P
left-works None c P e f = absurd (false≢true f)
left-works (Some x) c P e f =
    let none : x.left ≡ 0 = eqb-true x.left 0 (zero_left x.known (eqb x.left 0) x.redirty e) in
    in_set-none (block_of_card x.card) c P (rw none at f)

-- a seat without work in hand has no cell left in a cleaning
pub idle-cleaning : (fields : ℕ) (s : SeatState) → work_in_hand fields s ≡ false → cleaning_left s.cleaning ≡ false
idle-cleaning fields s e = (or_parts _ (cleaning_left s.cleaning) e).1

-- what a seat that has nothing lacks
pub record Lacks (fields : ℕ) (o : SeatState) : Type 0 where
  pub held : holds_any o.held ≡ false
  pub work : work_in_hand fields o ≡ false
  pub owes : is_none o.owes ≡ true
  pub cache : is_none o.cache ≡ true

pub lacks-from : (sh : Shape) (o : SeatState) → has_nothing sh o ≡ true → Lacks sh.fields o
lacks-from sh o e =
    let a = and_parts (empty_handed o && not (work_in_hand sh.fields o) && is_none o.owes && is_none o.cache && is_none o.block) _ e in
    let b = and_parts (empty_handed o && not (work_in_hand sh.fields o) && is_none o.owes && is_none o.cache) (is_none o.block) a.0 in
    let d = and_parts (empty_handed o && not (work_in_hand sh.fields o) && is_none o.owes) (is_none o.cache) b.0 in
    let f = and_parts (empty_handed o && not (work_in_hand sh.fields o)) (is_none o.owes) d.0 in
    let h = and_parts (empty_handed o) (not (work_in_hand sh.fields o)) f.0 in
    let hand = and_parts (not (holds_any o.held) && not o.reserved) (not o.credit) h.0 in
    record { held = not-true _ (and_parts (not (holds_any o.held)) (not o.reserved) hand.0).0; work = not-true _ h.1; owes = f.1; cache = d.1 }

-- What a step does to the mark bits and to the allocation bits.
-- Which bits come and go when the bit of one cell is set, or a word is cleared.
bit_one : (w i : ℕ) → has_bit w i ≡ true → bit_at w i ≡ 1
bit_one w i e = eqb-true (bit_at w i) 1 e

pub with-bit_cases : (w k i : ℕ) → has_bit (with_bit w k) i ≡ true → (has_bit w i ≡ true) ⊎ (i ≡ k)
with-bit_cases w k i e =
    ⊎_elim
    (λ (h : has_bit w i ≡ true). inl h)
    (λ (h : has_bit (2 ^ k) i ≡ true).
    inr
    (⊎_elim
    (λ (s : i ≡ k). s)
    (λ (n : i ≡ k → ⊥). absurd (omega (arith, bit_one (2 ^ k) i h, bit_at-pow_other k i n)))
    (cases_eq i k)))
    (bit-either w (2 ^ k) i e)

-- the bit of cell c is set: no bit is lost, and none but its own comes
pub mark-grows : (ws : List ℕ) (c x : ℕ) → cell_bit ws x ≡ true → cell_bit (set ws (c / 64) (with_bit (get_or ws (c / 64) 0) (c % 64))) x ≡ true
mark-grows ws c x e = bits-grow ws (c / 64) _ x (λ s h. bit-more (get_or ws (c / 64) 0) (2 ^ (c % 64)) (x % 64) h) e

pub mark-sets : (ws : List ℕ) (c : ℕ) → c / 64 < length ws → cell_bit (set ws (c / 64) (with_bit (get_or ws (c / 64) 0) (c % 64))) c ≡ true
mark-sets ws c h = bit-here ws (c / 64) _ c h refl ∙ with_same (get_or ws (c / 64) 0) (c % 64)

pub mark-from : (ws : List ℕ) (c x : ℕ) → cell_bit (set ws (c / 64) (with_bit (get_or ws (c / 64) 0) (c % 64))) x ≡ true → (cell_bit ws x ≡ true) ⊎ (x ≡ c)
mark-from ws c x e =
    ⊎_elim
    (λ (h : cell_bit ws x ≡ true). inl h)
    (λ (p : (c / 64 ≡ x / 64) × (has_bit (with_bit (get_or ws (c / 64) 0) (c % 64)) (x % 64) ≡ true)).
    ⊎_elim
    (λ (h : has_bit (get_or ws (c / 64) 0) (x % 64) ≡ true). inl (rw p.0 at h))
    (λ (f : x % 64 ≡ c % 64). inr (same-index x c (sym p.0) f))
    (with-bit_cases (get_or ws (c / 64) 0) (c % 64) (x % 64) p.1))
    (bits-from ws (c / 64) _ x e)

-- a word that is cleared has no bit that wasn't there
pub clear-from : (ws : List ℕ) (b x : ℕ) → cell_bit (set ws b 0) x ≡ true → cell_bit ws x ≡ true
clear-from ws b x e =
    ⊎_elim
    (λ (h : cell_bit ws x ≡ true). h)
    (λ (p : (b ≡ x / 64) × (has_bit 0 (x % 64) ≡ true)). absurd (true≢false (sym p.1 ∙ no-bit (x % 64))))
    (bits-from ws b 0 x e)

-- the word that a step finds, in its region
pub found-word : (c : Core) (i : ℕ) (s : SeatState) (step : Step) → IsCore c → slice_get c.seats i ≡ Some s → AllTrue (parts c.shape (words_of c.shape c.words) c.seats s step)
    → found c s step ≡ get_or (region_words (region_sizes c.shape) (place c.shape s step).0 c.words) (place c.shape s step).1 0
found-word c i s step k g ok =
    words-get (region_sizes c.shape) (place c.shape s step).0 c.words (place c.shape s step).1 0 (placed c.shape (words_of c.shape c.words) c.seats s step (in_range c i s k g) ok)

-- a word that is written back leaves the bits
written_back : (ws : List ℕ) (b old x : ℕ) → old ≡ get_or ws b 0 → cell_bit (set ws b old) x ≡ cell_bit ws x
written_back ws b old x e = ap (λ vs. cell_bit vs x) (ap (set ws b) e ∙ set-get_or ws b 0)

-- in tracing no mark is lost
pub marks-grow : (c : Core) (i : ℕ) (s : SeatState) (step : Step) → IsCore c → slice_get c.seats i ≡ Some s → AllTrue (parts c.shape (words_of c.shape c.words) c.seats s step)
    → IsTrue (is_tracing (words_left c s step).phase) → (x : ℕ) → cell_bit (words_of c.shape c.words).marks x ≡ true → cell_bit (words_left c s step).marks x ≡ true
marks-grow c i s (SetMark m) k g ok t x e =
    let marks : List ℕ = (words_of c.shape c.words).marks in
    subst (λ (old : ℕ). cell_bit (set marks (m / 64) (with_bit old (m % 64))) x ≡ true) (sym (found-word c i s (SetMark m) k g ok)) (mark-grows marks m x e)
marks-grow c i s (ReadMarks b) k g ok t x e = written_back (words_of c.shape c.words).marks b (found c s (ReadMarks b)) x (found-word c i s (ReadMarks b) k g ok) ∙ e
marks-grow c i s ReadBlockMarks k g ok t x e = written_back (words_of c.shape c.words).marks (own_block s) (found c s ReadBlockMarks) x (found-word c i s ReadBlockMarks k g ok) ∙ e
marks-grow c i s ClearMarks k g ok t x e = absurd (true≢false (sym t ∙ block-stops c i s k g ok.0))
marks-grow c i s step k g ok t x e = rw (marks-kept c.shape s step (written c.shape s step (found c s step)) (words_of c.shape c.words) refl) e

-- the step marks the cell
abbrev pub MarksIt : Step → ℕ → Type 0
MarksIt (SetMark m) x = x ≡ m
MarksIt step x = ⊥

-- the cell that a step marks is the one that the seat loaded
pub marks-value : (c : Core) (s : SeatState) (step : Step) (x : ℕ) → AllTrue (parts c.shape (words_of c.shape c.words) c.seats s step) → MarksIt step x → is_the s.value x ≡ true
marks-value c s (SetMark m) x ok e = rw e (and_parts _ _ ok.0).1
marks-value c s step x ok e = absurd e

-- a mark is there as before, or comes with the step
pub marks-from : (c : Core) (i : ℕ) (s : SeatState) (step : Step) → IsCore c → slice_get c.seats i ≡ Some s → AllTrue (parts c.shape (words_of c.shape c.words) c.seats s step)
    → (x : ℕ) → cell_bit (words_left c s step).marks x ≡ true → (cell_bit (words_of c.shape c.words).marks x ≡ true) ⊎ MarksIt step x
marks-from c i s (SetMark m) k g ok x e =
    let marks : List ℕ = (words_of c.shape c.words).marks in
    mark-from marks m x (subst (λ (old : ℕ). cell_bit (set marks (m / 64) (with_bit old (m % 64))) x ≡ true) (found-word c i s (SetMark m) k g ok) e)
marks-from c i s (ReadMarks b) k g ok x e = inl (sym (written_back (words_of c.shape c.words).marks b (found c s (ReadMarks b)) x (found-word c i s (ReadMarks b) k g ok)) ∙ e)
marks-from c i s ReadBlockMarks k g ok x e = inl (sym (written_back (words_of c.shape c.words).marks (own_block s) (found c s ReadBlockMarks) x (found-word c i s ReadBlockMarks k g ok)) ∙ e)
marks-from c i s ClearMarks k g ok x e = inl (clear-from (words_of c.shape c.words).marks (own_block s) x e)
marks-from c i s step k g ok x e = inl (rw (marks-kept c.shape s step (written c.shape s step (found c s step)) (words_of c.shape c.words) refl) at e)
