-- The rule of the phase, by facts of each seat: kept by each step that leaves the phase.
use Rattle.std.proofs.Common.{ℕ, Bool, ◌≡◌, ◌/◌, ◌%◌, ◌≤◌, ◌<◌, List, set, get_or, length, refl, sym, ap, ◌∙◌, subst, true, false, eqb, ⊎_elim, zero, suc, arith, ◌&&◌, ◌||◌, cond, Option, Some, None, [], ◌∷◌}
use Rattle.std.specs.Prelude.{IsTrue, IsFalse, slice_index, IfSome}
use Rattle.std.specs.List.{All}
use Rattle.std.proofs.lemmas.Bool.{true≢false, and_parts, or_cases, cases_eq, cases_lt, eqb-true, ltb-true, false≢true}
use Rattle.std.proofs.lemmas.List.{length-map, get_or-map, set-get_or, set_past, get_or-set_same, get_or-set_other}
use Rattle.std.proofs.lemmas.List.Elements.{All-map, All-head, All-tail}
use Rattle.mark_core.specs.Shapes.{EachCell, EachPacket}
use Rattle.mark_core.specs.Layout.{Words, words_of, region_sizes, block_count, put_word}
use Rattle.mark_core.specs.Bits.{cell_bit, has_bit}
use Rattle.mark_core.specs.Held.{holds_any, Slots, holds}
use Rattle.mark_core.specs.Seats.{is_phase, takes_part, may_trace, saw, phase_number, phase_of}
use Rattle.mark_core.specs.Views.{standings, hands, some_knows, standing_of}
use Rattle.mark_core.specs.Rules.WorldRules.{Phases, is_tracing, is_stopped_phase, is_resting}
use Rattle.mark_core.specs.Parts.{parts}
use Rattle.mark_core.specs.Effects.{written, seat_after, place}
use Rattle.mark_core.specs.Steps.{Core, AllTrue}
use Rattle.mark_core.proofs.Writing.Places.{words-get}
use Rattle.mark_core.proofs.Known.{found, words_left, unheld-unknown}
use Rattle.mark_core.proofs.Writing.RegionWrites.{marks-kept, heads-kept}
use Rattle.mark_core.proofs.Writing.CellBits.{no-bit}
use Rattle.mark_core.specs.declared.kinds.Shape.{Shape}
use Rattle.mark_core.specs.declared.kinds.Phase.TheVariants.{Sweep, Marking, Drain}
use Rattle.mark_core.specs.declared.kinds.Step.{Step}
use Rattle.mark_core.specs.declared.kinds.Step.TheVariants.{SetMark, ReadMarks, ReadBlockMarks, ClearMarks, ReadPhase, EnterStep, LeaveStep, DropStep, JoinHelpStep, LeaveHelpStep, Take, Give, Push, Pop, StoreLength, ReadLength}
use Rattle.mark_core.specs.declared.seat.SeatState.{SeatState}
use Rattle.mark_core.proofs.World.WorldMoves.{Fits}
use Rattle.mark_core.proofs.Writing.Writes.{touches_phase}
use Rattle.mark_core.proofs.World.WorldNumbers.{Local, bare-out}
use Rattle.mark_core.specs.declared.kinds.Phase.{Phase}
use Rattle.mark_core.specs.Cells.{length_among, packet_length}
use Rattle.mark_core.proofs.Pool.PoolSlots.{any-held, none-held}

-- What seats have seen of the phase, and what the phase is if a seat traces.
-- a mutator that saw Marking is in it, and a helper knows the phase
pub record Sees (phase : ℕ) (s : SeatState) : Type 0 where
  pub marking : IsTrue s.active → IsTrue (saw s.phase_seen Marking) → phase ≡ 1
  pub helper : IsTrue s.admitted → IfSome s.phase_seen (λ x. phase ≡ phase_number x)

-- the phase of a number that is one's
number_of : (n : ℕ) → n ≤ 5 → phase_number (phase_of n) ≡ n
number_of zero h = refl
number_of (suc zero) h = refl
number_of (suc (suc zero)) h = refl
number_of (suc (suc (suc zero))) h = refl
number_of (suc (suc (suc (suc zero)))) h = refl
number_of (suc (suc (suc (suc (suc zero))))) h = refl
number_of (suc (suc (suc (suc (suc (suc n)))))) h = absurd (omega arith)

read_sees : (phase : ℕ) (s : SeatState) (b : Bool) (p : Phase) → Sees phase s → phase ≡ phase_number p → Sees phase (record s { phase_seen = cond b (Some p) s.phase_seen })
read_sees phase s true p k e = record { marking = λ a m. e ∙ eqb-true (phase_number p) 1 m; helper = λ a. e }
read_sees phase s false p k e = record { marking = k.marking; helper = k.helper }

pub sees-after : (sh : Shape) (w : Words) (seats : List SeatState) (s : SeatState) (step : Step) (old : ℕ) → Sees w.phase s → Local sh s → Fits (standing_of s) → w.phase ≤ 5 → (touches_phase step ≡ true → old ≡ w.phase) → AllTrue (parts sh w seats s step)
    → Sees w.phase (seat_after sh s step old)
sees-after sh w seats s ReadPhase old k l f h e ok =
    let here : old ≡ w.phase = e refl in
    read_sees w.phase s (takes_part s) (phase_of old) k (sym (number_of old (rw here h) ∙ here))
sees-after sh w seats s EnterStep old k l f h e ok =
    let none : s.phase_seen ≡ None = l.unseen (bare-out s f ok.0) in
    record { marking = λ a m. absurd (true≢false (sym m ∙ ap (λ o. saw o Marking) none)); helper = k.helper }
sees-after sh w seats s LeaveStep old k l f h e ok = record { marking = λ a m. absurd (false≢true a); helper = λ a. tt }
sees-after sh w seats s DropStep old k l f h e ok = record { marking = λ a m. absurd (false≢true m); helper = λ a. tt }
sees-after sh w seats s JoinHelpStep old k l f h e ok =
    let none : s.phase_seen ≡ None = l.unseen (bare-out s f ok.0) in
    record { marking = k.marking; helper = λ a. rw none tt }
sees-after sh w seats s LeaveHelpStep old k l f h e ok = record { marking = λ a m. absurd (false≢true m); helper = λ a. tt }
sees-after sh w seats s step old k l f h e ok = record { marking = k.marking; helper = k.helper }

pub saw-number : (o : Option Phase) (p : Phase) (phase : ℕ) → saw o p ≡ true → IfSome o (λ x. phase ≡ phase_number x) → phase ≡ phase_number p
saw-number None p phase e h = absurd (false≢true e)
saw-number (Some x) p phase e h = h ∙ eqb-true (phase_number x) (phase_number p) e

-- a seat traces in Marking or in Drain
pub traces-in : (phase : ℕ) (s : SeatState) → Sees phase s → may_trace phase s ≡ true → is_tracing phase ≡ true
traces-in phase s k e =
    let tracer = λ (n : ℕ) (g : phase ≡ n) (t : (eqb n 1 || eqb n 2) ≡ true). ap (λ x. eqb x 1 || eqb x 2) g ∙ t in
    ⊎_elim
    (λ a.
    ⊎_elim
    (λ (b : (s.active && saw s.phase_seen Marking) ≡ true). let p = and_parts s.active (saw s.phase_seen Marking) b in tracer 1 (k.marking p.0 p.1) refl)
    (λ (b : (s.knows && is_phase phase Drain) ≡ true). tracer 2 (eqb-true phase 2 (and_parts s.knows (is_phase phase Drain) b).1) refl)
    (or_cases (s.active && saw s.phase_seen Marking) (s.knows && is_phase phase Drain) a))
    (λ (a : (s.admitted && saw s.phase_seen Drain) ≡ true). let p = and_parts s.admitted (saw s.phase_seen Drain) a in tracer 2 (saw-number s.phase_seen Drain phase p.1 (k.helper p.0)) refl)
    (or_cases (s.active && saw s.phase_seen Marking || (s.knows && is_phase phase Drain)) (s.admitted && saw s.phase_seen Drain) e)

-- Outside tracing no seat holds a packet, and every packet is empty: each step keeps it.
-- if no seat holds a packet, nobody knows a length
none_known : (hss : List Slots) (p : ℕ) → All (λ h. IsFalse (holds_any h)) hss → length_among hss p ≡ None
none_known [] p a = refl
none_known (hs ∷ hss) p a =
    let P : Slots → Type 0 = λ (h : Slots). IsFalse (holds_any h) in
    rw (unheld-unknown hs p (none-held hs p (All-head P hs hss a))) (none_known hss p (All-tail P hs hss a))

-- the lengths are then those of the heads
pub lengths-of-heads : (heads : List ℕ) (hss : List Slots) (p : ℕ) → All (λ h. IsFalse (holds_any h)) hss → packet_length heads hss p ≡ slice_index heads p
lengths-of-heads heads hss p a = rw (none_known hss p a) refl

-- a seat that holds nothing gives, fills and reads no packet
absent : (s : SeatState) (p : ℕ) (P : Type 0) → IsFalse (holds_any s.held) → holds s.held p ≡ true → P
absent s p P e h = absurd (true≢false (sym (any-held s.held p h) ∙ e))

-- outside tracing the seat that steps still holds nothing
pub hand-after : (sh : Shape) (w : Words) (seats : List SeatState) (s : SeatState) (step : Step) (old : ℕ) → Sees w.phase s → IsFalse (is_tracing w.phase) → IsFalse (holds_any s.held) → AllTrue (parts sh w seats s step) → IsFalse (holds_any (seat_after sh s step old).held)
hand-after sh w seats s (Take q p) old k e h ok = absurd (true≢false (sym (traces-in w.phase s k (and_parts _ _ ok.0).1) ∙ e))
hand-after sh w seats s (Give p d) old k e h ok = absent s p _ h (and_parts _ _ ok.0).1
hand-after sh w seats s (Push p c) old k e h ok = absent s p _ h (and_parts _ _ ok.0).1
hand-after sh w seats s (Pop p) old k e h ok = absent s p _ h (and_parts _ _ ok.0).1
hand-after sh w seats s (StoreLength p) old k e h ok = absent s p _ h (and_parts _ _ ok.0).1
hand-after sh w seats s (ReadLength p) old k e h ok = absent s p _ h (and_parts _ _ ok.0).1
hand-after sh w seats s step old k e h ok = h

-- outside tracing the heads of packets stay
pub heads-after : (sh : Shape) (w : Words) (seats : List SeatState) (s : SeatState) (step : Step) (v : ℕ) → IsFalse (holds_any s.held) → AllTrue (parts sh w seats s step) → (put_word (place sh s step) v w).heads ≡ w.heads
heads-after sh w seats s (StoreLength p) v h ok = absent s p _ h (and_parts _ _ ok.0).1
heads-after sh w seats s (ReadLength p) v h ok = absent s p _ h (and_parts _ _ ok.0).1
heads-after sh w seats s step v h ok = heads-kept sh s step v w refl

-- no cell is marked
abbrev pub IsWhite : Shape → List ℕ → Type 0
IsWhite sh marks = EachCell sh (λ c. IsFalse (cell_bit marks c))

-- no seat holds a packet, and no head names an entry
abbrev pub IsStill : Shape → List ℕ → List SeatState → Type 0
IsStill sh heads seats = All (λ (s : SeatState). IsFalse (holds_any s.held)) seats × EachPacket sh (λ p. slice_index heads p ≡ 0)

-- the rule of the phase
pub record InPhase (sh : Shape) (phase : ℕ) (marks heads : List ℕ) (seats : List SeatState) : Type 0 where
  pub sees : All (Sees phase) seats
  pub stopped : IsTrue (is_stopped_phase phase) → IsTrue (some_knows (standings seats))
  pub white : IsTrue (is_resting phase) → IsWhite sh marks
  pub still : IsFalse (is_tracing phase) → IsStill sh heads seats

pub in-phase : (sh : Shape) (phase : ℕ) (marks heads : List ℕ) (seats : List SeatState) → Phases sh phase marks heads (hands seats) (standings seats) seats → InPhase sh phase marks heads seats
in-phase sh phase marks heads seats k =
    record {
      sees = λ i d h. record { marking = k.marking_seen i d h; helper = k.helper_seen i d h };
      stopped = k.stopped;
      white = k.resting_white;
      still =
          λ e. (
            λ i d h. subst (λ g. IsFalse (holds_any g)) (get_or-map (λ (s : SeatState). s.held) seats i d d.held h) (k.hands_empty e i d.held (rw length-map h)),
            λ p h. sym (lengths-of-heads heads (hands seats) p (k.hands_empty e)) ∙ k.packets_empty e p h,
          );
    }

pub phases-from : (sh : Shape) (phase : ℕ) (marks heads : List ℕ) (seats : List SeatState) → InPhase sh phase marks heads seats → Phases sh phase marks heads (hands seats) (standings seats) seats
phases-from sh phase marks heads seats k =
    let none = λ (e : IsFalse (is_tracing phase)). All-map (λ g. IsFalse (holds_any g)) (λ (s : SeatState). s.held) seats (k.still e).0 in
    record {
      marking_seen = λ i d h. (k.sees i d h).marking;
      helper_seen = λ i d h. (k.sees i d h).helper;
      stopped = k.stopped;
      resting_white = k.white;
      packets_empty = λ e p h. lengths-of-heads heads (hands seats) p (none e) ∙ (k.still e).1 p h;
      hands_empty = none;
    }

-- outside a cycle the phase isn't one of these
pub resting-not : (phase : ℕ) (test : ℕ → Bool) (P : Type 0) → test 0 ≡ false → test 5 ≡ false → is_resting phase ≡ true → test phase ≡ true → P
resting-not phase test P nil five e f =
    ⊎_elim
    (λ (a : eqb phase 0 ≡ true). absurd (true≢false (sym f ∙ (ap test (eqb-true phase 0 a) ∙ nil))))
    (λ (a : eqb phase 5 ≡ true). absurd (true≢false (sym f ∙ (ap test (eqb-true phase 5 a) ∙ five))))
    (or_cases (eqb phase 0) (eqb phase 5) e)

-- a word of marks is cleared
cleared : (ws : List ℕ) (b x : ℕ) → cell_bit ws x ≡ false → cell_bit (set ws b 0) x ≡ false
cleared ws b x e =
    ⊎_elim
    (λ (h : b < length ws).
    ⊎_elim
    (λ (s : x / 64 ≡ b). rw s (rw get_or-set_same (no-bit (x % 64))))
    (λ (n : x / 64 ≡ b → ⊥). ap (λ w. has_bit w (x % 64)) (get_or-set_other ws b (x / 64) 0 0 n) ∙ e)
    (cases_eq (x / 64) b))
    (λ (h : length ws ≤ b). ap (λ vs. cell_bit vs x) (set_past ws b 0 h) ∙ e)
    (cases_lt b (length ws))

-- outside a cycle no step marks a cell
pub white-after : (c : Core) (i : ℕ) (s : SeatState) (step : Step) → Sees (words_of c.shape c.words).phase s → IsTrue (is_resting (words_of c.shape c.words).phase) → IsWhite c.shape (words_of c.shape c.words).marks
    → AllTrue (parts c.shape (words_of c.shape c.words) c.seats s step) → IsWhite c.shape (words_left c s step).marks
white-after c i s (SetMark x) k e h ok = resting-not (words_of c.shape c.words).phase is_tracing _ refl refl e (traces-in (words_of c.shape c.words).phase s k ok.1.0)
white-after c i s (ReadMarks b) k e h ok =
    let w : Words = words_of c.shape c.words in
    let here : found c s (ReadMarks b) ≡ get_or w.marks b 0 = words-get (region_sizes c.shape) 5 c.words b 0 (ltb-true b (block_count c.shape) (and_parts _ _ ok.0).0) in
    let P : ℕ → Type 0 = λ v. IsWhite c.shape (set w.marks b v) in
    subst P (sym here) (subst (IsWhite c.shape) (sym (set-get_or w.marks b 0)) h)
white-after c i s ReadBlockMarks k e h ok = resting-not (words_of c.shape c.words).phase (λ p. is_phase p Sweep) _ refl refl e (and_parts _ _ ok.0).1
white-after c i s ClearMarks k e h ok = λ x hx. cleared (words_of c.shape c.words).marks _ x (h x hx)
white-after c i s step k e h ok = rw (marks-kept c.shape s step (written c.shape s step (found c s step)) (words_of c.shape c.words) refl) h
