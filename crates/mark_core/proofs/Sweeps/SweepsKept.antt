-- Each event that is allowed keeps the rule of the sweep.
use Rattle.std.proofs.Common.{ℕ, ◌≡◌, ◌+◌, ◌-◌, ◌/◌, ◌<◌, List, get_or, arith, refl, sym, ap, ◌∙◌, subst, Bool, true, false, ◌&&◌, cond, eqb, Option, None, ⊎_elim, ◌*◌, ◌⊎◌, inl, inr}
use Rattle.std.specs.Prelude.{IsTrue}
use Rattle.std.proofs.lemmas.Bool.{and_parts, or_cases, or_left, or_right, eqb-true, le-ltb, false≢true}
use Rattle.std.proofs.lemmas.List.Sums.{AllPass-from_list_all}
use Rattle.mark_core.specs.Shapes.{EachCell, IsShape}
use Rattle.mark_core.specs.Layout.{Words, words_of, region_sizes}
use Rattle.mark_core.specs.Bits.{cell_bit, nil_or}
use Rattle.mark_core.specs.Seats.{is_phase, phase_number, phase_of}
use Rattle.mark_core.specs.Views.{Maker, makers, blocks}
use Rattle.mark_core.specs.Cells.{is_kept, is_swept_block, field, AllGo, FieldsGo}
use Rattle.mark_core.specs.Rules.HeapRules.{Sweeping}
use Rattle.mark_core.specs.Sound.{card_readers, block_readers}
use Rattle.mark_core.specs.Rules.WorldRules.{is_stopped_phase}
use Rattle.mark_core.specs.Steps.WorldSteps.{is_quiet, cards_clean, roots_marked, phase_after}
use Rattle.mark_core.specs.Steps.{Core, failing_part, after_event}
use Rattle.mark_core.specs.Laws.{IsCore}
use Rattle.mark_core.proofs.Writing.Places.{region-length}
use Rattle.mark_core.proofs.Known.{Acted, words_left, seats_left, found, bit-below}
use Rattle.mark_core.proofs.Pool.PoolsKept.{shape-kept}
use Rattle.mark_core.proofs.World.WorldKept.{WorldSound, world-kept_by}
use Rattle.mark_core.proofs.Blocks.BlocksStopped.{Taken, kept-after, words-read, still-from, still-stopped}
use Rattle.mark_core.proofs.Sweeps.SweepsBounds.{blocks-bounded, cards-bounded}
use Rattle.mark_core.proofs.Sweeps.SweepsSpared.{is_spared, NoneUsed, none-used, kept-spared}
use Rattle.mark_core.proofs.Sweeps.SweepsSteps.{sweep-on}
use Rattle.mark_core.proofs.Sweeps.SweepsClosed.{quiet-fields}
use Rattle.mark_core.specs.declared.kinds.Shape.{Shape}
use Rattle.mark_core.specs.declared.kinds.Event.{Event}
use Rattle.mark_core.specs.declared.kinds.Phase.TheVariants.{Sweep, Idle, Marking, Drain, Clear, Full}
use Rattle.mark_core.specs.declared.kinds.Step.{Step}
use Rattle.mark_core.specs.declared.kinds.Step.TheVariants.{StorePhase, ReadPhase}
use Rattle.mark_core.specs.declared.seat.SeatState.{SeatState}
use Rattle.mark_core.specs.declared.seat.BlockState.{BlockState}
use Rattle.mark_core.specs.Start.{start_words, start_seats}
use Rattle.mark_core.proofs.Count.CountMoves.{count-none}
use Rattle.mark_core.proofs.Pool.PoolStart.{each-seat}
use Rattle.mark_core.specs.Effects.{written}
use Rattle.mark_core.proofs.Writing.Writes.{phase-kept}
use Rattle.mark_core.specs.declared.kinds.Phase.{Phase}

-- Where the phase after a step comes from: it was the phase before, or the step moved there.
of_number : (p : Phase) → phase_of (phase_number p) ≡ p
of_number Idle = refl
of_number Marking = refl
of_number Drain = refl
of_number Sweep = refl
of_number Clear = refl
of_number Full = refl

-- two phases of one number are the same
same_phase : (p q : Phase) → phase_number p ≡ phase_number q → p ≡ q
same_phase p q e = sym (of_number p) ∙ (ap phase_of e ∙ of_number q)

-- a try begins marking, or leaves the phase
tried : (old : ℕ) (b : Bool) (p : Phase) → cond b 1 old ≡ phase_number p → (old ≡ phase_number p) ⊎ (StorePhase Marking ≡ StorePhase p)
tried old true p e = inr (ap StorePhase (same_phase Marking p e))
tried old false p e = inl e

move_came : (old : ℕ) (to p : Phase) → phase_after old to ≡ phase_number p → (old ≡ phase_number p) ⊎ (StorePhase to ≡ StorePhase p)
move_came old Marking p e = tried old (eqb old 0) p e
move_came old Idle p e = inr (ap StorePhase (same_phase Idle p e))
move_came old Drain p e = inr (ap StorePhase (same_phase Drain p e))
move_came old Sweep p e = inr (ap StorePhase (same_phase Sweep p e))
move_came old Clear p e = inr (ap StorePhase (same_phase Clear p e))
move_came old Full p e = inr (ap StorePhase (same_phase Full p e))

pub phase-came : (c : Core) (i : ℕ) (s : SeatState) (step : Step) (p : Phase) → Taken c i s step → (words_left c s step).phase ≡ phase_number p → ((words_of c.shape c.words).phase ≡ phase_number p) ⊎ (step ≡ StorePhase p)
phase-came c i s (StorePhase to) p t e = move_came (words_of c.shape c.words).phase to p e
phase-came c i s ReadPhase p t e = inl (ap (λ (w : Words). w.phase) (sym (words-read c i s ReadPhase t refl)) ∙ e)
phase-came c i s step p t e = inl (sym (phase-kept c.shape s step (written c.shape s step (found c s step)) (words_of c.shape c.words) refl) ∙ e)

-- the rule of the sweep, by the words and the seats
abbrev pub SweepSound : Shape → Words → List SeatState → Type 0
SweepSound sh w seats = Sweeping sh w.phase w.next_card w.next_block (card_readers seats) (block_readers seats) w.roots w.allocs w.marks w.fields (makers seats) (blocks seats)

-- the sweep keeps cell x
abbrev pub keeps : Words → List SeatState → ℕ → Bool
keeps w seats x = is_kept w.next_block (blocks seats) w.allocs w.marks (makers seats) x

-- a reference to a cell with one property goes to one with another
pub nil-or-weaker : (p q : ℕ → Bool) (r : ℕ) → (p (r - 1) ≡ true → q (r - 1) ≡ true) → nil_or p r ≡ true → nil_or q r ≡ true
nil-or-weaker p q r f e =
    ⊎_elim
    (λ (a : eqb r 0 ≡ true). or_left (eqb r 0) (q (r - 1)) a)
    (λ (a : p (r - 1) ≡ true). or_right (eqb r 0) (q (r - 1)) (f a))
    (or_cases (eqb r 0) (p (r - 1)) e)

either_bit : (d : Bool) (a b : Bool) (P : Type 0) → (a ≡ true → P) → (b ≡ true → P) → cond d a b ≡ true → P
either_bit true a b P f g e = f e
either_bit false a b P f g e = g e

-- a spared cell exists
pub spared-below : (c : Core) (x : ℕ) → IsCore c → is_spared (words_of c.shape c.words).next_block (blocks c.seats) (words_of c.shape c.words).allocs (words_of c.shape c.words).marks x ≡ true → x < c.shape.cells
spared-below c x k e =
    let w : Words = words_of c.shape c.words in
    let long = λ (r : ℕ). region-length (region_sizes c.shape) r c.words (omega (arith, k.formed.words)) in
    either_bit (is_swept_block w.next_block (blocks c.seats) (x / 64)) (cell_bit w.allocs x) (cell_bit w.marks x) _ (bit-below c.shape w.allocs x k.formed.shaped (long 4)) (bit-below c.shape w.marks x k.formed.shaped (long 5)) e

-- before any block is handed out, the marked cells are kept
pub kept-first : (nb : ℕ) (bs : List (Option BlockState)) (allocs marks : List ℕ) (ms : List Maker) (x : ℕ) → nb ≡ 0 → is_kept nb bs allocs marks ms x ≡ cell_bit marks x
kept-first nb bs allocs marks ms x e = rw (le-ltb (x / 64) nb (omega (arith, e))) refl

-- no seat has made a cell that isn't published, in Sweep
pub sweep-unused : (c : Core) → IsCore c → (words_of c.shape c.words).phase ≡ 3 → NoneUsed c.seats
sweep-unused c k e = let w : Words = words_of c.shape c.words in none-used c.shape w.world w.help c.seats k.sound.world (still-stopped c k (ap is_stopped_phase e))

pub sweep-unused_after : (sh : Shape) (w : Words) (seats : List SeatState) → WorldSound sh w seats → w.phase ≡ 3 → NoneUsed seats
sweep-unused_after sh w seats k e = none-used sh w.world w.help seats k.world (still-from sh w.world w.help seats k.world (k.phases.stopped (ap is_stopped_phase e)))

-- in Sweep each step keeps the cells that were kept
pub keeps-same : (c : Core) (i : ℕ) (s : SeatState) (step : Step) (x : ℕ) → Taken c i s step → WorldSound c.shape (words_left c s step) (seats_left c i s step) → (words_of c.shape c.words).phase ≡ 3 → (words_left c s step).phase ≡ 3 → x < c.shape.cells
    → keeps (words_left c s step) (seats_left c i s step) x ≡ keeps (words_of c.shape c.words) c.seats x
keeps-same c i s step x t after e f h =
    let w : Words = words_of c.shape c.words in
    let v : Words = words_left c s step in
    kept-spared v.next_block (blocks (seats_left c i s step)) v.allocs v.marks (seats_left c i s step) x (sweep-unused_after c.shape v (seats_left c i s step) after f)
    ∙ ((sweep-on c i s step t e).spared x h ∙ sym (kept-spared w.next_block (blocks c.seats) w.allocs w.marks c.seats x (sweep-unused c t.core e)))

-- a kept cell exists
kept_below : (c : Core) (x : ℕ) → IsCore c → (words_of c.shape c.words).phase ≡ 3 → keeps (words_of c.shape c.words) c.seats x ≡ true → x < c.shape.cells
kept_below c x k p e =
    let w : Words = words_of c.shape c.words in
    spared-below c x k (sym (kept-spared w.next_block (blocks c.seats) w.allocs w.marks c.seats x (sweep-unused c k p)) ∙ e)

still_keeps : (c : Core) (i : ℕ) (s : SeatState) (step : Step) (x : ℕ) → Taken c i s step → WorldSound c.shape (words_left c s step) (seats_left c i s step) → (words_of c.shape c.words).phase ≡ 3 → (words_left c s step).phase ≡ 3
    → keeps (words_of c.shape c.words) c.seats x ≡ true → keeps (words_left c s step) (seats_left c i s step) x ≡ true
still_keeps c i s step x t after e f h = keeps-same c i s step x t after e f (kept_below c x t.core e h) ∙ h

-- what the rule says of references
pub record KeepsAll (sh : Shape) (w : Words) (seats : List SeatState) : Type 0 where
  pub roots : AllGo (keeps w seats) w.roots
  pub fields : EachCell sh (λ x. IsTrue (keeps w seats x) → FieldsGo sh w.fields (keeps w seats) x)

goes_on : (c : Core) (i : ℕ) (s : SeatState) (step : Step) → Taken c i s step → WorldSound c.shape (words_left c s step) (seats_left c i s step) → (words_of c.shape c.words).phase ≡ 3 → (words_left c s step).phase ≡ 3
    → KeepsAll c.shape (words_left c s step) (seats_left c i s step)
goes_on c i s step t after e f =
    let w : Words = words_of c.shape c.words in
    let v : Words = words_left c s step in
    let new : ℕ → Bool = keeps v (seats_left c i s step) in
    let old : ℕ → Bool = keeps w c.seats in
    let was : is_phase w.phase Sweep ≡ true = ap (λ p. is_phase p Sweep) e in
    let on = sweep-on c i s step t e in
    let still = λ (x : ℕ) (h : old x ≡ true). still_keeps c i s step x t after e f h in
    record {
      roots =
          subst (AllGo new) (sym on.roots)
          (λ j d h. nil-or-weaker old new (get_or w.roots j d) (still (get_or w.roots j d - 1)) (t.core.sound.sweeping.roots_kept was j d h));
      fields =
          λ x h k.
          let before : old x ≡ true = sym (keeps-same c i s step x t after e f h) ∙ k in
          let P : List ℕ → Type 0 = λ fs. FieldsGo c.shape fs new x in
          subst P (sym on.fields) (λ j l. nil-or-weaker old new (field c.shape w.fields x j) (still (field c.shape w.fields x j - 1)) (t.core.sound.sweeping.fields_kept was x h before j l));
    }

-- the sweep begins when all that is named is marked
begins : (c : Core) (i : ℕ) (s : SeatState) → Taken c i s (StorePhase Sweep) → KeepsAll c.shape (words_left c s (StorePhase Sweep)) (seats_left c i s (StorePhase Sweep))
begins c i s t =
    let w : Words = words_of c.shape c.words in
    let step : Step = StorePhase Sweep in
    let new : ℕ → Bool = keeps (words_left c s step) (seats_left c i s step) in
    let last = and_parts (s.knows && is_quiet c.shape w s && cards_clean w.cards && roots_marked w.roots w.marks) (eqb w.next_block 0) t.ok.1.0 in
    let roots = and_parts (s.knows && is_quiet c.shape w s && cards_clean w.cards) (roots_marked w.roots w.marks) last.0 in
    let cards = and_parts (s.knows && is_quiet c.shape w s) (cards_clean w.cards) roots.0 in
    let quiet = and_parts s.knows (is_quiet c.shape w s) cards.0 in
    let empty = eqb-true w.empty (64 + c.shape.packets) (and_parts _ _ quiet.1).0 in
    let first = λ (x : ℕ). kept-first w.next_block (blocks (seats_left c i s step)) w.allocs w.marks (makers (seats_left c i s step)) x (eqb-true w.next_block 0 last.1) in
    let marked = AllPass-from_list_all (nil_or (cell_bit w.marks)) w.roots roots.1 in
    let fields = quiet-fields c t.core (eqb-true w.phase 2 t.ok.0) empty cards.1 in
    record {
      roots = λ j d h. nil-or-weaker (cell_bit w.marks) new (get_or w.roots j d) (λ e. first (get_or w.roots j d - 1) ∙ e) (marked j d h);
      fields = λ x h k j l. nil-or-weaker (cell_bit w.marks) new (field c.shape w.fields x j) (λ e. first (field c.shape w.fields x j - 1) ∙ e) (fields x h (sym (first x) ∙ k) j l);
    }

keeps_all : (c : Core) (i : ℕ) (s : SeatState) (step : Step) → Taken c i s step → WorldSound c.shape (words_left c s step) (seats_left c i s step) → (words_left c s step).phase ≡ 3 → KeepsAll c.shape (words_left c s step) (seats_left c i s step)
keeps_all c i s step t after f =
    ⊎_elim
    (λ (e : (words_of c.shape c.words).phase ≡ 3). goes_on c i s step t after e f)
    (λ (e : step ≡ StorePhase Sweep).
    let Q : Step → Type 0 = λ x. KeepsAll c.shape (words_left c s x) (seats_left c i s x) in
    subst Q (sym e) (begins c i s (subst (Taken c i s) e t)))
    (phase-came c i s step Sweep t f)

sweeping_at : (c : Core) (i : ℕ) (s : SeatState) (step : Step) → Taken c i s step → WorldSound c.shape (words_left c s step) (seats_left c i s step) → SweepSound c.shape (words_left c s step) (seats_left c i s step)
sweeping_at c i s step t after =
    let v : Words = words_left c s step in
    let all = λ (e : IsTrue (is_phase v.phase Sweep)). keeps_all c i s step t after (eqb-true v.phase 3 e) in
    record { blocks_bounded = blocks-bounded c i s step t; cards_bounded = cards-bounded c i s step t; roots_kept = λ e. (all e).roots; fields_kept = λ e. (all e).fields }

-- what the rule of the world says of the state after, by the step's words and seats
pub world-left : (c : Core) (e : Event) (s : SeatState) → IsCore c → failing_part c e ≡ None → Acted c e s → WorldSound c.shape (words_left c s e.step) (seats_left c e.seat s e.step)
world-left c e s k f a =
    let P : List SeatState → Type 0 = λ seats. WorldSound c.shape (words_left c s e.step) seats in
    let Q : Words → Type 0 = λ w. WorldSound c.shape w (after_event c e).seats in
    let R : Shape → Type 0 = λ sh. WorldSound sh (words_of sh (after_event c e).words) (after_event c e).seats in
    subst P a.seats (subst Q a.words (subst R (shape-kept c e) (world-kept_by c e k f)))

-- each event that is allowed keeps the rule of the sweep
pub sweeping-kept_by : (c : Core) (e : Event) → IsCore c → failing_part c e ≡ None → SweepSound (after_event c e).shape (words_of (after_event c e).shape (after_event c e).words) (after_event c e).seats
sweeping-kept_by c e k f = kept-after SweepSound c e k f (λ s a t. sweeping_at c e.seat s e.step t (world-left c e s k f a))

-- The state in which nothing has happened meets the rule of the sweep.
pub sweeping-starts : (sh : Shape) (n : ℕ) → IsShape sh → SweepSound sh (words_of sh (start_words sh)) (start_seats sh n)
sweeping-starts sh n z =
    let cards = count-none (λ (s : SeatState). s.below_card) (start_seats sh n) (each-seat (λ (s : SeatState). s.below_card ≡ false) sh n (λ k. refl)) in
    let blocks = count-none (λ (s : SeatState). s.below_block) (start_seats sh n) (each-seat (λ (s : SeatState). s.below_block ≡ false) sh n (λ k. refl)) in
    let none = ap (λ (k : ℕ). sh.stretch * k) blocks in
    record { blocks_bounded = omega (arith, none); cards_bounded = omega (arith, cards); roots_kept = λ e. absurd (false≢true e); fields_kept = λ e. absurd (false≢true e) }
