-- The moves of the phase in an exact stop: a drain begins with no mark and no value, a sweep keeps what was marked, and what is in use after a sweep is what it
-- kept.
use Rattle.std.proofs.Common.{ℕ, ◌≡◌, ◌/◌, ◌<◌, ◌≤◌, get_or, arith, refl, sym, ap, ◌∙◌, subst, true, false, ◌&&◌, ◌||◌, eqb, None, ⊎_elim}
use Rattle.std.specs.Prelude.{IsFalse, is_some, is_none, nat_le}
use Rattle.std.specs.List.{All, list_any}
use Rattle.std.proofs.lemmas.Bool.{cases_Bool, and_parts, or_cases, or_parts, eqb-true, leb-true, lt-ltb, true≢false}
use Rattle.std.proofs.lemmas.List.{length-map, get_or-map}
use Rattle.std.proofs.lemmas.List.Folds.{list_any_none}
use Rattle.mark_core.specs.Layout.{Words, words_of, block_count}
use Rattle.mark_core.specs.Held.{holds_any}
use Rattle.mark_core.specs.Seats.{work_in_hand, scan_left}
use Rattle.mark_core.specs.Views.{makers, blocks}
use Rattle.mark_core.specs.Cells.{in_use, is_kept, is_unswept}
use Rattle.mark_core.specs.Sound.{some_exact}
use Rattle.mark_core.specs.Rules.WorldRules.{is_tracing}
use Rattle.mark_core.specs.Steps.WorldSteps.{begins_exact, none_marked}
use Rattle.mark_core.specs.Steps.{Core}
use Rattle.mark_core.specs.Laws.{IsCore}
use Rattle.mark_core.proofs.Count.CountMoves.{follows}
use Rattle.mark_core.proofs.World.WorldPhases.{IsWhite}
use Rattle.mark_core.proofs.Blocks.BlocksStopped.{Taken}
use Rattle.mark_core.proofs.Blocks.BlocksSteps.{none-at-move}
use Rattle.mark_core.proofs.Sweeps.SweepsClosed.{no-some}
use Rattle.mark_core.proofs.World.WorldPhaseMoves.{white-words}
use Rattle.mark_core.specs.declared.kinds.Phase.TheVariants.{Idle, Drain}
use Rattle.mark_core.specs.declared.kinds.Step.TheVariants.{StorePhase}
use Rattle.mark_core.specs.declared.seat.SeatState.{SeatState}

-- in Marking no seat is exact
none_marking : (c : Core) (s : SeatState) (P : Type 0) → IsCore c → (words_of c.shape c.words).phase ≡ 1 → some_exact c.seats ≡ true → P
none_marking c s P k p e =
    absurd (true≢false (sym e ∙ list_any_none (λ (x : SeatState). x.exact) c.seats (k.strong.no_exact_in_marking (ap (λ n. eqb n 1) p))))

-- a drain that begins exact begins in Idle or in Clear, with no cell marked
pub begins-white : (c : Core) (i : ℕ) (s : SeatState) → Taken c i s (StorePhase Drain) → begins_exact (words_of c.shape c.words).phase Drain ≡ true → IsWhite c.shape (words_of c.shape c.words).marks
begins-white c i s t e =
    let w : Words = words_of c.shape c.words in
    ⊎_elim
    (λ (a : eqb w.phase 0 ≡ true). t.core.sound.phases.resting_white (ap (λ n. eqb n 0 || eqb n 5) (eqb-true w.phase 0 a)))
    (λ (a : eqb w.phase 4 ≡ true).
    let asks = and_parts s.knows _ t.ok.1.0 in
    white-words c (and_parts (nat_le (block_count c.shape) w.next_block && is_none s.block) (none_marked w.marks) (follows (eqb w.phase 4) _ asks.1 a)).1)
    (or_cases (eqb w.phase 0) (eqb w.phase 4) e)

-- a seat that is exact after the move to Drain began it so
pub drain-begins : (c : Core) (i : ℕ) (s : SeatState) → Taken c i s (StorePhase Drain) → some_exact c.seats ≡ true → begins_exact (words_of c.shape c.words).phase Drain ≡ true
drain-begins c i s t e =
    let phase : ℕ = (words_of c.shape c.words).phase in
    ⊎_elim
    (λ a.
    ⊎_elim
    (λ (b : eqb phase 0 ≡ true). ap (λ n. eqb n 0 || eqb n 4) (eqb-true phase 0 b))
    (λ (b : eqb phase 1 ≡ true). none_marking c s _ t.core (eqb-true phase 1 b) e)
    (or_cases (eqb phase 0) (eqb phase 1) a))
    (λ (a : eqb phase 4 ≡ true). ap (λ n. eqb n 0 || eqb n 4) (eqb-true phase 4 a))
    (or_cases (eqb phase 0 || eqb phase 1) (eqb phase 4) t.ok.0)

not_tracing : (phase : ℕ) → begins_exact phase Drain ≡ true → is_tracing phase ≡ false
not_tracing phase e =
    ⊎_elim
    (λ (a : eqb phase 0 ≡ true). ap is_tracing (eqb-true phase 0 a))
    (λ (a : eqb phase 4 ≡ true). ap is_tracing (eqb-true phase 4 a))
    (or_cases (eqb phase 0) (eqb phase 4) e)

no_value : (fields : ℕ) (s : SeatState) → work_in_hand fields s ≡ false → s.value ≡ None
no_value fields s e =
    let four = or_parts _ _ e in
    let three = or_parts _ _ four.0 in
    no-some s.value (or_parts (is_some s.popped || scan_left fields s.scan) (is_some s.value) three.0).1

-- if the phase is neither Marking nor Drain, no seat has a value
pub no-values : (c : Core) → IsCore c → begins_exact (words_of c.shape c.words).phase Drain ≡ true → All (λ (s : SeatState). s.value ≡ None) c.seats
no-values c k e j d h =
    let s : SeatState = get_or c.seats j d in
    let hand : holds_any s.held ≡ false = subst (λ g. IsFalse (holds_any g)) (get_or-map (λ (x : SeatState). x.held) c.seats j d s.held h) (k.sound.phases.hands_empty (not_tracing (words_of c.shape c.words).phase e) j s.held (rw length-map h)) in
    no_value c.shape.fields s
    (⊎_elim
    (λ (a : work_in_hand c.shape.fields s ≡ true). absurd (true≢false (sym (k.sound.counts.work_holds j d h a) ∙ hand)))
    (λ (a : work_in_hand c.shape.fields s ≡ false). a)
    (cases_Bool (work_in_hand c.shape.fields s)))

-- once all blocks were handed out and none is in hand, a cell is kept if it is in use
pub kept-last : (c : Core) (i : ℕ) (s : SeatState) (x : ℕ) → Taken c i s (StorePhase Idle) → x < c.shape.cells
    → is_kept (words_of c.shape c.words).next_block (blocks c.seats) (words_of c.shape c.words).allocs (words_of c.shape c.words).marks (makers c.seats) x ≡ in_use (words_of c.shape c.words).allocs (makers c.seats) x
kept-last c i s x t h =
    let w : Words = words_of c.shape c.words in
    let none = none-at-move c i s Idle t in
    let done = and_parts (nat_le (block_count c.shape) w.next_block) (is_none s.block) (and_parts _ _ (and_parts s.knows _ t.ok.1.0).1).0 in
    let all : block_count c.shape ≤ w.next_block = leb-true (block_count c.shape) w.next_block done.0 in
    let within : x / 64 < w.next_block = omega (arith, h, all, t.core.formed.shaped.whole_blocks) in
    let any : list_any (is_unswept (x / 64)) (blocks c.seats) ≡ false = list_any_none (is_unswept (x / 64)) (blocks c.seats) (λ j d l. ap (is_unswept (x / 64)) (none j d l)) in
    rw (lt-ltb (x / 64) w.next_block within, any) refl
