-- Each event that is allowed keeps the colour of unpublished cells, and the state in which nothing has happened has it.
use Rattle.std.proofs.Common.{ℕ, ◌≡◌, ◌/◌, ◌%◌, ◌<◌, List, arith, refl, sym, ap, ◌∙◌, Bool, true, false, cond, eqb, ◌||◌, None, ⊎_elim}
use Rattle.std.specs.Prelude.{IsTrue}
use Rattle.std.proofs.lemmas.Bool.{true≢false, false≢true, cases_Bool, and_parts, or_cases, eqb-true, eq-eqb, false_from_ne_true}
use Rattle.mark_core.specs.Shapes.{IsShape}
use Rattle.mark_core.specs.Layout.{Words, words_of}
use Rattle.mark_core.specs.Bits.{has_bit, cell_bit}
use Rattle.mark_core.specs.Views.{grasps, hands}
use Rattle.mark_core.specs.Rules.WorldRules.{is_tracing}
use Rattle.mark_core.specs.Steps.WorldSteps.{none_marked}
use Rattle.mark_core.specs.Rules.ColourRules.{UnpublishedColour}
use Rattle.mark_core.specs.Start.{start_words, start_seats}
use Rattle.mark_core.specs.Effects.{written}
use Rattle.mark_core.specs.Steps.{Core, failing_part, after_event}
use Rattle.mark_core.specs.Laws.{IsCore}
use Rattle.mark_core.proofs.Known.{found, words_left, seats_left}
use Rattle.mark_core.proofs.Writing.Writes.{phase-kept}
use Rattle.mark_core.proofs.Count.CountMoves.{follows}
use Rattle.mark_core.proofs.Marks.MarksIdle.{block-stops, MarksIt, marks-from, found-word}
use Rattle.mark_core.proofs.Colours.ColoursFields.{WaitsNow, WaitsAfter, seat_left, tends-now}
use Rattle.mark_core.proofs.Colours.ColoursWaits.{fresh-tends, waiting-after}
use Rattle.mark_core.proofs.Writing.CellBits.{no-bit}
use Rattle.mark_core.proofs.Basics.{all-zero}
use Rattle.mark_core.proofs.Blocks.BlocksStretch.{may-store-some}
use Rattle.mark_core.proofs.Blocks.BlocksStopped.{Taken, kept-after}
use Rattle.mark_core.proofs.Used.UsedKept.{alloc-on}
use Rattle.mark_core.specs.declared.kinds.Shape.{Shape}
use Rattle.mark_core.specs.declared.kinds.Event.{Event}
use Rattle.mark_core.specs.declared.kinds.Phase.{Phase}
use Rattle.mark_core.specs.declared.kinds.Phase.TheVariants.{Idle, Marking, Drain, Sweep, Clear, Full}
use Rattle.mark_core.specs.declared.kinds.Step.{Step}
use Rattle.mark_core.specs.declared.kinds.Step.TheVariants.{SetMark, ReadPhase, StorePhase, StoreAlloc}
use Rattle.mark_core.specs.declared.seat.SeatState.{SeatState}

unmarked : (ws : List ℕ) (x : ℕ) (P : Type 0) → none_marked ws ≡ true → cell_bit ws x ≡ true → P
unmarked ws x P e f = absurd (true≢false (sym f ∙ (ap (λ w. has_bit w (x % 64)) (all-zero ws e (x / 64)) ∙ no-bit (x % 64))))

-- a try to begin marking changes the phase only in Idle
tried : (phase : ℕ) (b : Bool) (P : Type 0) → (b ≡ true → P) → (is_tracing phase ≡ true → P) → is_tracing (cond b 1 phase) ≡ true → P
tried phase true P f g t = f refl
tried phase false P f g t = g t

-- if a cell is marked and the phase moves to tracing, it was so before
moved_tracing : (c : Core) (i : ℕ) (s : SeatState) (to : Phase) (x : ℕ) → Taken c i s (StorePhase to) → IsTrue (is_tracing (words_left c s (StorePhase to)).phase) → x < c.shape.cells → cell_bit (words_of c.shape c.words).marks x ≡ true → is_tracing (words_of c.shape c.words).phase ≡ true
moved_tracing c i s Idle x a t h m = absurd (false≢true t)
moved_tracing c i s Marking x a t h m =
    let phase : ℕ = (words_of c.shape c.words).phase in
    tried phase (eqb phase 0) _ (λ e. absurd (true≢false (sym m ∙ a.core.sound.phases.resting_white (ap (λ b. b || eqb phase 5) e) x h))) (λ e. e) t
moved_tracing c i s Drain x a t h m =
    let w : Words = words_of c.shape c.words in
    let clear : eqb w.phase 4 ≡ true → is_tracing w.phase ≡ true = λ e.
    let done = follows (eqb w.phase 4) _ (and_parts s.knows _ a.ok.1.0).1 e in
    unmarked w.marks x _ (and_parts _ _ done).1 m in
    ⊎_elim
    (λ (e : (eqb w.phase 0 || eqb w.phase 1) ≡ true).
    ⊎_elim
    (λ (z : eqb w.phase 0 ≡ true). absurd (true≢false (sym m ∙ a.core.sound.phases.resting_white (ap (λ b. b || eqb w.phase 5) z) x h)))
    (λ (z : eqb w.phase 1 ≡ true). ap is_tracing (eqb-true w.phase 1 z))
    (or_cases (eqb w.phase 0) (eqb w.phase 1) e))
    clear
    (or_cases (eqb w.phase 0 || eqb w.phase 1) (eqb w.phase 4) a.ok.0)
moved_tracing c i s Sweep x a t h m = absurd (false≢true t)
moved_tracing c i s Clear x a t h m = absurd (false≢true t)
moved_tracing c i s Full x a t h m = absurd (false≢true t)

-- so in tracing a cell that was marked before was so in tracing
pub tracing-before : (c : Core) (i : ℕ) (s : SeatState) (step : Step) (x : ℕ) → Taken c i s step → IsTrue (is_tracing (words_left c s step).phase) → x < c.shape.cells → cell_bit (words_of c.shape c.words).marks x ≡ true → is_tracing (words_of c.shape c.words).phase ≡ true
tracing-before c i s (StorePhase to) x a t h m = moved_tracing c i s to x a t h m
tracing-before c i s ReadPhase x a t h m = t
tracing-before c i s step x a t h m = rw (phase-kept c.shape s step (written c.shape s step (found c s step)) (words_of c.shape c.words) refl) at t

-- in tracing an unpublished cell was unpublished before
pub unpublished-before : (c : Core) (i : ℕ) (s : SeatState) (step : Step) (x : ℕ) → Taken c i s step → IsTrue (is_tracing (words_left c s step).phase) → cell_bit (words_left c s step).allocs x ≡ false → cell_bit (words_of c.shape c.words).allocs x ≡ false
unpublished-before c i s StoreAlloc x a t e = absurd (true≢false (sym t ∙ block-stops c i s a.core a.got (may-store-some s.block a.ok.1.0)))
unpublished-before c i s step x a t e = false_from_ne_true (cell_bit (words_of c.shape c.words).allocs x) (λ h. true≢false (sym (alloc-on c i s step x a refl h) ∙ e))

-- a cell that a step marks is fresh, if it was white
pub waits-new : (c : Core) (i : ℕ) (s : SeatState) (step : Step) (x : ℕ) → Taken c i s step → cell_bit (words_of c.shape c.words).marks x ≡ false → MarksIt step x → WaitsAfter c i s step x
waits-new c i s (SetMark m) x a f e =
    let step : Step = SetMark m in
    let clear : has_bit (found c s step) (m % 64) ≡ false = ap (λ old. has_bit old (m % 64)) (found-word c i s step a.core a.got a.ok) ∙ (ap (cell_bit (words_of c.shape c.words).marks) (sym e) ∙ f) in
    tends-now c i s step x a refl (fresh-tends (seat_left c s step) x (rw clear (eq-eqb m x (sym e))))
waits-new c i s step x a f e = absurd e

-- the colour of unpublished cells, of these words and seats
abbrev pub UnpublishedOf : Shape → Words → List SeatState → Type 0
UnpublishedOf sh w seats = UnpublishedColour sh w.phase w.allocs w.marks w.cards w.heads w.entries (hands seats) (grasps seats)

waits_at : (c : Core) (i : ℕ) (s : SeatState) (step : Step) (x : ℕ) → Taken c i s step → IsTrue (is_tracing (words_left c s step).phase) → x < c.shape.cells → cell_bit (words_of c.shape c.words).marks x ≡ true → cell_bit (words_of c.shape c.words).allocs x ≡ false → WaitsAfter c i s step x
waits_at c i s step x a t h m u =
    let before : WaitsNow c x = a.core.sound.unpublished.waits (tracing-before c i s step x a t h m) x h m u in
    waiting-after c i s step x (WaitsAfter c i s step x) a t (omega (arith, h, a.core.formed.shaped.cells.1)) m (λ k. k) (λ p _. absurd (true≢false (sym p ∙ u))) before

unpublished_at : (c : Core) (i : ℕ) (s : SeatState) (step : Step) → Taken c i s step → UnpublishedOf c.shape (words_left c s step) (seats_left c i s step)
unpublished_at c i s step a =
    let marks : List ℕ = (words_of c.shape c.words).marks in
    record {
      waits =
          λ t x h m u.
          ⊎_elim
          (λ (e : cell_bit marks x ≡ true). waits_at c i s step x a t h e (unpublished-before c i s step x a t u))
          (λ (e : cell_bit marks x ≡ false). ⊎_elim (λ (f : cell_bit marks x ≡ true). absurd (true≢false (sym f ∙ e))) (λ f. waits-new c i s step x a e f) (marks-from c i s step a.core a.got a.ok x m))
          (cases_Bool (cell_bit marks x));
    }

-- each event that is allowed keeps the colour of unpublished cells
pub unpublished-kept_by : (c : Core) (e : Event) → IsCore c → failing_part c e ≡ None → UnpublishedOf (after_event c e).shape (words_of (after_event c e).shape (after_event c e).words) (after_event c e).seats
unpublished-kept_by c e k f = kept-after UnpublishedOf c e k f (λ s _ t. unpublished_at c e.seat s e.step t)

pub unpublished-starts : (sh : Shape) (n : ℕ) → IsShape sh → UnpublishedOf sh (words_of sh (start_words sh)) (start_seats sh n)
unpublished-starts sh n z = record { waits = λ t. absurd (false≢true t) }
