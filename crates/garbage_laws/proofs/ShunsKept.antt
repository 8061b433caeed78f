-- Each event that is allowed, and doesn't end the cycle, keeps the set shunned.
use Rattle.std.proofs.Common.{ℕ, ◌≡◌, arith, refl, sym, ap, ◌∙◌, subst, true, false, eqb, Option, Some, None, ⊎_elim}
use Rattle.std.specs.Prelude.{slice_get}
use Rattle.std.proofs.lemmas.Bool.{true≢false, false≢true, and_parts, eqb-true, cases_Bool}
use Rattle.std.proofs.lemmas.List.{get_or-replicate}
use Rattle.mark_core.specs.Shapes.{EachCell}
use Rattle.mark_core.specs.Layout.{Words, words_of}
use Rattle.mark_core.specs.Seats.{is_phase}
use Rattle.mark_core.specs.Views.{makers, blocks}
use Rattle.mark_core.specs.Start.{start_seat, spent_seat}
use Rattle.mark_core.specs.Steps.WorldSteps.{is_move, phase_after}
use Rattle.mark_core.specs.Effects.{seat_after, written}
use Rattle.mark_core.specs.Steps.{Core, failing_part, after_event}
use Rattle.mark_core.specs.Laws.{IsCore}
use Rattle.mark_core.specs.declared.kinds.Shape.{Shape}
use Rattle.mark_core.specs.declared.kinds.Event.{Event}
use Rattle.mark_core.specs.declared.kinds.Phase.{Phase}
use Rattle.mark_core.specs.declared.kinds.Phase.TheVariants.{Idle, Marking, Drain, Sweep, Clear, Full}
use Rattle.mark_core.specs.declared.kinds.Step.{Step}
use Rattle.mark_core.specs.declared.kinds.Step.TheVariants.{ReadPhase, StorePhase, StoreAlloc}
use Rattle.mark_core.specs.declared.seat.SeatState.{SeatState}
use Rattle.mark_core.proofs.Known.{found, words_left, seats_left}
use Rattle.mark_core.proofs.Writing.Writes.{phase-kept}
use Rattle.mark_core.proofs.World.WorldKept.{WorldSound}
use Rattle.mark_core.proofs.Blocks.BlocksStopped.{Taken, mine, kept-after, words-read, sweeping}
use Rattle.mark_core.proofs.Doing.{local-kept}
use Rattle.mark_core.proofs.Sweeps.SweepsKept.{phase-came, keeps, keeps-same, kept-first, world-left}
use Rattle.mark_core.proofs.References.ReferencesRoots.{UsedAfter}
use Rattle.mark_core.proofs.Used.UsedKept.{frees, used-on}
use Rattle.garbage_laws.specs.Garbage.{ends_cycle, weak_found}
use Rattle.garbage_laws.proofs.Shuns.{Spares, Misses, SeatShuns, Shuns, CoreShuns, nil-misses}
use Rattle.garbage_laws.proofs.ShunsSeat.{seat-shuns}
use Rattle.garbage_laws.proofs.ShunsWords.{roots-shun, marks-shun, fields-shun}

-- a seat that has done nothing
new_shuns : (D : ℕ → Type 0) (sh : Shape) (k : ℕ) → SeatShuns D (start_seat sh k)
new_shuns D sh k = record { got = nil-misses D; last = nil-misses D; env = λ j d h. subst (Misses D) (sym (get_or-replicate 32 j 0 d (omega (arith, h)))) (nil-misses D); value = tt }

spent_shuns : (D : ℕ → Type 0) (sh : Shape) (k : ℕ) → SeatShuns D (spent_seat sh k)
spent_shuns D sh k = record { got = nil-misses D; last = nil-misses D; env = (new_shuns D sh k).env; value = tt }

-- from Sweep the phase moves only to Idle
goes_on : (c : Core) (i : ℕ) (s : SeatState) (to : Phase) → Taken c i s (StorePhase to) → ends_cycle (StorePhase to) ≡ false → (words_of c.shape c.words).phase ≡ 3 → (words_left c s (StorePhase to)).phase ≡ 3
goes_on c i s Idle t n e = absurd (true≢false n)
goes_on c i s Marking t n e = ap (λ (p : ℕ). phase_after p Marking) e
goes_on c i s Drain t n e = absurd (true≢false (sym t.ok.0 ∙ ap (λ (p : ℕ). is_move p Drain) e))
goes_on c i s Sweep t n e = absurd (true≢false (sym t.ok.0 ∙ ap (λ (p : ℕ). is_move p Sweep) e))
goes_on c i s Clear t n e = absurd (true≢false (sym t.ok.0 ∙ ap (λ (p : ℕ). is_move p Clear) e))
goes_on c i s Full t n e = absurd (true≢false (sym t.ok.0 ∙ ap (λ (p : ℕ). is_move p Full) e))

sweep_on : (c : Core) (i : ℕ) (s : SeatState) (step : Step) → Taken c i s step → ends_cycle step ≡ false → (words_of c.shape c.words).phase ≡ 3 → (words_left c s step).phase ≡ 3
sweep_on c i s (StorePhase to) t n e = goes_on c i s to t n e
sweep_on c i s ReadPhase t n e = ap (λ (w : Words). w.phase) (words-read c i s ReadPhase t refl) ∙ e
sweep_on c i s step t n e = phase-kept c.shape s step (written c.shape s step (found c s step)) (words_of c.shape c.words) refl ∙ e

-- a phase that isn't Sweep after the step wasn't before
awake_before : (c : Core) (i : ℕ) (s : SeatState) (step : Step) → Taken c i s step → ends_cycle step ≡ false → is_phase (words_left c s step).phase Sweep ≡ false → is_phase (words_of c.shape c.words).phase Sweep ≡ false
awake_before c i s step t n e =
    ⊎_elim
    (λ (a : is_phase (words_of c.shape c.words).phase Sweep ≡ true).
    absurd (true≢false (sym (ap (λ (p : ℕ). is_phase p Sweep) (sweep_on c i s step t n (eqb-true (words_of c.shape c.words).phase 3 a))) ∙ e)))
    (λ (a : is_phase (words_of c.shape c.words).phase Sweep ≡ false). a)
    (cases_Bool (is_phase (words_of c.shape c.words).phase Sweep))

-- only a sweeper frees cells
frees_swept : (c : Core) (i : ℕ) (s : SeatState) (step : Step) → Taken c i s step → frees step ≡ true → (words_of c.shape c.words).phase ≡ 3
frees_swept c i s StoreAlloc t f = sweeping c i s StoreAlloc t t.ok.0
frees_swept c i s step t f = absurd (false≢true f)

-- the cells of the set stay in use before the sweep
remain_on : (D : ℕ → Type 0) (c : Core) (i : ℕ) (s : SeatState) (step : Step) → Taken c i s step → CoreShuns D c → ends_cycle step ≡ false → is_phase (words_left c s step).phase Sweep ≡ false → (x : ℕ) → D x → UsedAfter c i s step x ≡ true
remain_on D c i s step t a n e x d =
    let before = awake_before c i s step t n e in
    ⊎_elim
    (λ (f : frees step ≡ true). absurd (true≢false (sym (ap (λ (p : ℕ). is_phase p Sweep) (frees_swept c i s step t f)) ∙ before)))
    (λ (f : frees step ≡ false). used-on c i s step x t f (a.remain before x d))
    (cases_Bool (frees step))

-- the sweep keeps what was marked
abbrev KeptShuns : (ℕ → Type 0) → Core → ℕ → SeatState → Step → Type 0
KeptShuns D c i s step = EachCell c.shape (λ x. keeps (words_left c s step) (seats_left c i s step) x ≡ true → Spares D x)

sweep_begins : (D : ℕ → Type 0) (c : Core) (i : ℕ) (s : SeatState) → Taken c i s (StorePhase Sweep) → CoreShuns D c → KeptShuns D c i s (StorePhase Sweep)
sweep_begins D c i s t a x h k =
    let w : Words = words_of c.shape c.words in
    let step : Step = StorePhase Sweep in
    let none = eqb-true w.next_block 0 (and_parts _ (eqb w.next_block 0) t.ok.1.0).1 in
    let first = kept-first w.next_block (blocks (seats_left c i s step)) w.allocs w.marks (makers (seats_left c i s step)) x none in
    a.marks x h (sym first ∙ k)

kept_on : (D : ℕ → Type 0) (c : Core) (i : ℕ) (s : SeatState) (step : Step) → Taken c i s step → CoreShuns D c → WorldSound c.shape (words_left c s step) (seats_left c i s step) → (words_left c s step).phase ≡ 3 → KeptShuns D c i s step
kept_on D c i s step t a after p =
    ⊎_elim
    (λ (e : (words_of c.shape c.words).phase ≡ 3). λ x h k. a.kept e x h (sym (keeps-same c i s step x t after e p h) ∙ k))
    (λ (e : step ≡ StorePhase Sweep).
    let P : Step → Type 0 = λ z. Taken c i s z → KeptShuns D c i s z in
    subst P (sym e) (λ u. sweep_begins D c i s u a) t)
    (phase-came c i s step Sweep t p)

-- the step
shuns_at : (D : ℕ → Type 0) (c : Core) (i : ℕ) (s : SeatState) (step : Step) → Taken c i s step → CoreShuns D c → ends_cycle step ≡ false → Misses D (weak_found c (Some s) step) → WorldSound c.shape (words_left c s step) (seats_left c i s step)
    → Shuns D c.shape (words_left c s step) (seats_left c i s step)
shuns_at D c i s step t a n m after =
    let own : SeatShuns D s = mine c i s step (SeatShuns D) t a.seats_shun in
    record {
      roots = roots-shun D c i s step t a own;
      seats_shun = local-kept (SeatShuns D) c.shape step c.seats i (seat_after c.shape s step (found c s step)) (new_shuns D c.shape) (spent_shuns D c.shape) a.seats_shun (seat-shuns D c i s step t a own m);
      marks = marks-shun D c i s step t a own;
      fields = fields-shun D c i s step t a own;
      remain = remain_on D c i s step t a n;
      kept = kept_on D c i s step t a after;
    }

-- each event that is allowed, and doesn't end the cycle
pub shuns-kept : (D : ℕ → Type 0) (c : Core) (e : Event) → IsCore c → failing_part c e ≡ None → CoreShuns D c → ends_cycle e.step ≡ false → Misses D (weak_found c (slice_get c.seats e.seat) e.step) → CoreShuns D (after_event c e)
shuns-kept D c e k f a n m =
    kept-after (Shuns D) c e k f
    (λ s acted t. shuns_at D c e.seat s e.step t a n (subst (λ (o : Option SeatState). Misses D (weak_found c o e.step)) t.got m) (world-left c e s k f acted))
