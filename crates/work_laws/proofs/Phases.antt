-- What the phase says of what one event finds unpublished, or brings back.
use Rattle.std.proofs.Common.{ℕ, ◌≡◌, ◌<◌, get_or, refl, sym, ap, ◌∙◌, Bool, true, false, not, ◌&&◌, cond, eqb, Option, Some, None, ⊎_elim}
use Rattle.std.specs.Prelude.{nat_lt}
use Rattle.std.proofs.lemmas.Bool.{and_parts, eqb-true, ltb-true, or_cases, true≢false}
use Rattle.mark_core.specs.Layout.{Words, words_of}
use Rattle.mark_core.specs.Cells.{in_pool, packet_length}
use Rattle.mark_core.specs.Effects.{written}
use Rattle.mark_core.specs.Views.{hands}
use Rattle.mark_core.specs.Rules.WorldRules.{is_tracing}
use Rattle.mark_core.specs.Steps.{Core, failing_part, after_event}
use Rattle.mark_core.specs.Laws.{IsCore}
use Rattle.mark_core.specs.declared.kinds.Event.{Event}
use Rattle.mark_core.specs.declared.kinds.Phase.TheVariants.{Clear, Drain, Full, Idle, Marking, Sweep}
use Rattle.mark_core.specs.declared.kinds.Step.{Step}
use Rattle.mark_core.specs.declared.kinds.Step.TheVariants.{ReadAlloc, ReadPhase, StorePhase, Take}
use Rattle.mark_core.specs.declared.seat.SeatState.{SeatState}
use Rattle.mark_core.proofs.Known.{found, words_left}
use Rattle.mark_core.proofs.Count.CountMoves.{bit}
use Rattle.mark_core.proofs.Writing.Writes.{phase-kept}
use Rattle.mark_core.proofs.Blocks.BlocksStopped.{Taken, kept-after, words-read}
use Rattle.work_laws.specs.Counting.{one_in}
use Rattle.work_laws.specs.Queueing.{lacks_bit}
use Rattle.work_laws.specs.Bringing.{brought_by, brought_in, defers_anew, lacks_anew}
use Rattle.work_laws.proofs.Drains.{none_lacks, popped_published}
use Rattle.work_laws.proofs.Sums.{one-is}

pub drain-left : (phase : ℕ) → is_tracing phase ≡ true → eqb phase 1 ≡ false → phase ≡ 2
drain-left phase e n =
    ⊎_elim (λ (a : eqb phase 1 ≡ true). absurd (true≢false (sym a ∙ n))) (λ (a : eqb phase 2 ≡ true). eqb-true phase 2 a) (or_cases (eqb phase 1) (eqb phase 2) e)

-- while nothing is marked, no packet has a cell that could be brought back
no_cells : (b : Bool) (n : ℕ) → n ≡ 0 → cond b n 0 ≡ 0
no_cells true n e = e
no_cells false n e = refl

brings_none : (c : Core) (i : ℕ) (s : SeatState) (step : Step) → Taken c i s step → is_tracing (words_of c.shape c.words).phase ≡ false → brought_by c step ≡ 0
brings_none c i s (Take q p) t e =
    let w : Words = words_of c.shape c.words in
    let within : p < c.shape.packets = ltb-true p c.shape.packets (and_parts (nat_lt q 4) (nat_lt p c.shape.packets) (and_parts _ _ t.ok.0).0).1 in
    no_cells (eqb q 3 && in_pool c.shape w.pools 3 p) (packet_length w.heads (hands c.seats) p) (t.core.sound.phases.packets_empty e p within)
brings_none c i s step t e = refl

pub brought-none : (c : Core) (e : Event) → IsCore c → failing_part c e ≡ None → is_tracing (words_of c.shape c.words).phase ≡ false → brought_in c e ≡ 0
brought-none c e k f q = kept-after (λ z w seats. brought_in c e ≡ 0) c e k f (λ s acted t. brings_none c e.seat s e.step t q)

-- in Drain no popped cell is found unpublished
and_none : (b : Bool) → (b && false) ≡ false
and_none true = refl
and_none false = refl

none_anew : (o : Option (ℕ × Bool)) (b word : ℕ) → lacks_bit o b word ≡ false → lacks_anew o b word ≡ false
none_anew None b word h = refl
none_anew (Some x) b word h = ap (λ (d : Bool). not x.1 && d) h ∙ and_none (not x.1)

finds_none : (c : Core) (i : ℕ) (s : SeatState) (step : Step) → Taken c i s step → (words_of c.shape c.words).phase ≡ 2 → bit (defers_anew c s step) ≡ 0
finds_none c i s (ReadAlloc b) t p =
    let word : ℕ = get_or (words_of c.shape c.words).allocs b 0 in ap bit (none_anew s.popped b word (none_lacks (words_of c.shape c.words).allocs s.popped b (popped_published c i s (ReadAlloc b) t p)))
finds_none c i s step t p = refl

pub drained-none : (c : Core) (e : Event) → IsCore c → failing_part c e ≡ None → (words_of c.shape c.words).phase ≡ 2 → one_in defers_anew c e ≡ 0
drained-none c e k f p = kept-after (λ z w seats. one_in defers_anew c e ≡ 0) c e k f (λ s acted t. one-is defers_anew c e s acted.seat ∙ finds_none c e.seat s e.step t p)

-- from Drain no event moves to Marking
drain_on : (c : Core) (i : ℕ) (s : SeatState) (step : Step) → Taken c i s step → (words_of c.shape c.words).phase ≡ 2 → eqb (words_left c s step).phase 1 ≡ false
drain_on c i s ReadPhase t p = rw (ap (λ (w : Words). w.phase) (words-read c i s ReadPhase t refl), p) refl
drain_on c i s (StorePhase Marking) t p = rw p refl
drain_on c i s (StorePhase Idle) t p = refl
drain_on c i s (StorePhase Drain) t p = refl
drain_on c i s (StorePhase Sweep) t p = refl
drain_on c i s (StorePhase Clear) t p = refl
drain_on c i s (StorePhase Full) t p = refl
drain_on c i s step t p = rw (phase-kept c.shape s step (written c.shape s step (found c s step)) (words_of c.shape c.words) refl, p) refl

pub unmarked-after : (c : Core) (e : Event) → IsCore c → failing_part c e ≡ None → (words_of c.shape c.words).phase ≡ 2 → eqb (words_of (after_event c e).shape (after_event c e).words).phase 1 ≡ false
unmarked-after c e k f p = kept-after (λ z w seats. eqb w.phase 1 ≡ false) c e k f (λ s acted t. drain_on c e.seat s e.step t p)
