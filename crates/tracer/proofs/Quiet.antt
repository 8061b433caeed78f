-- Takes, and the scan of an object, as parts of a trace.
use Rattle.std.proofs.Common.{ℕ, ◌≡◌, List, [], ◌∷◌, refl, sym, ap, ◌∙◌, cond, Bool, true, false, not, None, Option, ⊎_elim, ◌+◌, ◌%◌}
use Rattle.std.specs.Prelude.{◌&&◌, ◌||◌, ◌==◌}
use Rattle.std.proofs.lemmas.Bool.{and_parts, false≢true, or_cases, and_from, ne_eqb, or_from}
use Rattle.mark_core.specs.Seats.{is_the, is_unpublished}
use Rattle.mark_core.specs.Steps.PacketSteps.{may_push}
use Rattle.mark_core.specs.Steps.ColourSteps.{popped_off}
use Rattle.mark_core.specs.Effects.{seat_after}
use Rattle.mark_core.specs.declared.kinds.Shape.{Shape}
use Rattle.mark_core.specs.declared.kinds.Step.{Step}
use Rattle.mark_core.specs.declared.kinds.Step.TheVariants.{Reserve, Take, Give, Credit, Look, StoreLength, ReadLength, Push, ReadField, SetMark, DirtyCard}
use Rattle.mark_core.specs.declared.seat.SeatState.{SeatState}
use Rattle.gc_table.specs.declared.view.Entry.{Entry}
use Rattle.gc_table.specs.declared.view.View.{View}
use Rattle.gc_table.specs.Taking.{after}
use Rattle.packet_pools.specs.Keeping.{all_keep, keeps_cells}
use Rattle.packet_pools.specs.Seeking.{moves_packet, only_moves, output_pools, gets_from, in_pools, was_got_from}
use Rattle.packet_pools.specs.Counts.{count_of, dirties, only_scans, scans_object, CountsMarked}
use Rattle.packet_pools.proofs.Counting.{counts-moves}
use Rattle.tracer.specs.Deferral.{waits_on, waits, pops_from, pops_waiting, defers}
use Rattle.tracer.specs.Parts.{Did}
use Rattle.mark_core.specs.Bits.{has_bit}
use Rattle.mark_core.specs.Numbers.{deferred_pool_number, word_bits}
use Rattle.tracer.specs.Tally.{pops, count_by, only_traces, is_trace_step}

-- Events that neither pop a cell, defer one nor take a packet out of the deferred pool.
-- this step is such a one
pub record IsCalm (s : SeatState) (step : Step) (n : ℕ) : Type 0 where
  pub from : (p : ℕ) → pops_from p step ≡ false
  pub pop : pops step n ≡ false
  pub off : defers s step ≡ false
  pub got : (p : ℕ) → gets_from deferred_pool_number p step n ≡ false
  pub trace : is_trace_step step ≡ true

-- all these are
abbrev pub AllCalm : View → List Entry → Type 0
AllCalm v [] = Unit {0}
AllCalm v (e ∷ es) = IsCalm v.state e.step e.found × AllCalm (after e.step e.found v) es

-- each of these events leaves as it is which packets wait
abbrev pub AllStill : View → List Entry → Type 0
AllStill v [] = Unit {0}
AllStill v (e ∷ es) = ((p : ℕ) (b : Bool) → waits_on p v.state e.step b ≡ b) × AllStill (after e.step e.found v) es

pub and-false : (b : Bool) → (b && false) ≡ false
and-false true = refl
and-false false = refl

pub calm-popped : (p : ℕ) (v : View) (es : List Entry) (b : Bool) → AllCalm v es → pops_waiting p v es b ≡ false
calm-popped p v [] b c = refl
calm-popped p v (e ∷ es) b c = or_from _ _ (ap (λ x. b && x) (c.0.from p) ∙ and-false b) (calm-popped p (after e.step e.found v) es (waits_on p v.state e.step b) c.1)

pub calm-got : (p : ℕ) (v : View) (es : List Entry) → AllCalm v es → was_got_from deferred_pool_number p es ≡ false
calm-got p v [] c = refl
calm-got p v (e ∷ es) c = or_from _ _ (c.0.got p) (calm-got p (after e.step e.found v) es c.1)

pub calm-pops : (v : View) (es : List Entry) → AllCalm v es → count_of pops es ≡ 0
calm-pops v [] c = refl
calm-pops v (e ∷ es) c = λ i. cond (c.0.pop i) 1 0 + calm-pops (after e.step e.found v) es c.1 i

pub calm-off : (v : View) (es : List Entry) → AllCalm v es → count_by defers v es ≡ 0
calm-off v [] c = refl
calm-off v (e ∷ es) c = λ i. cond (c.0.off i) 1 0 + calm-off (after e.step e.found v) es c.1 i

pub calm-traces : (v : View) (es : List Entry) → AllCalm v es → only_traces es ≡ true
calm-traces v [] c = refl
calm-traces v (e ∷ es) c = and_from _ _ c.0.trace (calm-traces (after e.step e.found v) es c.1)

pub still-waits : (p : ℕ) (v : View) (es : List Entry) (b : Bool) → AllStill v es → waits p v es b ≡ b
still-waits p v [] b s = refl
still-waits p v (e ∷ es) b s = ap (waits p (after e.step e.found v) es) (s.0 p b) ∙ still-waits p (after e.step e.found v) es b s.1

not-three : (q : ℕ) → in_pools q output_pools ≡ true → (q == deferred_pool_number) ≡ false
not-three q m = ne_eqb q deferred_pool_number (λ e. false≢true (sym (ap (λ x. in_pools x output_pools) e) ∙ m))

given-calm : (a b d : Bool) → not d ≡ true → (b && not (a && d)) ≡ b
given-calm a b true m = absurd (false≢true m)
given-calm true true false m = refl
given-calm true false false m = refl
given-calm false true false m = refl
given-calm false false false m = refl

-- a step that moves a packet, but no deferred one
pub move-calm : (s : SeatState) (step : Step) (n : ℕ) → moves_packet output_pools step ≡ true → IsCalm s step n
move-calm s Reserve n m = record { from = λ p. refl; pop = refl; off = refl; got = λ p. refl; trace = refl }
move-calm s (Take q x) n m = record { from = λ p. refl; pop = refl; off = refl; got = λ p. ap (λ (b : Bool). (b && (x == p)) && has_bit n (p % word_bits)) (not-three q m); trace = m }
move-calm s (Give q d) n m = record { from = λ p. refl; pop = refl; off = refl; got = λ p. refl; trace = refl }
move-calm s Credit n m = record { from = λ p. refl; pop = refl; off = refl; got = λ p. refl; trace = refl }
move-calm s (Look q g) n m = record { from = λ p. refl; pop = refl; off = refl; got = λ p. refl; trace = refl }
move-calm s (StoreLength p) n m = record { from = λ p. refl; pop = refl; off = refl; got = λ p. refl; trace = refl }
move-calm s (ReadLength p) n m = record { from = λ p. refl; pop = refl; off = refl; got = λ p. refl; trace = refl }
move-calm s step n m = absurd (false≢true m)

pub move-still : (s : SeatState) (step : Step) (p : ℕ) (b : Bool) → moves_packet output_pools step ≡ true → waits_on p s step b ≡ b
move-still s Reserve p b m = refl
move-still s (Take q x) p b m = refl
move-still s (Give q d) p b m = given-calm (q == p) b d m
move-still s Credit p b m = refl
move-still s (Look q g) p b m = refl
move-still s (StoreLength x) p b m = refl
move-still s (ReadLength x) p b m = refl
move-still s step p b m = absurd (false≢true m)

-- events that change nothing of what waits
pub did-quiet : (o : Option ℕ) (l : ℕ) (v : View) (es : List Entry) → AllCalm v es → AllStill v es → count_of dirties es ≡ l → Did o o 0 0 l v es
did-quiet o l v es c s d =
    record {
      waiting = λ p. still-waits p v es (is_the o p) s;
      kept = λ p. calm-popped p v es (is_the o p) c;
      undeferred = λ p. calm-got p v es c;
      done = calm-pops v es c;
      deferred = calm-off v es c;
      dirtied = d;
      steps = calm-traces v es c;
    }

moves-calm : (v : View) (es : List Entry) → only_moves output_pools es ≡ true → AllCalm v es
moves-calm v [] m = tt
moves-calm v (e ∷ es) m = let h = and_parts (moves_packet output_pools e.step) (only_moves output_pools es) m in (move-calm v.state e.step e.found h.0, moves-calm (after e.step e.found v) es h.1)

moves-still : (v : View) (es : List Entry) → only_moves output_pools es ≡ true → AllStill v es
moves-still v [] m = tt
moves-still v (e ∷ es) m = let h = and_parts (moves_packet output_pools e.step) (only_moves output_pools es) m in (λ p b. move-still v.state e.step p b h.0, moves-still (after e.step e.found v) es h.1)

-- packets were taken, or given back
pub did-moves : (o : Option ℕ) (v : View) (es : List Entry) → only_moves output_pools es ≡ true → Did o o 0 0 0 v es
did-moves o v es m = did-quiet o 0 v es (moves-calm v es m) (moves-still v es m) (counts-moves v.shape es m).overflowed

-- with no popped cell in hand it is a fresh one that is pushed
fresh-pushed : (s : SeatState) (c : ℕ) → s.popped ≡ None → may_push s c ≡ true → is_the s.fresh c ≡ true
fresh-pushed s c none k =
    ⊎_elim
    (λ (f : is_the s.fresh c ≡ true). f)
    (λ (u : is_unpublished s.popped c ≡ true). absurd (false≢true (sym (ap (λ o. is_unpublished o c) none) ∙ u)))
    (or_cases (is_the s.fresh c) (is_unpublished s.popped c) k)

fresh-still : (a b f : Bool) → f ≡ true → (b || (a && not f)) ≡ b
fresh-still a b false e = absurd (false≢true e)
fresh-still true true true e = refl
fresh-still true false true e = refl
fresh-still false true true e = refl
fresh-still false false true e = refl

scan-calm : (s : SeatState) (step : Step) (n : ℕ) → s.popped ≡ None → keeps_cells s step ≡ true → scans_object step ≡ true → IsCalm s step n
scan-calm s (Push q c) n none k m = record { from = λ p. refl; pop = refl; off = ap not (fresh-pushed s c none k); got = λ p. refl; trace = refl }
scan-calm s (ReadField c i) n none k m = record { from = λ p. refl; pop = refl; off = refl; got = λ p. refl; trace = refl }
scan-calm s (SetMark c) n none k m = record { from = λ p. refl; pop = refl; off = refl; got = λ p. refl; trace = refl }
scan-calm s (DirtyCard card) n none k m = record { from = λ p. refl; pop = refl; off = refl; got = λ p. refl; trace = refl }
scan-calm s step n none k m = move-calm s step n m

scan-still : (s : SeatState) (step : Step) (p : ℕ) (b : Bool) → s.popped ≡ None → keeps_cells s step ≡ true → scans_object step ≡ true → waits_on p s step b ≡ b
scan-still s (Push q c) p b none k m = fresh-still (q == p) b (is_the s.fresh c) (fresh-pushed s c none k)
scan-still s (ReadField c i) p b none k m = refl
scan-still s (SetMark c) p b none k m = refl
scan-still s (DirtyCard card) p b none k m = refl
scan-still s step p b none k m = move-still s step p b m

kept-none : (b : Bool) (o : Option (ℕ × Bool)) → o ≡ None → cond b o None ≡ None
kept-none true o e = e
kept-none false o e = refl

-- no popped cell comes in hand
scan-none : (sh : Shape) (s : SeatState) (step : Step) (n : ℕ) → s.popped ≡ None → scans_object step ≡ true → (seat_after sh s step n).popped ≡ None
scan-none sh s (Push q c) n none m = kept-none (is_the s.fresh c) s.popped none
scan-none sh s (DirtyCard card) n none m = ap (λ o. popped_off o card) none
scan-none sh s (ReadField c i) n none m = none
scan-none sh s (SetMark c) n none m = none
scan-none sh s Reserve n none m = none
scan-none sh s (Take q x) n none m = none
scan-none sh s (Give q d) n none m = none
scan-none sh s Credit n none m = none
scan-none sh s (Look q g) n none m = none
scan-none sh s (StoreLength p) n none m = none
scan-none sh s (ReadLength p) n none m = none
scan-none sh s step n none m = absurd (false≢true m)

scans-calm : (v : View) (es : List Entry) → v.state.popped ≡ None → all_keep v es ≡ true → only_scans es ≡ true → AllCalm v es
scans-calm v [] none k m = tt
scans-calm v (e ∷ es) none k m =
    let a = and_parts (keeps_cells v.state e.step) (all_keep (after e.step e.found v) es) k in
    let h = and_parts (scans_object e.step) (only_scans es) m in
    (scan-calm v.state e.step e.found none a.0 h.0, scans-calm (after e.step e.found v) es (scan-none v.shape v.state e.step e.found none h.0) a.1 h.1)

scans-still : (v : View) (es : List Entry) → v.state.popped ≡ None → all_keep v es ≡ true → only_scans es ≡ true → AllStill v es
scans-still v [] none k m = tt
scans-still v (e ∷ es) none k m =
    let a = and_parts (keeps_cells v.state e.step) (all_keep (after e.step e.found v) es) k in
    let h = and_parts (scans_object e.step) (only_scans es) m in
    (λ p b. scan-still v.state e.step p b none a.0 h.0, scans-still (after e.step e.found v) es (scan-none v.shape v.state e.step e.found none h.0) a.1 h.1)

-- an object was scanned
pub did-scan : (sh : Shape) (o : Option ℕ) (white kept lost : ℕ) (v : View) (es : List Entry) → v.state.popped ≡ None → all_keep v es ≡ true → CountsMarked sh white kept lost es → Did o o 0 0 lost v es
did-scan sh o white kept lost v es none k c = did-quiet o lost v es (scans-calm v es none k c.scans) (scans-still v es none k c.scans) c.overflowed
