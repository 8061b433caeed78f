-- If nothing of a cleaning is left, and none begins, no object of a card is scanned again.
use Rattle.std.proofs.Common.{ℕ, ◌≡◌, [], ◌∷◌, List, refl, ap, arith, cond, Bool, true, false, not, Some, None, Option}
use Rattle.std.specs.Prelude.{◌==◌, ◌||◌}
use Rattle.std.proofs.lemmas.Bool.{and_from, and_parts, false≢true, false_from_ne_true, or_from, or_parts}
use Rattle.mark_core.specs.Steps.ColourSteps.{redirty_off}
use Rattle.mark_core.specs.Seats.{cleaning_left, left_in}
use Rattle.mark_core.specs.declared.kinds.Step.{Step}
use Rattle.mark_core.specs.declared.kinds.Step.TheVariants.{Reserve, Take, Give, Credit, Push, Pop, Look, ReadAlloc, ReadField, ReadRoot, SetMark, DirtyCard, StoreLength, ReadLength}
use Rattle.mark_core.specs.declared.seat.Cleaning.{Cleaning}
use Rattle.mark_core.proofs.Marks.MarksIdle.{left-works}
use Rattle.gc_table.specs.Log.{all_steps}
use Rattle.gc_table.specs.Taking.{after}
use Rattle.gc_table.specs.declared.view.Entry.{Entry}
use Rattle.gc_table.specs.declared.view.View.{View}
use Rattle.packet_pools.proofs.Settled.{without-left}
use Rattle.tracer.specs.Roots.{only_roots, scans_roots}
use Rattle.tracer.specs.Tally.{is_trace_step}
use Rattle.tracer.proofs.Hand.{alloc-left}
use Rattle.card_clean.specs.Leaving.{rescans}
use Rattle.gc_cycle.specs.Moments.{total_of}

-- a step of a trace, or of a scan of roots: it cleans no card
abbrev pub begins_none : Step → Bool
begins_none Reserve = true
begins_none (Take q p) = true
begins_none (Give p deferred) = true
begins_none Credit = true
begins_none (Push p c) = true
begins_none (Pop p) = true
begins_none (Look q g) = true
begins_none (ReadAlloc b) = true
begins_none (ReadField c i) = true
begins_none (ReadRoot section v) = true
begins_none (SetMark c) = true
begins_none (DirtyCard card) = true
begins_none (StoreLength p) = true
begins_none (ReadLength p) = true
begins_none step = false

redirty-left : (o : Option Cleaning) (card : ℕ) → cleaning_left o ≡ false → cleaning_left (redirty_off o card) ≡ false
redirty-left None card e = refl
redirty-left (Some x) card e = either (x.card == card)
  where
    either : (d : Bool) → cleaning_left (Some (cond d (record x { redirty = false }) x)) ≡ false
    either true = or_from _ _ (or_parts (not x.known || not (x.left == 0)) x.redirty e).0 refl
    either false = e

left-none : (o : Option Cleaning) (c : ℕ) → cleaning_left o ≡ false → left_in o c ≡ false
left-none o c e = false_from_ne_true (left_in o c) (λ h. left-works o c ⊥ e h)

calm-step : (x : View) (step : Step) (n : ℕ) → begins_none step ≡ true → cleaning_left x.state.cleaning ≡ false → (rescans x.state step n ≡ 0) × (cleaning_left (after step n x).state.cleaning ≡ false)
calm-step x Reserve n p e = (refl, e)
calm-step x (Take q k) n p e = (refl, e)
calm-step x (Give k deferred) n p e = (refl, e)
calm-step x Credit n p e = (refl, e)
calm-step x (Push k c) n p e = (refl, e)
calm-step x (Pop k) n p e = (refl, e)
calm-step x (Look q g) n p e = (refl, e)
calm-step x (ReadAlloc b) n p e = (refl, alloc-left x.state.cleaning b n e)
calm-step x (ReadField c i) n p e = (ap (λ b. cond b 1 0) (left-none x.state.cleaning c e), without-left x.state.cleaning c e)
calm-step x (ReadRoot section v) n p e = (refl, e)
calm-step x (SetMark c) n p e = (refl, e)
calm-step x (DirtyCard card) n p e = (refl, redirty-left x.state.cleaning card e)
calm-step x (StoreLength k) n p e = (refl, e)
calm-step x (ReadLength k) n p e = (refl, e)
calm-step x step n p e = absurd (false≢true p)

pub calm : (es : List Entry) (v : View) → all_steps begins_none es ≡ true → cleaning_left v.state.cleaning ≡ false → total_of rescans v es ≡ 0
calm [] v a e = refl
calm (x ∷ es) v a e =
    let h = and_parts (begins_none x.step) (all_steps begins_none es) a in
    let k = calm-step v x.step x.found h.0 e in
    let one = k.0 in
    let rest = calm es (after x.step x.found v) h.1 k.1 in
    omega (arith, one, rest)

root-step : (step : Step) → scans_roots step ≡ true → begins_none step ≡ true
root-step (ReadRoot section v) e = refl
root-step Reserve e = refl
root-step (Take q p) e = refl
root-step (Give p deferred) e = refl
root-step Credit e = refl
root-step (Look q g) e = refl
root-step (StoreLength p) e = refl
root-step (ReadLength p) e = refl
root-step (Push p c) e = refl
root-step (ReadField c i) e = refl
root-step (SetMark c) e = refl
root-step (DirtyCard card) e = refl
root-step step e = absurd (false≢true e)

-- a scan of roots cleans no card
pub roots-begin_none : (es : List Entry) → only_roots es ≡ true → all_steps begins_none es ≡ true
roots-begin_none [] a = refl
roots-begin_none (x ∷ es) a = let h = and_parts (scans_roots x.step) (only_roots es) a in and_from _ _ (root-step x.step h.0) (roots-begin_none es h.1)

trace-step : (step : Step) → is_trace_step step ≡ true → begins_none step ≡ true
trace-step (Pop p) e = refl
trace-step (ReadAlloc b) e = refl
trace-step (Give p deferred) e = refl
trace-step Reserve e = refl
trace-step (Take q p) e = refl
trace-step Credit e = refl
trace-step (Look q g) e = refl
trace-step (StoreLength p) e = refl
trace-step (ReadLength p) e = refl
trace-step (Push p c) e = refl
trace-step (ReadField c i) e = refl
trace-step (SetMark c) e = refl
trace-step (DirtyCard card) e = refl
trace-step step e = absurd (false≢true e)

-- a trace cleans no card
pub traces-begin_none : (es : List Entry) → all_steps is_trace_step es ≡ true → all_steps begins_none es ≡ true
traces-begin_none [] a = refl
traces-begin_none (x ∷ es) a = let h = and_parts (is_trace_step x.step) (all_steps is_trace_step es) a in and_from _ _ (trace-step x.step h.0) (traces-begin_none es h.1)
