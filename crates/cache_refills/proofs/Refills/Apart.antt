-- The traces of a payment, one after another.
use Rattle.std.proofs.Common.{◌≡◌, ◌≤◌, ◌+◌, List, [], ◌∷◌, ◌++◌, arith, refl, sym, ap, ◌∙◌, subst, zero-add, ℕ, Bool, true, false, not}
use Rattle.std.specs.Prelude.{◌==◌, ◌&&◌, if◌then◌else◌, nat_lt}
use Rattle.std.proofs.lemmas.Bool.{false≢true, not-true, or_parts}
use Rattle.mark_core.specs.Layout.{card_count}
use Rattle.mark_core.specs.declared.kinds.Shape.{Shape}
use Rattle.mark_core.specs.declared.kinds.Step.{Step}
use Rattle.mark_core.specs.declared.kinds.Step.TheVariants.{Pop, Take}
use Rattle.gc_table.specs.Log.{events, Only}
use Rattle.gc_table.specs.Running.{Ran}
use Rattle.gc_table.specs.Taking.{after}
use Rattle.gc_table.specs.declared.view.Entry.{Entry}
use Rattle.gc_table.specs.declared.view.View.{View}
use Rattle.gc_table.proofs.History.Log.{events-none}
use Rattle.gc_table.proofs.Running.{ran-events, ran-join, ran-refl, ran-shape}
use Rattle.packet_pools.specs.Counts.{count_of}
use Rattle.packet_pools.specs.Seeking.{some_event}
use Rattle.packet_pools.proofs.Counting.{count-join}
use Rattle.tracer.specs.Deferral.{Defers}
use Rattle.tracer.specs.Recycling.{Recycled}
use Rattle.tracer.specs.declared.traced.Stopped.{Stopped}
use Rattle.tracer.specs.declared.traced.Stopped.TheVariants.{NoPacket, NoWork, Quota}
use Rattle.gc_cycle.specs.Events.{never}
use Rattle.gc_cycle.specs.Sorts.{draws, pops, reads_card_left, reads_counter, takes_deferred}
use Rattle.gc_cycle.proofs.CleaningSpares.{Spares, untaken}
use Rattle.cache_refills.specs.Pace.Deferring.{LeavesDeferred, RecyclesFor, TracesApart, TracesBy, TracesThenRecycles}
use Rattle.cache_refills.specs.Pace.Payment.{reads_number, stop_of}
use Rattle.cache_refills.proofs.Refills.Payment.{never-run}

-- what reads the counter of cards nowhere doesn't read it below its end either
uncounted-left : (cards : ℕ) (es : List Entry) → never reads_counter es ≡ true → count_of (reads_card_left cards) es ≡ 0
uncounted-left cards [] h = refl
uncounted-left cards (e ∷ es) h =
    let p = or_parts (reads_counter e.step e.found) (some_event reads_counter es) (not-true _ h) in
    ap (λ (b : Bool). (if b && nat_lt e.found cards then 1 else 0) + count_of (reads_card_left cards) es) p.0 ∙ (zero-add (count_of (reads_card_left cards) es) ∙ uncounted-left cards es (ap not p.1))

pub leaves-by : (v w : View) → Ran v w → never pops (events v w) ≡ true → never takes_deferred (events v w) ≡ true → never reads_counter (events v w) ≡ true → LeavesDeferred v w
leaves-by v w r p t u = let none = uncounted-left (card_count v.shape) (events v w) u in record { ran = r; unpopped = p; untaken = t; counted = omega (arith, none) }

pub leaves-none : (v : View) → LeavesDeferred v v
leaves-none v = leaves-by v v (ran-refl v) (ap (never pops) (events-none v)) (ap (never takes_deferred) (events-none v)) (ap (never reads_counter) (events-none v))

-- a card was drawn, in a heap of this shape
pub leaves-drawn : (sh : Shape) (v w : View) → v.shape ≡ sh → Ran v w → never pops (events v w) ≡ true → never takes_deferred (events v w) ≡ true → count_of (reads_card_left (card_count sh)) (events v w) ≤ count_of draws (events v w) → LeavesDeferred v w
leaves-drawn sh v w same r p t few =
    record { ran = r; unpopped = p; untaken = t; counted = subst (λ (s : Shape). count_of (reads_card_left (card_count s)) (events v w) ≤ count_of draws (events v w)) (sym same) few }

-- what two runs count, one after the other
counts : (f : Step → ℕ → Bool) (u v w : View) → Ran u v → Ran v w → count_of f (events u w) ≡ count_of f (events u v) + count_of f (events v w)
counts f u v w a b = ap (count_of f) (ran-events u v w a b) ∙ count-join f (events u v) (events v w)

pub leaves-join : (u v w : View) → LeavesDeferred u v → LeavesDeferred v w → LeavesDeferred u w
leaves-join u v w a b =
    record {
      ran = ran-join u v w a.ran b.ran;
      unpopped = never-run pops u v w a.ran b.ran a.unpopped b.unpopped;
      untaken = never-run takes_deferred u v w a.ran b.ran a.untaken b.untaken;
      counted =
          let one = a.counted in
          let two = subst (λ (s : Shape). count_of (reads_card_left (card_count s)) (events v w) ≤ count_of draws (events v w)) (ran-shape u v a.ran) b.counted in
          let read = counts (reads_card_left (card_count u.shape)) u v w a.ran b.ran in
          let drawn = counts draws u v w a.ran b.ran in
          omega (arith, one, two, read, drawn);
    }

-- the reading of numbers
number-unpopped : Spares reads_number pops
number-unpopped (Pop p) n e = absurd (false≢true e)
number-unpopped step n e = refl

number-untaken : Spares reads_number takes_deferred
number-untaken (Take pool packet) n e = absurd (false≢true e)
number-untaken step n e = refl

pub read-untaken : (v w : View) → Only reads_number v w → never takes_deferred (events v w) ≡ true
read-untaken v w o = untaken reads_number takes_deferred number-untaken (events v w) o

pub leaves-read : (v w : View) → Ran v w → Only reads_number v w → never reads_counter (events v w) ≡ true → LeavesDeferred v w
leaves-read v w r o u = leaves-by v w r (untaken reads_number pops number-unpopped (events v w) o) (read-untaken v w o) u

by-later : (xs : List (View × View)) (u v w : View) → TracesBy xs u v → LeavesDeferred v w → TracesBy xs u w
by-later [] u v w a b = leaves-join u v w a b
by-later (x ∷ xs) u v w a b = (a.0, a.1, a.2, a.3, leaves-join x.1 v w a.4 b)

by-join : (xs ys : List (View × View)) (u v w : View) → TracesBy xs u v → TracesBy ys v w → TracesBy (ys ++ xs) u w
by-join xs [] u v w a b = by-later xs u v w a b
by-join xs (y ∷ ys) u v w a b = (by-join xs ys u v y.0 a b.0, b.1, b.2, b.3, b.4)

by-one : (v w : View) → Ran v w → Defers v w → never reads_counter (events v w) ≡ true → TracesBy ((v, w) ∷ []) v w
by-one v w r d u = (leaves-none v, r, d, u, leaves-none w)

pub apart-none : (v w : View) → LeavesDeferred v w → TracesApart v w
apart-none v w l = record { traces = []; by = l }

pub apart-one : (v w : View) → Ran v w → Defers v w → never reads_counter (events v w) ≡ true → TracesApart v w
apart-one v w r d u = record { traces = (v, w) ∷ []; by = by-one v w r d u }

pub apart-join : (u v w : View) → TracesApart u v → TracesApart v w → TracesApart u w
apart-join u v w a b = record { traces = b.traces ++ a.traces; by = by-join a.traces b.traces u v w a.by b.by }

pub apart-earlier : (u v w : View) → LeavesDeferred u v → TracesApart v w → TracesApart u w
apart-earlier u v w a b = apart-join u v w (apart-none u v a) b

pub recycles-work : (s : Stopped) (sh : Shape) (n : ℕ) (v w : View) → s ≡ NoWork → Recycled sh n (events v w) → RecyclesFor s sh v w
recycles-work s sh n v w e r = subst (λ (t : Stopped). RecyclesFor t sh v w) (sym e) (n, r)

pub recycles-none : (s : Stopped) (sh : Shape) (v : View) → (s ≡ NoWork → ⊥) → RecyclesFor s sh v v
recycles-none NoWork sh v other = absurd (other refl)
recycles-none s sh v other = refl

abbrev is_out : Stopped → Bool
is_out NoWork = true
is_out s = false

-- what had no packet to begin with didn't run out of work
pub stops-other : (quota : ℕ) → stop_of quota ≡ NoWork → ⊥
stops-other quota e = by_test (quota == 0) e
  where
    by_test : (b : Bool) → (if b then Quota else NoPacket) ≡ NoWork → ⊥
    by_test true k = false≢true (ap is_out k)
    by_test false k = false≢true (ap is_out k)

pub traces-later : (sh : Shape) (s : Stopped) (u v w : View) → LeavesDeferred u v → TracesThenRecycles sh s v w → TracesThenRecycles sh s u w
traces-later sh s u v w a b = record { traced = b.traced; traces = apart-earlier u v b.traced a b.traces; ran = b.ran; recycles = b.recycles }
