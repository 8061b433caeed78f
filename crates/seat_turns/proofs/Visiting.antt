-- A turn of a tracer, put together from its steps.
use Rattle.std.proofs.Common.{ℕ, ◌≡◌, ◌≤◌, ◌+◌, refl, sym, ap, subst, arith}
use Rattle.mark_core.specs.Numbers.{done_count}
use Rattle.mark_core.specs.declared.kinds.Phase.{Phase}
use Rattle.mark_core.specs.declared.kinds.Phase.TheVariants as phases
use Rattle.mark_core.specs.declared.kinds.Shape.{Shape}
use Rattle.mark_core.specs.declared.kinds.Step.TheVariants.{ReadStat}
use Rattle.gc_table.specs.Running.{Ran}
use Rattle.gc_table.specs.Seats.{Found}
use Rattle.gc_table.specs.declared.view.View.{View}
use Rattle.stop_world.specs.Gates.{Enters}
use Rattle.mutator_ops.specs.Few.{AtMost}
use Rattle.mutator_ops.proofs.Few.{at-most-after, at-most-events, at-most-join}
use Rattle.seat_turns.specs.Tending.{TendsCards, TracesSome}
use Rattle.seat_turns.specs.Tracing.{HasMarked, MarksIn, Rounds, Tended, TracesForTurn, VisitsWorld, marking_steps}
use Rattle.seat_turns.specs.TracerTries.{TriesTo, TriesTurn, tried_steps}
use Rattle.seat_turns.specs.declared.try_turns.TryTurn.{TryTurn}

-- if marking isn't under way, nothing is done
pub marks-none : (p : Phase) (v : View) → (p ≡ phases.Marking → ⊥) → MarksIn p v v
marks-none phases.Marking v other = absurd (other refl)
marks-none p v other = refl

pub marks-some : (p : Phase) (v w : View) → p ≡ phases.Marking → HasMarked v w → MarksIn p v w
marks-some p v w is m = subst (λ (q : Phase). MarksIn q v w) (sym is) m

pub unmarked : (p : Phase) (sh : Shape) → (p ≡ phases.Marking → ⊥) → marking_steps p sh ≡ 0
unmarked phases.Marking sh other = absurd (other refl)
unmarked p sh other = refl

-- what a marking traced, and what it tended to
pub marked-traces : (n : ℕ) (v u : View) → TracesSome n v u → TracesForTurn n v u
marked-traces n v u t = record { ran = t.tends.ran; only = t.only; done = t.tends.done; ends = t.ends; defers = t.defers }

pub marked-tends : (u w : View) → TendsCards 0 u w → Tended u w
marked-tends u w t = record { ran = t.tends.ran; only = t.tends.only; none = t.tends.done; untaken = t.untaken; once = let few = t.once in omega (arith, few) }

-- the seat entered and went a round
pub visits : (p : Phase) (sh : Shape) (v u w : View) → v.shape ≡ sh → Ran v u → Ran u w → Enters v u → Rounds p u w → AtMost (marking_steps p sh + 2) u w → VisitsWorld p v w
visits p sh v u w same a b enters rounds few =
    let all = at-most-join 1 (marking_steps p sh + 2) v u w a b (at-most-events 1 v u _ enters.events (omega arith)) few in
    record { entered = u; enters = enters; rounds = rounds; few = subst (λ (x : Shape). AtMost (marking_steps p x + 3) v w) (sym same) (omega (arith, all)) }

-- before that it looked at the dismissals
pub tries-visit :
    (tried : TryTurn) (p : Phase) (n : ℕ) (v u w : View) → Ran v u → Ran u w → Found (ReadStat done_count) n v u → VisitsWorld p u w → TriesTo tried n u w → marking_steps p v.shape + 4 ≤ tried_steps tried v.shape → TriesTurn tried v w
tries-visit tried p n v u w a b looks visit takes most =
    let later = subst (λ (x : Shape). AtMost (marking_steps p x + 3) u w) (ap (λ (x : View). x.shape) looks.0) visit.few in
    let all = at-most-join 1 (marking_steps p v.shape + 3) v u w a b (at-most-after v u (ReadStat done_count) n looks.0) later in
    record { dismissals = n; looked = u; looks = looks; takes = takes; few = omega (arith, all, most) }
