-- Whether a tracer's turn passes cards, by why its tracing stopped.
use Rattle.std.proofs.Common.{ℕ, ◌≡◌, ◌<◌, ◌⊎◌, inl, inr, refl, sym, subst}
use Rattle.gc_table.specs.declared.view.View.{View}
use Rattle.tracer.specs.Causes.{FoundNoWork}
use Rattle.tracer.specs.declared.traced.Stopped.{Stopped}
use Rattle.tracer.specs.declared.traced.Stopped.TheVariants.{NoWork, Quota}
use Rattle.seat_turns.specs.CardPass.{PassesFor, PassesLate}
use Rattle.seat_turns.specs.Tending.{PassesAfter, turn_quota}

pub passes-work : (s : Stopped) (v w : View) → s ≡ NoWork → PassesLate v w → PassesFor s v w
passes-work s v w is p = subst (λ (t : Stopped). PassesFor t v w) (sym is) p

pub passes-none : (s : Stopped) (v : View) → (s ≡ NoWork → ⊥) → PassesFor s v v
passes-none NoWork v other = absurd (other refl)
passes-none s v other = refl

-- tracing stops for want of work if it traced fewer objects than a turn does
pub passes-after : (s : Stopped) (done : ℕ) (u v w : View) → ((s ≡ Quota) × (done ≡ turn_quota)) ⊎ ((s ≡ NoWork) × (done < turn_quota) × FoundNoWork u v) → PassesFor s v w → PassesAfter done v w
passes-after s done u v w (inl q) p = inl (q.1, subst (λ (t : Stopped). PassesFor t v w) q.0 p)
passes-after s done u v w (inr q) p = inr (q.1, subst (λ (t : Stopped). PassesFor t v w) q.0 p)
