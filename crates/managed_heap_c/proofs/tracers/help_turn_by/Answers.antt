use Rattle.std.proofs.Common.{ℕ, ◌≡◌, refl, sym, subst, Option, Some}
use Rattle.seat_turns.specs.TracerHelps.{TracerHelps}
use Rattle.seat_turns.specs.declared.background.Tracer.{Tracer}
use Rattle.seat_turns.specs.declared.helping.TryHelp.{TryHelp}
use Rattle.managed_heap_c.specs.Tracers.{AnswersHelp, status_of_help}
use Rattle.managed_heap_c.proofs.tracers.help_turn_by.Goals as goal

-- What the tracer behind a handle came to, if there is one.
helped-by : (most n : ℕ) (x : Option Tracer) (s t : Tracer) (helped : TryHelp) → x ≡ Some s → n ≡ status_of_help helped → TracerHelps most helped s t → AnswersHelp most n x (Some t)
helped-by most n x s t helped e k p = subst (λ q. AnswersHelp most n q (Some t)) (sym e) (helped, t, k, refl, p)

pub returns-in-Some : goal.returns-in-Some
returns-in-Some c =
    record { answers = helped-by c.args.most c.help_status.result c.args.hand.now.tracer c.in-Some.tracer c.help_step.new.self c.help_step.result c.in-Some.is c.help_status.ensures.number c.help_step.ensures.helps }
