use Rattle.std.proofs.Common.{ℕ, ◌≡◌, refl, sym, subst, Option, Some, None}
use Rattle.seat_turns.specs.declared.background.Tracer.{Tracer}
use Rattle.seat_turns.specs.declared.try_turns.TryTurn.{TryTurn}
use Rattle.managed_heap_c.specs.Kinds.{RefusesTracer, TakesTracer}
use Rattle.managed_heap_c.specs.Tracers.{AnswersTurn, GivesTracerBack, TriesTracerTurn, status_of_turn}
use Rattle.managed_heap_c.specs.declared.hands.AnyWorld.{AnyWorld}
use Rattle.managed_heap_c.proofs.tracers.turn_by.Goals as goal

-- What the tracer behind a handle came to, if there is one.
turned : (n : ℕ) (x : Option Tracer) (s t : Tracer) (tried : TryTurn) → x ≡ Some s → n ≡ status_of_turn tried → TriesTracerTurn tried s t → AnswersTurn n x (Some t)
turned n x s t tried e k p = subst (λ q. AnswersTurn n q (Some t)) (sym e) (tried, t, k, refl, p)

-- it went back to the world
back : (s : Tracer) (w x : AnyWorld) (o y : Option Tracer) → o ≡ Some s → y ≡ None → TakesTracer s w x → GivesTracerBack 0 w x o y
back s w x o y e n b = subst (λ q. GivesTracerBack 0 w x q y) (sym e) (subst (λ q. GivesTracerBack 0 w x (Some s) q) (sym n) (refl, b))

-- the world refused it
stayed : (s t : Tracer) (w x : AnyWorld) (o y : Option Tracer) → o ≡ Some s → y ≡ Some t → t ≡ s → RefusesTracer w x → GivesTracerBack 14 w x o y
stayed s t w x o y e n same k = subst (λ q. GivesTracerBack 14 w x q y) (sym e) (subst (λ q. GivesTracerBack 14 w x (Some s) q) (sym n) (refl, same, k))

pub returns-in-Some : goal.returns-in-Some
returns-in-Some c =
    let e = c.try_turn.ensures in
    record { answers = turned c.turn_status.result c.args.hand.now.tracer c.in-Some.tracer c.try_turn.new.self c.try_turn.result c.in-Some.is c.turn_status.ensures.number (e.turn, e.world.0, e.world.1) }
