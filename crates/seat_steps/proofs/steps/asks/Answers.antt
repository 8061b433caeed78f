use Rattle.std.proofs.Common.{ℕ, ap, subst}
use Rattle.std.proofs.lemmas.Bool.{OnTrue_at, OnTrue_from}
use Rattle.mark_core.specs.declared.seat.SeatState.{SeatState}
use Rattle.gc_table.specs.Seats.{view_of}
use Rattle.gc_cycle.specs.Stepping.{AsksOnce}
use Rattle.seat_turns.proofs.Seats.{mutator-kept}
use Rattle.seat_steps.proofs.SinceAsked.{asked-now}
use Rattle.seat_steps.proofs.Sparing.{asks-leaves}
use Rattle.seat_steps.proofs.steps.asks.Goals as goal

pub returns-clause-yours : goal.returns-clause-yours
returns-clause-yours c =
    let v = view_of c.args.seat.now in
    let w = view_of c.ask_to_stop.new.seat in
    let e = c.ask_to_stop.ensures in
    OnTrue_from c.ask_to_stop.result _
    (λ is. record { sits = e.seat; mutator = mutator-kept v w c.requires.halts.works.mutator e.ran e.keeps.0 e.keeps.1; stands = OnTrue_at is e.yours; since = asked-now _ c.ask_to_stop.result v w e.ran e.asks is })

pub returns-clause-asks : goal.returns-clause-asks
returns-clause-asks c = subst (λ (n : ℕ). AsksOnce n c.ask_to_stop.result (view_of c.args.seat.now) (view_of c.ask_to_stop.new.seat)) (ap (λ (s : SeatState). s.made) c.state.ensures) c.ask_to_stop.ensures.asks

pub returns-clause-leaves : goal.returns-clause-leaves
returns-clause-leaves c = let e = c.ask_to_stop.ensures in asks-leaves _ _ (view_of c.args.seat.now) (view_of c.ask_to_stop.new.seat) e.ran e.asks e.keeps.0
