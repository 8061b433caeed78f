use Rattle.std.proofs.Common.{subst, sym}
use Rattle.gc_table.specs.Seats.{Sits, view_of}
use Rattle.gc_table.specs.declared.seat.Heap.{Heap}
use Rattle.gc_cycle.proofs.Turns.{turns-waited}
use Rattle.seat_turns.specs.TracerTries.{TriesTurn}
use Rattle.seat_turns.specs.declared.try_turns.TryTurn.{TryTurn}
use Rattle.seat_turns.proofs.Tallying.{tallies-join, tallies-only}
use Rattle.seat_turns.proofs.TracerTurns.{dismissed, full, helped, idle, marked}
use Rattle.seat_turns.proofs.background.Tracer.trace_turn.Goals as goal

pub returns-in-Marked-clause-turn : goal.returns-in-Marked-clause-turn
returns-in-Marked-clause-turn g c =
    let v = view_of c.args.self.now.seat in
    let w = view_of c.try_turn.new.self.seat in
    marked v w (subst (λ (t : TryTurn). TriesTurn t v w) c.in-Marked.is c.try_turn.ensures.turn)

pub returns-in-Idle-clause-turn : goal.returns-in-Idle-clause-turn
returns-in-Idle-clause-turn g c =
    let v = view_of c.args.self.now.seat in
    let w = view_of c.try_turn.new.self.seat in
    idle v w (subst (λ (t : TryTurn). TriesTurn t v w) c.in-Idle.is c.try_turn.ensures.turn)

pub returns-in-Dismissed-clause-turn : goal.returns-in-Dismissed-clause-turn
returns-in-Dismissed-clause-turn g c =
    let v = view_of c.args.self.now.seat in
    let w = view_of c.try_turn.new.self.seat in
    dismissed v w (subst (λ (t : TryTurn). TriesTurn t v w) c.in-Dismissed.is c.try_turn.ensures.turn)

pub returns-in-Full-clause-turn : goal.returns-in-Full-clause-turn
returns-in-Full-clause-turn g c =
    let v = view_of c.args.self.now.seat in
    let w = view_of c.try_turn.new.self.seat in
    full v w (subst (λ (t : TryTurn). TriesTurn t v w) c.in-Full.is c.try_turn.ensures.turn)

pub returns-in-Stopped-clause-turn : goal.returns-in-Stopped-clause-turn
returns-in-Stopped-clause-turn g c =
    let v = view_of c.args.self.now.seat in
    let x = view_of c.try_turn.new.self.seat in
    let h = c.await_resumed_helping.ensures in
    helped v x (view_of c.await_resumed_helping.new.seat) (subst (λ (t : TryTurn). TriesTurn t v x) c.in-Stopped.is c.try_turn.ensures.turn) h.ran (turns-waited x (view_of c.await_resumed_helping.new.seat) h.helps) h.resumed

pub returns-in-Stopped-clause-tally : goal.returns-in-Stopped-clause-tally
returns-in-Stopped-clause-tally g c =
    let h = c.await_resumed_helping.ensures in
    let x = view_of c.try_turn.new.self.seat in
    let w = view_of c.await_resumed_helping.new.seat in
    let b = c.try_turn.new.self.traced in
    tallies-join c.args.self.now.traced b b (view_of c.args.self.now.seat) x w c.try_turn.ensures.tally (tallies-only b x w h.ran h.numbers)

pub await_resumed_helping-requires : goal.await_resumed_helping-requires
await_resumed_helping-requires g c =
    let x = c.try_turn.new.self in
    record { seat = (subst (λ (h : Heap). Sits h x.seat) (sym c.deref.ensures) x.rests.sits, x.rests.out) }
