use Rattle.gc_table.specs.Seats.{view_of}
use Rattle.seat_turns.proofs.Done.{exchanges-field}
use Rattle.seat_turns.proofs.Held.{held-same-in, holds-in}
use Rattle.seat_steps.proofs.Few.{exchanged-few}
use Rattle.shared_heap.proofs.mutator.SharedMutator.exchange.Goals as goal

pub share_exchange-requires-clause-seat : goal.share_exchange-requires-clause-seat
share_exchange-requires-clause-seat c = let m = c.args.self.now in holds-in _ _ m.seat c.deref-in-Inside.ensures (m.inside c.in-Inside.is) m.shared

pub invariant_of-self-in-Inside-clause-inside : goal.invariant_of-self-in-Inside-clause-inside
invariant_of-self-in-Inside-clause-inside c = λ _. let m = c.args.self.now in let e = c.share_exchange.ensures in held-same-in _ _ m.seat c.share_exchange.new.seat c.deref-in-Inside.ensures (m.inside c.in-Inside.is) e.seat e.ran e.state

pub returns-else-word_of-eq0-clause-few : goal.returns-else-word_of-eq0-clause-few
returns-else-word_of-eq0-clause-few c =
    let a = c.args in
    let e = c.share_exchange.ensures in
    let v = view_of a.self.now.seat in
    let w = view_of c.share_exchange.new.seat in
    exchanged-few a.v a.i a.expected a.new c.share_exchange.result v w (exchanges-field a.v a.i a.expected a.new c.share_exchange.result v w e.ran e.exchanged e.state)
