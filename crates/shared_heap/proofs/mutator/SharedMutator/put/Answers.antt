use Rattle.gc_table.specs.Seats.{view_of}
use Rattle.seat_turns.proofs.Done.{putting-few}
use Rattle.seat_turns.proofs.Held.{held-same-in, holds-in}
use Rattle.shared_heap.proofs.mutator.SharedMutator.put.Goals as goal

pub share_put-requires-clause-seat : goal.share_put-requires-clause-seat
share_put-requires-clause-seat c = let m = c.args.self.now in holds-in _ _ m.seat c.deref.ensures (m.inside c.in-Inside.is) m.shared

pub invariant_of-self-clause-inside : goal.invariant_of-self-clause-inside
invariant_of-self-clause-inside c = λ _. let m = c.args.self.now in let e = c.share_put.ensures in held-same-in _ _ m.seat c.share_put.new.seat c.deref.ensures (m.inside c.in-Inside.is) e.seat e.takes.ran e.takes.state

pub returns-in-Inside-clause-few : goal.returns-in-Inside-clause-few
returns-in-Inside-clause-few c = putting-few c.args.v c.args.value (view_of c.args.self.now.seat) (view_of c.share_put.new.seat) c.share_put.ensures.takes
