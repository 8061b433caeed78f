use Rattle.gc_table.specs.Seats.{view_of}
use Rattle.seat_turns.proofs.Held.{held-same-in, holds-in}
use Rattle.seat_steps.proofs.Few.{took-one}
use Rattle.shared_heap.proofs.mutator.SharedMutator.spill.Goals as goal

pub share_spill-requires-clause-seat : goal.share_spill-requires-clause-seat
share_spill-requires-clause-seat c = let m = c.args.self.now in holds-in _ _ m.seat c.deref-in-Inside.ensures (m.inside c.in-Inside.is) m.shared

pub invariant_of-self-in-Inside-clause-inside : goal.invariant_of-self-in-Inside-clause-inside
invariant_of-self-in-Inside-clause-inside c = λ _. let m = c.args.self.now in let e = c.share_spill.ensures in held-same-in _ _ m.seat c.share_spill.new.seat c.deref-in-Inside.ensures (m.inside c.in-Inside.is) e.seat e.takes.ran e.takes.state

pub returns-in-Inside-clause-few : goal.returns-in-Inside-clause-few
returns-in-Inside-clause-few c = took-one _ (view_of c.args.self.now.seat) (view_of c.share_spill.new.seat) c.share_spill.ensures.takes
