use Rattle.std.proofs.Common.{◌<◌, rules}
use Rattle.mark_core.specs.Numbers.{section_variables}
use Rattle.gc_table.specs.Seats.{view_of}
use Rattle.seat_turns.proofs.Done.{sets-few}
use Rattle.seat_turns.proofs.Held.{held-in, holds-in}
use Rattle.shared_heap.proofs.mutator.SharedMutator.copy.Goals as goal

pub share_copy-requires-clause-seat : goal.share_copy-requires-clause-seat
share_copy-requires-clause-seat c = let m = c.args.self.now in holds-in _ _ m.seat c.deref.ensures (m.inside c.in-Inside.is) m.shared

pub invariant_of-self-clause-inside : goal.invariant_of-self-clause-inside
invariant_of-self-clause-inside c = λ _. let m = c.args.self.now in let e = c.share_copy.ensures in let low : c.args.w < section_variables = search rules in held-in _ _ m.seat c.share_copy.new.seat c.args.w _ c.deref.ensures (m.inside c.in-Inside.is) e.seat e.sets.ran low e.sets.state

pub returns-in-Inside-clause-few : goal.returns-in-Inside-clause-few
returns-in-Inside-clause-few c = sets-few c.args.w _ (view_of c.args.self.now.seat) (view_of c.share_copy.new.seat) c.share_copy.ensures.sets
