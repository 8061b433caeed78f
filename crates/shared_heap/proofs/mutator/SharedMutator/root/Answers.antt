use Rattle.std.proofs.Common.{◌<◌, rules}
use Rattle.mark_core.specs.Numbers.{section_variables}
use Rattle.gc_table.specs.Seats.{view_of}
use Rattle.std.specs.Arc.{arc_value}
use Rattle.seat_turns.proofs.Done.{lends-few}
use Rattle.seat_turns.proofs.Held.{held-in, holds-in, holds-other}
use Rattle.shared_heap.proofs.mutator.SharedMutator.root.Goals as goal

pub share_lend-requires-clause-seat : goal.share_lend-requires-clause-seat
share_lend-requires-clause-seat c = let m = c.args.self.now in holds-in _ _ m.seat c.deref.ensures (m.inside c.in-Inside.is) m.shared

pub share_lend-requires-clause-other : goal.share_lend-requires-clause-other
share_lend-requires-clause-other c = let m = c.args.self.now in holds-other (arc_value m.heap) m.seat (m.inside c.in-Inside.is)

pub invariant_of-self-clause-inside : goal.invariant_of-self-clause-inside
invariant_of-self-clause-inside c = λ _. let m = c.args.self.now in let e = c.share_lend.ensures in let low : c.args.w < section_variables = search rules in held-in _ _ m.seat c.share_lend.new.seat c.args.w _ c.deref.ensures (m.inside c.in-Inside.is) e.seat e.lends.ran low e.lends.state

pub returns-else-word_of-eq0-clause-few : goal.returns-else-word_of-eq0-clause-few
returns-else-word_of-eq0-clause-few c = lends-few c.args.w 0 (view_of c.args.self.now.seat) (view_of c.share_lend.new.seat) c.share_lend.ensures.lends
