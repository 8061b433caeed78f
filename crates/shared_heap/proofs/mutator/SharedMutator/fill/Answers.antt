use Rattle.std.proofs.Common.{◌<◌, rules}
use Rattle.mark_core.specs.Numbers.{section_variables}
use Rattle.gc_table.specs.Seats.{view_of}
use Rattle.seat_turns.proofs.Held.{held-in, holds-in}
use Rattle.seat_steps.proofs.Few.{filled-few}
use Rattle.shared_heap.proofs.mutator.SharedMutator.fill.Goals as goal

pub share_fill-requires-clause-seat : goal.share_fill-requires-clause-seat
share_fill-requires-clause-seat c = let m = c.args.self.now in holds-in _ _ m.seat c.deref-in-Inside.ensures (m.inside c.in-Inside.is) m.shared

pub invariant_of-self-in-Inside-clause-inside : goal.invariant_of-self-in-Inside-clause-inside
invariant_of-self-in-Inside-clause-inside c = λ _. let m = c.args.self.now in let e = c.share_fill.ensures in let low : c.args.v < section_variables = search rules in held-in _ _ m.seat c.share_fill.new.seat c.args.v _ c.deref-in-Inside.ensures (m.inside c.in-Inside.is) e.seat e.fills.ran low e.fills.state

pub returns-in-Inside-clause-few : goal.returns-in-Inside-clause-few
returns-in-Inside-clause-few c = filled-few _ _ (view_of c.args.self.now.seat) (view_of c.share_fill.new.seat) c.share_fill.ensures.fills
