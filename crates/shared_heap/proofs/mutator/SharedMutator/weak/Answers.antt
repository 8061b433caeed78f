use Rattle.gc_table.specs.Seats.{view_of}
use Rattle.shared_heap.proofs.Deaths.{taken-some}
use Rattle.shared_heap.proofs.mutator.SharedMutator.weak.Goals as goal

pub returns-else-word_of-eq0-clause-taken : goal.returns-else-word_of-eq0-clause-taken
returns-else-word_of-eq0-clause-taken c =
    let m = c.args.self.now in taken-some m.name c.args.v c.weak_shared.result (view_of m.seat) (view_of c.weak_shared.new.seat) c.weak_shared.ensures.takes
