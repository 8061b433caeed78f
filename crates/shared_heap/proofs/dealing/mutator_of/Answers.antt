use Rattle.std.proofs.Common.{refl}
use Rattle.std.specs.Arc.{arc_value}
use Rattle.shared_heap.proofs.Dealt.{fresh-of}
use Rattle.shared_heap.proofs.dealing.mutator_of.Goals as goal

pub returns : goal.returns
returns g c = record { fresh = fresh-of (arc_value c.args.heap.now) c.args.name g.k _ c.requires.0 c.requires.1.0.1 c.in_ok-try_clone.ensures refl refl }
