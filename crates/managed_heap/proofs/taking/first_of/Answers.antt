use Rattle.std.proofs.Common.{◌<◌, length, arith}
use Rattle.managed_heap.proofs.SeatsGathered.{first-and-rest}
use Rattle.managed_heap.proofs.taking.first_of.Goals as goal

pub returns-clause-first : goal.returns-clause-first
returns-clause-first g c =
    let some : 0 < length c.args.all.now.items = omega (arith, c.requires.some, c.args.all.now.ok) in
    first-and-rest c.args.all.now.items c.remove.result c.remove.new.self.items some c.remove.ensures.value c.remove.ensures.items
