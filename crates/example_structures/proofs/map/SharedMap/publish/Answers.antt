use Rattle.std.proofs.Common.{◌≡◌, arith}
use Rattle.std.specs.Prelude.{if◌then◌else◌}
use Rattle.shared_heap.specs.declared.mutator.Place.TheVariants.{Inside}
use Rattle.example_structures.specs.Maps.{Renews}
use Rattle.example_structures.specs.Refusing.{GivenUp}
use Rattle.example_structures.proofs.Called.{exchanged-told}
use Rattle.example_structures.proofs.Counted.{none-renews, renewed-one}
use Rattle.example_structures.proofs.Refused.{want-inside, want-none, when-err, when-ok}
use Rattle.example_structures.proofs.map.SharedMap.publish.Goals as goal

pub returns-clause-renewed : goal.returns-clause-renewed
returns-clause-renewed c =
    let x = c.args.m.now in
    let y = c.exchange.new.self in
    when-ok c.exchange.result _ (λ won. (y.place ≡ Inside) × Renews (if won then 1 else 0) x y) c.exchange.ensures.done
    (λ won s. (s.inside, renewed-one x y c.place_of-row.result.1 won (exchanged-told x y 20 c.place_of-row.result.1 21 24 won c.requires.told s.does)))

pub returns-clause-refused : goal.returns-clause-refused
returns-clause-refused c =
    let x = c.args.m.now in
    let y = c.exchange.new.self in
    let some = c.args.self.some in
    let chain = c.place_of-row.ensures.chain in
    let wide = c.requires.wide in
    when-err c.exchange.result _ (λ e. GivenUp e y × Renews 0 x y) c.exchange.ensures.refused
    (λ e r. ((want-inside x y e _ 20 c.requires.inside (omega arith, omega (arith, some.4, chain, wide), omega arith, omega arith) r).1, none-renews x y (want-none x y e _ 20 r)))
