use Rattle.std.proofs.Common.{◌≡◌, ◌≤◌, length, ap, arith}
use Rattle.plain_heap.specs.Sections.{Execution, joined, made_by}
use Rattle.std.proofs.Common.{List}
use Rattle.warehouse.proofs.Going.{made-most}
use Rattle.warehouse.proofs.mutator.Mutator.make.Goals as goal

pub returns-in-Ok-with_capacity-clause-room : goal.returns-in-Ok-with_capacity-clause-room
returns-in-Ok-with_capacity-clause-room c = λ none objects.
    let all : List Execution = joined c.args.section.now.parts in
    let most : made_by all ≤ length all = made-most all in
    let said : length c.in-Ok.said.items ≡ 0 = ap (λ xs. length xs) c.in-Ok.ensures.items in
    let places : length c.in-Ok-with_capacity.places.items ≡ 0 = ap (λ xs. length xs) c.in-Ok-with_capacity.ensures.items in
    record {
      said = omega (arith, said, c.in-Ok.ensures.capacity, c.printed.ensures);
      places = omega (arith, places, c.in-Ok-with_capacity.ensures.capacity, c.made.ensures);
      count = omega (arith, c.commands.ensures.few);
      made = omega (arith, none, most, objects, c.commands.ensures.few);
      dropped = omega arith;
    }
