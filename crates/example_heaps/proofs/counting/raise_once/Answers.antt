use Rattle.std.specs.Prelude.{if◌then◌else◌}
use Rattle.shared_heap.proofs.Logs.{exchange-raises, value-quiet}
use Rattle.example_heaps.proofs.Joined.{none-quiet, raises-last}
use Rattle.example_heaps.proofs.counting.raise_once.Goals as goal

pub returns-in_default-clause-stopped : goal.returns-in_default-clause-stopped
returns-in_default-clause-stopped c = none-quiet c.in_default.field-0 0 c.args.m.now c.value.new.self c.in_default.ensures.refused

pub returns-in-Ok-exchange_value-clause-raised : goal.returns-in-Ok-exchange_value-clause-raised
returns-in-Ok-exchange_value-clause-raised c =
    let x = c.args.m.now in
    let y = c.value.new.self in
    let z = c.exchange_value.new.self in
    let won = c.in-Ok-exchange_value.won in
    raises-last x y z (if won then 1 else 0) (value-quiet _ x y 0 c.in-Ok.found c.in-Ok.ensures.value) (exchange-raises _ y z 0 c.in-Ok-try_from.expected c.in-Some.next won c.in-Some.ensures.1 c.in-Ok-exchange_value.ensures.done)
