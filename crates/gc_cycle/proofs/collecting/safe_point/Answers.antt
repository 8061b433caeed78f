use Rattle.std.proofs.Common.{subst}
use Rattle.gc_table.specs.Seats.{view_of}
use Rattle.gc_cycle.specs.Statistics.{GivesUp}
use Rattle.gc_cycle.proofs.collecting.safe_point.Goals as goal

pub returns-then-pass_safe_point-clause-safe : goal.returns-then-pass_safe_point-clause-safe
returns-then-pass_safe_point-clause-safe g c = c.if-pass_safe_point.ensures.going

pub spend_none-requires : goal.spend_none-requires
spend_none-requires g c = c.if-pass_safe_point.ensures.full.2

pub returns-clause-safe : goal.returns-clause-safe
returns-clause-safe g c = c.if-pass_safe_point.ensures.full.0

pub returns-clause-known : goal.returns-clause-known
returns-clause-known g c = c.if-pass_safe_point.ensures.full.1

pub returns-then-pass_safe_point-clause-numbers : goal.returns-then-pass_safe_point-clause-numbers
returns-then-pass_safe_point-clause-numbers g c = c.pass_safe_point.ensures.numbers

pub returns-clause-numbers : goal.returns-clause-numbers
returns-clause-numbers g c =
    subst (λ o. GivesUp c.args.cache o (view_of c.args.seat.now) (view_of c.pass_safe_point.new.seat)) c.if-pass_safe_point.ensures.full.2 c.pass_safe_point.ensures.numbers
