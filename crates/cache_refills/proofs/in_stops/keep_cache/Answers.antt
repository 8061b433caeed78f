use Rattle.std.proofs.Common.{ap, inl, Some, subst}
use Rattle.std.specs.Prelude.{unwrap_or}
use Rattle.gc_table.specs.Seats.{view_of}
use Rattle.gc_table.specs.declared.view.View.{View}
use Rattle.gc_table.proofs.History.Log.{only-more}
use Rattle.gc_cycle.specs.Answering.{answers}
use Rattle.gc_cycle.specs.Mutating.{stays_calm}
use Rattle.gc_cycle.specs.Sparing.{spares_part}
use Rattle.gc_cycle.specs.Statistics.{GivesUp}
use Rattle.gc_cycle.proofs.Refills.Answered.{answers-calm, full-later}
use Rattle.gc_cycle.proofs.Refills.Collected.{calm-spares}
use Rattle.cache_refills.proofs.Stops.InStops.{keeps-fills}
use Rattle.cache_refills.proofs.in_stops.keep_cache.Goals as goal

pub spend_none-requires : goal.spend_none-requires
spend_none-requires c = c.if-not-goes_on.ensures.full.1

pub returns-then-not-goes_on-clause-numbers : goal.returns-then-not-goes_on-clause-numbers
returns-then-not-goes_on-clause-numbers c =
    (subst (λ kept. GivesUp (Some c.args.cache) kept (view_of c.args.seat.now) (view_of c.goes_on.new.seat)) c.if-not-goes_on.ensures.full.1 c.goes_on.ensures.numbers).changed

pub returns-then-not-goes_on-clause-known : goal.returns-then-not-goes_on-clause-known
returns-then-not-goes_on-clause-known c = c.if-not-goes_on.ensures.full.0.1

pub returns-then-not-goes_on-clause-fills : goal.returns-then-not-goes_on-clause-fills
returns-then-not-goes_on-clause-fills c = λ u k. full-later c.args.done u (view_of c.args.seat.now) (view_of c.goes_on.new.seat) k.ran c.goes_on.ensures.ran c.if-not-goes_on.ensures.full.0.0

pub returns-clause-numbers : goal.returns-clause-numbers
returns-clause-numbers c =
    let k = rw c.in-Some.is at c.if-not-goes_on.ensures.going in
    let n = rw c.in-Some.is at c.goes_on.ensures.numbers in
    (ap (λ o. unwrap_or o c.args.cache) k.same, inl n.changed)

pub returns-clause-known : goal.returns-clause-known
returns-clause-known c =
    let v : View = view_of c.args.seat.now in
    let w : View = view_of c.goes_on.new.seat in
    only-more stays_calm spares_part calm-spares v w (only-more answers stays_calm answers-calm v w c.goes_on.ensures.only)

pub returns-clause-fills : goal.returns-clause-fills
returns-clause-fills c =
    let k = rw c.in-Some.is at c.if-not-goes_on.ensures.going in
    λ u h. keeps-fills c.args.cache c.in-Some.kept c.args.done u (view_of c.args.seat.now) (view_of c.goes_on.new.seat) h k
