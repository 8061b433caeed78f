use Rattle.std.proofs.Common.{ap, inr}
use Rattle.mark_core.specs.declared.kinds.Phase.TheVariants.{Drain}
use Rattle.mark_core.specs.declared.seat.SeatState.{SeatState}
use Rattle.gc_table.specs.Seats.{view_of}
use Rattle.gc_table.proofs.History.Log.{only-more}
use Rattle.gc_cycle.specs.Lower.{traces_or_cleans}
use Rattle.gc_cycle.specs.Statistics.{leaves_numbers}
use Rattle.gc_cycle.proofs.Leaving.{traces-leave}
use Rattle.gc_cycle.proofs.OpenSteps.{exact-run, open-keeps, shared-on}
use Rattle.gc_cycle.proofs.Traced.{traced-open}
use Rattle.gc_cycle.proofs.shared_steps.trace_shared.Goals as goal

pub trace_some-requires-clause-drains : goal.trace_some-requires-clause-drains
trace_some-requires-clause-drains c = inr c.requires.drains.opened

pub returns-clause-part : goal.returns-clause-part
returns-clause-part c = traced-open (view_of c.args.seat.now) (view_of c.trace_some.new.seat) c.requires.drains.opened c.trace_some.ensures.traced

pub returns-clause-drains : goal.returns-clause-drains
unfolding returns-clause-part
returns-clause-drains c = shared-on Drain (view_of c.args.seat.now) (view_of c.trace_some.new.seat) c.requires.drains (returns-clause-part c)

pub returns-clause-exact : goal.returns-clause-exact
returns-clause-exact c u k =
    let t = c.trace_some.ensures.traced in
    exact-run u (view_of c.args.seat.now) (view_of c.trace_some.new.seat) t.ran (ap (λ (s : SeatState). s.exact) t.record_is) k

pub returns-clause-numbers : goal.returns-clause-numbers
returns-clause-numbers c = only-more traces_or_cleans leaves_numbers traces-leave (view_of c.args.seat.now) (view_of c.trace_some.new.seat) c.trace_some.ensures.traced.only

pub returns-clause-keeps : goal.returns-clause-keeps
unfolding returns-clause-part
returns-clause-keeps c = open-keeps Drain (view_of c.args.seat.now) (view_of c.trace_some.new.seat) (returns-clause-part c)
