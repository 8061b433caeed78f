use Rattle.gc_table.specs.Seats.{view_of}
use Rattle.gc_table.specs.declared.view.View.{View}
use Rattle.mark_core.specs.Steps.MutatorSteps.{used_bits}
use Rattle.gc_cycle.proofs.Refills.Retired.{retired-only}
use Rattle.std.proofs.Common.{◌≡◌, sym, subst, None, Some}
use Rattle.gc_table.specs.Log.{events, steps_of}
use Rattle.gc_cycle.specs.Answering.{giving_up}
use Rattle.gc_cycle.proofs.Few.{few-steps, giving-few}
use Rattle.alloc_cache.specs.declared.cache.Cache.{Cache}
use Rattle.gc_cycle.proofs.Changes.{retire-up}
use Rattle.gc_cycle.specs.Statistics.{GivesUp}
use Rattle.gc_cycle.proofs.collecting.retire_some.Goals as goal

pub returns-in-Some-clause-only : goal.returns-in-Some-clause-only
returns-in-Some-clause-only c =
    let v : View = view_of c.args.seat.now in
    retired-only v (view_of c.retire.new.seat) c.in-Some.cache (used_bits v.state.cache) c.retire.ensures.steps

pub returns-in-Some-clause-numbers : goal.returns-in-Some-clause-numbers
returns-in-Some-clause-numbers c =
    let v : View = view_of c.args.seat.now in
    let w : View = view_of c.retire.new.seat in
    let e = c.retire.ensures in
    let h : Cache = c.in-Some.cache in
    subst (λ o. GivesUp o None v w) (sym c.in-Some.is) (retire-up h (used_bits v.state.cache) v w e.ran e.steps)

pub returns-in-Some-clause-steps : goal.returns-in-Some-clause-steps
returns-in-Some-clause-steps c =
    let v : View = view_of c.args.seat.now in
    let w : View = view_of c.retire.new.seat in
    subst (λ o. steps_of (events v w) ≡ giving_up o (used_bits v.state.cache)) (sym c.in-Some.is) c.retire.ensures.steps

pub returns-in-Some-clause-few : goal.returns-in-Some-clause-few
returns-in-Some-clause-few c =
    let v : View = view_of c.args.seat.now in
    let used = used_bits v.state.cache in
    few-steps 3 v (view_of c.retire.new.seat) (giving_up (Some c.in-Some.cache) used) c.retire.ensures.steps (giving-few (Some c.in-Some.cache) used)
