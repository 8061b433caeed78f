use Rattle.std.proofs.Common.{refl, ap, ◌∙◌, ◌++◌, ◌∷◌}
use Rattle.mark_core.specs.declared.kinds.Step.TheVariants.{LeaveStep, StorePosition}
use Rattle.gc_table.specs.Log.{event, events, all_steps}
use Rattle.gc_table.proofs.History.Log.{events-after}
use Rattle.gc_table.proofs.Running.{ran-events, ran-stored}
use Rattle.gc_table.specs.Seats.{view_of}
use Rattle.gc_table.specs.declared.view.View.{View}
use Rattle.mark_core.specs.Steps.WorldSteps.{has_nothing}
use Rattle.gc_cycle.proofs.Stops.OutAndIn.{free-to-leave, left-out, may-position, mutator-nothing}
use Rattle.gc_cycle.specs.Statistics.{leaves_numbers}
use Rattle.gc_cycle.proofs.stopping.go_out.Goals as goal

pub store_position-requires-clause-may : goal.store_position-requires-clause-may
store_position-requires-clause-may c = may-position (view_of c.args.seat.now) c.args.done c.requires.seat.1.section c.requires.seat.1.active

pub leave-requires-clause-active : goal.leave-requires-clause-active
leave-requires-clause-active c = ap (λ (x : View). x.state.active) c.store_position.ensures.view ∙ c.requires.seat.1.active

pub leave-requires-clause-free : goal.leave-requires-clause-free
leave-requires-clause-free c =
    free-to-leave (view_of c.store_position.new.seat) (ap (λ (x : View). has_nothing x.shape x.state) c.store_position.ensures.view ∙ mutator-nothing (view_of c.args.seat.now) c.requires.seat.1 c.requires.cache)

pub returns-clause-seat : goal.returns-clause-seat
returns-clause-seat c = (c.leave.ensures.seat, (left-out (view_of c.args.seat.now) (view_of c.store_position.new.seat) (view_of c.leave.new.seat) c.args.done c.requires.seat.1 c.requires.cache c.store_position.ensures.view c.leave.ensures.step).0)

pub returns-clause-out : goal.returns-clause-out
returns-clause-out c = (left-out (view_of c.args.seat.now) (view_of c.store_position.new.seat) (view_of c.leave.new.seat) c.args.done c.requires.seat.1 c.requires.cache c.store_position.ensures.view c.leave.ensures.step).1

pub returns-clause-position : goal.returns-clause-position
returns-clause-position c = (left-out (view_of c.args.seat.now) (view_of c.store_position.new.seat) (view_of c.leave.new.seat) c.args.done c.requires.seat.1 c.requires.cache c.store_position.ensures.view c.leave.ensures.step).2

pub returns-clause-left : goal.returns-clause-left
returns-clause-left c =
    let u : View = view_of c.args.seat.now in
    let v : View = view_of c.store_position.new.seat in
    let w : View = view_of c.leave.new.seat in
    let s = c.store_position.ensures.view in
    let t = c.leave.ensures.step in
    (t.0, ran-events u v w (ran-stored u v (StorePosition c.args.done) refl s) c.leave.ensures.ran ∙ (ap (λ es. es ++ events v w) (events-after u v (StorePosition c.args.done) c.args.done s) ∙ ap (λ es. event (StorePosition c.args.done) c.args.done ∷ es) (events-after v w LeaveStep t.0 t.1.0)))

pub returns-clause-numbers : goal.returns-clause-numbers
returns-clause-numbers c = ap (all_steps leaves_numbers) (returns-clause-left c).1
