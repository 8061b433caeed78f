use Rattle.std.proofs.Common.{ap, sym, ◌∙◌, Some, true, false}
use Rattle.mark_core.specs.Seats.{saw}
use Rattle.mark_core.specs.Steps.WorldSteps.{has_nothing}
use Rattle.mark_core.specs.declared.kinds.Phase.TheVariants.{Full}
use Rattle.gc_table.specs.Seats.{view_of}
use Rattle.gc_cycle.proofs.Stops.OutAndIn.{free-to-leave}
use Rattle.gc_play.proofs.Rounds.{round-join, saw-other}
use Rattle.gc_play.proofs.Steps.{sees-seen, stays-join, stays-leave, stays-seen}
use Rattle.gc_play.proofs.tracers.visit.Goals as goal

pub leave-requires-clause-free : goal.leave-requires-clause-free
leave-requires-clause-free g c =
    let x = c.trace_if.new.seat in
    let t = c.trace_if.ensures.seat in
    free-to-leave (view_of x) (ap (λ sh. has_nothing sh (view_of x).state) t.sits.1 ∙ t.idle)

pub returns-in-Full-clause-stays : goal.returns-in-Full-clause-stays
returns-in-Full-clause-stays g c =
    let v = view_of c.args.seat.now in
    let w = view_of c.see_phase-phase.new.seat in
    let x = view_of c.trace_if.new.seat in
    let y = view_of c.leave.new.seat in
    let l = c.leave.ensures.step in
    stays-join v w y (stays-seen c.see_phase-phase.result v w c.see_phase-phase.ensures.sees) (stays-join w x y c.trace_if.ensures.stays (stays-leave x y l.0 l.1))

pub returns-in_default-clause-stays : goal.returns-in_default-clause-stays
returns-in_default-clause-stays g c =
    let v = view_of c.args.seat.now in
    let w = view_of c.see_phase-phase.new.seat in
    let x = view_of c.trace_if.new.seat in
    let y = view_of c.leave.new.seat in
    let l = c.leave.ensures.step in
    stays-join v w y (stays-seen c.see_phase-phase.result v w c.see_phase-phase.ensures.sees) (stays-join w x y c.trace_if.ensures.stays (stays-leave x y l.0 l.1))

pub returns-in-Full-clause-visit : goal.returns-in-Full-clause-visit
returns-in-Full-clause-visit g c =
    let k = c.see_phase-phase.result in
    let sees = c.see_phase-phase.ensures.sees in
    let t = c.trace_if.ensures in
    let v = view_of c.args.seat.now in
    let w = view_of c.see_phase-phase.new.seat in
    round-join c.args.heap.now.shape k true v w (view_of c.trace_if.new.seat) (view_of c.leave.new.seat) c.requires.seat.sits.1 (stays-seen k v w sees).ran t.stays.ran (sees-seen k v w sees) t.marking t.other c.leave.ensures.step
    (ap (λ q. saw (Some q) Full) (sym c.in-Full.is))

pub returns-in_default-clause-visit : goal.returns-in_default-clause-visit
returns-in_default-clause-visit g c =
    let k = c.see_phase-phase.result in
    let sees = c.see_phase-phase.ensures.sees in
    let t = c.trace_if.ensures in
    let v = view_of c.args.seat.now in
    let w = view_of c.see_phase-phase.new.seat in
    round-join c.args.heap.now.shape k false v w (view_of c.trace_if.new.seat) (view_of c.leave.new.seat) c.requires.seat.sits.1 (stays-seen k v w sees).ran t.stays.ran (sees-seen k v w sees) t.marking t.other c.leave.ensures.step
    (sym (saw-other k c.in_default.not-Full))
