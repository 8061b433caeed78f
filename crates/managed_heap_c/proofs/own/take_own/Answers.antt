use Rattle.std.proofs.Common.{◌∙◌, ap, inl, inr, refl, subst, sym}
use Rattle.std.specs.Arc.{arc_value}
use Rattle.gc_table.specs.Seats.{view_of}
use Rattle.gc_table.specs.declared.seat.HeapSeat.{HeapSeat}
use Rattle.mutator_ops.specs.Few.{AtMost}
use Rattle.seat_steps.specs.Handing.{StopsFrom}
use Rattle.seat_steps.specs.Stepping.{heap_of_stepper}
use Rattle.seat_steps.specs.declared.stepper.Stepper.{Stepper}
use Rattle.managed_heap_c.specs.Own.{Refuses, StaysOut}
use Rattle.managed_heap_c.proofs.Given.{on-err, on-ok}
use Rattle.managed_heap_c.proofs.Made.{none-taken}
use Rattle.managed_heap_c.proofs.own.take_own.Goals as goal

pub returns-in-Ok-clause-back : goal.returns-in-Ok-clause-back
returns-in-Ok-clause-back c =
    let i = c.in-Ok.ensures in
    let m = i.ok in
    on-ok c.give_own.result (λ g. (c.in-Ok.mutator, m.0, i.few, i.stopped, m.1, m.2, m.3, i.stops, g)) c.give_own.ensures.back

pub returns-in-Ok-clause-refused : goal.returns-in-Ok-clause-refused
returns-in-Ok-clause-refused c =
    let s = c.args.stepper in
    let m = c.in-Ok.mutator in
    let w = c.args.world.now in
    let x = c.give_own.new.world in
    let i = c.in-Ok.ensures in
    let ok = i.ok in
    on-err (λ (t : Stepper). StaysOut m t w x) (λ (t : Stepper). Refuses s t w x) c.give_own.result
    (λ t a.
    record {
      same = a.0 ∙ ok.1;
      of_world = (a.1 ∙ ok.2, a.2 ∙ ok.3);
      mutators = a.3;
      rest = a.4;
      few = subst (λ (y : HeapSeat). AtMost 5 (view_of s.seat) (view_of y)) (sym (a.5 ok.0)) i.few;
      came = inr (record { outside = a.6; new = a.7; stops = a.8 ∙ i.stops; stopped = subst (λ (y : HeapSeat). StopsFrom s.stage (view_of s.seat) (view_of y)) (sym (a.5 ok.0)) i.stopped });
    })
    c.give_own.ensures.refused

pub returns-in-Err-clause-refused : goal.returns-in-Err-clause-refused
returns-in-Err-clause-refused c =
    let same = c.in-Err.ensures.err.1 in
    record {
      same = ap (λ (t : Stepper). heap_of_stepper t) same;
      of_world = (ap (λ (t : Stepper). arc_value t.heap) same, ap (λ (t : Stepper). t.name) same);
      mutators = refl;
      rest = (record { heap = refl; zero = refl; sizes_are = refl }, refl);
      few = none-taken 5 c.args.stepper c.in-Err.stepper same;
      came = inl same;
    }
