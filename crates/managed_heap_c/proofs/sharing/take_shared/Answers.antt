use Rattle.std.proofs.Common.{◌+◌, ◌∙◌, ap, inl, inr, refl, subst, sym}
use Rattle.std.specs.Arc.{arc_value}
use Rattle.gc_table.specs.Seats.{view_of}
use Rattle.gc_table.specs.declared.seat.HeapSeat.{HeapSeat}
use Rattle.mutator_ops.specs.Few.{AtMost}
use Rattle.seat_turns.specs.Sharing.{LeavesHeap}
use Rattle.seat_turns.specs.Standing.{flush_steps}
use Rattle.seat_turns.proofs.Leaving.{leaves-join, leaves-none}
use Rattle.seat_steps.specs.Handing.{StopsFrom}
use Rattle.seat_steps.specs.declared.stepper.Stepper.{Stepper}
use Rattle.managed_heap_c.specs.Sharing.{Refuses, StaysOut}
use Rattle.managed_heap_c.proofs.Given.{on-err, on-ok}
use Rattle.managed_heap_c.proofs.Made.{none-taken}
use Rattle.managed_heap_c.proofs.sharing.take_shared.Goals as goal

pub returns-in-Ok-clause-back : goal.returns-in-Ok-clause-back
returns-in-Ok-clause-back c = on-ok c.give_shared.result (λ g. (c.in-Ok.mutator, c.in-Ok.ensures.ok, g)) c.give_shared.ensures.back

pub returns-in-Ok-clause-refused : goal.returns-in-Ok-clause-refused
returns-in-Ok-clause-refused c =
    let s = c.args.stepper in
    let m = c.in-Ok.mutator in
    let w = c.args.world.now in
    let x = c.give_shared.new.world in
    let ok = c.in-Ok.ensures.ok in
    on-err (λ (t : Stepper). StaysOut m t w x) (λ (t : Stepper). Refuses s t w x) c.give_shared.result
    (λ t a. record { leaves = leaves-join (view_of s.seat) (view_of m.seat) (view_of t.seat) ok.leaves a.0; of_world = (a.1 ∙ ok.world, a.2 ∙ ok.name_is); mutators = a.3; rest = a.4; few = subst (λ (y : HeapSeat). AtMost (flush_steps (view_of s.seat) + 5) (view_of s.seat) (view_of y)) (sym (a.5 ok.outside)) ok.few; came = inr (record { outside = a.6; new = a.7; stops = a.8; stopped = subst (λ (y : HeapSeat). StopsFrom s.stage (view_of s.seat) (view_of y)) (sym (a.5 ok.outside)) ok.stopped }) })
    c.give_shared.ensures.refused

pub returns-in-Err-clause-refused : goal.returns-in-Err-clause-refused
returns-in-Err-clause-refused c =
    let s = c.args.stepper in
    let same = c.in-Err.ensures.err.1 in
    record {
      leaves = subst (λ (t : Stepper). LeavesHeap (view_of s.seat) (view_of t.seat)) (sym same) (leaves-none (view_of s.seat));
      of_world = (ap (λ (t : Stepper). arc_value t.heap) same, ap (λ (t : Stepper). t.name) same);
      mutators = refl;
      rest = (record { heap = refl; zero = refl; sizes_are = refl }, refl);
      few = none-taken (flush_steps (view_of s.seat) + 5) s c.in-Err.stepper same;
      came = inl same;
    }
