use Rattle.std.proofs.Common.{ℕ, ◌≡◌, ◌<◌, None, Option, false, [], sym, ap, ◌∙◌, subst, refl, arith}
use Rattle.std.specs.Prelude.{IfSome}
use Rattle.mark_core.specs.Seats.{is_the, work_in_hand}
use Rattle.mark_core.specs.declared.kinds.Shape.{Shape}
use Rattle.mark_core.specs.declared.seat.SeatState.{SeatState}
use Rattle.gc_table.specs.Seats.{view_of}
use Rattle.packet_pools.proofs.TracedSteps.{traced-join}
use Rattle.tracer.specs.declared.packets.Packets.{Packets}
use Rattle.tracer.specs.Hands.{in_front, packet_of}
use Rattle.tracer.specs.Parts.{HasPopped, Did}
use Rattle.tracer.proofs.Carried.{carries-set, input-apart}
use Rattle.tracer.proofs.Hand.{was-popped}
use Rattle.tracer.proofs.Joined.{did-then}
use Rattle.tracer.proofs.Moves.{sure-some}
use Rattle.tracer.proofs.OneStep.{did-pop}
use Rattle.gc_table.specs.declared.view.View.{View}
use Rattle.packet_pools.specs.declared.held.Held.{Held}
use Rattle.gc_table.specs.Log.{events}
use Rattle.tracer.specs.StepBounds.{find_steps}
use Rattle.packet_pools.proofs.Few.{few-after, few-join}
use Rattle.tracer.proofs.finding.next_cell.Goals as goal

pub returns-clause-only : goal.returns-clause-only
returns-clause-only c = traced-join (view_of c.args.seat.now) (view_of c.find_input.new.seat) (view_of c.pop.new.seat) c.find_input.ensures.only c.pop.ensures.only

pub returns-clause-packets : goal.returns-clause-packets
returns-clause-packets c =
    let w : View = view_of c.find_input.new.seat in
    let x : View = view_of c.pop.new.seat in
    let t : Packets = c.find_input.new.packets in
    let f = c.find_input.ensures in
    let p = c.pop.ensures in
    let some : 0 < t.input.length = f.some c.if-not-find_input.false in
    let s = sure-some c.pop.result _ _ p.popped p.empty (λ q. let z = q.0 in absurd (omega (arith, some, z))) in
    let e = s.2.2.1 in (
      carries-set w x p.only.shape t.input c.pop.new.held _ _ (in_front t.output (in_front t.deferred [])) (ap (λ (h : Held). h.packet) s.2.1) p.held (ap (λ (z : View). z.state.held) e) f.packets.0,
      f.packets.1,
    )

pub returns-clause-some : goal.returns-clause-some
returns-clause-some c =
    let v : View = view_of c.args.seat.now in
    let w : View = view_of c.find_input.new.seat in
    let x : View = view_of c.pop.new.seat in
    let t : Packets = c.find_input.new.packets in
    let o : Option ℕ = packet_of c.args.packets.now.deferred in
    let f = c.find_input.ensures in
    let p = c.pop.ensures in
    let some : 0 < t.input.length = f.some c.if-not-find_input.false in
    let s = sure-some c.pop.result _ _ p.popped p.empty (λ q. let z = q.0 in absurd (omega (arith, some, z))) in
    let block : w.state.block ≡ None = ap (λ (s : SeatState). s.block) f.only.rest ∙ c.requires.idle.1 in
    let idle : work_in_hand w.shape.fields w.state ≡ false = ap (λ (s : Shape). work_in_hand s.fields w.state) f.seat.0.1 ∙ f.work in
    subst (λ r. IfSome r (λ cell. HasPopped cell false x × Did o o 1 0 0 v (events v x))) (sym s.1) (
      was-popped w x t.input.packet s.0 _ idle block s.2.2.3 s.2.2.1,
      did-then o o o 0 1 0 0 0 0 1 0 0 v w x f.only p.only refl refl refl (f.part o) (did-pop o t.input.packet _ w x s.2.2.1 (ap (λ d. is_the (packet_of d) t.input.packet) (sym f.packets.1) ∙ input-apart t.input t.output t.deferred w f.packets.0)),
    )

pub returns-clause-few : goal.returns-clause-few
returns-clause-few c =
    let v : View = view_of c.args.seat.now in
    let w : View = view_of c.find_input.new.seat in
    let x : View = view_of c.pop.new.seat in
    let f = c.find_input.ensures in
    let p = c.pop.ensures in
    let some : 0 < c.find_input.new.packets.input.length = f.some c.if-not-find_input.false in
    let s = sure-some c.pop.result _ _ p.popped p.empty (λ q. let z = q.0 in absurd (omega (arith, some, z))) in
    few-join (find_steps c.args.heap.now.shape) 1 v w x f.only.ran p.only.ran f.few (few-after w x _ _ s.2.2.1)
