use Rattle.std.proofs.Common.{false, sym, subst}
use Rattle.std.specs.Prelude.{IsTrue, ◌==◌}
use Rattle.mark_core.specs.Held.{holds_another}
use Rattle.gc_table.specs.declared.view.View.{View}
use Rattle.gc_table.specs.Seats.{view_of}
use Rattle.packet_pools.specs.Seeking.{output_pools}
use Rattle.packet_pools.specs.declared.held.Held.{Held}
use Rattle.gc_table.specs.Log.{events}
use Rattle.packet_pools.proofs.Exchanged.{known-held, another-held}
use Rattle.packet_pools.specs.StepBounds.{give_steps}
use Rattle.packet_pools.proofs.Few.{few-steps, given-few}
use Rattle.packet_pools.proofs.Counting.{given-moves}
use Rattle.packet_pools.proofs.TakenOne.{none-given}
use Rattle.packet_pools.proofs.room.change.Goals as goal

pub give-requires-clause-work : goal.give-requires-clause-work
give-requires-clause-work c =
    let v : View = view_of c.args.seat.now in
    let k : Held = c.args.other in
    let o = c.requires.other in
    λ _.
    subst (λ (h : Held). IsTrue (holds_another v.state.held h.packet)) (sym c.replace-full.ensures.value)
    (another-held v.state.held c.args.out.now.packet k.packet o.1 (known-held v.state.held k.packet k.length o.0.known))

pub returns-clause-moves : goal.returns-clause-moves
returns-clause-moves c = given-moves output_pools c.replace-full.result.packet (c.replace-full.result.length == 0) (events (view_of c.args.seat.now) (view_of c.give.new.seat)) c.give.ensures.steps

pub returns-clause-few : goal.returns-clause-few
returns-clause-few c = few-steps give_steps (view_of c.args.seat.now) (view_of c.give.new.seat) _ c.give.ensures.steps (given-few c.replace-full.result.packet false (c.replace-full.result.length == 0))

pub returns-clause-ungot : goal.returns-clause-ungot
returns-clause-ungot c = λ p. none-given p c.replace-full.result.packet (c.replace-full.result.length == 0) (events (view_of c.args.seat.now) (view_of c.give.new.seat)) c.give.ensures.steps
