use Rattle.std.proofs.Common.{◌≡◌, Some, [], ◌∷◌, sym, ap, subst}
use Rattle.tracer.specs.declared.packets.Packets.{Packets}
use Rattle.tracer.specs.Hands.{Carries, in_front, packets_of}
use Rattle.tracer.proofs.Carried.{carries-front}
use Rattle.gc_table.specs.declared.view.View.{View}
use Rattle.gc_table.specs.Seats.{view_of}
use Rattle.packet_pools.specs.declared.held.Held.{Held}
use Rattle.tracer.proofs.finding.find_input.Goals as goal

-- the output is the input now
turned : (v : View) (x y : Packets) (o : Held) → x.output ≡ Some o → y ≡ record x { input = o; output = Some x.input } → Carries (packets_of x) v → Carries (packets_of y) v
turned v x y o is e c =
    subst (λ z. Carries (packets_of z) v) (sym e)
    (carries-front (x.input ∷ []) o (in_front x.deferred []) v (subst (λ r. Carries (x.input ∷ in_front r (in_front x.deferred [])) v) is c))

pub returns-then-turn_over-clause-packets : goal.returns-then-turn_over-clause-packets
returns-then-turn_over-clause-packets c =
    let v : View = view_of c.args.seat.now in
    let t = c.turn_over.ensures.turned c.if-turn_over.true in
    (turned v c.args.packets.now c.turn_over.new.packets t.0 t.1 t.3 c.requires.packets, ap (λ (x : Packets). x.deferred) t.3)
