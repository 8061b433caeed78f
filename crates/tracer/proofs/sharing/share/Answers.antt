use Rattle.std.proofs.Common.{◌≡◌, Some, [], ◌∷◌, sym, ◌∙◌, subst}
use Rattle.tracer.specs.declared.packets.Packets.{Packets}
use Rattle.tracer.specs.Hands.{Carries, in_front}
use Rattle.tracer.proofs.Carried.{second-front}
use Rattle.gc_table.specs.declared.view.View.{View}
use Rattle.gc_table.specs.Seats.{view_of}
use Rattle.packet_pools.specs.declared.held.Held.{Held}
use Rattle.tracer.proofs.sharing.share.Goals as goal

pub go_on-requires-clause-packets : goal.go_on-requires-clause-packets
go_on-requires-clause-packets c =
    let v : View = view_of c.args.seat.now in
    let x : Packets = c.args.packets.now in
    let h : Held = c.in-Some.output in
    let was : x.output ≡ Some h = sym c.replace.ensures.value ∙ c.in-Some.is in
    subst (λ o. Carries (h ∷ x.input ∷ in_front o (in_front x.deferred [])) v) (sym c.replace.ensures.after)
    (second-front x.input (Some h) (in_front x.deferred []) v (subst (λ o. Carries (x.input ∷ in_front o (in_front x.deferred [])) v) was c.requires.packets))
