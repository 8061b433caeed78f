use Rattle.std.proofs.Common.{◌≡◌, [], ◌∷◌, sym, ap, subst, false}
use Rattle.std.specs.Prelude.{◌==◌}
use Rattle.mark_core.specs.declared.seat.SeatState.{SeatState}
use Rattle.packet_pools.proofs.Counting.{given-moves}
use Rattle.tracer.specs.declared.packets.Packets.{Packets}
use Rattle.tracer.specs.Hands.{Carries, in_front}
use Rattle.tracer.proofs.Carried.{carries-front, carries-give, carries-head}
use Rattle.tracer.proofs.Quiet.{did-moves}
use Rattle.gc_table.specs.declared.view.View.{View}
use Rattle.gc_table.specs.Seats.{view_of}
use Rattle.packet_pools.specs.Seeking.{output_pools}
use Rattle.packet_pools.specs.declared.held.Held.{Held}
use Rattle.gc_table.specs.Log.{events}
use Rattle.packet_pools.specs.StepBounds.{give_steps}
use Rattle.packet_pools.proofs.Few.{few-steps, given-few}
use Rattle.tracer.proofs.packets.go_on.Goals as goal

-- the old input stands before the others
swapped : (n old : Held) (x : Packets) (v : View) → old ≡ x.input → Carries (n ∷ x.input ∷ in_front x.output (in_front x.deferred [])) v → Carries (old ∷ n ∷ in_front x.output (in_front x.deferred [])) v
swapped n old x v is k = subst (λ i. Carries (i ∷ n ∷ in_front x.output (in_front x.deferred [])) v) (sym is) (carries-front (n ∷ []) x.input (in_front x.output (in_front x.deferred [])) v k)

pub give-requires-clause-held : goal.give-requires-clause-held
give-requires-clause-held c =
    let v : View = view_of c.args.seat.now in
    let x : Packets = c.args.packets.now in
    carries-head c.replace-old.result (c.args.next ∷ in_front x.output (in_front x.deferred [])) v (swapped c.args.next c.replace-old.result x v c.replace-old.ensures.value c.requires.packets)

pub returns-clause-packets : goal.returns-clause-packets
returns-clause-packets c =
    let v : View = view_of c.args.seat.now in
    let w : View = view_of c.give.new.seat in
    let x : Packets = c.args.packets.now in
    let e = c.give.ensures in (
      subst (λ i. Carries (i ∷ in_front x.output (in_front x.deferred [])) w) (sym c.replace-old.ensures.after)
          (carries-give v w e.only.shape c.replace-old.result (c.args.next ∷ in_front x.output (in_front x.deferred [])) (ap (λ (s : SeatState). s.held) e.state) (swapped c.args.next c.replace-old.result x v c.replace-old.ensures.value c.requires.packets)),
      λ j. record x { input = c.replace-old.ensures.after j },
    )

pub returns-clause-part : goal.returns-clause-part
returns-clause-part c =
    let v : View = view_of c.args.seat.now in
    let w : View = view_of c.give.new.seat in
    let h : Held = c.replace-old.result in
    λ o. did-moves o v (events v w) (given-moves output_pools h.packet (h.length == 0) (events v w) c.give.ensures.steps)

pub returns-clause-few : goal.returns-clause-few
returns-clause-few c =
    let h : Held = c.replace-old.result in
    few-steps give_steps (view_of c.args.seat.now) (view_of c.give.new.seat) _ c.give.ensures.steps (given-few h.packet false (h.length == 0))
