use Rattle.std.proofs.Common.{ℕ, None, Option, List, [], ◌∷◌, ap, refl, ◌+◌, arith, false}
use Rattle.std.specs.Prelude.{◌==◌}
use Rattle.std.proofs.lemmas.Bool.{false≢true}
use Rattle.mark_core.specs.declared.seat.SeatState.{SeatState}
use Rattle.packet_pools.proofs.Counting.{given-moves}
use Rattle.packet_pools.proofs.TracedSteps.{traced-join}
use Rattle.tracer.specs.declared.packets.Packets.{Packets}
use Rattle.tracer.specs.Hands.{Carries, in_front, packet_of, packets_of}
use Rattle.tracer.proofs.Carried.{carries-give, carries-head, deferred-front, front-held, second-front}
use Rattle.tracer.proofs.Joined.{did-then}
use Rattle.tracer.proofs.Quiet.{did-moves}
use Rattle.gc_table.specs.declared.view.View.{View}
use Rattle.gc_table.specs.Seats.{view_of}
use Rattle.packet_pools.specs.Seeking.{output_pools}
use Rattle.packet_pools.specs.declared.held.Held.{Held}
use Rattle.gc_table.specs.Log.{events}
use Rattle.packet_pools.specs.StepBounds.{give_steps}
use Rattle.tracer.specs.StepBounds.{given_steps}
use Rattle.packet_pools.proofs.Few.{few-join, few-steps, given-few}
use Rattle.tracer.proofs.Few.{given-most}
use Rattle.tracer.proofs.tracing.finish.Goals as goal

pub give_some-requires-clause-held : goal.give_some-requires-clause-held
give_some-requires-clause-held c =
    let v : View = view_of c.args.seat.now in
    let x : Packets = c.args.packets in
    front-held x.deferred (x.input ∷ in_front x.output []) v (deferred-front x.input x.output x.deferred v c.requires.packets.0)

-- without the one that was being filled
without : (x : Packets) (v w : View) → ((hs : List Held) → Carries (in_front x.deferred hs) v → Carries hs w) → Carries (packets_of x) v → Carries (in_front x.output (x.input ∷ [])) w
without x v w give k = second-front x.input x.output [] w (give (x.input ∷ in_front x.output []) (deferred-front x.input x.output x.deferred v k))

pub give_some-requires-2-clause-held : goal.give_some-requires-2-clause-held
give_some-requires-2-clause-held c =
    let v : View = view_of c.args.seat.now in
    let w : View = view_of c.give_some.new.seat in
    let x : Packets = c.args.packets in
    front-held x.output (x.input ∷ []) w (without x v w c.give_some.ensures.packets c.requires.packets.0)

pub give-requires-clause-held : goal.give-requires-clause-held
give-requires-clause-held c =
    let v : View = view_of c.args.seat.now in
    let w : View = view_of c.give_some.new.seat in
    let y : View = view_of c.give_some-2.new.seat in
    let x : Packets = c.args.packets in
    carries-head x.input [] y (c.give_some-2.ensures.packets (x.input ∷ []) (without x v w c.give_some.ensures.packets c.requires.packets.0))

pub returns-clause-only : goal.returns-clause-only
returns-clause-only c =
    let v : View = view_of c.args.seat.now in
    let w : View = view_of c.give_some.new.seat in
    let y : View = view_of c.give_some-2.new.seat in
    let z : View = view_of c.give.new.seat in
    traced-join v w z c.give_some.ensures.only (traced-join w y z c.give_some-2.ensures.only c.give.ensures.only)

pub returns-clause-held : goal.returns-clause-held
returns-clause-held c =
    let v : View = view_of c.args.seat.now in
    let w : View = view_of c.give_some.new.seat in
    let y : View = view_of c.give_some-2.new.seat in
    let z : View = view_of c.give.new.seat in
    let x : Packets = c.args.packets in
    let all = c.give_some-2.ensures.packets (x.input ∷ []) (without x v w c.give_some.ensures.packets c.requires.packets.0) in
    (carries-give y z c.give.ensures.only.shape x.input [] (ap (λ (s : SeatState). s.held) c.give.ensures.state) all).held

pub returns-clause-part : goal.returns-clause-part
returns-clause-part c =
    let v : View = view_of c.args.seat.now in
    let w : View = view_of c.give_some.new.seat in
    let y : View = view_of c.give_some-2.new.seat in
    let z : View = view_of c.give.new.seat in
    let x : Packets = c.args.packets in
    let o : Option ℕ = packet_of x.deferred in
    let e = c.give_some.ensures in
    let f = c.give_some-2.ensures in
    let g = c.give.ensures in
    did-then o None None 0 0 0 0 0 0 0 0 0 v w z e.only (traced-join w y z f.only g.only) refl refl refl
    (e.part o (λ d. refl))
    (did-then None None None 0 0 0 0 0 0 0 0 0 w y z f.only g.only refl refl refl
    (f.part None (λ d. absurd (false≢true d)))
    (did-moves None y (events y z) (given-moves output_pools x.input.packet (x.input.length == 0) (events y z) g.steps)))

pub returns-clause-few : goal.returns-clause-few
returns-clause-few c =
    let v : View = view_of c.args.seat.now in
    let w : View = view_of c.give_some.new.seat in
    let y : View = view_of c.give_some-2.new.seat in
    let z : View = view_of c.give.new.seat in
    let x : Packets = c.args.packets in
    let e = c.give_some.ensures in
    let f = c.give_some-2.ensures in
    let g = c.give.ensures in
    let last = few-join (given_steps x.output) give_steps w y z f.only.ran g.only.ran f.few (few-steps give_steps y z _ g.steps (given-few x.input.packet false (x.input.length == 0))) in
    let all = few-join (given_steps x.deferred) (given_steps x.output + give_steps) v w z e.only.ran (traced-join w y z f.only g.only).ran e.few last in
    let one = given-most x.deferred in
    let two = given-most x.output in
    omega (arith, all, one, two)
