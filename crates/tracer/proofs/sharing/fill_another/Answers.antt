use Rattle.std.proofs.Common.{◌≡◌, None, Option, [], ◌∷◌, sym, ◌∙◌, subst, refl, arith}
use Rattle.std.specs.Prelude.{IsTrue}
use Rattle.std.proofs.lemmas.Bool.{false≢true}
use Rattle.packet_pools.specs.Gains.{Takes}
use Rattle.packet_pools.specs.Seeking.{only_moves, output_pools}
use Rattle.packet_pools.proofs.Doing.{if-none, if-some}
use Rattle.packet_pools.proofs.TracedSteps.{traced-join}
use Rattle.tracer.specs.declared.packets.Packets.{Packets}
use Rattle.tracer.specs.Hands.{Carries, in_front, packets_of}
use Rattle.tracer.proofs.Carried.{carries-free, packets-three, second-back, taken-either}
use Rattle.tracer.proofs.Joined.{did-then}
use Rattle.tracer.proofs.Moves.{either-way}
use Rattle.tracer.proofs.Quiet.{did-moves}
use Rattle.gc_table.specs.declared.view.View.{View}
use Rattle.gc_table.specs.Seats.{view_of}
use Rattle.packet_pools.specs.declared.held.Held.{Held}
use Rattle.gc_table.specs.Log.{events}
use Rattle.packet_pools.specs.StepBounds.{output_steps}
use Rattle.tracer.specs.StepBounds.{given_steps}
use Rattle.packet_pools.proofs.Few.{few-join}
use Rattle.tracer.proofs.Few.{given-nothing}
use Rattle.tracer.proofs.sharing.fill_another.Goals as goal

pub take_output-fresh-requires-clause-free : goal.take_output-fresh-requires-clause-free
take_output-fresh-requires-clause-free c = carries-free (packets_of c.args.packets.now) (view_of c.args.seat.now) (packets-three c.args.packets.now) c.requires.packets.0

pub returns-clause-only : goal.returns-clause-only
returns-clause-only c = traced-join (view_of c.args.seat.now) (view_of c.take_output-fresh.new.seat) (view_of c.give_some.new.seat) c.take_output-fresh.ensures.only c.give_some.ensures.only

pub returns-clause-packets : goal.returns-clause-packets
returns-clause-packets c =
    let v : View = view_of c.args.seat.now in
    let w : View = view_of c.take_output-fresh.new.seat in
    let y : View = view_of c.give_some.new.seat in
    let x : Packets = c.args.packets.now in
    let r : Option Held = c.take_output-fresh.result in
    let e = c.take_output-fresh.ensures in
    let without : Carries (x.input ∷ in_front x.deferred []) v = subst (λ o. Carries (x.input ∷ in_front o (in_front x.deferred [])) v) c.requires.packets.1 c.requires.packets.0 in
    let with : Carries (in_front r (x.input ∷ in_front x.deferred [])) w =
    taken-either output_pools r (x.input ∷ in_front x.deferred []) v w e.only.shape (carries-free (packets_of x) v (packets-three x) c.requires.packets.0) (if-some r _ (λ h. Takes output_pools h v w) (λ h t. t.0) e.some) (if-none r _ (w.state ≡ v.state) (λ n. n.0) e.none) without in
    let nothing : c.replace-nothing.result ≡ None = c.replace-nothing.ensures.value ∙ c.requires.packets.1 in
    let all : Carries (in_front r (x.input ∷ in_front x.deferred [])) y = c.give_some.ensures.packets (in_front r (x.input ∷ in_front x.deferred [])) (subst (λ n. Carries (in_front n (in_front r (x.input ∷ in_front x.deferred []))) w) (sym nothing) with) in
    (subst (λ o. Carries (x.input ∷ in_front o (in_front x.deferred [])) y) (sym c.replace-nothing.ensures.after) (second-back x.input r (in_front x.deferred []) y all), refl)

pub returns-clause-part : goal.returns-clause-part
returns-clause-part c =
    let v : View = view_of c.args.seat.now in
    let w : View = view_of c.take_output-fresh.new.seat in
    let y : View = view_of c.give_some.new.seat in
    let r : Option Held = c.take_output-fresh.result in
    let e = c.take_output-fresh.ensures in
    let g = c.give_some.ensures in
    λ o.
    did-then o o o 0 0 0 0 0 0 0 0 0 v w y e.only g.only refl refl refl
    (did-moves o v (events v w) (either-way r (IsTrue (only_moves output_pools (events v w))) (if-some r _ (λ h. IsTrue (only_moves output_pools (events v w))) (λ h t. t.0.moves) e.some) (if-none r _ (IsTrue (only_moves output_pools (events v w))) (λ n. n.2) e.none)))
    (g.part o (λ d. absurd (false≢true d)))

pub returns-clause-few : goal.returns-clause-few
returns-clause-few c =
    let e = c.take_output-fresh.ensures in
    let g = c.give_some.ensures in
    let nothing = given-nothing c.replace-nothing.result (c.replace-nothing.ensures.value ∙ c.requires.packets.1) in
    let all = few-join (output_steps c.args.heap.now.shape) (given_steps c.replace-nothing.result) (view_of c.args.seat.now) (view_of c.take_output-fresh.new.seat) (view_of c.give_some.new.seat) e.only.ran g.only.ran e.few g.few in
    omega (arith, all, nothing)
