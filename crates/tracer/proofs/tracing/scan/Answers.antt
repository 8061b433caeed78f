use Rattle.std.proofs.Common.{◌≡◌, Some, [], ◌∷◌, ap, arith, subst, refl}
use Rattle.mark_core.specs.declared.kinds.Shape.{Shape}
use Rattle.packet_pools.specs.StepBounds.{room_left}
use Rattle.tracer.specs.StepBounds.{filled_in}
use Rattle.tracer.proofs.Searched.{searches-scan}
use Rattle.tracer.specs.declared.packets.Packets.{Packets}
use Rattle.tracer.specs.Hands.{Carries, in_front, packets_of}
use Rattle.tracer.proofs.Carried.{carries-back, carries-fill, carries-free, carries-front, carries-head, packets-three}
use Rattle.tracer.proofs.Quiet.{did-scan}
use Rattle.gc_table.specs.declared.view.View.{View}
use Rattle.gc_table.specs.Seats.{view_of}
use Rattle.packet_pools.specs.declared.held.Held.{Held}
use Rattle.gc_table.specs.Log.{events}
use Rattle.tracer.proofs.tracing.scan.Goals as goal

-- the output before the input
output-front : (x : Packets) (o : Held) (v : View) → x.output ≡ Some o → Carries (packets_of x) v → Carries (o ∷ x.input ∷ in_front x.deferred []) v
output-front x o v is c = carries-front (x.input ∷ []) o (in_front x.deferred []) v (subst (λ r. Carries (x.input ∷ in_front r (in_front x.deferred [])) v) is c)

pub scan_whole-requires-clause-out : goal.scan_whole-requires-clause-out
scan_whole-requires-clause-out c =
    let v : View = view_of c.args.seat.now in
    let x : Packets = c.args.packets.now in
    let k = output-front x c.in-Some.output v c.in-Some.is c.requires.packets in
    (carries-head c.in-Some.output (x.input ∷ in_front x.deferred []) v k, carries-free (packets_of x) v (packets-three x) c.requires.packets)

pub scan_whole-requires-in-None-clause-out : goal.scan_whole-requires-in-None-clause-out
scan_whole-requires-in-None-clause-out c =
    let v : View = view_of c.args.seat.now in
    let x : Packets = c.args.packets.now in
    (carries-head x.input (in_front x.output (in_front x.deferred [])) v c.requires.packets, carries-free (packets_of x) v (packets-three x) c.requires.packets)

pub returns-in-Some-clause-packets : goal.returns-in-Some-clause-packets
returns-in-Some-clause-packets c =
    let v : View = view_of c.args.seat.now in
    let w : View = view_of c.scan_whole.new.seat in
    let x : Packets = c.args.packets.now in
    let e = c.scan_whole.ensures in
    let k = output-front x c.in-Some.output v c.in-Some.is c.requires.packets in
    (carries-back (x.input ∷ []) c.scan_whole.new.out (in_front x.deferred []) w (carries-fill v w e.only.shape c.in-Some.output c.scan_whole.new.out (x.input ∷ in_front x.deferred []) e.pushes.packet k), refl)

pub returns-in-None-clause-packets : goal.returns-in-None-clause-packets
returns-in-None-clause-packets c =
    let v : View = view_of c.args.seat.now in
    let w : View = view_of c.scan_whole-in-None.new.seat in
    let x : Packets = c.args.packets.now in
    let e = c.scan_whole-in-None.ensures in
    (carries-fill v w e.only.shape x.input c.scan_whole-in-None.new.out (in_front x.output (in_front x.deferred [])) e.pushes.packet c.requires.packets, refl)

pub returns-in-Some-clause-part : goal.returns-in-Some-clause-part
returns-in-Some-clause-part c =
    let v : View = view_of c.args.seat.now in
    let w : View = view_of c.scan_whole.new.seat in
    let e = c.scan_whole.ensures in
    λ o. did-scan c.args.heap.now.shape o _ _ _ v (events v w) c.requires.hand.0.popped (e.only.cells refl) e.counts

pub returns-in-None-clause-part : goal.returns-in-None-clause-part
returns-in-None-clause-part c =
    let v : View = view_of c.args.seat.now in
    let w : View = view_of c.scan_whole-in-None.new.seat in
    let e = c.scan_whole-in-None.ensures in
    λ o. did-scan c.args.heap.now.shape o _ _ _ v (events v w) c.requires.hand.0.popped (e.only.cells refl) e.counts

pub returns-in-Some-clause-tried : goal.returns-in-Some-clause-tried
returns-in-Some-clause-tried c =
    let k = c.scan_whole.new in
    searches-scan c.args.heap.now.shape c.args.search.now k.search c.in-Some.output k.out (events (view_of c.args.seat.now) (view_of k.seat)) c.scan_whole.ensures.tried

pub returns-in-None-clause-tried : goal.returns-in-None-clause-tried
returns-in-None-clause-tried c =
    let k = c.scan_whole-in-None.new in
    searches-scan c.args.heap.now.shape c.args.search.now k.search c.args.packets.now.input k.out (events (view_of c.args.seat.now) (view_of k.seat)) c.scan_whole-in-None.ensures.tried

pub returns-in-Some-clause-few : goal.returns-in-Some-clause-few
returns-in-Some-clause-few c =
    let few = c.scan_whole.ensures.few in
    let was = ap (λ o. room_left c.args.heap.now.shape c.args.search.now (filled_in c.args.packets.now.input o)) c.in-Some.is in
    omega (arith, few, was)

pub returns-in-None-clause-few : goal.returns-in-None-clause-few
returns-in-None-clause-few c =
    let sh : Shape = c.args.heap.now.shape in
    let k = c.scan_whole-in-None.new in
    let few = c.scan_whole-in-None.ensures.few in
    let was = ap (λ o. room_left sh c.args.search.now (filled_in c.args.packets.now.input o)) c.in-None.is in
    let now = ap (λ o. room_left sh k.search (filled_in k.out o)) c.in-None.is in
    omega (arith, few, was, now)
