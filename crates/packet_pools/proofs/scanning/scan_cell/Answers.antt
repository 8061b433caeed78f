use Rattle.std.proofs.Common.{◌-◌, [], arith, ap, sym, subst, false}
use Rattle.std.proofs.Math.Nat.{mul-le-mul_right}
use Rattle.mark_core.specs.declared.kinds.Shape.{Shape}
use Rattle.packet_pools.specs.declared.search.Search.{Search}
use Rattle.packet_pools.specs.StepBounds.{follow_steps, room_left}
use Rattle.packet_pools.specs.Tried.{IsTried}
use Rattle.packet_pools.proofs.RoomLeft.{room-whole}
use Rattle.packet_pools.proofs.scanning.scan_cell.Goals as goal

pub returns-in-Some-clause-cause : goal.returns-in-Some-clause-cause
returns-in-Some-clause-cause c = c.scan_fields.ensures.tried.cause (λ p. false) [] (subst (λ (s : Search). IsTried c.args.heap.now.shape (λ p. false) s c.args.out.now []) (sym c.open.ensures) tt)

pub returns-in-Some-clause-few : goal.returns-in-Some-clause-few
returns-in-Some-clause-few c =
    let sh : Shape = c.args.heap.now.shape in
    let few = c.scan_fields.ensures.few in
    let most = room-whole sh c.args.out.now.length (let fits = c.requires.out.0.fits in let shape = ap (λ (s : Shape). s.entries) c.requires.seat.0.1 in omega (arith, fits, shape)) in
    let begun = ap (λ (s : Search). room_left sh s c.args.out.now.length) c.open.ensures in
    let fields = mul-le-mul_right {m = sh.fields - c.in-Some.next} {n = sh.fields} (follow_steps sh) (omega arith) in
    omega (arith, few, most, begun, fields)
