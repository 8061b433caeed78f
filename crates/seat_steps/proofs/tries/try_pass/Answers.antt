use Rattle.gc_table.specs.Seats.{view_of}
use Rattle.seat_steps.proofs.Found.{looks-by}
use Rattle.seat_steps.proofs.Paced.{carries-pass}
use Rattle.seat_steps.proofs.Searched.{tries-pass}
use Rattle.seat_steps.proofs.tries.try_pass.Goals as goal

pub returns-clause-paces : goal.returns-clause-paces
returns-clause-paces c =
    let e = c.try_safe_point.ensures in
    let p = c.try_safe_point.result in
    let handed = c.args.cache.now in
    let kept = c.try_safe_point.new.cache in
    let x = c.args.seat.now in
    let y = c.try_safe_point.new.seat in
    carries-pass p c.args.heap.now handed kept x y c.requires.cache (tries-pass p handed kept _ c.args.heap.now x y c.requires.works e.seat e.out e.passes) (looks-by p handed kept _ (view_of x) (view_of y) e.passes) e.out e.numbers
