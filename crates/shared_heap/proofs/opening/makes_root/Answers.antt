use Rattle.std.proofs.lemmas.Bool.{OnTrue_at, OnTrue_from}
use Rattle.gc_table.specs.Seats.{view_of}
use Rattle.shared_heap.proofs.Rooted.{makes-after, season-claimed}
use Rattle.shared_heap.proofs.Rooting.{first-cached}
use Rattle.shared_heap.proofs.opening.makes_root.Goals as goal

pub makes_in-requires-clause-turn : goal.makes_in-requires-clause-turn
makes_in-requires-clause-turn c =
    let e = c.in-Some.ensures in
    first-cached c.args.heap.now c.in-Some.cache c.args.seat.now c.claim.new.seat c.requires.turn c.requires.shared e.seat e.ran e.some

pub returns-in-Some-clause-makes : goal.returns-in-Some-clause-makes
returns-in-Some-clause-makes c =
    let e = c.in-Some.ensures in
    let u = view_of c.args.seat.now in
    let v = view_of c.claim.new.seat in
    let w = view_of c.makes_in.new.seat in
    OnTrue_from _ _ (λ is. makes-after u v w (season-claimed c.in-Some.cache u v e.ran e.some) (OnTrue_at is c.makes_in.ensures.makes))
