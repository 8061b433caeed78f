use Rattle.std.proofs.Common.{inr, refl, ◌-◌, ◌*◌, arith}
use Rattle.gc_play.proofs.Catalogues.{may-move, starts-after, turned}
use Rattle.gc_play.proofs.season.begin_season.Goals as goal

pub next_turn-requires-clause-seat : goal.next_turn-requires-clause-seat
next_turn-requires-clause-seat g c κs within =
    let z = c.args.season - 1 in
    (may-move c.args.heap.now c.args.script.now.sections z (2 * z - 1) c.args.catalogue.now (omega (arith, c.if-season-gt1.true)) (omega (arith, c.requires.season.1)) (inr refl) c.requires.before).0

pub next_turn-requires-clause-turn : goal.next_turn-requires-clause-turn
next_turn-requires-clause-turn g c κs within =
    let z = c.args.season - 1 in
    (may-move c.args.heap.now c.args.script.now.sections z (2 * z - 1) c.args.catalogue.now (omega (arith, c.if-season-gt1.true)) (omega (arith, c.requires.season.1)) (inr refl) c.requires.before).1

pub returns-then-season-gt1 : goal.returns-then-season-gt1
returns-then-season-gt1 g c =
    let h = c.args.heap.now in
    let s = c.args.script.now.sections in
    let z = c.args.season - 1 in
    let d = c.next_turn.new.catalogue in
    let e = c.next_turn.ensures in
    starts-after c.next_turn.result h s c.args.season (2 * z - 1) d c.if-season-gt1.true (omega (arith, c.if-season-gt1.true)) (turned h s z c.next_turn.result (2 * z - 1) c.args.catalogue.now d e.leaves e.ends c.requires.before)
