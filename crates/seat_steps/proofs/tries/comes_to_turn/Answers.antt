use Rattle.seat_turns.proofs.Leaving.{leaves-looked}
use Rattle.std.proofs.lemmas.Bool.{OnTrue_from}
use Rattle.gc_table.specs.Seats.{view_of}
use Rattle.seat_turns.proofs.Seats.{first-turn, looks-cached, looks-seen, looks-works, whole-cache, works-ready}
use Rattle.seat_turns.proofs.Held.{plays-holds}
use Rattle.seat_steps.proofs.tries.comes_to_turn.Goals as goal

pub returns-clause-plays : goal.returns-clause-plays
returns-clause-plays c =
    let h = c.args.heap.now in
    let y = c.args.seat.now in
    let z = c.is_turn.new.seat in
    let t = c.is_turn.ensures in
    let looked = looks-works h y z c.requires.going.1.0 t.seat t.looks in
    OnTrue_from c.is_turn.result _ (λ is. works-ready h z looked (looks-seen (view_of y) (view_of z) c.requires.going.1.2 t.looks) (first-turn (view_of z) looked.mutator (t.turn is)))

pub returns-clause-turn : goal.returns-clause-turn
returns-clause-turn c =
    let h = c.args.heap.now in
    let y = c.args.seat.now in
    let z = c.is_turn.new.seat in
    let t = c.is_turn.ensures in
    let looked = looks-works h y z c.requires.going.1.0 t.seat t.looks in
    let cache = whole-cache c.requires.going.0 (view_of z) (looks-cached c.requires.going.0 (view_of y) (view_of z) c.requires.going.1.1 t.looks) in
    OnTrue_from c.is_turn.result _
    (λ is. plays-holds h z (works-ready h z looked (looks-seen (view_of y) (view_of z) c.requires.going.1.2 t.looks) (first-turn (view_of z) looked.mutator (t.turn is))) cache)

pub returns-clause-leaves : goal.returns-clause-leaves
returns-clause-leaves c = leaves-looked (view_of c.args.seat.now) (view_of c.is_turn.new.seat) c.is_turn.ensures.looks

pub returns-clause-works : goal.returns-clause-works
returns-clause-works c = looks-works c.args.heap.now c.args.seat.now c.is_turn.new.seat c.requires.going.1.0 c.is_turn.ensures.seat c.is_turn.ensures.looks
