use Rattle.std.proofs.Common.{◌≡◌, true}
use Rattle.std.proofs.lemmas.Bool.{OnTrue_from}
use Rattle.gc_table.specs.Seats.{view_of}
use Rattle.seat_turns.proofs.Seats.{going-seen, looks-seen}
use Rattle.shared_heap.specs.Opening.{IsAtFirstTurn}
use Rattle.shared_heap.proofs.Rooted.{season-entered}
use Rattle.shared_heap.proofs.Rooting.{cache-looked, first-kept, first-looked, first-start, mutates-looked}
use Rattle.shared_heap.proofs.opening.goes_in.Goals as goal

pub returns-in-Going-clause-turn : goal.returns-in-Going-clause-turn
returns-in-Going-clause-turn c =
    let h = c.args.heap.now in
    let x = view_of c.args.seat.now in
    let y = view_of c.try_enter.new.seat in
    let z = view_of c.is_turn.new.seat in
    let e = c.in-Going.ensures in
    let t = c.is_turn.ensures in
    let first = first-kept _ x y (first-start h c.args.seat.now c.requires.new.0 c.requires.new.1) e.out.ran e.out.seat e.out.section in
    let done : c.is_turn.result ≡ true → IsAtFirstTurn h c.is_turn.new.seat =
    λ is.
    record {
      sits = t.seat;
      first = first-looked _ y z first t.looks;
      mutates = mutates-looked y z e.enters.1.mutates t.looks;
      cache = cache-looked y z e.enters.2 t.looks;
      seen = looks-seen y z (going-seen x y e.enters.1) t.looks;
      turn = t.turn is;
    } in
    OnTrue_from _ _ done

pub returns-in-Going-clause-comes : goal.returns-in-Going-clause-comes
returns-in-Going-clause-comes c =
    let e = c.in-Going.ensures in
    OnTrue_from _ _ (λ _. season-entered (view_of c.args.seat.now) (view_of c.try_enter.new.seat) (view_of c.is_turn.new.seat) e.out.ran e.spares c.is_turn.ensures.looks)
