use Rattle.std.proofs.Common.{ap}
use Rattle.std.proofs.lemmas.Bool.{and_from}
use Rattle.mark_core.specs.Seats.{has_turn}
use Rattle.mark_core.specs.declared.seat.SeatState.{SeatState}
use Rattle.gc_table.specs.Seats.{view_of}
use Rattle.gc_table.specs.declared.view.SectionState.{SectionState}
use Rattle.seat_turns.proofs.Held.{flushed-few, flushed-turn, flushed-whole, flushed-works, flushes-full, flushes-leave}
use Rattle.seat_turns.proofs.flushing.flush_turn.Goals as goal

pub flush_roots-requires : goal.flush_roots-requires
flush_roots-requires c =
    let k = c.requires.holds in
    let s : SeatState = (view_of c.args.seat.now).state in
    record { seat = k.sits; turn = and_from s.active (has_turn s.section s.season_seen) k.mutates.active k.turn; few = k.few }

pub returns : goal.returns
returns c =
    let h = c.args.heap.now in
    let x = c.args.seat.now in
    let y = c.flush_roots.new.seat in
    let k = c.requires.holds in
    let e = c.flush_roots.ensures in
    let f = e.flushes in
    record {
      works = flushed-works h x y k e.seat f;
      whole = flushed-whole h x y k f;
      turn = λ phase. flushed-turn h x y k phase e.seat f;
      flushes = f;
      same = ap (λ (o : SectionState). o.meaning.heap) f.own;
      leaves = flushes-leave (view_of x) (view_of y) f;
      full = flushes-full (view_of x) (view_of y) f;
      few = flushed-few h x (view_of y) k f;
    }
