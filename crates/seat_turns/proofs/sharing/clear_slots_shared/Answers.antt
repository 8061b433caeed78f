use Rattle.std.proofs.Common.{arith}
use Rattle.gc_table.specs.Seats.{view_of}
use Rattle.seat_turns.proofs.Clearing.{clears-more, clears-none}
use Rattle.seat_turns.proofs.sharing.clear_slots_shared.Goals as goal

pub loop-k-init : goal.loop-k-init
loop-k-init c = record { turn = c.requires.turn; after = omega arith; takes = clears-none c.args.from (view_of c.args.seat.now) }

pub loop-k-preserved : goal.loop-k-preserved
loop-k-preserved c =
    let i = c.loop-k.invariant in
    record {
      turn = c.clear_slot.ensures.turn;
      after = omega (arith, i.after);
      takes = clears-more c.args.from c.loop-k.k (view_of c.args.seat.now) (view_of c.loop-k.seat) (view_of c.clear_slot.new.seat) i.after i.takes c.clear_slot.ensures.takes;
    }
