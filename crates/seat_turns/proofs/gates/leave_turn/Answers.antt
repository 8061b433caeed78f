use Rattle.gc_table.specs.Seats.{view_of}
use Rattle.mutator_ops.proofs.Few.{at-most-join}
use Rattle.seat_turns.proofs.Leaving.{leaves-join}
use Rattle.seat_turns.proofs.gates.leave_turn.Goals as goal

pub returns-clause-leaves : goal.returns-clause-leaves
returns-clause-leaves c = leaves-join (view_of c.args.seat.now) (view_of c.retire_own_cache.new.seat) (view_of c.leave.new.seat) c.retire_own_cache.ensures.leaves c.leave.ensures.leaves

pub returns-clause-out : goal.returns-clause-out
returns-clause-out c = record { given = view_of c.retire_own_cache.new.seat; gives = c.retire_own_cache.ensures.gives; leaves = c.leave.ensures.out }

pub returns-clause-few : goal.returns-clause-few
returns-clause-few c =
    at-most-join 3 2 (view_of c.args.seat.now) (view_of c.retire_own_cache.new.seat) (view_of c.leave.new.seat) c.retire_own_cache.ensures.ran c.leave.ensures.ran c.retire_own_cache.ensures.few c.leave.ensures.few
