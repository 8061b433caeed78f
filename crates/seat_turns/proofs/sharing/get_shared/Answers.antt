use Rattle.std.proofs.Common.{arith}
use Rattle.gc_table.specs.Seats.{view_of}
use Rattle.mutator_ops.proofs.Few.{at-most-events}
use Rattle.seat_turns.proofs.Held.{held-turn, holds-shares}
use Rattle.seat_turns.proofs.sharing.get_shared.Goals as goal

pub share_forget-requires-clause-seat : goal.share_forget-requires-clause-seat
share_forget-requires-clause-seat c = holds-shares c.args.heap.now c.args.seat.now c.requires.turn c.requires.shared

pub share_follow-requires-clause-seat : goal.share_follow-requires-clause-seat
share_follow-requires-clause-seat c = holds-shares c.args.heap.now c.args.seat.now c.requires.turn c.requires.shared

pub returns-then-word_of-eq0-clause-turn : goal.returns-then-word_of-eq0-clause-turn
returns-then-word_of-eq0-clause-turn c =
    let e = c.share_forget.ensures in held-turn c.args.heap.now c.args.seat.now c.share_forget.new.seat c.args.w _ c.requires.turn e.seat e.sets.ran c.requires.range.0 e.sets.state

pub returns-else-word_of-eq0-clause-turn : goal.returns-else-word_of-eq0-clause-turn
returns-else-word_of-eq0-clause-turn c =
    let e = c.share_follow.ensures in held-turn c.args.heap.now c.args.seat.now c.share_follow.new.seat c.args.w _ c.requires.turn e.seat e.follows.ran c.requires.range.0 e.follows.state

pub returns-then-word_of-eq0-clause-few : goal.returns-then-word_of-eq0-clause-few
returns-then-word_of-eq0-clause-few c = at-most-events 2 (view_of c.args.seat.now) (view_of c.share_forget.new.seat) _ c.share_forget.ensures.sets.events_are (omega arith)

pub returns-else-word_of-eq0-clause-few : goal.returns-else-word_of-eq0-clause-few
returns-else-word_of-eq0-clause-few c = at-most-events 2 (view_of c.args.seat.now) (view_of c.share_follow.new.seat) _ c.share_follow.ensures.follows.events_are (omega arith)
