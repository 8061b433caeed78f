use Rattle.gc_table.specs.Seats.{view_of}
use Rattle.warehouse.proofs.Pacing.{ends-both}
use Rattle.warehouse.proofs.Turned.{resting-after}
use Rattle.warehouse.proofs.season.turn_season.Goals as goal

pub leave_stop-requires-clause-rest : goal.leave_stop-requires-clause-rest
leave_stop-requires-clause-rest g c = c.end_turn-played.ensures.ends.rest

pub leave_stop-requires-clause-unhelping : goal.leave_stop-requires-clause-unhelping
leave_stop-requires-clause-unhelping g c = c.end_turn-played.ensures.ends.unhelping

pub leave_stop-requires-clause-alone : goal.leave_stop-requires-clause-alone
leave_stop-requires-clause-alone g c = resting-after c.end_turn-played.result (view_of c.end_turn-played.new.seat) c.end_turn-played.ensures.ends.alone

pub returns-clause-keeps : goal.returns-clause-keeps
returns-clause-keeps g c = (c.end_turn-played.ensures.ends.ends (view_of c.leave_stop.new.seat) c.leave_stop.ensures.leaves).0

pub returns-clause-ends : goal.returns-clause-ends
returns-clause-ends g c = (c.end_turn-played.ensures.ends.ends (view_of c.leave_stop.new.seat) c.leave_stop.ensures.leaves).1

pub returns-clause-paces : goal.returns-clause-paces
returns-clause-paces g c = ends-both (view_of c.args.seat.now) (view_of c.end_turn-played.new.seat) (view_of c.leave_stop.new.seat) c.end_turn-played.ensures.paces c.leave_stop.ensures.paces
