use Rattle.gc_table.specs.Seats.{view_of}
use Rattle.warehouse.proofs.Pacing.{ends-both, turned-paces}
use Rattle.warehouse.proofs.Turned.{asked-turn, ends-done, ends-full, may-turn}
use Rattle.warehouse.proofs.season.end_turn.Goals as goal

pub returns-then-end_cycle-clause-ends : goal.returns-then-end_cycle-clause-ends
returns-then-end_cycle-clause-ends g c =
    ends-full (view_of c.args.seat.now) (view_of c.stop_at_last.new.seat) (view_of c.end_cycle.new.seat) c.requires.turn c.stop_at_last.ensures.stops c.if-end_cycle.ensures.ends c.if-end_cycle.ensures.alone

pub next_season-requires-clause-may : goal.next_season-requires-clause-may
next_season-requires-clause-may g c =
    may-turn (view_of c.args.seat.now) (view_of c.stop_at_last.new.seat) (view_of c.end_cycle.new.seat) c.requires.turn c.stop_at_last.ensures.stops _ c.if-end_cycle.ensures.ends c.if-end_cycle.ensures.alone

pub next_season-requires-clause-asked : goal.next_season-requires-clause-asked
next_season-requires-clause-asked g c =
    asked-turn (view_of c.args.seat.now) (view_of c.stop_at_last.new.seat) (view_of c.end_cycle.new.seat) c.requires.turn c.stop_at_last.ensures.stops _ c.if-end_cycle.ensures.ends

pub returns-clause-ends : goal.returns-clause-ends
returns-clause-ends g c =
    ends-done (view_of c.args.seat.now) (view_of c.stop_at_last.new.seat) (view_of c.end_cycle.new.seat) c.requires.turn c.stop_at_last.ensures.stops (view_of c.next_season.new.seat) c.if-end_cycle.ensures.ends c.next_season.ensures.view
    c.if-end_cycle.ensures.alone

pub returns-then-end_cycle-clause-paces : goal.returns-then-end_cycle-clause-paces
returns-then-end_cycle-clause-paces g c = ends-both (view_of c.args.seat.now) (view_of c.stop_at_last.new.seat) (view_of c.end_cycle.new.seat) c.stop_at_last.ensures.paces c.end_cycle.ensures.paces

pub returns-clause-paces : goal.returns-clause-paces
returns-clause-paces g c =
    let u = view_of c.args.seat.now in
    let v = view_of c.stop_at_last.new.seat in
    let w = view_of c.end_cycle.new.seat in
    let x = view_of c.next_season.new.seat in
    ends-both u w x (ends-both u v w c.stop_at_last.ensures.paces c.end_cycle.ensures.paces) (turned-paces w x c.next_season.ensures.view)
