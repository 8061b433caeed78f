use Rattle.gc_table.specs.Seats.{view_of}
use Rattle.mutator_ops.proofs.Upgraded.{upgraded-few, upgraded-ran, upgraded-state}
use Rattle.seat_turns.proofs.Held.{held-turn, holds-shares}
use Rattle.seat_turns.proofs.weak.upgrade_shared.Goals as goal

pub share_upgrade-requires-clause-seat : goal.share_upgrade-requires-clause-seat
share_upgrade-requires-clause-seat c = holds-shares c.args.heap.now c.args.seat.now c.requires.turn c.requires.shared

pub returns-clause-turn : goal.returns-clause-turn
returns-clause-turn c =
    let v = view_of c.args.seat.now in
    let w = view_of c.share_upgrade.new.seat in
    let e = c.share_upgrade.ensures in
    held-turn c.args.heap.now c.args.seat.now c.share_upgrade.new.seat c.args.v _ c.requires.turn e.seat (upgraded-ran _ _ _ c.share_upgrade.result v w e.upgrades) c.requires.range.0 (upgraded-state _ _ _ c.share_upgrade.result v w e.upgrades)

pub returns-clause-few : goal.returns-clause-few
returns-clause-few c = upgraded-few _ _ _ c.share_upgrade.result (view_of c.args.seat.now) (view_of c.share_upgrade.new.seat) c.share_upgrade.ensures.upgrades
