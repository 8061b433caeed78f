use Rattle.std.proofs.Common.{refl}
use Rattle.std.proofs.KnownBytes.{Appends-nil}
use Rattle.play_report.proofs.Turns.{turn_ok, turn_err}
use Rattle.schedule_states.specs.Seats.{seat_text}
use Rattle.schedule_states.proofs.Words.{all_written, some_at}
use Rattle.schedule_states.proofs.state.write_seats.Goals as goal

pub loop-i-init : goal.loop-i-init
loop-i-init g c = (Appends-nil _, refl)

pub returns-in-None : goal.returns-in-None
returns-in-None g c = all_written seat_text c.args.state.now.seats c.loop-i.i _ _ _ _ c.in-None.ensures c.loop-i.invariant

pub returns-in-Err : goal.returns-in-Err
returns-in-Err g c =
    let at = some_at c.args.state.now.seats c.loop-i.i c.in-Some.seat.now c.in-Some.ensures in
    turn_err seat_text _ _ _ _ _ _ _ _ _ _ at.0 at.1 c.loop-i.invariant c.in-Err.ensures

pub loop-i-preserved : goal.loop-i-preserved
loop-i-preserved g c =
    let at = some_at c.args.state.now.seats c.loop-i.i c.in-Some.seat.now c.in-Some.ensures in
    turn_ok seat_text _ _ _ _ _ _ _ _ _ _ at.0 at.1 c.loop-i.invariant c.in-Ok.ensures
