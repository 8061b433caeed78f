use Rattle.std.proofs.Common.{sym, ◌∙◌}
use Rattle.gc_table.specs.Seats.{view_of}
use Rattle.gc_cycle.proofs.Ends.Starting.{idle-found, marking-found}
use Rattle.gc_cycle.proofs.finishing.finds_idle.Goals as goal

pub returns-in-Idle-clause-idle : goal.returns-in-Idle-clause-idle
returns-in-Idle-clause-idle c =
    let t = c.read_phase.ensures.view in
    idle-found (view_of c.args.seat.now) (view_of c.read_phase.new.seat) t.0 (t.1, t.2) c.requires.alone (sym t.3 ∙ c.in-Idle.is)

pub returns-in_default : goal.returns-in_default
returns-in_default c =
    let t = c.read_phase.ensures.view in
    record {
      seat = c.read_phase.ensures.seat;
      read = (t.0, (t.1, t.2));
      idle = tt;
      marking = marking-found (view_of c.args.seat.now) (view_of c.read_phase.new.seat) t.0 (t.1, t.2) c.requires.alone (λ e. c.in_default.not-Idle (t.3 ∙ e));
    }
