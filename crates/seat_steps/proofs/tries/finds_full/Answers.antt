use Rattle.std.proofs.Common.{◌∙◌, Some, ap, false, sym}
use Rattle.std.proofs.lemmas.Bool.{or_left}
use Rattle.mark_core.specs.Seats.{saw}
use Rattle.mark_core.specs.declared.kinds.Phase.{Phase}
use Rattle.mark_core.specs.declared.kinds.Phase.TheVariants.{Full}
use Rattle.mark_core.specs.declared.kinds.Step.TheVariants.{ReadPhase}
use Rattle.gc_table.specs.Seats.{view_of}
use Rattle.gc_table.proofs.History.Log.{events-after}
use Rattle.gc_cycle.specs.Polling.{saw_full}
use Rattle.seat_steps.proofs.AtTurn.{holds-read, phase-saw}
use Rattle.seat_steps.proofs.tries.finds_full.Goals as goal

pub read_phase-requires-clause-seat : goal.read_phase-requires-clause-seat
read_phase-requires-clause-seat c = c.requires.holds.sits

pub returns-in-Full : goal.returns-in-Full
returns-in-Full c =
    let t = c.read_phase.ensures.view in
    let is = sym t.3 ∙ c.in-Full.is in
    record {
      holds = holds-read c.args.heap.now c.args.seat.now c.read_phase.new.seat c.requires.holds c.read_phase.ensures.seat t.0 t.1;
      read = (t.0, (t.1, t.2));
      full = ap saw_full (events-after (view_of c.args.seat.now) (view_of c.read_phase.new.seat) ReadPhase t.0 t.1) ∙ or_left _ false (ap (λ (p : Phase). saw (Some p) Full) is);
      going = tt;
    }

pub returns-in_default : goal.returns-in_default
returns-in_default c =
    let t = c.read_phase.ensures.view in
    record {
      holds = holds-read c.args.heap.now c.args.seat.now c.read_phase.new.seat c.requires.holds c.read_phase.ensures.seat t.0 t.1;
      read = (t.0, (t.1, t.2));
      full = tt;
      going = phase-saw c.args.heap.now c.args.seat.now c.read_phase.new.seat c.requires.holds c.read_phase.ensures.seat t.0 c.read_phase.result t.1 t.3 c.in_default.not-Full;
    }
