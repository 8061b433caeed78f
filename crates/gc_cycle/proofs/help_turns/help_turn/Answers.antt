use Rattle.std.proofs.Common.{ℕ, arith, ap, ◌∙◌, ◌+◌, length, refl}
use Rattle.std.proofs.lemmas.Bool.{OnFalse_at, OnTrue_at}
use Rattle.mark_core.specs.declared.kinds.Step.TheVariants.{LeaveHelpStep}
use Rattle.gc_table.specs.Log.{all_steps, events}
use Rattle.gc_table.specs.Seats.{view_of}
use Rattle.gc_table.specs.declared.view.View.{View}
use Rattle.gc_table.proofs.History.Log.{events-after, only-after}
use Rattle.gc_table.proofs.Running.{ran-events, ran-join, ran-only}
use Rattle.gc_cycle.specs.Events.{never}
use Rattle.gc_cycle.specs.HelpTurns.{work_steps}
use Rattle.gc_cycle.specs.Sorts.{leaves}
use Rattle.gc_cycle.specs.Statistics.{leaves_numbers}
use Rattle.gc_cycle.proofs.Few.{few-join}
use Rattle.gc_cycle.proofs.SectionKept.{out-join}
use Rattle.gc_cycle.proofs.Stops.OutAndIn.{declines-out, is-done, joins-out, leaves-help}
use Rattle.gc_cycle.proofs.Stops.Waits.{stays-join}
use Rattle.gc_cycle.proofs.help_turns.help_turn.Goals as goal

pub leave_help-requires-clause-admitted : goal.leave_help-requires-clause-admitted
leave_help-requires-clause-admitted c = c.help_some-done.ensures.seat.1.admitted

pub leave_help-requires-clause-done : goal.leave_help-requires-clause-done
leave_help-requires-clause-done c = is-done (view_of c.help_some-done.new.seat) c.help_some-done.ensures.seat.1.rest

pub returns : goal.returns
returns c =
    let v : View = view_of c.args.seat.now in
    let w : View = view_of c.join_help.new.seat in
    let x : View = view_of c.help_some-done.new.seat in
    let y : View = view_of c.leave_help.new.seat in
    let g = c.join_help.ensures in
    let h = c.help_some-done.ensures in
    let q = c.leave_help.ensures in
    let in_ = OnTrue_at c.if-not-join_help.false g.joins in
    let j = joins-out v w g.ran in_ in
    let l = leaves-help x y h.seat.1.admitted h.seat.1.rest q.step in
    let later = ran-join w x y h.stays.out.ran q.ran in
    let work : ℕ = work_steps c.args.objects c.args.stretches c.args.heap.now.shape in
    let first = ap length in_.events in
    let last = ap length (events-after x y LeaveHelpStep q.step.0 q.step.1.0) in
    let end = few-join work 1 w x y h.stays.out.ran q.ran h.few (omega (arith, last)) in
    let all = few-join 2 (work + 1) v w y g.ran later (omega (arith, first)) end in
    record {
      seat = (q.seat, l.0);
      out = out-join v w y j.0 (out-join w x y h.stays.out l.1);
      own = l.2 ∙ (h.stays.own ∙ j.1);
      numbers =
          ran-only leaves_numbers v w y g.ran later (ap (all_steps leaves_numbers) in_.events)
          (ran-only leaves_numbers w x y h.stays.out.ran q.ran h.stays.numbers (only-after leaves_numbers x y LeaveHelpStep q.step.0 refl q.step.1.0));
      inside =
          ap (never leaves) (ran-events v w y g.ran later)
          ∙ stays-join (events v w) (events w y) (ap (never leaves) in_.events)
          (ap (never leaves) (ran-events w x y h.stays.out.ran q.ran)
          ∙ stays-join (events w x) (events x y) h.stays.inside (ap (never leaves) (events-after x y LeaveHelpStep q.step.0 q.step.1.0)));
      helped = record { joined = w; helped = x; enters = g.ran; let_in = in_; stays = h.stays; helps = h.helps; leaves = q.step };
      closed = tt;
      few = omega (arith, all);
    }

pub returns-then-not-join_help : goal.returns-then-not-join_help
returns-then-not-join_help c =
    let v : View = view_of c.args.seat.now in
    let w : View = view_of c.join_help.new.seat in
    let d = OnFalse_at c.if-not-join_help.true c.join_help.ensures.declines in
    let o = declines-out v w c.requires.seat.1 c.join_help.ensures.ran d in
    let long = ap length d.events in
    record {
      seat = (c.join_help.ensures.seat, o.0);
      out = o.1;
      own = o.2;
      numbers = ap (all_steps leaves_numbers) d.events;
      inside = ap (never leaves) d.events;
      helped = tt;
      closed = d;
      few = omega (arith, long);
    }
