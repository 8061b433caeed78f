use Rattle.std.proofs.Common.{ap, ◌∙◌, inl, inr, refl, Bool, false, ◌||◌}
use Rattle.std.proofs.lemmas.Bool.{or_left}
use Rattle.mark_core.specs.Bits.{has_flag}
use Rattle.gc_table.specs.Seats.{view_of}
use Rattle.gc_table.specs.declared.view.View.{View}
use Rattle.packet_pools.specs.Seeking.{some_event}
use Rattle.packet_pools.proofs.Searches.{some-left}
use Rattle.gc_table.specs.Log.{events, all_steps}
use Rattle.gc_table.proofs.Running.{ran-events, ran-join, ran-only}
use Rattle.mark_core.specs.declared.kinds.Step.TheVariants.{LeaveHelpStep}
use Rattle.gc_table.proofs.History.Log.{events-after, only-after}
use Rattle.gc_cycle.specs.Events.{never}
use Rattle.gc_cycle.specs.Sorts.{joins, leaves, lets_in}
use Rattle.gc_cycle.proofs.Stops.Waits.{stays-join}
use Rattle.gc_cycle.proofs.SectionKept.{out-join}
use Rattle.gc_cycle.proofs.Stops.OutAndIn.{declines-out, is-done, joins-out, leaves-help}
use Rattle.gc_cycle.specs.Statistics.{leaves_numbers}
use Rattle.gc_cycle.proofs.stopping.help_once.Goals as goal

pub leave_help-requires-clause-admitted : goal.leave_help-requires-clause-admitted
leave_help-requires-clause-admitted c = c.help_joined.ensures.seat.1.admitted

pub leave_help-requires-clause-done : goal.leave_help-requires-clause-done
leave_help-requires-clause-done c = is-done (view_of c.help_joined.new.seat) c.help_joined.ensures.seat.1.rest

pub returns-then-join_help-clause-seat : goal.returns-then-join_help-clause-seat
returns-then-join_help-clause-seat c =
    let h = c.help_joined.ensures.seat.1 in
    (c.leave_help.ensures.seat, (leaves-help (view_of c.help_joined.new.seat) (view_of c.leave_help.new.seat) h.admitted h.rest c.leave_help.ensures.step).0)

pub returns-then-join_help-clause-out : goal.returns-then-join_help-clause-out
returns-then-join_help-clause-out c =
    let v : View = view_of c.args.seat.now in
    let w : View = view_of c.join_help.new.seat in
    let x : View = view_of c.help_joined.new.seat in
    let y : View = view_of c.leave_help.new.seat in
    let h = c.help_joined.ensures.seat.1 in
    let j = joins-out v w c.join_help.ensures.ran c.if-join_help.ensures.joins in
    let l = leaves-help x y h.admitted h.rest c.leave_help.ensures.step in
    out-join v w y j.0 (out-join w x y c.help_joined.ensures.out l.1)

pub returns-then-join_help-clause-own : goal.returns-then-join_help-clause-own
returns-then-join_help-clause-own c =
    let v : View = view_of c.args.seat.now in
    let w : View = view_of c.join_help.new.seat in
    let x : View = view_of c.help_joined.new.seat in
    let y : View = view_of c.leave_help.new.seat in
    let h = c.help_joined.ensures.seat.1 in
    let j = joins-out v w c.join_help.ensures.ran c.if-join_help.ensures.joins in
    let l = leaves-help x y h.admitted h.rest c.leave_help.ensures.step in
    l.2 ∙ (c.help_joined.ensures.own ∙ j.1)

pub returns-then-join_help-clause-offered : goal.returns-then-join_help-clause-offered
returns-then-join_help-clause-offered c =
    let v : View = view_of c.args.seat.now in
    let w : View = view_of c.join_help.new.seat in
    let x : View = view_of c.help_joined.new.seat in
    let y : View = view_of c.leave_help.new.seat in
    let j = joins-out v w c.join_help.ensures.ran c.if-join_help.ensures.joins in
    ap (some_event joins) (ran-events v w y c.join_help.ensures.ran (ran-join w x y c.help_joined.ensures.out.ran c.leave_help.ensures.ran))
    ∙ some-left joins (events v w) (events w y) j.2

pub returns-clause-seat : goal.returns-clause-seat
returns-clause-seat c = (c.join_help.ensures.seat, (declines-out (view_of c.args.seat.now) (view_of c.join_help.new.seat) c.requires.seat.1 c.join_help.ensures.ran c.if-join_help.ensures.declines).0)

pub returns-clause-out : goal.returns-clause-out
returns-clause-out c = (declines-out (view_of c.args.seat.now) (view_of c.join_help.new.seat) c.requires.seat.1 c.join_help.ensures.ran c.if-join_help.ensures.declines).1

pub returns-clause-own : goal.returns-clause-own
returns-clause-own c = (declines-out (view_of c.args.seat.now) (view_of c.join_help.new.seat) c.requires.seat.1 c.join_help.ensures.ran c.if-join_help.ensures.declines).2

pub returns-clause-offered : goal.returns-clause-offered
returns-clause-offered c = (declines-out (view_of c.args.seat.now) (view_of c.join_help.new.seat) c.requires.seat.1 c.join_help.ensures.ran c.if-join_help.ensures.declines).3

pub returns-then-join_help-clause-inside : goal.returns-then-join_help-clause-inside
returns-then-join_help-clause-inside c =
    let v : View = view_of c.args.seat.now in
    let w : View = view_of c.join_help.new.seat in
    let x : View = view_of c.help_joined.new.seat in
    let y : View = view_of c.leave_help.new.seat in
    let later = ran-join w x y c.help_joined.ensures.out.ran c.leave_help.ensures.ran in
    let t = c.leave_help.ensures.step in
    ap (never leaves) (ran-events v w y c.join_help.ensures.ran later)
    ∙ stays-join (events v w) (events w y) (ap (never leaves) c.if-join_help.ensures.joins.events)
    (ap (never leaves) (ran-events w x y c.help_joined.ensures.out.ran c.leave_help.ensures.ran)
    ∙ stays-join (events w x) (events x y) c.help_joined.ensures.inside (ap (never leaves) (events-after x y LeaveHelpStep t.0 t.1.0)))

pub returns-then-join_help-clause-helps : goal.returns-then-join_help-clause-helps
returns-then-join_help-clause-helps c =
    let v : View = view_of c.args.seat.now in
    let w : View = view_of c.join_help.new.seat in
    let x : View = view_of c.help_joined.new.seat in
    let y : View = view_of c.leave_help.new.seat in
    let h = c.help_joined.ensures in
    record {
      ran = ran-join v w y c.join_help.ensures.ran (ran-join w x y h.out.ran c.leave_help.ensures.ran);
      once = inr (record { joined = w; helped = x; enters = c.join_help.ensures.ran; let_in = c.if-join_help.ensures.joins; ran = h.out.ran; stays = h.stays; helps = h.helps; passes = h.passes; leaves = c.leave_help.ensures.step });
    }

pub returns-clause-helps : goal.returns-clause-helps
returns-clause-helps c = record { ran = c.join_help.ensures.ran; once = inl c.if-join_help.ensures.declines }

pub returns-then-join_help-clause-numbers : goal.returns-then-join_help-clause-numbers
returns-then-join_help-clause-numbers c =
    let v : View = view_of c.args.seat.now in
    let w : View = view_of c.join_help.new.seat in
    let x : View = view_of c.help_joined.new.seat in
    let y : View = view_of c.leave_help.new.seat in
    let h = c.help_joined.ensures in
    let t = c.leave_help.ensures.step in
    ran-only leaves_numbers v w y c.join_help.ensures.ran (ran-join w x y h.out.ran c.leave_help.ensures.ran) (ap (all_steps leaves_numbers) c.if-join_help.ensures.joins.events)
    (ran-only leaves_numbers w x y h.out.ran c.leave_help.ensures.ran h.numbers (only-after leaves_numbers x y LeaveHelpStep t.0 refl t.1.0))

pub returns-then-join_help-clause-let_in : goal.returns-then-join_help-clause-let_in
returns-then-join_help-clause-let_in c =
    let v : View = view_of c.args.seat.now in
    let w : View = view_of c.join_help.new.seat in
    let y : View = view_of c.leave_help.new.seat in
    let j = c.if-join_help.ensures.joins in
    ap (some_event lets_in) (ran-events v w y c.join_help.ensures.ran (ran-join w (view_of c.help_joined.new.seat) y c.help_joined.ensures.out.ran c.leave_help.ensures.ran))
    ∙ some-left lets_in (events v w) (events w y) (ap (some_event lets_in) j.events ∙ or_left (has_flag j.word) false j.flag)

pub returns-clause-let_in : goal.returns-clause-let_in
returns-clause-let_in c = let d = c.if-join_help.ensures.declines in ap (some_event lets_in) d.events ∙ ap (λ (b : Bool). b || false) d.closed

pub returns-clause-numbers : goal.returns-clause-numbers
returns-clause-numbers c = ap (all_steps leaves_numbers) c.if-join_help.ensures.declines.events
