use Rattle.std.proofs.Common.{◌∙◌, refl, sym}
use Rattle.gc_table.specs.Seats.{view_of}
use Rattle.mark_core.specs.declared.kinds.Phase.TheVariants.{Full, Idle, Marking}
use Rattle.warehouse.proofs.Pacing.{ends-both, ends-cycle, read-paces}
use Rattle.warehouse.proofs.Stopping.{ends-after, finishes-unhelped}
use Rattle.warehouse.proofs.InTheStop.{idle-left, ends-read, read-alone, read-phase, read-rest}
use Rattle.warehouse.proofs.season.end_cycle.Goals as goal

pub returns-in-Full : goal.returns-in-Full
returns-in-Full g c =
    let r = c.read_phase.ensures.view in
    let v = view_of c.args.seat.now in
    let w = view_of c.read_phase.new.seat in
    let is = sym r.3 ∙ c.in-Full.is in
    record {
      seat = c.read_phase.ensures.seat;
      ends = ends-read r.0 v w c.requires.stopped c.requires.rest (r.1, r.2) _ Full is refl;
      alone = read-alone r.0 v w c.requires.stopped c.requires.rest (r.1, r.2) Full is;
      paces = read-paces r.0 v w (r.1, r.2);
    }

pub finish_cycle-requires-clause-alone : goal.finish_cycle-requires-clause-alone
finish_cycle-requires-clause-alone g c =
    let r = c.read_phase.ensures.view in
    let v = view_of c.args.seat.now in
    let w = view_of c.read_phase.new.seat in
    let is = sym r.3 ∙ c.in-Marking.is in
    let a = read-alone r.0 v w c.requires.stopped c.requires.rest (r.1, r.2) Marking is in
    record { rest = record { knows = a.knows; alone = a.alone; rest = read-rest r.0 v w c.requires.stopped c.requires.rest (r.1, r.2) }; alone = a }

pub returns-in-Marking-clause-ends : goal.returns-in-Marking-clause-ends
returns-in-Marking-clause-ends g c =
    let r = c.read_phase.ensures.view in
    let v = view_of c.args.seat.now in
    let w = view_of c.read_phase.new.seat in
    let x = view_of c.finish_cycle.new.seat in
    let f = c.finish_cycle.ensures.ends in
    ends-after v w x (ends-read r.0 v w c.requires.stopped c.requires.rest (r.1, r.2) _ Marking (sym r.3 ∙ c.in-Marking.is) refl) f.ran f.spares f.idle.rest f.calm f.going f.position (finishes-unhelped w x f.ran f.only)

pub returns-in-Marking-clause-paces : goal.returns-in-Marking-clause-paces
returns-in-Marking-clause-paces g c =
    let r = c.read_phase.ensures.view in
    let v = view_of c.args.seat.now in
    let w = view_of c.read_phase.new.seat in
    let x = view_of c.finish_cycle.new.seat in
    let f = c.finish_cycle.ensures.ends in
    ends-both v w x (read-paces r.0 v w (r.1, r.2)) (ends-cycle w x f)

pub returns-in_default : goal.returns-in_default
returns-in_default g c =
    let r = c.read_phase.ensures.view in
    let v = view_of c.args.seat.now in
    let w = view_of c.read_phase.new.seat in
    let there = read-phase r.0 v w c.requires.stopped c.requires.rest (r.1, r.2) in
    let is = there ∙ idle-left c.requires.stopped.phase c.requires.stopped.left (λ e. c.in_default.not-Full (r.3 ∙ (there ∙ e))) (λ e. c.in_default.not-Marking (r.3 ∙ (there ∙ e))) in
    record {
      seat = c.read_phase.ensures.seat;
      ends = ends-read r.0 v w c.requires.stopped c.requires.rest (r.1, r.2) _ Idle is refl;
      alone = read-alone r.0 v w c.requires.stopped c.requires.rest (r.1, r.2) Idle is;
      paces = read-paces r.0 v w (r.1, r.2);
    }
