use Rattle.std.proofs.Common.{sym, ◌∙◌, arith}
use Rattle.gc_table.specs.Seats.{view_of}
use Rattle.gc_cycle.proofs.Ends.Completing.{completes, drains-sweep, freed-in-all, rescanned-in-all}
use Rattle.gc_cycle.proofs.Stops.Opened.{together-opened}
use Rattle.gc_cycle.proofs.finishing.complete.Goals as goal

pub returns-clause-completes : goal.returns-clause-completes
returns-clause-completes g c =
    completes (view_of c.args.seat.now) (view_of c.drain_together.new.seat) (view_of c.drain_alone.new.seat) (view_of c.begin_sweep.new.seat) (view_of c.sweep_together-freed.new.seat) (view_of c.end_sweep.new.seat) (view_of c.settle.new.seat)
    c.drain_together.ensures.drains.part (together-opened (view_of c.args.seat.now) (view_of c.drain_together.new.seat) c.drain_together.ensures.drains) c.drain_alone.ensures.drains.part c.begin_sweep.ensures.moved c.sweep_together-freed.ensures.part c.sweep_together-freed.ensures.opened c.end_sweep.ensures.moved c.settle.ensures.part

pub returns-clause-freed : goal.returns-clause-freed
returns-clause-freed g c =
    let all = freed-in-all (view_of c.args.seat.now) (view_of c.drain_together.new.seat) (view_of c.drain_alone.new.seat) (view_of c.begin_sweep.new.seat) (view_of c.sweep_together-freed.new.seat) (view_of c.end_sweep.new.seat) (view_of c.settle.new.seat)
    c.drain_together.ensures.drains.part c.drain_alone.ensures.drains.part c.begin_sweep.ensures.moved c.sweep_together-freed.ensures.part c.end_sweep.ensures.moved c.settle.ensures.part in
    c.settle.ensures.counts.1 ∙ (sym c.sweep_together-freed.ensures.freed ∙ sym all)

pub returns-clause-rescanned : goal.returns-clause-rescanned
returns-clause-rescanned g c =
    let all = rescanned-in-all (view_of c.args.seat.now) (view_of c.drain_together.new.seat) (view_of c.drain_alone.new.seat) (view_of c.begin_sweep.new.seat) (view_of c.sweep_together-freed.new.seat) (view_of c.end_sweep.new.seat) (view_of c.settle.new.seat)
    c.drain_together.ensures.drains.part c.drain_alone.ensures.drains.part c.begin_sweep.ensures.moved c.sweep_together-freed.ensures.part c.end_sweep.ensures.moved c.settle.ensures.part in
    let r = c.settle.ensures.counts.0 in
    let first = c.saturating_add-together.ensures in
    let second = c.saturating_add-rescanned.ensures in
    let together = c.drain_together.ensures.rescanned in
    let alone = c.drain_alone.ensures.rescanned in
    omega (arith, all, r, first, second, together, alone)

pub returns-clause-drains : goal.returns-clause-drains
returns-clause-drains g c =
    let t = c.drain_together.ensures.drains in
    let a = c.drain_alone.ensures.drains in
    drains-sweep (view_of c.args.seat.now) (view_of c.drain_together.new.seat) (view_of c.drain_alone.new.seat) (view_of c.begin_sweep.new.seat) (view_of c.sweep_together-freed.new.seat) (view_of c.end_sweep.new.seat) (view_of c.settle.new.seat)
    t.part (together-opened (view_of c.args.seat.now) (view_of c.drain_together.new.seat) t) a.part c.begin_sweep.ensures.moved c.sweep_together-freed.ensures.part c.sweep_together-freed.ensures.opened c.end_sweep.ensures.moved c.settle.ensures.part t a c.sweep_together-freed.ensures.sweeps
