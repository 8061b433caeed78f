use Rattle.std.proofs.Common.{◌≡◌, sym, subst, true}
use Rattle.std.specs.Prelude.{Some}
use Rattle.gc_script.specs.Shown.{execution_of}
use Rattle.gc_table.specs.Seats.{view_of}
use Rattle.mark_core.specs.Seats.{has_turn}
use Rattle.warehouse.proofs.Leavings.{waits-ran}
use Rattle.warehouse.proofs.Coming.{comes-going, comes-later, next-moved, own-turn}
use Rattle.warehouse.proofs.FullStops.{counted-kept}
use Rattle.warehouse.proofs.Others.{has-cache}
use Rattle.warehouse.proofs.commands.come_to.Goals as goal

pub is_ready-ready-requires-clause-owned : goal.is_ready-ready-requires-clause-owned
is_ready-ready-requires-clause-owned g c = c.requires.left.left.of.owned

pub is_ready-ready-requires-clause-turn : goal.is_ready-ready-requires-clause-turn
is_ready-ready-requires-clause-turn g c =
    let n = c.requires.left in
    subst (λ k. has_turn (view_of c.args.mutator.now.seat).state.section (Some k) ≡ true) (sym n.part.0) (own-turn c.args.section.now.number n.z _ n.part.1 n.left.of.own)

pub returns-then-may_begin : goal.returns-then-may_begin
returns-then-may_begin g c =
    let is = c.if-may_begin.true in
    let b = c.may_begin.ensures in
    comes-going c.args.heap.now c.args.section.now c.args.turn (execution_of c.args.command.now) c.args.mutator.now c.is_ready-ready.new.seat c.is_ready-ready.ensures.seat.0 c.requires.playing.counted c.requires.left
    c.args.cache.now (c.is_ready-ready.ensures.ready (b.ready is) c.args.cache.now c.requires.playing.cached) (b.free is)

pub come_late-requires : goal.come_late-requires
come_late-requires g c =
    let e = c.is_ready-ready.ensures in
    let m = c.args.mutator.now in
    let s = c.is_ready-ready.new.seat in
    record {
      playing =
          record {
            sits = e.seat.0;
            mutates = e.seat.1;
            cached = has-cache c.args.cache.now (view_of m.seat) (view_of s) e.cache c.requires.playing.cached;
            counted = counted-kept (view_of m.seat) (view_of s) e.stays.still.heap e.stays.made c.requires.playing.counted;
          };
      left = next-moved c.args.section.now c.args.turn (execution_of c.args.command.now) m s (waits-ran (view_of m.seat) (view_of s) e.waits) e.stays c.requires.left;
    }

pub returns : goal.returns
returns g c =
    let e = c.is_ready-ready.ensures in
    comes-later c.args.heap.now c.args.section.now c.args.turn (execution_of c.args.command.now) c.args.mutator.now c.is_ready-ready.new.seat c.come_late.new.mutator e.stays e.waits
    c.come_late.result c.come_late.new.cache c.come_late.ensures
