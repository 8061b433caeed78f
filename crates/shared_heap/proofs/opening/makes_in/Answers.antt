use Rattle.std.proofs.Common.{◌<◌, ◌∙◌, Some, ap, sym, subst}
use Rattle.mark_core.specs.declared.seat.SeatState.{SeatState}
use Rattle.gc_cycle.proofs.Refills.Answered.{cached-still}
use Rattle.mark_core.specs.declared.kinds.Shape.{Shape}
use Rattle.gc_table.specs.Seats.{view_of}
use Rattle.shared_heap.proofs.Rooted.{makes-retired}
use Rattle.shared_heap.proofs.Rooting.{few-lag, rooted}
use Rattle.shared_heap.proofs.opening.makes_in.Goals as goal

pub returns-in-Some-clause-root : goal.returns-in-Some-clause-root
returns-in-Some-clause-root c =
    let e = c.retire.ensures in
    rooted c.args.heap.now c.args.cache c.in-Some.field-0 c.args.seat.now c.share_create.new.seat c.flush_roots.new.seat c.retire.new.seat c.requires.turn e.seat c.in-Some.ensures.creates.1 c.flush_roots.ensures.flushes e.ran e.state e.own

pub returns-in-Some-clause-makes : goal.returns-in-Some-clause-makes
returns-in-Some-clause-makes c =
    let e = c.retire.ensures in
    let made = c.in-Some.ensures.creates in
    let inside = subst (λ (sh : Shape). c.in-Some.field-0 < sh.cells) (sym c.requires.turn.sits.1) made.0 in
    makes-retired c.share_create.new.cache _ c.in-Some.field-0 (view_of c.args.seat.now) (view_of c.share_create.new.seat) (view_of c.flush_roots.new.seat) (view_of c.retire.new.seat) inside made.1 c.flush_roots.ensures.flushes e.ran e.steps

pub flush_roots-requires : goal.flush_roots-requires
flush_roots-requires c =
    let r = c.share_create.ensures.seat in
    record { seat = r.0; turn = r.1.stores.turn; few = few-lag c.args.heap.now c.args.cache c.in-Some.field-0 c.args.seat.now c.share_create.new.seat c.requires.turn c.in-Some.ensures.creates.1 }

pub retire-requires : goal.retire-requires
retire-requires c =
    let f = c.flush_roots.ensures in
    record {
      seat = f.seat;
      cache = cached-still (Some c.share_create.new.cache) (view_of c.share_create.new.seat) (view_of c.flush_roots.new.seat) (ap (λ (s : SeatState). s.cache) f.flushes.state) c.share_create.ensures.cache;
      owes = ap (λ (s : SeatState). s.owes) f.flushes.state ∙ c.share_create.ensures.seat.1.stores.owes;
    }
