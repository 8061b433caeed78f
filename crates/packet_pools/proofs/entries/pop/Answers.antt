use Rattle.std.proofs.Common.{ℕ, ◌<◌, sym, ap, subst, arith}
use Rattle.std.specs.Prelude.{IsFalse}
use Rattle.mark_core.specs.Seats.{work_in_hand}
use Rattle.mark_core.specs.declared.kinds.Shape.{Shape}
use Rattle.gc_table.specs.declared.view.View.{View}
use Rattle.gc_table.specs.Seats.{view_of}
use Rattle.packet_pools.proofs.Conditions.{may-pop}
use Rattle.packet_pools.proofs.Exchanged.{known-held, known-entry, known-length, idle-popped}
use Rattle.packet_pools.proofs.Doing.{traced-pop, traces-on, held-less}
use Rattle.packet_pools.proofs.entries.pop.Goals as goal

pub pop_at-cell-requires-clause-may : goal.pop_at-cell-requires-clause-may
pop_at-cell-requires-clause-may c =
    let v : View = view_of c.args.seat.now in
    let h = c.requires.held in
    let p : ℕ = c.args.held.now.packet in
    let n : ℕ = c.args.held.now.length in
    let some : 0 < n = let d = c.if-held-eq0.false in omega (arith, d) in
    may-pop v p c.requires.seat.1.may h.there (known-held v.state.held p n h.known) (known-entry v.state.held p n h.known some) (subst (λ (s : Shape). IsFalse (work_in_hand s.fields v.state)) (sym c.requires.seat.0.1) c.requires.work)

pub pop_at-cell-requires-clause-known : goal.pop_at-cell-requires-clause-known
pop_at-cell-requires-clause-known c = sym (known-length (view_of c.args.seat.now).state.held c.args.held.now.packet c.args.held.now.length c.requires.held.known)

pub returns-clause-seat : goal.returns-clause-seat
returns-clause-seat c =
    let v : View = view_of c.args.seat.now in
    let w : View = view_of c.pop_at-cell.new.seat in
    let e = c.pop_at-cell.ensures.view.1 in
    (c.pop_at-cell.ensures.seat, traces-on v w (traced-pop v w _ c.args.held.now.packet c.pop_at-cell.ensures.view.2 (idle-popped c.args.heap.now.shape.fields v.state c.requires.work) e) c.requires.seat.1 (ap (λ (x : View). x.state.reserved) e) (ap (λ (x : View). x.state.credit) e))

pub returns-clause-only : goal.returns-clause-only
returns-clause-only c = traced-pop (view_of c.args.seat.now) (view_of c.pop_at-cell.new.seat) _ c.args.held.now.packet c.pop_at-cell.ensures.view.2 (idle-popped c.args.heap.now.shape.fields (view_of c.args.seat.now).state c.requires.work) c.pop_at-cell.ensures.view.1

pub returns-clause-held : goal.returns-clause-held
returns-clause-held c =
    let v : View = view_of c.args.seat.now in
    let e = c.pop_at-cell.ensures.view.1 in
    held-less v (view_of c.pop_at-cell.new.seat) c.args.held.now _ c.requires.held (ap (λ (x : View). x.shape) e) (ap (λ (x : View). x.state.held) e)
