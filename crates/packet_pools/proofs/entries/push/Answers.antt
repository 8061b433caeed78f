use Rattle.std.proofs.Common.{ℕ, ◌≡◌, ◌<◌, ◌≤◌, ◌+◌, refl, sym, ap, ◌∙◌, subst, arith}
use Rattle.mark_core.specs.declared.kinds.Shape.{Shape}
use Rattle.gc_table.specs.declared.view.View.{View}
use Rattle.gc_table.specs.Seats.{view_of}
use Rattle.packet_pools.proofs.Conditions.{may-push-in}
use Rattle.packet_pools.proofs.Exchanged.{known-held, known-has, known-length}
use Rattle.packet_pools.proofs.Doing.{traced-push, traces-on, held-again}
use Rattle.packet_pools.proofs.entries.push.Goals as goal

pub push_at-requires-clause-may : goal.push_at-requires-clause-may
push_at-requires-clause-may c =
    let v : View = view_of c.args.seat.now in
    let h = c.requires.held in
    let p : ℕ = c.args.held.now.packet in
    let n : ℕ = c.args.held.now.length in
    let entries : v.shape.entries ≡ c.shape.result.entries = ap (λ (s : Shape). s.entries) (c.requires.seat.0.1 ∙ sym c.shape.ensures) in
    let room : n < v.shape.entries = let d = c.if-held-shape.false in omega (arith, h.fits, entries, d) in
    may-push-in v p c.args.cell h.there (known-held v.state.held p n h.known) (known-has v.state.held p n h.known) (subst (λ m. m < v.shape.entries) (sym (known-length v.state.held p n h.known)) room) c.requires.cell

pub push_at-requires-clause-known : goal.push_at-requires-clause-known
push_at-requires-clause-known c = sym (known-length (view_of c.args.seat.now).state.held c.args.held.now.packet c.args.held.now.length c.requires.held.known)

pub returns-clause-seat : goal.returns-clause-seat
returns-clause-seat c =
    let v : View = view_of c.args.seat.now in
    let w : View = view_of c.push_at.new.seat in
    let e = c.push_at.ensures.view in
    (c.push_at.ensures.seat, traces-on v w (traced-push v w _ c.args.held.now.packet c.args.cell refl c.requires.cell e) c.requires.seat.1 (ap (λ (x : View). x.state.reserved) e) (ap (λ (x : View). x.state.credit) e))

pub returns-clause-only : goal.returns-clause-only
returns-clause-only c = traced-push (view_of c.args.seat.now) (view_of c.push_at.new.seat) _ c.args.held.now.packet c.args.cell refl c.requires.cell c.push_at.ensures.view

pub returns-clause-held : goal.returns-clause-held
returns-clause-held c =
    let v : View = view_of c.args.seat.now in
    let e = c.push_at.ensures.view in
    let h = c.requires.held in
    let n : ℕ = c.args.held.now.length in
    let entries : v.shape.entries ≡ c.shape.result.entries = ap (λ (s : Shape). s.entries) (c.requires.seat.0.1 ∙ sym c.shape.ensures) in
    let room : n + 1 ≤ v.shape.entries = let d = c.if-held-shape.false in omega (arith, h.fits, entries, d) in
    held-again v (view_of c.push_at.new.seat) c.args.held.now 1 _ h (ap (λ (x : View). x.shape) e) (ap (λ (x : View). x.state.held) e) room
