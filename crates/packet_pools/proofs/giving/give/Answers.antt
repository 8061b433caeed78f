use Rattle.std.proofs.Common.{ℕ, ◌≡◌, ◌<◌, sym, ap, ◌∙◌, subst, arith, Some, [], ◌∷◌}
use Rattle.std.proofs.lemmas.Bool.{or_left}
use Rattle.mark_core.specs.Held.{known_length, holds_another, is_stored}
use Rattle.mark_core.specs.Seats.{work_in_hand}
use Rattle.mark_core.specs.declared.kinds.Shape.{Shape}
use Rattle.mark_core.specs.declared.seat.SeatState.{SeatState}
use Rattle.gc_table.specs.declared.view.View.{View}
use Rattle.gc_table.specs.Seats.{view_of}
use Rattle.packet_pools.proofs.Conditions.{may-store_length, may-give, may-credit}
use Rattle.packet_pools.proofs.Exchanged.{known-held, known-has, known-entry}
use Rattle.packet_pools.proofs.Given.{stored, stored-known, stored-head, stored-another, returned-empty, gave-state, gave-later, gave-full, gave-traces, counted-state, counted-later, counted-traces, gave-outside, counted-outside}
use Rattle.mark_core.specs.Steps.PacketSteps.{pool_for}
use Rattle.packet_pools.specs.Outside.{KeepsOutside}
use Rattle.packet_pools.proofs.giving.give.Goals as goal

pub store_length-requires-clause-may : goal.store_length-requires-clause-may
store_length-requires-clause-may c =
    let v : View = view_of c.args.seat.now in
    let k = c.requires.held in
    may-store_length v c.args.held.packet k.there (known-held v.state.held c.args.held.packet c.args.held.length k.known) (known-has v.state.held c.args.held.packet c.args.held.length k.known)

pub give-requires-clause-may : goal.give-requires-clause-may
give-requires-clause-may c =
    let v : View = view_of c.args.seat.now in
    let w : View = view_of c.store_length.new.seat in
    let p : ℕ = c.args.held.packet in
    let n : ℕ = c.args.held.length in
    let k = c.requires.held in
    let t = c.requires.seat.1 in
    let e = c.store_length.ensures.view in
    let state : w.state ≡ stored v.state p n k.known = ap (λ (x : View). x.state) e in
    let shape : w.shape ≡ v.shape = ap (λ (x : View). x.shape) e in
    let known : known_length w.state.held p ≡ Some n = ap (λ (s : SeatState). known_length s.held p) state ∙ stored-known v.state p n k.known in
    may-give w p c.args.deferred
    (subst (λ (s : Shape). p < s.packets) (sym shape) k.there)
    (known-held w.state.held p n known)
    (known-has w.state.held p n known)
    (λ d. known-entry w.state.held p n known (c.requires.deferred d))
    (λ d. ap (λ (s : SeatState). holds_another s.held p) state ∙ (stored-another v.state p n k.known ∙ c.requires.work (ap (λ (s : Shape). work_in_hand s.fields v.state) (sym (shape ∙ c.requires.seat.0.1)) ∙ (ap (λ (s : SeatState). work_in_hand w.shape.fields s) (sym state) ∙ d))))
    (ap (λ (s : SeatState). s.reserved) state ∙ t.unreserved)
    (ap (λ (s : SeatState). s.credit) state ∙ t.uncredited)
    (ap (λ (s : SeatState). is_stored s.held p) state ∙ stored-head v.state p n k.known)

pub credit-requires-clause-may : goal.credit-requires-clause-may
credit-requires-clause-may c =
    let v : View = view_of c.args.seat.now in
    let x : View = view_of c.give.new.seat in
    let k = c.requires.held.known in
    let state = gave-state c.requires.seat.1 k c.store_length.ensures.view c.give.ensures.view.1 in
    may-credit x (or_left _ _ (ap (λ (s : SeatState). s.credit) state ∙ returned-empty v.state c.args.held.packet c.args.held.length k c.if-length-eq0.true))

pub returns-then-length-eq0-clause-state : goal.returns-then-length-eq0-clause-state
returns-then-length-eq0-clause-state c = counted-state c.requires.seat.1 c.requires.held.known c.store_length.ensures.view c.give.ensures.view.1 c.credit.ensures.view.1

pub returns-else-length-eq0-clause-state : goal.returns-else-length-eq0-clause-state
returns-else-length-eq0-clause-state c = gave-full c.requires.seat.1 c.requires.held.known c.store_length.ensures.view c.give.ensures.view.1 (let d = c.if-length-eq0.false in omega (arith, d))

pub returns-then-length-eq0-clause-only : goal.returns-then-length-eq0-clause-only
returns-then-length-eq0-clause-only c = counted-later c.requires.seat.1 c.requires.held.known c.store_length.ensures.view c.give.ensures.view.1 c.credit.ensures.view.1

pub returns-else-length-eq0-clause-only : goal.returns-else-length-eq0-clause-only
returns-else-length-eq0-clause-only c = gave-later c.requires.seat.1 c.requires.held.known c.store_length.ensures.view c.give.ensures.view.1

pub returns-then-length-eq0-clause-seat : goal.returns-then-length-eq0-clause-seat
returns-then-length-eq0-clause-seat c = (c.credit.ensures.seat, counted-traces c.requires.seat.1 c.requires.held.known c.store_length.ensures.view c.give.ensures.view.1 c.credit.ensures.view.1)

pub returns-else-length-eq0-clause-seat : goal.returns-else-length-eq0-clause-seat
returns-else-length-eq0-clause-seat c = (c.give.ensures.seat, gave-traces c.requires.seat.1 c.requires.held.known c.store_length.ensures.view c.give.ensures.view.1 (let d = c.if-length-eq0.false in omega (arith, d)))

pub returns-then-length-eq0-clause-outside : goal.returns-then-length-eq0-clause-outside
returns-then-length-eq0-clause-outside c =
    let v : View = view_of c.args.seat.now in
    subst (λ (sh : Shape). KeepsOutside (pool_for sh c.args.held.length c.args.deferred ∷ []) v (view_of c.credit.new.seat)) c.requires.seat.0.1
    (counted-outside c.requires.seat.1 c.requires.held.known c.store_length.ensures.view c.give.ensures.view.1 c.credit.ensures.view.1 c.requires.held.there)

pub returns-else-length-eq0-clause-outside : goal.returns-else-length-eq0-clause-outside
returns-else-length-eq0-clause-outside c =
    let v : View = view_of c.args.seat.now in
    subst (λ (sh : Shape). KeepsOutside (pool_for sh c.args.held.length c.args.deferred ∷ []) v (view_of c.give.new.seat)) c.requires.seat.0.1
    (gave-outside c.requires.seat.1 c.requires.held.known c.store_length.ensures.view c.give.ensures.view.1 c.requires.held.there)
