use Rattle.std.proofs.Common.{ℕ, ◌≡◌, ◌<◌, refl, ap, sym, ◌∙◌, subst}
use Rattle.mark_core.specs.Held.{length_in_hand}
use Rattle.mark_core.specs.Layout.{address}
use Rattle.mark_core.specs.Places.{entry_at}
use Rattle.mark_core.specs.declared.kinds.Step.TheVariants.{Push}
use Rattle.mark_core.specs.declared.seat.SeatState.{SeatState}
use Rattle.gc_table.proofs.Fitting.{may-take, step-room, stored-view}
use Rattle.gc_table.proofs.seat.Heap.push_at.Goals as goal

pub store_told-requires-clause-take : goal.store_told-requires-clause-take
store_told-requires-clause-take c =
    let q = c.requires in
    let s = c.args.seat.now in
    let h = c.args.self.now in
    let long : c.args.length ≡ length_in_hand s.state.held c.args.p = q.known ∙ ap (λ (x : SeatState). length_in_hand x.held c.args.p) (sym s.agrees) in
    may-take h s (Push c.args.p c.args.cell) _ (c.entry_at-word.ensures ∙ (λ i. address (h.based i) (entry_at (h.based i) c.args.p (long i)))) q.seat q.may tt tt

pub push_at-requires-clause-room : goal.push_at-requires-clause-room
push_at-requires-clause-room c =
    let q = c.requires in
    let s = c.args.seat.now in
    subst (λ (n : ℕ). n < 4294967295) (sym (q.known ∙ ap (λ (x : SeatState). length_in_hand x.held c.args.p) (sym s.agrees))) (step-room s.state (s.token.me.0.view) (Push c.args.p c.args.cell) s.agrees s.possible q.may)

pub invariant_of-seat-clause-agrees : goal.invariant_of-seat-clause-agrees
invariant_of-seat-clause-agrees c =
    let s = c.args.seat.now in
    stored-view c.args.self.now.shape s.state _ (s.token.me.0.view) (Push c.args.p c.args.cell) 0 c.push_at.ensures s.agrees c.requires.seat.1 (λ m n. (refl, refl)) ∙ sym (ap (λ m. m.0.view.state) c.store_told.ensures.taken.2)

pub invariant_of-seat-clause-recalls : goal.invariant_of-seat-clause-recalls
invariant_of-seat-clause-recalls c = ∣ c.store_told.ensures.taken.4 ∣₁
