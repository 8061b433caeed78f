use Rattle.std.proofs.Common.{ℕ, ◌≡◌, ◌-◌, false, ap, sym, ◌∙◌}
use Rattle.std.specs.Prelude.{Some}
use Rattle.mark_core.specs.Held.{length_in_hand, set_length}
use Rattle.mark_core.specs.Layout.{address}
use Rattle.mark_core.specs.Places.{entry_at}
use Rattle.mark_core.specs.Effects.{seat_after}
use Rattle.mark_core.specs.declared.kinds.Step.TheVariants.{Pop}
use Rattle.mark_core.specs.declared.seat.SeatState.{SeatState}
use Rattle.gc_table.proofs.Fitting.{may-take}
use Rattle.gc_table.proofs.seat.Heap.pop_at.Goals as goal

pub take_told-requires-clause-take : goal.take_told-requires-clause-take
take_told-requires-clause-take c =
    let q = c.requires in
    let s = c.args.seat.now in
    let h = c.args.self.now in
    let long : c.args.length ≡ length_in_hand s.state.held c.args.p = q.known ∙ ap (λ (x : SeatState). length_in_hand x.held c.args.p) (sym s.agrees) in
    let less : c.saturating_sub.result ≡ length_in_hand s.state.held c.args.p - 1 = c.saturating_sub.ensures ∙ ap (λ (n : ℕ). n - 1) long in
    may-take h s (Pop c.args.p) _ (c.entry_at-word.ensures ∙ (λ i. address (h.based i) (entry_at (h.based i) c.args.p (less i)))) q.seat q.may tt tt

pub invariant_of-seat-clause-agrees : goal.invariant_of-seat-clause-agrees
invariant_of-seat-clause-agrees c =
    let s = c.args.seat.now in
    let p : ℕ = c.args.p in
    let n : ℕ = c.take_told.result in
    c.pop_at.ensures
    ∙ (ap (λ (k : ℕ). record s.state { held = set_length s.state.held p (length_in_hand s.state.held p - 1) false; popped = Some (k, false) }) c.cell_of-cell.ensures
    ∙ ((λ i. seat_after (sym c.requires.seat.1 i) (s.agrees i) (Pop p) n) ∙ sym (ap (λ m. m.0.view.state) c.take_told.ensures.taken.2)))

pub invariant_of-seat-clause-recalls : goal.invariant_of-seat-clause-recalls
invariant_of-seat-clause-recalls c = ∣ c.take_told.ensures.taken.4 ∣₁
