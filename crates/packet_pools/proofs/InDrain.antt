-- A tracer that isn't active works while the world is stopped.
use Rattle.std.proofs.Common.{ℕ, ◌≡◌, arith, refl, sym, ⊎_elim, subst, ◌∙◌, Bool, true, false, ◌&&◌, ◌||◌, eqb-true}
use Rattle.std.specs.Prelude.{IsTrue, IfSome}
use Rattle.std.proofs.lemmas.Bool.{and_parts, or_cases, true≢false, false≢true}
use Rattle.std.proofs.lemmas.Option.{slice_get_within, get_or_from_slice_get}
use Rattle.mark_core.specs.Layout.{words_of}
use Rattle.mark_core.specs.Seats.{is_phase, saw, phase_number}
use Rattle.mark_core.specs.declared.kinds.Phase.TheVariants.{Marking, Drain}
use Rattle.mark_core.specs.declared.seat.SeatState.{SeatState}
use Rattle.mark_core.proofs.Count.CountMoves.{bit}
use Rattle.mark_core.proofs.World.WorldPhases.{saw-number}
use Rattle.gc_table.specs.TableState.{TableState}
use Rattle.gc_table.specs.Rule.{IsState, Agrees}
use Rattle.gc_table.specs.declared.view.View.{View}
use Rattle.packet_pools.specs.Tracing.{traces}
use Rattle.packet_pools.proofs.Conditions.{may-trace}

-- the phase is then that of a drain
pub in-drain : (x : TableState) (i : ℕ) (v : View) → IsState x → Agrees x i v → traces v ≡ true → v.state.active ≡ false → (words_of x.core.shape x.core.words).phase ≡ 2
in-drain x i v k a t still =
    let phase : ℕ = (words_of x.core.shape x.core.words).phase in
    let s : SeatState = v.state in
    let P : SeatState → Type 0 = λ (y : SeatState). IsTrue y.admitted → IfSome y.phase_seen (λ p. phase ≡ phase_number p) in
    let sees : P s = subst P (get_or_from_slice_get x.core.seats i s s a.seat) (k.core.sound.phases.helper_seen i s (slice_get_within x.core.seats i s a.seat)) in
    ⊎_elim
    (λ m.
    ⊎_elim
    (λ (n : (s.active && saw s.phase_seen Marking) ≡ true). absurd (true≢false (sym (and_parts s.active (saw s.phase_seen Marking) n).0 ∙ still)))
    (λ (n : (s.knows && is_phase phase Drain) ≡ true). eqb-true phase 2 (and_parts s.knows (is_phase phase Drain) n).1)
    (or_cases (s.active && saw s.phase_seen Marking) (s.knows && is_phase phase Drain) m))
    (λ (m : (s.admitted && saw s.phase_seen Drain) ≡ true). let n = and_parts s.admitted (saw s.phase_seen Drain) m in saw-number s.phase_seen Drain phase n.1 (sees n.0))
    (or_cases (s.active && saw s.phase_seen Marking || (s.knows && is_phase phase Drain)) (s.admitted && saw s.phase_seen Drain) (may-trace x i v a t))

-- nothing is counted, so it isn't so
pub no-bit : (a b : Bool) → a ≡ true → bit (a && b) ≡ 0 → b ≡ false
no-bit true true e z = absurd (omega (arith, z))
no-bit true false e z = refl
no-bit false b e z = absurd (false≢true e)
