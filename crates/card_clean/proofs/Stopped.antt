-- While the world is stopped each marked cell of a card that is cleaned is found published.
use Rattle.std.proofs.Common.{ℕ, ◌≡◌, ◌+◌, [], ◌∷◌, arith, sym, ap, ◌∙◌, true, false, cond, eq-eqb, Option}
use Rattle.std.specs.Prelude.{is_none}
use Rattle.std.proofs.lemmas.List.Elements.{All-cons, All-nil}
use Rattle.mark_core.specs.Layout.{words_of}
use Rattle.mark_core.specs.Laws.{NumbersFit}
use Rattle.mark_core.specs.Seats.{is_phase}
use Rattle.mark_core.specs.Steps.{Core}
use Rattle.mark_core.specs.declared.kinds.Event.{Event}
use Rattle.mark_core.specs.declared.kinds.Phase.TheVariants.{Drain}
use Rattle.mark_core.specs.declared.kinds.Step.TheVariants.{ReadAlloc}
use Rattle.mark_core.proofs.Count.CountMoves.{bit}
use Rattle.gc_table.specs.Taking.{Finds}
use Rattle.gc_table.specs.declared.view.View.{View}
use Rattle.packet_pools.specs.Tracing.{traces}
use Rattle.packet_pools.proofs.InDrain.{in-drain, no-bit}
use Rattle.work_laws.specs.Counting.{one_in, count_events}
use Rattle.work_laws.specs.DrainedCards.{lacks_bits, redirties_in_drain}
use Rattle.work_laws.proofs.DrainedCards.{drains_stay_clean}
use Rattle.work_laws.proofs.Sums.{one-is}

pub left-published : (v : View) (b n : ℕ) → Finds (ReadAlloc b) n v → traces v ≡ true → v.state.active ≡ false → lacks_bits v.state.cleaning b n ≡ false
left-published v b n f t still =
    let c : Core = f.state.core in
    let e : Event = record { seat = f.index; step = ReadAlloc b } in
    let none : count_events redirties_in_drain (e ∷ []) c ≡ 0 = drains_stay_clean.none c (e ∷ []) f.whole.core (All-cons (λ (y : Event). NumbersFit y.step) e [] tt (All-nil (λ (y : Event). NumbersFit y.step))) in
    let one : count_events redirties_in_drain (e ∷ []) c ≡ one_in redirties_in_drain c e + 0 = ap (λ (o : Option ℕ). cond (is_none o) (one_in redirties_in_drain c e + 0) 0) f.allowed in
    let is : one_in redirties_in_drain c e ≡ bit (redirties_in_drain c v.state (ReadAlloc b)) = one-is redirties_in_drain c e v.state f.agrees.seat in
    let here : is_phase (words_of c.shape c.words).phase Drain ≡ true = eq-eqb (words_of c.shape c.words).phase 2 (in-drain f.state f.index v f.whole f.agrees t still) in
    sym (ap (lacks_bits v.state.cleaning b) f.word) ∙ no-bit _ _ here (omega (arith, none, one, is))
