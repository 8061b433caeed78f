-- While the world is stopped a tracer finds each popped cell published.
use Rattle.std.proofs.Common.{ℕ, ◌≡◌, ◌+◌, ◌/◌, ◌%◌, [], ◌∷◌, arith, refl, sym, ap, ◌∙◌, Bool, true, false, not, ◌&&◌, cond, eq-eqb, Option}
use Rattle.std.specs.Prelude.{is_none}
use Rattle.std.proofs.lemmas.Bool.{true≢false, false≢true}
use Rattle.std.proofs.lemmas.List.Elements.{All-cons, All-nil}
use Rattle.mark_core.specs.Bits.{has_bit}
use Rattle.mark_core.specs.Cards.{block_cells}
use Rattle.mark_core.specs.Layout.{words_of}
use Rattle.mark_core.specs.Laws.{NumbersFit}
use Rattle.mark_core.specs.Seats.{is_phase}
use Rattle.mark_core.specs.Steps.{Core}
use Rattle.mark_core.specs.declared.kinds.Event.{Event}
use Rattle.mark_core.specs.declared.kinds.Phase.TheVariants.{Drain}
use Rattle.mark_core.specs.declared.kinds.Step.TheVariants.{ReadAlloc}
use Rattle.mark_core.proofs.Count.CountMoves.{bit}
use Rattle.gc_table.specs.Taking.{Finds}
use Rattle.gc_table.specs.declared.view.View.{View}
use Rattle.packet_pools.specs.Tracing.{traces}
use Rattle.packet_pools.proofs.InDrain.{in-drain, no-bit}
use Rattle.work_laws.specs.Counting.{one_in, count_events}
use Rattle.work_laws.specs.Queueing.{lacks_bit}
use Rattle.work_laws.specs.Drains.{defers_in_drain}
use Rattle.work_laws.proofs.Drains.{drains_defer_none}
use Rattle.work_laws.proofs.Sums.{one-is}
use Rattle.tracer.specs.Parts.{HasPopped}

-- the allocation bit of the popped cell isn't found clear
pub none-lacks : (v : View) (b n : ℕ) → Finds (ReadAlloc b) n v → traces v ≡ true → v.state.active ≡ false → lacks_bit v.state.popped b n ≡ false
none-lacks v b n f t still =
    let c : Core = f.state.core in
    let e : Event = record { seat = f.index; step = ReadAlloc b } in
    let none : count_events defers_in_drain (e ∷ []) c ≡ 0 = drains_defer_none.none c (e ∷ []) f.whole.core (All-cons (λ (y : Event). NumbersFit y.step) e [] tt (All-nil (λ (y : Event). NumbersFit y.step))) in
    let one : count_events defers_in_drain (e ∷ []) c ≡ one_in defers_in_drain c e + 0 = ap (λ (o : Option ℕ). cond (is_none o) (one_in defers_in_drain c e + 0) 0) f.allowed in
    let is : one_in defers_in_drain c e ≡ bit (defers_in_drain c v.state (ReadAlloc b)) = one-is defers_in_drain c e v.state f.agrees.seat in
    let here : is_phase (words_of c.shape c.words).phase Drain ≡ true = eq-eqb (words_of c.shape c.words).phase 2 (in-drain f.state f.index v f.whole f.agrees t still) in
    sym (ap (lacks_bit v.state.popped b) f.word) ∙ no-bit _ _ here (omega (arith, none, one, is))

is_set : (a b : Bool) → a ≡ true → (a && not b) ≡ false → b ≡ true
is_set true true e z = refl
is_set true false e z = absurd (true≢false z)
is_set false b e z = absurd (false≢true e)

pub cell-published : (v : View) (x n : ℕ) → HasPopped x false v → Finds (ReadAlloc (x / block_cells)) n v → traces v ≡ true → v.state.active ≡ false → has_bit n (x % block_cells) ≡ true
cell-published v x n p f t still = is_set _ _ (eq-eqb (x / block_cells) (x / block_cells) refl) (sym (ap (λ o. lacks_bit o (x / block_cells) n) p.popped) ∙ none-lacks v (x / block_cells) n f t still)
