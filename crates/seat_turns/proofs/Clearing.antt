-- Slots are cleared, one after the other.
use Rattle.std.proofs.Common.{ℕ, suc, ◌≡◌, ◌≤◌, ◌<◌, ◌+◌, ◌-◌, ◌∙◌, [], ◌∷◌, ap, arith, refl, subst, sym, is_none}
use Rattle.std.proofs.lemmas.Bool.{and_from, lt-ltb, not_from_false}
use Rattle.mark_core.specs.declared.kinds.Shape.{Shape}
use Rattle.mark_core.specs.declared.kinds.Step.TheVariants.{StoreSlot}
use Rattle.alloc_cache.proofs.Cells.{steps-join}
use Rattle.gc_table.specs.Log.{steps_of}
use Rattle.gc_table.specs.Taking.{May}
use Rattle.gc_table.specs.declared.view.View.{View}
use Rattle.gc_table.proofs.History.Log.{events-none}
use Rattle.gc_table.proofs.Running.{ran-join, ran-refl}
use Rattle.mutator_ops.specs.Sharing.{SharesReady, TakesSteps}
use Rattle.seat_turns.specs.Clearing.{clearing_steps}

-- nil may be stored in a slot that exists
pub may-clear : (k : ℕ) (v : View) → SharesReady v → k < v.shape.slots → May (StoreSlot k 0) v
may-clear k v ready low y i st a = (
  and_from _ _ (lt-ltb k y.core.shape.slots (subst (λ (sh : Shape). k < sh.slots) a.shape low)) ready.stores.turn,
  (refl, (and_from _ _ (ap is_none ready.stores.owes) (not_from_false _ ready.whole), tt)),
)

-- none was cleared yet
pub clears-none : (from : ℕ) (v : View) → TakesSteps (clearing_steps from (from - from)) v v
clears-none from v =
    let none : from - from ≡ 0 = omega arith in
    subst (λ (n : ℕ). TakesSteps (clearing_steps from n) v v) (sym none) (record { ran = ran-refl v; steps_are = ap steps_of (events-none v); state = refl })

-- and then one more
pub clears-more : (from k : ℕ) (u v w : View) → from ≤ k → TakesSteps (clearing_steps from (k - from)) u v → TakesSteps (StoreSlot k 0 ∷ []) v w → TakesSteps (clearing_steps from (k + 1 - from)) u w
clears-more from k u v w after a b =
    let more : k + 1 - from ≡ suc (k - from) = omega (arith, after) in
    let last : k ≡ from + (k - from) = omega (arith, after) in
    let one = b.steps_are ∙ ap (λ (n : ℕ). StoreSlot n 0 ∷ []) last in
    record {
      ran = ran-join u v w a.ran b.ran;
      steps_are = steps-join u v w (clearing_steps from (k - from)) (StoreSlot (from + (k - from)) 0 ∷ []) a.ran b.ran a.steps_are one ∙ ap (clearing_steps from) (sym more);
      state = b.state ∙ a.state;
    }
