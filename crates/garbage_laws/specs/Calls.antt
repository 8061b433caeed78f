-- The same of a call that ended a cycle: the step by which it did freed what was garbage as the cycle began.
use Rattle.std.specs.Prelude.{ℕ, not, List, Bool, IsTrue, IsFalse}
use Rattle.mark_core.specs.Steps.{run_of, start_core}
use Rattle.mark_core.specs.Weak.{IsGone}
use Rattle.mark_core.specs.declared.kinds.Event.{Event}
use Rattle.mark_core.specs.declared.kinds.Phase.TheVariants.{Idle}
use Rattle.mark_core.specs.declared.kinds.Step.TheVariants.{StorePhase}
use Rattle.gc_table.specs.Log.{all_steps, events}
use Rattle.gc_table.specs.Running.{Ran}
use Rattle.gc_table.specs.Taking.{after, Finds}
use Rattle.gc_table.specs.declared.view.Entry.{Entry}
use Rattle.gc_table.specs.declared.view.View.{View}
use Rattle.garbage_laws.specs.Garbage.{ends_cycle, identity_in, is_used}
use Rattle.garbage_laws.specs.OpenTables.{core_left, IsSinceIdle, WasGarbage}

-- the seat moved the phase to Idle: whichever cell was garbage in a state of phase Idle since which no cycle had ended, it isn't in use any more, and its object is gone
pub record FreesGarbage (n : ℕ) (v : View) (f : Finds (StorePhase Idle) n v) : Type 0 where
  pub freed : (before since : List Event) (found : List ℕ) (x : ℕ) → IsSinceIdle (StorePhase Idle) n v f before since found → WasGarbage (StorePhase Idle) n v f before found x → IsFalse (is_used (core_left (StorePhase Idle) n v f) x)
  pub gone : (before since : List Event) (found : List ℕ) (x : ℕ) → IsSinceIdle (StorePhase Idle) n v f before since found → WasGarbage (StorePhase Idle) n v f before found x
      → IsGone (core_left (StorePhase Idle) n v f) (identity_in (run_of before (start_core f.state.core.shape 1)) x)

-- the seat took such a step in between
pub record FreesBetween (u w : View) : Type 0 where
  pub before : View
  pub word : ℕ
  pub finds : Finds (StorePhase Idle) word before
  pub came : Ran u before
  pub went : Ran (after (StorePhase Idle) word before) w
  pub frees : FreesGarbage word before finds

-- one of these steps moved the phase to Idle
abbrev pub ended_cycle : List Entry → Bool
ended_cycle es = not (all_steps (λ step. not (ends_cycle step)) es)

-- each call that ended a cycle took such a step
abbrev pub CallsFreeGarbage : Type 0
CallsFreeGarbage = (u w : View) → Ran u w → IsTrue (ended_cycle (events u w)) → FreesBetween u w
