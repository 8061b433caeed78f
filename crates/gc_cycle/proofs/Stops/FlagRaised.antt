-- A mutator that is out raises the flag of the world, or finds another's.
use Rattle.std.proofs.Common.{ℕ, ◌≡◌, ◌+◌, List, refl, sym, ap, ◌∙◌, subst, Bool, true, false, not, None, ◌⊎◌, inl, inr}
use Rattle.std.specs.Prelude.{if◌then◌else◌}
use Rattle.std.proofs.lemmas.Bool.{false≢true, not-true, or_left, true≢false}
use Rattle.packet_pools.specs.Counts.{count_of}
use Rattle.packet_pools.proofs.Counting.{count-join}
use Rattle.mark_core.specs.Bits.{has_flag}
use Rattle.mark_core.specs.declared.kinds.Phase.{Phase}
use Rattle.mark_core.specs.declared.kinds.Step.{Step}
use Rattle.mark_core.specs.declared.kinds.Step.TheVariants.{Observe, RaiseStep, ReadPhase}
use Rattle.gc_table.specs.Taking.{after, Finds}
use Rattle.gc_table.specs.declared.view.Entry.{Entry}
use Rattle.gc_table.specs.declared.view.View.{View}
use Rattle.packet_pools.specs.Seeking.{some_event}
use Rattle.gc_table.specs.Log.{events, Only}
use Rattle.gc_table.specs.Running.{changes_section, Ran}
use Rattle.gc_table.proofs.History.Log.{events-after, only-after, only-more}
use Rattle.gc_table.proofs.Running.{own-kept, ran-events}
use Rattle.stop_world.proofs.Standing.{strong, unless}
use Rattle.stop_world.proofs.Flagged.{yours-free}
use Rattle.gc_cycle.specs.Events.{never}
use Rattle.stop_world.specs.Waiting.{is_mutators, watches}
use Rattle.stop_world.specs.declared.Raised.{Raised}
use Rattle.stop_world.specs.declared.Raised.TheVariants.{Theirs, Yours}
use Rattle.gc_cycle.specs.Mutating.{keeps_section, tries_stopping, TriesToStop}
use Rattle.gc_cycle.specs.Sorts.{raises_flag}
use Rattle.mark_core.specs.declared.kinds.Phase.TheVariants.{Clear, Drain, Full, Idle, Marking, Sweep}
use Rattle.gc_cycle.specs.Standing.{IsOut}
use Rattle.gc_cycle.proofs.Sequences.{count-none, none-of-steps}
use Rattle.gc_cycle.proofs.Stops.OutAndIn.{bare-from, bare-parts}
use Rattle.gc_cycle.proofs.SectionKept.{keeps-seat, keeps-section, tries-keep, tries-never-claim, tries-never-fill}

-- raising the flag

theirs-up : (b : Bool) → Theirs ≡ (if b then Theirs else Yours) → b ≡ true
theirs-up true e = refl
theirs-up false e = absurd (true≢false (ap is_theirs e))
  where
    is_theirs : Raised → Bool
    is_theirs Yours = false
    is_theirs Theirs = true

pub out-unaware : (v w : View) (n : ℕ) → IsOut v → w ≡ after RaiseStep n v → Finds RaiseStep n v → w.state.knows ≡ false
out-unaware v w n o e f =
    let rules = strong f.state f.index v f.whole f.agrees in
    ap (λ (x : View). x.state.knows) e ∙ unless v.state.knows v.state.raised (λ h. rules.knows_is_raised h) (bare-parts v.state o.bare).1

pub raised-only : (v w : View) (n : ℕ) → w ≡ after RaiseStep n v → Only tries_stopping v w
raised-only v w n e = only-after tries_stopping v w RaiseStep n refl e

pub theirs-out : (v w : View) (n : ℕ) → IsOut v → w ≡ after RaiseStep n v → Theirs ≡ (if has_flag n then Theirs else Yours) → IsOut w
theirs-out v w n o e h =
    let b = bare-parts v.state o.bare in
    subst IsOut (sym e) (record { bare = bare-from v.state.counted (not (has_flag n)) v.state.helping b.0 (ap not (theirs-up (has_flag n) h)) b.2; rest = o.rest })

-- no flag was raised
pub calm-count : (es : List Entry) → never raises_flag es ≡ true → count_of raises_flag es ≡ 0
calm-count es h = count-none raises_flag es (not-true _ h)

-- the seat's own flag was raised, once
pub raised-once : (v w x : View) (n : ℕ) → Ran v w → Ran w x → w ≡ after RaiseStep n v → Only watches w x → Yours ≡ (if has_flag n then Theirs else Yours) → count_of raises_flag (events v x) ≡ 1
raised-once v w x n r q e o h =
    let none : count_of raises_flag (events w x) ≡ 0 = count-none raises_flag (events w x) (none-of-steps watches raises_flag unraised (events w x) o) in
    let one : count_of raises_flag (events v w) ≡ 1 = ap (count_of raises_flag) (events-after v w RaiseStep n e) ∙ ap (λ (b : Bool). (if not b then 1 else 0) + 0) (yours-free (has_flag n) h) in
    ap (count_of raises_flag) (ran-events v w x r q) ∙ (count-join raises_flag (events v w) (events w x) ∙ (ap (λ k. k + count_of raises_flag (events w x)) one ∙ ap (λ k. 1 + k) none))
  where
    unraised : (step : Step) (k : ℕ) → watches step ≡ true → raises_flag step k ≡ false
    unraised Observe k p = refl
    unraised ReadPhase k p = refl
    unraised step k p = absurd (false≢true p)

-- another's flag was found
pub raised-never : (v w : View) (n : ℕ) → w ≡ after RaiseStep n v → Theirs ≡ (if has_flag n then Theirs else Yours) → count_of raises_flag (events v w) ≡ 0
raised-never v w n e h = ap (count_of raises_flag) (events-after v w RaiseStep n e) ∙ ap (λ (b : Bool). (if not b then 1 else 0) + 0) (theirs-up (has_flag n) h)

-- one call after another
pub count-calls : (u v w : View) (k n : ℕ) → Ran u v → Ran v w → count_of raises_flag (events u v) ≡ k → count_of raises_flag (events v w) ≡ n → count_of raises_flag (events u w) ≡ k + n
count-calls u v w k n r q a b =
    ap (count_of raises_flag) (ran-events u v w r q) ∙ (count-join raises_flag (events u v) (events v w) ∙ (ap (λ i. i + count_of raises_flag (events v w)) a ∙ ap (λ i. k + i) b))

pub raised-event : (v w : View) (n : ℕ) → w ≡ after RaiseStep n v → Yours ≡ (if has_flag n then Theirs else Yours) → some_event raises_flag (events v w) ≡ true
raised-event v w n e h = ap (some_event raises_flag) (events-after v w RaiseStep n e) ∙ or_left (not (has_flag n)) false (ap not (yours-free (has_flag n) h))

pub tries : (v w : View) → Ran v w → Only tries_stopping v w → w.state.cache ≡ None → TriesToStop v w
tries v w r o n =
    let keeps = only-more tries_stopping keeps_section tries-keep v w o in
    record {
      ran = r;
      only = o;
      seat = keeps-seat v w r keeps;
      section = keeps-section v w r keeps;
      not_full = tries-never-fill (events v w) o;
      unclaimed = tries-never-claim (events v w) o;
      cache = n;
    }

pub watches-try : (step : Step) → watches step ≡ true → tries_stopping step ≡ true
watches-try Observe e = refl
watches-try ReadPhase e = refl
watches-try step e = absurd (false≢true e)

pub watches-own : (v w : View) → Ran v w → Only watches v w → w.own ≡ v.own
watches-own v w r o = own-kept watches section v w r o
  where
    section : (step : Step) → watches step ≡ true → changes_section step ≡ false
    section Observe e = refl
    section ReadPhase e = refl
    section step e = absurd (false≢true e)

pub mutators-left : (p : Phase) → is_mutators p ≡ true → (p ≡ Idle) ⊎ (p ≡ Marking) ⊎ (p ≡ Full)
mutators-left Idle e = inl refl
mutators-left Marking e = inr (inl refl)
mutators-left Full e = inr (inr refl)
mutators-left Drain e = absurd (false≢true e)
mutators-left Sweep e = absurd (false≢true e)
mutators-left Clear e = absurd (false≢true e)
