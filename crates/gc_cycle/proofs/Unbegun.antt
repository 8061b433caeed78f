-- What begins no cycle.
use Rattle.std.proofs.Common.{ℕ, ◌≡◌, refl, ap, ◌∙◌, true, false, not}
use Rattle.std.proofs.lemmas.Bool.{false≢true}
use Rattle.mark_core.specs.declared.kinds.Step.{Step}
use Rattle.mark_core.specs.declared.kinds.Step.TheVariants.{StorePhase}
use Rattle.gc_table.specs.Log.{Only, events}
use Rattle.gc_table.specs.Running.{Ran}
use Rattle.gc_table.specs.declared.view.View.{View}
use Rattle.gc_table.proofs.History.Log.{only-more}
use Rattle.gc_table.proofs.Running.{ran-events, ran-join}
use Rattle.gc_cycle.specs.Answering.{answers}
use Rattle.gc_cycle.specs.Events.{never}
use Rattle.gc_cycle.specs.Mutating.{TriesToStop, stays_calm, tries_stopping}
use Rattle.gc_cycle.specs.Sorts.{tries_marking}
use Rattle.gc_cycle.proofs.Ends.Finishes.{never-both}
use Rattle.gc_cycle.proofs.Refills.Collected.{answers-tried}
use Rattle.gc_cycle.proofs.SectionKept.{calm-tries}
use Rattle.gc_cycle.proofs.Sequences.{none-of-steps}

tries-untried : (step : Step) (n : ℕ) → tries_stopping step ≡ true → tries_marking step n ≡ false
tries-untried (StorePhase to) n e = absurd (false≢true e)
tries-untried step n e = refl

-- the seat tries to stop the world
pub tries-unbegun : (v w : View) → Only tries_stopping v w → never tries_marking (events v w) ≡ true
tries-unbegun v w o = ap not (none-of-steps tries_stopping tries_marking tries-untried (events v w) o)

-- it goes out or comes in, or waits
pub calm-unbegun : (v w : View) → Only stays_calm v w → never tries_marking (events v w) ≡ true
calm-unbegun v w o = tries-unbegun v w (only-more stays_calm tries_stopping calm-tries v w o)

-- it answers
pub answers-unbegun : (v w : View) → Only answers v w → never tries_marking (events v w) ≡ true
answers-unbegun v w o = tries-unbegun v w (answers-tried v w o)

-- one call after another
pub unbegun-join : (u v w : View) → Ran u v → Ran v w → never tries_marking (events u v) ≡ true → never tries_marking (events v w) ≡ true → never tries_marking (events u w) ≡ true
unbegun-join u v w r q a b = ap (never tries_marking) (ran-events u v w r q) ∙ never-both tries_marking (events u v) (events v w) a b

-- a stop of the seat's own, with what comes before and after it
pub stopped-unbegun : (u v w x y : View) → Ran u v → Only answers u v → TriesToStop v w → Ran w x → never tries_marking (events w x) ≡ true → Ran x y → Only answers x y → never tries_marking (events u y) ≡ true
stopped-unbegun u v w x y r o t q n p a =
    let two = ran-join u v w r t.ran in
    let three = ran-join u w x two q in
    unbegun-join u x y three p (unbegun-join u w x two q (unbegun-join u v w r t.ran (answers-unbegun u v o) (tries-unbegun v w t.only)) n) (answers-unbegun x y a)
