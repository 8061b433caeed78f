-- Steps that leave the flag, the end of a stop and the blocks alone.
use Rattle.std.proofs.Common.{ℕ, ◌≡◌, List, [], ◌∷◌, refl, Bool, true, false}
use Rattle.std.proofs.lemmas.Bool.{and_from, and_parts, false≢true, not-true, or_parts, true≢false}
use Rattle.mark_core.specs.declared.kinds.Step.{Step}
use Rattle.mark_core.specs.declared.kinds.Step.TheVariants.{ClaimBlock, DropStep, Observe, RaiseStep, ReadPhase, StorePhase}
use Rattle.gc_table.specs.declared.view.Entry.{Entry}
use Rattle.gc_table.specs.declared.view.View.{View}
use Rattle.packet_pools.specs.Seeking.{some_event}
use Rattle.gc_table.specs.Log.{all_steps, events, Only}
use Rattle.gc_table.proofs.History.Log.{only-more}
use Rattle.stop_world.specs.Waiting.{watches}
use Rattle.gc_cycle.specs.Answering.{answers, retires}
use Rattle.gc_cycle.specs.Events.{Sort, never}
use Rattle.gc_cycle.specs.Mutating.{spares_blocks, stays_calm}
use Rattle.gc_cycle.specs.Sorts.{resumes}

-- all steps are of the second sort, if they are of the first and no event is like f
pub only-without : (P Q : Step → Bool) (f : Sort) → ((step : Step) (n : ℕ) → P step ≡ true → f step n ≡ false → Q step ≡ true) → (es : List Entry) → all_steps P es ≡ true → some_event f es ≡ false → all_steps Q es ≡ true
only-without P Q f h [] o n = refl
only-without P Q f h (e ∷ es) o n =
    let a = and_parts (P e.step) (all_steps P es) o in
    let b = or_parts (f e.step e.found) (some_event f es) n in
    and_from (Q e.step) (all_steps Q es) (h e.step e.found a.0 b.0) (only-without P Q f h es a.1 b.1)

calm-spares : (step : Step) (n : ℕ) → stays_calm step ≡ true → resumes step n ≡ false → spares_blocks step ≡ true
calm-spares (ClaimBlock b) n e r = absurd (false≢true e)
calm-spares RaiseStep n e r = absurd (false≢true e)
calm-spares (StorePhase to) n e r = absurd (false≢true e)
calm-spares DropStep n e r = absurd (true≢false r)
calm-spares step n e r = refl

-- a seat that went out or in, and didn't resume the world
pub spares-calm : (v w : View) → Only stays_calm v w → never resumes (events v w) ≡ true → Only spares_blocks v w
spares-calm v w o r = only-without stays_calm spares_blocks resumes calm-spares (events v w) o (not-true _ r)

watches-spare : (step : Step) → watches step ≡ true → spares_blocks step ≡ true
watches-spare Observe e = refl
watches-spare ReadPhase e = refl
watches-spare step e = absurd (false≢true e)

pub spares-watching : (v w : View) → Only watches v w → Only spares_blocks v w
spares-watching v w o = only-more watches spares_blocks watches-spare v w o

answers-spare : (step : Step) → answers step ≡ true → spares_blocks step ≡ true
answers-spare (ClaimBlock b) e = absurd (false≢true e)
answers-spare RaiseStep e = absurd (false≢true e)
answers-spare (StorePhase to) e = absurd (false≢true e)
answers-spare DropStep e = absurd (false≢true e)
answers-spare step e = refl

pub spares-answers : (v w : View) → Only answers v w → Only spares_blocks v w
spares-answers v w o = only-more answers spares_blocks answers-spare v w o

retires-spare : (step : Step) → retires step ≡ true → spares_blocks step ≡ true
retires-spare (ClaimBlock b) e = absurd (false≢true e)
retires-spare RaiseStep e = absurd (false≢true e)
retires-spare (StorePhase to) e = absurd (false≢true e)
retires-spare DropStep e = absurd (false≢true e)
retires-spare step e = refl

pub spares-retires : (v w : View) → Only retires v w → Only spares_blocks v w
spares-retires v w o = only-more retires spares_blocks retires-spare v w o
