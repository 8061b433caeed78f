-- A call that ended a cycle took the step to which the law of open tables applies.
use Rattle.std.proofs.Common.{ℕ, ◌≡◌, List, [], ◌∷◌, refl, sym, ap, ◌∙◌, subst, Bool, true, false, not}
use Rattle.std.specs.Prelude.{◌&&◌, IsFalse}
use Rattle.std.proofs.lemmas.Bool.{false≢true}
use Rattle.mark_core.specs.declared.kinds.Phase.TheVariants.{Idle}
use Rattle.mark_core.specs.declared.kinds.Step.{Step}
use Rattle.mark_core.specs.declared.kinds.Step.TheVariants.{StorePhase}
use Rattle.gc_table.specs.Log.{all_steps, events}
use Rattle.gc_table.specs.Running.{AllSeen, after_all, is_store, IsSeen, Ran}
use Rattle.gc_table.specs.Taking.{after, Finds}
use Rattle.gc_table.specs.declared.view.Entry.{Entry}
use Rattle.gc_table.specs.declared.view.View.{View}
use Rattle.gc_table.proofs.Running.{ran-after, ran-join, ran-refl}
use Rattle.garbage_laws.specs.Calls.{CallsFreeGarbage, ended_cycle, FreesBetween, FreesGarbage}
use Rattle.garbage_laws.specs.Garbage.{ends_cycle}
use Rattle.garbage_laws.proofs.OpenTables.{table_garbage_goes}

is-move : (step : Step) → ends_cycle step ≡ true → step ≡ StorePhase Idle
is-move (StorePhase Idle) e = refl
is-move step e = absurd (false≢true e)

-- steps, each of which found its word, are what a call did
ran-all : (es : List Entry) (v : View) → AllSeen es v → Ran v (after_all es v)
ran-all [] v seen = ran-refl v
ran-all (e ∷ es) v seen = ran-join v (after e.step e.found v) (after_all es (after e.step e.found v)) (ran-after v (after e.step e.found v) e.step e.found refl seen.0) (ran-all es (after e.step e.found v) seen.1)

frees-here : (n : ℕ) (v : View) (f : Finds (StorePhase Idle) n v) → FreesGarbage n v f
frees-here n v f =
    record {
      freed = λ before since found x s g. table_garbage_goes.freed n v f before since found x s g;
      gone = λ before since found x s g. table_garbage_goes.gone n v f before since found x s g;
    }

-- the first step is the move
frees-first : (step : Step) (n : ℕ) (v w : View) → step ≡ StorePhase Idle → IsSeen step n v → Ran (after step n v) w → FreesBetween v w
frees-first step n v w is seen ran =
    let here : IsSeen (StorePhase Idle) n v = subst (λ (s : Step). IsSeen s n v) is seen in
    let f : Finds (StorePhase Idle) n v = here.found refl in
    record { before = v; word = n; finds = f; came = ran-refl v; went = subst (λ (s : Step). Ran (after s n v) w) is ran; frees = frees-here n v f }

-- a step comes before
frees-later : (u v w : View) → Ran u v → FreesBetween v w → FreesBetween u w
frees-later u v w ran b = record { before = b.before; word = b.word; finds = b.finds; came = ran-join u v b.before ran b.came; went = b.went; frees = b.frees }

-- what is left of the steps is known to have such a step if the first is none
frees-next :
    (e : Entry) (es : List Entry) (v : View) (b : Bool) → ends_cycle e.step ≡ b → AllSeen (e ∷ es) v → ended_cycle (e ∷ es) ≡ true → (ended_cycle es ≡ true → FreesBetween (after e.step e.found v) (after_all es (after e.step e.found v)))
    → FreesBetween v (after_all es (after e.step e.found v))
frees-next e es v true is seen ended rest = frees-first e.step e.found v (after_all es (after e.step e.found v)) (is-move e.step is) seen.0 (ran-all es (after e.step e.found v) seen.1)
frees-next e es v false is seen ended rest =
    let x : View = after e.step e.found v in
    frees-later v x (after_all es x) (ran-after v x e.step e.found refl seen.0) (rest (ap (λ (b : Bool). not (not b && all_steps (λ step. not (ends_cycle step)) es)) (sym is) ∙ ended))

frees-among : (es : List Entry) (v : View) → AllSeen es v → ended_cycle es ≡ true → FreesBetween v (after_all es v)
frees-among [] v seen ended = absurd (false≢true ended)
frees-among (e ∷ es) v seen ended = frees-next e es v (ends_cycle e.step) refl seen ended (frees-among es (after e.step e.found v) seen.1)

pub calls_free_garbage : CallsFreeGarbage
calls_free_garbage u w ran ended = subst (λ (x : View). FreesBetween u x) (sym ran.steps) (frees-among (events u w) u ran.seen ended)
