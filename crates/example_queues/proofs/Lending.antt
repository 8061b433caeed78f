-- The object to which variable 0 of section 0 refers in a run of an open world, if the seat of that section stores there once.
use Rattle.std.proofs.Common.{ℕ, zero, suc, ◌≡◌, ◌⊎◌, ◌<◌, ◌&&◌, ◌∙◌, List, [], ◌∷◌, ◌++◌, ap, inl, inr, refl, subst, sym, Bool, true, false, Option, None, Some}
use Rattle.std.specs.Prelude.{if◌then◌else◌}
use Rattle.std.proofs.lemmas.Bool.{and_parts, false≢true}
use Rattle.plain_heap.specs.Paths.{Name}
use Rattle.mark_core.specs.Steps.{Core, after_event}
use Rattle.mark_core.specs.declared.kinds.Event.{Event}
use Rattle.gc_table.specs.AgreementLaws.{world_after}
use Rattle.gc_table.specs.Lending.{leaves_variable, stores_once}
use Rattle.gc_table.specs.Log.{all_steps}
use Rattle.gc_table.specs.Past.{adds, log_from}
use Rattle.gc_table.specs.Runs.{AreAllowed}
use Rattle.gc_table.specs.RunWorlds.{World, variable_of}
use Rattle.gc_table.specs.declared.view.Entry.{Entry}
use Rattle.gc_table.proofs.Lending.{Sound, after_some, all_split, event_keeps, first_more, later-sound, none_stores, some_name}

once_later : (v : ℕ) (xs ys : List Entry) → all_steps (leaves_variable v) xs ≡ true → stores_once v (xs ++ ys) ≡ true → stores_once v ys ≡ true
once_later v [] ys a h = h
once_later v (x ∷ xs) ys a h =
    let p = and_parts (leaves_variable v x.step) (all_steps (leaves_variable v) xs) a in
    once_later v xs ys p.1 (sym (ap (λ (b : Bool). if b then stores_once v (xs ++ ys) else all_steps (leaves_variable v) (xs ++ ys)) p.0) ∙ h)

once_by : (v : ℕ) (x : Entry) (xs ys : List Entry) (b : Bool) → leaves_variable v x.step ≡ b → (all_steps (leaves_variable v) xs ≡ false → stores_once v (xs ++ ys) ≡ true → all_steps (leaves_variable v) ys ≡ true) → all_steps (leaves_variable v) (x ∷ xs) ≡ false
    → stores_once v (x ∷ xs ++ ys) ≡ true → all_steps (leaves_variable v) ys ≡ true
once_by v x xs ys true e rest a h =
    rest (sym (ap (λ (b : Bool). b && all_steps (leaves_variable v) xs) e) ∙ a) (sym (ap (λ (b : Bool). if b then stores_once v (xs ++ ys) else all_steps (leaves_variable v) (xs ++ ys)) e) ∙ h)
once_by v x xs ys false e rest a h = (all_split (leaves_variable v) xs ys (sym (ap (λ (b : Bool). if b then stores_once v (xs ++ ys) else all_steps (leaves_variable v) (xs ++ ys)) e) ∙ h)).1

once_now : (v : ℕ) (xs ys : List Entry) → all_steps (leaves_variable v) xs ≡ false → stores_once v (xs ++ ys) ≡ true → all_steps (leaves_variable v) ys ≡ true
once_now v [] ys a h = absurd (false≢true (sym a))
once_now v (x ∷ xs) ys a h = once_by v x xs ys (leaves_variable v x.step) refl (once_now v xs ys) a h

-- nothing or this one, after each number of events
abbrev pub IsOne : List Event → Core → World → ℕ → Name → ℕ → Type 0
IsOne es c world v name k = (after_some es c world v k ≡ None) ⊎ (after_some es c world v k ≡ Some name)

pub one-lent : (es : List Event) (c : Core) (world : World) (v : ℕ) → Sound c es → AreAllowed c es → v < 32 → stores_once v (log_from 0 c es) ≡ true → variable_of world 0 v ≡ None → (name : Name) × ((k : ℕ) → IsOne es c world v name k)
one-lent [] c world v sound ok below once none = (some_name, each)
  where
    each : (k : ℕ) → IsOne [] c world v some_name k
    each zero = inl none
    each (suc k) = inl none
one-lent (e ∷ es) c world v sound ok below once none =
    of (all_steps (leaves_variable v) (adds 0 c e)) refl
    (λ all. one-lent es d after v later ok.1 below (once_later v (adds 0 c e) (log_from 0 d es) all once) (event_keeps c e world v (sound 0) ok.0 below all ∙ none))
  where
    d : Core
    d = after_event c e

    after : World
    after = world_after c e world

    later : Sound d es
    later = later-sound c e es ok.0 sound

    Is : Type 0
    Is = (name : Name) × ((k : ℕ) → IsOne (e ∷ es) c world v name k)

    with_rest : (name : Name) → ((k : ℕ) → IsOne es d after v name k) → Is
    with_rest name rest = (name, each)
      where
        each : (k : ℕ) → IsOne (e ∷ es) c world v name k
        each zero = inl none
        each (suc k) = subst (λ (o : Option Name). (o ≡ None) ⊎ (o ≡ Some name)) (sym (first_more e es c world v k ok.0)) (rest k)

    stored : (o : Option Name) → variable_of after 0 v ≡ o → ((k : ℕ) → after_some es d after v k ≡ variable_of after 0 v) → Is
    stored None is same = with_rest some_name (λ k. inl (same k ∙ is))
    stored (Some name) is same = with_rest name (λ k. inr (same k ∙ is))

    of : (b : Bool) → all_steps (leaves_variable v) (adds 0 c e) ≡ b → (all_steps (leaves_variable v) (adds 0 c e) ≡ true → (name : Name) × ((k : ℕ) → IsOne es d after v name k)) → Is
    of true all rest = let r = rest all in with_rest r.0 r.1
    of false all rest = stored (variable_of after 0 v) refl (none_stores es d after v later ok.1 below (once_now v (adds 0 c e) (log_from 0 d es) all once))
