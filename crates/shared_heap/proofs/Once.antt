-- The seat of section 0 stores in its variable 0 once.
use Rattle.std.proofs.Common.{ℕ, ◌≡◌, ◌+◌, ◌∙◌, List, [], ◌∷◌, ◌++◌, ap, drop, length, map, refl, subst, sym, Bool, true, false}
use Rattle.std.specs.Prelude.{if◌then◌else◌}
use Rattle.std.specs.List.{range_with_len}
use Rattle.std.proofs.lemmas.Bool.{and_from, and_parts, false≢true}
use Rattle.mark_core.specs.declared.kinds.Step.{Step}
use Rattle.mark_core.specs.declared.kinds.Step.TheVariants.{StoreNew, StoreRoot, HoldRoot}
use Rattle.alloc_cache.specs.Making.{making_steps, nil_fields}
use Rattle.gc_table.specs.Log.{all_steps, events, steps_of}
use Rattle.gc_table.specs.declared.view.Entry.{Entry}
use Rattle.gc_table.specs.declared.view.View.{View}
use Rattle.gc_table.proofs.Running.{ran-events, ran-join}
use Rattle.gc_table.specs.Lending.{leaves_variable, stores_once}
use Rattle.seat_turns.specs.Sharing.{spares_heap}
use Rattle.shared_heap.specs.Rooting.{MakesRoot, spares_season}
use Rattle.shared_heap.proofs.Rooted.{all-more}

pub spared : (step : Step) → spares_heap step ≡ true → leaves_variable 0 step ≡ true
spared (StoreRoot v r) e = absurd (false≢true e)
spared (HoldRoot v r) e = absurd (false≢true e)
spared step e = refl

pub season-spared : (step : Step) → spares_season step ≡ true → leaves_variable 0 step ≡ true
season-spared (StoreRoot v r) e = absurd (false≢true e)
season-spared (HoldRoot v r) e = absurd (false≢true e)
season-spared step e = refl

-- a list of steps none of which stores in variable 0
abbrev LeaveAll : List Step → Type 0
LeaveAll [] = Unit {0}
LeaveAll (s ∷ ss) = (leaves_variable 0 s ≡ true) × LeaveAll ss

leave_join : (xs ys : List Step) → LeaveAll xs → LeaveAll ys → LeaveAll (xs ++ ys)
leave_join [] ys a b = b
leave_join (x ∷ xs) ys a b = (a.0, leave_join xs ys a.1 b)

fields_leave : (c : ℕ) (ns : List ℕ) → LeaveAll (map (λ i. StoreNew c i 0) ns)
fields_leave c [] = tt
fields_leave c (n ∷ ns) = (refl, fields_leave c ns)

making_leave : (fields c value identity : ℕ) → LeaveAll (making_steps fields c value identity)
making_leave fields c value identity = leave_join (nil_fields c fields) (StoreNew c fields value ∷ StoreNew c (fields + 1) identity ∷ []) (fields_leave c (range_with_len 0 fields)) (refl, (refl, tt))

once_before : (xs ys : List Entry) → all_steps (leaves_variable 0) xs ≡ true → stores_once 0 ys ≡ true → stores_once 0 (xs ++ ys) ≡ true
once_before [] ys a h = h
once_before (x ∷ xs) ys a h =
    let p = and_parts (leaves_variable 0 x.step) (all_steps (leaves_variable 0) xs) a in
    ap (λ (b : Bool). if b then stores_once 0 (xs ++ ys) else all_steps (leaves_variable 0) (xs ++ ys)) p.0 ∙ once_before xs ys p.1 h

once_by : (b : Bool) (ys : List Entry) → all_steps (leaves_variable 0) ys ≡ true → stores_once 0 ys ≡ true → (if b then stores_once 0 ys else all_steps (leaves_variable 0) ys) ≡ true
once_by true ys a h = h
once_by false ys a h = a

once_none : (ys : List Entry) → all_steps (leaves_variable 0) ys ≡ true → stores_once 0 ys ≡ true
once_none [] a = refl
once_none (y ∷ ys) a =
    let p = and_parts (leaves_variable 0 y.step) (all_steps (leaves_variable 0) ys) a in
    ap (λ (b : Bool). if b then stores_once 0 ys else all_steps (leaves_variable 0) ys) p.0 ∙ once_none ys p.1

-- these steps, one more, and then such that leave the variable
once_made : (mids rest : List Entry) (a : List Step) (b : Step) → steps_of mids ≡ a ++ b ∷ [] → LeaveAll a → all_steps (leaves_variable 0) rest ≡ true → stores_once 0 (mids ++ rest) ≡ true
once_made [] rest [] b e l h = once_none rest h
once_made [] rest (s ∷ a) b e l h = once_none rest h
once_made (m ∷ mids) rest [] b e l h =
    let none : mids ≡ [] = none_left mids (ap tail e) in
    subst (λ (xs : List Entry). stores_once 0 (m ∷ xs ++ rest) ≡ true) (sym none) (once_by (leaves_variable 0 m.step) rest h (once_none rest h))
  where
    tail : List Step → List Step
    tail [] = []
    tail (s ∷ ss) = ss

    none_left : (xs : List Entry) → steps_of xs ≡ [] → xs ≡ []
    none_left [] e = refl
    none_left (x ∷ xs) e = absurd (cc)
once_made (m ∷ mids) rest (s ∷ a) b e l h =
    let first : m.step ≡ s = head_is e in
    ap (λ (q : Bool). if q then stores_once 0 (mids ++ rest) else all_steps (leaves_variable 0) (mids ++ rest)) (ap (leaves_variable 0) first ∙ l.0) ∙ once_made mids rest a b (tail_is e) l.1 h
  where
    head_is : m.step ∷ steps_of mids ≡ s ∷ (a ++ b ∷ []) → m.step ≡ s
    head_is h = cc

    tail_is : m.step ∷ steps_of mids ≡ s ∷ (a ++ b ∷ []) → steps_of mids ≡ a ++ b ∷ []
    tail_is h = cc

-- the log of a seat that made the root: what came before, what made it, and what came after
pub root-log : (start w : View) → start.log ≡ [] → (m : MakesRoot start w) → w.log ≡ events start m.before ++ (events m.before m.made ++ events m.made w)
root-log start w empty m =
    let later = ran-events m.before m.made w m.creates.ran m.rest.ran in
    let all = ran-events start m.before w m.comes.ran (ran-join m.before m.made w m.creates.ran m.rest.ran) in
    ap (λ (l : List Entry). drop (length l) w.log) (sym empty) ∙ (all ∙ ap (λ (l : List Entry). events start m.before ++ l) later)

-- the seat of section 0 stores in its variable 0 once
pub root-once : (start w : View) → start.log ≡ [] → MakesRoot start w → stores_once 0 w.log ≡ true
root-once start w empty m =
    let front = all-more spares_season (leaves_variable 0) season-spared (events start m.before) m.comes.only in
    let back = all-more spares_heap (leaves_variable 0) spared (events m.made w) m.rest.only in
    ap (stores_once 0) (root-log start w empty m)
    ∙ once_before (events start m.before) (events m.before m.made ++ events m.made w) front
    (once_made (events m.before m.made) (events m.made w) _ _ m.creates.steps_are (making_leave _ _ _ _) back)

then_by : (b : Bool) (xs ys : List Entry) → all_steps (leaves_variable 0) ys ≡ true → (stores_once 0 xs ≡ true → stores_once 0 (xs ++ ys) ≡ true) → (all_steps (leaves_variable 0) xs ≡ true → all_steps (leaves_variable 0) (xs ++ ys) ≡ true)
    → (if b then stores_once 0 xs else all_steps (leaves_variable 0) xs) ≡ true → (if b then stores_once 0 (xs ++ ys) else all_steps (leaves_variable 0) (xs ++ ys)) ≡ true
then_by true xs ys a once all h = once h
then_by false xs ys a once all h = all h

all_then : (xs ys : List Entry) → all_steps (leaves_variable 0) ys ≡ true → all_steps (leaves_variable 0) xs ≡ true → all_steps (leaves_variable 0) (xs ++ ys) ≡ true
all_then [] ys a h = a
all_then (x ∷ xs) ys a h = let p = and_parts (leaves_variable 0 x.step) (all_steps (leaves_variable 0) xs) h in and_from (leaves_variable 0 x.step) (all_steps (leaves_variable 0) (xs ++ ys)) p.0 (all_then xs ys a p.1)

pub once-then : (xs ys : List Entry) → all_steps (leaves_variable 0) ys ≡ true → stores_once 0 xs ≡ true → stores_once 0 (xs ++ ys) ≡ true
once-then [] ys a h = once_none ys a
once-then (x ∷ xs) ys a h = then_by (leaves_variable 0 x.step) xs ys a (once-then xs ys a) (all_then xs ys a) h
