-- A variable of section 0 refers to one object in the whole run, if its seat stores there once.
use Rattle.std.proofs.Common.{ℕ, zero, suc, ◌≡◌, ◌≢◌, ◌⊎◌, ◌+◌, ◌<◌, ◌≤◌, ◌==◌, ◌&&◌, ◌∙◌, List, [], ◌∷◌, ◌++◌, set, take, length, ap, arith, inl, inr, not, refl, subst, sym, ⊎_elim, Bool, true, false, Option, None, Some}
use Rattle.std.specs.Prelude.{if◌then◌else◌, nat_lt, replicate, slice_get, slice_index_or, is_none}
use Rattle.std.proofs.lemmas.Bool.{and_from, and_parts, cases_eq, cases_lt, eq-eqb, false≢true}
use Rattle.std.proofs.lemmas.List.{get_or-set_other}
use Rattle.plain_heap.specs.Paths.{Name}
use Rattle.mark_core.specs.Layout.{words_of}
use Rattle.mark_core.specs.Laws.{IsCore}
use Rattle.mark_core.specs.Seats.{may_mutate}
use Rattle.mark_core.specs.Steps.{Core, after_event, failing_part, start_core, run_of}
use Rattle.mark_core.specs.declared.kinds.Event.{Event}
use Rattle.mark_core.specs.declared.kinds.Shape.{Shape}
use Rattle.mark_core.specs.declared.kinds.Step.{Step}
use Rattle.mark_core.specs.declared.kinds.Step.TheVariants.{ExchangeField, ExchangeValue, Join, ReadCat, ReadOwn, ReadSlot, Split, StoreField, StoreNew, StoreRoot, StoreSlot, StoreValue, ReadWeak, HoldRoot}
use Rattle.mark_core.specs.declared.seat.SeatState.{SeatState}
use Rattle.mark_core.proofs.Known.{Acted, acts}
use Rattle.mark_core.proofs.Blocks.BlocksStopped.{Taken}
use Rattle.gc_table.specs.Log.{all_steps}
use Rattle.gc_table.specs.Past.{adds, entries_of, log_from}
use Rattle.gc_table.specs.declared.view.Entry.{Entry}
use Rattle.gc_table.specs.AgreementLaws.{world_after, world_of, world_run, TellsOf}
use Rattle.gc_table.specs.RunWorlds.{World, WorldObject, WorldSection, in_section, own_section, replaced, section_of, start_section, start_world, variable_of, with_new, with_object, with_part, with_register, with_variable, world_by}
use Rattle.gc_table.proofs.Reading.{section-other, view-kept}
use Rattle.gc_table.proofs.Frame.{Mutates, mutates}
use Rattle.gc_table.specs.Lending.{OneObjectLent, leaves_variable, stores_once}
use Rattle.gc_table.specs.Runs.{AreAllowed}
use Rattle.gc_table.proofs.Freeing.{allowed}
use Rattle.gc_table.proofs.History.Past.{run-first, closed_ran}
use Rattle.gc_table.specs.Agreement.{AgreesWith}
use Rattle.gc_table.proofs.Kept.{agrees-kept, agrees-starts}
use Rattle.gc_table.proofs.Telling.{tells-once}
use Rattle.gc_table.specs.Sharing.{ThreadsShareOneHeap}

-- Threads that share objects act on one plain heap.
-- the heap after a first event that is allowed, and more
pub world-first : (c : Core) (e : Event) (es : List Event) (world : World) → failing_part c e ≡ None → world_run (e ∷ es) c world ≡ world_run es (after_event c e) (world_after c e world)
world-first c e es world ok = ap (λ (o : Option ℕ). if is_none o then world_run es (after_event c e) (world_after c e world) else world) ok

-- each state of a run meets the rule of the core
abbrev pub Sound : Core → List Event → Type 0
Sound c es = (n : ℕ) → IsCore (run_of (take n es) c)

pub later-sound : (c : Core) (e : Event) (es : List Event) → failing_part c e ≡ None → Sound c (e ∷ es) → Sound (after_event c e) es
later-sound c e es ok core n = subst IsCore (run-first c e (take n es) ok) (core (suc n))

-- after the first k events they agree
pub agree-on : (es : List Event) (c : Core) (world : World) → Sound c es → AreAllowed c es → AgreesWith c world → (k : ℕ) → AgreesWith (run_of (take k es) c) (world_run (take k es) c world)
agree-on es c world core ok a zero = a
agree-on [] c world core ok a (suc k) = a
agree-on (e ∷ es) c world core ok a (suc k) =
    let rest : AgreesWith (run_of (take k es) (after_event c e)) (world_run (take k es) (after_event c e) (world_after c e world)) =
    agree-on es (after_event c e) (world_after c e world) (later-sound c e es ok.0 core) ok.1 (agrees-kept c e world (core 0) a ok.0) k in
    subst (λ (x : Core). AgreesWith x (world_run (e ∷ take k es) c world)) (sym (run-first c e (take k es) ok.0))
    (subst (AgreesWith (run_of (take k es) (after_event c e))) (sym (world-first c e (take k es) world ok.0)) rest)

-- the event after the first k finds what the heap has
pub tells-on : (es : List Event) (c : Core) (world : World) → Sound c es → AreAllowed c es → AgreesWith c world → (k : ℕ) (f : Event) → slice_get es k ≡ Some f
    → TellsOf (run_of (take k es) c) (world_run (take k es) c world) (slice_get (run_of (take k es) c).seats f.seat) f.step
tells-on [] c world core ok a k f at = absurd (cc)
tells-on (e ∷ es) c world core ok a zero f at =
    let same : e ≡ f = some_same e f at in
    subst (λ (x : Event). TellsOf c world (slice_get c.seats x.seat) x.step) same (tells-once c world e (core 0) a ok.0)
  where
    some_same : (x y : Event) → Some x ≡ Some y → x ≡ y
    some_same x y h = ap (λ (o : Option Event). event_or x o) h
      where
        event_or : Event → Option Event → Event
        event_or z None = z
        event_or z (Some y) = y
tells-on (e ∷ es) c world core ok a (suc k) f at =
    let rest = tells-on es (after_event c e) (world_after c e world) (later-sound c e es ok.0 core) ok.1 (agrees-kept c e world (core 0) a ok.0) k f at in
    subst (λ (x : Core). TellsOf x (world_run (e ∷ take k es) c world) (slice_get x.seats f.seat) f.step) (sym (run-first c e (take k es) ok.0))
    (subst (λ (y : World). TellsOf (run_of (take k es) (after_event c e)) y (slice_get (run_of (take k es) (after_event c e)).seats f.seat) f.step) (sym (world-first c e (take k es) world ok.0)) rest)

pub threads_share_one_heap : ThreadsShareOneHeap
threads_share_one_heap sh seats w end =
    let ran = closed_ran sh seats w end in
    let all : AreAllowed (start_core sh 1) ran.0 = allowed 0 ran.0 (start_core sh 1) ran.1.allowed in
    let start : AgreesWith (start_core sh 1) (start_world sh) = agrees-starts sh 1 (ran.1.sound 0).formed.shaped in
    (ran.0, ran.1, agree-on ran.0 (start_core sh 1) (start_world sh) ran.1.sound all start, tells-on ran.0 (start_core sh 1) (start_world sh) ran.1.sound all start)

-- a section that doesn't exist doesn't change
set_past : {X : Type 0} (xs : List X) (i : ℕ) (x : X) → length xs ≤ i → set xs i x ≡ xs
set_past [] i x h = refl
set_past (y ∷ ys) zero x h = absurd (omega (arith, h))
set_past {X = X} (y ∷ ys) (suc i) x h = ap (λ (zs : List X). y ∷ zs) (set_past ys i x (omega (arith, h)))

-- what a change leaves of each section it leaves of the heap
kept : (world : World) (w k v : ℕ) (f : WorldSection → WorldSection) → ((x : WorldSection) → slice_index_or (f x).variables v None ≡ slice_index_or x.variables v None) → variable_of (in_section world w f) k v ≡ variable_of world k v
kept world w k v f same =
    ⊎_elim
    (λ (h : w < length world). view-kept (λ (x : WorldSection). slice_index_or x.variables v None) world w k f h (same (section_of world w)))
    (λ (h : length world ≤ w). ap (λ (x : World). variable_of x k v) (set_past world w (f (section_of world w)) h))
    (cases_lt w (length world))

object_kept : (world : World) (to : Option Name) (f : WorldObject → WorldObject) (k v : ℕ) → variable_of (with_object world to f) k v ≡ variable_of world k v
object_kept world None f k v = refl
object_kept world (Some name) f k v = kept world name.section k v (λ x. record x { objects = replaced x.objects name.number f }) (λ x. refl)

part_by : (a b : Bool) (x y z : WorldSection) (v : ℕ) → y.variables ≡ x.variables → z.variables ≡ x.variables → slice_index_or (if a then x else if b then y else z).variables v None ≡ slice_index_or x.variables v None
part_by true b x y z v f g = refl
part_by false true x y z v f g = ap (λ (xs : List (Option Name)). slice_index_or xs v None) f
part_by false false x y z v f g = ap (λ (xs : List (Option Name)). slice_index_or xs v None) g

part_kept : (fields part word v : ℕ) (x : WorldSection) → slice_index_or (with_part fields part word x).variables v None ≡ slice_index_or x.variables v None
part_kept fields part word v x = part_by (nat_lt part fields) (part == fields) x (record x { coming = word }) (with_new fields x) v refl refl

-- another variable
other_kept : (world : World) (w k u v : ℕ) (to : Option Name) → v ≢ u → variable_of (in_section world w (with_variable u to)) k v ≡ variable_of world k v
other_kept world w k u v to d = kept world w k v (with_variable u to) (λ x. get_or-set_other x.variables u v to None d)

-- a step leaves variable v of section 0, if it isn't a store there by the seat of that section
step_keeps : (c : Core) (i : ℕ) (s : SeatState) (step : Step) (world : World) (v : ℕ) → Taken c i s step → (i ≡ 0 → leaves_variable v step ≡ true) → v < 32 → variable_of (world_by c.shape (words_of c.shape c.words) s step world) 0 v ≡ variable_of world 0 v
step_keeps c i s (StoreField u j x) world v k leaves below = object_kept world (variable_of world (own_section s) u) _ 0 v
step_keeps c i s (StoreValue u n) world v k leaves below = object_kept world (variable_of world (own_section s) u) _ 0 v
step_keeps c i s (ExchangeField u j x y) world v k leaves below = object_kept world (variable_of world (own_section s) u) _ 0 v
step_keeps c i s (ExchangeValue u m n) world v k leaves below = object_kept world (variable_of world (own_section s) u) _ 0 v
step_keeps c i s (StoreRoot u r) world v k leaves below =
    let mu : Mutates c i s = mutates c i s (StoreRoot u r) k (and_parts (nat_lt u 32) (may_mutate s) k.ok.0).1 in
    ⊎_elim
    (λ (e : i ≡ 0). other_kept world (own_section s) 0 u v _ (λ same. absurd (false≢true (sym (ap not (eq-eqb u v (sym same))) ∙ leaves e))))
    (λ (d : i ≢ 0). ap (λ (x : WorldSection). slice_index_or x.variables v None) (section-other world (own_section s) 0 (with_variable u _) (λ e. d (sym mu.own ∙ sym e))))
    (cases_eq i 0)
step_keeps c i s (HoldRoot u r) world v k leaves below =
    let mu : Mutates c i s = mutates c i s (HoldRoot u r) k (and_parts (nat_lt u 32) (may_mutate s) k.ok.0).1 in
    ⊎_elim
    (λ (e : i ≡ 0). other_kept world (own_section s) 0 u v _ (λ same. absurd (false≢true (sym (ap not (eq-eqb u v (sym same))) ∙ leaves e))))
    (λ (d : i ≢ 0). ap (λ (x : WorldSection). slice_index_or x.variables v None) (section-other world (own_section s) 0 (with_variable u _) (λ e. d (sym mu.own ∙ sym e))))
    (cases_eq i 0)
step_keeps c i s (StoreSlot j r) world v k leaves below = other_kept world (own_section s) 0 (32 + j) v _ (λ e. omega (arith, e, below))
step_keeps c i s (ReadSlot j) world v k leaves below = kept world (own_section s) 0 v (with_register _) (λ x. refl)
step_keeps c i s (ReadWeak x) world v k leaves below = kept world (own_section s) 0 v (with_register _) (λ y. refl)
step_keeps c i s (ReadOwn x j) world v k leaves below = kept world (own_section s) 0 v (with_register _) (λ x. refl)
step_keeps c i s (ReadCat u) world v k leaves below = kept world (own_section s) 0 v (with_register _) (λ x. refl)
step_keeps c i s (StoreNew x part word) world v k leaves below =
    kept world (own_section s) 0 v (with_part c.shape.fields part word) (λ y. part_kept c.shape.fields part word v y)
step_keeps c i s step world v k leaves below = refl

-- what the log of a seat has of a step
logged_leaves : (c : Core) (s : SeatState) (step : Step) (v : ℕ) → all_steps (leaves_variable v) (entries_of c (Some s) step) ≡ true → leaves_variable v step ≡ true
logged_leaves c s Split v h = refl
logged_leaves c s (Join other) v h = refl
logged_leaves c s step v h = (and_parts (leaves_variable v step) true h).0

-- and so does an event whose entry in that seat's log is none there
pub event_keeps : (c : Core) (e : Event) (world : World) (v : ℕ) → IsCore c → failing_part c e ≡ None → v < 32 → all_steps (leaves_variable v) (adds 0 c e) ≡ true → variable_of (world_after c e world) 0 v ≡ variable_of world 0 v
event_keeps c e world v k f below all =
    let r : (s : SeatState) × Acted c e s = acts c e k f in
    let t : Taken c e.seat r.0 e.step = record { core = k; got = r.1.seat; live = r.1.live; ok = r.1.ok } in
    let leaves : e.seat ≡ 0 → leaves_variable v e.step ≡ true =
    λ first.
    logged_leaves c r.0 e.step v
    (sym (ap (λ (b : Bool). all_steps (leaves_variable v) (if b then entries_of c (slice_get c.seats e.seat) e.step else [])) (eq-eqb e.seat 0 first) ∙ ap (λ (o : Option SeatState). all_steps (leaves_variable v) (entries_of c o e.step)) r.1.seat) ∙ all) in
    subst (λ (o : Option SeatState). variable_of (world_of c o e.step world) 0 v ≡ variable_of world 0 v) (sym r.1.seat) (step_keeps c e.seat r.0 e.step world v t leaves below)

pub all_split : (P : Step → Bool) (xs ys : List Entry) → all_steps P (xs ++ ys) ≡ true → (all_steps P xs ≡ true) × (all_steps P ys ≡ true)
all_split P [] ys h = (refl, h)
all_split P (x ∷ xs) ys h = let p = and_parts (P x.step) (all_steps P (xs ++ ys)) h in let q = all_split P xs ys p.1 in (and_from (P x.step) (all_steps P xs) p.0 q.0, q.1)

once_later : (v : ℕ) (xs ys : List Entry) → all_steps (leaves_variable v) xs ≡ true → stores_once v (xs ++ ys) ≡ true → stores_once v ys ≡ true
once_later v [] ys a h = h
once_later v (x ∷ xs) ys a h =
    let p = and_parts (leaves_variable v x.step) (all_steps (leaves_variable v) xs) a in
    once_later v xs ys p.1 (sym (ap (λ (b : Bool). if b then stores_once v (xs ++ ys) else all_steps (leaves_variable v) (xs ++ ys)) p.0) ∙ h)

once_by : (v : ℕ) (x : Entry) (xs ys : List Entry) (b : Bool) → leaves_variable v x.step ≡ b → (all_steps (leaves_variable v) xs ≡ false → stores_once v (xs ++ ys) ≡ true → all_steps (leaves_variable v) ys ≡ true) → all_steps (leaves_variable v) (x ∷ xs) ≡ false
    → stores_once v (x ∷ xs ++ ys) ≡ true → all_steps (leaves_variable v) ys ≡ true
once_by v x xs ys true e rest a h =
    rest (sym (ap (λ (b : Bool). b && all_steps (leaves_variable v) xs) e) ∙ a) (sym (ap (λ (b : Bool). if b then stores_once v (xs ++ ys) else all_steps (leaves_variable v) (xs ++ ys)) e) ∙ h)
once_by v x xs ys false e rest a h = (all_split (leaves_variable v) xs ys (sym (ap (λ (b : Bool). if b then stores_once v (xs ++ ys) else all_steps (leaves_variable v) (xs ++ ys)) e) ∙ h)).1

once_now : (v : ℕ) (xs ys : List Entry) → all_steps (leaves_variable v) xs ≡ false → stores_once v (xs ++ ys) ≡ true → all_steps (leaves_variable v) ys ≡ true
once_now v [] ys a h = absurd (false≢true (sym a))
once_now v (x ∷ xs) ys a h = once_by v x xs ys (leaves_variable v x.step) refl (once_now v xs ys) a h

-- variable v of section 0 after the first k events
abbrev pub after_some : List Event → Core → World → ℕ → ℕ → Option Name
after_some es c world v k = variable_of (world_run (take k es) c world) 0 v

pub first_more : (e : Event) (es : List Event) (c : Core) (world : World) (v k : ℕ) → failing_part c e ≡ None → after_some (e ∷ es) c world v (suc k) ≡ after_some es (after_event c e) (world_after c e world) v k
first_more e es c world v k ok = ap (λ (x : World). variable_of x 0 v) (world-first c e (take k es) world ok)

-- no event stores there
pub none_stores : (es : List Event) (c : Core) (world : World) (v : ℕ) → Sound c es → AreAllowed c es → v < 32 → all_steps (leaves_variable v) (log_from 0 c es) ≡ true → (k : ℕ) → after_some es c world v k ≡ variable_of world 0 v
none_stores es c world v sound ok below all zero = refl
none_stores [] c world v sound ok below all (suc k) = refl
none_stores (e ∷ es) c world v sound ok below all (suc k) =
    let parts = all_split (leaves_variable v) (adds 0 c e) (log_from 0 (after_event c e) es) all in
    first_more e es c world v k ok.0
    ∙ (none_stores es (after_event c e) (world_after c e world) v (later-sound c e es ok.0 sound) ok.1 below parts.1 k ∙ event_keeps c e world v (sound 0) ok.0 below parts.0)

-- nothing or this one, after each number of events
abbrev IsOne : List Event → Core → World → ℕ → Name → ℕ → Type 0
IsOne es c world v name k = (after_some es c world v k ≡ None) ⊎ (after_some es c world v k ≡ Some name)

abbrev pub some_name : Name
some_name = record { section = 0; number = 0 }

one_stores : (es : List Event) (c : Core) (world : World) (v : ℕ) → Sound c es → AreAllowed c es → v < 32 → stores_once v (log_from 0 c es) ≡ true → variable_of world 0 v ≡ None → (name : Name) × ((k : ℕ) → IsOne es c world v name k)
one_stores [] c world v sound ok below once none = (some_name, each)
  where
    each : (k : ℕ) → IsOne [] c world v some_name k
    each zero = inl none
    each (suc k) = inl none
one_stores (e ∷ es) c world v sound ok below once none =
    of (all_steps (leaves_variable v) (adds 0 c e)) refl
    (λ all. one_stores es d after v later ok.1 below (once_later v (adds 0 c e) (log_from 0 d es) all once) (event_keeps c e world v (sound 0) ok.0 below all ∙ none))
  where
    d : Core
    d = after_event c e

    after : World
    after = world_after c e world

    later : Sound d es
    later = later-sound c e es ok.0 sound

    Is : Type 0
    Is = (name : Name) × ((k : ℕ) → IsOne (e ∷ es) c world v name k)

    with_rest : (name : Name) → ((k : ℕ) → IsOne es d after v name k) → Is
    with_rest name rest = (name, each)
      where
        each : (k : ℕ) → IsOne (e ∷ es) c world v name k
        each zero = inl none
        each (suc k) = subst (λ (o : Option Name). (o ≡ None) ⊎ (o ≡ Some name)) (sym (first_more e es c world v k ok.0)) (rest k)

    stored : (o : Option Name) → variable_of after 0 v ≡ o → ((k : ℕ) → after_some es d after v k ≡ variable_of after 0 v) → Is
    stored None is same = with_rest some_name (λ k. inl (same k ∙ is))
    stored (Some name) is same = with_rest name (λ k. inr (same k ∙ is))

    of : (b : Bool) → all_steps (leaves_variable v) (adds 0 c e) ≡ b → (all_steps (leaves_variable v) (adds 0 c e) ≡ true → (name : Name) × ((k : ℕ) → IsOne es d after v name k)) → Is
    of true all rest = let r = rest all in with_rest r.0 r.1
    of false all rest = stored (variable_of after 0 v) refl (none_stores es d after v later ok.1 below (once_now v (adds 0 c e) (log_from 0 d es) all once))

abbrev no_name : Option Name
no_name = None

none_at : (n v : ℕ) → slice_index_or (replicate n no_name) v None ≡ None
none_at zero v = refl
none_at (suc n) zero = refl
none_at (suc n) (suc v) = none_at n v

pub none_starts : (n : ℕ) (sh : Shape) (v : ℕ) → slice_index_or (section_of (replicate n (start_section sh)) 0).variables v None ≡ None
none_starts zero sh v = none_at 32 v
none_starts (suc n) sh v = none_at (32 + sh.slots) v

pub one-object-lent : OneObjectLent
one-object-lent sh seats w es run first at v below once =
    let all : AreAllowed (start_core sh 1) es = allowed 0 es (start_core sh 1) run.allowed in
    one_stores es (start_core sh 1) (start_world sh) v run.sound all below (subst (λ (l : List Entry). stores_once v l ≡ true) (run.parts 0 first at) once) (none_starts sh.sections sh v)
