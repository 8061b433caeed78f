-- A lock among other objects: no two seats are inside.
use Rattle.std.proofs.Common.{ℕ, ◌≡◌, ◌≢◌, ◌==◌, zero, suc, List, [], ◌∷◌, ◌++◌, take, arith, refl, sym, ap, ◌∙◌, subst, Bool, true, false, Some, eqb-true, ⊎_elim}
use Rattle.std.specs.Prelude.{if◌then◌else◌}
use Rattle.std.proofs.lemmas.Bool.{and_from, and_parts, cases_eq, eq-eqb, false≢true, ne_eqb}
use Rattle.plain_heap.specs.Paths.{Name}
use Rattle.mark_core.specs.Steps.{Core, after_event}
use Rattle.mark_core.specs.declared.kinds.Event.{Event}
use Rattle.mark_core.specs.declared.kinds.Step.{Step}
use Rattle.mark_core.specs.declared.kinds.Step.TheVariants.{ExchangeValue, Join, Split, StoreValue}
use Rattle.mark_core.specs.declared.seat.SeatState.{SeatState}
use Rattle.mark_core.proofs.Known.{Acted, acts}
use Rattle.mark_core.proofs.Blocks.BlocksStopped.{Taken}
use Rattle.gc_table.specs.Agreement.{AgreesWith}
use Rattle.gc_table.specs.AgreementLaws.{world_after}
use Rattle.gc_table.specs.Log.{all_steps}
use Rattle.gc_table.specs.Past.{entries_of}
use Rattle.gc_table.specs.RunWorlds.{World, WorldObject, object_of}
use Rattle.gc_table.specs.Runs.{AreAllowed}
use Rattle.gc_table.specs.Single.{is_inside, takes_turn, takes_turns, turned}
use Rattle.gc_table.specs.declared.view.Entry.{Entry}
use Rattle.gc_table.proofs.Counted.{logged_all}
use Rattle.gc_table.proofs.Kept.{agrees-kept}
use Rattle.gc_table.proofs.Lending.{Sound, all_split, later-sound}
use Rattle.gc_table.proofs.Locked.{inside_join}
use Rattle.heap_laws.specs.Locks.{LockByName, stores_none}
use Rattle.heap_laws.specs.Named.{acts_on, adds_on, log_on}
use Rattle.heap_laws.proofs.Counters.{other-adds-on, own-adds-on}
use Rattle.heap_laws.proofs.Values.{value-found, value-next, value_by}

-- one seat at most is inside, and then the value is 1
pub record Held (n : ℕ) (b : ℕ → Bool) : Type 0 where
  pub one : (i j : ℕ) → b i ≡ true → b j ≡ true → i ≡ j
  pub locked : (i : ℕ) → b i ≡ true → n ≡ 1

held_less : (n : ℕ) (b d : ℕ → Bool) → ((i : ℕ) → d i ≡ true → b i ≡ true) → Held n b → Held n d
held_less n b d less h = record { one = λ i j p q. h.one i j (less i p) (less j q); locked = λ i p. h.locked i (less i p) }

-- an exchange of the value by seat a
pub exchange_held : (v m x n a : ℕ) (b d : ℕ → Bool) (q : Bool) → b a ≡ q → takes_turn q (ExchangeValue v m x) ≡ true → d a ≡ (if n == m then x == 1 else q) → ((i : ℕ) → i ≢ a → d i ≡ b i) → Held n b → Held (if n == m then x else n) d
exchange_held v m x n a b d true is turn here others h =
    let p = and_parts (m == 1) (x == 0) turn in
    let one : m ≡ 1 = eqb-true m 1 p.0 in
    let none : x ≡ 0 = eqb-true x 0 p.1 in
    let locked : n ≡ 1 = h.locked a is in
    let gone : d a ≡ false = here ∙ (ap (λ (z : Bool). if z then x == 1 else true) (eq-eqb n m (omega (arith, locked, one))) ∙ ne_eqb x 1 (λ e. omega (arith, e, none))) in
    let out : (i : ℕ) → d i ≡ true → ⊥ = λ i t. ⊎_elim (λ (e : i ≡ a). false≢true (sym gone ∙ (ap d (sym e) ∙ t))) (λ (f : i ≢ a). f (h.one i a (sym (others i f) ∙ t) is)) (cases_eq i a) in
    record { one = λ i j t u. absurd (out i t); locked = λ i t. absurd (out i t) }
exchange_held v m x n a b d false is turn here others h =
    let p = and_parts (m == 0) (x == 1) turn in
    by_found (eqb-true m 0 p.0) (eqb-true x 1 p.1) (n == m) refl
  where
    by_found : m ≡ 0 → x ≡ 1 → (r : Bool) → (n == m) ≡ r → Held (if n == m then x else n) d
    by_found none one true r =
        let free : n ≡ m = eqb-true n m r in
        let only : (i : ℕ) → d i ≡ true → i ≡ a =
        λ i t. ⊎_elim (λ (e : i ≡ a). e) (λ (f : i ≢ a). absurd (let locked = h.locked i (sym (others i f) ∙ t) in omega (arith, locked, free, none))) (cases_eq i a) in
        subst (λ (z : Bool). Held (if z then x else n) d) (sym r) (record { one = λ i j t u. only i t ∙ sym (only j u); locked = λ i t. one })
    by_found none one false r =
        let out : d a ≡ false = here ∙ ap (λ (z : Bool). if z then x == 1 else false) r in
        subst (λ (z : Bool). Held (if z then x else n) d) (sym r)
        (held_less n b d (λ i t. ⊎_elim (λ (e : i ≡ a). absurd (false≢true (sym out ∙ (ap d (sym e) ∙ t)))) (λ (f : i ≢ a). sym (others i f) ∙ t) (cases_eq i a)) h)

-- whether a seat is inside after it acted on the lock, whose value before was n
abbrev inside_after : Step → ℕ → Bool → Bool
inside_after (ExchangeValue v m x) n b = if n == m then x == 1 else b
inside_after step n b = b

-- nobody comes in or goes out
pub held_same : (n a : ℕ) (b d : ℕ → Bool) → d a ≡ b a → ((i : ℕ) → i ≢ a → d i ≡ b i) → Held n b → Held n d
held_same n a b d here others h = held_less n b d (λ i t. ⊎_elim (λ (e : i ≡ a). ap b e ∙ (sym here ∙ (ap d (sym e) ∙ t))) (λ (f : i ≢ a). sym (others i f) ∙ t) (cases_eq i a)) h

-- seat a acts on the lock
held_step : (step : Step) (n a : ℕ) (b d : ℕ → Bool) → takes_turn (b a) step ≡ true → stores_none step ≡ true → d a ≡ inside_after step n (b a) → ((i : ℕ) → i ≢ a → d i ≡ b i) → Held n b → Held (value_by true step n) d
held_step (ExchangeValue v m x) n a b d turn none here others h = exchange_held v m x n a b d (b a) refl turn here others h
held_step (StoreValue v x) n a b d turn none here others h = absurd (false≢true none)
held_step step n a b d turn none here others h = held_same n a b d here others h

pub turns-split : (b : Bool) (xs ys : List Entry) → takes_turns b (xs ++ ys) ≡ true → (takes_turns b xs ≡ true) × (takes_turns (is_inside b xs) ys ≡ true)
turns-split b [] ys h = (refl, h)
turns-split b (x ∷ xs) ys h =
    let p = and_parts (takes_turn b x.step) (takes_turns (turned b x.step x.won) (xs ++ ys)) h in
    let q = turns-split (turned b x.step x.won) xs ys p.1 in
    (and_from (takes_turn b x.step) (takes_turns (turned b x.step x.won) xs) p.0 q.0, q.1)

logged_turn : (b : Bool) (c : Core) (s : SeatState) (step : Step) → takes_turns b (entries_of c (Some s) step) ≡ true → takes_turn b step ≡ true
logged_turn b c s Split h = refl
logged_turn b c s (Join o) h = refl
logged_turn b c s step h = (and_parts (takes_turn b step) true h).0

-- the log of a seat on the lock tells whether it is inside
logged_inside : (c : Core) (i : ℕ) (s : SeatState) (step : Step) (world : World) (name : Name) (object : WorldObject) → Taken c i s step → AgreesWith c world → object_of world name ≡ Some object → acts_on world (Some s) step name ≡ true → (b : Bool)
    → is_inside b (entries_of c (Some s) step) ≡ inside_after step object.value b
logged_inside c i s (ExchangeValue v m x) world name object t a there acting b = ap (λ (w : ℕ). if w == m then x == 1 else b) (value-found c i s v m x world name object t a there acting)
logged_inside c i s Split world name object t a there acting b = refl
logged_inside c i s (Join o) world name object t a there acting b = refl
logged_inside c i s step world name object t a there acting b = refl

-- one event
held_next : (c : Core) (e : Event) (s : SeatState) (world : World) (name : Name) (object : WorldObject) (b : ℕ → Bool) → Taken c e.seat s e.step → AgreesWith c world → object_of world name ≡ Some object → takes_turns (b e.seat) (adds_on name e.seat c world e) ≡ true
    → all_steps stores_none (adds_on name e.seat c world e) ≡ true → Held object.value b → Held (value_by (acts_on world (Some s) e.step name) e.step object.value) (λ i. is_inside (b i) (adds_on name i c world e))
held_next c e s world name object b t a there turns none held = by_acting acting refl
  where
    acting : Bool
    acting = acts_on world (Some s) e.step name

    d : ℕ → Bool
    d i = is_inside (b i) (adds_on name i c world e)

    own : (q : Bool) → acting ≡ q → adds_on name e.seat c world e ≡ (if q then entries_of c (Some s) e.step else [])
    own q f = own-adds-on name c world e s t.got ∙ ap (λ (z : Bool). if z then entries_of c (Some s) e.step else []) f

    others : (i : ℕ) → i ≢ e.seat → d i ≡ b i
    others i f = ap (λ (l : List Entry). is_inside (b i) l) (other-adds-on name i c world e f)

    by_acting : (q : Bool) → acting ≡ q → Held (value_by q e.step object.value) d
    by_acting true f =
        let turn : takes_turn (b e.seat) e.step ≡ true = logged_turn (b e.seat) c s e.step (subst (λ (l : List Entry). takes_turns (b e.seat) l ≡ true) (own true f) turns) in
        let unstored : stores_none e.step ≡ true = logged_all stores_none refl (λ o. refl) c s e.step (subst (λ (l : List Entry). all_steps stores_none l ≡ true) (own true f) none) in
        held_step e.step object.value e.seat b d turn unstored (ap (λ (l : List Entry). is_inside (b e.seat) l) (own true f) ∙ logged_inside c e.seat s e.step world name object t a there f (b e.seat)) others held
    by_acting false f = held_same object.value e.seat b d (ap (λ (l : List Entry). is_inside (b e.seat) l) (own false f)) others held

-- no two seats are inside after the first k events
abbrev OneInside : Name → List Event → Core → World → (ℕ → Bool) → ℕ → Type 0
OneInside name es c world b k = (i j : ℕ) → is_inside (b i) (log_on name i (take k es) c world) ≡ true → is_inside (b j) (log_on name j (take k es) c world) ≡ true → i ≡ j

held_on : (es : List Event) (c : Core) (world : World) (name : Name) (object : WorldObject) (b : ℕ → Bool) → Sound c es → AreAllowed c es → AgreesWith c world → object_of world name ≡ Some object → ((i : ℕ) → takes_turns (b i) (log_on name i es c world) ≡ true)
    → ((i : ℕ) → all_steps stores_none (log_on name i es c world) ≡ true) → Held object.value b → (k : ℕ) → OneInside name es c world b k
held_on [] c world name object b sound ok a there turns none held zero = held.one
held_on [] c world name object b sound ok a there turns none held (suc k) = held.one
held_on (e ∷ es) c world name object b sound ok a there turns none held zero = held.one
held_on (e ∷ es) c world name object b sound ok a there turns none held (suc k) =
    let d : Core = after_event c e in
    let next : World = world_after c e world in
    let r : (s : SeatState) × Acted c e s = acts c e (sound 0) ok.0 in
    let s : SeatState = r.0 in
    let t : Taken c e.seat s e.step = record { core = sound 0; got = r.1.seat; live = r.1.live; ok = r.1.ok } in
    let first : ℕ → List Entry = λ i. adds_on name i c world e in
    let later : ℕ → List Entry = λ i. log_on name i es d next in
    let v = value-next c e s world name object r.1.seat there in
    let turn : (i : ℕ) → (takes_turns (b i) (first i) ≡ true) × (takes_turns (is_inside (b i) (first i)) (later i) ≡ true) = λ i. turns-split (b i) (first i) (later i) (turns i) in
    let unstored : (i : ℕ) → (all_steps stores_none (first i) ≡ true) × (all_steps stores_none (later i) ≡ true) = λ i. all_split stores_none (first i) (later i) (none i) in
    let now : Held v.0.value (λ i. is_inside (b i) (first i)) =
    subst (λ (n : ℕ). Held n (λ i. is_inside (b i) (first i))) (sym v.2) (held_next c e s world name object b t a there (turn e.seat).0 (unstored e.seat).0 held) in
    let rest = held_on es d next name v.0 (λ i. is_inside (b i) (first i)) (later-sound c e es ok.0 sound) ok.1 (agrees-kept c e world (sound 0) a ok.0) v.1 (λ i. (turn i).1) (λ i. (unstored i).1) now k in
    λ i j p q. rest i j (sym (inside_join (b i) (first i) (log_on name i (take k es) d next)) ∙ p) (sym (inside_join (b j) (first j) (log_on name j (take k es) d next)) ∙ q)

pub lock_by_name : LockByName
lock_by_name c world es name lock k i j p q =
    held_on es c world name lock.object (λ x. false) lock.run.sound lock.run.allowed lock.run.agrees lock.there lock.turns lock.unstored
    (record { one = λ x y t u. absurd (false≢true t); locked = λ x t. absurd (false≢true t) }) k i j p q
