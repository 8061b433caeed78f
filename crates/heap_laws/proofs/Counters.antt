-- A counter among other objects: it grows by the exchanges that the seats' logs on it say were won.
use Rattle.std.proofs.Common.{ℕ, ◌≡◌, ◌≢◌, ◌+◌, ◌<◌, ◌≤◌, ◌==◌, zero, suc, List, [], ◌∷◌, ◌++◌, arith, refl, sym, ap, ◌∙◌, subst, Bool, true, false, Option, Some, eqb-true, ⊎_elim}
use Rattle.std.specs.Prelude.{if◌then◌else◌, slice_get}
use Rattle.std.proofs.lemmas.Bool.{cases_eq, false≢true}
use Rattle.plain_heap.specs.Paths.{Name}
use Rattle.mark_core.specs.Steps.{Core, after_event}
use Rattle.mark_core.specs.declared.kinds.Event.{Event}
use Rattle.mark_core.specs.declared.kinds.Step.{Step}
use Rattle.mark_core.specs.declared.kinds.Step.TheVariants.{ExchangeValue, Join, Split, StoreValue}
use Rattle.mark_core.specs.declared.seat.SeatState.{SeatState}
use Rattle.mark_core.proofs.Known.{Acted, acts}
use Rattle.mark_core.proofs.Blocks.BlocksStopped.{Taken}
use Rattle.gc_table.specs.Agreement.{AgreesWith}
use Rattle.gc_table.specs.AgreementLaws.{world_after, world_run}
use Rattle.gc_table.specs.Log.{all_steps}
use Rattle.gc_table.specs.Past.{adds, entries_of}
use Rattle.gc_table.specs.RunWorlds.{World, WorldObject, object_of}
use Rattle.gc_table.specs.Runs.{AreAllowed}
use Rattle.gc_table.specs.Single.{won_count}
use Rattle.gc_table.specs.declared.view.Entry.{Entry}
use Rattle.gc_table.proofs.Counted.{logged_all, other_adds, own_adds, won_join}
use Rattle.gc_table.proofs.Kept.{agrees-kept}
use Rattle.gc_table.proofs.Lending.{Sound, all_split, later-sound, world-first}
use Rattle.heap_laws.specs.Locks.{CounterByName, all_won, only_raises}
use Rattle.heap_laws.specs.Named.{acts_on, adds_on, log_on}
use Rattle.heap_laws.proofs.Values.{value-found, value-next, value_by}

-- what is left of a list without elements
no_parts : (xs ys : List Entry) → xs ++ ys ≡ [] → (xs ≡ []) × (ys ≡ [])
no_parts [] ys e = (refl, e)
no_parts (x ∷ xs) ys e = absurd (cc)

-- a step of another seat adds nothing
pub other-adds-on : (name : Name) (i : ℕ) (c : Core) (world : World) (e : Event) → i ≢ e.seat → adds_on name i c world e ≡ []
other-adds-on name i c world e d = none_by (acts_on world (slice_get c.seats e.seat) e.step name) (other_adds i c e d)
  where
    none_by : (b : Bool) → adds i c e ≡ [] → (if b then adds i c e else []) ≡ []
    none_by true n = n
    none_by false n = refl

-- what a step adds to its own seat's
pub own-adds-on : (name : Name) (c : Core) (world : World) (e : Event) (s : SeatState) → slice_get c.seats e.seat ≡ Some s → adds_on name e.seat c world e ≡ (if acts_on world (Some s) e.step name then entries_of c (Some s) e.step else [])
own-adds-on name c world e s got =
    ap (λ (o : Option SeatState). if acts_on world o e.step name then adds e.seat c e else []) got ∙ ap (λ (l : List Entry). if acts_on world (Some s) e.step name then l else []) (own_adds c e s got)

-- sums over seats
won_none : (n : ℕ) (f : ℕ → List Entry) → ((i : ℕ) → i < n → f i ≡ []) → all_won n f ≡ 0
won_none zero f h = refl
won_none (suc n) f h = let one = ap won_count (h n (omega arith)) in let rest = won_none n f (λ i l. h i (omega (arith, l))) in omega (arith, one, rest)

won_both : (n : ℕ) (f g : ℕ → List Entry) → all_won n (λ i. f i ++ g i) ≡ all_won n f + all_won n g
won_both zero f g = refl
won_both (suc n) f g = let one = won_join (f n) (g n) in let rest = won_both n f g in omega (arith, one, rest)

won_one : (n j : ℕ) (f : ℕ → List Entry) → ((i : ℕ) → i ≢ j → f i ≡ []) → (n ≤ j → f j ≡ []) → all_won n f ≡ won_count (f j)
won_one zero j f others past = sym (ap won_count (past (omega arith)))
won_one (suc n) j f others past =
    ⊎_elim
    (λ (e : n ≡ j). let rest = won_none n f (λ i l. others i (λ z. omega (arith, z, l, e))) in let one = ap (λ (k : ℕ). won_count (f k)) e in omega (arith, rest, one))
    (λ (d : n ≢ j). let one = ap won_count (others n d) in let rest = won_one n j f others (λ l. past (omega (arith, l, d))) in omega (arith, one, rest))
    (cases_eq n j)

plus_none : (n : ℕ) → n ≡ n + 0
plus_none n = omega arith

raised_by : (n m x : ℕ) (b : Bool) → x ≡ m + 1 → (n == m) ≡ b → (if b then x else n) ≡ n + ((if b then 1 else 0) + 0)
raised_by n m x true r e = let same = eqb-true n m e in omega (arith, same, r)
raised_by n m x false r e = omega arith

-- a step that acts on the counter raises it as its seat's log says
raise_logged : (c : Core) (i : ℕ) (s : SeatState) (step : Step) (world : World) (name : Name) (object : WorldObject) → Taken c i s step → AgreesWith c world → object_of world name ≡ Some object → acts_on world (Some s) step name ≡ true → only_raises step ≡ true
    → value_by true step object.value ≡ object.value + won_count (entries_of c (Some s) step)
raise_logged c i s (ExchangeValue v m x) world name object t a there acting r =
    raised_by object.value m x (object.value == m) (eqb-true x (m + 1) r) refl
    ∙ ap (λ (w : ℕ). object.value + ((if w == m then 1 else 0) + 0)) (sym (value-found c i s v m x world name object t a there acting))
raise_logged c i s (StoreValue v x) world name object t a there acting r = absurd (false≢true r)
raise_logged c i s Split world name object t a there acting r = plus_none object.value
raise_logged c i s (Join o) world name object t a there acting r = plus_none object.value
raise_logged c i s step world name object t a there acting r = omega arith

-- one event
raise_next : (c : Core) (e : Event) (s : SeatState) (world : World) (name : Name) (object : WorldObject) → Taken c e.seat s e.step → AgreesWith c world → object_of world name ≡ Some object → all_steps only_raises (adds_on name e.seat c world e) ≡ true
    → value_by (acts_on world (Some s) e.step name) e.step object.value ≡ object.value + won_count (adds_on name e.seat c world e)
raise_next c e s world name object t a there raises =
    subst (λ (l : List Entry). value_by acting e.step object.value ≡ object.value + won_count l) (sym own) (by_acting acting refl (subst (λ (l : List Entry). all_steps only_raises l ≡ true) own raises))
  where
    acting : Bool
    acting = acts_on world (Some s) e.step name

    own : adds_on name e.seat c world e ≡ (if acting then entries_of c (Some s) e.step else [])
    own = own-adds-on name c world e s t.got

    by_acting : (b : Bool) → acting ≡ b → all_steps only_raises (if b then entries_of c (Some s) e.step else []) ≡ true → value_by b e.step object.value ≡ object.value + won_count (if b then entries_of c (Some s) e.step else [])
    by_acting true f r = raise_logged c e.seat s e.step world name object t a there f (logged_all only_raises refl (λ o. refl) c s e.step r)
    by_acting false f r = plus_none object.value

counted_on : (es : List Event) (c : Core) (world : World) (name : Name) (object : WorldObject) (seats : ℕ) → Sound c es → AreAllowed c es → AgreesWith c world → object_of world name ≡ Some object → ((i : ℕ) → all_steps only_raises (log_on name i es c world) ≡ true)
    → ((i : ℕ) → seats ≤ i → log_on name i es c world ≡ []) → (after : WorldObject) × (object_of (world_run es c world) name ≡ Some after) × (after.value ≡ object.value + all_won seats (λ i. log_on name i es c world))
counted_on [] c world name object seats sound ok a there raises none = (object, there, let zero_won = won_none seats (λ i. []) (λ i l. refl) in omega (arith, zero_won))
counted_on (e ∷ es) c world name object seats sound ok a there raises none =
    let d : Core = after_event c e in
    let next : World = world_after c e world in
    let r : (s : SeatState) × Acted c e s = acts c e (sound 0) ok.0 in
    let s : SeatState = r.0 in
    let t : Taken c e.seat s e.step = record { core = sound 0; got = r.1.seat; live = r.1.live; ok = r.1.ok } in
    let first : ℕ → List Entry = λ i. adds_on name i c world e in
    let later : ℕ → List Entry = λ i. log_on name i es d next in
    let v = value-next c e s world name object r.1.seat there in
    let rest = counted_on es d next name v.0 seats (later-sound c e es ok.0 sound) ok.1 (agrees-kept c e world (sound 0) a ok.0) v.1 (λ i. (all_split only_raises (first i) (later i) (raises i)).1) (λ i l. (no_parts (first i) (later i) (none i l)).1) in
    let here = raise_next c e s world name object t a there (all_split only_raises (first e.seat) (later e.seat) (raises e.seat)).0 in
    let both = won_both seats first later in
    let mine = won_one seats e.seat first (λ i f. other-adds-on name i c world e f) (λ l. (no_parts (first e.seat) (later e.seat) (none e.seat l)).0) in
    let now : v.0.value ≡ object.value + won_count (first e.seat) = v.2 ∙ here in
    let sum = rest.2 in
    (rest.0, ap (λ (w : World). object_of w name) (world-first c e es world ok.0) ∙ rest.1, omega (arith, now, sum, both, mine))

pub counter_by_name : CounterByName
counter_by_name c world es run name object there raises seats none = counted_on es c world name object seats run.sound run.allowed run.agrees there raises none
