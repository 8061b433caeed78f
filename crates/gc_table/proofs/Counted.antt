-- In a heap with one object that threads only raise, its value is the number of exchanges that their logs say were won.
use Rattle.std.proofs.Common.{ℕ, zero, suc, ◌≡◌, ◌≢◌, ◌+◌, ◌<◌, ◌≤◌, ◌==◌, ◌∙◌, List, [], ◌∷◌, ◌++◌, take, length, ap, arith, inl, refl, subst, sym, ⊎_elim, Bool, true, false, Option, None, Some, eqb-true}
use Rattle.std.specs.Prelude.{if◌then◌else◌, replicate, slice_get}
use Rattle.std.proofs.lemmas.Bool.{and_parts, cases_eq, cases_lt, eq-eqb, ne_eqb}
use Rattle.plain_heap.specs.Paths.{Name}
use Rattle.mark_core.specs.Layout.{words_of}
use Rattle.mark_core.specs.Shapes.{IsShape}
use Rattle.mark_core.specs.Steps.{Core, after_event, start_core}
use Rattle.mark_core.specs.declared.kinds.Event.{Event}
use Rattle.mark_core.specs.declared.kinds.Shape.{Shape}
use Rattle.mark_core.specs.declared.kinds.Step.{Step}
use Rattle.mark_core.specs.declared.kinds.Step.TheVariants.{ExchangeValue, Join, Split}
use Rattle.mark_core.specs.declared.seat.SeatState.{SeatState}
use Rattle.mark_core.proofs.Known.{Acted, some_none, acts}
use Rattle.mark_core.proofs.Blocks.BlocksStopped.{Taken}
use Rattle.mark_core.proofs.Pool.PoolsKept.{shape-kept}
use Rattle.gc_table.specs.Laws.{IsRunOf}
use Rattle.gc_table.specs.Log.{all_steps}
use Rattle.gc_table.specs.Past.{adds, entries_of, log_from}
use Rattle.gc_table.specs.Seats.{view_of}
use Rattle.gc_table.specs.declared.seat.HeapSeat.{HeapSeat}
use Rattle.gc_table.specs.declared.view.Entry.{Entry}
use Rattle.gc_table.specs.declared.words.Words.{Words}
use Rattle.gc_table.specs.Agreement.{AgreesWith}
use Rattle.gc_table.specs.AgreementLaws.{world_after, world_of, world_run}
use Rattle.gc_table.specs.RunWorlds.{World, WorldObject, object_of, section_of, start_section, start_world, world_by}
use Rattle.gc_table.proofs.Kept.{agrees-kept, agrees-starts}
use Rattle.gc_table.specs.Runs.{AreAllowed}
use Rattle.gc_table.specs.Single.{CounterTold, HasOne, all_won, leaves_values, made_count, makes_object, raises, won_count}
use Rattle.gc_table.proofs.Lending.{all_split, Sound, later-sound, world-first}
use Rattle.gc_table.proofs.Freeing.{allowed}
use Rattle.gc_table.proofs.Single.{IsSingle, exchanged_one, none_at, step_single, the_one, value_after}

-- how many exchanges of values these events win, by the logs of their seats
abbrev won_in : List Event → Core → ℕ
won_in [] c = 0
won_in (e ∷ es) c = won_count (adds e.seat c e) + won_in es (after_event c e)

slice_get_none : {X : Type 0} (xs : List X) (i : ℕ) → slice_get xs i ≡ None → length xs ≤ i
slice_get_none [] i e = omega arith
slice_get_none (x ∷ xs) zero e = absurd (some_none x e)
slice_get_none (x ∷ xs) (suc i) e = let rest = slice_get_none xs i e in omega (arith, rest)

take_whole : {X : Type 0} (xs : List X) → take (length xs) xs ≡ xs
take_whole [] = refl
take_whole {X} (x ∷ xs) = ap (λ (l : List X). x ∷ l) (take_whole xs)

-- whatever object is there has this value
value_at : (world : World) (n h : ℕ) (name : Name) (object : WorldObject) → IsSingle world n h → object_of world name ≡ Some object → object.value ≡ n
value_at world n h name object s at =
    ⊎_elim
    (λ (z : name.section ≡ 0).
    let there : slice_get (section_of world 0).objects name.number ≡ Some object = subst (λ (j : ℕ). slice_get (section_of world j).objects name.number ≡ Some object) z at in
    ⊎_elim (λ (e : ((section_of world 0).objects ≡ []) × (n ≡ 0) × (h ≡ 0)). absurd (none_at name.number object (ap (λ (l : List WorldObject). slice_get l name.number) (sym e.0) ∙ there)))
    (λ (e : (o : WorldObject) × ((section_of world 0).objects ≡ o ∷ []) × (o.value ≡ n) × (h ≡ 1)). ap (λ (o : WorldObject). o.value) (sym (the_one (section_of world 0).objects name.number e.0 object e.1 there).1) ∙ e.2) s.first)
    (λ (d : name.section ≢ 0). absurd (none_at name.number object (ap (λ (l : List WorldObject). slice_get l name.number) (sym (s.others name.section d)) ∙ at)))
    (cases_eq name.section 0)

plus_none : (n : ℕ) → n + 0 ≡ n
plus_none n = omega arith

-- what an event adds to the log of its own seat
pub own_adds : (c : Core) (e : Event) (s : SeatState) → slice_get c.seats e.seat ≡ Some s → adds e.seat c e ≡ entries_of c (Some s) e.step
own_adds c e s got =
    ap (λ (b : Bool). if b then entries_of c (slice_get c.seats e.seat) e.step else []) (eq-eqb e.seat e.seat refl) ∙ ap (λ (o : Option SeatState). entries_of c o e.step) got

pub logged_all : (P : Step → Bool) → P Split ≡ true → ((o : ℕ) → P (Join o) ≡ true) → (c : Core) (s : SeatState) (step : Step) → all_steps P (entries_of c (Some s) step) ≡ true → P step ≡ true
logged_all P a b c s Split h = a
logged_all P a b c s (Join o) h = b o
logged_all P a b c s step h = (and_parts (P step) true h).0

logged_made : (fields : ℕ) (c : Core) (s : SeatState) (step : Step) → made_count fields (entries_of c (Some s) step) ≡ (if makes_object fields step then 1 else 0)
logged_made fields c s Split = refl
logged_made fields c s (Join o) = refl
logged_made fields c s step = plus_none _

raised_by : (n m x : ℕ) (b : Bool) → x ≡ m + 1 → (n == m) ≡ b → n + ((if b then 1 else 0) + 0) ≡ (if b then x else n)
raised_by n m x true r e = let same = eqb-true n m e in omega (arith, same, r)
raised_by n m x false r e = omega arith

-- a raise that is won raises the value
logged_won : (c : Core) (i : ℕ) (s : SeatState) (step : Step) (world : World) (n h : ℕ) → Taken c i s step → AgreesWith c world → IsSingle world n h → raises step ≡ true → n + won_count (entries_of c (Some s) step) ≡ value_after step n
logged_won c i s (ExchangeValue v m x) world n h k a single r =
    let one = (exchanged_one c i s v m x world n h k a single).0 in
    ap (λ (w : ℕ). n + ((if w == m then 1 else 0) + 0)) one ∙ raised_by n m x (n == m) (eqb-true x (m + 1) r) refl
logged_won c i s Split world n h k a single r = plus_none n
logged_won c i s (Join o) world n h k a single r = plus_none n
logged_won c i s step world n h k a single r = omega arith

pub made_join : (fields : ℕ) (xs ys : List Entry) → made_count fields (xs ++ ys) ≡ made_count fields xs + made_count fields ys
made_join fields [] ys = omega arith
made_join fields (x ∷ xs) ys = let rest = made_join fields xs ys in omega (arith, rest)

pub won_join : (xs ys : List Entry) → won_count (xs ++ ys) ≡ won_count xs + won_count ys
won_join [] ys = omega arith
won_join (x ∷ xs) ys = let rest = won_join xs ys in omega (arith, rest)

-- what is left of the logs makes one object at most, by the first seat, with those that are there
abbrev pub Bound : ℕ → List Event → Core → ℕ → ℕ → Type 0
Bound fields es c h i = made_count fields (log_from i c es) + (if i == 0 then h else 0) ≤ (if i == 0 then 1 else 0)

bound_first : (fields : ℕ) (es : List Event) (c : Core) (h : ℕ) → Bound fields es c h 0 → made_count fields (log_from 0 c es) + h ≤ 1
bound_first fields es c h b = b

bound_other : (fields : ℕ) (es : List Event) (c : Core) (h i : ℕ) → i ≢ 0 → Bound fields es c h i → made_count fields (log_from i c es) ≤ 0
bound_other fields es c h i d b = let none = subst (λ (z : Bool). made_count fields (log_from i c es) + (if z then h else 0) ≤ (if z then 1 else 0)) (ne_eqb i 0 d) b in omega (arith, none)

-- a making step is the first seat's, and nothing was made before
once_at : (fields : ℕ) (e : Event) (es : List Event) (c : Core) (s : SeatState) (h : ℕ) → slice_get c.seats e.seat ≡ Some s → ((i : ℕ) → Bound fields (e ∷ es) c h i) → makes_object fields e.step ≡ true → (e.seat ≡ 0) × (h ≡ 0)
once_at fields e es c s h got bound makes =
    let one : made_count fields (adds e.seat c e) ≡ 1 = ap (made_count fields) (own_adds c e s got) ∙ (logged_made fields c s e.step ∙ ap (λ (b : Bool). if b then 1 else 0) makes) in
    let both = made_join fields (adds e.seat c e) (log_from e.seat (after_event c e) es) in
    ⊎_elim
    (λ (z : e.seat ≡ 0).
    let most = bound_first fields (e ∷ es) c h (bound 0) in
    let there = subst (λ (j : ℕ). made_count fields (log_from j c (e ∷ es)) ≡ 1 + made_count fields (log_from j (after_event c e) es)) z (let r = both in let o = one in omega (arith, r, o)) in
    (z, omega (arith, most, there)))
    (λ (d : e.seat ≢ 0). absurd (let none = bound_other fields (e ∷ es) c h e.seat d (bound e.seat) in omega (arith, none, both, one)))
    (cases_eq e.seat 0)

pub bound_rest : (fields : ℕ) (e : Event) (es : List Event) (c : Core) (s : SeatState) (h : ℕ) → slice_get c.seats e.seat ≡ Some s → ((i : ℕ) → Bound fields (e ∷ es) c h i) → (i : ℕ) → Bound fields es (after_event c e) (h + (if makes_object fields e.step then 1 else 0)) i
bound_rest fields e es c s h got bound i =
    ⊎_elim (λ (z : i ≡ 0). subst (λ (j : ℕ). Bound fields es d (h + (if makes_object fields e.step then 1 else 0)) j) (sym z) (at_first (makes_object fields e.step) refl))
    (λ (f : i ≢ 0).
    let none = bound_other fields (e ∷ es) c h i f (bound i) in
    let both = made_join fields (adds i c e) (log_from i d es) in
    subst (λ (b : Bool). made_count fields (log_from i d es) + (if b then h + (if makes_object fields e.step then 1 else 0) else 0) ≤ (if b then 1 else 0)) (sym (ne_eqb i 0 f)) (omega (arith, none, both)))
    (cases_eq i 0)
  where
    d : Core
    d = after_event c e

    at_first : (b : Bool) → makes_object fields e.step ≡ b → made_count fields (log_from 0 d es) + (h + (if b then 1 else 0)) ≤ 1
    at_first true is =
        let once = once_at fields e es c s h got bound is in
        let one : made_count fields (adds 0 c e) ≡ 1 =
        subst (λ (j : ℕ). made_count fields (adds j c e) ≡ 1) once.0 (ap (made_count fields) (own_adds c e s got) ∙ (logged_made fields c s e.step ∙ ap (λ (z : Bool). if z then 1 else 0) is)) in
        let most = bound_first fields (e ∷ es) c h (bound 0) in
        let both = made_join fields (adds 0 c e) (log_from 0 d es) in
        omega (arith, one, most, both)
    at_first false is = let most = bound_first fields (e ∷ es) c h (bound 0) in let both = made_join fields (adds 0 c e) (log_from 0 d es) in omega (arith, most, both)

-- what one event makes of the one object
pub single_event : (e : Event) (es : List Event) (c : Core) (world : World) (fields n h : ℕ) (s : SeatState) → c.shape.fields ≡ fields → Taken c e.seat s e.step → AgreesWith c world → IsSingle world n h → leaves_values fields e.step ≡ true
    → ((i : ℕ) → Bound fields (e ∷ es) c h i) → IsSingle (world_after c e world) (value_after e.step n) (h + (if makes_object fields e.step then 1 else 0))
single_event e es c world fields n h s same t a single leaves bound =
    let next : IsSingle (world_by c.shape (words_of c.shape c.words) s e.step world) (value_after e.step n) (h + (if makes_object fields e.step then 1 else 0)) =
    subst (λ (f : ℕ). leaves_values f e.step ≡ true → (makes_object f e.step ≡ true → (e.seat ≡ 0) × (h ≡ 0)) → IsSingle (world_by c.shape (words_of c.shape c.words) s e.step world) (value_after e.step n) (h + (if makes_object f e.step then 1 else 0))) same
    (λ x y. step_single c e.seat s e.step world n h t a single x y) leaves (once_at fields e es c s h t.got bound) in
    subst (λ (o : Option SeatState). IsSingle (world_of c o e.step world) (value_after e.step n) (h + (if makes_object fields e.step then 1 else 0))) (sym t.got) next

-- what is asked of all logs
record Asked (fields : ℕ) (es : List Event) (c : Core) (h : ℕ) : Type 0 where
  leaves : (i : ℕ) → all_steps (leaves_values fields) (log_from i c es) ≡ true
  raised : (i : ℕ) → all_steps raises (log_from i c es) ≡ true
  bound : (i : ℕ) → Bound fields es c h i

counted_on : (es : List Event) (c : Core) (world : World) (fields n h : ℕ) → c.shape.fields ≡ fields → Sound c es → AreAllowed c es → AgreesWith c world → IsSingle world n h → Asked fields es c h → (k : ℕ) × IsSingle (world_run es c world) (n + won_in es c) k
counted_on [] c world fields n h same sound ok a single asked = (h, subst (λ (m : ℕ). IsSingle world m h) (sym (plus_none n)) single)
counted_on (e ∷ es) c world fields n h same sound ok a single asked =
    let d : Core = after_event c e in
    let r : (s : SeatState) × Acted c e s = acts c e (sound 0) ok.0 in
    let s : SeatState = r.0 in
    let t : Taken c e.seat s e.step = record { core = sound 0; got = r.1.seat; live = r.1.live; ok = r.1.ok } in
    let own = own_adds c e s r.1.seat in
    let of_log : (P : Step → Bool) → P Split ≡ true → ((o : ℕ) → P (Join o) ≡ true) → all_steps P (log_from e.seat c (e ∷ es)) ≡ true → P e.step ≡ true =
    λ P x y z. logged_all P x y c s e.step (subst (λ (l : List Entry). all_steps P l ≡ true) own (all_split P (adds e.seat c e) (log_from e.seat d es) z).0) in
    let leaves : leaves_values fields e.step ≡ true = of_log (leaves_values fields) refl (λ o. refl) (asked.leaves e.seat) in
    let there = single_event e es c world fields n h s same t a single leaves asked.bound in
    let raised : raises e.step ≡ true = of_log raises refl (λ o. refl) (asked.raised e.seat) in
    let rest = counted_on es d (world_after c e world) fields (value_after e.step n) (h + (if makes_object fields e.step then 1 else 0)) (ap (λ (sh : Shape). sh.fields) (shape-kept c e) ∙ same) (later-sound c e es ok.0 sound) ok.1
    (agrees-kept c e world (sound 0) a ok.0) there
    (record {
      leaves = λ i. (all_split (leaves_values fields) (adds i c e) (log_from i d es) (asked.leaves i)).1;
      raised = λ i. (all_split raises (adds i c e) (log_from i d es) (asked.raised i)).1;
      bound = bound_rest fields e es c s h r.1.seat asked.bound;
    }) in
    let won_here : n + won_count (adds e.seat c e) ≡ value_after e.step n = ap (λ (l : List Entry). n + won_count l) own ∙ logged_won c e.seat s e.step world n h t a single raised in
    let sum : value_after e.step n + won_in es d ≡ n + (won_count (adds e.seat c e) + won_in es d) = omega (arith, won_here) in
    (rest.0, subst (λ (q : World × ℕ). IsSingle q.0 q.1 rest.0) (λ i. (sym (world-first c e es world ok.0) i, sum i)) rest.1)

-- sums over the seats
abbrev sums : ℕ → ℕ → (ℕ → ℕ) → ℕ
sums k zero f = 0
sums k (suc n) f = f k + sums (k + 1) n f

sums_none : (k n : ℕ) (f : ℕ → ℕ) → ((i : ℕ) → f i ≡ 0) → sums k n f ≡ 0
sums_none k zero f h = refl
sums_none k (suc n) f h = let one = h k in let rest = sums_none (k + 1) n f h in omega (arith, one, rest)

sums_add : (k n : ℕ) (f g e : ℕ → ℕ) → ((i : ℕ) → e i ≡ f i + g i) → sums k n e ≡ sums k n f + sums k n g
sums_add k zero f g e h = omega arith
sums_add k (suc n) f g e h = let one = h k in let rest = sums_add (k + 1) n f g e h in omega (arith, one, rest)

sums_past : (k n j : ℕ) (f : ℕ → ℕ) → j < k → ((i : ℕ) → i ≢ j → f i ≡ 0) → sums k n f ≡ 0
sums_past k zero j f l h = refl
sums_past k (suc n) j f l h = let one = h k (λ e. omega (arith, e, l)) in let rest = sums_past (k + 1) n j f (omega (arith, l)) h in omega (arith, one, rest)

sums_one : (k n j : ℕ) (f : ℕ → ℕ) → k ≤ j → j < k + n → ((i : ℕ) → i ≢ j → f i ≡ 0) → sums k n f ≡ f j
sums_one k zero j f a b h = absurd (omega (arith, a, b))
sums_one k (suc n) j f a b h =
    ⊎_elim
    (λ (e : k ≡ j). let rest = sums_past (k + 1) n j f (omega (arith, e)) h in let here = ap f e in omega (arith, rest, here))
    (λ (d : k ≢ j). let one = h k d in let rest = sums_one (k + 1) n j f (omega (arith, a, d)) (omega (arith, b)) h in omega (arith, one, rest)) (cases_eq k j)

-- what other seats add to a log is nothing
pub other_adds : (i : ℕ) (c : Core) (e : Event) → i ≢ e.seat → adds i c e ≡ []
other_adds i c e d = ap (λ (b : Bool). if b then entries_of c (slice_get c.seats e.seat) e.step else []) (ne_eqb e.seat i (λ z. d (sym z)))

split_nil : (xs ys : List Entry) → xs ++ ys ≡ [] → (xs ≡ []) × (ys ≡ [])
split_nil [] ys h = (refl, h)
split_nil (x ∷ xs) ys h = absurd (let long = ap length h in omega (arith, long))

-- the exchanges that were won in the run are those of all logs
won_summed : (es : List Event) (c : Core) (n : ℕ) → ((i : ℕ) → n ≤ i → log_from i c es ≡ []) → sums 0 n (λ i. won_count (log_from i c es)) ≡ won_in es c
won_summed [] c n none = sums_none 0 n _ (λ i. refl)
won_summed (e ∷ es) c n none =
    let d : Core = after_event c e in
    let rest = won_summed es d n (λ i l. (split_nil (adds i c e) (log_from i d es) (none i l)).1) in
    let both = sums_add 0 n (λ i. won_count (adds i c e)) (λ i. won_count (log_from i d es)) (λ i. won_count (adds i c e ++ log_from i d es)) (λ i. won_join (adds i c e) (log_from i d es)) in
    let others : (i : ℕ) → i ≢ e.seat → won_count (adds i c e) ≡ 0 = λ i f. ap won_count (other_adds i c e f) in
    let here : sums 0 n (λ i. won_count (adds i c e)) ≡ won_count (adds e.seat c e) =
    ⊎_elim (λ (l : e.seat < n). sums_one 0 n e.seat (λ i. won_count (adds i c e)) (omega arith) (omega (arith, l)) others)
    (λ (l : n ≤ e.seat).
    let nil : won_count (adds e.seat c e) ≡ 0 = ap won_count (split_nil (adds e.seat c e) (log_from e.seat d es) (none e.seat l)).0 in
    sums_none 0 n (λ i. won_count (adds i c e)) (λ i. ⊎_elim (λ (z : i ≡ e.seat). ap (λ (j : ℕ). won_count (adds j c e)) z ∙ nil) (λ (z : i ≢ e.seat). others i z) (cases_eq i e.seat)) ∙ sym nil) (cases_lt e.seat n) in
    omega (arith, rest, both, here)

all_won_is : (seats : List HeapSeat) (k : ℕ) (f : ℕ → ℕ) → ((i : ℕ) (s : HeapSeat) → slice_get seats i ≡ Some s → won_count (view_of s).log ≡ f (k + i)) → all_won seats ≡ sums k (length seats) f
all_won_is [] k f h = refl
all_won_is (s ∷ ss) k f h =
    let one : won_count (view_of s).log ≡ f k = h 0 s refl ∙ ap f (plus_none k) in
    let rest = all_won_is ss (k + 1) f (λ i t at. h (suc i) t at ∙ ap f (let e : k + suc i ≡ k + 1 + i = omega arith in e)) in
    omega (arith, one, rest)

-- at the start nothing was made
starts_none : (m : ℕ) (sh : Shape) (w : ℕ) → ((section_of (replicate m (start_section sh)) w).objects ≡ []) × ((section_of (replicate m (start_section sh)) w).coming ≡ 0)
starts_none zero sh w = (refl, refl)
starts_none (suc m) sh zero = (refl, refl)
starts_none (suc m) sh (suc w) = starts_none m sh w

-- what the logs of all seats keep each part of the run keeps
pub log_each : (sh : Shape) (seats : List HeapSeat) (w : Words) (es : List Event) → IsRunOf sh seats w es → HasOne sh seats es → (P : List Entry → Type 0) → P [] → ((i : ℕ) (s : HeapSeat) → slice_get seats i ≡ Some s → P (view_of s).log)
    → (i : ℕ) → P (log_from i (start_core sh 1) es)
log_each sh seats w es run one P nil some i = each (slice_get seats i) refl
  where
    each : (o : Option HeapSeat) → slice_get seats i ≡ o → P (log_from i (start_core sh 1) es)
    each None is = subst P (sym (one.others i (slice_get_none seats i is))) nil
    each (Some s) is = subst P (run.parts i s is) (some i s is)

pub bound_starts : (sh : Shape) (seats : List HeapSeat) (w : Words) (es : List Event) → IsRunOf sh seats w es → HasOne sh seats es → (i : ℕ) → Bound sh.fields es (start_core sh 1) 0 i
bound_starts sh seats w es run one i = bound_at (slice_get seats i) refl
  where
    bound_at : (o : Option HeapSeat) → slice_get seats i ≡ o → Bound sh.fields es (start_core sh 1) 0 i
    bound_at None is = subst (λ (l : List Entry). made_count sh.fields l + (if i == 0 then 0 else 0) ≤ (if i == 0 then 1 else 0)) (sym (one.others i (slice_get_none seats i is))) (by_bool (i == 0))
      where
        by_bool : (b : Bool) → 0 + (if b then 0 else 0) ≤ (if b then 1 else 0)
        by_bool true = omega arith
        by_bool false = omega arith
    bound_at (Some s) is =
        subst (λ (l : List Entry). made_count sh.fields l + (if i == 0 then 0 else 0) ≤ (if i == 0 then 1 else 0)) (run.parts i s is) (by_bool (i == 0) (one.made i s is))
      where
        by_bool : (b : Bool) → made_count sh.fields (view_of s).log ≤ (if b then 1 else 0) → made_count sh.fields (view_of s).log + (if b then 0 else 0) ≤ (if b then 1 else 0)
        by_bool true h = omega (arith, h)
        by_bool false h = omega (arith, h)

pub single_starts : (sh : Shape) → IsSingle (start_world sh) 0 0
single_starts sh =
    let none = starts_none sh.sections sh in
    record { others = λ k d. (none k).0; first = inl ((none 0).0, refl, refl); coming = (none 0).1 }

pub counter-told : CounterTold
counter-told sh seats w es run one raised name object at =
    let start : Core = start_core sh 1 in
    let shaped : IsShape sh = (run.sound 0).formed.shaped in
    let all : AreAllowed start es = allowed 0 es start run.allowed in
    let end = counted_on es start (start_world sh) sh.fields 0 0 refl run.sound all (agrees-starts sh 1 shaped) (single_starts sh)
    (record {
      leaves = log_each sh seats w es run one (λ l. all_steps (leaves_values sh.fields) l ≡ true) refl one.values;
      raised = log_each sh seats w es run one (λ l. all_steps raises l ≡ true) refl raised;
      bound = bound_starts sh seats w es run one;
    }) in
    let whole : object_of (world_run es start (start_world sh)) name ≡ Some object = subst (λ (l : List Event). object_of (world_run l start (start_world sh)) name ≡ Some object) (take_whole es) at in
    let value : object.value ≡ 0 + won_in es start = value_at (world_run es start (start_world sh)) (0 + won_in es start) end.0 name object end.1 whole in
    let sum = won_summed es start (length seats) one.others in
    let logs = all_won_is seats 0 (λ i. won_count (log_from i start es)) (λ i s there. ap won_count (run.parts i s there) ∙ ap (λ (j : ℕ). won_count (log_from j start es)) (let e : i ≡ 0 + i = omega arith in e)) in
    omega (arith, value, sum, logs)
