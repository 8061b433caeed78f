-- In a heap with one object that threads take for a lock no two of them are inside.
use Rattle.std.proofs.Common.{ℕ, zero, suc, ◌≡◌, ◌≢◌, ◌+◌, ◌==◌, ◌∙◌, List, [], ◌∷◌, ◌++◌, take, ap, arith, refl, subst, sym, ⊎_elim, Bool, true, false, Some, eqb-true}
use Rattle.std.specs.Prelude.{if◌then◌else◌}
use Rattle.std.proofs.lemmas.Bool.{and_from, and_parts, cases_eq, eq-eqb, false≢true, ne_eqb}
use Rattle.mark_core.specs.Shapes.{IsShape}
use Rattle.mark_core.specs.Steps.{Core, after_event, start_core}
use Rattle.mark_core.specs.declared.kinds.Event.{Event}
use Rattle.mark_core.specs.declared.kinds.Shape.{Shape}
use Rattle.mark_core.specs.declared.kinds.Step.{Step}
use Rattle.mark_core.specs.declared.kinds.Step.TheVariants.{ExchangeValue, Join, Split}
use Rattle.mark_core.specs.declared.seat.SeatState.{SeatState}
use Rattle.mark_core.proofs.Known.{Acted, acts}
use Rattle.mark_core.proofs.Blocks.BlocksStopped.{Taken}
use Rattle.mark_core.proofs.Pool.PoolsKept.{shape-kept}
use Rattle.gc_table.specs.Log.{all_steps}
use Rattle.gc_table.specs.Past.{adds, entries_of, log_from}
use Rattle.gc_table.specs.declared.view.Entry.{Entry}
use Rattle.gc_table.specs.Agreement.{AgreesWith}
use Rattle.gc_table.specs.AgreementLaws.{world_after}
use Rattle.gc_table.specs.RunWorlds.{World, start_world}
use Rattle.gc_table.proofs.Kept.{agrees-kept, agrees-starts}
use Rattle.gc_table.specs.Runs.{AreAllowed}
use Rattle.gc_table.specs.Single.{LockHeld, is_inside, leaves_values, makes_object, takes_turn, takes_turns, turned}
use Rattle.gc_table.proofs.Counted.{Bound, bound_rest, bound_starts, log_each, logged_all, other_adds, own_adds, single_event, single_starts}
use Rattle.gc_table.proofs.Lending.{all_split, Sound, later-sound}
use Rattle.gc_table.proofs.Single.{IsSingle, exchanged_one, value_after}
use Rattle.gc_table.proofs.Freeing.{allowed}

-- one seat at most is inside, and then the value is 1
record Held (n : ℕ) (b : ℕ → Bool) : Type 0 where
  one : (i j : ℕ) → b i ≡ true → b j ≡ true → i ≡ j
  locked : (i : ℕ) → b i ≡ true → n ≡ 1

held_less : (n : ℕ) (b d : ℕ → Bool) → ((i : ℕ) → d i ≡ true → b i ≡ true) → Held n b → Held n d
held_less n b d less h = record { one = λ i j p q. h.one i j (less i p) (less j q); locked = λ i p. h.locked i (less i p) }

-- an exchange of a value by seat a
exchange_held : (v m x n a : ℕ) (b d : ℕ → Bool) (q : Bool) → b a ≡ q → takes_turn q (ExchangeValue v m x) ≡ true → d a ≡ (if n == m then x == 1 else q) → ((i : ℕ) → i ≢ a → d i ≡ b i) → Held n b → Held (if n == m then x else n) d
exchange_held v m x n a b d true is turn here others h =
    let p = and_parts (m == 1) (x == 0) turn in
    let one : m ≡ 1 = eqb-true m 1 p.0 in
    let none : x ≡ 0 = eqb-true x 0 p.1 in
    let locked : n ≡ 1 = h.locked a is in
    let gone : d a ≡ false = here ∙ (ap (λ (z : Bool). if z then x == 1 else true) (eq-eqb n m (omega (arith, locked, one))) ∙ ne_eqb x 1 (λ e. omega (arith, e, none))) in
    let out : (i : ℕ) → d i ≡ true → ⊥ = λ i t. ⊎_elim (λ (e : i ≡ a). false≢true (sym gone ∙ (ap d (sym e) ∙ t))) (λ (f : i ≢ a). f (h.one i a (sym (others i f) ∙ t) is)) (cases_eq i a) in
    record { one = λ i j t u. absurd (out i t); locked = λ i t. absurd (out i t) }
exchange_held v m x n a b d false is turn here others h =
    let p = and_parts (m == 0) (x == 1) turn in
    by_found (eqb-true m 0 p.0) (eqb-true x 1 p.1) (n == m) refl
  where
    by_found : m ≡ 0 → x ≡ 1 → (r : Bool) → (n == m) ≡ r → Held (if n == m then x else n) d
    by_found none one true r =
        let free : n ≡ m = eqb-true n m r in
        let only : (i : ℕ) → d i ≡ true → i ≡ a =
        λ i t. ⊎_elim (λ (e : i ≡ a). e) (λ (f : i ≢ a). absurd (let locked = h.locked i (sym (others i f) ∙ t) in omega (arith, locked, free, none))) (cases_eq i a) in
        subst (λ (z : Bool). Held (if z then x else n) d) (sym r) (record { one = λ i j t u. only i t ∙ sym (only j u); locked = λ i t. one })
    by_found none one false r =
        let out : d a ≡ false = here ∙ ap (λ (z : Bool). if z then x == 1 else false) r in
        subst (λ (z : Bool). Held (if z then x else n) d) (sym r)
        (held_less n b d (λ i t. ⊎_elim (λ (e : i ≡ a). absurd (false≢true (sym out ∙ (ap d (sym e) ∙ t)))) (λ (f : i ≢ a). sym (others i f) ∙ t) (cases_eq i a)) h)

-- whether a seat is inside after its step, if the value before it is n
abbrev inside_after : Step → ℕ → Bool → Bool
inside_after (ExchangeValue v m x) n b = if n == m then x == 1 else b
inside_after step n b = b

-- a step by seat a
held_step : (step : Step) (n a : ℕ) (b d : ℕ → Bool) → takes_turn (b a) step ≡ true → d a ≡ inside_after step n (b a) → ((i : ℕ) → i ≢ a → d i ≡ b i) → Held n b → Held (value_after step n) d
held_step (ExchangeValue v m x) n a b d turn here others h = exchange_held v m x n a b d (b a) refl turn here others h
held_step step n a b d turn here others h =
    held_less n b d (λ i t. ⊎_elim (λ (e : i ≡ a). ap b e ∙ (sym here ∙ (ap d (sym e) ∙ t))) (λ (f : i ≢ a). sym (others i f) ∙ t) (cases_eq i a)) h

pub inside_join : (b : Bool) (xs ys : List Entry) → is_inside b (xs ++ ys) ≡ is_inside (is_inside b xs) ys
inside_join b [] ys = refl
inside_join b (x ∷ xs) ys = inside_join (turned b x.step x.won) xs ys

turns_split : (b : Bool) (xs ys : List Entry) → takes_turns b (xs ++ ys) ≡ true → (takes_turns b xs ≡ true) × (takes_turns (is_inside b xs) ys ≡ true)
turns_split b [] ys h = (refl, h)
turns_split b (x ∷ xs) ys h =
    let p = and_parts (takes_turn b x.step) (takes_turns (turned b x.step x.won) (xs ++ ys)) h in
    let q = turns_split (turned b x.step x.won) xs ys p.1 in
    (and_from (takes_turn b x.step) (takes_turns (turned b x.step x.won) xs) p.0 q.0, q.1)

logged_turn : (b : Bool) (c : Core) (s : SeatState) (step : Step) → takes_turns b (entries_of c (Some s) step) ≡ true → takes_turn b step ≡ true
logged_turn b c s Split h = refl
logged_turn b c s (Join o) h = refl
logged_turn b c s step h = (and_parts (takes_turn b step) true h).0

-- the log of a seat tells whether it is inside
logged_inside : (c : Core) (i : ℕ) (s : SeatState) (step : Step) (world : World) (n h : ℕ) → Taken c i s step → AgreesWith c world → IsSingle world n h → (b : Bool) → is_inside b (entries_of c (Some s) step) ≡ inside_after step n b
logged_inside c i s (ExchangeValue v m x) world n h k a single b = ap (λ (w : ℕ). if w == m then x == 1 else b) (exchanged_one c i s v m x world n h k a single).0
logged_inside c i s Split world n h k a single b = refl
logged_inside c i s (Join o) world n h k a single b = refl
logged_inside c i s step world n h k a single b = refl

-- what is asked of all logs, given whether each seat is inside
record Locking (fields : ℕ) (es : List Event) (c : Core) (h : ℕ) (b : ℕ → Bool) : Type 0 where
  leaves : (i : ℕ) → all_steps (leaves_values fields) (log_from i c es) ≡ true
  turns : (i : ℕ) → takes_turns (b i) (log_from i c es) ≡ true
  bound : (i : ℕ) → Bound fields es c h i

-- no two seats are inside after the first k events
abbrev OneInside : List Event → Core → (ℕ → Bool) → ℕ → Type 0
OneInside es c b k = (i j : ℕ) → is_inside (b i) (log_from i c (take k es)) ≡ true → is_inside (b j) (log_from j c (take k es)) ≡ true → i ≡ j

held_on : (es : List Event) (c : Core) (world : World) (fields n h : ℕ) (b : ℕ → Bool) → c.shape.fields ≡ fields → Sound c es → AreAllowed c es → AgreesWith c world → IsSingle world n h → Locking fields es c h b → Held n b → (k : ℕ) → OneInside es c b k
held_on [] c world fields n h b same sound ok a single asked held zero = held.one
held_on [] c world fields n h b same sound ok a single asked held (suc k) = held.one
held_on (e ∷ es) c world fields n h b same sound ok a single asked held zero = held.one
held_on (e ∷ es) c world fields n h b same sound ok a single asked held (suc k) =
    let d : Core = after_event c e in
    let r : (s : SeatState) × Acted c e s = acts c e (sound 0) ok.0 in
    let s : SeatState = r.0 in
    let t : Taken c e.seat s e.step = record { core = sound 0; got = r.1.seat; live = r.1.live; ok = r.1.ok } in
    let own = own_adds c e s r.1.seat in
    let all = all_split (leaves_values fields) (adds e.seat c e) (log_from e.seat d es) (asked.leaves e.seat) in
    let leaves : leaves_values fields e.step ≡ true = logged_all (leaves_values fields) refl (λ o. refl) c s e.step (subst (λ (l : List Entry). all_steps (leaves_values fields) l ≡ true) own all.0) in
    let next = single_event e es c world fields n h s same t a single leaves asked.bound in
    let turns : (i : ℕ) → (takes_turns (b i) (adds i c e) ≡ true) × (takes_turns (is_inside (b i) (adds i c e)) (log_from i d es) ≡ true) = λ i. turns_split (b i) (adds i c e) (log_from i d es) (asked.turns i) in
    let turn : takes_turn (b e.seat) e.step ≡ true = logged_turn (b e.seat) c s e.step (subst (λ (l : List Entry). takes_turns (b e.seat) l ≡ true) own (turns e.seat).0) in
    let there : Held (value_after e.step n) (λ i. is_inside (b i) (adds i c e)) =
    held_step e.step n e.seat b (λ i. is_inside (b i) (adds i c e)) turn (ap (λ (l : List Entry). is_inside (b e.seat) l) own ∙ logged_inside c e.seat s e.step world n h t a single (b e.seat))
    (λ i f. ap (λ (l : List Entry). is_inside (b i) l) (other_adds i c e f)) held in
    let rest = held_on es d (world_after c e world) fields (value_after e.step n) (h + (if makes_object fields e.step then 1 else 0)) (λ i. is_inside (b i) (adds i c e)) (ap (λ (sh : Shape). sh.fields) (shape-kept c e) ∙ same) (later-sound c e es ok.0 sound) ok.1
    (agrees-kept c e world (sound 0) a ok.0) next
    (record {
      leaves = λ i. (all_split (leaves_values fields) (adds i c e) (log_from i d es) (asked.leaves i)).1;
      turns = λ i. (turns i).1;
      bound = bound_rest fields e es c s h r.1.seat asked.bound;
    }) there k in
    λ i j p q. rest i j (sym (inside_join (b i) (adds i c e) (log_from i d (take k es))) ∙ p) (sym (inside_join (b j) (adds j c e) (log_from j d (take k es))) ∙ q)

pub lock-held : LockHeld
lock-held sh seats w es run one turns =
    let start : Core = start_core sh 1 in
    let shaped : IsShape sh = (run.sound 0).formed.shaped in
    let all : AreAllowed start es = allowed 0 es start run.allowed in
    held_on es start (start_world sh) sh.fields 0 0 (λ i. false) refl run.sound all (agrees-starts sh 1 shaped) (single_starts sh)
    (record {
      leaves = log_each sh seats w es run one (λ l. all_steps (leaves_values sh.fields) l ≡ true) refl one.values;
      turns = log_each sh seats w es run one (λ l. takes_turns false l ≡ true) refl turns;
      bound = bound_starts sh seats w es run one;
    })
    (record { one = λ i j p q. absurd (false≢true p); locked = λ i p. absurd (false≢true p) })
