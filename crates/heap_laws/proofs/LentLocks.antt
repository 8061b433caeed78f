-- A lock that section 0 lends: no two seats are inside, by their logs alone.
use Rattle.std.proofs.Common.{ℕ, ◌≡◌, ◌≢◌, ◌<◌, ◌≤◌, ◌==◌, ◌∙◌, zero, suc, List, [], ◌∷◌, ◌++◌, append_assoc, take, length, arith, refl, sym, ap, subst, Bool, true, false, Option, None, Some, ⊎_elim}
use Rattle.std.specs.Prelude.{if◌then◌else◌, replicate, slice_get, slice_index_or}
use Rattle.std.proofs.lemmas.Bool.{and_parts, cases_eq, cases_lt, false≢true}
use Rattle.std.proofs.lemmas.Option.{same_Some}
use Rattle.plain_heap.specs.Paths.{Name}
use Rattle.mark_core.specs.Steps.{Core, after_event, run_of, start_core}
use Rattle.mark_core.specs.declared.kinds.Event.{Event}
use Rattle.mark_core.specs.declared.kinds.Shape.{Shape}
use Rattle.mark_core.specs.declared.kinds.Step.{Step}
use Rattle.mark_core.specs.declared.kinds.Step.TheVariants.{ExchangeValue, Join, Split, StoreValue}
use Rattle.mark_core.specs.declared.seat.SeatState.{SeatState}
use Rattle.mark_core.proofs.Known.{Acted, acts}
use Rattle.mark_core.proofs.Blocks.BlocksStopped.{Taken}
use Rattle.mark_core.proofs.Pool.PoolsKept.{shape-kept}
use Rattle.gc_table.specs.AgreementLaws.{FindsValue, found_of, world_after, world_of, world_run}
use Rattle.gc_table.specs.Entries.{event}
use Rattle.gc_table.specs.Log.{all_steps}
use Rattle.gc_table.specs.Past.{adds, entries_of, log_from, log_of, word_told}
use Rattle.gc_table.specs.RunWorlds.{World, WorldObject, WorldSection, is_same, new_section, object_of, own_section, section_of, start_section, start_world, variable_of}
use Rattle.gc_table.specs.Runs.{AreAllowed}
use Rattle.gc_table.specs.Single.{exchanges_value, is_inside, takes_turn, takes_turns}
use Rattle.gc_table.specs.declared.view.Entry.{Entry}
use Rattle.gc_table.proofs.Counted.{logged_all, other_adds, own_adds}
use Rattle.gc_table.proofs.Exchanges.{compares_value, same-as}
use Rattle.gc_table.proofs.History.Past.{run-first}
use Rattle.gc_table.proofs.Lending.{all_split}
use Rattle.gc_table.proofs.Locked.{inside_join}
use Rattle.gc_table.proofs.Reading.{none-some}
use Rattle.gc_table.proofs.Winning.{finds-value}
use Rattle.heap_laws.specs.LentLocks.{LockByLog, TakesLent, makes_zero}
use Rattle.heap_laws.specs.Locks.{stores_none}
use Rattle.heap_laws.specs.Moments.{IsMoment}
use Rattle.heap_laws.specs.Named.{acts_on}
use Rattle.heap_laws.proofs.Lent.{lent_by_log}
use Rattle.heap_laws.proofs.Locks.{Held, exchange_held, held_same, turns-split}
use Rattle.heap_laws.proofs.Made.{coming-own, made-value}
use Rattle.heap_laws.proofs.Moments.{Next, each-allowed, moment-after, next-at}
use Rattle.heap_laws.proofs.Sections.{section_stays}
use Rattle.heap_laws.proofs.SplitLogs.{SplitLog, split_log}
use Rattle.heap_laws.proofs.Values.{value-next, value_by}

-- The value of the lock.
-- the object has this value, or isn't made yet and is to have it; and what its section makes has the value 0
pub record Valued (world : World) (name : Name) (n : ℕ) : Type 0 where
  pub present : (object : WorldObject) → object_of world name ≡ Some object → object.value ≡ n
  pub absent : object_of world name ≡ None → n ≡ 0
  pub coming : (section_of world name.section).coming ≡ 0

quiet_value : (acting : Bool) (step : Step) (n : ℕ) → exchanges_value step ≡ false → stores_none step ≡ true → value_by acting step n ≡ n
quiet_value false step n e f = refl
quiet_value true (ExchangeValue v m x) n e f = absurd (false≢true (sym e))
quiet_value true (StoreValue v x) n e f = absurd (false≢true f)
quiet_value true step n e f = refl

-- a step that exchanges and stores no value
quiet_next : (c : Core) (e : Event) (s : SeatState) (world : World) (name : Name) (n : ℕ) → slice_get c.seats e.seat ≡ Some s → exchanges_value e.step ≡ false → stores_none e.step ≡ true → (section_of (world_after c e world) name.section).coming ≡ 0 → Valued world name n
    → Valued (world_after c e world) name n
quiet_next c e s world name n got none unstored coming v = by_object (object_of world name) refl
  where
    by_object : (o : Option WorldObject) → object_of world name ≡ o → Valued (world_after c e world) name n
    by_object (Some object) there =
        let a = value-next c e s world name object got there in
        record {
          present = λ after is. ap (λ (o : WorldObject). o.value) (same_Some after a.0 (sym is ∙ a.1)) ∙ (a.2 ∙ (quiet_value (acts_on world (Some s) e.step name) e.step object.value none unstored ∙ v.present object there));
          absent = λ gone. absurd (none-some a.0 (sym gone ∙ a.1));
          coming = coming;
        }
    by_object None there =
        record {
          present =
              λ after is.
              made-value c s e.step world name after there (ap (λ (o : Option SeatState). object_of (world_of c o e.step world) name) (sym got) ∙ is) ∙ (v.coming ∙ sym (v.absent there));
          absent = λ gone. v.absent there;
          coming = coming;
        }

-- a step that tells nothing of the lock
quiet_inside : (b : Bool) (c : Core) (s : SeatState) (step : Step) → exchanges_value step ≡ false → is_inside b (entries_of c (Some s) step) ≡ b
quiet_inside b c s (ExchangeValue v m x) e = absurd (false≢true (sym e))
quiet_inside b c s Split e = refl
quiet_inside b c s (Join o) e = refl
quiet_inside b c s step e = refl

logged_turn : (b : Bool) (c : Core) (s : SeatState) (v m x : ℕ) → takes_turns b (entries_of c (Some s) (ExchangeValue v m x)) ≡ true → takes_turn b (ExchangeValue v m x) ≡ true
logged_turn b c s v m x h = (and_parts (takes_turn b (ExchangeValue v m x)) true h).0

-- a run keeps the shape
shape_on : (es : List Event) (c : Core) → AreAllowed c es → (k : ℕ) → (run_of (take k es) c).shape ≡ c.shape
shape_on es c ok zero = refl
shape_on [] c ok (suc k) = refl
shape_on (e ∷ es) c ok (suc k) = ap (λ (d : Core). d.shape) (run-first c e (take k es) ok.0) ∙ (shape_on es (after_event c e) ok.1 k ∙ shape-kept c e)

-- at the start nothing is made, nor about to be
nothing_at : {X : Type 0} (k : ℕ) (x : X) → slice_get [] k ≡ Some x → ⊥
nothing_at zero x e = none-some x e
nothing_at (suc k) x e = none-some x e

start_none : (n k : ℕ) (sh : Shape) → ((slice_index_or (replicate n (start_section sh)) k new_section).objects ≡ []) × ((slice_index_or (replicate n (start_section sh)) k new_section).coming ≡ 0)
start_none zero zero sh = (refl, refl)
start_none zero (suc k) sh = (refl, refl)
start_none (suc n) zero sh = (refl, refl)
start_none (suc n) (suc k) sh = start_none n k sh

pub starts_empty : (sh : Shape) (name : Name) (object : WorldObject) → object_of (start_world sh) name ≡ Some object → ⊥
starts_empty sh name object at = nothing_at name.number object (ap (λ (xs : List WorldObject). slice_get xs name.number) (sym (start_none sh.sections name.section sh).0) ∙ at)

module _ (sh : Shape) (es : List Event) (u : ℕ) (name : Name) (l : TakesLent sh es u name) where
  abbrev pub start : Core
  start = start_core sh 1

  abbrev pub core : ℕ → Core
  core k = run_of (take k es) start

  abbrev pub heap : ℕ → World
  heap k = world_run (take k es) start (start_world sh)

  abbrev ok : AreAllowed start es
  ok = each-allowed sh es l.history

  -- whether each seat is inside, by its log so far
  abbrev pub In : ℕ → ℕ → Bool
  In k i = is_inside false (log_from i start (take k es))

  -- the lock after the first k events
  pub record Locked (k : ℕ) : Type 0 where
    pub value : ℕ
    pub valued : Valued (heap k) name value
    pub held : Held value (In k)

  -- what is known of the event after them
  pub record Happening (k : ℕ) : Type 0 where
    pub event : Event
    pub there : slice_get es k ≡ Some event
    pub seat : SeatState
    pub taken : Taken (core k) event.seat seat event.step
    pub moment : IsMoment (core k) (heap k)
    pub after : heap (suc k) ≡ world_after (core k) event (heap k)

  pub event_at : (k : ℕ) → k < length es → Happening k
  event_at k h =
      let n : Next es start (start_world sh) k = next-at es start (start_world sh) ok k h in
      let m : IsMoment (core k) (heap k) = moment-after sh es l.history k in
      let r : (s : SeatState) × Acted (core k) n.event s = acts (core k) n.event m.core n.allowed in
      record { event = n.event; there = n.there; seat = r.0; taken = record { core = m.core; got = r.1.seat; live = r.1.live; ok = r.1.ok }; moment = m; after = n.heap }

  module _ (k : ℕ) (x : Happening k) where
    abbrev e : Event
    e = x.event

    abbrev s : SeatState
    s = x.seat

    pub split : (i : ℕ) → SplitLog i es start k e
    split i = split_log i es start ok k e x.there

    -- the entries of the event in the log of its seat
    pub own : adds e.seat (core k) e ≡ entries_of (core k) (Some s) e.step
    own = own_adds (core k) e s x.taken.got

    -- what is asked of each step of a log is asked of this one
    asked : (P : Step → Bool) → P Split ≡ true → ((o : ℕ) → P (Join o) ≡ true) → all_steps P (log_from e.seat start es) ≡ true → P e.step ≡ true
    asked P p q all =
        let it = split e.seat in
        let whole : all_steps P ((log_from e.seat start (take k es) ++ adds e.seat (core k) e) ++ it.rest) ≡ true = subst (λ (z : List Entry). all_steps P z ≡ true) it.whole all in
        let first = (all_split P (log_from e.seat start (take k es) ++ adds e.seat (core k) e) it.rest whole).0 in
        let here = (all_split P (log_from e.seat start (take k es)) (adds e.seat (core k) e) first).1 in
        logged_all P p q (core k) s e.step (subst (λ (z : List Entry). all_steps P z ≡ true) own here)

    pub inside_next : (i : ℕ) → In (suc k) i ≡ is_inside (In k i) (adds i (core k) e)
    inside_next i = ap (is_inside false) (split i).more ∙ inside_join false (log_from i start (take k es)) (adds i (core k) e)

    pub others : (i : ℕ) → i ≢ e.seat → In (suc k) i ≡ In k i
    others i d = inside_next i ∙ ap (is_inside (In k i)) (other_adds i (core k) e d)

    -- what the section of the lock is to make
    coming_next : (section_of (heap k) name.section).coming ≡ 0 → (section_of (world_after (core k) e (heap k)) name.section).coming ≡ 0
    coming_next z =
        ap (λ (o : Option SeatState). (section_of (world_of (core k) o e.step (heap k)) name.section).coming) x.taken.got
        ∙ ⊎_elim
        (λ (same : name.section ≡ e.seat).
        let zero_made : makes_zero sh.fields e.step ≡ true = asked (makes_zero sh.fields) refl (λ o. refl) (subst (λ (j : ℕ). all_steps (makes_zero sh.fields) (log_from j start es) ≡ true) same l.made) in
        coming-own (core k) s e.step (heap k) name.section (subst (λ (f : ℕ). makes_zero f e.step ≡ true) (sym fields_same) zero_made) z)
        (λ (d : name.section ≢ e.seat). section_stays (λ (y : WorldSection). y.coming) (λ y objects. refl) (core k) e.seat s e.step (heap k) name.section x.taken d ∙ z)
        (cases_eq name.section e.seat)
      where
        fields_same : (core k).shape.fields ≡ sh.fields
        fields_same = ap (λ (z : Shape). z.fields) (shape_on es start ok k)

    -- a step that isn't an exchange of a value
    quiet_step : exchanges_value e.step ≡ false → Locked k → Locked (suc k)
    quiet_step none q =
        let unstored : stores_none e.step ≡ true = asked stores_none refl (λ o. refl) (l.unstored e.seat) in
        let here : In (suc k) e.seat ≡ In k e.seat = inside_next e.seat ∙ (ap (is_inside (In k e.seat)) own ∙ quiet_inside (In k e.seat) (core k) s e.step none) in
        record {
          value = q.value;
          valued = subst (λ (w : World). Valued w name q.value) (sym x.after) (quiet_next (core k) e s (heap k) name q.value x.taken.got none unstored (coming_next q.valued.coming) q.valued);
          held = held_same q.value e.seat (In k) (In (suc k)) here others q.held;
        }

    -- an exchange of a value is one of the lock
    locks : (v m n : ℕ) → e.step ≡ ExchangeValue v m n → variable_of (heap k) (own_section s) v ≡ Some name
    locks v m n is =
        let t : Taken (core k) e.seat s (ExchangeValue v m n) = subst (λ (a : Step). Taken (core k) e.seat s a) is x.taken in
        let mu = (compares_value (core k) e.seat s v m n (heap k) t x.moment.agrees).mutator in
        let it = split e.seat in
        let before : List Entry = log_from e.seat start (take k es) in
        let entry : Entry = event (ExchangeValue v m n) (word_told (core k) s (ExchangeValue v m n)) in
        let one : adds e.seat (core k) e ≡ entry ∷ [] = own ∙ ap (λ (a : Step). entries_of (core k) (Some s) a) is in
        let whole : log_from e.seat start es ≡ before ++ entry ∷ it.rest = it.whole ∙ (ap (λ (z : List Entry). (before ++ z) ++ it.rest) one ∙ append_assoc before (entry ∷ []) it.rest) in
        let lent = l.lent e.seat before it.rest entry v m n whole refl in
        ap (λ (j : ℕ). variable_of (heap k) j v) mu.own ∙ lent_by_log sh es l.history u name l.below l.lends e.seat v k lent.0 lent.1

    exchange_step : (v m n : ℕ) → e.step ≡ ExchangeValue v m n → Locked k → Locked (suc k)
    exchange_step v m n is q =
        let step : Step = ExchangeValue v m n in
        let t : Taken (core k) e.seat s step = subst (λ (a : Step). Taken (core k) e.seat s a) is x.taken in
        let refers : variable_of (heap k) (own_section s) v ≡ Some name = locks v m n is in
        let acting : acts_on (heap k) (Some s) step name ≡ true = ap (λ (o : Option Name). is_same o (Some name)) refers ∙ same-as (Some name) in
        let f : FindsValue (core k) (heap k) s v m n (found_of (core k) (Some s) step) = finds-value (core k) e.seat s v m n (heap k) t x.moment.agrees in
        let named : f.name ≡ name = same_Some f.name name (sym f.variable ∙ refers) in
        let there : object_of (heap k) name ≡ Some f.object = ap (object_of (heap k)) (sym named) ∙ f.there in
        let was : f.object.value ≡ q.value = q.valued.present f.object there in
        let word : found_of (core k) (Some s) step ≡ q.value = f.found ∙ was in
        let a = value-next (core k) e s (heap k) name f.object x.taken.got there in
        let new : ℕ = if q.value == m then n else q.value in
        let changed : a.0.value ≡ new =
        a.2 ∙ (ap (λ (z : Step). value_by (acts_on (heap k) (Some s) z name) z f.object.value) is
        ∙ (ap (λ (b : Bool). value_by b step f.object.value) acting ∙ ap (λ (z : ℕ). if z == m then n else z) was)) in
        let it = split e.seat in
        let before : List Entry = log_from e.seat start (take k es) in
        let turns = (turns-split false (before ++ adds e.seat (core k) e) it.rest (subst (λ (z : List Entry). takes_turns false z ≡ true) it.whole (l.turns e.seat))).0 in
        let turn_here = (turns-split false before (adds e.seat (core k) e) turns).1 in
        let one : adds e.seat (core k) e ≡ entries_of (core k) (Some s) step = own ∙ ap (λ (z : Step). entries_of (core k) (Some s) z) is in
        let turn : takes_turn (In k e.seat) step ≡ true = logged_turn (In k e.seat) (core k) s v m n (subst (λ (z : List Entry). takes_turns (In k e.seat) z ≡ true) one turn_here) in
        let here : In (suc k) e.seat ≡ (if q.value == m then n == 1 else In k e.seat) =
        inside_next e.seat ∙ (ap (is_inside (In k e.seat)) one ∙ ap (λ (z : ℕ). if z == m then n == 1 else In k e.seat) word) in
        let valued : Valued (world_after (core k) e (heap k)) name new =
        record {
          present = λ object after. ap (λ (o : WorldObject). o.value) (same_Some object a.0 (sym after ∙ a.1)) ∙ changed;
          absent = λ gone. absurd (none-some a.0 (sym gone ∙ a.1));
          coming = coming_next q.valued.coming;
        } in
        record {
          value = new;
          valued = subst (λ (w : World). Valued w name new) (sym x.after) valued;
          held = exchange_held v m n q.value e.seat (In k) (In (suc k)) (In k e.seat) refl turn here others q.held;
        }

    locked_next : (a : Step) → e.step ≡ a → Locked k → Locked (suc k)
    locked_next (ExchangeValue v m n) is q = exchange_step v m n is q
    locked_next a is q = quiet_step (ap exchanges_value is) q

  pub locked : (k : ℕ) → k ≤ length es → Locked k
  locked zero h =
      let none = start_none sh.sections name.section sh in
      record {
        value = 0;
        valued = record { present = λ object at. absurd (starts_empty sh name object at); absent = λ _. refl; coming = none.1 };
        held = record { one = λ i j p q. absurd (false≢true p); locked = λ i p. absurd (false≢true p) };
      }
  locked (suc k) h = let x = event_at k (omega (arith, h)) in locked_next k x x.event.step refl (locked k (omega (arith, h)))

take_past : {X : Type 0} (xs : List X) (k : ℕ) → length xs ≤ k → take k xs ≡ take (length xs) xs
take_past [] zero h = refl
take_past [] (suc k) h = refl
take_past (x ∷ xs) zero h = absurd (omega (arith, h))
take_past {X} (x ∷ xs) (suc k) h = ap (λ (l : List X). x ∷ l) (take_past xs k (omega (arith, h)))

pub lock_by_log : LockByLog
lock_by_log sh es u name l k i j p q =
    ⊎_elim
    (λ (h : length es < k).
    let same : take k es ≡ take (length es) es = take_past es k (omega (arith, h)) in
    let within : length es ≤ length es = omega arith in
    (locked sh es u name l (length es) within).held.one i j
    (subst (λ (z : List Event). is_inside false (log_of sh z i) ≡ true) same p) (subst (λ (z : List Event). is_inside false (log_of sh z j) ≡ true) same q))
    (λ (h : k ≤ length es). (locked sh es u name l k h).held.one i j p q)
    (cases_lt (length es) k)
