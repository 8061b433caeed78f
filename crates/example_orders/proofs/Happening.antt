-- The events of a run, and what the log of a seat tells of its variables after each of them.
use Rattle.std.proofs.Common.{ℕ, zero, suc, ◌≡◌, ◌≢◌, ◌<◌, ◌≤◌, ◌==◌, ◌∙◌, List, [], ◌∷◌, ◌++◌, ap, arith, eqb-true, length, length-set, refl, set, subst, sym, take, ⊎_elim, Bool, true, false, None, Some}
use Rattle.std.specs.Prelude.{if◌then◌else◌, slice_get, slice_index}
use Rattle.std.proofs.lemmas.Bool.{cases_eq, cases_lt, eqb-false, true≢false}
use Rattle.std.proofs.lemmas.List.{append-nil, get_or-replicate, get_or-set_other, get_or-set_same}
use Rattle.std.proofs.lemmas.Option.{same_Some, slice_get_within}
use Rattle.mark_core.specs.Bits.{reference_in}
use Rattle.mark_core.specs.Effects.{seat_after}
use Rattle.mark_core.specs.Start.{spent_seat, start_seat}
use Rattle.mark_core.specs.Steps.{Core, failing_part, start_core}
use Rattle.mark_core.specs.declared.kinds.Event.{Event}
use Rattle.mark_core.specs.declared.kinds.Shape.{Shape}
use Rattle.mark_core.specs.declared.kinds.Step.{Step}
use Rattle.mark_core.specs.declared.kinds.Step.TheVariants.{HoldRoot, Join, Split, StoreRoot}
use Rattle.mark_core.specs.declared.seat.SeatState.{SeatState}
use Rattle.mark_core.proofs.Known.{Acted, acts, found, seats_left}
use Rattle.mark_core.proofs.Blocks.BlocksStopped.{Taken}
use Rattle.mark_core.proofs.Consequences.WeakKept.{seated-left}
use Rattle.mark_core.proofs.Consequences.WeakTold.{other_stays}
use Rattle.mark_core.proofs.References.ReferencesRoots.{seat-formed}
use Rattle.gc_table.specs.AgreementLaws.{world_after}
use Rattle.gc_table.specs.Past.{adds, entries_of, log_of, word_told}
use Rattle.gc_table.specs.RunWorlds.{World, start_world}
use Rattle.gc_table.specs.Runs.{AreAllowed, core_after}
use Rattle.gc_table.specs.Sharing.{heap_after_events}
use Rattle.gc_table.specs.declared.view.Entry.{Entry}
use Rattle.gc_table.proofs.Counted.{other_adds, own_adds}
use Rattle.gc_table.proofs.Reading.{get-front, get-set_other, get-set_same, none-some}
use Rattle.heap_laws.specs.Moments.{IsHistory, IsMoment}
use Rattle.heap_laws.proofs.Moments.{Next, each-allowed, moment-after, next-at}
use Rattle.heap_laws.proofs.SplitLogs.{SplitLog, split_log}
use Rattle.example_orders.specs.Variables.{Variables, after_log, after_step, all_nil, word_after}

-- The words of a seat's variables after its step.
set_word : (c : Core) (i : ℕ) (s : SeatState) (step : Step) (v u r : ℕ) → Taken c i s step → v < 32 → slice_index (set s.env u (reference_in r)) v ≡ (if u == v then reference_in r else slice_index s.env v)
set_word c i s step v u r k below = by_word (u == v) refl
  where
    by_word : (b : Bool) → (u == v) ≡ b → slice_index (set s.env u (reference_in r)) v ≡ (if b then reference_in r else slice_index s.env v)
    by_word true e =
        let long = (seat-formed c i s step k).env in
        let same : v ≡ u = sym (eqb-true u v e) in
        let inside : v < length s.env = omega (arith, long, below) in
        subst (λ (n : ℕ). slice_index (set s.env n (reference_in r)) v ≡ reference_in r) same (get_or-set_same s.env v (reference_in r) 0 inside)
    by_word false e = get_or-set_other s.env u v (reference_in r) 0 (λ z. eqb-false u v e (sym z))

word_next : (c : Core) (i : ℕ) (s : SeatState) (step : Step) (v : ℕ) → Taken c i s step → v < 32 → slice_index (seat_after c.shape s step (found c s step)).env v ≡ word_after v (slice_index s.env v) step
word_next c i s (StoreRoot u r) v k below = set_word c i s (StoreRoot u r) v u r k below
word_next c i s (HoldRoot u r) v k below = set_word c i s (HoldRoot u r) v u r k below
word_next c i s step v k below = refl

-- the record of a seat after its own step
left_own : (c : Core) (i : ℕ) (s : SeatState) (step : Step) → Taken c i s step → (t : SeatState) → slice_get (seats_left c i s step) i ≡ Some t → t.spent ≡ false → t ≡ seat_after c.shape s step (found c s step)
left_own c i s Split k t at live =
    let h : i < length c.seats = slice_get_within c.seats i s k.got in
    let here = get-front (set c.seats i s) (start_seat c.shape (length (set c.seats i s))) i (omega (arith, h, length-set c.seats i s)) ∙ get-set_same c.seats i s s k.got in
    same_Some t s (sym at ∙ here)
left_own c i s (Join other) k t at live =
    let old : List SeatState = set c.seats i s in
    ⊎_elim
    (λ (e : i ≡ other).
    let gone : slice_get (set old i (spent_seat c.shape other)) i ≡ Some (spent_seat c.shape other) = get-set_same old i s (spent_seat c.shape other) (get-set_same c.seats i s s k.got) in
    let same : spent_seat c.shape other ≡ t = same_Some (spent_seat c.shape other) t (sym gone ∙ subst (λ (j : ℕ). slice_get (set old j (spent_seat c.shape other)) i ≡ Some t) (sym e) at) in
    absurd (true≢false (ap (λ (x : SeatState). x.spent) same ∙ live)))
    (λ (n : i ≢ other). same_Some t s (sym at ∙ (get-set_other old other i (spent_seat c.shape other) n ∙ get-set_same c.seats i s s k.got)))
    (cases_eq i other)
left_own c i s step k t at live = same_Some t (seat_after c.shape s step (found c s step)) (sym at ∙ get-set_same c.seats i s (seat_after c.shape s step (found c s step)) k.got)

-- A seat that is made has done nothing.
last_of : (xs : List SeatState) (y t : SeatState) (i : ℕ) → length xs ≤ i → slice_get (xs ++ y ∷ []) i ≡ Some t → y ≡ t
last_of [] y t zero h e = same_Some y t e
last_of [] y t (suc i) h e = absurd (none-some t e)
last_of (x ∷ xs) y t zero h e = absurd (omega (arith, h))
last_of (x ∷ xs) y t (suc i) h e = last_of xs y t i (omega (arith, h)) e

past_set : (xs : List SeatState) (i : ℕ) (t : SeatState) → length xs ≤ i → slice_get xs i ≡ Some t → ⊥
past_set xs i t h e = let inside = slice_get_within xs i t e in omega (arith, h, inside)

new_word : (c : Core) (j : ℕ) (s : SeatState) (step : Step) (i v : ℕ) (t : SeatState) → v < 32 → length c.seats ≤ i → slice_get (seats_left c j s step) i ≡ Some t → slice_index t.env v ≡ 0
new_word c j s Split i v t below h at =
    let made : SeatState = start_seat c.shape (length (set c.seats j s)) in
    let same : made ≡ t = last_of (set c.seats j s) made t i (omega (arith, h, length-set c.seats j s)) at in
    ap (λ (x : SeatState). slice_index x.env v) (sym same) ∙ get_or-replicate 32 v 0 0 below
new_word c j s (Join other) i v t below h at =
    let old : List SeatState = set c.seats j s in
    absurd (past_set (set old other (spent_seat c.shape other)) i t (omega (arith, h, length-set old other (spent_seat c.shape other), length-set c.seats j s)) at)
new_word c j s step i v t below h at =
    let next : SeatState = seat_after c.shape s step (found c s step) in
    absurd (past_set (set c.seats j next) i t (omega (arith, h, length-set c.seats j next)) at)

-- What is so after the entries of one step, and of several.
pub log_join : (k : Variables) (xs ys : List Entry) → after_log k (xs ++ ys) ≡ after_log (after_log k xs) ys
log_join k [] ys = refl
log_join k (x ∷ xs) ys = log_join (after_step k x.step x.found) xs ys

pub entry_told : (k : Variables) (c : Core) (s : SeatState) (step : Step) → after_log k (entries_of c (Some s) step) ≡ after_step k step (word_told c s step)
entry_told k c s Split = refl
entry_told k c s (Join other) = refl
entry_told k c s step = refl

module _ (sh : Shape) (es : List Event) (h : IsHistory sh es) where
  abbrev pub core : ℕ → Core
  core k = core_after sh 1 es k

  abbrev pub heap : ℕ → World
  heap k = heap_after_events sh es k

  -- the log of seat i after the first k events
  abbrev pub log : ℕ → ℕ → List Entry
  log k i = log_of sh (take k es) i

  abbrev pub ok : AreAllowed (start_core sh 1) es
  ok = each-allowed sh es h

  -- the event after the first k
  pub record Happening (k : ℕ) : Type 0 where
    pub event : Event
    pub there : slice_get es k ≡ Some event
    pub allowed : failing_part (core k) event ≡ None
    pub seat : SeatState
    pub taken : Taken (core k) event.seat seat event.step
    pub moment : IsMoment (core k) (heap k)
    pub after : heap (suc k) ≡ world_after (core k) event (heap k)
    pub seats : (core (suc k)).seats ≡ seats_left (core k) event.seat seat event.step

  pub event_at : (k : ℕ) → k < length es → Happening k
  event_at k l =
      let n : Next es (start_core sh 1) (start_world sh) k = next-at es (start_core sh 1) (start_world sh) ok k l in
      let m : IsMoment (core k) (heap k) = moment-after sh es h k in
      let r : (s : SeatState) × Acted (core k) n.event s = acts (core k) n.event m.core n.allowed in
      record {
        event = n.event;
        there = n.there;
        allowed = n.allowed;
        seat = r.0;
        taken = record { core = m.core; got = r.1.seat; live = r.1.live; ok = r.1.ok };
        moment = m;
        after = n.heap;
        seats = ap (λ (c : Core). c.seats) n.core ∙ r.1.seats;
      }

  module _ (k : ℕ) (x : Happening k) where
    pub split : (i : ℕ) → SplitLog i es (start_core sh 1) k x.event
    split i = split_log i es (start_core sh 1) ok k x.event x.there

    pub own : adds x.event.seat (core k) x.event ≡ entries_of (core k) (Some x.seat) x.event.step
    own = own_adds (core k) x.event x.seat x.taken.got

    -- the log of another seat is as it was
    other_log : (i : ℕ) → i ≢ x.event.seat → log (suc k) i ≡ log k i
    other_log i d = (split i).more ∙ (ap (λ (l : List Entry). log k i ++ l) (other_adds i (core k) x.event d) ∙ append-nil (log k i))

    own_told : after_log all_nil (log (suc k) x.event.seat) ≡ after_step (after_log all_nil (log k x.event.seat)) x.event.step (word_told (core k) x.seat x.event.step)
    own_told =
        let j : ℕ = x.event.seat in
        ap (after_log all_nil) ((split j).more ∙ ap (λ (l : List Entry). log k j ++ l) own)
        ∙ (log_join all_nil (log k j) (entries_of (core k) (Some x.seat) x.event.step) ∙ entry_told (after_log all_nil (log k j)) (core k) x.seat x.event.step)

  -- Each seat's log has the words of its variables.
  pub record Known (k i : ℕ) : Type 0 where
    pub absent : length (core k).seats ≤ i → log k i ≡ []
    pub first : (t : SeatState) → slice_get (core k).seats i ≡ Some t → t.spent ≡ false → slice_index t.env 0 ≡ (after_log all_nil (log k i)).first
    pub second : (t : SeatState) → slice_get (core k).seats i ≡ Some t → t.spent ≡ false → slice_index t.env 1 ≡ (after_log all_nil (log k i)).second

  known_start : (i : ℕ) → Known 0 i
  known_start i = record { absent = λ _. refl; first = word i 0 (omega arith); second = word i 1 (omega arith) }
    where
      word : (j v : ℕ) → v < 32 → (t : SeatState) → slice_get (start_core sh 1).seats j ≡ Some t → t.spent ≡ false → slice_index t.env v ≡ 0
      word zero v below t at live = ap (λ (x : SeatState). slice_index x.env v) (sym (same_Some (start_seat sh 0) t at)) ∙ get_or-replicate 32 v 0 0 below
      word (suc j) v below t at live = let inside = slice_get_within (start_core sh 1).seats (suc j) t at in absurd (omega (arith, inside))

  known_next : (k i : ℕ) (x : Happening k) → ((j : ℕ) → Known k j) → Known (suc k) i
  known_next k i x old = record { absent = absent; first = word 0 (λ (y : Variables). y.first) (λ y step found. refl) (omega arith) (λ j. (old j).first) refl; second = word 1 (λ (y : Variables). y.second) (λ y step found. refl) (omega arith) (λ j. (old j).second) refl }
    where
      c : Core
      c = core k

      j : ℕ
      j = x.event.seat

      here : j < length c.seats
      here = slice_get_within c.seats j x.seat x.taken.got

      absent : length (core (suc k)).seats ≤ i → log (suc k) i ≡ []
      absent past =
          let longer = seated-left c j x.seat x.event.step in
          let same = ap (λ (l : List SeatState). length l) x.seats in
          let before : length c.seats ≤ i = omega (arith, past, longer, same) in
          other_log k x i (λ e. omega (arith, e, before, here)) ∙ (old i).absent before

      word : (v : ℕ) (of : Variables → ℕ) → ((y : Variables) (step : Step) (found : ℕ) → of (after_step y step found) ≡ word_after v (of y) step) → v < 32
          → ((n : ℕ) (t : SeatState) → slice_get c.seats n ≡ Some t → t.spent ≡ false → slice_index t.env v ≡ of (after_log all_nil (log k n))) → of all_nil ≡ 0
          → (t : SeatState) → slice_get (core (suc k)).seats i ≡ Some t → t.spent ≡ false → slice_index t.env v ≡ of (after_log all_nil (log (suc k) i))
      word v of next below was none t at live =
          ⊎_elim
          (λ (same : i ≡ j).
          let mine : slice_get (seats_left c j x.seat x.event.step) j ≡ Some t = subst (λ (n : ℕ). slice_get (seats_left c j x.seat x.event.step) n ≡ Some t) same left in
          ap (λ (y : SeatState). slice_index y.env v) (left_own c j x.seat x.event.step x.taken t mine live)
          ∙ (word_next c j x.seat x.event.step v x.taken below
          ∙ (ap (λ (n : ℕ). word_after v n x.event.step) (was j x.seat x.taken.got x.taken.live)
          ∙ (sym (next (after_log all_nil (log k j)) x.event.step (word_told c x.seat x.event.step))
          ∙ (ap of (sym (own_told k x)) ∙ ap (λ (n : ℕ). of (after_log all_nil (log (suc k) n))) (sym same))))))
          (λ (d : i ≢ j).
          let kept : of (after_log all_nil (log (suc k) i)) ≡ of (after_log all_nil (log k i)) = ap (λ (l : List Entry). of (after_log all_nil l)) (other_log k x i d) in
          ⊎_elim
          (λ (inside : i < length c.seats). was i t (other_stays c j i x.seat t x.event.step x.taken d inside left live) live ∙ sym kept)
          (λ (past : length c.seats ≤ i). new_word c j x.seat x.event.step i v t below past left ∙ (sym none ∙ (ap (λ (l : List Entry). of (after_log all_nil l)) (sym ((old i).absent past)) ∙ sym kept)))
          (cases_lt i (length c.seats)))
          (cases_eq i j)
        where
          left : slice_get (seats_left c j x.seat x.event.step) i ≡ Some t
          left = ap (λ (l : List SeatState). slice_get l i) (sym x.seats) ∙ at

  pub known : (k : ℕ) → k ≤ length es → (i : ℕ) → Known k i
  known zero l i = known_start i
  known (suc k) l i = known_next k i (event_at k (omega (arith, l))) (known k (omega (arith, l)))
