-- What each call of a thread adds that visits the lock.
use Rattle.std.proofs.Common.{ℕ, ◌≡◌, ◌+◌, ◌==◌, ◌||◌, ◌&&◌, ◌∙◌, List, [], ◌∷◌, ◌++◌, append_assoc, ap, arith, map, not, refl, subst, sym, Bool, true, false, None, Some, ⊎_elim}
use Rattle.std.specs.Prelude.{if◌then◌else◌}
use Rattle.std.specs.List.{range_with_len}
use Rattle.std.specs.Arc.{arc_value}
use Rattle.std.proofs.lemmas.Bool.{and_from, and_parts, ne_eqb}
use Rattle.mark_core.specs.Cards.{card_of}
use Rattle.mark_core.specs.Seats.{used_in}
use Rattle.mark_core.specs.Steps.MutatorSteps.{seat_variable as word_in}
use Rattle.mark_core.specs.declared.kinds.Shape.{Shape}
use Rattle.mark_core.specs.declared.kinds.Step.{Step}
use Rattle.mark_core.specs.declared.kinds.Step.TheVariants.{DirtyCard, ExchangeValue, HoldRoot, StoreField, StoreNew}
use Rattle.mark_core.specs.declared.seat.SeatState.{SeatState}
use Rattle.alloc_cache.specs.Making.{making_steps, nil_fields}
use Rattle.card_clean.specs.Barrier.{barrier_steps, card_steps, cell_in, was_dirty}
use Rattle.gc_table.specs.Entries.{event}
use Rattle.gc_table.specs.Log.{all_steps, events, steps_of}
use Rattle.gc_table.specs.Running.{Ran}
use Rattle.gc_table.specs.Seats.{view_of}
use Rattle.gc_table.specs.declared.seat.Heap.{Heap}
use Rattle.gc_table.specs.declared.view.Entry.{Entry}
use Rattle.gc_table.specs.declared.view.View.{View}
use Rattle.gc_table.proofs.History.Log.{events-of}
use Rattle.gc_table.proofs.Running.{ran-grows, ran-shape}
use Rattle.heap_laws.specs.LentLocks.{makes_zero}
use Rattle.heap_laws.specs.Locks.{stores_none}
use Rattle.mutator_ops.specs.Sharing.{SetsField, ShareCreates, next_word, setting_steps}
use Rattle.seat_turns.specs.Exchanging.{ExchangesValue}
use Rattle.seat_turns.specs.Sharing.{FollowsField, MakesSharedAfter, spares_heap}
use Rattle.shared_heap.specs.Calls.{IsSame, SharerActs, field_count_of}
use Rattle.shared_heap.specs.Logs.{Adds}
use Rattle.shared_heap.specs.declared.mutator.SharedMutator.{SharedMutator}
use Rattle.shared_heap.proofs.Logs.{adds-as, adds-join}
use Rattle.example_locks.specs.Visits.{AddsSpares, AddsVisits, Spares, Visits, spares_root}
use Rattle.example_locks.proofs.Steps.{first-stored, left-one, second-stored, spared-spares, spares-join, spares-visits, taken-one, visits-join}

-- One call after the other.
pub same_fields : (P : ℕ → List Entry → Type 0) (x y z : SharedMutator) → arc_value y.heap ≡ arc_value x.heap → Adds (P (field_count_of y)) y z → Adds (P (field_count_of x)) y z
same_fields P x y z heap a = let same : field_count_of y ≡ field_count_of x = ap (λ (h : Heap). h.shape.fields) heap in subst (λ (k : ℕ). Adds (P k) y z) same a

module _ (x y z : SharedMutator) where
  pub visits-then : (b c d : Bool) (m n : ℕ) → AddsVisits b c m x y → AddsVisits c d n y z → AddsVisits b d (m + n) x z
  visits-then b c d m n a e =
      let f : ℕ = field_count_of x in
      adds-join (Visits f b c None None m) (Visits f c d None None n) (Visits f b d None None (m + n)) (visits-join f b c d None None None m n) x y z a (same_fields (λ k. Visits k c d None None n) x y z a.heap e)

  pub spares-then : AddsSpares x y → AddsSpares y z → AddsSpares x z
  spares-then a b = adds-join (Spares (field_count_of x)) (Spares (field_count_of x)) (Spares (field_count_of x)) (spares-join (field_count_of x)) x y z a (same_fields Spares x y z a.heap b)

  -- the second thing behind the first of a pair
  pairs-then : (w : ℕ) → Adds (Visits (field_count_of x) true true None (Some (Some w)) 0) x y → Adds (Visits (field_count_of y) true true (Some (Some w)) None 0) y z → AddsVisits true true 0 x z
  pairs-then w a b =
      let f : ℕ = field_count_of x in
      adds-join (Visits f true true None (Some (Some w)) 0) (Visits f true true (Some (Some w)) None 0) (Visits f true true None None 0) (visits-join f true true true None (Some (Some w)) None 0 0) x y z a
      (same_fields (λ k. Visits k true true (Some (Some w)) None 0) x y z a.heap b)

pub visits-spares : (b : Bool) (x y : SharedMutator) → AddsSpares x y → AddsVisits b b 0 x y
visits-spares b x y s = adds-as (Spares (field_count_of x)) (Visits (field_count_of x) b b None None 0) (spares-visits (field_count_of x) b) x y s

module _ (x y z : SharedMutator) where
  pub visits-first : (b c : Bool) (n : ℕ) → AddsVisits b c n x y → AddsSpares y z → AddsVisits b c n x z
  visits-first b c n a s = let sum : n + 0 ≡ n = omega arith in subst (λ (k : ℕ). AddsVisits b c k x z) sum (visits-then x y z b c c n 0 a (visits-spares c y z s))

  pub visits-last : (b c : Bool) (n : ℕ) → AddsSpares x y → AddsVisits b c n y z → AddsVisits b c n x z
  visits-last b c n s a = let sum : 0 + n ≡ n = omega arith in subst (λ (k : ℕ). AddsVisits b c k x z) sum (visits-then x y z b b c 0 n (visits-spares b x y s) a)

-- What was done, as the log has it.
pub ran_log : (v w : View) → Ran v w → w.log ≡ v.log ++ events v w
ran_log v w ran = let g = ran-grows v w ran in g.1 ∙ ap (λ (l : List Entry). v.log ++ l) (sym (events-of v w g.0 g.1))

-- what no plain heap sees
pub same-spares : (x y : SharedMutator) → IsSame x y → AddsSpares x y
same-spares x y s =
    let v : View = view_of x.seat in
    let w : View = view_of y.seat in
    record { heap = s.world; more = events v w; log = ran_log v w s.leaves.ran; are = spared-spares (field_count_of x) (events v w) s.leaves.only }

-- a reference is read into another variable than the root's
pub get-spares : (range : Type 0) (x y : SharedMutator) (u w i : ℕ) → not (u == 0) ≡ true → SharerActs range (FollowsField u w i) x y → AddsSpares x y
get-spares range x y u w i other s =
    record {
      heap = s.world;
      more = events v z;
      log = ⊎_elim (λ t. ran_log v z t.1.ran) (λ t. ran_log v z t.1.ran) s.does;
      are =
          ⊎_elim
          (λ t. subst (Spares fields) (sym t.1.events_are) (record { root = and_from (not (u == 0)) true other refl; unstored = refl; zeros = refl }))
          (λ t. subst (Spares fields) (sym t.1.events_are) (record { root = and_from (not (u == 0)) true other refl; unstored = refl; zeros = refl }))
          s.does;
    }
  where
    v : View
    v = view_of x.seat

    z : View
    z = view_of y.seat

    fields : ℕ
    fields = field_count_of x

-- the lock is tried, and left
pub take-visits : (range : Type 0) (x y : SharedMutator) (won : Bool) → SharerActs range (ExchangesValue 0 0 1 won) x y → AddsVisits false won (if won then 1 else 0) x y
take-visits range x y won s =
    record { heap = s.world; more = event (ExchangeValue 0 0 1) s.does.found ∷ []; log = ap (λ (z : View). z.log) s.does.finds.0; are = taken-one (field_count_of x) s.does.found won s.does.won_by }

pub leave-visits : (range : Type 0) (x y : SharedMutator) (won : Bool) → SharerActs range (ExchangesValue 0 1 0 won) x y → AddsVisits true (not won) (if won then 1 else 0) x y
leave-visits range x y won s =
    record { heap = s.world; more = event (ExchangeValue 0 1 0) s.does.found ∷ []; log = ap (λ (z : View). z.log) s.does.finds.0; are = left-one (field_count_of x) s.does.found won s.does.won_by }

-- A pair of stores.
abbrev all_of : (Step → Bool) → List Step → Bool
all_of P [] = true
all_of P (s ∷ ss) = P s && all_of P ss

steps_all : (P : Step → Bool) (es : List Entry) → all_steps P es ≡ all_of P (steps_of es)
steps_all P [] = refl
steps_all P (e ∷ es) = ap (λ (b : Bool). P e.step && b) (steps_all P es)

all_by : (P : Step → Bool) (b : Bool) (xs ys : List Step) → all_of P xs ≡ true → all_of P ys ≡ true → all_of P (if b then xs else ys) ≡ true
all_by P true xs ys s t = s
all_by P false xs ys s t = t

-- the card of the object is seen to
abbrev card_part : SeatState → Bool → List Step
card_part s dirty = if used_in s.cache (cell_in s 0) then [] else card_steps (card_of (cell_in s 0)) dirty

card_spares : (s : SeatState) (dirty : Bool) → all_of spares_heap (card_part s dirty) ≡ true
card_spares s dirty =
    let card : ℕ = card_of (cell_in s 0) in
    all_by spares_heap (used_in s.cache (cell_in s 0)) [] (card_steps card dirty) refl (all_by spares_heap dirty [] (DirtyCard card ∷ []) refl refl)

-- what a store in a field of the root adds, if there is a root
stored_steps : (s : SeatState) (i w : ℕ) (dirty : Bool) → (word_in s 0 == 0) ≡ false → setting_steps s 0 i w dirty ≡ StoreField 0 i (Some w) ∷ card_part s dirty
stored_steps s i w dirty e = ap (λ (b : Bool). if b then [] else barrier_steps s 0 i (Some w) dirty) e

none_steps : (s : SeatState) (i w : ℕ) (dirty : Bool) → (word_in s 0 == 0) ≡ true → setting_steps s 0 i w dirty ≡ []
none_steps s i w dirty e = ap (λ (b : Bool). if b then [] else barrier_steps s 0 i (Some w) dirty) e

no_events : (es : List Entry) → steps_of es ≡ [] → es ≡ []
no_events [] e = refl
no_events (x ∷ xs) e = absurd (cc)

module _ (range : Type 0) (x y : SharedMutator) where
  set_adds : (P : List Entry → Type 0) (i w : ℕ) (s : SharerActs range (SetsField 0 i w) x y) → P (events (view_of x.seat) (view_of y.seat)) → Adds P x y
  set_adds P i w s are = record { heap = s.world; more = events (view_of x.seat) (view_of y.seat); log = ran_log (view_of x.seat) (view_of y.seat) s.does.ran; are = are }

  spares_rest : (dirty : Bool) (rest : List Entry) → steps_of rest ≡ card_part (view_of x.seat).state dirty → all_steps spares_heap rest ≡ true
  spares_rest dirty rest e = steps_all spares_heap rest ∙ (ap (all_of spares_heap) e ∙ card_spares (view_of x.seat).state dirty)

  first_set : (w : ℕ) → (word_in (view_of x.seat).state 0 == 0) ≡ false → SharerActs range (SetsField 0 0 w) x y → Adds (Visits (field_count_of x) true true None (Some (Some w)) 0) x y
  first_set w there s =
      let v : View = view_of x.seat in
      let es : List Entry = events v (view_of y.seat) in
      set_adds (Visits (field_count_of x) true true None (Some (Some w)) 0) 0 w s
      (first-stored (field_count_of x) w es (card_part v.state (was_dirty es)) (s.does.steps_are ∙ stored_steps v.state 0 w (was_dirty es) there) (spares_rest (was_dirty es)))

  second_set : (w : ℕ) → (word_in (view_of x.seat).state 0 == 0) ≡ false → SharerActs range (SetsField 0 1 w) x y → Adds (Visits (field_count_of x) true true (Some (Some w)) None 0) x y
  second_set w there s =
      let v : View = view_of x.seat in
      let es : List Entry = events v (view_of y.seat) in
      set_adds (Visits (field_count_of x) true true (Some (Some w)) None 0) 1 w s
      (second-stored (field_count_of x) w es (card_part v.state (was_dirty es)) (s.does.steps_are ∙ stored_steps v.state 1 w (was_dirty es) there) (spares_rest (was_dirty es)))

  none_set : (i w : ℕ) → (word_in (view_of x.seat).state 0 == 0) ≡ true → SharerActs range (SetsField 0 i w) x y → AddsSpares x y
  none_set i w none s =
      let v : View = view_of x.seat in
      let es : List Entry = events v (view_of y.seat) in
      set_adds (Spares (field_count_of x)) i w s (subst (Spares (field_count_of x)) (sym (no_events es (s.does.steps_are ∙ none_steps v.state i w (was_dirty es) none))) (record { root = refl; unstored = refl; zeros = refl }))

-- both are stored, or there is no root
pub set-both : (range more : Type 0) (x y z : SharedMutator) (w : ℕ) → SharerActs range (SetsField 0 0 w) x y → SharerActs more (SetsField 0 1 w) y z → AddsVisits true true 0 x z
set-both range more x y z w a b = by (word_in (view_of x.seat).state 0 == 0) refl
  where
    same : (word_in (view_of y.seat).state 0 == 0) ≡ (word_in (view_of x.seat).state 0 == 0)
    same = ap (λ (s : SeatState). word_in s 0 == 0) a.does.state

    by : (none : Bool) → (word_in (view_of x.seat).state 0 == 0) ≡ none → AddsVisits true true 0 x z
    by true e = visits-spares true x z (spares-then x y z (none_set range x y 0 w e a) (none_set more y z 1 w (same ∙ e) b))
    by false e = pairs-then x y z w (first_set range x y w e a) (second_set more y z w (same ∙ e) b)

-- An object of value 0 is made.
or_true : (b : Bool) → (b || true) ≡ true
or_true true = refl
or_true false = refl

all_more : (P : Step → Bool) (xs ys : List Step) → all_of P xs ≡ true → all_of P ys ≡ true → all_of P (xs ++ ys) ≡ true
all_more P [] ys a b = b
all_more P (x ∷ xs) ys a b = let p = and_parts (P x) (all_of P xs) a in and_from (P x) (all_of P (xs ++ ys)) p.0 (all_more P xs ys p.1 b)

each_field : (P : Step → Bool) (cell : ℕ) (ns : List ℕ) → ((n : ℕ) → P (StoreNew cell n 0) ≡ true) → all_of P (map (λ i. StoreNew cell i 0) ns) ≡ true
each_field P cell [] h = refl
each_field P cell (n ∷ ns) h = and_from (P (StoreNew cell n 0)) (all_of P (map (λ i. StoreNew cell i 0) ns)) (h n) (each_field P cell ns h)

made_steps : (P : Step → Bool) (fields cell identity u : ℕ) → ((n : ℕ) → P (StoreNew cell n 0) ≡ true) → P (StoreNew cell (fields + 1) identity) ≡ true → P (HoldRoot u (cell + 1)) ≡ true
    → all_of P (making_steps fields cell 0 identity ++ HoldRoot u (cell + 1) ∷ []) ≡ true
made_steps P fields cell identity u zeros last root =
    all_more P (making_steps fields cell 0 identity) (HoldRoot u (cell + 1) ∷ [])
    (all_more P (nil_fields cell fields) (StoreNew cell fields 0 ∷ StoreNew cell (fields + 1) identity ∷ []) (each_field P cell (range_with_len 0 fields) zeros)
    (and_from (P (StoreNew cell fields 0)) (P (StoreNew cell (fields + 1) identity) && true) (zeros fields) (and_from (P (StoreNew cell (fields + 1) identity)) true last refl)))
    (and_from (P (HoldRoot u (cell + 1))) true root refl)

made_spares : (fields cell identity u : ℕ) (es : List Entry) → not (u == 0) ≡ true → steps_of es ≡ making_steps fields cell 0 identity ++ HoldRoot u (cell + 1) ∷ [] → Spares fields es
made_spares fields cell identity u es other e =
    record {
      root = steps_all spares_root es ∙ (ap (all_of spares_root) e ∙ made_steps spares_root fields cell identity u (λ n. refl) refl other);
      unstored = steps_all stores_none es ∙ (ap (all_of stores_none) e ∙ made_steps stores_none fields cell identity u (λ n. refl) refl refl);
      zeros =
          steps_all (makes_zero fields) es
          ∙ (ap (all_of (makes_zero fields)) e
          ∙ made_steps (makes_zero fields) fields cell identity u (λ n. or_true (not (n == fields))) (ap (λ (b : Bool). not b || (identity == 0)) (ne_eqb (fields + 1) fields (λ q. omega (arith, q)))) refl);
    }

pub make-spares : (range : Type 0) (x y : SharedMutator) (u : ℕ) → not (u == 0) ≡ true → SharerActs range (MakesSharedAfter u 0) x y → AddsSpares x y
make-spares range x y u other s =
    record {
      heap = s.world;
      more = events v came ++ events came w;
      log = ran_log came w creates.ran ∙ (ap (λ (l : List Entry). l ++ events came w) (ran_log v came s.does.leaves.ran) ∙ append_assoc v.log (events v came) (events came w));
      are = spares-join fields (events v came) (events came w) (spared-spares fields (events v came) s.does.leaves.only) (subst (λ (k : ℕ). Spares k (events came w)) same (made_spares came.shape.fields s.does.makes.cell (next_word came.state) u (events came w) other creates.steps_are));
    }
  where
    v : View
    v = view_of x.seat

    w : View
    w = view_of y.seat

    came : View
    came = s.does.came

    fields : ℕ
    fields = field_count_of x

    creates : ShareCreates u 0 s.does.makes.cell came w
    creates = s.does.makes.creates

    same : came.shape.fields ≡ fields
    same = ap (λ (sh : Shape). sh.fields) (ran-shape v came s.does.leaves.ran ∙ (x.inside s.was).holds.sits.1)
