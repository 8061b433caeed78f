-- How many steps calls take, one after another, and by their lists.
use Rattle.std.proofs.Common.{ℕ, ◌≡◌, ◌≤◌, ◌+◌, List, [], ◌∷◌, length, arith, sym, ap, ◌∙◌, Bool, true, false, Option, Some}
use Rattle.std.specs.Prelude.{◌==◌, if◌then◌else◌}
use Rattle.std.proofs.lemmas.List.{length-append, length-map}
use Rattle.std.proofs.lemmas.List.FromFn.{length-map-range_with_len}
use Rattle.mark_core.specs.Cards.{card_of}
use Rattle.mark_core.specs.Seats.{used_in}
use Rattle.mark_core.specs.Steps.MutatorSteps.{seat_variable as word_in}
use Rattle.mark_core.specs.declared.kinds.Step.{Step}
use Rattle.mark_core.specs.declared.kinds.Step.TheVariants.{DirtyCard, StoreNew, StoreRoot}
use Rattle.mark_core.specs.declared.seat.SeatState.{SeatState}
use Rattle.gc_table.specs.Log.{events, steps_of}
use Rattle.gc_table.specs.Running.{Ran}
use Rattle.gc_table.specs.Taking.{after}
use Rattle.gc_table.specs.declared.view.Entry.{Entry}
use Rattle.gc_table.specs.declared.view.View.{View}
use Rattle.gc_table.proofs.History.Log.{events-after, events-none}
use Rattle.gc_table.proofs.Running.{ran-events}
use Rattle.alloc_cache.specs.Making.{making_steps, nil_fields}
use Rattle.card_clean.specs.Barrier.{barrier_steps, card_steps, cell_in}
use Rattle.mutator_ops.specs.Few.{AtMost}
use Rattle.mutator_ops.specs.Listing.{creating_steps, following_events, saying_steps, storing_steps}
use Rattle.mutator_ops.specs.declared.objects.Holds.{Holds}
use Rattle.mutator_ops.specs.declared.objects.Holds.TheVariants.{LentObject, Nothing, OwnObject}
use Rattle.mutator_ops.specs.Sharing.{next_word, putting_steps, setting_steps}

-- one call after another
pub at-most-join : (j k : ℕ) (u v w : View) → Ran u v → Ran v w → AtMost j u v → AtMost k v w → AtMost (j + k) u w
at-most-join j k u v w a b p q = let both = ap length (ran-events u v w a b) ∙ length-append (events u v) (events v w) in omega (arith, both, p, q)

pub at-most-more : (j k : ℕ) (v w : View) → j ≤ k → AtMost j v w → AtMost k v w
at-most-more j k v w le p = omega (arith, le, p)

-- no step
pub at-most-none : (k : ℕ) (v : View) → AtMost k v v
at-most-none k v = let none = ap length (events-none v) in omega (arith, none)

-- one step
pub at-most-after : (v w : View) (step : Step) (n : ℕ) → w ≡ after step n v → AtMost 1 v w
at-most-after v w step n e = let one = ap length (events-after v w step n e) in omega (arith, one)

-- by the list of the events, and by that of the steps
pub at-most-events : (k : ℕ) (v w : View) (es : List Entry) → events v w ≡ es → length es ≤ k → AtMost k v w
at-most-events k v w es e le = let long = ap length e in omega (arith, long, le)

pub at-most-steps : (k : ℕ) (v w : View) (xs : List Step) → steps_of (events v w) ≡ xs → length xs ≤ k → AtMost k v w
at-most-steps k v w xs e le = let long = sym (length-map (events v w) (λ (x : Entry). x.step)) ∙ ap length e in omega (arith, long, le)

-- one of two lists
either_long : {X : Type 0} (b : Bool) (xs ys : List X) (k : ℕ) → length xs ≤ k → length ys ≤ k → length (if b then xs else ys) ≤ k
either_long true xs ys k p q = p
either_long false xs ys k p q = q

pub card-long : (card : ℕ) (dirty : Bool) → length (card_steps card dirty) ≤ 2
card-long card dirty = let last = either_long {X = Step} dirty [] (DirtyCard card ∷ []) 1 (omega arith) (omega arith) in omega (arith, last)

pub barrier-long : (s : SeatState) (u i : ℕ) (w : Option ℕ) (dirty : Bool) → length (barrier_steps s u i w dirty) ≤ 3
barrier-long s u i w dirty =
    let card : ℕ = card_of (cell_in s u) in
    let rest = either_long {X = Step} (used_in s.cache (cell_in s u)) [] (card_steps card dirty) 2 (omega arith) (card-long card dirty) in
    omega (arith, rest)

pub following-long : (s : SeatState) (u w i found : ℕ) → length (following_events s u w i found) ≤ 2
following-long s u w i found = either_long (word_in s w == 0) _ _ 2 (omega arith) (omega arith)

pub saying-long : (s : SeatState) (u : ℕ) → length (saying_steps s u) ≤ 1
saying-long s u = either_long (word_in s u == 0) _ _ 1 (omega arith) (omega arith)

-- with one step before it at most
pub storing-long : (h : Holds) (cell k : ℕ) (steps : List Step) → length steps ≤ k → length (storing_steps h cell steps) ≤ k + 1
storing-long Nothing cell k steps le = omega arith
storing-long OwnObject cell k steps le = omega (arith, le)
storing-long LentObject cell k steps le = omega arith

-- a step for each field, and one for the value, the identity and the variable each
pub creating-long : (fields : ℕ) (s : SeatState) (u n cell : ℕ) → length (creating_steps fields s u n cell) ≡ fields + 3
creating-long fields s u n cell =
    let nils : length (nil_fields cell fields) ≡ fields = length-map-range_with_len (λ i. StoreNew cell i 0) 0 fields in
    let made = length-append (nil_fields cell fields) (StoreNew cell fields n ∷ StoreNew cell (fields + 1) (next_word s) ∷ []) in
    let all = length-append (making_steps fields cell n (next_word s)) (StoreRoot u (cell + 1) ∷ []) in
    omega (arith, nils, made, all)

-- if objects are shared, nobody is asked first
pub setting-long : (s : SeatState) (u i w : ℕ) (dirty : Bool) → length (setting_steps s u i w dirty) ≤ 3
setting-long s u i w dirty = either_long {X = Step} (word_in s u == 0) [] (barrier_steps s u i (Some w) dirty) 3 (omega arith) (barrier-long s u i (Some w) dirty)

pub putting-long : (s : SeatState) (u n : ℕ) → length (putting_steps s u n) ≤ 1
putting-long s u n = either_long {X = Step} (word_in s u == 0) [] _ 1 (omega arith) (omega arith)
