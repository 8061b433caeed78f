-- Tests over the events of two calls, one after the other.
use Rattle.std.proofs.Common.{ℕ, ◌≡◌, ◌+◌, List, [], ◌∷◌, ◌++◌, refl, sym, ap, ◌∙◌, Bool, true, false, not, ◌&&◌, ◌||◌, ⊎_elim, arith, zero-add}
use Rattle.std.specs.Prelude.{if◌then◌else◌}
use Rattle.std.proofs.lemmas.Bool.{and_from, and_parts, or_cases, or_from, or_left, or_parts, or_right, true≢false, false≢true}
use Rattle.mark_core.specs.Effects.{seat_after}
use Rattle.mark_core.specs.declared.kinds.Shape.{Shape}
use Rattle.mark_core.specs.declared.kinds.Step.{Step}
use Rattle.mark_core.specs.declared.seat.SeatState.{SeatState}
use Rattle.gc_table.specs.Taking.{after}
use Rattle.gc_table.specs.declared.view.Entry.{Entry}
use Rattle.gc_table.specs.declared.view.View.{View}
use Rattle.packet_pools.specs.Counts.{count_of}
use Rattle.packet_pools.specs.Seeking.{some_event}
use Rattle.packet_pools.proofs.Searches.{some-right}
use Rattle.gc_table.specs.Log.{all_steps}
use Rattle.gc_table.specs.Running.{after_all}
use Rattle.gc_cycle.specs.Events.{Sort, followed_by, since_last}
use Rattle.sweeper.specs.Freeing.{frees, freed_in}
use Rattle.gc_cycle.specs.Moments.{Moment, after_moment, at_some_moment, total_of}

-- none in the first and none in the second
pub some-none : (f : Sort) (xs ys : List Entry) → some_event f xs ≡ false → some_event f ys ≡ false → some_event f (xs ++ ys) ≡ false
some-none f [] ys a b = b
some-none f (x ∷ xs) ys a b =
    or_from (f x.step x.found) (some_event f (xs ++ ys)) (head (f x.step x.found) (some_event f xs) a) (some-none f xs ys (tail (f x.step x.found) (some_event f xs) a) b)
  where
    head : (p q : Bool) → (p || q) ≡ false → p ≡ false
    head true q e = absurd (true≢false e)
    head false q e = refl

    tail : (p q : Bool) → (p || q) ≡ false → q ≡ false
    tail true q e = absurd (true≢false e)
    tail false q e = e

-- so none is counted
pub count-none : (f : Sort) (es : List Entry) → some_event f es ≡ false → count_of f es ≡ 0
count-none f [] h = refl
count-none f (e ∷ es) h =
    let p = or_parts (f e.step e.found) (some_event f es) h in ap (λ (b : Bool). (if b then 1 else 0) + count_of f es) p.0 ∙ (zero-add (count_of f es) ∙ count-none f es p.1)

-- none, if no step of this sort is like it
pub none-of-steps : (P : Step → Bool) (f : Sort) → ((step : Step) (n : ℕ) → P step ≡ true → f step n ≡ false) → (es : List Entry) → all_steps P es ≡ true → some_event f es ≡ false
none-of-steps P f h [] a = refl
none-of-steps P f h (e ∷ es) a =
    let b = and_parts (P e.step) (all_steps P es) a in or_from (f e.step e.found) (some_event f es) (h e.step e.found b.0) (none-of-steps P f h es b.1)

-- one like f in the first, and one like g in the second
pub followed-across : (f g : Sort) (xs ys : List Entry) → some_event f xs ≡ true → some_event g ys ≡ true → followed_by f g (xs ++ ys) ≡ true
followed-across f g [] ys a b = absurd (false≢true a)
followed-across f g (x ∷ xs) ys a b =
    ⊎_elim
    (λ (e : f x.step x.found ≡ true). or_left (f x.step x.found && some_event g (xs ++ ys)) (followed_by f g (xs ++ ys)) (and_from _ _ e (some-right g xs ys b)))
    (λ (e : some_event f xs ≡ true). or_right (f x.step x.found && some_event g (xs ++ ys)) (followed_by f g (xs ++ ys)) (followed-across f g xs ys e b))
    (or_cases (f x.step x.found) (some_event f xs) a)

-- within the second
pub followed-later : (f g : Sort) (xs ys : List Entry) → followed_by f g ys ≡ true → followed_by f g (xs ++ ys) ≡ true
followed-later f g [] ys a = a
followed-later f g (x ∷ xs) ys a = or_right (f x.step x.found && some_event g (xs ++ ys)) (followed_by f g (xs ++ ys)) (followed-later f g xs ys a)

-- after the last event like f
pub since-this : (f : Sort) (xs : List Entry) (e : Entry) (ys : List Entry) → f e.step e.found ≡ true → some_event f ys ≡ false → since_last f (xs ++ (e ∷ ys)) ≡ ys
since-this f [] e ys here none = ap (λ (b : Bool). if b then ys else since_last f ys) (and_from _ _ here (ap not none))
since-this f (x ∷ xs) e ys here none =
    let later : some_event f (xs ++ (e ∷ ys)) ≡ true = some-right f xs (e ∷ ys) (or_left _ _ here) in
    ap (λ (b : Bool). if b then xs ++ (e ∷ ys) else since_last f (xs ++ (e ∷ ys))) (off (f x.step x.found) (some_event f (xs ++ (e ∷ ys))) later) ∙ since-this f xs e ys here none
  where
    off : (p q : Bool) → q ≡ true → (p && not q) ≡ false
    off true true h = refl
    off false true h = refl
    off p false h = absurd (false≢true h)

-- the moment after these events
abbrev pub moments : Shape → Moment → List Entry → Moment
moments sh m [] = m
moments sh m (e ∷ es) = moments sh (after_moment sh m e) es

pub some-moment-later : (sh : Shape) (test : Moment → List Entry → Bool) (xs ys : List Entry) (m : Moment) → at_some_moment sh test (moments sh m xs) ys ≡ true → at_some_moment sh test m (xs ++ ys) ≡ true
some-moment-later sh test [] ys m h = h
some-moment-later sh test (x ∷ xs) ys m h = or_right (test m (x ∷ (xs ++ ys))) (at_some_moment sh test (after_moment sh m x) (xs ++ ys)) (some-moment-later sh test xs ys (after_moment sh m x) h)

pub this-moment : (sh : Shape) (test : Moment → List Entry → Bool) (es : List Entry) (m : Moment) → test m es ≡ true → at_some_moment sh test m es ≡ true
this-moment sh test [] m h = h
this-moment sh test (e ∷ es) m h = or_left (test m (e ∷ es)) (at_some_moment sh test (after_moment sh m e) es) h

-- its record is that of the view after them
pub moments-state : (v : View) (m : Moment) (es : List Entry) → m.state ≡ v.state → (moments v.shape m es).state ≡ (after_all es v).state
moments-state v m [] e = e
moments-state v m (x ∷ es) e = moments-state (after x.step x.found v) (after_moment v.shape m x) es (ap (λ (s : SeatState). seat_after v.shape s x.step x.found) e)

-- sums over the events of two calls
pub total-join : (f : SeatState → Step → ℕ → ℕ) (v : View) (xs ys : List Entry) → total_of f v (xs ++ ys) ≡ total_of f v xs + total_of f (after_all xs v) ys
total-join f v [] ys = sym (zero-add (total_of f v ys))
total-join f v (x ∷ xs) ys = ap (λ n. f v.state x.step x.found + n) (total-join f (after x.step x.found v) xs ys) ∙ sums (f v.state x.step x.found) (total_of f (after x.step x.found v) xs) (total_of f (after_all xs (after x.step x.found v)) ys)
  where
    sums : (a b c : ℕ) → a + (b + c) ≡ (a + b) + c
    sums a b c = omega arith

-- nothing, if no step of this sort counts
pub total-none : (f : SeatState → Step → ℕ → ℕ) (P : Step → Bool) → ((s : SeatState) (step : Step) (n : ℕ) → P step ≡ true → f s step n ≡ 0) → (es : List Entry) (v : View) → all_steps P es ≡ true → total_of f v es ≡ 0
total-none f P h [] v a = refl
total-none f P h (e ∷ es) v a =
    let b = and_parts (P e.step) (all_steps P es) a in
    let x = h v.state e.step e.found b.0 in
    let y = total-none f P h es (after e.step e.found v) b.1 in
    omega (arith, x, y)

-- the cells that were freed, as such a sum
pub freed-same : (es : List Entry) (v : View) → total_of frees v es ≡ freed_in v es
freed-same [] v = refl
freed-same (e ∷ es) v = ap (λ n. frees v.state e.step e.found + n) (freed-same es (after e.step e.found v))
