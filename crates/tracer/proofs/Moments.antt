-- A search in vain at some moment of a call, told by the events of the call.
use Rattle.std.proofs.Common.{ℕ, ◌≡◌, ◌<◌, List, [], ◌∷◌, ◌++◌, length, refl, sym, ap, ◌∙◌, arith, cond, Bool, true, false, not, Some, None, Option, suc, eqb, eqb-true, eq-eqb, ⊎_elim, slice_index_or}
use Rattle.std.specs.Prelude.{◌&&◌, ◌||◌, ◌==◌}
use Rattle.std.specs.List.{list_all, list_any, AllPairs}
use Rattle.std.proofs.lemmas.Bool.{and_from, and_parts, cases_Bool, false≢true, or_from, or_left, or_right}
use Rattle.mark_core.specs.Held.{Slot, Slots, holds, known_length, slot_of}
use Rattle.mark_core.specs.WellFormed.{IsApart}
use Rattle.mark_core.specs.declared.kinds.Shape.{Shape}
use Rattle.mark_core.specs.declared.kinds.Step.{Step}
use Rattle.mark_core.specs.declared.kinds.Step.TheVariants.{Give, Push}
use Rattle.mark_core.specs.declared.seat.SeatState.{SeatState}
use Rattle.gc_table.specs.declared.view.Entry.{Entry}
use Rattle.gc_table.specs.declared.view.View.{View}
use Rattle.gc_table.specs.Running.{after_all}
use Rattle.gc_table.specs.Taking.{after}
use Rattle.packet_pools.specs.Seeking.{moves_packet, no_input, no_output, NoInput, NoOutput, only_moves, input_pools, output_pools}
use Rattle.packet_pools.proofs.Searches.{all-missed-left, no-output-left}
use Rattle.tracer.specs.Deferral.{defers, waits, waits_on}
use Rattle.tracer.specs.Moments.{Moment, after_moment, at_some_moment, deferring_after, front, is_spent_slot, without}

-- the moment after these events
abbrev pub moment-after : Shape → Moment → List Entry → Moment
moment-after sh m [] = m
moment-after sh m (e ∷ es) = moment-after sh (after_moment sh m e) es

at-once : (sh : Shape) (test : Moment → List Entry → Bool) (m : Moment) (es : List Entry) → test m es ≡ true → at_some_moment sh test m es ≡ true
at-once sh test m [] t = t
at-once sh test m (e ∷ es) t = or_left _ _ t

-- the test holds at a later moment
pub at-moment : (sh : Shape) (test : Moment → List Entry → Bool) (m : Moment) (xs ys : List Entry) → test (moment-after sh m xs) ys ≡ true → at_some_moment sh test m (xs ++ ys) ≡ true
at-moment sh test m [] ys t = at-once sh test m ys t
at-moment sh test m (x ∷ xs) ys t = or_right _ _ (at-moment sh test (after_moment sh m x) xs ys t)

-- a seat's record and its packets that wait
abbrev pub moment_of : View → List ℕ → Moment
moment_of v ps = record { state = v.state; deferring = ps }

pub moment-state : (v : View) (ps : List ℕ) (es : List Entry) → (moment-after v.shape (moment_of v ps) es).state ≡ (after_all es v).state
moment-state v ps [] = refl
moment-state v ps (e ∷ es) = moment-state (after e.step e.found v) (deferring_after v.state e.step ps) es

push-both : (a b c : Bool) → ((b || c) ≡ (c || (b && true))) × (c ≡ (c || (b && false)))
push-both a true true = (refl, refl)
push-both a true false = (refl, refl)
push-both a false true = (refl, refl)
push-both a false false = (refl, refl)

-- one number is no longer in the list
without-any : (q p : ℕ) (ps : List ℕ) → list_any (λ x. x == p) (without q ps) ≡ (list_any (λ x. x == p) ps && not ((q == p) && true))
without-any q p [] = refl
without-any q p (x ∷ xs) =
    ⊎_elim
    (λ (e : eqb x q ≡ true).
    ap (λ b. list_any (λ y. y == p) (cond b (without q xs) (x ∷ without q xs))) e
    ∙ (without-any q p xs ∙ sym (same (x == p) (list_any (λ y. y == p) xs) (q == p) (ap (λ y. y == p) (eqb-true x q e)))))
    (λ (e : eqb x q ≡ false).
    ap (λ b. list_any (λ y. y == p) (cond b (without q xs) (x ∷ without q xs))) e
    ∙ (ap (λ b. (x == p) || b) (without-any q p xs) ∙ other (x == p) (list_any (λ y. y == p) xs) (q == p) (λ a b. false≢true (sym e ∙ ap (eqb x) (eqb-true q p b) ∙ a))))
    (cases_Bool (eqb x q))
  where
    same : (a l b : Bool) → a ≡ b → ((a || l) && not (b && true)) ≡ (l && not (b && true))
    same true l true e = sym (and-zero l)
      where
        and-zero : (l : Bool) → (l && false) ≡ false
        and-zero true = refl
        and-zero false = refl
    same true l false e = absurd (false≢true (sym e))
    same false l b e = refl

    other : (a l b : Bool) → (a ≡ true → b ≡ true → ⊥) → (a || (l && not (b && true))) ≡ ((a || l) && not (b && true))
    other true l true n = absurd (n refl refl)
    other true l false n = refl
    other false l b n = refl

and-one : (l b : Bool) → l ≡ (l && not (b && false))
and-one true true = refl
and-one true false = refl
and-one false true = refl
and-one false false = refl

-- the list of the packets that wait and the test of one of them agree
waits-step : (p : ℕ) (s : SeatState) (step : Step) (ps : List ℕ) → list_any (λ x. x == p) (deferring_after s step ps) ≡ waits_on p s step (list_any (λ x. x == p) ps)
waits-step p s (Push q c) ps = either (defers s (Push q c))
  where
    either : (b : Bool) → list_any (λ x. x == p) (cond b (q ∷ ps) ps) ≡ (list_any (λ x. x == p) ps || ((q == p) && b))
    either true = (push-both true (q == p) (list_any (λ x. x == p) ps)).0
    either false = (push-both true (q == p) (list_any (λ x. x == p) ps)).1
waits-step p s (Give q true) ps = without-any q p ps
waits-step p s (Give q false) ps = and-one (list_any (λ x. x == p) ps) (q == p)
waits-step p s step ps = refl

pub moment-waits : (p : ℕ) (v : View) (ps : List ℕ) (es : List Entry) → list_any (λ x. x == p) (moment-after v.shape (moment_of v ps) es).deferring ≡ waits p v es (list_any (λ x. x == p) ps)
moment-waits p v ps [] = refl
moment-waits p v ps (e ∷ es) = moment-waits p (after e.step e.found v) (deferring_after v.state e.step ps) es ∙ ap (waits p (after e.step e.found v) es) (waits-step p v.state e.step ps)

-- steps of one sort are a prefix of the events
front-keeps : (qs : List ℕ) (xs ys : List Entry) → only_moves qs xs ≡ true → front (moves_packet qs) (xs ++ ys) ≡ xs ++ front (moves_packet qs) ys
front-keeps qs [] ys m = refl
front-keeps qs (x ∷ xs) ys m =
    let h = and_parts (moves_packet qs x.step) (only_moves qs xs) m in
    ap (λ b. cond b (x ∷ front (moves_packet qs) (xs ++ ys)) []) h.0 ∙ ap (λ l. x ∷ l) (front-keeps qs xs ys h.1)

-- the search in vain for a packet to read from is shown by the steps that follow
pub input-front : (sh : Shape) (xs ys : List Entry) → NoInput sh xs → only_moves input_pools xs ≡ true → no_input sh (front (moves_packet input_pools) (xs ++ ys)) ≡ true
input-front sh xs ys none m = ap (no_input sh) (front-keeps input_pools xs ys m) ∙ all-missed-left sh input_pools xs (front (moves_packet input_pools) ys) none

-- the search in vain for a packet with room is shown by the steps that follow
pub output-front : (sh : Shape) (xs ys : List Entry) → NoOutput sh xs → only_moves output_pools xs ≡ true → no_output sh (front (moves_packet output_pools) (xs ++ ys)) ≡ true
output-front sh xs ys none m = ap (no_output sh) (front-keeps output_pools xs ys m) ∙ no-output-left sh xs (front (moves_packet output_pools) ys) none

-- no other slot holds the packet of the first
head-alone : (x : ℕ) (l : Option ℕ) (b : Bool) (hs : Slots) → AllPairs IsApart (Some (x, l, b) ∷ hs) → holds hs x ≡ false
head-alone x l b hs a = none hs (λ j d k. a 0 (suc j) d (omega arith) (omega (arith, k)))
  where
    none : (ys : Slots) → ((j : ℕ) (d : Slot) → j < length ys → slot_of (slice_index_or ys j d) x ≡ false) → holds ys x ≡ false
    none [] f = refl
    none (y ∷ ys) f = or_from _ _ (f 0 y (omega arith)) (none ys (λ j d k. f (suc j) d (omega (arith, k))))

tail-apart : (x : Slot) (hs : Slots) → AllPairs IsApart (x ∷ hs) → AllPairs IsApart hs
tail-apart x hs a i j d k l = a (suc i) (suc j) d (omega (arith, k)) (omega (arith, l))

spent-one : (ps : List ℕ) (p n : ℕ) (l : Option ℕ) (b : Bool) → l ≡ Some n → ((n == 0) || list_any (λ x. x == p) ps) ≡ true → is_spent_slot ps (Some (p, l, b)) ≡ true
spent-one ps p n l b e s = ap (λ k. is_spent_slot ps (Some (p, k, b))) e ∙ s

-- each slot is free or spent, if each packet that is held is empty or waits
pub all-spent : (ps : List ℕ) (hs : Slots) → AllPairs IsApart hs → ((p : ℕ) → holds hs p ≡ true → (n : ℕ) × (known_length hs p ≡ Some n) × (((n == 0) || list_any (λ x. x == p) ps) ≡ true)) → list_all (is_spent_slot ps) hs ≡ true
all-spent ps [] a f = refl
all-spent ps (None ∷ hs) a f = all-spent ps hs (tail-apart None hs a) f
all-spent ps (Some (x, l, b) ∷ hs) a f =
    let h = f x (or_left _ _ (eq-eqb x x refl)) in
    and_from _ _ (spent-one ps x h.0 l b (ap (λ c. cond c l (known_length hs x)) (sym (eq-eqb x x refl)) ∙ h.1) h.2)
    (all-spent ps hs (tail-apart (Some (x, l, b)) hs a)
    (λ p k.
    let apart : eqb x p ≡ false =
    ⊎_elim
    (λ (e : eqb x p ≡ true). absurd (false≢true (sym (head-alone x l b hs a) ∙ ap (holds hs) (eqb-true x p e) ∙ k)))
    (λ (e : eqb x p ≡ false). e)
    (cases_Bool (eqb x p)) in
    let r = f p (or_right _ _ k) in
    (r.0, ap (λ c. cond c l (known_length hs p)) (sym apart) ∙ r.1, r.2)))
