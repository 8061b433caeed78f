-- Where in a run the entries of a seat's log are.
use Rattle.std.proofs.Common.{ℕ, zero, suc, ◌≡◌, ◌⊎◌, ◌<◌, ◌≤◌, ◌==◌, ◌∙◌, List, [], ◌∷◌, ◌++◌, ap, arith, inl, inr, length, length-append, refl, sym, take, ⊎_elim, Bool, true, false, Option, None, Some}
use Rattle.std.specs.Prelude.{if◌then◌else◌, slice_get}
use Rattle.std.proofs.lemmas.Bool.{cases_lt}
use Rattle.mark_core.specs.Steps.{Core, after_event, run_of}
use Rattle.mark_core.specs.declared.kinds.Event.{Event}
use Rattle.mark_core.specs.declared.kinds.Step.{Step}
use Rattle.mark_core.specs.declared.kinds.Step.TheVariants.{Join, Split}
use Rattle.mark_core.specs.declared.seat.SeatState.{SeatState}
use Rattle.gc_table.specs.Entries.{event}
use Rattle.gc_table.specs.Past.{adds, entries_of, log_from, word_told}
use Rattle.gc_table.specs.Runs.{AreAllowed}
use Rattle.gc_table.specs.declared.view.Entry.{Entry}
use Rattle.gc_table.proofs.History.Past.{run-first}

-- An event adds one entry at most.
abbrev OneAtMost : List Entry → Type 0
OneAtMost es = (es ≡ []) ⊎ ((x : Entry) × (es ≡ x ∷ []))

one_if : (b : Bool) (es : List Entry) → OneAtMost es → OneAtMost (if b then es else [])
one_if true es o = o
one_if false es o = inl refl

one_of : (c : Core) (s : SeatState) (step : Step) → OneAtMost (entries_of c (Some s) step)
one_of c s Split = inl refl
one_of c s (Join other) = inl refl
one_of c s step = inr (event step (word_told c s step), refl)

one_entry : (c : Core) (o : Option SeatState) (step : Step) → OneAtMost (entries_of c o step)
one_entry c None step = inl refl
one_entry c (Some s) step = one_of c s step

one_added : (i : ℕ) (c : Core) (e : Event) → OneAtMost (adds i c e)
one_added i c e = one_if (e.seat == i) (entries_of c (slice_get c.seats e.seat) e.step) (one_entry c (slice_get c.seats e.seat) e.step)

-- the entry tells the step and its word
no_entry : (e : Entry) → [] ≡ e ∷ [] → ⊥
no_entry e is = cc

pub entry-is : (c : Core) (s : SeatState) (step : Step) (e : Entry) → entries_of c (Some s) step ≡ e ∷ [] → event step (word_told c s step) ≡ e
entry-is c s Split e is = absurd (no_entry e is)
entry-is c s (Join other) e is = absurd (no_entry e is)
entry-is c s step e is = cc

-- Each entry of a log is an event of its seat.
pub record Place (i : ℕ) (es : List Event) (c : Core) (before : List Entry) (e : Entry) : Type 0 where
  pub at : ℕ
  pub within : at < length es
  pub event : Event
  pub there : slice_get es at ≡ Some event
  pub so_far : log_from i c (take at es) ≡ before
  pub adds_it : adds i (run_of (take at es) c) event ≡ e ∷ []

no_part : (before after : List Entry) (e : Entry) → [] ≡ before ++ e ∷ after → ⊥
no_part [] after e is = cc
no_part (x ∷ before) after e is = cc

first_is : (x y : Entry) (xs ys : List Entry) → x ∷ xs ≡ y ∷ ys → x ≡ y
first_is x y xs ys is = cc

rest_is : (x y : Entry) (xs ys : List Entry) → x ∷ xs ≡ y ∷ ys → xs ≡ ys
rest_is x y xs ys is = cc

later : (i : ℕ) (x : Event) (es : List Event) (c : Core) (front before : List Entry) (e : Entry) → AreAllowed c (x ∷ es) → adds i c x ≡ front → Place i es (after_event c x) before e → Place i (x ∷ es) c (front ++ before) e
later i x es c front before e ok adds_is p =
    record {
      at = suc p.at;
      within = let l = p.within in omega (arith, l);
      event = p.event;
      there = p.there;
      so_far = ap (λ (l : List Entry). l ++ log_from i (after_event c x) (take p.at es)) adds_is ∙ ap (λ (l : List Entry). front ++ l) p.so_far;
      adds_it = ap (λ (d : Core). adds i d p.event) (run-first c x (take p.at es) ok.0) ∙ p.adds_it;
    }

-- if the events behind the first are so placed, all are
placed : (i : ℕ) (x : Event) (es : List Event) (c : Core) → AreAllowed c (x ∷ es) → (before after : List Entry) (e : Entry) → log_from i c (x ∷ es) ≡ before ++ e ∷ after
    → ((part : List Entry) → log_from i (after_event c x) es ≡ part ++ e ∷ after → Place i es (after_event c x) part e) → Place i (x ∷ es) c before e
placed i x es c ok before after e is rest = ⊎_elim none (λ (o : (y : Entry) × (adds i c x ≡ y ∷ [])). one o.0 o.1 before is) (one_added i c x)
  where
    d : Core
    d = after_event c x

    front : (l : List Entry) → adds i c x ≡ l → l ++ log_from i (after_event c x) es ≡ log_from i c (x ∷ es)
    front l a = ap (λ (z : List Entry). z ++ log_from i d es) (sym a)

    none : adds i c x ≡ [] → Place i (x ∷ es) c before e
    none a = later i x es c [] before e ok a (rest before (front [] a ∙ is))

    one : (y : Entry) → adds i c x ≡ y ∷ [] → (part : List Entry) → log_from i c (x ∷ es) ≡ part ++ e ∷ after → Place i (x ∷ es) c part e
    one y a [] whole =
        let same : y ≡ e = first_is y e (log_from i d es) after (front (y ∷ []) a ∙ whole) in
        record { at = 0; within = omega arith; event = x; there = refl; so_far = refl; adds_it = a ∙ ap (λ (z : Entry). z ∷ []) same }
    one y a (b ∷ part) whole =
        let all : y ∷ log_from i d es ≡ b ∷ (part ++ e ∷ after) = front (y ∷ []) a ∙ whole in
        let same : y ≡ b = first_is y b (log_from i d es) (part ++ e ∷ after) all in
        later i x es c (b ∷ []) part e ok (a ∙ ap (λ (z : Entry). z ∷ []) same) (rest part (rest_is y b (log_from i d es) (part ++ e ∷ after) all))

pub place-of : (i : ℕ) (es : List Event) (c : Core) → AreAllowed c es → (before after : List Entry) (e : Entry) → log_from i c es ≡ before ++ e ∷ after → Place i es c before e
place-of i [] c ok before after e is = absurd (no_part before after e is)
place-of i (x ∷ es) c ok before after e is = placed i x es c ok before after e is (λ part whole. place-of i es (after_event c x) ok.1 part after e whole)

-- One that stands behind another in the log comes later.
shorter : (i : ℕ) (es : List Event) (c : Core) (j k : ℕ) → j ≤ k → length (log_from i c (take j es)) ≤ length (log_from i c (take k es))
shorter i es c zero k l = omega arith
shorter i [] c (suc j) zero l = omega arith
shorter i [] c (suc j) (suc k) l = omega arith
shorter i (x ∷ es) c (suc j) zero l = absurd (omega (arith, l))
shorter i (x ∷ es) c (suc j) (suc k) l =
    let d : Core = after_event c x in
    let less = shorter i es d j k (omega (arith, l)) in
    let one = length-append (adds i c x) (log_from i d (take j es)) in
    let two = length-append (adds i c x) (log_from i d (take k es)) in
    omega (arith, less, one, two)

pub later-place : (i : ℕ) (es : List Event) (c : Core) (before between : List Entry) (e f : Entry) (p : Place i es c before e) (q : Place i es c (before ++ e ∷ between) f) → p.at < q.at
later-place i es c before between e f p q =
    ⊎_elim
    (λ (l : p.at < q.at). l)
    (λ (l : q.at ≤ p.at).
    let less = shorter i es c q.at p.at l in
    let one = ap (λ (z : List Entry). length z) p.so_far in
    let two = ap (λ (z : List Entry). length z) q.so_far in
    let more = length-append before (e ∷ between) in
    absurd (omega (arith, less, one, two, more)))
    (cases_lt p.at q.at)
