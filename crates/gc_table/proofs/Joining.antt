-- A seat that takes in another has its section and its log, and keeps those that it had.
use Rattle.std.proofs.Common.{ℕ, zero, suc, ◌≡◌, ◌<◌, ◌+◌, ◌++◌, ◌∷◌, [], ◌⊎◌, inl, inr, ⊎_elim, List, length, Option, Some, None, arith, refl, ap, subst, ◌∙◌, Bool, true, false, ◌&&◌, ◌||◌, cond, eqb}
use Rattle.std.specs.Prelude.{slice_get, Contains}
use Rattle.std.proofs.lemmas.List.Elements.{Contains-append_left, Contains-append_right}
use Rattle.gc_table.specs.declared.view.Entry.{Entry}
use Rattle.gc_table.specs.declared.view.SectionState.{SectionState}
use Rattle.std.proofs.lemmas.Bool.{eqb-true}
use Rattle.std.proofs.lemmas.Option.{same_Some}
use Rattle.gc_table.specs.declared.view.View.{View}
use Rattle.mark_core.specs.Notes.{same_place, word_at, steady}
use Rattle.mark_core.specs.Places.{the_phase}
use Rattle.mark_core.specs.Steps.{Core}
use Rattle.mark_core.specs.declared.seat.SeatState.{SeatState}
use Rattle.gc_table.specs.Notes.{Notes, look}
use Rattle.gc_table.specs.Rule.{own_entry, takes_in, told_full, KnowsFull, Noted}
use Rattle.gc_table.proofs.Noticing.{place-same}

own_in : (o : Option ℕ) (x : SectionState) (k : ℕ) → o ≡ Some k → Contains (own_entry o x) (k, x)
own_in None x k e = absurd (cc)
own_in (Some j) x k e = let same : j ≡ k = cc in (0, omega arith, ap (λ (n : ℕ). (n, x)) same)

-- the section of the seat that is taken in, and those that were there before
pub takes-own : (v w : View) (k : ℕ) → w.state.section ≡ Some k → Contains (takes_in v w).joined (k, w.own)
takes-own v w k e = Contains-append_right v.joined (own_entry w.state.section w.own ++ w.joined) (k, w.own) (Contains-append_left (own_entry w.state.section w.own) w.joined (k, w.own) (own_in w.state.section w.own k e))

pub takes-more : (v w : View) (p : ℕ × SectionState) → Contains v.joined p → Contains (takes_in v w).joined p
takes-more v w p h = Contains-append_left v.joined (own_entry w.state.section w.own ++ w.joined) p h

-- the log of the seat that is taken in, and those that were there before
pub takes-log : (v w : View) → Contains (takes_in v w).logs (w.state.number, w.log)
takes-log v w = Contains-append_right v.logs ((w.state.number, w.log) ∷ w.logs) (w.state.number, w.log) (0, omega arith, refl)

pub keeps-logs : (v w : View) (p : ℕ × List Entry) → Contains v.logs p → Contains (takes_in v w).logs p
keeps-logs v w p h = Contains-append_left v.logs ((w.state.number, w.log) ∷ w.logs) p h

-- a note that the heap is full may always be kept
full_stays : (a k d t : Bool) → (a || (k || d || (t && false) || true)) ≡ true
full_stays true k d t = refl
full_stays false true d t = refl
full_stays false false true t = refl
full_stays false false false true = refl
full_stays false false false false = refl

pub full-steady : (s : SeatState) → steady s the_phase 5 ≡ true
full-steady s = full_stays s.alone s.knows s.admitted s.active

-- the seat that takes in another knows of a full heap what either knew
told-more : (o : Option ℕ) (notes : Notes) → look the_phase notes ≡ Some 5 → look the_phase (told_full o notes) ≡ Some 5
told-more None notes e = e
told-more (Some n) notes e = of (eqb n 5)
  where
    of : (b : Bool) → look the_phase (cond b ((the_phase, Some 5) ∷ notes) notes) ≡ Some 5
    of true = refl
    of false = e

pub takes-full : (v w : View) → KnowsFull w → KnowsFull (takes_in v w)
takes-full v w e = ap (λ (o : Option ℕ). look the_phase (told_full o v.known)) e

pub keeps-full : (v w : View) → KnowsFull v → KnowsFull (takes_in v w)
keeps-full v w e = told-more (look the_phase w.known) v.known e

-- the notes of a seat that takes in another are true, if both knew what is true
told-noted : (c : Core) (v : View) (o : Option ℕ) → Noted c v → ((n : ℕ) → o ≡ Some n → word_at c.shape c.words the_phase ≡ n) → (at : ℕ × ℕ) (m : ℕ) → look at (told_full o v.known) ≡ Some m
    → (steady v.state at m ≡ true) × (word_at c.shape c.words at ≡ m)
told-noted c v None mine theirs at m e = mine at m e
told-noted c v (Some n) mine theirs at m e = of (eqb n 5) refl e
  where
    of : (b : Bool) → eqb n 5 ≡ b → look at (cond b ((the_phase, Some 5) ∷ v.known) v.known) ≡ Some m → (steady v.state at m ≡ true) × (word_at c.shape c.words at ≡ m)
    of false is f = mine at m f
    of true is f = here (same_place the_phase at) refl f
      where
        here : (d : Bool) → same_place the_phase at ≡ d → cond d (Some 5) (look at v.known) ≡ Some m → (steady v.state at m ≡ true) × (word_at c.shape c.words at ≡ m)
        here false there f = mine at m f
        here true there f =
            let place : the_phase ≡ at = place-same the_phase at there in
            let five : 5 ≡ m = same_Some 5 m f in
            subst (λ (p : ℕ × ℕ). (steady v.state p m ≡ true) × (word_at c.shape c.words p ≡ m)) place
            (subst (λ (k : ℕ). (steady v.state the_phase k ≡ true) × (word_at c.shape c.words the_phase ≡ k)) five (full-steady v.state, theirs n refl ∙ eqb-true n 5 is))

pub both-noted : (c : Core) (v w : View) → Noted c v → Noted c w → Noted c (takes_in v w)
both-noted c v w mine theirs at m e = told-noted c v (look the_phase w.known) mine (λ n f. (theirs the_phase n f).1) at m e

pub first-or-past : (j : ℕ) → (j ≡ 0) ⊎ (0 < j)
first-or-past zero = inl refl
first-or-past (suc j) = inr (omega arith)

-- the next number, or one further on
pub next-or-past : (n j : ℕ) → n < j → (j ≡ n + 1) ⊎ (n + 1 < j)
next-or-past zero zero l = absurd (omega (arith, l))
next-or-past zero (suc zero) l = inl refl
next-or-past zero (suc (suc j)) l = inr (omega arith)
next-or-past (suc n) zero l = absurd (omega (arith, l))
next-or-past (suc n) (suc j) l = ⊎_elim (λ (e : j ≡ n + 1). inl (omega (arith, e))) (λ (m : n + 1 < j). inr (omega (arith, m))) (next-or-past n j (omega (arith, l)))

module _ {A : Type 0} where
  pub same-got : (xs : List A) (i : ℕ) (s t : A) → slice_get xs i ≡ Some s → slice_get xs i ≡ Some t → s ≡ t
  same-got xs i s t e f = cc

  pub some-at : (xs : List A) (i : ℕ) → i < length xs → (x : A) × (slice_get xs i ≡ Some x)
  some-at [] i l = absurd (omega (arith, l))
  some-at (x ∷ xs) zero l = (x, refl)
  some-at (x ∷ xs) (suc i) l = some-at xs i (omega (arith, l))
