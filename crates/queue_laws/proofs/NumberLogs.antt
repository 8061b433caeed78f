-- What a log tells of numbers, one part after the other; and which steps put nothing in and take nothing out.
use Rattle.std.proofs.Common.{ℕ, ◌≡◌, ◌+◌, ◌==◌, ◌&&◌, List, [], ◌∷◌, ◌++◌, append_assoc, not, refl, sym, ap, ◌∙◌, Bool, true, false, Option, None, Some}
use Rattle.std.specs.Prelude.{if◌then◌else◌}
use Rattle.std.proofs.lemmas.Bool.{and_parts, false≢true, not-true}
use Rattle.mark_core.specs.Bits.{reference_in}
use Rattle.mark_core.specs.declared.kinds.Step.{Step}
use Rattle.mark_core.specs.declared.kinds.Step.TheVariants.{ExchangeField, ExchangeValue, HoldRoot, ReadValue, StoreRoot, StoreValue}
use Rattle.gc_table.specs.Log.{all_steps}
use Rattle.gc_table.specs.declared.view.Entry.{Entry}
use Rattle.heap_laws.specs.Lent.{is_lent}
use Rattle.heap_laws.specs.Pairs.{is_source}
use Rattle.queue_laws.specs.NumberLogs.{Numbering, Telling, first_of, numbering_after, numberings, put_now, puts_told, taken_now, takes_told, telling_after, tellings, word_after}
use Rattle.queue_laws.specs.QueueLogs.{Hands}
use Rattle.queue_laws.specs.Reads.{Reading, reading_after, readings}

module _ (fields : ℕ) (h : Hands) where
  pub tellings_join : (t : Telling) (xs ys : List Entry) → tellings fields h t (xs ++ ys) ≡ tellings fields h (tellings fields h t xs) ys
  tellings_join t [] ys = refl
  tellings_join t (x ∷ xs) ys = tellings_join (telling_after fields h t x.step x.found) xs ys

  pub puts_join : (t : Telling) (xs ys : List Entry) → puts_told fields h t (xs ++ ys) ≡ puts_told fields h t xs ++ puts_told fields h (tellings fields h t xs) ys
  puts_join t [] ys = refl
  puts_join t (x ∷ xs) ys =
      let u : Telling = telling_after fields h t x.step x.found in
      ap (λ (l : List (Option ℕ)). put_now h t x.step x.found ++ l) (puts_join u xs ys) ∙ sym (append_assoc (put_now h t x.step x.found) (puts_told fields h u xs) (puts_told fields h (tellings fields h u xs) ys))

  pub takes_join : (t : Telling) (xs ys : List Entry) → takes_told fields h t (xs ++ ys) ≡ takes_told fields h t xs ++ takes_told fields h (tellings fields h t xs) ys
  takes_join t [] ys = refl
  takes_join t (x ∷ xs) ys =
      let u : Telling = telling_after fields h t x.step x.found in
      ap (λ (l : List (Option ℕ)). taken_now h t x.step x.found ++ l) (takes_join u xs ys) ∙ sym (append_assoc (taken_now h t x.step x.found) (takes_told fields h u xs) (takes_told fields h (tellings fields h u xs) ys))

  pub own_is : (t : Telling) (es : List Entry) → (tellings fields h t es).own ≡ numberings fields h.own t.own es
  own_is t [] = refl
  own_is t (e ∷ es) = own_is (telling_after fields h t e.step e.found) es

  pub next_is : (t : Telling) (es : List Entry) → (tellings fields h t es).next ≡ numberings fields h.next t.next es
  next_is t [] = refl
  next_is t (e ∷ es) = next_is (telling_after fields h t e.step e.found) es

-- words are those that are told of what variables read
word_step : (fields o u f : ℕ) (known : Numbering) (r : Reading) (step : Step) (n : ℕ) → known.word ≡ r.word → (numbering_after fields o known step n).word ≡ (reading_after o u f r step n).word
word_step fields o u f known r (StoreRoot x s) n e = ap (λ (w : ℕ). if x == o then reference_in s else w) e
word_step fields o u f known r (HoldRoot x s) n e = ap (λ (w : ℕ). if x == o then reference_in s else w) e
word_step fields o u f known r step n e = e

pub word_is : (fields o u f : ℕ) (known : Numbering) (r : Reading) (es : List Entry) → known.word ≡ r.word → (numberings fields o known es).word ≡ (readings o u f r es).word
word_is fields o u f known r [] e = e
word_is fields o u f known r (x ∷ xs) e = word_is fields o u f (numbering_after fields o known x.step x.found) (reading_after o u f r x.step x.found) xs (word_step fields o u f known r x.step x.found e)

seen_step : (v u f word : ℕ) (r : Reading) (step : Step) (n : ℕ) → word ≡ r.word → word_after v word step ≡ (reading_after v u f r step n).word
seen_step v u f word r (StoreRoot x s) n e = ap (λ (w : ℕ). if x == v then reference_in s else w) e
seen_step v u f word r (HoldRoot x s) n e = ap (λ (w : ℕ). if x == v then reference_in s else w) e
seen_step v u f word r step n e = e

pub seen_is : (fields : ℕ) (h : Hands) (u f : ℕ) (t : Telling) (r : Reading) (es : List Entry) → t.seen ≡ r.word → (tellings fields h t es).seen ≡ (readings h.seen u f r es).word
seen_is fields h u f t r [] e = e
seen_is fields h u f t r (x ∷ xs) e = seen_is fields h u f (telling_after fields h t x.step x.found) (reading_after h.seen u f r x.step x.found) xs (seen_step h.seen u f t.seen r x.step x.found e)

-- the step puts nothing in and takes nothing out
abbrev pub moves_none : Step → Bool
moves_none (ExchangeField v f x y) = not (f == 0)
moves_none step = true

pub no_number : (a : Bool) (o : Option ℕ) → (if (a && false) then o ∷ [] else []) ≡ []
no_number true o = refl
no_number false o = refl

put_none : (h : Hands) (t : Telling) (step : Step) (n : ℕ) → moves_none step ≡ true → put_now h t step n ≡ []
put_none h t (ExchangeField v f x y) n e =
    ap (λ (b : Bool). if ((v == h.tail) && (b && (is_source y (Some h.own) && (n == 0)))) then t.own.number ∷ [] else []) (not-true (f == 0) e) ∙ no_number (v == h.tail) t.own.number
put_none h t step n e = refl

taken_none : (h : Hands) (t : Telling) (step : Step) (n : ℕ) → moves_none step ≡ true → taken_now h t step n ≡ []
taken_none h t (ExchangeField v f x y) n e =
    ap (λ (b : Bool). if (is_source y (Some h.next) && (b && ((v == h.queue) && (n == t.seen)))) then t.next.number ∷ [] else []) (not-true (f == 0) e) ∙ no_number (is_source y (Some h.next)) t.next.number
taken_none h t step n e = refl

pub puts_none : (fields : ℕ) (h : Hands) (t : Telling) (es : List Entry) → all_steps moves_none es ≡ true → puts_told fields h t es ≡ []
puts_none fields h t [] a = refl
puts_none fields h t (e ∷ es) a =
    let p = and_parts (moves_none e.step) (all_steps moves_none es) a in
    let u : Telling = telling_after fields h t e.step e.found in
    ap (λ (l : List (Option ℕ)). l ++ puts_told fields h u es) (put_none h t e.step e.found p.0) ∙ puts_none fields h u es p.1

pub takes_none : (fields : ℕ) (h : Hands) (t : Telling) (es : List Entry) → all_steps moves_none es ≡ true → takes_told fields h t es ≡ []
takes_none fields h t [] a = refl
takes_none fields h t (e ∷ es) a =
    let p = and_parts (moves_none e.step) (all_steps moves_none es) a in
    let u : Telling = telling_after fields h t e.step e.found in
    ap (λ (l : List (Option ℕ)). l ++ takes_told fields h u es) (taken_none h t e.step e.found p.0) ∙ takes_none fields h u es p.1

-- the step leaves variable o, and stores no value
abbrev pub keeps_number : ℕ → Step → Bool
keeps_number o (StoreRoot x r) = not (x == o)
keeps_number o (HoldRoot x r) = not (x == o)
keeps_number o (StoreValue v n) = false
keeps_number o (ExchangeValue v m n) = false
keeps_number o step = true

number_step : (fields o : ℕ) (known : Numbering) (step : Step) (n m : ℕ) → keeps_number o step ≡ true → known.number ≡ Some m → (numbering_after fields o known step n).number ≡ Some m
number_step fields o known (StoreRoot x r) n m e k = ap (λ (b : Bool). if b then (if is_lent known.newest r then known.coming else None) else known.number) (not-true (x == o) e) ∙ k
number_step fields o known (HoldRoot x r) n m e k = ap (λ (b : Bool). if b then (if is_lent known.newest r then known.coming else None) else known.number) (not-true (x == o) e) ∙ k
number_step fields o known (StoreValue v w) n m e k = absurd (false≢true e)
number_step fields o known (ExchangeValue v l w) n m e k = absurd (false≢true e)
number_step fields o known (ReadValue c) n m e k = ap (λ (z : Option ℕ). first_of z (if known.word == c + 1 then Some n else None)) k
number_step fields o known step n m e k = k

-- then what is known of its object's value stays
pub number_kept : (fields o : ℕ) (known : Numbering) (es : List Entry) (m : ℕ) → all_steps (keeps_number o) es ≡ true → known.number ≡ Some m → (numberings fields o known es).number ≡ Some m
number_kept fields o known [] m a k = k
number_kept fields o known (e ∷ es) m a k =
    let p = and_parts (keeps_number o e.step) (all_steps (keeps_number o) es) a in number_kept fields o (numbering_after fields o known e.step e.found) es m p.1 (number_step fields o known e.step e.found m p.0 k)
