-- What a gathering sink took is handed on to the sink behind it.
use Rattle.std.proofs.Common.{◌≡◌, ℕ, zero, suc, ◌<◌, ◌≤◌, ◌-◌, ◌^◌, ◌⊎◌, ⊎_elim, List, [], ◌∷◌, ◌++◌, length, refl, sym, ap, ◌∙◌, subst, append-nil, append_assoc, inl, inr, arith}
use Rattle.std.proofs.lemmas.Bool.{cases_lt}
use Rattle.std.proofs.lemmas.List.{length-take, take-append-le}
use Rattle.std.specs.Prelude.{Contains, Option, Some, None, IfSome, slice_index_or}
use Rattle.std.specs.Io.{StartsWith}
use Rattle.std.specs.Io.KnownBytes.{Appends, Keeps, append_known}
use Rattle.gc_play.specs.Promise.{HasItsText, WritesSome}
use Rattle.gc_play.specs.Reading.{TakesAtMost}
use Rattle.play_report.specs.Causes.{Rose}

-- what was appended to nothing gathered, and then kept, was appended to what the sink behind had
appended : (old took new : Option (List ℕ)) (text : List ℕ) → Appends (append_known old []) took text → Keeps took new → Appends old new text
appended None took new text a k = tt
appended (Some xs) None new text a k = absurd a
appended (Some xs) (Some ys) None text a k = absurd k
appended (Some xs) (Some ys) (Some zs) text a k = k ∙ (a ∙ ap (λ (l : List ℕ). l ++ text) (append-nil xs))

kept : (old took new : Option (List ℕ)) → Keeps (append_known old []) took → Keeps took new → Keeps old new
kept None took new a k = tt
kept (Some xs) None new a k = absurd a
kept (Some xs) (Some ys) None a k = absurd k
kept (Some xs) (Some ys) (Some zs) a k = k ∙ (a ∙ append-nil xs)

pub wrote-handed : (old before took new : Option (List ℕ)) (P : List ℕ → Type 0) → before ≡ append_known old [] → WritesSome before took P → Keeps took new → WritesSome old new P
wrote-handed old before took new P is w k = (w.0, w.1, appended old took new w.0 (subst (λ (b : Option (List ℕ)). Appends b took w.0) is w.2) k)

pub keeps-handed : (old before took new : Option (List ℕ)) → before ≡ append_known old [] → Keeps before took → Keeps took new → Keeps old new
keeps-handed old before took new is w k = kept old took new (subst (λ (b : Option (List ℕ)). Keeps b took) is w) k

-- more behind it, and it has the same prefix
starts-longer : (xs ys more : List ℕ) → StartsWith xs ys → StartsWith (xs ++ more) ys
starts-longer xs ys more s = take-append-le (length ys) xs more (let l = length-take (length ys) xs in omega (arith, ap length s, l)) ∙ s

-- of a prefix that was taken, a prefix was handed on
pub front-handed : (old before took new : Option (List ℕ)) (front back text : List ℕ) → before ≡ append_known old [] → text ≡ front ++ back → Appends before took front
    → IfSome took (λ all. IfSome new (λ handed. StartsWith all handed)) → IfSome (append_known old text) (λ all. IfSome new (λ handed. StartsWith all handed))
front-handed old before took new front back text is parts a p = front-of old took new (subst (λ (b : Option (List ℕ)). Appends b took front) is a) p
  where
    front-of : (old took new : Option (List ℕ)) → Appends (append_known old []) took front → IfSome took (λ all. IfSome new (λ handed. StartsWith all handed))
        → IfSome (append_known old text) (λ all. IfSome new (λ handed. StartsWith all handed))
    front-of None took new a p = tt
    front-of (Some xs) None new a p = absurd a
    front-of (Some xs) (Some ys) None a p = tt
    front-of (Some xs) (Some ys) (Some zs) a p =
        let same : ys ++ back ≡ xs ++ text =
        ap (λ (l : List ℕ). l ++ back) (a ∙ ap (λ (l : List ℕ). l ++ front) (append-nil xs)) ∙ (append_assoc xs front back ∙ ap (λ (l : List ℕ). xs ++ l) (sym parts)) in
        subst (λ (l : List ℕ). StartsWith l zs) same (starts-longer ys zs back p)

-- what kept its bytes took nothing
pub keeps-none : (old took : Option (List ℕ)) → Keeps old took → Appends old took []
keeps-none None took k = tt
keeps-none (Some xs) None k = absurd k
keeps-none (Some xs) (Some ys) k = k ∙ sym (append-nil xs)

-- nothing was taken of a source that stays
pub takes_none : (most : ℕ) (left : Option (List ℕ)) → TakesAtMost most left left
takes_none most None = ([], tt, omega arith)
takes_none most (Some bytes) = ([], refl, omega arith)

-- a count below its end that rose is greater
pub rose-more : (before now : ℕ) → before < 2 ^ 64 - 1 → Rose before now → before < now
rose-more before now small (least, rose) = grind (arith, rose)

-- a whole text isn't that of a fault of the sink
pub whole-text : (n : ℕ) → HasItsText n → n ≡ 5 → ⊥
whole-text n (inl low) five = omega (arith, low, five)
whole-text n (inr seven) five = omega (arith, seven, five)

-- the sorts of status
at-most-seven : (n k : ℕ) → k < 8 → slice_index_or (0 ∷ 1 ∷ 2 ∷ 3 ∷ 4 ∷ 5 ∷ 6 ∷ 7 ∷ []) k n ≡ n → n ≤ 7
at-most-seven n zero low is = omega (arith, is)
at-most-seven n (suc zero) low is = omega (arith, is)
at-most-seven n (suc (suc zero)) low is = omega (arith, is)
at-most-seven n (suc (suc (suc zero))) low is = omega (arith, is)
at-most-seven n (suc (suc (suc (suc zero)))) low is = omega (arith, is)
at-most-seven n (suc (suc (suc (suc (suc zero))))) low is = omega (arith, is)
at-most-seven n (suc (suc (suc (suc (suc (suc zero)))))) low is = omega (arith, is)
at-most-seven n (suc (suc (suc (suc (suc (suc (suc zero))))))) low is = omega (arith, is)
at-most-seven n (suc (suc (suc (suc (suc (suc (suc (suc k)))))))) low is = absurd (omega (arith, low))

pub sorts : (n : ℕ) → Contains (0 ∷ 1 ∷ 2 ∷ 3 ∷ 4 ∷ 5 ∷ 6 ∷ 7 ∷ []) n → HasItsText n ⊎ ((n ≡ 5) ⊎ ((n ≡ 4) ⊎ (n ≡ 6)))
sorts n (k, low, is) =
    ⊎_elim (λ (a : n < 4). inl (inl (omega (arith, a))))
    (λ (a : 4 ≤ n).
    ⊎_elim (λ (b : n < 5). inr (inr (inl (omega (arith, a, b)))))
    (λ (b : 5 ≤ n).
    ⊎_elim (λ (c : n < 6). inr (inl (omega (arith, b, c))))
    (λ (c : 6 ≤ n). ⊎_elim (λ (d : n < 7). inr (inr (inr (omega (arith, c, d))))) (λ (d : 7 ≤ n). inl (inr (omega (arith, d, at-most-seven n k low is)))) (cases_lt n 7))
    (cases_lt n 6))
    (cases_lt n 5))
    (cases_lt n 4)

-- whether it is that of a fault of the sink
pub five-or-other : (n : ℕ) → (n ≡ 5) ⊎ (n ≡ 5 → ⊥)
five-or-other n =
    ⊎_elim (λ (a : n < 5). inr (λ five. omega (arith, a, five)))
    (λ (a : 5 ≤ n). ⊎_elim (λ (b : n < 6). inl (omega (arith, a, b))) (λ (b : 6 ≤ n). inr (λ five. omega (arith, b, five))) (cases_lt n 6))
    (cases_lt n 5)
