-- Parts one after the other: where each ends, and the first this many of what they hold.
use Rattle.std.proofs.Common.{◌≡◌, ◌⊎◌, inl, inr, ℕ, zero, suc, ◌+◌, ◌-◌, ◌<◌, ◌≤◌, refl, ap, sym, ◌∙◌, arith, List, [], ◌∷◌, ◌++◌, length, take, get_or, add-one, length-append}
use Rattle.std.specs.Prelude.{Some, slice_get}
use Rattle.std.proofs.lemmas.Bool.{cases_lt}
use Rattle.std.proofs.lemmas.List.{take_all, take_more, get_or_past}
use Rattle.std.proofs.lemmas.List.Concat.{get_or-flat_map}
use Rattle.std.proofs.lemmas.Option.{slice_get_within, slice_get-get_or, get_or_from_slice_get}
use Rattle.plain_heap.specs.Sections.{joined, first_of}

-- how long the first z parts are
abbrev pub end_in : {X : Type 0} → List (List X) → ℕ → ℕ
end_in parts z = length (joined (take z parts))

-- the part with this many before it; a missing one is empty
abbrev pub part_in : {X : Type 0} → List (List X) → ℕ → List X
part_in parts z = get_or parts z []

end-suc : {X : Type 0} (parts : List (List X)) (z : ℕ) → end_in parts (suc z) ≡ end_in parts z + length (part_in parts z)
end-suc [] zero = refl
end-suc [] (suc z) = refl
end-suc (part ∷ parts) zero = omega (arith, length-append part [])
end-suc (part ∷ parts) (suc z) =
    let now = length-append part (joined (take z parts)) in
    let then = length-append part (joined (take (suc z) parts)) in
    omega (arith, now, then, end-suc parts z)

-- one part more
pub end-more : {X : Type 0} (parts : List (List X)) (z : ℕ) → end_in parts (z + 1) ≡ end_in parts z + length (part_in parts z)
end-more parts z = ap (end_in parts) (add-one z) ∙ end-suc parts z

-- ends of later parts aren't before those of earlier ones
pub end-grows : {X : Type 0} (parts : List (List X)) (y more : ℕ) → end_in parts y ≤ end_in parts (y + more)
end-grows parts y zero = rw (let e : y + zero ≡ y = omega arith in e) (omega arith)
end-grows parts y (suc more) = rw (let e : y + suc more ≡ suc (y + more) = omega arith in e) (omega (arith, end-suc parts (y + more), end-grows parts y more))

-- what stands in a part stands before its end
pub within-part : {X : Type 0} (parts : List (List X)) (z place : ℕ) (x : X) → slice_get (part_in parts z) place ≡ Some x → end_in parts z + place < end_in parts (z + 1)
within-part parts z place x there = omega (arith, end-more parts z, slice_get_within (part_in parts z) place x there)

-- one more of a list
pub take-next : {X : Type 0} (xs : List X) (n : ℕ) (x : X) → slice_get xs n ≡ Some x → take (n + 1) xs ≡ take n xs ++ x ∷ []
take-next {X} xs n x there = take_more xs n x (slice_get_within xs n x there) ∙ ap (λ (y : X). take n xs ++ y ∷ []) (get_or_from_slice_get xs n x x there)

take-append : {X : Type 0} (n : ℕ) (xs ys : List X) → take n (xs ++ ys) ≡ take n xs ++ take (n - length xs) ys
take-append zero [] ys = refl
take-append {X} (suc n) [] ys = ap (λ (m : ℕ). take m ys) (let e : suc n ≡ suc n - 0 = omega arith in e)
take-append {X} zero (x ∷ xs) ys = ap (λ (m : ℕ). take m ys) (let e : 0 ≡ 0 - suc (length xs) = omega arith in e)
take-append {X} (suc n) (x ∷ xs) ys = ap (λ (zs : List X). x ∷ zs) (take-append n xs ys ∙ ap (λ (m : ℕ). take n xs ++ take m ys) (let e : n - length xs ≡ suc n - suc (length xs) = omega arith in e))

-- the first this many of what parts hold
pub joined-first : {X : Type 0} (k : ℕ) (parts : List (List X)) → joined (first_of k parts) ≡ take k (joined parts)
joined-first zero [] = refl
joined-first (suc k) [] = refl
joined-first {X} k (part ∷ parts) = ap (λ (zs : List X). take k part ++ zs) (joined-first (k - length part) parts) ∙ sym (take-append k part (joined parts))

-- the first of them if the first part ends later, and if it doesn't
pub first-within : {X : Type 0} (k : ℕ) (part : List X) (parts : List (List X)) → k ≤ length part → first_of k (part ∷ parts) ≡ take k part ∷ first_of 0 parts
first-within {X} k part parts below = ap (λ (m : ℕ). take k part ∷ first_of m parts) (let e : k - length part ≡ 0 = omega arith in e)

pub first-past : {X : Type 0} (k more : ℕ) (part : List X) (parts : List (List X)) → k ≡ length part + more → first_of k (part ∷ parts) ≡ part ∷ first_of more parts
first-past {X} k more part parts is =
    ap (λ (m : ℕ). take k part ∷ first_of m parts) (let e : k - length part ≡ more = omega arith in e)
    ∙ ap (λ (p : List X). p ∷ first_of more parts) (take_all k part (omega arith))

-- a part that isn't empty isn't missing
part-there : {X : Type 0} (parts : List (List X)) (z place : ℕ) → place < length (part_in parts z) → z < length parts
part-there {X} parts z place inside = of (cases_lt z (length parts))
  where
    of : (z < length parts) ⊎ (length parts ≤ z) → z < length parts
    of (inl l) = l
    of (inr l) = absurd (omega (arith, ap (λ (part : List X). length part) (get_or_past parts z [] l)))

-- the first z parts are among all
pub end-within : {X : Type 0} (parts : List (List X)) (z : ℕ) → end_in parts z ≤ length (joined parts)
end-within {X} parts z =
    let all : end_in parts (z + length parts) ≡ length (joined parts) = ap (λ (ps : List (List X)). length (joined ps)) (take_all (z + length parts) parts (omega arith)) in
    omega (arith, all, end-grows parts z (length parts))

-- what stands in a part stands among all
pub among-all : {X : Type 0} (parts : List (List X)) (z place : ℕ) (x : X) → slice_get (part_in parts z) place ≡ Some x → slice_get (joined parts) (end_in parts z + place) ≡ Some x
among-all {X} parts z place x there =
    let inside : place < length (part_in parts z) = slice_get_within (part_in parts z) place x there in
    let before : end_in parts z + place < length (joined parts) = omega (arith, within-part parts z place x there, end-within parts (z + 1)) in
    slice_get-get_or (joined parts) (end_in parts z + place) x before
    ∙ ap (λ (y : X). Some y) (get_or-flat_map (λ (part : List X). part) parts z place [] x (part-there parts z place inside) inside ∙ get_or_from_slice_get (part_in parts z) place x x there)
