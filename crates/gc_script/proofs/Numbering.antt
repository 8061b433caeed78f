-- The loop that numbers the warehouses.
use Rattle.std.proofs.Common.{◌≡◌, ℕ, ◌+◌, ◌≤◌, ◌<◌, List, [], ◌∷◌, ◌++◌, length, refl, ap, sym, ◌∙◌, subst, arith}
use Rattle.std.proofs.lemmas.List.{append-nil, append_assoc, length-append}
use Rattle.std.proofs.lemmas.List.Elements.{All-head, All-tail}
use Rattle.std.specs.List.{All}
use Rattle.plain_heap.specs.Sections.{Execution, Parts}
use Rattle.gc_script.specs.Sectioned.{IsSmall, sections_numbered}

-- the sections so far, and the parts of those that are left
pub record IsNumbered (fields : ℕ) (all : List (List (List Execution))) (done : List Parts) (rest : List (List (List Execution))) : Type 0 where
  pub sum : done ++ sections_numbered fields (length done + 1) rest ≡ sections_numbered fields 1 all
  pub small : All (IsSmall fields) rest
  pub few : length done + length rest ≤ 32

pub numbered_first : (fields : ℕ) (all : List (List (List Execution))) (done : List Parts) (rest : List (List (List Execution))) → All (IsSmall fields) all → length all ≤ 32 → done ≡ [] → rest ≡ all → IsNumbered fields all done rest
numbered_first fields all done rest small few e f =
    let start : IsNumbered fields all [] all = record { sum = refl; small = small; few = omega arith } in
    subst (λ (d : List Parts). IsNumbered fields all d rest) (sym e) (subst (λ (r : List (List (List Execution))). IsNumbered fields all [] r) (sym f) start)

pub numbered_next : (fields : ℕ) (all : List (List (List Execution))) (done more : List Parts) (rest left : List (List (List Execution))) (p : List (List Execution))
    → IsNumbered fields all done rest → rest ≡ p ∷ left → more ≡ done ++ record { number = length done + 1; fields = fields; parts = p } ∷ [] → IsNumbered fields all more left
numbered_next fields all done more rest left p h e f =
    let here : IsNumbered fields all done (p ∷ left) = subst (λ (r : List (List (List Execution))). IsNumbered fields all done r) e h in
    let x : Parts = record { number = length done + 1; fields = fields; parts = p } in
    let long : length (done ++ x ∷ []) ≡ length done + 1 = length-append done (x ∷ []) in
    let next : IsNumbered fields all (done ++ x ∷ []) left = record {
      sum = ap (λ (n : ℕ). (done ++ x ∷ []) ++ sections_numbered fields (n + 1) left) long ∙ append_assoc done (x ∷ []) _ ∙ here.sum;
      small = All-tail (IsSmall fields) p left here.small;
      few = let few = here.few in omega arith;
    } in
    subst (λ (m : List Parts). IsNumbered fields all m left) (sym f) next

pub numbered_last : (fields : ℕ) (all : List (List (List Execution))) (done : List Parts) (rest : List (List (List Execution))) → IsNumbered fields all done rest → rest ≡ [] → done ≡ sections_numbered fields 1 all
numbered_last fields all done rest h e = sym (append-nil done) ∙ ap (λ (r : List (List (List Execution))). done ++ sections_numbered fields (length done + 1) r) (sym e) ∙ h.sum

-- one section is left at least
pub numbered_here : (fields : ℕ) (all : List (List (List Execution))) (done : List Parts) (rest left : List (List (List Execution))) (p : List (List Execution)) → IsNumbered fields all done rest → rest ≡ p ∷ left
    → (length done < 32) × IsSmall fields p
numbered_here fields all done rest left p h e =
    let here : IsNumbered fields all done (p ∷ left) = subst (λ (r : List (List (List Execution))). IsNumbered fields all done r) e h in
    let few = here.few in
    (omega arith, All-head (IsSmall fields) p left here.small)

pub none_left : {X : Type 0} (xs : List X) → length xs ≡ 0 → xs ≡ []
none_left [] e = refl
none_left (x ∷ xs) e = absurd (omega arith)
