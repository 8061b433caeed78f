-- The sections of a script by their numbers.
use Rattle.std.proofs.Common.{◌≡◌, ℕ, ◌+◌, zero, suc, List, [], ◌∷◌, length, map, get_or, drop, refl, ap, sym, ◌∙◌, max, add-one, arith}
use Rattle.std.proofs.lemmas.List.Folds.{fold-map}
use Rattle.std.proofs.lemmas.List.Sums.{sum_by-cons}
use Rattle.std.specs.Prelude.{unwrap_or}
use Rattle.std.specs.List.{fold, sum_by}
use Rattle.plain_heap.specs.Sections.{Execution, Sections, Parts, joined, parts_of, counted, warehouse_numbers, section_numbers, section_of, warehouse_sections, executed_total, printed_total, printed_by, seasons}
use Rattle.gc_script.specs.Blocks.{counts}
use Rattle.gc_script.specs.Sectioned.{in_parts, in_sections, sections_numbered}
use Rattle.gc_script.specs.declared.block.Kind.TheVariants.{All, Printing}
use Rattle.gc_script.proofs.Sectioning.{counted_all}

-- what stands at a place, and behind it
at_drop : {X : Type 0} (xs : List X) (n : ℕ) (w : X) (ws : List X) (d : X) → drop n xs ≡ w ∷ ws → (get_or xs n d ≡ w) × (drop (suc n) xs ≡ ws)
at_drop [] zero w ws d e = cc
at_drop (x ∷ xs) zero w ws d e = (cc, cc)
at_drop [] (suc n) w ws d e = cc
at_drop (x ∷ xs) (suc n) w ws d e = at_drop xs n w ws d e

part_there : (s : Sections) (n : ℕ) (w : List (List Execution)) (ws : List (List (List Execution))) → drop n s.warehouses ≡ w ∷ ws → parts_of s (n + 1) ≡ w
part_there s n w ws e = ap (parts_of s) (add-one n) ∙ (at_drop s.warehouses n w ws [] e).0

rest_there : (s : Sections) (n : ℕ) (w : List (List Execution)) (ws : List (List (List Execution))) → drop n s.warehouses ≡ w ∷ ws → drop (n + 1) s.warehouses ≡ ws
rest_there s n w ws e = ap (λ (k : ℕ). drop k s.warehouses) (add-one n) ∙ (at_drop s.warehouses n w ws [] e).1

parts_from : (s : Sections) (n : ℕ) (ws : List (List (List Execution))) → drop n s.warehouses ≡ ws → map (parts_of s) (counted (n + 1) (length ws)) ≡ ws
parts_from s n [] e = refl
parts_from s n (w ∷ ws) e =
    ap (λ (p : List (List Execution)). p ∷ map (parts_of s) (counted (n + 1 + 1) (length ws))) (part_there s n w ws e)
    ∙ ap (λ (l : List (List (List Execution))). w ∷ l) (parts_from s (n + 1) ws (rest_there s n w ws e))

warehouse_parts : (s : Sections) → map (parts_of s) (warehouse_numbers s) ≡ s.warehouses
warehouse_parts s = parts_from s 0 s.warehouses refl

sections_from : (s : Sections) (n : ℕ) (ws : List (List (List Execution))) → drop n s.warehouses ≡ ws → map (section_of s) (counted (n + 1) (length ws)) ≡ sections_numbered s.fields (n + 1) ws
sections_from s n [] e = refl
sections_from s n (w ∷ ws) e =
    ap (λ (p : List (List Execution)). record { number = n + 1; fields = s.fields; parts = p } ∷ map (section_of s) (counted (n + 1 + 1) (length ws))) (part_there s n w ws e)
    ∙ ap (λ (l : List Parts). record { number = n + 1; fields = s.fields; parts = w } ∷ l) (sections_from s (n + 1) ws (rest_there s n w ws e))

-- the warehouses, numbered from 1
pub numbered_are : (s : Sections) → sections_numbered s.fields 1 s.warehouses ≡ warehouse_sections s
numbered_are s = sym (sections_from s 0 s.warehouses refl)

pub numbered_parts : (fields n : ℕ) (ws : List (List (List Execution))) → map (λ (p : Parts). p.parts) (sections_numbered fields n ws) ≡ ws
numbered_parts fields n [] = refl
numbered_parts fields n (w ∷ ws) = ap (λ (l : List (List (List Execution))). w ∷ l) (numbered_parts fields (n + 1) ws)

-- a sum over all sections
sum_sections : (f : List (List Execution) → ℕ) (s : Sections) → sum_by (λ w. f (parts_of s w)) (section_numbers s) ≡ f (unwrap_or s.catalogue []) + sum_by f s.warehouses
sum_sections f s =
    sum_by-cons (λ w. f (parts_of s w)) 0 (warehouse_numbers s)
    ∙ ap (λ (n : ℕ). f (unwrap_or s.catalogue []) + n)
    (sym (fold-map (λ (a : ℕ) (p : List (List Execution)). a + f p) (parts_of s) 0 (warehouse_numbers s)) ∙ ap (sum_by f) (warehouse_parts s))

sum_same : {X : Type 0} (f g : X → ℕ) (xs : List X) → ((x : X) → f x ≡ g x) → sum_by f xs ≡ sum_by g xs
sum_same f g [] e = refl
sum_same f g (x ∷ xs) e =
    let a = sum_by-cons f x xs in
    let b = sum_by-cons g x xs in
    let c = sum_same f g xs e in
    let d = e x in
    omega arith

pub executed_is : (s : Sections) → in_sections (counts All) s.catalogue s.warehouses ≡ executed_total s
executed_is s =
    let first = counted_all (joined (unwrap_or s.catalogue [])) in
    let others = sum_same (in_parts (counts All)) (λ p. length (joined p)) s.warehouses (λ p. counted_all (joined p)) in
    let all = sum_sections (λ p. length (joined p)) s in
    omega arith

pub printed_is : (s : Sections) → in_sections (counts Printing) s.catalogue s.warehouses ≡ printed_total s
printed_is s = sym (sum_sections (λ p. printed_by (joined p)) s)

-- the section with most parts
pub seasons_are : (s : Sections) → fold (λ most p. max most (length p)) (max 1 (length (unwrap_or s.catalogue []))) s.warehouses ≡ seasons s
seasons_are s =
    ap (fold (λ (most : ℕ) (p : List (List Execution)). max most (length p)) (max 1 (length (unwrap_or s.catalogue [])))) (sym (warehouse_parts s))
    ∙ fold-map (λ (most : ℕ) (p : List (List Execution)). max most (length p)) (parts_of s) (max 1 (length (unwrap_or s.catalogue []))) (warehouse_numbers s)
