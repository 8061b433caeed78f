use Rattle.std.proofs.Common.{◌≡◌, ℕ, ◌+◌, List, [], ◌∷◌, map, refl, sym, ◌∙◌, ap, cond, Bor, length}
use Rattle.std.specs.Prelude.{not, Option, unwrap_or}
use Rattle.std.specs.List.{position_or_len, position}
use Rattle.std.specs.Str.{bytes_eq}
use Rattle.gc_script.specs.Earlier.{place}
use Rattle.gc_script.proofs.Clear.{or_end, within}
use Rattle.gc_script.proofs.names.place_of.Goals as goal

-- Places of names.
place-map : (name : List ℕ) (names : List (Bor (List ℕ))) → place (map (λ n. n.now) names) name ≡ position_or_len (λ (other : Bor (List ℕ)). bytes_eq other.now name) names
place-map name [] = refl
place-map name (n ∷ names) = ap (λ (k : ℕ). cond (not (bytes_eq n.now name)) (1 + k) 0) (place-map name names)

-- the place, by the position if there is one
place_by_position : (name : List ℕ) (names : List (Bor (List ℕ))) (r : Option ℕ) (k : ℕ) → r ≡ position (λ (other : Bor (List ℕ)). bytes_eq other.now name) names → k ≡ unwrap_or r (length names) → k ≡ place (map (λ n. n.now) names) name
place_by_position name names r k e f =
    f ∙ ap (λ (o : Option ℕ). unwrap_or o (length names)) e ∙ or_end _ (length names) (within (λ (other : Bor (List ℕ)). bytes_eq other.now name) names) ∙ sym (place-map name names)

pub returns-clause-place : goal.returns-clause-place
returns-clause-place c = place_by_position c.args.name.now c.args.names.now _ _ c.position_of.ensures c.unwrap_or.ensures
