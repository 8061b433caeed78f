-- A row whose numbers were computed first.
use Rattle.std.proofs.Common.{◌≡◌, ℕ, List, ◌++◌, ap, ◌∙◌, subst}
use Rattle.std.specs.Prelude.{Option}
use Rattle.std.specs.Io.KnownBytes.{Appends}
use Rattle.play_report.specs.Causes.{AppendsPrefix, Rose}
use Rattle.schedule_states.specs.Rows.{numbers_text, row_text}

-- its numbers are these, and something follows it
pub front : (name ns ms rest : List ℕ) → ns ≡ ms → row_text name ns ++ rest ≡ row_text name ms ++ rest
front name ns ms rest e = ap (λ (l : List ℕ). row_text name l ++ rest) e

-- the numbers of two rows are these
pub both : (name other ns ms us vs : List ℕ) → ns ≡ ms → us ≡ vs → row_text name ns ++ row_text other us ≡ row_text name ms ++ row_text other vs
both name other ns ms us vs e d = ap (λ (l : List ℕ). row_text name l ++ row_text other us) e ∙ ap (λ (l : List ℕ). row_text name ms ++ row_text other l) d

-- the numbers that were written are these
pub same_numbers : (ns ms : List ℕ) (a b : Option (List ℕ)) (g h : ℕ) → ns ≡ ms → Appends a b (numbers_text ns) × (h ≡ g) → Appends a b (numbers_text ms) × (h ≡ g)
same_numbers ns ms a b g h e w = subst (λ (l : List ℕ). Appends a b (numbers_text l) × (h ≡ g)) e w

pub short_numbers : (ns ms : List ℕ) (a b : Option (List ℕ)) (g h : ℕ) → ns ≡ ms → AppendsPrefix a b (numbers_text ns) × Rose g h → AppendsPrefix a b (numbers_text ms) × Rose g h
short_numbers ns ms a b g h e w = subst (λ (l : List ℕ). AppendsPrefix a b (numbers_text l) × Rose g h) e w
