-- The context is that of the lines before.
use Rattle.std.proofs.Common.{◌≡◌, ℕ, ◌+◌, List, ◌∷◌, refl, ap, ◌∙◌, cond, Bool, true, false, arith}
use Rattle.std.specs.Prelude.{Option, Some, is_none, ◌&&◌, ◌==◌}
use Rattle.gc_script.specs.Statement.{Statement, Blank, Fields, Catalogue, Warehouse, Season, Repeat, End, Command, Wrong}
use Rattle.gc_script.specs.Earlier.{next_line, known_fields, stated_fields}
use Rattle.gc_script.specs.Faults.{line_fault}
use Rattle.gc_script.specs.Context.{Context, context_of, context_after, closed_names, placed_in, fault_in, next}
use Rattle.gc_script.proofs.Clear.{left}

-- the fault of a line, by the context
pub fault_is : (version : ℕ) (e : List Statement) (s : Statement) → line_fault version (closed_names e) e s ≡ fault_in (context_of version e) s
fault_is version e Blank = refl
fault_is version e (Fields n) = refl
fault_is version e Catalogue = refl
fault_is version e Warehouse = refl
fault_is version e Season = refl
fault_is version e (Repeat n) = refl
fault_is version e End = refl
fault_is version e (Command spoken) = refl
fault_is version e Wrong = refl

pub line_more : (e : List Statement) (s : Statement) → next_line (s ∷ e) ≡ next_line e + 1
line_more e s = omega arith

on_line : (c : Context) (n m : ℕ) → n ≡ m → record c { line = n } ≡ record c { line = m }
on_line c n m e = ap (λ (l : ℕ). record c { line = l }) e

stated_now : (version n : ℕ) (o : Option ℕ) → is_none (cond (version == 1) (Some 4) o) ≡ true → cond (version == 1) (Some 4) (Some n) ≡ Some n
stated_now version n o = by_test (version == 1)
  where
    by_test : (b : Bool) → is_none (cond b (Some 4) o) ≡ true → cond b (Some 4) (Some n) ≡ Some n
    by_test true h = cc
    by_test false h = refl

-- the context after one line more that is well placed
pub context_step : (version : ℕ) (e : List Statement) (s : Statement) → placed_in (context_of version e) s ≡ true → context_of version (s ∷ e) ≡ context_after (context_of version e) s
context_step version e Blank h = on_line (context_of version e) _ _ (line_more e Blank)
context_step version e (Fields n) h =
    on_line (context_of version (Fields n ∷ e)) _ _ (line_more e (Fields n))
    ∙ ap (λ (o : Option ℕ). record (next (context_of version e)) { fields = o }) (stated_now version n (stated_fields e) (left (is_none (known_fields version e)) _ h))
context_step version e Catalogue h = on_line (context_of version (Catalogue ∷ e)) _ _ (line_more e Catalogue)
context_step version e Warehouse h = on_line (context_of version (Warehouse ∷ e)) _ _ (line_more e Warehouse)
context_step version e Season h = on_line (context_of version (Season ∷ e)) _ _ (line_more e Season)
context_step version e (Repeat n) h = on_line (context_of version (Repeat n ∷ e)) _ _ (line_more e (Repeat n))
context_step version e End h = on_line (context_of version (End ∷ e)) _ _ (line_more e End)
context_step version e (Command spoken) h = on_line (context_of version (Command spoken ∷ e)) _ _ (line_more e (Command spoken))
context_step version e Wrong h = on_line (context_of version (Wrong ∷ e)) _ _ (line_more e Wrong)
