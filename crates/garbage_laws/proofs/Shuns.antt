-- A state that shuns a set of cells: nothing that a seat may store, load or mark is one of them.
use Rattle.std.proofs.Common.{ℕ, zero, suc, ◌≡◌, ◌+◌, ◌-◌, ◌<◌, List, get_or, arith, refl, sym, subst, true, false, not, ◌||◌, eqb, Option, Some, None, ⊎_elim}
use Rattle.std.specs.Prelude.{IfSome}
use Rattle.std.specs.List.{All, list_any}
use Rattle.std.proofs.lemmas.Bool.{true≢false, and_parts, or_cases, eqb-true, eqb-false, ltb-true, not-true}
use Rattle.mark_core.specs.Shapes.{EachCell}
use Rattle.mark_core.specs.Layout.{Words, words_of}
use Rattle.mark_core.specs.Bits.{cell_bit}
use Rattle.mark_core.specs.Seats.{is_phase, is_the, last_made}
use Rattle.mark_core.specs.Views.{makers}
use Rattle.mark_core.specs.Cells.{in_use, field}
use Rattle.mark_core.specs.Steps.MutatorSteps.{has_reference, names_last, knows_cell, variable_or_nil, in_variables}
use Rattle.mark_core.specs.Steps.{Core}
use Rattle.mark_core.specs.declared.kinds.Shape.{Shape}
use Rattle.mark_core.specs.declared.kinds.Step.{Step}
use Rattle.mark_core.specs.declared.kinds.Phase.TheVariants.{Sweep}
use Rattle.mark_core.specs.declared.seat.SeatState.{SeatState}
use Rattle.mark_core.specs.declared.seat.CacheState.{CacheState}
use Rattle.mark_core.proofs.World.WorldReading.{any-passes, some-passes}
use Rattle.mark_core.proofs.Blocks.BlocksStopped.{Taken}
use Rattle.mark_core.proofs.Sweeps.SweepsKept.{keeps}
use Rattle.mark_core.proofs.References.ReferencesRoots.{seat-formed}
use Rattle.garbage_laws.specs.Garbage.{reference_to}

-- the cell isn't in the set
abbrev pub Spares : (ℕ → Type 0) → ℕ → Type 0
Spares D x = D x → ⊥

-- the reference is nil, or names a cell outside the set
abbrev pub Misses : (ℕ → Type 0) → ℕ → Type 0
Misses D r = (x : ℕ) → r ≡ x + 1 → Spares D x

-- what the seat may store, and the cell that it is about to mark
pub record SeatShuns (D : ℕ → Type 0) (s : SeatState) : Type 0 where
  pub got : Misses D s.got
  pub last : Misses D (reference_to (last_made s.cache))
  pub env : All (Misses D) s.env
  pub value : IfSome s.value (Spares D)

-- no path leads into the set, its cells are white and stay in use until the sweep, and the sweep keeps none
pub record Shuns (D : ℕ → Type 0) (sh : Shape) (w : Words) (seats : List SeatState) : Type 0 where
  pub roots : All (Misses D) w.roots
  pub seats_shun : All (SeatShuns D) seats
  pub marks : EachCell sh (λ x. cell_bit w.marks x ≡ true → Spares D x)
  pub fields : EachCell sh (λ x. in_use w.allocs (makers seats) x ≡ true → Spares D x → (j : ℕ) → j < sh.fields → Misses D (field sh w.fields x j))
  pub remain : is_phase w.phase Sweep ≡ false → (x : ℕ) → D x → in_use w.allocs (makers seats) x ≡ true
  pub kept : w.phase ≡ 3 → EachCell sh (λ x. keeps w seats x ≡ true → Spares D x)

-- the core shuns the set
abbrev pub CoreShuns : (ℕ → Type 0) → Core → Type 0
CoreShuns D c = Shuns D c.shape (words_of c.shape c.words) c.seats

-- nil names no cell
pub nil-misses : (D : ℕ → Type 0) → Misses D 0
nil-misses D x e = absurd (omega (arith, e))

-- a reference that stands in a list
pub in-list : (D : ℕ → Type 0) (rs : List ℕ) (r : ℕ) → All (Misses D) rs → list_any (λ (x : ℕ). eqb x r) rs ≡ true → Misses D r
in-list D rs r a e =
    let one = some-passes (λ (x : ℕ). eqb x r) rs (any-passes (λ (x : ℕ). eqb x r) rs e) in
    subst (Misses D) (eqb-true (get_or rs one.0 0) r (one.2 0)) (a one.0 0 one.1)

above_nil : (x r : ℕ) → (r ≡ 0 → ⊥) → x ≡ r - 1 → x + 1 ≡ r
above_nil x zero n e = absurd (n refl)
above_nil x (suc r) n e = omega (arith, e)

last_at : (o : Option ℕ) (r : ℕ) → (r ≡ 0 → ⊥) → is_the o (r - 1) ≡ true → reference_to o ≡ r
last_at None r n e = absurd (true≢false (sym e))
last_at (Some x) r n e = above_nil x r n (eqb-true x (r - 1) e)

named_last : (D : ℕ → Type 0) (o : Option CacheState) (r : ℕ) → Misses D (reference_to (last_made o)) → names_last o r ≡ true → Misses D r
named_last D o r m e =
    let a = and_parts (not (eqb r 0)) (is_the (last_made o) (r - 1)) e in
    subst (Misses D) (last_at (last_made o) r (eqb-false r 0 (not-true (eqb r 0) a.0)) a.1) m

-- a reference that the seat has
pub has-missed : (D : ℕ → Type 0) (s : SeatState) (r : ℕ) → SeatShuns D s → has_reference s r ≡ true → Misses D r
has-missed D s r h e =
    ⊎_elim
    (λ (a : (eqb r 0 || eqb r s.got || list_any (λ (x : ℕ). eqb x r) s.env) ≡ true).
    ⊎_elim
    (λ (b : (eqb r 0 || eqb r s.got) ≡ true).
    ⊎_elim
    (λ (z : eqb r 0 ≡ true). subst (Misses D) (sym (eqb-true r 0 z)) (nil-misses D))
    (λ (z : eqb r s.got ≡ true). subst (Misses D) (sym (eqb-true r s.got z)) h.got)
    (or_cases (eqb r 0) (eqb r s.got) b))
    (λ (b : list_any (λ (x : ℕ). eqb x r) s.env ≡ true). in-list D s.env r h.env b)
    (or_cases (eqb r 0 || eqb r s.got) (list_any (λ (x : ℕ). eqb x r) s.env) a))
    (λ (a : names_last s.cache r ≡ true). named_last D s.cache r h.last a)
    (or_cases (eqb r 0 || eqb r s.got || list_any (λ (x : ℕ). eqb x r) s.env) (names_last s.cache r) e)

-- a cell that the seat knows
pub known-spared : (D : ℕ → Type 0) (s : SeatState) (x : ℕ) → SeatShuns D s → knows_cell s x ≡ true → Spares D x
known-spared D s x h e =
    ⊎_elim
    (λ (a : eqb s.got (x + 1) ≡ true). h.got x (eqb-true s.got (x + 1) a))
    (λ (a : list_any (λ (y : ℕ). eqb y (x + 1)) s.env ≡ true). in-list D s.env (x + 1) h.env a x refl)
    (or_cases (eqb s.got (x + 1)) (list_any (λ (y : ℕ). eqb y (x + 1)) s.env) e)

-- what a variable holds, or nil
pub variable-misses : (D : ℕ → Type 0) (c : Core) (i : ℕ) (s : SeatState) (step : Step) (o : Option ℕ) → Taken c i s step → SeatShuns D s → in_variables o ≡ true → Misses D (variable_or_nil s o)
variable-misses D c i s step None k h e = nil-misses D
variable-misses D c i s step (Some v) k h e = h.env v 0 (omega (arith, ltb-true v 32 e, (seat-formed c i s step k).env))
