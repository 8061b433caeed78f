-- Threads that take nothing back while their world is open.
use Rattle.std.proofs.Common.{ℕ, zero, suc, ◌≡◌, ◌⊎◌, ◌≤◌, List, [], ◌∷◌, ap, arith, inl, inr, length, refl, subst, sym, ⊎_elim, true}
use mathlib.Core.Option.{some}
use lib.ListN.{get_elem?}
use Rattle.atomic_table.specs.Table.{State}
use Rattle.plain_heap.specs.Paths.{Name}
use Rattle.plain_heap.specs.declared.operation.Op.{Op}
use Rattle.mark_core.specs.Steps.{start_core}
use Rattle.mark_core.specs.declared.kinds.Event.{Event}
use Rattle.mark_core.specs.declared.kinds.Shape.{Shape}
use Rattle.gc_table.specs.Lending.{RefersTo, stores_once}
use Rattle.gc_table.specs.OpenRuns.{IsRunOfAll, SeatsShareRun}
use Rattle.gc_table.specs.Past.{log_of}
use Rattle.gc_table.specs.RunWorlds.{start_world}
use Rattle.gc_table.specs.Seen.{OneHistory, seats_of}
use Rattle.gc_table.specs.declared.view.Entry.{Entry}
use Rattle.gc_table.specs.declared.view.TokenState.{TokenState}
use Rattle.gc_table.specs.declared.view.View.{View}
use Rattle.gc_table.proofs.Freeing.{allowed}
use Rattle.gc_table.proofs.Lending.{none_starts}
use Rattle.heap_laws.specs.Lent.{LentByLog}
use Rattle.heap_laws.specs.Moments.{IsHistory}
use Rattle.heap_laws.specs.Variables.{VariablesRead}
use Rattle.example_orders.specs.Open.{AllFill, FillsSoFar, OrdersOpen}
use Rattle.example_orders.specs.Orders.{Contradict, OnlyFills}
use Rattle.example_orders.specs.Variables.{all_nil}
use Rattle.example_orders.proofs.Agreeing.{none-contradict}
use Rattle.example_orders.proofs.Filling.{fill_split}
use Rattle.example_orders.proofs.Lending.{one-lent}

there_or_past : (xs : List View) (i : ℕ) → ((v : View) × (get_elem? xs i ≡ some v)) ⊎ (length xs ≤ i)
there_or_past [] i = inr (omega arith)
there_or_past (x ∷ xs) zero = inl (x, refl)
there_or_past (x ∷ xs) (suc i) = ⊎_elim (λ (t : (v : View) × (get_elem? xs i ≡ some v)). inl t) (λ (l : length xs ≤ i). inr (omega (arith, l))) (there_or_past xs i)

begun : (log : List Entry) → FillsSoFar log → OnlyFills log
begun log b = (fill_split all_nil log b.0 b.1).0

module _ (law : SeatsShareRun) (sh : Shape) (plan : List (List Op)) (s : State (Unit {0}) TokenState) (o : OneHistory sh plan s) (all : AllFill s) where
  abbrev es : List Event
  es = o.holds.past

  run : IsRunOfAll sh s o.holds.past
  run = law sh plan s o

  history : IsHistory sh o.holds.past
  history = record { allowed = run.run.allowed; sound = run.run.sound }

  -- the log of a seat that is there
  own_log : (i : ℕ) (v : View) → get_elem? (seats_of s.views) i ≡ some v → v.log ≡ log_of sh es i
  own_log i v at = (o.holds.logged i v at (all i v at).0).log

  fill : (i : ℕ) → OnlyFills (log_of sh es i)
  fill i =
      ⊎_elim
      (λ (t : (v : View) × (get_elem? (seats_of s.views) i ≡ some v)). subst OnlyFills (own_log i t.0 t.1) (begun t.0.log (all i t.0 t.1).2))
      (λ (past : length (seats_of s.views) ≤ i). subst OnlyFills (sym (run.no_others i past)) refl)
      (there_or_past (seats_of s.views) i)

  -- section 0's seat stores once in its variable
  once : stores_once 0 (log_of sh es 0) ≡ true
  once =
      ⊎_elim
      (λ (t : (v : View) × (get_elem? (seats_of s.views) 0 ≡ some v)). subst (λ (l : List Entry). stores_once 0 l ≡ true) (own_log 0 t.0 t.1) ((all 0 t.0 t.1).1 refl))
      (λ (past : length (seats_of s.views) ≤ 0). ap (stores_once 0) (run.no_others 0 past))
      (there_or_past (seats_of s.views) 0)

  lent : (root : Name) × ((k : ℕ) → RefersTo sh es 0 root k)
  lent = one-lent es (start_core sh 1) (start_world sh) 0 run.run.sound (allowed 0 es (start_core sh 1) run.run.allowed) (omega arith) once (none_starts sh.sections sh 0)

  agree : LentByLog → VariablesRead → (i j : ℕ) (v w : View) → get_elem? (seats_of s.views) i ≡ some v → get_elem? (seats_of s.views) j ≡ some w → Contradict v.log w.log → ⊥
  agree lends reads i j v w at there both =
      none-contradict sh es history lends reads lent.0 lent.1 fill i j (subst (λ (l : List Entry × List Entry). Contradict l.0 l.1) (λ n. (own_log i v at n, own_log j w there n)) both)

pub orders-open : SeatsShareRun → LentByLog → VariablesRead → OrdersOpen
orders-open law lends reads sh plan s o all i j v w at there both = agree law sh plan s o all lends reads i j v w at there both
