-- Threads that visit the lock while their world is open.
use Rattle.std.proofs.Common.{ℕ, zero, suc, ◌≡◌, ◌≢◌, ◌⊎◌, ◌≤◌, ◌∙◌, List, [], ◌∷◌, ◌++◌, append_assoc, ap, arith, inl, inr, length, refl, subst, sym, ⊎_elim, true, false, None}
use Rattle.std.proofs.lemmas.Bool.{cases_eq}
use mathlib.Core.Option.{some}
use lib.ListN.{get_elem?}
use Rattle.atomic_table.specs.Table.{State}
use Rattle.plain_heap.specs.Paths.{Name}
use Rattle.plain_heap.specs.declared.operation.Op.{Op}
use Rattle.mark_core.specs.Steps.{start_core}
use Rattle.mark_core.specs.declared.kinds.Event.{Event}
use Rattle.mark_core.specs.declared.kinds.Shape.{Shape}
use Rattle.gc_table.specs.Lending.{RefersTo, stores_once}
use Rattle.gc_table.specs.Log.{all_steps}
use Rattle.gc_table.specs.OpenRuns.{IsRunOfAll, SeatsShareRun}
use Rattle.gc_table.specs.Past.{log_of}
use Rattle.gc_table.specs.RunWorlds.{start_world}
use Rattle.gc_table.specs.Seen.{OneHistory, seats_of}
use Rattle.gc_table.specs.Single.{takes_turns}
use Rattle.gc_table.specs.declared.view.Entry.{Entry}
use Rattle.gc_table.specs.declared.view.TokenState.{TokenState}
use Rattle.gc_table.specs.declared.view.View.{View}
use Rattle.gc_table.proofs.Freeing.{allowed}
use Rattle.gc_table.proofs.Lending.{all_split, none_starts}
use Rattle.heap_laws.specs.LentLocks.{IsThroughLent, LockByLog, TakesLent, makes_zero}
use Rattle.heap_laws.specs.Locks.{stores_none}
use Rattle.heap_laws.specs.Pairs.{IsStoredLent, KeepsPair, PairByLog, fits_pairs}
use Rattle.heap_laws.proofs.Locks.{turns-split}
use Rattle.heap_laws.proofs.PairLogs.{fits_split}
use Rattle.example_locks.specs.Open.{AllVisit, GuardedOpen, IsRootLog}
use Rattle.example_locks.specs.Guarding.{FindsWhole}
use Rattle.example_locks.proofs.Inside.{finds-whole, reads-alike}
use Rattle.example_locks.proofs.Lending.{one-lent}
use Rattle.example_locks.proofs.Lent.{Told, none-told, told, zero-pairs, zero-stored, zero-stores, zero-through, zero-turns, zero-zeros}

-- What is so of a log is so of its beginning.
record Begun (fields : ℕ) (log : List Entry) : Type 0 where
  through : IsThroughLent 0 log
  stored : IsStoredLent 0 log
  turns : takes_turns false log ≡ true
  pairs : fits_pairs false None log ≡ true
  unstored : all_steps stores_none log ≡ true
  zeros : all_steps (makes_zero fields) log ≡ true

longer : (log more before after : List Entry) (e : Entry) → log ≡ before ++ e ∷ after → log ++ more ≡ before ++ e ∷ (after ++ more)
longer log more before after e is = ap (λ (l : List Entry). l ++ more) is ∙ append_assoc before (e ∷ after) more

begun : (fields n : ℕ) (log more : List Entry) → Told fields n (log ++ more) → Begun fields log
begun fields n log more t =
    record {
      through = λ before after e v m x is step. t.through before (after ++ more) e v m x (longer log more before after e is) step;
      stored = λ before after e v i x is step. t.stored before (after ++ more) e v i x (longer log more before after e is) step;
      turns = (turns-split false log more t.turns).0;
      pairs = (fits_split false None log more t.pairs).0;
      unstored = (all_split stores_none log more t.unstored).0;
      zeros = (all_split (makes_zero fields) log more t.zeros).0;
    }

root_begun : (fields : ℕ) (log : List Entry) → IsRootLog fields log → Begun fields log
root_begun fields log r =
    record {
      through = zero-through fields log r.values;
      stored = zero-stored log r.fields_left;
      turns = zero-turns fields false log r.values;
      pairs = zero-pairs fields false log r.values r.fields_left;
      unstored = zero-stores fields log r.values;
      zeros = zero-zeros fields log r.values;
    }

none_begun : (fields : ℕ) → Begun fields []
none_begun fields = begun fields 0 [] [] (none-told fields)

there_or_past : (xs : List View) (i : ℕ) → ((v : View) × (get_elem? xs i ≡ some v)) ⊎ (length xs ≤ i)
there_or_past [] i = inr (omega arith)
there_or_past (x ∷ xs) zero = inl (x, refl)
there_or_past (x ∷ xs) (suc i) = ⊎_elim (λ (t : (v : View) × (get_elem? xs i ≡ some v)). inl t) (λ (l : length xs ≤ i). inr (omega (arith, l))) (there_or_past xs i)

module _ (law : SeatsShareRun) (sh : Shape) (plan : List (List Op)) (s : State (Unit {0}) TokenState) (o : OneHistory sh plan s) (all : AllVisit sh s) where
  abbrev es : List Event
  es = o.holds.past

  run : IsRunOfAll sh s o.holds.past
  run = law sh plan s o

  -- the log of a seat that is there
  own_log : (i : ℕ) (v : View) → get_elem? (seats_of s.views) i ≡ some v → v.log ≡ log_of sh es i
  own_log i v at = (o.holds.logged i v at (all i v at).0).log

  each : (i : ℕ) → Begun sh.fields (log_of sh es i)
  each i = ⊎_elim (λ (t : (v : View) × (get_elem? (seats_of s.views) i ≡ some v)). subst (Begun sh.fields) (own_log i t.0 t.1) (there t.0 t.1)) (λ (past : length (seats_of s.views) ≤ i). subst (Begun sh.fields) (sym (run.no_others i past)) (none_begun sh.fields)) (there_or_past (seats_of s.views) i)
    where
      there : (v : View) → get_elem? (seats_of s.views) i ≡ some v → Begun sh.fields v.log
      there v at =
          ⊎_elim
          (λ (first : i ≡ 0). root_begun sh.fields v.log ((all i v at).1 first))
          (λ (other : i ≢ 0). let t = (all i v at).2 other in begun sh.fields t.0 v.log t.1 (told sh.fields t.0 (v.log ++ t.1) t.2))
          (cases_eq i 0)

  -- section 0's seat stores once in its variable
  once : stores_once 0 (log_of sh es 0) ≡ true
  once = ⊎_elim (λ (t : (v : View) × (get_elem? (seats_of s.views) 0 ≡ some v)). subst (λ (l : List Entry). stores_once 0 l ≡ true) (own_log 0 t.0 t.1) ((all 0 t.0 t.1).1 refl).once) (λ (past : length (seats_of s.views) ≤ 0). ap (stores_once 0) (run.no_others 0 past)) (there_or_past (seats_of s.views) 0)

  lent : (root : Name) × ((k : ℕ) → RefersTo sh es 0 root k)
  lent = one-lent es (start_core sh 1) (start_world sh) 0 run.run.sound (allowed 0 es (start_core sh 1) run.run.allowed) (omega arith) once (none_starts sh.sections sh 0)

  takes_lent : TakesLent sh es 0 lent.0
  takes_lent =
      record {
        history = record { allowed = run.run.allowed; sound = run.run.sound };
        below = omega arith;
        lends = lent.1;
        lent = λ i. (each i).through;
        turns = λ i. (each i).turns;
        unstored = λ i. (each i).unstored;
        made = (each lent.0.section).zeros;
      }

  keeps_pair : KeepsPair sh es 0 lent.0
  keeps_pair = record { takes = takes_lent; pairs = λ i. (each i).pairs; stored = λ i. (each i).stored }

pub guarded-open : SeatsShareRun → LockByLog → PairByLog → GuardedOpen
guarded-open law alone pair sh plan s o all =
    let l = lent law sh plan s o all in
    let keeps : KeepsPair sh o.holds.past 0 l.0 = keeps_pair law sh plan s o all in
    let finds : FindsWhole sh o.holds.past l.0 = finds-whole alone pair sh o.holds.past 0 l.0 keeps in
    (alone sh o.holds.past 0 l.0 (takes_lent law sh plan s o all), (l.0, l.1, finds, reads-alike alone pair sh o.holds.past 0 l.0 keeps (law sh plan s o).run.tells finds))
