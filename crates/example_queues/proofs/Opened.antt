-- Threads that share a queue while their world is open.
use Rattle.std.proofs.Common.{ℕ, zero, suc, ◌≡◌, ◌⊎◌, ◌≤◌, ◌∙◌, List, [], ◌∷◌, ◌++◌, ap, arith, inl, inr, length, refl, subst, sym, ⊎_elim, true}
use mathlib.Core.Option.{some}
use lib.ListN.{get_elem?}
use Rattle.atomic_table.specs.Table.{State}
use Rattle.plain_heap.specs.Paths.{Name}
use Rattle.plain_heap.specs.declared.operation.Op.{Op}
use Rattle.mark_core.specs.Steps.{start_core}
use Rattle.mark_core.specs.declared.kinds.Event.{Event}
use Rattle.mark_core.specs.declared.kinds.Shape.{Shape}
use Rattle.gc_table.specs.Lending.{RefersTo, stores_once}
use Rattle.gc_table.specs.OpenRuns.{IsRunOfAll, SeatsShareRun}
use Rattle.gc_table.specs.Past.{log_of}
use Rattle.gc_table.specs.RunWorlds.{start_world}
use Rattle.gc_table.specs.Seen.{OneHistory, seats_of}
use Rattle.gc_table.specs.declared.view.Entry.{Entry}
use Rattle.gc_table.specs.declared.view.TokenState.{TokenState}
use Rattle.gc_table.specs.declared.view.View.{View}
use Rattle.gc_table.proofs.Freeing.{allowed}
use Rattle.gc_table.proofs.Lending.{none_starts}
use Rattle.heap_laws.specs.Moments.{IsHistory}
use Rattle.heap_laws.proofs.Moments.{each-allowed}
use Rattle.queue_laws.specs.LentQueues.{LentNumbers, LentQueue, QueueByLending, core_past, heap_past, log_since}
use Rattle.queue_laws.specs.Orders.{QueueByName, Was}
use Rattle.queue_laws.proofs.Parts.{log-join}
use Rattle.example_structures.specs.Fitting.{hands}
use Rattle.example_structures.proofs.ByCalls.{by-calls}
use Rattle.example_queues.specs.Open.{AllUse, GoesOn, QueueOpen}
use Rattle.example_queues.specs.Queueing.{IsFirstInFirstOut}
use Rattle.example_queues.proofs.Lending.{one-lent}

there_or_past : (xs : List View) (i : ℕ) → ((v : View) × (get_elem? xs i ≡ some v)) ⊎ (length xs ≤ i)
there_or_past [] i = inr (omega arith)
there_or_past (x ∷ xs) zero = inl (x, refl)
there_or_past (x ∷ xs) (suc i) = ⊎_elim (λ (t : (v : View) × (get_elem? xs i ≡ some v)). inl t) (λ (l : length xs ≤ i). inr (omega (arith, l))) (there_or_past xs i)

none_after : (xs ys : List Entry) → xs ++ ys ≡ [] → ys ≡ []
none_after [] ys e = e
none_after (x ∷ xs) ys e = absurd (cc)

-- a queue of which all that the law asks is so
pub fifo : QueueByLending → QueueByName → (sh : Shape) (past rest : List Event) (root : Name) → LentQueue sh past rest 0 (hands 0) root → (order : IsFirstInFirstOut sh past rest root) × LentNumbers sh past rest 0 (hands 0) order.queue
fifo lending name sh past rest root p =
    let r = lending sh past rest 0 (hands 0) root p in (
      record {
        queue = r.0;
        object = r.1;
        order = λ k l. name.order r.0 (core_past sh past) (heap_past sh past) rest r.2 k l;
        empty = λ k l node was none. name.empty r.0 (core_past sh past) (heap_past sh past) rest r.2 k l node (subst (λ (z : Name). Was (core_past sh past) (heap_past sh past) rest k z 0 node) (sym r.1) was) none;
      },
      r.3,
    )

module _ (law : SeatsShareRun) (sh : Shape) (plan : List (List Op)) (s : State (Unit {0}) TokenState) (o : OneHistory sh plan s) (past rest : List Event) (is : o.holds.past ≡ past ++ rest) (all : AllUse sh s past rest) where
  run : IsRunOfAll sh s (past ++ rest)
  run = subst (IsRunOfAll sh s) is (law sh plan s o)

  history : IsHistory sh (past ++ rest)
  history = record { allowed = run.run.allowed; sound = run.run.sound }

  own_log : (i : ℕ) (v : View) → get_elem? (seats_of s.views) i ≡ some v → v.log ≡ log_of sh (past ++ rest) i
  own_log i v at = (o.holds.logged i v at (all.unspent i v at)).log ∙ ap (λ (es : List Event). log_of sh es i) is

  parts : (i : ℕ) → log_of sh (past ++ rest) i ≡ log_of sh past i ++ log_since sh past rest i
  parts i = log-join i past rest (start_core sh 1) (each-allowed sh (past ++ rest) history)

  since : (i : ℕ) → GoesOn sh.fields i (log_of sh past i) (log_since sh past rest i)
  since i =
      ⊎_elim
      (λ (t : (v : View) × (get_elem? (seats_of s.views) i ≡ some v)). all.seats i t.0 t.1 (own_log i t.0 t.1 ∙ parts i))
      (λ (l : length (seats_of s.views) ≤ i). inl (none_after (log_of sh past i) (log_since sh past rest i) (sym (parts i) ∙ run.no_others i l)))
      (there_or_past (seats_of s.views) i)

  once : stores_once 0 (log_of sh (past ++ rest) 0) ≡ true
  once =
      ⊎_elim
      (λ (t : (v : View) × (get_elem? (seats_of s.views) 0 ≡ some v)). subst (λ (l : List Entry). stores_once 0 l ≡ true) (own_log 0 t.0 t.1) (all.once t.0 t.1))
      (λ (l : length (seats_of s.views) ≤ 0). ap (stores_once 0) (run.no_others 0 l))
      (there_or_past (seats_of s.views) 0)

  lent : (root : Name) × ((k : ℕ) → RefersTo sh (past ++ rest) 0 root k)
  lent = one-lent (past ++ rest) (start_core sh 1) (start_world sh) 0 run.run.sound (allowed 0 (past ++ rest) (start_core sh 1) run.run.allowed) (omega arith) once (none_starts sh.sections sh 0)

  opened : LentQueue sh past rest 0 (hands 0) lent.0
  opened =
      record {
        history = history;
        hands = by-calls.are_hands 0 (omega arith);
        below = omega arith;
        lends = lent.1;
        maker = all.maker;
        lays = all.lays;
        others = all.others;
        since = since;
      }

  pub root-lent : (root : Name) × ((k : ℕ) → RefersTo sh (past ++ rest) 0 root k) × LentQueue sh past rest 0 (hands 0) root
  root-lent = (lent.0, lent.1, opened)

pub queue-open : SeatsShareRun → QueueByLending → QueueByName → QueueOpen
queue-open law lending name sh plan s o past rest is all = let r = root-lent law sh plan s o past rest is all in let f = fifo lending name sh past rest r.0 r.2 in (r.0, r.1, f.0, f.1)
