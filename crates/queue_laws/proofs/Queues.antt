-- A queue that threads change only as its calls do: after each event what was taken is what was put in first.
use Rattle.std.proofs.Common.{ℕ, ◌≡◌, ◌≤◌, zero, suc, List, take, drop, take-append-drop, length, arith, sym, ap, ◌∙◌, true, None, Some}
use Rattle.std.specs.Prelude.{slice_get}
use Rattle.std.proofs.lemmas.Option.{same_Some, slice_get_within}
use Rattle.plain_heap.specs.Paths.{Name}
use Rattle.mark_core.specs.Steps.{Core, run_of}
use Rattle.mark_core.specs.declared.kinds.Event.{Event}
use Rattle.gc_table.specs.AgreementLaws.{HasReference}
use Rattle.gc_table.specs.RunWorlds.{World, WorldObject, reference_of}
use Rattle.queue_laws.specs.Orders.{Begins, IsInOrder, IsQueue, QueueByName, Was}
use Rattle.queue_laws.specs.Queues.{Item, Queue, by_seat, heap_at, nodes_of, puts, takes}
use Rattle.queue_laws.proofs.Chains.{by_append, distinct_at, get_in, next_at, node_of, nodes_length, none_past}
use Rattle.queue_laws.proofs.Holds.{Holds, line}
use Rattle.queue_laws.proofs.Statuses.{Status, begin, goes_on}

module _ (q : Queue) (c : Core) (world : World) (es : List Event) (h : Begins q c world es) where
  abbrev heap : ℕ → World
  heap j = heap_at c world es j

  abbrev core : ℕ → Core
  core j = run_of (take j es) c

  abbrev put : ℕ → List Item
  put j = puts q c world es j

  abbrev taken : ℕ → List Item
  taken j = takes q c world es j

  pub in_order : (k : ℕ) → Status q c world es h k → IsInOrder q c world es k
  in_order k t =
      let s : Holds q (heap k) (put k) (taken k) = t.holds in
      record {
        fifo = s.fifo;
        once = s.distinct;
        taken_once =
            λ p r x y e f same.
            let a = s.fifo p x e in
            let b = s.fifo r y f in
            distinct_at (nodes_of (put k)) p r x.node s.distinct.1 (node_of (put k) p a.0 a.1 ∙ ap (λ (n : Name). Some n) a.2) (node_of (put k) r b.0 b.1 ∙ ap (λ (n : Name). Some n) (b.2 ∙ sym same));
        in_turn =
            λ i.
            let t : ℕ = length (taken k) in
            (by_seat i (drop t (put k)), ap (by_seat i) (sym (take-append-drop t (put k))) ∙ by_append i (take t (put k)) (drop t (put k)));
        numbers = s.numbers;
        first = (s.head, s.there, s.first ∙ sym s.is_at);
        last = λ name at. s.last name (ap (λ (o : WorldObject). reference_of o 1) (same_Some s.head at.0 (sym s.there ∙ at.1)) ∙ at.2);
        chain = s.chain;
      }

  pub none_left : (k : ℕ) → Status q c world es h k → (name : Name) → Was c world es k q.object 0 name → HasReference (heap k) name 0 None → length (taken k) ≡ length (put k)
  none_left k t name was none =
      let s : Holds q (heap k) (put k) (taken k) = t.holds in
      let p = t.memory.firsts name was in
      let node : q.is_node name ≡ true = s.members name (get_in (line q (put k)) p.0 name p.2) in
      let end : slice_get (nodes_of (put k)) p.0 ≡ None =
      sym (next_at (line q (put k)) p.0 name s.distinct p.2) ∙ (sym (s.chain name none.0 node none.1) ∙ none.2) in
      let past = none_past (nodes_of (put k)) p.0 end in
      let long = nodes_length (put k) in
      let below = slice_get_within (line q (put k)) (length (taken k)) s.node s.is_at in
      omega (arith, past, long, below, p.1)

by_name : (q : Queue) (c : Core) (world : World) (es : List Event) (h : IsQueue q c world es) (k : ℕ) → k ≤ length es → Status q c world es h.begins k
by_name q c world es h zero l = begin q c world es h.begins
by_name q c world es h (suc k) l = goes_on q c world es h.begins k (omega (arith, l)) (h.keeps k) (by_name q c world es h k (omega (arith, l)))

pub queue_by_name : QueueByName
queue_by_name =
    record {
      order = λ q c world es h k l. in_order q c world es h.begins k (by_name q c world es h k l);
      empty = λ q c world es h k l. none_left q c world es h.begins k (by_name q c world es h k l);
    }
