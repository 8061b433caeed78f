-- The commands of a part in their order, each after a poll.
use Rattle.std.proofs.Common.{ℕ, ◌≡◌, ◌+◌, ◌≤◌, ◌++◌, List, [], ◌∷◌, length, arith, ap, ◌∙◌, subst, true, false, ⊎_elim}
use Rattle.std.proofs.lemmas.Bool.{cases_Bool}
use Rattle.plain_heap.specs.Sections.{Execution}
use Rattle.gc_table.specs.Log.{events}
use Rattle.gc_table.specs.Running.{Ran}
use Rattle.gc_table.specs.declared.view.View.{View}
use Rattle.gc_table.proofs.Running.{ran-events, ran-join, ran-refl}
use Rattle.packet_pools.specs.Counts.{count_of}
use Rattle.packet_pools.specs.Seeking.{some_event}
use Rattle.packet_pools.proofs.Searches.{some-right}
use Rattle.gc_cycle.specs.Sorts.{polls}
use Rattle.gc_cycle.proofs.Sequences.{count-none}
use Rattle.warehouse.specs.Playing.{DoesAt, DoesEach, PollsAndDoes, is_collect}

-- a command after the poll before it
pub polls-does : (done : ℕ) (e : Execution) (v came w : View) → Ran v came → 1 ≤ count_of polls (events v came) → DoesAt done (is_collect e.op) came w → PollsAndDoes done e v w
polls-does done e v came w r polled does = record { came = came; ran = r; polled = some; does = does }
  where
    some : some_event polls (events v came) ≡ true
    some =
        ⊎_elim (λ (h : some_event polls (events v came) ≡ true). h)
        (λ (h : some_event polls (events v came) ≡ false). let none = count-none polls (events v came) h in absurd (omega (arith, none, polled))) (cases_Bool (some_event polls (events v came)))

-- whatever was done before
does-earlier : (done : ℕ) (e : Execution) (u v w : View) → Ran u v → PollsAndDoes done e v w → PollsAndDoes done e u w
does-earlier done e u v w r k =
    record {
      came = k.came;
      ran = ran-join u v k.came r k.ran;
      polled = ap (some_event polls) (ran-events u v k.came r k.ran) ∙ some-right polls (events u v) (events v k.came) k.polled;
      does = k.does;
    }

each-earlier : (done : ℕ) (es : List Execution) (u v w : View) → Ran u v → DoesEach done es v w → DoesEach done es u w
each-earlier done [] u v w r h = ran-join u v w r h
each-earlier done (e ∷ es) u v w r h = (h.0, does-earlier done e u v h.0 r h.1, h.2)

-- whatever is done later
pub each-later : (done : ℕ) (es : List Execution) (v w x : View) → DoesEach done es v w → Ran w x → DoesEach done es v x
each-later done [] v w x h r = ran-join v w x h r
each-later done (e ∷ es) v w x h r = (h.0, h.1, each-later (done + 1) es h.0 w x h.2 r)

pub each-within : (done : ℕ) (es : List Execution) (u v w x : View) → Ran u v → Ran w x → DoesEach done es v w → DoesEach done es u x
each-within done es u v w x r q h = each-later done es u w x (each-earlier done es u v w r h) q

-- one more command
pub each-next : (done : ℕ) (es : List Execution) (e : Execution) (v w x : View) → DoesEach done es v w → PollsAndDoes (done + length es) e w x → DoesEach done (es ++ e ∷ []) v x
each-next done [] e v w x h k = (x, does-earlier done e v w x h (subst (λ n. PollsAndDoes n e w x) same k), ran-refl x)
  where
    same : done + 0 ≡ done
    same = omega arith
each-next done (y ∷ es) e v w x h k = (h.0, h.1, each-next (done + 1) es e h.0 w x h.2 (subst (λ n. PollsAndDoes n e w x) same k))
  where
    same : done + length (y ∷ es) ≡ done + 1 + length es
    same = omega arith
