-- A queue between two events: how it begins, and what the next event leaves of it.
use Rattle.std.proofs.Common.{ℕ, ◌≡◌, ◌<◌, ◌≤◌, zero, suc, List, [], ◌∷◌, ◌++◌, take, length, length-append, arith, refl, sym, ap, ◌∙◌, subst, Bool, true, false, None, Some, ⊎_elim}
use Rattle.std.specs.Prelude.{if◌then◌else◌, slice_get}
use Rattle.std.proofs.lemmas.Bool.{cases_lt, or_cases, true≢false}
use Rattle.std.proofs.lemmas.Option.{same_Some}
use Rattle.plain_heap.specs.Paths.{Name}
use Rattle.mark_core.specs.Steps.{Core, run_of}
use Rattle.mark_core.specs.declared.kinds.Event.{Event}
use Rattle.mark_core.specs.declared.kinds.Step.{Step}
use Rattle.mark_core.specs.declared.kinds.Step.TheVariants.{ExchangeField, ExchangeValue, StoreField, StoreValue}
use Rattle.gc_table.specs.AgreementLaws.{HasReference}
use Rattle.gc_table.specs.RunWorlds.{World, WorldObject, is_same, object_of, own_section, reference_of}
use Rattle.gc_table.proofs.Reading.{none-some}
use Rattle.heap_laws.specs.Named.{through}
use Rattle.heap_laws.proofs.Fields.{stores_field}
use Rattle.queue_laws.specs.Orders.{Begins, KeepsAt, KeepsQueue, Was}
use Rattle.queue_laws.specs.Queues.{Item, Queue, behind, heap_at, is_in, item_of, nodes_of, put_by, puts, taken_by, takes}
use Rattle.queue_laws.proofs.Chains.{behind_more, get_in, get_more, in_more, nodes_append, same_name}
use Rattle.queue_laws.proofs.Holds.{Holds, line}
use Rattle.queue_laws.proofs.Happening.{Here, Memory, here}
use Rattle.queue_laws.proofs.Steps as steps
use Rattle.queue_laws.proofs.Tries.{exchanging}

-- nothing is in an empty list
abbrev nobody : List Name
nobody = []

nothing_at : {X : Type 0} (p : ℕ) (x : X) → slice_get [] p ≡ Some x → ⊥
nothing_at zero x e = none-some x e
nothing_at (suc p) x e = none-some x e

module _ (q : Queue) (c : Core) (world : World) (es : List Event) (h : Begins q c world es) where
  abbrev heap : ℕ → World
  heap j = heap_at c world es j

  abbrev core : ℕ → Core
  core j = run_of (take j es) c

  abbrev put : ℕ → List Item
  put j = puts q c world es j

  abbrev taken : ℕ → List Item
  taken j = takes q c world es j

  module _ (k : ℕ) (x : Here q c world es h k) (n : Holds q (heap k) (put k) (taken k)) (m : Memory q c world es h k) where
    abbrev e : Event
    e = x.event

    abbrev w : ℕ
    w = own_section x.seat

    abbrev before : World
    before = heap k

    abbrev Result : Type 0
    Result = Holds q (heap (suc k)) (put (suc k)) (taken (suc k))

    next_holds : (a : Step) → e.step ≡ a → Result
    next_holds (StoreField v i y) is = steps.storing q c world es h k x n v i y is
    next_holds (StoreValue v l) is = steps.valued q c world es h k x n v (ap through is) (ap stores_field is) (ap (put_by q before w) is) (ap (taken_by q before w) is) (subst (KeepsQueue q c world es k w) is (steps.keeps q c world es h k x n))
    next_holds (ExchangeValue v l r) is = steps.valued q c world es h k x n v (ap through is) (ap stores_field is) (ap (put_by q before w) is) (ap (taken_by q before w) is) (subst (KeepsQueue q c world es k w) is (steps.keeps q c world es h k x n))
    next_holds (ExchangeField v i y z) is = exchanging q c world es h k x n m v i y z is
    next_holds a is = steps.idle q c world es h k x n (ap through is) (ap (put_by q before w) is) (ap (taken_by q before w) is)

    -- what was known stays so
    next_memory : Result → Memory q c world es h (suc k)
    next_memory r =
        record {
          nexts =
              λ a b node was.
              ⊎_elim
              (λ (l : k < was.0). let now = at_last was.0 was.1 l in
              let at : HasReference (heap (suc k)) a 0 (Some b) = subst (λ (j : ℕ). HasReference (heap j) a 0 (Some b)) now was.2 in
              sym (r.chain a at.0 node at.1) ∙ at.2)
              (λ (l : was.0 ≤ k). ap (λ (xs : List Name). behind xs a) longer ∙ behind_more (line q (put k)) (nodes_of more) a b (m.nexts a b node (was.0, l, was.2)))
              (cases_lt k was.0);
          lasts =
              λ b was.
              ⊎_elim
              (λ (l : k < was.0). let now = at_last was.0 was.1 l in
              let at : HasReference (heap (suc k)) q.object 1 (Some b) = subst (λ (j : ℕ). HasReference (heap j) q.object 1 (Some b)) now was.2 in
              r.last b (ap (λ (o : WorldObject). reference_of o 1) (same_Some r.head at.0 (sym r.there ∙ at.1)) ∙ at.2))
              (λ (l : was.0 ≤ k). subst (λ (xs : List Name). is_in xs b ≡ true) (sym longer) (in_more (line q (put k)) (nodes_of more) b (m.lasts b (was.0, l, was.2))))
              (cases_lt k was.0);
          firsts =
              λ a was.
              ⊎_elim
              (λ (l : k < was.0). let now = at_last was.0 was.1 l in
              let at : HasReference (heap (suc k)) q.object 0 (Some a) = subst (λ (j : ℕ). HasReference (heap j) q.object 0 (Some a)) now was.2 in
              let same : r.node ≡ a = same_Some r.node a (sym r.first ∙ (ap (λ (o : WorldObject). reference_of o 0) (same_Some r.head at.0 (sym r.there ∙ at.1)) ∙ at.2)) in
              (length (taken (suc k)), omega arith, r.is_at ∙ ap (λ (u : Name). Some u) same))
              (λ (l : was.0 ≤ k).
              let p = m.firsts a (was.0, l, was.2) in
              (p.0, omega (arith, p.1, not_fewer), ap (λ (xs : List Name). slice_get xs p.0) longer ∙ get_more (line q (put k)) (nodes_of more) p.0 a p.2))
              (cases_lt k was.0);
        }
      where
        more : List Item
        more = item_of before e.seat (put_by q before w e.step)

        longer : line q (put (suc k)) ≡ line q (put k) ++ nodes_of more
        longer = ap (λ (ps : List Item). q.dummy ∷ nodes_of ps) (steps.put_is q c world es h k x n) ∙ ap (λ (xs : List Name). q.dummy ∷ xs) (nodes_append (put k) more)

        not_fewer : length (taken k) ≤ length (taken (suc k))
        not_fewer =
            let all : List Item = item_of before e.seat (taken_by q before w e.step) in
            let one = ap (λ (l : List Item). length l) (steps.taken_is q c world es h k x n) in
            let both = length-append (taken k) all in
            omega (arith, one, both)

        at_last : (j : ℕ) → j ≤ suc k → k < j → j ≡ suc k
        at_last j b l = omega (arith, l, b)

  -- after the first k events
  pub record Status (k : ℕ) : Type 0 where
    pub holds : Holds q (heap k) (put k) (taken k)
    pub memory : Memory q c world es h k

  starts : Holds q world [] []
  starts =
      record {
        chain = λ name object node there. h.ends name object node there ∙ sym (one_behind (is_same (Some q.dummy) (Some name)));
        distinct = (refl, tt);
        members = λ name t. subst (λ (z : Name). q.is_node z ≡ true) (only name t) h.dummy;
        exist = λ name t. subst (λ (z : Name). (object : WorldObject) × (object_of world z ≡ Some object)) (only name t) (h.there.0, h.there.1);
        head = h.first.0;
        there = h.first.1;
        node = q.dummy;
        is_at = refl;
        first = h.first.2;
        last =
            λ name t.
            get_in (q.dummy ∷ []) 0 name
            (sym h.last.2 ∙ (ap (λ (o : WorldObject). reference_of o 1) (same_Some h.last.0 h.first.0 (sym h.last.1 ∙ h.first.1)) ∙ t));
        fifo = λ p x t. absurd (nothing_at p x t);
        numbers = λ p x t. absurd (nothing_at p x t);
        owned = λ p x t. absurd (nothing_at p x t);
      }
    where
      one_behind : (b : Bool) → (if b then slice_get nobody 0 else None) ≡ None
      one_behind true = refl
      one_behind false = refl

      only : (name : Name) → is_in (q.dummy ∷ []) name ≡ true → q.dummy ≡ name
      only name t = ⊎_elim (λ (u : is_same (Some q.dummy) (Some name) ≡ true). same_name q.dummy name u) (λ (u : false ≡ true). absurd (true≢false (sym u))) (or_cases (is_same (Some q.dummy) (Some name)) false t)

  pub begin : Status 0
  begin =
      record {
        holds = starts;
        memory =
            record {
              nexts = λ a b node was. absurd (let at = at_start a 0 b was in none-some b (sym (h.ends a at.0 node at.1) ∙ at.2));
              lasts = λ b was. let at = at_start q.object 1 b was in starts.last b (ap (λ (o : WorldObject). reference_of o 1) (same_Some starts.head at.0 (sym starts.there ∙ at.1)) ∙ at.2);
              firsts =
                  λ a was.
                  let at = at_start q.object 0 a was in
                  let same : starts.node ≡ a = same_Some starts.node a (sym starts.first ∙ (ap (λ (o : WorldObject). reference_of o 0) (same_Some starts.head at.0 (sym starts.there ∙ at.1)) ∙ at.2)) in
                  (0, omega arith, starts.is_at ∙ ap (λ (n : Name). Some n) same);
            };
      }
    where
      at_start : (name : Name) (i : ℕ) (b : Name) → Was c world es 0 name i b → HasReference world name i (Some b)
      at_start name i b was =
          let low = was.1 in
          let none : was.0 ≡ 0 = omega (arith, low) in
          subst (λ (j : ℕ). HasReference (heap j) name i (Some b)) none was.2

  pub goes_on : (k : ℕ) → k < length es → KeepsAt q c world es k → Status k → Status (suc k)
  goes_on k l keeps before =
      let x : Here q c world es h k = here q c world es h k l keeps in
      let r : Holds q (heap (suc k)) (put (suc k)) (taken (suc k)) = next_holds k x before.holds before.memory x.event.step refl in
      record { holds = r; memory = next_memory k x before.holds before.memory r }
