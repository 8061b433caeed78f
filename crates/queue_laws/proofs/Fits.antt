-- A queue whose threads' logs fit is changed only as its calls do.
use Rattle.std.proofs.Common.{ℕ, ◌≡◌, ◌≢◌, ◌<◌, ◌≤◌, ◌==◌, ◌&&◌, ◌||◌, List, take, length, arith, refl, sym, ap, ◌∙◌, subst, true, false, Option, None, Some, eqb-true, inr, ⊎_elim}
use Rattle.std.specs.Prelude.{nat_le}
use Rattle.std.proofs.lemmas.Bool.{and_parts, false_from_ne_true, leb-true, or_cases, or_from, true≢false}
use Rattle.std.proofs.lemmas.Option.{same_Some}
use Rattle.plain_heap.specs.Paths.{Name}
use Rattle.mark_core.specs.Steps.{Core, run_of}
use Rattle.mark_core.specs.declared.kinds.Event.{Event}
use Rattle.mark_core.specs.declared.kinds.Step.{Step}
use Rattle.mark_core.specs.declared.kinds.Step.TheVariants.{ExchangeField, StoreField}
use Rattle.mark_core.proofs.Blocks.BlocksStopped.{Taken}
use Rattle.gc_table.specs.Entries.{is_logged}
use Rattle.gc_table.specs.Past.{log_from}
use Rattle.gc_table.specs.RunWorlds.{World, WorldObject, is_same, object_of, stored, variable_of}
use Rattle.gc_table.specs.declared.view.Entry.{Entry}
use Rattle.gc_table.proofs.Exchanges.{compares}
use Rattle.gc_table.proofs.Frame.{Mutates}
use Rattle.gc_table.proofs.Reading.{none-some}
use Rattle.heap_laws.specs.Named.{through}
use Rattle.heap_laws.specs.Pairs.{is_source}
use Rattle.heap_laws.proofs.PairLogs.{source_is}
use Rattle.queue_laws.specs.Kinds.{IsRead, Refers}
use Rattle.queue_laws.specs.Making.{IsNew}
use Rattle.queue_laws.specs.Orders.{Advances, Follows, Links, Was}
use Rattle.queue_laws.specs.QueueLogs.{FitsQueue, Hands, advances, fits, follows, follows_next, follows_own, follows_seen, has_read, is_callers, is_fresh, is_linked, keeps_beside, links}
use Rattle.queue_laws.specs.Queues.{Queue, by_seat, heap_at, is_in, nodes_of, puts}
use Rattle.queue_laws.proofs.Chains.{behind_in, get_in, same_name}
use Rattle.queue_laws.proofs.FitSteps.{At, fit, nil, there_at}
use Rattle.queue_laws.proofs.Holds.{line}
use Rattle.queue_laws.proofs.KindLogs.{kinds_by_log, made_by_log}
use Rattle.queue_laws.proofs.LinkLogs.{IsLink, link_parts, linked}
use Rattle.queue_laws.proofs.News.{unused}
use Rattle.queue_laws.proofs.Statuses.{Status}

module _ (q : Queue) (c : Core) (world : World) (es : List Event) (h : Hands) (p : FitsQueue q c world es h) where
  abbrev core : ℕ → Core
  core k = run_of (take k es) c

  abbrev heap : ℕ → World
  heap k = heap_at c world es k

  abbrev log : ℕ → ℕ → List Entry
  log i k = log_from i c (take k es)

  module _ (k : ℕ) (x : At q c world es h p k) (t : Status q c world es p.begins k) (logged : is_logged x.event.step ≡ true) where
    abbrev i : ℕ
    i = x.event.seat

    within : k ≤ length es
    within = let below = x.below in omega (arith, below)

    -- the seat's variable of the queue
    queue_at : (v : ℕ) → through x.event.step ≡ Some v → is_callers x.event.step ≡ false → variable_of (heap k) i h.queue ≡ Some q.object
    queue_at v e low = p.names k x.event v x.there e low

    refers : (v : ℕ) → through x.event.step ≡ Some v → is_callers x.event.step ≡ false → Refers q c world es i h.queue k
    refers v e low = record { run = p.begins.run; within = within; names = queue_at v e low }

    -- an event on field 0 or 1
    below_two : (f : ℕ) → f < 2 → nat_le 2 f ≡ false
    below_two f l = false_from_ne_true (nat_le 2 f) (λ t. let two = leb-true 2 f t in omega (arith, two, l))

    read : (v u f : ℕ) → v < 32 → u < 32 → v ≢ u → has_read x.first v u f (log i k) ≡ true → IsRead c es i v u f k
    read v u f hv hu d e = record { seat = x.first; there = x.is_first logged; exists = (hv, hu); others = d; held = e }

    -- what is in the queue is a node
    no_queue : (name : Name) → q.is_node name ≡ true → name ≢ q.object
    no_queue name node same = true≢false (sym node ∙ (ap q.is_node same ∙ p.begins.apart))

    in_queue : (name : Name) → is_in (line q (puts q c world es k)) name ≡ true → name ≢ q.object
    in_queue name e = no_queue name (t.holds.members name e)

    first_in : (name : Name) → Was c world es k q.object 0 name → is_in (line q (puts q c world es k)) name ≡ true
    first_in name was = let r = t.memory.firsts name was in get_in (line q (puts q c world es k)) r.0 name r.2

    -- a new object isn't the queue's, and is a node
    new_other : (name : Name) → IsNew c world es i h.own k name → (object : WorldObject) → object_of world name ≡ Some object → ⊥
    new_other name n object there =
        let low = n.before in
        let r = there_at q c world es h p name object there n.moment (omega (arith, low, within)) in
        none-some r.0 (sym n.none ∙ r.1)

    new_node : (name : Name) → IsNew c world es i h.own k name → q.is_node name ≡ true
    new_node name n = by_object (object_of world name) refl
      where
        by_object : (o : Option WorldObject) → object_of world name ≡ o → q.is_node name ≡ true
        by_object None e = p.new name e
        by_object (Some object) e = absurd (new_other name n object e)

    -- a store in a field
    pub beside : (v f : ℕ) (y : Option ℕ) → x.event.step ≡ StoreField v f y → (name : Name) → variable_of (heap k) i v ≡ Some name → (f ≡ 0 → q.is_node name ≡ false) × (f < 2 → name ≢ q.object)
    beside v f y is name to =
        ⊎_elim
        (λ (u : nat_le 2 f ≡ true). let low = leb-true 2 f u in (λ e. absurd (omega (arith, low, e)), λ e. absurd (omega (arith, low, e))))
        (λ (u : ((f == 1) && keeps_beside c.shape.fields x.first h (log i k) v) ≡ true).
        let a = and_parts (f == 1) (keeps_beside c.shape.fields x.first h (log i k) v) u in
        let one : f ≡ 1 = eqb-true f 1 a.0 in
        (λ e. absurd (omega (arith, one, e)), λ e. ⊎_elim own (next e) (or_cases ((v == h.own) && is_fresh c.shape.fields h.own (log i k)) ((v == h.next) && (has_read x.first h.queue h.seen 0 (log i k) && has_read x.first h.seen h.next 0 (log i k))) a.1)))
        (or_cases (nat_le 2 f) ((f == 1) && keeps_beside c.shape.fields x.first h (log i k) v) (subst (λ (s : Step). fits c.shape.fields x.first h (log i k) s ≡ true) is (fit q c world es h p k x logged)))
      where
        own : ((v == h.own) && is_fresh c.shape.fields h.own (log i k)) ≡ true → name ≢ q.object
        own e same =
            let a = and_parts (v == h.own) (is_fresh c.shape.fields h.own (log i k)) e in
            let m = made_by_log c world es p.begins.run i h.own x.first (x.is_first logged) p.hands.exist.1 k within a.1 in
            let is_new : m.0 ≡ name = same_Some m.0 name (sym m.1 ∙ (ap (variable_of (heap k) i) (sym (eqb-true v h.own a.0)) ∙ to)) in
            new_other m.0 m.3 p.begins.first.0 (ap (object_of world) (is_new ∙ same) ∙ p.begins.first.1)

        next : f < 2 → ((v == h.next) && (has_read x.first h.queue h.seen 0 (log i k) && has_read x.first h.seen h.next 0 (log i k))) ≡ true → name ≢ q.object
        next one e =
            let a = and_parts (v == h.next) (has_read x.first h.queue h.seen 0 (log i k) && has_read x.first h.seen h.next 0 (log i k)) e in
            let b = and_parts (has_read x.first h.queue h.seen 0 (log i k)) (has_read x.first h.seen h.next 0 (log i k)) a.1 in
            let m : Follows q c world es k i (Some h.next) =
            kinds_by_log.follows q c world es i h.queue h.seen h.next 0 k (refers v (ap through is) (ap is_callers is ∙ below_two f one)) (omega arith) (read h.queue h.seen 0 p.hands.exist.0 p.hands.exist.2 p.hands.differ.1 b.0)
            (read h.seen h.next 0 p.hands.exist.2 p.hands.exist.4 p.hands.differ.3 b.1) in
            let is_it : m.new ≡ name = same_Some m.new name (sym m.gives ∙ (ap (variable_of (heap k) i) (sym (eqb-true v h.next a.0)) ∙ to)) in
            let node : q.is_node m.before ≡ true =
            ⊎_elim (λ (w : Was c world es k q.object 0 m.before). t.holds.members m.before (first_in m.before w)) (λ (w : Was c world es k q.object 1 m.before). t.holds.members m.before (t.memory.lasts m.before w)) m.found in
            in_queue name (subst (λ (z : Name). is_in (line q (puts q c world es k)) z ≡ true) is_it (behind_in (line q (puts q c world es k)) m.before m.new (t.memory.nexts m.before m.new node m.next)))

    -- a value that changes is the queue's own
    pub valued : (v : ℕ) → through x.event.step ≡ Some v → is_callers x.event.step ≡ false → (v == h.queue) ≡ true → (name : Name) → variable_of (heap k) i v ≡ Some name → q.is_node name ≡ false
    valued v e low of name to =
        let same : name ≡ q.object = same_Some name q.object (sym to ∙ (ap (variable_of (heap k) i) (eqb-true v h.queue of) ∙ queue_at v e low)) in
        ap q.is_node same ∙ p.begins.apart

    -- what is asked of an exchange of field f of the object of this name
    abbrev Asked : ℕ → Name → Option ℕ → Option ℕ → Type 0
    Asked f name y z = (f ≡ 0 → q.is_node name ≡ true → Links q c world es k i name y z) × (f ≡ 0 → name ≡ q.object → Advances q c world es k i y z) × (f ≡ 1 → name ≡ q.object → Follows q c world es k i z)

    linking : (v f : ℕ) (y z : Option ℕ) (name : Name) → through x.event.step ≡ Some v → (f < 2 → is_callers x.event.step ≡ false) → variable_of (heap k) i v ≡ Some name → (variable_of (heap k) i h.seen ≡ None) → IsLink h v f y z c.shape.fields x.first (log i k) → Asked f name y z
    linking v f y z name e small to none l =
        let zero_low = l.zero_field in
        let low : is_callers x.event.step ≡ false = small (omega (arith, zero_low)) in
        let tail : variable_of (heap k) i h.tail ≡ Some name = ap (variable_of (heap k) i) (sym l.at_tail) ∙ to in
        let was : Was c world es k q.object 1 name = kinds_by_log.last q c world es i h.queue h.tail k (refers v e low) (read h.queue h.tail 1 p.hands.exist.0 p.hands.exist.3 p.hands.differ.0 l.last) name tail in
        let m = made_by_log c world es p.begins.run i h.own x.first (x.is_first logged) p.hands.exist.1 k within l.fresh in
        let zero_field = l.zero_field in (
          λ g node.
              record {
                last = was;
                expects = ap (λ (o : Option ℕ). stored (heap k) i o) l.expects ∙ none;
                new = m.0;
                gives = ap (λ (o : Option ℕ). stored (heap k) i o) l.gives ∙ m.1;
                node = new_node m.0 m.3;
                own = m.2;
                unused =
                    or_from (is_same (Some q.dummy) (Some m.0)) (is_in (nodes_of (by_seat i (puts q c world es k))) m.0)
                    (false_from_ne_true (is_same (Some q.dummy) (Some m.0)) (λ w. new_other m.0 m.3 p.begins.there.0 (ap (object_of world) (sym (same_name q.dummy m.0 w)) ∙ p.begins.there.1)))
                    (unused q c world es h p i k within m.0 m.3);
              },
          λ g same. absurd (in_queue name (t.memory.lasts name was) same),
          λ g same. absurd (omega (arith, zero_field, g)),
        )

    advancing : (v f : ℕ) (y z : Option ℕ) (name : Name) → through x.event.step ≡ Some v → (f < 2 → is_callers x.event.step ≡ false) → variable_of (heap k) i v ≡ Some name → advances x.first h (log i k) v f y z ≡ true → Asked f name y z
    advancing v f y z name e small to a =
        let b = and_parts (v == h.queue) _ a in
        let d = and_parts (f == 0) _ b.1 in
        let g = and_parts (is_source y (Some h.seen)) _ d.1 in
        let j = and_parts (is_source z (Some h.next)) (has_read x.first h.seen h.next 0 (log i k)) g.1 in
        let zero_field : f ≡ 0 = eqb-true f 0 d.0 in
        let low : is_callers x.event.step ≡ false = small (omega (arith, zero_field)) in
        let name_is : name ≡ q.object = same_Some name q.object (sym to ∙ (ap (variable_of (heap k) i) (eqb-true v h.queue b.0) ∙ queue_at v e low)) in
        let r : Advances q c world es k i (Some h.seen) (Some h.next) =
        kinds_by_log.advances q c world es i h.queue h.seen h.next k (refers v e low) (read h.seen h.next 0 p.hands.exist.2 p.hands.exist.4 p.hands.differ.3 j.1) in (
          λ w node. absurd (no_queue name node name_is),
          λ w same. subst (λ (o : Option ℕ). Advances q c world es k i o z) (sym (source_is y (Some h.seen) g.0)) (subst (λ (o : Option ℕ). Advances q c world es k i (Some h.seen) o) (sym (source_is z (Some h.next) j.0)) r),
          λ w same. absurd (omega (arith, zero_field, w)),
        )

    following : (v f : ℕ) (y z : Option ℕ) (name : Name) → through x.event.step ≡ Some v → (f < 2 → is_callers x.event.step ≡ false) → follows x.first h (log i k) v f z ≡ true → Asked f name y z
    following v f y z name e small a =
        let b = and_parts (v == h.queue) _ a in
        let d = and_parts (f == 1) (follows_seen x.first h (log i k) z || (follows_next x.first h (log i k) z || follows_own x.first h (log i k) z)) b.1 in
        let one_field : f ≡ 1 = eqb-true f 1 d.0 in (
          λ w node. absurd (omega (arith, one_field, w)),
          λ w same. absurd (omega (arith, one_field, w)),
          λ w same.
              ⊎_elim (seen (small (omega (arith, one_field))))
              (λ (u : (follows_next x.first h (log i k) z || follows_own x.first h (log i k) z) ≡ true). ⊎_elim (next (small (omega (arith, one_field)))) (own (small (omega (arith, one_field)))) (or_cases (follows_next x.first h (log i k) z) (follows_own x.first h (log i k) z) u))
              (or_cases (follows_seen x.first h (log i k) z) (follows_next x.first h (log i k) z || follows_own x.first h (log i k) z) d.1),
        )
      where
        goes_to : (u : ℕ) → z ≡ Some u → Follows q c world es k i (Some u) → Follows q c world es k i z
        goes_to u is r = subst (λ (o : Option ℕ). Follows q c world es k i o) (sym is) r

        seen : is_callers x.event.step ≡ false → follows_seen x.first h (log i k) z ≡ true → Follows q c world es k i z
        seen low u =
            let a = and_parts (is_source z (Some h.seen)) _ u in
            let b = and_parts (has_read x.first h.queue h.tail 1 (log i k)) (has_read x.first h.tail h.seen 0 (log i k)) a.1 in
            goes_to h.seen (source_is z (Some h.seen) a.0)
            (kinds_by_log.follows q c world es i h.queue h.tail h.seen 1 k (refers v e low) (omega arith) (read h.queue h.tail 1 p.hands.exist.0 p.hands.exist.3 p.hands.differ.0 b.0)
            (read h.tail h.seen 0 p.hands.exist.3 p.hands.exist.2 p.hands.differ.2 b.1))

        next : is_callers x.event.step ≡ false → follows_next x.first h (log i k) z ≡ true → Follows q c world es k i z
        next low u =
            let a = and_parts (is_source z (Some h.next)) _ u in
            let b = and_parts (has_read x.first h.queue h.seen 0 (log i k)) (has_read x.first h.seen h.next 0 (log i k)) a.1 in
            goes_to h.next (source_is z (Some h.next) a.0)
            (kinds_by_log.follows q c world es i h.queue h.seen h.next 0 k (refers v e low) (omega arith) (read h.queue h.seen 0 p.hands.exist.0 p.hands.exist.2 p.hands.differ.1 b.0)
            (read h.seen h.next 0 p.hands.exist.2 p.hands.exist.4 p.hands.differ.3 b.1))

        own : is_callers x.event.step ≡ false → follows_own x.first h (log i k) z ≡ true → Follows q c world es k i z
        own low u =
            let a = and_parts (is_source z (Some h.own)) _ u in
            let b = and_parts (has_read x.first h.queue h.tail 1 (log i k)) (is_linked h false (log i k)) a.1 in
            let l = linked q c world es h p k within i b.1 in
            let was : Was c world es k q.object 1 l.0 = kinds_by_log.last q c world es i h.queue h.tail k (refers v e low) (read h.queue h.tail 1 p.hands.exist.0 p.hands.exist.3 p.hands.differ.0 b.0) l.0 l.2 in
            goes_to h.own (source_is z (Some h.own) a.0) (record { before = l.0; new = l.1; found = inr was; gives = l.3; next = l.4 })

    pub exchanging : (v f : ℕ) (y z : Option ℕ) → x.event.step ≡ ExchangeField v f y z → (name : Name) → variable_of (heap k) i v ≡ Some name → Asked f name y z
    exchanging v f y z is name to =
        ⊎_elim
        (λ (u : nat_le 2 f ≡ true). let low = leb-true 2 f u in (λ e. absurd (omega (arith, low, e)), λ e. absurd (omega (arith, low, e)), λ e. absurd (omega (arith, low, e))))
        (λ (u : (links c.shape.fields x.first h (log i k) v f y z || (advances x.first h (log i k) v f y z || follows x.first h (log i k) v f z)) ≡ true).
        ⊎_elim
        (λ (l : links c.shape.fields x.first h (log i k) v f y z ≡ true).
        let parts : IsLink h v f y z c.shape.fields x.first (log i k) = link_parts h v f y z c.shape.fields x.first (log i k) l in
        linking v f y z name (ap through is) (λ l. ap is_callers is ∙ below_two f l) to (nil q c world es h p k x logged mu parts.saw) parts)
        (λ (l : (advances x.first h (log i k) v f y z || follows x.first h (log i k) v f z) ≡ true).
        ⊎_elim (advancing v f y z name (ap through is) (λ t. ap is_callers is ∙ below_two f t) to) (following v f y z name (ap through is) (λ t. ap is_callers is ∙ below_two f t)) (or_cases (advances x.first h (log i k) v f y z) (follows x.first h (log i k) v f z) l))
        (or_cases (links c.shape.fields x.first h (log i k) v f y z) (advances x.first h (log i k) v f y z || follows x.first h (log i k) v f z) u))
        (or_cases (nat_le 2 f) (links c.shape.fields x.first h (log i k) v f y z || (advances x.first h (log i k) v f y z || follows x.first h (log i k) v f z))
        (subst (λ (s : Step). fits c.shape.fields x.first h (log i k) s ≡ true) is (fit q c world es h p k x logged)))
      where
        mu : Mutates (core k) x.event.seat x.seat
        mu = (compares (core k) x.event.seat x.seat v f y z (heap k) (subst (λ (s : Step). Taken (core k) x.event.seat x.seat s) is x.act) x.agrees).mutator
