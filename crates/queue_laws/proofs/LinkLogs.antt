-- A node that a seat put behind another is behind it, as long as the seat's log says so.
use Rattle.std.proofs.Common.{ℕ, ◌≡◌, ◌≢◌, ◌≤◌, ◌==◌, ◌||◌, zero, suc, List, take, length, arith, refl, sym, ap, ◌∙◌, subst, Bool, true, false, Option, None, Some, eqb-true, ⊎_elim}
use Rattle.std.specs.Prelude.{if◌then◌else◌, nat_le}
use Rattle.std.proofs.lemmas.Bool.{and_parts, cases_eq, false≢true, leb-true, or_cases}
use Rattle.std.proofs.lemmas.List.{get_or-set_same}
use Rattle.plain_heap.specs.Paths.{Name}
use Rattle.mark_core.specs.Layout.{words_of}
use Rattle.mark_core.specs.Steps.{Core, run_of}
use Rattle.mark_core.specs.Steps.MutatorSteps.{variable_or_nil}
use Rattle.mark_core.specs.declared.kinds.Event.{Event}
use Rattle.mark_core.specs.declared.kinds.Step.{Step}
use Rattle.mark_core.specs.declared.kinds.Step.TheVariants.{ExchangeField}
use Rattle.mark_core.specs.declared.seat.SeatState.{SeatState}
use Rattle.mark_core.proofs.Blocks.BlocksStopped.{Taken}
use Rattle.gc_table.specs.AgreementLaws.{FindsReference, found_of}
use Rattle.gc_table.specs.Entries.{is_logged}
use Rattle.gc_table.specs.Lending.{leaves_variable}
use Rattle.gc_table.specs.Past.{adds, entries_of, log_from, word_told}
use Rattle.gc_table.specs.RunWorlds.{World, is_same, object_of, own_section, reference_of, referred, stored, variable_of, with_reference, world_by}
use Rattle.gc_table.specs.declared.view.Entry.{Entry}
use Rattle.gc_table.proofs.Counted.{other_adds, own_adds}
use Rattle.gc_table.proofs.Exchanges.{Compares, compares}
use Rattle.gc_table.proofs.Winning.{finds-reference}
use Rattle.heap_laws.specs.Pairs.{is_source}
use Rattle.heap_laws.proofs.PairLogs.{source_is}
use Rattle.heap_laws.proofs.SplitLogs.{split_log}
use Rattle.queue_laws.specs.Orders.{Was}
use Rattle.queue_laws.specs.QueueLogs.{FitsQueue, Hands, advances, fits, follows, has_read, is_fresh, is_link, is_linked, links, saw_nil}
use Rattle.queue_laws.specs.Queues.{Queue, heap_at}
use Rattle.queue_laws.proofs.FitSteps.{At, at, entry_linked, fit, kept, linked_join, nil}
use Rattle.queue_laws.proofs.KindLogs.{made_by_log}

-- an exchange that links, of all that fit
pub linking : (fields : ℕ) (s : SeatState) (h : Hands) (log : List Entry) (v f : ℕ) (x y : Option ℕ) → v ≡ h.tail → f ≡ 0 → h.queue ≢ h.tail → fits fields s h log (ExchangeField v f x y) ≡ true → links fields s h log v f x y ≡ true
linking fields s h log v f x y at_tail zero_field differ e =
    ⊎_elim
    (λ (t : nat_le 2 f ≡ true). absurd (let low = leb-true 2 f t in omega (arith, low, zero_field)))
    (λ (t : (links fields s h log v f x y || (advances s h log v f x y || follows s h log v f y)) ≡ true).
    ⊎_elim
    (λ (u : links fields s h log v f x y ≡ true). u)
    (λ (u : (advances s h log v f x y || follows s h log v f y) ≡ true). absurd (differ (sym (queue_is u) ∙ at_tail)))
    (or_cases (links fields s h log v f x y) (advances s h log v f x y || follows s h log v f y) t))
    (or_cases (nat_le 2 f) (links fields s h log v f x y || (advances s h log v f x y || follows s h log v f y)) e)
  where
    queue_is : (advances s h log v f x y || follows s h log v f y) ≡ true → v ≡ h.queue
    queue_is u =
        ⊎_elim
        (λ (t : advances s h log v f x y ≡ true). eqb-true v h.queue (and_parts (v == h.queue) _ t).0)
        (λ (t : follows s h log v f y ≡ true). eqb-true v h.queue (and_parts (v == h.queue) _ t).0)
        (or_cases (advances s h log v f x y) (follows s h log v f y) u)

-- what a link is
pub record IsLink (h : Hands) (v f : ℕ) (x y : Option ℕ) (fields : ℕ) (s : SeatState) (log : List Entry) : Type 0 where
  pub at_tail : v ≡ h.tail
  pub zero_field : f ≡ 0
  pub expects : x ≡ Some h.seen
  pub gives : y ≡ Some h.own
  pub last : has_read s h.queue h.tail 1 log ≡ true
  pub saw : saw_nil s h log ≡ true
  pub fresh : is_fresh fields h.own log ≡ true

pub link_parts : (h : Hands) (v f : ℕ) (x y : Option ℕ) (fields : ℕ) (s : SeatState) (log : List Entry) → links fields s h log v f x y ≡ true → IsLink h v f x y fields s log
link_parts h v f x y fields s log e =
    let a = and_parts (v == h.tail) _ e in
    let b = and_parts (f == 0) _ a.1 in
    let d = and_parts (is_source x (Some h.seen)) _ b.1 in
    let g = and_parts (is_source y (Some h.own)) _ d.1 in
    let i = and_parts (has_read s h.queue h.tail 1 log) _ g.1 in
    let j = and_parts (saw_nil s h log) (is_fresh fields h.own log) i.1 in
    record {
      at_tail = eqb-true v h.tail a.0;
      zero_field = eqb-true f 0 b.0;
      expects = source_is x (Some h.seen) d.0;
      gives = source_is y (Some h.own) g.0;
      last = i.0;
      saw = j.0;
      fresh = j.1;
    }

module _ (q : Queue) (c : Core) (world : World) (es : List Event) (h : Hands) (p : FitsQueue q c world es h) where
  abbrev core : ℕ → Core
  core k = run_of (take k es) c

  abbrev heap : ℕ → World
  heap k = heap_at c world es k

  abbrev log : ℕ → ℕ → List Entry
  log i k = log_from i c (take k es)

  -- the own node of seat i is behind the last
  abbrev Linked : ℕ → ℕ → Type 0
  Linked i k = (last : Name) × (own : Name) × (variable_of (heap k) i h.tail ≡ Some last) × (variable_of (heap k) i h.own ≡ Some own) × Was c world es k last 0 own

  module _ (k : ℕ) (x : At q c world es h p k) where
    abbrev i : ℕ
    i = x.event.seat

    -- it was, and both variables are as they were
    still : (j : ℕ) → (j ≡ x.event.seat → leaves_variable h.tail x.event.step ≡ true) → (j ≡ x.event.seat → leaves_variable h.own x.event.step ≡ true) → Linked j k → Linked j (suc k)
    still j tail own l =
        let low = l.4.1 in
        (l.0, l.1, kept q c world es h p k x j h.tail p.hands.exist.3 tail ∙ l.2, kept q c world es h p k x j h.own p.hands.exist.1 own ∙ l.3, (l.4.0, omega (arith, low), l.4.2))

    -- the event puts it there
    comes : (v f : ℕ) (y z : Option ℕ) → x.event.step ≡ ExchangeField v f y z → is_link h (ExchangeField v f y z) (word_told (core k) x.seat (ExchangeField v f y z)) ≡ true → Linked i (suc k)
    comes v f y z is link =
        let a = and_parts (v == h.tail) _ link in
        let b = and_parts (f == 0) _ a.1 in
        let d = and_parts (is_source z (Some h.own)) (word == 0) b.1 in
        let fitting = subst (λ (s : Step). fits c.shape.fields x.first h (log i k) s ≡ true) is (fit q c world es h p k x (ap is_logged is)) in
        let l : IsLink h v f y z c.shape.fields x.first (log i k) =
        link_parts h v f y z c.shape.fields x.first (log i k) (linking c.shape.fields x.first h (log i k) v f y z (eqb-true v h.tail a.0) (eqb-true f 0 b.0) p.hands.differ.0 fitting) in
        let below = x.below in
        let fresh = made_by_log c world es p.begins.run i h.own x.first (x.is_first (ap is_logged is)) p.hands.exist.1 k (omega (arith, below)) l.fresh in
        let none : word ≡ 0 = eqb-true word 0 d.1 in
        let expected : stored (heap k) (own_section x.seat) y ≡ None =
        ap (λ (n : ℕ). stored (heap k) n y) r.mutator.own ∙ (ap (stored (heap k) i) l.expects ∙ nil q c world es h p k x (ap is_logged is) r.mutator l.saw) in
        let given : stored (heap k) (own_section x.seat) z ≡ Some fresh.0 =
        ap (λ (n : ℕ). stored (heap k) n z) r.mutator.own ∙ (ap (stored (heap k) i) l.gives ∙ fresh.1) in
        let found : reference_of finds.object f ≡ None = sym finds.found ∙ ap (referred (words_of (core k).shape (core k).words).identities) none in
        let won : (word == variable_or_nil x.seat y) ≡ true =
        finds.won ∙ (ap (λ (o : Option Name). is_same o (stored (heap k) (own_section x.seat) y)) found ∙ ap (λ (o : Option Name). is_same None o) expected) in
        let after : object_of (heap (suc k)) finds.name ≡ Some (with_reference f (stored (heap k) (own_section x.seat) z) finds.object) =
        ap (λ (w : World). object_of w finds.name) x.after
        ∙ (ap (λ (s : Step). object_of (world_by (core k).shape (words_of (core k).shape (core k).words) x.seat s (heap k)) finds.name) is
        ∙ (finds.after ∙ ap (λ (t : Bool). Some (if t then with_reference f (stored (heap k) (own_section x.seat) z) finds.object else finds.object)) won)) in
        let points : reference_of (with_reference f (stored (heap k) (own_section x.seat) z) finds.object) 0 ≡ Some fresh.0 =
        ap (reference_of (with_reference f (stored (heap k) (own_section x.seat) z) finds.object)) (sym l.zero_field) ∙ (get_or-set_same finds.object.refs f (stored (heap k) (own_section x.seat) z) None finds.exists ∙ given) in
        let tail_now : variable_of (heap k) i h.tail ≡ Some finds.name =
        ap (variable_of (heap k) i) (sym l.at_tail) ∙ (ap (λ (n : ℕ). variable_of (heap k) n v) (sym r.mutator.own) ∙ finds.variable) in (
          finds.name,
          fresh.0,
          kept q c world es h p k x i h.tail p.hands.exist.3 (λ same. ap (leaves_variable h.tail) is) ∙ tail_now,
          kept q c world es h p k x i h.own p.hands.exist.1 (λ same. ap (leaves_variable h.own) is) ∙ fresh.1,
          (suc k, omega arith, (with_reference f (stored (heap k) (own_section x.seat) z) finds.object, after, points)),
        )
      where
        act : Taken (core k) x.event.seat x.seat (ExchangeField v f y z)
        act = subst (λ (s : Step). Taken (core k) x.event.seat x.seat s) is x.act

        r : Compares (core k) x.event.seat x.seat v f y z (heap k)
        r = compares (core k) x.event.seat x.seat v f y z (heap k) act x.agrees

        word : ℕ
        word = word_told (core k) x.seat (ExchangeField v f y z)

        finds : FindsReference (core k) (heap k) x.seat v f y z (found_of (core k) (Some x.seat) (ExchangeField v f y z))
        finds = finds-reference (core k) x.event.seat x.seat v f y z (heap k) act x.agrees

    by_link : (a : Step) → x.event.step ≡ a → is_link h a (word_told (core k) x.seat a) ≡ true → Linked i (suc k)
    by_link (ExchangeField v f y z) is link = comes v f y z is link
    by_link a is link = absurd (false≢true link)

    next : (j : ℕ) → (is_linked h false (log j k) ≡ true → Linked j k) → is_linked h false (log j (suc k)) ≡ true → Linked j (suc k)
    next j before e =
        ⊎_elim
        (λ (same : j ≡ x.event.seat).
        let entries : adds j (core k) x.event ≡ entries_of (core k) (Some x.seat) x.event.step = ap (λ (n : ℕ). adds n (core k) x.event) same ∙ own_adds (core k) x.event x.seat x.act.got in
        let parts = entry_linked h (core k) x.seat x.event.step (is_linked h false (log j k)) (subst (λ (l : List Entry). is_linked h (is_linked h false (log j k)) l ≡ true) entries more) in
        ⊎_elim
        (λ (old : is_linked h false (log j k) ≡ true). still j (λ z. parts.0) (λ z. parts.1) (before old))
        (λ (new : is_link h x.event.step (word_told (core k) x.seat x.event.step) ≡ true). subst (λ (n : ℕ). Linked n (suc k)) (sym same) (by_link x.event.step refl new))
        parts.2)
        (λ (d : j ≢ x.event.seat).
        still j (λ z. absurd (d z)) (λ z. absurd (d z)) (before (subst (λ (l : List Entry). is_linked h (is_linked h false (log j k)) l ≡ true) (other_adds j (core k) x.event d) more)))
        (cases_eq j x.event.seat)
      where
        more : is_linked h (is_linked h false (log j k)) (adds j (core k) x.event) ≡ true
        more =
            sym (linked_join h false (log j k) (adds j (core k) x.event))
            ∙ (ap (is_linked h false) (sym (split_log j es c p.begins.run.allowed k x.event x.there).more) ∙ e)

  pub linked : (k : ℕ) → k ≤ length es → (j : ℕ) → is_linked h false (log j k) ≡ true → Linked j k
  linked zero l j e = absurd (false≢true e)
  linked (suc k) l j e = next k (at q c world es h p k (omega (arith, l))) j (λ t. linked k (omega (arith, l)) j t) e
