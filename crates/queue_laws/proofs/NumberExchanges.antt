-- What an exchange puts into a queue or takes out has the number that the log of its seat tells.
use Rattle.std.proofs.Common.{ℕ, ◌≡◌, ◌⊎◌, ◌<◌, ◌≤◌, ◌==◌, ◌&&◌, List, [], ◌∷◌, ◌++◌, take, length, arith, refl, sym, ap, ◌∙◌, subst, Bool, true, false, Option, None, Some, eq-eqb, eqb-true, ⊎_elim}
use Rattle.std.specs.Prelude.{if◌then◌else◌, nat_le, slice_get, slice_index}
use Rattle.std.proofs.lemmas.Bool.{and_from, and_parts, false_from_ne_true, leb-true, true≢false}
use Rattle.std.proofs.lemmas.Option.{same_Some}
use Rattle.plain_heap.specs.Paths.{Name}
use Rattle.mark_core.specs.Steps.{Core, run_of}
use Rattle.mark_core.specs.Steps.MutatorSteps.{variable_or_nil}
use Rattle.mark_core.specs.declared.kinds.Event.{Event}
use Rattle.mark_core.specs.declared.kinds.Step.{Step}
use Rattle.mark_core.specs.declared.kinds.Step.TheVariants.{ExchangeField, Join, Split}
use Rattle.mark_core.specs.declared.seat.SeatState.{SeatState}
use Rattle.mark_core.proofs.Blocks.BlocksStopped.{Taken}
use Rattle.gc_table.specs.AgreementLaws.{FindsReference, HasValue, found_of}
use Rattle.gc_table.specs.Entries.{is_logged}
use Rattle.gc_table.specs.Past.{entries_of, log_from, word_told}
use Rattle.gc_table.specs.RunWorlds.{World, WorldObject, followed, is_same, object_of, own_section, reference_of, stored, variable_of}
use Rattle.gc_table.specs.declared.view.Entry.{Entry}
use Rattle.gc_table.proofs.Exchanges.{Compares, compares}
use Rattle.gc_table.proofs.Forgetting.{same-is}
use Rattle.gc_table.proofs.Winning.{finds-reference}
use Rattle.heap_laws.specs.Labels.{field_of}
use Rattle.heap_laws.specs.Named.{through}
use Rattle.heap_laws.specs.Pairs.{is_source}
use Rattle.heap_laws.proofs.PairLogs.{source_is}
use Rattle.queue_laws.specs.Kinds.{IsRead, Refers}
use Rattle.queue_laws.specs.NumberLogs.{Telling, is_advance, puts_told, takes_told, telling_at, tellings}
use Rattle.queue_laws.specs.Orders.{Advances, KeepsQueue, Was}
use Rattle.queue_laws.specs.QueueLogs.{FitsQueue, Hands, advances, fits, is_callers, is_link, links}
use Rattle.queue_laws.specs.Queues.{Queue, heap_at, is_node_at, item_of, put_by, puts, taken_by, takes, value_of, wins}
use Rattle.queue_laws.specs.Reads.{starting}
use Rattle.queue_laws.specs.TakenNumbers.{AreNumbers}
use Rattle.queue_laws.proofs.Chains.{behind_in, get_in, is_itself, same_name}
use Rattle.queue_laws.proofs.FitSteps.{At, fit}
use Rattle.queue_laws.proofs.Holds.{line}
use Rattle.queue_laws.proofs.KindLogs.{kinds_by_log, known-at}
use Rattle.queue_laws.proofs.LinkLogs.{IsLink, link_parts}
use Rattle.queue_laws.proofs.LogQueues as whole
use Rattle.queue_laws.proofs.Moves.{tested}
use Rattle.queue_laws.proofs.News.{zero_kinds}
use Rattle.queue_laws.proofs.NumberLogs.{next_is, own_is, seen_is}
use Rattle.queue_laws.proofs.NumberRuns.{KeepsValues, number_at}
use Rattle.queue_laws.proofs.NodeValues.{values_kept}
use Rattle.queue_laws.proofs.Statuses.{Status}

module _ (q : Queue) (c : Core) (world : World) (es : List Event) (h : Hands) (p : FitsQueue q c world es h) where
  abbrev core : ℕ → Core
  core k = run_of (take k es) c

  abbrev heap : ℕ → World
  heap k = heap_at c world es k

  abbrev log : ℕ → ℕ → List Entry
  log i k = log_from i c (take k es)

  abbrev pub told : ℕ → SeatState → ℕ → Telling
  told i s k = tellings c.shape.fields h (telling_at h s) (log i k)

  keeps_values : KeepsValues q c world es
  keeps_values = values_kept q c world es h p

  module _ (k : ℕ) (x : At q c world es h p k) (t : Status q c world es p.begins k) (s : SeatState) (first : slice_get c.seats x.event.seat ≡ Some s) where
    abbrev i : ℕ
    i = x.event.seat

    within : k ≤ length es
    within = let below = x.below in omega (arith, below)

    -- the node in variable o has the number that is told
    valued : (o : ℕ) → o < 32 → (m : Option ℕ) (name : Name) → variable_of (heap k) i o ≡ Some name → q.is_node name ≡ true
        → ((n : ℕ) → m ≡ Some n → (new : Name) × (variable_of (heap k) i o ≡ Some new) × (q.is_node new ≡ true → HasValue (heap k) new n)) → AreNumbers (m ∷ []) (item_of (heap k) i (Some name))
    valued o low None name to node tells = tt
    valued o low (Some n) name to node tells =
        let r = tells n refl in
        let same : r.0 ≡ name = same_Some r.0 name (sym r.1 ∙ to) in
        let v : HasValue (heap k) name n = subst (λ (z : Name). HasValue (heap k) z n) same (r.2 (ap q.is_node same ∙ node)) in
        (ap value_of v.1 ∙ v.2, tt)

    own_valued : (n : ℕ) → (told i s k).own.number ≡ Some n → (new : Name) × (variable_of (heap k) i h.own ≡ Some new) × (q.is_node new ≡ true → HasValue (heap k) new n)
    own_valued n e = number_at q c world es p.begins.run keeps_values i h.own s first p.hands.exist.1 k within n (sym (ap (λ z. z.number) (own_is c.shape.fields h (telling_at h s) (log i k))) ∙ e)

    next_valued : (n : ℕ) → (told i s k).next.number ≡ Some n → (new : Name) × (variable_of (heap k) i h.next ≡ Some new) × (q.is_node new ≡ true → HasValue (heap k) new n)
    next_valued n e = number_at q c world es p.begins.run keeps_values i h.next s first p.hands.exist.4 k within n (sym (ap (λ z. z.number) (next_is c.shape.fields h (telling_at h s) (log i k))) ∙ e)

    -- an exchange of a field
    module _ (v f : ℕ) (y z : Option ℕ) (is : x.event.step ≡ ExchangeField v f y z) where
      act : Taken (core k) i x.seat (ExchangeField v f y z)
      act = subst (λ (a : Step). Taken (core k) i x.seat a) is x.act

      r : Compares (core k) i x.seat v f y z (heap k)
      r = compares (core k) i x.seat v f y z (heap k) act x.agrees

      finds : FindsReference (core k) (heap k) x.seat v f y z (found_of (core k) (Some x.seat) (ExchangeField v f y z))
      finds = finds-reference (core k) i x.seat v f y z (heap k) act x.agrees

      abbrev w : ℕ
      w = own_section x.seat

      abbrev word : ℕ
      word = word_told (core k) x.seat (ExchangeField v f y z)

      abbrev won : Bool
      won = wins (heap k) w v f y

      logged : is_logged x.event.step ≡ true
      logged = ap is_logged is

      kinds : f ≡ 0 → (links c.shape.fields x.first h (log i k) v f y z ≡ true) ⊎ (advances x.first h (log i k) v f y z ≡ true)
      kinds zero_field = zero_kinds c.shape.fields x.first h (log i k) v f y z zero_field (subst (λ (a : Step). fits c.shape.fields x.first h (log i k) a ≡ true) is (fit q c world es h p k x logged))

      own_at : (u : ℕ) → variable_of (heap k) w u ≡ variable_of (heap k) i u
      own_at u = ap (λ (n : ℕ). variable_of (heap k) n u) r.mutator.own

      queue_at : f ≡ 0 → variable_of (heap k) i h.queue ≡ Some q.object
      queue_at zero_field = p.names k x.event v x.there (ap through is) (ap is_callers is ∙ false_from_ne_true (nat_le 2 f) (λ a. let two = leb-true 2 f a in omega (arith, two, zero_field)))

      link_of : links c.shape.fields x.first h (log i k) v f y z ≡ true → IsLink h v f y z c.shape.fields x.first (log i k)
      link_of e = link_parts h v f y z c.shape.fields x.first (log i k) e

      -- whoever links does so behind a node
      link_node : links c.shape.fields x.first h (log i k) v f y z ≡ true → q.is_node finds.name ≡ true
      link_node e =
          let l = link_of e in
          let refers : Refers q c world es i h.queue k = record { run = p.begins.run; within = within; names = queue_at l.zero_field } in
          let read : IsRead c es i h.queue h.tail 1 k = record { seat = x.first; there = x.is_first logged; exists = (p.hands.exist.0, p.hands.exist.3); others = p.hands.differ.0; held = l.last } in
          let tail : variable_of (heap k) i h.tail ≡ Some finds.name = ap (variable_of (heap k) i) (sym l.at_tail) ∙ (sym (own_at v) ∙ finds.variable) in
          let was : Was c world es k q.object 1 finds.name = kinds_by_log.last q c world es i h.queue h.tail k refers read finds.name tail in
          t.holds.members finds.name (t.memory.lasts finds.name was)

      -- and whoever advances, in the queue's object
      advance_queue : f ≡ 0 → advances x.first h (log i k) v f y z ≡ true → finds.name ≡ q.object
      advance_queue zero_field e =
          let at_queue : v ≡ h.queue = eqb-true v h.queue (and_parts (v == h.queue) _ e).0 in
          same_Some finds.name q.object (sym finds.variable ∙ (own_at v ∙ (ap (variable_of (heap k) i) at_queue ∙ queue_at zero_field)))

      node_apart : (name : Name) → q.is_node name ≡ true → name ≡ q.object → ⊥
      node_apart name node same = true≢false (sym node ∙ (ap q.is_node same ∙ p.begins.apart))

      -- the exchange was won if it found what it expects
      won_is : won ≡ (word == variable_or_nil x.seat y)
      won_is =
          ap (λ (o : Option Name). is_same (field_of (heap k) o f) (stored (heap k) w y)) finds.variable
          ∙ (ap (λ (o : Option WorldObject). is_same (followed o f) (stored (heap k) w y)) finds.there ∙ sym finds.won)

      asked : KeepsQueue q c world es k w (ExchangeField v f y z)
      asked = subst (KeepsQueue q c world es k w) is ((whole.queue_by_log q c world es h p).keeps k x.event x.seat x.there x.act.got)

      -- what it puts in
      abbrev link : Bool
      link = is_link h (ExchangeField v f y z) word

      saw_word : links c.shape.fields x.first h (log i k) v f y z ≡ true → variable_or_nil x.seat y ≡ 0
      saw_word e =
          let l = link_of e in
          let seen = known-at c world es p.begins.run i h.seen h.tail 0 x.first (x.is_first logged) p.hands.exist.2 p.hands.exist.3 p.hands.differ.4 k within x.seat x.act.got x.act.live in
          ap (variable_or_nil x.seat) l.expects ∙ (seen ∙ eqb-true _ 0 l.saw)

      link_won : link ≡ true → (f ≡ 0) × (links c.shape.fields x.first h (log i k) v f y z ≡ true) × (won ≡ true)
      link_won e =
          let a = and_parts (v == h.tail) _ e in
          let b = and_parts (f == 0) _ a.1 in
          let d = and_parts (is_source z (Some h.own)) (word == 0) b.1 in
          let zero_field : f ≡ 0 = eqb-true f 0 b.0 in
          ⊎_elim
          (λ (l : links c.shape.fields x.first h (log i k) v f y z ≡ true). (zero_field, l, won_is ∙ (ap (λ (n : ℕ). word == n) (saw_word l) ∙ d.1)))
          (λ (g : advances x.first h (log i k) v f y z ≡ true). absurd (p.hands.differ.0 (sym (eqb-true v h.queue (and_parts (v == h.queue) _ g).0) ∙ eqb-true v h.tail a.0)))
          (kinds zero_field)

      won_link : f ≡ 0 → q.is_node finds.name ≡ true → won ≡ true → link ≡ true
      won_link zero_field node goes =
          ⊎_elim
          (λ (g : links c.shape.fields x.first h (log i k) v f y z ≡ true).
          let l = link_of g in
          and_from (v == h.tail) _ (eq-eqb v h.tail l.at_tail)
          (and_from (f == 0) _ (eq-eqb f 0 zero_field)
          (and_from (is_source z (Some h.own)) (word == 0) (ap (λ (o : Option ℕ). is_source o (Some h.own)) l.gives ∙ eq-eqb h.own h.own refl) (sym (ap (λ (n : ℕ). word == n) (saw_word g)) ∙ (sym won_is ∙ goes)))))
          (λ (g : advances x.first h (log i k) v f y z ≡ true). absurd (node_apart finds.name node (advance_queue zero_field g)))
          (kinds zero_field)

      put_test : (a b d : Bool) → (f == 0) ≡ a → q.is_node finds.name ≡ b → won ≡ d → put_by q (heap k) w (ExchangeField v f y z) ≡ (if (a && (b && d)) then stored (heap k) w z else None)
      put_test a b d g l o = ap (λ (e : Bool). if e then stored (heap k) w z else None) (tested (f == 0) (is_node_at q (variable_of (heap k) w v)) won a b d g (ap (is_node_at q) finds.variable ∙ l) o)

      put_item : (b : Bool) → link ≡ b → AreNumbers ((if b then (told i s k).own.number ∷ [] else []) ++ []) (item_of (heap k) i (put_by q (heap k) w (ExchangeField v f y z)))
      put_item true e =
          let g = link_won e in
          let l = link_of g.1 in
          let node = link_node g.1 in
          let is_new = (asked finds.name finds.variable g.2).0 g.0 node in
          let put : put_by q (heap k) w (ExchangeField v f y z) ≡ Some is_new.new = put_test true true true (eq-eqb f 0 g.0) node g.2 ∙ is_new.gives in
          let to : variable_of (heap k) i h.own ≡ Some is_new.new = sym (own_at h.own) ∙ (ap (stored (heap k) w) (sym l.gives) ∙ is_new.gives) in
          subst (λ (o : Option Name). AreNumbers ((told i s k).own.number ∷ []) (item_of (heap k) i o)) (sym put) (valued h.own p.hands.exist.1 (told i s k).own.number is_new.new to is_new.node own_valued)
      put_item false e = subst (λ (o : Option Name). AreNumbers [] (item_of (heap k) i o)) (sym (by_tests (f == 0) refl (q.is_node finds.name) refl won refl)) tt
        where
          by_tests : (a : Bool) → (f == 0) ≡ a → (b : Bool) → q.is_node finds.name ≡ b → (d : Bool) → won ≡ d → put_by q (heap k) w (ExchangeField v f y z) ≡ None
          by_tests false g b l d o = put_test false b d g l o
          by_tests true g false l d o = put_test true false d g l o
          by_tests true g true l false o = put_test true true false g l o
          by_tests true g true l true o = absurd (true≢false (sym (won_link (eqb-true f 0 g) l o) ∙ e))

      -- what it takes out
      abbrev advance : Bool
      advance = is_advance h (told i s k).seen (ExchangeField v f y z) word

      seen_word : (told i s k).seen ≡ slice_index x.seat.env h.seen
      seen_word =
          seen_is c.shape.fields h h.tail 0 (telling_at h s) (starting s h.seen) (log i k) refl
          ∙ sym (known-at c world es p.begins.run i h.seen h.tail 0 s first p.hands.exist.2 p.hands.exist.3 p.hands.differ.4 k within x.seat x.act.got x.act.live)

      -- the parts of an exchange that advances
      record IsAdvance : Type 0 where
        at_queue : v ≡ h.queue
        expects : y ≡ Some h.seen
        gives : z ≡ Some h.next

      advance_of : advances x.first h (log i k) v f y z ≡ true → IsAdvance
      advance_of e =
          let a = and_parts (v == h.queue) _ e in
          let b = and_parts (f == 0) _ a.1 in
          let d = and_parts (is_source y (Some h.seen)) _ b.1 in
          let g = and_parts (is_source z (Some h.next)) _ d.1 in
          record { at_queue = eqb-true v h.queue a.0; expects = source_is y (Some h.seen) d.0; gives = source_is z (Some h.next) g.0 }

      expected_word : (l : IsAdvance) → variable_or_nil x.seat y ≡ (told i s k).seen
      expected_word l = ap (variable_or_nil x.seat) l.expects ∙ sym seen_word

      advance_won : advance ≡ true → (f ≡ 0) × (advances x.first h (log i k) v f y z ≡ true) × (won ≡ true)
      advance_won e =
          let a = and_parts (is_source z (Some h.next)) _ e in
          let b = and_parts (f == 0) _ a.1 in
          let d = and_parts (v == h.queue) (word == (told i s k).seen) b.1 in
          let zero_field : f ≡ 0 = eqb-true f 0 b.0 in
          ⊎_elim
          (λ (g : links c.shape.fields x.first h (log i k) v f y z ≡ true). absurd (p.hands.differ.0 (sym (eqb-true v h.queue d.0) ∙ (link_of g).at_tail)))
          (λ (g : advances x.first h (log i k) v f y z ≡ true). (zero_field, g, won_is ∙ (ap (λ (n : ℕ). word == n) (expected_word (advance_of g)) ∙ d.1)))
          (kinds zero_field)

      won_advance : f ≡ 0 → finds.name ≡ q.object → won ≡ true → advance ≡ true
      won_advance zero_field same goes =
          ⊎_elim
          (λ (g : links c.shape.fields x.first h (log i k) v f y z ≡ true). absurd (node_apart finds.name (link_node g) same))
          (λ (g : advances x.first h (log i k) v f y z ≡ true).
          let l = advance_of g in
          and_from (is_source z (Some h.next)) _ (ap (λ (o : Option ℕ). is_source o (Some h.next)) l.gives ∙ eq-eqb h.next h.next refl)
          (and_from (f == 0) _ (eq-eqb f 0 zero_field)
          (and_from (v == h.queue) (word == (told i s k).seen) (eq-eqb v h.queue l.at_queue) (sym (ap (λ (n : ℕ). word == n) (expected_word l)) ∙ (sym won_is ∙ goes)))))
          (kinds zero_field)

      taken_test : (a b d : Bool) → (f == 0) ≡ a → is_same (Some finds.name) (Some q.object) ≡ b → won ≡ d → taken_by q (heap k) w (ExchangeField v f y z) ≡ (if (a && (b && d)) then stored (heap k) w z else None)
      taken_test a b d g l o =
          ap (λ (e : Bool). if e then stored (heap k) w z else None) (tested (f == 0) (is_same (variable_of (heap k) w v) (Some q.object)) won a b d g (ap (λ (u : Option Name). is_same u (Some q.object)) finds.variable ∙ l) o)

      -- what comes first then is a node
      first_node : f ≡ 0 → finds.name ≡ q.object → won ≡ true → (a : Advances q c world es k w y z) → q.is_node a.new ≡ true
      first_node zero_field same goes a =
          let head : finds.object ≡ t.holds.head = same_Some finds.object t.holds.head (sym finds.there ∙ (ap (object_of (heap k)) same ∙ t.holds.there)) in
          let field : reference_of finds.object f ≡ stored (heap k) w y = same-is (reference_of finds.object f) (stored (heap k) w y) (sym finds.won ∙ (sym won_is ∙ goes)) in
          let old : t.holds.node ≡ a.old =
          same_Some t.holds.node a.old (sym t.holds.first ∙ (ap (λ (o : WorldObject). reference_of o 0) (sym head) ∙ (ap (reference_of finds.object) (sym zero_field) ∙ (field ∙ a.expects)))) in
          let node : q.is_node a.old ≡ true = subst (λ (u : Name). q.is_node u ≡ true) old (t.holds.members t.holds.node (get_in (line q (puts q c world es k)) (length (takes q c world es k)) t.holds.node t.holds.is_at)) in
          t.holds.members a.new (behind_in (line q (puts q c world es k)) a.old a.new (t.memory.nexts a.old a.new node a.next))

      taken_item : (b : Bool) → advance ≡ b → AreNumbers ((if b then (told i s k).next.number ∷ [] else []) ++ []) (item_of (heap k) i (taken_by q (heap k) w (ExchangeField v f y z)))
      taken_item true e =
          let g = advance_won e in
          let l = advance_of g.1 in
          let same = advance_queue g.0 g.1 in
          let a = (asked finds.name finds.variable g.2).1 g.0 same in
          let taken : taken_by q (heap k) w (ExchangeField v f y z) ≡ Some a.new = taken_test true true true (eq-eqb f 0 g.0) (is_itself finds.name q.object same) g.2 ∙ a.gives in
          let to : variable_of (heap k) i h.next ≡ Some a.new = sym (own_at h.next) ∙ (ap (stored (heap k) w) (sym l.gives) ∙ a.gives) in
          subst (λ (o : Option Name). AreNumbers ((told i s k).next.number ∷ []) (item_of (heap k) i o)) (sym taken) (valued h.next p.hands.exist.4 (told i s k).next.number a.new to (first_node g.0 same g.2 a) next_valued)
      taken_item false e = subst (λ (o : Option Name). AreNumbers [] (item_of (heap k) i o)) (sym (by_tests (f == 0) refl (is_same (Some finds.name) (Some q.object)) refl won refl)) tt
        where
          by_tests : (a : Bool) → (f == 0) ≡ a → (b : Bool) → is_same (Some finds.name) (Some q.object) ≡ b → (d : Bool) → won ≡ d → taken_by q (heap k) w (ExchangeField v f y z) ≡ None
          by_tests false g b l d o = taken_test false b d g l o
          by_tests true g false l d o = taken_test true false d g l o
          by_tests true g true l false o = taken_test true true false g l o
          by_tests true g true l true o = absurd (true≢false (sym (won_advance (eqb-true f 0 g) (same_name finds.name q.object l) o) ∙ e))

    -- whatever the step
    pub put_any : (a : Step) → x.event.step ≡ a → AreNumbers (puts_told c.shape.fields h (told i s k) (entries_of (core k) (Some x.seat) a)) (item_of (heap k) i (put_by q (heap k) (own_section x.seat) a))
    put_any (ExchangeField v f y z) is = put_item v f y z is (is_link h (ExchangeField v f y z) (word_told (core k) x.seat (ExchangeField v f y z))) refl
    put_any Split is = tt
    put_any (Join other) is = tt
    put_any a is = tt

    pub taken_any : (a : Step) → x.event.step ≡ a → AreNumbers (takes_told c.shape.fields h (told i s k) (entries_of (core k) (Some x.seat) a)) (item_of (heap k) i (taken_by q (heap k) (own_section x.seat) a))
    taken_any (ExchangeField v f y z) is = taken_item v f y z is (is_advance h (told i s k).seen (ExchangeField v f y z) (word_told (core k) x.seat (ExchangeField v f y z))) refl
    taken_any Split is = tt
    taken_any (Join other) is = tt
    taken_any a is = tt
