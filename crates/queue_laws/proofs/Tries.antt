-- What an exchange of a field makes of a queue.
use Rattle.std.proofs.Common.{ℕ, ◌≡◌, ◌≢◌, ◌⊎◌, ◌<◌, ◌==◌, ◌&&◌, suc, List, [], ◌∷◌, ◌++◌, take, length, arith, refl, sym, ap, ◌∙◌, subst, Bool, true, false, Option, None, Some, eq-eqb, ne_eqb, inl, inr, ⊎_elim}
use Rattle.std.specs.Prelude.{if◌then◌else◌}
use Rattle.std.proofs.lemmas.Bool.{cases_eq, false_from_ne_true, ltb-true, or_from, or_parts, true≢false}
use Rattle.std.proofs.lemmas.List.{append-nil}
use Rattle.std.proofs.lemmas.Option.{same_Some}
use Rattle.plain_heap.specs.Paths.{Name}
use Rattle.mark_core.specs.Steps.{Core, run_of}
use Rattle.mark_core.specs.Steps.MutatorSteps.{in_variables}
use Rattle.mark_core.specs.declared.kinds.Event.{Event}
use Rattle.mark_core.specs.declared.kinds.Step.{Step}
use Rattle.mark_core.specs.declared.kinds.Step.TheVariants.{ExchangeField}
use Rattle.mark_core.specs.declared.seat.SeatState.{SeatState}
use Rattle.mark_core.proofs.Blocks.BlocksStopped.{Taken}
use Rattle.gc_table.specs.AgreementLaws.{FindsReference, IsCellFor, found_of, world_after}
use Rattle.gc_table.specs.RunWorlds.{World, WorldObject, followed, is_same, object_of, own_section, reference_of, stored, variable_of}
use Rattle.gc_table.proofs.Exchanges.{Compares, compares}
use Rattle.gc_table.proofs.Forgetting.{same-is}
use Rattle.gc_table.proofs.Reached.{along}
use Rattle.gc_table.proofs.Reading.{none-some}
use Rattle.gc_table.proofs.Winning.{finds-reference}
use Rattle.heap_laws.specs.Labels.{field_of}
use Rattle.queue_laws.specs.Orders.{Advances, Begins, Follows, KeepsQueue, Links, Was}
use Rattle.queue_laws.specs.Queues.{Item, Queue, behind, by_seat, heap_at, is_in, is_node_at, item_of, nodes_of, put_by, puts, taken_by, takes, value_of, wins}
use Rattle.queue_laws.proofs.Chains.{behind_in, get_in, is_itself, same_name}
use Rattle.queue_laws.proofs.Holds.{Becomes, Holds, advances, line, linked, links, moved, remains, stays}
use Rattle.queue_laws.proofs.Moves.{exchanged_next, hits, no_last, no_second, only_second, tested}
use Rattle.queue_laws.proofs.Happening.{Here, Memory}
use Rattle.queue_laws.proofs.Owners.{new_of_own}
use Rattle.queue_laws.proofs.Steps as steps

-- an object that has a cell is there
pub cell_there : (c : Core) (world : World) (name : Name) → (x : ℕ) × IsCellFor c world name x → (object : WorldObject) × (object_of world name ≡ Some object)
cell_there c world name (x, cell) = (cell.3.object, ap (object_of world) (sym cell.2) ∙ cell.3.there)

module _ (q : Queue) (c : Core) (world : World) (es : List Event) (h : Begins q c world es) (k : ℕ) (x : Here q c world es h k) (n : Holds q (heap_at c world es k) (puts q c world es k) (takes q c world es k)) (m : Memory q c world es h k) (v i : ℕ) (y z : Option ℕ) (is : x.event.step ≡ ExchangeField v i y z) where
  abbrev heap : ℕ → World
  heap j = heap_at c world es j

  abbrev core : ℕ → Core
  core j = run_of (take j es) c

  abbrev put : ℕ → List Item
  put j = puts q c world es j

  abbrev taken : ℕ → List Item
  taken j = takes q c world es j

  abbrev e : Event
  e = x.event

  abbrev s : SeatState
  s = x.seat

  abbrev w : ℕ
  w = own_section x.seat

  abbrev before : World
  before = heap k

  abbrev after : World
  after = world_after (core k) x.event (heap k)

  abbrev Result : Type 0
  Result = steps.Result q c world es h k x n

  keeps : KeepsQueue q c world es k w e.step
  keeps = steps.keeps q c world es h k x n

  put_by_is : (o : Option Name) → put_by q before w e.step ≡ o → put (suc k) ≡ put k ++ item_of before e.seat o
  put_by_is = steps.put_by_is q c world es h k x n

  taken_by_is : (o : Option Name) → taken_by q before w e.step ≡ o → taken (suc k) ≡ taken k ++ item_of before e.seat o
  taken_by_is = steps.taken_by_is q c world es h k x n

  result : (ps ts : List Item) → put (suc k) ≡ ps → taken (suc k) ≡ ts → Holds q after ps ts → Result
  result = steps.result q c world es h k x n

  resting : (last : Option Name → Option Name) → put_by q before w e.step ≡ None → taken_by q before w e.step ≡ None → Becomes q before after (stays q) (remains q) last
      → ((name : Name) → last (reference_of n.head 1) ≡ Some name → is_in (line q (put k)) name ≡ true) → Result
  resting = steps.resting q c world es h k x n

  made : (name : Name) (object : WorldObject) → object_of before name ≡ None → object_of after name ≡ Some object → reference_of object 0 ≡ None
  made = steps.made q c world es h k x n

  act : Taken (core k) e.seat s (ExchangeField v i y z)
  act = subst (λ (a : Step). Taken (core k) e.seat s a) is x.act

  finds : FindsReference (core k) before s v i y z (found_of (core k) (Some s) (ExchangeField v i y z))
  finds = finds-reference (core k) e.seat s v i y z before act x.agrees

  abbrev target : Name
  target = finds.name

  abbrev to : Option Name
  to = stored before w z

  abbrev won : Bool
  won = wins before w v i y

  put_test : (p a b : Bool) → (i == 0) ≡ p → q.is_node target ≡ a → won ≡ b → put_by q before w e.step ≡ (if (p && (a && b)) then to else None)
  put_test p a b f g r =
      ap (put_by q before w) is
      ∙ ap (λ (t : Bool). if t then to else None) (tested (i == 0) (is_node_at q (variable_of before w v)) won p a b f (ap (is_node_at q) finds.variable ∙ g) r)

  taken_test : (p a b : Bool) → (i == 0) ≡ p → is_same (Some target) (Some q.object) ≡ a → won ≡ b → taken_by q before w e.step ≡ (if (p && (a && b)) then to else None)
  taken_test p a b f g r =
      ap (taken_by q before w) is
      ∙ ap (λ (t : Bool). if t then to else None)
      (tested (i == 0) (is_same (variable_of before w v) (Some q.object)) won p a b f (ap (λ (o : Option Name). is_same o (Some q.object)) finds.variable ∙ g) r)

  hits_test : (name : Name) (f : ℕ) (p a b : Bool) → (f == i) ≡ p → is_same (Some target) (Some name) ≡ a → won ≡ b → (r : Option Name) → (if hits before w v i y name f then to else r) ≡ (if (p && (a && b)) then to else r)
  hits_test name f p a b g l o r =
      ap (λ (t : Bool). if t then to else r)
      (tested (f == i) (is_same (variable_of before w v) (Some name)) won p a b g (ap (λ (u : Option Name). is_same u (Some name)) finds.variable ∙ l) o)

  becomes : (link : Name → Option Name → Option Name) (first last : Option Name → Option Name)
      → ((name : Name) → q.is_node name ≡ true → (r : Option Name) → (if hits before w v i y name 0 then to else r) ≡ link name r)
      → ((r : Option Name) → (if hits before w v i y q.object 0 then to else r) ≡ first r) → ((r : Option Name) → (if hits before w v i y q.object 1 then to else r) ≡ last r) → Becomes q before after link first last
  becomes link first last on_nodes on_first on_last =
      record {
        nodes =
            λ name object node there.
            let r = exchanged_next (core k) e s v i y z before name object act x.agrees is there in
            (r.0, r.1, r.3 0 ∙ on_nodes name node (reference_of object 0), r.2);
        queue =
            λ object there.
            let r = exchanged_next (core k) e s v i y z before q.object object act x.agrees is there in
            (r.0, r.1, r.3 0 ∙ on_first (reference_of object 0), r.3 1 ∙ on_last (reference_of object 1));
        made = made;
      }

  -- a node isn't the queue's object
  apart : (a b : Name) → q.is_node a ≡ true → q.is_node b ≡ false → is_same (Some a) (Some b) ≡ false
  apart a b goes fails = false_from_ne_true (is_same (Some a) (Some b)) (λ t. true≢false (sym goes ∙ (ap q.is_node (same_name a b t) ∙ fails)))

  -- an exchange that is lost
  lost : won ≡ false → Result
  lost fails =
      resting (remains q)
      (put_test (i == 0) (q.is_node target) false refl refl fails ∙ ap (λ (t : Bool). if t then to else None) (no_last (i == 0) (q.is_node target)))
      (taken_test (i == 0) (is_same (Some target) (Some q.object)) false refl refl fails ∙ ap (λ (t : Bool). if t then to else None) (no_last (i == 0) (is_same (Some target) (Some q.object))))
      (becomes (stays q) (remains q) (remains q) (λ name node r. none name 0 r) (λ r. none q.object 0 r) (λ r. none q.object 1 r)) n.last
    where
      none : (name : Name) (f : ℕ) (r : Option Name) → (if hits before w v i y name f then to else r) ≡ r
      none name f r =
          hits_test name f (f == i) (is_same (Some target) (Some name)) false refl refl fails r ∙ ap (λ (t : Bool). if t then to else r) (no_last (f == i) (is_same (Some target) (Some name)))

  -- one of an object that is neither the queue's nor a node
  elsewhere : q.is_node target ≡ false → is_same (Some target) (Some q.object) ≡ false → Result
  elsewhere fails other =
      resting (remains q)
      (put_test (i == 0) false won refl fails refl ∙ ap (λ (t : Bool). if t then to else None) (no_second (i == 0) won))
      (taken_test (i == 0) false won refl other refl ∙ ap (λ (t : Bool). if t then to else None) (no_second (i == 0) won))
      (becomes (stays q) (remains q) (remains q) (λ name node r. none name 0 (swapped name node) r) (λ r. none q.object 0 other r) (λ r. none q.object 1 other r)) n.last
    where
      swapped : (name : Name) → q.is_node name ≡ true → is_same (Some target) (Some name) ≡ false
      swapped name node = false_from_ne_true (is_same (Some target) (Some name)) (λ t. true≢false (sym node ∙ (ap q.is_node (sym (same_name target name t)) ∙ fails)))

      none : (name : Name) (f : ℕ) → is_same (Some target) (Some name) ≡ false → (r : Option Name) → (if hits before w v i y name f then to else r) ≡ r
      none name f d r = hits_test name f (f == i) false won refl d refl r ∙ ap (λ (t : Bool). if t then to else r) (no_second (f == i) won)

  -- what is asked of one that is won
  asked : won ≡ true
      → (i ≡ 0 → q.is_node target ≡ true → Links q c world es k w target y z) × (i ≡ 0 → target ≡ q.object → Advances q c world es k w y z) × (i ≡ 1 → target ≡ q.object → Follows q c world es k w z)
  asked goes = subst (KeepsQueue q c world es k w) is keeps target finds.variable goes

  -- what it found is what it expected
  expected : won ≡ true → reference_of finds.object i ≡ stored before w y
  expected goes =
      ap (λ (o : Option WorldObject). followed o i) (sym finds.there)
      ∙ (ap (λ (o : Option Name). field_of before o i) (sym finds.variable) ∙ same-is (field_of before (variable_of before w v) i) (stored before w y) goes)

  -- what a variable refers to is there
  stored_there : (o : Option ℕ) (new : Name) → in_variables o ≡ true → stored before w o ≡ Some new → (object : WorldObject) × (object_of before new ≡ Some object)
  stored_there None new low e = absurd (none-some new e)
  stored_there (Some u) new low e =
      let r : Compares (core k) x.event.seat s v i y z before = compares (core k) x.event.seat s v i y z before act x.agrees in
      let inside : w < (core k).shape.sections = omega (arith, r.mutator.own, r.mutator.inside) in
      let sections = x.agrees.sections in
      let long = x.agrees.variables w inside in
      let below : u < 32 = ltb-true u 32 low in
      cell_there (core k) before new (along (core k) before new [] x.act.core x.agrees (w, u, omega (arith, inside, sections), omega (arith, below, long), e))

  linking : won ≡ true → i ≡ 0 → q.is_node target ≡ true → Result
  linking goes i0 node =
      let l : Links q c world es k w target y z = (asked goes).0 i0 node in
      let first_field : (i == 0) ≡ true = eq-eqb i 0 i0 in
      let zero_field : (0 == i) ≡ true = eq-eqb 0 i (sym i0) in
      let one_field : (1 == i) ≡ false = ne_eqb 1 i (λ t. omega (arith, t, i0)) in
      let r : Compares (core k) x.event.seat s v i y z before = compares (core k) x.event.seat s v i y z before act x.agrees in
      let new_at = stored_there z l.new r.new_exists l.gives in
      let parts = or_parts (is_same (Some q.dummy) (Some l.new)) (is_in (nodes_of (by_seat w (put k))) l.new) l.unused in
      let fresh : is_in (line q (put k)) l.new ≡ false =
      or_from (is_same (Some q.dummy) (Some l.new)) (is_in (nodes_of (put k)) l.new) parts.0 (new_of_own w (put k) l.new n.owned l.own parts.1) in
      let alone : behind (line q (put k)) target ≡ None =
      sym (n.chain target finds.object node finds.there) ∙ (ap (reference_of finds.object) (sym i0) ∙ (expected goes ∙ l.expects)) in
      result (put k ++ record { seat = e.seat; node = l.new; number = value_of (object_of before l.new) } ∷ []) (taken k)
      (put_by_is (Some l.new) (put_test true true true first_field node goes ∙ l.gives))
      (taken_by_is None (taken_test true false true first_field (apart target q.object node h.apart) goes) ∙ append-nil (taken k))
      (links q before after (put k) (taken k) n e.seat target l.new new_at.0
      (becomes (linked q target l.new) (remains q) (remains q)
      (λ name is_node r.
      hits_test name 0 true (is_same (Some target) (Some name)) true zero_field refl goes r
      ∙ (ap (λ (t : Bool). if t then to else r) (only_second (is_same (Some target) (Some name))) ∙ ap (λ (o : Option Name). if is_same (Some target) (Some name) then o else r) l.gives))
      (λ r. hits_test q.object 0 true false true zero_field (apart target q.object node h.apart) goes r)
      (λ r. hits_test q.object 1 false false true one_field (apart target q.object node h.apart) goes r))
      (m.lasts target l.last) alone l.node fresh (l.own ∙ r.mutator.own) new_at.1)

  advancing : won ≡ true → i ≡ 0 → target ≡ q.object → Result
  advancing goes i0 same =
      let a : Advances q c world es k w y z = (asked goes).1 i0 same in
      let first_field : (i == 0) ≡ true = eq-eqb i 0 i0 in
      let zero_field : (0 == i) ≡ true = eq-eqb 0 i (sym i0) in
      let one_field : (1 == i) ≡ false = ne_eqb 1 i (λ t. omega (arith, t, i0)) in
      let no_node : q.is_node target ≡ false = ap q.is_node same ∙ h.apart in
      let head : finds.object ≡ n.head = same_Some finds.object n.head (sym finds.there ∙ (ap (object_of before) same ∙ n.there)) in
      let old : n.node ≡ a.old =
      same_Some n.node a.old (sym n.first ∙ (ap (λ (o : WorldObject). reference_of o 0) (sym head) ∙ (ap (reference_of finds.object) (sym i0) ∙ (expected goes ∙ a.expects)))) in
      let node : q.is_node a.old ≡ true = subst (λ (u : Name). q.is_node u ≡ true) old (n.members n.node (get_in (line q (put k)) (length (taken k)) n.node n.is_at)) in
      let next : behind (line q (put k)) n.node ≡ Some a.new = ap (behind (line q (put k))) old ∙ m.nexts a.old a.new node a.next in
      result (put k) (taken k ++ record { seat = e.seat; node = a.new; number = value_of (object_of before a.new) } ∷ [])
      (put_by_is None (put_test true false true first_field no_node goes) ∙ append-nil (put k))
      (taken_by_is (Some a.new) (taken_test true true true first_field (is_itself target q.object same) goes ∙ a.gives))
      (advances q before after (put k) (taken k) n e.seat a.new
      (becomes (stays q) (moved q a.new) (remains q)
      (λ name is_node r. hits_test name 0 true false true zero_field (swapped name is_node no_node) goes r)
      (λ r. hits_test q.object 0 true true true zero_field (is_itself target q.object same) goes r ∙ a.gives)
      (λ r. hits_test q.object 1 false true true one_field (is_itself target q.object same) goes r)) next)
    where
      swapped : (name : Name) → q.is_node name ≡ true → q.is_node target ≡ false → is_same (Some target) (Some name) ≡ false
      swapped name is_node fails = false_from_ne_true (is_same (Some target) (Some name)) (λ t. true≢false (sym is_node ∙ (ap q.is_node (sym (same_name target name t)) ∙ fails)))

  following : won ≡ true → i ≡ 1 → target ≡ q.object → Result
  following goes i1 same =
      let f : Follows q c world es k w z = (asked goes).2 i1 same in
      let node : q.is_node f.before ≡ true =
      ⊎_elim
      (λ (t : Was c world es k q.object 0 f.before). let p = m.firsts f.before t in n.members f.before (get_in (line q (put k)) p.0 f.before p.2))
      (λ (t : Was c world es k q.object 1 f.before). n.members f.before (m.lasts f.before t))
      f.found in
      let first_field : (i == 0) ≡ false = ne_eqb i 0 (λ t. omega (arith, t, i1)) in
      let zero_field : (0 == i) ≡ false = ne_eqb 0 i (λ t. omega (arith, t, i1)) in
      let one_field : (1 == i) ≡ true = eq-eqb 1 i (sym i1) in
      resting (moved q f.new)
      (put_test false (q.is_node target) true first_field refl goes)
      (taken_test false true true first_field (is_itself target q.object same) goes)
      (becomes (stays q) (remains q) (moved q f.new)
      (λ name is_node r. hits_test name 0 false (is_same (Some target) (Some name)) true zero_field refl goes r)
      (λ r. hits_test q.object 0 false true true zero_field (is_itself target q.object same) goes r)
      (λ r. hits_test q.object 1 true true true one_field (is_itself target q.object same) goes r ∙ f.gives))
      (λ name t. subst (λ (u : Name). is_in (line q (put k)) u ≡ true) (same_Some f.new name t) (behind_in (line q (put k)) f.before f.new (m.nexts f.before f.new node f.next)))

  -- one of another field
  beside : i ≢ 0 → (is_same (Some target) (Some q.object) ≡ true → i ≢ 1) → Result
  beside i0 i1 =
      resting (remains q)
      (put_test false (q.is_node target) won first_field refl refl)
      (taken_test false (is_same (Some target) (Some q.object)) won first_field refl refl)
      (becomes (stays q) (remains q) (remains q) (λ name node r. none name r) (λ r. none q.object r) (λ r. last (is_same (Some target) (Some q.object)) refl r)) n.last
    where
      first_field : (i == 0) ≡ false
      first_field = ne_eqb i 0 i0

      none : (name : Name) (r : Option Name) → (if hits before w v i y name 0 then to else r) ≡ r
      none name r = hits_test name 0 false (is_same (Some target) (Some name)) won (ne_eqb 0 i (λ t. i0 (sym t))) refl refl r

      last : (b : Bool) → is_same (Some target) (Some q.object) ≡ b → (r : Option Name) → (if hits before w v i y q.object 1 then to else r) ≡ r
      last true t r = hits_test q.object 1 false true won (ne_eqb 1 i (λ u. i1 t (sym u))) t refl r
      last false t r = hits_test q.object 1 (1 == i) false won refl t refl r ∙ ap (λ (u : Bool). if u then to else r) (no_second (1 == i) won)

  pub exchanging : Result
  exchanging = by_won won refl
    where
      by_object : won ≡ true → i ≡ 0 → (a b : Bool) → q.is_node target ≡ a → is_same (Some target) (Some q.object) ≡ b → Result
      by_object goes i0 true b node same = linking goes i0 node
      by_object goes i0 false true node same = advancing goes i0 (same_name target q.object same)
      by_object goes i0 false false node same = elsewhere node same

      by_field : won ≡ true → i ≢ 0 → (i ≡ 1) ⊎ (i ≢ 1) → (b : Bool) → is_same (Some target) (Some q.object) ≡ b → Result
      by_field goes i0 (inl i1) true same = following goes i1 (same_name target q.object same)
      by_field goes i0 (inl i1) false same = beside i0 (λ t. absurd (true≢false (sym t ∙ same)))
      by_field goes i0 (inr i1) b same = beside i0 (λ t. i1)

      by_won : (b : Bool) → won ≡ b → Result
      by_won false fails = lost fails
      by_won true goes =
          ⊎_elim
          (λ (i0 : i ≡ 0). by_object goes i0 (q.is_node target) (is_same (Some target) (Some q.object)) refl refl)
          (λ (i0 : i ≢ 0). by_field goes i0 (cases_eq i 1) (is_same (Some target) (Some q.object)) refl)
          (cases_eq i 0)
