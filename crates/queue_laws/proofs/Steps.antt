-- What a step that exchanges no field makes of a queue.
use Rattle.std.proofs.Common.{ℕ, ◌≡◌, suc, List, ◌++◌, take, arith, refl, sym, ap, ◌∙◌, subst, true, false, Option, None, Some}
use Rattle.std.specs.Prelude.{slice_index_or}
use Rattle.std.proofs.lemmas.Bool.{false_from_ne_true, true≢false}
use Rattle.std.proofs.lemmas.List.{append-nil}
use Rattle.plain_heap.specs.Paths.{Name}
use Rattle.mark_core.specs.Steps.{Core, run_of}
use Rattle.mark_core.specs.declared.kinds.Event.{Event}
use Rattle.mark_core.specs.declared.kinds.Step.TheVariants.{StoreField}
use Rattle.mark_core.specs.declared.seat.SeatState.{SeatState}
use Rattle.gc_table.specs.AgreementLaws.{world_after}
use Rattle.gc_table.specs.RunWorlds.{World, WorldObject, is_same, object_of, own_section, reference_of, stored, variable_of}
use Rattle.gc_table.proofs.Forgetting.{same-is}
use Rattle.heap_laws.specs.Named.{acts_on, through}
use Rattle.heap_laws.proofs.Fields.{kept_refs, stores_field}
use Rattle.heap_laws.proofs.Values.{object-kept}
use Rattle.queue_laws.specs.Orders.{Begins, KeepsQueue}
use Rattle.queue_laws.specs.Queues.{Item, Queue, heap_at, is_in, item_of, put_by, put_of, puts, taken_by, taken_of, takes}
use Rattle.queue_laws.proofs.Holds.{Becomes, Holds, line, remains, rests, stays}
use Rattle.queue_laws.proofs.Moves.{idle_kept, made_next, stored_next}
use Rattle.queue_laws.proofs.Happening.{Here, gathered_next}

module _ (q : Queue) (c : Core) (world : World) (es : List Event) (h : Begins q c world es) (k : ℕ) (x : Here q c world es h k) (n : Holds q (heap_at c world es k) (puts q c world es k) (takes q c world es k)) where
  abbrev heap : ℕ → World
  heap j = heap_at c world es j

  abbrev core : ℕ → Core
  core j = run_of (take j es) c

  abbrev put : ℕ → List Item
  put j = puts q c world es j

  abbrev taken : ℕ → List Item
  taken j = takes q c world es j

  abbrev e : Event
  e = x.event

  abbrev s : SeatState
  s = x.seat

  abbrev w : ℕ
  w = own_section x.seat

  abbrev before : World
  before = heap k

  abbrev after : World
  after = world_after (core k) x.event (heap k)

  abbrev pub Result : Type 0
  Result = Holds q (heap (suc k)) (put (suc k)) (taken (suc k))

  pub keeps : KeepsQueue q c world es k w e.step
  keeps = x.keeps

  pub put_is : put (suc k) ≡ put k ++ item_of before e.seat (put_by q before w e.step)
  put_is = gathered_next (put_of q) es c world h.run.allowed k e x.there ∙ ap (λ (o : Option SeatState). put k ++ put_of q before e.seat o e.step) x.act.got

  pub taken_is : taken (suc k) ≡ taken k ++ item_of before e.seat (taken_by q before w e.step)
  taken_is = gathered_next (taken_of q) es c world h.run.allowed k e x.there ∙ ap (λ (o : Option SeatState). taken k ++ taken_of q before e.seat o e.step) x.act.got

  pub put_by_is : (o : Option Name) → put_by q before w e.step ≡ o → put (suc k) ≡ put k ++ item_of before e.seat o
  put_by_is o f = put_is ∙ ap (λ (z : Option Name). put k ++ item_of before e.seat z) f

  pub taken_by_is : (o : Option Name) → taken_by q before w e.step ≡ o → taken (suc k) ≡ taken k ++ item_of before e.seat o
  taken_by_is o f = taken_is ∙ ap (λ (z : Option Name). taken k ++ item_of before e.seat z) f

  pub result : (ps ts : List Item) → put (suc k) ≡ ps → taken (suc k) ≡ ts → Holds q after ps ts → Result
  result ps ts a b r =
      subst (λ (z : World). Holds q z (put (suc k)) (taken (suc k))) (sym x.after)
      (subst (λ (l : List Item). Holds q after l (taken (suc k))) (sym a) (subst (λ (l : List Item). Holds q after ps l) (sym b) r))

  -- nothing is put in or taken out
  pub resting : (last : Option Name → Option Name) → put_by q before w e.step ≡ None → taken_by q before w e.step ≡ None → Becomes q before after (stays q) (remains q) last
      → ((name : Name) → last (reference_of n.head 1) ≡ Some name → is_in (line q (put k)) name ≡ true) → Result
  resting last a b becomes ends = result (put k) (taken k) (put_by_is None a ∙ append-nil (put k)) (taken_by_is None b ∙ append-nil (taken k)) (rests q before after (put k) (taken k) n last becomes ends)

  pub made : (name : Name) (object : WorldObject) → object_of before name ≡ None → object_of after name ≡ Some object → reference_of object 0 ≡ None
  made name object none at = made_next (core k) e s before name object 0 x.act.got none at

  pub idle : through e.step ≡ None → put_by q before w e.step ≡ None → taken_by q before w e.step ≡ None → Result
  idle none a b =
      resting (remains q) a b
      (record {
        nodes = λ name object is there. (object, idle_kept (core k) e s before name object x.act.got none there, refl, refl);
        queue = λ object there. (object, idle_kept (core k) e s before q.object object x.act.got none there, refl, refl);
        made = made;
      }) n.last

  pub storing : (v i : ℕ) (y : Option ℕ) → e.step ≡ StoreField v i y → Result
  storing v i y is =
      let asked = subst (KeepsQueue q c world es k w) is keeps in
      resting (remains q) (ap (put_by q before w) is) (ap (taken_by q before w) is)
      (record {
        nodes =
            λ name object node there.
            let r = stored_next (core k) e s v i y before name object x.act.got is there in
            (r.0, r.1, r.3 0 (λ to z. true≢false (sym node ∙ (asked name to).0 (sym z))), r.2);
        queue =
            λ object there.
            let r = stored_next (core k) e s v i y before q.object object x.act.got is there in
            (r.0, r.1, r.3 0 (λ to z. (asked q.object to).1 (omega (arith, z)) refl), r.3 1 (λ to z. (asked q.object to).1 (omega (arith, z)) refl));
        made = made;
      }) n.last

  -- a value of an object that is no node changes
  pub valued : (v : ℕ) → through e.step ≡ Some v → stores_field e.step ≡ false → put_by q before w e.step ≡ None → taken_by q before w e.step ≡ None → ((name : Name) → variable_of before w v ≡ Some name → q.is_node name ≡ false) → Result
  valued v at none a b asked =
      resting (remains q) a b
      (record {
        nodes =
            λ name object node there.
            let other : is_same (variable_of before w v) (Some name) ≡ false =
            false_from_ne_true (is_same (variable_of before w v) (Some name)) (λ t. true≢false (sym node ∙ asked name (same-is (variable_of before w v) (Some name) t))) in (
              object,
              object-kept (core k) e before name object there
                  (ap (λ (o : Option SeatState). acts_on before o e.step name) x.act.got ∙ (ap (λ (o : Option ℕ). is_same (stored before w o) (Some name)) at ∙ other)),
              refl,
              refl,
            );
        queue =
            λ object there.
            let r = kept_refs (core k) e s before q.object object x.act.got none there in
            let same : (f : ℕ) → reference_of r.0 f ≡ reference_of object f = λ f. ap (λ (l : List (Option Name)). slice_index_or l f None) r.2 in
            (r.0, r.1, same 0, same 1);
        made = made;
      }) n.last
