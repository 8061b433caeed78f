-- An object is made in a new cell, and a variable refers to it.
use Rattle.std.proofs.Common.{ℕ, ◌≡◌, ◌+◌, ◌-◌, ◌<◌, zero, suc, map, List, [], ◌∷◌, ◌++◌, length, arith, refl, sym, ap, ◌∙◌, Bool, true, false, not, ◌||◌, Some, None, Option, is_none}
use Rattle.std.specs.Prelude.{◌==◌, slice_set}
use Rattle.std.specs.List.{list_any, list_all, range_with_len}
use Rattle.std.proofs.lemmas.Bool.{and_from, and_parts, or_right, eq-eqb, ne_eqb, lt-ltb, not_from_false, false≢true}
use Rattle.std.proofs.lemmas.List.{length-append}
use Rattle.mark_core.specs.Bits.{reference_in}
use Rattle.mark_core.specs.Numbers.{section_variables}
use Rattle.mark_core.specs.Steps.MutatorSteps.{names_last, with_made}
use Rattle.mark_core.specs.Seats.{free_in, has_making, may_mutate, work_in_hand}
use Rattle.mark_core.specs.declared.cell.Identity.{Identity}
use Rattle.mark_core.specs.declared.kinds.Step.{Step}
use Rattle.mark_core.specs.declared.kinds.Step.TheVariants.{StoreNew, StoreRoot}
use Rattle.mark_core.specs.declared.seat.CacheState.{CacheState}
use Rattle.mark_core.specs.declared.kinds.Shape.{Shape}
use Rattle.mark_core.specs.declared.seat.SeatState.{SeatState}
use Rattle.plain_heap.specs.PlainHeap.{Heap}
use Rattle.plain_heap.specs.PlainStep.{heap_after, new_object}
use Rattle.plain_heap.specs.declared.operation.Op.TheVariants as ops
use Rattle.gc_table.specs.PlainSteps.{Asks}
use Rattle.gc_table.specs.Seats.{Stored, IsPlainStep}
use Rattle.gc_table.specs.Sections.{section_after, seen_by}
use Rattle.gc_table.specs.Taking.{May}
use Rattle.gc_table.specs.declared.view.SectionState.{SectionState}
use Rattle.gc_table.specs.declared.view.View.{View}
use Rattle.gc_table.specs.Log.{all_steps, events}
use Rattle.gc_table.specs.Running.{Ran}
use Rattle.gc_table.proofs.History.Log.{only-after}
use Rattle.gc_table.proofs.Running.{ran-stored, ran-join, ran-only, ran-shape, ran-plan}
use Rattle.alloc_cache.specs.Making.{Makes, nil_fields, with_cell, with_place, identity_word}
use Rattle.mutator_ops.specs.Creating.{Creates}
use Rattle.mutator_ops.specs.Doing.{belongs, seen, spares_plain}
use Rattle.mutator_ops.proofs.Stepping.{once-after, once-last, stepped-none, undropped-root}
use Rattle.mutator_ops.specs.Ready.{IsReady}
use Rattle.mutator_ops.proofs.Storing.{all-by}

-- the new cell is the one made last, and none is half made
pub last_cell : (o : Option CacheState) (c r : ℕ) → free_in o c ≡ true → r ≡ c + 1 → names_last (with_made o c) r ≡ true
last_cell None c r free e = absurd (false≢true free)
last_cell (Some x) c r free e = and_from (not (r == 0)) (c == r - 1) (not_from_false _ (ne_eqb r 0 (λ z. omega (arith, z, e)))) (eq-eqb c (r - 1) (omega (arith, e)))

pub whole_cell : (o : Option CacheState) (c : ℕ) → has_making (with_made o c) ≡ false
whole_cell None c = refl
whole_cell (Some x) c = refl

module _ (u n c r : ℕ) (id : Identity) (v x : View) (ready : IsReady v) (ran : Ran v x) (free : free_in v.state.cache c ≡ true) (k : Makes c n id v x) (is : r ≡ c + 1) where
  named : names_last x.state.cache r ≡ true
  named = ap (λ (s : SeatState). names_last s.cache r) k.state ∙ last_cell v.state.cache c r free is

  -- it may be stored in a variable
  pub may-name : u < section_variables → May (StoreRoot u r) x
  may-name below y i st a = (
    and_from _ _ (lt-ltb u section_variables below) (ap may_mutate k.state ∙ ready.stores.turn),
    (
      or_right ((r == 0) || (r == x.state.got) || list_any (λ m. m == r) x.state.env) (names_last x.state.cache r) named,
      (and_from _ _ (ap (λ (s : SeatState). is_none s.owes) k.state ∙ ap is_none ready.stores.owes) (not_from_false _ (ap (λ (s : SeatState). has_making s.cache) k.state ∙ whole_cell v.state.cache c)), tt),
    ),
  )

  -- the store of the new cell's reference is the step that makes its object
  pub asks-name : Asks x.state x.own.meaning (seen x) (StoreRoot u r) (ops.New u n)
  asks-name = (
    (ready.stores.seen.0, ap (λ (s : SeatState). s.phase_seen) k.state ∙ ready.stores.seen.1, ready.stores.seen.2),
    (refl, ap (λ (y : SectionState). y.meaning.value) (sym k.own), named, ap (λ (y : SectionState). length y.meaning.heap.objects + 1) k.own ∙ ap (λ m. m + 1) ready.counted ∙ sym (ap (λ (s : SeatState). s.made) k.state)),
  )

  making_only : (p : Step → Bool) → ((i : ℕ) (word : ℕ) → p (StoreNew c i word) ≡ true) → all_steps p (events v x) ≡ true
  making_only p all = all-by p (events v x) ∙ ap (list_all p) k.steps ∙ last (nil_fields c v.shape.fields) (nils 0 v.shape.fields)
    where
      nils : (a m : ℕ) → list_all p (map (λ i. StoreNew c i 0) (range_with_len a m)) ≡ true
      nils a zero = refl
      nils a (suc m) = and_from _ _ (all a 0) (nils (a + 1) m)

      last : (xs : List Step) → list_all p xs ≡ true → list_all p (xs ++ StoreNew c v.shape.fields n ∷ StoreNew c (v.shape.fields + 1) (identity_word id) ∷ []) ≡ true
      last [] e = and_from _ _ (all v.shape.fields n) (and_from _ _ (all (v.shape.fields + 1) (identity_word id)) refl)
      last (y ∷ ys) e = let b = and_parts (p y) (list_all p ys) e in and_from _ _ b.0 (last ys b.1)

  -- the whole command
  pub creates : (w : View) → Stored (StoreRoot u r) x w → IsPlainStep (StoreRoot u r) x w → Creates u n c v w
  creates w e plain =
      let named_ran : Ran x w = ran-stored x w (StoreRoot u r) refl e in
      let own : w.own ≡ section_after x.shape x.plan x.state (StoreRoot u r) x.own = ap (λ (y : View). y.own) e in
      let sees : seen x ≡ seen v = λ i. seen_by (ran-shape v x ran i) (ran-plan v x ran i) (k.state i) in
      record {
        ran = ran-join v x w ran named_ran;
        only = ran-only (belongs (ops.New u n)) v x w ran named_ran (making_only (belongs (ops.New u n)) (λ i word. refl)) (only-after (belongs (ops.New u n)) x w (StoreRoot u r) r refl e);
        once = once-last v x w ran named_ran (making_only spares_plain (λ i word. refl)) (once-after x w (StoreRoot u r) _ e);
        undropped = ap (λ (y : SectionState). y.meaning.heap.dropped) own ∙ undropped-root x u r ∙ ap (λ (y : SectionState). y.meaning.heap.dropped) k.own;
        heap = stepped-none (ops.New u n) v w (λ d. refl) (plain (ap (λ (sh : Shape). sh.sharing) (ran-shape v x ran) ∙ ready.owned) (ops.New u n) asks-name ∙ (λ i. heap_after (k.own i).meaning.heap (sees i) (ops.New u n)));
        state =
            ap (λ (y : View). y.state) e
            ∙ (λ i. record (k.state i) { env = slice_set (k.state i).env u (reference_in r); got = 0 })
            ∙ (λ i. record (with_cell v.state c) { env = slice_set v.state.env u (reference_in r); got = sym ready.register i })
            ∙ (λ i. record (with_cell v.state c) { env = slice_set (sym k.state i).env u (reference_in r) })
            ∙ ap (λ (y : View). record (with_cell v.state c) { env = y.state.env }) (sym e);
        own =
            own
            ∙ ap (λ (y : SectionState). record y { meaning = (section_after x.shape x.plan x.state (StoreRoot u r) x.own).meaning; history = (section_after x.shape x.plan x.state (StoreRoot u r) x.own).history; settled = false }) k.own
            ∙ ap (λ (y : SectionState). record (with_place v.state c n v.own) { meaning = y.meaning; history = y.history; settled = false }) (sym own);
      }

  -- the seat is ready after the whole command
  pub ready-creates : (w : View) → Creates u n c v w → IsReady w
  ready-creates w d =
      let s = d.state in
      record {
        owned = ap (λ (sh : Shape). sh.sharing) (ran-shape v w d.ran) ∙ ready.owned;
        stores = record { turn = ap may_mutate s ∙ ready.stores.turn; seen = (ready.stores.seen.0, ap (λ (t : SeatState). t.phase_seen) s ∙ ready.stores.seen.1, ready.stores.seen.2); owes = ap (λ (t : SeatState). t.owes) s ∙ ready.stores.owes };
        idle = (λ i. work_in_hand (ran-shape v w d.ran i).fields (s i)) ∙ ready.idle;
        whole = ap (λ (t : SeatState). has_making t.cache) s ∙ whole_cell v.state.cache c;
        register = ap (λ (t : SeatState). t.got) s ∙ ready.register;
        counted = ap (λ (h : Heap). length h.objects) (d.heap 0) ∙ length-append v.own.meaning.heap.objects (new_object n ∷ []) ∙ ap (λ m. m + 1) ready.counted ∙ sym (ap (λ (t : SeatState). t.made) s);
      }
