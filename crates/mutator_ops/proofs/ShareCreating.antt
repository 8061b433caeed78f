-- An object is made in a new cell of a shared heap, and a variable refers to it.
use Rattle.std.proofs.Common.{ℕ, ◌≡◌, ◌+◌, ◌<◌, [], ◌∷◌, length, refl, sym, ap, ◌∙◌, Bool, true, ◌&&◌, ◌||◌, None, is_none, ◌-◌, List, ◌++◌, arith, false}
use Rattle.std.specs.Prelude.{◌==◌, if◌then◌else◌}
use Rattle.std.specs.List.{list_any}
use Rattle.std.proofs.lemmas.Bool.{and_from, eq-eqb, lt-ltb, not_from_false, or_right, cond-false, cond-true, ne_eqb}
use Rattle.std.proofs.lemmas.List.{length-append}
use Rattle.mark_core.specs.Bits.{reference_in}
use Rattle.mark_core.specs.Numbers.{section_variables}
use Rattle.mark_core.specs.Seats.{free_in, has_making, may_mutate, work_in_hand}
use Rattle.mark_core.specs.Steps.MutatorSteps.{names_last, seat_variable as word_in}
use Rattle.mark_core.specs.declared.cell.Identity.{Identity}
use Rattle.mark_core.specs.declared.kinds.Shape.{Shape}
use Rattle.mark_core.specs.declared.kinds.Step.TheVariants.{HoldRoot, StoreRoot, ReadCat, ReadOwn, ReadValue}
use Rattle.mark_core.specs.declared.seat.SeatState.{SeatState}
use Rattle.plain_heap.specs.PlainHeap.{Heap}
use Rattle.plain_heap.specs.PlainStep.{assigned, heap_after, new_object, with_new}
use Rattle.plain_heap.specs.declared.operation.Op.TheVariants as ops
use Rattle.gc_table.specs.Seats.{Stored, Found}
use Rattle.gc_table.specs.Sections.{named_by}
use Rattle.gc_table.specs.Taking.{May, after}
use Rattle.gc_table.specs.Running.{Ran}
use Rattle.gc_table.specs.declared.view.SectionState.{SectionState}
use Rattle.gc_table.specs.declared.view.View.{View}
use Rattle.gc_table.proofs.Running.{ran-join, ran-shape, ran-stored, ran-events, ran-found}
use Rattle.alloc_cache.specs.Making.{Makes, identity_word, with_cell, making_steps}
use Rattle.alloc_cache.proofs.Cells.{steps-after, steps-join as steps-two}
use Rattle.mutator_ops.specs.Sharing.{ShareCreates, SharesReady, holding, next_word}
use Rattle.mutator_ops.proofs.Creating.{last_cell, whole_cell}
use Rattle.mark_core.specs.declared.kinds.Step.{Step}
use Rattle.gc_table.specs.Log.{event, events, steps_of}
use Rattle.gc_table.specs.declared.view.Entry.{Entry}
use Rattle.gc_table.proofs.History.Log.{events-after, events-none}
use Rattle.mutator_ops.specs.Listing.{creating_steps, following_events, lending_events, saying_steps, storing_steps}
use Rattle.mutator_ops.specs.declared.objects.Holds.{Holds}
use Rattle.mutator_ops.specs.declared.objects.Holds.TheVariants.{LentObject, Nothing, OwnObject}

-- The events of a command that takes two parts, in order.
-- the steps of two parts
pub steps-joined : (xs ys : List Entry) → steps_of (xs ++ ys) ≡ steps_of xs ++ steps_of ys
steps-joined [] ys = refl
steps-joined (x ∷ xs) ys = ap (λ (zs : List Step). x.step ∷ zs) (steps-joined xs ys)

-- a word was read, and stored in a variable
read_stored : (u n r : ℕ) (step : Step) (v x w : View) → Ran v x → Found step n v x → r ≡ reference_in n → Stored (StoreRoot u r) x w → events v w ≡ event step n ∷ event (StoreRoot u (reference_in n)) (reference_in n) ∷ []
read_stored u n r step v x w ran f word e =
    ran-events v x w ran (ran-stored x w (StoreRoot u r) refl e) ∙ (λ i. events-after v x step n f.0 i ++ events-after x w (StoreRoot u r) r e i)
    ∙ (λ i. event step n ∷ event (StoreRoot u (word i)) (word i) ∷ [])

pub lends-events : (u c n r : ℕ) (v x w : View) → Found (ReadCat c) n v x → r ≡ x.state.got → Stored (StoreRoot u r) x w → events v w ≡ lending_events u c n
lends-events u c n r v x w f is e = read_stored u n r (ReadCat c) v x w (ran-found v x (ReadCat c) n refl f) f (is ∙ ap (λ (y : View). y.state.got) f.0) e

pub follows-events : (u w i c n r : ℕ) (v x y : View) → word_in v.state w ≡ c + 1 → Found (ReadOwn c i) n v x → r ≡ x.state.got → Stored (StoreRoot u r) x y → events v y ≡ following_events v.state u w i n
follows-events u w i c n r v x y word f is e =
    let cell : c ≡ word_in v.state w - 1 = omega (arith, word) in
    let some : (word_in v.state w == 0) ≡ false = ne_eqb (word_in v.state w) 0 (λ z. omega (arith, z, word)) in
    read_stored u n r (ReadOwn c i) v x y (ran-found v x (ReadOwn c i) n refl f) f (is ∙ ap (λ (z : View). z.state.got) f.0) e
    ∙ (λ j. event (ReadOwn (cell j) i) n ∷ event (StoreRoot u (reference_in n)) (reference_in n) ∷ [])
    ∙ sym (cond-false (word_in v.state w == 0) _ _ some)

pub follows-nil : (u w i : ℕ) (v y : View) → word_in v.state w ≡ 0 → Stored (StoreRoot u 0) v y → events v y ≡ following_events v.state u w i 0
follows-nil u w i v y word e = events-after v y (StoreRoot u 0) 0 e ∙ sym (cond-true (word_in v.state w == 0) _ _ (eq-eqb (word_in v.state w) 0 word))

pub says-some : (u c n : ℕ) (v x : View) → word_in v.state u ≡ c + 1 → Found (ReadValue c) n v x → steps_of (events v x) ≡ saying_steps v.state u
says-some u c n v x word f =
    let cell : c ≡ word_in v.state u - 1 = omega (arith, word) in
    steps-after v x (ReadValue c) n f.0 ∙ ap (λ k. ReadValue k ∷ []) cell ∙ sym (cond-false (word_in v.state u == 0) _ _ (ne_eqb (word_in v.state u) 0 (λ z. omega (arith, z, word))))

pub says-nil : (u : ℕ) (v : View) → word_in v.state u ≡ 0 → steps_of (events v v) ≡ saying_steps v.state u
says-nil u v word = ap steps_of (events-none v) ∙ sym (cond-true (word_in v.state u == 0) _ _ (eq-eqb (word_in v.state u) 0 word))

-- nothing was stored after the look
pub looked-nothing : (cell : ℕ) (store : List Step) (v x : View) (h k : Holds) → steps_of (events v x) ≡ storing_steps h cell [] → h ≡ Nothing → h ≡ k → steps_of (events v x) ≡ storing_steps k cell store
looked-nothing cell store v x h k e none is = e ∙ ap (λ j. storing_steps j cell []) none ∙ ap (λ j. storing_steps j cell store) (sym none ∙ is)

pub looked-lent : (cell : ℕ) (store : List Step) (v x : View) (h k : Holds) → steps_of (events v x) ≡ storing_steps h cell [] → h ≡ LentObject → h ≡ k → steps_of (events v x) ≡ storing_steps k cell store
looked-lent cell store v x h k e lent is = e ∙ ap (λ j. storing_steps j cell []) lent ∙ ap (λ j. storing_steps j cell store) (sym lent ∙ is)

-- these steps were taken after it
pub looked-own : (cell : ℕ) (store : List Step) (v x w : View) (h k : Holds) → Ran v x → Ran x w → steps_of (events v x) ≡ storing_steps h cell [] → h ≡ OwnObject → h ≡ k → steps_of (events x w) ≡ store → steps_of (events v w) ≡ storing_steps k cell store
looked-own cell store v x w h k a b e own is s = steps-two v x w (storing_steps h cell []) store a b e s ∙ ap (λ j. storing_steps j cell [] ++ store) own ∙ ap (λ j. storing_steps j cell store) (sym own ∙ is)

-- a new object was made, and stored in a variable
pub creates-steps : (u n c r fields : ℕ) (id : Identity) (v x w : View) → Ran v x → Makes c n id v x → r ≡ c + 1 → v.shape.fields ≡ fields → identity_word id ≡ next_word v.state → Stored (StoreRoot u r) x w → steps_of (events v w) ≡ creating_steps fields v.state u n c
creates-steps u n c r fields id v x w ran k is size ident e =
    steps-two v x w (making_steps v.shape.fields c n (identity_word id)) (StoreRoot u r ∷ []) ran (ran-stored x w (StoreRoot u r) refl e) k.steps (steps-after x w (StoreRoot u r) r e)
    ∙ (λ i. making_steps (size i) c n (ident i) ++ StoreRoot u (is i) ∷ [])

-- a new object was made, and held in a variable
holds-steps : (u n c r m : ℕ) (id : Identity) (v x w : View) → Ran v x → Makes c n id v x → r ≡ c + 1 → identity_word id ≡ next_word v.state → Found (HoldRoot u r) m x w → steps_of (events v w) ≡ making_steps v.shape.fields c n (next_word v.state) ++ HoldRoot u (c + 1) ∷ []
holds-steps u n c r m id v x w ran k is ident f =
    steps-two v x w (making_steps v.shape.fields c n (identity_word id)) (HoldRoot u r ∷ []) ran (ran-found x w (HoldRoot u r) m refl f) k.steps (steps-after x w (HoldRoot u r) m f.0)
    ∙ (λ i. making_steps v.shape.fields c n (ident i) ++ HoldRoot u (is i) ∷ [])

-- it is a new object that the last step makes
rooted_new : (b : Bool) (h k : Heap) → b ≡ true → (if b then h else k) ≡ h
rooted_new b h k e = ap (λ (c : Bool). if c then h else k) e

module _ (u n c r : ℕ) (id : Identity) (v x : View) (ready : SharesReady v) (ran : Ran v x) (free : free_in v.state.cache c ≡ true) (k : Makes c n id v x) (is : r ≡ c + 1) where
  named : names_last x.state.cache r ≡ true
  named = ap (λ (s : SeatState). names_last s.cache r) k.state ∙ last_cell v.state.cache c r free is

  pub may-name : u < section_variables → May (HoldRoot u r) x
  may-name below y i st a = (
    and_from _ _ (lt-ltb u section_variables below) (ap may_mutate k.state ∙ ready.stores.turn),
    (
      or_right ((r == 0) || (r == x.state.got) || list_any (λ m. m == r) x.state.env) (names_last x.state.cache r) named,
      (and_from _ _ (ap (λ (s : SeatState). is_none s.owes) k.state ∙ ap is_none ready.stores.owes) (not_from_false _ (ap (λ (s : SeatState). has_making s.cache) k.state ∙ whole_cell v.state.cache c)), tt),
    ),
  )

  counted : length x.own.meaning.heap.objects + 1 ≡ x.state.made
  counted = ap (λ (y : SectionState). length y.meaning.heap.objects + 1) k.own ∙ ap (λ m. m + 1) ready.counted ∙ sym (ap (λ (s : SeatState). s.made) k.state)

  made_heap : (m : ℕ) (w : View) → w ≡ after (HoldRoot u r) m x → w.own.meaning.heap ≡ heap_after v.own.meaning.heap None (ops.New u n)
  made_heap m w e =
      let own = x.own.meaning in
      ap (λ (y : View). y.own.meaning.heap) e
      ∙ rooted_new (names_last x.state.cache r && (length own.heap.objects + 1 == x.state.made)) (with_new own.heap u own.value) (assigned own.heap u (named_by x.state own r)) (and_from _ _ named (eq-eqb (length own.heap.objects + 1) x.state.made counted))
      ∙ ap (λ (y : SectionState). with_new y.meaning.heap u y.meaning.value) k.own

  pub share-creates : (m : ℕ) (w : View) → Found (HoldRoot u r) m x w → identity_word id ≡ next_word v.state → ShareCreates u n c v w
  share-creates m w f ident =
      record {
        ran = ran-join v x w ran (ran-found x w (HoldRoot u r) m refl f);
        steps_are = holds-steps u n c r m id v x w ran k is ident f;
        state =
            ap (λ (y : View). y.state) f.0
            ∙ (λ i. record (holding (k.state i) u (reference_in (is i))) { got = 0 })
            ∙ (λ i. record (holding (with_cell v.state c) u (reference_in (c + 1))) { got = sym ready.register i });
        heap = made_heap m w f.0;
        seasons = ap (λ (y : View). y.own.seasons) f.0 ∙ ap (λ (y : SectionState). y.seasons) k.own;
      }

  pub share-ready : (w : View) → ShareCreates u n c v w → SharesReady w
  share-ready w d =
      let s = d.state in
      record {
        shared = ap (λ (sh : Shape). sh.sharing) (ran-shape v w d.ran) ∙ ready.shared;
        stores = record { turn = ap may_mutate s ∙ ready.stores.turn; seen = (ready.stores.seen.0, ap (λ (t : SeatState). t.phase_seen) s ∙ ready.stores.seen.1, ready.stores.seen.2); owes = ap (λ (t : SeatState). t.owes) s ∙ ready.stores.owes };
        idle = (λ i. work_in_hand (ran-shape v w d.ran i).fields (s i)) ∙ ready.idle;
        whole = ap (λ (t : SeatState). has_making t.cache) s ∙ whole_cell v.state.cache c;
        register = ap (λ (t : SeatState). t.got) s ∙ ready.register;
        counted = ap (λ (h : Heap). length h.objects) d.heap ∙ length-append v.own.meaning.heap.objects (new_object n ∷ []) ∙ ap (λ m. m + 1) ready.counted ∙ sym (ap (λ (t : SeatState). t.made) s);
      }
