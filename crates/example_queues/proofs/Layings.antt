-- What the mutator adds that lays the queue out.
use Rattle.std.proofs.Common.{ℕ, ◌≡◌, ◌+◌, ◌<◌, ◌==◌, ◌&&◌, ◌||◌, ◌∙◌, List, [], ◌∷◌, ◌++◌, append_assoc, ap, arith, refl, subst, sym, Bool, true, false, Some}
use Rattle.std.specs.Prelude.{if◌then◌else◌}
use Rattle.std.proofs.lemmas.Bool.{and_from, and_parts, false≢true, not-true, or_left, or_right}
use Rattle.mark_core.specs.Bits.{reference_in}
use Rattle.mark_core.specs.Steps.MutatorSteps.{seat_variable as word_in}
use Rattle.mark_core.specs.declared.kinds.Shape.{Shape}
use Rattle.mark_core.specs.declared.kinds.Step.{Step}
use Rattle.mark_core.specs.declared.kinds.Step.TheVariants.{ExchangeField, HoldRoot, StoreField, StoreNew, StoreRoot}
use Rattle.mark_core.specs.declared.seat.SeatState.{SeatState}
use Rattle.alloc_cache.specs.Making.{making_steps, nil_fields}
use Rattle.gc_table.specs.Lending.{leaves_variable}
use Rattle.gc_table.specs.Log.{all_steps, events, steps_of}
use Rattle.gc_table.specs.Seats.{state_of, view_of}
use Rattle.gc_table.specs.declared.view.Entry.{Entry}
use Rattle.gc_table.specs.declared.view.View.{View}
use Rattle.gc_table.proofs.Running.{ran-events, ran-number, ran-shape}
use Rattle.heap_laws.specs.Lent.{is_lent, lent_after}
use Rattle.mutator_ops.specs.Sharing.{LendsFound, SetsField, next_word}
use Rattle.seat_turns.specs.Sharing.{MakesSharedAfter, spares_heap}
use Rattle.queue_laws.specs.LentQueues.{LaysOut, Laying, keeps_objects, laid_after, laying_after, layings, makes_none, nothing_laid, only_lays}
use Rattle.queue_laws.specs.Making.{Making, makings, nothing_made}
use Rattle.queue_laws.proofs.LaidLogs.{layings_join}
use Rattle.queue_laws.proofs.MakeLogs.{makings_join}
use Rattle.plain_heap.specs.PlainStep.{IsInRange}
use Rattle.plain_heap.specs.declared.operation.Op.TheVariants as ops
use Rattle.shared_heap.specs.Calls.{IsSame, SharerActs, SharerDoes, SharerLeft, field_count_of}
use Rattle.shared_heap.specs.Logs.{Adds}
use Rattle.shared_heap.specs.declared.mutator.SharedMutator.{SharedMutator}
use Rattle.shared_heap.proofs.Logs.{adds-as, adds-join}
use Rattle.example_structures.specs.Fitting.{hands}
use Rattle.example_structures.proofs.Called.{made-all, made-other, made-ran, ran-log}
use Rattle.example_structures.proofs.Changed.{all-more}
use Rattle.example_structures.proofs.FitCalls.{heap-leaves}
use Rattle.example_structures.proofs.FitLogs.{keeps_made, made-assigned, made-kept}
use Rattle.example_queues.specs.Logs.{LaysRoot}
use Rattle.example_queues.proofs.Comings.{AsksWord, IsQuiet, asking, asks-adds, heap-keeps, lent-word, quiet-adds}
use Rattle.example_queues.proofs.Stores.{StoresIn, stores-adds}

-- the root is had, nothing else was changed; and so far these fields were laid
record Holds (k : Laying) (f l : Bool) : Type 0 where
  lent : k.lent ≡ true
  apart : k.apart ≡ true
  only : k.only ≡ true
  first : f ≡ true → k.first ≡ true
  last : l ≡ true → k.last ≡ true

abbrev after : Laying → Step → ℕ → Laying
after k step found = laying_after 0 (hands 0) k step found

abbrev after_all : Laying → List Entry → Laying
after_all k es = layings 0 (hands 0) k es

lent_step : (k : Laying) (step : Step) → leaves_variable 0 step ≡ true → k.lent ≡ true → lent_after 0 k.loaded k.lent step ≡ true
lent_step k (StoreRoot w x) e t = ap (λ (b : Bool). if b then is_lent k.loaded x else k.lent) (not-true (w == 0) e) ∙ t
lent_step k (HoldRoot w x) e t = ap (λ (b : Bool). if b then is_lent k.loaded x else k.lent) (not-true (w == 0) e) ∙ t
lent_step k step e t = t

only_step : (b : Bool) (step : Step) → keeps_objects step ≡ true → only_lays (hands 0) b step ≡ true
only_step b (StoreField v i x) e = absurd (false≢true e)
only_step b step e = e

laid_step : (f : ℕ) (b : Bool) (step : Step) → keeps_objects step ≡ true → leaves_variable 20 step ≡ true → b ≡ true → laid_after 20 f b step ≡ true
laid_step f b (StoreField v i x) k e t = absurd (false≢true k)
laid_step f b (StoreRoot v r) k e t = ap (λ (c : Bool). if c then false else b) (not-true (v == 20) e) ∙ t
laid_step f b (HoldRoot v r) k e t = ap (λ (c : Bool). if c then false else b) (not-true (v == 20) e) ∙ t
laid_step f b step k e t = t

holds_step : (k : Laying) (f l : Bool) (step : Step) (found : ℕ) → leaves_variable 0 step ≡ true → keeps_objects step ≡ true → (f ≡ true → leaves_variable 20 step ≡ true) → (l ≡ true → leaves_variable 20 step ≡ true) → Holds k f l → Holds (after k step found) f l
holds_step k f l step found root keeps own last h =
    record {
      lent = lent_step k step root h.lent;
      apart = or_left k.apart _ h.apart;
      only = and_from k.only (only_lays (hands 0) k.lent step) h.only (only_step k.lent step keeps);
      first = λ e. laid_step 0 k.first step keeps (own e) (h.first e);
      last = λ e. laid_step 1 k.last step keeps (last e) (h.last e);
    }

holds_all : (k : Laying) (f l : Bool) (es : List Entry) → all_steps (leaves_variable 0) es ≡ true → all_steps keeps_objects es ≡ true → (f ≡ true → all_steps (leaves_variable 20) es ≡ true) → (l ≡ true → all_steps (leaves_variable 20) es ≡ true) → Holds k f l → Holds (after_all k es) f l
holds_all k f l [] root keeps own last h = h
holds_all k f l (x ∷ xs) root keeps own last h =
    let a = and_parts (leaves_variable 0 x.step) (all_steps (leaves_variable 0) xs) root in
    let b = and_parts (keeps_objects x.step) (all_steps keeps_objects xs) keeps in
    holds_all (after k x.step x.found) f l xs a.1 b.1 (λ e. (and_parts (leaves_variable 20 x.step) (all_steps (leaves_variable 20) xs) (own e)).1) (λ e. (and_parts (leaves_variable 20 x.step) (all_steps (leaves_variable 20) xs) (last e)).1)
    (holds_step k f l x.step x.found a.0 b.0 (λ e. (and_parts (leaves_variable 20 x.step) (all_steps (leaves_variable 20) xs) (own e)).0) (λ e. (and_parts (leaves_variable 20 x.step) (all_steps (leaves_variable 20) xs) (last e)).0) h)

-- what no plain heap sees keeps all that
holds_quiet : (k : Laying) (f l : Bool) (es : List Entry) → IsQuiet es → Holds k f l → Holds (after_all k es) f l
holds_quiet k f l es a h =
    holds_all k f l es (all-more spares_heap (leaves_variable 0) (heap-leaves 0) es a) (all-more spares_heap keeps_objects heap-keeps es a) (λ e. all-more spares_heap (leaves_variable 20) (heap-leaves 20) es a)
    (λ e. all-more spares_heap (leaves_variable 20) (heap-leaves 20) es a) h

-- before the root is had nothing is made
record Nothing (k : Laying) : Type 0 where
  none : k.none ≡ true
  only : k.only ≡ true

none_step : (step : Step) → spares_heap step ≡ true → makes_none step ≡ true
none_step (StoreNew c part word) e = absurd (false≢true e)
none_step step e = refl

nothing_all : (k : Laying) (es : List Entry) → IsQuiet es → Nothing k → Nothing (after_all k es)
nothing_all k [] a n = n
nothing_all k (x ∷ xs) a n =
    let p = and_parts (spares_heap x.step) (all_steps spares_heap xs) a in
    nothing_all (after k x.step x.found) xs p.1
    (record { none = and_from k.none (makes_none x.step) n.none (none_step x.step p.0); only = and_from k.only (only_lays (hands 0) k.lent x.step) n.only (only_step k.lent x.step (heap-keeps x.step p.0)) })

holds_asked : (k : Laying) (word old : ℕ) → 0 < reference_in word → Nothing k → Holds (after_all k (asking word old [])) false false
holds_asked k word old some n =
    record {
      lent = lent-word (reference_in word) some;
      apart =
          or_right (k.apart || (k.lent && (k.none && true))) _
          (and_from _ ((k.none && true) && true) (lent-word (reference_in word) some) (and_from (k.none && true) true (and_from k.none true n.none refl) refl));
      only = and_from (k.only && true) true (and_from k.only true n.only refl) refl;
      first = λ e. absurd (false≢true e);
      last = λ e. absurd (false≢true e);
    }

-- What a whole log is like.
record Good (fields : ℕ) (n f l : Bool) (es : List Entry) : Type 0 where
  holds : Holds (after_all nothing_laid es) f l
  fresh : n ≡ true → (makings fields 20 nothing_made es).fresh ≡ true

quiet_made : (step : Step) → spares_heap step ≡ true → keeps_made 20 step ≡ true
quiet_made (ExchangeField v i x y) e = absurd (false≢true e)
quiet_made (StoreRoot v r) e = absurd (false≢true e)
quiet_made (HoldRoot v r) e = absurd (false≢true e)
quiet_made step e = refl

fresh_kept : (fields : ℕ) (xs ys : List Entry) → all_steps (keeps_made 20) ys ≡ true → (makings fields 20 nothing_made xs).fresh ≡ true → (makings fields 20 nothing_made (xs ++ ys)).fresh ≡ true
fresh_kept fields xs ys a e = ap (λ (z : Making). z.fresh) (makings_join fields 20 nothing_made xs ys) ∙ (made-kept fields 20 (makings fields 20 nothing_made xs) ys a ∙ e)

good_asked : (fields : ℕ) (xs ys : List Entry) → IsQuiet xs → AsksWord ys → Good fields false false false (xs ++ ys)
good_asked fields xs ys a q =
    record {
      holds =
          subst (λ (k : Laying). Holds k false false) (sym (layings_join 0 (hands 0) nothing_laid xs ys))
          (subst (λ (l : List Entry). Holds (after_all (after_all nothing_laid xs) l) false false) (sym q.are) (holds_asked (after_all nothing_laid xs) q.word q.old q.some (nothing_all nothing_laid xs a (record { none = refl; only = refl }))));
      fresh = λ e. absurd (false≢true e);
    }

good_quiet : (fields : ℕ) (n f l : Bool) (xs ys : List Entry) → Good fields n f l xs → IsQuiet ys → Good fields n f l (xs ++ ys)
good_quiet fields n f l xs ys g a =
    record {
      holds = subst (λ (k : Laying). Holds k f l) (sym (layings_join 0 (hands 0) nothing_laid xs ys)) (holds_quiet (after_all nothing_laid xs) f l ys a g.holds);
      fresh = λ e. fresh_kept fields xs ys (all-more spares_heap (keeps_made 20) quiet_made ys a) (g.fresh e);
    }

-- these events make a node, for variable 20
record MakesNode (fields : ℕ) (es : List Entry) : Type 0 where
  root : all_steps (leaves_variable 0) es ≡ true
  keeps : all_steps keeps_objects es ≡ true
  fresh : (known : Making) → (makings fields 20 known es).fresh ≡ true

good_made : (fields : ℕ) (xs ys : List Entry) → Good fields false false false xs → MakesNode fields ys → Good fields true false false (xs ++ ys)
good_made fields xs ys g m =
    record {
      holds = subst (λ (k : Laying). Holds k false false) (sym (layings_join 0 (hands 0) nothing_laid xs ys)) (holds_all (after_all nothing_laid xs) false false ys m.root m.keeps (λ e. absurd (false≢true e)) (λ e. absurd (false≢true e)) g.holds);
      fresh = λ e. ap (λ (z : Making). z.fresh) (makings_join fields 20 nothing_made xs ys) ∙ m.fresh (makings fields 20 nothing_made xs);
    }

only_stored : (k : Laying) (f : ℕ) → k.lent ≡ true → k.only ≡ true → k.only && only_lays (hands 0) k.lent (StoreField 0 f (Some 20)) ≡ true
only_stored k f lent only = and_from k.only _ only (and_from k.lent true lent refl)

stored_first : (k : Laying) (found : ℕ) → Holds k false false → Holds (after k (StoreField 0 0 (Some 20)) found) true false
stored_first k found h =
    record { lent = h.lent; apart = or_left k.apart _ h.apart; only = only_stored k 0 h.lent h.only; first = λ e. refl; last = λ e. absurd (false≢true e) }

stored_last : (k : Laying) (found : ℕ) → Holds k true false → Holds (after k (StoreField 0 1 (Some 20)) found) true true
stored_last k found h = record { lent = h.lent; apart = or_left k.apart _ h.apart; only = only_stored k 1 h.lent h.only; first = h.first; last = λ e. refl }

good_stored : (fields i : ℕ) (f g : Bool) (xs ys : List Entry) → ((k : Laying) (found : ℕ) → Holds k f false → Holds (after k (StoreField 0 i (Some 20)) found) true g) → Good fields true f false xs → StoresIn i 20 ys → Good fields true true g (xs ++ ys)
good_stored fields i f g xs ys step good s =
    record {
      holds =
          subst (λ (k : Laying). Holds k true g) (sym (layings_join 0 (hands 0) nothing_laid xs ys))
          (subst (λ (l : List Entry). Holds (after_all (after_all nothing_laid xs) l) true g) (sym s.are)
          (holds_quiet (after (after_all nothing_laid xs) s.first.step s.first.found) true g s.rest s.quiet
          (subst (λ (a : Step). Holds (after (after_all nothing_laid xs) a s.first.found) true g) (sym s.step) (step (after_all nothing_laid xs) s.first.found good.holds))));
      fresh =
          λ e.
          fresh_kept fields xs ys
          (subst (λ (l : List Entry). all_steps (keeps_made 20) l ≡ true) (sym s.are)
          (and_from (keeps_made 20 s.first.step) (all_steps (keeps_made 20) s.rest) (ap (keeps_made 20) s.step) (all-more spares_heap (keeps_made 20) quiet_made s.rest s.quiet)))
          (good.fresh e);
    }

lays_out : (fields : ℕ) (es : List Entry) → Good fields true true true es → LaysOut fields 0 (hands 0) es
lays_out fields es g = record { apart = g.holds.apart; first = g.holds.first refl; last = g.holds.last refl; only = g.holds.only; fresh = g.fresh refl }

-- The calls.
steps_join : (xs ys : List Entry) → steps_of (xs ++ ys) ≡ steps_of xs ++ steps_of ys
steps_join [] ys = refl
steps_join (x ∷ xs) ys = ap (λ (l : List Step). x.step ∷ l) (steps_join xs ys)

makes_adds : (range : Type 0) (x y : SharedMutator) → SharerActs range (MakesSharedAfter 20 0) x y → Adds (MakesNode (field_count_of x)) x y
makes_adds range x y s =
    record {
      heap = s.world;
      more = events v w;
      log = ran-log v w (made-ran x y 20 0 k);
      are =
          record {
            root = made-all x y (leaves_variable 0) 20 0 k (heap-leaves 0) (λ c part word. refl) refl;
            keeps = made-all x y keeps_objects 20 0 k heap-keeps (λ c part word. refl) refl;
            fresh = λ known. made-assigned (field_count_of x) 20 cell 0 id known (first ++ nil_fields cell (field_count_of x)) (events v w) steps;
          };
    }
  where
    v : View
    v = view_of x.seat

    w : View
    w = view_of y.seat

    k : MakesSharedAfter 20 0 (view_of x.seat) (view_of y.seat)
    k = s.does

    cell : ℕ
    cell = k.makes.cell

    id : ℕ
    id = next_word k.came.state

    first : List Step
    first = steps_of (events (view_of x.seat) k.came)

    fields : k.came.shape.fields ≡ field_count_of x
    fields = ap (λ (sh : Shape). sh.fields) (ran-shape (view_of x.seat) k.came k.leaves.ran ∙ (x.inside s.was).holds.sits.1)

    steps : steps_of (events (view_of x.seat) (view_of y.seat)) ≡ (first ++ nil_fields cell (field_count_of x)) ++ StoreNew cell (field_count_of x) 0 ∷ StoreNew cell (field_count_of x + 1) id ∷ HoldRoot 20 (cell + 1) ∷ []
    steps =
        ap steps_of (ran-events (view_of x.seat) k.came (view_of y.seat) k.leaves.ran k.makes.creates.ran)
        ∙ (steps_join (events (view_of x.seat) k.came) (events k.came (view_of y.seat))
        ∙ (ap (λ (l : List Step). first ++ l) k.makes.creates.steps_are
        ∙ (ap (λ (z : ℕ). first ++ (making_steps z cell 0 id ++ HoldRoot 20 (cell + 1) ∷ [])) fields
        ∙ (ap (λ (l : List Step). first ++ l) (append_assoc (nil_fields cell (field_count_of x)) (StoreNew cell (field_count_of x) 0 ∷ StoreNew cell (field_count_of x + 1) id ∷ []) (HoldRoot 20 (cell + 1) ∷ []))
        ∙ sym (append_assoc first (nil_fields cell (field_count_of x)) (StoreNew cell (field_count_of x) 0 ∷ StoreNew cell (field_count_of x + 1) id ∷ HoldRoot 20 (cell + 1) ∷ []))))))

module _ (a b d : Type 0) (u v w x y z o : SharedMutator) where
  -- it enters, asks for the root, makes a node, stores it in both fields, and leaves
  pub lays-root : IsSame u v → SharerActs a (LendsFound 0 0) v w → 0 < word_in (state_of w.seat) 0 → SharerActs b (MakesSharedAfter 20 0) w x → SharerActs d (SetsField 0 0 20) x y → SharerDoes (SetsField 0 1 20) (ops.Set 0 1 20) y z → SharerLeft z o → LaysRoot u o
  lays-root enters root some made first last leaves =
      record {
        adds = adds-as (Good n true true true) (LaysOut n 0 (hands 0)) (lays_out n) u o (adds-join (Good n true true true) IsQuiet (Good n true true true) (good_quiet n true true true) u z o four (quiet-adds z o leaves.same));
        outside = leaves.outside;
        number =
            ran-number (view_of z.seat) (view_of o.seat) leaves.same.leaves.ran
            ∙ (ran-number (view_of y.seat) (view_of z.seat) last.does.ran
            ∙ (ran-number (view_of x.seat) (view_of y.seat) first.does.ran
            ∙ (ran-number (view_of w.seat) (view_of x.seat) (made-ran w x 20 0 made.does) ∙ (ran-number (view_of v.seat) (view_of w.seat) root.does.ran ∙ ran-number (view_of u.seat) (view_of v.seat) enters.leaves.ran))));
      }
    where
      n : ℕ
      n = field_count_of u

      some_made : 0 < word_in (state_of x.seat) 0
      some_made = subst (λ (k : ℕ). 0 < k) (sym (made-other w x 0 20 0 (λ q. omega (arith, q)) made.does)) some

      some_first : 0 < word_in (state_of y.seat) 0
      some_first = subst (λ (s : SeatState). 0 < word_in s 0) (sym first.does.state) some_made

      one : Adds (Good n false false false) u w
      one = adds-join IsQuiet AsksWord (Good n false false false) (good_asked n) u v w (quiet-adds u v enters) (asks-adds a v w root some)

      node : Adds (MakesNode n) w x
      node = subst (λ (k : ℕ). Adds (MakesNode k) w x) (ap (λ h. h.shape.fields) one.heap) (makes_adds b w x made)

      two : Adds (Good n true false false) u x
      two = adds-join (Good n false false false) (MakesNode n) (Good n true false false) (good_made n) u w x one node

      three : Adds (Good n true true false) u y
      three = adds-join (Good n true false false) (StoresIn 0 20) (Good n true true false) (λ xs ys. good_stored n 0 false false xs ys stored_first) u x y two (stores-adds d x y 0 20 some_made first)

      four : Adds (Good n true true true) u z
      four = adds-join (Good n true true false) (StoresIn 1 20) (Good n true true true) (λ xs ys. good_stored n 1 true true xs ys stored_last) u y z three (stores-adds (IsInRange (field_count_of y) (ops.Set 0 1 20)) y z 1 20 some_first last)
