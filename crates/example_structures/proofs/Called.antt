-- What a call of a mutator changed, and what its log tells of a variable then.
use Rattle.std.proofs.Common.{ℕ, ◌≡◌, ◌≢◌, ◌<◌, ◌+◌, ◌==◌, ◌&&◌, ◌∙◌, ◌⊎◌, inl, inr, ⊎_elim, List, [], ◌∷◌, ◌++◌, append-nil, ap, arith, get_or, length, map, not, refl, subst, sym, Bool, true, false, Some}
use Rattle.std.specs.Prelude.{if◌then◌else◌}
use Rattle.std.specs.List.{range_with_len}
use Rattle.std.proofs.Math.Logic.{∥∥₁_elim}
use Rattle.std.proofs.Props.{props}
use Rattle.std.proofs.lemmas.Bool.{and_from, eq-eqb, ne_eqb}
use Rattle.std.proofs.lemmas.List.{get_or-set_other, get_or-set_same}
use Rattle.mark_core.specs.Bits.{reference_in}
use Rattle.mark_core.specs.Cards.{card_of}
use Rattle.mark_core.specs.Numbers.{section_variables}
use Rattle.mark_core.specs.Seats.{used_in}
use Rattle.mark_core.specs.Steps.MutatorSteps.{seat_variable as word_in}
use Rattle.mark_core.specs.declared.kinds.Step.{Step}
use Rattle.mark_core.specs.declared.kinds.Step.TheVariants.{CheckCard, DirtyCard, ExchangeField, HoldRoot, StoreField, StoreNew}
use Rattle.mark_core.specs.declared.seat.SeatState.{SeatState}
use Rattle.alloc_cache.specs.Making.{making_steps, nil_fields}
use Rattle.gc_table.specs.Log.{all_steps, event, events, steps_of}
use Rattle.gc_table.specs.Rule.{IsPossible}
use Rattle.gc_table.specs.Running.{Ran}
use Rattle.gc_table.specs.Seats.{did, state_of, view_of}
use Rattle.gc_table.specs.declared.view.Entry.{Entry}
use Rattle.gc_table.specs.declared.view.View.{View}
use Rattle.gc_table.proofs.History.Log.{events-after, events-of}
use Rattle.gc_table.proofs.Running.{ran-events, ran-found, ran-grows, ran-join}
use Rattle.card_clean.specs.Barrier.{barrier_steps, card_steps, cell_in, seen_to, was_dirty}
use Rattle.mutator_ops.specs.Sharing.{SetsField, SetsVariable, next_word}
use Rattle.seat_turns.specs.Exchanging.{ExchangesField}
use Rattle.seat_turns.specs.Sharing.{FollowsField, MakesSharedAfter, spares_heap}
use Rattle.shared_heap.specs.Calls.{FindsValue, IsSame}
use Rattle.shared_heap.specs.declared.mutator.SharedMutator.{SharedMutator}
use Rattle.example_structures.specs.Changes.{Change, ChangesNone, IsTold, changed_in, changes_of, no_words, told_of, words_by}
use Rattle.example_structures.proofs.Changed.{all-join, all-more, all-of-join, all_of, changed-join, changed-spared, changed-stored, heap-objects, heap-variable, spares_objects, spares_variable, steps-all, words-join, words-spared}

-- what was done, as the log has it
pub ran-log : (v w : View) → Ran v w → w.log ≡ v.log ++ events v w
ran-log v w ran = let g = ran-grows v w ran in g.1 ∙ ap (λ (l : List Entry). v.log ++ l) (sym (events-of v w g.0 g.1))

pub env-long : (v : View) → ∥ IsPossible v ∥₁ → length v.state.env ≡ section_variables
env-long v p = ∥∥₁_elim p (Prim.hlevel props) (λ (q : IsPossible v). (q.whole.core.formed.seats q.index v.state q.agrees.seat).env)

module _ (x y : SharedMutator) where
  -- what these steps changed comes behind what was changed before
  pub changes-ran : Ran (view_of x.seat) (view_of y.seat) → changes_of y ≡ changes_of x ++ changed_in (told_of x) (did x.seat y.seat)
  unfolding changes_of told_of
  changes-ran r = ap (changed_in no_words) (ran-log (view_of x.seat) (view_of y.seat) r) ∙ changed-join no_words (view_of x.seat).log (did x.seat y.seat)

  told_ran : Ran (view_of x.seat) (view_of y.seat) → told_of y ≡ words_by (told_of x) (did x.seat y.seat)
  unfolding told_of
  told_ran r = ap (words_by no_words) (ran-log (view_of x.seat) (view_of y.seat) r) ∙ words-join no_words (view_of x.seat).log (did x.seat y.seat)

  none_spared : Ran (view_of x.seat) (view_of y.seat) → all_steps spares_objects (did x.seat y.seat) ≡ true → ChangesNone x y
  none_spared r a = changes-ran r ∙ (ap (λ (l : List Change). changes_of x ++ l) (changed-spared (told_of x) (did x.seat y.seat) a) ∙ append-nil (changes_of x))

  told_spared : (u : ℕ) → Ran (view_of x.seat) (view_of y.seat) → all_steps (spares_variable u) (did x.seat y.seat) ≡ true → word_in (state_of y.seat) u ≡ word_in (state_of x.seat) u → IsTold u x → IsTold u y
  told_spared u r a w t = ap (λ (f : ℕ → ℕ). f u) (told_ran r) ∙ (words-spared (told_of x) u (did x.seat y.seat) a ∙ (t ∙ sym w))

  -- nothing was done that a plain heap sees
  pub same-none : IsSame x y → ChangesNone x y
  same-none s = none_spared s.leaves.ran (all-more spares_heap spares_objects heap-objects (did x.seat y.seat) s.leaves.only)

  pub same-told : (u : ℕ) → IsSame x y → IsTold u x → IsTold u y
  same-told u s = told_spared u s.leaves.ran (all-more spares_heap (spares_variable u) (heap-variable u) (did x.seat y.seat) s.leaves.only) (ap (λ (l : List ℕ). get_or l u 0) s.leaves.words)

  -- a variable was stored
  other : (u w : ℕ) → u ≢ w → not (u == w) && true ≡ true
  other u w ne = and_from (not (u == w)) true (ap not (ne_eqb u w ne)) refl

  pub variable-none : (w r : ℕ) → SetsVariable w r (view_of x.seat) (view_of y.seat) → ChangesNone x y
  variable-none w r s = none_spared s.ran (subst (λ (es : List Entry). all_steps spares_objects es ≡ true) (sym s.events_are) refl)

  pub variable-told : (u w r : ℕ) → u ≢ w → SetsVariable w r (view_of x.seat) (view_of y.seat) → IsTold u x → IsTold u y
  variable-told u w r ne s =
      told_spared u s.ran (subst (λ (es : List Entry). all_steps (spares_variable u) es ≡ true) (sym s.events_are) (other u w ne))
      (ap (λ (z : SeatState). word_in z u) s.state ∙ get_or-set_other (state_of x.seat).env w u (reference_in r) 0 ne)

  -- a value was read
  pub value-none : (v n : ℕ) → FindsValue v n (view_of x.seat) (view_of y.seat) → ChangesNone x y
  value-none v n s =
      none_spared (ran-found (view_of x.seat) (view_of y.seat) _ n refl s.1)
      (subst (λ (es : List Entry). all_steps spares_objects es ≡ true) (sym (events-after (view_of x.seat) (view_of y.seat) _ n s.1.0)) refl)

  pub value-told : (u v n : ℕ) → FindsValue v n (view_of x.seat) (view_of y.seat) → IsTold u x → IsTold u y
  value-told u v n s =
      told_spared u (ran-found (view_of x.seat) (view_of y.seat) _ n refl s.1)
      (subst (λ (es : List Entry). all_steps (spares_variable u) es ≡ true) (sym (events-after (view_of x.seat) (view_of y.seat) _ n s.1.0)) refl)
      (ap (λ (z : View). word_in z.state u) s.1.0)

  -- a field was followed
  pub get-none : (w v i : ℕ) → FollowsField w v i (view_of x.seat) (view_of y.seat) → ChangesNone x y
  get-none w v i =
      ⊎_elim
      (λ t. variable-none w 0 t.1)
      (λ t. none_spared t.1.ran (subst (λ (es : List Entry). all_steps spares_objects es ≡ true) (sym t.1.events_are) refl))

  pub get-told : (u w v i : ℕ) → u ≢ w → FollowsField w v i (view_of x.seat) (view_of y.seat) → IsTold u x → IsTold u y
  get-told u w v i ne =
      ⊎_elim
      (λ t. variable-told u w 0 ne t.1)
      (λ t.
      told_spared u t.1.ran (subst (λ (es : List Entry). all_steps (spares_variable u) es ≡ true) (sym t.1.events_are) (other u w ne))
      (ap (λ (z : SeatState). word_in z u) t.1.state ∙ get_or-set_other (state_of x.seat).env w u (reference_in t.1.found) 0 ne))

  here : (u r : ℕ) (words : ℕ → ℕ) → (if u == u then r else words u) ≡ r
  here u r words = ap (λ (b : Bool). if b then r else words u) (eq-eqb u u refl)

  -- the log tells of the variable that was stored what it was found to be
  pub get-tells : (u v i : ℕ) → u < section_variables → FollowsField u v i (view_of x.seat) (view_of y.seat) → IsTold u y
  get-tells u v i below =
      ⊎_elim
      (λ t.
      ap (λ (f : ℕ → ℕ). f u) (told_ran t.1.ran)
      ∙ (ap (λ (es : List Entry). words_by (told_of x) es u) t.1.events_are ∙ (here u 0 (told_of x) ∙ sym (ap (λ (z : SeatState). word_in z u) t.1.state ∙ get_or-set_same (state_of x.seat).env u (reference_in 0) 0 (inside u below)))))
      (λ t.
      ap (λ (f : ℕ → ℕ). f u) (told_ran t.1.ran)
      ∙ (ap (λ (es : List Entry). words_by (told_of x) es u) t.1.events_are
      ∙ (here u (reference_in t.1.found) (told_of x) ∙ sym (ap (λ (z : SeatState). word_in z u) t.1.state ∙ get_or-set_same (state_of x.seat).env u (reference_in t.1.found) 0 (inside u below)))))
    where
      inside : (u : ℕ) → u < section_variables → u < length (state_of x.seat).env
      inside u below = let long = env-long (view_of x.seat) x.seat.possible in omega (arith, below, long)

  -- an object was made
  pub made-ran : (w n : ℕ) → MakesSharedAfter w n (view_of x.seat) (view_of y.seat) → Ran (view_of x.seat) (view_of y.seat)
  made-ran w n k = ran-join (view_of x.seat) k.came (view_of y.seat) k.leaves.ran k.makes.creates.ran

  makings : (P : Step → Bool) (w n fields cell identity : ℕ) → ((c part word : ℕ) → P (StoreNew c part word) ≡ true) → P (HoldRoot w (cell + 1)) ≡ true → all_of P (making_steps fields cell n identity ++ HoldRoot w (cell + 1) ∷ []) ≡ true
  makings P w n fields cell identity new root =
      all-of-join P (making_steps fields cell n identity) (HoldRoot w (cell + 1) ∷ [])
      (all-of-join P (nil_fields cell fields) (StoreNew cell fields n ∷ StoreNew cell (fields + 1) identity ∷ []) (nil_all (range_with_len 0 fields)) (and_from _ _ (new cell fields n) (and_from _ true (new cell (fields + 1) identity) refl)))
      (and_from _ true root refl)
    where
      nil_all : (is : List ℕ) → all_of P (map (λ (i : ℕ). StoreNew cell i 0) is) ≡ true
      nil_all [] = refl
      nil_all (i ∷ is) = and_from (P (StoreNew cell i 0)) (all_of P (map (λ (i : ℕ). StoreNew cell i 0) is)) (new cell i 0) (nil_all is)

  pub made-all : (P : Step → Bool) (w n : ℕ) (k : MakesSharedAfter w n (view_of x.seat) (view_of y.seat)) → ((step : Step) → spares_heap step ≡ true → P step ≡ true) → ((c part word : ℕ) → P (StoreNew c part word) ≡ true) → P (HoldRoot w (k.makes.cell + 1)) ≡ true → all_steps P (did x.seat y.seat) ≡ true
  made-all P w n k spared new root =
      subst (λ (es : List Entry). all_steps P es ≡ true) (sym (ran-events (view_of x.seat) k.came (view_of y.seat) k.leaves.ran k.makes.creates.ran))
      (all-join P (events (view_of x.seat) k.came) (events k.came (view_of y.seat)) (all-more spares_heap P spared (events (view_of x.seat) k.came) k.leaves.only)
      (steps-all P (events k.came (view_of y.seat)) ∙ (ap (all_of P) k.makes.creates.steps_are ∙ makings P w n k.came.shape.fields k.makes.cell (next_word k.came.state) new root)))

  pub made-none : (w n : ℕ) → MakesSharedAfter w n (view_of x.seat) (view_of y.seat) → ChangesNone x y
  made-none w n k = none_spared (made-ran w n k) (made-all spares_objects w n k heap-objects (λ c part word. refl) refl)

  pub made-other : (u w n : ℕ) → u ≢ w → MakesSharedAfter w n (view_of x.seat) (view_of y.seat) → word_in (state_of y.seat) u ≡ word_in (state_of x.seat) u
  made-other u w n ne k =
      ap (λ (z : SeatState). word_in z u) k.makes.creates.state
      ∙ (get_or-set_other k.came.state.env w u (reference_in (k.makes.cell + 1)) 0 ne ∙ ap (λ (l : List ℕ). get_or l u 0) k.leaves.words)

  pub made-told : (u w n : ℕ) → u ≢ w → MakesSharedAfter w n (view_of x.seat) (view_of y.seat) → IsTold u x → IsTold u y
  made-told u w n ne k =
      told_spared u (made-ran w n k) (made-all (spares_variable u) w n k (heap-variable u) (λ c part word. refl) (ap not (ne_eqb u w ne))) (made-other u w n ne k)

  -- a field was exchanged
  exchanged_rest : (words : ℕ → ℕ) (u word : ℕ) (won : Bool) → changed_in words (if won then seen_to (state_of x.seat) u word else []) ≡ []
  exchanged_rest words u word true = card_rest (used_in (state_of x.seat).cache (cell_in (state_of x.seat) u)) (word == 1)
    where
      card_rest : (b d : Bool) → changed_in words (if b then [] else event (CheckCard (card_of (cell_in (state_of x.seat) u))) word ∷ (if d then [] else event (DirtyCard (card_of (cell_in (state_of x.seat) u))) 1 ∷ [])) ≡ []
      card_rest true d = refl
      card_rest false true = refl
      card_rest false false = refl
  exchanged_rest words u word false = refl

  exchanged_did : (u i e n : ℕ) (won : Bool) (s : ExchangesField u i e n won (view_of x.seat) (view_of y.seat)) → changes_of y ≡ changes_of x ++ record { step = ExchangeField u i (Some e) (Some n); won = s.exchanged.found == told_of x e } ∷ []
  exchanged_did u i e n won s =
      changes-ran s.ran
      ∙ ap (λ (l : List Change). changes_of x ++ l)
      (ap (changed_in (told_of x)) s.exchanged.did_are
      ∙ ap (λ (l : List Change). record { step = ExchangeField u i (Some e) (Some n); won = s.exchanged.found == told_of x e } ∷ l) (exchanged_rest (told_of x) u s.exchanged.card_word won))

  pub exchanged-some : (u i e n : ℕ) (won : Bool) → ExchangesField u i e n won (view_of x.seat) (view_of y.seat) → (b : Bool) × (changes_of y ≡ changes_of x ++ record { step = ExchangeField u i (Some e) (Some n); won = b } ∷ [])
  exchanged-some u i e n won s = (s.exchanged.found == told_of x e, exchanged_did u i e n won s)

  pub exchanged-told : (u i e n : ℕ) (won : Bool) → IsTold e x → ExchangesField u i e n won (view_of x.seat) (view_of y.seat) → changes_of y ≡ changes_of x ++ record { step = ExchangeField u i (Some e) (Some n); won = won } ∷ []
  exchanged-told u i e n won told s =
      subst (λ (b : Bool). changes_of y ≡ changes_of x ++ record { step = ExchangeField u i (Some e) (Some n); won = b } ∷ []) (ap (λ (k : ℕ). s.exchanged.found == k) told ∙ sym s.exchanged.won_by) (exchanged_did u i e n won s)

  -- a reference was stored in a field
  setting_rest : (b d : Bool) (card : ℕ) → all_of spares_objects (if b then [] else card_steps card d) ≡ true
  setting_rest true d card = refl
  setting_rest false true card = refl
  setting_rest false false card = refl

  set_by : (b : Bool) (u i w : ℕ) → Ran (view_of x.seat) (view_of y.seat) → steps_of (did x.seat y.seat) ≡ (if b then [] else barrier_steps (state_of x.seat) u i (Some w) (was_dirty (did x.seat y.seat)))
      → (changes_of y ≡ changes_of x) ⊎ (changes_of y ≡ changes_of x ++ record { step = StoreField u i (Some w); won = true } ∷ [])
  set_by true u i w r e = inl (none_spared r (steps-all spares_objects (did x.seat y.seat) ∙ ap (all_of spares_objects) e))
  set_by false u i w r e =
      inr (changes-ran r ∙ ap (λ (l : List Change). changes_of x ++ l) (changed-stored (told_of x) (did x.seat y.seat) u i (Some w) _ e (setting_rest (used_in (state_of x.seat).cache (cell_in (state_of x.seat) u)) (was_dirty (did x.seat y.seat)) (card_of (cell_in (state_of x.seat) u)))))

  pub set-changes : (u i w : ℕ) → SetsField u i w (view_of x.seat) (view_of y.seat) → (changes_of y ≡ changes_of x) ⊎ (changes_of y ≡ changes_of x ++ record { step = StoreField u i (Some w); won = true } ∷ [])
  set-changes u i w s = set_by (word_in (state_of x.seat) u == 0) u i w s.ran s.steps_are

  pub set-some : (u i w : ℕ) → 0 < word_in (state_of x.seat) u → SetsField u i w (view_of x.seat) (view_of y.seat) → changes_of y ≡ changes_of x ++ record { step = StoreField u i (Some w); won = true } ∷ []
  set-some u i w some s =
      changes-ran s.ran
      ∙ ap (λ (l : List Change). changes_of x ++ l)
      (changed-stored (told_of x) (did x.seat y.seat) u i (Some w) _
      (s.steps_are ∙ ap (λ (b : Bool). if b then [] else barrier_steps (state_of x.seat) u i (Some w) (was_dirty (did x.seat y.seat))) (ne_eqb (word_in (state_of x.seat) u) 0 (λ e. omega (arith, e, some))))
      (setting_rest (used_in (state_of x.seat).cache (cell_in (state_of x.seat) u)) (was_dirty (did x.seat y.seat)) (card_of (cell_in (state_of x.seat) u))))

  setting_spares : (u v i w : ℕ) (b : Bool) (card : ℕ) (is_new dirty : Bool) → all_of (spares_variable u) (if b then [] else StoreField v i (Some w) ∷ (if is_new then [] else card_steps card dirty)) ≡ true
  setting_spares u v i w true card is_new dirty = refl
  setting_spares u v i w false card true dirty = refl
  setting_spares u v i w false card false true = refl
  setting_spares u v i w false card false false = refl

  pub set-told : (u v i w : ℕ) → SetsField v i w (view_of x.seat) (view_of y.seat) → IsTold u x → IsTold u y
  set-told u v i w s =
      told_spared u s.ran
      (steps-all (spares_variable u) (did x.seat y.seat)
      ∙ (ap (all_of (spares_variable u)) s.steps_are
      ∙ setting_spares u v i w (word_in (state_of x.seat) v == 0) (card_of (cell_in (state_of x.seat) v)) (used_in (state_of x.seat).cache (cell_in (state_of x.seat) v)) (was_dirty (did x.seat y.seat))))
      (ap (λ (z : SeatState). word_in z u) s.state)
