-- What each call of a thread adds to its log.
use Rattle.std.proofs.Common.{ℕ, ◌≡◌, ◌<◌, ◌+◌, ◌-◌, ◌==◌, ◌&&◌, ◌∙◌, List, [], ◌∷◌, ◌++◌, append_assoc, ap, arith, length, map, not, refl, subst, sym, ⊎_elim, Bool, true, false, Some}
use Rattle.std.specs.Prelude.{if◌then◌else◌, slice_index, slice_set, IsTrue, IsFalse}
use Rattle.std.specs.List.{range_with_len}
use Rattle.std.proofs.lemmas.Bool.{and_from, and_parts, eq-eqb, ne_eqb}
use Rattle.std.proofs.lemmas.List.{get_or-set_other, get_or-set_same}
use Rattle.mark_core.specs.Bits.{reference_in}
use Rattle.mark_core.specs.Cards.{card_of}
use Rattle.mark_core.specs.Seats.{used_in}
use Rattle.mark_core.specs.Steps.MutatorSteps.{seat_variable as word_in}
use Rattle.mark_core.specs.declared.kinds.Step.{Step}
use Rattle.mark_core.specs.declared.kinds.Step.TheVariants.{DirtyCard, ExchangeValue, ReadOwn, ReadValue, HoldRoot, StoreField, StoreNew}
use Rattle.mark_core.specs.declared.seat.SeatState.{SeatState}
use Rattle.alloc_cache.specs.Making.{making_steps, nil_fields}
use Rattle.card_clean.specs.Barrier.{barrier_steps, card_steps, cell_in, was_dirty}
use Rattle.gc_table.specs.Entries.{event}
use Rattle.gc_table.specs.Log.{all_steps, events, steps_of}
use Rattle.gc_table.specs.Running.{AllSeen, Ran}
use Rattle.gc_table.specs.Seats.{state_of, view_of}
use Rattle.gc_table.specs.Taking.{Finds}
use Rattle.gc_table.specs.declared.view.Entry.{Entry}
use Rattle.gc_table.specs.declared.view.View.{View}
use Rattle.gc_table.proofs.History.Log.{events-of}
use Rattle.gc_table.proofs.Running.{ran-grows}
use Rattle.mutator_ops.specs.Sharing.{FollowsFound, LendsFound, SetsField, ShareCreates, next_word}
use Rattle.seat_turns.specs.Exchanging.{ExchangesValue}
use Rattle.seat_turns.specs.Sharing.{FollowsField, MakesSharedAfter}
use Rattle.shared_heap.specs.Calls.{FindsValue, IsSame, SharerActs}
use Rattle.shared_heap.specs.Logs.{Adds}
use Rattle.shared_heap.specs.declared.mutator.SharedMutator.{SharedMutator}
use Rattle.shared_heap.proofs.Logs.{adds-join}
use Rattle.example_orders.specs.Threads.{ComesToRoot, FindsRoot, Looks, spares_root}
use Rattle.example_orders.specs.Variables.{Variables, after_log, after_step, word_after}
use Rattle.example_orders.proofs.Happening.{log_join}
use Rattle.example_orders.proofs.Pieces.{asking, quiet-spares, root-asked, steps-join}

-- What was done, as the log has it.
ran_log : (v w : View) → Ran v w → w.log ≡ v.log ++ events v w
ran_log v w ran = let g = ran-grows v w ran in g.1 ∙ ap (λ (l : List Entry). v.log ++ l) (sym (events-of v w g.0 g.1))

abbrev pub AreSpared : List Entry → Type 0
AreSpared es = all_steps spares_root es ≡ true

-- what no plain heap sees
pub same-spares : (x y : SharedMutator) → IsSame x y → Adds AreSpared x y
same-spares x y s = record { heap = s.world; more = events (view_of x.seat) (view_of y.seat); log = ran_log (view_of x.seat) (view_of y.seat) s.leaves.ran; are = quiet-spares (events (view_of x.seat) (view_of y.seat)) s.leaves.only }

-- The root is asked for, and found: then its variable has the word that was found.
found_word : (env : List ℕ) (r : ℕ) → 0 < slice_index (slice_set env 0 r) 0 → slice_index (slice_set env 0 r) 0 ≡ r
found_word [] r h = let none : 0 < 0 = h in absurd (omega (arith, none))
found_word (x ∷ env) r h = refl

pub comes : (range : Type 0) (v w x : SharedMutator) → IsSame v w → (s : SharerActs range (LendsFound 0 0) w x) → 0 < word_in (state_of x.seat) 0 → ComesToRoot v x
comes range v w x same s some =
    record {
      cell = cell;
      adds = adds-join AreSpared (λ es. es ≡ asking s.does.found s.does.old) (FindsRoot cell) (λ xs ys a e. subst (λ (l : List Entry). FindsRoot cell (xs ++ l)) (sym e) (root-asked s.does.found s.does.old cell xs a is)) v w x (same-spares v w same) (record { heap = s.world; more = events (view_of w.seat) (view_of x.seat); log = ran_log (view_of w.seat) (view_of x.seat) s.does.ran; are = s.does.events_are });
      word = word ∙ is;
    }
  where
    r : ℕ
    r = reference_in s.does.found

    cell : ℕ
    cell = reference_in s.does.found - 1

    word : word_in (state_of x.seat) 0 ≡ reference_in s.does.found
    word = let e = ap (λ (t : SeatState). word_in t 0) s.does.state in e ∙ found_word (view_of w.seat).state.env r (subst (λ (n : ℕ). 0 < n) e some)

    is : reference_in s.does.found ≡ (reference_in s.does.found - 1) + 1
    is = let more = subst (λ (n : ℕ). 0 < n) word some in omega (arith, more)

-- The value is exchanged, or read.
module _ (range : Type 0) (x y : SharedMutator) where
  pub exchanged : (won : Bool) (s : SharerActs range (ExchangesValue 0 0 1 won) x y) → Adds (λ es. es ≡ event (ExchangeValue 0 0 1) s.does.found ∷ []) x y
  exchanged won s = record { heap = s.world; more = event (ExchangeValue 0 0 1) s.does.found ∷ []; log = ap (λ (z : View). z.log) s.does.finds.0; are = refl }

  pub value-adds : (n cell : ℕ) → SharerActs range (FindsValue 0 n) x y → word_in (state_of x.seat) 0 ≡ cell + 1 → Adds (λ es. es ≡ event (ReadValue cell) n ∷ []) x y × (word_in (state_of y.seat) 0 ≡ cell + 1)
  value-adds n cell s word =
      let same : word_in (state_of x.seat) 0 - 1 ≡ cell = omega (arith, word) in (
        record { heap = s.world; more = event (ReadValue (word_in (state_of x.seat) 0 - 1)) n ∷ []; log = ap (λ (z : View). z.log) s.does.1.0; are = ap (λ (c : ℕ). event (ReadValue c) n ∷ []) same },
        ap (λ (z : View). word_in z.state 0) s.does.1.0 ∙ word,
      )

-- The field is read.
first_seen : (es rest : List Entry) (cell i found : ℕ) (v : View) → es ≡ event (ReadOwn cell i) found ∷ rest → AllSeen es v → Finds (ReadOwn cell i) found v
first_seen es rest cell i found v is seen = (subst (λ (l : List Entry). AllSeen l v) is seen).0.found refl

told : (nil : Bool) (word found : ℕ) → word ≡ reference_in found → (IsTrue nil → word ≡ 0) → (IsFalse nil → word ≡ 0 → ⊥) → not nil ≡ not (reference_in found == 0)
told true word found is empty full = ap not (sym (eq-eqb (reference_in found) 0 (sym is ∙ empty refl)))
told false word found is empty full = ap not (sym (ne_eqb (reference_in found) 0 (λ e. full refl (is ∙ e))))

pub look-adds : (range : Type 0) (x y : SharedMutator) (nil : Bool) → SharerActs range (FollowsField 1 0 0) x y → (IsTrue nil → word_in (state_of y.seat) 1 ≡ 0) → (IsFalse nil → word_in (state_of y.seat) 1 ≡ 0 → ⊥) → (cell : ℕ) → word_in (state_of x.seat) 0 ≡ cell + 1
    → Looks cell (not nil) x y
look-adds range x y nil s empty full cell word =
    ⊎_elim
    (λ none. absurd (let zero_word = none.0 in omega (arith, zero_word, word)))
    (λ some. follows some.1)
    s.does
  where
    v : View
    v = view_of x.seat

    w : View
    w = view_of y.seat

    same : word_in (state_of x.seat) 0 - 1 ≡ cell
    same = omega (arith, word)

    follows : FollowsFound 1 0 0 (view_of x.seat) (view_of y.seat) → Looks cell (not nil) x y
    follows f =
        let seen : Finds (ReadOwn (word_in v.state 0 - 1) 0) f.found v = first_seen (events v w) (event (HoldRoot 1 (reference_in f.found)) f.old ∷ []) (word_in v.state 0 - 1) 0 f.found v f.events_are f.ran.seen in
        let long : length v.state.env ≡ 32 = (seen.whole.core.formed.seats seen.index v.state seen.agrees.seat).env in
        let inside : 1 < length v.state.env = omega (arith, long) in
        let read : word_in w.state 1 ≡ reference_in f.found = ap (λ (t : SeatState). word_in t 1) f.state ∙ get_or-set_same v.state.env 1 (reference_in f.found) 0 inside in
        record {
          found = f.found;
          rest = event (HoldRoot 1 (reference_in f.found)) f.old ∷ [];
          adds = record { heap = s.world; more = events v w; log = ran_log v w f.ran; are = f.events_are ∙ ap (λ (c : ℕ). event (ReadOwn c 0) f.found ∷ event (HoldRoot 1 (reference_in f.found)) f.old ∷ []) same };
          spares = refl;
          is = told nil (word_in w.state 1) f.found read empty full;
          word = ap (λ (t : SeatState). word_in t 0) f.state ∙ (get_or-set_other v.state.env 1 0 (reference_in f.found) 0 (λ e. omega (arith, e)) ∙ word);
        }

-- Lists of steps.
abbrev all_of : (Step → Bool) → List Step → Bool
all_of P [] = true
all_of P (s ∷ ss) = P s && all_of P ss

steps_all : (P : Step → Bool) (es : List Entry) → all_steps P es ≡ all_of P (steps_of es)
steps_all P [] = refl
steps_all P (e ∷ es) = ap (λ (b : Bool). P e.step && b) (steps_all P es)

all_more : (P : Step → Bool) (xs ys : List Step) → all_of P xs ≡ true → all_of P ys ≡ true → all_of P (xs ++ ys) ≡ true
all_more P [] ys a b = b
all_more P (x ∷ xs) ys a b = let p = and_parts (P x) (all_of P xs) a in and_from (P x) (all_of P (xs ++ ys)) p.0 (all_more P xs ys p.1 b)

all_by : (P : Step → Bool) (b : Bool) (xs ys : List Step) → all_of P xs ≡ true → all_of P ys ≡ true → all_of P (if b then xs else ys) ≡ true
all_by P true xs ys s t = s
all_by P false xs ys s t = t

-- An object is made.
each_field : (cell : ℕ) (ns : List ℕ) → all_of spares_root (map (λ i. StoreNew cell i 0) ns) ≡ true
each_field cell [] = refl
each_field cell (n ∷ ns) = each_field cell ns

made_steps : (fields cell identity : ℕ) → all_of spares_root (making_steps fields cell 0 identity ++ HoldRoot 1 (cell + 1) ∷ []) ≡ true
made_steps fields cell identity =
    all_more spares_root (making_steps fields cell 0 identity) (HoldRoot 1 (cell + 1) ∷ [])
    (all_more spares_root (nil_fields cell fields) (StoreNew cell fields 0 ∷ StoreNew cell (fields + 1) identity ∷ []) (each_field cell (range_with_len 0 fields)) refl) refl

-- the word of variable 1 is told by the steps alone
abbrev words_by : ℕ → List Step → ℕ
words_by w [] = w
words_by w (s ∷ ss) = words_by (word_after 1 w s) ss

second_by : (k : Variables) (es : List Entry) → (after_log k es).second ≡ words_by k.second (steps_of es)
second_by k [] = refl
second_by k (e ∷ es) = second_by (after_step k e.step e.found) es

last_word : (w : ℕ) (ss : List Step) (r : ℕ) → words_by w (ss ++ HoldRoot 1 r ∷ []) ≡ reference_in r
last_word w [] r = refl
last_word w (s ∷ ss) r = last_word (word_after 1 w s) ss r

second_word : (env : List ℕ) (r c : ℕ) → slice_index (slice_set env 1 r) 1 ≡ c + 1 → r ≡ c + 1
second_word [] r c h = let none : 0 ≡ c + 1 = h in absurd (omega (arith, none))
second_word (x ∷ []) r c h = let none : 0 ≡ c + 1 = h in absurd (omega (arith, none))
second_word (x ∷ y ∷ env) r c h = h

-- what is made leaves variable 0, and variable 1 refers to it
pub record Made (c : ℕ) (es : List Entry) : Type 0 where
  pub spares : all_steps spares_root es ≡ true
  pub second : (k : Variables) → (after_log k es).second ≡ c + 1

pub make-adds : (range : Type 0) (x y : SharedMutator) (c : ℕ) → SharerActs range (MakesSharedAfter 1 0) x y → word_in (state_of y.seat) 1 ≡ c + 1 → Adds (Made c) x y × (word_in (state_of y.seat) 0 ≡ word_in (state_of x.seat) 0)
make-adds range x y c s place = (
  record {
    heap = s.world;
    more = events v came ++ events came w;
    log = ran_log came w creates.ran ∙ (ap (λ (l : List Entry). l ++ events came w) (ran_log v came s.does.leaves.ran) ∙ append_assoc v.log (events v came) (events came w));
    are = record { spares = steps-join spares_root (events v came) (events came w) (quiet-spares (events v came) s.does.leaves.only) (steps_all spares_root (events came w) ∙ (ap (all_of spares_root) creates.steps_are ∙ made_steps came.shape.fields cell (next_word came.state))); second = second };
  },
  ap (λ (t : SeatState). word_in t 0) creates.state ∙ (get_or-set_other came.state.env 1 0 (reference_in (cell + 1)) 0 (λ e. omega (arith, e)) ∙ ap (λ (l : List ℕ). slice_index l 0) s.does.leaves.words),
)
  where
    v : View
    v = view_of x.seat

    w : View
    w = view_of y.seat

    came : View
    came = s.does.came

    cell : ℕ
    cell = s.does.makes.cell

    creates : ShareCreates 1 0 s.does.makes.cell s.does.came (view_of y.seat)
    creates = s.does.makes.creates

    word : reference_in (s.does.makes.cell + 1) ≡ c + 1
    word = second_word came.state.env (reference_in (cell + 1)) c (sym (ap (λ (t : SeatState). word_in t 1) creates.state) ∙ place)

    second : (k : Variables) → (after_log k (events (view_of x.seat) s.does.came ++ events s.does.came (view_of y.seat))).second ≡ c + 1
    second k =
        let more : Variables = after_log k (events v came) in
        ap (λ (z : Variables). z.second) (log_join k (events v came) (events came w))
        ∙ (second_by more (events came w)
        ∙ (ap (words_by more.second) creates.steps_are ∙ (last_word more.second (making_steps came.shape.fields cell 0 (next_word came.state)) (cell + 1) ∙ word)))

-- The object is stored in the root's field.
abbrev card_part : SeatState → Bool → List Step
card_part s dirty = if used_in s.cache (cell_in s 0) then [] else card_steps (card_of (cell_in s 0)) dirty

card_spares : (s : SeatState) (dirty : Bool) → all_of spares_root (card_part s dirty) ≡ true
card_spares s dirty =
    let card : ℕ = card_of (cell_in s 0) in
    all_by spares_root (used_in s.cache (cell_in s 0)) [] (card_steps card dirty) refl (all_by spares_root dirty [] (DirtyCard card ∷ []) refl refl)

-- the store comes first, and then what leaves variable 0, and all values and fields
pub record Stored (es : List Entry) : Type 0 where
  pub first : Entry
  pub rest : List Entry
  pub is : es ≡ first ∷ rest
  pub step : first.step ≡ StoreField 0 0 (Some 1)
  pub spares : all_steps spares_root rest ≡ true

stored_first : (es : List Entry) (ss : List Step) → steps_of es ≡ StoreField 0 0 (Some 1) ∷ ss → all_of spares_root ss ≡ true → Stored es
stored_first [] ss e a = absurd (cc)
stored_first (x ∷ xs) ss e a = record { first = x; rest = xs; is = refl; step = head_is e; spares = steps_all spares_root xs ∙ (ap (all_of spares_root) (tail_is e) ∙ a) }
  where
    head_is : x.step ∷ steps_of xs ≡ StoreField 0 0 (Some 1) ∷ ss → x.step ≡ StoreField 0 0 (Some 1)
    head_is q = cc

    tail_is : x.step ∷ steps_of xs ≡ StoreField 0 0 (Some 1) ∷ ss → steps_of xs ≡ ss
    tail_is q = cc

pub set-adds : (range : Type 0) (x y : SharedMutator) (cell : ℕ) → SharerActs range (SetsField 0 0 1) x y → word_in (state_of x.seat) 0 ≡ cell + 1 → Adds Stored x y
set-adds range x y cell s word =
    let v : View = view_of x.seat in
    let w : View = view_of y.seat in
    let dirty : Bool = was_dirty (events v w) in
    let some : (word_in v.state 0 == 0) ≡ false = ne_eqb (word_in v.state 0) 0 (λ e. omega (arith, e, word)) in
    let steps = s.does.steps_are ∙ ap (λ (b : Bool). if b then [] else barrier_steps v.state 0 0 (Some 1) dirty) some in
    record { heap = s.world; more = events v w; log = ran_log v w s.does.ran; are = stored_first (events v w) (card_part v.state dirty) steps (card_spares v.state dirty) }
