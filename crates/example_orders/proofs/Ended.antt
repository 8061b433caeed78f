-- A world for four threads is opened, and what they added to their logs ends in what its words say.
use Rattle.std.proofs.Common.{ℕ, zero, suc, ◌≡◌, ◌⊎◌, ◌+◌, ◌≤◌, ◌∙◌, List, [], ◌∷◌, ◌++◌, append_assoc, ap, arith, inl, inr, length, refl, subst, sym, ⊎_elim, Bool, true, false, Some}
use Rattle.std.specs.Prelude.{IsFalse, slice_get}
use Rattle.std.specs.Bool.{OnTrue}
use Rattle.std.specs.Arc.{arc_value}
use Rattle.std.proofs.lemmas.Bool.{and_from, and_parts, false≢true}
use Rattle.std.proofs.lemmas.List.{append-nil}
use Rattle.std.proofs.lemmas.Option.{same_Some}
use Rattle.mark_core.specs.declared.kinds.Event.{Event}
use Rattle.mark_core.specs.declared.kinds.Shape.{Shape}
use Rattle.mark_core.specs.declared.kinds.Step.{Step}
use Rattle.mark_core.specs.declared.kinds.Step.TheVariants.{ExchangeField, ExchangeValue, StoreField, StoreValue}
use Rattle.gc_table.specs.Entries.{event}
use Rattle.gc_table.specs.Lending.{RefersTo}
use Rattle.gc_table.specs.Log.{all_steps}
use Rattle.gc_table.specs.Past.{log_of}
use Rattle.gc_table.specs.Seats.{view_of}
use Rattle.gc_table.specs.Single.{spares_values}
use Rattle.gc_table.specs.declared.seat.Heap.{Heap}
use Rattle.gc_table.specs.declared.seat.HeapSeat.{HeapSeat}
use Rattle.gc_table.specs.declared.view.Entry.{Entry}
use Rattle.gc_table.specs.declared.view.View.{View}
use Rattle.gc_table.specs.declared.words.Words.{Words}
use Rattle.gc_table.proofs.History.Log.{events-of}
use Rattle.gc_table.proofs.Running.{ran-grows}
use Rattle.heap_laws.specs.Lent.{LentByLog}
use Rattle.heap_laws.specs.Moments.{IsHistory}
use Rattle.heap_laws.specs.Variables.{VariablesRead}
use Rattle.seat_turns.specs.Sharing.{spares_heap}
use Rattle.managed_heap.specs.Gathering.{AreLeft}
use Rattle.managed_heap.specs.declared.sizes.Sizes.{Sizes}
use Rattle.managed_heap.proofs.SeatsGathered.{left-at}
use Rattle.shared_heap.specs.Closing.{HasLeft, IsSharedEnd, all_seats}
use Rattle.shared_heap.specs.Lending.{IsFreshSharer, IsSharedOpened, KeepsRest}
use Rattle.shared_heap.specs.Logs.{Adds}
use Rattle.shared_heap.specs.Rooting.{spares_fields}
use Rattle.shared_heap.specs.Threads.{IsWhole, ThreadsRun}
use Rattle.shared_heap.specs.declared.mutator.SharedMutator.{SharedMutator}
use Rattle.shared_heap.specs.declared.world.SharedWorld.{SharedWorld}
use Rattle.example_orders.specs.Fours.{AreNew}
use Rattle.example_orders.specs.Orders.{FieldThenValue, OnlyFills, ValueThenField, all_fill, fills}
use Rattle.example_orders.specs.Rounds.{AreAgainst, IsOrdered}
use Rattle.example_orders.specs.Threads.{ReadsFieldFirst, ReadsValueFirst, StoresField, StoresNone, StoresValue}
use Rattle.example_orders.specs.Variables.{Variables, after_log, after_step, all_nil}
use Rattle.example_orders.specs.declared.ordering.Readings.{Readings}
use Rattle.example_orders.proofs.Agreeing.{none-contradict}
use Rattle.example_orders.proofs.Pieces.{fill_join, none-fill, quiet-spares, stores-none}

-- The first four mutators of a new world.
module _ (sizes : Sizes) (u v w x y : SharedWorld) (a b c d : SharedMutator) where
  pub are-new : IsSharedOpened sizes u → u.mutators.items ≡ a ∷ v.mutators.items → KeepsRest u v → v.mutators.items ≡ b ∷ w.mutators.items → KeepsRest v w → w.mutators.items ≡ c ∷ x.mutators.items → KeepsRest w x → x.mutators.items ≡ d ∷ y.mutators.items → KeepsRest x y → AreNew y a b c d
  are-new opened one k two l three m four n = record { value = at 0 a items refl; field = at 1 b items refl; first = at 2 c items refl; second = at 3 d items refl }
    where
      heap : arc_value y.heap ≡ arc_value u.heap
      heap = ap (λ h. arc_value h) (n.heap ∙ (m.heap ∙ (l.heap ∙ k.heap)))

      name : y.sizes.name ≡ sizes.name
      name = ap (λ (s : Sizes). s.name) (n.sizes_are ∙ (m.sizes_are ∙ (l.sizes_are ∙ (k.sizes_are ∙ opened.sizes_are))))

      items : (i : ℕ) → slice_get u.mutators.items i ≡ slice_get (a ∷ b ∷ c ∷ d ∷ y.mutators.items) i
      items i = ap (λ (s : List SharedMutator). slice_get s i) (one ∙ (ap (λ (s : List SharedMutator). a ∷ s) two ∙ (ap (λ (s : List SharedMutator). a ∷ b ∷ s) three ∙ ap (λ (s : List SharedMutator). a ∷ b ∷ c ∷ s) four)))

      at : (i : ℕ) (e : SharedMutator) → ((j : ℕ) → slice_get u.mutators.items j ≡ slice_get (a ∷ b ∷ c ∷ d ∷ y.mutators.items) j) → slice_get (a ∷ b ∷ c ∷ d ∷ y.mutators.items) i ≡ Some e → IsFreshSharer (arc_value y.heap) y.sizes.name (1 + i) e
      at i e all there = subst (λ (z : Heap × ℕ). IsFreshSharer z.0 z.1 (1 + i) e) (λ t. (sym heap t, sym name t)) (opened.fresh i e (all i ∙ there))

-- what was added is the whole log of a mutator that had done nothing, and it is of its world
pub whole-log : (P : List Entry → Type 0) (h : Heap) (name k : ℕ) (x y : SharedMutator) → IsFreshSharer h name k x → Adds P x y → (arc_value y.heap ≡ h) × P (view_of y.seat).log
whole-log P h name k x y f a = (a.heap ∙ f.heap, subst P (sym (a.log ∙ ap (λ (l : List Entry). l ++ a.more) f.log)) a.are)

-- Who left has added nothing that a plain heap sees.
left_log : (m : SharedMutator) (s : HeapSeat) → HasLeft m s → (more : List Entry) × ((view_of s).log ≡ (view_of m.seat).log ++ more) × (all_steps spares_heap more ≡ true)
left_log m s h =
    let v : View = view_of m.seat in
    let w : View = view_of h.left.seat in
    let leaves = h.leaves.same.leaves in
    let g = ran-grows v w leaves.ran in (
      g.0,
      ap (λ (t : HeapSeat). (view_of t).log) h.seat_is ∙ g.1,
      subst (λ (es : List Entry). all_steps spares_heap es ≡ true) (events-of v w g.0 g.1) leaves.only,
    )

more_fills : (xs ys : List Entry) → OnlyFills xs → all_steps spares_heap ys ≡ true → OnlyFills (xs ++ ys)
more_fills xs ys f a = fill_join all_nil xs ys f (none-fill (after_log all_nil xs) ys (stores-none ys (quiet-spares ys a)))

-- What each of those that store did takes nothing back.
value_fills : (log : List Entry) → StoresValue log → OnlyFills log
value_fills log v =
    subst OnlyFills (sym v.is)
    (fill_join all_nil v.before (event (ExchangeValue 0 0 1) v.found ∷ v.after) (none-fill all_nil v.before v.once.0) (none-fill (after_step (after_log all_nil v.before) (ExchangeValue 0 0 1) v.found) v.after v.once.1))

field_fills : (log : List Entry) → StoresField log → OnlyFills log
field_fills log v =
    let k : Variables = after_log all_nil v.before in
    subst OnlyFills (sym v.is)
    (fill_join all_nil v.before (v.stored ∷ v.after) (none-fill all_nil v.before v.once.0)
    (and_from (fills k v.stored.step) (all_fill (after_step k v.stored.step v.stored.found) v.after) (ap (fills k) v.step ∙ v.object) (none-fill (after_step k v.stored.step v.stored.found) v.after v.once.1)))

-- What was read stays read.
longer : (before between after more log : List Entry) (e f : Entry) → log ≡ before ++ e ∷ (between ++ f ∷ after) → log ++ more ≡ before ++ e ∷ (between ++ f ∷ (after ++ more))
longer before between after more log e f is =
    ap (λ (l : List Entry). l ++ more) is ∙ (append_assoc before (e ∷ (between ++ f ∷ after)) more ∙ ap (λ (l : List Entry). before ++ e ∷ l) (append_assoc between (f ∷ after) more))

value_more : (n : ℕ) (some : Bool) (log more : List Entry) → ValueThenField n some log → ValueThenField n some (log ++ more)
value_more n some log more v = record { before = v.before; first = v.first; between = v.between; second = v.second; after = v.after ++ more; is = longer v.before v.between v.after more log v.first v.second v.is; value = v.value; field = v.field }

field_more : (some : Bool) (n : ℕ) (log more : List Entry) → FieldThenValue some n log → FieldThenValue some n (log ++ more)
field_more some n log more v = record { before = v.before; first = v.first; between = v.between; second = v.second; after = v.after ++ more; is = longer v.before v.between v.after more log v.first v.second v.is; field = v.field; value = v.value }

-- The seat of section 0, which changes no value and stores in no field.
zero_step : (fields : ℕ) (k : Variables) (step : Step) → spares_values fields step ≡ true → spares_fields step ≡ true → fills k step ≡ true
zero_step fields k (StoreValue v n) a e = absurd (false≢true a)
zero_step fields k (ExchangeValue v m n) a e = absurd (false≢true a)
zero_step fields k (StoreField v i x) a e = absurd (false≢true e)
zero_step fields k (ExchangeField v i x y) a e = absurd (false≢true e)
zero_step fields k step a e = refl

zero_fills : (fields : ℕ) (k : Variables) (es : List Entry) → all_steps (spares_values fields) es ≡ true → all_steps spares_fields es ≡ true → all_fill k es ≡ true
zero_fills fields k [] a e = refl
zero_fills fields k (x ∷ xs) a e =
    let p = and_parts (spares_values fields x.step) (all_steps (spares_values fields) xs) a in
    let q = and_parts (spares_fields x.step) (all_steps spares_fields xs) e in
    and_from (fills k x.step) (all_fill (after_step k x.step x.found) xs) (zero_step fields k x.step p.0 q.0) (zero_fills fields (after_step k x.step x.found) xs p.1 q.1)

-- Each seat is the first, or what was left of a mutator.
there_or_past : (xs : List HeapSeat) (i : ℕ) → ((s : HeapSeat) × (slice_get xs i ≡ Some s)) ⊎ (length xs ≤ i)
there_or_past [] i = inr (omega arith)
there_or_past (x ∷ xs) zero = inl (x, refl)
there_or_past (x ∷ xs) (suc i) = ⊎_elim (λ (t : (s : HeapSeat) × (slice_get xs i ≡ Some s)). inl t) (λ (l : length xs ≤ i). inr (omega (arith, l))) (there_or_past xs i)

right_at : (ms : List SharedMutator) (ss : List HeapSeat) → AreLeft HasLeft ms ss → (i : ℕ) (m : SharedMutator) → slice_get ms i ≡ Some m → (s : HeapSeat) × (slice_get ss i ≡ Some s) × HasLeft m s
right_at [] ss k zero m e = absurd (cc)
right_at [] ss k (suc i) m e = absurd (cc)
right_at (n ∷ ms) [] k i m e = absurd k
right_at (n ∷ ms) (t ∷ ss) k zero m e = (t, refl, subst (λ (z : SharedMutator). HasLeft z t) (same_Some n m e) k.0)
right_at (n ∷ ms) (t ∷ ss) k (suc i) m e = right_at ms ss k.1 i m e

of_four : (P : SharedMutator → Type 0) (a b c d : SharedMutator) → P a → P b → P c → P d → (i : ℕ) (m : SharedMutator) → slice_get (a ∷ b ∷ c ∷ d ∷ []) i ≡ Some m → P m
of_four P a b c d p q r s zero m at = subst P (same_Some a m at) p
of_four P a b c d p q r s (suc zero) m at = subst P (same_Some b m at) q
of_four P a b c d p q r s (suc (suc zero)) m at = subst P (same_Some c m at) r
of_four P a b c d p q r s (suc (suc (suc zero))) m at = subst P (same_Some d m at) s
of_four P a b c d p q r s (suc (suc (suc (suc i)))) m at = absurd (cc)

abbrev four : SharedMutator → SharedMutator → SharedMutator → SharedMutator → List SharedMutator
four a b c d = a ∷ b ∷ c ∷ d ∷ []

module _ (world : SharedWorld) (a b c d : SharedMutator) (w : Words) (end : IsSharedEnd world (a ∷ b ∷ c ∷ d ∷ []) [] w) (es : List Event) (whole : IsWhole (arc_value world.heap).shape (all_seats world end.rest []) w es)
    (p : StoresValue (view_of a.seat).log) (q : StoresField (view_of b.seat).log) where
  abbrev sh : Shape
  sh = (arc_value world.heap).shape

  history : IsHistory (arc_value world.heap).shape es
  history = record { allowed = whole.run.allowed; sound = whole.run.sound }

  lends : (k : ℕ) → RefersTo (arc_value world.heap).shape es 0 whole.root k
  lends k = ⊎_elim (λ z. inl z.0) (λ z. inr z) (whole.kept k)

  -- the log of mutator i, as a part of the run
  log_at : (i : ℕ) (m : SharedMutator) → slice_get (four a b c d) i ≡ Some m → (more : List Entry) × (log_of sh es (suc i) ≡ (view_of m.seat).log ++ more) × (all_steps spares_heap more ≡ true)
  log_at i m at =
      let r = right_at (four a b c d) end.rest end.left i m at in
      let g = left_log m r.0 r.2 in
      let there : slice_get (all_seats world end.rest []) (suc i) ≡ Some r.0 = ap (λ (l : List HeapSeat). slice_get l i) (append-nil end.rest) ∙ r.1 in
      (g.0, sym (whole.run.parts (suc i) r.0 there) ∙ g.1, g.2)

  fill : StoresNone (view_of c.seat).log → StoresNone (view_of d.seat).log → (i : ℕ) → OnlyFills (log_of sh es i)
  fill r s i = ⊎_elim (λ (t : (s : HeapSeat) × (slice_get (all_seats world end.rest []) i ≡ Some s)). subst OnlyFills (whole.run.parts i t.0 t.1) (of_seat i t.0 t.1)) (λ (past : length (all_seats world end.rest []) ≤ i). subst OnlyFills (sym (whole.no_others i past)) refl) (there_or_past (all_seats world end.rest []) i)
    where
      of_left : (t : HeapSeat) (m : SharedMutator) → HasLeft m t → OnlyFills (view_of m.seat).log → OnlyFills (view_of t).log
      of_left t m left f = let g = left_log m t left in subst OnlyFills (sym g.1) (more_fills (view_of m.seat).log g.0 f g.2)

      of_seat : (j : ℕ) (t : HeapSeat) → slice_get (all_seats world end.rest []) j ≡ Some t → OnlyFills (view_of t).log
      of_seat zero t at = subst (λ (z : HeapSeat). OnlyFills (view_of z).log) (same_Some world.zero t at) (zero_fills sh.fields all_nil (view_of world.zero).log world.first.one.values world.first.fields)
      of_seat (suc j) t at =
          let it = left-at HasLeft (four a b c d) end.rest end.left j t (ap (λ (l : List HeapSeat). slice_get l j) (sym (append-nil end.rest)) ∙ at) in
          of_left t it.0 it.2 (of_four (λ (m : SharedMutator). OnlyFills (view_of m.seat).log) a b c d (value_fills (view_of a.seat).log p) (field_fills (view_of b.seat).log q) (none-fill all_nil (view_of c.seat).log r) (none-fill all_nil (view_of d.seat).log s) j it.0 it.1)

  agree : LentByLog → VariablesRead → (one two : ℕ) (some other : Bool) → ValueThenField one some (view_of c.seat).log × StoresNone (view_of c.seat).log → FieldThenValue other two (view_of d.seat).log × StoresNone (view_of d.seat).log → (one ≡ 1) × (some ≡ false) × (other ≡ true) × (two ≡ 0) → ⊥
  agree lent reads one two some other r s against =
      let x = log_at 2 c refl in
      let y = log_at 3 d refl in
      let v : ValueThenField 1 false (log_of sh es 3) = subst (λ (z : ℕ × Bool). ValueThenField z.0 z.1 (log_of sh es 3)) (λ t. (against.0 t, against.1 t)) (subst (ValueThenField one some) (sym x.1) (value_more one some (view_of c.seat).log x.0 r.0)) in
      let f : FieldThenValue true 0 (log_of sh es 4) = subst (λ (z : Bool × ℕ). FieldThenValue z.0 z.1 (log_of sh es 4)) (λ t. (against.2 t, against.3 t)) (subst (FieldThenValue other two) (sym y.1) (field_more other two (view_of d.seat).log y.0 s.0)) in
      none-contradict sh es history lent reads whole.root lends (fill r.1 s.1) 3 4 (v, f)

pub ordered : ThreadsRun → LentByLog → VariablesRead → (world : SharedWorld) (a b c d : SharedMutator) (w : Words) (end : IsSharedEnd world (a ∷ b ∷ c ∷ d ∷ []) [] w) (r : Readings)
    → StoresValue (view_of a.seat).log → StoresField (view_of b.seat).log → ReadsValueFirst r.first (view_of c.seat).log → ReadsFieldFirst r.second (view_of d.seat).log → IsOrdered r w
ordered runs lent reads world a b c d w end r p q s t =
    let run = runs world (a ∷ b ∷ c ∷ d ∷ []) [] w end in
    record {
      world = world;
      value = a;
      field = b;
      first = c;
      second = d;
      ended = end;
      past = run.0;
      whole = run.1;
      stored = (p, q);
      read = (s, t);
      agree = λ against. agree world a b c d w end run.0 run.1 p q lent reads r.first.value r.second.value r.first.stored r.second.stored s t against;
    }

-- so who asks whether they contradicted each other is told no
pub none-against : (r : Readings) (w : Words) (b : Bool) → IsOrdered r w → OnTrue b (AreAgainst r) → IsFalse b
none-against r w true o a = absurd (o.agree a)
none-against r w false o a = refl
