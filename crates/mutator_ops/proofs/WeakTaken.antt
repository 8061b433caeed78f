-- The views that the taking of a weak reference goes through: after the seat published what it made, after the cell was asked for, and after all.
use Rattle.std.proofs.Common.{ℕ, ◌≡◌, ◌+◌, ◌-◌, ◌%◌, ◌<◌, arith, refl, sym, ap, ◌∙◌, subst, Bool, true, false, ◌||◌, length, cond, Option, Some, None, is_none, is_some}
use Rattle.std.specs.Prelude.{IsFalse, slice_set}
use Rattle.std.proofs.lemmas.Bool.{and_from, lt-ltb, not_from_false, false≢true}
use Rattle.mark_core.specs.Bits.{cell_of, has_bit, reference_in, with_bit}
use Rattle.mark_core.specs.Cards.{block_cells}
use Rattle.mark_core.specs.Numbers.{section_variables}
use Rattle.mark_core.specs.Seats.{may_mutate, has_making, used_in, work_in_hand}
use Rattle.mark_core.specs.Steps.MutatorSteps.{seat_variable as word_in, without_used}
use Rattle.mark_core.specs.declared.kinds.Shape.{Shape}
use Rattle.mark_core.specs.declared.kinds.Step.TheVariants.{HoldRoot, PublishCells, ReadIdent, ReadWeak}
use Rattle.mark_core.specs.declared.seat.CacheState.{CacheState}
use Rattle.mark_core.specs.declared.seat.SeatState.{SeatState}
use Rattle.mark_core.proofs.Used.UsedSeats.{published-none}
use Rattle.gc_table.specs.declared.view.View.{View}
use Rattle.gc_table.specs.Running.{Ran}
use Rattle.gc_table.specs.Seats.{Across, Found, state_of, view_of}
use Rattle.gc_table.specs.declared.seat.HeapSeat.{HeapSeat}
use Rattle.gc_table.proofs.Fitting.{possible-live}
use Rattle.gc_table.specs.Taking.{May}
use Rattle.gc_table.proofs.Running.{ran-found, ran-join, ran-refl, ran-shape}
use Rattle.alloc_cache.specs.Caching.{is_whole}
use Rattle.card_clean.specs.Barrier.{cell_in}
use Rattle.mutator_ops.specs.Few.{AtMost}
use Rattle.mutator_ops.specs.Sharing.{SharesReady}
use Rattle.mutator_ops.specs.Weak.{FindsUnpublished, PublishesIf, PublishesOwn, TakesWeak}
use Rattle.mutator_ops.proofs.Few.{at-most-after, at-most-events, at-most-join, at-most-more, at-most-none}
use Rattle.mutator_ops.proofs.Knowing.{Knows, cell-there, knows-variable}
use Rattle.mutator_ops.proofs.Storing.{shares-on}
use Rattle.mutator_ops.proofs.Upgraded.{IsRead, finds-bits, finds-identity, weak-fits, weak-got, weak-read, weak-whole}

-- a cache stays whole when its used cells are published
making-on : (o : Option CacheState) → has_making (without_used o) ≡ has_making o
making-on None = refl
making-on (Some x) = refl

whole-on : (o : Option CacheState) → is_whole (without_used o) ≡ is_whole o
whole-on None = refl
whole-on (Some x) = refl

used-some : (o : Option CacheState) (c : ℕ) → used_in o c ≡ true → is_some o ≡ true
used-some None c e = absurd (false≢true e)
used-some (Some x) c e = refl

-- only the cache of the record is another, and as whole as before
pub record Publishes (v w : View) : Type 0 where
  pub ran : Ran v w
  pub state : w.state ≡ record v.state { cache = w.state.cache }
  pub making : has_making w.state.cache ≡ has_making v.state.cache
  pub whole : is_whole w.state.cache ≡ is_whole v.state.cache
  pub objects : length w.own.meaning.heap.objects ≡ length v.own.meaning.heap.objects
  pub few : AtMost 1 v w

pub by-one : (n : ℕ) (v w : View) → Found PublishCells n v w → Publishes v w
by-one n v w f =
    record {
      ran = ran-found v w PublishCells n refl f;
      state = ap (λ (y : View). y.state) f.0 ∙ ap (λ (y : View). record v.state { cache = y.state.cache }) (sym f.0);
      making = ap (λ (y : View). has_making y.state.cache) f.0 ∙ making-on v.state.cache;
      whole = ap (λ (y : View). is_whole y.state.cache) f.0 ∙ whole-on v.state.cache;
      objects = ap (λ (y : View). length y.own.meaning.heap.objects) f.0;
      few = at-most-after v w PublishCells n f.0;
    }

by-none : (v w : View) → w ≡ v → Publishes v w
by-none v w e = subst (Publishes v) (sym e) (record { ran = ran-refl v; state = refl; making = refl; whole = refl; objects = refl; few = at-most-none 1 v })

by-either : (b : Bool) (v w : View) → PublishesIf b v w → Publishes v w
by-either true v w t = by-one t.0 v w t.1
by-either false v w e = by-none v w e

pub publishes : (c : ℕ) (v w : View) → PublishesOwn c v w → Publishes v w
publishes c v w p = by-either (used_in v.state.cache c) v w p

-- the seat may publish what it made, if the cell is of it
pub may-publish : (c : ℕ) (v : View) → SharesReady v → used_in v.state.cache c ≡ true → May PublishCells v
may-publish c v ready e y i st a = (used-some v.state.cache c e, (and_from _ _ (ap is_none ready.stores.owes) (not_from_false _ ready.whole), tt))

-- and is ready again
pub published-ready : (v w : View) → SharesReady v → Publishes v w → SharesReady w
published-ready v w r p =
    let s = p.state in
    let shape = ran-shape v w p.ran in
    record {
      shared = ap (λ (sh : Shape). sh.sharing) shape ∙ r.shared;
      stores =
          record {
            turn = ap may_mutate s ∙ r.stores.turn;
            seen = (r.stores.seen.0, ap (λ (t : SeatState). t.phase_seen) s ∙ r.stores.seen.1, r.stores.seen.2);
            owes = ap (λ (t : SeatState). t.owes) s ∙ r.stores.owes;
          };
      idle = (λ i. work_in_hand (shape i).fields (s i)) ∙ r.idle;
      whole = p.making ∙ r.whole;
      register = ap (λ (t : SeatState). t.got) s ∙ r.register;
      counted = p.objects ∙ r.counted ∙ sym (ap (λ (t : SeatState). t.made) s);
    }

-- the cell isn't one that the seat made and hasn't published
pub published-clear : (c n : ℕ) (v w : View) → Found PublishCells n v w → used_in w.state.cache c ≡ false
published-clear c n v w f = ap (λ (y : View). used_in y.state.cache c) f.0 ∙ published-none v.state.cache c

-- a cell that the seat knows may be asked for
may-ask : (c : ℕ) (v : View) → SharesReady v → IsFalse v.state.spent → Knows v c → May (ReadWeak c) v
may-ask c v ready live k y i st a = (and_from _ _ (lt-ltb c y.core.shape.cells (cell-there y i v st a live c (k.known y i st a))) ready.stores.turn, tt)

-- where no reference was given, the record is as before
pub unread-same : (c n : ℕ) (v x : View) → SharesReady v → Found (ReadWeak c) n v x → x.state.got ≡ 0 → x.state ≡ v.state
unread-same c n v x ready f z = (weak-read c n v x f).state ∙ ap (λ k. record v.state { got = k }) (z ∙ sym ready.register)

pub unread-ready : (c n : ℕ) (v x : View) → SharesReady v → Found (ReadWeak c) n v x → x.state.got ≡ 0 → SharesReady x
unread-ready c n v x ready f z =
    let q : IsRead v x = weak-read c n v x f in
    let same : x.state ≡ v.state = unread-same c n v x ready f z in
    shares-on v x ready q.shape (same ∙ ap (λ (t : SeatState). record v.state { env = t.env }) (sym same)) q.objects

-- a reference to a cell that isn't the seat's own shows that it is published
set-by : (bit own : Bool) (n : ℕ) → own ≡ false → (cond (bit || own) n 0 ≡ 0 → ⊥) → bit ≡ true
set-by true own n e f = refl
set-by false true n e f = absurd (false≢true (sym e))
set-by false false n e f = absurd (f refl)

pub bit-set : (c n : ℕ) (v x : View) → Found (ReadWeak c) n v x → used_in v.state.cache c ≡ false → (x.state.got ≡ 0 → ⊥) → has_bit n (c % block_cells) ≡ true
bit-set c n v x f none some = set-by (has_bit n (c % block_cells)) (used_in v.state.cache c) (reference_in (c + 1)) none (λ z. some (weak-got c n v x f ∙ z))

-- a cell that the seat knows exists
known-low : (c n : ℕ) (v x : View) → Found (ReadWeak c) n v x → IsFalse v.state.spent → Knows v c → c < v.shape.cells
known-low c n v x f live k =
    let q = f.1 in
    subst (λ (sh : Shape). c < sh.cells) (sym q.agrees.shape) (cell-there q.state q.index v q.whole q.agrees live c (k.known q.state q.index q.whole q.agrees))

-- so it is the cell that the variable names
cell-is : (u c n : ℕ) (v w x : View) → word_in v.state u ≡ c + 1 → Found (ReadWeak c) n w x → c < w.shape.cells → c ≡ cell_in v.state u
cell-is u c n v w x word f low = subst (λ k. c ≡ cell_of k) (sym word) (let fits = weak-fits c n w x f low in omega (arith, fits))

-- variable u's object is in cell c, and isn't one that the seat made and hasn't published: what is so before the cell is asked for
pub record Asks (u c : ℕ) (v w : View) : Type 0 where
  pub below : u < section_variables
  pub word : word_in v.state u ≡ c + 1
  pub publishes : PublishesOwn c v w
  pub ready : SharesReady w
  pub live : IsFalse w.state.spent
  pub none : used_in w.state.cache c ≡ false

pub asks : {u c word : ℕ} (s t : HeapSeat) → u < section_variables → 0 < word_in (state_of s) u → word ≡ word_in (state_of s) u → c ≡ word - 1 → Across (PublishesOwn c) s t → SharesReady (view_of t) → used_in (state_of t).cache c ≡ false
    → Asks u c (view_of s) (view_of t)
asks {u} {c} {word} s t below some is cell p ready none = record { below = below; word = omega (arith, some, is, cell); publishes = p; ready = ready; live = possible-live (view_of t) t.possible; none = none }

-- the seat knows the cell
asks-known : (u c : ℕ) (v w : View) → Asks u c v w → Knows w c
asks-known u c v w a = knows-variable w u c a.live a.below (ap (λ (s : SeatState). word_in s u) (publishes c v w a.publishes).state ∙ a.word)

pub asks-may : (u c : ℕ) (v w : View) → Asks u c v w → May (ReadWeak c) w
asks-may u c v w a = may-ask c w a.ready a.live (asks-known u c v w a)

pub asks-low : (u c n : ℕ) (v w x : View) → Asks u c v w → Found (ReadWeak c) n w x → c < w.shape.cells
asks-low u c n v w x a f = known-low c n w x f a.live (asks-known u c v w a)

-- variable u's object is published, and its identity was read
takes : (u id n m : ℕ) (v w x y z : View) → SharesReady w → PublishesOwn (cell_in v.state u) v w → used_in w.state.cache (cell_in v.state u) ≡ false → Found (ReadWeak (cell_in v.state u)) n w x
    → cell_in v.state u < w.shape.cells → (x.state.got ≡ 0 → ⊥) → Found (ReadIdent (cell_in v.state u)) id x y → reference_in (word_in v.state u) ≡ word_in v.state u
    → Found (HoldRoot u (word_in v.state u)) m y z → TakesWeak u id v z
takes u id n m v w x y z ready p none f low some g whole e =
    record {
      own = w;
      publishes = p;
      finds = finds-identity u (cell_in v.state u) n id (word_in v.state u) m w x y z ready f low some g whole e;
      published =
          ap (λ k. has_bit k (cell_in v.state u % block_cells)) (finds-bits u (cell_in v.state u) n id (word_in v.state u) m w x y z ready f low some g whole e)
          ∙ bit-set (cell_in v.state u) n w x f none some;
    }

pub takes-weak : (u c r id n m : ℕ) (v w x y z : View) → Asks u c v w → Found (ReadWeak c) n w x → (x.state.got ≡ 0 → ⊥) → Found (ReadIdent c) id x y → r ≡ x.state.got → Found (HoldRoot u r) m y z → TakesWeak u id v z
takes-weak u c r id n m v w x y z a f some g is e =
    let low = asks-low u c n v w x a f in
    let cell : c ≡ cell_in v.state u = cell-is u c n v w x a.word f low in
    let found : r ≡ c + 1 = is ∙ weak-got c n w x f ∙ weak-whole c n w x f low some in
    let word : r ≡ word_in v.state u = found ∙ sym a.word in
    let whole : reference_in r ≡ r = ap reference_in found ∙ weak-fits c n w x f low ∙ sym found in
    takes u id n m v w x y z a.ready (subst (λ k. PublishesOwn k v w) cell a.publishes) (subst (λ k. used_in w.state.cache k ≡ false) cell a.none) (subst (λ k. Found (ReadWeak k) n w x) cell f)
    (subst (λ k. k < w.shape.cells) cell low) some (subst (λ k. Found (ReadIdent k) id x y) cell g) (subst (λ k. reference_in k ≡ k) word whole) (subst (λ k. Found (HoldRoot u k) m y z) word e)

-- it isn't published, and is another's
pub finds-unpublished : (u c n : ℕ) (v w x : View) → Asks u c v w → Found (ReadWeak c) n w x → x.state.got ≡ 0 → FindsUnpublished u v x
finds-unpublished u c n v w x a f none =
    let cell : c ≡ cell_in v.state u = cell-is u c n v w x a.word f (asks-low u c n v w x a f) in
    let g : Found (ReadWeak (cell_in v.state u)) n w x = subst (λ k. Found (ReadWeak k) n w x) cell f in
    record { own = w; publishes = subst (λ k. PublishesOwn k v w) cell a.publishes; bits = n; none = sym (weak-got (cell_in v.state u) n w x g) ∙ none; finds = g }

-- What the taking of a weak reference did, told to its callers: only the variables, which of their roots lag, and the cache are others, and the cache is as whole as before.
pub record Rewrites (v x : View) : Type 0 where
  pub ran : Ran v x
  pub state : x.state ≡ record v.state { cache = x.state.cache; env = x.state.env; lags = x.state.lags }
  pub whole : is_whole x.state.cache ≡ is_whole v.state.cache
  pub few : AtMost 4 v x

pub takes-rewrites : (u id : ℕ) (v x : View) → TakesWeak u id v x → Rewrites v x
takes-rewrites u id v x e =
    let p : Publishes v e.own = publishes (cell_in v.state u) v e.own e.publishes in
    let s : x.state ≡ record v.state { cache = e.own.state.cache; env = slice_set e.own.state.env u (word_in v.state u); lags = with_bit e.own.state.lags u } =
    e.finds.state ∙ (λ i. record (p.state i) { env = slice_set e.own.state.env u (word_in v.state u); lags = with_bit e.own.state.lags u }) in
    record {
      ran = ran-join v e.own x p.ran e.finds.ran;
      state = s ∙ ap (λ (t : SeatState). record v.state { cache = t.cache; env = t.env; lags = t.lags }) (sym s);
      whole = ap (λ (t : SeatState). is_whole t.cache) s ∙ p.whole;
      few = at-most-join 1 3 v e.own x p.ran e.finds.ran p.few (at-most-events 3 e.own x _ e.finds.events_are (omega arith));
    }

pub unpublished-rewrites : (u : ℕ) (v x : View) → SharesReady v → FindsUnpublished u v x → Rewrites v x
unpublished-rewrites u v x ready e =
    let c : ℕ = cell_in v.state u in
    let p : Publishes v e.own = publishes c v e.own e.publishes in
    let none : x.state.got ≡ 0 = weak-got c e.bits e.own x e.finds ∙ e.none in
    let s : x.state ≡ record v.state { cache = e.own.state.cache } = unread-same c e.bits e.own x (published-ready v e.own ready p) e.finds none ∙ p.state in
    let ran : Ran e.own x = ran-found e.own x (ReadWeak c) e.bits refl e.finds in
    record {
      ran = ran-join v e.own x p.ran ran;
      state = s ∙ ap (λ (t : SeatState). record v.state { cache = t.cache; env = t.env; lags = t.lags }) (sym s);
      whole = ap (λ (t : SeatState). is_whole t.cache) s ∙ p.whole;
      few = at-most-more 2 4 v x (omega arith) (at-most-join 1 1 v e.own x p.ran ran p.few (at-most-after e.own x (ReadWeak c) e.bits e.finds.0));
    }
