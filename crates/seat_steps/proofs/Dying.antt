-- What asking for a cell comes to, where no variable gets what is there.
use Rattle.std.proofs.Common.{ℕ, ◌≡◌, ◌<◌, ◌∙◌, [], ◌∷◌, arith, Bool, true, false, ap, eqb, inl, inr, refl, subst, sym}
use Rattle.std.specs.Prelude.{IsTrue}
use Rattle.std.proofs.lemmas.Bool.{eq-eqb, eqb-true, true≢false}
use Rattle.mark_core.specs.Numbers.{section_variables}
use Rattle.mark_core.specs.declared.kinds.Shape.{Shape}
use Rattle.mark_core.specs.declared.kinds.Step.TheVariants.{HoldRoot, ReadIdent, ReadWeak}
use Rattle.mark_core.specs.declared.seat.SeatState.{SeatState}
use Rattle.gc_table.specs.Seats.{Found, Sits, view_of}
use Rattle.gc_table.specs.Taking.{Asked, May}
use Rattle.gc_table.specs.declared.seat.Heap.{Heap}
use Rattle.gc_table.specs.declared.seat.HeapSeat.{HeapSeat}
use Rattle.gc_table.specs.declared.view.View.{View}
use Rattle.gc_table.proofs.Fitting.{possible-live}
use Rattle.gc_table.proofs.History.Log.{events-after}
use Rattle.gc_table.proofs.Running.{ran-found}
use Rattle.mutator_ops.specs.Few.{AtMost}
use Rattle.mutator_ops.specs.Sharing.{SharesReady}
use Rattle.mutator_ops.specs.Upgrading.{FindsIdentity}
use Rattle.mutator_ops.proofs.Few.{at-most-events}
use Rattle.mutator_ops.proofs.Upgraded.{IsRead, ends-ready, finds-identity, ident-read, may-clear, may-identify, may-read_weak, weak-got, weak-read, weak-whole}
use Rattle.mutator_ops.proofs.WeakTaken.{unread-ready}
use Rattle.seat_turns.specs.Standing.{HoldsTurn}
use Rattle.seat_turns.proofs.Held.{held-same, held-turn, holds-shares}
use Rattle.seat_steps.specs.Deaths.{AsksFor, FindsBare}

-- nothing was found
pub finds-bare : (c n : ℕ) (v x : View) → SharesReady v → Found (ReadWeak c) n v x → x.state.got ≡ 0 → FindsBare c v x
finds-bare c n v x ready f none =
    record {
      ran = ran-found v x (ReadWeak c) n refl f;
      bits = n;
      none = sym (weak-got c n v x f) ∙ none;
      events_are = events-after v x (ReadWeak c) n f.0;
      state = (weak-read c n v x f).state ∙ ap (λ (k : ℕ). record v.state { got = k }) (none ∙ sym ready.register);
    }

-- an object was found
asks_by : (u c id found : ℕ) (v x : View) → FindsIdentity u c found 0 v x → (b : Bool) → eqb found id ≡ b → AsksFor u c id b v x
asks_by u c id found v x f true e = subst (λ (k : ℕ). FindsIdentity u c k 0 v x) (eqb-true found id e) f
asks_by u c id found v x f false e = inr (found, λ same. absurd (true≢false (sym (eq-eqb found id same) ∙ e)), f)

pub asks-found : (u c id found : ℕ) (v x : View) → FindsIdentity u c found 0 v x → AsksFor u c id (eqb found id) v x
asks-found u c id found v x f = asks_by u c id found v x f (eqb found id) refl

-- how many steps it took, whatever it found
pub asked-few : (u c id : ℕ) (there : Bool) (v x : View) → AsksFor u c id there v x → AtMost 3 v x
asked-few u c id true v x e = at-most-events 3 v x _ e.events_are (omega arith)
asked-few u c id false v x (inl e) = at-most-events 3 v x _ e.events_are (omega arith)
asked-few u c id false v x (inr e) = at-most-events 3 v x _ e.2.events_are (omega arith)

-- a mutator at its turn may ask for a cell that exists
there : (h : Heap) (x : HeapSeat) (c : ℕ) → HoldsTurn h x → c < h.shape.cells → c < (view_of x).shape.cells
there h x c turn low = subst (λ (sh : Shape). c < sh.cells) (sym turn.holds.sits.1) low

pub may-ask : (h : Heap) (x : HeapSeat) (c : ℕ) → HoldsTurn h x → IsTrue h.shape.sharing → c < h.shape.cells → May (ReadWeak c) (view_of x)
may-ask h x c turn shared low = may-read_weak c (view_of x) (holds-shares h x turn shared).1 (there h x c turn low)

-- it did, and read these bits
pub record AskedCell (h : Heap) (x y : HeapSeat) (c n : ℕ) : Type 0 where
  pub turn : HoldsTurn h x
  pub ready : SharesReady (view_of x)
  pub low : c < (view_of x).shape.cells
  pub found : Found (ReadWeak c) n (view_of x) (view_of y)

pub asked-cell : (h : Heap) (x y : HeapSeat) (c n : ℕ) → HoldsTurn h x → IsTrue h.shape.sharing → c < h.shape.cells → Found (ReadWeak c) n (view_of x) (view_of y) → AskedCell h x y c n
asked-cell h x y c n turn shared low found = record { turn = turn; ready = (holds-shares h x turn shared).1; low = there h x c turn low; found = found }

-- which showed nothing
pub bare-turn : (h : Heap) (x y : HeapSeat) (c n : ℕ) → AskedCell h x y c n → Sits h y → (view_of y).state.got ≡ 0 → HoldsTurn h y
bare-turn h x y c n a sits none =
    let v : View = view_of x in
    let b : FindsBare c v (view_of y) = finds-bare c n v (view_of y) a.ready a.found none in
    held-same h x y a.turn (sits, unread-ready c n v (view_of y) a.ready a.found none) b.ran b.state

-- or an object: its identity may be read
pub may-ident : (h : Heap) (x y : HeapSeat) (c n : ℕ) → AskedCell h x y c n → ((view_of y).state.got ≡ 0 → ⊥) → May (ReadIdent c) (view_of y)
may-ident h x y c n a some =
    let v : View = view_of x in
    let w : View = view_of y in
    may-identify c v w (possible-live w y.possible) a.ready (weak-read c n v w a.found) (weak-got c n v w a.found ∙ weak-whole c n v w a.found a.low some)

-- and then nil may be held
pub may-nil : (h : Heap) (x y z : HeapSeat) (u c n id : ℕ) → AskedCell h x y c n → u < section_variables → Found (ReadIdent c) id (view_of y) (view_of z) → May (HoldRoot u 0) (view_of z)
may-nil h x y z u c n id a below g = may-clear u (view_of x) (view_of z) a.ready (ident-read c id (view_of x) (view_of y) (view_of z) (weak-read c n (view_of x) (view_of y) a.found) g) below

pub asked-nil : (h : Heap) (x y z : HeapSeat) (u c n id : ℕ) → AskedCell h x y c n → Found (ReadIdent c) id (view_of y) (view_of z) → Asked (HoldRoot u 0) (view_of z)
asked-nil h x y z u c n id a g =
    let q : IsRead (view_of x) (view_of z) = ident-read c id (view_of x) (view_of y) (view_of z) (weak-read c n (view_of x) (view_of y) a.found) g in
    let shared : (view_of z).shape.sharing ≡ true = ap (λ (sh : Shape). sh.sharing) q.shape ∙ a.ready.shared in
    let seen = a.ready.stores.seen in
    ((seen.0, ap (λ (s : SeatState). s.phase_seen) q.state ∙ seen.1, seen.2), λ alone. absurd (true≢false (sym shared ∙ alone)))

pub finds-other :
    (h : Heap) (x y z : HeapSeat) (w : View) (u c n id m : ℕ) → AskedCell h x y c n → ((view_of y).state.got ≡ 0 → ⊥) → Found (ReadIdent c) id (view_of y) (view_of z) → Found (HoldRoot u 0) m (view_of z) w
    → FindsIdentity u c id 0 (view_of x) w
finds-other h x y z w u c n id m a some g e = finds-identity u c n id 0 m (view_of x) (view_of y) (view_of z) w a.ready a.found a.low some g refl e

pub other-turn :
    (h : Heap) (x y z w : HeapSeat) (u c n id m : ℕ) → AskedCell h x y c n → u < section_variables → Found (ReadIdent c) id (view_of y) (view_of z) → Found (HoldRoot u 0) m (view_of z) (view_of w) → Sits h w
    → FindsIdentity u c id 0 (view_of x) (view_of w) → HoldsTurn h w
other-turn h x y z w u c n id m a low g e sits f =
    let v : View = view_of x in
    let q : IsRead v (view_of z) = ident-read c id v (view_of y) (view_of z) (weak-read c n v (view_of y) a.found) g in
    held-turn h x w u 0 a.turn (sits, ends-ready u 0 m v (view_of z) (view_of w) a.ready q e.0) f.ran low f.state
