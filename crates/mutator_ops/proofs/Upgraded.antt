-- The views that an upgrade goes through: after the cell was asked for, after its identity was read, and after the variable was stored.
use Rattle.std.proofs.Common.{ℕ, ◌≡◌, ◌+◌, ◌%◌, ◌<◌, [], ◌∷◌, ◌++◌, arith, refl, sym, ap, ◌∙◌, subst, Bool, true, false, ◌||◌, not, length, cond, inl, inr, is_none}
use Rattle.std.specs.Prelude.{IsFalse}
use Rattle.std.proofs.lemmas.Bool.{and_from, lt-ltb, not_from_false}
use Rattle.mark_core.specs.Bits.{has_bit, reference_in}
use Rattle.mark_core.specs.Cards.{block_cells}
use Rattle.mark_core.specs.Numbers.{section_variables}
use Rattle.mark_core.specs.Seats.{may_mutate, has_making, used_in}
use Rattle.mark_core.specs.Steps.MutatorSteps.{weak_reference}
use Rattle.mark_core.specs.declared.kinds.Shape.{Shape}
use Rattle.mark_core.specs.declared.kinds.Step.TheVariants.{HoldRoot, ReadIdent, ReadWeak}
use Rattle.mark_core.specs.declared.seat.SeatState.{SeatState}
use Rattle.gc_table.specs.declared.view.View.{View}
use Rattle.gc_table.specs.Log.{event}
use Rattle.gc_table.specs.Running.{Ran}
use Rattle.gc_table.specs.Seats.{Found}
use Rattle.gc_table.specs.Taking.{May, after}
use Rattle.gc_table.proofs.History.Log.{events-after}
use Rattle.gc_table.proofs.Running.{ran-events, ran-found, ran-join}
use Rattle.mutator_ops.specs.Sharing.{SharesReady, holding}
use Rattle.mutator_ops.specs.Few.{AtMost}
use Rattle.mutator_ops.specs.Upgrading.{FindsNothing, FindsIdentity, Upgrades}
use Rattle.mutator_ops.proofs.Few.{at-most-events}
use Rattle.mutator_ops.proofs.Knowing.{knows-register, may-read_ident}
use Rattle.mutator_ops.proofs.Storing.{count-read, held-on, state-read}

-- a cell that exists may be asked for
pub may-read_weak : (c : ℕ) (v : View) → SharesReady v → c < v.shape.cells → May (ReadWeak c) v
may-read_weak c v ready low y i st a = (and_from _ _ (lt-ltb c y.core.shape.cells (subst (λ (sh : Shape). c < sh.cells) a.shape low)) ready.stores.turn, tt)

-- a view in which only the register is another, and what the section makes of it
pub record IsRead (v x : View) : Type 0 where
  pub shape : x.shape ≡ v.shape
  pub state : x.state ≡ record v.state { got = x.state.got }
  pub objects : length x.own.meaning.heap.objects ≡ length v.own.meaning.heap.objects

pub weak-read : (c n : ℕ) (v x : View) → Found (ReadWeak c) n v x → IsRead v x
weak-read c n v x f =
    record {
      shape = ap (λ (y : View). y.shape) f.0;
      state = ap (λ (y : View). y.state) f.0 ∙ ap (λ (y : View). record v.state { got = y.state.got }) (sym f.0);
      objects = ap (λ (y : View). length y.own.meaning.heap.objects) f.0;
    }

pub ident-read : (c n : ℕ) (v x y : View) → IsRead v x → Found (ReadIdent c) n x y → IsRead v y
ident-read c n v x y r f =
    let same : y.state ≡ x.state = ap (λ (z : View). z.state) f.0 in
    record {
      shape = ap (λ (z : View). z.shape) f.0 ∙ r.shape;
      state = same ∙ r.state ∙ ap (λ (s : SeatState). record v.state { got = s.got }) (sym same);
      objects = ap (λ (z : View). length z.own.meaning.heap.objects) f.0 ∙ r.objects;
    }

-- the register has the cell, or nothing
chosen : (b : Bool) (n c : ℕ) → n ≡ c + 1 → (cond b n 0 ≡ 0 → ⊥) → cond b n 0 ≡ c + 1
chosen true n c e f = e
chosen false n c e f = absurd (f refl)

-- a reference to a cell that exists fits its word
pub weak-fits : (c n : ℕ) (v x : View) → Found (ReadWeak c) n v x → c < v.shape.cells → reference_in (c + 1) ≡ c + 1
weak-fits c n v x f low =
    let few : f.1.state.core.shape.cells ≡ v.shape.cells = ap (λ (sh : Shape). sh.cells) (sym f.1.agrees.shape) in
    omega (arith, low, few, f.1.whole.core.formed.shaped.cells)

pub weak-whole : (c n : ℕ) (v x : View) → Found (ReadWeak c) n v x → c < v.shape.cells → (x.state.got ≡ 0 → ⊥) → weak_reference v.state c n ≡ c + 1
weak-whole c n v x f low some =
    chosen (has_bit n (c % block_cells) || used_in v.state.cache c) (reference_in (c + 1)) c (weak-fits c n v x f low) (λ e. some (ap (λ (y : View). y.state.got) f.0 ∙ e))

pub weak-got : (c n : ℕ) (v x : View) → Found (ReadWeak c) n v x → x.state.got ≡ weak_reference v.state c n
weak-got c n v x f = ap (λ (y : View). y.state.got) f.0

-- then its identity may be read
pub may-identify : (c : ℕ) (v x : View) → IsFalse x.state.spent → SharesReady v → IsRead v x → x.state.got ≡ c + 1 → May (ReadIdent c) x
may-identify c v x live ready r e = may-read_ident x c live (ap may_mutate r.state ∙ ready.stores.turn) (knows-register x c e)

-- and nil may be held
pub may-clear : (u : ℕ) (v x : View) → SharesReady v → IsRead v x → u < section_variables → May (HoldRoot u 0) x
may-clear u v x ready r below y i st a = (
  and_from _ _ (lt-ltb u section_variables below) (ap may_mutate r.state ∙ ready.stores.turn),
  (refl, (and_from _ _ (ap (λ (t : SeatState). is_none t.owes) r.state ∙ ap is_none ready.stores.owes) (ap (λ (t : SeatState). not (has_making t.cache)) r.state ∙ not_from_false _ ready.whole), tt)),
)

-- then the seat is ready again
pub ends-state : (u r n : ℕ) (v x w : View) → SharesReady v → IsRead v x → w ≡ after (HoldRoot u r) n x → w.state ≡ holding v.state u (reference_in r)
ends-state u r n v x w ready q e = state-read u r n v x w ready.register q.state e

pub ends-ready : (u r n : ℕ) (v x w : View) → SharesReady v → IsRead v x → w ≡ after (HoldRoot u r) n x → SharesReady w
ends-ready u r n v x w ready q e =
    let counted : length x.own.meaning.heap.objects ≡ x.state.made = q.objects ∙ ready.counted ∙ sym (ap (λ (t : SeatState). t.made) q.state) in
    held-on u (reference_in r) v w ready (ap (λ (y : View). y.shape) e ∙ q.shape) (ends-state u r n v x w ready q e) (count-read u r n x w counted e ∙ q.objects)

-- nothing was found
pub finds-nothing : (u c n m : ℕ) (v x w : View) → SharesReady v → Found (ReadWeak c) n v x → x.state.got ≡ 0 → Found (HoldRoot u 0) m x w → FindsNothing u c v w
finds-nothing u c n m v x w ready f none e =
    let one = ran-found v x (ReadWeak c) n refl f in
    let two = ran-found x w (HoldRoot u 0) m refl e in
    record {
      ran = ran-join v x w one two;
      bits = n;
      old = m;
      none = sym (weak-got c n v x f) ∙ none;
      events_are = ran-events v x w one two ∙ (λ i. events-after v x (ReadWeak c) n f.0 i ++ events-after x w (HoldRoot u 0) m e.0 i);
      state = ends-state u 0 m v x w ready (weak-read c n v x f) e.0;
    }

-- an object was found
pub finds-identity : (u c n id r m : ℕ) (v x y w : View) → SharesReady v → Found (ReadWeak c) n v x → c < v.shape.cells → (x.state.got ≡ 0 → ⊥) → Found (ReadIdent c) id x y → reference_in r ≡ r → Found (HoldRoot u r) m y w → FindsIdentity u c id r v w
finds-identity u c n id r m v x y w ready f low some g whole e =
    let one = ran-found v x (ReadWeak c) n refl f in
    let two = ran-found x y (ReadIdent c) id refl g in
    let three = ran-found y w (HoldRoot u r) m refl e in
    let both = ran-join v x y one two in
    let q = ident-read c id v x y (weak-read c n v x f) g in
    record {
      ran = ran-join v y w both three;
      bits = n;
      old = m;
      some = weak-whole c n v x f low some;
      events_are =
          ran-events v y w both three
          ∙ (λ i. ran-events v x y one two i ++ events-after y w (HoldRoot u r) m e.0 i)
          ∙ (λ i. (events-after v x (ReadWeak c) n f.0 i ++ events-after x y (ReadIdent c) id g.0 i) ++ event (HoldRoot u r) m ∷ []);
      state = ends-state u r m v y w ready q e.0 ∙ ap (holding v.state u) whole;
    }

-- which bits were found, told to others
pub finds-bits : (u c n id r m : ℕ) (v x y w : View) (ready : SharesReady v) (f : Found (ReadWeak c) n v x) (low : c < v.shape.cells) (some : x.state.got ≡ 0 → ⊥) (g : Found (ReadIdent c) id x y) (whole : reference_in r ≡ r) (e : Found (HoldRoot u r) m y w)
    → (finds-identity u c n id r m v x y w ready f low some g whole e).bits ≡ n
unfolding finds-identity
finds-bits u c n id r m v x y w ready f low some g whole e = refl

-- What each upgrade did, whatever it found.
pub upgraded-ran : (u c id : ℕ) (there : Bool) (v w : View) → Upgrades u c id there v w → Ran v w
upgraded-ran u c id true v w e = e.ran
upgraded-ran u c id false v w (inl e) = e.ran
upgraded-ran u c id false v w (inr e) = e.2.ran

pub upgraded-state : (u c id : ℕ) (there : Bool) (v w : View) → Upgrades u c id there v w → w.state ≡ holding v.state u (cond there (c + 1) 0)
upgraded-state u c id true v w e = e.state
upgraded-state u c id false v w (inl e) = e.state
upgraded-state u c id false v w (inr e) = e.2.state

pub upgraded-few : (u c id : ℕ) (there : Bool) (v w : View) → Upgrades u c id there v w → AtMost 3 v w
upgraded-few u c id true v w e = at-most-events 3 v w _ e.events_are (omega arith)
upgraded-few u c id false v w (inl e) = at-most-events 3 v w _ e.events_are (omega arith)
upgraded-few u c id false v w (inr e) = at-most-events 3 v w _ e.2.events_are (omega arith)
