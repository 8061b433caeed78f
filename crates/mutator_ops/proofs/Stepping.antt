-- A command that ends with the store of a variable.
use Rattle.std.proofs.Common.{ℕ, ◌≡◌, ◌+◌, ◌<◌, ◌==◌, ◌&&◌, if◌then◌else◌, length, arith, refl, sym, ap, ◌∙◌, subst, Bool, true, false, Some, None, Option, ◌≤◌, List, [], ◌∷◌, ◌++◌, cond}
use Rattle.std.specs.Prelude.{slice_set, IsFalse, not}
use Rattle.mark_core.specs.declared.kinds.Shape.{Shape}
use Rattle.mark_core.specs.Bits.{reference_in}
use Rattle.mark_core.specs.Numbers.{section_variables}
use Rattle.mark_core.specs.Steps.MutatorSteps.{names_last}
use Rattle.mark_core.specs.declared.kinds.Step.{Step}
use Rattle.mark_core.specs.declared.kinds.Step.TheVariants.{StoreRoot, ReadOwn, ReadCat, ReadValue}
use Rattle.mark_core.specs.declared.seat.SeatState.{SeatState}
use Rattle.plain_heap.specs.PlainHeap.{Heap, variable}
use Rattle.plain_heap.specs.PlainStep.{assigned, heap_after, followed, lent_variable, with_new}
use Rattle.plain_heap.specs.declared.object.Ref.{Ref}
use Rattle.plain_heap.specs.declared.object.Ref.TheVariants as refs
use Rattle.plain_heap.specs.declared.operation.Op.{Op}
use Rattle.plain_heap.specs.declared.operation.Op.TheVariants as ops
use Rattle.gc_table.specs.PlainSteps.{Asks, HasSeenPhase, with_got, known_as}
use Rattle.gc_table.specs.Sections.{named_by, seen_by, section_after}
use Rattle.gc_table.specs.Seats.{Found, Stored, IsPlainStep}
use Rattle.gc_table.specs.declared.view.SectionState.{SectionState}
use Rattle.gc_table.specs.declared.view.View.{View}
use Rattle.gc_table.specs.Running.{Ran}
use Rattle.gc_table.proofs.History.Log.{only-after, only-none, only-more, events-after}
use Rattle.gc_table.proofs.Running.{ran-refl, ran-found, ran-stored, ran-join, ran-only, ran-events}
use Rattle.mutator_ops.specs.Doing.{seen, spares_plain, with_dropped, belongs, HasRead, IsStepped, Does, IsOneStep, plain_steps, stores_plainly}
use Rattle.std.proofs.lemmas.Bool.{and_parts, false≢true}
use Rattle.std.proofs.lemmas.List.{map-append}
use Rattle.gc_table.specs.declared.view.Entry.{Entry}
use Rattle.gc_table.specs.Log.{Only, all_steps, events, steps_of}
use Rattle.gc_table.specs.Taking.{after}

-- How many steps of a call the plain heap sees.
plain-append : (xs ys : List Step) → plain_steps (xs ++ ys) ≡ plain_steps xs + plain_steps ys
plain-append [] ys = omega arith
plain-append (x ∷ xs) ys = let e = plain-append xs ys in omega (arith, e)

-- one call after another
plain-join : (u v w : View) → Ran u v → Ran v w → plain_steps (steps_of (events u w)) ≡ plain_steps (steps_of (events u v)) + plain_steps (steps_of (events v w))
plain-join u v w a b =
    ap (λ (es : List Entry). plain_steps (steps_of es)) (ran-events u v w a b)
    ∙ ap plain_steps (map-append (λ (e : Entry). e.step) (events u v) (events v w))
    ∙ plain-append (steps_of (events u v)) (steps_of (events v w))

none-there : (b : Bool) → not b ≡ true → ◌≡◌ {A = ℕ} (cond b 1 0) 0
none-there true e = absurd (false≢true e)
none-there false e = refl

spared : (es : List Entry) → all_steps spares_plain es ≡ true → plain_steps (steps_of es) ≡ 0
spared [] e = refl
spared (x ∷ xs) e =
    let h = and_parts (spares_plain x.step) (all_steps spares_plain xs) e in
    let one = none-there (stores_plainly x.step) h.0 in
    let rest = spared xs h.1 in
    omega (arith, one, rest)

-- a call that sees to the plain heap's steps only by its last
pub once-last : (u v w : View) → Ran u v → Ran v w → Only spares_plain u v → IsOneStep v w → IsOneStep u w
once-last u v w a b o one =
    let first = spared (events u v) o in
    let both = plain-join u v w a b in
    omega (arith, first, both, one)

pub once-none : (v w : View) → Only spares_plain v w → IsOneStep v w
once-none v w o = let none = spared (events v w) o in omega (arith, none)

one_at_most : (b : Bool) → cond b 1 0 + 0 ≤ 1
one_at_most true = omega arith
one_at_most false = omega arith

-- one step
pub once-after : (v w : View) (step : Step) (n : ℕ) → w ≡ after step n v → IsOneStep v w
once-after v w step n e = rw (ap (λ (es : List Entry). plain_steps (steps_of es)) (events-after v w step n e)) (one_at_most (stores_plainly step))

-- what a reference leads to doesn't rest on what was dropped
pub followed-same : (d : ℕ) (heap : Heap) (catalogue : Option Heap) (ref : Ref) (i : ℕ) → followed (with_dropped d heap) catalogue ref i ≡ followed heap catalogue ref i
followed-same d heap catalogue refs.Nil i = refl
followed-same d heap catalogue (refs.Own n) i = refl
followed-same d heap None (refs.Cat n) i = refl
followed-same d heap (Some c) (refs.Cat n) i = refl

-- a command that drops nothing
pub stepped-none : (op : Op) (v w : View) → ((d : ℕ) → heap_after (with_dropped d v.own.meaning.heap) (seen v) op ≡ with_dropped d (heap_after v.own.meaning.heap (seen v) op)) → w.own.meaning.heap ≡ heap_after v.own.meaning.heap (seen v) op → IsStepped op 0 v w
stepped-none op v w same e d =
    let none : d + 0 ≡ d = omega arith in
    (λ i. with_dropped (none i) (e i)) ∙ sym (same d)

either-dropped : (b : Bool) (h k : Heap) (d : ℕ) → h.dropped ≡ d → k.dropped ≡ d → (if b then h else k).dropped ≡ d
either-dropped true h k d p q = p
either-dropped false h k d p q = q

-- a store of a variable drops nothing
pub undropped-root : (x : View) (u r : ℕ) → (section_after x.shape x.plan x.state (StoreRoot u r) x.own).meaning.heap.dropped ≡ x.own.meaning.heap.dropped
undropped-root x u r =
    either-dropped (names_last x.state.cache r && (length x.own.meaning.heap.objects + 1 == x.state.made)) (with_new x.own.meaning.heap u x.own.meaning.value) (assigned x.own.meaning.heap u (named_by x.state x.own.meaning r)) x.own.meaning.heap.dropped refl refl

-- nothing was read
pub reads-none : (p : Step → Bool) (v : View) → HasRead p v v
reads-none p v = record { ran = ran-refl v; only = only-none p v; spares = only-none spares_plain v; shape = refl; plan = refl; state = refl; own = refl }

-- the one section, with what commands change of the other
abbrev beside : SectionState → SectionState → SectionState
beside x y = record x { meaning = y.meaning; history = y.history; settled = y.settled }

-- the whole command; `same` is what the store is called
pub root-does :
    (op same : Op) (u r : ℕ) (v x w : View)
    → IsFalse v.shape.sharing
    → v.state.got ≡ 0
    → HasRead (belongs op) v x
    → belongs op (StoreRoot u r) ≡ true
    → ((d : ℕ) → heap_after (with_dropped d v.own.meaning.heap) (seen v) op ≡ with_dropped d (heap_after v.own.meaning.heap (seen v) op))
    → heap_after v.own.meaning.heap (seen v) same ≡ heap_after v.own.meaning.heap (seen v) op
    → Asks x.state x.own.meaning (seen x) (StoreRoot u r) same
    → Stored (StoreRoot u r) x w → IsPlainStep (StoreRoot u r) x w → Does op 0 v w
root-does op same u r v x w alone none k b indep is asks e plain =
    let ran : Ran x w = ran-stored x w (StoreRoot u r) refl e in
    let catalogue : seen x ≡ seen v = λ i. seen_by (k.shape i) (k.plan i) (k.state i) in
    record {
      ran = ran-join v x w k.ran ran;
      only = ran-only (belongs op) v x w k.ran ran k.only (only-after (belongs op) x w (StoreRoot u r) _ b e);
      once = once-last v x w k.ran ran k.spares (once-after x w (StoreRoot u r) _ e);
      undropped = ap (λ (y : View). y.own.meaning.heap.dropped) e ∙ undropped-root x u r ∙ ap (λ (y : SectionState). y.meaning.heap.dropped) k.own;
      heap = stepped-none op v w indep (plain (ap (λ (sh : Shape). sh.sharing) k.shape ∙ alone) same asks ∙ (λ i. heap_after (k.own i).meaning.heap (catalogue i) same) ∙ is);
      state =
          ap (λ (y : View). y.state) e
          ∙ (λ i. record (k.state i) { env = slice_set (k.state i).env u (reference_in r); got = 0 })
          ∙ (λ i. record v.state { env = slice_set v.state.env u (reference_in r); got = sym none i })
          ∙ (λ i. record v.state { env = slice_set (sym k.state i).env u (reference_in r) })
          ∙ ap (λ (y : View). record v.state { env = y.state.env }) (sym e);
      own =
          let after_own : w.own ≡ section_after x.shape x.plan x.state (StoreRoot u r) x.own = ap (λ (y : View). y.own) e in
          after_own ∙ ap (λ (y : SectionState). beside y (section_after x.shape x.plan x.state (StoreRoot u r) x.own)) k.own ∙ ap (beside v.own) (sym after_own);
    }

-- a field was read into the register
pub reads-field : (p : Step → Bool) (c j n : ℕ) (v x : View) → p (ReadOwn c j) ≡ true → Found (ReadOwn c j) n v x → HasRead p v x
reads-field p c j n v x b f =
    record {
      ran = ran-found v x (ReadOwn c j) n refl f;
      only = only-after p v x (ReadOwn c j) n b f.0;
      spares = only-after spares_plain v x (ReadOwn c j) n refl f.0;
      shape = ap (λ (y : View). y.shape) f.0;
      plan = ap (λ (y : View). y.plan) f.0;
      state = ap (λ (y : View). y.state) f.0 ∙ ap (λ (y : View). record v.state { got = y.state.got }) (sym f.0);
      own = ap (λ (y : View). y.own) f.0 ∙ ap (λ (y : View). record v.own { meaning = with_got y.own.meaning.got v.own.meaning }) (sym f.0);
    }

-- a variable of the catalogue was read into the register
pub reads-catalogue : (p : Step → Bool) (u n : ℕ) (v x : View) → p (ReadCat u) ≡ true → Found (ReadCat u) n v x → HasRead p v x
reads-catalogue p u n v x b f =
    record {
      ran = ran-found v x (ReadCat u) n refl f;
      only = only-after p v x (ReadCat u) n b f.0;
      spares = only-after spares_plain v x (ReadCat u) n refl f.0;
      shape = ap (λ (y : View). y.shape) f.0;
      plan = ap (λ (y : View). y.plan) f.0;
      state = ap (λ (y : View). y.state) f.0 ∙ ap (λ (y : View). record v.state { got = y.state.got }) (sym f.0);
      own = ap (λ (y : View). y.own) f.0 ∙ ap (λ (y : View). record v.own { meaning = with_got y.own.meaning.got v.own.meaning }) (sym f.0);
    }

-- the register has the field of variable w's object
pub asks-get : (u w i c n r : ℕ) (v x : View) → HasSeenPhase v.state → known_as v.state v.own.meaning c ≡ variable v.own.meaning.heap w → w < section_variables → i < v.own.meaning.heap.fields → Found (ReadOwn c i) n v x → r ≡ x.state.got
    → Asks x.state x.own.meaning (seen x) (StoreRoot u r) (ops.Get u w i)
asks-get u w i c n r v x phase known below field f is =
    let got : x.own.meaning.got ≡ followed v.own.meaning.heap (seen v) (variable v.own.meaning.heap w) i = ap (λ (y : View). y.own.meaning.got) f.0 ∙ ap (λ ref. followed v.own.meaning.heap (seen v) ref i) known in (
      (phase.0, ap (λ (y : View). y.state.phase_seen) f.0 ∙ phase.1, phase.2),
      (refl, is, got ∙ (λ j. followed (sym f.0 j).own.meaning.heap (seen (sym f.0 j)) (variable (sym f.0 j).own.meaning.heap w) i), below, subst (λ (y : View). i < y.own.meaning.heap.fields) (sym f.0) field),
    )

-- the register has variable c of the catalogue
pub asks-cat : (u c n r : ℕ) (v x : View) → HasSeenPhase v.state → c < section_variables → Found (ReadCat c) n v x → r ≡ x.state.got → Asks x.state x.own.meaning (seen x) (StoreRoot u r) (ops.Cat u c)
asks-cat u c n r v x phase below f is =
    ((phase.0, ap (λ (y : View). y.state.phase_seen) f.0 ∙ phase.1, phase.2), (refl, is, ap (λ (y : View). y.own.meaning.got) f.0 ∙ (λ j. lent_variable (seen (sym f.0 j)) c), below))

-- a value was read, which changes nothing
pub reads-value : (p : Step → Bool) (c n : ℕ) (v x : View) → p (ReadValue c) ≡ true → Found (ReadValue c) n v x → HasRead p v x
reads-value p c n v x b f =
    record {
      ran = ran-found v x (ReadValue c) n refl f;
      only = only-after p v x (ReadValue c) n b f.0;
      spares = only-after spares_plain v x (ReadValue c) n refl f.0;
      shape = ap (λ (y : View). y.shape) f.0;
      plan = ap (λ (y : View). y.plan) f.0;
      state = ap (λ (y : View). y.state) f.0 ∙ ap (λ (y : View). record v.state { got = y.state.got }) (sym f.0);
      own = ap (λ (y : View). y.own) f.0 ∙ ap (λ (y : View). record v.own { meaning = with_got y.own.meaning.got v.own.meaning }) (sym f.0);
    }

-- more was read
pub reads-join : (p : Step → Bool) (u v w : View) → HasRead p u v → HasRead p v w → HasRead p u w
reads-join p u v w a b =
    record {
      ran = ran-join u v w a.ran b.ran;
      only = ran-only p u v w a.ran b.ran a.only b.only;
      spares = ran-only spares_plain u v w a.ran b.ran a.spares b.spares;
      shape = b.shape ∙ a.shape;
      plan = b.plan ∙ a.plan;
      state = b.state ∙ ap (λ (s : SeatState). record s { got = w.state.got }) a.state;
      own = b.own ∙ ap (λ (y : SectionState). record y { meaning = with_got w.own.meaning.got y.meaning }) a.own;
    }

pub reads-more : (p q : Step → Bool) (v w : View) → ((step : Step) → p step ≡ true → q step ≡ true) → HasRead p v w → HasRead q v w
reads-more p q v w more a = record { ran = a.ran; only = only-more p q more v w a.only; spares = a.spares; shape = a.shape; plan = a.plan; state = a.state; own = a.own }

-- what the seat sees of the catalogue stays
pub reads-seen : (p : Step → Bool) (v x : View) → HasRead p v x → seen x ≡ seen v
reads-seen p v x k = λ i. seen_by (k.shape i) (k.plan i) (k.state i)
