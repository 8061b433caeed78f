-- A walk along a field, visit by visit.
use Rattle.std.proofs.Common.{ℕ, ◌≡◌, ◌+◌, ◌-◌, ◌<◌, zero, suc, arith, refl, sym, ap, ◌∙◌, subst, true, Option, ◌⊎◌, inl, inr}
use Rattle.mark_core.specs.Numbers.{section_variables}
use Rattle.mark_core.specs.Seats.{may_mutate}
use Rattle.mark_core.specs.Steps.MutatorSteps.{seat_variable as word_in}
use Rattle.mark_core.specs.declared.kinds.Step.{Step}
use Rattle.mark_core.specs.declared.kinds.Step.TheVariants.{ReadOwn, ReadValue}
use Rattle.mark_core.specs.declared.seat.SeatState.{SeatState}
use Rattle.plain_heap.specs.PlainHeap.{Heap, variable}
use Rattle.plain_heap.specs.PlainStep.{heap_after, walk, onto, followed, object_of, value_of}
use Rattle.plain_heap.specs.declared.object.Ref.{Ref}
use Rattle.plain_heap.specs.declared.object.Ref.TheVariants as refs
use Rattle.plain_heap.specs.declared.operation.Op.{Op}
use Rattle.plain_heap.specs.declared.operation.Op.TheVariants as ops
use Rattle.gc_table.specs.Rule.{IsPossible}
use Rattle.gc_table.specs.declared.view.SectionState.{SectionState}
use Rattle.gc_table.specs.declared.view.View.{View}
use Rattle.std.specs.Prelude.{IsFalse}
use Rattle.mutator_ops.proofs.Stepping.{once-none, reads-seen, reads-join}
use Rattle.mutator_ops.specs.Doing.{HasRead, Does, belongs, seen, with_dropped}
use Rattle.mutator_ops.specs.Walking.{IsAt, Visits, ref_at, walks_step}
use Rattle.mutator_ops.proofs.Knowing.{Knows, knows-variable, knows-register, known-variable, known-register, nil-variable, nil-register, some-variable, some-register}

-- the word and the reference in hand are a variable's, or the register's
abbrev pub InHand : ℕ → ℕ → Ref → View → Type 0
InHand u word ref v = ((word ≡ word_in v.state u) × (v.state.got ≡ 0) × (ref ≡ variable v.own.meaning.heap u)) ⊎ ((word ≡ v.state.got) × (ref ≡ v.own.meaning.got))

pub hand-at : (u word : ℕ) (ref : Ref) (v : View) → InHand u word ref v → IsAt u word v
hand-at u word ref v (inl x) = inl (x.0, x.1)
hand-at u word ref v (inr x) = inr x.0

pub hand-nil : (u word : ℕ) (ref : Ref) (v : View) → IsFalse v.shape.sharing → ∥ IsPossible v ∥₁ → may_mutate v.state ≡ true → u < section_variables → InHand u word ref v → word ≡ 0 → ref ≡ refs.Nil
hand-nil u word ref v alone p turn below (inl x) e = x.2 ∙ nil-variable v u alone p turn below (sym x.0 ∙ e)
hand-nil u word ref v alone p turn below (inr x) e = x.1 ∙ nil-register v alone p turn (sym x.0 ∙ e)

pub hand-some : (u word : ℕ) (ref : Ref) (v : View) → IsFalse v.shape.sharing → ∥ IsPossible v ∥₁ → may_mutate v.state ≡ true → u < section_variables → InHand u word ref v → 0 < word → ref ≡ refs.Nil → ⊥
hand-some u word ref v alone p turn below (inl x) some e = some-variable v u alone p turn below (subst (λ n. 0 < n) x.0 some) (sym x.2 ∙ e)
hand-some u word ref v alone p turn below (inr x) some e = some-register v alone p turn (subst (λ n. 0 < n) x.0 some) (sym x.1 ∙ e)

pub hand-known : (u word : ℕ) (ref : Ref) (v : View) → IsFalse v.shape.sharing → ∥ IsPossible v ∥₁ → may_mutate v.state ≡ true → u < section_variables → InHand u word ref v → 0 < word → ref_at word v ≡ ref
hand-known u word ref v alone p turn below (inl x) some = known-variable v u (word - 1) alone p turn below (let e = x.0 in omega (arith, e, some)) ∙ sym x.2
hand-known u word ref v alone p turn below (inr x) some = known-register v (word - 1) (let e = x.0 in omega (arith, e, some)) ∙ sym x.1

-- the seat knows the cell in hand
pub at-knows : (u word c : ℕ) (v : View) → IsFalse v.state.spent → u < section_variables → IsAt u word v → word ≡ c + 1 → Knows v c
at-knows u word c v live below (inl x) e = knows-variable v u c live below (sym x.0 ∙ e)
at-knows u word c v live below (inr x) e = knows-register v c (sym x ∙ e)

-- nothing comes after nil
walk-nil : (heap : Heap) (catalogue : Option Heap) (i n : ℕ) → walk heap catalogue i n refs.Nil ≡ (0, 0)
walk-nil heap catalogue i zero = refl
walk-nil heap catalogue i (suc n) = refl

-- one visit, and then the rest
walk-more : (heap : Heap) (catalogue : Option Heap) (i n : ℕ) (ref : Ref) → (ref ≡ refs.Nil → ⊥) → walk heap catalogue i (suc n) ref ≡ onto (value_of (object_of heap catalogue ref)) (walk heap catalogue i n (followed heap catalogue ref i))
walk-more heap catalogue i n refs.Nil some = absurd (some refl)
walk-more heap catalogue i n (refs.Own k) some = refl
walk-more heap catalogue i n (refs.Cat k) some = refl

-- this many visits, with this sum, and those to come
abbrev pub plus : ℕ → ℕ → ℕ × ℕ → ℕ × ℕ
plus count total w = (count + w.0, total + w.1)

-- how far the walk has come
pub record Walks (u i limit count total word : ℕ) (v x : View) : Type 0 where
  pub read : HasRead walks_step v x
  pub ref : Ref
  pub hand : InHand u word ref x
  pub rest : walk v.own.meaning.heap (seen v) i limit (variable v.own.meaning.heap u) ≡ plus count total (walk v.own.meaning.heap (seen v) i (limit - count) ref)

pub walks-none : (u i limit word : ℕ) (v : View) → HasRead walks_step v v → v.state.got ≡ 0 → word ≡ word_in v.state u → Walks u i limit 0 0 word v v
walks-none u i limit word v k got e = record { read = k; ref = variable v.own.meaning.heap u; hand = inl (e, got, refl); rest = (let all : limit ≡ limit - 0 = omega arith in ap (λ n. walk v.own.meaning.heap (seen v) i n (variable v.own.meaning.heap u)) all) ∙ none (walk v.own.meaning.heap (seen v) i (limit - 0) (variable v.own.meaning.heap u)) }
  where
    none : (w : ℕ × ℕ) → w ≡ plus 0 0 w
    none w = let a : w.0 ≡ 0 + w.0 = omega arith in let b : w.1 ≡ 0 + w.1 = omega arith in λ j. (a j, b j)

-- the walk has met nil
pub walks-nil : (u i limit count total word : ℕ) (v x : View) → IsFalse x.shape.sharing → ∥ IsPossible x ∥₁ → may_mutate x.state ≡ true → u < section_variables → Walks u i limit count total word v x → word ≡ 0 → (count, total) ≡ walk v.own.meaning.heap (seen v) i limit (variable v.own.meaning.heap u)
walks-nil u i limit count total word v x alone p turn below k e =
    let none = hand-nil u word k.ref x alone p turn below k.hand e in
    let same : (count, total) ≡ plus count total (0, 0) = let a : count ≡ count + 0 = omega arith in let b : total ≡ total + 0 = omega arith in λ j. (a j, b j) in
    same ∙ ap (plus count total) (sym (ap (λ r. walk v.own.meaning.heap (seen v) i (limit - count) r) none ∙ walk-nil v.own.meaning.heap (seen v) i (limit - count))) ∙ sym k.rest

-- it has come to its limit
pub walks-all : (u i limit count total word : ℕ) (v x : View) → Walks u i limit count total word v x → count ≡ limit → (limit, total) ≡ walk v.own.meaning.heap (seen v) i limit (variable v.own.meaning.heap u)
walks-all u i limit count total word v x k e =
    let none : limit - count ≡ 0 = omega (arith, e) in
    let same : (limit, total) ≡ plus count total (0, 0) = let a : limit ≡ count + 0 = omega (arith, e) in let b : total ≡ total + 0 = omega arith in λ j. (a j, b j) in
    same ∙ ap (plus count total) (sym (ap (λ n. walk v.own.meaning.heap (seen v) i n k.ref) none)) ∙ sym k.rest

-- it goes on
pub walks-more : (u i limit count total word value next : ℕ) (v x w : View) → IsFalse x.shape.sharing → ∥ IsPossible x ∥₁ → may_mutate x.state ≡ true → u < section_variables → count < limit → 0 < word → Walks u i limit count total word v x → Visits u word i value x w → next ≡ w.state.got
    → Walks u i limit (count + 1) (total + value) next v w
walks-more u i limit count total word value next v x w alone p turn below more some k visit is =
    let heap : Heap = v.own.meaning.heap in
    let same : x.own.meaning.heap ≡ heap = ap (λ (o : SectionState). o.meaning.heap) k.read.own in
    let sees : seen x ≡ seen v = reads-seen walks_step v x k.read in
    let known : ref_at word x ≡ k.ref = hand-known u word k.ref x alone p turn below k.hand some in
    let value_is : value ≡ value_of (object_of heap (seen v) k.ref) = visit.read ∙ (λ j. value_of (object_of (same j) (sees j) (known j))) in
    let next_is : w.own.meaning.got ≡ followed heap (seen v) k.ref i = visit.next ∙ (λ j. followed (same j) (sees j) (known j) i) in
    let left : limit - count ≡ suc (limit - (count + 1)) = omega (arith, more) in
    let step = walk-more heap (seen v) i (limit - (count + 1)) k.ref (hand-some u word k.ref x alone p turn below k.hand some) in
    let rest : ℕ × ℕ = walk heap (seen v) i (limit - (count + 1)) (w.own.meaning.got) in
    let sum : plus count total (onto value rest) ≡ plus (count + 1) (total + value) rest = let a : count + (1 + rest.0) ≡ count + 1 + rest.0 = omega arith in let b : total + (value + rest.1) ≡ total + value + rest.1 = omega arith in λ j. (a j, b j) in
    record {
      read = reads-join walks_step v x w k.read visit.walks;
      ref = w.own.meaning.got;
      hand = inr (is, refl);
      rest =
          k.rest
          ∙ ap (λ n. plus count total (walk heap (seen v) i n k.ref)) left
          ∙ ap (plus count total) step
          ∙ (λ j. plus count total (onto (sym value_is j) (walk heap (seen v) i (limit - (count + 1)) (sym next_is j))))
          ∙ sum;
    }

-- the steps of a walk are those of `sum`
pub walks-sum : (u i limit : ℕ) (step : Step) → walks_step step ≡ true → belongs (ops.Sum u i limit) step ≡ true
walks-sum u i limit (ReadOwn c j) e = refl
walks-sum u i limit (ReadValue c) e = refl
walks-sum u i limit step e = absurd (cc)

-- a command that only reads, and leaves the register as it was
pub read-does : (op : Op) (v x : View) → HasRead (belongs op) v x → x.state.got ≡ v.state.got → ((d : ℕ) → heap_after (with_dropped d v.own.meaning.heap) (seen v) op ≡ with_dropped d v.own.meaning.heap) → Does op 0 v x
read-does op v x k got same =
    let state : x.state ≡ v.state = k.state ∙ ap (λ n. record v.state { got = n }) got in
    record {
      ran = k.ran;
      only = k.only;
      once = once-none v x k.spares;
      heap = λ d. (let none : d + 0 ≡ d = omega arith in λ j. with_dropped (none j) (k.own j).meaning.heap) ∙ sym (same d);
      undropped = ap (λ (y : SectionState). y.meaning.heap.dropped) k.own;
      state = state ∙ ap (λ (s : SeatState). record v.state { env = s.env }) (sym state);
      own = k.own ∙ ap (λ (y : SectionState). record v.own { meaning = y.meaning; history = y.history; settled = y.settled }) (sym k.own);
    }
