-- Two variables name one object exactly if their words are the same.
use Rattle.std.proofs.Common.{ℕ, zero, suc, ◌≡◌, ◌+◌, ◌-◌, ◌<◌, ◌⊎◌, ⊎_elim, inl, inr, List, arith, refl, sym, ◌∙◌, subst, true}
use Rattle.std.specs.Prelude.{IsFalse, ◌==◌, slice_index}
use Rattle.std.specs.List.{list_any}
use Rattle.std.proofs.Math.Logic.{∥∥₁_elim}
use Rattle.std.proofs.Props.{props}
use Rattle.std.proofs.lemmas.Bool.{or_right}
use Rattle.mark_core.specs.Layout.{words_of}
use Rattle.mark_core.specs.Numbers.{section_variables}
use Rattle.mark_core.specs.Steps.MutatorSteps.{seat_variable as word_in}
use Rattle.mark_core.specs.Seats.{may_mutate}
use Rattle.mark_core.specs.declared.kinds.Step.TheVariants.{ReadCount}
use Rattle.mark_core.proofs.Formed.FormedLearns.{used-exists}
use Rattle.mark_core.proofs.References.ReferencesRoots.{known-used, Used}
use Rattle.plain_heap.specs.Paths.{Name, Names}
use Rattle.plain_heap.specs.PlainHeap.{variable}
use Rattle.plain_heap.specs.declared.object.Ref.{Ref}
use Rattle.plain_heap.specs.declared.object.Ref.TheVariants as refs
use Rattle.gc_table.specs.Rule.{Agrees, IsPossible, IsState}
use Rattle.gc_table.specs.StandsFor.{WordAgrees, name_at, object_count}
use Rattle.gc_table.specs.TableState.{TableState, meanings_of}
use Rattle.gc_table.specs.declared.view.View.{View}
use Rattle.gc_table.proofs.Stands.StandsSeat.{looks}
use Rattle.card_clean.proofs.Owned.{variable-there}
use Rattle.mutator_ops.proofs.Knowing.{any-at, known-variable, nil-variable}

-- a reference names one object
one-name : (w : ℕ) (ref : Ref) (a b : Name) → Names w ref a → Names w ref b → (a.section ≡ b.section) × (a.number ≡ b.number)
one-name w refs.Nil a b x y = absurd x
one-name w (refs.Own n) a b x y = (x.0 ∙ sym y.0, x.1 ∙ sym y.1)
one-name zero (refs.Cat n) a b x y = absurd x
one-name (suc w) (refs.Cat n) a b x y = (x.0 ∙ sym y.0, x.1 ∙ sym y.1)

-- words that agree with one reference are nil, or name cells with one identity
agreed : (ids : List ℕ) (counts : ℕ → ℕ) (w a b : ℕ) (ref : Ref) → WordAgrees ids counts w a ref → WordAgrees ids counts w b ref → (a ≡ b) ⊎ ((0 < a) × (0 < b) × (slice_index ids (a - 1) ≡ slice_index ids (b - 1)))
agreed ids counts w a b ref (inl x) (inl y) = inl (x.0 ∙ sym y.0)
agreed ids counts w a b ref (inl x) (inr y) = absurd (subst (λ (r : Ref). Names w r (name_at ids (b - 1))) x.1 y.1)
agreed ids counts w a b ref (inr x) (inl y) = absurd (subst (λ (r : Ref). Names w r (name_at ids (a - 1))) y.1 x.1)
agreed ids counts w a b ref (inr x) (inr y) =
    let n = one-name w ref (name_at ids (a - 1)) (name_at ids (b - 1)) x.1 y.1 in inr (x.0, y.0, omega (arith, n.0, n.1))

-- the identities of the cells
abbrev ids_of : TableState → List ℕ
ids_of x = (words_of x.core.shape x.core.words).identities

-- in a state that agrees with the view, the words of two variables with one reference are the same
words-there :
    (x : TableState) (i : ℕ) (v : View) (u t : ℕ) → IsFalse v.shape.sharing → IsState x → Agrees x i v → IsFalse v.state.spent → may_mutate v.state ≡ true → u < section_variables → t < section_variables → variable v.own.meaning.heap u ≡ variable v.own.meaning.heap t
    → word_in v.state u ≡ word_in v.state t
words-there x i v u t alone st a live turn low below same =
    ⊎_elim (λ (e : word_in v.state u ≡ word_in v.state t). e)
    (λ (q : (0 < word_in v.state u) × (0 < word_in v.state t) × (slice_index (ids_of x) (word_in v.state u - 1) ≡ slice_index (ids_of x) (word_in v.state t - 1))).
    let c = word_in v.state u - 1 in
    let d = word_in v.state t - 1 in
    let p = used u c low (omega (arith, q.0)) in
    let r = used t d below (omega (arith, q.1)) in
    let one : c ≡ d = st.core.sound.caches.distinct c (used-exists x.core c st.core.formed p) d (used-exists x.core d st.core.formed r) p r q.2 in
    omega (arith, one, q.0, q.1))
    (agreed (ids_of x) (object_count (meanings_of x.sections)) i (word_in v.state u) (word_in v.state t) (variable v.own.meaning.heap t)
    (subst (λ (ref : Ref). WordAgrees (ids_of x) (object_count (meanings_of x.sections)) i (word_in v.state u) ref) same (variable-there x i v u alone st a live turn low)) (variable-there x i v t alone st a live turn below))
  where
    used : (k c : ℕ) → k < section_variables → word_in v.state k ≡ c + 1 → Used x.core c ≡ true
    used k c l e = known-used x.core i v.state ReadCount c (looks x.core i v.state st.core a.seat live) (or_right (v.state.got == c + 1) (list_any (λ (y : ℕ). y == c + 1) v.state.env) (any-at v.state.env k (c + 1) (omega (arith, l, (st.core.formed.seats i v.state a.seat).env)) e))

-- variables with one reference have one word
pub one-word : (v : View) (u t : ℕ) → IsFalse v.shape.sharing → ∥ IsPossible v ∥₁ → may_mutate v.state ≡ true → u < section_variables → t < section_variables → variable v.own.meaning.heap u ≡ variable v.own.meaning.heap t → word_in v.state u ≡ word_in v.state t
one-word v u t alone p turn low below same = ∥∥₁_elim p (Prim.hlevel props) (λ (q : IsPossible v). words-there q.state q.index v u t alone q.whole q.agrees q.live turn low below same)

-- variables with one word have one reference
pub one-reference : (v : View) (u t : ℕ) → IsFalse v.shape.sharing → ∥ IsPossible v ∥₁ → may_mutate v.state ≡ true → u < section_variables → t < section_variables → word_in v.state u ≡ word_in v.state t → variable v.own.meaning.heap u ≡ variable v.own.meaning.heap t
one-reference v u t alone p turn low below same = by (word_in v.state u) refl (sym same)
  where
    by : (word : ℕ) → word_in v.state u ≡ word → word_in v.state t ≡ word_in v.state u → variable v.own.meaning.heap u ≡ variable v.own.meaning.heap t
    by zero e f = nil-variable v u alone p turn low e ∙ sym (nil-variable v t alone p turn below (f ∙ e))
    by (suc c) e f =
        let one : suc c ≡ c + 1 = omega arith in
        sym (known-variable v u c alone p turn low (e ∙ one)) ∙ known-variable v t c alone p turn below (f ∙ (e ∙ one))
