use Rattle.std.proofs.Common.{ℕ, ◌≡◌, ◌+◌, ◌-◌, ◌<◌, List, arith, sym, ap, ◌∙◌, subst, true, Some, inl, inr}
use Rattle.std.specs.Prelude.{IsFalse, slice_get}
use Rattle.std.specs.Option.{option_map}
use Rattle.std.proofs.Math.Logic.{∥∥₁_elim}
use Rattle.std.proofs.Props.{props}
use Rattle.std.proofs.lemmas.Option.{same_Some}
use Rattle.mark_core.specs.Layout.{words_of}
use Rattle.mark_core.specs.Numbers.{section_variables}
use Rattle.mark_core.specs.Seats.{may_mutate}
use Rattle.mark_core.specs.Steps.MutatorSteps.{seat_variable as word_in}
use Rattle.mark_core.specs.Rules.HeapRules.{section_of_cell, number_of_cell}
use Rattle.mark_core.specs.declared.kinds.Step.TheVariants.{ReadCount}
use Rattle.mark_core.proofs.Formed.FormedLearns.{used-exists}
use Rattle.mark_core.proofs.References.ReferencesRoots.{known-used}
use Rattle.plain_heap.specs.PlainHeap.{variable}
use Rattle.plain_heap.specs.declared.object.Ref.{Ref}
use Rattle.gc_table.specs.Rule.{Agrees, IsPossible, IsState}
use Rattle.gc_table.specs.StandsFor.{WordAgrees, object_count}
use Rattle.gc_table.specs.TableState.{TableState, meanings_of}
use Rattle.gc_table.specs.declared.view.Place.{Place}
use Rattle.gc_table.specs.declared.view.SectionState.{SectionState}
use Rattle.gc_table.specs.declared.view.View.{View}
use Rattle.gc_table.proofs.State.StateStores.{Views, views}
use Rattle.card_clean.proofs.Owned.{variable-there}
use Rattle.mutator_ops.specs.Placing.{place_of}
use Rattle.mutator_ops.proofs.Knowing.{knows-there, taken-there, nil-variable}
use Rattle.gc_table.specs.Seats.{view_of}
use Rattle.plain_heap.specs.declared.object.Ref.TheVariants as refs
use Rattle.mutator_ops.proofs.placing.cell_of_variable.Goals as goal

-- A variable's object lies where it was made.
-- an own reference that a word agrees with is that of the word's cell
own-name : (ids : List ℕ) (p : ℕ → ℕ) (i c n : ℕ) → WordAgrees ids p i (c + 1) (refs.Own n) → (section_of_cell ids c ≡ i) × (number_of_cell ids c ≡ n)
own-name ids p i c n (inl x) = absurd (omega (arith, x.0))
own-name ids p i c n (inr (some, names, below)) =
    let at : c + 1 - 1 ≡ c = omega arith in (subst (λ d. section_of_cell ids d ≡ i) at names.0, subst (λ d. number_of_cell ids d ≡ n) at names.1)

place-there : (x : TableState) (i : ℕ) (v : View) (u c n : ℕ) → IsFalse v.shape.sharing → IsState x → Agrees x i v → IsFalse v.state.spent → may_mutate v.state ≡ true → u < section_variables → word_in v.state u ≡ c + 1
    → variable v.own.meaning.heap u ≡ refs.Own n → place_of v n ≡ Some c
place-there x i v u c n alone st a live turn below e own =
    let ids : List ℕ = (words_of x.core.shape x.core.words).identities in
    let views_are : Views x i v = views x i v ReadCount (record { whole = st; agrees = a; live = live; ok = tt }) turn in
    let agrees = variable-there x i v u alone st a live turn below in
    let named = own-name ids (object_count (meanings_of x.sections)) i c n (subst (λ (q : ℕ × Ref). WordAgrees ids (object_count (meanings_of x.sections)) i q.0 q.1) (λ j. (e j, own j)) agrees) in
    let used = known-used x.core i v.state ReadCount c (taken-there x i v st a live) (knows-there x i v st a live u c below e) in
    let lies = st.told.placed.at_place c (used-exists x.core c st.core.formed used) used in
    let same : lies.0 ≡ v.own = same_Some lies.0 v.own (sym lies.1 ∙ (ap (λ k. slice_get x.sections k) named.0 ∙ a.own i views_are.mutates.section)) in
    ap (λ (y : SectionState). option_map (λ (p : Place). p.cell) (slice_get y.places n)) (sym same)
    ∙ (ap (λ k. option_map (λ (p : Place). p.cell) (slice_get lies.0.places k)) (sym named.1) ∙ (ap (option_map (λ (p : Place). p.cell)) lies.2.1 ∙ ap Some lies.2.2))

place-is : (v : View) (u c n : ℕ) → IsFalse v.shape.sharing → ∥ IsPossible v ∥₁ → may_mutate v.state ≡ true → u < section_variables → word_in v.state u ≡ c + 1 → variable v.own.meaning.heap u ≡ refs.Own n → place_of v n ≡ Some c
place-is v u c n alone p turn below e own = ∥∥₁_elim p (Prim.hlevel props) (λ (q : IsPossible v). place-there q.state q.index v u c n alone q.whole q.agrees q.live turn below e own)

pub returns-then-word-eq0-clause-none : goal.returns-then-word-eq0-clause-none
returns-then-word-eq0-clause-none c =
    let q = c.requires.seat.1 in nil-variable (view_of c.args.seat.now) c.args.v q.owned c.args.seat.now.possible q.stores.turn c.requires.range (sym c.word_of-word.ensures ∙ c.if-word-eq0.true)

pub returns-clause-some : goal.returns-clause-some
returns-clause-some c n own =
    let v : View = view_of c.args.seat.now in
    let q = c.requires.seat.1 in
    let word : word_in v.state c.args.v ≡ c.make.result + 1 = let some = c.if-word-eq0.false in omega (arith, some, c.make.ensures, c.word_of-word.ensures) in
    place-is v c.args.v c.make.result n q.owned c.args.seat.now.possible q.stores.turn c.requires.range word own
