-- A variable that holds an object of the own section names a cell of this section, so the object may be stored in.
use Rattle.std.proofs.Common.{ℕ, ◌≡◌, ◌-◌, ◌<◌, ◌&&◌, eqb, List, true, refl, sym, ap, ◌∙◌, subst, arith, inl, inr, Option, Some, None, is_none}
use Rattle.std.specs.Prelude.{not, IsFalse, IsTrue, IfSome, ◌||◌}
use Rattle.std.proofs.lemmas.Bool.{and_parts, and_from, eq-eqb, ne_eqb, lt-ltb, false≢true, true≢false, or_left, or_right}
use Rattle.mark_core.specs.Numbers.{section_variables, value_bound}
use Rattle.mark_core.specs.Rules.HeapRules.{section_of_cell}
use Rattle.mark_core.specs.Layout.{words_of, card_count}
use Rattle.mark_core.specs.Steps.MutatorSteps.{may_change, in_variables, seat_variable as word_in}
use Rattle.mark_core.specs.Seats.{is_the, may_mutate}
use Rattle.mark_core.specs.WellFormed.{IsSeat}
use Rattle.mark_core.specs.declared.kinds.Shape.{Shape}
use Rattle.mark_core.specs.declared.kinds.Step.TheVariants.{StoreField, StoreValue, DirtyCard, ReadCount, ExchangeField, ExchangeValue, CheckCard}
use Rattle.mark_core.proofs.Blocks.BlocksStopped.{Taken}
use Rattle.plain_heap.specs.PlainHeap.{variable, is_own}
use Rattle.plain_heap.specs.declared.object.Ref.{Ref}
use Rattle.plain_heap.specs.declared.object.Ref.TheVariants as refs
use Rattle.gc_table.specs.Rule.{IsState, Agrees}
use Rattle.gc_table.specs.StandsFor.{WordAgrees, object_count}
use Rattle.gc_table.specs.Taking.{Asked, May}
use Rattle.gc_table.specs.TableState.{TableState, meanings_of}
use Rattle.gc_table.specs.declared.view.Meaning.{Meaning}
use Rattle.gc_table.specs.declared.view.View.{View}
use Rattle.gc_table.proofs.Stands.StandsSeat.{looks, env-agrees}
use Rattle.gc_table.proofs.State.StateStores.{Views, views}
use Rattle.card_clean.specs.Barrier.{HasOwn, IsStorable, MayStore}

-- a word that agrees with an own reference isn't nil, and names a cell of the section
pub owned-word : (ids : List ℕ) (p : ℕ → ℕ) (i word : ℕ) (ref : Ref) → is_own ref ≡ true → WordAgrees ids p i word ref → (0 < word) × (section_of_cell ids (word - 1) ≡ i)
owned-word ids p i word refs.Nil is a = absurd (false≢true is)
owned-word ids p i word (refs.Cat k) is a = absurd (false≢true is)
owned-word ids p i word (refs.Own k) is (inl z) = absurd (cc)
owned-word ids p i word (refs.Own k) is (inr (some, names, below)) = (some, names.0)

-- in each state that agrees with the view, the variable's word agrees with the variable
pub variable-there : (x : TableState) (i : ℕ) (v : View) (u : ℕ) → IsFalse v.shape.sharing → IsState x → Agrees x i v → IsFalse v.state.spent → may_mutate v.state ≡ true → u < section_variables
    → WordAgrees (words_of x.core.shape x.core.words).identities (object_count (meanings_of x.sections)) i (word_in v.state u) (variable v.own.meaning.heap u)
variable-there x i v u alone st a live turn below =
    let k : Taken x.core i v.state ReadCount = looks x.core i v.state st.core a.seat live in
    let n : Views x i v = views x i v ReadCount (record { whole = st; agrees = a; live = live; ok = tt }) turn in
    subst (λ (m : Meaning). WordAgrees (words_of x.core.shape x.core.words).identities (object_count (meanings_of x.sections)) i (word_in v.state u) (variable m.heap u)) n.meaning
    (env-agrees x.core i v.state ReadCount (meanings_of x.sections) u k (st.stands (subst (λ (sh : Shape). IsFalse sh.sharing) a.shape alone)) n.mutates below)

-- the variable's word names a cell of the own section, if the variable holds an own object
own-there : (x : TableState) (i : ℕ) (v : View) (u : ℕ) → IsFalse v.shape.sharing → IsState x → Agrees x i v → IsFalse v.state.spent → may_mutate v.state ≡ true → HasOwn v u → may_change x.core.shape (words_of x.core.shape x.core.words).identities v.state u ≡ true
own-there x i v u alone st a live turn own =
    let ids : List ℕ = (words_of x.core.shape x.core.words).identities in
    let n : Views x i v = views x i v ReadCount (record { whole = st; agrees = a; live = live; ok = tt }) turn in
    let names = owned-word ids (object_count (meanings_of x.sections)) i (word_in v.state u) (variable v.own.meaning.heap u) own.1 (variable-there x i v u alone st a live turn own.0) in
    and_from _ _ (ap not (ne_eqb (word_in v.state u) 0 (λ e. omega (arith, e, names.0))))
    (or_right x.core.shape.sharing _ (subst (λ (o : Option ℕ). is_the o (section_of_cell ids (word_in v.state u - 1)) ≡ true) (sym n.mutates.section) (eq-eqb i (section_of_cell ids (word_in v.state u - 1)) (sym names.1))))

storable-there : (v : View) (w : Option ℕ) → IsStorable v w → in_variables w ≡ true
storable-there v None h = refl
storable-there v (Some w) h = lt-ltb w section_variables h

-- a reference may be stored in the object
pub may-store_field : (v : View) (u i : ℕ) (w : Option ℕ) → IsFalse v.shape.sharing → IsFalse v.state.spent → MayStore v → HasOwn v u → i < v.shape.fields → IsStorable v w → May (StoreField u i w) v
may-store_field v u i w alone live m own field stored x k st a = (
  and_from _ _ (and_from _ _ (and_from _ _ (lt-ltb u section_variables own.0) (lt-ltb i x.core.shape.fields (subst (λ (sh : Shape). i < sh.fields) a.shape field))) (storable-there v w stored)) m.turn,
  (own-there x k v u alone st a live m.turn own, (ap is_none m.owes, tt)),
)

-- a value may be stored in the object
pub may-store_value : (v : View) (u n : ℕ) → IsFalse v.shape.sharing → IsFalse v.state.spent → MayStore v → HasOwn v u → May (StoreValue u n) v
may-store_value v u n alone live m own x k st a = (and_from _ _ (lt-ltb u section_variables own.0) m.turn, (own-there x k v u alone st a live m.turn own, (ap is_none m.owes, tt)))

-- the card that is owed may be dirtied
pub may-dirty_owed : (v : View) (card : ℕ) → may_mutate v.state ≡ true → v.state.owes ≡ Some card → May (DirtyCard card) v
may-dirty_owed v card turn owes x k st a =
    let formed : IsSeat x.core.shape k v.state = st.core.formed.seats k v.state a.seat in
    let card_there : card < card_count x.core.shape = subst (λ (o : Option ℕ). IfSome o (λ (n : ℕ). n < card_count x.core.shape)) owes formed.owes in
    (and_from _ _ (lt-ltb card (card_count x.core.shape) card_there) (or_left (v.state.active || v.state.knows) v.state.admitted (or_left v.state.active v.state.knows (and_parts v.state.active _ turn).0)), tt)

-- and checked before
pub may-check_owed : (v : View) (card : ℕ) → may_mutate v.state ≡ true → v.state.owes ≡ Some card → May (CheckCard card) v
may-check_owed v card turn owes = may-dirty_owed v card turn owes

-- if objects are shared, a variable that isn't nil names one that may be changed
share-there : (x : TableState) (i : ℕ) (v : View) (u : ℕ) → IsTrue v.shape.sharing → Agrees x i v → 0 < word_in v.state u → may_change x.core.shape (words_of x.core.shape x.core.words).identities v.state u ≡ true
share-there x i v u shared a some = and_from _ _ (ap not (ne_eqb (word_in v.state u) 0 (λ e. omega (arith, e, some)))) (or_left x.core.shape.sharing _ (subst (λ (sh : Shape). IsTrue sh.sharing) a.shape shared))

pub may-share_field : (v : View) (u i : ℕ) (w : Option ℕ) → IsTrue v.shape.sharing → MayStore v → u < section_variables → 0 < word_in v.state u → i < v.shape.fields → in_variables w ≡ true → May (StoreField u i w) v
may-share_field v u i w shared m below some field stored x k st a = (
  and_from _ _ (and_from _ _ (and_from _ _ (lt-ltb u section_variables below) (lt-ltb i x.core.shape.fields (subst (λ (sh : Shape). i < sh.fields) a.shape field))) stored) m.turn,
  (share-there x k v u shared a some, (ap is_none m.owes, tt)),
)

pub may-share_value : (v : View) (u n : ℕ) → IsTrue v.shape.sharing → MayStore v → u < section_variables → 0 < word_in v.state u → May (StoreValue u n) v
may-share_value v u n shared m below some x k st a = (and_from _ _ (lt-ltb u section_variables below) m.turn, (share-there x k v u shared a some, (ap is_none m.owes, tt)))

-- if objects are shared, a variable that isn't nil names one that may be exchanged
exchange-there : (x : TableState) (i : ℕ) (v : View) (u : ℕ) → IsTrue v.shape.sharing → Agrees x i v → 0 < word_in v.state u → (not (eqb (word_in v.state u) 0) && x.core.shape.sharing) ≡ true
exchange-there x i v u shared a some = and_from _ _ (ap not (ne_eqb (word_in v.state u) 0 (λ e. omega (arith, e, some)))) (subst (λ (sh : Shape). IsTrue sh.sharing) a.shape shared)

pub may-exchange_field : (v : View) (u i : ℕ) (x y : Option ℕ) → IsTrue v.shape.sharing → MayStore v → u < section_variables → 0 < word_in v.state u → i < v.shape.fields → in_variables x ≡ true → in_variables y ≡ true → May (ExchangeField u i x y) v
may-exchange_field v u i x y shared m below some field expected stored t k st a = (
  and_from _ _ (and_from _ _ (and_from _ _ (lt-ltb u section_variables below) (lt-ltb i t.core.shape.fields (subst (λ (sh : Shape). i < sh.fields) a.shape field))) (and_from _ _ expected stored)) m.turn,
  (exchange-there t k v u shared a some, (ap is_none m.owes, tt)),
)

pub may-exchange_value : (v : View) (u n : ℕ) (o : ℕ) → IsTrue v.shape.sharing → MayStore v → u < section_variables → 0 < word_in v.state u → n < value_bound → May (ExchangeValue u o n) v
may-exchange_value v u n o shared m below some fits t k st a = (
  and_from _ _ (and_from _ _ (lt-ltb u section_variables below) (lt-ltb n value_bound fits)) m.turn,
  (exchange-there t k v u shared a some, (ap is_none m.owes, tt)),
)

-- what is asked besides of a store in an object that others share
pub asked-shared_field : (v : View) (u i : ℕ) (w : Option ℕ) → MayStore v → IsTrue v.shape.sharing → Asked (StoreField u i w) v
asked-shared_field v u i w m shared = (m.seen, λ alone. absurd (true≢false (sym shared ∙ alone)))

pub ruleset sharing = (asked-shared_field, may-share_field)
