-- Words agree with references, and cells with objects, as long as the identities of the cells that are named stay.
use Rattle.std.proofs.Common.{ℕ, ◌≡◌, ◌+◌, ◌-◌, ◌*◌, ◌/◌, ◌%◌, ◌<◌, ◌≤◌, suc, List, length, arith, refl, sym, ap, ◌∙◌, subst, true, Option, Some, None, inl, inr}
use Rattle.std.specs.Prelude.{slice_get, slice_index, slice_index_or, IfSome}
use Rattle.mark_core.specs.Bits.{flag}
use Rattle.mark_core.specs.Seats.{makes, last_made}
use Rattle.mark_core.specs.Cells.{field}
use Rattle.mark_core.specs.Rules.HeapRules.{section_of_cell, number_of_cell}
use Rattle.mark_core.specs.declared.kinds.Shape.{Shape}
use Rattle.mark_core.specs.declared.seat.SeatState.{SeatState}
use Rattle.plain_heap.specs.declared.object.Ref.{Ref}
use Rattle.plain_heap.specs.declared.object.Ref.TheVariants as refs
use Rattle.plain_heap.specs.Paths.{Names}
use Rattle.plain_heap.specs.PlainStep.{lent}
use Rattle.gc_table.specs.StandsFor.{WordAgrees, HoldsObject, IsForNextObject, SeatStands}
use Rattle.gc_table.specs.declared.view.Meaning.{Meaning}

-- a word and a reference agree as before, if the cell that is named keeps its identity, and no object goes
pub agrees-on : (ids ids' : List ℕ) (p q : ℕ → ℕ) (w word : ℕ) (ref : Ref) → (0 < word → slice_index ids' (word - 1) ≡ slice_index ids (word - 1)) → ((k : ℕ) → p k ≤ q k) → WordAgrees ids p w word ref → WordAgrees ids' q w word ref
agrees-on ids ids' p q w word ref same more (inl z) = inl z
agrees-on ids ids' p q w word ref same more (inr (some, names, there)) =
    let P : ℕ → Type 0 = λ n. Names w ref (record { section = n / flag; number = n % flag }) × (n % flag < q (n / flag)) in
    let now : P (slice_index ids' (word - 1)) = subst P (sym (same some)) (names, omega (arith, there, more (section_of_cell ids (word - 1)))) in
    inr (some, now.0, now.1)

-- nil agrees only with nil
pub nil-is : (ids : List ℕ) (p : ℕ → ℕ) (w : ℕ) (ref : Ref) → WordAgrees ids p w 0 ref → ref ≡ refs.Nil
nil-is ids p w ref (inl z) = z.1
nil-is ids p w ref (inr (some, names, there)) = absurd (omega (arith, some))

-- a reference of the catalogue, as a warehouse sees it
pub lent-agrees : (ids : List ℕ) (p : ℕ → ℕ) (w word : ℕ) (ref : Ref) → WordAgrees ids p 0 word ref → WordAgrees ids p (suc w) word (lent ref)
lent-agrees ids p w word refs.Nil (inl z) = inl (z.0, refl)
lent-agrees ids p w word refs.Nil (inr (some, names, there)) = absurd names
lent-agrees ids p w word (refs.Own n) (inl z) = absurd (no z.1)
  where
    no : refs.Own n ≡ refs.Nil → ⊥
    no e = cc
lent-agrees ids p w word (refs.Own n) (inr (some, names, there)) = inr (some, names, there)
lent-agrees ids p w word (refs.Cat n) (inl z) = absurd (no z.1)
  where
    no : refs.Cat n ≡ refs.Nil → ⊥
    no e = cc
lent-agrees ids p w word (refs.Cat n) (inr (some, names, there)) = absurd names

-- what stays of cell c: its words, the identities of the cells that it names, and its object
pub record Stays (sh : Shape) (ids ids' values values' fields fields' : List ℕ) (p q : ℕ → ℕ) (c : ℕ) : Type 0 where
  pub identity : slice_index ids' c ≡ slice_index ids c
  pub value : slice_index values' c ≡ slice_index values c
  pub each_field : (i : ℕ) → i < sh.fields → field sh fields' c i ≡ field sh fields c i
  pub targets : (i : ℕ) → i < sh.fields → 0 < field sh fields c i → slice_index ids' (field sh fields c i - 1) ≡ slice_index ids (field sh fields c i - 1)
  pub more : (k : ℕ) → p k ≤ q k

pub number-same : (ids ids' : List ℕ) (c : ℕ) → slice_index ids' c ≡ slice_index ids c → number_of_cell ids' c ≡ number_of_cell ids c
number-same ids ids' c e = ap (λ (n : ℕ). n % flag) e

pub section-same : (ids ids' : List ℕ) (c : ℕ) → slice_index ids' c ≡ slice_index ids c → section_of_cell ids' c ≡ section_of_cell ids c
section-same ids ids' c e = ap (λ (n : ℕ). n / flag) e

-- a cell that stays holds its object, if this stays too
pub holds-on : (sh : Shape) (ids ids' values values' fields fields' : List ℕ) (p q : ℕ → ℕ) (m n : Meaning) (c : ℕ) → Stays sh ids ids' values values' fields fields' p q c
    → slice_get n.heap.objects (number_of_cell ids c) ≡ slice_get m.heap.objects (number_of_cell ids c) → HoldsObject sh ids values fields p m c → HoldsObject sh ids' values' fields' q n c
holds-on sh ids ids' values values' fields fields' p q m n c k same h =
    record {
      object = h.object;
      there = ap (λ (j : ℕ). slice_get n.heap.objects j) (number-same ids ids' c k.identity) ∙ same ∙ h.there;
      room = h.room;
      rest = h.rest;
      value = k.value ∙ h.value;
      each_field =
          λ i l.
          subst (λ (w : ℕ). WordAgrees ids' q w (field sh fields' c i) (slice_index_or h.object.refs i refs.Nil)) (sym (section-same ids ids' c k.identity))
          (subst (λ (word : ℕ). WordAgrees ids' q (section_of_cell ids c) word (slice_index_or h.object.refs i refs.Nil)) (sym (k.each_field i l))
          (agrees-on ids ids' p q (section_of_cell ids c) (field sh fields c i) (slice_index_or h.object.refs i refs.Nil) (k.targets i l) k.more (h.each_field i l)));
    }

-- a cell that is made for the next object still is, if no object came
pub next-on : (sh : Shape) (ids ids' values values' fields fields' : List ℕ) (p q : ℕ → ℕ) (m n : Meaning) (c : ℕ) → Stays sh ids ids' values values' fields fields' p q c
    → length n.heap.objects ≡ length m.heap.objects → n.value ≡ m.value → IsForNextObject sh ids values fields m c → IsForNextObject sh ids' values' fields' n c
next-on sh ids ids' values values' fields fields' p q m n c k same value h =
    record {
      number = number-same ids ids' c k.identity ∙ h.number ∙ sym same;
      value = k.value ∙ h.value ∙ sym value;
      nil = λ i l. k.each_field i l ∙ h.nil i l;
    }

last_on : (ids ids' : List ℕ) (w made : ℕ) (o : Option ℕ) → ((c : ℕ) → o ≡ Some c → slice_index ids' c ≡ slice_index ids c) → IfSome o (λ c. (slice_index ids c + 1 ≡ w * flag + made) × (0 < made)) → IfSome o (λ c. (slice_index ids' c + 1 ≡ w * flag + made) × (0 < made))
last_on ids ids' w made None same h = tt
last_on ids ids' w made (Some c) same h = (ap (λ (n : ℕ). n + 1) (same c refl) ∙ h.0, h.1)

-- what a seat has at hand agrees as before, if the words of the cells that it makes and names stay
pub seat-on : (sh : Shape) (ids ids' values values' : List ℕ) (p q : ℕ → ℕ) (w : ℕ) (s : SeatState) (m : Meaning) → (0 < s.got → slice_index ids' (s.got - 1) ≡ slice_index ids (s.got - 1))
    → ((c part : ℕ) → makes s.cache c part ≡ true → slice_index values' c ≡ slice_index values c) → ((c : ℕ) → last_made s.cache ≡ Some c → slice_index ids' c ≡ slice_index ids c) → ((k : ℕ) → p k ≤ q k)
    → SeatStands sh ids values p w s m → SeatStands sh ids' values' q w s m
seat-on sh ids ids' values values' p q w s m got making last more k =
    record {
      got = agrees-on ids ids' p q w s.got m.got got more k.got;
      made = k.made;
      making = λ c part e l. making c part e ∙ k.making c part e l;
      last = last_on ids ids' w s.made (last_made s.cache) last k.last;
    }
