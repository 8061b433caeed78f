-- After a step the fields of each cell in use still name cells in use, outside the sweep.
use Rattle.mark_core.proofs.Colours.ColoursScanned.{lost-fields}
use Rattle.std.proofs.Common.{ℕ, ◌≡◌, ◌+◌, ◌*◌, ◌<◌, ◌≤◌, List, set, get_or, length, arith, refl, sym, ap, ◌∙◌, subst, Bool, true, false, not, ◌&&◌, eqb, cond, Option, Some, None, ⊎_elim}
use Rattle.std.specs.Prelude.{unwrap_or, is_some, nat_lt}
use Rattle.std.proofs.lemmas.Bool.{true≢false, and_parts, eqb-true, ltb-true, cases_eq, cases_lt, cases_Bool, ne_eqb}
use Rattle.std.proofs.lemmas.List.{get_or-set_same, get_or-set_other, set_past}
use Rattle.mark_core.specs.Layout.{Words, words_of, put_word}
use Rattle.mark_core.specs.Bits.{nil_or, cell_of}
use Rattle.mark_core.specs.Seats.{is_phase, free_in, makes, has_making, may_mutate}
use Rattle.mark_core.specs.Views.{makers, maker_of}
use Rattle.mark_core.specs.Cells.{field, FieldsGo}
use Rattle.mark_core.specs.Rules.HeapRules.{MakesNil, NamesInUse}
use Rattle.mark_core.specs.Steps.MutatorSteps.{seat_variable, variable_or_nil, in_variables}
use Rattle.mark_core.specs.Effects.{written}
use Rattle.mark_core.specs.Steps.{Core}
use Rattle.mark_core.proofs.Known.{found, words_left}
use Rattle.mark_core.proofs.HeldBlock.{of-view}
use Rattle.mark_core.proofs.Blocks.BlocksStopped.{Taken, words-read, mine as own-fact}
use Rattle.mark_core.proofs.References.ReferencesRoots.{Used, UsedAfter, nil-on, seat-formed}
use Rattle.mark_core.proofs.Writing.RegionWrites.{fields-kept}
use Rattle.mark_core.proofs.Used.UsedKept.{frees, used-on, used-back}
use Rattle.mark_core.proofs.Used.UsedSeats.{IsMadeBy}
use Rattle.mark_core.specs.declared.kinds.Shape.{Shape}
use Rattle.mark_core.specs.declared.kinds.Phase.TheVariants.{Sweep}
use Rattle.mark_core.specs.declared.kinds.Step.{Step}
use Rattle.mark_core.specs.declared.kinds.Step.TheVariants.{ReadField, ReadOwn, StoreField, StoreNew, StoreAlloc, ExchangeField}
use Rattle.mark_core.specs.declared.seat.SeatState.{SeatState}
use Rattle.mark_core.specs.Numbers.{value_bound, section_span}

-- the fields of cells in use go to cells in use
abbrev pub FieldsUsed : Core → ℕ → SeatState → Step → Type 0
FieldsUsed c i s step = (x : ℕ) → x < c.shape.cells → UsedAfter c i s step x ≡ true → FieldsGo c.shape (words_left c s step).fields (UsedAfter c i s step) x

-- each field of a list goes where it went, except one that is replaced and goes there too
pub field-set : (fields : List ℕ) (k j r : ℕ) (p : ℕ → Bool) → nil_or p r ≡ true → nil_or p (get_or fields j 0) ≡ true → nil_or p (get_or (set fields k r) j 0) ≡ true
field-set fields k j r p e f =
    ⊎_elim
    (λ (h : k < length fields).
    ⊎_elim
    (λ (a : j ≡ k). let same : get_or (set fields k r) j 0 ≡ r = rw a (get_or-set_same fields k r 0 h) in subst (λ (y : ℕ). nil_or p y ≡ true) (sym same) e)
    (λ n. subst (λ (y : ℕ). nil_or p y ≡ true) (sym (get_or-set_other fields k j r 0 n)) f)
    (cases_eq j k))
    (λ (h : length fields ≤ k). subst (λ (fs : List ℕ). nil_or p (get_or fs j 0) ≡ true) (sym (set_past fields k r h)) f)
    (cases_lt k (length fields))

-- a field of a cell in use, before the step
old_field : (c : Core) (i : ℕ) (s : SeatState) (step : Step) (x j : ℕ) → Taken c i s step → frees step ≡ false → is_phase (words_of c.shape c.words).phase Sweep ≡ false → x < c.shape.cells → Used c x ≡ true → j < c.shape.fields → nil_or (UsedAfter c i s step) (field c.shape (words_of c.shape c.words).fields x j) ≡ true
old_field c i s step x j k f p h u l =
    nil-on (Used c) (UsedAfter c i s step) (field c.shape (words_of c.shape c.words).fields x j) (λ y e. used-on c i s step y k f e) (k.core.sound.references.fields_in_use p x h u j l)

no_made : (c : Core) (i : ℕ) (s : SeatState) (step : Step) (x : ℕ) → Taken c i s step → (IsMadeBy c.shape step x → ⊥) → UsedAfter c i s step x ≡ true → Used c x ≡ true
no_made c i s step x k n e = ⊎_elim (λ (a : Used c x ≡ true). a) (λ (a : IsMadeBy c.shape step x). absurd (n a)) (used-back c i s step x k e)

-- a step that stores no field, makes no cell and frees none
fields_stay : (c : Core) (i : ℕ) (s : SeatState) (step : Step) → Taken c i s step → frees step ≡ false → ((x : ℕ) → IsMadeBy c.shape step x → ⊥) → (words_left c s step).fields ≡ (words_of c.shape c.words).fields → is_phase (words_of c.shape c.words).phase Sweep ≡ false → FieldsUsed c i s step
fields_stay c i s step k f n e p x h u j l =
    subst (λ (fs : List ℕ). nil_or (UsedAfter c i s step) (field c.shape fs x j) ≡ true) (sym e) (old_field c i s step x j k f p h (no_made c i s step x k (n x) u) l)

-- the value that is stored in a field
stored_goes : (c : Core) (i : ℕ) (s : SeatState) (step : Step) (w : Option ℕ) → Taken c i s step → frees step ≡ false → in_variables w ≡ true → nil_or (UsedAfter c i s step) (variable_or_nil s w) ≡ true
stored_goes c i s step None k f e = refl
stored_goes c i s step (Some w) k f e =
    let names = k.core.sound.references.seats_in_use in
    let h : w < length s.env = omega (arith, ltb-true w 32 e, (seat-formed c i s step k).env) in
    nil-on (Used c) (UsedAfter c i s step) (seat_variable s w) (λ y a. used-on c i s step y k f a) ((own-fact c i s step (λ (t : SeatState). NamesInUse (words_of c.shape c.words).allocs (makers c.seats) t) k names).0 w 0 h)

-- the fields of a new cell are nil
pub new-fields : (c : Core) (i : ℕ) (s : SeatState) (x part word : ℕ) → Taken c i s (StoreNew x part word) → c.shape.fields < part → (j : ℕ) → j < c.shape.fields → field c.shape (words_of c.shape c.words).fields x j ≡ 0
new-fields c i s x part word k above j l =
    let step : Step = StoreNew x part word in
    let next : makes s.cache x part ≡ true = subst (λ (t : Bool). cond t (free_in s.cache x && not (has_making s.cache)) (makes s.cache x part) ≡ true) (ne_eqb part 0 (λ z. omega (arith, z, above))) k.ok.1.0 in
    let nil : MakesNil c.shape (words_of c.shape c.words).fields (maker_of s) = of-view maker_of (MakesNil c.shape (words_of c.shape c.words).fields) c i s step k k.core.sound.caches.making_nil in
    nil x part j next (omega (arith, l, above)) l

not_field : (sh : Shape) (w : Words) (x v : ℕ) (b : Bool) → (put_word (cond b (10, x) (9, x)) v w).fields ≡ w.fields
not_field sh w x v true = refl
not_field sh w x v false = refl

-- the words of a new cell go to its fields first, and then elsewhere
made_field : (c : Core) (s : SeatState) (x part word : ℕ) → nat_lt part c.shape.fields ≡ true → (words_left c s (StoreNew x part word)).fields ≡ set (words_of c.shape c.words).fields (x * c.shape.fields + part) word
made_field c s x part word e =
    ap (λ (b : Bool). (put_word (cond b (11, x * c.shape.fields + part) (cond (eqb part c.shape.fields) (10, x) (9, x))) word (words_of c.shape c.words)).fields) e

made_other : (c : Core) (s : SeatState) (x part word : ℕ) → nat_lt part c.shape.fields ≡ false → (words_left c s (StoreNew x part word)).fields ≡ (words_of c.shape c.words).fields
made_other c s x part word e =
    ap (λ (b : Bool). (put_word (cond b (11, x * c.shape.fields + part) (cond (eqb part c.shape.fields) (10, x) (9, x))) word (words_of c.shape c.words)).fields) e
    ∙ not_field c.shape (words_of c.shape c.words) x word (eqb part c.shape.fields)

-- a word of a new cell is stored
new_at : (c : Core) (i : ℕ) (s : SeatState) (y part word : ℕ) → Taken c i s (StoreNew y part word) → is_phase (words_of c.shape c.words).phase Sweep ≡ false → FieldsUsed c i s (StoreNew y part word)
new_at c i s y part word k p x h u j l =
    let step : Step = StoreNew y part word in
    let w : Words = words_of c.shape c.words in
    let after : List ℕ → Type 0 = λ fs. nil_or (UsedAfter c i s step) (field c.shape fs x j) ≡ true in
    ⊎_elim
    (λ (b : nat_lt part c.shape.fields ≡ true).
    let zero : word ≡ 0 = eqb-true word 0 (subst (λ (t : Bool). cond t (eqb word 0) (cond (eqb part c.shape.fields) (nat_lt word value_bound) (is_some s.section && nat_lt s.made c.shape.objects && eqb word (unwrap_or s.section 0 * section_span + s.made))) ≡ true) b k.ok.1.1.0) in
    let before : Used c x ≡ true = no_made c i s step x k (λ m. omega (arith, m.1, ltb-true part c.shape.fields b)) u in
    subst after (sym (made_field c s y part word b))
    (field-set w.fields (y * c.shape.fields + part) (x * c.shape.fields + j) word (UsedAfter c i s step) (rw zero refl) (old_field c i s step x j k refl p h before l)))
    (λ (b : nat_lt part c.shape.fields ≡ false).
    subst after (sym (made_other c s y part word b))
    (⊎_elim
    (λ (a : Used c x ≡ true). old_field c i s step x j k refl p h a l)
    (λ (m : (x ≡ y) × (c.shape.fields < part)). let nil : field c.shape w.fields x j ≡ 0 = ap (λ (z : ℕ). field c.shape w.fields z j) m.0 ∙ new-fields c i s y part word k m.1 j l in rw nil refl)
    (used-back c i s step x k u)))
    (cases_Bool (nat_lt part c.shape.fields))

-- a reference is stored in a field
stored_at : (c : Core) (i : ℕ) (s : SeatState) (v q : ℕ) (o : Option ℕ) → Taken c i s (StoreField v q o) → is_phase (words_of c.shape c.words).phase Sweep ≡ false → FieldsUsed c i s (StoreField v q o)
stored_at c i s v q o k p x h u j l =
    let step : Step = StoreField v q o in
    let w : Words = words_of c.shape c.words in
    let a = and_parts (nat_lt v 32 && nat_lt q c.shape.fields && in_variables o) (may_mutate s) k.ok.0 in
    let b = and_parts (nat_lt v 32 && nat_lt q c.shape.fields) (in_variables o) a.0 in
    let before : Used c x ≡ true = no_made c i s step x k (λ m. m) u in
    field-set w.fields (cell_of (seat_variable s v) * c.shape.fields + q) (x * c.shape.fields + j) (variable_or_nil s o) (UsedAfter c i s step) (stored_goes c i s step o k refl b.1) (old_field c i s step x j k refl p h before l)

-- a reference is exchanged for another if it was the expected one, and else no field changes
exchanged_at : (c : Core) (i : ℕ) (s : SeatState) (v q : ℕ) (r o : Option ℕ) → Taken c i s (ExchangeField v q r o) → is_phase (words_of c.shape c.words).phase Sweep ≡ false → FieldsUsed c i s (ExchangeField v q r o)
exchanged_at c i s v q r o k p x h u j l =
    let step : Step = ExchangeField v q r o in
    let w : Words = words_of c.shape c.words in
    let a = and_parts (nat_lt v 32 && nat_lt q c.shape.fields && (in_variables r && in_variables o)) (may_mutate s) k.ok.0 in
    let b = and_parts (in_variables r) (in_variables o) (and_parts (nat_lt v 32 && nat_lt q c.shape.fields) (in_variables r && in_variables o) a.0).1 in
    let at : ℕ = cell_of (seat_variable s v) * c.shape.fields + q in
    let before : Used c x ≡ true = no_made c i s step x k (λ m. m) u in
    let after : List ℕ → Type 0 = λ fs. nil_or (UsedAfter c i s step) (field c.shape fs x j) ≡ true in
    let old : nil_or (UsedAfter c i s step) (field c.shape w.fields x j) ≡ true = old_field c i s step x j k refl p h before l in
    ⊎_elim
    (λ (won : eqb (found c s step) (variable_or_nil s r) ≡ true).
    subst after (sym (ap (λ (t : Bool). set w.fields at (cond t (variable_or_nil s o) (found c s step))) won))
    (field-set w.fields at (x * c.shape.fields + j) (variable_or_nil s o) (UsedAfter c i s step) (stored_goes c i s step o k refl b.1) old))
    (λ (lost : eqb (found c s step) (variable_or_nil s r) ≡ false). subst after (sym (lost-fields c i s v q r o k lost)) old)
    (cases_Bool (eqb (found c s step) (variable_or_nil s r)))

-- the fields of cells in use go to cells in use after a step outside the sweep
pub fields-used : (c : Core) (i : ℕ) (s : SeatState) (step : Step) → Taken c i s step → frees step ≡ false → is_phase (words_of c.shape c.words).phase Sweep ≡ false → FieldsUsed c i s step
fields-used c i s StoreAlloc k f p = absurd (true≢false f)
fields-used c i s (StoreNew y part word) k f p = new_at c i s y part word k p
fields-used c i s (StoreField v q o) k f p = stored_at c i s v q o k p
fields-used c i s (ExchangeField v q r o) k f p = exchanged_at c i s v q r o k p
fields-used c i s (ReadField y q) k f p = fields_stay c i s (ReadField y q) k f (λ x e. e) (ap (λ (w : Words). w.fields) (words-read c i s (ReadField y q) k refl)) p
fields-used c i s (ReadOwn y q) k f p = fields_stay c i s (ReadOwn y q) k f (λ x e. e) (ap (λ (w : Words). w.fields) (words-read c i s (ReadOwn y q) k refl)) p
fields-used c i s step k f p = fields_stay c i s step k f (λ x e. e) (fields-kept c.shape s step (written c.shape s step (found c s step)) (words_of c.shape c.words) refl) p
