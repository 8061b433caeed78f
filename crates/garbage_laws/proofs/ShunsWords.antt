-- The roots, the marks and the fields after a step shun the set.
use Rattle.std.proofs.Common.{ℕ, ◌≡◌, ◌+◌, ◌*◌, ◌/◌, ◌%◌, ◌<◌, ◌≤◌, List, set, get_or, length, arith, refl, sym, ap, ◌∙◌, subst, Bool, true, false, ◌&&◌, cond, eqb, Option, Some, None, ⊎_elim}
use Rattle.std.specs.Prelude.{IfSome, nat_lt, unwrap_or, is_some}
use Rattle.std.specs.List.{All}
use Rattle.std.proofs.lemmas.Bool.{true≢false, false≢true, and_parts, eqb-true, ltb-true, cases_Bool, cases_eq, cases_lt}
use Rattle.std.proofs.lemmas.List.{get_or-set_same, get_or-set_other, set_past}
use Rattle.std.proofs.lemmas.List.Elements.{All-set}
use Rattle.mark_core.specs.Shapes.{EachCell}
use Rattle.mark_core.specs.Layout.{Words, words_of, region_sizes, block_count, put_word}
use Rattle.mark_core.specs.Bits.{cell_bit, with_bit, cell_of}
use Rattle.mark_core.specs.Seats.{is_the, may_mutate}
use Rattle.mark_core.specs.Cells.{field}
use Rattle.mark_core.specs.Steps.MutatorSteps.{seat_variable, variable_or_nil, in_variables}
use Rattle.mark_core.specs.Steps.SweepSteps.{own_block}
use Rattle.mark_core.specs.Numbers.{value_bound, section_span}
use Rattle.mark_core.specs.Effects.{written}
use Rattle.mark_core.specs.Steps.{Core}
use Rattle.mark_core.specs.declared.kinds.Shape.{Shape}
use Rattle.mark_core.specs.declared.kinds.Step.{Step}
use Rattle.mark_core.specs.declared.kinds.Step.TheVariants.{SetMark, StoreField, ExchangeField, StoreRoot, StoreSlot, StoreNew, PublishCells, StorePhase, NextBlock, StoreAlloc, ClearMarks, Reset, ReadField, ReadOwn, FlushRoot}
use Rattle.mark_core.specs.declared.seat.SeatState.{SeatState}
use Rattle.mark_core.proofs.Known.{found, words_left}
use Rattle.mark_core.proofs.Writing.Places.{words-get, region-length}
use Rattle.mark_core.proofs.Writing.CellBits.{bits-from, no-bit}
use Rattle.mark_core.proofs.Writing.RegionWrites.{marks-kept, fields-kept}
use Rattle.mark_core.proofs.Blocks.BlocksStopped.{Taken, in-place, words-read}
use Rattle.mark_core.proofs.Blocks.BlocksWords.{heap-left}
use Rattle.mark_core.proofs.Colours.ColoursScanned.{lost-fields}
use Rattle.mark_core.proofs.Exacts.ExactsDrain.{mark-set}
use Rattle.mark_core.proofs.References.ReferencesRoots.{Used, UsedAfter, roots-same}
use Rattle.mark_core.proofs.References.ReferencesFields.{new-fields}
use Rattle.mark_core.proofs.Used.UsedKept.{used-back}
use Rattle.mark_core.proofs.Used.UsedSeats.{IsMadeBy}
use Rattle.garbage_laws.proofs.Shuns.{Spares, Misses, SeatShuns, CoreShuns, nil-misses, has-missed, variable-misses}

-- the roots
pub roots-shun : (D : ℕ → Type 0) (c : Core) (i : ℕ) (s : SeatState) (step : Step) → Taken c i s step → CoreShuns D c → SeatShuns D s → All (Misses D) (words_left c s step).roots
roots-shun D c i s (StoreRoot v r) t a own = All-set (Misses D) (words_of c.shape c.words).roots (unwrap_or s.section 0 * 32 + v) r (has-missed D s r own t.ok.1.0) a.roots
roots-shun D c i s (FlushRoot v) t a own =
    All-set (Misses D) (words_of c.shape c.words).roots (unwrap_or s.section 0 * 32 + v) (seat_variable s v) (variable-misses D c i s (FlushRoot v) (Some v) t own (and_parts (nat_lt v 32) (may_mutate s) t.ok.0).0) a.roots
roots-shun D c i s (StoreSlot k r) t a own = All-set (Misses D) (words_of c.shape c.words).roots (c.shape.sections * 32 + (unwrap_or s.section 0 * c.shape.slots + k)) r (has-missed D s r own t.ok.1.0) a.roots
roots-shun D c i s step t a own = subst (All (Misses D)) (sym (roots-same c i s step t refl)) a.roots

the_value : (o : Option ℕ) (y : ℕ) (P : ℕ → Type 0) → is_the o y ≡ true → IfSome o P → P y
the_value None y P e h = absurd (false≢true e)
the_value (Some z) y P e h = subst P (eqb-true z y e) h

-- each marked cell is spared
abbrev pub MarksShun : (ℕ → Type 0) → Core → List ℕ → Type 0
MarksShun D c marks = EachCell c.shape (λ x. cell_bit marks x ≡ true → Spares D x)

-- the cell that is marked was loaded
set_shuns : (D : ℕ → Type 0) (c : Core) (i : ℕ) (s : SeatState) (y : ℕ) → Taken c i s (SetMark y) → CoreShuns D c → SeatShuns D s → MarksShun D c (words_left c s (SetMark y)).marks
set_shuns D c i s y t a own x h e =
    let w : Words = words_of c.shape c.words in
    let at = in-place c i s (SetMark y) t in
    let here : found c s (SetMark y) ≡ get_or w.marks (y / 64) 0 = words-get (region_sizes c.shape) 5 c.words (y / 64) 0 at in
    let long : length w.marks ≡ block_count c.shape = region-length (region_sizes c.shape) 5 c.words (omega (arith, t.core.formed.words)) in
    let now : cell_bit (set w.marks (y / 64) (with_bit (get_or w.marks (y / 64) 0) (y % 64))) x ≡ true = rw here at e in
    ⊎_elim
    (λ (b : x ≡ y). subst (Spares D) (sym b) (the_value s.value y (Spares D) (and_parts _ _ t.ok.0).1 own.value))
    (λ (b : cell_bit w.marks x ≡ true). a.marks x h b)
    (mark-set w.marks y x (omega (arith, at, long)) now)

-- a block loses its marks
clear_shuns : (D : ℕ → Type 0) (c : Core) (s : SeatState) → CoreShuns D c → MarksShun D c (words_left c s ClearMarks).marks
clear_shuns D c s a x h e =
    ⊎_elim
    (λ (b : cell_bit (words_of c.shape c.words).marks x ≡ true). a.marks x h b)
    (λ b. absurd (true≢false (sym b.1 ∙ no-bit (x % 64))))
    (bits-from (words_of c.shape c.words).marks (own_block s) 0 x e)

-- the marks
pub marks-shun : (D : ℕ → Type 0) (c : Core) (i : ℕ) (s : SeatState) (step : Step) → Taken c i s step → CoreShuns D c → SeatShuns D s → MarksShun D c (words_left c s step).marks
marks-shun D c i s (SetMark y) t a own = set_shuns D c i s y t a own
marks-shun D c i s ClearMarks t a own = clear_shuns D c s a
marks-shun D c i s (StoreField v f x) t a own = a.marks
marks-shun D c i s (ExchangeField v f x y) t a own = a.marks
marks-shun D c i s (StoreRoot v r) t a own = a.marks
marks-shun D c i s (FlushRoot v) t a own = a.marks
marks-shun D c i s (StoreSlot k r) t a own = a.marks
marks-shun D c i s (StoreNew x part word) t a own = rw (marks-kept c.shape s (StoreNew x part word) word (words_of c.shape c.words) refl) a.marks
marks-shun D c i s PublishCells t a own = a.marks
marks-shun D c i s (StorePhase to) t a own = a.marks
marks-shun D c i s NextBlock t a own = a.marks
marks-shun D c i s StoreAlloc t a own = a.marks
marks-shun D c i s (Reset which) t a own = rw (marks-kept c.shape s (Reset which) 0 (words_of c.shape c.words) refl) a.marks
marks-shun D c i s step t a own = rw (heap-left c i s step t refl).marks a.marks

-- what the fields of a spared cell in use name after the step
abbrev pub FieldsShun : (ℕ → Type 0) → Core → ℕ → SeatState → Step → Type 0
FieldsShun D c i s step = EachCell c.shape (λ x. UsedAfter c i s step x ≡ true → Spares D x → (j : ℕ) → j < c.shape.fields → Misses D (field c.shape (words_left c s step).fields x j))

-- a word of a list of which one is replaced
set_misses : (D : ℕ → Type 0) (fields : List ℕ) (k j r : ℕ) → Misses D r → Misses D (get_or fields j 0) → Misses D (get_or (set fields k r) j 0)
set_misses D fields k j r e f =
    ⊎_elim
    (λ (h : k < length fields).
    ⊎_elim
    (λ (a : j ≡ k). let same : get_or (set fields k r) j 0 ≡ r = rw a (get_or-set_same fields k r 0 h) in subst (Misses D) (sym same) e)
    (λ n. subst (Misses D) (sym (get_or-set_other fields k j r 0 n)) f)
    (cases_eq j k))
    (λ (h : length fields ≤ k). subst (λ (fs : List ℕ). Misses D (get_or fs j 0)) (sym (set_past fields k r h)) f)
    (cases_lt k (length fields))

no_made : (c : Core) (i : ℕ) (s : SeatState) (step : Step) (x : ℕ) → Taken c i s step → (IsMadeBy c.shape step x → ⊥) → UsedAfter c i s step x ≡ true → Used c x ≡ true
no_made c i s step x t n e = ⊎_elim (λ (a : Used c x ≡ true). a) (λ (a : IsMadeBy c.shape step x). absurd (n a)) (used-back c i s step x t e)

-- a step that stores no field and makes no cell
fields_stay : (D : ℕ → Type 0) (c : Core) (i : ℕ) (s : SeatState) (step : Step) → Taken c i s step → CoreShuns D c → ((x : ℕ) → IsMadeBy c.shape step x → ⊥) → (words_left c s step).fields ≡ (words_of c.shape c.words).fields → FieldsShun D c i s step
fields_stay D c i s step t a n e x h u p j l =
    subst (λ (fs : List ℕ). Misses D (field c.shape fs x j)) (sym e) (a.fields x h (no_made c i s step x t (n x) u) p j l)

-- a reference is stored in a field
stored_field : (D : ℕ → Type 0) (c : Core) (i : ℕ) (s : SeatState) (v q : ℕ) (o : Option ℕ) → Taken c i s (StoreField v q o) → CoreShuns D c → SeatShuns D s → FieldsShun D c i s (StoreField v q o)
stored_field D c i s v q o t a own x h u p j l =
    let step : Step = StoreField v q o in
    let w : Words = words_of c.shape c.words in
    let b = and_parts (nat_lt v 32 && nat_lt q c.shape.fields) (in_variables o) (and_parts (nat_lt v 32 && nat_lt q c.shape.fields && in_variables o) (may_mutate s) t.ok.0).0 in
    set_misses D w.fields (cell_of (seat_variable s v) * c.shape.fields + q) (x * c.shape.fields + j) (variable_or_nil s o) (variable-misses D c i s step o t own b.1) (a.fields x h (no_made c i s step x t (λ m. m) u) p j l)

-- a reference is exchanged, or no field changes
exchanged_field : (D : ℕ → Type 0) (c : Core) (i : ℕ) (s : SeatState) (v q : ℕ) (r o : Option ℕ) → Taken c i s (ExchangeField v q r o) → CoreShuns D c → SeatShuns D s → FieldsShun D c i s (ExchangeField v q r o)
exchanged_field D c i s v q r o t a own x h u p j l =
    let step : Step = ExchangeField v q r o in
    let w : Words = words_of c.shape c.words in
    let b = and_parts (nat_lt v 32 && nat_lt q c.shape.fields && (in_variables r && in_variables o)) (may_mutate s) t.ok.0 in
    let d = and_parts (in_variables r) (in_variables o) (and_parts (nat_lt v 32 && nat_lt q c.shape.fields) (in_variables r && in_variables o) b.0).1 in
    let at : ℕ = cell_of (seat_variable s v) * c.shape.fields + q in
    let after : List ℕ → Type 0 = λ fs. Misses D (field c.shape fs x j) in
    let old : Misses D (field c.shape w.fields x j) = a.fields x h (no_made c i s step x t (λ m. m) u) p j l in
    ⊎_elim
    (λ (won : eqb (found c s step) (variable_or_nil s r) ≡ true).
    subst after (sym (ap (λ (z : Bool). set w.fields at (cond z (variable_or_nil s o) (found c s step))) won))
    (set_misses D w.fields at (x * c.shape.fields + j) (variable_or_nil s o) (variable-misses D c i s step o t own d.1) old))
    (λ (lost : eqb (found c s step) (variable_or_nil s r) ≡ false). subst after (sym (lost-fields c i s v q r o t lost)) old)
    (cases_Bool (eqb (found c s step) (variable_or_nil s r)))

-- the words of a new cell go to its fields first, and then elsewhere
not_field : (sh : Shape) (w : Words) (x v : ℕ) (b : Bool) → (put_word (cond b (10, x) (9, x)) v w).fields ≡ w.fields
not_field sh w x v true = refl
not_field sh w x v false = refl

made_field : (c : Core) (s : SeatState) (x part word : ℕ) → nat_lt part c.shape.fields ≡ true → (words_left c s (StoreNew x part word)).fields ≡ set (words_of c.shape c.words).fields (x * c.shape.fields + part) word
made_field c s x part word e =
    ap (λ (b : Bool). (put_word (cond b (11, x * c.shape.fields + part) (cond (eqb part c.shape.fields) (10, x) (9, x))) word (words_of c.shape c.words)).fields) e

made_other : (c : Core) (s : SeatState) (x part word : ℕ) → nat_lt part c.shape.fields ≡ false → (words_left c s (StoreNew x part word)).fields ≡ (words_of c.shape c.words).fields
made_other c s x part word e =
    ap (λ (b : Bool). (put_word (cond b (11, x * c.shape.fields + part) (cond (eqb part c.shape.fields) (10, x) (9, x))) word (words_of c.shape c.words)).fields) e
    ∙ not_field c.shape (words_of c.shape c.words) x word (eqb part c.shape.fields)

-- a word of a new cell is stored
new_field : (D : ℕ → Type 0) (c : Core) (i : ℕ) (s : SeatState) (y part word : ℕ) → Taken c i s (StoreNew y part word) → CoreShuns D c → FieldsShun D c i s (StoreNew y part word)
new_field D c i s y part word t a x h u p j l =
    let step : Step = StoreNew y part word in
    let w : Words = words_of c.shape c.words in
    let after : List ℕ → Type 0 = λ fs. Misses D (field c.shape fs x j) in
    ⊎_elim
    (λ (b : nat_lt part c.shape.fields ≡ true).
    let zero : word ≡ 0 = eqb-true word 0 (subst (λ (z : Bool). cond z (eqb word 0) (cond (eqb part c.shape.fields) (nat_lt word value_bound) (is_some s.section && nat_lt s.made c.shape.objects && eqb word (unwrap_or s.section 0 * section_span + s.made))) ≡ true) b t.ok.1.1.0) in
    let before : Used c x ≡ true = no_made c i s step x t (λ m. omega (arith, m.1, ltb-true part c.shape.fields b)) u in
    subst after (sym (made_field c s y part word b))
    (set_misses D w.fields (y * c.shape.fields + part) (x * c.shape.fields + j) word (subst (Misses D) (sym zero) (nil-misses D)) (a.fields x h before p j l)))
    (λ (b : nat_lt part c.shape.fields ≡ false).
    subst after (sym (made_other c s y part word b))
    (⊎_elim
    (λ (k : Used c x ≡ true). a.fields x h k p j l)
    (λ (m : (x ≡ y) × (c.shape.fields < part)).
    let nil : field c.shape w.fields x j ≡ 0 = ap (λ (z : ℕ). field c.shape w.fields z j) m.0 ∙ new-fields c i s y part word t m.1 j l in
    subst (Misses D) (sym nil) (nil-misses D))
    (used-back c i s step x t u)))
    (cases_Bool (nat_lt part c.shape.fields))

-- the fields
pub fields-shun : (D : ℕ → Type 0) (c : Core) (i : ℕ) (s : SeatState) (step : Step) → Taken c i s step → CoreShuns D c → SeatShuns D s → FieldsShun D c i s step
fields-shun D c i s (StoreNew y part word) t a own = new_field D c i s y part word t a
fields-shun D c i s (StoreField v q o) t a own = stored_field D c i s v q o t a own
fields-shun D c i s (ExchangeField v q r o) t a own = exchanged_field D c i s v q r o t a own
fields-shun D c i s (ReadField y q) t a own = fields_stay D c i s (ReadField y q) t a (λ x e. e) (ap (λ (w : Words). w.fields) (words-read c i s (ReadField y q) t refl))
fields-shun D c i s (ReadOwn y q) t a own = fields_stay D c i s (ReadOwn y q) t a (λ x e. e) (ap (λ (w : Words). w.fields) (words-read c i s (ReadOwn y q) t refl))
fields-shun D c i s step t a own = fields_stay D c i s step t a (λ x e. e) (fields-kept c.shape s step (written c.shape s step (found c s step)) (words_of c.shape c.words) refl)
