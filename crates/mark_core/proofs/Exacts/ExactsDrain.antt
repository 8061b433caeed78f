-- In an exact drain a step marks only what is reachable, and loads only what is reachable.
use Rattle.std.proofs.Common.{ℕ, ◌≡◌, ◌≢◌, ◌+◌, ◌*◌, ◌/◌, ◌%◌, ◌<◌, ◌≤◌, List, set, get_or, length, arith, refl, sym, ap, ◌∙◌, subst, true, not, ◌&&◌, ◌||◌, eqb, Option, Some, None, ◌⊎◌, inl, inr, ⊎_elim, zero, suc, [], ◌∷◌, Bool, false, cond}
use Rattle.std.specs.Prelude.{IsTrue, IfSome, is_some, nat_lt, slice_index}
use Rattle.std.proofs.lemmas.Bool.{cases_eq, and_parts, or_cases, eqb-true, ltb-true, lt-ltb, true≢false, false≢true, eqb-false}
use Rattle.std.proofs.lemmas.List.{length-map, get_or-set_same}
use Rattle.mark_core.specs.Shapes.{EachCell}
use Rattle.mark_core.specs.Layout.{Words, words_of, region_sizes, block_count, root_count, address}
use Rattle.mark_core.specs.Bits.{has_bit, with_bit, cell_bit, nil_or, cell_named, cell_of}
use Rattle.mark_core.specs.Seats.{is_the, scans, scan_left, may_scan, left_in}
use Rattle.mark_core.specs.Views.{Grasp, grasp_of, makers}
use Rattle.mark_core.specs.Cells.{in_use, field, IsReachableCell}
use Rattle.mark_core.specs.Steps.ColourSteps.{may_read_field}
use Rattle.mark_core.specs.Rules.WorldRules.{is_tracing}
use Rattle.mark_core.specs.Effects.{seat_after}
use Rattle.mark_core.specs.Steps.{Core}
use Rattle.mark_core.specs.Laws.{IsCore}
use Rattle.mark_core.proofs.Writing.Places.{words-get, region-length}
use Rattle.mark_core.proofs.Known.{found, words_left, bit-below, reference-within}
use Rattle.mark_core.proofs.Writing.RegionWrites.{marks-kept}
use Rattle.mark_core.proofs.Blocks.BlocksStopped.{Taken, within, in-place, none-in-hand}
use Rattle.mark_core.proofs.Blocks.BlocksWords.{heap-left}
use Rattle.mark_core.proofs.Blocks.BlocksSteps.{own-block}
use Rattle.mark_core.proofs.Sweeps.SweepsSpared.{NoneUsed, use-published}
use Rattle.mark_core.proofs.Writing.CellBits.{with_other, same-index, bit-there}
use Rattle.mark_core.proofs.Hands.HandsCleaning.{scan-left}
use Rattle.mark_core.proofs.HeldBlock.{of-view}
use Rattle.mark_core.specs.declared.kinds.Step.{Step}
use Rattle.mark_core.specs.declared.kinds.Step.TheVariants.{ReadField, ReadRoot, SetMark, StoreField, StoreRoot, StoreNew, PublishCells, StorePhase, NextBlock, StoreAlloc, ClearMarks, Reset, ExchangeField, LoadSlot, StoreSlot, FlushRoot}
use Rattle.mark_core.specs.declared.seat.SeatState.{SeatState}
use Rattle.mark_core.specs.declared.kinds.Shape.{Shape}

-- What a root names is reachable, and so is what a field of a reachable cell names.
pub reach-root : (sh : Shape) (roots fields : List ℕ) (k x : ℕ) → k < length roots → slice_index roots k ≡ x + 1 → IsReachableCell sh roots fields x
reach-root sh roots fields k x h e = ([], (k, h, e))

pub reach-field : (sh : Shape) (roots fields : List ℕ) (d i x : ℕ) → IsReachableCell sh roots fields d → i < sh.fields → field sh fields d i ≡ x + 1 → IsReachableCell sh roots fields x
reach-field sh roots fields d i x r h e = (d ∷ r.0, ((i, h, e), r.1))

cell_after : (word : ℕ) → (word ≡ 0 → ⊥) → word ≤ 16777216 → word ≡ cell_of word + 1
cell_after zero n h = absurd (n refl)
cell_after (suc word) n h = omega arith

named_by : (word : ℕ) (b : Bool) (P : ℕ → Type 0) → (b ≡ false → word ≡ 0 → ⊥) → word ≤ 16777216 → ((x : ℕ) → word ≡ x + 1 → P x) → IfSome (cond b None (Some (cell_of word))) P
named_by word true P n h f = tt
named_by word false P n h f = f (cell_of word) (cell_after word (n refl) h)

-- what holds of each cell that a word may name holds of the one that it names
pub named-cell : (word : ℕ) (P : ℕ → Type 0) → word ≤ 16777216 → ((x : ℕ) → word ≡ x + 1 → P x) → IfSome (cell_named word) P
named-cell word P h f = named_by word (eqb word 0) P (eqb-false word 0) h f

-- cell x is reachable now
abbrev pub Reached : Core → ℕ → Type 0
Reached c x = IsReachableCell c.shape (words_of c.shape c.words).roots (words_of c.shape c.words).fields x

-- each cell that is marked is reachable
abbrev pub MarksReached : Core → List ℕ → Type 0
MarksReached c marks = EachCell c.shape (λ x. IsTrue (cell_bit marks x) → Reached c x)

-- the cell that the seat has loaded is reachable
abbrev pub ValueReached : Core → SeatState → Type 0
ValueReached c s = IfSome s.value (Reached c)

-- a cell that is marked once y was, is y or was marked before
pub mark-set : (ws : List ℕ) (y x : ℕ) → y / 64 < length ws → cell_bit (set ws (y / 64) (with_bit (get_or ws (y / 64) 0) (y % 64))) x ≡ true → (x ≡ y) ⊎ (cell_bit ws x ≡ true)
mark-set ws y x h e =
    let v : ℕ = with_bit (get_or ws (y / 64) 0) (y % 64) in
    ⊎_elim
    (λ (a : x ≡ y). inl a)
    (λ (n : x ≡ y → ⊥).
    ⊎_elim
    (λ (b : x / 64 ≡ y / 64).
    let far : x % 64 ≢ y % 64 = λ z. n (same-index x y b z) in
    let word : get_or (set ws (y / 64) v) (x / 64) 0 ≡ v = ap (λ g. get_or (set ws (y / 64) v) g 0) b ∙ get_or-set_same ws (y / 64) v 0 h in
    let now : has_bit (get_or ws (y / 64) 0) (x % 64) ≡ true = sym (with_other (get_or ws (y / 64) 0) (y % 64) (x % 64) far) ∙ (sym (ap (λ g. has_bit g (x % 64)) word) ∙ e) in
    inr (ap (λ g. has_bit (get_or ws g 0) (x % 64)) b ∙ now))
    (λ (m : x / 64 ≡ y / 64 → ⊥). inr (sym (bit-there ws (y / 64) v x m) ∙ e))
    (cases_eq (x / 64) (y / 64)))
    (cases_eq x y)

the_value : (o : Option ℕ) (y : ℕ) (P : ℕ → Type 0) → is_the o y ≡ true → IfSome o P → P y
the_value None y P e h = absurd (false≢true e)
the_value (Some z) y P e h = subst P (eqb-true z y e) h

-- the cell that is marked was loaded
set_reached : (c : Core) (i : ℕ) (s : SeatState) (y : ℕ) → Taken c i s (SetMark y) → MarksReached c (words_of c.shape c.words).marks → ValueReached c s → MarksReached c (words_left c s (SetMark y)).marks
set_reached c i s y t a own x h e =
    let w : Words = words_of c.shape c.words in
    let at = in-place c i s (SetMark y) t in
    let here : found c s (SetMark y) ≡ get_or w.marks (y / 64) 0 = words-get (region_sizes c.shape) 5 c.words (y / 64) 0 at in
    let long : length w.marks ≡ block_count c.shape = region-length (region_sizes c.shape) 5 c.words (omega (arith, t.core.formed.words)) in
    let now : cell_bit (set w.marks (y / 64) (with_bit (get_or w.marks (y / 64) 0) (y % 64))) x ≡ true = rw here at e in
    ⊎_elim
    (λ (b : x ≡ y). subst (Reached c) (sym b) (the_value s.value y (Reached c) (and_parts _ _ t.ok.0).1 own))
    (λ (b : cell_bit w.marks x ≡ true). a x h b)
    (mark-set w.marks y x (omega (arith, at, long)) now)

-- what a step marks in a drain
pub marks-reached : (c : Core) (i : ℕ) (s : SeatState) (step : Step) → Taken c i s step → (words_of c.shape c.words).phase ≡ 2 → MarksReached c (words_of c.shape c.words).marks → ValueReached c s → MarksReached c (words_left c s step).marks
marks-reached c i s (SetMark y) t p a own = set_reached c i s y t a own
marks-reached c i s ClearMarks t p a own =
    let none : s.block ≡ None = sym (own-block c i s ClearMarks None t) ∙ none-in-hand c t.core (ap (λ n. eqb n 3 || eqb n 4) p) i None (rw length-map (within c i s ClearMarks t)) in
    absurd (true≢false (sym t.ok.0 ∙ ap is_some none))
marks-reached c i s (StoreField v f x) t p a own = a
marks-reached c i s (ExchangeField v f x y) t p a own = a
marks-reached c i s (StoreRoot v r) t p a own = a
marks-reached c i s (FlushRoot v) t p a own = a
marks-reached c i s (StoreSlot k r) t p a own = a
marks-reached c i s (StoreNew x part word) t p a own = rw (marks-kept c.shape s (StoreNew x part word) word (words_of c.shape c.words) refl) a
marks-reached c i s PublishCells t p a own = a
marks-reached c i s (StorePhase to) t p a own = a
marks-reached c i s NextBlock t p a own = a
marks-reached c i s StoreAlloc t p a own = a
marks-reached c i s (Reset which) t p a own = rw (marks-kept c.shape s (Reset which) 0 (words_of c.shape c.words) refl) a
marks-reached c i s step t p a own = rw (heap-left c i s step t refl).marks a

-- a reference to a cell in use is small, if all cells in use are published
small_reference : (c : Core) (r : ℕ) → IsCore c → NoneUsed c.seats → nil_or (in_use (words_of c.shape c.words).allocs (makers c.seats)) r ≡ true → r ≤ 16777216
small_reference c r k none e =
    let w : Words = words_of c.shape c.words in
    let long = region-length (region_sizes c.shape) 4 c.words (omega (arith, k.formed.words)) in
    let below : (x : ℕ) → in_use w.allocs (makers c.seats) x ≡ true → x < c.shape.cells = λ x f. bit-below c.shape w.allocs x k.formed.shaped long (sym (use-published w.allocs c.seats x none) ∙ f) in
    omega (arith, reference-within c.shape (in_use w.allocs (makers c.seats)) r below e, k.formed.shaped.cells)

-- the cell that a root names is loaded
root_value : (c : Core) (k word : ℕ) → IsCore c → NoneUsed c.seats → k < root_count c.shape → word ≡ get_or c.words (address c.shape (2, k)) 0 → IfSome (cell_named word) (Reached c)
root_value c k word core none at e =
    let w : Words = words_of c.shape c.words in
    let here : word ≡ get_or w.roots k 0 = e ∙ words-get (region_sizes c.shape) 2 c.words k 0 at in
    let long : length w.roots ≡ root_count c.shape = region-length (region_sizes c.shape) 2 c.words (omega (arith, core.formed.words)) in
    let h : k < length w.roots = rw long at in
    let small : get_or w.roots k 0 ≤ 16777216 = small_reference c (get_or w.roots k 0) core none (core.sound.references.roots_in_use k 0 h) in
    named-cell word (Reached c) (omega (arith, here, small)) (λ x f. reach-root c.shape w.roots w.fields k x h (sym here ∙ f))

scan_there : (fields : ℕ) (o : Option (ℕ × ℕ)) (x i : ℕ) (P : ℕ → Type 0) → scans o x i ≡ true → i < fields → (IsTrue (scan_left fields o) → IfSome o (λ z. P z.0)) → P x
scan_there fields None x i P e h f = absurd (false≢true e)
scan_there fields (Some z) x i P e h f =
    let at = and_parts (eqb z.0 x) (eqb z.1 i) e in
    subst P (eqb-true z.0 x at.0) (f (lt-ltb z.1 fields (omega (arith, h, eqb-true z.1 i at.1))))

-- the cell of which a field is read is marked
read_marked : (c : Core) (i : ℕ) (s : SeatState) (x f : ℕ) → Taken c i s (ReadField x f) → is_tracing (words_of c.shape c.words).phase ≡ true → f < c.shape.fields → may_read_field c.shape s x f ≡ true → cell_bit (words_of c.shape c.words).marks x ≡ true
read_marked c i s x f t time h e =
    let w : Words = words_of c.shape c.words in
    let step : Step = ReadField x f in
    let P : ℕ → Type 0 = λ y. IsTrue (cell_bit w.marks y) in
    ⊎_elim
    (λ (a : scans s.scan x f ≡ true).
    scan_there c.shape.fields s.scan x f P a h (of-view grasp_of (λ (g : Grasp). IsTrue (scan_left c.shape.fields g.scan) → IfSome g.scan (λ z. P z.0)) c i s step t (t.core.sound.marks.scan_marked time)))
    (λ a.
    let both = and_parts (eqb f 0 && may_scan s.cleaning x) (not (scan_left c.shape.fields s.scan)) a in
    let left = scan-left s.cleaning x (and_parts (eqb f 0) (may_scan s.cleaning x) both.0).1 in
    of-view grasp_of (λ (g : Grasp). IsTrue (left_in g.cleaning x) → P x) c i s step t (t.core.sound.marks.left_marked time x) left)
    (or_cases (scans s.scan x f) (eqb f 0 && may_scan s.cleaning x && not (scan_left c.shape.fields s.scan)) e)

-- the cell that a field of a marked cell names is loaded
field_value : (c : Core) (i : ℕ) (s : SeatState) (x f : ℕ) → Taken c i s (ReadField x f) → (words_of c.shape c.words).phase ≡ 2 → NoneUsed c.seats → MarksReached c (words_of c.shape c.words).marks → IfSome (cell_named (found c s (ReadField x f))) (Reached c)
field_value c i s x f t p none a =
    let w : Words = words_of c.shape c.words in
    let range = and_parts (nat_lt x c.shape.cells && nat_lt f c.shape.fields) (may_read_field c.shape s x f) t.ok.0 in
    let cell = and_parts (nat_lt x c.shape.cells) (nat_lt f c.shape.fields) range.0 in
    let hx : x < c.shape.cells = ltb-true x c.shape.cells cell.0 in
    let hf : f < c.shape.fields = ltb-true f c.shape.fields cell.1 in
    let here : found c s (ReadField x f) ≡ field c.shape w.fields x f = words-get (region_sizes c.shape) 11 c.words (x * c.shape.fields + f) 0 (in-place c i s (ReadField x f) t) in
    let marked = read_marked c i s x f t (ap is_tracing p) hf range.1 in
    let used = t.core.sound.marks.marked_in_use x hx marked in
    let small = small_reference c (field c.shape w.fields x f) t.core none (t.core.sound.references.fields_in_use (ap (λ n. eqb n 3) p) x hx used f hf) in
    named-cell (found c s (ReadField x f)) (Reached c) (omega (arith, here, small)) (λ y e. reach-field c.shape w.roots w.fields x f y (a x hx marked) hf (sym here ∙ e))

-- what a step loads in a drain
pub value-reached : (c : Core) (i : ℕ) (s : SeatState) (step : Step) → Taken c i s step → (words_of c.shape c.words).phase ≡ 2 → NoneUsed c.seats → MarksReached c (words_of c.shape c.words).marks → ValueReached c s → ValueReached c (seat_after c.shape s step (found c s step))
value-reached c i s (ReadField x f) t p none a own = field_value c i s x f t p none a
value-reached c i s (ReadRoot section v) t p none a own = root_value c (section * 32 + v) (found c s (ReadRoot section v)) t.core none (in-place c i s (ReadRoot section v) t) refl
value-reached c i s (LoadSlot section k) t p none a own = root_value c (c.shape.sections * 32 + (section * c.shape.slots + k)) (found c s (LoadSlot section k)) t.core none (in-place c i s (LoadSlot section k) t) refl
value-reached c i s (SetMark y) t p none a own = tt
value-reached c i s step t p none a own = own
