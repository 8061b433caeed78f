-- The word of a step that is allowed lies in its region.
use Rattle.std.proofs.Common.{ℕ, ◌≡◌, ◌+◌, ◌*◌, ◌-◌, ◌/◌, ◌<◌, ◌≤◌, List, get_or, arith, refl, Bool, true, false, not, cond, ◌&&◌, eqb, Some, None, Option, set, length, ap, ◌∙◌}
use Rattle.std.specs.Prelude.{unwrap_or, nat_lt, nat_le, IfSome, IsTrue}
use Rattle.std.proofs.lemmas.Bool.{and_parts, ltb-true, ltb-false, leb-true, eqb-true, eq-eqb}
use Rattle.std.proofs.lemmas.Nat.{mul-add-lt}
use Rattle.mark_core.specs.Shapes.{IsShape}
use Rattle.mark_core.specs.Layout.{Words, region_sizes, pool_words, block_count, card_count, address, region_words, total_words}
use Rattle.mark_core.specs.Places.{counter_at}
use Rattle.mark_core.specs.Bits.{cell_of}
use Rattle.mark_core.specs.Held.{length_in_hand}
use Rattle.mark_core.specs.Steps.PacketSteps.{pool_for}
use Rattle.mark_core.specs.Steps.MutatorSteps.{cached_block, seat_variable, part_at}
use Rattle.mark_core.specs.Steps.SweepSteps.{own_block}
use Rattle.mark_core.specs.Parts.{parts}
use Rattle.mark_core.specs.Effects.{place}
use Rattle.mark_core.specs.Steps.{AllTrue}
use Rattle.mark_core.specs.Laws.{stores_in_object}
use Rattle.mark_core.specs.Seats.{block_in_hand}
use Rattle.mark_core.specs.Bounds.{IsStretch}
use Rattle.mark_core.specs.declared.kinds.Shape.{Shape}
use Rattle.mark_core.specs.declared.kinds.Step.{Step}
use Rattle.mark_core.specs.declared.kinds.Step.TheVariants.{Reserve, Take, Give, Push, Pop, Look, ReadAlloc, ReadField, ReadRoot, SetMark, DirtyCard, ClearCard, ReadMarks, ReadCard, ReadOwn, ReadValue, ReadIdent, ReadCat, StoreField, StoreValue, StoreRoot, ClaimBlock, ReleaseBlock, ReadFree, StoreNew, PublishCells, ReadBlockMarks, StoreAlloc, ClearMarks, WipeCard, StorePosition, Reset, AddStat, ReadStat, StoreLength, ReadLength, ExchangeField, ExchangeValue, LoadSlot, StoreSlot, ReadSlot, ReadWeak, CheckCard, HoldRoot, FlushRoot}
use Rattle.mark_core.specs.declared.seat.SeatState.{SeatState}
use Rattle.mark_core.specs.declared.seat.BlockState.{BlockState}
use Rattle.mark_core.specs.Numbers.{done_count, first_position, last_count, named_number, free_count}
use Rattle.std.proofs.lemmas.List.{get_or-set_same}
use Rattle.mark_core.specs.Notes.{word_at}
use Rattle.mark_core.proofs.Writing.Places.{region-put, region-length}

-- column l of row p, if there are n rows of e columns
pub in-row : (p n e l : ℕ) → p < n → l < e → p * e + l < n * e
in-row p n e l hp hl = grind (arith, mul-add-lt)

-- a variable and a slot are roots
in_roots : (sh : Shape) (section v : ℕ) → section < sh.sections → v < 32 → section * 32 + v < sh.sections * 32 + sh.sections * sh.slots
in_roots sh section v h l = omega (arith, in-row section sh.sections 32 v h l)

in_slots : (sh : Shape) (section k : ℕ) → section < sh.sections → k < sh.slots → sh.sections * 32 + (section * sh.slots + k) < sh.sections * 32 + sh.sections * sh.slots
in_slots sh section k h l = omega (arith, in-row section sh.sections sh.slots k h l)

-- the place exists
abbrev pub IsPlace : Shape → ℕ × ℕ → Type 0
IsPlace sh at = at.1 < get_or (region_sizes sh) at.0 0

pub either : (P : ℕ × ℕ → Type 0) (b : Bool) (x y : ℕ × ℕ) → (b ≡ true → P x) → (b ≡ false → P y) → P (cond b x y)
either P true x y f g = f refl
either P false x y f g = g refl

first : (a b : ℕ) (c : Bool) → (nat_lt a b && c) ≡ true → a < b
first a b c e = ltb-true _ _ (and_parts _ _ e).0

-- the first two of a longer conjunction
first_two : (a b c d : ℕ) (e : Bool) → (nat_lt a b && nat_lt c d && e) ≡ true → (a < b) × (c < d)
first_two a b c d e h = let x = and_parts (nat_lt a b) (nat_lt c d) (and_parts _ _ h).0 in (ltb-true _ _ x.0, ltb-true _ _ x.1)

-- what the rule says of the seat and its packets, as far as places need it
pub record InRange (sh : Shape) (s : SeatState) : Type 0 where
  pub shaped : IsShape sh
  pub section : unwrap_or s.section 0 < sh.sections
  pub lengths : (p : ℕ) → p < sh.packets → length_in_hand s.held p ≤ sh.entries
  pub env : (v : ℕ) → seat_variable s v ≤ sh.cells
  pub cache : cached_block s < block_count sh
  pub block : own_block s < block_count sh

-- what this step needs of InRange: a variable has to name a cell only if the step stores in its object
pub record Reaches (sh : Shape) (s : SeatState) (step : Step) : Type 0 where
  pub shaped : IsShape sh
  pub section : unwrap_or s.section 0 < sh.sections
  pub lengths : (p : ℕ) → p < sh.packets → length_in_hand s.held p ≤ sh.entries
  pub env : IsTrue (stores_in_object step) → (v : ℕ) → seat_variable s v ≤ sh.cells
  pub cache : cached_block s < block_count sh
  pub block : own_block s < block_count sh

pub reaches : (sh : Shape) (s : SeatState) (step : Step) → InRange sh s → Reaches sh s step
reaches sh s step k = record { shaped = k.shaped; section = k.section; lengths = k.lengths; env = λ _. k.env; cache = k.cache; block = k.block }

below_four : (a b : Bool) → cond a 0 (cond b 2 1) < 4
below_four true b = omega arith
below_four false true = omega arith
below_four false false = omega arith

pub pool_for-below : (sh : Shape) (n : ℕ) (d : Bool) → pool_for sh n d < 4
pool_for-below sh n true = omega arith
pool_for-below sh n false = below_four (eqb n 0) (nat_le sh.entries (2 * n))

pub word-below : (sh : Shape) (p : ℕ) → p < sh.packets → p / 64 < pool_words sh
word-below sh p h = omega (arith, h)

-- the block of a cell that exists
pub block-exists : (sh : Shape) (c : ℕ) → IsShape sh → c < sh.cells → c / 64 < block_count sh
block-exists sh c k h = omega (arith, h, k.whole_blocks)

nonzero : (x : ℕ) → not (eqb x 0) ≡ true → 0 < x
nonzero x e = grind (arith, eqb-true)

neq : (a b : ℕ) → eqb a b ≡ false → a ≡ b → ⊥
neq a b e f = grind (arith, eqb-true)

variable_pos : (sh : Shape) (x : ℕ) → IsShape sh → x ≤ sh.cells → 0 < x → cell_of x < sh.cells
variable_pos sh x k h p = omega (arith, h, p, k.cells)

variable_cell : (sh : Shape) (x : ℕ) (b : Bool) → IsShape sh → x ≤ sh.cells → (not (eqb x 0) && b) ≡ true → cell_of x < sh.cells
variable_cell sh x b k h e = variable_pos sh x k h (nonzero x (and_parts _ _ e).0)

counter_placed : (sh : Shape) (which : ℕ) → IsShape sh → which < first_position + sh.sections → IsPlace sh (counter_at which)
counter_placed sh which k h =
    either (IsPlace sh) (nat_lt which last_count) _ _
    (λ e. omega (arith, ltb-true which last_count e))
    (λ e.
    either (IsPlace sh) (nat_lt which named_number) _ _
    (λ f. omega (arith, ltb-true which named_number f))
    (λ f.
    either (IsPlace sh) (eqb which named_number) _ _ (λ g. omega arith) (λ g. omega (arith, h, ltb-false which named_number f, neq which named_number g, k.sections))))

part_placed : (sh : Shape) (c part : ℕ) → c < sh.cells → IsPlace sh (part_at sh c part)
part_placed sh c part h =
    either (IsPlace sh) (nat_lt part sh.fields) _ _
    (λ e. in-row c sh.cells sh.fields part h (ltb-true part sh.fields e))
    (λ e. either (IsPlace sh) (eqb part sh.fields) _ _ (λ f. h) (λ f. h))

pub placed-by : (sh : Shape) (w : Words) (seats : List SeatState) (s : SeatState) (step : Step) → Reaches sh s step → AllTrue (parts sh w seats s step) → IsPlace sh (place sh s step)
placed-by sh w seats s (Take q p) k ok = let a = first_two q 4 p sh.packets _ ok.0 in in-row q 4 (pool_words sh) (p / 64) a.0 (word-below sh p a.1)
placed-by sh w seats s (Give p d) k ok =
    in-row (pool_for sh (length_in_hand s.held p) d) 4 (pool_words sh) (p / 64) (pool_for-below sh (length_in_hand s.held p) d) (word-below sh p (first p sh.packets _ ok.0))
placed-by sh w seats s (Push p c) k ok =
    in-row p sh.packets sh.entries (length_in_hand s.held p) (first_two p sh.packets c sh.cells _ ok.0).0 (ltb-true _ _ (and_parts _ _ ok.1.0).1)
placed-by sh w seats s (Pop p) k ok =
    in-row p sh.packets sh.entries (length_in_hand s.held p - 1) (first p sh.packets _ ok.0) (omega (arith, k.lengths p (first p sh.packets _ ok.0), k.shaped.entries))
placed-by sh w seats s (Look q g) k ok = let a = and_parts _ _ ok.0 in in-row q 4 (pool_words sh) g (ltb-true _ _ a.0) (ltb-true _ _ a.1)
placed-by sh w seats s (ReadAlloc b) k ok = first b (block_count sh) _ ok.0
placed-by sh w seats s (ReadField c i) k ok = let a = first_two c sh.cells i sh.fields _ ok.0 in in-row c sh.cells sh.fields i a.0 a.1
placed-by sh w seats s (ReadRoot section v) k ok = let a = first_two section sh.sections v 32 _ (and_parts _ _ ok.0).0 in in_roots sh section v a.0 a.1
placed-by sh w seats s (LoadSlot section j) k ok = let a = first_two section sh.sections j sh.slots _ (and_parts _ _ ok.0).0 in in_slots sh section j a.0 a.1
placed-by sh w seats s (SetMark c) k ok = block-exists sh c k.shaped (first c sh.cells _ ok.0)
placed-by sh w seats s (DirtyCard card) k ok = first card (card_count sh) _ ok.0
placed-by sh w seats s (CheckCard card) k ok = first card (card_count sh) _ ok.0
placed-by sh w seats s (ClearCard card) k ok = first card (card_count sh) _ (and_parts _ _ ok.0).0
placed-by sh w seats s (ReadMarks b) k ok = first b (block_count sh) _ ok.0
placed-by sh w seats s (ReadCard card) k ok = ltb-true _ _ ok.0
placed-by sh w seats s (ReadOwn c i) k ok = let a = first_two c sh.cells i sh.fields _ ok.0 in in-row c sh.cells sh.fields i a.0 a.1
placed-by sh w seats s (ReadValue c) k ok = first c sh.cells _ ok.0
placed-by sh w seats s (ReadIdent c) k ok = first c sh.cells _ ok.0
placed-by sh w seats s (ReadCat v) k ok = in_roots sh 0 v (omega (arith, k.shaped.sections)) (first v 32 _ ok.0)
placed-by sh w seats s (StoreField v i x) k ok =
    let a = first_two v 32 i sh.fields _ (and_parts _ _ ok.0).0 in in-row (cell_of (seat_variable s v)) sh.cells sh.fields i (variable_cell sh (seat_variable s v) _ k.shaped (k.env refl v) ok.1.0) a.1
placed-by sh w seats s (ExchangeField v i x y) k ok =
    let a = first_two v 32 i sh.fields _ (and_parts _ _ ok.0).0 in in-row (cell_of (seat_variable s v)) sh.cells sh.fields i (variable_cell sh (seat_variable s v) _ k.shaped (k.env refl v) ok.1.0) a.1
placed-by sh w seats s (StoreValue v n) k ok = variable_cell sh (seat_variable s v) _ k.shaped (k.env refl v) ok.1.0
placed-by sh w seats s (ExchangeValue v m n) k ok = variable_cell sh (seat_variable s v) _ k.shaped (k.env refl v) ok.1.0
placed-by sh w seats s (StoreRoot v r) k ok = in_roots sh (unwrap_or s.section 0) v k.section (first v 32 _ ok.0)
placed-by sh w seats s (FlushRoot v) k ok = in_roots sh (unwrap_or s.section 0) v k.section (first v 32 _ ok.0)
placed-by sh w seats s (HoldRoot v r) k ok = in_roots sh (unwrap_or s.section 0) v k.section (first v 32 _ ok.0)
placed-by sh w seats s (StoreSlot j r) k ok = in_slots sh (unwrap_or s.section 0) j k.section (first j sh.slots _ ok.0)
placed-by sh w seats s (ReadSlot j) k ok = in_slots sh (unwrap_or s.section 0) j k.section (first j sh.slots _ ok.0)
placed-by sh w seats s (ReadWeak c) k ok = block-exists sh c k.shaped (first c sh.cells _ ok.0)
placed-by sh w seats s (ClaimBlock b) k ok = first b (block_count sh) _ ok.0
placed-by sh w seats s ReleaseBlock k ok = k.cache
placed-by sh w seats s ReadFree k ok = k.cache
placed-by sh w seats s (StoreNew c part word) k ok = part_placed sh c part (ltb-true _ _ (and_parts _ _ (and_parts _ _ ok.0).0).0)
placed-by sh w seats s PublishCells k ok = k.cache
placed-by sh w seats s ReadBlockMarks k ok = k.block
placed-by sh w seats s StoreAlloc k ok = k.block
placed-by sh w seats s ClearMarks k ok = k.block
placed-by sh w seats s (WipeCard card) k ok = first card (card_count sh) _ ok.0
placed-by sh w seats s (StorePosition done) k ok = k.section
placed-by sh w seats s (Reset which) k ok = counter_placed sh which k.shaped (omega (arith, leb-true which free_count (and_parts _ _ (and_parts _ _ ok.0).0).0))
placed-by sh w seats s (AddStat which by down) k ok = counter_placed sh which k.shaped (omega (arith, leb-true which done_count (and_parts _ _ (and_parts _ _ ok.0).0).1))
placed-by sh w seats s (ReadStat which) k ok = counter_placed sh which k.shaped (ltb-true _ _ ok.0)
placed-by sh w seats s (StoreLength p) k ok = first p sh.packets _ ok.0
placed-by sh w seats s (ReadLength p) k ok = first p sh.packets _ ok.0
placed-by sh w seats s Reserve k ok = omega arith
placed-by sh w seats s step k ok = omega arith

pub placed : (sh : Shape) (w : Words) (seats : List SeatState) (s : SeatState) (step : Step) → InRange sh s → AllTrue (parts sh w seats s step) → IsPlace sh (place sh s step)
placed sh w seats s step k ok = placed-by sh w seats s step (reaches sh s step k) ok

-- the section of a mutator, or 0
pub section-below : (n i : ℕ) (b : Bool) → 1 ≤ n → (b ≡ true → i < n) → unwrap_or (cond b (Some i) None) 0 < n
section-below n i true h f = f refl
section-below n i false h f = omega (arith, h)

-- the block in hand, or 0
pub block-below : (sh : Shape) (o : Option BlockState) → IsShape sh → IfSome o (IsStretch sh) → unwrap_or (block_in_hand o) 0 < block_count sh
block-below sh None k h = omega (arith, k.cells)
block-below sh (Some x) k h = omega (arith, h.0, h.1)

-- The word that an event writes stands at its place.
pub word-here : (sh : Shape) (ws : List ℕ) (at : ℕ × ℕ) (v : ℕ) → length ws ≡ total_words (region_sizes sh) → IsPlace sh at → word_at sh (set ws (address sh at) v) at ≡ v
word-here sh ws at v l h =
    let put = region-put (region_sizes sh) at.0 at.0 ws at.1 v h in
    let long : at.1 < length (region_words (region_sizes sh) at.0 ws) = omega (arith, h, region-length (region_sizes sh) at.0 ws (omega (arith, l))) in
    ap (λ xs. get_or xs at.1 0) (put ∙ rw (eq-eqb at.0 at.0 refl) refl) ∙ get_or-set_same (region_words (region_sizes sh) at.0 ws) at.1 v 0 long
