-- The cells in use after a step: none goes but by the sweep, and none comes but the one that is made.
use Rattle.std.proofs.Common.{ℕ, ◌≡◌, ◌/◌, ◌%◌, ◌<◌, List, [], ◌∷◌, ◌++◌, set, get_or, length, arith, refl, sym, ap, ◌∙◌, Bool, true, false, not, ◌&&◌, ◌||◌, eqb, Option, Some, None, ◌⊎◌, inl, inr, ⊎_elim, subst}
use Rattle.std.specs.Prelude.{IsTrue, IfSome, slice_get, slice_index, unwrap_or, is_none, bit_or, is_some}
use Rattle.std.specs.List.{list_any}
use Rattle.std.proofs.Math.Bool.{or-false}
use Rattle.std.proofs.lemmas.Bool.{true≢false, and_parts, or_cases, or_left, or_right, eqb-true, cases_Bool, eq-eqb}
use Rattle.std.proofs.lemmas.List.{map-set, map-append, length-map, get_or-map, set-get_or}
use Rattle.std.proofs.lemmas.List.Folds.{list_any-append, list_any_at}
use Rattle.std.proofs.lemmas.Option.{slice_get_within, get_or_from_slice_get}
use Rattle.mark_core.specs.Layout.{Words, words_of, address, block_count}
use Rattle.mark_core.specs.Bits.{cell_bit, has_bit}
use Rattle.mark_core.specs.Seats.{in_set, used_in, cache_block, is_bare, work_in_hand, empty_handed, may_store, block_in_hand}
use Rattle.mark_core.specs.Views.{Maker, makers, maker_of}
use Rattle.mark_core.specs.Cells.{in_use, used_by}
use Rattle.mark_core.specs.Steps.MutatorSteps.{cached_block, used_bits}
use Rattle.mark_core.specs.Steps.WorldSteps.{has_nothing, other_has_nothing, may_be_joined}
use Rattle.mark_core.specs.Start.{start_seat, spent_seat}
use Rattle.mark_core.specs.Effects.{seat_after, written}
use Rattle.mark_core.specs.Steps.{Core}
use Rattle.mark_core.proofs.Blocks.BlocksStopped.{Taken, within, own-record, in-place, mine as own-fact, words-read}
use Rattle.mark_core.proofs.HeldBlock.{allocs-length, alloc-found, MayStore, may-store, own-strong}
use Rattle.mark_core.proofs.Known.{found, words_left, seats_left}
use Rattle.mark_core.proofs.Writing.CellBits.{bit-here, bit-joined, bits-grow, bits-from, bit-more, bit-either, bit-first}
use Rattle.mark_core.proofs.Consequences.SomePasses.{any-set, any-unset}
use Rattle.mark_core.proofs.Used.UsedSeats.{IsMadeBy, seat-on, seat-back}
use Rattle.mark_core.proofs.Basics.{none-is}
use Rattle.mark_core.specs.declared.kinds.Shape.{Shape}
use Rattle.mark_core.specs.declared.kinds.Step.{Step}
use Rattle.mark_core.specs.declared.kinds.Step.TheVariants.{PublishCells, Split, Join, ReadAlloc, ReadFree, StoreAlloc, ReadWeak}
use Rattle.mark_core.specs.declared.seat.SeatState.{SeatState}
use Rattle.mark_core.specs.declared.seat.CacheState.{CacheState}
use Rattle.mark_core.specs.Strong.{IsStrongBlock}
use Rattle.mark_core.specs.Steps.SweepSteps.{survivors, own_block}
use Rattle.mark_core.proofs.Writing.RegionWrites.{allocs-kept}
use Rattle.mark_core.specs.declared.seat.BlockState.{BlockState}

-- Which cells are in use after a step: those that were, but for what the sweep frees, and the cell that was made.
-- the sweep frees cells
abbrev pub frees : Step → Bool
frees StoreAlloc = true
frees step = false

-- an allocation bit stays, unless the sweep stores it
pub alloc-on : (c : Core) (i : ℕ) (s : SeatState) (step : Step) (x : ℕ) → Taken c i s step → frees step ≡ false → cell_bit (words_of c.shape c.words).allocs x ≡ true → cell_bit (words_left c s step).allocs x ≡ true
alloc-on c i s StoreAlloc x k f e = absurd (true≢false f)
alloc-on c i s (ReadAlloc b) x k f e = rw (ap (λ (w : Words). w.allocs) (words-read c i s (ReadAlloc b) k refl)) e
alloc-on c i s ReadFree x k f e = rw (ap (λ (w : Words). w.allocs) (words-read c i s ReadFree k refl)) e
alloc-on c i s (ReadWeak y) x k f e = rw (ap (λ (w : Words). w.allocs) (words-read c i s (ReadWeak y) k refl)) e
alloc-on c i s PublishCells x k f e =
    let w : Words = words_of c.shape c.words in
    let b : ℕ = cached_block s in
    let h : b < block_count c.shape = in-place c i s PublishCells k in
    let old : ℕ = slice_index c.words (address c.shape (4, b)) in
    bits-grow w.allocs b (bit_or old (used_bits s.cache)) x
    (λ _ f. bit-more old (used_bits s.cache) (x % 64) (ap (λ (v : ℕ). has_bit v (x % 64)) (alloc-found c b h) ∙ f))
    e
alloc-on c i s step x k f e = rw (allocs-kept c.shape s step (written c.shape s step (found c s step)) (words_of c.shape c.words) refl) e

-- a cell of the block in hand that is stored as allocated was allocated
survivor_back : (phase next : ℕ) (allocs marks : List ℕ) (o : Option BlockState) (x : ℕ) → may_store o ≡ true → IfSome o (IsStrongBlock phase next allocs marks) → x / 64 ≡ unwrap_or (block_in_hand o) 0
    → has_bit (survivors o) (x % 64) ≡ true → cell_bit allocs x ≡ true
survivor_back phase next allocs marks None x m k a e = absurd (true≢false (sym m))
survivor_back phase next allocs marks (Some b) x m k a e =
    let y : MayStore b allocs marks = may-store phase next allocs marks b m k in
    let word : slice_index allocs (x / 64) ≡ unwrap_or b.alloc_word 0 = ap (λ (j : ℕ). slice_index allocs j) a ∙ y.alloc_word in
    ap (λ (w : ℕ). has_bit w (x % 64)) word ∙ bit-first (unwrap_or b.alloc_word 0) (unwrap_or b.mark_word 0) (x % 64) e

published_use : (o : Option CacheState) (x : ℕ) → is_some o ≡ true → x / 64 ≡ unwrap_or (cache_block o) 0 → has_bit (used_bits o) (x % 64) ≡ true → used_in o x ≡ true
published_use None x h a e = absurd (true≢false (sym h))
published_use (Some y) x h a e = rw (eq-eqb y.block (x / 64) (sym a)) e

-- an allocation bit was there before, or the seat has published its used cell
pub alloc-back : (c : Core) (i : ℕ) (s : SeatState) (step : Step) (x : ℕ) → Taken c i s step → cell_bit (words_left c s step).allocs x ≡ true → (cell_bit (words_of c.shape c.words).allocs x ≡ true) ⊎ (used_in s.cache x ≡ true)
alloc-back c i s (ReadAlloc b) x k e = inl (subst (λ (w : Words). cell_bit w.allocs x ≡ true) (words-read c i s (ReadAlloc b) k refl) e)
alloc-back c i s ReadFree x k e = inl (subst (λ (w : Words). cell_bit w.allocs x ≡ true) (words-read c i s ReadFree k refl) e)
alloc-back c i s (ReadWeak y) x k e = inl (subst (λ (w : Words). cell_bit w.allocs x ≡ true) (words-read c i s (ReadWeak y) k refl) e)
alloc-back c i s PublishCells x k e =
    let w : Words = words_of c.shape c.words in
    let b : ℕ = cached_block s in
    let h : b < block_count c.shape = in-place c i s PublishCells k in
    let old : ℕ = slice_index c.words (address c.shape (4, b)) in
    ⊎_elim
    (λ (a : cell_bit w.allocs x ≡ true). inl a)
    (λ (a : (b ≡ x / 64) × (has_bit (bit_or old (used_bits s.cache)) (x % 64) ≡ true)).
    ⊎_elim
    (λ (f : has_bit old (x % 64) ≡ true). inl (ap (λ (v : ℕ). has_bit v (x % 64)) (ap (λ (j : ℕ). slice_index w.allocs j) (sym a.0) ∙ sym (alloc-found c b h)) ∙ f))
    (λ (f : has_bit (used_bits s.cache) (x % 64) ≡ true). inr (published_use s.cache x k.ok.0 (sym a.0) f))
    (bit-either old (used_bits s.cache) (x % 64) a.1))
    (bits-from w.allocs b (bit_or old (used_bits s.cache)) x e)
alloc-back c i s StoreAlloc x k e =
    let w : Words = words_of c.shape c.words in
    ⊎_elim
    (λ (a : cell_bit w.allocs x ≡ true). inl a)
    (λ (a : (own_block s ≡ x / 64) × (has_bit (survivors s.block) (x % 64) ≡ true)).
    inl (survivor_back w.phase w.next_block w.allocs w.marks s.block x k.ok.1.0 (own-strong c i s StoreAlloc k) (sym a.0) a.1))
    (bits-from w.allocs (own_block s) (survivors s.block) x e)
alloc-back c i s step x k e = inl (sym (ap (λ (ws : List ℕ). cell_bit ws x) (allocs-kept c.shape s step (written c.shape s step (found c s step)) (words_of c.shape c.words) refl)) ∙ e)

published_on : (o : Option CacheState) (x : ℕ) → used_in o x ≡ true → (x / 64 ≡ unwrap_or (cache_block o) 0) × (has_bit (used_bits o) (x % 64) ≡ true)
published_on None x e = absurd (true≢false (sym e))
published_on (Some y) x e = let a = and_parts (eqb y.block (x / 64)) (has_bit y.used (x % 64)) e in (sym (eqb-true y.block (x / 64) a.0), a.1)

-- the cells that are published have their allocation bits
publish_bit : (c : Core) (i : ℕ) (s : SeatState) (x : ℕ) → Taken c i s PublishCells → used_in s.cache x ≡ true → cell_bit (words_left c s PublishCells).allocs x ≡ true
publish_bit c i s x k e =
    let w : Words = words_of c.shape c.words in
    let b : ℕ = cached_block s in
    let h : b < block_count c.shape = in-place c i s PublishCells k in
    let a = published_on s.cache x e in
    let old : ℕ = slice_index c.words (address c.shape (4, b)) in
    bit-here w.allocs b (bit_or old (used_bits s.cache)) x (omega (arith, h, allocs-length c k.core)) (sym a.0) ∙ bit-joined old (used_bits s.cache) (x % 64) a.1

has_no_cache : (sh : Shape) (o : SeatState) → has_nothing sh o ≡ true → o.cache ≡ None
has_no_cache sh o e =
    let a = and_parts (empty_handed o && not (work_in_hand sh.fields o) && is_none o.owes && is_none o.cache && is_none o.block) (eqb o.got 0 && eqb o.lags 0) e in
    let b = and_parts (empty_handed o && not (work_in_hand sh.fields o) && is_none o.owes && is_none o.cache) (is_none o.block) a.0 in
    none-is o.cache (and_parts (empty_handed o && not (work_in_hand sh.fields o) && is_none o.owes) (is_none o.cache) b.0).1

-- the seat that is joined has no cache
joined_none : (sh : Shape) (seats : List SeatState) (other x : ℕ) (g : Option SeatState) → slice_get seats other ≡ g → other_has_nothing sh g ≡ true → used_by x (get_or (makers seats) other (maker_of (spent_seat sh other))) ≡ false
joined_none sh seats other x None e h = absurd (true≢false (sym h))
joined_none sh seats other x (Some o) e h =
    let l : other < length seats = slice_get_within seats other o e in
    let is : get_or (makers seats) other (maker_of (spent_seat sh other)) ≡ maker_of o = get_or-map maker_of seats other o (maker_of (spent_seat sh other)) l ∙ ap maker_of (get_or_from_slice_get seats other o o e) in
    ap (used_by x) is ∙ ap (λ (y : Option CacheState). used_in y x) (has_no_cache sh o h)

-- the record of a seat that does nothing to it stays
same_seats : (c : Core) (i : ℕ) (s : SeatState) (step : Step) → Taken c i s step → set c.seats i s ≡ c.seats
same_seats c i s step k = ap (λ (t : SeatState). set c.seats i t) (sym (own-record c i s step s k)) ∙ set-get_or c.seats i s

joined_within : (seats : List SeatState) (other : ℕ) (g : Option SeatState) (n : Bool) → slice_get seats other ≡ g → (n && may_be_joined g) ≡ true → other < length seats
joined_within seats other None n e h = absurd (true≢false (sym (and_parts n false h).1))
joined_within seats other (Some o) n e h = slice_get_within seats other o e

-- some seat has still made the cell, if this one has
makers_on : (c : Core) (i : ℕ) (s : SeatState) (step : Step) (x : ℕ) → Taken c i s step → (used_in s.cache x ≡ true → used_in (seat_after c.shape s step (found c s step)).cache x ≡ true) → list_any (used_by x) (makers c.seats) ≡ true
    → list_any (used_by x) (makers (seats_left c i s step)) ≡ true
makers_on c i s Split x k f e =
    let t : SeatState = start_seat c.shape (length (set c.seats i s)) in
    rw (map-append maker_of (set c.seats i s) (t ∷ []), list_any-append (used_by x) (makers (set c.seats i s)) (makers (t ∷ [])), same_seats c i s Split k, e) refl
makers_on c i s (Join other) x k f e =
    let t : SeatState = spent_seat c.shape other in
    let none : used_by x (get_or (makers c.seats) other (maker_of t)) ≡ false = joined_none c.shape c.seats other x (slice_get c.seats other) refl (and_parts (has_nothing c.shape s) (other_has_nothing c.shape (slice_get c.seats other)) k.ok.1.0).1 in
    let there : other < length (makers c.seats) = rw length-map (joined_within c.seats other (slice_get c.seats other) (not (eqb other s.number)) refl (and_parts (not (eqb other s.number) && may_be_joined (slice_get c.seats other)) (is_bare s) k.ok.0).0) in
    rw (map-set maker_of (set c.seats i s) other t, same_seats c i s (Join other) k) (any-set (used_by x) (makers c.seats) other (maker_of t) (maker_of t) there e (λ a. absurd (true≢false (sym a ∙ none))))
makers_on c i s step x k f e =
    let t : SeatState = seat_after c.shape s step (found c s step) in
    let mine : get_or (makers c.seats) i (maker_of s) ≡ maker_of s = get_or-map maker_of c.seats i s (maker_of s) (within c i s step k) ∙ ap maker_of (own-record c i s step s k) in
    rw (map-set maker_of c.seats i t) (any-set (used_by x) (makers c.seats) i (maker_of t) (maker_of s) (rw length-map (within c i s step k)) e (λ a. f (sym (ap (used_by x) mine) ∙ a)))

-- if some seat has made the cell after the step, some seat had before, or the step gives it its last word
pub makers_back : (c : Core) (i : ℕ) (s : SeatState) (step : Step) (x : ℕ) → Taken c i s step → list_any (used_by x) (makers (seats_left c i s step)) ≡ true → (list_any (used_by x) (makers c.seats) ≡ true) ⊎ IsMadeBy c.shape step x
makers_back c i s Split x k e =
    let t : SeatState = start_seat c.shape (length (set c.seats i s)) in
    let both : list_any (used_by x) (makers (set c.seats i s ++ t ∷ [])) ≡ (list_any (used_by x) (makers (set c.seats i s)) || false) =
    rw (map-append maker_of (set c.seats i s) (t ∷ [])) (list_any-append (used_by x) (makers (set c.seats i s)) (makers (t ∷ []))) in
    let before : list_any (used_by x) (makers (set c.seats i s)) ≡ true = sym (or-false (list_any (used_by x) (makers (set c.seats i s)))) ∙ (sym both ∙ e) in
    inl (ap (λ (ss : List SeatState). list_any (used_by x) (makers ss)) (sym (same_seats c i s Split k)) ∙ before)
makers_back c i s (Join other) x k e =
    let t : SeatState = spent_seat c.shape other in
    let after : list_any (used_by x) (set (makers c.seats) other (maker_of t)) ≡ true =
    ap (λ (ms : List Maker). list_any (used_by x) ms) (sym (map-set maker_of c.seats other t)) ∙ (ap (λ (ss : List SeatState). list_any (used_by x) (makers (set ss other t))) (sym (same_seats c i s (Join other) k)) ∙ e) in
    ⊎_elim (λ (a : used_by x (maker_of t) ≡ true). absurd (true≢false (sym a))) (λ (a : list_any (used_by x) (makers c.seats) ≡ true). inl a) (any-unset (used_by x) (makers c.seats) other (maker_of t) after)
makers_back c i s step x k e =
    let t : SeatState = seat_after c.shape s step (found c s step) in
    let after : list_any (used_by x) (set (makers c.seats) i (maker_of t)) ≡ true = ap (λ (ms : List Maker). list_any (used_by x) ms) (sym (map-set maker_of c.seats i t)) ∙ e in
    let mine : get_or (makers c.seats) i (maker_of s) ≡ maker_of s = get_or-map maker_of c.seats i s (maker_of s) (within c i s step k) ∙ ap maker_of (own-record c i s step s k) in
    ⊎_elim
    (λ (a : used_by x (maker_of t) ≡ true).
    ⊎_elim
    (λ (u : used_in s.cache x ≡ true). inl (list_any_at (used_by x) (makers c.seats) i (maker_of s) (rw length-map (within c i s step k)) (ap (used_by x) mine ∙ u)))
    (λ (m : IsMadeBy c.shape step x). inr m)
    (seat-back c.shape (words_of c.shape c.words) c.seats s step (found c s step) x (own-fact c i s step (λ (t : SeatState). IfSome t.cache (λ (y : CacheState). IfSome y.making (λ m. IsTrue (in_set y.block y.free m.0)))) k (λ j d h. (k.core.strong.seats_strong j d h).made_from_free)) k.ok a))
    (λ (a : list_any (used_by x) (makers c.seats) ≡ true). inl a)
    (any-unset (used_by x) (makers c.seats) i (maker_of t) after)

abbrev publishes : Step → Bool
publishes PublishCells = true
publishes step = false

not_publish : {P : Type 0} (step : Step) → publishes step ≡ false → step ≡ PublishCells → P
not_publish step f e = absurd (true≢false (sym (ap publishes e) ∙ f))

-- the seat had made the cell, or had not
used_or_not : (c : Core) (i : ℕ) (s : SeatState) (x : ℕ) → Taken c i s PublishCells → list_any (used_by x) (makers c.seats) ≡ true → (cell_bit (words_left c s PublishCells).allocs x ≡ true) ⊎ (list_any (used_by x) (makers (seats_left c i s PublishCells)) ≡ true)
used_or_not c i s x k e =
    ⊎_elim
    (λ (u : used_in s.cache x ≡ true). inl (publish_bit c i s x k u))
    (λ (u : used_in s.cache x ≡ false). inr (makers_on c i s PublishCells x k (λ a. absurd (true≢false (sym a ∙ u))) e))
    (cases_Bool (used_in s.cache x))

-- a cell that some seat has made is published now, or some seat still has it
pub still-made : (c : Core) (i : ℕ) (s : SeatState) (step : Step) (x : ℕ) → Taken c i s step → list_any (used_by x) (makers c.seats) ≡ true → (cell_bit (words_left c s step).allocs x ≡ true) ⊎ (list_any (used_by x) (makers (seats_left c i s step)) ≡ true)
still-made c i s PublishCells x k e = used_or_not c i s x k e
still-made c i s step x k e =
    inr (makers_on c i s step x k (λ u. ⊎_elim (λ (a : used_in (seat_after c.shape s step (found c s step)).cache x ≡ true). a) (λ (a : step ≡ PublishCells). not_publish step refl a) (seat-on c.shape (words_of c.shape c.words) c.seats s step (found c s step) x k.ok u)) e)

-- a cell in use stays in use, unless the sweep stores allocation bits
pub used-on : (c : Core) (i : ℕ) (s : SeatState) (step : Step) (x : ℕ) → Taken c i s step → frees step ≡ false → in_use (words_of c.shape c.words).allocs (makers c.seats) x ≡ true → in_use (words_left c s step).allocs (makers (seats_left c i s step)) x ≡ true
used-on c i s step x k f e =
    let w : Words = words_of c.shape c.words in
    let bit : Bool = cell_bit (words_left c s step).allocs x in
    let some : Bool = list_any (used_by x) (makers (seats_left c i s step)) in
    ⊎_elim
    (λ (a : cell_bit w.allocs x ≡ true). or_left bit some (alloc-on c i s step x k f a))
    (λ (a : list_any (used_by x) (makers c.seats) ≡ true).
    ⊎_elim
    (λ (b : bit ≡ true). or_left bit some b)
    (λ (b : some ≡ true). or_right bit some b)
    (still-made c i s step x k a))
    (or_cases (cell_bit w.allocs x) (list_any (used_by x) (makers c.seats)) e)

-- a cell in use was in use before, or the step gives it its last word
pub used-back : (c : Core) (i : ℕ) (s : SeatState) (step : Step) (x : ℕ) → Taken c i s step → in_use (words_left c s step).allocs (makers (seats_left c i s step)) x ≡ true → (in_use (words_of c.shape c.words).allocs (makers c.seats) x ≡ true) ⊎ IsMadeBy c.shape step x
used-back c i s step x k e =
    let w : Words = words_of c.shape c.words in
    let bit : Bool = cell_bit w.allocs x in
    let some : Bool = list_any (used_by x) (makers c.seats) in
    let mine : get_or (makers c.seats) i (maker_of s) ≡ maker_of s = get_or-map maker_of c.seats i s (maker_of s) (within c i s step k) ∙ ap maker_of (own-record c i s step s k) in
    ⊎_elim
    (λ (a : cell_bit (words_left c s step).allocs x ≡ true).
    ⊎_elim
    (λ (b : bit ≡ true). inl (or_left bit some b))
    (λ (b : used_in s.cache x ≡ true). inl (or_right bit some (list_any_at (used_by x) (makers c.seats) i (maker_of s) (rw length-map (within c i s step k)) (ap (used_by x) mine ∙ b))))
    (alloc-back c i s step x k a))
    (λ (a : list_any (used_by x) (makers (seats_left c i s step)) ≡ true).
    ⊎_elim
    (λ (b : some ≡ true). inl (or_right bit some b))
    (λ (m : IsMadeBy c.shape step x). inr m)
    (makers_back c i s step x k a))
    (or_cases (cell_bit (words_left c s step).allocs x) (list_any (used_by x) (makers (seats_left c i s step))) e)
