-- Each event that is allowed keeps the rule of caches.
use Rattle.std.proofs.Common.{ℕ, ◌≡◌, ◌+◌, ◌-◌, ◌*◌, ◌/◌, ◌<◌, ◌≤◌, List, set, get_or, length, arith, sym, ap, ◌∙◌, subst, Bool, true, false, not, ◌&&◌, Option, Some, None, cond, eqb, ⊎_elim, [], ◌∷◌, ◌++◌, refl}
use Rattle.std.specs.Prelude.{IfSome, IsTrue, slice_get, slice_index, unwrap_or, is_some, nat_lt, nat_le, bit_and}
use Rattle.std.proofs.lemmas.Bool.{and_parts, or_cases, cases_lt, ltb-true, ltb-false, le-leb, lt-leb, eqb-true, eqb-false, not-true, false≢true}
use Rattle.std.proofs.lemmas.List.{get_or_past, map-set, map-append, set-get_or, length-map}
use Rattle.mark_core.specs.Layout.{Words, words_of, put_word, region_sizes}
use Rattle.mark_core.specs.Bits.{cell_of, nil_or}
use Rattle.mark_core.specs.Seats.{is_the, may_store, may_mutate, block_in_hand}
use Rattle.mark_core.specs.Views.{Maker, makers, maker_of}
use Rattle.mark_core.specs.Cells.{in_use}
use Rattle.mark_core.specs.Rules.HeapRules.{NamesInUse}
use Rattle.mark_core.specs.Steps.MutatorSteps.{seat_variable, with_making, with_made, part_at}
use Rattle.mark_core.specs.Steps.SweepSteps.{survivors, own_block}
use Rattle.mark_core.specs.Parts.{parts}
use Rattle.mark_core.specs.Effects.{seat_after, place, written}
use Rattle.mark_core.specs.Steps.{Core, AllTrue, failing_part, after_event}
use Rattle.mark_core.specs.Strong.{IsStrongBlock}
use Rattle.mark_core.specs.Laws.{IsCore}
use Rattle.mark_core.proofs.Writing.Ranges.{either, IsPlace, placed}
use Rattle.mark_core.proofs.Known.{found, words_left, Acted, seats_left, in_range, acts}
use Rattle.mark_core.proofs.Formed.FormedLearns.{one-of, one-read}
use Rattle.mark_core.proofs.Caches.CachesSteps.{making-zero, zero_stays, zero_there}
use Rattle.mark_core.proofs.Caches.CachesStores.{Storing, part-kept, made-kept}
use Rattle.mark_core.proofs.Caches.CachesPublish.{free-kept, field-kept, push-kept, end-kept}
use Rattle.mark_core.proofs.Caches.CachesAt.{CachesOf, caching, maker-at, claim-at, release-at, read_free-at, publish-at}
use Rattle.mark_core.specs.declared.kinds.Shape.{Shape}
use Rattle.mark_core.specs.declared.kinds.Step.TheVariants.{StoreField, StoreNew, StoreAlloc, ExchangeField, ReadAlloc, ReadField, ReadOwn, ReadIdent, ClaimBlock, ReleaseBlock, ReadFree, PublishCells, Split, Join, ReadWeak}
use Rattle.mark_core.specs.declared.seat.SeatState.{SeatState}
use Rattle.mark_core.specs.declared.seat.BlockState.{BlockState}
use Rattle.mark_core.specs.Numbers.{section_span, value_bound}
use Rattle.std.proofs.lemmas.Option.{slice_get_within, get_or_from_slice_get}
use Rattle.mark_core.specs.Steps.WorldSteps.{other_has_nothing}
use Rattle.mark_core.specs.Start.{start_seat, spent_seat}
use Rattle.mark_core.proofs.Writing.Places.{words-get}
use Rattle.mark_core.proofs.Writing.Frames.{maker-kept, projection-kept}
use Rattle.mark_core.proofs.Writing.RegionWrites.{owners-kept, allocs-kept, identities-kept, fields-kept}
use Rattle.mark_core.proofs.Pool.PoolsKept.{shape-kept}
use Rattle.mark_core.proofs.Basics.{none-is}
use Rattle.mark_core.specs.declared.kinds.Event.{Event}
use Rattle.mark_core.specs.declared.kinds.Step.{Step}

-- The rule of caches after a step stores a part of a new cell, a field, or the allocation bits of a swept block.
-- only seat z has section z
pub section-seat : (n j z : ℕ) (b : Bool) → is_the (cond b (Some j) None) z ≡ true → z ≡ j
section-seat n j z true e = sym (eqb-true j z e)
section-seat n j z false e = absurd (false≢true e)

-- a section that exists is the seat's own number
own_section : (i : ℕ) (b : Bool) (o : Option ℕ) → o ≡ cond b (Some i) None → is_some o ≡ true → o ≡ Some i
own_section i true o e f = e
own_section i false o e f = absurd (false≢true (sym (ap is_some e) ∙ f))

-- the seat after this part of cell c
abbrev maker_after : Maker → ℕ → ℕ → Bool → Maker
maker_after m c part z = record m { cache = cond z (with_making m.cache c (part + 1)) (with_made m.cache c); made = cond z m.made (m.made + 1) }

-- what fits the last part
abbrev fits_last : Shape → Maker → ℕ → Bool
fits_last sh m word = is_some m.section && nat_lt m.made sh.objects && eqb word (unwrap_or m.section 0 * section_span + m.made)

-- the last part of a new cell
last_stored : (sh : Shape) (w : Words) (ms : List Maker) (i c part word : ℕ) (m : Maker) → Storing sh w.owners w.allocs w.identities w.fields ms i c part m → m.spent ≡ false → fits_last sh m word ≡ true → CachesOf sh (put_word (9, c) word w) (set ms i (maker_after m c part false))
last_stored sh w ms i c part word m k live e =
    let a = and_parts (is_some m.section && nat_lt m.made sh.objects) (eqb word (unwrap_or m.section 0 * section_span + m.made)) e in
    let b = and_parts (is_some m.section) (nat_lt m.made sh.objects) a.0 in
    let section : m.section ≡ Some i = own_section i (nat_lt i sh.sections) m.section (k.rule.sections i m k.seat) b.0 in
    let identity : word ≡ i * section_span + m.made = eqb-true _ _ a.1 ∙ ap (λ o. unwrap_or o 0 * section_span + m.made) section in
    made-kept sh w.owners w.allocs w.identities w.fields ms i c part word m k live section identity (omega (arith, ltb-true m.made sh.objects b.1))
    (λ j x z g f. section-seat sh.sections j z (nat_lt j sh.sections) (ap (λ o. is_the o z) (sym (k.rule.sections j x g)) ∙ f))

-- a field of a new cell, which is nil
field_stored : (sh : Shape) (w : Words) (ms : List Maker) (i c part word : ℕ) (m : Maker) → Storing sh w.owners w.allocs w.identities w.fields ms i c part m → word ≡ 0 → CachesOf sh (put_word (11, c * sh.fields + part) word w) (set ms i (maker_after m c part true))
field_stored sh w ms i c part word m k e =
    let at : ℕ = c * sh.fields + part in
    subst (λ v. CachesOf sh (put_word (11, at) v w) (set ms i (maker_after m c part true))) (sym e)
    (part-kept sh w.owners w.allocs w.identities w.fields (set w.fields at 0) ms i c part m k (making-zero sh w.fields at) (λ j h. zero_stays w.fields at (c * sh.fields + j) h) (λ h. zero_there w.fields at))

-- the value of a new cell
value_stored : (sh : Shape) (w : Words) (ms : List Maker) (i c part word : ℕ) (m : Maker) → Storing sh w.owners w.allocs w.identities w.fields ms i c part m → sh.fields ≤ part → CachesOf sh (put_word (10, c) word w) (set ms i (maker_after m c part true))
value_stored sh w ms i c part word m k e = part-kept sh w.owners w.allocs w.identities w.fields w.fields ms i c part m k (λ x h. h) (λ j h. h) (λ h. absurd (omega (arith, h, e)))

-- 23: a part of a new cell
part_stored : (sh : Shape) (w : Words) (ms : List Maker) (i c part word : ℕ) (m : Maker) → Storing sh w.owners w.allocs w.identities w.fields ms i c part m → m.spent ≡ false
    → cond (nat_lt part sh.fields) (eqb word 0) (cond (eqb part sh.fields) (nat_lt word value_bound) (fits_last sh m word)) ≡ true → CachesOf sh (put_word (part_at sh c part) word w) (set ms i (maker_after m c part (nat_le part sh.fields)))
part_stored sh w ms i c part word m k live e =
    let P : ℕ × ℕ → Bool → Type 0 = λ at z. CachesOf sh (put_word at word w) (set ms i (maker_after m c part z)) in
    either (λ at. P at (nat_le part sh.fields)) (nat_lt part sh.fields) _ _
    (λ f.
    let z : nat_le part sh.fields ≡ true = le-leb part sh.fields (omega (arith, ltb-true part sh.fields f)) in
    let nil : eqb word 0 ≡ true = rw f at e in
    subst (P (11, c * sh.fields + part)) (sym z) (field_stored sh w ms i c part word m k (eqb-true word 0 nil)))
    (λ f.
    either (λ at. P at (nat_le part sh.fields)) (eqb part sh.fields) _ _
    (λ g.
    let z : nat_le part sh.fields ≡ true = le-leb part sh.fields (omega (arith, eqb-true part sh.fields g)) in
    subst (P (10, c)) (sym z) (value_stored sh w ms i c part word m k (omega (arith, eqb-true part sh.fields g))))
    (λ g.
    let z : nat_le part sh.fields ≡ false = lt-leb part sh.fields (omega (arith, ltb-false part sh.fields f, λ (h : part ≡ sh.fields). eqb-false part sh.fields g h)) in
    let last : fits_last sh m word ≡ true = rw (f, g) at e in
    subst (P (9, c)) (sym z) (last_stored sh w ms i c part word m k live last)))

pub store_new-at : (c : Core) (i x part word : ℕ) (s : SeatState) → IsCore c → slice_get c.seats i ≡ Some s → s.spent ≡ false → AllTrue (parts c.shape (words_of c.shape c.words) c.seats s (StoreNew x part word))
    → CachesOf c.shape (words_left c s (StoreNew x part word)) (set (makers c.seats) i (maker_of (seat_after c.shape s (StoreNew x part word) (found c s (StoreNew x part word)))))
store_new-at c i x part word s k g live ok =
    let hx : x < c.shape.cells = ltb-true x c.shape.cells (and_parts (nat_lt x c.shape.cells) (nat_le part (c.shape.fields + 1)) (and_parts _ (may_mutate s) ok.0).0).0 in
    part_stored c.shape (words_of c.shape c.words) (makers c.seats) i x part word (maker_of s) (record { rule = caching c k; seat = maker-at c.seats i s g; cell = hx; next = ok.1.0 }) live ok.1.1.0

-- a reference that isn't nil names a cell in use
named_used : (sh : Shape) (p : ℕ → Bool) (r : ℕ) → r ≤ sh.cells → sh.cells ≤ 16777216 → not (eqb r 0) ≡ true → nil_or p r ≡ true → p (cell_of r) ≡ true
named_used sh p r h few e f =
    let some : r ≡ 0 → ⊥ = eqb-false r 0 (not-true _ e) in
    let same : r - 1 ≡ cell_of r = omega (arith, h, few, some) in
    ⊎_elim (λ (z : eqb r 0 ≡ true). absurd (some (eqb-true r 0 z))) (λ (u : p (r - 1) ≡ true). subst (λ y. p y ≡ true) same u) (or_cases (eqb r 0) (p (r - 1)) f)

-- each variable is nil or names a cell in use
variable_goes : (p : ℕ → Bool) (s : SeatState) (v : ℕ) → ((j d : ℕ) → j < length s.env → IsTrue (nil_or p (get_or s.env j d))) → nil_or p (seat_variable s v) ≡ true
variable_goes p s v a =
    ⊎_elim (λ (h : v < length s.env). a v 0 h) (λ (h : length s.env ≤ v). ap (nil_or p) (get_or_past s.env v 0 h)) (cases_lt v (length s.env))

-- 18: a field of an object
pub store_field-at : (c : Core) (i v f : ℕ) (o : Option ℕ) (s : SeatState) → IsCore c → slice_get c.seats i ≡ Some s → AllTrue (parts c.shape (words_of c.shape c.words) c.seats s (StoreField v f o)) → CachesOf c.shape (words_left c s (StoreField v f o)) (makers c.seats)
store_field-at c i v f o s k g ok =
    let w : Words = words_of c.shape c.words in
    let p : ℕ → Bool = in_use w.allocs (makers c.seats) in
    let names : NamesInUse w.allocs (makers c.seats) s = one-of (NamesInUse w.allocs (makers c.seats)) c.seats i s g k.sound.references.seats_in_use in
    let used : p (cell_of (seat_variable s v)) ≡ true = named_used c.shape p (seat_variable s v) ((in_range c i s k g).env v) k.formed.shaped.cells.1 (and_parts _ _ ok.1.0).0 (variable_goes p s v names.0) in
    let hf : f < c.shape.fields = ltb-true f c.shape.fields (and_parts (nat_lt v 32) (nat_lt f c.shape.fields) (and_parts _ _ (and_parts _ (may_mutate s) ok.0).0).0).1 in
    field-kept c.shape w.owners w.allocs w.identities w.fields (makers c.seats) (cell_of (seat_variable s v)) f _ (caching c k) used hf

-- 50: the same field
pub exchange_field-at : (c : Core) (i v f : ℕ) (o q : Option ℕ) (s : SeatState) → IsCore c → slice_get c.seats i ≡ Some s → AllTrue (parts c.shape (words_of c.shape c.words) c.seats s (ExchangeField v f o q)) → CachesOf c.shape (words_left c s (ExchangeField v f o q)) (makers c.seats)
exchange_field-at c i v f o q s k g ok =
    let w : Words = words_of c.shape c.words in
    let p : ℕ → Bool = in_use w.allocs (makers c.seats) in
    let names : NamesInUse w.allocs (makers c.seats) s = one-of (NamesInUse w.allocs (makers c.seats)) c.seats i s g k.sound.references.seats_in_use in
    let used : p (cell_of (seat_variable s v)) ≡ true = named_used c.shape p (seat_variable s v) ((in_range c i s k g).env v) k.formed.shaped.cells.1 (and_parts _ _ ok.1.0).0 (variable_goes p s v names.0) in
    let hf : f < c.shape.fields = ltb-true f c.shape.fields (and_parts (nat_lt v 32) (nat_lt f c.shape.fields) (and_parts _ _ (and_parts _ (may_mutate s) ok.0).0).0).1 in
    field-kept c.shape w.owners w.allocs w.identities w.fields (makers c.seats) (cell_of (seat_variable s v)) f _ (caching c k) used hf

-- the word that the seat keeps is the present one
kept_word : (allocs : List ℕ) (b : ℕ) (a : Option ℕ) → is_some a ≡ true → IfSome a (λ word. slice_index allocs b ≡ word) → unwrap_or a 0 ≡ slice_index allocs b
kept_word allocs b None e k = absurd (false≢true e)
kept_word allocs b (Some n) e k = sym k

-- the survivors are cells whose bit is set
survivors_are : (phase next : ℕ) (allocs marks : List ℕ) (o : Option BlockState) → may_store o ≡ true → IfSome o (IsStrongBlock phase next allocs marks) → (mask : ℕ) × (survivors o ≡ bit_and (slice_index allocs (unwrap_or (block_in_hand o) 0)) mask)
survivors_are phase next allocs marks None e k = absurd (false≢true e)
survivors_are phase next allocs marks (Some x) e k =
    let a = and_parts (is_some x.alloc_word && is_some x.mark_word) (not x.stored) e in
    let word : unwrap_or x.alloc_word 0 ≡ slice_index allocs x.block = kept_word allocs x.block x.alloc_word (and_parts (is_some x.alloc_word) (is_some x.mark_word) a.0).0 (k.alloc_kept (not-true x.stored a.1)) in
    (unwrap_or x.mark_word 0, ap (λ n. bit_and n (unwrap_or x.mark_word 0)) word)

-- 35: the white cells of a block are freed
pub store_alloc-at : (c : Core) (i : ℕ) (s : SeatState) → IsCore c → slice_get c.seats i ≡ Some s → AllTrue (parts c.shape (words_of c.shape c.words) c.seats s StoreAlloc) → CachesOf c.shape (words_left c s StoreAlloc) (makers c.seats)
store_alloc-at c i s k g ok =
    let w : Words = words_of c.shape c.words in
    let strong = one-read (λ (t : SeatState). t.block) (λ b. IfSome b (IsStrongBlock w.phase w.next_block w.allocs w.marks)) c.seats i s g k.strong.blocks_strong in
    let r : (mask : ℕ) × (survivors s.block ≡ bit_and (slice_index w.allocs (own_block s)) mask) = survivors_are w.phase w.next_block w.allocs w.marks s.block ok.1.0 strong in
    subst (λ v. CachesOf c.shape (put_word (4, own_block s) v w) (makers c.seats)) (sym r.1) (free-kept c.shape w.owners w.allocs w.identities w.fields (makers c.seats) (own_block s) r.0 (caching c k) (in_range c i s k g).block)

-- the rule after a step
abbrev Left : Core → ℕ → SeatState → Step → Type 0
Left c i s step = CachesOf c.shape (words_left c s step) (makers (seats_left c i s step))

-- a step that changes the cache of its seat
changed : (sh : Shape) (w : Words) (seats : List SeatState) (i : ℕ) (t : SeatState) → CachesOf sh w (set (makers seats) i (maker_of t)) → CachesOf sh w (makers (set seats i t))
changed sh w seats i t k = subst (CachesOf sh w) (sym (map-set maker_of seats i t)) k

-- a step that leaves what all seats make
unmoved : (sh : Shape) (w : Words) (seats : List SeatState) (i : ℕ) (s t : SeatState) → slice_get seats i ≡ Some s → maker_of t ≡ maker_of s → CachesOf sh w (makers seats) → CachesOf sh w (makers (set seats i t))
unmoved sh w seats i s t g e k = subst (CachesOf sh w) (sym (projection-kept maker_of seats i s t (slice_get_within seats i s g) (get_or_from_slice_get seats i s s g) e)) k

-- a word that is written back
written_back : (j : ℕ) (xs : List ℕ) (old : ℕ) → old ≡ get_or xs j 0 → set xs j old ≡ xs
written_back j xs old e = ap (λ v. set xs j v) e ∙ set-get_or xs j 0

-- a step that leaves the words that the rule reads
same_words : (sh : Shape) (w w' : Words) (ms : List Maker) → w'.owners ≡ w.owners → w'.allocs ≡ w.allocs → w'.identities ≡ w.identities → w'.fields ≡ w.fields → CachesOf sh w ms → CachesOf sh w' ms
same_words sh w w' ms o a i f k = rw (o, a, i, f) k

-- a record that is written back
same_seats : (seats : List SeatState) (i : ℕ) (s : SeatState) → slice_get seats i ≡ Some s → set seats i s ≡ seats
same_seats seats i s g = subst (λ (t : SeatState). set seats i t ≡ seats) (get_or_from_slice_get seats i s s g) (set-get_or seats i s)

section_next : (m n z : ℕ) (b : Bool) → (b ≡ true → n < m) → is_the (cond b (Some n) None) z ≡ true → (z ≡ n) × (z < m)
section_next m n z true h e = let s : z ≡ n = section-seat m n z true e in (s, subst (λ y. y < m) (sym s) (h refl))
section_next m n z false h e = absurd (false≢true e)

-- a new seat has the next section, or none
pub next_section : (sh : Shape) (n z : ℕ) → is_the (start_seat sh n).section z ≡ true → (z ≡ n) × (z < sh.sections)
next_section sh n z e = section_next sh.sections n z (nat_lt n sh.sections) (λ h. ltb-true n sh.sections h) e

-- 31: a further seat
split_at : (c : Core) (i : ℕ) (s : SeatState) → IsCore c → slice_get c.seats i ≡ Some s → Left c i s Split
split_at c i s k g =
    let sh : Shape = c.shape in
    let w : Words = words_left c s Split in
    let n : ℕ = length c.seats in
    let after : CachesOf sh w (makers c.seats ++ maker_of (start_seat sh n) ∷ []) =
    push-kept sh w.owners w.allocs w.identities w.fields (makers c.seats) (maker_of (start_seat sh n)) k.sound.caches refl (λ z e. let a = next_section sh n z e in (a.0 ∙ sym (length-map c.seats maker_of), a.1)) in
    subst (λ (seats : List SeatState). CachesOf sh w (makers (seats ++ start_seat sh (length seats) ∷ []))) (sym (same_seats c.seats i s g)) (subst (CachesOf sh w) (sym (map-append maker_of c.seats (start_seat sh n ∷ []))) after)

-- a seat that has nothing has no cache
joined : (sh : Shape) (o : Option SeatState) → other_has_nothing sh o ≡ true → (t : SeatState) × (o ≡ Some t) × (t.cache ≡ None)
joined sh None e = absurd (false≢true e)
joined sh (Some t) e = let a = and_parts _ _ (and_parts _ _ e).0 in (t, refl, none-is t.cache (and_parts _ _ a.0).1)

-- 32: another seat ends
join_at : (c : Core) (i other : ℕ) (s : SeatState) → IsCore c → slice_get c.seats i ≡ Some s → AllTrue (parts c.shape (words_of c.shape c.words) c.seats s (Join other)) → Left c i s (Join other)
join_at c i other s k g ok =
    let sh : Shape = c.shape in
    let w : Words = words_left c s (Join other) in
    let r = joined sh (slice_get c.seats other) (and_parts _ _ ok.1.0).1 in
    let after : CachesOf sh w (set (makers c.seats) other (maker_of (spent_seat sh other))) =
    end-kept sh w.owners w.allocs w.identities w.fields (makers c.seats) other (maker_of r.0) (maker_of (spent_seat sh other)) k.sound.caches (maker-at c.seats other r.0 r.1) r.2 refl refl in
    subst (λ (seats : List SeatState). CachesOf sh w (makers (set seats other (spent_seat sh other)))) (sym (same_seats c.seats i s g)) (changed sh w c.seats other (spent_seat sh other) after)

caches_at : (c : Core) (i : ℕ) (s : SeatState) (step : Step) → IsCore c → slice_get c.seats i ≡ Some s → s.spent ≡ false → AllTrue (parts c.shape (words_of c.shape c.words) c.seats s step) → IsPlace c.shape (place c.shape s step) → Left c i s step
caches_at c i s (ClaimBlock b) k g live ok at = changed c.shape (words_left c s (ClaimBlock b)) c.seats i _ (claim-at c i b s k g ok)
caches_at c i s ReleaseBlock k g live ok at = changed c.shape (words_left c s ReleaseBlock) c.seats i _ (release-at c i s k g ok)
caches_at c i s ReadFree k g live ok at = changed c.shape (words_left c s ReadFree) c.seats i _ (read_free-at c i s k g)
caches_at c i s (StoreNew x part word) k g live ok at = changed c.shape (words_left c s (StoreNew x part word)) c.seats i _ (store_new-at c i x part word s k g live ok)
caches_at c i s PublishCells k g live ok at = changed c.shape (words_left c s PublishCells) c.seats i _ (publish-at c i s k g ok)
caches_at c i s (StoreField v f o) k g live ok at = unmoved c.shape (words_left c s (StoreField v f o)) c.seats i s _ g refl (store_field-at c i v f o s k g ok)
caches_at c i s (ExchangeField v f o q) k g live ok at = unmoved c.shape (words_left c s (ExchangeField v f o q)) c.seats i s _ g refl (exchange_field-at c i v f o q s k g ok)
caches_at c i s StoreAlloc k g live ok at = unmoved c.shape (words_left c s StoreAlloc) c.seats i s _ g refl (store_alloc-at c i s k g ok)
caches_at c i s Split k g live ok at = split_at c i s k g
caches_at c i s (Join other) k g live ok at = join_at c i other s k g ok
caches_at c i s (ReadAlloc b) k g live ok at =
    let w : Words = words_of c.shape c.words in
    unmoved c.shape (words_left c s (ReadAlloc b)) c.seats i s _ g refl
    (same_words c.shape w (words_left c s (ReadAlloc b)) (makers c.seats) refl (written_back b w.allocs _ (words-get (region_sizes c.shape) 4 c.words b 0 at)) refl refl k.sound.caches)
caches_at c i s (ReadField x f) k g live ok at =
    let w : Words = words_of c.shape c.words in
    unmoved c.shape (words_left c s (ReadField x f)) c.seats i s _ g refl
    (same_words c.shape w (words_left c s (ReadField x f)) (makers c.seats) refl refl refl (written_back (x * c.shape.fields + f) w.fields _ (words-get (region_sizes c.shape) 11 c.words (x * c.shape.fields + f) 0 at)) k.sound.caches)
caches_at c i s (ReadOwn x f) k g live ok at =
    let w : Words = words_of c.shape c.words in
    unmoved c.shape (words_left c s (ReadOwn x f)) c.seats i s _ g refl
    (same_words c.shape w (words_left c s (ReadOwn x f)) (makers c.seats) refl refl refl (written_back (x * c.shape.fields + f) w.fields _ (words-get (region_sizes c.shape) 11 c.words (x * c.shape.fields + f) 0 at)) k.sound.caches)
caches_at c i s (ReadIdent x) k g live ok at =
    let w : Words = words_of c.shape c.words in
    unmoved c.shape (words_left c s (ReadIdent x)) c.seats i s _ g refl
    (same_words c.shape w (words_left c s (ReadIdent x)) (makers c.seats) refl refl (written_back x w.identities _ (words-get (region_sizes c.shape) 9 c.words x 0 at)) refl k.sound.caches)
caches_at c i s (ReadWeak x) k g live ok at =
    let w : Words = words_of c.shape c.words in
    unmoved c.shape (words_left c s (ReadWeak x)) c.seats i s _ g refl
    (same_words c.shape w (words_left c s (ReadWeak x)) (makers c.seats) refl (written_back (x / 64) w.allocs _ (words-get (region_sizes c.shape) 4 c.words (x / 64) 0 at)) refl refl k.sound.caches)
caches_at c i s step k g live ok at =
    let sh : Shape = c.shape in
    let w : Words = words_of sh c.words in
    let old : ℕ = found c s step in
    let v : ℕ = written sh s step old in
    unmoved sh (words_left c s step) c.seats i s _ g (maker-kept sh s step old refl)
    (same_words sh w (words_left c s step) (makers c.seats) (owners-kept sh s step v w refl) (allocs-kept sh s step v w refl) (identities-kept sh s step v w refl) (fields-kept sh s step v w refl) k.sound.caches)

-- each event that is allowed keeps the rule of caches
pub caches-kept_by : (c : Core) (e : Event) → IsCore c → failing_part c e ≡ None → CachesOf (after_event c e).shape (words_of (after_event c e).shape (after_event c e).words) (makers (after_event c e).seats)
caches-kept_by c e k f =
    let r : (s : SeatState) × Acted c e s = acts c e k f in
    let a : Acted c e r.0 = r.1 in
    let s : SeatState = r.0 in
    let w : Words = words_left c s e.step in
    let at : IsPlace c.shape (place c.shape s e.step) = placed c.shape (words_of c.shape c.words) c.seats s e.step (in_range c e.seat s k a.seat) a.ok in
    let P : List SeatState → Type 0 = λ seats. CachesOf c.shape w (makers seats) in
    let Q : Words → Type 0 = λ x. CachesOf c.shape x (makers (after_event c e).seats) in
    let R : Shape → Type 0 = λ sh. CachesOf sh (words_of sh (after_event c e).words) (makers (after_event c e).seats) in
    subst R (sym (shape-kept c e)) (subst Q (sym a.words) (subst P (sym a.seats) (caches_at c e.seat s e.step k a.seat a.live a.ok at)))
