-- What a seat has in hand stays in range over a step that is allowed.
use Rattle.std.proofs.Common.{ℕ, ◌≡◌, ◌+◌, ◌-◌, ◌%◌, ◌<◌, ◌≤◌, zero, suc, List, [], ◌∷◌, replicate, length, arith, refl, Bool, true, false, ◌||◌, Option, Some, None, cond, eqb, ⊎_elim}
use Rattle.std.specs.Prelude.{unwrap_or, nat_lt, nat_le, IfSome}
use Rattle.std.specs.List.{All, list_any}
use Rattle.std.proofs.lemmas.Bool.{and_parts, ltb-true, leb-false, le-ltb, ne_eqb, eqb-true, or_cases, cases_lt}
use Rattle.std.proofs.lemmas.List.{get_or_past}
use Rattle.std.proofs.lemmas.List.Elements.{All-nil, All-cons, All-head, All-tail, All-get_or, All-set}
use Rattle.mark_core.specs.Shapes.{IsShape}
use Rattle.mark_core.specs.Layout.{Words, block_count}
use Rattle.mark_core.specs.Bits.{has_bit, reference_in}
use Rattle.mark_core.specs.Held.{has_length, length_in_hand, put_packet, Slot, Slots, known_length, slot_without, drop_packet, slot_with, set_length}
use Rattle.mark_core.specs.Seats.{is_the, last_made, used_in}
use Rattle.mark_core.specs.Bounds.{IsReference, SlotFits, CacheFits, IsStretch, SeatBounds}
use Rattle.mark_core.specs.Steps.MutatorSteps.{fits_part, has_reference, names_last, seat_variable, variable_or_nil, with_free, with_making, with_made, without_used, weak_reference}
use Rattle.mark_core.specs.Steps.ColourSteps.{with_alloc_word}
use Rattle.mark_core.specs.Steps.SweepSteps.{with_mark_word, with_stored, untouched, stretch_end, next_in_stretch}
use Rattle.mark_core.specs.Parts.{parts}
use Rattle.mark_core.specs.Effects.{seat_after}
use Rattle.mark_core.specs.Start.{start_seat, spent_seat}
use Rattle.mark_core.specs.Steps.{AllTrue}
use Rattle.mark_core.proofs.Writing.Ranges.{section-below}
use Rattle.mark_core.proofs.Blocks.BlocksStretch.{some-taken, end-within}
use Rattle.mark_core.specs.declared.kinds.Shape.{Shape}
use Rattle.mark_core.specs.declared.kinds.Step.{Step}
use Rattle.mark_core.specs.declared.kinds.Step.TheVariants.{Take, Give, Push, Pop, ReadAlloc, ReadOwn, ReadCat, StoreRoot, ClaimBlock, ReleaseBlock, ReadFree, StoreNew, PublishCells, NextBlock, ReadBlockMarks, StoreAlloc, ClearMarks, StoreLength, ReadLength, Reserve, ExchangeField, StoreSlot, ReadSlot, ReadWeak, HoldRoot}
use Rattle.mark_core.specs.declared.seat.SeatState.{SeatState}
use Rattle.mark_core.specs.declared.seat.CacheState.{CacheState}
use Rattle.mark_core.specs.declared.seat.BlockState.{BlockState}

-- The lengths of the packets in hand stay within the room of a packet.
-- either of two values has the property
pub choose : {X : Type 0} (P : X → Type 0) (b : Bool) (x y : X) → P x → P y → P (cond b x y)
choose P true x y p q = p
choose P false x y p q = q

pub length-fits : (e : ℕ) (hs : Slots) (p : ℕ) → All (SlotFits e) hs → length_in_hand hs p ≤ e
length-fits e [] p a = omega arith
length-fits e (None ∷ hs) p a = length-fits e hs p (All-tail (SlotFits e) None hs a)
length-fits e (Some x ∷ hs) p a = choose (λ (o : Option ℕ). unwrap_or o 0 ≤ e) (eqb x.0 p) x.1 (known_length hs p) (All-head (SlotFits e) (Some x) hs a) (length-fits e hs p (All-tail (SlotFits e) (Some x) hs a))

pub put-fits : (e : ℕ) (hs : Slots) (p : ℕ) → All (SlotFits e) hs → All (SlotFits e) (put_packet hs p)
put-fits e [] p a = a
put-fits e (None ∷ hs) p a = All-cons (SlotFits e) (Some (p, None, true)) hs (omega arith) (All-tail (SlotFits e) None hs a)
put-fits e (Some x ∷ hs) p a = All-cons (SlotFits e) (Some x) (put_packet hs p) (All-head (SlotFits e) (Some x) hs a) (put-fits e hs p (All-tail (SlotFits e) (Some x) hs a))

without_fits : (e p : ℕ) (x : Slot) → SlotFits e x → SlotFits e (slot_without p x)
without_fits e p None h = tt
without_fits e p (Some x) h = choose (SlotFits e) (eqb x.0 p) None (Some x) tt h

pub drop-fits : (e : ℕ) (hs : Slots) (p : ℕ) → All (SlotFits e) hs → All (SlotFits e) (drop_packet hs p)
drop-fits e [] p a = All-nil (SlotFits e)
drop-fits e (x ∷ hs) p a = All-cons (SlotFits e) (slot_without p x) (drop_packet hs p) (without_fits e p x (All-head (SlotFits e) x hs a)) (drop-fits e hs p (All-tail (SlotFits e) x hs a))

with_fits : (e p n : ℕ) (b : Bool) (x : Slot) → n ≤ e → SlotFits e x → SlotFits e (slot_with p (Some n) b x)
with_fits e p n b None k h = tt
with_fits e p n b (Some x) k h = choose (SlotFits e) (eqb x.0 p) (Some (p, Some n, b)) (Some x) k h

pub set-fits : (e : ℕ) (hs : Slots) (p n : ℕ) (b : Bool) → n ≤ e → All (SlotFits e) hs → All (SlotFits e) (set_length hs p n b)
set-fits e [] p n b k a = All-nil (SlotFits e)
set-fits e (x ∷ hs) p n b k a = All-cons (SlotFits e) (slot_with p (Some n) b x) (set_length hs p n b) (with_fits e p n b x k (All-head (SlotFits e) x hs a)) (set-fits e hs p n b k (All-tail (SlotFits e) x hs a))

-- what a step learns from the word that it finds is in range
abbrev pub Finds : Shape → Step → ℕ → Type 0
Finds sh (ReadLength p) old = old ≤ sh.entries
Finds sh (ReadOwn c i) old = IsReference sh old
Finds sh (ReadCat v) old = IsReference sh old
Finds sh (ReadSlot k) old = IsReference sh old
Finds sh (ExchangeField v i x y) old = IsReference sh old
Finds sh step old = Unit {0}

reference_fits : (sh : Shape) (old : ℕ) → IsReference sh old → IsReference sh (reference_in old)
reference_fits sh old h = omega (arith, h)

section-after : (sh : Shape) (s : SeatState) (step : Step) (old : ℕ) → unwrap_or s.section 0 < sh.sections → unwrap_or (seat_after sh s step old).section 0 < sh.sections
section-after sh s Reserve old k = k
section-after sh s step old k = k

held-after : (sh : Shape) (w : Words) (seats : List SeatState) (s : SeatState) (step : Step) (old : ℕ) → All (SlotFits sh.entries) s.held → AllTrue (parts sh w seats s step) → Finds sh step old → All (SlotFits sh.entries) (seat_after sh s step old).held
held-after sh w seats s (Take q p) old k ok f = choose (All (SlotFits sh.entries)) (has_bit old (p % 64)) (put_packet s.held p) s.held (put-fits sh.entries s.held p k) k
held-after sh w seats s (Give p deferred) old k ok f = drop-fits sh.entries s.held p k
held-after sh w seats s (Push p c) old k ok f =
    let a : length_in_hand s.held p < sh.entries = ltb-true (length_in_hand s.held p) sh.entries (and_parts (has_length s.held p) (nat_lt (length_in_hand s.held p) sh.entries) ok.1.0).1 in
    set-fits sh.entries s.held p (length_in_hand s.held p + 1) false (omega (arith, a)) k
held-after sh w seats s (Pop p) old k ok f = set-fits sh.entries s.held p (length_in_hand s.held p - 1) false (omega (arith, length-fits sh.entries s.held p k)) k
held-after sh w seats s (StoreLength p) old k ok f = set-fits sh.entries s.held p (length_in_hand s.held p) true (length-fits sh.entries s.held p k) k
held-after sh w seats s (ReadLength p) old k ok f = set-fits sh.entries s.held p (reference_in old) true (omega (arith, f)) k
held-after sh w seats s step old k ok f = k

-- a number that the list has is as small as all of them
among : (n r : ℕ) (xs : List ℕ) → All (λ x. x ≤ n) xs → list_any (λ x. eqb x r) xs ≡ true → r ≤ n
among n r [] a e = absurd (cc)
among n r (x ∷ xs) a e =
    ⊎_elim
    (λ (h : eqb x r ≡ true). omega (arith, eqb-true x r h, All-head (λ y. y ≤ n) x xs a))
    (λ (h : list_any (λ y. eqb y r) xs ≡ true). among n r xs (All-tail (λ y. y ≤ n) x xs a) h)
    (or_cases (eqb x r) (list_any (λ y. eqb y r) xs) e)

last_is : (sh : Shape) (o : Option ℕ) (r : ℕ) → IfSome o (λ c. c < sh.cells) → is_the o (r - 1) ≡ true → r ≤ sh.cells
last_is sh None r k e = absurd (cc)
last_is sh (Some c) r k e = omega (arith, eqb-true c (r - 1) e, k)

last_fits : (sh : Shape) (o : Option CacheState) (r : ℕ) → IfSome o (CacheFits sh) → is_the (last_made o) (r - 1) ≡ true → r ≤ sh.cells
last_fits sh None r k e = absurd (cc)
last_fits sh (Some x) r k e = last_is sh x.last r k.1 e

-- a reference that a seat has is in range
pub reference-fits : (sh : Shape) (s : SeatState) (r : ℕ) → All (IsReference sh) s.env → IsReference sh s.got → IfSome s.cache (CacheFits sh) → has_reference s r ≡ true → IsReference sh r
reference-fits sh s r env got cache e =
    ⊎_elim
    (λ (a : ((eqb r 0 || eqb r s.got) || list_any (λ x. eqb x r) s.env) ≡ true).
    ⊎_elim
    (λ (b : (eqb r 0 || eqb r s.got) ≡ true).
    ⊎_elim (λ (z : eqb r 0 ≡ true). omega (arith, eqb-true r 0 z)) (λ (g : eqb r s.got ≡ true). omega (arith, eqb-true r s.got g, got)) (or_cases (eqb r 0) (eqb r s.got) b))
    (λ (b : list_any (λ x. eqb x r) s.env ≡ true). among sh.cells r s.env env b)
    (or_cases (eqb r 0 || eqb r s.got) (list_any (λ x. eqb x r) s.env) a))
    (λ (a : names_last s.cache r ≡ true). last_fits sh s.cache r cache (and_parts _ _ a).1)
    (or_cases ((eqb r 0 || eqb r s.got) || list_any (λ x. eqb x r) s.env) (names_last s.cache r) e)

pub root-fits : (sh : Shape) (s : SeatState) (r : ℕ) → SeatBounds sh s → has_reference s r ≡ true → IsReference sh r
root-fits sh s r k e = reference-fits sh s r k.env k.got k.cache e

-- each variable is nil, or names a cell that exists
pub variable-fits : (sh : Shape) (s : SeatState) (v : ℕ) → All (IsReference sh) s.env → IsReference sh (seat_variable s v)
variable-fits sh s v k =
    ⊎_elim
    (λ (h : v < length s.env). All-get_or (IsReference sh) s.env v 0 h k)
    (λ (h : length s.env ≤ v). omega (arith, get_or_past s.env v 0 h))
    (cases_lt v (length s.env))

pub or-nil-fits : (sh : Shape) (s : SeatState) (w : Option ℕ) → All (IsReference sh) s.env → IsReference sh (variable_or_nil s w)
or-nil-fits sh s None k = omega arith
or-nil-fits sh s (Some w) k = variable-fits sh s w k

env-after : (sh : Shape) (w : Words) (seats : List SeatState) (s : SeatState) (step : Step) (old : ℕ) → SeatBounds sh s → AllTrue (parts sh w seats s step) → All (IsReference sh) (seat_after sh s step old).env
env-after sh w seats s (StoreRoot v r) old k ok = All-set (IsReference sh) s.env v (reference_in r) (reference_fits sh r (root-fits sh s r k ok.1.0)) k.env
env-after sh w seats s (HoldRoot v r) old k ok = All-set (IsReference sh) s.env v (reference_in r) (reference_fits sh r (root-fits sh s r k ok.1.0)) k.env
env-after sh w seats s step old k ok = k.env

weak_fits : (sh : Shape) (s : SeatState) (c old : ℕ) → c < sh.cells → IsReference sh (weak_reference s c old)
weak_fits sh s c old h = choose (IsReference sh) (has_bit old (c % 64) || used_in s.cache c) (reference_in (c + 1)) 0 (omega (arith, h)) (omega arith)

got-after : (sh : Shape) (w : Words) (seats : List SeatState) (s : SeatState) (step : Step) (old : ℕ) → IsReference sh s.got → AllTrue (parts sh w seats s step) → Finds sh step old → IsReference sh (seat_after sh s step old).got
got-after sh w seats s (ReadOwn c i) old k ok f = reference_fits sh old f
got-after sh w seats s (ReadCat v) old k ok f = reference_fits sh old f
got-after sh w seats s (StoreRoot v r) old k ok f = omega arith
got-after sh w seats s (StoreSlot j r) old k ok f = omega arith
got-after sh w seats s (ReadSlot j) old k ok f = reference_fits sh old f
got-after sh w seats s (HoldRoot v r) old k ok f = omega arith
got-after sh w seats s (ReadWeak c) old k ok f = weak_fits sh s c old (ltb-true c sh.cells (and_parts _ _ ok.0).0)
got-after sh w seats s step old k ok f = k

free_fits : (sh : Shape) (o : Option CacheState) (old : ℕ) → IfSome o (CacheFits sh) → IfSome (with_free o old) (CacheFits sh)
free_fits sh None old k = tt
free_fits sh (Some x) old k = k

making_fits : (sh : Shape) (o : Option CacheState) (c part : ℕ) → IfSome o (CacheFits sh) → IfSome (with_making o c part) (CacheFits sh)
making_fits sh None c part k = tt
making_fits sh (Some x) c part k = k

made_fits : (sh : Shape) (o : Option CacheState) (c : ℕ) → c < sh.cells → IfSome o (CacheFits sh) → IfSome (with_made o c) (CacheFits sh)
made_fits sh None c h k = tt
made_fits sh (Some x) c h k = (k.0, h)

used_fits : (sh : Shape) (o : Option CacheState) → IfSome o (CacheFits sh) → IfSome (without_used o) (CacheFits sh)
used_fits sh None k = tt
used_fits sh (Some x) k = (k.0, tt)

cache-after : (sh : Shape) (w : Words) (seats : List SeatState) (s : SeatState) (step : Step) (old : ℕ) → IfSome s.cache (CacheFits sh) → AllTrue (parts sh w seats s step) → IfSome (seat_after sh s step old).cache (CacheFits sh)
cache-after sh w seats s (ClaimBlock b) old k ok =
    choose (λ o. IfSome o (CacheFits sh)) (eqb old 0) (Some (record { block = b; unread = true; free = 0; used = 0; making = None; last = None })) s.cache (ltb-true b (block_count sh) (and_parts _ _ ok.0).0, tt) k
cache-after sh w seats s ReleaseBlock old k ok = tt
cache-after sh w seats s ReadFree old k ok = free_fits sh s.cache old k
cache-after sh w seats s (StoreNew c part word) old k ok =
    let h : c < sh.cells = ltb-true c sh.cells (and_parts _ _ (and_parts _ _ ok.0).0).0 in
    choose (λ o. IfSome o (CacheFits sh)) (nat_le part sh.fields) (with_making s.cache c (part + 1)) (with_made s.cache c) (making_fits sh s.cache c (part + 1) k) (made_fits sh s.cache c h k)
cache-after sh w seats s PublishCells old k ok = used_fits sh s.cache k
cache-after sh w seats s step old k ok = k

abbrev BlockFits : Shape → BlockState → Type 0
BlockFits sh x = IsStretch sh x

alloc_fits : (sh : Shape) (o : Option BlockState) (b word : ℕ) → IfSome o (BlockFits sh) → IfSome (with_alloc_word o b word) (BlockFits sh)
alloc_fits sh None b word k = tt
alloc_fits sh (Some x) b word k = choose (BlockFits sh) (eqb x.block b) (record x { alloc_word = Some word }) x k k

mark_fits : (sh : Shape) (o : Option BlockState) (word : ℕ) → IfSome o (BlockFits sh) → IfSome (with_mark_word o word) (BlockFits sh)
mark_fits sh None word k = tt
mark_fits sh (Some x) word k = k

stored_fits : (sh : Shape) (o : Option BlockState) → IfSome o (BlockFits sh) → IfSome (with_stored o) (BlockFits sh)
stored_fits sh None k = tt
stored_fits sh (Some x) k = k

next_fits : (sh : Shape) (old : ℕ) (b : Bool) (o : Option BlockState) → 1 ≤ sh.stretch → (b ≡ true → old < block_count sh) → IfSome o (BlockFits sh) → IfSome (cond b (Some (untouched old (stretch_end sh old))) o) (BlockFits sh)
next_fits sh old true o s h k = (some-taken sh old s (h refl), end-within sh old)
next_fits sh old false o s h k = k

rest_fits : (sh : Shape) (x : BlockState) (b : Bool) → nat_lt (x.block + 1) x.until ≡ b → BlockFits sh x → IfSome (cond b (Some (untouched (x.block + 1) x.until)) None) (BlockFits sh)
rest_fits sh x true e k = (ltb-true (x.block + 1) x.until e, k.1)
rest_fits sh x false e k = tt

goes_on_fits : (sh : Shape) (o : Option BlockState) → IfSome o (BlockFits sh) → IfSome (next_in_stretch o) (BlockFits sh)
goes_on_fits sh None k = tt
goes_on_fits sh (Some x) k = rest_fits sh x (nat_lt (x.block + 1) x.until) refl k

pub block-after : (sh : Shape) (s : SeatState) (step : Step) (old : ℕ) → IsShape sh → IfSome s.block (BlockFits sh) → IfSome (seat_after sh s step old).block (BlockFits sh)
block-after sh s (ReadAlloc b) old z k = alloc_fits sh s.block b old k
block-after sh s NextBlock old z k = next_fits sh old (nat_lt old (block_count sh)) s.block z.stretch.0 (λ e. ltb-true old (block_count sh) e) k
block-after sh s ReadBlockMarks old z k = mark_fits sh s.block old k
block-after sh s StoreAlloc old z k = stored_fits sh s.block k
block-after sh s ClearMarks old z k = goes_on_fits sh s.block k
block-after sh s step old z k = k

-- the last part of a new cell counts one more, below the most that a seat may make
pub fits-made : (sh : Shape) (s : SeatState) (part word : ℕ) → sh.fields < part → fits_part sh s part word ≡ true → s.made < sh.objects
fits-made sh s part word h e =
    let a : nat_lt part sh.fields ≡ false = le-ltb part sh.fields (omega (arith, h)) in
    let b : eqb part sh.fields ≡ false = ne_eqb part sh.fields (λ i. omega (arith, h, i)) in
    let f = rw (a, b) at e in
    ltb-true s.made sh.objects (and_parts _ _ (and_parts _ _ f).0).1

next_made : (b : Bool) (n m : ℕ) → n ≤ m → (b ≡ false → n < m) → cond b n (n + 1) ≤ m
next_made true n m l h = l
next_made false n m l h = omega (arith, h refl)

pub made-after : (sh : Shape) (w : Words) (seats : List SeatState) (s : SeatState) (step : Step) (old : ℕ) → s.made ≤ sh.objects → AllTrue (parts sh w seats s step) → (seat_after sh s step old).made ≤ sh.objects
made-after sh w seats s (StoreNew c part word) old m ok = next_made (nat_le part sh.fields) s.made sh.objects m (λ e. fits-made sh s part word (leb-false part sh.fields e) ok.1.1.0)
made-after sh w seats s step old m ok = m

pub seat-bounds : (sh : Shape) (w : Words) (seats : List SeatState) (s : SeatState) (step : Step) (old : ℕ) → IsShape sh → SeatBounds sh s → AllTrue (parts sh w seats s step) → Finds sh step old → SeatBounds sh (seat_after sh s step old)
seat-bounds sh w seats s step old z k ok f =
    record {
      section = section-after sh s step old k.section;
      held = held-after sh w seats s step old k.held ok f;
      env = env-after sh w seats s step old k ok;
      got = got-after sh w seats s step old k.got ok f;
      cache = cache-after sh w seats s step old k.cache ok;
      block = block-after sh s step old z k.block;
      made = made-after sh w seats s step old k.made ok;
    }

nil_fits : (sh : Shape) (n : ℕ) → All (IsReference sh) (replicate n 0)
nil_fits sh zero = All-nil (IsReference sh)
nil_fits sh (suc n) = All-cons (IsReference sh) 0 (replicate n 0) (omega arith) (nil_fits sh n)

none_held : (e : ℕ) → All (SlotFits e) (None ∷ None ∷ None ∷ None ∷ [])
none_held e =
    All-cons
    (SlotFits e)
    None
    (None ∷ None ∷ None ∷ [])
    tt
    (All-cons (SlotFits e) None (None ∷ None ∷ []) tt (All-cons (SlotFits e) None (None ∷ []) tt (All-cons (SlotFits e) None [] tt (All-nil (SlotFits e)))))

pub start-bounds : (sh : Shape) (n : ℕ) → IsShape sh → SeatBounds sh (start_seat sh n)
start-bounds sh n k =
    record {
      section = section-below sh.sections n (nat_lt n sh.sections) (omega (arith, k.sections)) (λ e. ltb-true n sh.sections e);
      held = none_held sh.entries;
      env = nil_fits sh 32;
      got = omega arith;
      cache = tt;
      block = tt;
      made = omega arith;
    }

pub spent-bounds : (sh : Shape) (n : ℕ) → IsShape sh → SeatBounds sh (spent_seat sh n)
spent-bounds sh n k =
    let a : SeatBounds sh (start_seat sh n) = start-bounds sh n k in record { section = a.section; held = a.held; env = a.env; got = a.got; cache = a.cache; block = a.block; made = a.made }
