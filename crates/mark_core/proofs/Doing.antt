-- What an event that is allowed may rely on, and the state that its writes leave.
use Rattle.std.proofs.Common.{ℕ, ◌≡◌, ◌+◌, ◌<◌, ◌≤◌, List, set, get_or, length, arith, refl, sym, ap, ◌∙◌, subst, Bool, true, false, Option, Some, None, cond, ◌&&◌, [], ◌∷◌, ◌++◌, ◌*◌, eqb, ⊎_elim}
use Rattle.std.specs.Prelude.{slice_get, nat_lt, nat_le, unwrap_or, IfSome}
use Rattle.std.proofs.lemmas.Bool.{and_parts, ltb-true, leb-true, eqb-true, true≢false, cases_Bool}
use Rattle.std.proofs.lemmas.List.{length-set, length-append, get_or_read, set-get_or}
use Rattle.std.proofs.lemmas.List.Elements.{All-get_or, All-nil, All-cons, All-head, All-tail, All-set}
use Rattle.std.proofs.lemmas.Option.{slice_get_within, slice_get_read, slice_get_past}
use Rattle.mark_core.specs.Shapes.{IsShape}
use Rattle.mark_core.specs.Layout.{Words, words_of, address, block_count, region_sizes, put_word, total_words, region_words}
use Rattle.mark_core.specs.Held.{has_length, length_in_hand}
use Rattle.mark_core.specs.Seats.{may_mutate, cache_block}
use Rattle.mark_core.specs.Steps.ColourSteps.{may_read_field}
use Rattle.mark_core.specs.Parts.{parts}
use Rattle.mark_core.specs.Effects.{place, written, seat_after}
use Rattle.mark_core.specs.Room.{HasNumber, HasRoom, HasValue}
use Rattle.mark_core.specs.Bounds.{CacheFits, SeatBounds, IsBounded, IsReference, WordBounds}
use Rattle.mark_core.specs.Steps.{Core, first_false, AllTrue, failing_of, failing_part, others_after, after_of, after_event}
use Rattle.mark_core.specs.Laws.{NumbersFit}
use Rattle.mark_core.proofs.Known.{some_none, parts_hold}
use Rattle.mark_core.proofs.Writing.Ranges.{InRange, IsPlace, placed, block-below, either}
use Rattle.mark_core.proofs.Writing.Places.{address-lt-total, word-put, region-length, words-get}
use Rattle.mark_core.proofs.Writing.SeatBoundsKept.{length-fits, fits-made, variable-fits, seat-bounds, start-bounds, spent-bounds, choose, Finds, root-fits, or-nil-fits}
use Rattle.mark_core.specs.declared.kinds.Shape.{Shape}
use Rattle.mark_core.specs.declared.kinds.Event.{Event}
use Rattle.mark_core.specs.declared.kinds.Step.{Step}
use Rattle.mark_core.specs.declared.kinds.Step.TheVariants.{Push, ReadField, StoreValue, StorePosition, StoreRoot, StoreNew, Split, Join, ReadRoot, ReadOwn, ReadCat, StoreField, Reset, AddStat, ReadStat, StoreLength, ReadLength, ExchangeField, LoadSlot, StoreSlot, ReadSlot, HoldRoot, FlushRoot}
use Rattle.mark_core.specs.declared.seat.SeatState.{SeatState}
use Rattle.mark_core.specs.declared.seat.CacheState.{CacheState}
use Rattle.std.specs.List.{All}
use Rattle.mark_core.specs.Start.{start_seat, spent_seat}
use Rattle.mark_core.specs.Bits.{cell_of}
use Rattle.mark_core.specs.Places.{counter_at}
use Rattle.mark_core.specs.Steps.MutatorSteps.{fits_part, part_at, variable_or_nil, seat_variable}
use Rattle.mark_core.proofs.Writing.Writes.{only_reads, read-written, at_counter}

-- The words from which seats learn lengths and references stay in range over a step that is allowed.
-- a word of a region if all are in range
read_fits : (sh : Shape) (ws : List ℕ) (r i n : ℕ) → All (λ x. x ≤ n) (region_words (region_sizes sh) r ws) → i < get_or (region_sizes sh) r 0 → length ws ≡ total_words (region_sizes sh) → get_or ws (address sh (r, i)) 0 ≤ n
read_fits sh ws r i n a h l =
    let long : i < length (region_words (region_sizes sh) r ws) = omega (arith, h, region-length (region_sizes sh) r ws (omega (arith, l))) in
    let e : get_or ws (address sh (r, i)) 0 ≡ get_or (region_words (region_sizes sh) r ws) i 0 = words-get (region_sizes sh) r ws i 0 h in
    rw e (All-get_or (λ x. x ≤ n) (region_words (region_sizes sh) r ws) i 0 long a)

-- what a step learns is in range
pub finds : (sh : Shape) (ws : List ℕ) (s : SeatState) (step : Step) → WordBounds sh (words_of sh ws) → IsPlace sh (place sh s step) → length ws ≡ total_words (region_sizes sh) → Finds sh step (get_or ws (address sh (place sh s step)) 0)
finds sh ws s (ReadLength p) k h l = read_fits sh ws 7 p sh.entries k.heads h l
finds sh ws s (ReadOwn c i) k h l = read_fits sh ws 11 (c * sh.fields + i) sh.cells k.fields h l
finds sh ws s (ExchangeField v i x y) k h l = read_fits sh ws 11 (cell_of (seat_variable s v) * sh.fields + i) sh.cells k.fields h l
finds sh ws s (ReadCat v) k h l = read_fits sh ws 2 (0 * 32 + v) sh.cells k.roots h l
finds sh ws s (ReadSlot j) k h l = read_fits sh ws 2 (sh.sections * 32 + (unwrap_or s.section 0 * sh.slots + j)) sh.cells k.roots h l
finds sh ws s step k h l = tt

field_kept : (sh : Shape) (w : Words) (i v : ℕ) → WordBounds sh w → IsReference sh v → WordBounds sh (put_word (11, i) v w)
field_kept sh w i v k h = record { heads = k.heads; roots = k.roots; fields = All-set (IsReference sh) w.fields i v h k.fields }

new_kept : (sh : Shape) (w : Words) (s : SeatState) (c part word : ℕ) → WordBounds sh w → fits_part sh s part word ≡ true → WordBounds sh (put_word (part_at sh c part) word w)
new_kept sh w s c part word k f =
    either
    (λ at. WordBounds sh (put_word at word w))
    (nat_lt part sh.fields)
    _
    _
    (λ e. let g = rw e at f in field_kept sh w _ word k (omega (arith, eqb-true word 0 g)))
    (λ e. either (λ at. WordBounds sh (put_word at word w)) (eqb part sh.fields) _ _ (λ g. record { heads = k.heads; roots = k.roots; fields = k.fields }) (λ g. record { heads = k.heads; roots = k.roots; fields = k.fields }))

counter_kept : (sh : Shape) (w : Words) (which v : ℕ) → WordBounds sh w → WordBounds sh (put_word (counter_at which) v w)
counter_kept sh w which v k = at_counter (λ at. WordBounds sh (put_word at v w)) which (λ i h. record { heads = k.heads; roots = k.roots; fields = k.fields }) (λ i. record { heads = k.heads; roots = k.roots; fields = k.fields })

write_kept : (sh : Shape) (w : Words) (seats : List SeatState) (s : SeatState) (step : Step) (old : ℕ) → Finds sh step old → WordBounds sh w → SeatBounds sh s → AllTrue (parts sh w seats s step) → only_reads step ≡ false → WordBounds sh (put_word (place sh s step) (written sh s step old) w)
write_kept sh w seats s (StoreLength p) old g k b ok e = record { heads = All-set (λ n. n ≤ sh.entries) w.heads p (length_in_hand s.held p) (length-fits sh.entries s.held p b.held) k.heads; roots = k.roots; fields = k.fields }
write_kept sh w seats s (StoreRoot v r) old g k b ok e = record { heads = k.heads; roots = All-set (IsReference sh) w.roots _ r (root-fits sh s r b ok.1.0) k.roots; fields = k.fields }
write_kept sh w seats s (FlushRoot v) old g k b ok e = record { heads = k.heads; roots = All-set (IsReference sh) w.roots _ (seat_variable s v) (variable-fits sh s v b.env) k.roots; fields = k.fields }
write_kept sh w seats s (StoreSlot j r) old g k b ok e = record { heads = k.heads; roots = All-set (IsReference sh) w.roots _ r (root-fits sh s r b ok.1.0) k.roots; fields = k.fields }
write_kept sh w seats s (StoreField v i x) old g k b ok e = field_kept sh w _ (variable_or_nil s x) k (or-nil-fits sh s x b.env)
write_kept sh w seats s (ExchangeField v i x y) old g k b ok e = field_kept sh w _ _ k (choose (IsReference sh) (eqb old (variable_or_nil s x)) (variable_or_nil s y) old (or-nil-fits sh s y b.env) g)
write_kept sh w seats s (StoreNew c part word) old g k b ok e = new_kept sh w s c part word k ok.1.1.0
write_kept sh w seats s (Reset which) old g k b ok e = counter_kept sh w which _ k
write_kept sh w seats s (AddStat which by down) old g k b ok e = counter_kept sh w which _ k
write_kept sh w seats s (ReadStat which) old g k b ok e = counter_kept sh w which _ k
write_kept sh w seats s (ReadLength p) old g k b ok e = absurd (true≢false e)
write_kept sh w seats s (ReadField c i) old g k b ok e = absurd (true≢false e)
write_kept sh w seats s (ReadOwn c i) old g k b ok e = absurd (true≢false e)
write_kept sh w seats s (ReadRoot section v) old g k b ok e = absurd (true≢false e)
write_kept sh w seats s (ReadCat v) old g k b ok e = absurd (true≢false e)
write_kept sh w seats s (LoadSlot section j) old g k b ok e = absurd (true≢false e)
write_kept sh w seats s (ReadSlot j) old g k b ok e = absurd (true≢false e)
write_kept sh w seats s (HoldRoot v r) old g k b ok e = absurd (true≢false e)
write_kept sh w seats s step old g k b ok e = record { heads = k.heads; roots = k.roots; fields = k.fields }

-- the words after a step
pub word-bounds : (sh : Shape) (ws : List ℕ) (seats : List SeatState) (s : SeatState) (step : Step) → WordBounds sh (words_of sh ws) → SeatBounds sh s → AllTrue (parts sh (words_of sh ws) seats s step) → IsPlace sh (place sh s step) → length ws ≡ total_words (region_sizes sh)
    → WordBounds sh (words_of sh (set ws (address sh (place sh s step)) (written sh s step (get_or ws (address sh (place sh s step)) 0))))
word-bounds sh ws seats s step k b ok h l =
    let at : ℕ × ℕ = place sh s step in
    let old : ℕ = get_or ws (address sh at) 0 in
    let P : Words → Type 0 = WordBounds sh in
    let Q : List ℕ → Type 0 = λ xs. WordBounds sh (words_of sh xs) in
    ⊎_elim
    (λ (e : only_reads step ≡ true). subst Q (sym (ap (λ v. set ws (address sh at) v) (read-written sh s step old e) ∙ set-get_or ws (address sh at) 0)) k)
    (λ (e : only_reads step ≡ false). subst P (sym (word-put sh ws at.0 at.1 (written sh s step old) l h)) (write_kept sh (words_of sh ws) seats s step old (finds sh ws s step k h l) k b ok e))
    (cases_Bool (only_reads step))

-- A rule that each seat meets for itself is kept if the seat that acts still meets it.
pub all-push : {X : Type 0} (P : X → Type 0) (xs : List X) (y : X) → All P xs → P y → All P (xs ++ y ∷ [])
all-push P [] y a h = All-cons P y [] h (All-nil P)
all-push P (x ∷ xs) y a h = All-cons P x (xs ++ y ∷ []) (All-head P x xs a) (all-push P xs y (All-tail P x xs a) h)

-- all seats meet P after a step, if they did before, and a new record does
pub local-kept : (P : SeatState → Type 0) (sh : Shape) (step : Step) (seats : List SeatState) (i : ℕ) (t : SeatState) → ((k : ℕ) → P (start_seat sh k)) → ((k : ℕ) → P (spent_seat sh k)) → All P seats → P t → All P (others_after sh step (set seats i t))
local-kept P sh Split seats i t new old a h = all-push P (set seats i t) (start_seat sh (length (set seats i t))) (All-set P seats i t h a) (new (length (set seats i t)))
local-kept P sh (Join other) seats i t new old a h = All-set P (set seats i t) other (spent_seat sh other) (old other) (All-set P seats i t h a)
local-kept P sh step seats i t new old a h = All-set P seats i t h a

-- a step that is allowed has room for what it counts
pub has-room : (sh : Shape) (w : Words) (seats : List SeatState) (s : SeatState) (step : Step) → IsShape sh → AllTrue (parts sh w seats s step) → HasRoom s step
has-room sh w seats s (Push p c) k ok = let a : length_in_hand s.held p < sh.entries = ltb-true (length_in_hand s.held p) sh.entries (and_parts (has_length s.held p) (nat_lt (length_in_hand s.held p) sh.entries) ok.1.0).1 in omega (arith, a, k.entries)
has-room sh w seats s (ReadField c i) k ok = let a : i < sh.fields = ltb-true i sh.fields (and_parts (nat_lt c sh.cells) (nat_lt i sh.fields) (and_parts (nat_lt c sh.cells && nat_lt i sh.fields) (may_read_field sh s c i) ok.0).0).1 in omega (arith, a, k.fields)
has-room sh w seats s (StoreRoot v r) k ok = ltb-true v 32 (and_parts _ _ ok.0).0
has-room sh w seats s (HoldRoot v r) k ok = ltb-true v 32 (and_parts _ _ ok.0).0
has-room sh w seats s (FlushRoot v) k ok = ltb-true v 32 (and_parts _ _ ok.0).0
has-room sh w seats s (StoreNew c part word) k ok = let a : part ≤ sh.fields + 1 = leb-true part (sh.fields + 1) (and_parts (nat_lt c sh.cells) (nat_le part (sh.fields + 1)) (and_parts (nat_lt c sh.cells && nat_le part (sh.fields + 1)) (may_mutate s) ok.0).0).1 in omega (arith, a, k.fields)
has-room sh w seats s step k ok = tt

-- a step that is allowed has a number for the object that it finishes
pub has-number : (sh : Shape) (w : Words) (seats : List SeatState) (s : SeatState) (step : Step) → IsShape sh → AllTrue (parts sh w seats s step) → HasNumber sh s step
has-number sh w seats s (StoreNew c part word) k ok = λ h. omega (arith, k.objects, fits-made sh s part word h ok.1.1.0)
has-number sh w seats s step k ok = tt

-- a split that is allowed finds fewer than all seats
split_room : (sh : Shape) (w : Words) (seats : List SeatState) (s : SeatState) (step : Step) → AllTrue (parts sh w seats s step) → step ≡ Split → length seats < 41
split_room sh w seats s Split ok e = ltb-true _ _ (and_parts _ _ ok.0).1
split_room sh w seats s step ok e = absurd (cc)

pub count-after : (sh : Shape) (w : Words) (seats ts : List SeatState) (s : SeatState) (step : Step) → length ts ≡ length seats → (1 ≤ length seats) × (length seats ≤ 41) → AllTrue (parts sh w seats s step) → (1 ≤ length (others_after sh step ts)) × (length (others_after sh step ts) ≤ 41)
count-after sh w seats ts s Split l k ok = let few : length seats < 41 = split_room sh w seats s Split ok refl in rw length-append (omega (arith, l), omega (arith, l, few))
count-after sh w seats ts s (Join other) l k ok = rw (length-set, l) k
count-after sh w seats ts s step l k ok = rw l k

cached_fits : (sh : Shape) (o : Option CacheState) → IsShape sh → IfSome o (CacheFits sh) → unwrap_or (cache_block o) 0 < block_count sh
cached_fits sh None k h = omega (arith, k.cells)
cached_fits sh (Some x) k h = h.0

in_range : (sh : Shape) (s : SeatState) → IsShape sh → SeatBounds sh s → InRange sh s
in_range sh s k b =
    record {
      shaped = k;
      section = b.section;
      lengths = λ p h. length-fits sh.entries s.held p b.held;
      env = λ v. variable-fits sh s v b.env;
      cache = cached_fits sh s.cache k b.cache;
      block = block-below sh s.block k b.block;
    }

-- what an event that is allowed may rely on
pub record Ready (c : Core) (e : Event) (s : SeatState) : Type 0 where
  pub seat : e.seat < length c.seats
  pub within : address c.shape (place c.shape s e.step) < length c.words
  pub room : HasRoom s e.step
  pub number : HasNumber c.shape s e.step
  pub split : e.step ≡ Split → length c.seats < 41
  pub after : after_event c e ≡ after_of c e.seat (Some s) e.step
  pub bounded : IsBounded (after_of c e.seat (Some s) e.step)

seat_in : (c : Core) (i : ℕ) (step : Step) (o : Option SeatState) → slice_get c.seats i ≡ o → failing_of c o step ≡ None → i < length c.seats
seat_in c i step None e f = absurd (some_none 0 f)
seat_in c i step (Some s) e f = slice_get_within c.seats i s e

-- the seat of an event that is allowed exists
pub seat-within : (c : Core) (e : Event) → failing_part c e ≡ None → e.seat < length c.seats
seat-within c e f = seat_in c e.seat e.step (slice_get c.seats e.seat) refl f

not_spent : (b : Bool) (o : Option ℕ) → cond b (Some 0) o ≡ None → o ≡ None
not_spent true o e = absurd (some_none 0 e)
not_spent false o e = e

pub ready : (c : Core) (e : Event) (s : SeatState) → IsBounded c → failing_part c e ≡ None → s ≡ get_or c.seats e.seat s → Ready c e s
ready c e s k f is =
    let hi : e.seat < length c.seats = seat-within c e f in
    let got : slice_get c.seats e.seat ≡ Some s = slice_get_read c.seats (length c.seats) e.seat s refl hi is in
    let P : Option SeatState → Type 0 = λ o. failing_of c o e.step ≡ None in
    let w : Words = words_of c.shape c.words in
    let ok : AllTrue (parts c.shape w c.seats s e.step) = parts_hold 1 _ (not_spent s.spent _ (subst P got f)) in
    let Q : SeatState → Type 0 = SeatBounds c.shape in
    let b : SeatBounds c.shape s = subst Q (sym is) (All-get_or Q c.seats e.seat s hi k.seats) in
    let at : IsPlace c.shape (place c.shape s e.step) = placed c.shape w c.seats s e.step (in_range c.shape s k.shaped b) ok in
    record {
      seat = hi;
      within = rw k.word_count (address-lt-total (region_sizes c.shape) (place c.shape s e.step).0 (place c.shape s e.step).1 at);
      room = has-room c.shape w c.seats s e.step k.shaped ok;
      number = has-number c.shape w c.seats s e.step k.shaped ok;
      split = split_room c.shape w c.seats s e.step ok;
      after = ap (λ o. after_of c e.seat o e.step) got;
      bounded = record {
        shaped = k.shaped;
        word_count = length-set c.words _ _ ∙ k.word_count;
        words = word-bounds c.shape c.words c.seats s e.step k.words b ok at k.word_count;
        seat_count = count-after c.shape w c.seats _ s e.step (length-set c.seats _ _) k.seat_count ok;
        seats = local-kept Q c.shape e.step c.seats e.seat _ (λ n. start-bounds c.shape n k.shaped) (λ n. spent-bounds c.shape n k.shaped) k.seats (seat-bounds c.shape w c.seats s e.step _ k.shaped b ok (finds c.shape c.words s e.step k.words at k.word_count));
      };
    }

abbrev pub core_of : Shape → List ℕ → List SeatState → Core
core_of sh ws seats = record { shape = sh; words = ws; seats = seats }

-- the state that the writes leave is the one after the event
pub done : (c : Core) (e : Event) (s t : SeatState) (at old word : ℕ) (others : List SeatState) → Ready c e s → s ≡ get_or c.seats e.seat s → at ≡ address c.shape (place c.shape s e.step) → old ≡ get_or c.words at old
    → word ≡ written c.shape s e.step old → t ≡ seat_after c.shape s e.step old → others ≡ others_after c.shape e.step (set c.seats e.seat t) → core_of c.shape (set c.words at word) others ≡ after_of c e.seat (Some s) e.step
done c e s t at old word others r is ha ho hw ht hs =
    let inside : at < length c.words = rw ha r.within in
    let found : old ≡ get_or c.words at 0 = get_or_read c.words at old inside ho 0 in
    rw (hs, ht, hw, found, ha) refl

-- a number that a step stores fits a word if what is stored does
pub numbers-fit : (sh : Shape) (s : SeatState) (step : Step) (old word : ℕ) → word ≡ written sh s step old → word < 18446744073709551616 → HasValue step → NumbersFit step
numbers-fit sh s (StorePosition done) old word e h v = subst (λ (n : ℕ). n < 18446744073709551616) e h
numbers-fit sh s (StoreValue v n) old word e h b = b
numbers-fit sh s step old word e h v = tt

-- what refuses an event of a seat that doesn't exist, or of one that was joined into another
pub failing_past : (c : Core) (e : Event) → length c.seats ≤ e.seat → Some 0 ≡ failing_part c e
failing_past c e h = rw (slice_get_past c.seats e.seat h) refl

pub failing_spent : (c : Core) (e : Event) (s : SeatState) → e.seat < length c.seats → s ≡ get_or c.seats e.seat s → s.spent ≡ true → Some 0 ≡ failing_part c e
failing_spent c e s h is spent = let got : slice_get c.seats e.seat ≡ Some s = slice_get_read c.seats (length c.seats) e.seat s refl h is in rw got (rw spent refl)

-- otherwise it is the first part that fails
pub failing_at : (c : Core) (e : Event) (s : SeatState) (r : Option ℕ) → e.seat < length c.seats → s ≡ get_or c.seats e.seat s → s.spent ≡ false → r ≡ first_false 1 (parts c.shape (words_of c.shape c.words) c.seats s e.step) → r ≡ failing_part c e
failing_at c e s r h is live f =
    let got : slice_get c.seats e.seat ≡ Some s = slice_get_read c.seats (length c.seats) e.seat s refl h is in
    let rest : Option ℕ = first_false 1 (parts c.shape (words_of c.shape c.words) c.seats s e.step) in
    f ∙ sym (ap (λ (b : Bool). cond b (Some 0) rest) live) ∙ sym (ap (λ o. failing_of c o e.step) got)
