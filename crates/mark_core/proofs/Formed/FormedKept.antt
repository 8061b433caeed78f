-- Each event that is allowed, and whose numbers fit their types, leaves a state whose words and records are in range.
use Rattle.std.proofs.lemmas.Bool.{and_parts, ltb-true}
use Rattle.mark_core.proofs.Writing.SeatBoundsKept.{choose, reference-fits}
use Rattle.mark_core.specs.Steps.MutatorSteps.{seat_variable, fits_part}
use Rattle.mark_core.specs.Seats.{may_mutate}
use Rattle.mark_core.specs.Bits.{cell_of}
use Rattle.mark_core.specs.Numbers.{value_bound}
use Rattle.std.proofs.Common.{ℕ, ◌≡◌, ◌<◌, ◌≤◌, get_or, length, arith, refl, sym, ap, ◌∙◌, subst, Option, Some, None, eqb, cond, ◌&&◌, true}
use Rattle.std.specs.Prelude.{IfSome, slice_get, slice_index, nat_lt}
use Rattle.std.specs.List.{All}
use Rattle.std.proofs.lemmas.List.{length-set}
use Rattle.std.proofs.lemmas.List.Elements.{All-get_or, All-set}
use Rattle.std.proofs.lemmas.Option.{IfSome_then, slice_get_within}
use Rattle.mark_core.specs.Layout.{Words, words_of, address, region_sizes, block_count, card_count, put_word}
use Rattle.mark_core.specs.Views.{makers}
use Rattle.mark_core.specs.Rules.HeapRules.{NamesInUse}
use Rattle.mark_core.specs.Parts.{parts}
use Rattle.mark_core.specs.Effects.{place, written, seat_after}
use Rattle.mark_core.specs.Steps.{Core, AllTrue, failing_part, after_of, after_event}
use Rattle.mark_core.specs.WellFormed.{IsCache, IsSeat, IsWellFormed}
use Rattle.mark_core.specs.Strong.{IsStrongSeat, IsStrongBlock}
use Rattle.mark_core.specs.Bounds.{IsReference, CacheFits, IsStretch}
use Rattle.mark_core.specs.Laws.{IsCore, NumbersFit}
use Rattle.mark_core.proofs.Writing.Places.{word-put, region-length, words-get}
use Rattle.mark_core.proofs.Writing.Ranges.{IsPlace, placed, either}
use Rattle.mark_core.proofs.Known.{Acted, found, words_left, in_range, acts, used-below}
use Rattle.mark_core.proofs.Writing.Writes.{phase-kept, at_counter}
use Rattle.mark_core.proofs.Writing.RegionWrites.{cards-kept}
use Rattle.mark_core.proofs.Doing.{count-after}
use Rattle.mark_core.proofs.Formed.FormedLearns.{one-of, one-read, each-kept, learns, goes-within}
use Rattle.mark_core.proofs.Formed.FormedSeats.{seat-kept, new-seat, ended-seat}
use Rattle.mark_core.proofs.Formed.FormedWords.{IsWord, word-in, KeepsBits, Writer, phase-fits, written-fits}
use Rattle.mark_core.specs.declared.kinds.Shape.{Shape}
use Rattle.mark_core.specs.declared.kinds.Event.{Event}
use Rattle.mark_core.specs.declared.kinds.Step.{Step}
use Rattle.mark_core.specs.declared.kinds.Step.TheVariants.{DirtyCard, ClearCard, ReadCard, WipeCard, ReadPhase, StorePhase, ReadValue, StoreValue, StoreNew, Reset, AddStat, ReadStat, ExchangeValue, CheckCard}
use Rattle.mark_core.specs.declared.seat.SeatState.{SeatState}
use Rattle.mark_core.specs.declared.seat.CacheState.{CacheState}
use Rattle.mark_core.specs.declared.seat.BlockState.{BlockState}

-- the last used cell exists
last_exists : (c : Core) (x : CacheState) → IsWellFormed c → IsCache c.shape x → CacheFits c.shape x
last_exists c x k a = (a.block, IfSome_then x.last a.last (λ d e. used-below c.shape (Some x) d k.shaped a e))

-- the bits that a seat keeps of its block are those of the words
bits_kept : (c : Core) (x : BlockState) → IsCore c → IsStretch c.shape x → IsStrongBlock (words_of c.shape c.words).phase (words_of c.shape c.words).next_block (words_of c.shape c.words).allocs (words_of c.shape c.words).marks x → KeepsBits x
bits_kept c x k h b e =
    let w : Words = words_of c.shape c.words in
    let low : x.block < block_count c.shape = omega (arith, h.0, h.1) in
    let word : get_or w.allocs x.block 0 ≡ get_or c.words (address c.shape (4, x.block)) 0 = sym (words-get (region_sizes c.shape) 4 c.words x.block 0 low) in
    let fits : IsWord (slice_index w.allocs x.block) = rw word (word-in c.words _ k.formed.words_in_range) in
    IfSome_then x.alloc_word (b.alloc_kept e) (λ n f. subst IsWord f fits)

block_keeps : (c : Core) (o : Option BlockState) → IsCore c → IfSome o (IsStretch c.shape) → IfSome o (IsStrongBlock (words_of c.shape c.words).phase (words_of c.shape c.words).next_block (words_of c.shape c.words).allocs (words_of c.shape c.words).marks) → IfSome o KeepsBits
block_keeps c None k h b = tt
block_keeps c (Some x) k h b = bits_kept c x k h b

-- what the seat that acts says of the words that it writes
writer : (c : Core) (i : ℕ) (s : SeatState) → IsCore c → slice_get c.seats i ≡ Some s → Writer c.shape s
writer c i s k g =
    let w : Words = words_of c.shape c.words in
    let a : IsSeat c.shape i s = k.formed.seats i s g in
    let names : NamesInUse w.allocs (makers c.seats) s = one-of (NamesInUse w.allocs (makers c.seats)) c.seats i s g k.sound.references.seats_in_use in
    let env : All (IsReference c.shape) s.env = λ j d h. goes-within c (get_or s.env j d) k.formed (names.0 j d h) in
    let cache : IfSome s.cache (CacheFits c.shape) = IfSome_then s.cache a.cache (λ x y. last_exists c x k.formed y) in
    let strong = one-read (λ (t : SeatState). t.block) (λ b. IfSome b (IsStrongBlock w.phase w.next_block w.allocs w.marks)) c.seats i s g k.strong.blocks_strong in
    record {
      range = in_range c i s k g;
      number = omega (arith, a.number, slice_get_within c.seats i s g, k.formed.seat_count.1);
      made = a.made;
      references = λ r e. reference-fits c.shape s r env (goes-within c s.got k.formed names.1) cache e;
      cache = a.cache;
      block = block_keeps c s.block k a.block strong;
    }

phase_at : (c : Core) (s : SeatState) (step : Step) → IsCore c → (words_left c s step).phase ≤ 5
phase_at c s ReadPhase k = k.formed.phase
phase_at c s (StorePhase to) k = phase-fits (words_of c.shape c.words).phase to k.formed.phase
phase_at c s step k = rw (phase-kept c.shape s step (written c.shape s step (found c s step)) (words_of c.shape c.words) refl) k.formed.phase

-- a card's word
abbrev IsFlag : ℕ → Type 0
IsFlag n = n ≤ 1

flag_found : (c : Core) (card : ℕ) → IsCore c → card < card_count c.shape → IsFlag (slice_index c.words (address c.shape (6, card)))
flag_found c card k h =
    let w : Words = words_of c.shape c.words in
    let long : card < length w.cards = omega (arith, h, region-length (region_sizes c.shape) 6 c.words (omega (arith, k.formed.words))) in
    let word : get_or w.cards card 0 ≡ slice_index c.words (address c.shape (6, card)) = sym (words-get (region_sizes c.shape) 6 c.words card 0 h) in
    subst IsFlag word (All-get_or IsFlag w.cards card 0 long k.formed.cards)

cards_at : (c : Core) (s : SeatState) (step : Step) → IsCore c → IsPlace c.shape (place c.shape s step) → All IsFlag (words_left c s step).cards
cards_at c s (DirtyCard card) k h = All-set IsFlag (words_of c.shape c.words).cards card 1 (omega arith) k.formed.cards
cards_at c s (ClearCard card) k h = All-set IsFlag (words_of c.shape c.words).cards card 0 (omega arith) k.formed.cards
cards_at c s (WipeCard card) k h = All-set IsFlag (words_of c.shape c.words).cards card 0 (omega arith) k.formed.cards
cards_at c s (ReadCard card) k h = All-set IsFlag (words_of c.shape c.words).cards card (found c s (ReadCard card)) (flag_found c card k h) k.formed.cards
cards_at c s (CheckCard card) k h = All-set IsFlag (words_of c.shape c.words).cards card (found c s (CheckCard card)) (flag_found c card k h) k.formed.cards
cards_at c s step k h = rw (cards-kept c.shape s step (written c.shape s step (found c s step)) (words_of c.shape c.words) refl) k.formed.cards

-- a value
abbrev IsValue : ℕ → Type 0
IsValue n = n < value_bound

-- the value that a step finds in a cell
value_found : (c : Core) (x : ℕ) → IsCore c → x < c.shape.cells → IsValue (slice_index c.words (address c.shape (10, x)))
value_found c x k h =
    let w : Words = words_of c.shape c.words in
    let long : x < length w.values = omega (arith, h, region-length (region_sizes c.shape) 10 c.words (omega (arith, k.formed.words))) in
    let word : get_or w.values x 0 ≡ slice_index c.words (address c.shape (10, x)) = sym (words-get (region_sizes c.shape) 10 c.words x 0 h) in
    subst IsValue word (All-get_or IsValue w.values x 0 long k.formed.values)

values_at : (c : Core) (s : SeatState) (step : Step) → IsCore c → NumbersFit step → AllTrue (parts c.shape (words_of c.shape c.words) c.seats s step) → IsPlace c.shape (place c.shape s step) → All IsValue (words_left c s step).values
values_at c s (StoreValue v m) k n ok h = All-set IsValue (words_of c.shape c.words).values (cell_of (seat_variable s v)) m n k.formed.values
values_at c s (ExchangeValue v m q) k n ok h =
    let x : ℕ = cell_of (seat_variable s v) in
    let old : ℕ = found c s (ExchangeValue v m q) in
    let below : IsValue q = ltb-true q value_bound (and_parts (nat_lt v 32) (nat_lt q value_bound) (and_parts (nat_lt v 32 && nat_lt q value_bound) (may_mutate s) ok.0).0).1 in
    All-set IsValue (words_of c.shape c.words).values x (cond (eqb old m) q old) (choose IsValue (eqb old m) q old below (value_found c x k h)) k.formed.values
values_at c s (ReadValue x) k n ok h = All-set IsValue (words_of c.shape c.words).values x (found c s (ReadValue x)) (value_found c x k h) k.formed.values
values_at c s (StoreNew x part word) k n ok h =
    let w : Words = words_of c.shape c.words in
    either
    (λ at. All IsValue (put_word at word w).values)
    (nat_lt part c.shape.fields)
    _
    _
    (λ e. k.formed.values)
    (λ e.
    either
    (λ at. All IsValue (put_word at word w).values)
    (eqb part c.shape.fields)
    _
    _
    (λ g.
    let f : fits_part c.shape s part word ≡ true = ok.1.1.0 in
    let below : nat_lt word value_bound ≡ true = rw (e, g) at f in
    All-set IsValue w.values x word (ltb-true word value_bound below) k.formed.values)
    (λ g. k.formed.values))
values_at c s (Reset which) k n ok h = at_counter (λ at. All IsValue (put_word at (written c.shape s (Reset which) (found c s (Reset which))) (words_of c.shape c.words)).values) which (λ i g. k.formed.values) (λ i. k.formed.values)
values_at c s (AddStat which by down) k n ok h =
    at_counter (λ at. All IsValue (put_word at (written c.shape s (AddStat which by down) (found c s (AddStat which by down))) (words_of c.shape c.words)).values) which (λ i g. k.formed.values) (λ i. k.formed.values)
values_at c s (ReadStat which) k n ok h = at_counter (λ at. All IsValue (put_word at (written c.shape s (ReadStat which) (found c s (ReadStat which))) (words_of c.shape c.words)).values) which (λ i g. k.formed.values) (λ i. k.formed.values)
values_at c s step k n ok h = k.formed.values

formed_at : (c : Core) (i : ℕ) (s : SeatState) (step : Step) → IsCore c → NumbersFit step → slice_get c.seats i ≡ Some s → AllTrue (parts c.shape (words_of c.shape c.words) c.seats s step) → IsWellFormed (after_of c i (Some s) step)
formed_at c i s step k n g ok =
    let sh : Shape = c.shape in
    let w : Words = words_of sh c.words in
    let at : IsPlace sh (place sh s step) = placed sh w c.seats s step (in_range c i s k g) ok in
    let after : words_of sh (after_of c i (Some s) step).words ≡ words_left c s step = word-put sh c.words (place sh s step).0 (place sh s step).1 (written sh s step (found c s step)) k.formed.words at in
    let word : IsWord (written sh s step (found c s step)) = written-fits sh w c.seats s step (found c s step) (writer c i s k g) n ok (word-in c.words _ k.formed.words_in_range) in
    let facts : IsStrongSeat sh s = one-of (IsStrongSeat sh) c.seats i s g k.strong.seats_strong in
    record {
      shaped = k.formed.shaped;
      words = length-set c.words _ _ ∙ k.formed.words;
      words_in_range = All-set IsWord c.words (address sh (place sh s step)) (written sh s step (found c s step)) word k.formed.words_in_range;
      phase = subst (λ (x : Words). x.phase ≤ 5) (sym after) (phase_at c s step k);
      cards = subst (λ (x : Words). All IsFlag x.cards) (sym after) (cards_at c s step k at);
      values = subst (λ (x : Words). All IsValue x.values) (sym after) (values_at c s step k n ok at);
      seat_count = count-after sh w c.seats _ s step (length-set c.seats _ _) k.formed.seat_count ok;
      seats = each-kept (IsSeat sh) sh step c.seats i (seat_after sh s step (found c s step)) (new-seat sh) (ended-seat sh) k.formed.seats
          (seat-kept sh w c.seats i s step (found c s step) k.formed.shaped (k.formed.seats i s g) (in_range c i s k g).env facts.made_from_free (learns c i s step k g ok) ok);
    }

-- each event that is allowed keeps words and records in range
pub formed-kept_by : (c : Core) (e : Event) → IsCore c → NumbersFit e.step → failing_part c e ≡ None → IsWellFormed (after_event c e)
formed-kept_by c e k n f =
    let r : (s : SeatState) × Acted c e s = acts c e k f in
    let a : Acted c e r.0 = r.1 in
    let after : after_event c e ≡ after_of c e.seat (Some r.0) e.step = ap (λ o. after_of c e.seat o e.step) a.seat in
    subst IsWellFormed (sym after) (formed_at c e.seat r.0 e.step k n a.seat a.ok)
