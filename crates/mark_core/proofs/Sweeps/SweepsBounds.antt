-- The counters of blocks and of cards never run far past their ends: kept by each step that is allowed.
use Rattle.std.proofs.Common.{ℕ, ◌≡◌, ◌+◌, ◌*◌, ◌%◌, ◌<◌, ◌≤◌, List, set, get_or, length, arith, refl, sym, ap, ◌∙◌, Bool, true, false, cond, eqb, ◌⊎◌, inl, inr, ⊎_elim}
use Rattle.std.specs.Prelude.{nat_lt, nat_le}
use Rattle.std.specs.List.{count_by}
use Rattle.std.proofs.lemmas.Bool.{cases_Bool, cases_lt, and_parts, ltb-true, leb-true, eqb-true, ne_eqb}
use Rattle.std.proofs.Math.Nat.{mul-add}
use Rattle.std.proofs.lemmas.Nat.{mul-le}
use Rattle.std.proofs.lemmas.List.{length-set, set_past}
use Rattle.std.proofs.lemmas.List.Sums.{sum_by-set, sum_by_push, count_by-le-length}
use Rattle.mark_core.specs.Layout.{Words, words_of, put_word, block_count, card_count}
use Rattle.mark_core.specs.Places.{counter_at}
use Rattle.mark_core.specs.Sound.{card_readers, block_readers}
use Rattle.mark_core.specs.Start.{start_seat, spent_seat}
use Rattle.mark_core.specs.Effects.{written, seat_after}
use Rattle.mark_core.specs.Steps.{Core, others_after}
use Rattle.mark_core.proofs.Known.{found, words_left, seats_left}
use Rattle.mark_core.proofs.Writing.Frames.{readings-kept}
use Rattle.mark_core.proofs.Writing.Writes.{at_counter, next_card-kept, next_block-kept}
use Rattle.mark_core.proofs.Count.CountMoves.{bit}
use Rattle.mark_core.proofs.Blocks.BlocksStopped.{Taken, within, own-record, words-read}
use Rattle.mark_core.proofs.Blocks.BlocksWords.{statistic}
use Rattle.mark_core.specs.declared.kinds.Shape.{Shape}
use Rattle.mark_core.specs.declared.kinds.Step.{Step}
use Rattle.mark_core.specs.declared.kinds.Step.TheVariants.{NextBlock, NextOfCards, Reset, AddStat, ReadStat, Split, Join}
use Rattle.mark_core.specs.declared.seat.SeatState.{SeatState}
use Rattle.mark_core.specs.Numbers.{block_counter, card_counter, done_count, last_count, most_seats}

-- no further seat passes a test that neither a new record nor an ended one does
others_pass : (f : SeatState → Bool) (sh : Shape) (step : Step) (seats : List SeatState) → ((k : ℕ) → f (start_seat sh k) ≡ false) → ((k : ℕ) → f (spent_seat sh k) ≡ false) → count_by f (others_after sh step seats) ≤ count_by f seats
others_pass f sh Split seats new old =
    let k : ℕ = length seats in
    omega (arith, sum_by_push (λ (x : SeatState). bit (f x)) seats (start_seat sh k), ap bit (new k))
others_pass f sh (Join other) seats new old =
    ⊎_elim
    (λ (h : other < length seats). omega (arith, sum_by-set (λ (x : SeatState). bit (f x)) seats other (spent_seat sh other) (spent_seat sh other) h, ap bit (old other)))
    (λ (h : length seats ≤ other). omega (arith, ap (count_by f) (set_past seats other (spent_seat sh other) h)))
    (cases_lt other (length seats))
others_pass f sh step seats new old = omega arith

-- this many times u
units : (u a b m n : ℕ) → a + b ≡ m + n → u * a + u * b ≡ u * m + u * n
units u a b m n e = sym (mul-add u a b) ∙ (ap (λ k. u * k) e ∙ mul-add u m n)

units-grow : (u a b : ℕ) → a ≤ b → u * a ≤ u * b
units-grow u a b h = mul-le u a u b (omega arith) h

-- what a step may do to a counter, which is raised by u at most at a time, and to its seat's reading
bound_kept : (u : ℕ) (f : SeatState → Bool) (sh : Shape) (step : Step) (seats : List SeatState) (i : ℕ) (s t : SeatState) (n m b : ℕ) → ((k : ℕ) → f (start_seat sh k) ≡ false) → ((k : ℕ) → f (spent_seat sh k) ≡ false) → i < length seats → get_or seats i s ≡ s
    → n + u * count_by f seats ≤ b → m + u * bit (f t) ≤ n + u * bit (f s) → m + u * count_by f (others_after sh step (set seats i t)) ≤ b
bound_kept u f sh step seats i s t n m b new old h is few less =
    let moved : count_by f (set seats i t) + bit (f s) ≡ count_by f seats + bit (f t) = rw is at (sum_by-set (λ (x : SeatState). bit (f x)) seats i t s h) in
    let all = units u (count_by f (set seats i t)) (bit (f s)) (count_by f seats) (bit (f t)) moved in
    let fewer = units-grow u (count_by f (others_after sh step (set seats i t))) (count_by f (set seats i t)) (others_pass f sh step (set seats i t) new old) in
    omega (arith, fewer, all, few, less)

-- a seat that reads a counter below its end may raise it
reading_kept : (u : ℕ) (f : SeatState → Bool) (seats : List SeatState) (i : ℕ) (s t : SeatState) (n b : ℕ) → i < length seats → get_or seats i s ≡ s → length seats ≤ 41 → n + u * count_by f seats ≤ b + u * 41 → (f t ≡ true → (n < b) ⊎ (f s ≡ true)) → n + u * count_by f (set seats i t) ≤ b + u * 41
reading_kept u f seats i s t n b h is few k reads =
    let moved : count_by f (set seats i t) + bit (f s) ≡ count_by f seats + bit (f t) = rw is at (sum_by-set (λ (x : SeatState). bit (f x)) seats i t s h) in
    ⊎_elim
    (λ (e : f t ≡ true).
    ⊎_elim
    (λ (l : n < b). let fewer = units-grow u (count_by f (set seats i t)) 41 (omega (arith, k, count_by-le-length f (set seats i t), length-set seats i t)) in omega (arith, l, fewer))
    (λ (g : f s ≡ true). let fewer = units-grow u (count_by f (set seats i t)) (count_by f seats) (omega (arith, moved, ap bit e, ap bit g)) in omega (arith, few, fewer))
    (reads e))
    (λ (e : f t ≡ false). let fewer = units-grow u (count_by f (set seats i t)) (count_by f seats) (omega (arith, moved, ap bit e)) in omega (arith, few, fewer))
    (cases_Bool (f t))

-- a reading that was just made, or one that stays
chosen : (e b d : Bool) → cond e b d ≡ true → ((e ≡ true) × (b ≡ true)) ⊎ (d ≡ true)
chosen true b d h = inl (refl, h)
chosen false b d h = inr h

-- a counter that is reset doesn't grow
reset_one : (b : Bool) (n : ℕ) → cond b 0 n ≤ n
reset_one true n = omega arith
reset_one false n = omega arith

no_word : (w : Words) (which v : ℕ) → last_count ≤ which → which ≤ done_count → ((put_word (counter_at which) v w).next_card ≡ w.next_card) × ((put_word (counter_at which) v w).next_block ≡ w.next_block)
no_word w which v h g =
    let none = λ (k : ℕ) (l : k ≤ 5). ne_eqb (4 + which) k (λ e. omega (arith, h, l, e)) in
    statistic (λ at. ((put_word at v w).next_card ≡ w.next_card) × ((put_word at v w).next_block ≡ w.next_block)) which h g (rw (none 3 (omega arith)) refl, rw (none 4 (omega arith)) refl)

-- what is added to a statistic goes to neither counter
adds_elsewhere : (c : Core) (i : ℕ) (s : SeatState) (which by : ℕ) (down : Bool) → Taken c i s (AddStat which by down)
    → ((words_left c s (AddStat which by down)).next_card ≡ (words_of c.shape c.words).next_card) × ((words_left c s (AddStat which by down)).next_block ≡ (words_of c.shape c.words).next_block)
adds_elsewhere c i s which by down t =
    let range = and_parts (nat_le last_count which) (nat_le which done_count) (and_parts _ _ t.ok.0).0 in
    no_word (words_of c.shape c.words) which (written c.shape s (AddStat which by down) (found c s (AddStat which by down))) (leb-true last_count which range.0) (leb-true which done_count range.1)

-- a counter that hands out blocks or cards: by how much it is raised, its number, its word, its end, and the seats that read it below that
record Counter : Type 0 where
  unit : Shape → ℕ
  number : ℕ
  word : Words → ℕ
  end : Shape → ℕ
  below : SeatState → Bool

-- the counter of blocks
abbrev of_blocks : Counter
of_blocks = record { unit = λ sh. sh.stretch; number = block_counter; word = λ w. w.next_block; end = block_count; below = λ s. s.below_block }

-- the counter of cards
abbrev of_cards : Counter
of_cards = record { unit = λ sh. 1; number = card_counter; word = λ w. w.next_card; end = card_count; below = λ s. s.below_card }

-- no seat is new or spent with a reading of this counter
abbrev IsUnreadAtFirst : Counter → Type 0
IsUnreadAtFirst q = (sh : Shape) (k : ℕ) → (q.below (start_seat sh k) ≡ false) × (q.below (spent_seat sh k) ≡ false)

-- before the step the counter, with a raise for each seat that has read it below its end, is past its end by 41 raises at most
abbrev IsBounded : Counter → Core → Type 0
IsBounded q c = q.word (words_of c.shape c.words) + q.unit c.shape * count_by q.below c.seats ≤ q.end c.shape + q.unit c.shape * 41

-- after the step the counter, with a raise for each seat that has read it below its end, is past its end by 41 raises at most
abbrev StaysBounded : Counter → Core → ℕ → SeatState → Step → Type 0
StaysBounded q c i s step = q.word (words_left c s step) + q.unit c.shape * count_by q.below (seats_left c i s step) ≤ q.end c.shape + q.unit c.shape * 41

-- a step that lets the counter and its seat's reading together not grow
stays_by : (q : Counter) → IsUnreadAtFirst q → (c : Core) (i : ℕ) (s : SeatState) (step : Step) → Taken c i s step → IsBounded q c → q.word (words_left c s step) + q.unit c.shape * bit (q.below (seat_after c.shape s step (found c s step))) ≤ q.word (words_of c.shape c.words) + q.unit c.shape * bit (q.below s) → StaysBounded q c i s step
stays_by q first c i s step t bounded less =
    bound_kept (q.unit c.shape) q.below c.shape step c.seats i s (seat_after c.shape s step (found c s step)) (q.word (words_of c.shape c.words)) (q.word (words_left c s step)) (q.end c.shape + q.unit c.shape * 41) (λ k. (first c.shape k).0) (λ k. (first c.shape k).1)
    (within c i s step t) (own-record c i s step s t) bounded less

-- a step that reads the counter
stays_read : (q : Counter) (c : Core) (i : ℕ) (s : SeatState) (which : ℕ) → Taken c i s (ReadStat which) → IsBounded q c → found c s (ReadStat q.number) ≡ q.word (words_of c.shape c.words)
    → q.below (seat_after c.shape s (ReadStat which) (found c s (ReadStat which))) ≡ cond (eqb which q.number) (nat_lt (found c s (ReadStat which)) (q.end c.shape)) (q.below s) → StaysBounded q c i s (ReadStat which)
stays_read q c i s which t bounded there reads =
    let old : ℕ = found c s (ReadStat which) in
    let same = ap q.word (words-read c i s (ReadStat which) t refl) in
    let kept = reading_kept (q.unit c.shape) q.below c.seats i s (seat_after c.shape s (ReadStat which) old) (q.word (words_of c.shape c.words)) (q.end c.shape) (within c i s (ReadStat which) t) (own-record c i s (ReadStat which) s t) t.core.formed.seat_count.1 bounded
    (λ e.
    ⊎_elim
    (λ a.
    let here : old ≡ q.word (words_of c.shape c.words) = ap (λ k. found c s (ReadStat k)) (eqb-true which q.number a.0) ∙ there in
    inl (omega (arith, here, ltb-true old (q.end c.shape) a.1)))
    (λ (a : q.below s ≡ true). inr a)
    (chosen (eqb which q.number) (nat_lt old (q.end c.shape)) (q.below s) (sym reads ∙ e))) in
    omega (arith, same, kept)

blocks_by : (c : Core) (i : ℕ) (s : SeatState) (step : Step) → Taken c i s step → (words_left c s step).next_block + c.shape.stretch * bit (seat_after c.shape s step (found c s step)).below_block ≤ (words_of c.shape c.words).next_block + c.shape.stretch * bit s.below_block → StaysBounded of_blocks c i s step
blocks_by c i s step t less = stays_by of_blocks (λ sh k. (refl, refl)) c i s step t t.core.sound.sweeping.blocks_bounded less

pub blocks-bounded : (c : Core) (i : ℕ) (s : SeatState) (step : Step) → Taken c i s step → (words_left c s step).next_block + c.shape.stretch * block_readers (seats_left c i s step) ≤ block_count c.shape + c.shape.stretch * most_seats
blocks-bounded c i s NextBlock t =
    let n : ℕ = (words_of c.shape c.words).next_block in
    let m : ℕ = n + c.shape.stretch in
    let room : m % 18446744073709551616 ≡ m = omega (arith, t.core.sound.sweeping.blocks_bounded, t.core.formed.shaped.cells, t.core.formed.shaped.stretch) in
    let one = ap (λ (b : Bool). c.shape.stretch * bit b) t.ok.1.1.0 in
    blocks_by c i s NextBlock t (omega (arith, room, one))
blocks-bounded c i s (Reset which) t =
    let w : Words = words_of c.shape c.words in
    let less : (put_word (counter_at which) 0 w).next_block ≤ w.next_block = at_counter (λ at. (put_word at 0 w).next_block ≤ w.next_block) which (λ j h. reset_one (eqb j 4) w.next_block) (λ j. omega arith) in
    blocks_by c i s (Reset which) t (omega (arith, less))
blocks-bounded c i s (AddStat which by down) t = blocks_by c i s (AddStat which by down) t (omega (arith, (adds_elsewhere c i s which by down t).1))
blocks-bounded c i s (ReadStat which) t = stays_read of_blocks c i s which t t.core.sound.sweeping.blocks_bounded refl refl
blocks-bounded c i s NextOfCards t = blocks_by c i s NextOfCards t (omega arith)
blocks-bounded c i s step t =
    let same = next_block-kept c.shape s step (written c.shape s step (found c s step)) (words_of c.shape c.words) refl in
    let reads = ap (λ (x : Bool × Bool). c.shape.stretch * bit x.1) (readings-kept c.shape s step (found c s step) refl) in
    blocks_by c i s step t (omega (arith, same, reads))

cards_by : (c : Core) (i : ℕ) (s : SeatState) (step : Step) → Taken c i s step → (words_left c s step).next_card + bit (seat_after c.shape s step (found c s step)).below_card ≤ (words_of c.shape c.words).next_card + bit s.below_card → StaysBounded of_cards c i s step
cards_by c i s step t less = let bounded = t.core.sound.sweeping.cards_bounded in stays_by of_cards (λ sh k. (refl, refl)) c i s step t (omega (arith, bounded)) (omega (arith, less))

cards_bounded : (c : Core) (i : ℕ) (s : SeatState) (step : Step) → Taken c i s step → StaysBounded of_cards c i s step
cards_bounded c i s NextOfCards t =
    let n : ℕ = (words_of c.shape c.words).next_card in
    let room : (n + 1) % 18446744073709551616 ≡ n + 1 = omega (arith, t.core.sound.sweeping.cards_bounded, t.core.formed.shaped.cells) in
    cards_by c i s NextOfCards t (omega (arith, room, ap bit t.ok.1.0))
cards_bounded c i s (Reset which) t =
    let w : Words = words_of c.shape c.words in
    let less : (put_word (counter_at which) 0 w).next_card ≤ w.next_card = at_counter (λ at. (put_word at 0 w).next_card ≤ w.next_card) which (λ j h. reset_one (eqb j 3) w.next_card) (λ j. omega arith) in
    cards_by c i s (Reset which) t (omega (arith, less))
cards_bounded c i s (AddStat which by down) t = cards_by c i s (AddStat which by down) t (omega (arith, (adds_elsewhere c i s which by down t).0))
cards_bounded c i s (ReadStat which) t = let bounded = t.core.sound.sweeping.cards_bounded in stays_read of_cards c i s which t (omega (arith, bounded)) refl refl
cards_bounded c i s NextBlock t = cards_by c i s NextBlock t (omega arith)
cards_bounded c i s step t =
    let same = next_card-kept c.shape s step (written c.shape s step (found c s step)) (words_of c.shape c.words) refl in
    let reads = ap (λ (x : Bool × Bool). bit x.0) (readings-kept c.shape s step (found c s step) refl) in
    cards_by c i s step t (omega (arith, same, reads))

pub cards-bounded : (c : Core) (i : ℕ) (s : SeatState) (step : Step) → Taken c i s step → (words_left c s step).next_card + card_readers (seats_left c i s step) ≤ card_count c.shape + most_seats
cards-bounded c i s step t = let kept = cards_bounded c i s step t in omega (arith, kept)
