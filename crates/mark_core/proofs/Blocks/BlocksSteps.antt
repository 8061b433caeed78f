-- Each step that is allowed keeps the rule of the blocks in hand.
use Rattle.std.proofs.Common.{ℕ, ◌≡◌, ◌+◌, ◌%◌, List, set, get_or, arith, refl, sym, ap, ◌∙◌, subst, Bool, true, false, ◌||◌, cond, eqb, Option, Some, None, ⊎_elim}
use Rattle.std.specs.Prelude.{IsFalse, is_some, nat_lt}
use Rattle.std.specs.List.{All}
use Rattle.std.specs.Int.Bits.{or_zero_r}
use Rattle.std.proofs.lemmas.Bool.{cases_Bool, and_parts, or_cases, not-false, eqb-true, ltb-true, true≢false, false≢true}
use Rattle.std.proofs.lemmas.List.{length-map, get_or-map, set-get_or}
use Rattle.mark_core.specs.Layout.{Words, words_of, region_sizes, block_count}
use Rattle.mark_core.specs.Seats.{is_phase, has_used}
use Rattle.mark_core.specs.Views.{blocks}
use Rattle.mark_core.specs.Steps.MutatorSteps.{used_bits, cached_block}
use Rattle.mark_core.specs.Steps.SweepSteps.{own_block, survivors, untouched, stretch_end, next_in_stretch}
use Rattle.mark_core.specs.Rules.WorldRules.{IsCalm}
use Rattle.mark_core.specs.Effects.{written, seat_after}
use Rattle.mark_core.specs.Steps.{Core}
use Rattle.mark_core.proofs.Writing.Places.{words-get}
use Rattle.mark_core.proofs.Known.{found, words_left}
use Rattle.mark_core.proofs.Writing.Frames.{block-kept}
use Rattle.mark_core.proofs.Writing.Writes.{phase-kept, next_block-kept}
use Rattle.mark_core.proofs.Writing.RegionWrites.{allocs-kept, marks-kept}
use Rattle.mark_core.proofs.Count.CountMoves.{follows}
use Rattle.mark_core.proofs.Blocks.BlocksStopped.{Taken, within, own-record, mine, in-place, AllStill, tracing, in-time, still-stopped, stopped-time, not-still, none-in-hand, Others, alone-holds}
use Rattle.mark_core.proofs.Blocks.BlocksWords.{SameHeap, heap-left}
use Rattle.mark_core.proofs.Blocks.BlocksStretch.{IsBlock, AreApart, InHand, hand-set, own-apart, none-right, some-taken, end-counted, rest-apart, later, reads-marks, reads-allocs, apart-marks, apart-allocs, apart-stored, stores, other-allocs, other-marks, may-store-some, takes, takes-apart, goes-on}
use Rattle.mark_core.proofs.Basics.{none-is}
use Rattle.mark_core.specs.declared.kinds.Phase.{Phase}
use Rattle.mark_core.specs.declared.kinds.Phase.TheVariants.{Idle, Marking, Drain, Sweep, Clear, Full}
use Rattle.mark_core.specs.declared.kinds.Step.{Step}
use Rattle.mark_core.specs.declared.kinds.Step.TheVariants.{ReadAlloc, SetMark, StoreField, StoreRoot, StoreNew, PublishCells, StorePhase, NextBlock, ReadBlockMarks, StoreAlloc, ClearMarks, Reset, ExchangeField, StoreSlot, FlushRoot}
use Rattle.mark_core.specs.declared.seat.SeatState.{SeatState}
use Rattle.mark_core.specs.declared.seat.CacheState.{CacheState}
use Rattle.mark_core.specs.declared.seat.BlockState.{BlockState}

-- the rule of the blocks in hand, by the words
abbrev pub Hand : Words → List (Option BlockState) → Type 0
Hand w bs = InHand w.phase w.next_block w.allocs w.marks bs

-- the rule of the blocks in hand after a step of seat i, as long as only the record of its own seat changed
abbrev pub HandLeft : Core → ℕ → SeatState → Step → Type 0
HandLeft c i s step = Hand (words_left c s step) (set (blocks c.seats) i (seat_after c.shape s step (found c s step)).block)

pub hand : (c : Core) (i : ℕ) (s : SeatState) (step : Step) → Taken c i s step → Hand (words_of c.shape c.words) (blocks c.seats)
hand c i s step t = record { strong = t.core.strong.blocks_strong; apart = t.core.strong.one_block_one_seat }

pub own-block : (c : Core) (i : ℕ) (s : SeatState) (step : Step) (d : Option BlockState) → Taken c i s step → get_or (blocks c.seats) i d ≡ s.block
own-block c i s step d t = get_or-map (λ (x : SeatState). x.block) c.seats i s d (within c i s step t) ∙ ap (λ (x : SeatState). x.block) (own-record c i s step s t)

pub own-right : (c : Core) (i : ℕ) (s : SeatState) (step : Step) → Taken c i s step → IsBlock (words_of c.shape c.words).phase (words_of c.shape c.words).next_block (words_of c.shape c.words).allocs (words_of c.shape c.words).marks s.block
own-right c i s step t =
    let w : Words = words_of c.shape c.words in
    subst (IsBlock w.phase w.next_block w.allocs w.marks) (own-block c i s step None t) ((hand c i s step t).strong i None (rw length-map (within c i s step t)))

pub others-apart : (c : Core) (i : ℕ) (s : SeatState) (step : Step) → Taken c i s step → Others i (AreApart s.block) (blocks c.seats)
others-apart c i s step t =
    let w : Words = words_of c.shape c.words in
    own-apart w.phase w.next_block w.allocs w.marks (blocks c.seats) i s.block (hand c i s step t) (rw length-map (within c i s step t)) (λ d. own-block c i s step d t)

others_right : (c : Core) (i : ℕ) (s : SeatState) (step : Step) → Taken c i s step → Others i (IsBlock (words_of c.shape c.words).phase (words_of c.shape c.words).next_block (words_of c.shape c.words).allocs (words_of c.shape c.words).marks) (blocks c.seats)
others_right c i s step t j d h n = (hand c i s step t).strong j d h

-- a step that leaves the words changes only the seat's own block
own_change : (c : Core) (i : ℕ) (s : SeatState) (step : Step) (v : Words) (b : Option BlockState) → Taken c i s step → SameHeap (words_of c.shape c.words) v
    → IsBlock (words_of c.shape c.words).phase (words_of c.shape c.words).next_block (words_of c.shape c.words).allocs (words_of c.shape c.words).marks b
    → ((y : Option BlockState) → AreApart s.block y → AreApart b y) → Hand v (set (blocks c.seats) i b)
own_change c i s step v b t same own apart =
    let w : Words = words_of c.shape c.words in
    rw (same.phase, same.next_block, same.allocs, same.marks)
    (hand-set w.phase w.next_block w.phase w.next_block w.allocs w.marks w.allocs w.marks (blocks c.seats) i b (hand c i s step t) (others_right c i s step t) own
    (λ j d h n. apart (get_or (blocks c.seats) j d) (others-apart c i s step t j d h n)))

-- a step that leaves the seat's block too
hand_stays : (c : Core) (i : ℕ) (s : SeatState) (step : Step) (v : Words) (b : Option BlockState) → Taken c i s step → v.phase ≡ (words_of c.shape c.words).phase → v.next_block ≡ (words_of c.shape c.words).next_block
    → v.allocs ≡ (words_of c.shape c.words).allocs → v.marks ≡ (words_of c.shape c.words).marks → b ≡ s.block → Hand v (set (blocks c.seats) i b)
hand_stays c i s step v b t p n a m e =
    let back : set (blocks c.seats) i s.block ≡ blocks c.seats = subst (λ (o : Option BlockState). set (blocks c.seats) i o ≡ blocks c.seats) (own-block c i s step None t) (set-get_or (blocks c.seats) i None) in
    rw (p, n, a, m, e, back) (hand c i s step t)

-- if no block was in hand, none is after a step that takes none
none_taken : (c : Core) (i : ℕ) (s : SeatState) (step : Step) (v : Words) → Taken c i s step → All (λ b. b ≡ None) (blocks c.seats) → Hand v (set (blocks c.seats) i s.block)
none_taken c i s step v t a =
    let back : set (blocks c.seats) i s.block ≡ blocks c.seats = subst (λ (o : Option BlockState). set (blocks c.seats) i o ≡ blocks c.seats) (own-block c i s step None t) (set-get_or (blocks c.seats) i None) in
    rw back (none-right v.phase v.next_block v.allocs v.marks (blocks c.seats) a)

-- neither in Marking nor in Drain is a block in hand
tracing_time : (phase : ℕ) → (eqb phase 1 || eqb phase 2) ≡ true → (is_phase phase Sweep || is_phase phase Clear) ≡ false
tracing_time phase e =
    ⊎_elim
    (λ (a : eqb phase 1 ≡ true). ap (λ p. eqb p 3 || eqb p 4) (eqb-true phase 1 a))
    (λ (a : eqb phase 2 ≡ true). ap (λ p. eqb p 3 || eqb p 4) (eqb-true phase 2 a))
    (or_cases (eqb phase 1) (eqb phase 2) e)

reset_time : (phase : ℕ) → (is_phase phase Idle || is_phase phase Drain) ≡ true → (is_phase phase Sweep || is_phase phase Clear) ≡ false
reset_time phase e =
    ⊎_elim
    (λ (a : eqb phase 0 ≡ true). ap (λ p. eqb p 3 || eqb p 4) (eqb-true phase 0 a))
    (λ (a : eqb phase 2 ≡ true). ap (λ p. eqb p 3 || eqb p 4) (eqb-true phase 2 a))
    (or_cases (eqb phase 0) (eqb phase 2) e)

no_used : (o : Option CacheState) → has_used o ≡ false → used_bits o ≡ 0
no_used None e = refl
no_used (Some x) e = eqb-true x.used 0 (not-false (eqb x.used 0) e)

-- while no seat is active, publishing has nothing to publish
pub publishes-nothing : (c : Core) (i : ℕ) (s : SeatState) → Taken c i s PublishCells → AllStill c → (words_left c s PublishCells).allocs ≡ (words_of c.shape c.words).allocs
publishes-nothing c i s t still =
    let w : Words = words_of c.shape c.words in
    let quiet : IsFalse s.active = mine c i s PublishCells (λ (x : SeatState). IsFalse x.active) t still in
    let calm : IsCalm s = mine c i s PublishCells (λ (x : SeatState). IsFalse x.active → IsCalm x) t t.core.sound.world.inactive_calm quiet in
    let here : found c s PublishCells ≡ get_or w.allocs (cached_block s) 0 = words-get (region_sizes c.shape) 4 c.words (cached_block s) 0 (in-place c i s PublishCells t) in
    rw (no_used s.cache calm.no_used_cell, or_zero_r, here) (set-get_or w.allocs (cached_block s) 0)

published : (c : Core) (i : ℕ) (s : SeatState) (b : Bool) → Taken c i s PublishCells → (is_phase (words_of c.shape c.words).phase Sweep || is_phase (words_of c.shape c.words).phase Clear) ≡ b → HandLeft c i s PublishCells
published c i s true t e =
    let still = still-stopped c t.core (stopped-time (words_of c.shape c.words).phase e) in
    hand_stays c i s PublishCells (words_left c s PublishCells) s.block t refl refl (publishes-nothing c i s t still) refl refl
published c i s false t e = none_taken c i s PublishCells (words_left c s PublishCells) t (none-in-hand c t.core e)

next_taken : (c : Core) (i : ℕ) (s : SeatState) → Taken c i s NextBlock → HandLeft c i s NextBlock
next_taken c i s t =
    let w : Words = words_of c.shape c.words in
    let n : ℕ = w.next_block in
    let none : s.block ≡ None = none-is s.block t.ok.1.0 in
    let m : ℕ = n + c.shape.stretch in
    let u : ℕ = stretch_end c.shape n in
    let room : m % 18446744073709551616 ≡ m = omega (arith, t.core.sound.sweeping.blocks_bounded, t.core.formed.shaped.cells, t.core.formed.shaped.stretch) in
    let time = in-time c i s NextBlock t t.ok.0 in
    let b : Bool = nat_lt n (block_count c.shape) in
    rw room
    (hand-set w.phase n w.phase m w.allocs w.marks w.allocs w.marks (blocks c.seats) i (cond b (Some (untouched n u)) s.block) (hand c i s NextBlock t)
    (λ j d h l. later w.phase n m w.allocs w.marks (get_or (blocks c.seats) j d) (omega arith) (others_right c i s NextBlock t j d h l))
    (takes w.phase n m u w.allocs w.marks b s.block time (λ e. some-taken c.shape n t.core.formed.shaped.stretch.0 (ltb-true n (block_count c.shape) e)) (end-counted c.shape n) none)
    (λ j d h l. takes-apart w.phase n u w.allocs w.marks b s.block (get_or (blocks c.seats) j d) none (others_right c i s NextBlock t j d h l)))

stored : (c : Core) (i : ℕ) (s : SeatState) → Taken c i s StoreAlloc → HandLeft c i s StoreAlloc
stored c i s t =
    let w : Words = words_of c.shape c.words in
    let v : ℕ = survivors s.block in
    let some : is_some s.block ≡ true = may-store-some s.block t.ok.1.0 in
    hand-set w.phase w.next_block w.phase w.next_block w.allocs w.marks (set w.allocs (own_block s) v) w.marks (blocks c.seats) i _ (hand c i s StoreAlloc t)
    (λ j d h m. other-allocs w.phase w.next_block w.allocs w.marks v s.block (get_or (blocks c.seats) j d) some (own-right c i s StoreAlloc t) (others-apart c i s StoreAlloc t j d h m) (others_right c i s StoreAlloc t j d h m))
    (stores w.phase w.next_block w.allocs (set w.allocs (own_block s) v) w.marks s.block (own-right c i s StoreAlloc t))
    (λ j d h m. apart-stored s.block (get_or (blocks c.seats) j d) (others-apart c i s StoreAlloc t j d h m))

cleared : (c : Core) (i : ℕ) (s : SeatState) → Taken c i s ClearMarks → HandLeft c i s ClearMarks
cleared c i s t =
    let w : Words = words_of c.shape c.words in
    hand-set w.phase w.next_block w.phase w.next_block w.allocs w.marks w.allocs (set w.marks (own_block s) 0) (blocks c.seats) i (next_in_stretch s.block) (hand c i s ClearMarks t)
    (λ j d h m. other-marks w.phase w.next_block w.allocs w.marks 0 s.block (get_or (blocks c.seats) j d) t.ok.0 (own-right c i s ClearMarks t) (others-apart c i s ClearMarks t j d h m) (others_right c i s ClearMarks t j d h m))
    (goes-on w.phase w.next_block w.allocs w.marks (set w.marks (own_block s) 0) s.block (own-right c i s ClearMarks t))
    (λ j d h m. rest-apart s.block (get_or (blocks c.seats) j d) (others-apart c i s ClearMarks t j d h m))

from_clear : (phase : ℕ) → (is_phase phase Idle || is_phase phase Marking || is_phase phase Clear) ≡ true → (is_phase phase Sweep || is_phase phase Clear) ≡ true → eqb phase 4 ≡ true
from_clear phase a e =
    ⊎_elim
    (λ (b : eqb phase 3 ≡ true). absurd (false≢true (sym (ap (λ p. is_phase p Idle || is_phase p Marking || is_phase p Clear) (eqb-true phase 3 b)) ∙ a)))
    (λ (b : eqb phase 4 ≡ true). b)
    (or_cases (eqb phase 3) (eqb phase 4) e)

-- a move that finds a block may be in hand leaves Sweep or Clear, or is a try that changes nothing
moved : (c : Core) (i : ℕ) (s : SeatState) (to : Phase) → Taken c i s (StorePhase to) → (is_phase (words_of c.shape c.words).phase Sweep || is_phase (words_of c.shape c.words).phase Clear) ≡ true → All (λ b. b ≡ None) (blocks c.seats)
moved c i s Idle t e =
    let asks = and_parts s.knows _ t.ok.1.0 in
    let done = and_parts _ _ (and_parts _ _ asks.1).0 in
    alone-holds c i s (StorePhase Idle) t asks.0 (follows s.knows s.alone t.ok.1.1.0 asks.0) (none-is s.block done.1)
moved c i s Marking t e = not-still c i s (StorePhase Marking) _ t (still-stopped c t.core (stopped-time (words_of c.shape c.words).phase e)) t.ok.1.0
moved c i s Drain t e =
    let phase : ℕ = (words_of c.shape c.words).phase in
    let asks = and_parts s.knows _ t.ok.1.0 in
    let clear : eqb phase 4 ≡ true = from_clear phase t.ok.0 e in
    let done = and_parts _ _ (and_parts _ _ (follows (eqb phase 4) _ asks.1 clear)).0 in
    alone-holds c i s (StorePhase Drain) t asks.0 (follows s.knows s.alone t.ok.1.1.0 asks.0) (none-is s.block done.1)
moved c i s Sweep t e = absurd (true≢false (sym e ∙ ap (λ p. eqb p 3 || eqb p 4) (eqb-true (words_of c.shape c.words).phase 2 t.ok.0)))
moved c i s Clear t e = absurd (true≢false (sym e ∙ ap (λ p. eqb p 3 || eqb p 4) (eqb-true (words_of c.shape c.words).phase 2 t.ok.0)))
moved c i s Full t e = absurd (true≢false (sym e ∙ ap (λ p. eqb p 3 || eqb p 4) (eqb-true (words_of c.shape c.words).phase 0 t.ok.0)))

-- no block is in hand at a move
pub none-at-move : (c : Core) (i : ℕ) (s : SeatState) (to : Phase) → Taken c i s (StorePhase to) → All (λ b. b ≡ None) (blocks c.seats)
none-at-move c i s to t =
    let phase : ℕ = (words_of c.shape c.words).phase in
    ⊎_elim
    (λ (e : (is_phase phase Sweep || is_phase phase Clear) ≡ true). moved c i s to t e)
    (λ (e : (is_phase phase Sweep || is_phase phase Clear) ≡ false). none-in-hand c t.core e)
    (cases_Bool (is_phase phase Sweep || is_phase phase Clear))

pub hand-at : (c : Core) (i : ℕ) (s : SeatState) (step : Step) → Taken c i s step → HandLeft c i s step
hand-at c i s (ReadAlloc b) t =
    let w : Words = words_of c.shape c.words in
    let old : ℕ = found c s (ReadAlloc b) in
    own_change c i s (ReadAlloc b) (words_left c s (ReadAlloc b)) _ t (heap-left c i s (ReadAlloc b) t refl)
    (reads-allocs w.phase w.next_block w.allocs w.marks s.block b old (own-right c i s (ReadAlloc b) t) (sym (words-get (region_sizes c.shape) 4 c.words b 0 (in-place c i s (ReadAlloc b) t))))
    (λ y a. apart-allocs s.block y b old a)
hand-at c i s ReadBlockMarks t =
    let w : Words = words_of c.shape c.words in
    let old : ℕ = found c s ReadBlockMarks in
    own_change c i s ReadBlockMarks (words_left c s ReadBlockMarks) _ t (heap-left c i s ReadBlockMarks t refl)
    (reads-marks w.phase w.next_block w.allocs w.marks s.block old (own-right c i s ReadBlockMarks t) (sym (words-get (region_sizes c.shape) 5 c.words (own_block s) 0 (in-place c i s ReadBlockMarks t))))
    (λ y a. apart-marks s.block y old a)
hand-at c i s (SetMark x) t = none_taken c i s (SetMark x) (words_left c s (SetMark x)) t (none-in-hand c t.core (tracing_time (words_of c.shape c.words).phase (tracing c i s (SetMark x) t t.ok.1.0)))
hand-at c i s (Reset which) t = none_taken c i s (Reset which) (words_left c s (Reset which)) t (none-in-hand c t.core (reset_time (words_of c.shape c.words).phase (and_parts _ _ t.ok.0).1))
hand-at c i s (StorePhase to) t = none_taken c i s (StorePhase to) (words_left c s (StorePhase to)) t (none-at-move c i s to t)
hand-at c i s PublishCells t = published c i s _ t refl
hand-at c i s NextBlock t = next_taken c i s t
hand-at c i s StoreAlloc t = stored c i s t
hand-at c i s ClearMarks t = cleared c i s t
hand-at c i s (StoreField v f x) t = hand_stays c i s (StoreField v f x) (words_left c s (StoreField v f x)) s.block t refl refl refl refl refl
hand-at c i s (ExchangeField v f x y) t = hand_stays c i s (ExchangeField v f x y) (words_left c s (ExchangeField v f x y)) s.block t refl refl refl refl refl
hand-at c i s (FlushRoot v) t = hand_stays c i s (FlushRoot v) (words_left c s (FlushRoot v)) s.block t refl refl refl refl refl
hand-at c i s (StoreRoot v r) t = hand_stays c i s (StoreRoot v r) (words_left c s (StoreRoot v r)) s.block t refl refl refl refl refl
hand-at c i s (StoreSlot k r) t = hand_stays c i s (StoreSlot k r) (words_left c s (StoreSlot k r)) s.block t refl refl refl refl refl
hand-at c i s (StoreNew x part word) t =
    let w : Words = words_of c.shape c.words in
    let step : Step = StoreNew x part word in
    let v : ℕ = written c.shape s step (found c s step) in
    hand_stays c i s step (words_left c s step) s.block t (phase-kept c.shape s step v w refl) (next_block-kept c.shape s step v w refl) (allocs-kept c.shape s step v w refl) (marks-kept c.shape s step v w refl) refl
hand-at c i s step t =
    let same = heap-left c i s step t refl in
    hand_stays c i s step (words_left c s step) _ t same.phase same.next_block same.allocs same.marks (block-kept c.shape s step (found c s step) refl)
