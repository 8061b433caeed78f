-- Which steps only read, and which touch the single words. Each other step leaves them.
use Rattle.std.proofs.Common.{ℕ, ◌≡◌, ◌≤◌, arith, refl, sym, Bool, true, false, eqb}
use Rattle.std.specs.Prelude.{nat_lt}
use Rattle.std.proofs.lemmas.Bool.{true≢false, ne_eqb}
use Rattle.mark_core.specs.Layout.{Words, put_word}
use Rattle.mark_core.specs.Places.{counter_at}
use Rattle.mark_core.specs.Steps.MutatorSteps.{part_at}
use Rattle.mark_core.specs.Effects.{place, written}
use Rattle.mark_core.proofs.Writing.Ranges.{either}
use Rattle.mark_core.specs.declared.kinds.Shape.{Shape}
use Rattle.mark_core.specs.declared.kinds.Step.{Step}
use Rattle.mark_core.specs.declared.kinds.Step.TheVariants.{Reserve, Credit, Pop, Look, ReadCount, ReadAlloc, ReadField, ReadRoot, ReadMarks, ReadCard, ReadPhase, ReadOwn, ReadValue, ReadIdent, ReadCat, ReadFree, StoreNew, EnterStep, LeaveStep, RaiseStep, Observe, DropStep, StorePhase, Split, Join, NextBlock, NextOfCards, ReadBlockMarks, Reset, AddStat, ReadStat, ReadLength, OpenStep, JoinHelpStep, LeaveHelpStep, CloseStep, SeeHelp, ReadSeason, NextSeason, LoadSlot, ReadSlot, ReadWeak, CheckCard, HoldRoot}
use Rattle.mark_core.specs.declared.seat.SeatState.{SeatState}
use Rattle.mark_core.specs.Numbers.{last_count, named_number}

-- the step writes back what it found
abbrev pub only_reads : Step → Bool
only_reads (Pop p) = true
only_reads (Look q g) = true
only_reads ReadCount = true
only_reads (ReadAlloc b) = true
only_reads (ReadField c i) = true
only_reads (ReadRoot section v) = true
only_reads (LoadSlot section k) = true
only_reads (ReadMarks b) = true
only_reads (ReadCard card) = true
only_reads (CheckCard card) = true
only_reads ReadPhase = true
only_reads (ReadOwn c i) = true
only_reads (ReadValue c) = true
only_reads (ReadIdent c) = true
only_reads (ReadCat v) = true
only_reads (ReadSlot k) = true
only_reads (ReadWeak c) = true
only_reads (HoldRoot v r) = true
only_reads ReadFree = true
only_reads Observe = true
only_reads Split = true
only_reads (Join other) = true
only_reads ReadBlockMarks = true
only_reads (ReadStat which) = true
only_reads (ReadLength p) = true
only_reads SeeHelp = true
only_reads ReadSeason = true
only_reads step = false

pub read-written : (sh : Shape) (s : SeatState) (step : Step) (old : ℕ) → only_reads step ≡ true → written sh s step old ≡ old
read-written sh s (Pop p) old e = refl
read-written sh s (Look q g) old e = refl
read-written sh s ReadCount old e = refl
read-written sh s (ReadAlloc b) old e = refl
read-written sh s (ReadField c i) old e = refl
read-written sh s (ReadRoot section v) old e = refl
read-written sh s (LoadSlot section k) old e = refl
read-written sh s (ReadMarks b) old e = refl
read-written sh s (ReadCard card) old e = refl
read-written sh s (CheckCard card) old e = refl
read-written sh s ReadPhase old e = refl
read-written sh s (ReadOwn c i) old e = refl
read-written sh s (ReadValue c) old e = refl
read-written sh s (ReadIdent c) old e = refl
read-written sh s (ReadCat v) old e = refl
read-written sh s (ReadSlot k) old e = refl
read-written sh s (ReadWeak c) old e = refl
read-written sh s (HoldRoot v r) old e = refl
read-written sh s ReadFree old e = refl
read-written sh s Observe old e = refl
read-written sh s Split old e = refl
read-written sh s (Join other) old e = refl
read-written sh s ReadBlockMarks old e = refl
read-written sh s (ReadStat which) old e = refl
read-written sh s (ReadLength p) old e = refl
read-written sh s SeeHelp old e = refl
read-written sh s ReadSeason old e = refl
read-written sh s step old e = absurd (true≢false (sym e))

-- a property of the place of a new cell's word
pub at_part : (P : ℕ × ℕ → Type 0) (sh : Shape) (c part : ℕ) → ((i : ℕ) → P (11, i)) → ((i : ℕ) → P (10, i)) → ((i : ℕ) → P (9, i)) → P (part_at sh c part)
at_part P sh c part f v n = either P (nat_lt part sh.fields) _ _ (λ e. f _) (λ e. either P (eqb part sh.fields) _ _ (λ g. v _) (λ g. n _))

-- a property of a counter's place
pub at_counter : (P : ℕ × ℕ → Type 0) (which : ℕ) → ((i : ℕ) → 3 ≤ i → P (0, i)) → ((i : ℕ) → P (1, i)) → P (counter_at which)
at_counter P which f p =
    either P (nat_lt which last_count) _ _ (λ e. f _ (omega arith)) (λ e. either P (nat_lt which named_number) _ _ (λ g. f _ (omega arith)) (λ g. either P (eqb which named_number) _ _ (λ h. f 5 (omega arith)) (λ h. p _)))

-- the number of counted seats and the stop flag
abbrev pub touches_world : Step → Bool
touches_world EnterStep = true
touches_world LeaveStep = true
touches_world RaiseStep = true
touches_world Observe = true
touches_world DropStep = true
touches_world Split = true
touches_world (Join other) = true
touches_world step = false

pub world-kept : (sh : Shape) (s : SeatState) (step : Step) (v : ℕ) (w : Words) → touches_world step ≡ false → (put_word (place sh s step) v w).world ≡ w.world
world-kept sh s EnterStep x w e = absurd (true≢false e)
world-kept sh s LeaveStep x w e = absurd (true≢false e)
world-kept sh s RaiseStep x w e = absurd (true≢false e)
world-kept sh s Observe x w e = absurd (true≢false e)
world-kept sh s DropStep x w e = absurd (true≢false e)
world-kept sh s Split x w e = absurd (true≢false e)
world-kept sh s (Join other) x w e = absurd (true≢false e)
world-kept sh s (StoreNew c part word) x w e = at_part (λ at. (put_word at x w).world ≡ w.world) sh c part (λ i. refl) (λ i. refl) (λ i. refl)
world-kept sh s (Reset which) x w e = at_counter (λ at. (put_word at x w).world ≡ w.world) which (λ i h. rw (ne_eqb i 0 (λ g. omega (arith, h, g))) refl) (λ i. refl)
world-kept sh s (AddStat which by down) x w e = at_counter (λ at. (put_word at x w).world ≡ w.world) which (λ i h. rw (ne_eqb i 0 (λ g. omega (arith, h, g))) refl) (λ i. refl)
world-kept sh s (ReadStat which) x w e = at_counter (λ at. (put_word at x w).world ≡ w.world) which (λ i h. rw (ne_eqb i 0 (λ g. omega (arith, h, g))) refl) (λ i. refl)
world-kept sh s step x w e = refl

-- the phase
abbrev pub touches_phase : Step → Bool
touches_phase ReadPhase = true
touches_phase (StorePhase to) = true
touches_phase step = false

pub phase-kept : (sh : Shape) (s : SeatState) (step : Step) (v : ℕ) (w : Words) → touches_phase step ≡ false → (put_word (place sh s step) v w).phase ≡ w.phase
phase-kept sh s ReadPhase x w e = absurd (true≢false e)
phase-kept sh s (StorePhase to) x w e = absurd (true≢false e)
phase-kept sh s (StoreNew c part word) x w e = at_part (λ at. (put_word at x w).phase ≡ w.phase) sh c part (λ i. refl) (λ i. refl) (λ i. refl)
phase-kept sh s (Reset which) x w e = at_counter (λ at. (put_word at x w).phase ≡ w.phase) which (λ i h. rw (ne_eqb i 1 (λ g. omega (arith, h, g))) refl) (λ i. refl)
phase-kept sh s (AddStat which by down) x w e = at_counter (λ at. (put_word at x w).phase ≡ w.phase) which (λ i h. rw (ne_eqb i 1 (λ g. omega (arith, h, g))) refl) (λ i. refl)
phase-kept sh s (ReadStat which) x w e = at_counter (λ at. (put_word at x w).phase ≡ w.phase) which (λ i h. rw (ne_eqb i 1 (λ g. omega (arith, h, g))) refl) (λ i. refl)
phase-kept sh s step x w e = refl

-- the count of empty packets
abbrev pub touches_empty : Step → Bool
touches_empty Reserve = true
touches_empty Credit = true
touches_empty ReadCount = true
touches_empty step = false

pub empty-kept : (sh : Shape) (s : SeatState) (step : Step) (v : ℕ) (w : Words) → touches_empty step ≡ false → (put_word (place sh s step) v w).empty ≡ w.empty
empty-kept sh s Reserve x w e = absurd (true≢false e)
empty-kept sh s Credit x w e = absurd (true≢false e)
empty-kept sh s ReadCount x w e = absurd (true≢false e)
empty-kept sh s (StoreNew c part word) x w e = at_part (λ at. (put_word at x w).empty ≡ w.empty) sh c part (λ i. refl) (λ i. refl) (λ i. refl)
empty-kept sh s (Reset which) x w e = at_counter (λ at. (put_word at x w).empty ≡ w.empty) which (λ i h. rw (ne_eqb i 2 (λ g. omega (arith, h, g))) refl) (λ i. refl)
empty-kept sh s (AddStat which by down) x w e = at_counter (λ at. (put_word at x w).empty ≡ w.empty) which (λ i h. rw (ne_eqb i 2 (λ g. omega (arith, h, g))) refl) (λ i. refl)
empty-kept sh s (ReadStat which) x w e = at_counter (λ at. (put_word at x w).empty ≡ w.empty) which (λ i h. rw (ne_eqb i 2 (λ g. omega (arith, h, g))) refl) (λ i. refl)
empty-kept sh s step x w e = refl

-- the counter of cards
abbrev pub touches_next_card : Step → Bool
touches_next_card NextOfCards = true
touches_next_card (Reset which) = true
touches_next_card (AddStat which by down) = true
touches_next_card (ReadStat which) = true
touches_next_card step = false

pub next_card-kept : (sh : Shape) (s : SeatState) (step : Step) (v : ℕ) (w : Words) → touches_next_card step ≡ false → (put_word (place sh s step) v w).next_card ≡ w.next_card
next_card-kept sh s NextOfCards x w e = absurd (true≢false e)
next_card-kept sh s (Reset which) x w e = absurd (true≢false e)
next_card-kept sh s (AddStat which by down) x w e = absurd (true≢false e)
next_card-kept sh s (ReadStat which) x w e = absurd (true≢false e)
next_card-kept sh s (StoreNew c part word) x w e = at_part (λ at. (put_word at x w).next_card ≡ w.next_card) sh c part (λ i. refl) (λ i. refl) (λ i. refl)
next_card-kept sh s step x w e = refl

-- the counter of blocks
abbrev pub touches_next_block : Step → Bool
touches_next_block NextBlock = true
touches_next_block (Reset which) = true
touches_next_block (AddStat which by down) = true
touches_next_block (ReadStat which) = true
touches_next_block step = false

pub next_block-kept : (sh : Shape) (s : SeatState) (step : Step) (v : ℕ) (w : Words) → touches_next_block step ≡ false → (put_word (place sh s step) v w).next_block ≡ w.next_block
next_block-kept sh s NextBlock x w e = absurd (true≢false e)
next_block-kept sh s (Reset which) x w e = absurd (true≢false e)
next_block-kept sh s (AddStat which by down) x w e = absurd (true≢false e)
next_block-kept sh s (ReadStat which) x w e = absurd (true≢false e)
next_block-kept sh s (StoreNew c part word) x w e = at_part (λ at. (put_word at x w).next_block ≡ w.next_block) sh c part (λ i. refl) (λ i. refl) (λ i. refl)
next_block-kept sh s step x w e = refl

-- the number of helping seats and the flag of help
abbrev pub touches_help : Step → Bool
touches_help OpenStep = true
touches_help JoinHelpStep = true
touches_help LeaveHelpStep = true
touches_help CloseStep = true
touches_help SeeHelp = true
touches_help step = false

pub help-kept : (sh : Shape) (s : SeatState) (step : Step) (v : ℕ) (w : Words) → touches_help step ≡ false → (put_word (place sh s step) v w).help ≡ w.help
help-kept sh s OpenStep x w e = absurd (true≢false e)
help-kept sh s JoinHelpStep x w e = absurd (true≢false e)
help-kept sh s LeaveHelpStep x w e = absurd (true≢false e)
help-kept sh s CloseStep x w e = absurd (true≢false e)
help-kept sh s SeeHelp x w e = absurd (true≢false e)
help-kept sh s (StoreNew c part word) x w e = at_part (λ at. (put_word at x w).help ≡ w.help) sh c part (λ i. refl) (λ i. refl) (λ i. refl)
help-kept sh s (Reset which) x w e = at_counter (λ at. (put_word at x w).help ≡ w.help) which (λ i h. refl) (λ i. refl)
help-kept sh s (AddStat which by down) x w e = at_counter (λ at. (put_word at x w).help ≡ w.help) which (λ i h. refl) (λ i. refl)
help-kept sh s (ReadStat which) x w e = at_counter (λ at. (put_word at x w).help ≡ w.help) which (λ i h. refl) (λ i. refl)
help-kept sh s step x w e = refl

-- the season
abbrev pub touches_season : Step → Bool
touches_season ReadSeason = true
touches_season NextSeason = true
touches_season step = false

pub season-kept : (sh : Shape) (s : SeatState) (step : Step) (v : ℕ) (w : Words) → touches_season step ≡ false → (put_word (place sh s step) v w).season ≡ w.season
season-kept sh s ReadSeason x w e = absurd (true≢false e)
season-kept sh s NextSeason x w e = absurd (true≢false e)
season-kept sh s (StoreNew c part word) x w e = at_part (λ at. (put_word at x w).season ≡ w.season) sh c part (λ i. refl) (λ i. refl) (λ i. refl)
season-kept sh s (Reset which) x w e = at_counter (λ at. (put_word at x w).season ≡ w.season) which (λ i h. refl) (λ i. refl)
season-kept sh s (AddStat which by down) x w e = at_counter (λ at. (put_word at x w).season ≡ w.season) which (λ i h. refl) (λ i. refl)
season-kept sh s (ReadStat which) x w e = at_counter (λ at. (put_word at x w).season ≡ w.season) which (λ i h. refl) (λ i. refl)
season-kept sh s step x w e = refl
