-- Which steps touch which region of the words. Each other step leaves it.
use Rattle.std.proofs.Common.{ℕ, ◌≡◌, refl, Bool, true, false}
use Rattle.std.proofs.lemmas.Bool.{true≢false}
use Rattle.mark_core.specs.Layout.{Words, put_word}
use Rattle.mark_core.specs.Effects.{place}
use Rattle.mark_core.proofs.Writing.Writes.{at_part, at_counter}
use Rattle.mark_core.specs.declared.kinds.Shape.{Shape}
use Rattle.mark_core.specs.declared.kinds.Step.{Step}
use Rattle.mark_core.specs.declared.kinds.Step.TheVariants.{Take, Give, Push, Pop, Look, ReadAlloc, ReadField, ReadRoot, SetMark, DirtyCard, ClearCard, ReadMarks, ReadCard, ReadOwn, ReadIdent, ReadCat, StoreField, StoreRoot, ClaimBlock, ReleaseBlock, ReadFree, StoreNew, PublishCells, ReadBlockMarks, StoreAlloc, ClearMarks, WipeCard, Reset, AddStat, ReadStat, StoreLength, ReadLength, ExchangeField, LoadSlot, StoreSlot, ReadSlot, ReadWeak, CheckCard, HoldRoot, FlushRoot}
use Rattle.mark_core.specs.declared.seat.SeatState.{SeatState}

-- the roots
abbrev pub touches_roots : Step → Bool
touches_roots (ReadRoot section v) = true
touches_roots (ReadCat v) = true
touches_roots (StoreRoot v r) = true
touches_roots (LoadSlot section k) = true
touches_roots (StoreSlot k r) = true
touches_roots (ReadSlot k) = true
touches_roots (HoldRoot v r) = true
touches_roots (FlushRoot v) = true
touches_roots step = false

pub roots-kept : (sh : Shape) (s : SeatState) (step : Step) (v : ℕ) (w : Words) → touches_roots step ≡ false → (put_word (place sh s step) v w).roots ≡ w.roots
roots-kept sh s (ReadRoot section v) x w e = absurd (true≢false e)
roots-kept sh s (ReadCat v) x w e = absurd (true≢false e)
roots-kept sh s (StoreRoot v r) x w e = absurd (true≢false e)
roots-kept sh s (LoadSlot section k) x w e = absurd (true≢false e)
roots-kept sh s (StoreSlot k r) x w e = absurd (true≢false e)
roots-kept sh s (ReadSlot k) x w e = absurd (true≢false e)
roots-kept sh s (HoldRoot v r) x w e = absurd (true≢false e)
roots-kept sh s (FlushRoot v) x w e = absurd (true≢false e)
roots-kept sh s (StoreNew c part word) x w e = at_part (λ at. (put_word at x w).roots ≡ w.roots) sh c part (λ i. refl) (λ i. refl) (λ i. refl)
roots-kept sh s (Reset which) x w e = at_counter (λ at. (put_word at x w).roots ≡ w.roots) which (λ i h. refl) (λ i. refl)
roots-kept sh s (AddStat which by down) x w e = at_counter (λ at. (put_word at x w).roots ≡ w.roots) which (λ i h. refl) (λ i. refl)
roots-kept sh s (ReadStat which) x w e = at_counter (λ at. (put_word at x w).roots ≡ w.roots) which (λ i h. refl) (λ i. refl)
roots-kept sh s step x w e = refl

-- the owners of blocks
abbrev pub touches_owners : Step → Bool
touches_owners (ClaimBlock b) = true
touches_owners ReleaseBlock = true
touches_owners step = false

pub owners-kept : (sh : Shape) (s : SeatState) (step : Step) (v : ℕ) (w : Words) → touches_owners step ≡ false → (put_word (place sh s step) v w).owners ≡ w.owners
owners-kept sh s (ClaimBlock b) x w e = absurd (true≢false e)
owners-kept sh s ReleaseBlock x w e = absurd (true≢false e)
owners-kept sh s (StoreNew c part word) x w e = at_part (λ at. (put_word at x w).owners ≡ w.owners) sh c part (λ i. refl) (λ i. refl) (λ i. refl)
owners-kept sh s (Reset which) x w e = at_counter (λ at. (put_word at x w).owners ≡ w.owners) which (λ i h. refl) (λ i. refl)
owners-kept sh s (AddStat which by down) x w e = at_counter (λ at. (put_word at x w).owners ≡ w.owners) which (λ i h. refl) (λ i. refl)
owners-kept sh s (ReadStat which) x w e = at_counter (λ at. (put_word at x w).owners ≡ w.owners) which (λ i h. refl) (λ i. refl)
owners-kept sh s step x w e = refl

-- the allocation bits
abbrev pub touches_allocs : Step → Bool
touches_allocs (ReadAlloc b) = true
touches_allocs ReadFree = true
touches_allocs (ReadWeak c) = true
touches_allocs PublishCells = true
touches_allocs StoreAlloc = true
touches_allocs step = false

pub allocs-kept : (sh : Shape) (s : SeatState) (step : Step) (v : ℕ) (w : Words) → touches_allocs step ≡ false → (put_word (place sh s step) v w).allocs ≡ w.allocs
allocs-kept sh s (ReadAlloc b) x w e = absurd (true≢false e)
allocs-kept sh s ReadFree x w e = absurd (true≢false e)
allocs-kept sh s (ReadWeak c) x w e = absurd (true≢false e)
allocs-kept sh s PublishCells x w e = absurd (true≢false e)
allocs-kept sh s StoreAlloc x w e = absurd (true≢false e)
allocs-kept sh s (StoreNew c part word) x w e = at_part (λ at. (put_word at x w).allocs ≡ w.allocs) sh c part (λ i. refl) (λ i. refl) (λ i. refl)
allocs-kept sh s (Reset which) x w e = at_counter (λ at. (put_word at x w).allocs ≡ w.allocs) which (λ i h. refl) (λ i. refl)
allocs-kept sh s (AddStat which by down) x w e = at_counter (λ at. (put_word at x w).allocs ≡ w.allocs) which (λ i h. refl) (λ i. refl)
allocs-kept sh s (ReadStat which) x w e = at_counter (λ at. (put_word at x w).allocs ≡ w.allocs) which (λ i h. refl) (λ i. refl)
allocs-kept sh s step x w e = refl

-- the mark bits
abbrev pub touches_marks : Step → Bool
touches_marks (SetMark c) = true
touches_marks (ReadMarks b) = true
touches_marks ReadBlockMarks = true
touches_marks ClearMarks = true
touches_marks step = false

pub marks-kept : (sh : Shape) (s : SeatState) (step : Step) (v : ℕ) (w : Words) → touches_marks step ≡ false → (put_word (place sh s step) v w).marks ≡ w.marks
marks-kept sh s (SetMark c) x w e = absurd (true≢false e)
marks-kept sh s (ReadMarks b) x w e = absurd (true≢false e)
marks-kept sh s ReadBlockMarks x w e = absurd (true≢false e)
marks-kept sh s ClearMarks x w e = absurd (true≢false e)
marks-kept sh s (StoreNew c part word) x w e = at_part (λ at. (put_word at x w).marks ≡ w.marks) sh c part (λ i. refl) (λ i. refl) (λ i. refl)
marks-kept sh s (Reset which) x w e = at_counter (λ at. (put_word at x w).marks ≡ w.marks) which (λ i h. refl) (λ i. refl)
marks-kept sh s (AddStat which by down) x w e = at_counter (λ at. (put_word at x w).marks ≡ w.marks) which (λ i h. refl) (λ i. refl)
marks-kept sh s (ReadStat which) x w e = at_counter (λ at. (put_word at x w).marks ≡ w.marks) which (λ i h. refl) (λ i. refl)
marks-kept sh s step x w e = refl

-- the cards
abbrev pub touches_cards : Step → Bool
touches_cards (DirtyCard card) = true
touches_cards (ClearCard card) = true
touches_cards (ReadCard card) = true
touches_cards (CheckCard card) = true
touches_cards (WipeCard card) = true
touches_cards step = false

pub cards-kept : (sh : Shape) (s : SeatState) (step : Step) (v : ℕ) (w : Words) → touches_cards step ≡ false → (put_word (place sh s step) v w).cards ≡ w.cards
cards-kept sh s (DirtyCard card) x w e = absurd (true≢false e)
cards-kept sh s (ClearCard card) x w e = absurd (true≢false e)
cards-kept sh s (ReadCard card) x w e = absurd (true≢false e)
cards-kept sh s (CheckCard card) x w e = absurd (true≢false e)
cards-kept sh s (WipeCard card) x w e = absurd (true≢false e)
cards-kept sh s (StoreNew c part word) x w e = at_part (λ at. (put_word at x w).cards ≡ w.cards) sh c part (λ i. refl) (λ i. refl) (λ i. refl)
cards-kept sh s (Reset which) x w e = at_counter (λ at. (put_word at x w).cards ≡ w.cards) which (λ i h. refl) (λ i. refl)
cards-kept sh s (AddStat which by down) x w e = at_counter (λ at. (put_word at x w).cards ≡ w.cards) which (λ i h. refl) (λ i. refl)
cards-kept sh s (ReadStat which) x w e = at_counter (λ at. (put_word at x w).cards ≡ w.cards) which (λ i h. refl) (λ i. refl)
cards-kept sh s step x w e = refl

-- the heads of packets
abbrev pub touches_heads : Step → Bool
touches_heads (StoreLength p) = true
touches_heads (ReadLength p) = true
touches_heads step = false

pub heads-kept : (sh : Shape) (s : SeatState) (step : Step) (v : ℕ) (w : Words) → touches_heads step ≡ false → (put_word (place sh s step) v w).heads ≡ w.heads
heads-kept sh s (StoreLength p) x w e = absurd (true≢false e)
heads-kept sh s (ReadLength p) x w e = absurd (true≢false e)
heads-kept sh s (StoreNew c part word) x w e = at_part (λ at. (put_word at x w).heads ≡ w.heads) sh c part (λ i. refl) (λ i. refl) (λ i. refl)
heads-kept sh s (Reset which) x w e = at_counter (λ at. (put_word at x w).heads ≡ w.heads) which (λ i h. refl) (λ i. refl)
heads-kept sh s (AddStat which by down) x w e = at_counter (λ at. (put_word at x w).heads ≡ w.heads) which (λ i h. refl) (λ i. refl)
heads-kept sh s (ReadStat which) x w e = at_counter (λ at. (put_word at x w).heads ≡ w.heads) which (λ i h. refl) (λ i. refl)
heads-kept sh s step x w e = refl

-- the entries of packets
abbrev pub touches_entries : Step → Bool
touches_entries (Push p c) = true
touches_entries (Pop p) = true
touches_entries step = false

pub entries-kept : (sh : Shape) (s : SeatState) (step : Step) (v : ℕ) (w : Words) → touches_entries step ≡ false → (put_word (place sh s step) v w).entries ≡ w.entries
entries-kept sh s (Push p c) x w e = absurd (true≢false e)
entries-kept sh s (Pop p) x w e = absurd (true≢false e)
entries-kept sh s (StoreNew c part word) x w e = at_part (λ at. (put_word at x w).entries ≡ w.entries) sh c part (λ i. refl) (λ i. refl) (λ i. refl)
entries-kept sh s (Reset which) x w e = at_counter (λ at. (put_word at x w).entries ≡ w.entries) which (λ i h. refl) (λ i. refl)
entries-kept sh s (AddStat which by down) x w e = at_counter (λ at. (put_word at x w).entries ≡ w.entries) which (λ i h. refl) (λ i. refl)
entries-kept sh s (ReadStat which) x w e = at_counter (λ at. (put_word at x w).entries ≡ w.entries) which (λ i h. refl) (λ i. refl)
entries-kept sh s step x w e = refl

-- the identities of cells
abbrev pub touches_identities : Step → Bool
touches_identities (ReadIdent c) = true
touches_identities (StoreNew c part word) = true
touches_identities step = false

pub identities-kept : (sh : Shape) (s : SeatState) (step : Step) (v : ℕ) (w : Words) → touches_identities step ≡ false → (put_word (place sh s step) v w).identities ≡ w.identities
identities-kept sh s (ReadIdent c) x w e = absurd (true≢false e)
identities-kept sh s (StoreNew c part word) x w e = absurd (true≢false e)
identities-kept sh s (Reset which) x w e = at_counter (λ at. (put_word at x w).identities ≡ w.identities) which (λ i h. refl) (λ i. refl)
identities-kept sh s (AddStat which by down) x w e = at_counter (λ at. (put_word at x w).identities ≡ w.identities) which (λ i h. refl) (λ i. refl)
identities-kept sh s (ReadStat which) x w e = at_counter (λ at. (put_word at x w).identities ≡ w.identities) which (λ i h. refl) (λ i. refl)
identities-kept sh s step x w e = refl

-- the fields of cells
abbrev pub touches_fields : Step → Bool
touches_fields (ReadField c i) = true
touches_fields (ReadOwn c i) = true
touches_fields (StoreField v i x) = true
touches_fields (ExchangeField v i x y) = true
touches_fields (StoreNew c part word) = true
touches_fields step = false

pub fields-kept : (sh : Shape) (s : SeatState) (step : Step) (v : ℕ) (w : Words) → touches_fields step ≡ false → (put_word (place sh s step) v w).fields ≡ w.fields
fields-kept sh s (ReadField c i) x w e = absurd (true≢false e)
fields-kept sh s (ReadOwn c i) x w e = absurd (true≢false e)
fields-kept sh s (StoreField v i y) x w e = absurd (true≢false e)
fields-kept sh s (ExchangeField v i y z) x w e = absurd (true≢false e)
fields-kept sh s (StoreNew c part word) x w e = absurd (true≢false e)
fields-kept sh s (Reset which) x w e = at_counter (λ at. (put_word at x w).fields ≡ w.fields) which (λ i h. refl) (λ i. refl)
fields-kept sh s (AddStat which by down) x w e = at_counter (λ at. (put_word at x w).fields ≡ w.fields) which (λ i h. refl) (λ i. refl)
fields-kept sh s (ReadStat which) x w e = at_counter (λ at. (put_word at x w).fields ≡ w.fields) which (λ i h. refl) (λ i. refl)
fields-kept sh s step x w e = refl

-- the pools
abbrev pub touches_pools : Step → Bool
touches_pools (Take q p) = true
touches_pools (Give p deferred) = true
touches_pools (Look q g) = true
touches_pools step = false

pub pools-kept : (sh : Shape) (s : SeatState) (step : Step) (v : ℕ) (w : Words) → touches_pools step ≡ false → (put_word (place sh s step) v w).pools ≡ w.pools
pools-kept sh s (Take q p) x w e = absurd (true≢false e)
pools-kept sh s (Give p deferred) x w e = absurd (true≢false e)
pools-kept sh s (Look q g) x w e = absurd (true≢false e)
pools-kept sh s (StoreNew c part word) x w e = at_part (λ at. (put_word at x w).pools ≡ w.pools) sh c part (λ i. refl) (λ i. refl) (λ i. refl)
pools-kept sh s (Reset which) x w e = at_counter (λ at. (put_word at x w).pools ≡ w.pools) which (λ i h. refl) (λ i. refl)
pools-kept sh s (AddStat which by down) x w e = at_counter (λ at. (put_word at x w).pools ≡ w.pools) which (λ i h. refl) (λ i. refl)
pools-kept sh s (ReadStat which) x w e = at_counter (λ at. (put_word at x w).pools ≡ w.pools) which (λ i h. refl) (λ i. refl)
pools-kept sh s step x w e = refl
