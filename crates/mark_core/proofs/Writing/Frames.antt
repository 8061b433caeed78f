-- Which steps change what of the seat that takes them. Each other step leaves it, and so leaves the rules that read nothing else of the seats.
use Rattle.std.proofs.Common.{ℕ, ◌≡◌, ◌<◌, List, map, set, get_or, length, refl, ap, ◌∙◌, subst, Bool, true, false, Option}
use Rattle.std.proofs.lemmas.Bool.{true≢false}
use Rattle.std.proofs.lemmas.List.{map-set, set-get_or, get_or-map}
use Rattle.mark_core.specs.Held.{Slots}
use Rattle.mark_core.specs.Views.{standing_of, grasp_of, maker_of}
use Rattle.mark_core.specs.Effects.{seat_after}
use Rattle.mark_core.specs.declared.kinds.Shape.{Shape}
use Rattle.mark_core.specs.declared.kinds.Phase.{Phase}
use Rattle.mark_core.specs.declared.kinds.Step.{Step}
use Rattle.mark_core.specs.declared.kinds.Step.TheVariants.{Reserve, Take, Give, Credit, Push, Pop, ReadAlloc, ReadField, ReadRoot, SetMark, DirtyCard, ClearCard, ReadMarks, ReadPhase, ReadOwn, ReadCat, StoreField, StoreRoot, ClaimBlock, ReleaseBlock, ReadFree, StoreNew, PublishCells, EnterStep, LeaveStep, RaiseStep, Observe, DropStep, StorePhase, NextBlock, NextOfCards, ReadBlockMarks, StoreAlloc, ClearMarks, ReadStat, StoreLength, ReadLength, OpenStep, JoinHelpStep, LeaveHelpStep, CloseStep, SeeHelp, ReadSeason, ExchangeField, LoadSlot, StoreSlot, ReadSlot, ReadWeak, CheckCard, HoldRoot}
use Rattle.mark_core.specs.declared.seat.SeatState.{SeatState}
use Rattle.mark_core.specs.declared.seat.BlockState.{BlockState}

abbrev pub held_of : SeatState → Slots
held_of s = s.held

abbrev pub block_of : SeatState → Option BlockState
block_of s = s.block

abbrev pub debts_of : SeatState → Bool × Bool
debts_of s = (s.reserved, s.credit)

abbrev pub names_of : SeatState → List ℕ × ℕ
names_of s = (s.env, s.got)

abbrev pub sights_of : SeatState → Option Phase × Option ℕ
sights_of s = (s.phase_seen, s.season_seen)

abbrev pub exact_of : SeatState → Bool
exact_of s = s.exact

abbrev pub readings_of : SeatState → Bool × Bool
readings_of s = (s.below_card, s.below_block)

-- who the seat is, which no step changes
abbrev pub identity_of : SeatState → ℕ × Option ℕ × Bool
identity_of s = (s.number, s.section, s.spent)

pub identity-kept : (sh : Shape) (s : SeatState) (step : Step) (old : ℕ) → identity_of (seat_after sh s step old) ≡ identity_of s
identity-kept sh s Reserve old = refl
identity-kept sh s step old = refl

-- how it stands to the world
abbrev pub changes_standing : Step → Bool
changes_standing EnterStep = true
changes_standing LeaveStep = true
changes_standing RaiseStep = true
changes_standing Observe = true
changes_standing DropStep = true
changes_standing OpenStep = true
changes_standing JoinHelpStep = true
changes_standing LeaveHelpStep = true
changes_standing CloseStep = true
changes_standing SeeHelp = true
changes_standing step = false

pub standing-kept : (sh : Shape) (s : SeatState) (step : Step) (old : ℕ) → changes_standing step ≡ false → standing_of (seat_after sh s step old) ≡ standing_of s
standing-kept sh s EnterStep old e = absurd (true≢false e)
standing-kept sh s LeaveStep old e = absurd (true≢false e)
standing-kept sh s RaiseStep old e = absurd (true≢false e)
standing-kept sh s Observe old e = absurd (true≢false e)
standing-kept sh s DropStep old e = absurd (true≢false e)
standing-kept sh s OpenStep old e = absurd (true≢false e)
standing-kept sh s JoinHelpStep old e = absurd (true≢false e)
standing-kept sh s LeaveHelpStep old e = absurd (true≢false e)
standing-kept sh s CloseStep old e = absurd (true≢false e)
standing-kept sh s SeeHelp old e = absurd (true≢false e)
standing-kept sh s step old e = refl

-- the packets that it holds
abbrev pub changes_held : Step → Bool
changes_held (Take q p) = true
changes_held (Give p deferred) = true
changes_held (Push p c) = true
changes_held (Pop p) = true
changes_held (StoreLength p) = true
changes_held (ReadLength p) = true
changes_held step = false

pub held-kept : (sh : Shape) (s : SeatState) (step : Step) (old : ℕ) → changes_held step ≡ false → held_of (seat_after sh s step old) ≡ held_of s
held-kept sh s (Take q p) old e = absurd (true≢false e)
held-kept sh s (Give p deferred) old e = absurd (true≢false e)
held-kept sh s (Push p c) old e = absurd (true≢false e)
held-kept sh s (Pop p) old e = absurd (true≢false e)
held-kept sh s (StoreLength p) old e = absurd (true≢false e)
held-kept sh s (ReadLength p) old e = absurd (true≢false e)
held-kept sh s step old e = refl

-- what it has of the colour of cells
abbrev pub changes_grasp : Step → Bool
changes_grasp (Push p c) = true
changes_grasp (Pop p) = true
changes_grasp (ReadAlloc b) = true
changes_grasp (ReadField c i) = true
changes_grasp (ReadRoot section v) = true
changes_grasp (LoadSlot section k) = true
changes_grasp (SetMark c) = true
changes_grasp (DirtyCard card) = true
changes_grasp (CheckCard card) = true
changes_grasp (ClearCard card) = true
changes_grasp (ReadMarks b) = true
changes_grasp (StoreField v i x) = true
changes_grasp (ExchangeField v i x y) = true
changes_grasp step = false

pub grasp-kept : (sh : Shape) (s : SeatState) (step : Step) (old : ℕ) → changes_grasp step ≡ false → grasp_of (seat_after sh s step old) ≡ grasp_of s
grasp-kept sh s (Push p c) old e = absurd (true≢false e)
grasp-kept sh s (Pop p) old e = absurd (true≢false e)
grasp-kept sh s (ReadAlloc b) old e = absurd (true≢false e)
grasp-kept sh s (ReadField c i) old e = absurd (true≢false e)
grasp-kept sh s (ReadRoot section v) old e = absurd (true≢false e)
grasp-kept sh s (LoadSlot section k) old e = absurd (true≢false e)
grasp-kept sh s (SetMark c) old e = absurd (true≢false e)
grasp-kept sh s (DirtyCard card) old e = absurd (true≢false e)
grasp-kept sh s (CheckCard card) old e = absurd (true≢false e)
grasp-kept sh s (ClearCard card) old e = absurd (true≢false e)
grasp-kept sh s (ReadMarks b) old e = absurd (true≢false e)
grasp-kept sh s (StoreField v i x) old e = absurd (true≢false e)
grasp-kept sh s (ExchangeField v i x y) old e = absurd (true≢false e)
grasp-kept sh s step old e = refl

-- the cells that it makes
abbrev pub changes_maker : Step → Bool
changes_maker (ClaimBlock b) = true
changes_maker ReleaseBlock = true
changes_maker ReadFree = true
changes_maker (StoreNew c part word) = true
changes_maker PublishCells = true
changes_maker step = false

pub maker-kept : (sh : Shape) (s : SeatState) (step : Step) (old : ℕ) → changes_maker step ≡ false → maker_of (seat_after sh s step old) ≡ maker_of s
maker-kept sh s (ClaimBlock b) old e = absurd (true≢false e)
maker-kept sh s ReleaseBlock old e = absurd (true≢false e)
maker-kept sh s ReadFree old e = absurd (true≢false e)
maker-kept sh s (StoreNew c part word) old e = absurd (true≢false e)
maker-kept sh s PublishCells old e = absurd (true≢false e)
maker-kept sh s step old e = refl

-- the block in hand
abbrev pub changes_block : Step → Bool
changes_block (ReadAlloc b) = true
changes_block NextBlock = true
changes_block ReadBlockMarks = true
changes_block StoreAlloc = true
changes_block ClearMarks = true
changes_block step = false

pub block-kept : (sh : Shape) (s : SeatState) (step : Step) (old : ℕ) → changes_block step ≡ false → block_of (seat_after sh s step old) ≡ block_of s
block-kept sh s (ReadAlloc b) old e = absurd (true≢false e)
block-kept sh s NextBlock old e = absurd (true≢false e)
block-kept sh s ReadBlockMarks old e = absurd (true≢false e)
block-kept sh s StoreAlloc old e = absurd (true≢false e)
block-kept sh s ClearMarks old e = absurd (true≢false e)
block-kept sh s step old e = refl

-- its reservation and its credit
abbrev pub changes_debts : Step → Bool
changes_debts Reserve = true
changes_debts (Take q p) = true
changes_debts (Give p deferred) = true
changes_debts Credit = true
changes_debts step = false

pub debts-kept : (sh : Shape) (s : SeatState) (step : Step) (old : ℕ) → changes_debts step ≡ false → debts_of (seat_after sh s step old) ≡ debts_of s
debts-kept sh s Reserve old e = absurd (true≢false e)
debts-kept sh s (Take q p) old e = absurd (true≢false e)
debts-kept sh s (Give p deferred) old e = absurd (true≢false e)
debts-kept sh s Credit old e = absurd (true≢false e)
debts-kept sh s step old e = refl

-- its variables and its register
abbrev pub changes_names : Step → Bool
changes_names (ReadOwn c i) = true
changes_names (ReadCat v) = true
changes_names (StoreRoot v r) = true
changes_names (StoreSlot k r) = true
changes_names (ReadSlot k) = true
changes_names (ReadWeak c) = true
changes_names (HoldRoot v r) = true
changes_names step = false

pub names-kept : (sh : Shape) (s : SeatState) (step : Step) (old : ℕ) → changes_names step ≡ false → names_of (seat_after sh s step old) ≡ names_of s
names-kept sh s (ReadOwn c i) old e = absurd (true≢false e)
names-kept sh s (ReadCat v) old e = absurd (true≢false e)
names-kept sh s (StoreRoot v r) old e = absurd (true≢false e)
names-kept sh s (StoreSlot k r) old e = absurd (true≢false e)
names-kept sh s (ReadSlot k) old e = absurd (true≢false e)
names-kept sh s (ReadWeak c) old e = absurd (true≢false e)
names-kept sh s (HoldRoot v r) old e = absurd (true≢false e)
names-kept sh s step old e = refl

-- the phase and the season that it has seen
abbrev pub changes_sights : Step → Bool
changes_sights ReadPhase = true
changes_sights EnterStep = true
changes_sights LeaveStep = true
changes_sights DropStep = true
changes_sights LeaveHelpStep = true
changes_sights ReadSeason = true
changes_sights step = false

pub sights-kept : (sh : Shape) (s : SeatState) (step : Step) (old : ℕ) → changes_sights step ≡ false → sights_of (seat_after sh s step old) ≡ sights_of s
sights-kept sh s ReadPhase old e = absurd (true≢false e)
sights-kept sh s EnterStep old e = absurd (true≢false e)
sights-kept sh s LeaveStep old e = absurd (true≢false e)
sights-kept sh s DropStep old e = absurd (true≢false e)
sights-kept sh s LeaveHelpStep old e = absurd (true≢false e)
sights-kept sh s ReadSeason old e = absurd (true≢false e)
sights-kept sh s step old e = refl

-- whether its drain began with no cell marked
abbrev pub changes_exact : Step → Bool
changes_exact DropStep = true
changes_exact (StorePhase to) = true
changes_exact step = false

pub exact-kept : (sh : Shape) (s : SeatState) (step : Step) (old : ℕ) → changes_exact step ≡ false → exact_of (seat_after sh s step old) ≡ exact_of s
exact-kept sh s DropStep old e = absurd (true≢false e)
exact-kept sh s (StorePhase to) old e = absurd (true≢false e)
exact-kept sh s step old e = refl

-- the counters that it read below their end
abbrev pub changes_readings : Step → Bool
changes_readings NextBlock = true
changes_readings NextOfCards = true
changes_readings (ReadStat which) = true
changes_readings step = false

pub readings-kept : (sh : Shape) (s : SeatState) (step : Step) (old : ℕ) → changes_readings step ≡ false → readings_of (seat_after sh s step old) ≡ readings_of s
readings-kept sh s NextBlock old e = absurd (true≢false e)
readings-kept sh s NextOfCards old e = absurd (true≢false e)
readings-kept sh s (ReadStat which) old e = absurd (true≢false e)
readings-kept sh s step old e = refl

-- a list of what is read of each seat stays, if one seat changes in nothing of this
pub projection-kept : {Y : Type 0} (f : SeatState → Y) (seats : List SeatState) (i : ℕ) (s t : SeatState) → i < length seats → get_or seats i s ≡ s → f t ≡ f s → map f (set seats i t) ≡ map f seats
projection-kept {Y} f seats i s t hi is e =
    let old : get_or (map f seats) i (f s) ≡ f s = get_or-map f seats i s (f s) hi ∙ ap f is in
    map-set f seats i t ∙ rw e (subst (λ (v : Y). set (map f seats) i v ≡ map f seats) old (set-get_or (map f seats) i (f s)))
