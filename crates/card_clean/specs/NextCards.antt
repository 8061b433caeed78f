-- Cards of the pass that are drawn one after another, and the dirty ones cleaned with one packet: exactly which steps it takes. Each is told of what the seat
-- knew before and after.
use Rattle.std.specs.Prelude.{ℕ, ◌≡◌, ◌<◌, ◌+◌, ◌⊎◌, ◌==◌, List, [], ◌∷◌, length, Bool, true, false, Some, None, IsTrue}
use Rattle.mark_core.specs.Numbers.{card_counter}
use Rattle.mark_core.specs.declared.kinds.Step.{Step}
use Rattle.mark_core.specs.declared.kinds.Step.TheVariants.{NextOfCards, ReadCard, ReadStat}
use Rattle.gc_table.specs.Entries.{won}
use Rattle.gc_table.specs.Log.{Only, events}
use Rattle.gc_table.specs.Running.{Ran}
use Rattle.gc_table.specs.Seats.{Answered}
use Rattle.gc_table.specs.declared.view.View.{View}
use Rattle.packet_pools.specs.OnlyTraced.{rest_of, traces_cells}
use Rattle.packet_pools.specs.Seeking.{NoOutput, only_moves, output_pools}
use Rattle.packet_pools.specs.Tried.{OverflowsLast}
use Rattle.card_clean.specs.Cleaning.{Cleans}
use Rattle.card_clean.specs.Drained.{IsRooted}
use Rattle.card_clean.specs.Passing.{DrawsCard}
use Rattle.card_clean.specs.declared.cleaned.Cleaned.{Cleaned}

-- a step of the pass: a card is drawn, looked at or cleaned
abbrev pub passes_cards : Step → Bool
passes_cards NextOfCards = true
passes_cards (ReadStat which) = which == card_counter
passes_cards step = traces_cells step

-- the seat took such steps, and did nothing else
pub record OnlyPassed (v w : View) : Type 0 where
  pub ran : Ran v w
  pub only : Only passes_cards v w
  pub own : w.own ≡ v.own
  pub rest : rest_of w.state ≡ record (rest_of v.state) { below_card = w.state.below_card }
  -- roots that were seen to stay so
  pub rooted : IsRooted v → IsRooted w

-- the next card was drawn and read: so it was dirty, or clean
pub record SeesNext (dirty : Bool) (card : ℕ) (v w : View) : Type 0 where
  pub drawn : View
  pub draws : DrawsCard (Some card) v drawn
  pub reads : Answered (ReadCard card) (λ n. dirty ≡ won (ReadCard card) n) drawn w

-- a list of looks at the next cards, each of which was clean; the list has the views before them, latest first
abbrev pub SeesClean : List View → View → View → Type 0
SeesClean [] v w = w ≡ v
SeesClean (u ∷ us) v w = SeesClean us v u × ((card : ℕ) × SeesNext false card u w)

-- a dirty card was cleaned, and with a clean one nothing was done
abbrev pub CleansIf : Bool → ℕ → View → View → Type 0
CleansIf true card v w = Ran v w × ((r : Cleaned) × Cleans v.shape card r (events v w))
CleansIf false card v w = w ≡ v

-- the card was read once, and cleaned if it was dirty
pub record LooksAtCard (card : ℕ) (v w : View) : Type 0 where
  pub dirty : Bool
  pub read : View
  pub reads : Answered (ReadCard card) (λ n. dirty ≡ won (ReadCard card) n) v read
  pub cleans : CleansIf dirty card read w

-- a round: the next card was drawn and looked at
pub record PassesNext (v w : View) : Type 0 where
  pub card : ℕ
  pub drawn : View
  pub draws : DrawsCard (Some card) v drawn
  pub looks : LooksAtCard card drawn w

-- a list of rounds, each of which starts where the last one ended; the list has the views before them, latest first
abbrev pub PassesEach : List View → View → View → Type 0
PassesEach [] v w = w ≡ v
PassesEach (u ∷ us) v w = PassesEach us v u × PassesNext u w

-- why cards are no longer passed: as many were as are to be, or, where that may be, enough was found; or no card is left
abbrev pub EndsPass : Bool → ℕ → ℕ → ℕ → View → View → Type 0
EndsPass early passed left looks v w = ((w ≡ v) × (passed + left ≡ looks) × ((left ≡ 0) ⊎ IsTrue early)) ⊎ (DrawsCard None v w × (passed < looks) × (left ≡ 0))

-- rounds until the pass ends
pub record PassesOn (early : Bool) (left looks : ℕ) (v w : View) : Type 0 where
  pub rounds : List View
  pub last : View
  pub passes : PassesEach rounds v last
  pub ends : EndsPass early (length rounds) left looks last w

-- a packet was taken for a card that was seen dirty, the card was cleaned, and then cards were passed with the packet, which was given back; meanwhile a cell that
-- was marked was left to its card only after all packets were tried
pub record PassesWithPacket (early : Bool) (left looks card : ℕ) (v w : View) : Type 0 where
  pub taken : View
  pub took : Ran v taken
  pub takes : IsTrue (only_moves output_pools (events v taken))
  pub cleaned : View
  pub result : Cleaned
  pub cleaning : Ran taken cleaned
  pub cleans : Cleans v.shape card result (events taken cleaned)
  pub passed : View
  pub passes : PassesOn early left looks cleaned passed
  pub tried : OverflowsLast v.shape (events taken passed)
  pub gave : Ran passed w
  pub gives : IsTrue (only_moves output_pools (events passed w))

-- cards were drawn up to the first dirty one, which was this many looks before the end
pub record MeetsDirty (left looks card : ℕ) (v w : View) : Type 0 where
  pub clean : List View
  pub met : View
  pub before : SeesClean clean v met
  pub sees : SeesNext true card met w
  pub looked : length clean + 1 + left ≡ looks

-- cards were drawn, and none of them was dirty: as many as there are looks, or fewer, and then no card was left
pub record MeetsNone (looks : ℕ) (v w : View) : Type 0 where
  pub clean : List View
  pub met : View
  pub before : SeesClean clean v met
  pub ends : ((length clean ≡ looks) × (w ≡ met)) ⊎ ((length clean < looks) × DrawsCard None met w)

-- cards were passed, each with at most one look of these; a packet was taken at the first dirty one, for it and all that follow; so many looks are left
pub record PassesNextCards (early : Bool) (left looks : ℕ) (v w : View) : Type 0 where
  pub more : ℕ
  pub card : ℕ
  pub seen : View
  pub meets : MeetsDirty more looks card v seen
  pub passes : PassesWithPacket early left more card seen w

-- no card was cleaned: none was dirty, or no packet with room was found for the first dirty one
abbrev pub PassesNone : ℕ → View → View → Type 0
PassesNone looks v w =
    MeetsNone looks v w ⊎ ((more card : ℕ) × (seen : View) × MeetsDirty more looks card v seen × Ran seen w × NoOutput v.shape (events seen w) × IsTrue (only_moves output_pools (events seen w)))
