-- What the events of a pass over cards tell that cleans the dirty ones.
use Rattle.std.specs.Prelude.{ℕ, zero, suc, ◌≡◌, ◌<◌, ◌+◌, ◌-◌, ◌*◌, ◌/◌, ◌%◌, ◌⊎◌, min, List, [], ◌∷◌, ◌++◌, IsTrue}
use Rattle.mark_core.specs.Layout.{card_count}
use Rattle.mark_core.specs.declared.kinds.Shape.{Shape}
use Rattle.mark_core.specs.declared.kinds.Step.TheVariants.{ReadCard}
use Rattle.gc_table.specs.declared.view.Entry.{Entry}
use Rattle.gc_table.specs.Log.{event}
use Rattle.packet_pools.specs.Seeking.{only_moves, output_pools}
use Rattle.card_clean.specs.declared.cleaned.Cleaned.{Cleaned}
use Rattle.card_clean.specs.Cleaning.{Cleans}
use Rattle.card_clean.specs.Looking.{looks_clean, looks_dirty}
use Rattle.card_clean.specs.Taking.{CleansWithPacket, NoPacket}

-- the card was seen clean, or it was seen dirty and cleaned
pub record CleanedWhereDirty (sh : Shape) (card n : ℕ) (es : List Entry) : Type 0 where
  pub cleaning : List Entry
  pub told : ((n ≡ 0) × (es ≡ event (ReadCard card) 0 ∷ []) × (cleaning ≡ [])) ⊎ ((r : Cleaned) × (n ≡ r.rescanned) × (es ≡ event (ReadCard card) 1 ∷ cleaning) × Cleans sh card r cleaning)

-- this many cards from this one on were each seen clean, or seen dirty and cleaned, in order; in all, n cells were scanned again
abbrev pub CleanedFrom : Shape → ℕ → ℕ → ℕ → List Entry → Type 0
CleanedFrom sh from zero n es = (n ≡ 0) × (es ≡ [])
CleanedFrom sh from (suc k) n es = (a b : ℕ) × (xs ys : List Entry) × (es ≡ xs ++ ys) × (n ≡ a + b) × CleanedFrom sh from k a xs × CleanedWhereDirty sh (from + k) b ys

-- every card was seen clean; or one was seen dirty, and then no packet was found, or each card from it on was cleaned if it was dirty
abbrev pub CleansDirty : Shape → ℕ → List Entry → Type 0
CleansDirty sh n es =
    ((n ≡ 0) × (es ≡ looks_clean 0 (card_count sh)))
    ⊎ ((card : ℕ) × (card < card_count sh) × (rest : List Entry) × (es ≡ looks_dirty 0 card ++ rest) × (((n ≡ 0) × NoPacket sh rest × IsTrue (only_moves output_pools rest)) ⊎ CleansWithPacket sh (CleanedFrom sh card (card_count sh - card) n) rest))

-- every card was seen clean; or one was seen dirty, and then each card from it on was cleaned if it was dirty
abbrev pub CleansAllDirty : Shape → ℕ → List Entry → Type 0
CleansAllDirty sh n es =
    ((n ≡ 0) × (es ≡ looks_clean 0 (card_count sh)))
    ⊎ ((card : ℕ) × (card < card_count sh) × (rest : List Entry) × (es ≡ looks_dirty 0 card ++ rest) × CleansWithPacket sh (CleanedFrom sh card (card_count sh - card) n) rest)

-- this many cards are passed with one packet
abbrev pub stretch_cards : ℕ
stretch_cards = 4096

-- this many stretches have all cards of a heap
abbrev pub stretch_count : Shape → ℕ
stretch_count sh = (card_count sh + (stretch_cards - 1)) / stretch_cards

-- stretch s was passed with a packet, and each of its cards was seen clean, or seen dirty and cleaned; or no packet was found for it
abbrev pub CleansStretch : Shape → ℕ → ℕ → List Entry → Type 0
CleansStretch sh s n es =
    ((n ≡ 0) × NoPacket sh es × IsTrue (only_moves output_pools es))
    ⊎ CleansWithPacket sh (CleanedFrom sh (s * stretch_cards) (min (s * stretch_cards + stretch_cards) (card_count sh) - s * stretch_cards) n) es

-- this many stretches from this one on, and round where the cards end, were passed in order; in all, n cells were scanned again
abbrev pub CleansStretches : Shape → ℕ → ℕ → ℕ → List Entry → Type 0
CleansStretches sh first zero n es = (n ≡ 0) × (es ≡ [])
CleansStretches sh first (suc k) n es =
    (a b : ℕ) × (xs ys : List Entry) × (es ≡ xs ++ ys) × (n ≡ a + b) × CleansStretches sh first k a xs × CleansStretch sh ((first + k) % stretch_count sh) b ys

-- all stretches were passed, from one of them on and round
pub record CleansRound (sh : Shape) (n : ℕ) (es : List Entry) : Type 0 where
  pub first : ℕ
  pub passed : CleansStretches sh first (stretch_count sh) n es
