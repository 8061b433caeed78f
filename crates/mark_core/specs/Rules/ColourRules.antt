-- The rules of colour: a white cell isn't marked, a grey one waits to be scanned, and a black one names no white cell.
use Rattle.std.specs.Prelude.{ℕ, ◌≡◌, ◌-◌, ◌<◌, List, Bool, false, not, ◌&&◌, ◌||◌, ◌==◌, nat_le, IsTrue, IsFalse, IfSome, slice_index, Option, Some, None}
use Rattle.std.specs.List.{All, list_any}
use Rattle.mark_core.specs.Shapes.{EachCell, EachField, EachPacket}
use Rattle.mark_core.specs.Held.{Slots}
use Rattle.mark_core.specs.Bits.{cell_bit, nil_or}
use Rattle.mark_core.specs.Seats.{is_the, scan_left, left_in, may_scan}
use Rattle.mark_core.specs.Views.{Grasp, Maker}
use Rattle.mark_core.specs.Cells.{in_use, packet_length, entry, field, IsQueued}
use Rattle.mark_core.specs.Rules.WorldRules.{is_tracing}
use Rattle.mark_core.specs.declared.kinds.Shape.{Shape}
use Rattle.mark_core.specs.declared.seat.Cleaning.{Cleaning}
use Rattle.mark_core.specs.Cards.{card_of}

-- the popped cell is c
abbrev pub popped_is : Option (ℕ × Bool) → ℕ → Bool
popped_is None c = false
popped_is (Some x) c = x.0 == c

-- the seat has cell c in hand, and will push it, scan it, or dirty its card
abbrev pub tends : ℕ → Grasp → Bool
tends c g = popped_is g.popped c || is_the g.fresh c || left_in g.cleaning c

-- the seat has cleaned the card, and doesn't know its cells yet or will dirty it again
abbrev pub cleans : Option Cleaning → ℕ → Bool
cleans None card = false
cleans (Some x) card = (x.card == card) && (not x.known || x.redirty)

-- the seat will find or dirty the cells of the card that it cleaned
abbrev pub cleans_card : ℕ → Grasp → Bool
cleans_card card g = cleans g.cleaning card

-- the seat has stored a field of a cell of the card, and is about to dirty it
abbrev pub owes_card : ℕ → Grasp → Bool
owes_card card g = is_the g.owes card

-- the scan stands in cell c, at field i or before
abbrev pub is_unread_by : Option (ℕ × ℕ) → ℕ → ℕ → Bool
is_unread_by None c i = false
is_unread_by (Some x) c i = (x.0 == c) && nat_le x.1 i

-- the seat scans cell c, and field i is still to come
abbrev pub will_read : ℕ → ℕ → Grasp → Bool
will_read c i g = is_unread_by g.scan c i

-- the seat has loaded cell c, and is about to mark it
abbrev pub has_value : ℕ → Grasp → Bool
has_value c g = is_the g.value c

-- the cell is marked, or a value that some seat is about to mark
abbrev pub is_marked_soon : List ℕ → List Grasp → ℕ → Bool
is_marked_soon marks gs c = cell_bit marks c || list_any (has_value c) gs

-- the word isn't nil, and names a cell with this property
abbrev pub goes_to : (ℕ → Bool) → ℕ → Bool
goes_to p word = not (word == 0) && p (word - 1)

-- what is marked
pub record AreMarksSound (sh : Shape) (phase : ℕ) (allocs marks heads entries : List ℕ) (hs : List Slots) (gs : List Grasp) (ms : List Maker) : Type 0 where
  pub marked_in_use : EachCell sh (λ c. IsTrue (cell_bit marks c) → IsTrue (in_use allocs ms c))
  pub entries_marked : IsTrue (is_tracing phase) → EachPacket sh (λ p. (k : ℕ) → k < packet_length heads hs p → IsTrue (goes_to (cell_bit marks) (entry sh entries p k)))
  pub popped_marked : IsTrue (is_tracing phase) → All (λ (g : Grasp). IfSome g.popped (λ x. IsTrue (cell_bit marks x.0))) gs
  pub fresh_marked : IsTrue (is_tracing phase) → All (λ (g : Grasp). IfSome g.fresh (λ c. IsTrue (cell_bit marks c))) gs
  -- a cell is in scan while a field of it is left
  pub scan_marked : IsTrue (is_tracing phase) → All (λ (g : Grasp). IsTrue (scan_left sh.fields g.scan) → IfSome g.scan (λ x. IsTrue (cell_bit marks x.0))) gs
  pub left_marked : IsTrue (is_tracing phase) → (c : ℕ) → All (λ (g : Grasp). IsTrue (left_in g.cleaning c) → IsTrue (cell_bit marks c)) gs
  -- what is scanned is published, and so is what may be
  pub scan_published : All (λ (g : Grasp). IsTrue (scan_left sh.fields g.scan) → IfSome g.scan (λ x. IsTrue (cell_bit allocs x.0))) gs
  pub left_published : (c : ℕ) → All (λ (g : Grasp). IsTrue (may_scan g.cleaning c) → IsTrue (cell_bit allocs c)) gs
  pub values_in_use : All (λ (g : Grasp). IfSome g.value (λ c. IsTrue (in_use allocs ms c))) gs

-- a grey cell, and where it waits
pub data IsWaiting (sh : Shape) (cards heads entries : List ℕ) (hs : List Slots) (gs : List Grasp) (c : ℕ) : Type 0 where
  queued : IsQueued sh heads entries hs c → IsWaiting sh cards heads entries hs gs c
  tended : IsTrue (list_any (tends c) gs) → IsWaiting sh cards heads entries hs gs c
  dirty : slice_index cards (card_of c) ≡ 1 → IsWaiting sh cards heads entries hs gs c
  cleaned : IsTrue (list_any (cleans_card (card_of c)) gs) → IsWaiting sh cards heads entries hs gs c

-- a black cell, or one that a scan is turning black: each field is nil, names a marked cell or a value in hand, or is still to be read
abbrev pub IsScanned : Shape → List ℕ → List ℕ → List Grasp → ℕ → Type 0
IsScanned sh marks fields gs c =
    EachField sh (λ i. IsTrue (nil_or (is_marked_soon marks gs) (field sh fields c i) || list_any (will_read c i) gs))

-- what accounts for a marked cell that is published
pub data IsAccounted (sh : Shape) (marks cards heads entries fields : List ℕ) (hs : List Slots) (gs : List Grasp) (c : ℕ) : Type 0 where
  waiting : IsWaiting sh cards heads entries hs gs c → IsAccounted sh marks cards heads entries fields hs gs c
  owed : IsTrue (list_any (owes_card (card_of c)) gs) → IsAccounted sh marks cards heads entries fields hs gs c
  scanned : IsScanned sh marks fields gs c → IsAccounted sh marks cards heads entries fields hs gs c

-- the colour of published cells
pub record PublishedColour (sh : Shape) (phase : ℕ) (allocs marks cards heads entries fields : List ℕ) (hs : List Slots) (gs : List Grasp) : Type 0 where
  pub accounted : IsTrue (is_tracing phase) → EachCell sh (λ c. IsTrue (cell_bit marks c) → IsTrue (cell_bit allocs c) → IsAccounted sh marks cards heads entries fields hs gs c)

-- the colour of cells that aren't published yet: a marked one waits
pub record UnpublishedColour (sh : Shape) (phase : ℕ) (allocs marks cards heads entries : List ℕ) (hs : List Slots) (gs : List Grasp) : Type 0 where
  pub waits : IsTrue (is_tracing phase) → EachCell sh (λ c. IsTrue (cell_bit marks c) → IsFalse (cell_bit allocs c) → IsWaiting sh cards heads entries hs gs c)
