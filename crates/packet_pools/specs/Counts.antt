-- What the events of a scan count.
use Rattle.std.specs.Prelude.{ℕ, ◌≡◌, ◌+◌, ◌-◌, ◌%◌, ◌&&◌, not, if◌then◌else◌, List, [], ◌∷◌, Bool, true, false, IsTrue}
use Rattle.mark_core.specs.Bits.{has_bit}
use Rattle.mark_core.specs.Cards.{block_cells}
use Rattle.mark_core.specs.declared.kinds.Shape.{Shape}
use Rattle.mark_core.specs.declared.kinds.Step.{Step}
use Rattle.mark_core.specs.declared.kinds.Step.TheVariants.{Push, ReadField, SetMark, DirtyCard}
use Rattle.gc_table.specs.declared.view.Entry.{Entry}
use Rattle.packet_pools.specs.Seeking.{moves_packet, output_pools}
use Rattle.packet_pools.specs.declared.scanned.Scanned.{Scanned}

-- a cell was marked that was white
abbrev pub marks_white : Step → ℕ → Bool
marks_white (SetMark c) found = not (has_bit found (c % block_cells))
marks_white step found = false

-- a cell was put into a packet
abbrev pub pushes : Step → ℕ → Bool
pushes (Push p cell) found = true
pushes step found = false

-- a card was dirtied
abbrev pub dirties : Step → ℕ → Bool
dirties (DirtyCard card) found = true
dirties step found = false

-- a step of the scan of an object
abbrev pub scans_object : Step → Bool
scans_object (Push p cell) = true
scans_object (ReadField c i) = true
scans_object (SetMark c) = true
scans_object (DirtyCard card) = true
scans_object step = moves_packet output_pools step

-- how many events are like this
abbrev pub count_of : (Step → ℕ → Bool) → List Entry → ℕ
count_of f [] = 0
count_of f (e ∷ es) = (if f e.step e.found then 1 else 0) + count_of f es

-- all these events are steps of the scan of an object
abbrev pub only_scans : List Entry → Bool
only_scans [] = true
only_scans (e ∷ es) = scans_object e.step && only_scans es

-- this many white cells were marked; this many went into packets, and this many found no packet with room
pub record CountsMarked (sh : Shape) (white kept lost : ℕ) (es : List Entry) : Type 0 where
  pub marked : count_of marks_white es ≡ white
  pub pushed : count_of pushes es ≡ kept
  pub overflowed : count_of dirties es ≡ lost
  pub scans : IsTrue (only_scans es)

-- what a scan answers is what its events count
abbrev pub CountsScanned : Shape → Scanned → List Entry → Type 0
CountsScanned sh r es = CountsMarked sh r.marked (r.marked - r.overflowed) r.overflowed es
