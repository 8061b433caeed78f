-- What a scan of a section's roots did.
use Rattle.std.specs.Prelude.{ℕ, ◌≡◌, ◌≤◌, ◌/◌, ◌%◌, ◌==◌, ◌&&◌, ◌||◌, if◌then◌else◌, List, [], ◌∷◌, map, Bool, true, false, IsTrue}
use Rattle.std.specs.List.{list_all, range_with_len}
use Rattle.mark_core.specs.Bits.{cell_of, has_bit}
use Rattle.mark_core.specs.Cards.{block_cells}
use Rattle.mark_core.specs.Numbers.{section_variables}
use Rattle.mark_core.specs.declared.kinds.Shape.{Shape}
use Rattle.mark_core.specs.declared.kinds.Step.{Step}
use Rattle.mark_core.specs.declared.kinds.Step.TheVariants.{ReadMarks, ReadRoot, SetMark}
use Rattle.gc_table.specs.declared.view.Entry.{Entry}
use Rattle.gc_table.specs.declared.view.View.{View}
use Rattle.gc_table.specs.Log.{events}
use Rattle.packet_pools.specs.Seeking.{some_event}
use Rattle.packet_pools.specs.Counts.{count_of, dirties, marks_white, scans_object}
use Rattle.packet_pools.specs.Fields.{cells_asked, picked}
use Rattle.tracer.specs.Causes.{FoundNoPacket}
use Rattle.tracer.specs.declared.traced.RootScan.{RootScan}
use Rattle.tracer.specs.declared.traced.RootScan.TheVariants.{Done, NoPacket}

-- a root that the step read
abbrev pub roots_read : Step → ℕ → List (ℕ × ℕ)
roots_read (ReadRoot section v) found = (section, v) ∷ []
roots_read step found = []

-- the cell that this root refers to
abbrev pub cells_rooted : Step → ℕ → List ℕ
cells_rooted (ReadRoot section v) found = if found == 0 then [] else cell_of found ∷ []
cells_rooted step found = []

-- a step of the scan of roots
abbrev pub scans_roots : Step → Bool
scans_roots (ReadRoot section v) = true
scans_roots step = scans_object step

-- all these events are such steps
abbrev pub only_roots : List Entry → Bool
only_roots [] = true
only_roots (e ∷ es) = scans_roots e.step && only_roots es

-- these roots were read, and each cell that they name was to be marked, in order: this many were white, and this many of these are left to their cards
pub record FollowsRoots (sh : Shape) (roots : List (ℕ × ℕ)) (white lost : ℕ) (es : List Entry) : Type 0 where
  pub read : picked roots_read es ≡ roots
  pub asked : picked cells_asked es ≡ picked cells_rooted es
  pub marked : count_of marks_white es ≡ white
  pub dirtied : count_of dirties es ≡ lost
  pub steps : IsTrue (only_roots es)

-- the first n roots of a section
abbrev pub roots_of : ℕ → ℕ → List (ℕ × ℕ)
roots_of section n = map (λ v. (section, v)) (range_with_len 0 n)

-- what the answer says
abbrev pub RootsScanned : ℕ → RootScan → View → View → Type 0
RootsScanned section (Done marked) v w = (lost : ℕ) × (lost ≤ marked) × FollowsRoots v.shape (roots_of section section_variables) marked lost (events v w)
RootsScanned section NoPacket v w = FoundNoPacket v w

-- the cell was marked, or seen marked
abbrev pub shows_marked : ℕ → Step → ℕ → Bool
shows_marked c (SetMark cell) found = cell == c
shows_marked c (ReadMarks b) found = (b == c / block_cells) && has_bit found (c % block_cells)
shows_marked c step found = false

-- the event read this variable as nil, or as a cell that these later events show marked
abbrev pub shows_root : ℕ → ℕ → Step → ℕ → List Entry → Bool
shows_root section v (ReadRoot w u) found later = (w == section) && (u == v) && ((found == 0) || some_event (shows_marked (cell_of found)) later)
shows_root section v step found later = false

-- variable v was read as nil, or as a cell that was then seen marked
abbrev pub root_marked : ℕ → ℕ → List Entry → Bool
root_marked section v [] = false
root_marked section v (e ∷ es) = shows_root section v e.step e.found es || root_marked section v es

-- each variable of the section was read as nil, or as a cell that was then seen marked
abbrev pub roots_scanned : ℕ → List Entry → Bool
roots_scanned section es = list_all (λ v. root_marked section v es) (range_with_len 0 section_variables)

-- if the scan was done, each variable was seen to
abbrev pub SeesRoots : ℕ → RootScan → List Entry → Type 0
SeesRoots section (Done marked) es = IsTrue (roots_scanned section es)
SeesRoots section NoPacket es = Unit {0}
