-- The root: an object that the seat of section 0 keeps in one of its variables before it moves the season on. Whoever reads this variable at his turn finds it.
use Rattle.std.specs.Prelude.{ℕ, ◌≡◌, ◌⊎◌, ◌+◌, ◌<◌, ◌==◌, ◌&&◌, if◌then◌else◌, not, List, [], ◌∷◌, Bool, true, false, None, Some, IsTrue, slice_get}
use Rattle.plain_heap.specs.Paths.{Name}
use Rattle.mark_core.specs.Bits.{reference_in}
use Rattle.mark_core.specs.Layout.{words_of}
use Rattle.mark_core.specs.Numbers.{section_variables}
use Rattle.mark_core.specs.declared.kinds.Event.{Event}
use Rattle.mark_core.specs.declared.kinds.Shape.{Shape}
use Rattle.mark_core.specs.declared.kinds.Step.{Step}
use Rattle.mark_core.specs.declared.kinds.Step.TheVariants.{NextSeason, ReadCat, StoreRoot, HoldRoot}
use Rattle.gc_table.specs.Ends.{IsEnd}
use Rattle.gc_table.specs.Laws.{IsRunOf}
use Rattle.gc_table.specs.Seats.{state_of, view_of}
use Rattle.gc_table.specs.declared.seat.HeapSeat.{HeapSeat}
use Rattle.gc_table.specs.declared.view.Entry.{Entry}
use Rattle.gc_table.specs.declared.words.Words.{Words}
use Rattle.gc_table.specs.Agreement.{AgreesWith}
use Rattle.gc_table.specs.AgreementLaws.{TellsOf}
use Rattle.gc_table.specs.RunWorlds.{variable_of}
use Rattle.gc_table.specs.Lending.{leaves_variable, stores_once}
use Rattle.gc_table.specs.Runs.{core_after}
use Rattle.gc_table.specs.Sharing.{heap_after_events}

-- the step moves the season on
abbrev pub moves_season : Step → Bool
moves_season NextSeason = true
moves_season step = false

-- how many of these events move the season on
abbrev pub season_count : List Entry → ℕ
season_count [] = 0
season_count (e ∷ es) = (if moves_season e.step then 1 else 0) + season_count es

-- the step stores in variable v, and not nil
abbrev pub fills_variable : ℕ → Step → Bool
fills_variable v (StoreRoot u r) = (u == v) && not (r == 0)
fills_variable v (HoldRoot u r) = (u == v) && not (r == 0)
fills_variable v step = false

-- the first of these events that stores in variable v stores an object there, and none before it moves the season on
abbrev pub fills_first : ℕ → List Entry → Bool
fills_first v [] = false
fills_first v (e ∷ es) = if leaves_variable v e.step then not (moves_season e.step) && fills_first v es else fills_variable v e.step

-- the seat of section 0 has stored an object in its variable v before it moved the season on, and nothing in it since
pub record KeepsRoot (v : ℕ) (s : HeapSeat) : Type 0 where
  pub section : (state_of s).section ≡ Some 0
  pub once : IsTrue (stores_once v (view_of s).log)
  pub first : IsTrue (fills_first v (view_of s).log)
  pub seasons : (view_of s).own.seasons ≡ season_count (view_of s).log

-- the season after k events of the run
abbrev pub season_after : Shape → List Event → ℕ → ℕ
season_after sh es k = (words_of (core_after sh 1 es k).shape (core_after sh 1 es k).words).season

-- after k events variable v of section 0 refers to nothing, and it is the first season, or it refers to this object
abbrev pub IsKept : Shape → List Event → ℕ → Name → ℕ → Type 0
IsKept sh es v name k = ((variable_of (heap_after_events sh es k) 0 v ≡ None) × (season_after sh es k ≡ 0)) ⊎ (variable_of (heap_after_events sh es k) 0 v ≡ Some name)

-- each of these events that reads variable v of section 0 found an object there
abbrev pub FindsSome : ℕ → List Entry → Type 0
FindsSome v [] = Unit {0}
FindsSome v (e ∷ es) = (e.step ≡ ReadCat v → 0 < reference_in e.found) × FindsSome v es

-- these events are one run of what the seats did, on one plain heap; the root is one object, and no seat that read it found nil
pub record IsRooted (sh : Shape) (seats : List HeapSeat) (w : Words) (v : ℕ) (es : List Event) : Type 0 where
  pub run : IsRunOf sh seats w es
  pub agrees : (k : ℕ) → AgreesWith (core_after sh 1 es k) (heap_after_events sh es k)
  pub tells : (k : ℕ) (e : Event) → slice_get es k ≡ Some e → TellsOf (core_after sh 1 es k) (heap_after_events sh es k) (slice_get (core_after sh 1 es k).seats e.seat) e.step
  pub root : Name
  pub kept : (k : ℕ) → IsKept sh es v root k
  pub found : (i : ℕ) (s : HeapSeat) → slice_get seats i ≡ Some s → FindsSome v (view_of s).log

-- if the seat of section 0 keeps a root, whatever the other seats did of a heap that was closed is such a run
abbrev pub RootFound : Type 0
RootFound = (sh : Shape) (seats : List HeapSeat) (w : Words) → IsEnd sh seats w → (zero : HeapSeat) → slice_get seats 0 ≡ Some zero → (v : ℕ) → v < section_variables → KeepsRoot v zero → (es : List Event) × IsRooted sh seats w v es
