-- The root: the seat of section 0 makes it before anybody else acts, and keeps it in its variable 0.
use Rattle.std.specs.Prelude.{ℕ, ◌≡◌, ◌<◌, ◌+◌, Bool, true, false, IsTrue}
use Rattle.mark_core.specs.declared.kinds.Step.{Step}
use Rattle.mark_core.specs.declared.kinds.Step.TheVariants.{ExchangeField, NextSeason, StoreField}
use Rattle.gc_table.specs.Log.{Only, all_steps}
use Rattle.gc_table.specs.Running.{Ran}
use Rattle.gc_table.specs.Seats.{state_of, view_of}
use Rattle.gc_table.specs.declared.seat.Heap.{Heap}
use Rattle.gc_table.specs.declared.seat.HeapSeat.{HeapSeat}
use Rattle.gc_table.specs.declared.view.View.{View}
use Rattle.gc_table.specs.Rooted.{KeepsRoot}
use Rattle.gc_table.specs.Single.{MakesOne}
use Rattle.mutator_ops.specs.Sharing.{ShareCreates}
use Rattle.seat_turns.specs.Sharing.{spares_heap}

-- what the seat did, no plain heap sees
pub record Spares (v w : View) : Type 0 where
  pub ran : Ran v w
  pub only : Only spares_heap v w

-- the step is none that a plain heap sees, and doesn't move the season on
abbrev pub spares_season : Step → Bool
spares_season NextSeason = false
spares_season step = spares_heap step

-- what the seat did, no plain heap sees, and the season is as before
pub record SparesSeason (v w : View) : Type 0 where
  pub ran : Ran v w
  pub only : Only spares_season v w

-- before the season moved on an object with value 0 was made in this cell, and variable 0 refers to it; whatever else was done, no plain heap sees
pub record MakesRoot (v w : View) : Type 0 where
  pub before : View
  pub comes : SparesSeason v before
  pub cell : ℕ
  pub inside : cell < before.shape.cells
  pub made : View
  pub creates : ShareCreates 0 0 cell before made
  pub rest : Spares made w

-- the step stores in no field
abbrev pub spares_fields : Step → Bool
spares_fields (StoreField v i x) = false
spares_fields (ExchangeField v i x y) = false
spares_fields step = true

-- the seat of section 0: it keeps the root in its variable 0, an object of value 0, has made no other, and stored in no field
pub record IsRootSeat (h : Heap) (s : HeapSeat) : Type 0 where
  pub number : (state_of s).number ≡ 0
  pub keeps : KeepsRoot 0 s
  pub one : MakesOne h.shape.fields (view_of s).log
  pub fields : IsTrue (all_steps spares_fields (view_of s).log)

-- the heap was opened with a seat for each section and for this many tracers
abbrev pub HasSeats : Heap → ℕ → HeapSeat → Type 0
HasSeats h tracers s = (view_of s).opened ≡ h.shape.sections + tracers
