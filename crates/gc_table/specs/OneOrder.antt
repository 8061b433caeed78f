-- Threads agree on the order in which others store.
use Rattle.std.specs.Prelude.{ℕ, ◌≡◌, ◌<◌, List, [], ◌∷◌, Some, slice_get}
use Rattle.plain_heap.specs.Paths.{Name}
use Rattle.mark_core.specs.Layout.{words_of}
use Rattle.mark_core.specs.Steps.{Core, after_event, start_core}
use Rattle.mark_core.specs.declared.kinds.Event.{Event}
use Rattle.mark_core.specs.declared.kinds.Shape.{Shape}
use Rattle.mark_core.specs.declared.kinds.Step.TheVariants.{ReadValue}
use Rattle.gc_table.specs.AgreementLaws.{HasValue, StoresOf, found_of, world_after}
use Rattle.gc_table.specs.OpenRuns.{IsOpenRun}
use Rattle.gc_table.specs.RunWorlds.{World, name_at, start_world}
use Rattle.gc_table.specs.Runs.{core_after}

-- who changes the object of this name finds the value 0 there
abbrev pub ChangesFromZero : List Event → Core → World → Name → Type 0
ChangesFromZero [] c world name = Unit {0}
ChangesFromZero (e ∷ es) c world name = (StoresOf world (slice_get c.seats e.seat) e.step name → HasValue world name 0) × ChangesFromZero es (after_event c e) (world_after c e world) name

-- event k reads the value of the object of this name, and finds n
pub record ReadsAt (sh : Shape) (es : List Event) (k : ℕ) (name : Name) (n : ℕ) : Type 0 where
  pub event : Event
  pub there : slice_get es k ≡ Some event
  pub cell : ℕ
  pub step : event.step ≡ ReadValue cell
  pub names : name_at (words_of (core_after sh 1 es k).shape (core_after sh 1 es k).words).identities cell ≡ name
  pub found : found_of (core_after sh 1 es k) (slice_get (core_after sh 1 es k).seats event.seat) event.step ≡ n

-- if two objects only ever change from value 0, and one thread reads 1 in x and then 0 in y, no other reads 1 in y and then 0 in x, whoever stores, and wherever in the run the reads are
abbrev pub OneOrder : Type 0
OneOrder =
    (sh : Shape) (es : List Event) → IsOpenRun sh es → (x y : Name) → ChangesFromZero es (start_core sh 1) (start_world sh) x → ChangesFromZero es (start_core sh 1) (start_world sh) y
    → (a b c d : ℕ) → a < b → c < d → ReadsAt sh es a x 1 → ReadsAt sh es b y 0 → ReadsAt sh es c y 1 → ReadsAt sh es d x 0 → ⊥
