-- What a play answers.
use Rattle.std.specs.Prelude.{ℕ, ◌≡◌, ◌≤◌, ◌%◌, List, map, Result, Ok, Err}
use Rattle.plain_heap.specs.Sections.{Sections}
use Rattle.plain_heap.specs.PlainRun.{last_heaps}
use Rattle.plain_heap.specs.Paths.{AreSurvivors}
use Rattle.plain_heap.specs.Placement.{IsFilled}
use Rattle.play_report.specs.Order.{IsPlaced}
use Rattle.play_report.specs.Report.{outcome_of, survivor_of}
use Rattle.play_report.specs.Text.{outcomes, placed_count}
use Rattle.play_report.specs.declared.report.Report.{Report}
use Rattle.play_end.specs.declared.options.Options.{Options}
use Rattle.play_end.specs.declared.error.PlayError.{PlayError}
use Rattle.play_end.specs.declared.error.PlayError.TheVariants as ends

-- the cells of each section's objects
abbrev pub places_of : Report → List (List ℕ)
places_of r = map (λ p. p.places.items) r.parts.items

-- each section's transcript and dropped stores, exactly the objects that are reachable at the end, and a legal place of each object
pub record IsReport (s : Sections) (cells : ℕ) (r : Report) : Type 0 where
  pub outcomes : map outcome_of r.parts.items ≡ outcomes s (places_of r)
  pub survivors : AreSurvivors (last_heaps s) (map survivor_of r.survivors.items)
  pub placed : IsPlaced s cells (places_of r)
  pub few : placed_count (map outcome_of r.parts.items) ≤ 2000000

-- a report, or positions at which the reachable objects fill all cells; nothing is said if memory ran out
abbrev pub PlayAnswers : Result Report PlayError → Sections → ℕ → Type 0
PlayAnswers (Ok r) s cells = IsReport s cells r
PlayAnswers (Err (ends.Full p)) s cells = IsFilled s cells p.section p.done.items
PlayAnswers (Err ends.OutOfMemory) s cells = Unit {0}

-- each option is in its range
pub record AreInRange (o : Options) : Type 0 where
  pub cells : (64 ≤ o.cells) × (o.cells ≤ 65536) × (o.cells % 64 ≡ 0)
  pub workers : (1 ≤ o.workers) × (o.workers ≤ 32)
  pub tracers : o.tracers ≤ 8
  pub packets : (2 ≤ o.packets) × (o.packets ≤ 1024)
  pub entries : (2 ≤ o.entries) × (o.entries ≤ 512)
