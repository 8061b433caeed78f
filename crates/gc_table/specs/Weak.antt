-- Weak references that a thread took: its log has them, and they tell for good.
use Rattle.std.specs.Prelude.{ℕ, ◌≡◌, ◌%◌, List, ◌∷◌, ◌++◌, IsTrue}
use Rattle.mark_core.specs.Bits.{has_bit}
use Rattle.mark_core.specs.Cards.{block_cells}
use Rattle.mark_core.specs.Laws.{AllNumbersFit}
use Rattle.mark_core.specs.Shapes.{IsShape}
use Rattle.mark_core.specs.Steps.{Core, run_of}
use Rattle.mark_core.specs.Weak.{IsWeak}
use Rattle.mark_core.specs.declared.kinds.Event.{Event}
use Rattle.mark_core.specs.declared.kinds.Shape.{Shape}
use Rattle.mark_core.specs.declared.kinds.Step.{Step}
use Rattle.mark_core.specs.declared.kinds.Step.TheVariants.{ReadIdent, ReadWeak}
use Rattle.gc_table.specs.AgreementLaws.{IsLost, world_run}
use Rattle.gc_table.specs.Entries.{event}
use Rattle.gc_table.specs.Past.{LeadTo, log_of}
use Rattle.gc_table.specs.RunWorlds.{World}
use Rattle.gc_table.specs.Taking.{Finds}
use Rattle.gc_table.specs.declared.view.Entry.{Entry}
use Rattle.gc_table.specs.declared.view.View.{View}

-- the log has a weak reference: a read of the allocation bits of cell x that found it published, and next the read of its object's identity
pub record HasWeak (x id : ℕ) (log : List Entry) : Type 0 where
  pub bits : ℕ
  pub before : List Entry
  pub later : List Entry
  pub published : IsTrue (has_bit bits (x % block_cells))
  pub reads : log ≡ before ++ event (ReadWeak x) bits ∷ event (ReadIdent x) id ∷ later

-- what has happened, if some seat's log has a weak reference, leaves its object in this cell and published, or gone
abbrev pub HistoriesKeepWeak : Type 0
HistoriesKeepWeak = (sh : Shape) (es : List Event) (c : Core) (i x id : ℕ) → IsShape sh → LeadTo sh es c → HasWeak x id (log_of sh es i) → IsWeak c id x

-- the object is lost, now and whatever happens later
abbrev pub IsLostForGood : Core → World → ℕ → Type 0
IsLostForGood c world id = (later : List Event) → AllNumbersFit later → IsLost (run_of later c) (world_run later c world) id

-- so it is at each step of a seat that took a weak reference, however long ago
abbrev pub WeakRemembered : Type 0
WeakRemembered = (step : Step) (n x id : ℕ) (v : View) (f : Finds step n v) → HasWeak x id v.log → IsWeak f.state.core id x
