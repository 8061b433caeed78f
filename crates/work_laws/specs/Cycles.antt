-- What marking and cleaning come to in a part of a run that begins while no cycle is under way: by the heap's sizes, by how often marking began meanwhile, and by
-- what mutators did.
use Rattle.std.specs.Prelude.{ℕ, ◌≡◌, ◌+◌, ◌*◌, ◌≤◌, List, ◌++◌, IsTrue}
use Rattle.mark_core.specs.Layout.{words_of, card_count}
use Rattle.mark_core.specs.Numbers.{most_seats}
use Rattle.mark_core.specs.Cards.{card_cells}
use Rattle.mark_core.specs.Seats.{is_phase}
use Rattle.mark_core.specs.Steps.{Core, run_of, start_core}
use Rattle.mark_core.specs.Laws.{IsCore, AllNumbersFit}
use Rattle.mark_core.specs.declared.kinds.Event.{Event}
use Rattle.mark_core.specs.declared.kinds.Phase.TheVariants.{Idle}
use Rattle.mark_core.specs.declared.kinds.Step.{Step}
use Rattle.gc_table.specs.Taking.{Finds}
use Rattle.gc_table.specs.declared.view.View.{View}
use Rattle.work_laws.specs.Counting.{count_events, sum_events}
use Rattle.work_laws.specs.Marking.{marks_anew, begins_marking}
use Rattle.work_laws.specs.Queueing.{pops}
use Rattle.work_laws.specs.Scanning.{reads_field, reads_root, marks, cleans}
use Rattle.work_laws.specs.Cleaning.{dirties, draws, begins_pass}
use Rattle.work_laws.specs.Dirtying.{stores_reference, spills_fresh, spills_deferred, dirties_idly, cleans_in_marking}
use Rattle.work_laws.specs.Bringing.{brought_in_marking, defers_anew, none_waits, pops_of_waiting}

-- the cells of the heap, once each time that marking begins
abbrev pub cells_begun : Core → List Event → ℕ
cells_begun c es = c.shape.cells * count_events begins_marking es c

-- the cards that are dirtied for cells that find no packet
abbrev pub spills : Core → List Event → ℕ
spills c es = count_events spills_fresh es c + count_events spills_deferred es c

-- the events from state c on
pub record IsBoundedCycle (c : Core) (es : List Event) : Type 0 where
  pub marked : count_events marks_anew es c ≤ cells_begun c es
  -- what is found unpublished: each marked cell once, and what is brought back in Marking; or a seat pops it where it was put back
  pub deferred : count_events defers_anew es c ≤ cells_begun c es + sum_events brought_in_marking es c + pops_of_waiting es c none_waits
  -- a cell that is marked, or deferred, is popped once or dirties a card once
  pub placed : count_events pops es c + spills c es ≤ cells_begun c es + count_events defers_anew es c
  -- a card is dirtied for a store, for a cell that finds no packet, or again: once for each dirty one that was cleaned in Marking
  pub dirtied : count_events dirties es c ≤ count_events stores_reference es c + most_seats + spills c es + count_events cleans_in_marking es c + count_events dirties_idly es c
  pub cleaned : count_events cleans es c ≤ card_count c.shape + count_events dirties es c
  pub drawn : count_events draws es c ≤ (card_count c.shape + most_seats) * (1 + count_events begins_pass es c)
  pub read : count_events reads_field es c ≤ c.shape.fields * count_events pops es c + card_cells * c.shape.fields * count_events cleans es c
  pub tried : count_events marks es c ≤ count_events reads_field es c + count_events reads_root es c

-- no cycle is under way
abbrev pub IsIdle : Core → Type 0
IsIdle c = IsTrue (is_phase (words_of c.shape c.words).phase Idle)

-- in every run; and in what has happened on an open table since any moment at which no cycle was under way
pub record CyclesAreBounded : Type 0 where
  pub runs : (c : Core) (es : List Event) → IsCore c → AllNumbersFit es → IsIdle c → IsBoundedCycle c es
  pub tables : (step : Step) (n : ℕ) (v : View) (f : Finds step n v) (before after : List Event) → f.past ≡ before ++ after → IsIdle (run_of before (start_core f.state.core.shape 1)) → IsBoundedCycle (run_of before (start_core f.state.core.shape 1)) after
