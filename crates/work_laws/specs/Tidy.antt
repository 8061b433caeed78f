-- What marking and cleaning come to if each seat's calls are tidy: by the heap's sizes, how often marking began, what mutators stored and claimed, and what was brought
-- back.
use Rattle.std.specs.Prelude.{ℕ, ◌≡◌, ◌+◌, ◌*◌, ◌≤◌, ◌==◌, ◌&&◌, List, if◌then◌else◌}
use Rattle.mark_core.specs.Layout.{card_count}
use Rattle.mark_core.specs.Numbers.{free_count, most_seats}
use Rattle.mark_core.specs.Cards.{block_cells, card_cells}
use Rattle.mark_core.specs.Steps.{Core}
use Rattle.mark_core.specs.declared.kinds.Event.{Event}
use Rattle.mark_core.specs.declared.kinds.Step.{Step}
use Rattle.mark_core.specs.declared.kinds.Step.TheVariants.{AddStat}
use Rattle.work_laws.specs.Counting.{count_events, sum_events}
use Rattle.work_laws.specs.Marking.{marks_anew}
use Rattle.work_laws.specs.Queueing.{pops}
use Rattle.work_laws.specs.Scanning.{cleans, marks, reads_field, reads_root}
use Rattle.work_laws.specs.Cleaning.{begins_pass, dirties, draws}
use Rattle.work_laws.specs.Dirtying.{cleans_in_marking, dirties_idly, stores_reference}
use Rattle.work_laws.specs.Bringing.{brought_in_marking, defers_anew, none_waits, pops_of_waiting}
use Rattle.work_laws.specs.Cycles.{IsBoundedCycle, cells_begun, spills}

-- the free cells of a block that a mutator claims, as it takes them off the number of free cells
abbrev pub claims_cells : Step → ℕ
claims_cells (AddStat which by down) = if (which == free_count) && down then by else 0
claims_cells step = 0

abbrev pub cells_claimed : Core → Event → ℕ
cells_claimed c e = claims_cells e.step

-- how many cells payments are for: those that were claimed, and a block that each seat may have claimed before
abbrev pub cells_paid : Core → List Event → ℕ
cells_paid c es = sum_events cells_claimed es c + block_cells * most_seats

-- the events from state c on: no cell was popped where it was put back; no card was dirtied for nothing; and of the dirty cards that were cleaned in Marking, at most
-- sixteen for each cell that is paid for weren't drawn
pub record IsTidy (c : Core) (es : List Event) : Type 0 where
  pub kept : pops_of_waiting es c none_waits ≡ 0
  pub caused : count_events dirties_idly es c ≡ 0
  pub paced : count_events cleans_in_marking es c ≤ count_events draws es c + card_cells * cells_paid c es

-- how many cards are drawn at most: a pass draws each once, and each seat once past the end
abbrev pub most_drawn : Core → List Event → ℕ
most_drawn c es = (card_count c.shape + most_seats) * (1 + count_events begins_pass es c)

-- how many cells are popped, or left to their cards: each once when it was marked, and once when it was found unpublished, which it is again only if it was brought back
abbrev pub most_placed : Core → List Event → ℕ
most_placed c es = 2 * cells_begun c es + sum_events brought_in_marking es c

-- how many cards are dirtied: for a store, for a cell that finds no packet, and again for a cleaning in Marking
abbrev pub most_dirtied : Core → List Event → ℕ
most_dirtied c es = count_events stores_reference es c + most_seats + most_placed c es + (most_drawn c es + card_cells * cells_paid c es)

-- each sort of work in such a run
pub record IsFewInCycle (c : Core) (es : List Event) : Type 0 where
  pub marked : count_events marks_anew es c ≤ cells_begun c es
  pub deferred : count_events defers_anew es c ≤ cells_begun c es + sum_events brought_in_marking es c
  pub placed : count_events pops es c + spills c es ≤ most_placed c es
  pub dirtied : count_events dirties es c ≤ most_dirtied c es
  pub cleaned : count_events cleans es c ≤ card_count c.shape + most_dirtied c es
  pub drawn : count_events draws es c ≤ most_drawn c es
  pub read : count_events reads_field es c ≤ c.shape.fields * most_placed c es + card_cells * c.shape.fields * (card_count c.shape + most_dirtied c es)
  pub tried : count_events marks es c ≤ c.shape.fields * most_placed c es + card_cells * c.shape.fields * (card_count c.shape + most_dirtied c es) + count_events reads_root es c

-- so it is of all events whose work is bounded, as `CyclesAreBounded` says it of those since a moment without a cycle
abbrev pub TidyCyclesAreFew : Type 0
TidyCyclesAreFew = (c : Core) (es : List Event) → IsBoundedCycle c es → IsTidy c es → IsFewInCycle c es
