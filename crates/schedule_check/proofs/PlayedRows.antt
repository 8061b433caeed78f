-- The schedules of the rows, played on the definitions.
use Rattle.std.proofs.Common.{◌≡◌, refl, codes, ℕ, map}
use Rattle.std.specs.Prelude.{Err, Ok, Some, None, Option, Result, Bool, false}
use Rattle.mark_core.specs.Steps.{Core, first_refused, run_of}
use Rattle.mark_core.specs.Layout.{words_of}
use Rattle.mark_core.specs.Closed.{is_closed}
use Rattle.schedule_check.specs.declared.line.Line.{Line}
use Rattle.schedule_check.specs.Faults.{FaultOfSchedule}
use Rattle.schedule_check.specs.Schedule.{Schedule, schedule}
use Rattle.mark_core.specs.Summary.{marked_cells, used_cells}
use Rattle.schedule_check.specs.Verdicts.{start_of}

abbrev refused_in : Result Schedule FaultOfSchedule → Option (ℕ × ℕ × ℕ)
refused_in (Err fault) = None
refused_in (Ok s) = first_refused 0 (map (λ (l : Line). l.event) s.events) (start_of s)

row_1 : refused_in (schedule (codes "gcschedule 1\nshape 64 2 2 2 4 2\n1 enter_step\n1 store_phase 1\n1 read_phase\n1 reserve\n1 read_count\n")) ≡ None
row_1 = refl

row_2 : refused_in (schedule (codes "gcschedule 1\nshape 64 2 2 2 4 2\n1 raise_step\n1 observe\n1 next_season\n1 drop_step\n1 read_season\n1 claim_block 0\n1 read_free\n1 store_new 0 0 0\n1 store_new 0 1 0\n1 store_new 0 2 0\n1 store_new 0 3 0\n1 store_new 0 4 5\n1 store_new 0 5 4294967296\n1 store_root 0 1\n1 store_phase 1\n1 read_phase\n1 reserve\n1 take 0 0\n1 read_length 0\n1 read_root 1 0\n1 set_mark 0\n1 push 0 0\n1 pop 0\n1 read_alloc 0\n1 read_field 0 0")) ≡ Some (24, 10, 1)
row_2 = refl

-- the phase, the empty word, how many cells are marked and in use, and whether the end is closed
abbrev summed : Core → ℕ × ℕ × ℕ × ℕ × Bool
summed c = ((words_of c.shape c.words).phase, (words_of c.shape c.words).empty, marked_cells c, used_cells c, is_closed c)

abbrev summed_in : Result Schedule FaultOfSchedule → Option (ℕ × ℕ × ℕ × ℕ × Bool)
summed_in (Err fault) = None
summed_in (Ok s) = Some (summed (run_of (map (λ (l : Line). l.event) s.events) (start_of s)))

row_1_end : summed_in (schedule (codes "gcschedule 1\nshape 64 2 2 2 4 2\n1 enter_step\n1 store_phase 1\n1 read_phase\n1 reserve\n1 read_count\n")) ≡ Some (1, 65, 0, 0, false)
row_1_end = refl
