use Rattle.std.proofs.Common.{◌≡◌, refl, true, false}
use Rattle.std.proofs.lemmas.Bool.{false≢true}
use Rattle.mark_core.specs.declared.kinds.Phase.TheVariants.{Clear}
use Rattle.mark_core.specs.declared.kinds.Step.{Step}
use Rattle.mark_core.specs.declared.kinds.Step.TheVariants.{ClearMarks, NextBlock, ReadStat}
use Rattle.gc_table.specs.Running.{ends_alone}
use Rattle.gc_table.specs.Seats.{view_of}
use Rattle.gc_table.proofs.Noticing.{alone-kept}
use Rattle.sweeper.specs.Sweepers.{is_clearing}
use Rattle.test_operations.proofs.tests.sweeping.clears.Goals as goal

clearing-stays : (step : Step) → is_clearing step ≡ true → ends_alone step ≡ false
clearing-stays NextBlock e = refl
clearing-stays ClearMarks e = refl
clearing-stays (ReadStat which) e = refl
clearing-stays step e = absurd (false≢true e)

pub returns : goal.returns
returns c = let e = c.clear_marks_next.ensures in (e.seat.0, e.seat.1, alone-kept Clear is_clearing clearing-stays (view_of c.args.seat.now) (view_of c.clear_marks_next.new.seat) e.ran e.only c.requires.2)
