use Rattle.std.proofs.Common.{◌==◌, refl}
use Rattle.std.proofs.lemmas.Bool.{OnTrue_from}
use Rattle.mark_core.specs.declared.kinds.Step.TheVariants.{SeeHelp}
use Rattle.gc_table.specs.Seats.{view_of}
use Rattle.gc_table.proofs.Running.{ran-found}
use Rattle.stop_world.proofs.Waits.{found-alone, phase-stays}
use Rattle.stop_world.proofs.helping.finds_alone.Goals as goal

pub returns-clause-ran : goal.returns-clause-ran
returns-clause-ran c = ran-found (view_of c.args.seat.now) (view_of c.see_help.new.seat) SeeHelp c.see_help.result refl c.see_help.ensures.view

pub returns-clause-step : goal.returns-clause-step
returns-clause-step c = let f = c.see_help.ensures.view in (c.see_help.result, f.0, f.1, refl)

pub returns-clause-phase : goal.returns-clause-phase
returns-clause-phase c = λ p k. phase-stays (view_of c.args.seat.now) (view_of c.see_help.new.seat) c.see_help.result c.requires.closed.0 c.see_help.ensures.view p k

pub returns-clause-alone : goal.returns-clause-alone
returns-clause-alone c =
    OnTrue_from (c.see_help.result == 0) _
    (λ t p k. found-alone (view_of c.args.seat.now) (view_of c.see_help.new.seat) c.see_help.result c.requires.closed.0 c.requires.closed.1 c.see_help.ensures.view t p k)
