use Rattle.std.proofs.Common.{refl}
use Rattle.mark_core.specs.Numbers.{done_count}
use Rattle.mark_core.specs.declared.kinds.Step.TheVariants.{ReadStat}
use Rattle.gc_table.specs.Seats.{view_of}
use Rattle.gc_table.proofs.Running.{ran-found}
use Rattle.seat_turns.proofs.tracer_turn.see_dismissals.Goals as goal

pub returns-clause-ran : goal.returns-clause-ran
returns-clause-ran c = ran-found (view_of c.args.seat.now) (view_of c.read_stat.new.seat) (ReadStat done_count) c.read_stat.result refl c.read_stat.ensures.view
