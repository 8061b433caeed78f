use Rattle.std.proofs.Common.{◌-◌, ◌*◌}
use Rattle.gc_play.specs.Crews.{IsCrew}
use Rattle.gc_play.specs.Traced.{SeasonsTraced}
use Rattle.gc_play.proofs.playing.play_seasons.Given as goal

abbrev pub invariant-loop-before : goal.invariant-loop-before
invariant-loop-before g l = record {
  crew : IsCrew l.heap l.script.sections l.before (2 * l.before - 1) l.crew;
  traced : SeasonsTraced l.heap l.script.sections l.before l.fn.crew.tracers.items l.crew.tracers.items;
}
