-- Steps that change no statistic.
use Rattle.std.proofs.Common.{◌≡◌, refl, true}
use Rattle.std.proofs.lemmas.Bool.{false≢true}
use Rattle.mark_core.specs.declared.kinds.Step.{Step}
use Rattle.mark_core.specs.declared.kinds.Step.TheVariants.{AddStat, Reset}
use Rattle.packet_pools.specs.OnlyTraced.{traces_cells}
use Rattle.stop_world.specs.Waiting.{watches}
use Rattle.gc_cycle.specs.Lower.{sweeps_next, traces_or_cleans}
use Rattle.gc_cycle.specs.Statistics.{leaves_numbers}

pub cells-leave : (step : Step) → traces_cells step ≡ true → leaves_numbers step ≡ true
cells-leave (AddStat which by down) e = absurd (false≢true e)
cells-leave (Reset which) e = absurd (false≢true e)
cells-leave step e = refl

pub traces-leave : (step : Step) → traces_or_cleans step ≡ true → leaves_numbers step ≡ true
traces-leave (AddStat which by down) e = absurd (false≢true e)
traces-leave (Reset which) e = absurd (false≢true e)
traces-leave step e = refl

pub sweeps-leave : (step : Step) → sweeps_next step ≡ true → leaves_numbers step ≡ true
sweeps-leave (AddStat which by down) e = absurd (false≢true e)
sweeps-leave (Reset which) e = absurd (false≢true e)
sweeps-leave step e = refl

pub watches-leave : (step : Step) → watches step ≡ true → leaves_numbers step ≡ true
watches-leave (AddStat which by down) e = absurd (false≢true e)
watches-leave (Reset which) e = absurd (false≢true e)
watches-leave step e = refl
