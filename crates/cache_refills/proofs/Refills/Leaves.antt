-- Steps towards a refill that change no statistic.
use Rattle.std.proofs.Common.{◌≡◌, refl, true}
use Rattle.std.proofs.lemmas.Bool.{false≢true}
use Rattle.mark_core.specs.declared.kinds.Step.{Step}
use Rattle.mark_core.specs.declared.kinds.Step.TheVariants.{AddStat, Reset}
use Rattle.cache_refills.specs.Pace.Pacing.{kicks}
use Rattle.cache_refills.specs.Refilling.{looks_for_end}
use Rattle.gc_cycle.specs.Statistics.{leaves_numbers}

pub kicks-leave : (step : Step) → kicks step ≡ true → leaves_numbers step ≡ true
kicks-leave (AddStat which by down) e = absurd (false≢true e)
kicks-leave (Reset which) e = absurd (false≢true e)
kicks-leave step e = refl

pub looks-leave : (step : Step) → looks_for_end step ≡ true → leaves_numbers step ≡ true
looks-leave (AddStat which by down) e = absurd (false≢true e)
looks-leave (Reset which) e = absurd (false≢true e)
looks-leave step e = refl
