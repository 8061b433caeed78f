-- In the state in which nothing has happened there is nothing to sweep.
use Rattle.std.proofs.lemmas.Bool.{false≢true}
use Rattle.mark_core.specs.Laws.{StartIsSwept}

pub swept_starts : StartIsSwept
swept_starts sh n z = record { done_is_white = λ e. absurd (false≢true e) }
