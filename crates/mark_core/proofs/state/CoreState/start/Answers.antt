use Rattle.mark_core.proofs.CoreKept.{core-starts}
use Rattle.mark_core.proofs.Opening.{start-bounded}
use Rattle.mark_core.proofs.state.CoreState.start.Goals as goal

pub invariant_of-result : goal.invariant_of-result
invariant_of-result c = (
  rw (c.in-Ok.ensures, c.in-Ok-start_seats.ensures.seats) (start-bounded c.args.shape c.args.seats c.requires.shaped c.requires.some c.requires.few),
  c.in-Ok-start_seats.ensures.room,
  rw (c.in-Ok.ensures, c.in-Ok-start_seats.ensures.seats) (core-starts c.args.shape c.args.seats c.requires.shaped c.requires.some c.requires.few),
)
