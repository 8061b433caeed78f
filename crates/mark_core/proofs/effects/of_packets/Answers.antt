use Rattle.mark_core.proofs.effects.of_packets.Goals as goal

pub returns-in-Give-clause-seat : goal.returns-in-Give-clause-seat
returns-in-Give-clause-seat c = λ sh. rw c.in-Give.is c.give.ensures.seat
