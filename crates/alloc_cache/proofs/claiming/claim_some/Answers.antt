use Rattle.alloc_cache.proofs.claiming.claim_some.Goals as goal

pub returns-in-Some-clause-seat : goal.returns-in-Some-clause-seat
returns-in-Some-clause-seat c = c.remember.ensures.sits c.args.heap.now c.claim_among.ensures.seat
