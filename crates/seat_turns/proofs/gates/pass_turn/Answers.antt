use Rattle.std.proofs.lemmas.Result.{IfErr-weaker, IfOk-weaker}
use Rattle.gc_table.specs.Seats.{view_of}
use Rattle.seat_turns.proofs.Coming.{own-cache}
use Rattle.seat_turns.proofs.gates.pass_turn.Goals as goal

pub returns-clause-polls : goal.returns-clause-polls
returns-clause-polls g c =
    let e = c.cache_of-cache.ensures in
    IfOk-weaker c.come_to_turn.result _ _ (λ _ polls. (c.cache_of-cache.result, own-cache c.cache_of-cache.result (view_of c.args.seat.now) e.some e.none, polls)) c.come_to_turn.ensures.polls

pub returns-clause-full : goal.returns-clause-full
returns-clause-full g c =
    let e = c.cache_of-cache.ensures in
    IfErr-weaker c.come_to_turn.result _ _ (λ _ polls. (c.cache_of-cache.result, own-cache c.cache_of-cache.result (view_of c.args.seat.now) e.some e.none, polls)) c.come_to_turn.ensures.full
