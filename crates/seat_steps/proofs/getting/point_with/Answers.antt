use Rattle.std.proofs.Common.{◌∙◌}
use Rattle.seat_steps.proofs.Found.{not-lacking}
use Rattle.seat_steps.proofs.getting.point_with.Goals as goal

pub returns-in-Err-with_free-clause-err : goal.returns-in-Err-with_free-clause-err
returns-in-Err-with_free-clause-err c =
    let e = c.in-Err-with_free.ensures in
    absurd (not-lacking c.in-Err-with_free.none c.args.cache (e.err ∙ c.in-Ok.ensures.freely.0) c.requires.free e.lacks)

pub returns-in-Err-with_free-clause-found : goal.returns-in-Err-with_free-clause-found
returns-in-Err-with_free-clause-found c =
    let e = c.in-Err-with_free.ensures in
    absurd (not-lacking c.in-Err-with_free.none c.args.cache (e.err ∙ c.in-Ok.ensures.freely.0) c.requires.free e.lacks)

pub returns-in-Ok-with_free-clause-few : goal.returns-in-Ok-with_free-clause-few
returns-in-Ok-with_free-clause-few c = c.in-Ok.ensures.freely.1.few

pub returns-in-Ok-with_free-clause-freely : goal.returns-in-Ok-with_free-clause-freely
returns-in-Ok-with_free-clause-freely c = c.in-Ok.ensures.freely.1
