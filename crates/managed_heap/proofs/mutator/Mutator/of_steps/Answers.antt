use Rattle.std.proofs.Common.{◌∙◌, ap, sym}
use Rattle.mark_core.specs.declared.kinds.Shape.{Shape}
use Rattle.gc_table.specs.Seats.{view_of}
use Rattle.seat_steps.proofs.Few.{stopped-own}
use Rattle.managed_heap.proofs.mutator.Mutator.of_steps.Goals as goal

pub returns-in-Ok-clause-few : goal.returns-in-Ok-clause-few
returns-in-Ok-clause-few c =
    let s = c.args.stepper in
    stopped-own s.stage (view_of s.seat) (view_of c.in-Ok.resting.seat) (λ here. ap (λ (sh : Shape). sh.sharing) (s.inside here).holds.sits.1 ∙ (sym c.shares.ensures.shares ∙ c.if-shares.false)) c.in-Ok.ensures.ok.stopped
