use Rattle.std.proofs.Common.{ℕ, List, [], ◌∷◌, subst}
use Rattle.example_structures.specs.Carrying.{Carries}
use Rattle.example_queues.proofs.Answered.{if-ok}
use Rattle.example_queues.proofs.Worked.{done-numbers, works-taken}
use Rattle.example_queues.proofs.playing.turn.Goals as goal

pub returns-in-Ok : goal.returns-in-Ok
returns-in-Ok g c =
    let q = c.in_ok-queue.queue.queue in
    let put = if-ok c.put.result _ c.if-is_err.ensures.value c.put.ensures.put in
    record {
      works =
          works-taken q c.args.number c.in-Ok.taken c.args.m.now c.put.new.m c.take.new.m c.in_ok-queue.ensures.some.0 put.1.1 c.put.ensures.fits
          (subst (λ (ns : List ℕ). Carries q ns [] c.args.m.now c.put.new.m) (done-numbers c.put.result (c.args.number ∷ []) c.if-is_err.ensures.value) c.put.ensures.numbers) c.put.ensures.world c.in-Ok.ensures.taken.1 c.take.ensures.fits
          c.in-Ok.ensures.numbers c.take.ensures.world;
    }
