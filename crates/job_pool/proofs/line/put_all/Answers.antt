use Rattle.std.proofs.Common.{◌≡◌, ◌+◌, ◌∙◌, ◌++◌, ◌∷◌, ap, subst, length, arith}
use Rattle.std.specs.Vec.Iter.{into_iter_items}
use Rattle.std.proofs.lemmas.List.{length-map}
use Rattle.crossbeam_queue.specs.Passes.{view}
use Rattle.job_pool.specs.Scripts.{AreNumbered}
use Rattle.job_pool.proofs.Rule.{puts, learns_many}
use Rattle.job_pool.proofs.Lining.{next_number}
use Rattle.job_pool.proofs.line.put_all.Goals as goal

pub push_as-requires-clause-rule : goal.push_as-requires-clause-rule
push_as-requires-clause-rule g c =
    let steps : into_iter_items c.loop-job.job-iterator ≡ c.in-Some.job ∷ into_iter_items c.next.new.self = c.in-Some.ensures.steps.0 in
    let all : c.args.jobs.items ≡ c.loop-job.yielded ++ c.in-Some.job ∷ into_iter_items c.next.new.self =
    c.loop-job.invariant.2 ∙ ap (λ l. c.loop-job.yielded ++ l) steps in
    let next : c.in-Some.job.number ≡ 0 + length c.loop-job.yielded = next_number 0 _ _ _ (subst (AreNumbered 0) all c.requires.order) in
    let put : length (view c.loop-job.me).scripts ≡ length c.loop-job.yielded = ap (λ v. length v.scripts) c.loop-job.invariant.1 ∙ length-map c.loop-job.yielded (λ j. j.script) in (
      puts _ _ _ _ (ap (λ v. v.parts) c.loop-job.invariant.1) (omega (arith, next, put)),
      learns_many _ _ (ap (λ v. v.parts) c.loop-job.invariant.1) (ap (λ v. v.drawn) c.loop-job.invariant.1),
    )
