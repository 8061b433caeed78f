use Rattle.std.proofs.Common.{refl, ap, ◌∙◌}
use Rattle.seat_steps.specs.declared.came.Came.TheVariants as cames
use Rattle.managed_heap_c.specs.Asking.{TellsStopping, number_of_answer}
use Rattle.managed_heap_c.proofs.Answered.{answered}
use Rattle.managed_heap_c.proofs.asked.stopping_by.Goals as goal

pub returns-in-Some-clause-answers : goal.returns-in-Some-clause-answers
returns-in-Some-clause-answers c =
    let x = c.in-Some.stepper in
    answered (TellsStopping c.number_of.result) 0 c.args.hand.now.stepper x x cames.Done c.in-Some.is refl
    (refl, refl, c.number_of.ensures.number ∙ ap number_of_answer c.is_stopping.ensures.stopping)
