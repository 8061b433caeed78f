use Rattle.std.proofs.Common.{refl, ap, sym, ◌∙◌, Bool, true, ◌&&◌}
use Rattle.std.proofs.lemmas.Bool.{OnTrue_from, OnFalse_from}
use Rattle.mark_core.specs.Numbers.{empty_pool_number}
use Rattle.mark_core.specs.declared.kinds.Step.TheVariants.{Take}
use Rattle.gc_table.specs.SeatRecords.{At, holding, reserved}
use Rattle.gc_table.proofs.RecordSteps.{may-by, state-after, first-packet, taking}
use Rattle.test_operations.proofs.tests.trades.take.Goals as goal

pub take-requires-clause-may : goal.take-requires-clause-may
take-requires-clause-may c = let sh = c.args.heap.now.shape in may-by sh _ (reserved sh c.args.k) (Take empty_pool_number 0) c.requires.0.1 c.requires.1 (λ w seats. (ap (λ (b : Bool). b && true) (first-packet sh c.args.heap.now.shaped), (refl, (refl, (refl, tt)))))

pub returns-clause-taken : goal.returns-clause-taken
returns-clause-taken c =
    let sh = c.args.heap.now.shape in
    let v = c.take.ensures.view in
    OnTrue_from c.take.result (At c.args.heap.now holding c.args.k c.take.new.seat) (λ e. (c.take.ensures.seat, state-after sh _ _ (reserved sh c.args.k) (Take empty_pool_number 0) _ c.requires.0.1 c.requires.1 v.1 ∙ ap (taking sh c.args.k) (sym v.3 ∙ e)))

pub returns-clause-lost : goal.returns-clause-lost
returns-clause-lost c =
    let sh = c.args.heap.now.shape in
    let v = c.take.ensures.view in
    OnFalse_from c.take.result (At c.args.heap.now reserved c.args.k c.take.new.seat) (λ e. (c.take.ensures.seat, state-after sh _ _ (reserved sh c.args.k) (Take empty_pool_number 0) _ c.requires.0.1 c.requires.1 v.1 ∙ ap (taking sh c.args.k) (sym v.3 ∙ e)))
