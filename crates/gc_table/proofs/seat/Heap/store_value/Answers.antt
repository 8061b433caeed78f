use Rattle.std.proofs.Common.{refl, ap, ◌∙◌}
use Rattle.mark_core.specs.declared.kinds.Step.TheVariants.{StoreValue}
use Rattle.gc_table.specs.declared.view.View.{View}
use Rattle.gc_table.proofs.State.StateStores.{plain-told}
use Rattle.gc_table.proofs.seat.Heap.store_value.Goals as goal

pub returns-clause-plain : goal.returns-clause-plain
returns-clause-plain c alone op asks =
    let s = c.args.seat.now in
    ap (λ (v : View). v.own.meaning.heap) c.store_step.ensures.view ∙ plain-told (s.token.me.0.view) (StoreValue c.args.v c.args.n) op alone s.possible c.requires.may asks refl
