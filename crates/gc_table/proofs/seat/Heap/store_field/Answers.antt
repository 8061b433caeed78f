use Rattle.std.proofs.Common.{refl, ap, ◌∙◌}
use Rattle.mark_core.specs.declared.kinds.Step.TheVariants.{StoreField}
use Rattle.gc_table.specs.declared.view.View.{View}
use Rattle.gc_table.proofs.State.StateStores.{plain-told}
use Rattle.gc_table.proofs.seat.Heap.store_field.Goals as goal

pub returns-clause-plain : goal.returns-clause-plain
returns-clause-plain c alone op asks =
    let s = c.args.seat.now in
    ap (λ (v : View). v.own.meaning.heap) c.store_step.ensures.view ∙ plain-told (s.token.me.0.view) (StoreField c.args.v c.args.i c.args.w) op alone s.possible c.requires.may asks refl
