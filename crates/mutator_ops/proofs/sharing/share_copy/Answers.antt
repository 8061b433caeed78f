use Rattle.std.proofs.Common.{◌∙◌, ℕ, subst}
use Rattle.gc_table.specs.Seats.{view_of}
use Rattle.gc_table.specs.declared.view.View.{View}
use Rattle.mutator_ops.specs.Sharing.{SetsVariable}
use Rattle.mutator_ops.proofs.Storing.{sets-variable}
use Rattle.mutator_ops.proofs.sharing.share_copy.Goals as goal

pub returns-clause-sets : goal.returns-clause-sets
returns-clause-sets c =
    let v : View = view_of c.args.seat.now in
    let w : View = view_of c.hold_root.new.seat in
    subst (λ (r : ℕ). SetsVariable c.args.v r v w) (c.from.ensures ∙ c.word_of-word.ensures) (sets-variable c.args.v c.from.result c.hold_root.result v w c.requires.seat.1 c.hold_root.ensures.view)
