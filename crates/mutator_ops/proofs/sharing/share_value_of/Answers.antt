use Rattle.std.proofs.Common.{◌≡◌, ◌+◌, arith}
use Rattle.mark_core.specs.Steps.MutatorSteps.{seat_variable as word_in}
use Rattle.gc_table.specs.Seats.{view_of}
use Rattle.gc_table.specs.declared.view.View.{View}
use Rattle.gc_table.proofs.Fitting.{possible-live}
use Rattle.mutator_ops.proofs.Knowing.{knows-variable, may-read_value}
use Rattle.mutator_ops.proofs.sharing.share_value_of.Goals as goal

pub read_value-requires-clause-may : goal.read_value-requires-clause-may
read_value-requires-clause-may c =
    let v : View = view_of c.args.seat.now in
    let q = c.requires in
    let word : word_in v.state c.args.v ≡ c.make.result + 1 = let some = c.if-word-eq0.false in omega (arith, some, c.make.ensures, c.word_of-word.ensures) in
    let live = possible-live v c.args.seat.now.possible in
    may-read_value v c.make.result live q.seat.1.stores.turn (knows-variable v c.args.v c.make.result live q.range word)
