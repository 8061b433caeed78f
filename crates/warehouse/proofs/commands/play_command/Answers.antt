use Rattle.std.proofs.lemmas.Bool.{OnFalse_at, OnFalse_from, OnTrue_at, OnTrue_from}
use Rattle.gc_script.specs.Shown.{execution_of}
use Rattle.warehouse.proofs.commands.play_command.Goals as goal
use Rattle.warehouse.proofs.Leavings.{plays-from, stops-from}

pub returns-clause-plays : goal.returns-clause-plays
returns-clause-plays g c =
    OnTrue_from c.do_command.result _
    (λ is.
    plays-from c.args.heap.now c.args.section.now c.args.turn c.come_to.new.cache c.do_command.new.cache (execution_of c.args.command.now) c.args.mutator.now c.come_to.new.mutator c.do_command.new.mutator
    c.if-not-come_to.ensures (OnTrue_at is c.do_command.ensures.does))

pub returns-clause-stops : goal.returns-clause-stops
returns-clause-stops g c =
    OnFalse_from c.do_command.result _
    (λ is.
    let s = OnFalse_at is c.do_command.ensures.stops in
    (stops-from c.args.heap.now c.args.section.now c.args.turn c.come_to.new.cache (execution_of c.args.command.now) c.args.mutator.now c.come_to.new.mutator c.do_command.new.mutator c.if-not-come_to.ensures s.0, s.1))
