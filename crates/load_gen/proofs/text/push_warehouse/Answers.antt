use Rattle.std.specs.String.{string_bytes}
use Rattle.load_gen.proofs.Steps.{next_lines}
use Rattle.load_gen.proofs.text.push_warehouse.Goals as goal

pub loop-line-preserved : goal.loop-line-preserved
loop-line-preserved c =
    next_lines (string_bytes c.loop-line.text) (string_bytes c.push_line.new.text) _ c.args.size c.loop-line.line c.loop-line.draws.state c.push_line.new.draws.state _ c.loop-line-test.true
    c.push_line.ensures.state c.in_ok-push_line.ensures.text c.loop-line.invariant
