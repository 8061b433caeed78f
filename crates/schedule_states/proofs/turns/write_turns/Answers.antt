use Rattle.std.proofs.Common.{sym, ◌∙◌, arith}
use Rattle.schedule_states.proofs.Runs.{turned_on, turned_short, ended_short}
use Rattle.schedule_states.proofs.turns.write_turns.Goals as goal

pub returns-in-Err-clause-writes : goal.returns-in-Err-clause-writes
returns-in-Err-clause-writes g c = turned_short _ _ _ _ _ c.loop-line-test.true c.line-item.is _ _ _ _ _ _ c.loop-line.invariant c.in-Err.ensures.writes

pub loop-line-preserved : goal.loop-line-preserved
loop-line-preserved g c =
    turned_on _ _ _ _ _ c.loop-line-test.true c.line-item.is _ _ _ _ _ _ _ c.loop-line.invariant (sym c.in-Ok-Accepted.field-0-is ∙ c.in-Ok-Accepted.ensures.told) c.in-Ok-Accepted.ensures.after c.in-Ok-Accepted.ensures.writes

pub returns-in-Err-write_row-clause-writes : goal.returns-in-Err-write_row-clause-writes
returns-in-Err-write_row-clause-writes g c =
    ended_short c.args.lines.now c.loop-line.line-index _ c.loop-line.state (omega arith) _ _ _ _ _ _ c.loop-line.invariant c.in-Err-write_row.ensures
