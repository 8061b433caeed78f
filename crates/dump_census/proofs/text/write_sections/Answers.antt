use Rattle.std.proofs.Common.{refl, arith}
use Rattle.play_report.proofs.Turns.{numbered_ok, numbered_err}
use Rattle.dump_census.specs.Text.{section_text}
use Rattle.dump_census.proofs.text.write_sections.Goals as goal

pub loop-w-preserved : goal.loop-w-preserved
loop-w-preserved g c = numbered_ok section_text 0 _ _ _ _ _ _ _ _ _ _ _ c.loop-w-test.true (omega arith) refl c.loop-w.invariant c.in-Ok.ensures

pub returns-in-Err : goal.returns-in-Err
returns-in-Err g c = numbered_err section_text 0 _ _ _ _ _ _ _ _ _ _ _ c.loop-w-test.true (omega arith) refl c.loop-w.invariant c.in-Err.ensures
