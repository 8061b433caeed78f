use Rattle.std.proofs.Common.{refl, arith}
use Rattle.std.proofs.KnownBytes.{Appends-nil}
use Rattle.play_report.proofs.Turns.{turn_ok, turn_err}
use Rattle.schedule_states.specs.Rows.{number_text}
use Rattle.schedule_states.proofs.Words.{index_fits, index_within}
use Rattle.schedule_states.proofs.state.write_words.Goals as goal

pub loop-i-init : goal.loop-i-init
loop-i-init g c = (Appends-nil _, refl)

pub overflow_cast-i : goal.overflow_cast-i
overflow_cast-i g c = omega (arith, index_fits c.args.state.now _ _ _ c.total_words-end.ensures c.shape.ensures.shape c.shape.ensures.sound c.loop-i-test.true)

pub returns-in-Err : goal.returns-in-Err
returns-in-Err g c =
    turn_err number_text _ _ 0 _ _ _ _ _ _ _ (index_within c.args.state.now _ _ _ c.total_words-end.ensures c.shape.ensures.shape c.shape.ensures.sound c.loop-i-test.true) c.word.ensures
    c.loop-i.invariant c.in-Err.ensures

pub loop-i-preserved : goal.loop-i-preserved
loop-i-preserved g c =
    turn_ok number_text _ _ 0 _ _ _ _ _ _ _ (index_within c.args.state.now _ _ _ c.total_words-end.ensures c.shape.ensures.shape c.shape.ensures.sound c.loop-i-test.true) c.word.ensures
    c.loop-i.invariant c.in-Ok.ensures
