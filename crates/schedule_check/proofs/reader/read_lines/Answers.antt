use Rattle.std.proofs.Common.{◌≡◌, ◌<◌, length, subst, rules, arith}
use Rattle.std.proofs.lemmas.Bool.Decides.{nat_tests}
use Rattle.schedule_check.specs.Shown.{ScheduleReadAnswers, schedule_fault_of}
use Rattle.schedule_check.proofs.Lines.{goes_on_at_first, goes_on, refused_here, at_end, fewer_left, few_at_first}
use Rattle.schedule_check.proofs.reader.read_lines.Goals as goal

pub lines-init : goal.lines-init
lines-init c = (c.utf8.text, goes_on_at_first c.args.text.now, few_at_first c.args.text.now c.requires)

pub lines-preserved : goal.lines-preserved
lines-preserved c =
    let some : 0 < length c.lines.rest.now = grind (arith, nat_tests, c.is_empty.ensures, c.lines-test.true) in (
      search rules,
      goes_on c.args.text.now c.lines.rest.now c.in-Ok.left.now c.lines.line c.lines.state c.in-Ok.next some c.lines.invariant.1 c.in-Ok.ensures.state c.in-Ok.ensures.rest,
      fewer_left c.lines.rest.now c.in-Ok.left.now c.lines.line 8388611 some c.in-Ok.ensures.rest c.lines.invariant.2,
    )

pub returns-in-Err : goal.returns-in-Err
returns-in-Err c =
    let some : 0 < length c.lines.rest.now = grind (arith, nat_tests, c.is_empty.ensures, c.lines-test.true) in
    refused_here c.args.text.now c.lines.rest.now c.lines.line c.lines.state (schedule_fault_of c.in-Err.e) some c.lines.invariant.1 c.in-Err.ensures.state

pub returns : goal.returns
returns c =
    let none : length c.lines.rest.now ≡ 0 = grind (arith, nat_tests, c.is_empty.ensures, c.lines-test.false) in
    subst (ScheduleReadAnswers (λ s. s) c.ended.result) (at_end c.args.text.now c.lines.rest.now c.lines.line c.lines.state none c.lines.invariant.1) c.ended.ensures
