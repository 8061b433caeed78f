use Rattle.std.proofs.Common.{◌≡◌, ◌<◌, length, rules, arith}
use Rattle.std.proofs.lemmas.Bool.Decides.{nat_tests}
use Rattle.gc_script.specs.Earlier.{catalogue_names}
use Rattle.gc_script.proofs.Bytes.{few_lines}
use Rattle.gc_script.proofs.Lines.{statements, up_to_start, up_to_next, up_to_refused, up_to_end}
use Rattle.gc_script.proofs.progress.read_lines.Goals as goal

pub lines-init : goal.lines-init
lines-init c = (
  c.utf8.text,
  up_to_start c.args.version c.args.text.now c.first_progress-progress.result c.first_progress-progress.ensures.context
      (c.first_progress-progress.ensures.kept (catalogue_names (statements c.args.text.now))),
)

pub read_line-requires-clause-line : goal.read_line-requires-clause-line
read_line-requires-clause-line c = let u = c.lines.invariant.1 in omega (arith, u.so_far.line, u.within, few_lines c.args.text.now, c.requires)

pub lines-preserved : goal.lines-preserved
lines-preserved c =
    let some : 0 < length c.lines.rest.now = grind (arith, nat_tests, c.is_empty.ensures, c.lines-test.true) in (
      search rules,
      up_to_next c.args.version c.args.text.now c.lines.rest.now c.in-Ok.left.now c.lines.progress c.read_line.new.self some c.lines.invariant.1 c.in-Ok.ensures.0 c.in-Ok.ensures.1,
    )

pub returns-in-Err : goal.returns-in-Err
returns-in-Err c =
    let some : 0 < length c.lines.rest.now = grind (arith, nat_tests, c.is_empty.ensures, c.lines-test.true) in
    up_to_refused c.args.version c.args.text.now c.lines.rest.now c.lines.progress c.in-Err.e some c.lines.invariant.1 c.in-Err.ensures

pub returns : goal.returns
returns c =
    let none : length c.lines.rest.now ≡ 0 = grind (arith, nat_tests, c.is_empty.ensures, c.lines-test.false) in
    up_to_end c.args.version c.args.text.now c.lines.rest.now c.lines.progress none c.lines.invariant.1
