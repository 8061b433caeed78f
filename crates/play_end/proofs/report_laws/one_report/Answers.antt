use Rattle.play_end.proofs.SectionLists.{one-report}
use Rattle.play_end.proofs.report_laws.one_report.Goals as goal

pub returns : goal.returns
returns c = one-report
