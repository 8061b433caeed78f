use Rattle.play_end.proofs.SectionLists.{one-text}
use Rattle.play_end.proofs.report_laws.one_text.Goals as goal

pub returns : goal.returns
returns c = one-text
