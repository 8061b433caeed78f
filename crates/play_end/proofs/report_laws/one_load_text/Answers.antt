use Rattle.play_end.proofs.SectionLists.{one-load-text}
use Rattle.play_end.proofs.report_laws.one_load_text.Goals as goal

pub returns : goal.returns
returns c = one-load-text
