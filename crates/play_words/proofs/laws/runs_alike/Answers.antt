use Rattle.play_words.proofs.Meant.{runs_alike}
use Rattle.play_words.proofs.laws.runs_alike.Goals as goal

pub returns : goal.returns
returns c = runs_alike
