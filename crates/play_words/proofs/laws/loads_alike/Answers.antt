use Rattle.play_words.proofs.Meant.{loads_alike}
use Rattle.play_words.proofs.laws.loads_alike.Goals as goal

pub returns : goal.returns
returns c = loads_alike
