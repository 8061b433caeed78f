use Rattle.play_words.proofs.Reached.{final_reached}
use Rattle.play_words.proofs.laws.final_heaps_are_reached.Goals as goal

pub returns : goal.returns
returns c = final_reached
