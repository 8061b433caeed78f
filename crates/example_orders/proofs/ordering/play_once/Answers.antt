use Rattle.example_orders.proofs.Ended.{none-against}
use Rattle.example_orders.proofs.ordering.play_once.Goals as goal

pub returns : goal.returns
returns g c = record { agree = none-against c.in_ok-played.played.readings c.in_ok-played.played.words c.contradict.result c.in_ok-played.ensures.ordered c.contradict.ensures.against }
