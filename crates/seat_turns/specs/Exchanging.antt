-- What an exchange does in a heap whose objects are shared.
use Rattle.std.specs.Prelude.{ℕ, ◌≡◌, ◌==◌, Bool, Some}
use Rattle.mark_core.specs.declared.kinds.Step.TheVariants.{ExchangeValue}
use Rattle.card_clean.specs.Barrier.{Exchanged}
use Rattle.gc_table.specs.Running.{Ran}
use Rattle.gc_table.specs.Seats.{Found}
use Rattle.gc_table.specs.declared.view.View.{View}

-- one exchange of field i of variable u's object, from what variable x is to what variable y is, and the card after it if it was won; the seat's record is as
-- it was
pub record ExchangesField (u i x y : ℕ) (is_won : Bool) (v w : View) : Type 0 where
  pub ran : Ran v w
  pub exchanged : Exchanged u i (Some x) (Some y) is_won v w
  pub state : w.state ≡ v.state

-- one exchange of the value of variable u's object, from m to n: it was won if it found m; the seat's record is as it was
pub record ExchangesValue (u m n : ℕ) (is_won : Bool) (v w : View) : Type 0 where
  pub ran : Ran v w
  pub found : ℕ
  pub finds : Found (ExchangeValue u m n) found v w
  pub won_by : is_won ≡ (found == m)
  pub state : w.state ≡ v.state
