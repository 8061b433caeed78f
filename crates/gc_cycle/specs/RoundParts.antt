-- The parts of a round of a drain: what is brought back, and what is cleaned; and what is done if no packet is found.
use Rattle.std.specs.Prelude.{ℕ}
use Rattle.gc_table.specs.Log.{events}
use Rattle.gc_table.specs.Running.{Ran}
use Rattle.gc_table.specs.declared.view.View.{View}
use Rattle.tracer.specs.Recycling.{Recycled}
use Rattle.card_clean.specs.DirtyCards.{CleansDirty}
use Rattle.card_clean.specs.Taking.{NoPacket}

-- no packet was found to take, and then the deferred ones were brought back
pub record LacksPacket (v w : View) : Type 0 where
  pub looked : View
  pub looks : Ran v looked
  pub lacks : NoPacket v.shape (events v looked)
  pub ran : Ran looked w
  pub count : ℕ
  pub brings : Recycled v.shape count (events looked w)

-- after whatever was done first, every card was seen clean, or one was seen dirty, and then no packet was found, or each card from it on was cleaned if it
-- was dirty
pub record CleansLast (v w : View) : Type 0 where
  pub traced : View
  pub first : Ran v traced
  pub last : Ran traced w
  pub count : ℕ
  pub cleans : CleansDirty v.shape count (events traced w)

-- what was deferred was brought back before all else
pub record BringsBack (v w : View) : Type 0 where
  pub brought : View
  pub first : Ran v brought
  pub count : ℕ
  pub brings : Recycled v.shape count (events v brought)
  pub last : Ran brought w
