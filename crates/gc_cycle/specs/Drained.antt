-- What a seat that is alone, with nothing in hand, has noted by the end of a drain.
use Rattle.gc_table.specs.declared.view.View.{View}
use Rattle.card_clean.specs.Drained.{IsDrained, IsRooted}
use Rattle.gc_cycle.specs.Standing.{IsAlone}

-- the seat has noted that every root is nil or names a marked cell
pub record RootedAlone (v : View) : Type 0 where
  pub rest : IsAlone v
  pub rooted : IsRooted v

-- the seat has noted that every root is nil or names a marked cell, and after that that no card is dirty and all packets are empty
pub record DrainedAlone (v : View) : Type 0 where
  pub rest : IsAlone v
  pub drained : IsDrained v
