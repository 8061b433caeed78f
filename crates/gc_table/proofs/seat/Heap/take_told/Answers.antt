use Rattle.gc_table.proofs.Allowed.{allows-found}
use Rattle.gc_table.proofs.seat.Heap.take_told.Goals as goal

pub load-requires : goal.load-requires
load-requires g c = allows-found _ _ _ _ _ _ _ _ _ c.requires.take (rw c.in-Load.is at c.requires.kind) c.requires.told

pub swap-requires : goal.swap-requires
swap-requires g c = allows-found _ _ _ _ _ _ _ _ _ c.requires.take (rw c.in-Swap.is at c.requires.kind) c.requires.told

pub fetch_add-requires : goal.fetch_add-requires
fetch_add-requires g c = allows-found _ _ _ _ _ _ _ _ _ c.requires.take (rw c.in-Add.is at c.requires.kind) c.requires.told

pub fetch_sub-requires : goal.fetch_sub-requires
fetch_sub-requires g c = allows-found _ _ _ _ _ _ _ _ _ c.requires.take (rw c.in-Sub.is at c.requires.kind) c.requires.told

pub fetch_and-requires : goal.fetch_and-requires
fetch_and-requires g c = allows-found _ _ _ _ _ _ _ _ _ c.requires.take (rw c.in-Keep.is at c.requires.kind) c.requires.told

pub fetch_or-requires : goal.fetch_or-requires
fetch_or-requires g c = allows-found _ _ _ _ _ _ _ _ _ c.requires.take (rw c.in-Set.is at c.requires.kind) c.requires.told

pub compare_exchange-requires : goal.compare_exchange-requires
compare_exchange-requires g c = allows-found _ _ _ _ _ _ _ _ _ c.requires.take (rw c.in-Exchange.is at c.requires.kind) c.requires.told
