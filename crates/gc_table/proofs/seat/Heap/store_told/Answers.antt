use Rattle.gc_table.proofs.Allowed.{allows-stored}
use Rattle.gc_table.proofs.seat.Heap.store_told.Goals as goal

pub store-requires : goal.store-requires
store-requires g c = allows-stored _ _ _ _ _ _ _ _ _ c.requires.take c.requires.kind c.requires.blind c.requires.told
