use Rattle.gc_table.proofs.seat.Heap.push_at.Given as goal

abbrev pub ghosts-store_told : goal.ghosts-store_told
ghosts-store_told a = record { step = a._step }
