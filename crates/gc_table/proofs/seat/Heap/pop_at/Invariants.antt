use Rattle.gc_table.proofs.seat.Heap.pop_at.Given as goal

abbrev pub ghosts-load_told : goal.ghosts-load_told
ghosts-load_told a = record { step = a._step }
