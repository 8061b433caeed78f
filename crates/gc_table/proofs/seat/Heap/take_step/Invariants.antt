use Rattle.gc_table.proofs.seat.Heap.take_step.Given as goal

abbrev pub ghosts-take_told : goal.ghosts-take_told
ghosts-take_told a = record { step = a._step }
