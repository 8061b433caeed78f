-- What a seat knows of a full heap, it knows when it has left the world.
use Rattle.gc_table.specs.Rule.{KnowsFull}
use Rattle.gc_table.specs.declared.view.View.{View}
use Rattle.gc_table.proofs.History.Log.{only-more}
use Rattle.gc_cycle.specs.Mutating.{GoesOut, stays_calm, tries_stopping}
use Rattle.gc_cycle.proofs.Refills.KnownFull.{full-known}
use Rattle.gc_cycle.proofs.SectionKept.{calm-tries}

pub out-full : (v w : View) → GoesOut v w → KnowsFull v → KnowsFull w
out-full v w g k = full-known v w g.ran (only-more stays_calm tries_stopping calm-tries v w g.only) k
