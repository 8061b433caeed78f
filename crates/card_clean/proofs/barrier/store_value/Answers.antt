use Rattle.std.proofs.Common.{refl}
use Rattle.mark_core.specs.declared.kinds.Step.TheVariants.{StoreValue}
use Rattle.gc_table.specs.declared.view.View.{View}
use Rattle.gc_table.specs.Seats.{view_of}
use Rattle.gc_table.proofs.Fitting.{possible-live}
use Rattle.gc_table.proofs.Running.{ran-stored}
use Rattle.card_clean.proofs.Owned.{may-store_value}
use Rattle.card_clean.proofs.barrier.store_value.Goals as goal

pub store_value-requires-clause-may : goal.store_value-requires-clause-may
store_value-requires-clause-may c = let v : View = view_of c.args.seat.now in may-store_value v c.args.v c.args.value c.requires.alone (possible-live v c.args.seat.now.possible) c.requires.seat.1 c.requires.own

pub returns-clause-ran : goal.returns-clause-ran
returns-clause-ran c = ran-stored (view_of c.args.seat.now) (view_of c.store_value.new.seat) (StoreValue c.args.v c.args.value) refl c.store_value.ensures.view
