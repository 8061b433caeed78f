use Rattle.std.proofs.Common.{refl, sym, ◌∙◌}
use Rattle.std.proofs.lemmas.Bool.{true≢false}
use Rattle.mark_core.specs.declared.kinds.Step.TheVariants.{StoreValue}
use Rattle.gc_table.specs.Seats.{view_of}
use Rattle.gc_table.proofs.Running.{ran-stored}
use Rattle.card_clean.proofs.Owned.{may-share_value}
use Rattle.card_clean.proofs.sharing.share_value.Goals as goal

pub store_value-requires-clause-may : goal.store_value-requires-clause-may
store_value-requires-clause-may c = let q = c.requires in may-share_value (view_of c.args.seat.now) c.args.v c.args.value q.shared q.seat.1 q.some.0 q.some.1

pub store_value-requires-clause-asked : goal.store_value-requires-clause-asked
store_value-requires-clause-asked c = (c.requires.seat.1.seen, λ alone. absurd (true≢false (sym c.requires.shared ∙ alone)))

pub returns-clause-ran : goal.returns-clause-ran
returns-clause-ran c = ran-stored (view_of c.args.seat.now) (view_of c.store_value.new.seat) (StoreValue c.args.v c.args.value) refl c.store_value.ensures.view
