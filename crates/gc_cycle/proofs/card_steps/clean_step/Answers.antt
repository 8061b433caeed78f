use Rattle.std.proofs.Common.{inl}
use Rattle.mark_core.specs.declared.kinds.Phase.TheVariants.{Drain}
use Rattle.gc_table.specs.Seats.{view_of}
use Rattle.gc_table.specs.declared.view.View.{View}
use Rattle.gc_table.proofs.History.Log.{only-more}
use Rattle.gc_cycle.specs.Lower.{traces_or_cleans}
use Rattle.gc_cycle.specs.Statistics.{leaves_numbers}
use Rattle.gc_cycle.proofs.CardPieces.{alone-of, drains-part, drains-still}
use Rattle.gc_cycle.proofs.Exactly.{exact-part}
use Rattle.gc_cycle.proofs.Leaving.{traces-leave}
use Rattle.gc_cycle.proofs.Stepped.{part-keeps}
use Rattle.gc_cycle.proofs.Ends.Stepwise.{cleaned-down}
use Rattle.gc_cycle.proofs.card_steps.clean_step.Goals as goal

pub clean_piece-requires-clause-drains : goal.clean_piece-requires-clause-drains
clean_piece-requires-clause-drains c = inl (alone-of (view_of c.args.seat.now) c.requires.drains)

pub returns-clause-part : goal.returns-clause-part
returns-clause-part c = drains-part (view_of c.args.seat.now) (view_of c.clean_piece.new.seat) c.requires.drains c.clean_piece.ensures.traced

pub returns-clause-drains : goal.returns-clause-drains
returns-clause-drains c = drains-still (view_of c.args.seat.now) (view_of c.clean_piece.new.seat) c.requires.drains c.clean_piece.ensures.traced

pub returns-clause-exact : goal.returns-clause-exact
unfolding returns-clause-part
returns-clause-exact c u k = exact-part Drain u (view_of c.args.seat.now) (view_of c.clean_piece.new.seat) (returns-clause-part c) k

pub returns-clause-numbers : goal.returns-clause-numbers
returns-clause-numbers c = only-more traces_or_cleans leaves_numbers traces-leave (view_of c.args.seat.now) (view_of c.clean_piece.new.seat) c.clean_piece.ensures.traced.only

pub returns-clause-keeps : goal.returns-clause-keeps
unfolding returns-clause-part
returns-clause-keeps c = part-keeps Drain (view_of c.args.seat.now) (view_of c.clean_piece.new.seat) (returns-clause-part c)

pub returns-clause-falls : goal.returns-clause-falls
returns-clause-falls c = λ spills.
    let v : View = view_of c.args.seat.now in
    let e = c.clean_piece.ensures in
    cleaned-down c.clean_piece.result c.args.heap.now.shape v (view_of c.clean_piece.new.seat) c.args.from c.args.most c.requires.seat.1 (alone-of v c.requires.drains) e.traced e.cleaned spills
