use Rattle.std.proofs.Common.{ℕ, ◌≤◌, ◌-◌, ◌*◌, arith}
use Rattle.mark_core.specs.Cards.{card_cells}
use Rattle.gc_table.specs.Seats.{view_of}
use Rattle.cache_refills.specs.Pace.Pacing.{card_looks}
use Rattle.gc_cycle.proofs.Few.{cards-fewer}
use Rattle.cache_refills.proofs.Refills.Apart.{leaves-by, leaves-none}
use Rattle.cache_refills.proofs.Refills.Payment.{cleaned-none}
use Rattle.cache_refills.proofs.early.pass_early.Goals as goal

pub returns-then-from-end-clause-none : goal.returns-then-from-end-clause-none
returns-then-from-end-clause-none c =
    let e = c.clean_between.ensures in
    cleaned-none (view_of c.args.seat.now) (view_of c.clean_between.new.seat) e.traced e.unpopped e.unread e.unrooted e.undrawn

pub returns-then-from-end-clause-few : goal.returns-then-from-end-clause-few
returns-then-from-end-clause-few c =
    let end : ℕ = c.min-end.result in
    let few : end ≤ c.args.end = let least = c.min-end.ensures in omega (arith, least) in
    let most = c.requires.most in
    let cards : end - c.args.from ≤ card_looks = omega (arith, few, most) in
    cards-fewer (end - c.args.from) card_looks (card_cells * (end - c.args.from)) (card_cells * card_looks) c.args.heap.now.shape _ cards (omega (arith, cards)) c.clean_between.ensures.few

pub returns-then-from-end-clause-leaves : goal.returns-then-from-end-clause-leaves
returns-then-from-end-clause-leaves c = let e = c.clean_between.ensures in leaves-by (view_of c.args.seat.now) (view_of c.clean_between.new.seat) e.traced.ran e.unpopped e.undeferred e.uncounted

pub returns-else-from-end-clause-leaves : goal.returns-else-from-end-clause-leaves
returns-else-from-end-clause-leaves c = leaves-none (view_of c.args.seat.now)
