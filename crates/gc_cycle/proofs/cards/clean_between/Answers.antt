use Rattle.std.proofs.Common.{◌≡◌, ap, ◌∙◌, sym, subst, refl, true}
use Rattle.std.proofs.lemmas.Bool.{false≢true}
use Rattle.mark_core.specs.Seats.{work_in_hand}
use Rattle.mark_core.specs.declared.kinds.Shape.{Shape}
use Rattle.mark_core.specs.declared.kinds.Step.TheVariants.{NextOfCards}
use Rattle.gc_table.specs.Log.{events}
use Rattle.gc_table.specs.Seats.{view_of}
use Rattle.gc_table.specs.declared.view.View.{View}
use Rattle.packet_pools.specs.OnlyTraced.{traces_cells}
use Rattle.packet_pools.specs.Seeking.{output_pools}
use Rattle.gc_cycle.specs.CardLooks.{PassesCards}
use Rattle.gc_cycle.specs.Sorts.{draws, pops, reads_root, takes_deferred}
use Rattle.gc_cycle.specs.Standing.{is_at_rest}
use Rattle.gc_cycle.proofs.CardLooks.{pass-spares, passed, passed-few}
use Rattle.gc_cycle.proofs.Ends.Rooted.{rest-room}
use Rattle.gc_cycle.proofs.Idling.{rest-parts, traced-held, traces-of}
use Rattle.gc_cycle.proofs.CleaningSpares.{moves-undeferred, moves-unpopped, moves-unrooted, scan-undeferred, scan-unpopped, scan-unrooted, Spares, uncounted-of, unread-of, untaken}
use Rattle.gc_cycle.proofs.cards.clean_between.Goals.{After-clean_some}
use Rattle.gc_cycle.proofs.cards.clean_between.Goals as goal

pub clean_some-requires-clause-seat : goal.clean_some-requires-clause-seat
clean_some-requires-clause-seat c = (c.requires.seat.0, traces-of c.args.heap.now.shape (view_of c.args.seat.now) c.requires.seat.1 c.requires.rest)

pub clean_some-requires-clause-free : goal.clean_some-requires-clause-free
clean_some-requires-clause-free c =
    let v : View = view_of c.args.seat.now in
    rest-room v c.args.seat.now.possible (subst (λ (sh : Shape). is_at_rest sh v.state ≡ true) (sym c.requires.seat.0.1) c.requires.rest)

pub clean_some-requires-clause-work : goal.clean_some-requires-clause-work
clean_some-requires-clause-work c = (rest-parts c.args.heap.now.shape (view_of c.args.seat.now).state c.requires.rest).work

pub returns-clause-traced : goal.returns-clause-traced
returns-clause-traced c =
    let v : View = view_of c.args.seat.now in
    let w : View = view_of c.clean_some.new.seat in
    let e = c.clean_some.ensures in
    traced-held v w e.only e.seat.1 e.held (ap (λ (sh : Shape). work_in_hand sh.fields w.state) e.seat.0.1 ∙ e.work) (subst (λ (sh : Shape). is_at_rest sh v.state ≡ true) (sym c.requires.seat.0.1) c.requires.rest)

all-passed : (c : After-clean_some) → PassesCards c.args.heap.now.shape c.args.first c.args.end (events (view_of c.args.seat.now) (view_of c.clean_some.new.seat))
all-passed c = passed c.args.heap.now.shape c.args.first c.args.end (view_of c.args.seat.now) (view_of c.clean_some.new.seat) c.clean_some.result c.clean_some.ensures.some c.clean_some.ensures.none

pub returns-clause-passes : goal.returns-clause-passes
returns-clause-passes c = all-passed c

undraws : Spares traces_cells draws
undraws NextOfCards n e = absurd (false≢true e)
undraws step n e = refl

pub returns-clause-undrawn : goal.returns-clause-undrawn
returns-clause-undrawn c = untaken traces_cells draws undraws (events (view_of c.args.seat.now) (view_of c.clean_some.new.seat)) c.clean_some.ensures.only.only

pub returns-clause-unpopped : goal.returns-clause-unpopped
returns-clause-unpopped c =
    pass-spares pops (moves-unpopped output_pools) scan-unpopped (λ k n. refl) (λ k n. refl) (λ k n. refl) (λ k n. refl) (λ k n. refl) c.args.heap.now.shape c.args.first c.args.end (events (view_of c.args.seat.now) (view_of c.clean_some.new.seat)) (all-passed c)

pub returns-clause-unrooted : goal.returns-clause-unrooted
returns-clause-unrooted c =
    pass-spares reads_root (moves-unrooted output_pools) scan-unrooted (λ k n. refl) (λ k n. refl) (λ k n. refl) (λ k n. refl) (λ k n. refl) c.args.heap.now.shape c.args.first c.args.end (events (view_of c.args.seat.now) (view_of c.clean_some.new.seat)) (all-passed c)

pub returns-clause-unread : goal.returns-clause-unread
returns-clause-unread c = unread-of (view_of c.args.seat.now) (view_of c.clean_some.new.seat) c.clean_some.ensures.only

pub returns-clause-few : goal.returns-clause-few
returns-clause-few c =
    passed-few c.args.heap.now.shape c.args.first c.args.end (view_of c.args.seat.now) (view_of c.clean_some.new.seat) c.clean_some.result c.clean_some.ensures.some c.clean_some.ensures.few

pub returns-clause-undeferred : goal.returns-clause-undeferred
returns-clause-undeferred c =
    pass-spares takes_deferred moves-undeferred scan-undeferred (λ k n. refl) (λ k n. refl) (λ k n. refl) (λ k n. refl) (λ k n. refl) c.args.heap.now.shape c.args.first c.args.end (events (view_of c.args.seat.now) (view_of c.clean_some.new.seat)) (all-passed c)

pub returns-clause-uncounted : goal.returns-clause-uncounted
returns-clause-uncounted c = uncounted-of (view_of c.args.seat.now) (view_of c.clean_some.new.seat) c.clean_some.ensures.only
