use Rattle.std.proofs.Common.{◌+◌, ap, ◌∙◌, sym, eqb-true}
use Rattle.std.proofs.lemmas.Bool.{OnFalse_from, OnTrue_from}
use Rattle.mark_core.specs.Numbers.{empty_offset}
use Rattle.mark_core.specs.declared.kinds.Phase.TheVariants.{Drain}
use Rattle.mark_core.specs.declared.kinds.Shape.{Shape}
use Rattle.gc_table.specs.Seats.{view_of}
use Rattle.gc_table.specs.declared.view.View.{View}
use Rattle.gc_table.proofs.History.Log.{events-after, only-more}
use Rattle.mark_core.specs.declared.kinds.Step.TheVariants.{ReadCount}
use Rattle.gc_cycle.specs.Lower.{traces_or_cleans}
use Rattle.gc_cycle.specs.Standing.{is_at_rest}
use Rattle.gc_cycle.specs.Statistics.{leaves_numbers}
use Rattle.std.specs.Prelude.{◌==◌}
use Rattle.gc_cycle.proofs.CardPieces.{drains-part, drains-still, marked-all, rest-of}
use Rattle.gc_cycle.proofs.Exactly.{exact-part}
use Rattle.gc_cycle.proofs.Leaving.{traces-leave}
use Rattle.gc_cycle.proofs.Stepped.{part-keeps}
use Rattle.std.proofs.Common.{◌≡◌, eq-eqb}
use Rattle.gc_table.specs.Log.{events}
use Rattle.packet_pools.specs.Counts.{count_of, dirties, pushes}
use Rattle.gc_cycle.proofs.Ends.AllEmpty.{settled-count}
use Rattle.gc_cycle.proofs.CardPieces.{alone-of}
use Rattle.gc_cycle.proofs.Ends.Settled.{from-spent}
use Rattle.gc_cycle.proofs.Ends.Stepwise.{looks-down}
use Rattle.gc_cycle.proofs.card_steps.finds_all_marked.Goals as goal

pub sees_all_empty-requires-clause-rest : goal.sees_all_empty-requires-clause-rest
sees_all_empty-requires-clause-rest c =
    let v : View = view_of c.args.seat.now in ap (λ (sh : Shape). is_at_rest sh v.state) (sym c.requires.seat.1) ∙ rest-of v c.requires.looked.drains

pub returns-clause-part : goal.returns-clause-part
returns-clause-part c = drains-part (view_of c.args.seat.now) (view_of c.sees_all_empty.new.seat) c.requires.looked.drains c.sees_all_empty.ensures.traced

pub returns-clause-marked : goal.returns-clause-marked
returns-clause-marked c =
    let v : View = view_of c.args.seat.now in
    let w : View = view_of c.sees_all_empty.new.seat in
    let l = c.sees_all_empty.ensures.looks in
    OnTrue_from c.sees_all_empty.result _
    (λ is.
    marked-all v w l.0 c.requires.looked c.sees_all_empty.ensures.traced l.1 l.2
    (eqb-true l.0 (empty_offset + c.args.heap.now.shape.packets) (sym l.3 ∙ is) ∙ ap (λ (sh : Shape). empty_offset + sh.packets) (sym c.requires.seat.1)))

pub returns-clause-not_yet : goal.returns-clause-not_yet
returns-clause-not_yet c =
    OnFalse_from c.sees_all_empty.result _ (λ is. drains-still (view_of c.args.seat.now) (view_of c.sees_all_empty.new.seat) c.requires.looked.drains c.sees_all_empty.ensures.traced)

pub returns-clause-reads : goal.returns-clause-reads
returns-clause-reads c =
    let v : View = view_of c.args.seat.now in
    let l = c.sees_all_empty.ensures.looks in
    (l.0, events-after v (view_of c.sees_all_empty.new.seat) ReadCount l.0 l.1, l.3 ∙ ap (λ (sh : Shape). l.0 == empty_offset + sh.packets) (sym c.requires.seat.1))

pub returns-clause-exact : goal.returns-clause-exact
unfolding returns-clause-part
returns-clause-exact c u k = exact-part Drain u (view_of c.args.seat.now) (view_of c.sees_all_empty.new.seat) (returns-clause-part c) k

pub returns-clause-numbers : goal.returns-clause-numbers
returns-clause-numbers c = only-more traces_or_cleans leaves_numbers traces-leave (view_of c.args.seat.now) (view_of c.sees_all_empty.new.seat) c.sees_all_empty.ensures.traced.only

pub returns-clause-keeps : goal.returns-clause-keeps
unfolding returns-clause-part
returns-clause-keeps c = part-keeps Drain (view_of c.args.seat.now) (view_of c.sees_all_empty.new.seat) (returns-clause-part c)

pub returns-clause-falls : goal.returns-clause-falls
returns-clause-falls c =
    let v : View = view_of c.args.seat.now in
    let w : View = view_of c.sees_all_empty.new.seat in
    let l = c.sees_all_empty.ensures.looks in
    let one = events-after v w ReadCount l.0 l.1 in
    let pushed : count_of pushes (events v w) ≡ 0 = ap (count_of pushes) one in
    let dirtied : count_of dirties (events v w) ≡ 0 = ap (count_of dirties) one in
    looks-down v w (alone-of v c.requires.looked.drains) c.sees_all_empty.ensures.traced pushed dirtied

pub returns-clause-all : goal.returns-clause-all
returns-clause-all c = λ all.
    let v : View = view_of c.args.seat.now in
    let l = c.sees_all_empty.ensures.looks in
    let s = from-spent v all in
    let is = settled-count v l.0 l.2 c.requires.looked.drains.rest.alone s.3 s.0 s.1 s.2 in
    l.3 ∙ eq-eqb l.0 (empty_offset + c.args.heap.now.shape.packets) (is ∙ ap (λ (sh : Shape). empty_offset + sh.packets) c.requires.seat.1)
