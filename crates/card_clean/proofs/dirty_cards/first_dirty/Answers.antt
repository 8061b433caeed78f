use Rattle.std.proofs.Common.{subst, ap, arith}
use Rattle.std.specs.Prelude.{◌≡◌, ◌≤◌, ◌<◌, IfNone, IfSome, IsTrue}
use Rattle.mark_core.specs.Layout.{card_count}
use Rattle.mark_core.specs.declared.kinds.Shape.{Shape}
use Rattle.gc_table.specs.Log.{events}
use Rattle.gc_table.specs.Seats.{view_of}
use Rattle.gc_table.specs.declared.view.View.{View}
use Rattle.card_clean.specs.Drained.{AreNotedClean}
use Rattle.card_clean.specs.Looking.{looks_clean, looks_dirty}
use Rattle.card_clean.proofs.dirty_cards.first_dirty.Goals as goal

pub returns-clause-dirty : goal.returns-clause-dirty
returns-clause-dirty c =
    let es = events (view_of c.args.seat.now) (view_of c.dirty_between.new.seat) in
    subst (λ (sh : Shape). IfSome c.dirty_between.result (λ card. (c.args.from ≤ card) × (card < card_count sh) × (es ≡ looks_dirty c.args.from card))) c.shape.ensures c.dirty_between.ensures.dirty

pub returns-clause-clean : goal.returns-clause-clean
returns-clause-clean c =
    let es = events (view_of c.args.seat.now) (view_of c.dirty_between.new.seat) in
    subst (λ (sh : Shape). IfNone c.dirty_between.result (es ≡ looks_clean c.args.from (card_count sh))) c.shape.ensures c.dirty_between.ensures.clean

pub returns-clause-noted : goal.returns-clause-noted
returns-clause-noted c =
    let v : View = view_of c.args.seat.now in
    let w : View = view_of c.dirty_between.new.seat in
    subst (λ (sh : Shape). IfNone c.dirty_between.result (IsTrue v.state.alone → AreNotedClean c.args.from (card_count sh) w)) c.shape.ensures c.dirty_between.ensures.noted

pub returns-clause-few : goal.returns-clause-few
returns-clause-few c =
    let few = c.dirty_between.ensures.few in
    let cells : c.shape.result.cells ≡ c.args.heap.now.shape.cells = ap (λ (s : Shape). s.cells) c.shape.ensures in
    omega (arith, few, cells)

pub returns-clause-unnoted : goal.returns-clause-unnoted
returns-clause-unnoted c = c.dirty_between.ensures.unnoted
