use Rattle.std.proofs.Common.{◌+◌, sym, ap, ◌∙◌}
use Rattle.std.specs.Prelude.{◌==◌}
use Rattle.std.proofs.lemmas.Bool.{or_left}
use Rattle.mark_core.specs.declared.kinds.Shape.{Shape}
use Rattle.mark_core.specs.declared.kinds.Step.TheVariants.{ReadCount}
use Rattle.mark_core.specs.Numbers.{empty_offset}
use Rattle.gc_table.specs.Seats.{view_of}
use Rattle.gc_table.specs.declared.view.View.{View}
use Rattle.gc_table.proofs.History.Log.{events-after}
use Rattle.packet_pools.specs.Seeking.{some_event}
use Rattle.card_clean.specs.Leaving.{rescanned_in}
use Rattle.gc_cycle.specs.Events.{never}
use Rattle.gc_cycle.specs.Sorts.{passes_card, pops, sees_all_empty}
use Rattle.gc_cycle.specs.Standing.{is_at_rest}
use Rattle.gc_cycle.proofs.Idling.{traced-of}
use Rattle.gc_cycle.proofs.tracing.sees_all_empty.Goals as goal

pub returns-clause-traced : goal.returns-clause-traced
returns-clause-traced c =
    let w : View = view_of c.all_empty.new.seat in
    let e = c.all_empty.ensures in
    traced-of (view_of c.args.seat.now) w e.only (ap (λ (sh : Shape). is_at_rest sh w.state) e.seat.1 ∙ (ap (is_at_rest c.args.heap.now.shape) e.state ∙ c.requires.rest))

pub returns-clause-rescanned : goal.returns-clause-rescanned
returns-clause-rescanned c =
    let v : View = view_of c.args.seat.now in
    let t = c.all_empty.ensures.count in
    ap (rescanned_in v) (events-after v (view_of c.all_empty.new.seat) ReadCount t.0 t.1)

pub returns-clause-unpassed : goal.returns-clause-unpassed
returns-clause-unpassed c = let t = c.all_empty.ensures.count in ap (never passes_card) (events-after (view_of c.args.seat.now) (view_of c.all_empty.new.seat) ReadCount t.0 t.1)

pub returns-clause-unpopped : goal.returns-clause-unpopped
returns-clause-unpopped c = let t = c.all_empty.ensures.count in ap (never pops) (events-after (view_of c.args.seat.now) (view_of c.all_empty.new.seat) ReadCount t.0 t.1)

pub returns-clause-empty : goal.returns-clause-empty
returns-clause-empty c = λ yes.
    let t = c.all_empty.ensures.count in
    ap (some_event (sees_all_empty (empty_offset + c.args.heap.now.shape.packets))) (events-after (view_of c.args.seat.now) (view_of c.all_empty.new.seat) ReadCount t.0 t.1)
    ∙ or_left (t.0 == empty_offset + c.args.heap.now.shape.packets) _ (sym t.3 ∙ yes)
