use Rattle.std.proofs.Common.{◌≡◌, ◌<◌, ◌∙◌, [], ◌∷◌, ap, refl, sym, subst}
use Rattle.std.specs.Prelude.{length}
use Rattle.mark_core.specs.Steps.MutatorSteps.{seat_variable as word_in}
use Rattle.mark_core.specs.declared.kinds.Shape.{Shape}
use Rattle.mark_core.specs.declared.kinds.Step.TheVariants.{StoreSlot}
use Rattle.gc_table.specs.Seats.{view_of}
use Rattle.gc_table.specs.declared.view.View.{View}
use Rattle.gc_table.specs.Log.{steps_of}
use Rattle.gc_table.proofs.History.Log.{events-after}
use Rattle.gc_table.proofs.Running.{ran-stored}
use Rattle.mutator_ops.proofs.Storing.{may-spill, shares-on, state-kept, state-spilled}
use Rattle.mutator_ops.proofs.sharing.share_spill.Goals as goal

pub store_slot-requires-clause-may : goal.store_slot-requires-clause-may
store_slot-requires-clause-may c =
    may-spill c.args.k c.from.result c.args.v (view_of c.args.seat.now) c.requires.seat.1 (subst (λ (sh : Shape). c.args.k < sh.slots) (sym c.requires.seat.0.1) c.requires.range.1) c.requires.range.0 (c.from.ensures ∙ c.word_of-word.ensures)

pub store_slot-requires-clause-asked : goal.store_slot-requires-clause-asked
store_slot-requires-clause-asked c = (c.requires.seat.1.stores.seen, c.requires.seat.1.shared)

pub returns-clause-seat : goal.returns-clause-seat
returns-clause-seat c =
    let v : View = view_of c.args.seat.now in
    let w : View = view_of c.store_slot.new.seat in
    let q = c.requires.seat.1 in
    let e = c.store_slot.ensures.view in
    (c.store_slot.ensures.seat, shares-on v w q (ap (λ (y : View). y.shape) e) (state-spilled c.args.k c.from.result v w q.register e) (ap (λ (y : View). length y.own.meaning.heap.objects) e))

pub returns-clause-takes : goal.returns-clause-takes
returns-clause-takes c =
    let v : View = view_of c.args.seat.now in
    let w : View = view_of c.store_slot.new.seat in
    let r = c.from.result in
    let e = c.store_slot.ensures.view in
    let word : r ≡ word_in v.state c.args.v = c.from.ensures ∙ c.word_of-word.ensures in
    record {
      ran = ran-stored v w (StoreSlot c.args.k r) refl e;
      steps_are = ap steps_of (events-after v w (StoreSlot c.args.k r) r e) ∙ ap (λ n. StoreSlot c.args.k n ∷ []) word;
      state = state-kept c.args.k r v w c.requires.seat.1.register e;
    }
