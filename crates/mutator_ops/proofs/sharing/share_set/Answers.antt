use Rattle.std.proofs.Common.{◌≡◌, ◌==◌, ◌∙◌, ap, sym, Bool, false, [], Some}
use Rattle.std.specs.Prelude.{if◌then◌else◌, length}
use Rattle.std.proofs.lemmas.Bool.{ne_eqb}
use Rattle.plain_heap.specs.PlainHeap.{variable}
use Rattle.plain_heap.specs.PlainStep.{with_field}
use Rattle.gc_table.specs.Sections.{stored_ref}
use Rattle.card_clean.specs.Barrier.{barrier_steps, was_dirty}
use Rattle.gc_table.specs.Log.{events}
use Rattle.gc_table.specs.Seats.{view_of}
use Rattle.gc_table.specs.declared.view.SectionState.{SectionState}
use Rattle.gc_table.specs.declared.view.View.{View}
use Rattle.gc_table.proofs.Running.{ran-shape}
use Rattle.mark_core.specs.Steps.MutatorSteps.{seat_variable as word_in}
use Rattle.mark_core.specs.declared.seat.SeatState.{SeatState}
use Rattle.mutator_ops.proofs.Knowing.{stored-count}
use Rattle.mutator_ops.proofs.Storing.{shares-on, stored-same}
use Rattle.mutator_ops.proofs.sharing.share_set.Goals as goal

same : (c : goal.After-share_ref) → (view_of c.share_ref.new.seat).state ≡ (view_of c.args.seat.now).state
same c =
    let v : View = view_of c.args.seat.now in
    let q = c.requires.seat.1 in
    c.share_ref.ensures.state ∙ stored-same v.shape.fields v.state c.args.v (was_dirty (events v (view_of c.share_ref.new.seat))) q.idle q.stores.owes

pub returns-clause-seat : goal.returns-clause-seat
returns-clause-seat c =
    let v : View = view_of c.args.seat.now in
    let w : View = view_of c.share_ref.new.seat in
    let e = c.share_ref.ensures in (
      e.seat.0,
      shares-on v w c.requires.seat.1 (ran-shape v w e.ran) (same c ∙ ap (λ (s : SeatState). record v.state { env = s.env }) (sym (same c)))
          (ap (λ (y : SectionState). length y.meaning.heap.objects) e.own ∙ stored-count v.own.meaning.heap (variable v.own.meaning.heap c.args.v) (λ o. with_field o c.args.i (stored_ref v.own.meaning.heap (Some c.args.w)))),
    )

pub returns-clause-takes : goal.returns-clause-takes
returns-clause-takes c =
    let v : View = view_of c.args.seat.now in
    let dirty : Bool = was_dirty (events v (view_of c.share_ref.new.seat)) in
    let some : (word_in v.state c.args.v == 0) ≡ false = ne_eqb (word_in v.state c.args.v) 0 (λ e. c.if-word_of-eq0.false (c.word_of.ensures ∙ e)) in
    record {
      ran = c.share_ref.ensures.ran;
      steps_are = c.share_ref.ensures.steps ∙ ap (λ (b : Bool). if b then [] else barrier_steps v.state c.args.v c.args.i (Some c.args.w) dirty) (sym some);
      state = same c;
    }
