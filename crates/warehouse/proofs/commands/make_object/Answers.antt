use Rattle.std.proofs.Common.{ℕ, ◌≡◌, ◌+◌, ◌++◌, [], ◌∷◌, refl, sym, subst, ap, ◌∙◌, arith}
use Rattle.gc_table.specs.Seats.{view_of}
use Rattle.mark_core.specs.declared.seat.SeatState.{SeatState}
use Rattle.plain_heap.specs.Sections.{Execution, made_by}
use Rattle.gc_script.specs.Shown.{execution_of}
use Rattle.mutator_ops.specs.Creating.{Creates}
use Rattle.warehouse.specs.Playing.{DoesAt, is_collect, player_of}
use Rattle.warehouse.proofs.commands.make_object.Goals as goal
use Rattle.warehouse.proofs.Commanding.{command-new}
use Rattle.mark_core.specs.declared.kinds.Shape.{Shape}
use Rattle.gc_table.proofs.Running.{ran-shape}
use Rattle.warehouse.proofs.Collecting.{acts-new, made-new, mutates-new, printed-later}

pub create-requires-clause-room : goal.create-requires-clause-room
create-requires-clause-room c =
    let next = c.requires.may.next in
    let one : made_by (execution_of c.args.command.now ∷ next.later) ≡ 1 + made_by next.later = made-new (execution_of c.args.command.now) c.args.v c.args.n next.later c.requires.op in
    omega (arith, next.room.made, one, ap (λ (sh : Shape). sh.objects) c.requires.playing.sits.1)

pub place-requires : goal.place-requires
place-requires c =
    let next = c.requires.may.next in
    let one : made_by (execution_of c.args.command.now ∷ next.later) ≡ 1 + made_by next.later = made-new (execution_of c.args.command.now) c.args.v c.args.n next.later c.requires.op in
    record { room = omega (arith, next.room.places, one) }

pub overflow_add-mutator : goal.overflow_add-mutator
overflow_add-mutator c = omega (arith, c.requires.may.next.room.count)

pub returns : goal.returns
returns c =
    let v = view_of c.args.mutator.now.seat in
    let w = view_of c.create.new.seat in
    let e : Execution = execution_of c.args.command.now in
    let cell : ℕ = c.in-Some-create.cell in
    let made = c.in-Some-create.ensures.creates in
    let k : Creates c.args.v c.args.n cell v w = made.1 in
    record {
      playing =
          record {
            sits = c.create.ensures.seat.0;
            mutates = mutates-new c.args.v c.args.n cell v w k c.requires.may.in_turn.ready c.create.ensures.seat.1 c.requires.playing.mutates;
            cached = c.create.ensures.cache;
            counted = c.create.ensures.seat.1.counted;
          };
      does =
          command-new e c.args.v c.args.n cell (player_of c.args.mutator.now) _ c.requires.op k refl refl refl
          (c.place.ensures.places ∙ ap (λ m. c.args.mutator.now.places.items ++ m ∷ []) c.number.ensures) c.requires.may.next.left.after.said.cells_are;
      room = λ later r.
          let one : made_by (e ∷ later) ≡ 1 + made_by later = made-new e c.args.v c.args.n later c.requires.op in
          record {
            said = omega (arith, r.said, printed-later e later);
            places = omega (arith, r.places, one, c.place.ensures.count, c.place.ensures.room);
            count = omega (arith, r.count);
            made = omega (arith, r.made, one, ap (λ (s : SeatState). s.made) k.state, ap (λ (sh : Shape). sh.objects) (ran-shape v w k.ran));
            dropped = omega (arith, r.dropped);
          };
      own = subst (λ op. DoesAt c.args.mutator.now.count (is_collect op) v w) (sym c.requires.op) k.ran;
      acts = acts-new e c.args.v c.args.n cell v w c.requires.op k;
    }
