use Rattle.std.proofs.Common.{ℕ, ◌≡◌, ◌+◌, ◌++◌, [], ◌∷◌, map, refl, sym, subst, ap, ◌∙◌, arith, if◌then◌else◌}
use Rattle.gc_table.specs.Seats.{view_of}
use Rattle.mark_core.specs.declared.seat.SeatState.{SeatState}
use Rattle.plain_heap.specs.Sections.{Execution, printed_by, prints_line}
use Rattle.gc_script.specs.Shown.{execution_of}
use Rattle.warehouse.specs.Playing.{DoesAt, player_of}
use Rattle.warehouse.proofs.commands.do_other.Goals as goal
use Rattle.warehouse.proofs.Commanding.{command-other}
use Rattle.warehouse.proofs.Others.{mutates-other, has-cache, acts-other, collects-not, makes-none, made-later, one-at-most, one-for, printed-more, prints-line}
use Rattle.std.specs.Prelude.{Option, unwrap_or, is_some}
use Rattle.play_report.specs.Report.{printed_of}
use Rattle.plain_heap.specs.PlainRun.{with_label}
use Rattle.mark_core.specs.declared.kinds.Shape.{Shape}
use Rattle.gc_table.proofs.Running.{ran-shape}
use Rattle.mutator_ops.specs.Doing.{seen}

pub command-done-requires-clause-warehouse : goal.command-done-requires-clause-warehouse
command-done-requires-clause-warehouse c = λ l z. c.requires.may.next.lends_is l (ap (λ (o : Option ℕ). unwrap_or o 0) (sym c.requires.may.next.left.of.own ∙ z))

pub say-requires : goal.say-requires
say-requires c =
    let e : Execution = execution_of c.args.command.now in
    let next = c.requires.may.next in
    record {
      room = λ is.
          let prints : one-for (prints_line e.op) ≡ 1 =
          ap one-for (sym (prints-line (view_of c.args.mutator.now.seat).own.meaning.heap (seen (view_of c.args.mutator.now.seat)) e.op) ∙ sym (ap is_some c.command-done.ensures.line) ∙ is) in
          (let more : printed_by (e ∷ next.later) ≡ (if prints_line e.op then 1 else 0) + printed_by next.later = printed-more e next.later in omega (arith, next.room.said, more, prints));
    }

pub overflow_add-mutator : goal.overflow_add-mutator
overflow_add-mutator c = omega (arith, c.requires.may.next.room.count, c.requires.may.next.room.dropped, c.one_if.ensures, one-at-most c.command-done.result.dropped)

pub overflow_add-mutator-2 : goal.overflow_add-mutator-2
overflow_add-mutator-2 c = omega (arith, c.requires.may.next.room.count)

pub returns : goal.returns
returns c =
    λ kept playing.
    let k = c.command-done.ensures.does in
    let v = view_of c.args.mutator.now.seat in
    let w = view_of c.command-done.new.seat in
    let e : Execution = execution_of c.args.command.now in
    let printed : one-for (is_some c.command-done.result.line) ≡ one-for (prints_line e.op) = ap one-for (ap is_some c.command-done.ensures.line ∙ prints-line v.own.meaning.heap (seen v) e.op) in
    record {
      playing =
          record {
            sits = c.command-done.ensures.seat.0;
            mutates = mutates-other e.op _ v w k playing.mutates;
            cached = has-cache kept v w (ap (λ (s : SeatState). s.cache) k.state) playing.cached;
            counted = c.command-done.ensures.seat.1.counted;
          };
      does =
          command-other e _ (player_of c.args.mutator.now) _ (makes-none e.op c.requires.op) k refl
          (c.say.ensures.said ∙ ap (λ line. map printed_of c.args.mutator.now.said.items ++ with_label e.label line []) c.command-done.ensures.line) (ap (λ n. c.args.mutator.now.dropped + n) c.one_if.ensures) refl c.requires.may.next.left.after.said.cells_are;
      room = λ later r.
          record {
            said = omega (arith, r.said, printed-more e later, c.say.ensures.count, c.say.ensures.room, printed);
            places = omega (arith, r.places, made-later e later);
            count = omega (arith, r.count);
            made = omega (arith, r.made, made-later e later, ap (λ (s : SeatState). s.made) k.state, ap (λ (sh : Shape). sh.objects) (ran-shape v w k.ran));
            dropped = omega (arith, r.dropped, c.one_if.ensures, one-at-most c.command-done.result.dropped);
          };
      own = subst (λ b. DoesAt c.args.mutator.now.count b v w) (sym (collects-not e.op c.requires.op)) k.ran;
      acts = acts-other e _ v w c.requires.op k;
    }
