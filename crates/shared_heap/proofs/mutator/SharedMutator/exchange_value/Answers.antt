use Rattle.std.proofs.Common.{ap, arith, refl}
use Rattle.gc_table.specs.Seats.{view_of}
use Rattle.gc_table.specs.declared.view.View.{View}
use Rattle.seat_turns.proofs.Done.{exchanges-value}
use Rattle.seat_turns.proofs.Held.{held-same-in, holds-in}
use Rattle.seat_steps.proofs.Few.{exchanged-one}
use Rattle.shared_heap.proofs.mutator.SharedMutator.exchange_value.Goals as goal

pub share_count-requires-clause-seat : goal.share_count-requires-clause-seat
share_count-requires-clause-seat c = let m = c.args.self.now in holds-in _ _ m.seat c.deref.ensures (m.inside c.in-Inside.is) m.shared

pub invariant_of-self-in-Inside-clause-inside : goal.invariant_of-self-in-Inside-clause-inside
invariant_of-self-in-Inside-clause-inside c = λ _. let m = c.args.self.now in let e = c.share_count.ensures in held-same-in _ _ m.seat c.share_count.new.seat c.deref.ensures (m.inside c.in-Inside.is) e.seat e.ran (ap (λ (z : View). z.state) e.view.1)

pub returns-else-word_of-eq0-clause-done : goal.returns-else-word_of-eq0-clause-done
returns-else-word_of-eq0-clause-done c =
    let a = c.args in
    let e = c.share_count.ensures in
    record {
      in_range = omega (arith, c.if-v-ge-VARIABLES.false);
      was = c.in-Inside.is;
      inside = c.in-Inside.is;
      does = exchanges-value a.v a.expected a.new c.share_count.result (view_of a.self.now.seat) (view_of c.share_count.new.seat) e.ran e.view;
      world = refl;
      name_is = refl;
    }

pub returns-else-word_of-eq0-clause-few : goal.returns-else-word_of-eq0-clause-few
returns-else-word_of-eq0-clause-few c =
    let a = c.args in
    let e = c.share_count.ensures in
    let v = view_of a.self.now.seat in
    let w = view_of c.share_count.new.seat in
    exchanged-one a.v a.expected a.new c.share_count.result v w (exchanges-value a.v a.expected a.new c.share_count.result v w e.ran e.view)
