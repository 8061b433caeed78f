use Rattle.std.proofs.Common.{◌<◌, arith, subst, ℕ, ◌≡◌, ◌≤◌, ◌-◌, length}
use Rattle.mark_core.specs.Layout.{root_count}
use Rattle.mark_core.specs.declared.kinds.Shape.{Shape}
use Rattle.gc_table.specs.declared.view.View.{View}
use Rattle.gc_table.specs.Seats.{view_of}
use Rattle.card_clean.proofs.Staying.{ready-stays}
use Rattle.gc_table.specs.Log.{events}
use Rattle.card_clean.specs.StepBounds.{see_to_steps}
use Rattle.card_clean.proofs.roots.see_to_roots.Goals as goal

pub see_to_some-requires-clause-roots : goal.see_to_some-requires-clause-roots
see_to_some-requires-clause-roots c = let all = c.count_roots-end.ensures in (omega arith, omega (arith, all))

pub returns-clause-rooted : goal.returns-clause-rooted
returns-clause-rooted c found =
    let v : View = view_of c.args.seat.now in
    let w : View = view_of c.see_to_some.new.seat in
    let e = c.see_to_some.ensures in
    let all = c.count_roots-end.ensures in
    record {
      ready = ready-stays v w e.only.ran e.only.only c.requires.ready;
      roots = λ i l. let below : i < root_count c.args.heap.now.shape = subst (λ (sh : Shape). i < root_count sh) e.seat.0.1 l in e.noted found i (omega arith) (omega (arith, below, all));
    }

pub returns-clause-few : goal.returns-clause-few
returns-clause-few c =
    let sh : Shape = c.args.heap.now.shape in
    let end : ℕ = c.count_roots-end.result in
    let few : length (events (view_of c.args.seat.now) (view_of c.see_to_some.new.seat)) ≤ see_to_steps (end - 0) sh = c.see_to_some.ensures.few in
    let all : end - 0 ≡ root_count sh = let d = c.count_roots-end.ensures in omega (arith, d) in
    subst (λ n. length (events (view_of c.args.seat.now) (view_of c.see_to_some.new.seat)) ≤ see_to_steps n sh) all few
