use Rattle.std.proofs.Common.{◌≤◌, ◌+◌, arith, refl, sym, ap, ◌∙◌}
use Rattle.std.proofs.lemmas.Bool.{and_from, le-leb, or_left}
use Rattle.mark_core.specs.Layout.{card_count}
use Rattle.mark_core.specs.Numbers.{card_counter, empty_offset}
use Rattle.mark_core.specs.declared.kinds.Shape.{Shape}
use Rattle.mark_core.specs.declared.kinds.Step.TheVariants.{ReadCount, ReadStat}
use Rattle.gc_table.specs.Log.{events}
use Rattle.gc_table.specs.Seats.{view_of}
use Rattle.gc_table.specs.declared.view.View.{View}
use Rattle.gc_table.proofs.History.Log.{events-after}
use Rattle.gc_table.proofs.Running.{ran-events, ran-found, ran-join}
use Rattle.packet_pools.specs.Seeking.{some_event}
use Rattle.packet_pools.proofs.Searches.{some-left, some-right}
use Rattle.gc_cycle.specs.Sorts.{sees_all_empty, sees_last_card}
use Rattle.gc_cycle.proofs.Few.{few-after, few-join}
use Rattle.cache_refills.proofs.refilling.marking_is_done.Goals as goal

pub returns-then-seen-from-clause-ran : goal.returns-then-seen-from-clause-ran
returns-then-seen-from-clause-ran c = ran-found (view_of c.args.seat.now) (view_of c.read_stat-seen.new.seat) (ReadStat card_counter) c.read_stat-seen.result refl c.read_stat-seen.ensures.view

pub returns-clause-ran : goal.returns-clause-ran
returns-clause-ran c =
    let u : View = view_of c.args.seat.now in
    let v : View = view_of c.read_stat-seen.new.seat in
    ran-join u v (view_of c.all_empty.new.seat) (ran-found u v (ReadStat card_counter) c.read_stat-seen.result refl c.read_stat-seen.ensures.view) c.all_empty.ensures.only.ran

pub returns-clause-done : goal.returns-clause-done
returns-clause-done c = λ h.
    let u : View = view_of c.args.seat.now in
    let v : View = view_of c.read_stat-seen.new.seat in
    let w : View = view_of c.all_empty.new.seat in
    let n = c.read_stat-seen.result in
    let f = c.read_stat-seen.ensures.view in
    let t = c.all_empty.ensures.count in
    let cards = card_count c.args.heap.now.shape in
    let all = empty_offset + c.args.heap.now.shape.packets in
    let es = ran-events u v w (ran-found u v (ReadStat card_counter) n refl f) c.all_empty.ensures.only.ran in
    let low = c.if-seen-from.false in
    let from = c.from.ensures in
    let shape = ap (λ (s : Shape). card_count s) c.shape.ensures in
    let end : cards ≤ n = omega (arith, low, from, shape) in
    record {
      cards =
          ap (some_event (sees_last_card cards)) es
          ∙ some-left (sees_last_card cards) (events u v) (events v w) (ap (some_event (sees_last_card cards)) (events-after u v (ReadStat card_counter) n f.0) ∙ or_left _ _ (and_from _ _ refl (le-leb cards n end)));
      empty =
          ap (some_event (sees_all_empty all)) es
          ∙ some-right (sees_all_empty all) (events u v) (events v w) (ap (some_event (sees_all_empty all)) (events-after v w ReadCount t.0 t.1) ∙ or_left _ _ (sym t.3 ∙ h));
    }

pub returns-then-seen-from-clause-few : goal.returns-then-seen-from-clause-few
returns-then-seen-from-clause-few c =
    let u : View = view_of c.args.seat.now in
    let v : View = view_of c.read_stat-seen.new.seat in
    let one = few-after u v (ReadStat card_counter) c.read_stat-seen.result c.read_stat-seen.ensures.view.0 in
    omega (arith, one)

pub returns-clause-few : goal.returns-clause-few
returns-clause-few c =
    let u : View = view_of c.args.seat.now in
    let v : View = view_of c.read_stat-seen.new.seat in
    let w : View = view_of c.all_empty.new.seat in
    let f = c.read_stat-seen.ensures.view in
    let t = c.all_empty.ensures.count in
    few-join 1 1 u v w (ran-found u v (ReadStat card_counter) c.read_stat-seen.result refl f) c.all_empty.ensures.only.ran (few-after u v (ReadStat card_counter) c.read_stat-seen.result f.0) (few-after v w ReadCount t.0 t.1)
