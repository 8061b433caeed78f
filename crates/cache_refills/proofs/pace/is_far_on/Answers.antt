use Rattle.gc_table.specs.Seats.{view_of}
use Rattle.gc_table.specs.declared.view.View.{View}
use Rattle.gc_table.proofs.Running.{ran-join}
use Rattle.gc_cycle.proofs.Few.{few-after, few-join}
use Rattle.cache_refills.proofs.pace.is_far_on.Goals as goal

pub returns-clause-ran : goal.returns-clause-ran
returns-clause-ran c =
    let u : View = view_of c.args.seat.now in
    let v : View = view_of c.read_statistic-last.new.seat in
    let w : View = view_of c.read_statistic-traced.new.seat in
    let x : View = view_of c.read_statistic-free.new.seat in
    ran-join u v x c.read_statistic-last.ensures.ran (ran-join v w x c.read_statistic-traced.ensures.ran c.read_statistic-free.ensures.ran)

pub returns-clause-few : goal.returns-clause-few
returns-clause-few c =
    let u : View = view_of c.args.seat.now in
    let v : View = view_of c.read_statistic-last.new.seat in
    let w : View = view_of c.read_statistic-traced.new.seat in
    let x : View = view_of c.read_statistic-free.new.seat in
    let p = c.read_statistic-last.ensures in
    let q = c.read_statistic-traced.ensures in
    let r = c.read_statistic-free.ensures in
    let last = few-join 1 1 v w x q.ran r.ran (few-after v w _ _ q.read.1) (few-after w x _ _ r.read.1) in
    few-join 1 2 u v x p.ran (ran-join v w x q.ran r.ran) (few-after u v _ _ p.read.1) last
