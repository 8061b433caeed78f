use Rattle.std.proofs.Common.{ℕ, ◌≡◌, ap, arith, true}
use Rattle.gc_table.specs.Seats.{view_of}
use Rattle.gc_table.specs.declared.view.View.{View}
use Rattle.gc_table.proofs.Running.{ran-join}
use Rattle.mark_core.specs.declared.kinds.Step.TheVariants.{ReadStat}
use Rattle.gc_table.specs.Log.{events}
use Rattle.gc_table.proofs.History.Log.{events-after}
use Rattle.gc_cycle.specs.Events.{never}
use Rattle.gc_cycle.specs.Sorts.{reads_counter}
use Rattle.cache_refills.proofs.Refills.Payment.{never-run}
use Rattle.gc_cycle.proofs.Few.{few-after, few-join}
use Rattle.cache_refills.proofs.Few.{looks-most}
use Rattle.cache_refills.proofs.paying.owed_now.Goals as goal

pub returns-clause-ran : goal.returns-clause-ran
returns-clause-ran c =
    let u : View = view_of c.args.seat.now in
    let v : View = view_of c.read_statistic-last.new.seat in
    let w : View = view_of c.read_statistic-rescanned.new.seat in
    let x : View = view_of c.read_statistic-traced.new.seat in
    let y : View = view_of c.read_statistic-free.new.seat in
    ran-join u v y c.read_statistic-last.ensures.ran (ran-join v w y c.read_statistic-rescanned.ensures.ran (ran-join w x y c.read_statistic-traced.ensures.ran c.read_statistic-free.ensures.ran))

pub returns-clause-few : goal.returns-clause-few
returns-clause-few c =
    let u : View = view_of c.args.seat.now in
    let v : View = view_of c.read_statistic-last.new.seat in
    let w : View = view_of c.read_statistic-rescanned.new.seat in
    let x : View = view_of c.read_statistic-traced.new.seat in
    let y : View = view_of c.read_statistic-free.new.seat in
    let p = c.read_statistic-last.ensures in
    let q = c.read_statistic-rescanned.ensures in
    let r = c.read_statistic-traced.ensures in
    let s = c.read_statistic-free.ensures in
    let last = few-join 1 1 w x y r.ran s.ran (few-after w x _ _ r.read.1) (few-after x y _ _ s.read.1) in
    let more = few-join 1 2 v w y q.ran (ran-join w x y r.ran s.ran) (few-after v w _ _ q.read.1) last in
    few-join 1 3 u v y p.ran (ran-join v w y q.ran (ran-join w x y r.ran s.ran)) (few-after u v _ _ p.read.1) more

pub returns-clause-fewer : goal.returns-clause-fewer
returns-clause-fewer c = let many = c.looks_of.ensures in let most = looks-most c.is_late-late.result in omega (arith, many, most)

pub returns-clause-uncounted : goal.returns-clause-uncounted
returns-clause-uncounted c =
    let u : View = view_of c.args.seat.now in
    let v : View = view_of c.read_statistic-last.new.seat in
    let w : View = view_of c.read_statistic-rescanned.new.seat in
    let x : View = view_of c.read_statistic-traced.new.seat in
    let y : View = view_of c.read_statistic-free.new.seat in
    let p = c.read_statistic-last.ensures in
    let q = c.read_statistic-rescanned.ensures in
    let r = c.read_statistic-traced.ensures in
    let s = c.read_statistic-free.ensures in
    let later = ran-join w x y r.ran s.ran in
    never-run reads_counter u v y p.ran (ran-join v w y q.ran later) (ap (never reads_counter) (events-after u v _ _ p.read.1))
    (never-run reads_counter v w y q.ran later (ap (never reads_counter) (events-after v w _ _ q.read.1))
    (never-run reads_counter w x y r.ran s.ran (ap (never reads_counter) (events-after w x _ _ r.read.1)) (ap (never reads_counter) (events-after x y _ _ s.read.1))))
