use Rattle.std.proofs.Common.{ℕ, ◌≡◌, ◌≤◌, ◌+◌, ◌*◌, List, length, ◌++◌, refl, sym, ap, ◌∙◌, subst, true, false, arith}
use Rattle.std.specs.Prelude.{nat_lt}
use Rattle.std.proofs.lemmas.Bool.{le-ltb, lt-ltb}
use Rattle.mark_core.specs.declared.kinds.Phase.TheVariants.{Marking}
use Rattle.mark_core.specs.declared.kinds.Step.TheVariants.{StorePhase}
use Rattle.mark_core.specs.declared.seat.SeatState.{SeatState}
use Rattle.gc_table.specs.declared.view.Entry.{Entry}
use Rattle.gc_table.specs.declared.view.View.{View}
use Rattle.gc_table.specs.Seats.{view_of}
use Rattle.gc_table.specs.Taking.{won}
use Rattle.gc_table.specs.Log.{events}
use Rattle.gc_table.specs.Running.{Ran}
use Rattle.gc_table.proofs.History.Log.{events-after}
use Rattle.gc_table.proofs.Running.{ran-answered, ran-events, ran-join}
use Rattle.packet_pools.specs.Counts.{count_of}
use Rattle.cache_refills.specs.Pace.Pacing.{begins_where_due, KicksOff, statistic, tries_marking}
use Rattle.gc_cycle.proofs.Few.{few-after, few-events, few-join}
use Rattle.cache_refills.proofs.Due.{due-begun, may-try, none-due, one-due, three, three-events, tried-state}
use Rattle.cache_refills.proofs.pace.begin_due.Goals as goal

pub returns-then-free-last-clause-ran : goal.returns-then-free-last-clause-ran
returns-then-free-last-clause-ran c =
    let v : View = view_of c.args.seat.now in
    let u : View = view_of c.read_statistic-last.new.seat in
    let w : View = view_of c.read_statistic-rescanned.new.seat in
    let x : View = view_of c.read_statistic-free.new.seat in
    ran-join v u x c.read_statistic-last.ensures.ran (ran-join u w x c.read_statistic-rescanned.ensures.ran c.read_statistic-free.ensures.ran)

pub returns-then-free-last-clause-begins : goal.returns-then-free-last-clause-begins
returns-then-free-last-clause-begins c =
    let v : View = view_of c.args.seat.now in
    let u : View = view_of c.read_statistic-last.new.seat in
    let w : View = view_of c.read_statistic-rescanned.new.seat in
    let x : View = view_of c.read_statistic-free.new.seat in
    let p = c.read_statistic-last.ensures in
    let q = c.read_statistic-rescanned.ensures in
    let r = c.read_statistic-free.ensures in
    let all = three-events v u w x p.read.0 q.read.0 r.read.0 p.ran q.ran r.ran p.read.1 q.read.1 r.read.1 in
    let few : nat_lt (8 * statistic r.read.0) (statistic p.read.0 + statistic q.read.0) ≡ false =
    let e = c.if-free-last.true in
    let l = p.read.3 in
    let k = q.read.3 in
    let f = r.read.3 in
    le-ltb _ _ (omega (arith, e, l, k, f)) in
    subst (KicksOff false) (sym all) (none-due p.read.0 q.read.0 r.read.0 few)

pub store_phase-requires-clause-may : goal.store_phase-requires-clause-may
store_phase-requires-clause-may c =
    may-try (view_of c.read_statistic-free.new.seat)
    (ap (λ (s : SeatState). s.active) (c.read_statistic-free.ensures.state ∙ (c.read_statistic-rescanned.ensures.state ∙ c.read_statistic-last.ensures.state)) ∙ c.requires.active)

pub returns-clause-state : goal.returns-clause-state
returns-clause-state c =
    tried-state (view_of c.read_statistic-free.new.seat) (view_of c.store_phase.new.seat) c.store_phase.ensures.view.0 c.store_phase.ensures.view.1
    ∙ (c.read_statistic-free.ensures.state ∙ (c.read_statistic-rescanned.ensures.state ∙ c.read_statistic-last.ensures.state))

pub returns-clause-ran : goal.returns-clause-ran
returns-clause-ran c =
    let v : View = view_of c.args.seat.now in
    let u : View = view_of c.read_statistic-last.new.seat in
    let w : View = view_of c.read_statistic-rescanned.new.seat in
    let x : View = view_of c.read_statistic-free.new.seat in
    let y : View = view_of c.store_phase.new.seat in
    ran-join v x y
    (ran-join v u x c.read_statistic-last.ensures.ran (ran-join u w x c.read_statistic-rescanned.ensures.ran c.read_statistic-free.ensures.ran))
    (ran-answered x y (StorePhase Marking) (λ n. c.store_phase.result ≡ won (StorePhase Marking) n) refl c.store_phase.ensures.view)

pub returns-clause-begins : goal.returns-clause-begins
returns-clause-begins c =
    let v : View = view_of c.args.seat.now in
    let u : View = view_of c.read_statistic-last.new.seat in
    let w : View = view_of c.read_statistic-rescanned.new.seat in
    let x : View = view_of c.read_statistic-free.new.seat in
    let y : View = view_of c.store_phase.new.seat in
    let p = c.read_statistic-last.ensures in
    let q = c.read_statistic-rescanned.ensures in
    let r = c.read_statistic-free.ensures in
    let t = c.store_phase.ensures.view in
    let first : Ran v x = ran-join v u x p.ran (ran-join u w x q.ran r.ran) in
    let last : Ran x y = ran-answered x y (StorePhase Marking) (λ n. c.store_phase.result ≡ won (StorePhase Marking) n) refl t in
    let reads = three-events v u w x p.read.0 q.read.0 r.read.0 p.ran q.ran r.ran p.read.1 q.read.1 r.read.1 in
    let all = ran-events v x y first last ∙ (ap (λ es. es ++ events x y) reads ∙ ap (λ es. three p.read.0 q.read.0 r.read.0 ++ es) (events-after x y (StorePhase Marking) t.0 t.1)) in
    let due : nat_lt (8 * statistic r.read.0) (statistic p.read.0 + statistic q.read.0) ≡ true =
    let e = c.if-free-last.false in
    let l = p.read.3 in
    let k = q.read.3 in
    let f = r.read.3 in
    lt-ltb _ _ (omega (arith, e, l, k, f)) in
    subst (KicksOff c.store_phase.result) (sym all) (one-due p.read.0 q.read.0 r.read.0 t.0 c.store_phase.result due t.3)

pub returns-then-free-last-clause-due : goal.returns-then-free-last-clause-due
returns-then-free-last-clause-due c =
    let v : View = view_of c.args.seat.now in
    let u : View = view_of c.read_statistic-last.new.seat in
    let w : View = view_of c.read_statistic-rescanned.new.seat in
    let x : View = view_of c.read_statistic-free.new.seat in
    let p = c.read_statistic-last.ensures in
    let q = c.read_statistic-rescanned.ensures in
    let r = c.read_statistic-free.ensures in
    let all = three-events v u w x p.read.0 q.read.0 r.read.0 p.ran q.ran r.ran p.read.1 q.read.1 r.read.1 in
    ap begins_where_due all

pub returns-clause-due : goal.returns-clause-due
returns-clause-due c =
    let v : View = view_of c.args.seat.now in
    let u : View = view_of c.read_statistic-last.new.seat in
    let w : View = view_of c.read_statistic-rescanned.new.seat in
    let x : View = view_of c.read_statistic-free.new.seat in
    let y : View = view_of c.store_phase.new.seat in
    let p = c.read_statistic-last.ensures in
    let q = c.read_statistic-rescanned.ensures in
    let r = c.read_statistic-free.ensures in
    let t = c.store_phase.ensures.view in
    let first : Ran v x = ran-join v u x p.ran (ran-join u w x q.ran r.ran) in
    let last : Ran x y = ran-answered x y (StorePhase Marking) (λ n. c.store_phase.result ≡ won (StorePhase Marking) n) refl t in
    let reads = three-events v u w x p.read.0 q.read.0 r.read.0 p.ran q.ran r.ran p.read.1 q.read.1 r.read.1 in
    let all = ran-events v x y first last ∙ (ap (λ es. es ++ events x y) reads ∙ ap (λ es. three p.read.0 q.read.0 r.read.0 ++ es) (events-after x y (StorePhase Marking) t.0 t.1)) in
    let due : nat_lt (8 * statistic r.read.0) (statistic p.read.0 + statistic q.read.0) ≡ true =
    let e = c.if-free-last.false in
    let l = p.read.3 in
    let k = q.read.3 in
    let f = r.read.3 in
    lt-ltb _ _ (omega (arith, e, l, k, f)) in
    ap begins_where_due all ∙ due-begun p.read.0 q.read.0 r.read.0 t.0 due

pub returns-then-free-last-clause-few : goal.returns-then-free-last-clause-few
returns-then-free-last-clause-few c =
    let p = c.read_statistic-last.ensures in
    let q = c.read_statistic-rescanned.ensures in
    let r = c.read_statistic-free.ensures in
    let v : View = view_of c.args.seat.now in
    let u : View = view_of c.read_statistic-last.new.seat in
    let w : View = view_of c.read_statistic-rescanned.new.seat in
    let x : View = view_of c.read_statistic-free.new.seat in
    few-events 4 v x _ (three-events v u w x p.read.0 q.read.0 r.read.0 p.ran q.ran r.ran p.read.1 q.read.1 r.read.1) (omega arith)

pub returns-clause-few : goal.returns-clause-few
returns-clause-few c =
    let p = c.read_statistic-last.ensures in
    let q = c.read_statistic-rescanned.ensures in
    let r = c.read_statistic-free.ensures in
    let t = c.store_phase.ensures.view in
    let v : View = view_of c.args.seat.now in
    let u : View = view_of c.read_statistic-last.new.seat in
    let w : View = view_of c.read_statistic-rescanned.new.seat in
    let x : View = view_of c.read_statistic-free.new.seat in
    let y : View = view_of c.store_phase.new.seat in
    let reads = three-events v u w x p.read.0 q.read.0 r.read.0 p.ran q.ran r.ran p.read.1 q.read.1 r.read.1 in
    few-join 3 1 v x y (ran-join v u x p.ran (ran-join u w x q.ran r.ran)) (ran-answered x y (StorePhase Marking) (λ n. c.store_phase.result ≡ won (StorePhase Marking) n) refl t) (few-events 3 v x _ reads (omega arith)) (few-after x y (StorePhase Marking) t.0 t.1)

-- three reads, and no try
pub returns-then-free-last-clause-reads : goal.returns-then-free-last-clause-reads
returns-then-free-last-clause-reads c =
    let p = c.read_statistic-last.ensures in
    let q = c.read_statistic-rescanned.ensures in
    let r = c.read_statistic-free.ensures in
    let all = three-events (view_of c.args.seat.now) (view_of c.read_statistic-last.new.seat) (view_of c.read_statistic-rescanned.new.seat) (view_of c.read_statistic-free.new.seat) p.read.0 q.read.0 r.read.0 p.ran q.ran r.ran p.read.1 q.read.1 r.read.1 in
    subst (λ (es : List Entry). length es ≤ 3 + count_of tries_marking es) (sym all) (omega arith)

-- three reads, and a try
pub returns-clause-reads : goal.returns-clause-reads
returns-clause-reads c =
    let v : View = view_of c.args.seat.now in
    let u : View = view_of c.read_statistic-last.new.seat in
    let w : View = view_of c.read_statistic-rescanned.new.seat in
    let x : View = view_of c.read_statistic-free.new.seat in
    let y : View = view_of c.store_phase.new.seat in
    let p = c.read_statistic-last.ensures in
    let q = c.read_statistic-rescanned.ensures in
    let r = c.read_statistic-free.ensures in
    let t = c.store_phase.ensures.view in
    let first : Ran v x = ran-join v u x p.ran (ran-join u w x q.ran r.ran) in
    let last : Ran x y = ran-answered x y (StorePhase Marking) (λ n. c.store_phase.result ≡ won (StorePhase Marking) n) refl t in
    let reads = three-events v u w x p.read.0 q.read.0 r.read.0 p.ran q.ran r.ran p.read.1 q.read.1 r.read.1 in
    let all = ran-events v x y first last ∙ (ap (λ es. es ++ events x y) reads ∙ ap (λ es. three p.read.0 q.read.0 r.read.0 ++ es) (events-after x y (StorePhase Marking) t.0 t.1)) in
    subst (λ (es : List Entry). length es ≤ 3 + count_of tries_marking es) (sym all) (omega arith)
