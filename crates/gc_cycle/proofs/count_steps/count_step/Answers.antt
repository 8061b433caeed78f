use Rattle.std.proofs.Common.{◌≡◌, ◌≤◌, ◌+◌, ◌-◌, ℕ, arith, ap, subst, sym}
use Rattle.mark_core.specs.Layout.{block_count}
use Rattle.mark_core.specs.declared.kinds.Phase.TheVariants.{Idle}
use Rattle.mark_core.specs.declared.kinds.Shape.{Shape}
use Rattle.gc_table.specs.Log.{events, steps_of}
use Rattle.gc_table.specs.Seats.{view_of}
use Rattle.gc_table.specs.declared.view.View.{View}
use Rattle.gc_table.proofs.Running.{ran-join}
use Rattle.gc_cycle.specs.Pieces.{CountsFrom}
use Rattle.gc_cycle.specs.Settling.{alloc_reads}
use Rattle.gc_cycle.proofs.Stepped.{allocs-of, counted-all, counts-on, reads-few, part-keeps}
use Rattle.gc_cycle.proofs.Exactly.{exact-more}
use Rattle.gc_cycle.proofs.count_steps.count_step.Goals.{After-count_between-counted}
use Rattle.gc_cycle.proofs.count_steps.count_step.Goals as goal

pub count_between-counted-requires-clause-alone : goal.count_between-counted-requires-clause-alone
count_between-counted-requires-clause-alone c = c.requires.counts.alone

pub count_between-counted-requires-clause-blocks : goal.count_between-counted-requires-clause-blocks
count_between-counted-requires-clause-blocks c =
    let many = c.at_most-blocks.ensures in
    let cells = ap (λ (s : Shape). s.cells) c.shape.ensures in
    let within = subst (λ (sh : Shape). c.args.from ≤ block_count sh) c.requires.seat.1 c.requires.counts.within in
    (omega arith, omega (arith, many, cells, within))

pub count_between-counted-requires-clause-noted : goal.count_between-counted-requires-clause-noted
count_between-counted-requires-clause-noted c = let k = c.requires.counts in allocs-of c.args.from (view_of c.args.seat.now) k.alone.rest.alone k.noted

pub count_between-counted-requires-clause-count : goal.count_between-counted-requires-clause-count
count_between-counted-requires-clause-count c = c.requires.counts.count

pub count_between-counted-requires-clause-bound : goal.count_between-counted-requires-clause-bound
count_between-counted-requires-clause-bound c = c.requires.counts.bound

counts : (c : After-count_between-counted) → CountsFrom (c.args.from + c.at_most-blocks.result) c.count_between-counted.result (view_of c.count_between-counted.new.seat)
counts c =
    let e = c.count_between-counted.ensures in
    let many = c.at_most-blocks.ensures in
    let cells = ap (λ (s : Shape). s.cells) c.shape.ensures in
    let within = subst (λ (sh : Shape). c.args.from ≤ block_count sh) c.requires.seat.1 c.requires.counts.within in
    counts-on c.args.heap.now.shape c.args.from (c.args.from + c.at_most-blocks.result) c.args.counted c.count_between-counted.result (view_of c.args.seat.now) (view_of c.count_between-counted.new.seat) e.seat.1 c.requires.counts e.part (omega (arith, many, cells, within)) e.noted e.count e.bound

pub returns-clause-blocks : goal.returns-clause-blocks
returns-clause-blocks c = let many = c.at_most-blocks.ensures in let cells = ap (λ (s : Shape). s.cells) c.shape.ensures in omega (arith, many, cells)

pub returns-clause-counts : goal.returns-clause-counts
returns-clause-counts c = counts c

pub returns-clause-counted : goal.returns-clause-counted
returns-clause-counted c some =
    let w : View = view_of c.count_between-counted.new.seat in
    let many = c.at_most-blocks.ensures in
    let cells = ap (λ (s : Shape). s.cells) c.shape.ensures in
    counted-all (c.args.from + c.at_most-blocks.result) c.count_between-counted.result w (counts c)
    (subst (λ (sh : Shape). block_count sh ≤ c.args.from + c.at_most-blocks.result) (sym c.count_between-counted.ensures.seat.1) (omega (arith, some, many, cells)))

pub returns-clause-reads : goal.returns-clause-reads
returns-clause-reads c =
    let n : ℕ = c.at_most-blocks.result in
    let same : c.args.from + n - c.args.from ≡ n = omega arith in
    subst (λ k. steps_of (events (view_of c.args.seat.now) (view_of c.count_between-counted.new.seat)) ≡ alloc_reads c.args.from k) same c.count_between-counted.ensures.reads

pub returns-clause-few : goal.returns-clause-few
unfolding returns-clause-reads
returns-clause-few c =
    let many = c.at_most-blocks.ensures in
    reads-few c.args.from c.at_most-blocks.result c.args.most (events (view_of c.args.seat.now) (view_of c.count_between-counted.new.seat)) (returns-clause-reads c) (omega (arith, many))

pub returns-clause-collects : goal.returns-clause-collects
returns-clause-collects c u k =
    let v : View = view_of c.args.seat.now in
    let w : View = view_of c.count_between-counted.new.seat in
    let r = c.count_between-counted.ensures.part.ran in
    record { ran = ran-join u v w k.ran r; collects = exact-more u.shape u v w k.ran r k.collects }

pub returns-clause-keeps : goal.returns-clause-keeps
returns-clause-keeps c = part-keeps Idle (view_of c.args.seat.now) (view_of c.count_between-counted.new.seat) c.count_between-counted.ensures.part
