use Rattle.std.proofs.Common.{ℕ, ◌-◌, arith, refl, sym, ap, ◌∙◌, subst}
use Rattle.mark_core.specs.Layout.{block_count}
use Rattle.mark_core.specs.Numbers.{card_counter, free_count, last_count, rescanned_count, traced_count}
use Rattle.mark_core.specs.Places.{alloc_at, counter_at}
use Rattle.mark_core.specs.declared.kinds.Phase.TheVariants.{Idle}
use Rattle.mark_core.specs.declared.kinds.Shape.{Shape}
use Rattle.mark_core.specs.declared.kinds.Step.TheVariants.{Reset}
use Rattle.gc_table.specs.Seats.{view_of}
use Rattle.gc_table.specs.declared.view.View.{View}
use Rattle.gc_table.specs.Running.{Known}
use Rattle.gc_cycle.specs.Finishing.{AllocsNoted, ones_noted}
use Rattle.gc_cycle.proofs.Ends.Ended.{cycle-ends}
use Rattle.gc_cycle.proofs.Parts.{part-join}
use Rattle.gc_cycle.proofs.Ends.Sets.{allocs-kept, KeepsAllocs, may-clear, ones-kept, sets-clear, sets-kept}
use Rattle.gc_cycle.specs.Courses.{sets_numbers}
use Rattle.gc_cycle.specs.Statistics.{ChangesBy}
use Rattle.gc_cycle.proofs.Changes.{by-none, reset-changes, settled-changes}
use Rattle.gc_cycle.proofs.Few.{few-after, few-join}
use Rattle.gc_cycle.proofs.settling.set_numbers.Goals as goal

pub reset-requires-clause-may : goal.reset-requires-clause-may
reset-requires-clause-may c = may-clear traced_count (view_of c.set_statistic-3.new.seat) (omega arith) c.set_statistic-3.ensures.sets.part.alone

pub reset-requires-2-clause-may : goal.reset-requires-2-clause-may
reset-requires-2-clause-may c =
    let w5 : View = view_of c.set_statistic-3.new.seat in
    let w4 : View = view_of c.reset.new.seat in
    may-clear card_counter w4 (omega arith) (sets-clear traced_count w5 w4 c.reset.ensures.view c.set_statistic-3.ensures.sets.part.alone).part.alone

pub returns-clause-part : goal.returns-clause-part
returns-clause-part c =
    let v : View = view_of c.args.seat.now in
    let w2 : View = view_of c.set_statistic.new.seat in
    let w3 : View = view_of c.set_statistic-2.new.seat in
    let w5 : View = view_of c.set_statistic-3.new.seat in
    let w4 : View = view_of c.reset.new.seat in
    let w0 : View = view_of c.reset-2.new.seat in
    let s4 = sets-clear traced_count w5 w4 c.reset.ensures.view c.set_statistic-3.ensures.sets.part.alone in
    let s0 = sets-clear card_counter w4 w0 c.reset-2.ensures.view s4.part.alone in
    part-join Idle v w2 w0 c.set_statistic.ensures.sets.part
    (part-join Idle w2 w3 w0 c.set_statistic-2.ensures.sets.part
    (part-join Idle w3 w5 w0 c.set_statistic-3.ensures.sets.part (part-join Idle w5 w4 w0 s4.part s0.part)))

pub returns-clause-end : goal.returns-clause-end
returns-clause-end c =
    let v : View = view_of c.args.seat.now in
    let w2 : View = view_of c.set_statistic.new.seat in
    let w3 : View = view_of c.set_statistic-2.new.seat in
    let w5 : View = view_of c.set_statistic-3.new.seat in
    let w4 : View = view_of c.reset.new.seat in
    let w0 : View = view_of c.reset-2.new.seat in
    let marked = c.args.marked in
    let n = block_count c.args.heap.now.shape in
    let s2 = c.set_statistic.ensures.sets in
    let s3 = c.set_statistic-2.ensures.sets in
    let s5 = c.set_statistic-3.ensures.sets in
    let s4 = sets-clear traced_count w5 w4 c.reset.ensures.view s5.part.alone in
    let s0 = sets-clear card_counter w4 w0 c.reset-2.ensures.view s4.part.alone in
    let keeps : KeepsAllocs v w0 =
    λ b word k.
    sets-kept card_counter 0 w4 w0 (alloc_at b) word refl refl s4.part.alone s0
    (sets-kept traced_count 0 w5 w4 (alloc_at b) word refl refl s5.part.alone s4
    (sets-kept free_count _ w3 w5 (alloc_at b) word refl refl s3.part.alone s5
    (sets-kept rescanned_count _ w2 w3 (alloc_at b) word refl refl s2.part.alone s3 (sets-kept last_count _ v w2 (alloc_at b) word refl refl c.requires.alone s2 k)))) in
    let last =
    sets-kept card_counter 0 w4 w0 (counter_at last_count) _ refl refl s4.part.alone s0
    (sets-kept traced_count 0 w5 w4 (counter_at last_count) _ refl refl s5.part.alone s4
    (sets-kept free_count _ w3 w5 (counter_at last_count) _ refl refl s3.part.alone s5 (sets-kept rescanned_count _ w2 w3 (counter_at last_count) _ refl refl s2.part.alone s3 s2.known))) in
    let rescanned =
    sets-kept card_counter 0 w4 w0 (counter_at rescanned_count) _ refl refl s4.part.alone s0
    (sets-kept traced_count 0 w5 w4 (counter_at rescanned_count) _ refl refl s5.part.alone s4 (sets-kept free_count _ w3 w5 (counter_at rescanned_count) _ refl refl s3.part.alone s5 s3.known)) in
    let free = sets-kept card_counter 0 w4 w0 (counter_at free_count) _ refl refl s4.part.alone s0 (sets-kept traced_count 0 w5 w4 (counter_at free_count) _ refl refl s5.part.alone s4 s5.known) in
    let traced = sets-kept card_counter 0 w4 w0 (counter_at traced_count) _ refl refl s4.part.alone s0 s4.known in
    let shape = c.reset-2.ensures.seat.1 in
    cycle-ends (record { marked = marked; freed = c.args.freed; rescanned = c.args.rescanned }) w0 s0.part.alone
    (subst (λ (sh : Shape). AllocsNoted (block_count sh) w0) (sym shape) (allocs-kept n v w0 c.requires.noted keeps))
    (c.requires.count ∙ (sym (ones-kept n v w0 c.requires.noted keeps) ∙ ap (λ (sh : Shape). ones_noted (block_count sh) w0) (sym shape)))
    last rescanned traced s0.known
    (subst (λ (m : ℕ). Known w0 (counter_at free_count) m) (ap (λ (sh : Shape). sh.cells - marked) (c.shape.ensures ∙ sym shape)) free)

pub returns-clause-numbers : goal.returns-clause-numbers
returns-clause-numbers c =
    let v : View = view_of c.args.seat.now in
    let w2 : View = view_of c.set_statistic.new.seat in
    let w3 : View = view_of c.set_statistic-2.new.seat in
    let w5 : View = view_of c.set_statistic-3.new.seat in
    let w4 : View = view_of c.reset.new.seat in
    let w0 : View = view_of c.reset-2.new.seat in
    let marked = c.args.marked in
    subst (λ (sh : Shape). ChangesBy (sets_numbers sh (record { marked = marked; freed = c.args.freed; rescanned = c.args.rescanned })) v w0) c.shape.ensures
    (settled-changes marked c.args.rescanned _ v v w2 w3 w5 w4 w0 (by-none v) c.set_statistic.ensures.numbers c.set_statistic-2.ensures.numbers c.set_statistic-3.ensures.numbers (reset-changes traced_count w5 w4 c.reset.ensures.view) (reset-changes card_counter w4 w0 c.reset-2.ensures.view))

pub returns-clause-few : goal.returns-clause-few
returns-clause-few c =
    let v : View = view_of c.args.seat.now in
    let w2 : View = view_of c.set_statistic.new.seat in
    let w3 : View = view_of c.set_statistic-2.new.seat in
    let w5 : View = view_of c.set_statistic-3.new.seat in
    let w4 : View = view_of c.reset.new.seat in
    let w0 : View = view_of c.reset-2.new.seat in
    let a = c.set_statistic.ensures in
    let b = c.set_statistic-2.ensures in
    let d = c.set_statistic-3.ensures in
    let e = sets-clear traced_count w5 w4 c.reset.ensures.view d.sets.part.alone in
    let f = sets-clear card_counter w4 w0 c.reset-2.ensures.view e.part.alone in
    let last = few-join 1 1 w5 w4 w0 e.part.ran f.part.ran (few-after w5 w4 (Reset traced_count) 0 c.reset.ensures.view) (few-after w4 w0 (Reset card_counter) 0 c.reset-2.ensures.view) in
    let four = part-join Idle w5 w4 w0 e.part f.part in
    let three = part-join Idle w3 w5 w0 d.sets.part four in
    let two = part-join Idle w2 w3 w0 b.sets.part three in
    few-join 2 6 v w2 w0 a.sets.part.ran two.ran a.few (few-join 2 4 w2 w3 w0 b.sets.part.ran three.ran b.few (few-join 2 2 w3 w5 w0 d.sets.part.ran four.ran d.few last))
