use Rattle.std.proofs.Common.{ℕ, ◌≢◌, ◌-◌, ◌<◌, inl, inr, List, length, refl, sym, ap, ◌∙◌, subst, arith}
use Rattle.std.proofs.Math.Seq.{map-set_same}
use Rattle.std.proofs.lemmas.List.{length-map, get_or_read}
use Rattle.plain_heap.specs.Sections.{Sections}
use Rattle.gc_table.specs.declared.seat.Heap.{Heap}
use Rattle.play_end.specs.declared.played.Played.{Played}
use Rattle.play_end.specs.declared.played.Played.TheVariants.{Done, Full}
use Rattle.warehouse.specs.declared.mutator.Mutator.{Mutator}
use Rattle.gc_play.specs.Dealing.{StandsAt, WarehouseStopsAt, HaltsAt, ShareEnds, OneEnds, seat_number}
use Rattle.gc_play.proofs.Shares.{set-before, set-after, set-all, set-some}
use Rattle.gc_play.proofs.workers.play_share.Goals as goal

pub play_one-requires-clause-before : goal.play_one-requires-clause-before
play_one-requires-clause-before g c κs within = let i = c.loop-i.invariant in
    let xs : List Mutator = c.loop-i.worker.mutators.items in
    let low : c.loop-i.i < length xs = omega (arith, c.loop-i-test.true, c.len-i-end.ensures, c.args.worker.now.mutators.ok, ap length i.numbers, length-map c.loop-i.worker.mutators.items seat_number, length-map c.args.worker.now.mutators.items seat_number) in
    subst (StandsAt c.args.heap.now c.args.script.now.sections (c.args.season - 1)) (sym c.index_mut.ensures.value) (i.others c.loop-i.i c.index_mut.result.now (omega arith) low)

pub returns-in-Full-clause-share : goal.returns-in-Full-clause-share
returns-in-Full-clause-share g c =
    let i = c.loop-i.invariant in
    let h = c.args.heap.now in
    let s = c.args.script.now.sections in
    let z = c.args.season in
    let xs : List Mutator = c.loop-i.worker.mutators.items in
    let y : Mutator = c.play_one.new.mutator in
    let stops : WarehouseStopsAt h s z y = c.in-Full.ensures.part in
    let low : c.loop-i.i < length xs = omega (arith, c.loop-i-test.true, c.len-i-end.ensures, c.args.worker.now.mutators.ok, ap length i.numbers, length-map c.loop-i.worker.mutators.items seat_number, length-map c.args.worker.now.mutators.items seat_number) in
    (set-all xs c.loop-i.i y low (StandsAt h s z) (WarehouseStopsAt h s z) (StandsAt h s (z - 1)) (HaltsAt h s z) (λ m x. inr (inl x)) (λ m x. inr (inr x)) (λ m x. inl x) i.played stops i.others, set-some xs c.loop-i.i y low (WarehouseStopsAt h s z) stops)

pub returns-in-Full-clause-numbers : goal.returns-in-Full-clause-numbers
returns-in-Full-clause-numbers g c =
    let i = c.loop-i.invariant in
    let xs : List Mutator = c.loop-i.worker.mutators.items in
    let y : Mutator = c.play_one.new.mutator in
    let low : c.loop-i.i < length xs = omega (arith, c.loop-i-test.true, c.len-i-end.ensures, c.args.worker.now.mutators.ok, ap length i.numbers, length-map c.loop-i.worker.mutators.items seat_number, length-map c.args.worker.now.mutators.items seat_number) in
    map-set_same seat_number xs c.loop-i.i y y (c.play_one.ensures.number ∙ ap seat_number (get_or_read xs c.loop-i.i c.index_mut.result.now low c.index_mut.ensures.value y)) ∙ i.numbers

done : (r : Played) (h : Heap) (s : Sections) (z : ℕ) (m : Mutator) → r ≢ Full → OneEnds r h s z m → StandsAt h s z m
done Done h s z m n e = e
done Full h s z m n e = absurd (n refl)

pub loop-i-preserved : goal.loop-i-preserved
loop-i-preserved g c =
    let i = c.loop-i.invariant in
    let h = c.args.heap.now in
    let s = c.args.script.now.sections in
    let z = c.args.season in
    let xs : List Mutator = c.loop-i.worker.mutators.items in
    let y : Mutator = c.play_one.new.mutator in
    let low : c.loop-i.i < length xs = omega (arith, c.loop-i-test.true, c.len-i-end.ensures, c.args.worker.now.mutators.ok, ap length i.numbers, length-map c.loop-i.worker.mutators.items seat_number, length-map c.args.worker.now.mutators.items seat_number) in
    let stands : StandsAt h s z y = done c.play_one.result h s z y c.in_default.not-Full c.play_one.ensures.part in
    record {
      empty = i.empty;
      played = set-before xs c.loop-i.i y low (StandsAt h s z) stands i.played;
      others = set-after xs c.loop-i.i y low (StandsAt h s (z - 1)) i.others;
      numbers = map-set_same seat_number xs c.loop-i.i y y (c.play_one.ensures.number ∙ ap seat_number (get_or_read xs c.loop-i.i c.index_mut.result.now low c.index_mut.ensures.value y)) ∙ i.numbers;
    }

pub returns-clause-share : goal.returns-clause-share
returns-clause-share g c = let i = c.loop-i.invariant in subst (λ b. ShareEnds b c.args.heap.now c.args.script.now.sections c.args.season c.loop-i.worker.mutators.items) (sym i.empty) (λ k d below. i.played k d (omega (arith, below, c.loop-i-test.false, c.len-i-end.ensures, c.args.worker.now.mutators.ok, ap length i.numbers, length-map c.loop-i.worker.mutators.items seat_number, length-map c.args.worker.now.mutators.items seat_number)))
