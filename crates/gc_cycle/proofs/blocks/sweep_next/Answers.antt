use Rattle.std.proofs.Common.{ℕ, arith, ◌≡◌, ◌≤◌, List, [], ◌∷◌, refl, sym, ap, ◌∙◌, subst, Bool, true, ⊎_elim, length}
use Rattle.std.specs.Prelude.{if◌then◌else◌, ◌+◌, ◌<◌, ◌++◌}
use Rattle.std.proofs.lemmas.Bool.{and_from, and_parts, le-leb, lt-ltb, or_left, or_right}
use Rattle.mark_core.specs.Layout.{block_count}
use Rattle.mark_core.specs.Notes.{keeps_bound}
use Rattle.mark_core.specs.Numbers.{block_counter}
use Rattle.mark_core.specs.Places.{the_next_block}
use Rattle.mark_core.specs.declared.kinds.Shape.{Shape}
use Rattle.mark_core.specs.declared.kinds.Step.TheVariants.{ReadStat}
use Rattle.mark_core.specs.declared.seat.SeatState.{SeatState}
use Rattle.gc_table.specs.Log.{all_steps, event, events}
use Rattle.gc_table.specs.Seats.{view_of}
use Rattle.gc_table.specs.declared.view.View.{View}
use Rattle.packet_pools.specs.Counts.{count_of}
use Rattle.packet_pools.specs.Seeking.{some_event}
use Rattle.sweeper.specs.Blocks.{SeesNoBlockLeft, block_drawn, swept_blocks}
use Rattle.sweeper.specs.Freeing.{freed_in, block_floor}
use Rattle.gc_cycle.specs.Lower.{sweeps_next}
use Rattle.gc_cycle.specs.Sorts.{draws_block, sees_last_block}
use Rattle.gc_cycle.proofs.ClearedBlocks.{drawn-none}
use Rattle.gc_cycle.proofs.Ends.Swept.{cleaning-done, floor-above, floor-low, floor-rises}
use Rattle.gc_cycle.proofs.Few.{swept-few}
use Rattle.gc_cycle.proofs.ClearedBlocks.{looks-few}
use Rattle.gc_cycle.proofs.blocks.sweep_next.Goals as goal

same-state : (v w : View) (s : SeatState) → w.state ≡ s → s ≡ record v.state { below_block = s.below_block; cleaning = s.cleaning } → w.state ≡ record v.state { below_block = w.state.below_block; cleaning = w.state.cleaning }
same-state v w s e h = e ∙ (h ∙ (λ i. record v.state { below_block = sym (ap (λ (t : SeatState). t.below_block) e) i; cleaning = sym (ap (λ (t : SeatState). t.cleaning) e) i }))

abbrev one_if : Bool → ℕ
one_if b = if b then 1 else 0

-- nothing is drawn by a sweep of what is in hand
draws-none : (n b : ℕ) (xs : List (ℕ × ℕ)) → count_of (draws_block n) (swept_blocks b xs) ≡ 0
draws-none n b [] = refl
draws-none n b (x ∷ xs) = let rest = draws-none n (b + 1) xs in omega (arith, rest)

-- blocks came in hand once
got-one : (n b seen : ℕ) (xs : List (ℕ × ℕ)) → b < n → count_of (draws_block n) (block_drawn seen b ++ swept_blocks b xs) ≡ 1
got-one n b seen xs l = let h = ap one_if (lt-ltb b n l) in let rest = draws-none n b xs in omega (arith, h, rest)

only-sweeps : (b : ℕ) (xs : List (ℕ × ℕ)) → all_steps sweeps_next (swept_blocks b xs) ≡ true
only-sweeps b [] = refl
only-sweeps b (x ∷ xs) = only-sweeps (b + 1) xs

-- the end was seen
end-seen : (n : ℕ) (v w : View) (e : SeesNoBlockLeft v w) → n ≤ e.number → some_event (sees_last_block n) (events v w) ≡ true
end-seen n v w e h =
    ⊎_elim
    (λ (x : events v w ≡ event (ReadStat block_counter) e.number ∷ []). ap (some_event (sees_last_block n)) x ∙ or_left _ _ (and_from _ _ refl (le-leb n e.number h)))
    (λ (x : (seen : ℕ) × (events v w ≡ block_drawn seen e.number)). ap (some_event (sees_last_block n)) x.1 ∙ or_right _ _ (or_left _ _ (le-leb n e.number h)))
    e.events

pub sweep_next-requires : goal.sweep_next-requires
sweep_next-requires c = record { seat = (c.requires.seat, record { may = ⊎_elim (λ a. or_left _ _ a) (λ b. or_right _ _ b) c.requires.sweeps; free = c.requires.block }) }

pub returns-in-Some-clause-only : goal.returns-in-Some-clause-only
returns-in-Some-clause-only c = let s = c.in-Some.ensures.some in ap (all_steps sweeps_next) s.events ∙ only-sweeps c.in-Some.swept.block s.words

pub returns-in-Some-clause-state : goal.returns-in-Some-clause-state
returns-in-Some-clause-state c = same-state (view_of c.args.seat.now) (view_of c.sweep_next.new.seat) _ c.in-Some.ensures.some.state refl

pub returns-in-Some-clause-left : goal.returns-in-Some-clause-left
returns-in-Some-clause-left c left = cleaning-done (view_of c.args.seat.now) (view_of c.sweep_next.new.seat) c.in-Some.ensures.ran c.in-Some.ensures.only left

pub returns-in-Some-clause-some : goal.returns-in-Some-clause-some
returns-in-Some-clause-some c =
    let v : View = view_of c.args.seat.now in
    let w : View = view_of c.sweep_next.new.seat in
    let s = c.in-Some.ensures.some in
    let keeps : keeps_bound v.state the_next_block ≡ true =
    ⊎_elim (λ a. or_right v.state.admitted v.state.knows (and_parts v.state.knows _ a).0) (λ b. or_left v.state.admitted v.state.knows (and_parts v.state.admitted _ b).0) c.requires.sweeps in
    let low = floor-low v c.in-Some.swept.block keeps s.order in
    let there = s.there in
    let shape = c.requires.seat.1 in (
      s.counted,
      floor-rises v w c.in-Some.swept.block (c.in-Some.swept.block + c.in-Some.swept.blocks) keeps (let end = s.many.1 in let some = s.some in omega (arith, end, some)) s.order s.above,
      subst (λ (sh : Shape). block_floor v < block_count sh) shape (omega (arith, low, there)),
      ap (count_of (draws_block (block_count c.args.heap.now.shape))) s.events ∙ got-one (block_count c.args.heap.now.shape) c.in-Some.swept.block s.seen s.words (subst (λ (sh : Shape). c.in-Some.swept.block < block_count sh) shape there),
    )

pub returns-in-None-clause-only : goal.returns-in-None-clause-only
returns-in-None-clause-only c =
    let v : View = view_of c.args.seat.now in
    let w : View = view_of c.sweep_next.new.seat in
    let e = c.in-None.ensures.none in
    ⊎_elim
    (λ (x : events v w ≡ event (ReadStat block_counter) e.number ∷ []). ap (all_steps sweeps_next) x)
    (λ (x : (seen : ℕ) × (events v w ≡ block_drawn seen e.number)). ap (all_steps sweeps_next) x.1)
    e.events

pub returns-in-None-clause-state : goal.returns-in-None-clause-state
returns-in-None-clause-state c = same-state (view_of c.args.seat.now) (view_of c.sweep_next.new.seat) _ c.in-None.ensures.none.state refl

pub returns-in-None-clause-left : goal.returns-in-None-clause-left
returns-in-None-clause-left c left = cleaning-done (view_of c.args.seat.now) (view_of c.sweep_next.new.seat) c.in-None.ensures.ran c.in-None.ensures.only left

pub returns-in-None-clause-none : goal.returns-in-None-clause-none
returns-in-None-clause-none c =
    let v : View = view_of c.args.seat.now in
    let w : View = view_of c.sweep_next.new.seat in
    let e = c.in-None.ensures.none in
    let shape = c.requires.seat.1 in (
      end-seen (block_count c.args.heap.now.shape) v w e (subst (λ (sh : Shape). block_count sh ≤ e.number) shape e.end),
      subst (λ (sh : Shape). block_count sh ≤ block_floor w) shape (floor-above (block_count v.shape) w e.above),
      drawn-none (block_count c.args.heap.now.shape) v w e (subst (λ (sh : Shape). block_count sh ≤ e.number) shape e.end),
    )

pub returns-in-None-clause-unfreed : goal.returns-in-None-clause-unfreed
returns-in-None-clause-unfreed c =
    let v : View = view_of c.args.seat.now in
    let w : View = view_of c.sweep_next.new.seat in
    let e = c.in-None.ensures.none in
    ⊎_elim
    (λ (x : events v w ≡ event (ReadStat block_counter) e.number ∷ []). ap (freed_in v) x)
    (λ (x : (seen : ℕ) × (events v w ≡ block_drawn seen e.number)). ap (freed_in v) x.1)
    e.events

pub returns-in-Some-clause-few : goal.returns-in-Some-clause-few
returns-in-Some-clause-few c =
    let s = c.in-Some.ensures.some in
    let all = ap length s.events in
    let swept = swept-few c.in-Some.swept.block s.words in
    let many = s.many in
    let words = many.0 in
    let end = many.1 in
    let stretch = ap (λ (sh : Shape). sh.stretch) c.requires.seat.1 in
    omega (arith, all, swept, words, end, stretch)

pub returns-in-None-clause-few : goal.returns-in-None-clause-few
returns-in-None-clause-few c = let few = looks-few (view_of c.args.seat.now) (view_of c.sweep_next.new.seat) c.in-None.ensures.none in omega (arith, few)
