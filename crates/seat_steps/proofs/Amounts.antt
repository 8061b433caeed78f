-- How much a step of a collection pops and draws.
use Rattle.std.proofs.Common.{ℕ, ◌≡◌, ◌≤◌, ◌+◌, ◌-◌, List, [], ◌∷◌, length, map, refl, ap, ◌∙◌, Bool, true, false, arith, ◌<◌, subst, sym}
use Rattle.std.specs.List.{range_with_len}
use Rattle.std.specs.Prelude.{if◌then◌else◌, min}
use Rattle.std.proofs.lemmas.Bool.{false≢true}
use Rattle.std.proofs.lemmas.List.{length-append}
use Rattle.mark_core.specs.declared.kinds.Phase.{Phase}
use Rattle.mark_core.specs.declared.kinds.Shape.{Shape}
use Rattle.mark_core.specs.declared.kinds.Step.{Step}
use Rattle.mark_core.specs.declared.kinds.Step.TheVariants.{AddStat, FlushRoot, NextBlock, Pop, ReadCard, Reset, StorePhase}
use Rattle.gc_table.specs.Log.{event, events, Only}
use Rattle.gc_table.specs.Running.{Ran, Alone}
use Rattle.gc_table.specs.declared.view.Entry.{Entry}
use Rattle.gc_table.specs.declared.view.View.{View}
use Rattle.packet_pools.specs.Counts.{count_of}
use Rattle.packet_pools.specs.Fields.{picked}
use Rattle.packet_pools.proofs.Counting.{count-join}
use Rattle.card_clean.specs.Looking.{looks_clean}
use Rattle.mutator_ops.specs.Few.{AtMost}
use Rattle.mutator_ops.proofs.Few.{at-most-events, at-most-join}
use Rattle.gc_cycle.specs.Answering.{retires}
use Rattle.gc_cycle.specs.Courses.{TakesCourse, phase_stored}
use Rattle.gc_cycle.specs.Events.{Sort, never}
use Rattle.gc_cycle.specs.Finishing.{IsMove, IsOpenPart, IsPart}
use Rattle.gc_cycle.specs.Pieces.{LooksAt, ReadsCount, CountsFrom, SeesRootsFrom}
use Rattle.gc_cycle.specs.SharedSteps.{IsShared}
use Rattle.gc_cycle.specs.Sorts.{draws_block, pops}
use Rattle.gc_cycle.specs.Statistics.{changing_step}
use Rattle.gc_cycle.specs.Stepping.{AsksOnce, FindsRunning, FindsStopped, IsAtRoots, IsOwner}
use Rattle.gc_cycle.specs.declared.card_steps.Look.{Look}
use Rattle.gc_cycle.specs.declared.card_steps.Look.TheVariants as looks
use Rattle.gc_cycle.proofs.Sequences.{count-none as count-missing, none-of-steps}
use Rattle.gc_cycle.proofs.Stops.Admitted.{count-none, count-run}
use Rattle.mutator_ops.specs.Flushing.{Flushes}
use Rattle.seat_turns.specs.Coming.{GivesCache, StepsOut, WithOwn}
use Rattle.seat_turns.proofs.Held.{flushes-only}
use Rattle.seat_steps.specs.Filling.{PopsNone}
use Rattle.seat_steps.specs.Amounts.{DrawsNone, DoesFew, DoesNeither}
use Rattle.std.proofs.Math.Nat.{mul-le-mul_left}
use Rattle.mark_core.specs.Layout.{block_count, card_count, root_count}
use Rattle.mark_core.specs.Shapes.{IsShape}
use Rattle.mark_core.specs.declared.kinds.Phase.TheVariants.{Drain, Idle}
use Rattle.gc_table.specs.Seats.{Sits, did, view_of}
use Rattle.gc_table.specs.declared.seat.Heap.{Heap}
use Rattle.gc_table.specs.declared.seat.HeapSeat.{HeapSeat}
use Rattle.card_clean.specs.Drained.{roots_read, sees_roots}
use Rattle.tracer.specs.StepBounds.{recycle_steps, trace_steps}
use Rattle.tracer.proofs.Few.{traces-fewer}
use Rattle.gc_cycle.proofs.Changes.{part-unpopped}
use Rattle.seat_steps.specs.Passes.{SeesRoots}
use Rattle.seat_steps.proofs.Undrawn.{IsApart, all_apart, alone-apart, course-draws-none, open-apart, part-draws-none, stays-draws-none}

-- one, if it is so
abbrev bit : Bool → ℕ
bit b = if b then 1 else 0

-- one part after the other
sums : (f : Sort) (u v w : View) → Ran u v → Ran v w → count_of f (events u v) ≡ 0 → count_of f (events v w) ≡ 0 → count_of f (events u w) ≡ 0
sums f u v w r q a b = let all = count-run f u v w r q in omega (arith, all, a, b)

pub pops-join : (u v w : View) → Ran u v → Ran v w → PopsNone u v → PopsNone v w → PopsNone u w
pops-join u v w r q a b = sums pops u v w r q a b

pub draws-join : (u v w : View) → Ran u v → Ran v w → DrawsNone u v → DrawsNone v w → DrawsNone u w
draws-join u v w r q a b = λ blocks. sums (draws_block blocks) u v w r q (a blocks) (b blocks)

pub neither-join : (u v w : View) → Ran u v → Ran v w → DoesNeither u v → DoesNeither v w → DoesNeither u w
neither-join u v w r q a b = (pops-join u v w r q a.0 b.0, draws-join u v w r q a.1 b.1)

-- in either case
pub either-way : {P : Type 0} (b : Bool) → (b ≡ true → P) → (b ≡ false → P) → P
either-way true p q = p refl
either-way false p q = q refl

-- what was never popped
pub unpopped : (v w : View) → never pops (events v w) ≡ true → PopsNone v w
unpopped v w h = count-none pops (events v w) h

-- giving up a cache
retires_popless : (step : Step) (n : ℕ) → retires step ≡ true → pops step n ≡ false
retires_popless (Pop p) n e = absurd (false≢true e)
retires_popless step n e = refl

retires_drawless : (blocks : ℕ) (step : Step) (n : ℕ) → retires step ≡ true → draws_block blocks step n ≡ false
retires_drawless blocks NextBlock n e = absurd (false≢true e)
retires_drawless blocks step n e = refl

gives_neither : (v w : View) → WithOwn GivesCache v w → DoesNeither v w
gives_neither v w g = (
  count-missing pops (events v w) (none-of-steps retires pops retires_popless (events v w) g.2.only),
  λ blocks. count-missing (draws_block blocks) (events v w) (none-of-steps retires (draws_block blocks) (retires_drawless blocks) (events v w) g.2.only),
)

-- storing the roots that lag
abbrev is_flush : Step → Bool
is_flush (FlushRoot u) = true
is_flush step = false

flush_popless : (step : Step) (n : ℕ) → is_flush step ≡ true → pops step n ≡ false
flush_popless (FlushRoot u) n e = refl
flush_popless step n e = absurd (false≢true e)

flush_drawless : (blocks : ℕ) (step : Step) (n : ℕ) → is_flush step ≡ true → draws_block blocks step n ≡ false
flush_drawless blocks (FlushRoot u) n e = refl
flush_drawless blocks step n e = absurd (false≢true e)

flushes_neither : (v w : View) → Flushes v w → DoesNeither v w
flushes_neither v w f =
    let only = flushes-only is_flush v w f (λ u. refl) in (
      count-missing pops (events v w) (none-of-steps is_flush pops flush_popless (events v w) only),
      λ blocks. count-missing (draws_block blocks) (events v w) (none-of-steps is_flush (draws_block blocks) (flush_drawless blocks) (events v w) only),
    )

pub flushes-do : (j k : ℕ) (u v w : View) → Flushes u v → AtMost j u v → Ran v w → DoesFew k v w → DoesFew (j + k) u w
flushes-do j k u v w f few r d = (neither-join u v w f.ran r (flushes_neither u v f) d.0, at-most-join j k u v w f.ran r few d.1)

pub asks-few : (done : ℕ) (yours : Bool) (u v w : View) → Ran u v → WithOwn GivesCache u v → AtMost 3 u v → Ran v w → AsksOnce done yours v w → DoesFew 6 u w
asks-few done yours u v w r g few q a = (
  neither-join u v w r q (gives_neither u v g) (ap (count_of pops) a.all, λ blocks. ap (count_of (draws_block blocks)) a.all),
  at-most-join 3 3 u v w r q few (at-most-events 3 v w _ a.all (omega arith)),
)

-- looks at the world
pub looks-once : (v w : View) → FindsRunning v w → DoesFew 1 v w
looks-once v w f = ((ap (count_of pops) f.all, λ blocks. ap (count_of (draws_block blocks)) f.all), at-most-events 1 v w _ f.all (omega arith))

pub stopped-few : (v w : View) → FindsStopped v w → DoesFew 2 v w
stopped-few v w f = ((ap (count_of pops) f.all, λ blocks. ap (count_of (draws_block blocks)) f.all), at-most-events 2 v w _ f.all (omega arith))

pub out-few : (v w : View) → StepsOut v w → DoesFew 2 v w
out-few v w s = ((ap (count_of pops) s.1, λ blocks. ap (count_of (draws_block blocks)) s.1), at-most-events 2 v w _ s.1 (omega arith))

-- so few steps
pub few-join : (j k : ℕ) (u v w : View) → Ran u v → Ran v w → DoesFew j u v → DoesFew k v w → DoesFew (j + k) u w
few-join j k u v w r q a b = (neither-join u v w r q a.0 b.0, at-most-join j k u v w r q a.1 b.1)

-- one move of the phase
pub move-few : (from to : Phase) (v w : View) → IsMove from to v w → DoesFew 1 v w
move-few from to v w m = ((ap (count_of pops) m.events_are, λ blocks. ap (count_of (draws_block blocks)) m.events_are), at-most-events 1 v w _ m.events_are (omega arith))

-- one look at the count of packets
pub reads-few : (all : Bool) (v w : View) → ReadsCount all v w → DoesFew 1 v w
reads-few all v w r = ((ap (count_of pops) r.1, λ blocks. ap (count_of (draws_block blocks)) r.1), at-most-events 1 v w _ r.1 (omega arith))

-- looks at cards
looks_neither : (f : Sort) → ((k n : ℕ) → f (ReadCard k) n ≡ false) → (cards : List ℕ) → count_of f (map (λ k. event (ReadCard k) 0) cards) ≡ 0
looks_neither f none [] = refl
looks_neither f none (k ∷ ks) = let rest = looks_neither f none ks in let one = ap bit (none k 0) in omega (arith, rest, one)

looks_none : (f : Sort) → ((k n : ℕ) → f (ReadCard k) n ≡ false) → (sh : Shape) (from most : ℕ) (l : Look) (es : List Entry) → LooksAt sh from most l es → count_of f es ≡ 0
looks_none f none sh from most (looks.Clean n) es l = ap (count_of f) l.1 ∙ looks_neither f none (range_with_len from (from + n - from))
looks_none f none sh from most (looks.Dirty card) es l =
    let all = ap (count_of f) l.3 ∙ count-join f (looks_clean from card) (event (ReadCard card) 1 ∷ []) in
    let clean = looks_neither f none (range_with_len from (card - from)) in
    let one = ap bit (none card 1) in
    omega (arith, all, clean, one)

pub looks-neither : (sh : Shape) (from most : ℕ) (l : Look) (v w : View) → LooksAt sh from most l (events v w) → DoesNeither v w
looks-neither sh from most l v w a = (looks_none pops (λ k n. refl) sh from most l (events v w) a, λ blocks. looks_none (draws_block blocks) (λ k n. refl) sh from most l (events v w) a)

none_few : (a b c : ℕ) → a ≡ 0 → b ≡ 0 → c ≡ 0 → a + b + c ≤ 1
none_few a b c p q r = omega (arith, p, q, r)

-- a step that moves the phase, one that changes a number, and one that draws a block are three
apart_steps : (blocks : ℕ) (step : Step) (n : ℕ) → length (phase_stored step n) + length (changing_step step n) + bit (draws_block blocks step n) ≤ 1
apart_steps blocks (StorePhase to) n = omega arith
apart_steps blocks (Reset which) n = omega arith
apart_steps blocks (AddStat which by down) n = omega arith
apart_steps blocks NextBlock n = let drawn = one (draws_block blocks NextBlock n) in omega (arith, drawn)
  where
    one : (b : Bool) → bit b ≤ 1
    one true = omega arith
    one false = omega arith
apart_steps blocks step n = none_few (length (phase_stored step n)) (length (changing_step step n)) (bit (draws_block blocks step n)) refl refl refl

apart_all : (blocks : ℕ) (es : List Entry) → length (picked phase_stored es) + length (picked changing_step es) + count_of (draws_block blocks) es ≤ length es
apart_all blocks [] = omega arith
apart_all blocks (e ∷ es) =
    let rest = apart_all blocks es in
    let one = apart_steps blocks e.step e.found in
    let moved = length-append (phase_stored e.step e.found) (picked phase_stored es) in
    let changed = length-append (changing_step e.step e.found) (picked changing_step es) in
    omega (arith, rest, one, moved, changed)

pub all-told : (blocks k : ℕ) (ps : List Phase) (ss : List Step) (v w : View) → TakesCourse ps ss v w → AtMost k v w → k ≤ length ps + length ss → count_of (draws_block blocks) (events v w) ≡ 0
all-told blocks k ps ss v w c few all =
    let apart = apart_all blocks (events v w) in
    let moved = ap length c.moved in
    let changed = ap length c.changed.all in
    omega (arith, apart, moved, changed, few, all)

-- What a piece of a collection did, and how far a pass comes.
-- no root is seen to at first
pub sees-first : (v : View) → IsAtRoots v → SeesRootsFrom 0 v
sees-first v a = record { roots = a; below = λ i l. absurd (omega (arith, l)) }

-- so many roots are seen to
pub sees-so :
    (h : Heap) (x y : HeapSeat) (from n : ℕ) → Sits h x → IsPart Drain (view_of x) (view_of y) → Only sees_roots (view_of x) (view_of y) → picked (roots_read h.shape) (did x y) ≡ range_with_len from n → SeesRoots from n (view_of x) (view_of y)
sees-so h x y from n sits part only reads =
    record { part = part; only = only; reads = subst (λ (sh : Shape). picked (roots_read sh) (did x y) ≡ range_with_len from n) (sym sits.1) reads }

-- a drain and a count draw no block
pub drain-draws-none : (v w : View) → IsPart Drain v w → IsOwner v → Alone Drain v → DrawsNone v w
drain-draws-none v w p o a = part-draws-none Drain v w p (alone-apart Drain v refl refl o.unhelping a)

pub drain-few : (k : ℕ) (v w : View) → never pops (events v w) ≡ true → IsPart Drain v w → IsOwner v → Alone Drain v → AtMost k v w → DoesFew k v w
drain-few k v w n p o a few = ((unpopped v w n, drain-draws-none v w p o a), few)

-- nor does what is done beside helpers
pub shared-draws-none : (v w : View) → IsOpenPart Drain v w → IsShared Drain v → DrawsNone v w
shared-draws-none v w p s = stays-draws-none Drain v w p.ran p.only (open-apart v s.owner.unhelping s.opened)

pub shared-few : (k : ℕ) (v w : View) → never pops (events v w) ≡ true → IsOpenPart Drain v w → IsShared Drain v → AtMost k v w → DoesFew k v w
shared-few k v w n p s few = ((unpopped v w n, shared-draws-none v w p s), few)

pub count-few : (k from counted : ℕ) (v w : View) → IsPart Idle v w → CountsFrom from counted v → AtMost k v w → DoesFew k v w
count-few k from counted v w p c few = ((unpopped v w (part-unpopped Idle refl v w p), part-draws-none Idle v w p (alone-apart Idle v refl refl c.owner.unhelping c.alone.alone)), few)

-- nor does what goes on from a held world
pub course-few : (k : ℕ) (ps : List Phase) (ss : List Step) (v w : View) → all_apart ps ≡ true → TakesCourse ps ss v w → IsApart v → AtMost k v w → DoesFew k v w
course-few k ps ss v w e c a few = ((unpopped v w c.unpopped, course-draws-none ps ss v w e c a), few)

-- the number of a root has 32 bits
pub roots-small : (sh : Shape) → IsShape sh → root_count sh ≤ 4294967295
roots-small sh s =
    let sections = s.sections.1 in
    let slots = mul-le-mul_left sh.sections s.slots in
    omega (arith, sections, slots)

-- nor has that of a card or a block more
pub cards-small : (sh : Shape) → IsShape sh → card_count sh ≤ 1048576
cards-small sh s = let cells = s.cells.1 in omega (arith, cells)

pub blocks-small : (sh : Shape) → IsShape sh → block_count sh ≤ 262144
blocks-small sh s = let cells = s.cells.1 in omega (arith, cells)

-- fewer objects take fewer steps
pub traced-more : (n most : ℕ) (sh : Shape) → n ≤ most → recycle_steps sh + trace_steps n sh ≤ recycle_steps sh + trace_steps most sh
traced-more n most sh le = let all = traces-fewer n most sh le in omega (arith, all)

-- a piece that did as many as it was to, or all that were left
pub as-many : (n most left : ℕ) → n ≡ min most left → n ≡ most → most ≤ left
as-many n most left e is = omega (arith, e, is)

pub all-left : (n most left : ℕ) → n ≡ min most left → (n ≡ most → ⊥) → (left < most) × (n ≡ left)
all-left n most left e other = (omega (arith, e, other), omega (arith, e, other))

-- a piece that took fewer stretches than it was to
pub fewer-of : (drawn n most draws : ℕ) → drawn ≡ n → n ≤ most → (n ≡ most → ⊥) → most ≡ draws → drawn < draws
fewer-of drawn n most draws a b other d = omega (arith, a, b, other, d)

pub few-of : (n most left : ℕ) → n ≡ min most left → n ≤ most
few-of n most left e = omega (arith, e)
