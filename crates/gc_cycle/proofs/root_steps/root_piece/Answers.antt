use Rattle.std.proofs.Common.{arith, Some, ℕ, ◌+◌, ◌<◌, ◌≡◌, ◌≤◌, ⊎_elim, ◌-◌, ap, subst, sym, length}
use Rattle.std.proofs.lemmas.Bool.{cases_lt}
use Rattle.mark_core.specs.Layout.{root_count}
use Rattle.mark_core.specs.Places.{the_next_block}
use Rattle.mark_core.specs.declared.kinds.Phase.TheVariants.{Drain}
use Rattle.gc_table.specs.Notes.{look}
use Rattle.gc_table.specs.declared.view.View.{View}
use Rattle.card_clean.specs.Drained.{IsNotedRoot, RootsBetween, roots_read, sees_roots}
use Rattle.gc_cycle.specs.Finishing.{IsPart}
use Rattle.gc_cycle.specs.Pieces.{SeesRootsFrom}
use Rattle.gc_cycle.specs.Stepping.{Drains}
use Rattle.gc_cycle.proofs.Stepped.{notes-of, part-owner, root-noted, part-keeps}
use Rattle.std.specs.List.{range_with_len}
use Rattle.mark_core.specs.declared.kinds.Shape.{Shape}
use Rattle.gc_table.specs.Log.{events}
use Rattle.gc_table.specs.Seats.{view_of}
use Rattle.gc_table.proofs.History.Log.{events-none, only-none}
use Rattle.packet_pools.specs.Fields.{picked}
use Rattle.gc_cycle.specs.Events.{never}
use Rattle.gc_cycle.specs.Sorts.{pops}
use Rattle.gc_cycle.specs.Statistics.{leaves_numbers}
use Rattle.gc_cycle.proofs.Exactly.{exact-part}
use Rattle.gc_cycle.proofs.Parts.{part-none}
use Rattle.card_clean.specs.StepBounds.{see_to_steps}
use Rattle.tracer.specs.StepBounds.{recycle_steps}
use Rattle.gc_cycle.proofs.Few.{roots-fewer}
use Rattle.gc_cycle.proofs.root_steps.root_piece.Goals as goal

-- A seat that is alone sees to the roots in pieces.
-- the roots that were seen to stay so
kept-below : (from : ℕ) (v w : View) → ((i : ℕ) → IsNotedRoot i v → IsNotedRoot i w) → SeesRootsFrom from v → (i : ℕ) → i < from → IsNotedRoot i w
kept-below from v w k s i l = k i (root-noted i v (s.below i l))

-- a piece that saw to none, or found no packet
sees-still : (from : ℕ) (v w : View) → SeesRootsFrom from v → IsPart Drain v w → look the_next_block w.known ≡ Some 0 → ((i : ℕ) → IsNotedRoot i v → IsNotedRoot i w) → SeesRootsFrom from w
sees-still from v w s p n k =
    record {
      roots = record { owner = part-owner Drain v w p s.roots.owner; alone = p.alone; next_block = n };
      below = λ i l. notes-of i w (kept-below from v w k s i l);
    }

-- a piece that saw to some
sees-further : (from n : ℕ) (v w : View) → SeesRootsFrom from v → IsPart Drain v w → look the_next_block w.known ≡ Some 0 → ((i : ℕ) → IsNotedRoot i v → IsNotedRoot i w) → RootsBetween from (from + n) w → SeesRootsFrom (from + n) w
sees-further from n v w s p b k r =
    record {
      roots = record { owner = part-owner Drain v w p s.roots.owner; alone = p.alone; next_block = b };
      below = λ i l. notes-of i w (⊎_elim (λ (h : i < from). kept-below from v w k s i h) (λ (h : from ≤ i). r i h l) (cases_lt i from));
    }

-- no root is left
all-rooted : (n : ℕ) (v : View) → SeesRootsFrom n v → root_count v.shape ≤ n → Drains v
all-rooted n v s all =
    record { owner = s.roots.owner; rest = s.roots.alone.rest; drain = s.roots.alone.alone; next_block = s.roots.next_block; roots = λ i l. s.below i (omega (arith, all, l)) }

pub returns-then-number-eq0-clause-part : goal.returns-then-number-eq0-clause-part
returns-then-number-eq0-clause-part c = part-none Drain (view_of c.args.seat.now) c.requires.roots.roots.alone

pub returns-then-number-eq0-clause-unpopped : goal.returns-then-number-eq0-clause-unpopped
returns-then-number-eq0-clause-unpopped c = ap (never pops) (events-none (view_of c.args.seat.now))

pub returns-then-number-eq0-clause-some : goal.returns-then-number-eq0-clause-some
returns-then-number-eq0-clause-some c =
    let same : c.args.from ≡ c.args.from + 0 = omega arith in
    (subst (λ n. SeesRootsFrom n (view_of c.args.seat.now)) same c.requires.roots, omega (arith, c.if-number-eq0.true, c.at_most-number.ensures, c.count_roots.ensures))

pub returns-then-number-eq0-clause-only : goal.returns-then-number-eq0-clause-only
returns-then-number-eq0-clause-only c = only-none sees_roots (view_of c.args.seat.now)

pub returns-then-number-eq0-clause-reads : goal.returns-then-number-eq0-clause-reads
returns-then-number-eq0-clause-reads c = ap (picked (roots_read c.args.heap.now.shape)) (events-none (view_of c.args.seat.now))

pub returns-then-number-eq0-clause-rooted : goal.returns-then-number-eq0-clause-rooted
returns-then-number-eq0-clause-rooted c some =
    let v : View = view_of c.args.seat.now in
    all-rooted c.args.from v c.requires.roots
    (subst (λ (sh : Shape). root_count sh ≤ c.args.from) (sym c.requires.seat.1) (omega (arith, some, c.if-number-eq0.true, c.at_most-number.ensures, c.count_roots.ensures)))

pub returns-then-number-eq0-clause-numbers : goal.returns-then-number-eq0-clause-numbers
returns-then-number-eq0-clause-numbers c = only-none leaves_numbers (view_of c.args.seat.now)

pub returns-then-number-eq0-clause-keeps : goal.returns-then-number-eq0-clause-keeps
returns-then-number-eq0-clause-keeps c = let v : View = view_of c.args.seat.now in part-keeps Drain v v (part-none Drain v c.requires.roots.roots.alone)

pub sees_to_some-requires-clause-alone : goal.sees_to_some-requires-clause-alone
sees_to_some-requires-clause-alone c = (c.requires.roots.roots.alone, c.requires.roots.roots.next_block)

pub sees_to_some-requires-clause-roots : goal.sees_to_some-requires-clause-roots
sees_to_some-requires-clause-roots c = (omega arith, omega (arith, c.if-number-eq0.false, c.at_most-number.ensures, c.count_roots.ensures))

pub returns-then-sees_to_some-clause-some : goal.returns-then-sees_to_some-clause-some
returns-then-sees_to_some-clause-some c =
    let v : View = view_of c.args.seat.now in
    let w : View = view_of c.sees_to_some.new.seat in
    let e = c.sees_to_some.ensures in (
      sees-further c.args.from c.at_most-number.result v w c.requires.roots e.part e.next e.kept (e.noted c.if-sees_to_some.true),
      omega (arith, c.at_most-number.ensures, c.count_roots.ensures),
    )

pub returns-then-sees_to_some-clause-reads : goal.returns-then-sees_to_some-clause-reads
returns-then-sees_to_some-clause-reads c =
    let n : ℕ = c.at_most-number.result in
    let same : c.args.from + n - c.args.from ≡ n = omega arith in
    subst (λ k. picked (roots_read c.args.heap.now.shape) (events (view_of c.args.seat.now) (view_of c.sees_to_some.new.seat)) ≡ range_with_len c.args.from k) same (c.sees_to_some.ensures.reads c.if-sees_to_some.true)

pub returns-then-sees_to_some-clause-rooted : goal.returns-then-sees_to_some-clause-rooted
returns-then-sees_to_some-clause-rooted c some =
    let v : View = view_of c.args.seat.now in
    let w : View = view_of c.sees_to_some.new.seat in
    let n : ℕ = c.at_most-number.result in
    let e = c.sees_to_some.ensures in
    all-rooted (c.args.from + n) w (sees-further c.args.from n v w c.requires.roots e.part e.next e.kept (e.noted c.if-sees_to_some.true))
    (subst (λ (sh : Shape). root_count sh ≤ c.args.from + n) (sym e.seat.1) (omega (arith, some, c.at_most-number.ensures, c.count_roots.ensures)))

pub returns-then-sees_to_some-clause-exact : goal.returns-then-sees_to_some-clause-exact
returns-then-sees_to_some-clause-exact c u k = exact-part Drain u (view_of c.args.seat.now) (view_of c.sees_to_some.new.seat) c.sees_to_some.ensures.part k

pub returns-then-sees_to_some-clause-keeps : goal.returns-then-sees_to_some-clause-keeps
returns-then-sees_to_some-clause-keeps c = part-keeps Drain (view_of c.args.seat.now) (view_of c.sees_to_some.new.seat) c.sees_to_some.ensures.part

pub returns-clause-not_yet : goal.returns-clause-not_yet
returns-clause-not_yet c =
    let v : View = view_of c.args.seat.now in
    let w : View = view_of c.sees_to_some.new.seat in
    let e = c.sees_to_some.ensures in
    (sees-still c.args.from v w c.requires.roots e.part e.next e.kept, e.lacks c.if-sees_to_some.false)

pub returns-clause-exact : goal.returns-clause-exact
returns-clause-exact c u k = exact-part Drain u (view_of c.args.seat.now) (view_of c.sees_to_some.new.seat) c.sees_to_some.ensures.part k

pub returns-clause-keeps : goal.returns-clause-keeps
returns-clause-keeps c = part-keeps Drain (view_of c.args.seat.now) (view_of c.sees_to_some.new.seat) c.sees_to_some.ensures.part

pub returns-then-number-eq0-clause-few : goal.returns-then-number-eq0-clause-few
returns-then-number-eq0-clause-few c = let none = ap length (events-none (view_of c.args.seat.now)) in omega (arith, none)

-- what was seen to is at most what was to be
piece-few : (from number most : ℕ) (sh : Shape) (k r : ℕ) → number ≤ most → k ≤ see_to_steps (from + number - from) sh + r → k ≤ see_to_steps most sh + r
piece-few from number most sh k r l few =
    let same : from + number - from ≡ number = omega arith in
    let all = roots-fewer (from + number - from) most sh (see_to_steps (from + number - from) sh) (omega (arith, same, l)) (omega arith) in
    omega (arith, few, all)

pub returns-then-sees_to_some-clause-few : goal.returns-then-sees_to_some-clause-few
returns-then-sees_to_some-clause-few c =
    let sh : Shape = c.args.heap.now.shape in
    let many = c.at_most-number.ensures in
    piece-few c.args.from c.at_most-number.result c.args.most sh _ (recycle_steps sh) (omega (arith, many)) c.sees_to_some.ensures.few

pub returns-clause-few : goal.returns-clause-few
returns-clause-few c =
    let sh : Shape = c.args.heap.now.shape in
    let many = c.at_most-number.ensures in
    piece-few c.args.from c.at_most-number.result c.args.most sh _ (recycle_steps sh) (omega (arith, many)) c.sees_to_some.ensures.few
