-- The cells that a seat has made and not published, after a step of it.
use Rattle.std.proofs.Common.{ℕ, ◌≡◌, ◌+◌, ◌/◌, ◌%◌, ◌^◌, ◌<◌, List, arith, refl, sym, ap, ◌∙◌, subst, Bool, true, false, not, ◌&&◌, eqb, cond, Option, Some, None, ◌⊎◌, inl, inr, ⊎_elim}
use Rattle.std.specs.Prelude.{IsTrue, IfSome, is_none, nat_le}
use Rattle.std.proofs.lemmas.Bool.{true≢false, not-true, and_parts, ne_eqb, eqb-true, cases_eq, cases_Bool, leb-false, and_right, not-false}
use Rattle.mark_core.specs.Layout.{Words}
use Rattle.mark_core.specs.Bits.{has_bit, with_bit}
use Rattle.mark_core.specs.Seats.{in_set, free_in, makes, scans, used_in, has_used, has_making}
use Rattle.mark_core.specs.Steps.MutatorSteps.{with_making, with_made, with_free, without_used}
use Rattle.mark_core.specs.Effects.{seat_after}
use Rattle.mark_core.specs.Parts.{parts}
use Rattle.mark_core.specs.Steps.{AllTrue}
use Rattle.mark_core.proofs.Writing.CellBits.{bit-more, no-bit, with_other}
use Rattle.mark_core.specs.declared.kinds.Shape.{Shape}
use Rattle.mark_core.specs.declared.kinds.Step.{Step}
use Rattle.mark_core.specs.declared.kinds.Step.TheVariants.{PublishCells, ClaimBlock, ReleaseBlock, ReadFree, StoreNew}
use Rattle.mark_core.specs.declared.seat.SeatState.{SeatState}
use Rattle.mark_core.specs.declared.seat.CacheState.{CacheState}

-- The cells that a cache counts as used: none without a cache or in an empty set, and the same after a step that leaves the set.
-- no cell is in an empty set
pub empty-set : (b c : ℕ) → in_set b 0 c ≡ false
empty-set b c = and_right (eqb b (c / 64)) (has_bit 0 (c % 64)) (no-bit (c % 64))

-- what the changes of a cache leave of it
pub free-used : (o : Option CacheState) (word c : ℕ) → used_in (with_free o word) c ≡ used_in o c
free-used None word c = refl
free-used (Some x) word c = refl

pub making-used : (o : Option CacheState) (d part c : ℕ) → used_in (with_making o d part) c ≡ used_in o c
making-used None d part c = refl
making-used (Some x) d part c = refl

pub published-none : (o : Option CacheState) (c : ℕ) → used_in (without_used o) c ≡ false
published-none None c = refl
published-none (Some x) c = empty-set x.block c

-- a cache with no used cell
pub no-used : (o : Option CacheState) (x : ℕ) → has_used o ≡ false → used_in o x ≡ false
no-used None x e = refl
no-used (Some y) x e = rw (eqb-true y.used 0 (not-false (eqb y.used 0) e), no-bit) (and_right _ false refl)

pub no-cache_used : (o : Option CacheState) (x : ℕ) → is_none o ≡ true → used_in o x ≡ false
no-cache_used None x e = refl
no-cache_used (Some y) x e = absurd (true≢false (sym e))

-- the step gives cell x its last word
abbrev pub IsMadeBy : Shape → Step → ℕ → Type 0
IsMadeBy sh (StoreNew c part word) x = (x ≡ c) × (sh.fields < part)
IsMadeBy sh step x = ⊥

made_on : (o : Option CacheState) (c x : ℕ) → used_in o x ≡ true → used_in (with_made o c) x ≡ true
made_on None c x e = e
made_on (Some y) c x e =
    let a = and_parts (eqb y.block (x / 64)) (has_bit y.used (x % 64)) e in
    rw a.0 (bit-more y.used (2 ^ (c % 64)) (x % 64) a.1)

-- the cell being made lies in the block of the cache
abbrev pub MakesHere : Option CacheState → ℕ → Type 0
MakesHere o c = IfSome o (λ (y : CacheState). y.block ≡ c / 64)

made_back : (o : Option CacheState) (c x : ℕ) → MakesHere o c → used_in (with_made o c) x ≡ true → (used_in o x ≡ true) ⊎ (x ≡ c)
made_back None c x h e = inl e
made_back (Some y) c x h e =
    let a = and_parts (eqb y.block (x / 64)) (has_bit (with_bit y.used (c % 64)) (x % 64)) e in
    let b : y.block ≡ x / 64 = eqb-true y.block (x / 64) a.0 in
    ⊎_elim
    (λ (q : x % 64 ≡ c % 64). inr (omega (arith, q, b, h)))
    (λ n. inl (rw a.0 (sym (with_other y.used (c % 64) (x % 64) n) ∙ a.1)))
    (cases_eq (x % 64) (c % 64))

made_at : (b free : ℕ) (o : Option (ℕ × ℕ)) (c part : ℕ) → IfSome o (λ m. IsTrue (in_set b free m.0)) → scans o c part ≡ true → b ≡ c / 64
made_at b free None c part k e = absurd (true≢false (sym e))
made_at b free (Some m) c part k e =
    let a : m.0 ≡ c = eqb-true m.0 c (and_parts (eqb m.0 c) (eqb m.1 part) e).0 in
    eqb-true b (m.0 / 64) (and_parts (eqb b (m.0 / 64)) (has_bit free (m.0 % 64)) k).0 ∙ ap (λ (j : ℕ). j / 64) a

claimed_none : (t : Bool) (b : ℕ) (o : Option CacheState) (x : ℕ) → is_none o ≡ true → used_in (cond t (Some (record { block = b; unread = true; free = 0; used = 0; making = None; last = None })) o) x ≡ false
claimed_none true b o x e = and_right (eqb b (x / 64)) (has_bit 0 (x % 64)) (no-bit (x % 64))
claimed_none false b o x e = no-cache_used o x e

-- what the seat had made it still has, unless it publishes
pub seat-on : (sh : Shape) (w : Words) (seats : List SeatState) (s : SeatState) (step : Step) (old x : ℕ) → AllTrue (parts sh w seats s step) → used_in s.cache x ≡ true → (used_in (seat_after sh s step old).cache x ≡ true) ⊎ (step ≡ PublishCells)
seat-on sh w seats s PublishCells old x ok e = inr refl
seat-on sh w seats s (ClaimBlock b) old x ok e = absurd (true≢false (sym e ∙ no-cache_used s.cache x (and_parts _ _ ok.0).1))
seat-on sh w seats s ReleaseBlock old x ok e = absurd (true≢false (sym e ∙ no-used s.cache x (not-true (has_used s.cache) (and_parts (not (has_used s.cache)) (not (has_making s.cache)) ok.1.0).0)))
seat-on sh w seats s ReadFree old x ok e = inl (free-used s.cache old x ∙ e)
seat-on sh w seats s (StoreNew c part word) old x ok e =
    inl
    (⊎_elim
    (λ (b : nat_le part sh.fields ≡ true). rw b (making-used s.cache c (part + 1) x ∙ e))
    (λ (b : nat_le part sh.fields ≡ false). rw b (made_on s.cache c x e))
    (cases_Bool (nat_le part sh.fields)))
seat-on sh w seats s step old x ok e = inl e

-- a cell that is made by its last word lies in the cached block
making_here : (o : Option CacheState) (c part : ℕ) → IfSome o (λ (y : CacheState). IfSome y.making (λ m. IsTrue (in_set y.block y.free m.0))) → makes o c part ≡ true → MakesHere o c
making_here None c part k e = tt
making_here (Some y) c part k e = made_at y.block y.free y.making c part k e

-- what the seat has made it had made before, or it gives the cell its last word
pub seat-back : (sh : Shape) (w : Words) (seats : List SeatState) (s : SeatState) (step : Step) (old x : ℕ) → IfSome s.cache (λ (y : CacheState). IfSome y.making (λ m. IsTrue (in_set y.block y.free m.0))) → AllTrue (parts sh w seats s step)
    → used_in (seat_after sh s step old).cache x ≡ true → (used_in s.cache x ≡ true) ⊎ IsMadeBy sh step x
seat-back sh w seats s PublishCells old x k ok e = absurd (true≢false (sym e ∙ published-none s.cache x))
seat-back sh w seats s (ClaimBlock b) old x k ok e = absurd (true≢false (sym e ∙ claimed_none (eqb old 0) b s.cache x (and_parts _ _ ok.0).1))
seat-back sh w seats s ReleaseBlock old x k ok e = absurd (true≢false (sym e))
seat-back sh w seats s ReadFree old x k ok e = inl (sym (free-used s.cache old x) ∙ e)
seat-back sh w seats s (StoreNew c part word) old x k ok e =
    ⊎_elim
    (λ (b : nat_le part sh.fields ≡ true). inl (sym (making-used s.cache c (part + 1) x) ∙ subst (λ (t : Bool). used_in (cond t (with_making s.cache c (part + 1)) (with_made s.cache c)) x ≡ true) b e))
    (λ (b : nat_le part sh.fields ≡ false).
    let above : sh.fields < part = leb-false part sh.fields b in
    let next : makes s.cache c part ≡ true = subst (λ (t : Bool). cond t (free_in s.cache c && not (has_making s.cache)) (makes s.cache c part) ≡ true) (ne_eqb part 0 (λ z. omega (arith, z, above))) ok.1.0 in
    ⊎_elim
    (λ (u : used_in s.cache x ≡ true). inl u)
    (λ (u : x ≡ c). inr (u, above))
    (made_back s.cache c x (making_here s.cache c part k next) (subst (λ (t : Bool). used_in (cond t (with_making s.cache c (part + 1)) (with_made s.cache c)) x ≡ true) b e)))
    (cases_Bool (nat_le part sh.fields))
seat-back sh w seats s step old x k ok e = inl e
