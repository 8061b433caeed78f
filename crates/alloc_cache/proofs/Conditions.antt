-- When the steps of this crate may be taken, by what the seat knows.
use Rattle.std.proofs.Common.{ℕ, ◌≡◌, ◌<◌, ◌≤◌, ◌+◌, arith, refl, sym, ap, ◌∙◌, subst, Bool, true, false, not, ◌&&◌, ◌||◌, Some, None, Option, is_none, is_some, ◌*◌, ◌/◌, ◌%◌, ◌^◌}
use Rattle.std.specs.Prelude.{IsTrue, IsFalse, nat_lt, ◌==◌, IfSome}
use Rattle.std.proofs.lemmas.Bool.{true≢false, false≢true, and_from, lt-ltb, le-leb, not_from_false, eq-eqb, eqb-true, ltb-true}
use Rattle.mark_core.specs.Layout.{words_of, block_count}
use Rattle.mark_core.specs.Numbers.{free_count}
use Rattle.mark_core.specs.Places.{the_phase}
use Rattle.mark_core.specs.Seats.{takes_part, may_mutate, free_in, has_making, has_used, is_unread, is_phase, is_the, last_made}
use Rattle.mark_core.specs.Steps.MutatorSteps.{is_next_part, fits_part, used_bits}
use Rattle.mark_core.specs.Rules.WorldRules.{IsEmpty}
use Rattle.mark_core.proofs.Blocks.BlocksStopped.{Taken, mine, within, own-record}
use Rattle.mark_core.proofs.World.WorldReading.{at-standing}
use Rattle.mark_core.specs.Strong.{IsStrongSeat}
use Rattle.mark_core.specs.Views.{Standing}
use Rattle.mark_core.proofs.Notes.NotesKept.{single-word}
use Rattle.mark_core.specs.declared.kinds.Shape.{Shape}
use Rattle.mark_core.specs.declared.kinds.Phase.TheVariants.{Idle}
use Rattle.mark_core.specs.declared.kinds.Step.TheVariants.{ReadCount, ClaimBlock, ReadFree, ReleaseBlock, StoreNew, PublishCells, AddStat}
use Rattle.mark_core.specs.declared.seat.SeatState.{SeatState}
use Rattle.gc_table.specs.declared.view.View.{View}
use Rattle.gc_table.specs.Notes.{look}
use Rattle.gc_table.specs.TableState.{TableState}
use Rattle.gc_table.specs.Rule.{IsState, Agrees, IsPossible}
use Rattle.gc_table.specs.Taking.{May}
use Rattle.gc_table.proofs.Stands.StandsSeat.{looks, free-below}
use Rattle.alloc_cache.specs.Claiming.{MayClaim, notes_idle}
use Rattle.std.specs.Int.{trailing_zeros}
use Rattle.std.proofs.Math.Logic.{∥∥₁_elim}
use Rattle.std.proofs.Props.{props}
use Rattle.std.proofs.lemmas.Nat.Bits.{bit_at-trailing_zeros}
use mir.Syntax.{w64}
use Rattle.mark_core.specs.Bits.{has_bit}
use Rattle.mark_core.specs.Cards.{block_cells}
use Rattle.mark_core.specs.WellFormed.{IsCache}
use Rattle.mark_core.specs.declared.seat.CacheState.{CacheState}
use Rattle.alloc_cache.specs.Caching.{IsCached}
use Rattle.alloc_cache.specs.declared.cache.Cache.{Cache}

-- the seat, in a state that agrees with its view
pub seat-there : (x : TableState) (i : ℕ) (v : View) → IsState x → Agrees x i v → v.state.spent ≡ false → Taken x.core i v.state ReadCount
seat-there x i v st a live = looks x.core i v.state st.core a.seat live

-- a seat with a block takes part
pub part-cached : (x : TableState) (i : ℕ) (v : View) → IsState x → Agrees x i v → v.state.spent ≡ false → is_some v.state.cache ≡ true → takes_part v.state ≡ true
part-cached x i v st a live has = by_part (takes_part v.state) refl
  where
    by_part : (b : Bool) → takes_part v.state ≡ b → b ≡ true
    by_part true e = refl
    by_part false e =
        let k : Taken x.core i v.state ReadCount = seat-there x i v st a live in
        let empty : IsEmpty x.core.shape v.state = mine x.core i v.state ReadCount (λ (s : SeatState). IsFalse (takes_part s) → IsEmpty x.core.shape s) k st.core.sound.world.outside_empty e in
        absurd (false≢true (sym (ap is_some empty.no_cache) ∙ has))

module _ (v : View) where
  pub may-publish_cells : is_some v.state.cache ≡ true → v.state.owes ≡ None → has_making v.state.cache ≡ false → May PublishCells v
  may-publish_cells has owes whole x i st a = (has, (and_from (is_none v.state.owes) (not (has_making v.state.cache)) (ap is_none owes) (not_from_false _ whole), tt))

  pub may-release_block : is_some v.state.cache ≡ true → has_used v.state.cache ≡ false → has_making v.state.cache ≡ false → May ReleaseBlock v
  may-release_block has used whole x i st a = (has, (and_from (not (has_used v.state.cache)) (not (has_making v.state.cache)) (not_from_false _ used) (not_from_false _ whole), tt))

  pub may-add_free : (by : ℕ) (down : Bool) → v.state.spent ≡ false → is_some v.state.cache ≡ true → May (AddStat free_count by down) v
  may-add_free by down live has x i st a = (part-cached x i v st a live has, (refl, tt))

  pub may-read_free : is_unread v.state.cache ≡ true → May ReadFree v
  may-read_free unread x i st a = (unread, tt)

  pub may-store_new : (c part word : ℕ) → v.state.spent ≡ false → may_mutate v.state ≡ true → free_in v.state.cache c ≡ true → part ≤ v.shape.fields + 1 → is_next_part v.state c part ≡ true → fits_part v.shape v.state part word ≡ true → May (StoreNew c part word) v
  may-store_new c part word live turn free below next fits x i st a = (
    and_from _ _ (and_from _ _ (lt-ltb c x.core.shape.cells (free-below x.core i v.state ReadCount c (seat-there x i v st a live) free)) (le-leb part (x.core.shape.fields + 1) (subst (λ (sh : Shape). part ≤ sh.fields + 1) a.shape below))) turn,
    (next, (subst (λ (sh : Shape). fits_part sh v.state part word ≡ true) a.shape fits, tt)),
  )

pub some-is : (o : Option ℕ) (n : ℕ) → is_the o n ≡ true → o ≡ Some n
some-is None n e = absurd (true≢false (sym e))
some-is (Some m) n e = ap Some (eqb-true m n e)

-- the phase that is noted is idle, in each state that agrees with the view
idle-there : (x : TableState) (i : ℕ) (v : View) → Agrees x i v → notes_idle v ≡ true → is_phase (words_of x.core.shape x.core.words).phase Idle ≡ true
idle-there x i v a e =
    let word = (a.noted the_phase 0 (some-is (look the_phase v.known) 0 e)).1 in
    eq-eqb (words_of x.core.shape x.core.words).phase 0 (sym (single-word x.core.shape x.core.words 1 (omega arith)) ∙ word)

knows_of : (a k n : Bool) → (a || (k && n)) ≡ true → (a || k) ≡ true
knows_of true k n e = refl
knows_of false true n e = refl
knows_of false false n e = e

-- a seat that is active doesn't know that the world is stopped, and one that knows has noted the phase
resting_of : (a k n p : Bool) → (k ≡ true → a ≡ true → ⊥) → (n ≡ true → p ≡ true) → (a || (k && n)) ≡ true → (not k || p) ≡ true
resting_of a false n p apart noted e = refl
resting_of true true n p apart noted e = absurd (apart refl refl)
resting_of false true n p apart noted e = noted e

-- a seat that runs hasn't stopped the world
runs-apart : (x : TableState) (i : ℕ) (v : View) → IsState x → Agrees x i v → v.state.spent ≡ false → v.state.knows ≡ true → v.state.active ≡ true → ⊥
runs-apart x i v st a live knows active =
    let s : SeatState = v.state in
    let k : Taken x.core i s ReadCount = seat-there x i v st a live in
    let strong : IsStrongSeat x.core.shape s = mine x.core i s ReadCount (IsStrongSeat x.core.shape) k st.core.strong.seats_strong in
    let counted : s.counted ≡ true =
    subst (λ (t : SeatState). t.active ≡ true → t.counted ≡ true) (own-record x.core i s ReadCount s k) (at-standing (λ (t : Standing). IsTrue t.active → IsTrue t.counted) x.core.seats i s (within x.core i s ReadCount k) st.core.sound.world.active_counted) active in
    false≢true (sym (strong.raised_not_counted (strong.knows_is_raised knows)) ∙ counted)

pub may-claim_block : (v : View) (b : ℕ) → v.state.spent ≡ false → MayClaim v → b < block_count v.shape → May (ClaimBlock b) v
may-claim_block v b live m there x i st a = (
  and_from _ _ (lt-ltb b (block_count x.core.shape) (subst (λ (sh : Shape). b < block_count sh) a.shape there)) (ap is_none m.none),
  (
    and_from _ _ (knows_of v.state.active v.state.knows (notes_idle v) m.may) m.section,
    (resting_of v.state.active v.state.knows (notes_idle v) (is_phase (words_of x.core.shape x.core.words).phase Idle) (runs-apart x i v st a live) (idle-there x i v a) m.may, tt),
  ),
)

-- The cache in hand and the seat's record of it.
within_by : (v : View) (h : Cache) → IsCached h v → IsPossible v → nat_lt h.block (block_count v.shape) ≡ true
within_by v h e p =
    let formed = (p.whole.core.formed.seats p.index v.state p.agrees.seat).cache in
    let at : IsCache p.state.core.shape (record { block = h.block; unread = false; free = h.cells; used = used_bits v.state.cache; making = None; last = last_made v.state.cache }) = subst (λ (o : Option CacheState). IfSome o (IsCache p.state.core.shape)) e formed in
    lt-ltb h.block (block_count v.shape) (subst (λ (sh : Shape). h.block < block_count sh) (sym p.agrees.shape) at.block)

-- the block of a cache exists
pub cache-within : (v : View) (h : Cache) → IsCached h v → ∥ IsPossible v ∥₁ → h.block < block_count v.shape
cache-within v h e p = ltb-true h.block (block_count v.shape) (∥∥₁_elim p (Prim.hlevel props) (within_by v h e))

-- the lowest bit of the free cells is a free cell
pub lowest-free : (v : View) (h : Cache) (i : ℕ) → IsCached h v → 0 < h.cells → h.cells < 2 ^ 64 → i ≡ trailing_zeros w64 h.cells → (i < block_cells) × (free_in v.state.cache (block_cells * h.block + i) ≡ true)
lowest-free v h i e some fits is =
    let low = bit_at-trailing_zeros w64 h.cells some fits in
    let below : i < block_cells = omega (arith, is, low.0) in
    let block : h.block ≡ (block_cells * h.block + i) / block_cells = omega (arith, below) in
    let place : (block_cells * h.block + i) % block_cells ≡ trailing_zeros w64 h.cells = omega (arith, below, is) in (
      below,
      ap (λ (o : Option CacheState). free_in o (block_cells * h.block + i)) e
          ∙ and_from (h.block == (block_cells * h.block + i) / block_cells) (has_bit h.cells ((block_cells * h.block + i) % block_cells)) (eq-eqb h.block _ block) (ap (λ (n : ℕ). has_bit h.cells n) place ∙ eq-eqb _ 1 low.1),
    )

-- each free cell exists
pub free-within : (v : View) (x : ℕ) → free_in v.state.cache x ≡ true → ∥ IsPossible v ∥₁ → x < v.shape.cells
free-within v x e p =
    ltb-true x v.shape.cells
    (∥∥₁_elim p (Prim.hlevel props) (λ (q : IsPossible v). lt-ltb x v.shape.cells (subst (λ (sh : Shape). x < sh.cells) (sym q.agrees.shape) (free-below q.state.core q.index v.state ReadCount x (seat-there q.state q.index v q.whole q.agrees q.live) e))))
