-- Which steps change what the rules of blocks, of the sweep and of an exact stop read of the words. Each other step leaves it.
use Rattle.std.proofs.Common.{ℕ, ◌≡◌, ◌+◌, ◌≤◌, arith, refl, ap, Bool, true, false}
use Rattle.std.specs.Prelude.{nat_le}
use Rattle.std.proofs.lemmas.Bool.{and_parts, true≢false, leb-true, ne_eqb, lt-ltb, le-ltb}
use Rattle.mark_core.specs.Layout.{Words, words_of, put_word}
use Rattle.mark_core.specs.Places.{counter_at}
use Rattle.mark_core.specs.Effects.{written}
use Rattle.mark_core.specs.Steps.{Core}
use Rattle.mark_core.proofs.Known.{found, words_left}
use Rattle.mark_core.proofs.Writing.Writes.{phase-kept, next_block-kept}
use Rattle.mark_core.proofs.Writing.RegionWrites.{roots-kept, allocs-kept, marks-kept, fields-kept}
use Rattle.mark_core.proofs.Blocks.BlocksStopped.{Taken, words-read}
use Rattle.mark_core.specs.declared.kinds.Step.{Step}
use Rattle.mark_core.specs.declared.kinds.Step.TheVariants.{ReadAlloc, ReadField, ReadRoot, SetMark, ReadMarks, ReadPhase, ReadOwn, ReadCat, StoreField, StoreRoot, ReadFree, StoreNew, PublishCells, StorePhase, NextBlock, ReadBlockMarks, StoreAlloc, ClearMarks, Reset, AddStat, ReadStat, ExchangeField, LoadSlot, StoreSlot, ReadSlot, ReadWeak, HoldRoot, FlushRoot}
use Rattle.mark_core.specs.declared.seat.SeatState.{SeatState}
use Rattle.mark_core.specs.Numbers.{done_count, last_count, named_number}

-- the words that these rules read are the same
pub record SameHeap (w v : Words) : Type 0 where
  pub phase : v.phase ≡ w.phase
  pub next_block : v.next_block ≡ w.next_block
  pub roots : v.roots ≡ w.roots
  pub allocs : v.allocs ≡ w.allocs
  pub marks : v.marks ≡ w.marks
  pub fields : v.fields ≡ w.fields

same_words : (w v : Words) → v ≡ w → SameHeap w v
same_words w v e =
    record {
      phase = ap (λ (x : Words). x.phase) e;
      next_block = ap (λ (x : Words). x.next_block) e;
      roots = ap (λ (x : Words). x.roots) e;
      allocs = ap (λ (x : Words). x.allocs) e;
      marks = ap (λ (x : Words). x.marks) e;
      fields = ap (λ (x : Words). x.fields) e;
    }

-- a statistic is neither the phase nor a counter of cards or blocks
pub statistic : (P : ℕ × ℕ → Type 0) (which : ℕ) → last_count ≤ which → which ≤ done_count → P (0, 4 + which) → P (counter_at which)
statistic P which h g p = rw (le-ltb which last_count h, lt-ltb which named_number (omega arith)) p

same_statistic : (w : Words) (which v : ℕ) → last_count ≤ which → which ≤ done_count → SameHeap w (put_word (counter_at which) v w)
same_statistic w which v h g =
    let none = λ (k : ℕ) (l : k ≤ 5). ne_eqb (4 + which) k (λ e. omega (arith, h, l, e)) in
    statistic (λ at. SameHeap w (put_word at v w)) which h g
    (record { phase = rw (none 1 (omega arith)) refl; next_block = rw (none 4 (omega arith)) refl; roots = refl; allocs = refl; marks = refl; fields = refl })

-- the steps that change one of these words
abbrev pub changes_heap : Step → Bool
changes_heap (SetMark c) = true
changes_heap (StoreField v i x) = true
changes_heap (ExchangeField v i x y) = true
changes_heap (StoreRoot v r) = true
changes_heap (FlushRoot v) = true
changes_heap (StoreSlot k r) = true
changes_heap (StoreNew c part word) = true
changes_heap PublishCells = true
changes_heap (StorePhase to) = true
changes_heap NextBlock = true
changes_heap StoreAlloc = true
changes_heap ClearMarks = true
changes_heap (Reset which) = true
changes_heap step = false

-- each other step leaves them
pub heap-left : (c : Core) (i : ℕ) (s : SeatState) (step : Step) → Taken c i s step → changes_heap step ≡ false → SameHeap (words_of c.shape c.words) (words_left c s step)
heap-left c i s (SetMark x) t e = absurd (true≢false e)
heap-left c i s (StoreField v x y) t e = absurd (true≢false e)
heap-left c i s (ExchangeField v x y z) t e = absurd (true≢false e)
heap-left c i s (StoreRoot v r) t e = absurd (true≢false e)
heap-left c i s (FlushRoot v) t e = absurd (true≢false e)
heap-left c i s (StoreSlot k r) t e = absurd (true≢false e)
heap-left c i s (StoreNew x part word) t e = absurd (true≢false e)
heap-left c i s PublishCells t e = absurd (true≢false e)
heap-left c i s (StorePhase to) t e = absurd (true≢false e)
heap-left c i s NextBlock t e = absurd (true≢false e)
heap-left c i s StoreAlloc t e = absurd (true≢false e)
heap-left c i s ClearMarks t e = absurd (true≢false e)
heap-left c i s (Reset which) t e = absurd (true≢false e)
heap-left c i s (ReadAlloc b) t e = same_words _ _ (words-read c i s (ReadAlloc b) t refl)
heap-left c i s (ReadField x f) t e = same_words _ _ (words-read c i s (ReadField x f) t refl)
heap-left c i s (ReadRoot section v) t e = same_words _ _ (words-read c i s (ReadRoot section v) t refl)
heap-left c i s (LoadSlot section k) t e = same_words _ _ (words-read c i s (LoadSlot section k) t refl)
heap-left c i s (ReadMarks b) t e = same_words _ _ (words-read c i s (ReadMarks b) t refl)
heap-left c i s ReadPhase t e = same_words _ _ (words-read c i s ReadPhase t refl)
heap-left c i s (ReadOwn x f) t e = same_words _ _ (words-read c i s (ReadOwn x f) t refl)
heap-left c i s (ReadCat v) t e = same_words _ _ (words-read c i s (ReadCat v) t refl)
heap-left c i s (HoldRoot v r) t e = same_words _ _ (words-read c i s (HoldRoot v r) t refl)
heap-left c i s (ReadSlot k) t e = same_words _ _ (words-read c i s (ReadSlot k) t refl)
heap-left c i s (ReadWeak x) t e = same_words _ _ (words-read c i s (ReadWeak x) t refl)
heap-left c i s ReadFree t e = same_words _ _ (words-read c i s ReadFree t refl)
heap-left c i s ReadBlockMarks t e = same_words _ _ (words-read c i s ReadBlockMarks t refl)
heap-left c i s (ReadStat which) t e = same_words _ _ (words-read c i s (ReadStat which) t refl)
heap-left c i s (AddStat which by down) t e =
    let range = and_parts (nat_le last_count which) (nat_le which done_count) (and_parts _ _ t.ok.0).0 in
    same_statistic (words_of c.shape c.words) which (written c.shape s (AddStat which by down) (found c s (AddStat which by down))) (leb-true last_count which range.0) (leb-true which done_count range.1)
heap-left c i s step t e =
    let w : Words = words_of c.shape c.words in
    let v : ℕ = written c.shape s step (found c s step) in
    record {
      phase = phase-kept c.shape s step v w refl;
      next_block = next_block-kept c.shape s step v w refl;
      roots = roots-kept c.shape s step v w refl;
      allocs = allocs-kept c.shape s step v w refl;
      marks = marks-kept c.shape s step v w refl;
      fields = fields-kept c.shape s step v w refl;
    }
