-- The block in hand of the seat that acts, and the words that it keeps.
use Rattle.std.proofs.Common.{ℕ, ◌≡◌, List, sym, Bool, true, false, not, ◌&&◌, Option, Some, None, ◌<◌, map, length, arith, ap, ◌∙◌, subst}
use Rattle.std.specs.Prelude.{IfSome, slice_index, unwrap_or, is_some}
use Rattle.std.proofs.lemmas.Bool.{true≢false, not-true, and_parts}
use Rattle.mark_core.specs.Layout.{words_of, address, region_sizes, block_count, root_count}
use Rattle.mark_core.specs.Seats.{may_store}
use Rattle.mark_core.specs.Strong.{IsStrongBlock, KeepsWord}
use Rattle.mark_core.specs.Steps.{Core}
use Rattle.mark_core.proofs.Blocks.BlocksStopped.{Taken, within, own-record}
use Rattle.mark_core.specs.declared.kinds.Step.{Step}
use Rattle.mark_core.specs.declared.seat.SeatState.{SeatState}
use Rattle.mark_core.specs.declared.seat.BlockState.{BlockState}
use Rattle.std.specs.List.{All}
use Rattle.std.proofs.lemmas.List.{get_or-map, length-map}
use Rattle.mark_core.specs.Laws.{IsCore}
use Rattle.mark_core.proofs.Writing.Places.{words-get, region-length}

-- The seat that acts in a state that meets the rule, and what it finds in a region of the words.
-- what holds of all that is read of the seats holds of what is read of the one that acts
pub of-view : {Y : Type 0} (f : SeatState → Y) (P : Y → Type 0) (c : Core) (i : ℕ) (s : SeatState) (step : Step) → Taken c i s step → All P (map f c.seats) → P (f s)
of-view f P c i s step k a = subst P (get_or-map f c.seats i s (f s) (within c i s step k) ∙ ap f (own-record c i s step s k)) (a i (f s) (rw length-map (within c i s step k)))

-- the words of allocation bits are one for each block
pub allocs-length : (c : Core) → IsCore c → length (words_of c.shape c.words).allocs ≡ block_count c.shape
allocs-length c k = region-length (region_sizes c.shape) 4 c.words (omega (arith, k.formed.words))

pub roots-length : (c : Core) → IsCore c → length (words_of c.shape c.words).roots ≡ root_count c.shape
roots-length c k = region-length (region_sizes c.shape) 2 c.words (omega (arith, k.formed.words))

pub marks-length : (c : Core) → IsCore c → length (words_of c.shape c.words).marks ≡ block_count c.shape
marks-length c k = region-length (region_sizes c.shape) 5 c.words (omega (arith, k.formed.words))

-- the word of a block's allocation bits
pub alloc-found : (c : Core) (b : ℕ) → b < block_count c.shape → slice_index c.words (address c.shape (4, b)) ≡ slice_index (words_of c.shape c.words).allocs b
alloc-found c b h = words-get (region_sizes c.shape) 4 c.words b 0 h

-- what holds of the block in hand
pub own-strong : (c : Core) (i : ℕ) (s : SeatState) (step : Step) → Taken c i s step → IfSome s.block (IsStrongBlock (words_of c.shape c.words).phase (words_of c.shape c.words).next_block (words_of c.shape c.words).allocs (words_of c.shape c.words).marks)
own-strong c i s step k =
    let w = words_of c.shape c.words in
    of-view (λ (t : SeatState). t.block) (λ (o : Option BlockState). IfSome o (IsStrongBlock w.phase w.next_block w.allocs w.marks)) c i s step k k.core.strong.blocks_strong

kept_word : (ws : List ℕ) (b : ℕ) (stored : Bool) (o : Option ℕ) → is_some o ≡ true → stored ≡ false → KeepsWord ws b stored o → slice_index ws b ≡ unwrap_or o 0
kept_word ws b stored None e f k = absurd (true≢false (sym e))
kept_word ws b stored (Some n) e f k = k f

-- a block whose allocation bits may be stored: both words in hand are the present ones, and none was stored
pub record MayStore (b : BlockState) (allocs marks : List ℕ) : Type 0 where
  pub unstored : b.stored ≡ false
  pub alloc_word : slice_index allocs b.block ≡ unwrap_or b.alloc_word 0
  pub mark_word : slice_index marks b.block ≡ unwrap_or b.mark_word 0

pub may-store : (phase next : ℕ) (allocs marks : List ℕ) (b : BlockState) → may_store (Some b) ≡ true → IsStrongBlock phase next allocs marks b → MayStore b allocs marks
may-store phase next allocs marks b m k =
    let q = and_parts (is_some b.alloc_word && is_some b.mark_word) (not b.stored) m in
    let r = and_parts (is_some b.alloc_word) (is_some b.mark_word) q.0 in
    let st : b.stored ≡ false = not-true b.stored q.1 in
    record {
      unstored = st;
      alloc_word = kept_word allocs b.block b.stored b.alloc_word r.0 st k.alloc_kept;
      mark_word = kept_word marks b.block b.stored b.mark_word r.1 st k.mark_kept;
    }
