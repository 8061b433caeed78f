-- The state in which a play ended: its words are those that were copied out, and each section's plain heap is like the last of its plain run.
use Rattle.std.proofs.Common.{◌≡◌, ℕ, ◌*◌, ◌<◌, ap, sym, ◌∙◌, subst, arith, List, length}
use Rattle.std.specs.Prelude.{Some, slice_get}
use Rattle.mark_core.specs.declared.kinds.Shape.{Shape}
use Rattle.mark_core.specs.Layout.{words_of, region_sizes}
use Rattle.mark_core.proofs.Writing.Places.{region-length}
use Rattle.plain_heap.specs.PlainHeap.{Heap}
use Rattle.plain_heap.specs.Sections.{Sections, section_numbers, seasons}
use Rattle.plain_heap.specs.PlainRun.{plain, last_heap}
use Rattle.plain_heap.proofs.Turns.{at-last}
use Rattle.gc_table.specs.declared.seat.HeapSeat.{HeapSeat}
use Rattle.gc_table.specs.declared.view.Meaning.{Meaning}
use Rattle.gc_table.specs.declared.words.Words.{Words}
use Rattle.gc_table.specs.TableState.{TableState, meanings_of}
use Rattle.play_end.specs.Alike.{AreAlike}
use Rattle.play_end.specs.Closed.{IsClosed}
use Rattle.play_end.specs.Ended.{IsStateOf}
use Rattle.play_end.proofs.EndClosed.{end-position, end-positions}
use Rattle.play_end.proofs.EndListed.{meaning-within, meaning-alike, the_words}

module _ (s : Sections) (sh : Shape) (seats : List HeapSeat) (w : Words) (k : IsClosed s sh.cells sh seats w) where
  -- the words that were copied out are those of the state
  pub roots-are : w.roots.items ≡ (the_words k.end.state).roots
  roots-are = k.end.words.roots ∙ ap (λ (x : Shape). (words_of x k.end.state.core.words).roots) (sym k.end.shape)

  pub fields-are : w.fields.items ≡ (the_words k.end.state).fields
  fields-are = k.end.words.fields ∙ ap (λ (x : Shape). (words_of x k.end.state.core.words).fields) (sym k.end.shape)

  -- how many words of fields there are
  pub field-count : length w.fields.items ≡ sh.cells * sh.fields
  field-count = ap length fields-are ∙ (region-length (region_sizes k.end.state.core.shape) 11 k.end.state.core.words (omega (arith, k.end.whole.core.formed.words)) ∙ ap (λ (x : Shape). x.cells * x.fields) k.end.shape)

-- the plain heap of a section is like the last one of its run
pub last-alike : (s : Sections) (cells : ℕ) (x : TableState) (j : ℕ) (m : Meaning) → IsStateOf s cells (end-positions s) x → slice_get (meanings_of x.sections) j ≡ Some m → AreAlike m.heap (last_heap s j)
last-alike s cells x j m o at =
    let below : j < length (section_numbers s) = meaning-within s cells (end-positions s) x j m o at in
    subst (λ (h : Heap). AreAlike m.heap h) (ap (plain s j) (end-position s j below) ∙ at-last s j (seasons s) (omega arith)) (meaning-alike s cells (end-positions s) x j m o at)
