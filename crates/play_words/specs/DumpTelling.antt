-- How words and places are told as numbers of records.
use Rattle.std.specs.Prelude.{ℕ, zero, suc, ◌≡◌, ◌+◌, ◌*◌, ◌<◌, ◌≤◌, List, length, Some, slice_get, slice_index}
use Rattle.play_report.specs.declared.report.Report.{Report}
use Rattle.play_report.specs.declared.report.Survivor.{Survivor}
use Rattle.play_end.specs.Answers.{places_of}
use Rattle.plain_heap.specs.Placement.{cells_of}
use Rattle.gc_table.specs.declared.words.Words.{Words}
use Rattle.heap_dump.specs.declared.final_heap.FinalRecord.{FinalRecord}

-- survivor k of the report
abbrev pub IsSurvivor : Report → ℕ → Survivor → Type 0
IsSurvivor r k x = slice_get r.survivors.items k ≡ Some x

-- the cell in which a survivor lies
abbrev pub cell_of_survivor : Report → Survivor → ℕ
cell_of_survivor r x = slice_index (cells_of (places_of r) x.section) x.number

-- the survivor has a place among this many cells
pub record HasPlace (r : Report) (cells : ℕ) (x : Survivor) : Type 0 where
  pub section : x.section < length r.parts.items
  pub number : x.number < length (cells_of (places_of r) x.section)
  pub cell : cell_of_survivor r x < cells

-- each survivor has a place of its own among this many cells
pub record ArePlaced (r : Report) (cells : ℕ) : Type 0 where
  pub few : length r.survivors.items ≤ 65536
  pub each : (k : ℕ) (x : Survivor) → IsSurvivor r k x → HasPlace r cells x
  pub apart : (j k : ℕ) (x y : Survivor) → IsSurvivor r j x → IsSurvivor r k y → cell_of_survivor r x ≡ cell_of_survivor r y → j ≡ k

-- by cell: one more than the number of the survivor in it
pub record AreNumbers (r : Report) (cells : ℕ) (numbers : List ℕ) : Type 0 where
  pub count : length numbers ≡ cells
  pub each : (k : ℕ) (x : Survivor) → IsSurvivor r k x → slice_index numbers (cell_of_survivor r x) ≡ k + 1

-- what a word is in a dump
abbrev pub dumped_word : List ℕ → ℕ → ℕ
dumped_word numbers zero = 0
dumped_word numbers (suc c) = slice_index numbers c

-- the word of field i of cell c, if a cell has this many fields
abbrev pub field_word : Words → ℕ → ℕ → ℕ → ℕ
field_word w fields c i = slice_index w.fields.items (c * fields + i)

-- cell c has this many fields, each nil or the number of a cell and 1
pub record HasFields (w : Words) (fields cells c : ℕ) : Type 0 where
  pub few : fields ≤ 16
  pub room : c * fields + fields ≤ length w.fields.items
  pub within : (i : ℕ) → i < fields → field_word w fields c i ≤ cells

-- the references in cell c, as its record has them; the others are nil
pub record AreRefs (numbers : List ℕ) (w : Words) (fields c : ℕ) (told : List ℕ) : Type 0 where
  pub count : length told ≡ 16
  pub each : (i : ℕ) → i < fields → slice_index told i ≡ dumped_word numbers (field_word w fields c i)
  pub rest : (i : ℕ) → fields ≤ i → slice_index told i ≡ 0

-- the record of a survivor
pub record IsRecord (numbers : List ℕ) (r : Report) (w : Words) (fields : ℕ) (x : Survivor) (told : FinalRecord) : Type 0 where
  pub section : told.section ≡ x.section
  pub number : told.number ≡ x.number
  pub value : told.value ≡ x.value
  pub refs : AreRefs numbers w fields (cell_of_survivor r x) told.refs

-- the records of the first n survivors
pub record AreRecords (numbers : List ℕ) (r : Report) (w : Words) (fields n : ℕ) (told : List FinalRecord) : Type 0 where
  pub count : length told ≡ n
  pub each : (k : ℕ) (x : Survivor) (t : FinalRecord) → IsSurvivor r k x → slice_get told k ≡ Some t → IsRecord numbers r w fields x t
