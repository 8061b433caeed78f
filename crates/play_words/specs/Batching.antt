-- What may be written of a batch.
use Rattle.std.specs.Prelude.{ℕ, ◌≡◌, ◌⊎◌, List, [], ◌++◌, length, codes, decimal, slice_get, Option, Some, None, Result, Ok, Err}
use Rattle.std.specs.List.{flat_map}
use Rattle.plain_heap.specs.Sections.{Sections}
use Rattle.play_report.specs.Text.{named_text}
use Rattle.job_pool.specs.Batch as faults
use Rattle.job_pool.specs.Batch.{FaultOfBatch, batch, batch_fault_of}
use Rattle.job_pool.specs.Jobs.{ArePlayed}
use Rattle.job_pool.specs.declared.done.JobDone.{JobDone}
use Rattle.job_pool.specs.declared.fault.BatchError.{BatchError}
use Rattle.command_words.specs.Words.{Options}
use Rattle.gc_play.specs.RunAnswers.{IsRunAnswer}
use Rattle.play_words.specs.Roomy.{IsOf, AreFew}

-- a job of a batch fits its script; out of memory has no text
abbrev pub FitsJob : Options → List ℕ → ℕ → List ℕ → Type 0
FitsJob o bytes status text = IsRunAnswer o bytes status text ⊎ ((status ≡ 6) × (text ≡ []))

-- the line before a job's text
unfoldable pub job_line_text : ℕ → ℕ → ℕ → List ℕ
job_line_text job status bytes = codes "job " ++ decimal job ++ codes " status " ++ decimal status ++ codes " bytes " ++ decimal bytes ++ codes "\n"

-- the line, and the text
abbrev pub job_text : JobDone → List ℕ
job_text d = job_line_text d.job d.status (length d.text) ++ d.text

-- the results of these jobs in order: entry j is an answer to job j, and tells a full heap only if the cells are few
pub record IsBatchText (o : Options) (jobs : List (List ℕ)) (text : List ℕ) : Type 0 where
  pub done : List JobDone
  pub played : ArePlayed (FitsJob o) jobs done
  pub roomy : (j : ℕ) (d : JobDone) (script : List ℕ) → slice_get done j ≡ Some d → slice_get jobs j ≡ Some script → d.status ≡ 3
      → (s : Sections) → IsOf script s → AreFew s o.cells
  pub written : text ≡ flat_map job_text done

-- the text of a batch's fault
abbrev pub batch_fault_text : FaultOfBatch → List ℕ
batch_fault_text (faults.BadBatch offset) = named_text (codes "41 BadBatch offset ") offset
batch_fault_text (faults.CutJob job) = named_text (codes "42 CutJob job ") job
batch_fault_text (faults.TooManyJobs offset) = named_text (codes "43 TooManyJobs offset ") offset
batch_fault_text faults.BatchTooLong = codes "44 BatchTooLong\n"

-- the text of a fault, if there is one
abbrev pub IsBatchFault : Option FaultOfBatch → ℕ → List ℕ → Type 0
IsBatchFault None status text = ⊥
IsBatchFault (Some fault) status text = (status ≡ 2) × (text ≡ batch_fault_text fault)

-- no fault has no text
abbrev pub text_of_batch_fault : Option FaultOfBatch → List ℕ
text_of_batch_fault None = []
text_of_batch_fault (Some fault) = batch_fault_text fault

-- the text of what the reader of batches answers in place of a batch
abbrev pub batch_error_text : BatchError → List ℕ
batch_error_text error = text_of_batch_fault (batch_fault_of error)

-- the jobs are played, and a fault has status 2
abbrev pub BatchesTo : Options → Result (List (List ℕ)) FaultOfBatch → ℕ → List ℕ → Type 0
BatchesTo o (Err fault) status text = (status ≡ 2) × (text ≡ batch_fault_text fault)
BatchesTo o (Ok jobs) status text = (status ≡ 0) × IsBatchText o jobs text

-- `batch`, of these bytes
abbrev pub IsBatchAnswer : Options → List ℕ → ℕ → List ℕ → Type 0
IsBatchAnswer o bytes status text = BatchesTo o (batch bytes) status text
