-- With which statuses a command is done, if nothing fails and there is memory.
use Rattle.std.specs.Prelude.{ℕ, ◌≡◌, ◌⊎◌, List, Option, Some, None, IfSome, Result, Ok, Err}
use Rattle.gc_script.specs.Faults.{Fault}
use Rattle.gc_script.specs.Script.{Script, script}
use Rattle.gc_script.specs.Convert.{Conversion, convert}
use Rattle.heap_dump.specs.Reading.{first_dump_fault}
use Rattle.heap_dump.specs.declared.fault.DumpError.{DumpError}
use Rattle.job_pool.specs.Batch.{FaultOfBatch as BatchFault, batch}
use Rattle.schedule_check.specs.Telling.{status_of}
use Rattle.command_words.specs.Words.{Command, Run, Gen, Load, Convert, Schedule, Dump, Undump, Census, Batch}

-- the status of a played script, or of one with a fault
abbrev pub RunsWith : Result Script Fault → ℕ → Type 0
RunsWith (Ok s) status = (status ≡ 0) ⊎ (status ≡ 3)
RunsWith (Err fault) status = status ≡ 2

-- the status of a conversion, or of a script with a fault
abbrev pub ConvertsWith : Result Conversion Fault → ℕ → Type 0
ConvertsWith (Ok c) status = status ≡ 0
ConvertsWith (Err fault) status = status ≡ 2

-- the status of a dump, or of bytes with a fault
abbrev pub DumpsWith : Option DumpError → ℕ → Type 0
DumpsWith None status = status ≡ 0
DumpsWith (Some fault) status = status ≡ 2

-- the status of a batch, or of bytes with a fault
abbrev pub BatchesWith : Result (List (List ℕ)) BatchFault → ℕ → Type 0
BatchesWith (Ok jobs) status = status ≡ 0
BatchesWith (Err fault) status = status ≡ 2

-- the status if nothing fails and there is memory
abbrev pub EndsWith : Option Command → Option (List ℕ) → ℕ → Type 0
EndsWith None left status = status ≡ 1
EndsWith (Some (Run options)) left status = IfSome left (λ bytes. RunsWith (script bytes) status)
EndsWith (Some (Gen number size)) left status = status ≡ 0
EndsWith (Some (Load options number size)) left status = (status ≡ 0) ⊎ (status ≡ 3)
EndsWith (Some Convert) left status = IfSome left (λ bytes. ConvertsWith (convert bytes) status)
EndsWith (Some Schedule) left status = IfSome left (λ bytes. status ≡ status_of bytes)
EndsWith (Some (Dump options)) left status = IfSome left (λ bytes. RunsWith (script bytes) status)
EndsWith (Some Undump) left status = IfSome left (λ bytes. DumpsWith (first_dump_fault bytes) status)
EndsWith (Some Census) left status = IfSome left (λ bytes. DumpsWith (first_dump_fault bytes) status)
EndsWith (Some (Batch options runners)) left status = IfSome left (λ bytes. BatchesWith (batch bytes) status)
