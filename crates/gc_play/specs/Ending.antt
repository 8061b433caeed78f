-- How the program ends, and why.
use Rattle.std.specs.Prelude.{ℕ, ◌≡◌, List, Option, Some, None, Result, Ok, Err}
use Rattle.std.specs.Io.KnownBytes.{Keeps}
use Rattle.gc_script.specs.Faults.{Fault}
use Rattle.play_report.specs.Causes.{Rose}
use Rattle.play_report.specs.Text.{fault_text, full_text}
use Rattle.play_end.specs.declared.error.PlayError.{PlayError}
use Rattle.play_end.specs.declared.error.PlayError.TheVariants as errors
use Rattle.gc_play.specs.Promise.{WritesSome, WritesFront}
use Rattle.gc_play.specs.declared.status.Status.{Status}
use Rattle.gc_play.specs.declared.status.Status.TheVariants as ends

-- the number of a status
abbrev pub number_of_status : Status → ℕ
number_of_status ends.Done = 0
number_of_status ends.Usage = 1
number_of_status ends.InputFault = 2
number_of_status ends.Full = 3
number_of_status ends.ReadFault = 4
number_of_status ends.WriteFault = 5
number_of_status ends.Memory = 6
number_of_status ends.Refused = 7

-- the status after a text was handed to the sink
abbrev pub status_after_write : {T E : Type 0} → Status → Result T E → Status
status_after_write status (Ok u) = status
status_after_write status (Err e) = ends.WriteFault

-- how a command that has all its input ends; `Answers` says which texts a status may have: such a text was written,
-- or a prefix of one and the sink failed, or memory ran out and nothing was written
abbrev pub TextEnds : (ℕ → List ℕ → Type 0) → Status → Option (List ℕ) → Option (List ℕ) → ℕ → ℕ → Type 0
TextEnds Answers ends.Done old new before now = WritesSome old new (Answers 0) × (now ≡ before)
TextEnds Answers ends.Usage old new before now = WritesSome old new (Answers 1) × (now ≡ before)
TextEnds Answers ends.InputFault old new before now = WritesSome old new (Answers 2) × (now ≡ before)
TextEnds Answers ends.Full old new before now = WritesSome old new (Answers 3) × (now ≡ before)
TextEnds Answers ends.ReadFault old new before now = ⊥
TextEnds Answers ends.WriteFault old new before now = WritesFront old new (λ text. (status : ℕ) × Answers status text) × Rose before now
TextEnds Answers ends.Memory old new before now = Keeps old new × (now ≡ before)
TextEnds Answers ends.Refused old new before now = WritesSome old new (Answers 7) × (now ≡ before)

-- the text of a fault, if there is one
abbrev pub IsFaultAnswer : Option Fault → ℕ → List ℕ → Type 0
IsFaultAnswer None status text = ⊥
IsFaultAnswer (Some fault) status text = (status ≡ 2) × (text ≡ fault_text fault)

-- the text of a play that found too few cells; out of memory has none
abbrev pub IsStopAnswer : PlayError → ℕ → List ℕ → Type 0
IsStopAnswer errors.OutOfMemory status text = ⊥
IsStopAnswer (errors.Full p) status text = (status ≡ 3) × (text ≡ full_text p.section p.done.items)

-- how a command ends: the source failed and nothing was written, or its count stayed. The counts of the source come first.
abbrev pub CommandEnds : (ℕ → List ℕ → Type 0) → Status → ℕ → ℕ → Option (List ℕ) → Option (List ℕ) → ℕ → ℕ → Type 0
CommandEnds Answers ends.ReadFault reads reads_now old new before now = Keeps old new × (now ≡ before) × Rose reads reads_now
CommandEnds Answers status reads reads_now old new before now = TextEnds Answers status old new before now × (reads_now ≡ reads)
