-- What a conversion answers.
use Rattle.std.specs.Prelude.{ℕ, ◌≡◌, List, true, false, ◌==◌, if◌then◌else◌, Result, Ok, Err}
use Rattle.std.specs.List.{after_first}
use Rattle.gc_script.specs.Faults.{Fault}
use Rattle.gc_script.specs.Convert.{Conversion}
use Rattle.gc_script.specs.Finished.{is_refused}
use Rattle.gc_script.specs.Shown.{fault_of}
use Rattle.gc_script.specs.declared.converter.Converted.{Converted}
use Rattle.gc_script.specs.declared.script.ScriptError.{ScriptError}

-- a conversion of the code, as the definitions have it
abbrev pub conversion_of : Converted → Conversion
conversion_of c = record { added = c.added; rest = c.rest.now }

-- an answer, if the source has this conversion or this fault
abbrev pub ConvertAnswers : Result Converted ScriptError → Result Conversion Fault → Type 0
ConvertAnswers (Ok c) r = r ≡ Ok (conversion_of c)
ConvertAnswers (Err e) r = is_refused (fault_of e) r

-- the conversion of a script of a version, apart from its length
abbrev pub conversion : ℕ → List ℕ → Conversion
conversion version bytes = if version == 1 then record { added = true; rest = after_first (λ b. b == 10) bytes } else record { added = false; rest = bytes }
