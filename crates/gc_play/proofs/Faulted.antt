-- What a source with a fault is answered.
use Rattle.std.proofs.Common.{◌≡◌, ℕ, List, refl, sym, subst}
use Rattle.std.specs.Prelude.{Option, Some, None, Result}
use Rattle.gc_script.specs.Faults.{Fault}
use Rattle.gc_script.specs.Shown.{fault_of}
use Rattle.gc_script.specs.Finished.{is_refused}
use Rattle.gc_script.specs.declared.script.ScriptError.{ScriptError}
use Rattle.gc_script.specs.declared.script.ScriptError.TheVariants as errors
use Rattle.play_report.specs.Text.{error_text, text_of_fault}
use Rattle.gc_play.specs.Ending.{IsFaultAnswer}
use Rattle.gc_play.specs.Promise.{OfRead}

is_fault : (e : ScriptError) → (e ≡ errors.OutOfMemory → ⊥) → fault_of e ≡ None → ⊥
is_fault errors.OutOfMemory memory e = memory refl
is_fault (errors.NotAscii offset) memory e = cc
is_fault errors.BadHeader memory e = cc
is_fault (errors.BadLine line) memory e = cc
is_fault (errors.UnknownName line) memory e = cc
is_fault (errors.TooManyNames line) memory e = cc
is_fault (errors.NumberTooLarge line) memory e = cc
is_fault (errors.RepeatOpen line) memory e = cc
is_fault (errors.TooManySections line) memory e = cc
is_fault errors.TooManyCommands memory e = cc
is_fault errors.TooManyLines memory e = cc
is_fault errors.TooLong memory e = cc
is_fault errors.ConvertedTooLong memory e = cc
is_fault (errors.TooManySeasons line) memory e = cc

told : (fault : Option Fault) → (fault ≡ None → ⊥) → IsFaultAnswer fault 2 (text_of_fault fault)
told None some = absurd (some refl)
told (Some fault) some = (refl, refl)

-- the text of an error is that of its fault
pub fault_told : (e : ScriptError) → (e ≡ errors.OutOfMemory → ⊥) → IsFaultAnswer (fault_of e) 2 (error_text e)
fault_told e memory = told (fault_of e) (is_fault e memory)

-- the text of a fault answers what has it
pub fault_answers : {X : Type 0} (Answers : X → ℕ → List ℕ → Type 0) (fault : Option Fault) (r : Result X Fault) → is_refused fault r → (status : ℕ) (text : List ℕ) → IsFaultAnswer fault status text → OfRead Answers r status text
fault_answers Answers None r h status text a = absurd a
fault_answers {X = X} Answers (Some fault) r h status text a = subst (λ (x : Result X Fault). OfRead Answers x status text) (sym h) a
