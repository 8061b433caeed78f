use Rattle.std.proofs.Common.{◌≡◌, ℕ, List, refl, sym, subst}
use Rattle.std.specs.Prelude.{Result, Ok}
use Rattle.gc_script.specs.Faults.{Fault}
use Rattle.gc_script.specs.Convert.{Conversion, converted_text, convert}
use Rattle.gc_play.specs.Ending.{IsFaultAnswer}
use Rattle.play_words.specs.Converting.{IsConvertAnswer, IsConversion}
use Rattle.gc_script.specs.Converting.{conversion_of}
use Rattle.gc_script.specs.Shown.{fault_of}
use Rattle.gc_play.proofs.Faulted.{fault_answers}
use Rattle.gc_play.proofs.Taking.{text_ends, other_ends}
use Rattle.gc_play.specs.Promise.{OfRead}
use Rattle.play_words.proofs.commands.convert.convert_bytes.Goals as goal

-- a conversion answers with its text
conversion_done : (r : Result Conversion Fault) (k : Conversion) → r ≡ Ok k → OfRead IsConversion r 0 (converted_text k)
conversion_done r k is = subst (λ (x : Result Conversion Fault). OfRead IsConversion x 0 (converted_text k)) (sym is) (refl, refl)

pub returns-in-Err : goal.returns-in-Err
returns-in-Err g c =
    other_ends (IsFaultAnswer (fault_of c.in-Err.fault)) (IsConvertAnswer c.args.bytes.now) _ _ _ _ _
    (fault_answers IsConversion (fault_of c.in-Err.fault) (convert c.args.bytes.now) c.in-Err.ensures.answers) c.tell_fault.ensures

pub returns-in-Ok : goal.returns-in-Ok
returns-in-Ok g c =
    text_ends (IsConvertAnswer c.args.bytes.now) _ _ _ _ _ _ _ _ c.after.ensures tt
    (conversion_done (convert c.args.bytes.now) (conversion_of c.in-Ok.converted) c.in-Ok.ensures.answers) c.write_converted.ensures
