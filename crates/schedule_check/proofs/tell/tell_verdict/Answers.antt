use Rattle.std.proofs.Common.{◌≡◌, ℕ, List, refl, sym, ap, ◌∙◌, subst}
use Rattle.std.specs.Prelude.{Option, Result, Ok, Err}
use Rattle.std.specs.Io.KnownBytes.{Appends}
use Rattle.play_report.specs.Causes.{AppendsPrefix, WritesText}
use Rattle.schedule_check.specs.Faults.{FaultOfSchedule}
use Rattle.schedule_check.specs.Schedule.{Schedule}
use Rattle.schedule_check.specs.Verdicts.{verdict, Says}
use Rattle.schedule_check.specs.Text.{verdict_text}
use Rattle.schedule_check.specs.Telling.{verdict_status, IsToldAs, TellsAs, finished_as, number_of_told}
use Rattle.schedule_check.specs.declared.verdict.Verdict.{Verdict}
use Rattle.schedule_check.specs.declared.tell.Told.{Told}
use Rattle.schedule_check.specs.declared.tell.Untold.{Untold}
use Rattle.schedule_check.proofs.tell.tell_verdict.Goals as goal

-- What is told after a text was handed to the sink.
-- a text that may be told is told
written-told : {T E : Type 0} (r : Result Schedule FaultOfSchedule) (t : Told) (w : Result T E) (text : List ℕ) (old new : Option (List ℕ)) (before now : ℕ) → IsToldAs r (number_of_told t) text → WritesText w old new before now text
    → TellsAs r (finished_as t w) old new before now
written-told r t (Ok u) text old new before now k w =
    (subst (IsToldAs r (number_of_told t)) k.text_is k, subst (Appends old new) k.text_is w.0, w.1)
written-told r t (Err e) text old new before now k w =
    (record { status_is = refl; text_is = refl; meant = k.meant }, subst (AppendsPrefix old new) k.text_is w.0, w.1)

-- the text of a schedule's verdict may be told
verdict-told : (s : Schedule) (v : Verdict) (t : Told) → v ≡ verdict s → Says s v → number_of_told t ≡ verdict_status v → IsToldAs (Ok s) (number_of_told t) (verdict_text v)
verdict-told s v t e k c =
    record { status_is = c ∙ ap verdict_status e; text_is = ap verdict_text e; meant = subst (Says s) e k }

-- what was answered then is told
told-by : {T E : Type 0} (r : Result Schedule FaultOfSchedule) (t : Told) (w : Result T E) (answer : Result Told Untold) (text : List ℕ) (old new : Option (List ℕ)) (before now : ℕ) → answer ≡ finished_as t w → IsToldAs r (number_of_told t) text → WritesText w old new before now text
    → TellsAs r answer old new before now
told-by r t w answer text old new before now e k h = subst (λ (x : Result Told Untold). TellsAs r x old new before now) (sym e) (written-told r t w text old new before now k h)

pub returns-in-Ok : goal.returns-in-Ok
returns-in-Ok g c =
    told-by (Ok c.args.schedule.now) c.told_of.result c.write_verdict.result c.finished.result (verdict_text c.in-Ok.verdict) _ _ _ _ c.finished.ensures
    (verdict-told c.args.schedule.now c.in-Ok.verdict c.told_of.result c.in-Ok.ensures.exact c.in-Ok.ensures.meaning c.told_of.ensures) c.write_verdict.ensures
