-- Which statuses an answer may have.
use Rattle.std.proofs.Common.{◌≡◌, ◌⊎◌, ℕ, List, refl, inl, inr, sym, ap, ◌∙◌, subst, arith}
use Rattle.std.specs.Prelude.{Option, Some, None, IfSome, Result, Ok, Err}
use Rattle.gc_script.specs.Faults.{Fault}
use Rattle.gc_script.specs.Script.{Script, script}
use Rattle.gc_script.specs.Convert.{Conversion, convert}
use Rattle.load_gen.specs.Generated.{generated}
use Rattle.play_report.specs.Text.{usage_text}
use Rattle.command_words.specs.Words.{Options, Command, Run, Gen, Load, Convert, Schedule, Dump, Undump, Census, Batch}
use Rattle.gc_play.specs.RunAnswers.{PlaysTo}
use Rattle.play_words.specs.Loading.{LoadsTo}
use Rattle.play_words.specs.Converting.{IsConversion}
use Rattle.job_pool.specs.Batch.{FaultOfBatch as BatchFault, batch}
use Rattle.play_words.specs.Batching.{BatchesTo}
use Rattle.heap_dump.specs.Final.{DumpedHeap}
use Rattle.heap_dump.specs.Reading.{first_dump_fault}
use Rattle.heap_dump.specs.declared.fault.DumpError.{DumpError}
use Rattle.schedule_check.specs.Faults.{FaultOfSchedule as ScheduleFault}
use Rattle.schedule_check.specs.Schedule.{Schedule as Schedules, schedule}
use Rattle.schedule_check.specs.Verdicts.{verdict}
use Rattle.schedule_check.specs.Telling.{status_as, status_of, verdict_status}
use Rattle.schedule_check.specs.declared.verdict.Verdict.{Verdict}
use Rattle.schedule_check.specs.declared.verdict.Verdict.TheVariants as verdicts
use Rattle.play_words.specs.Dumping.{EndsDoneOrFull}
use Rattle.play_words.specs.DumpReading.{OfDump}
use Rattle.play_words.specs.Undumping.{IsUndumpText}
use Rattle.play_words.specs.Counting.{IsCensusText}
use Rattle.play_words.specs.Answers.{IsAnswer}
use Rattle.play_words.specs.Statuses.{EndsWith, RunsWith, ConvertsWith, BatchesWith, DumpsWith}
use Rattle.play_words.specs.Following.{AnswersFollow, StatusesFollow}
use Rattle.gc_play.specs.Promise.{OfRead}

runs_with : (o : Options) (r : Result Script Fault) (status : ℕ) (text : List ℕ) → OfRead (PlaysTo o) r status text → RunsWith r status
runs_with o (Err fault) status text a = a.0
runs_with o (Ok s) status text (inl a) = inl a.0
runs_with o (Ok s) status text (inr a) = inr a.0

loads_with : (o : Options) (r : Result Script Fault) (status : ℕ) (text : List ℕ) → LoadsTo o r status text → (status ≡ 0) ⊎ (status ≡ 3)
loads_with o (Err fault) status text a = absurd a
loads_with o (Ok s) status text (inl a) = inl a.0
loads_with o (Ok s) status text (inr a) = inr a.0

converts_with : (r : Result Conversion Fault) (status : ℕ) (text : List ℕ) → OfRead IsConversion r status text → ConvertsWith r status
converts_with (Err fault) status text a = a.0
converts_with (Ok c) status text a = a.0

batches_with : (o : Options) (r : Result (List (List ℕ)) BatchFault) (status : ℕ) (text : List ℕ) → BatchesTo o r status text → BatchesWith r status
batches_with o (Err fault) status text a = a.0
batches_with o (Ok jobs) status text a = a.0

batches_not_usage : (r : Result (List (List ℕ)) BatchFault) (status : ℕ) → BatchesWith r status → status ≡ 1 → ⊥
batches_not_usage (Ok jobs) status h e = omega arith
batches_not_usage (Err fault) status h e = omega arith

dumps_with : (o : Options) (r : Result Script Fault) (status : ℕ) (text : List ℕ) → OfRead (EndsDoneOrFull o) r status text → RunsWith r status
dumps_with o (Err fault) status text a = a.0
dumps_with o (Ok s) status text (inl a) = inl a.0
dumps_with o (Ok s) status text (inr a) = inr a.0

reads_with : (P : DumpedHeap → List ℕ → Type 0) (bytes : List ℕ) (fault : Option DumpError) (status : ℕ) (text : List ℕ) → OfDump P bytes fault status text → DumpsWith fault status
reads_with P bytes None status text a = a.0
reads_with P bytes (Some fault) status text a = a.0

dumps_not_usage : (fault : Option DumpError) (status : ℕ) → DumpsWith fault status → status ≡ 1 → ⊥
dumps_not_usage None status h e = omega arith
dumps_not_usage (Some fault) status h e = omega arith

-- which statuses the command `schedule` tells
verdict_not_usage : (v : Verdict) → verdict_status v ≡ 1 → ⊥
verdict_not_usage (verdicts.Accepted events phase empty marked used closed) e = omega (arith, e)
verdict_not_usage (verdicts.Refused line rule) e = omega (arith, e)

told_not_usage : (r : Result Schedules ScheduleFault) → status_as r ≡ 1 → ⊥
told_not_usage (Ok s) e = verdict_not_usage (verdict s) e
told_not_usage (Err fault) e = omega (arith, e)

runs_not_seven : (r : Result Script Fault) → RunsWith r 7 → ⊥
runs_not_seven (Ok s) h = grind (arith, h)
runs_not_seven (Err fault) h = omega (arith, h)

dumps_not_seven : (fault : Option DumpError) → DumpsWith fault 7 → ⊥
dumps_not_seven None h = omega (arith, h)
dumps_not_seven (Some fault) h = omega (arith, h)

batches_not_seven : (r : Result (List (List ℕ)) BatchFault) → BatchesWith r 7 → ⊥
batches_not_seven (Ok jobs) h = omega (arith, h)
batches_not_seven (Err fault) h = omega (arith, h)

converts_not_seven : (r : Result Conversion Fault) → ConvertsWith r 7 → ⊥
converts_not_seven (Ok c) h = omega (arith, h)
converts_not_seven (Err fault) h = omega (arith, h)

loads_not_seven : (status : ℕ) → (status ≡ 0) ⊎ (status ≡ 3) → status ≡ 7 → ⊥
loads_not_seven status h e = grind arith

runs_not_usage : (r : Result Script Fault) (status : ℕ) → RunsWith r status → status ≡ 1 → ⊥
runs_not_usage (Ok s) status h e = grind arith
runs_not_usage (Err fault) status h e = omega arith

loads_not_usage : (status : ℕ) → (status ≡ 0) ⊎ (status ≡ 3) → status ≡ 1 → ⊥
loads_not_usage status h e = grind arith

converts_not_usage : (r : Result Conversion Fault) (status : ℕ) → ConvertsWith r status → status ≡ 1 → ⊥
converts_not_usage (Ok c) status h e = omega arith
converts_not_usage (Err fault) status h e = omega arith

-- an answer has the status of its command
pub ends_with : (asked : Option Command) (left : Option (List ℕ)) (status : ℕ) (text : List ℕ) → IsAnswer asked left status text → EndsWith asked left status
ends_with None left status text a = a.0
ends_with (Some (Run o)) None status text a = tt
ends_with (Some (Run o)) (Some bytes) status text (taken, same, a) =
    subst (λ (l : List ℕ). RunsWith (script l) status) (sym same) (runs_with o (script taken) status text a)
ends_with (Some (Gen number size)) left status text a = a.0
ends_with (Some (Load o number size)) left status text a = loads_with o (script (generated number size)) status text a
ends_with (Some Convert) None status text a = tt
ends_with (Some Convert) (Some bytes) status text (taken, same, a) =
    subst (λ (l : List ℕ). ConvertsWith (convert l) status) (sym same) (converts_with (convert taken) status text a)
ends_with (Some Schedule) None status text a = tt
ends_with (Some Schedule) (Some bytes) status text (taken, same, a) = a.status_is ∙ sym (ap status_of same)
ends_with (Some (Dump o)) None status text a = tt
ends_with (Some (Dump o)) (Some bytes) status text (taken, same, a) =
    subst (λ (l : List ℕ). RunsWith (script l) status) (sym same) (dumps_with o (script taken) status text a)
ends_with (Some Undump) None status text a = tt
ends_with (Some Undump) (Some bytes) status text (taken, same, a) =
    subst (λ (l : List ℕ). DumpsWith (first_dump_fault l) status) (sym same) (reads_with IsUndumpText taken (first_dump_fault taken) status text a)
ends_with (Some Census) None status text a = tt
ends_with (Some Census) (Some bytes) status text (taken, same, a) =
    subst (λ (l : List ℕ). DumpsWith (first_dump_fault l) status) (sym same) (reads_with IsCensusText taken (first_dump_fault taken) status text a)
ends_with (Some (Batch o runners)) None status text a = tt
ends_with (Some (Batch o runners)) (Some bytes) status text (taken, same, a) =
    subst (λ (l : List ℕ). BatchesWith (batch l) status) (sym same) (batches_with o (batch taken) status text a)

-- no command has the status 1
pub usage_is_refusal : (asked : Option Command) (left : Option (List ℕ)) (text : List ℕ) → IsAnswer asked left 1 text → asked ≡ None
usage_is_refusal None left text a = refl
usage_is_refusal (Some (Run o)) left text (taken, same, a) = absurd (runs_not_usage (script taken) 1 (runs_with o (script taken) 1 text a) refl)
usage_is_refusal (Some (Gen number size)) left text a = absurd (omega (arith, a.0))
usage_is_refusal (Some (Load o number size)) left text a = absurd (loads_not_usage 1 (loads_with o (script (generated number size)) 1 text a) refl)
usage_is_refusal (Some Convert) left text (taken, same, a) = absurd (converts_not_usage (convert taken) 1 (converts_with (convert taken) 1 text a) refl)
usage_is_refusal (Some Schedule) left text (taken, same, a) = absurd (told_not_usage (schedule taken) (sym a.status_is))
usage_is_refusal (Some (Dump o)) left text (taken, same, a) = absurd (runs_not_usage (script taken) 1 (dumps_with o (script taken) 1 text a) refl)
usage_is_refusal (Some Undump) left text (taken, same, a) = absurd (dumps_not_usage (first_dump_fault taken) 1 (reads_with IsUndumpText taken (first_dump_fault taken) 1 text a) refl)
usage_is_refusal (Some Census) left text (taken, same, a) = absurd (dumps_not_usage (first_dump_fault taken) 1 (reads_with IsCensusText taken (first_dump_fault taken) 1 text a) refl)
usage_is_refusal (Some (Batch o runners)) left text (taken, same, a) = absurd (batches_not_usage (batch taken) 1 (batches_with o (batch taken) 1 text a) refl)

-- words that ask for nothing are told so
pub refusal : (asked : Option Command) (left : Option (List ℕ)) → None ≡ asked → IsAnswer asked left 1 usage_text
refusal None left e = (refl, refl)
refusal (Some c) left e = cc

same_bytes : (left : Option (List ℕ)) (bytes : List ℕ) → IfSome left (λ told. told ≡ bytes) → status_of bytes ≡ 7 → IfSome left (λ told. status_of told ≡ 7)
same_bytes None bytes same is = tt
same_bytes (Some told) bytes same is = ap status_of same ∙ is

-- the status 7 comes to a refused schedule
pub refusal_is_schedule : (asked : Option Command) (left : Option (List ℕ)) (text : List ℕ) → IsAnswer asked left 7 text → (asked ≡ Some Schedule) × IfSome left (λ bytes. status_of bytes ≡ 7)
refusal_is_schedule None left text a = absurd (omega (arith, a.0))
refusal_is_schedule (Some (Run o)) left text (taken, same, a) = absurd (runs_not_seven (script taken) (runs_with o (script taken) 7 text a))
refusal_is_schedule (Some (Gen number size)) left text a = absurd (omega (arith, a.0))
refusal_is_schedule (Some (Load o number size)) left text a = absurd (loads_not_seven 7 (loads_with o (script (generated number size)) 7 text a) refl)
refusal_is_schedule (Some Convert) left text (taken, same, a) = absurd (converts_not_seven (convert taken) (converts_with (convert taken) 7 text a))
refusal_is_schedule (Some Schedule) left text (taken, same, a) = (refl, same_bytes left taken same (sym a.status_is))
refusal_is_schedule (Some (Dump o)) left text (taken, same, a) = absurd (runs_not_seven (script taken) (dumps_with o (script taken) 7 text a))
refusal_is_schedule (Some Undump) left text (taken, same, a) = absurd (dumps_not_seven (first_dump_fault taken) (reads_with IsUndumpText taken (first_dump_fault taken) 7 text a))
refusal_is_schedule (Some Census) left text (taken, same, a) = absurd (dumps_not_seven (first_dump_fault taken) (reads_with IsCensusText taken (first_dump_fault taken) 7 text a))
refusal_is_schedule (Some (Batch o runners)) left text (taken, same, a) = absurd (batches_not_seven (batch taken) (batches_with o (batch taken) 7 text a))

-- The clauses of all commands together.
pub answers_follow : AnswersFollow
answers_follow None left old new status p = p.usage refl
answers_follow (Some (Run o)) left old new status p = p.run o refl
answers_follow (Some (Gen number size)) left old new status p = p.gen number size refl
answers_follow (Some (Load o number size)) left old new status p = p.load o number size refl
answers_follow (Some Convert) left old new status p = p.convert refl
answers_follow (Some Schedule) left old new status p = p.schedule refl
answers_follow (Some (Dump o)) left old new status p = p.dump o refl
answers_follow (Some Undump) left old new status p = p.undump refl
answers_follow (Some Census) left old new status p = p.census refl
answers_follow (Some (Batch o runners)) left old new status p = p.batch o runners refl

pub statuses_follow : StatusesFollow
statuses_follow asked left old new status p h = let some = (answers_follow asked left old new status p).whole h in ends_with asked left status some.0 some.1
