-- What follows from the clauses of all commands together.
use Rattle.std.specs.Prelude.{ℕ, ◌≡◌, List, Option, Some, None}
use Rattle.schedule_check.specs.Telling.{IsScheduleAnswer}
use Rattle.command_words.specs.Words.{Options, Command, Run, Gen, Load, Convert, Schedule, Dump, Undump, Census, Batch}
use Rattle.gc_play.specs.Promise.{HasItsText, OfSource, Wrote}
use Rattle.gc_play.specs.RunAnswers.{IsRunAnswer}
use Rattle.play_words.specs.Generating.{IsGenAnswer}
use Rattle.play_words.specs.Loading.{IsLoadAnswer}
use Rattle.play_words.specs.Converting.{IsConvertAnswer}
use Rattle.play_words.specs.Dumping.{IsDumpAnswer}
use Rattle.play_words.specs.Undumping.{IsUndumpAnswer}
use Rattle.play_words.specs.Counting.{IsCensusAnswer}
use Rattle.play_words.specs.Batching.{IsBatchAnswer}
use Rattle.gc_play.specs.RunAnswers.{IsUsageAnswer}
use Rattle.play_words.specs.Answers.{IsAnswer}
use Rattle.play_words.specs.Statuses.{EndsWith}

-- the clauses of `play_words` that say what each command writes
pub record KeepsPromise (asked : Option Command) (left old new : Option (List ℕ)) (status : ℕ) : Type 0 where
  pub run : (o : Options) → asked ≡ Some (Run o) → Wrote (OfSource (IsRunAnswer o) left) status old new
  pub load : (o : Options) (number size : ℕ) → asked ≡ Some (Load o number size) → Wrote (IsLoadAnswer o number size) status old new
  pub gen : (number size : ℕ) → asked ≡ Some (Gen number size) → Wrote (IsGenAnswer number size) status old new
  pub convert : asked ≡ Some Convert → Wrote (OfSource IsConvertAnswer left) status old new
  pub schedule : asked ≡ Some Schedule → Wrote (OfSource IsScheduleAnswer left) status old new
  pub dump : (o : Options) → asked ≡ Some (Dump o) → Wrote (OfSource (IsDumpAnswer o) left) status old new
  pub undump : asked ≡ Some Undump → Wrote (OfSource IsUndumpAnswer left) status old new
  pub census : asked ≡ Some Census → Wrote (OfSource IsCensusAnswer left) status old new
  pub batch : (o : Options) (runners : ℕ) → asked ≡ Some (Batch o runners) → Wrote (OfSource (IsBatchAnswer o) left) status old new
  pub usage : asked ≡ None → Wrote IsUsageAnswer status old new

-- what the program promises of each command follows for all commands by one relation: what is written answers what the words ask for
abbrev pub AnswersFollow : Type 0
AnswersFollow = (asked : Option Command) (left old new : Option (List ℕ)) (status : ℕ) → KeepsPromise asked left old new status → Wrote (IsAnswer asked left) status old new

-- a whole text has one of the statuses of its command
abbrev pub StatusesFollow : Type 0
StatusesFollow = (asked : Option Command) (left old new : Option (List ℕ)) (status : ℕ) → KeepsPromise asked left old new status → HasItsText status → EndsWith asked left status
