-- What follows for any two runs of the program, as statements for proofs to meet.
use Rattle.std.specs.Prelude.{ℕ, ◌≡◌, ◌↔◌, List, ◌++◌, length, map, flat_map, count_by, sum_by, ◌==◌, if◌then◌else◌, false}
use Rattle.std.specs.List.{range_with_len}
use Rattle.plain_heap.specs.Sections.{Sections, section_numbers}
use Rattle.plain_heap.specs.PlainRun.{last_heaps}
use Rattle.plain_heap.specs.Paths.{Survivor, AreSurvivors}
use Rattle.gc_script.specs.Meaning.{Means}
use Rattle.play_report.specs.Text.{outcomes, survivor_text, survivors_text, warehouses_text}
use Rattle.heap_dump.specs.Final.{DumpedHeap}
use Rattle.heap_dump.specs.Text.{sizes_text}
use Rattle.dump_census.specs.Counted.{CensusCounts, IsCensus}
use Rattle.dump_census.specs.Values.{AreValueCounts}
use Rattle.dump_census.specs.Text.{census_text}
use Rattle.dump_census.specs.declared.counts.SectionCount.{SectionCount}
use Rattle.play_words.specs.Final.{IsFinalHeap}
use Rattle.command_words.specs.Words.{Options}
use Rattle.play_words.specs.Running.{IsRunText}
use Rattle.gc_play.specs.RunAnswers.{IsRunAnswer}
use Rattle.play_words.specs.Converting.{IsConvertAnswer}
use Rattle.play_words.specs.Loading.{IsLoadAnswer}
use Rattle.play_words.specs.Counting.{IsCensusAnswer}
use Rattle.play_words.specs.Dumping.{IsDumpAnswer}
use Rattle.play_words.specs.Undumping.{IsUndumpAnswer}

-- `run` writes one text of a script if no places are asked for, with any two sets of cells, workers, tracers, packets and entries, whenever both are done
abbrev pub RunsAlike : Type 0
RunsAlike = (o p : Options) (bytes a b : List ℕ) → o.place ≡ false → p.place ≡ false → IsRunText o bytes a → IsRunText p bytes b → a ≡ b

-- a script has one final heap
abbrev pub OneFinalHeap : Type 0
OneFinalHeap = (s : Sections) (a b : DumpedHeap) → IsFinalHeap s a → IsFinalHeap s b → a ≡ b

-- `dump` writes the same bytes of one script, with any two sets of options, whenever both are done
abbrev pub DumpsAlike : Type 0
DumpsAlike = (o p : Options) (bytes a b : List ℕ) → IsDumpAnswer o bytes 0 a → IsDumpAnswer p bytes 0 b → a ≡ b

-- `load` writes the same text of the script that it makes, with any two sets of options, whenever both are done
abbrev pub LoadsAlike : Type 0
LoadsAlike = (o p : Options) (number size : ℕ) (a b : List ℕ) → IsLoadAnswer o number size 0 a → IsLoadAnswer p number size 0 b → a ≡ b

-- in the heap at the end of a play each record is reached
abbrev pub FinalHeapsAreReached : Type 0
FinalHeapsAreReached = (s : Sections) (h : DumpedHeap) (c : CensusCounts) → IsFinalHeap s h → IsCensus h c → c.unreached ≡ 0

-- the text of a census in which each record is reached
abbrev pub CountsNoneUnreached : List ℕ → Type 0
CountsNoneUnreached text = (c : CensusCounts) × (text ≡ census_text c) × (c.unreached ≡ 0)

-- what `dump` writes of a play that is done, `census` takes for a dump, and counts no record that isn't reached
abbrev pub DumpsAreReached : Type 0
DumpsAreReached = (o : Options) (bytes dumped counted : List ℕ) (status : ℕ) → IsDumpAnswer o bytes 0 dumped → IsCensusAnswer dumped status counted
    → (status ≡ 0) × CountsNoneUnreached counted

-- what `run` may write of a conversion is what it may write of its source, with the same status; this holds of every text of places, too
abbrev pub ConversionsAnswer : Type 0
ConversionsAnswer = (o : Options) (bytes converted : List ℕ) (status : ℕ) (text : List ℕ) → IsConvertAnswer bytes 0 converted
    → IsRunAnswer o bytes status text ↔ IsRunAnswer o converted status text

-- `run` writes the same text of a conversion and of its source, if no places are asked for, whenever both are done
abbrev pub ConversionsRunAlike : Type 0
ConversionsRunAlike = (o p : Options) (bytes converted a b : List ℕ) → o.place ≡ false → p.place ≡ false → IsConvertAnswer bytes 0 converted
    → IsRunAnswer o bytes 0 a → IsRunAnswer p converted 0 b → a ≡ b

-- how many of these survivors a section has, and the sum of their values
abbrev pub survivor_count : List Survivor → ℕ → SectionCount
survivor_count survivors w = record {
  count = count_by (λ (s : Survivor). s.section == w) survivors;
  total = sum_by (λ (s : Survivor). if s.section == w then s.value else 0) survivors;
}

-- the three texts tell the same survivors, which are those of the script: `run` prints them after the transcripts, `undump` after the sizes, each
-- with the same lines, and `census` counts them by section and by value
pub record TellTheSame (bytes run undumped census : List ℕ) : Type 0 where
  pub sections : Sections
  pub meant : Means bytes sections
  pub survivors : List Survivor
  pub reached : AreSurvivors (last_heaps sections) survivors
  pub places : List (List ℕ)
  pub printed : run ≡ warehouses_text (outcomes sections places) ++ survivors_text survivors
  pub listed : undumped ≡ sizes_text (length (section_numbers sections)) sections.fields (length survivors) ++ flat_map survivor_text survivors
  pub counts : CensusCounts
  pub by_section : counts.sections ≡ map (survivor_count survivors) (range_with_len 0 (length (section_numbers sections)))
  pub by_value : AreValueCounts (map (λ (s : Survivor). s.value) survivors) counts.values
  pub counted : census ≡ census_text counts

-- of what `dump` writes of a play that is done, `undump` lists the survivors that `run` prints, and `census` counts them
abbrev pub DumpsTellSurvivors : Type 0
DumpsTellSurvivors = (o p : Options) (bytes printed dumped listed counted : List ℕ) (undumped censused : ℕ) → o.place ≡ false → IsRunAnswer o bytes 0 printed
    → IsDumpAnswer p bytes 0 dumped → IsUndumpAnswer dumped undumped listed → IsCensusAnswer dumped censused counted
    → (undumped ≡ 0) × (censused ≡ 0) × TellTheSame bytes printed listed counted
