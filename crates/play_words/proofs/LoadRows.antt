-- Generated scripts that are played, with their five lines.
use Rattle.std.proofs.Common.{refl, codes, false, ◌≡◌, ℕ, List, [], sym, subst, inl, Bool, true}
use Rattle.std.specs.Fmt.{digits}
use Rattle.play_report.specs.Text.{named_text, report_text, outcomes, fault_text, load_text, IsReportText}
use Rattle.command_words.specs.Words.{Options}
use Rattle.play_words.specs.Loading.{IsLoadAnswer, LoadsTo}
use Rattle.std.specs.Prelude.{Result, Ok, Err, None, MatchBool}
use Rattle.plain_heap.specs.Sections.{Sections}
use Rattle.plain_heap.specs.PlainRun.{last_heaps}
use Rattle.play_report.specs.Order.{IsPlaced}
use Rattle.plain_heap.proofs.Found.{Witness, are_found, survivors_of, found}
use Rattle.plain_heap.proofs.Search.{searched}
use Rattle.gc_script.specs.Faults.{Fault, BadHeader}
use Rattle.gc_script.specs.Script.{Script, script}
use Rattle.load_gen.specs.Generated.{generated}
use Rattle.gc_play.specs.RunAnswers.{IsRunAnswer, PlaysTo}
use Rattle.gc_play.specs.Promise.{OfRead}

-- What shows an answer of `run`.
abbrev pub sections_in : Result Script Fault → Sections
sections_in (Ok s) = s.sections
sections_in (Err fault) = record { fields = 0; catalogue = None; warehouses = [] }

abbrev pub version_in : Result Script Fault → ℕ
version_in (Ok s) = s.version
version_in (Err fault) = 0

abbrev pub fault_in : Result Script Fault → Fault
fault_in (Ok s) = BadHeader
fault_in (Err fault) = fault

abbrev pub script_in : Result Script Fault → Script
script_in r = record { version = version_in r; sections = sections_in r }

-- what a search of this many rounds finds at the end of a script
abbrev pub witnesses : ℕ → List ℕ → List Witness
witnesses rounds bytes = searched (last_heaps (sections_in (script bytes))) rounds

-- a script is done
pub done : (o : Options) (rounds : ℕ) (bytes text : List ℕ) → o.place ≡ false → script bytes ≡ Ok (script_in (script bytes))
    → are_found (last_heaps (sections_in (script bytes))) (witnesses rounds bytes) ≡ true
    → text ≡ report_text (outcomes (sections_in (script bytes)) []) (survivors_of (witnesses rounds bytes)) false
    → IsRunAnswer o bytes 0 text
done o rounds bytes text place ok test written = subst (λ (r : Result Script Fault). OfRead (PlaysTo o) r 0 text) (sym ok) (inl (refl, report o.place (sym place)))
  where
    s : Sections
    s = sections_in (script bytes)

    report : (place : Bool) → false ≡ place → IsReportText s o.cells place text
    report place p = record {
      survivors = survivors_of (witnesses rounds bytes);
      reached = found (last_heaps s) (witnesses rounds bytes) test;
      places = [];
      placed = subst (λ (b : Bool). MatchBool b (IsPlaced s o.cells []) (Unit {0})) p tt;
      written = subst (λ (b : Bool). text ≡ report_text (outcomes s []) (survivors_of (witnesses rounds bytes)) b) p written;
    }

-- a script has a fault
pub faulty : (o : Options) (bytes text : List ℕ) → script bytes ≡ Err (fault_in (script bytes)) → text ≡ fault_text (fault_in (script bytes)) → IsRunAnswer o bytes 2 text
faulty o bytes text err written = subst (λ (r : Result Script Fault). OfRead (PlaysTo o) r 2 text) (sym err) (refl, written)

-- a script that is made is played to its end
pub loaded : (o : Options) (rounds number size : ℕ) (text : List ℕ) → script (generated number size) ≡ Ok (script_in (script (generated number size)))
    → are_found (last_heaps (sections_in (script (generated number size)))) (witnesses rounds (generated number size)) ≡ true
    → text ≡ load_text (sections_in (script (generated number size))) (survivors_of (witnesses rounds (generated number size)))
    → IsLoadAnswer o number size 0 text
loaded o rounds number size text ok test written = subst (λ (r : Result Script Fault). LoadsTo o r 0 text) (sym ok) (inl (
  refl,
  record {
    survivors = survivors_of (witnesses rounds (generated number size));
    reached = found (last_heaps (sections_in (script (generated number size)))) (witnesses rounds (generated number size)) test;
    written = written;
  },
))

abbrev usual : Options
usual = record { cells = 4096; workers = 4; tracers = 1; packets = 64; entries = 32; place = false }

load_1 : IsLoadAnswer usual 1 8 0 (codes "commands 32\nobjects 0\nlines 0\nsurvivors 0\ntotal 0\n")
unfolding digits named_text
load_1 = loaded usual 1 1 8 (codes "commands 32\nobjects 0\nlines 0\nsurvivors 0\ntotal 0\n") refl refl refl

load_2 : IsLoadAnswer usual 1 9 0 (codes "commands 36\nobjects 1\nlines 0\nsurvivors 1\ntotal 152\n")
unfolding digits named_text
load_2 = loaded usual 2 1 9 (codes "commands 36\nobjects 1\nlines 0\nsurvivors 1\ntotal 152\n") refl refl refl
