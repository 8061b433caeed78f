-- What `run` writes is of what the script means.
use Rattle.std.proofs.Common.{◌≡◌, ℕ, List, [], ◌∷◌, refl, sym, ap, ap₂, ◌∙◌, subst, inl, inr, arith, map}
use Rattle.std.specs.Prelude.{Option, Some, Result, Ok, Err, Bool}
use Rattle.plain_heap.specs.Sections.{Sections}
use Rattle.gc_script.specs.Faults.{Fault}
use Rattle.gc_script.specs.Statement.{statement, header}
use Rattle.gc_script.specs.Earlier.{catalogue_names}
use Rattle.gc_script.specs.Meaning.{Means, sections, turned}
use Rattle.gc_script.specs.Script.{Script, script}
use Rattle.gc_script.proofs.Meaning.{scripts-mean}
use Rattle.command_words.specs.Words.{Options}
use Rattle.gc_play.specs.Promise.{FromSource, OfSource, Wrote, WritesSome, OfRead}
use Rattle.play_words.specs.Running.{IsRunText, IsRunFull}
use Rattle.gc_play.specs.RunAnswers.{PlaysTo, IsRunAnswer}
use Rattle.heap_dump.specs.Spelling.{dump}
use Rattle.load_gen.specs.Generated.{generated}
use Rattle.play_report.specs.Text.{IsReportText}
use Rattle.play_end.proofs.SectionLists.{one-text, one-load-text}
use Rattle.play_words.proofs.FinalHeap.One.{one_final}
use Rattle.play_words.specs.Loading.{LoadsTo}
use Rattle.play_words.specs.Dumping.{EndsDoneOrFull}
use Rattle.play_words.specs.Laws.{RunsAlike, DumpsAlike, LoadsAlike}

played : (o : Options) (bytes text : List ℕ) (s : Script) → script bytes ≡ Ok s → PlaysTo o s 0 text → IsRunText o bytes text
played o bytes text s is (inl a) = record { sections = s.sections; meant = scripts-mean bytes s is; report = a.1 }
played o bytes text s is (inr a) = absurd (omega (arith, a.0))

filled : (o : Options) (bytes text : List ℕ) (s : Script) → script bytes ≡ Ok s → PlaysTo o s 3 text → IsRunFull o bytes text
filled o bytes text s is (inl a) = absurd (omega (arith, a.0))
filled o bytes text s is (inr a) = record { sections = s.sections; meant = scripts-mean bytes s is; full = a.1 }

run_text : (o : Options) (bytes text : List ℕ) (r : Result Script Fault) → script bytes ≡ r → OfRead (PlaysTo o) r 0 text → IsRunText o bytes text
run_text o bytes text (Err fault) is a = absurd (omega (arith, a.0))
run_text o bytes text (Ok s) is a = played o bytes text s is a

run_full : (o : Options) (bytes text : List ℕ) (r : Result Script Fault) → script bytes ≡ r → OfRead (PlaysTo o) r 3 text → IsRunFull o bytes text
run_full o bytes text (Err fault) is a = absurd (omega (arith, a.0))
run_full o bytes text (Ok s) is a = filled o bytes text s is a

-- an answer with status 0, and with status 3
pub done_run : (o : Options) (left old new : Option (List ℕ)) (status : ℕ) → Wrote (OfSource (IsRunAnswer o) left) status old new → status ≡ 0 → WritesSome old new (FromSource (IsRunText o) left)
done_run o left old new status w zero_is =
    let some = w.whole (inl (omega (arith, zero_is))) in
    let answer : IsRunAnswer o some.1.0 0 some.0 = subst (λ (n : ℕ). IsRunAnswer o some.1.0 n some.0) zero_is some.1.2 in
    (some.0, (some.1.0, some.1.1, run_text o some.1.0 some.0 (script some.1.0) refl answer), some.2)

pub full_run : (o : Options) (left old new : Option (List ℕ)) (status : ℕ) → Wrote (OfSource (IsRunAnswer o) left) status old new → status ≡ 3 → WritesSome old new (FromSource (IsRunFull o) left)
full_run o left old new status w three =
    let some = w.whole (inl (omega (arith, three))) in
    let answer : IsRunAnswer o some.1.0 3 some.0 = subst (λ (n : ℕ). IsRunAnswer o some.1.0 n some.0) three some.1.2 in
    (some.0, (some.1.0, some.1.1, run_full o some.1.0 some.0 (script some.1.0) refl answer), some.2)

-- a text means one thing
pub one-meaning : (bytes : List ℕ) (s t : Sections) → Means bytes s → Means bytes t → s ≡ t
one-meaning bytes s t x y =
    let same : x.first ∷ x.others ≡ y.first ∷ y.others = sym x.lines ∙ y.lines in
    let firsts : x.first ≡ y.first = cc in
    let others : x.others ≡ y.others = cc in
    let headers : Some x.version ≡ Some y.version = sym x.headed ∙ ap header firsts ∙ y.headed in
    let versions : x.version ≡ y.version = cc in
    x.sections ∙ ap₂ (λ (v : ℕ) (lines : List (List (List ℕ))). sections v (catalogue_names (map statement lines)) (turned [] (map statement lines))) versions others ∙ sym y.sections

-- Two runs that are done write one text.
ended-alike : (o p : Options) (s : Script) (a b : List ℕ) → EndsDoneOrFull o s 0 a → EndsDoneOrFull p s 0 b → a ≡ b
ended-alike o p s a b (inr x) y = absurd (omega (arith, x.0))
ended-alike o p s a b (inl x) (inr y) = absurd (omega (arith, y.0))
ended-alike o p s a b (inl x) (inl y) = x.1.written ∙ (ap dump (one_final s.sections x.1.heap y.1.heap x.1.final y.1.final) ∙ sym y.1.written)

dump-alike : (o p : Options) (r : Result Script Fault) (a b : List ℕ) → OfRead (EndsDoneOrFull o) r 0 a → OfRead (EndsDoneOrFull p) r 0 b → a ≡ b
dump-alike o p (Err fault) a b x y = absurd (omega (arith, x.0))
dump-alike o p (Ok s) a b x y = ended-alike o p s a b x y

load-alike : (o p : Options) (r : Result Script Fault) (a b : List ℕ) → LoadsTo o r 0 a → LoadsTo p r 0 b → a ≡ b
load-alike o p (Err fault) a b x y = absurd x
load-alike o p (Ok s) a b (inr x) y = absurd (omega (arith, x.0))
load-alike o p (Ok s) a b (inl x) (inr y) = absurd (omega (arith, y.0))
load-alike o p (Ok s) a b (inl x) (inl y) = one-load-text s.sections a b x.1 y.1

pub runs_alike : RunsAlike
runs_alike o p bytes a b f g x y =
    let same : x.sections ≡ y.sections = one-meaning bytes x.sections y.sections x.meant y.meant in
    let first : IsReportText y.sections o.cells o.place a = subst (λ (s : Sections). IsReportText s o.cells o.place a) same x.report in
    one-text y.sections o.cells p.cells a b
    (subst (λ (place : Bool). IsReportText y.sections o.cells place a) f first) (subst (λ (place : Bool). IsReportText y.sections p.cells place b) g y.report)

pub dumps_alike : DumpsAlike
dumps_alike o p bytes a b x y = dump-alike o p (script bytes) a b x y

pub loads_alike : LoadsAlike
loads_alike o p number size a b x y = load-alike o p (script (generated number size)) a b x y
