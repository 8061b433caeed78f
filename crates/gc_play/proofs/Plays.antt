-- What a play answers.
use Rattle.std.proofs.Common.{◌≡◌, ℕ, List, refl, sym, ap, subst, inl, Bool, true, false, map}
use Rattle.std.specs.Prelude.{MatchBool, Err}
use Rattle.play_report.specs.Order.{IsPlaced}
use Rattle.gc_script.specs.Script.{Script}
use Rattle.play_report.specs.Report.{Outcome, outcome_of, survivor_of}
use Rattle.play_report.specs.Text.{report_text, full_text, IsFullText}
use Rattle.plain_heap.specs.Sections.{Sections}
use Rattle.play_report.specs.declared.report.Report.{Report}
use Rattle.play_report.specs.declared.report.Positions.{Positions}
use Rattle.gc_play.specs.Ending.{IsStopAnswer}
use Rattle.gc_play.specs.RunAnswers.{PlaysTo}
use Rattle.play_end.specs.Answers.{IsReport, PlayAnswers, places_of}
use Rattle.play_end.specs.declared.error.PlayError.{PlayError}
use Rattle.play_end.specs.declared.error.PlayError.TheVariants as errors
use Rattle.command_words.specs.Words.{Options}

if_asked : (place : Bool) (P : Type 0) → P → MatchBool place P (Unit {0})
if_asked true P p = p
if_asked false P p = tt

-- a report answers a play
pub done_answer : (o : Options) (s : Script) (r : Report) → IsReport s.sections o.cells r → PlaysTo o s 0 (report_text (map outcome_of r.parts.items) (map survivor_of r.survivors.items) o.place)
done_answer o s r report = inl (
  refl,
  record {
    survivors = map survivor_of r.survivors.items;
    reached = report.survivors;
    places = places_of r;
    placed = if_asked o.place (IsPlaced s.sections o.cells (places_of r)) report.placed;
    written = ap (λ (os : List Outcome). report_text os (map survivor_of r.survivors.items) o.place) report.outcomes;
  },
)

-- positions answer a play that found too few cells
pub stop_answer : (e : PlayError) (p : Positions) → e ≡ errors.Full p → IsStopAnswer e 3 (full_text p.section p.done.items)
stop_answer e p is = subst (λ (x : PlayError). IsStopAnswer x 3 (full_text p.section p.done.items)) (sym is) (refl, refl)

-- the reachable objects fill all cells at these positions
pub stopped : (s : Sections) (cells : ℕ) (e : PlayError) → PlayAnswers (Err e) s cells → (status : ℕ) (text : List ℕ) → IsStopAnswer e status text → (status ≡ 3) × IsFullText s cells text
stopped s cells errors.OutOfMemory h status text a = absurd a
stopped s cells (errors.Full p) h status text a = (a.0, record { section = p.section; positions = p.done.items; filled = h; written = a.1 })
