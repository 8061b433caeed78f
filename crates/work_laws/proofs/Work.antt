-- The bounds of a run from the start, and of what has happened on a table.
use Rattle.std.proofs.Common.{ℕ, ◌*◌, ◌≤◌, List, arith}
use Rattle.std.proofs.Math.Nat.{mul-le-mul_left}
use Rattle.mark_core.specs.Steps.{Core, start_core}
use Rattle.mark_core.specs.Laws.{IsCore, AllNumbersFit}
use Rattle.mark_core.specs.declared.kinds.Event.{Event}
use Rattle.mark_core.specs.declared.kinds.Shape.{Shape}
use Rattle.mark_core.proofs.CoreKept.{core-starts}
use Rattle.work_laws.specs.Marking.{marks_anew, begins_marking}
use Rattle.work_laws.specs.Queueing.{pops}
use Rattle.work_laws.specs.Scanning.{cleans}
use Rattle.work_laws.specs.Cleaning.{dirties}
use Rattle.work_laws.specs.Work.{IsBoundedWork, WorkIsBounded, most_pops, times_in}
use Rattle.work_laws.proofs.Pushes.{pushed}
use Rattle.work_laws.proofs.Marks.{marks_bounded, fresh_hands}
use Rattle.work_laws.proofs.Queues.{pops_bounded, deferred_hands}
use Rattle.work_laws.proofs.Scans.{reads_bounded, field_hands, value_hands}
use Rattle.work_laws.proofs.Cleans.{cleaning_bounded}
use Rattle.work_laws.proofs.Starts.{none-in-hands, none-queued, none-dirty}

few_marks : (sh : Shape) (n : ℕ) (es : List Event) → IsCore (start_core sh n) → AllNumbersFit es → times_in marks_anew sh n es ≤ sh.cells * times_in begins_marking sh n es
few_marks sh n es k fit = omega (arith, marks_bounded.marks (start_core sh n) es k fit)

few_pops : (sh : Shape) (n : ℕ) (es : List Event) → IsCore (start_core sh n) → AllNumbersFit es → times_in pops sh n es ≤ most_pops sh n es
few_pops sh n es k fit =
    let c : Core = start_core sh n in
    omega (arith, pops_bounded.pops c es k fit, none-queued sh n k, pushed c es k fit, marks_bounded.pushes c es k fit, none-in-hands _ sh n fresh_hands, few_marks sh n es k fit, pops_bounded.put_back c es k fit, none-in-hands _ sh n deferred_hands)

few_cleans : (sh : Shape) (n : ℕ) (es : List Event) → IsCore (start_core sh n) → AllNumbersFit es → times_in cleans sh n es ≤ times_in dirties sh n es
few_cleans sh n es k fit = omega (arith, cleaning_bounded.cleans (start_core sh n) es k fit, none-dirty sh n k)

bounded : (sh : Shape) (n : ℕ) (es : List Event) → IsCore (start_core sh n) → AllNumbersFit es → IsBoundedWork sh n es
bounded sh n es k fit =
    let c : Core = start_core sh n in
    record {
      marked = few_marks sh n es k fit;
      popped = few_pops sh n es k fit;
      cleaned = few_cleans sh n es k fit;
      read = omega (arith, reads_bounded.fields c es k fit, none-in-hands _ sh n (field_hands sh.fields), mul-le-mul_left sh.fields (few_pops sh n es k fit), mul-le-mul_left (16 * sh.fields) (few_cleans sh n es k fit));
      tried = omega (arith, reads_bounded.marks c es k fit, none-in-hands _ sh n value_hands);
    }

pub work_bounded : WorkIsBounded
work_bounded =
    record {
      runs = λ sh n es z some few fit. bounded sh n es (core-starts sh n z some few) fit;
      tables = λ step n v f. bounded f.state.core.shape 1 f.past (core-starts f.state.core.shape 1 f.whole.core.formed.shaped (omega arith) (omega arith)) f.led.fit;
    }
