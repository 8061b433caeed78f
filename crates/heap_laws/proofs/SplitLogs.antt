-- The log of a seat, about one of the events.
use Rattle.std.proofs.Common.{ℕ, ◌≡◌, ◌∙◌, zero, suc, List, [], ◌∷◌, ◌++◌, append_assoc, take, refl, sym, ap, subst, Some}
use Rattle.std.specs.Prelude.{slice_get}
use Rattle.std.proofs.lemmas.List.{append-nil}
use Rattle.std.proofs.lemmas.Option.{same_Some}
use Rattle.mark_core.specs.Steps.{Core, after_event, run_of}
use Rattle.mark_core.specs.declared.kinds.Event.{Event}
use Rattle.gc_table.specs.Past.{adds, log_from}
use Rattle.gc_table.specs.Runs.{AreAllowed}
use Rattle.gc_table.specs.declared.view.Entry.{Entry}
use Rattle.gc_table.proofs.History.Past.{run-first}
use Rattle.gc_table.proofs.Reading.{none-some}

pub record SplitLog (i : ℕ) (es : List Event) (c : Core) (k : ℕ) (e : Event) : Type 0 where
  pub rest : List Entry
  pub whole : log_from i c es ≡ (log_from i c (take k es) ++ adds i (run_of (take k es) c) e) ++ rest
  pub more : log_from i c (take (suc k) es) ≡ log_from i c (take k es) ++ adds i (run_of (take k es) c) e

pub split_log : (i : ℕ) (es : List Event) (c : Core) → AreAllowed c es → (k : ℕ) (e : Event) → slice_get es k ≡ Some e → SplitLog i es c k e
split_log i [] c ok zero e at = absurd (none-some e at)
split_log i [] c ok (suc k) e at = absurd (none-some e at)
split_log i (x ∷ es) c ok zero e at =
    subst (SplitLog i (x ∷ es) c zero) (same_Some x e at) (record { rest = log_from i (after_event c x) es; whole = refl; more = append-nil (adds i c x) })
split_log i (x ∷ es) c ok (suc k) e at =
    let d : Core = after_event c x in
    let r : SplitLog i es d k e = split_log i es d ok.1 k e at in
    let first : List Entry = adds i c x in
    let front : List Entry = log_from i d (take k es) in
    let last : List Entry = adds i (run_of (take k es) d) e in
    let now : run_of (x ∷ take k es) c ≡ run_of (take k es) d = run-first c x (take k es) ok.0 in
    let same : adds i (run_of (x ∷ take k es) c) e ≡ last = ap (λ (y : Core). adds i y e) now in
    record {
      rest = r.rest;
      whole =
          ap (λ (l : List Entry). first ++ l) r.whole
          ∙ (sym (append_assoc first (front ++ last) r.rest)
          ∙ ap (λ (l : List Entry). l ++ r.rest) (sym (append_assoc first front last) ∙ ap (λ (l : List Entry). (first ++ front) ++ l) (sym same)));
      more =
          ap (λ (l : List Entry). first ++ l) r.more
          ∙ (sym (append_assoc first front last) ∙ ap (λ (l : List Entry). (first ++ front) ++ l) (sym same));
    }
