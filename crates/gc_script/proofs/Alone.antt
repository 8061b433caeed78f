-- The catalogue of a script without a fault lends nothing: it reads no variable of a catalogue.
use Rattle.std.proofs.Common.{◌≡◌, ℕ, List, [], ◌∷◌, refl, true, subst}
use Rattle.std.proofs.lemmas.Bool.{false≢true}
use Rattle.std.proofs.lemmas.List.Elements.{All-append, All-nil, All-push}
use Rattle.std.specs.Prelude.{Option, Some, is_some, unwrap_or, IsFalse}
use Rattle.std.specs.Option.{option_or}
use Rattle.std.specs.List.{All}
use Rattle.plain_heap.specs.Sections.{Execution, lends}
use Rattle.gc_script.specs.Statement.{Spoken, NewOf, LetOf, NilOf, SetOf, GetOf, CatOf, PutOf, SayOf, SumOf, CollectOf, Statement, Blank, Fields, Catalogue, Warehouse, Season, Repeat, End, Command, Wrong}
use Rattle.gc_script.specs.Earlier.{open_repeat, open_section, is_for_catalogue}
use Rattle.gc_script.specs.Faults.{may_stand}
use Rattle.gc_script.specs.Script.{repetitions, pending, executed, execution, ended_parts, parts_of_open_section, if_catalogue, closed_catalogue}
use Rattle.gc_script.specs.Context.{AreClear}
use Rattle.gc_script.proofs.Ranges.{AllFit, fit_push, fit_repeated, fit_catalogue, more_executed}

abbrev pub LendsNothing : Execution → Type 0
LendsNothing e = IsFalse (lends e.op)

lends_nothing : (catalogue : List (List ℕ)) (e : List Statement) (spoken : Spoken) → is_for_catalogue spoken ≡ true → LendsNothing (execution catalogue e spoken)
lends_nothing catalogue e (NewOf v n) h = refl
lends_nothing catalogue e (LetOf v w) h = refl
lends_nothing catalogue e (NilOf v) h = refl
lends_nothing catalogue e (SetOf v i w) h = refl
lends_nothing catalogue e (GetOf v w i) h = refl
lends_nothing catalogue e (CatOf v name) h = absurd (false≢true h)
lends_nothing catalogue e (PutOf v n) h = refl
lends_nothing catalogue e (SayOf label v) h = refl
lends_nothing catalogue e (SumOf label v i limit) h = refl
lends_nothing catalogue e CollectOf h = refl

-- what these lines make of the catalogue, if it is open or was closed
pub record AreAlone (catalogue : List (List ℕ)) (e : List Statement) : Type 0 where
  pub first : AllFit LendsNothing (unwrap_or (closed_catalogue catalogue e) [])
  pub ended : open_section e ≡ Some 0 → AllFit LendsNothing (ended_parts catalogue e)
  pub executed : open_section e ≡ Some 0 → All LendsNothing (executed catalogue e)
  pub pending : open_section e ≡ Some 0 → All LendsNothing (pending catalogue e)

open_alone : (catalogue : List (List ℕ)) (e : List Statement) → AreAlone catalogue e → open_section e ≡ Some 0 → AllFit LendsNothing (parts_of_open_section catalogue e)
open_alone catalogue e r o = fit_push LendsNothing (ended_parts catalogue e) (executed catalogue e) (r.ended o) (r.executed o)

pub alone : (version : ℕ) (catalogue : List (List ℕ)) (e : List Statement) → AreClear version e → AreAlone catalogue e
alone version catalogue [] h = record { first = All-nil _; ended = λ o. All-nil _; executed = λ o. All-nil _; pending = λ o. All-nil _ }
alone version catalogue (Blank ∷ e) h = let r = alone version catalogue e h.1 in record { first = r.first; ended = r.ended; executed = r.executed; pending = r.pending }
alone version catalogue (Fields n ∷ e) h = let r = alone version catalogue e h.1 in record { first = r.first; ended = r.ended; executed = r.executed; pending = r.pending }
alone version catalogue (Catalogue ∷ e) h = let r = alone version catalogue e h.1 in record { first = r.first; ended = λ o. All-nil _; executed = λ o. All-nil _; pending = λ o. All-nil _ }
alone version catalogue (Warehouse ∷ e) h =
    let r = alone version catalogue e h.1 in
    record {
      first = fit_catalogue LendsNothing (open_section e) (parts_of_open_section catalogue e) (closed_catalogue catalogue e) (open_alone catalogue e r) r.first;
      ended = λ o. All-nil _;
      executed = λ o. All-nil _;
      pending = λ o. All-nil _;
    }
alone version catalogue (Season ∷ e) h =
    let r = alone version catalogue e h.1 in record { first = r.first; ended = open_alone catalogue e r; executed = λ o. All-nil _; pending = λ o. All-nil _ }
alone version catalogue (Repeat n ∷ e) h = let r = alone version catalogue e h.1 in record { first = r.first; ended = r.ended; executed = r.executed; pending = λ o. All-nil _ }
alone version catalogue (End ∷ e) h =
    let r = alone version catalogue e h.1 in
    record {
      first = r.first;
      ended = r.ended;
      executed = λ o. All-append LendsNothing (executed catalogue e) _ (r.executed o) (fit_repeated LendsNothing (repetitions (open_repeat e)) (pending catalogue e) (r.pending o));
      pending = λ o. All-nil _;
    }
alone version catalogue (Command spoken ∷ e) h =
    let r = alone version catalogue e h.1 in
    let one : open_section e ≡ Some 0 → LendsNothing (execution catalogue e spoken) = λ o. lends_nothing catalogue e spoken (subst (λ (s : Option ℕ). may_stand s spoken ≡ true) o h.0.placed) in
    record {
      first = r.first;
      ended = r.ended;
      executed = λ o. more_executed LendsNothing (is_some (open_repeat e)) (executed catalogue e) (execution catalogue e spoken) (r.executed o) (one o);
      pending = λ o. All-push LendsNothing (pending catalogue e) (execution catalogue e spoken) (r.pending o) (one o);
    }
alone version catalogue (Wrong ∷ e) h = let r = alone version catalogue e h.1 in record { first = r.first; ended = r.ended; executed = r.executed; pending = r.pending }

-- the catalogue at the end of these lines reads no variable of the catalogue
pub alone-end : (version : ℕ) (catalogue : List (List ℕ)) (e : List Statement) → AreClear version e → AllFit LendsNothing (unwrap_or (option_or (if_catalogue (open_section e) (parts_of_open_section catalogue e)) (closed_catalogue catalogue e)) [])
alone-end version catalogue e h =
    let r = alone version catalogue e h in
    fit_catalogue LendsNothing (open_section e) (parts_of_open_section catalogue e) (closed_catalogue catalogue e) (open_alone catalogue e r) r.first
