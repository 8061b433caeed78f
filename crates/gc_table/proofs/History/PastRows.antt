-- A short run of two seats with the log of each; and what no run leads to, or no log says.
use Rattle.std.proofs.Common.{ℕ, zero, suc, ◌≡◌, List, [], ◌∷◌, map, Option, Some, None, Bool, true, false, true≢false, refl, sym, ap, arith}
use Rattle.std.specs.Prelude.{slice_index}
use Rattle.std.specs.List.{All}
use Rattle.mark_core.specs.Laws.{NumbersFit}
use Rattle.mark_core.specs.Layout.{words_of}
use Rattle.mark_core.specs.Steps.{Core, run_of, start_core}
use Rattle.mark_core.specs.declared.kinds.Event.{Event}
use Rattle.mark_core.specs.declared.kinds.Step.{Step}
use Rattle.mark_core.specs.declared.kinds.Step.TheVariants.{AddStat, DirtyCard, EnterStep, LeaveStep, Join, ReadStat, Split}
use Rattle.mark_core.specs.declared.seat.SeatState.{SeatState}
use Rattle.gc_table.specs.declared.view.Entry.{Entry}
use Rattle.gc_table.specs.Entries.{event}
use Rattle.gc_table.specs.Past.{LeadTo, IsLogOf, log_of}
use Rattle.gc_table.proofs.Rows.{small}

abbrev by : ℕ → Step → Event
by seat step = record { seat = seat; step = step }

abbrev ran : List Event → Core
ran es = run_of es (start_core small 1)

-- the count of objects traced
abbrev traced : Core → ℕ
traced c = (words_of c.shape c.words).traced

abbrev found_in : List Entry → List ℕ
found_in es = map (λ (e : Entry). e.found) es

abbrev Fits : Event → Type 0
Fits e = NumbersFit e.step

-- the first seat makes another, which counts 7 objects traced; the first reads the count, and dirties a card
abbrev counting : List Event
counting = by 0 Split ∷ by 1 EnterStep ∷ by 0 EnterStep ∷ by 1 (AddStat 4 7 false) ∷ by 0 (ReadStat 4) ∷ by 0 (DirtyCard 1) ∷ []

fits : All Fits counting
fits zero d h = tt
fits (suc zero) d h = tt
fits (suc (suc zero)) d h = tt
fits (suc (suc (suc zero))) d h = tt
fits (suc (suc (suc (suc zero)))) d h = tt
fits (suc (suc (suc (suc (suc zero))))) d h = tt
fits (suc (suc (suc (suc (suc (suc k)))))) d h = absurd (omega (arith, h))

it_leads : LeadTo small counting (ran counting)
it_leads = record { allowed = refl; fit = fits; leads = refl }

-- each log has what its seat did, with the words that it found, and the word that it stored
log_of_first : log_of small counting 0 ≡ event EnterStep 1 ∷ event (ReadStat 4) 7 ∷ event (DirtyCard 1) 1 ∷ []
log_of_first = refl

log_of_second : log_of small counting 1 ≡ event EnterStep 0 ∷ event (AddStat 4 7 false) 0 ∷ []
log_of_second = refl

log_of_third : log_of small counting 2 ≡ []
log_of_third = refl

-- another answer isn't the log's
answers_otherwise : log_of small counting 0 ≡ event EnterStep 1 ∷ event (ReadStat 4) 8 ∷ event (DirtyCard 1) 1 ∷ [] → ⊥
answers_otherwise h = let e : 7 ≡ 8 = ap (λ es. slice_index (found_in es) 1) h in absurd (omega (arith, e))

-- without the step that counts the count is another
counts_nothing : LeadTo small (by 0 Split ∷ by 1 EnterStep ∷ by 0 EnterStep ∷ by 0 (ReadStat 4) ∷ by 0 (DirtyCard 1) ∷ []) (ran counting) → ⊥
counts_nothing l = let e : 0 ≡ 7 = ap traced l.leads in absurd (omega (arith, e))

-- a seat that isn't inside can't leave
leaves_outside : (c : Core) → LeadTo small (by 0 LeaveStep ∷ []) c → ⊥
leaves_outside c l = let e : Some (0, 26, 1) ≡ None = l.allowed in absurd (cc)

-- the second seat goes, and is joined into the first: its log is over, and that of the first is not
abbrev joining : List Event
joining = by 0 Split ∷ by 1 EnterStep ∷ by 1 LeaveStep ∷ by 0 (Join 1) ∷ []

second_is_over : IsLogOf small joining (ran joining) 1 (event EnterStep 0 ∷ event LeaveStep 1 ∷ [])
second_is_over = (refl, refl)

abbrev is_over : Option SeatState → Bool
is_over None = false
is_over (Some s) = s.spent

first_goes_on : (l : List Entry) → IsLogOf small joining (ran joining) 0 l → ⊥
first_goes_on l h = let e : false ≡ true = ap is_over h.1 in absurd (true≢false (sym e))
