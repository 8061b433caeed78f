-- What is written of events in their turns.
use Rattle.std.proofs.Common.{◌≡◌, ℕ, ◌+◌, ◌<◌, ◌≤◌, List, [], ◌∷◌, ◌++◌, length, drop, get_or, refl, ap, sym, subst, ◌∙◌, append_assoc, true≢false, codes}
use Rattle.std.proofs.lemmas.List.{drop_more, drop_all}
use Rattle.std.specs.Prelude.{Bool, true, false, Option, Some, None, is_none, if◌then◌else◌}
use Rattle.std.specs.Io.KnownBytes.{Appends}
use Rattle.play_report.proofs.Turns.{appends_then, grows_later, grows_sooner, rose_from}
use Rattle.play_report.specs.Causes.{AppendsPrefix, Rose}
use Rattle.mark_core.specs.Kinds.{kind_of}
use Rattle.mark_core.specs.Steps.{Core, failing_part, after_event}
use Rattle.schedule_check.specs.declared.line.Line.{Line}
use Rattle.schedule_states.specs.Rows.{row_text}
use Rattle.schedule_states.specs.Turns.{place_in, event_text, refused_row, text_by, turn_text, ends_by, turn_ends, then_text, then_ends, turns_text, turns_end}
use Rattle.schedule_states.specs.declared.turns.Ended.{Ended}
use Rattle.schedule_states.specs.declared.turns.Ended.TheVariants.{Accepted, Refused}

-- of an event that is allowed
pub went : (c after : Core) (l : Line) (at : ℕ) → failing_part c l.event ≡ None → at ≡ place_in c l.event → after ≡ after_event c l.event → event_text l.line at after ≡ turn_text c l
went c after l at f p a =
    ap (λ (n : ℕ). event_text l.line n after) p ∙ ap (λ (d : Core). event_text l.line (place_in c l.event) d) a ∙ sym (ap (text_by c l) f)

-- of one that isn't
pub stopped : (c : Core) (l : Line) (kind part : ℕ) → kind ≡ kind_of l.event.step → failing_part c l.event ≡ Some part → refused_row l.line kind part ≡ turn_text c l
stopped c l kind part k f = ap (λ (n : ℕ). refused_row l.line n part) k ∙ sym (ap (text_by c l) f)

-- the state after a turn, by the part that fails
abbrev pub after_part : Option ℕ → Core → Core → Core
after_part part after c = if is_none part then after else c

abbrev accepts : Ended → Bool
accepts Accepted = true
accepts Refused = false

after_accepted : (part : Option ℕ) (after c : Core) → Accepted ≡ ends_by part → after_part part after c ≡ after
after_accepted None after c e = refl
after_accepted (Some k) after c e = absurd (true≢false (ap accepts e))

-- what was written up to element i: the text of all lines is that, and what is to be written of those left; and so they end
abbrev pub HasTurned : List Line → ℕ → Core → Core → Option (List ℕ) → Option (List ℕ) → ℕ → ℕ → Type 0
HasTurned ls i c d a b f g =
    (front : List ℕ) × (turns_text ls c ≡ front ++ turns_text (drop i ls) d) × (turns_end ls c ≡ turns_end (drop i ls) d) × Appends a b front × (g ≡ f)

module _ (ls : List Line) (i : ℕ) (l : Line) (c d : Core) (within : i < length ls) (is : l ≡ get_or ls i l) where
  here : drop i ls ≡ l ∷ drop (i + 1) ls
  here = drop_more ls i l within ∙ ap (λ (x : Line). x ∷ drop (i + 1) ls) (sym is)

  -- what is written of this line and those behind it
  abbrev rest : List ℕ
  rest = then_text (turn_ends d l) (turns_text (drop (i + 1) ls) (after_event d l.event))

  parted : turns_text (drop i ls) d ≡ turn_text d l ++ rest
  parted = ap (λ (xs : List Line). turns_text xs d) here

  -- the turn of an event that is allowed
  pub turned_on : (e : Core) (a b b' : Option (List ℕ)) (f g h : ℕ) → HasTurned ls i c d a b f g → Accepted ≡ turn_ends d l → e ≡ after_part (failing_part d l.event) (after_event d l.event) d
      → Appends b b' (turn_text d l) × (h ≡ g) → HasTurned ls (i + 1) c e a b' f h
  turned_on e a b b' f g h (front, t, n, p, q) ended after w =
      let state : e ≡ after_event d l.event = after ∙ after_accepted (failing_part d l.event) (after_event d l.event) d ended in
      let left : rest ≡ turns_text (drop (i + 1) ls) e =
      ap (λ (o : Ended). then_text o (turns_text (drop (i + 1) ls) (after_event d l.event))) (sym ended) ∙ ap (turns_text (drop (i + 1) ls)) (sym state) in
      let ends : turns_end (drop i ls) d ≡ turns_end (drop (i + 1) ls) e =
      ap (λ (xs : List Line). turns_end xs d) here ∙ ap (λ (o : Ended). then_ends o (turns_end (drop (i + 1) ls) (after_event d l.event))) (sym ended)
      ∙ ap (turns_end (drop (i + 1) ls)) (sym state) in (
        front ++ turn_text d l,
        t ∙ ap (λ (x : List ℕ). front ++ x) (parted ∙ ap (λ (x : List ℕ). turn_text d l ++ x) left) ∙ sym (append_assoc front (turn_text d l) (turns_text (drop (i + 1) ls) e)),
        n ∙ ends,
        appends_then a b b' front (turn_text d l) p w.0,
        w.1 ∙ q,
      )

  -- a turn that wrote a prefix of its text
  pub turned_short : (a b b' : Option (List ℕ)) (f g h : ℕ) → HasTurned ls i c d a b f g → AppendsPrefix b b' (turn_text d l) × Rose g h → AppendsPrefix a b' (turns_text ls c) × Rose f h
  turned_short a b b' f g h (front, t, n, p, q) w = (
    subst (λ (x : List ℕ). AppendsPrefix a b' x) (sym (t ∙ ap (λ (x : List ℕ). front ++ x) parted)) (grows_later a b b' front (turn_text d l ++ rest) p (grows_sooner b b' (turn_text d l) rest w.0)),
    rose_from f g h q w.1,
  )

-- all turns were taken, and a prefix of the last row was written
pub ended_short : (ls : List Line) (i : ℕ) (c d : Core) → length ls ≤ i → (a b b' : Option (List ℕ)) (f g h : ℕ) → HasTurned ls i c d a b f g → AppendsPrefix b b' (row_text (codes "accepted") []) × Rose g h
    → AppendsPrefix a b' (turns_text ls c) × Rose f h
ended_short ls i c d past a b b' f g h (front, t, n, p, q) w =
    let all : turns_text ls c ≡ front ++ row_text (codes "accepted") [] = t ∙ ap (λ (xs : List Line). front ++ turns_text xs d) (drop_all i ls past) in
    (subst (λ (x : List ℕ). AppendsPrefix a b' x) (sym all) (grows_later a b b' front (row_text (codes "accepted") []) p w.0), rose_from f g h q w.1)
