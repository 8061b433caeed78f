-- The season moves at least as often as the first seat's log says; if it moves just as often, no other seat moves it.
use Rattle.std.proofs.Common.{ℕ, ◌≡◌, ◌+◌, ◌≤◌, ◌==◌, ◌∙◌, List, [], ◌∷◌, ◌++◌, ap, arith, refl, subst, sym, Bool, true, false, Option, None, Some, eqb-true}
use Rattle.std.specs.Prelude.{if◌then◌else◌, slice_get}
use Rattle.mark_core.specs.Laws.{IsCore}
use Rattle.mark_core.specs.Layout.{Words as MarkWords, words_of}
use Rattle.mark_core.specs.Steps.{Core, after_event, failing_part, run_of}
use Rattle.mark_core.specs.declared.kinds.Event.{Event}
use Rattle.mark_core.specs.declared.kinds.Shape.{Shape}
use Rattle.mark_core.specs.declared.kinds.Step.{Step}
use Rattle.mark_core.specs.declared.kinds.Step.TheVariants.{NextSeason}
use Rattle.mark_core.specs.declared.seat.SeatState.{SeatState}
use Rattle.mark_core.proofs.Known.{Acted, words_left, acts}
use Rattle.mark_core.proofs.Blocks.BlocksStopped.{Taken}
use Rattle.mark_core.proofs.Pool.PoolsKept.{shape-kept}
use Rattle.gc_table.specs.Entries.{event, is_logged}
use Rattle.gc_table.specs.Past.{adds, entries_of, log_from, word_told}
use Rattle.gc_table.specs.declared.view.Entry.{Entry}
use Rattle.gc_table.proofs.History.Past.{run-first}
use Rattle.gc_table.proofs.Told.SeasonsKept.{season-next, season-same, season_in}
use Rattle.gc_table.specs.Rooted.{moves_season, season_count}
use Rattle.gc_table.specs.Runs.{AreAllowed}
use Rattle.gc_table.proofs.Lending.{Sound, later-sound}

-- what is so of nothing, and of the entry of the event if it is this seat's, is so of what the event adds to the seat's log
pub adds-cases : (P : List Entry → Type 0) (i : ℕ) (c : Core) (e : Event) (s : SeatState) → slice_get c.seats e.seat ≡ Some s → P [] → (e.seat ≡ i → is_logged e.step ≡ true → P (event e.step (word_told c s e.step) ∷ [])) → P (adds i c e)
adds-cases P i c e s got none some =
    by_seat (e.seat == i) refl
  where
    by_kind : (l : Bool) → is_logged e.step ≡ l → e.seat ≡ i → P (if l then event e.step (word_told c s e.step) ∷ [] else [])
    by_kind true is at = some at is
    by_kind false is at = none

    by_seat : (b : Bool) → (e.seat == i) ≡ b → P (if b then entries_of c (slice_get c.seats e.seat) e.step else [])
    by_seat true is = subst (λ (o : Option SeatState). P (entries_of c o e.step)) (sym got) (by_kind (is_logged e.step) refl (eqb-true e.seat i is))
    by_seat false is = none

-- the seasons that one step adds
abbrev pub bit : Bool → ℕ
bit b = if b then 1 else 0

pub none_more : (n : ℕ) → n ≡ n + 0
none_more n = omega arith

season_left : (c : Core) (i : ℕ) (s : SeatState) (step : Step) → Taken c i s step → (words_left c s step).season ≡ season_in c + bit (moves_season step)
season_left c i s NextSeason k = season-next c i s k
season_left c i s step k = season-same c i s step k refl ∙ none_more (season_in c)

-- what an event does to the season
season_step : (c : Core) (e : Event) → IsCore c → failing_part c e ≡ None → season_in (after_event c e) ≡ season_in c + bit (moves_season e.step)
season_step c e k f =
    let r : (s : SeatState) × Acted c e s = acts c e k f in
    ap (λ (sh : Shape). (words_of sh (after_event c e).words).season) (shape-kept c e)
    ∙ (ap (λ (w : MarkWords). w.season) r.1.words ∙ season_left c e.seat r.0 e.step (record { core = k; got = r.1.seat; live = r.1.live; ok = r.1.ok }))

-- what it adds to the count of the first seat's log is no more
count_added : (c : Core) (e : Event) → IsCore c → failing_part c e ≡ None → season_count (adds 0 c e) ≤ bit (moves_season e.step)
count_added c e k f =
    let r : (s : SeatState) × Acted c e s = acts c e k f in
    adds-cases (λ (l : List Entry). season_count l ≤ bit (moves_season e.step)) 0 c e r.0 r.1.seat (omega arith) (λ at is. omega arith)

pub count-join : (xs ys : List Entry) → season_count (xs ++ ys) ≡ season_count xs + season_count ys
count-join [] ys = omega arith
count-join (x ∷ xs) ys = let rest = count-join xs ys in omega (arith, rest)

-- the season grows at least by what the first seat's log has
season_grown : (es : List Event) (c : Core) → Sound c es → AreAllowed c es → season_count (log_from 0 c es) + season_in c ≤ season_in (run_of es c)
season_grown [] c sound ok = omega arith
season_grown (e ∷ es) c sound ok =
    let d : Core = after_event c e in
    let rest = season_grown es d (later-sound c e es ok.0 sound) ok.1 in
    let one = season_step c e (sound 0) ok.0 in
    let most = count_added c e (sound 0) ok.0 in
    let both = count-join (adds 0 c e) (log_from 0 d es) in
    let last = ap season_in (run-first c e es ok.0) in
    omega (arith, rest, one, most, both, last)

-- the season moved only by the first seat
abbrev pub Counted : List Event → Core → Type 0
Counted es c = season_in (run_of es c) ≡ season_count (log_from 0 c es) + season_in c

-- so each event moves it as the first seat's log says
pub season_by : (e : Event) (es : List Event) (c : Core) → Sound c (e ∷ es) → AreAllowed c (e ∷ es) → Counted (e ∷ es) c → (season_in (after_event c e) ≡ season_count (adds 0 c e) + season_in c) × Counted es (after_event c e)
season_by e es c sound ok counted =
    let d : Core = after_event c e in
    let rest = season_grown es d (later-sound c e es ok.0 sound) ok.1 in
    let one = season_step c e (sound 0) ok.0 in
    let most = count_added c e (sound 0) ok.0 in
    let both = count-join (adds 0 c e) (log_from 0 d es) in
    let last = ap season_in (run-first c e es ok.0) in
    (omega (arith, rest, one, most, both, last, counted), omega (arith, rest, one, most, both, last, counted))
