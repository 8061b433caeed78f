-- The roots of a seat that is outside, or was joined into another, show its variables; so in a closed heap the roots are what the seats have.
use Rattle.std.proofs.Common.{ℕ, ◌≡◌, ◌⊎◌, inl, inr, ◌+◌, ◌*◌, ◌/◌, ◌%◌, ◌<◌, ◌≤◌, length, arith, refl, sym, ap, ◌∙◌, subst, Bool, true, false, ◌&&◌, eqb, Option, Some, None, get_or, List}
use Rattle.std.specs.Prelude.{slice_get, slice_index, nat_lt, IfSome, if◌then◌else◌}
use Rattle.std.proofs.lemmas.Bool.{and_parts, cases_lt, eqb-true, lt-ltb, ltb-true, false_from_ne_true}
use Rattle.std.proofs.lemmas.Option.{slice_get-get_or}
use Rattle.mark_core.specs.Layout.{words_of}
use Rattle.mark_core.specs.Seats.{has_turn, is_bare}
use Rattle.mark_core.specs.Variables.{roots_now}
use Rattle.mark_core.specs.Steps.{Core, run_of, start_core}
use Rattle.mark_core.specs.Laws.{IsCore}
use Rattle.mark_core.specs.declared.kinds.Event.{Event}
use Rattle.mark_core.specs.declared.kinds.Shape.{Shape}
use Rattle.mark_core.specs.declared.seat.SeatState.{SeatState}
use Rattle.mark_core.proofs.Lagging.{LagsInTurn, Shows, held-still, now-at, now-still}
use Rattle.mark_core.proofs.Notes.NotesBeside.{sits, of-sits}
use Rattle.gc_table.specs.Ends.{IsEnd, IsResting}
use Rattle.gc_table.specs.Laws.{IsRunOf}
use Rattle.gc_table.specs.declared.seat.HeapSeat.{HeapSeat}
use Rattle.gc_table.specs.declared.words.Words.{Words}
use Rattle.gc_table.proofs.Closing.{bare-nothing}

-- a seat outside
bare_shows : (c : Core) (j : ℕ) (r : SeatState) → IsCore c → slice_get c.seats j ≡ Some r → is_bare r ≡ true → Shows r
bare_shows c j r k got bare = let nothing = and_parts _ (eqb r.got 0 && eqb r.lags 0) (bare-nothing c j r k got bare) in eqb-true r.lags 0 (and_parts (eqb r.got 0) (eqb r.lags 0) nothing.1).1

-- a seat that is at work no more
pub rest-shows : (c : Core) (seats : List HeapSeat) (j : ℕ) (r : SeatState) → IsCore c → slice_get c.seats j ≡ Some r → IsResting seats r → Shows r
rest-shows c seats j r k got (inl spent) = ap (λ (t : SeatState). t.lags) spent.2
rest-shows c seats j r k got (inr (seat, at, is, out)) = bare_shows c j r k got (ap is_bare is ∙ out)

never_both : (b : Bool) → (b && false) ≡ false
never_both true = refl
never_both false = refl

-- a seat without a section
apart_shows : (c : Core) (j : ℕ) (r : SeatState) → IsCore c → slice_get c.seats j ≡ Some r → r.section ≡ None → Shows r
apart_shows c j r k got none = of-sits LagsInTurn c j r (sits c j r got) k.sound.season.lags_in_turn (ap (λ (o : Option ℕ). r.active && has_turn o r.season_seen) none ∙ never_both r.active)

-- the root of a variable of a seat that shows
pub root-shown : (c : Core) (i v : ℕ) → IfSome (slice_get c.seats i) Shows → v < 32 → i * 32 + v < length (words_of c.shape c.words).roots
    → slice_index (roots_now (words_of c.shape c.words).roots c.seats) (i * 32 + v) ≡ slice_index (words_of c.shape c.words).roots (i * 32 + v)
root-shown c i v shows low below =
    let roots : List ℕ = (words_of c.shape c.words).roots in
    let k : ℕ = i * 32 + v in
    let seat : k / 32 ≡ i = omega (arith, low) in
    now-at roots c.seats k below ∙ held-still (slice_get c.seats (k / 32)) (k % 32) (slice_index roots k) (subst (λ (n : ℕ). IfSome (slice_get c.seats n) Shows) (sym seat) shows)

-- of a heap that was closed with the seats of all sections
pub closed-shown : (sh : Shape) (seats : List HeapSeat) (w : Words) (e : IsEnd sh seats w) → sh.sections ≤ length seats
    → roots_now (words_of e.state.core.shape e.state.core.words).roots e.state.core.seats ≡ (words_of e.state.core.shape e.state.core.words).roots
closed-shown sh seats w e all = now-still (words_of c.shape c.words).roots c.seats (λ j d below. each j (get_or c.seats j d) (slice_get-get_or c.seats j d below))
  where
    c : Core
    c = e.state.core

    section : (j : ℕ) (r : SeatState) → slice_get c.seats j ≡ Some r → r.section ≡ (if nat_lt j c.shape.sections then Some j else None)
    section j r got = (e.whole.core.formed.seats j r got).section

    of : (j : ℕ) (r : SeatState) → slice_get c.seats j ≡ Some r → (j < c.shape.sections) ⊎ (c.shape.sections ≤ j) → Shows r
    of j r got (inl within) =
        let own : r.section ≡ Some j = section j r got ∙ ap (λ (b : Bool). if b then Some j else None) (lt-ltb j c.shape.sections within) in
        let inside : j < length seats = omega (arith, within, all, ap (λ (x : Shape). x.sections) e.shape) in
        rest-shows c seats j r e.whole.core got (e.resting j r j inside got own)
    of j r got (inr past) =
        apart_shows c j r e.whole.core got (section j r got ∙ ap (λ (b : Bool). if b then Some j else None) (false_from_ne_true (nat_lt j c.shape.sections) (λ x. omega (arith, past, ltb-true j c.shape.sections x))))

    each : (j : ℕ) (r : SeatState) → slice_get c.seats j ≡ Some r → Shows r
    each j r got = of j r got (cases_lt j c.shape.sections)

-- the seats of sections that were handed in show their variables in the end of a run
pub run-shows : (sh : Shape) (seats : List HeapSeat) (w : Words) (es : List Event) → IsRunOf sh seats w es → IsCore (run_of es (start_core sh 1)) → (i : ℕ) → i < length seats → i < (run_of es (start_core sh 1)).shape.sections
    → IfSome (slice_get (run_of es (start_core sh 1)).seats i) Shows
run-shows sh seats w es run core i there within = of (slice_get d.seats i) refl
  where
    d : Core
    d = run_of es (start_core sh 1)

    of : (o : Option SeatState) → slice_get d.seats i ≡ o → IfSome o Shows
    of None e = tt
    of (Some r) e = rest-shows d seats i r core e (run.resting i r i there e ((core.formed.seats i r e).section ∙ ap (λ (b : Bool). if b then Some i else None) (lt-ltb i d.shape.sections within)))
