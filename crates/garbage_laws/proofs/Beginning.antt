-- In Idle the core shuns its garbage.
use Rattle.std.proofs.Common.{ℕ, ◌≡◌, ◌+◌, ◌<◌, zero, suc, List, [], ◌∷◌, ◌++◌, get_or, length, arith, sym, ap, ◌∙◌, subst, ◌||◌, eqb, Option}
use Rattle.std.specs.Prelude.{IsTrue, IfSome}
use Rattle.std.specs.List.{All}
use Rattle.std.proofs.lemmas.Bool.{true≢false, eqb-true}
use Rattle.std.proofs.lemmas.List.{length-append, get_or-append-add, get_or_append_left}
use Rattle.std.proofs.lemmas.Grind.{get_or_default_zero}
use Rattle.mark_core.specs.Layout.{words_of}
use Rattle.mark_core.specs.Seats.{is_phase}
use Rattle.mark_core.specs.Cells.{IsRoot, field}
use Rattle.mark_core.specs.Steps.{Core}
use Rattle.mark_core.specs.Laws.{IsCore}
use Rattle.mark_core.specs.declared.kinds.Phase.TheVariants.{Idle}
use Rattle.mark_core.specs.declared.seat.SeatState.{SeatState}
use Rattle.mark_core.proofs.Exacts.ExactsMoves.{no-values}
use Rattle.garbage_laws.specs.Garbage.{references_of, held_references, is_used, IsGarbage}
use Rattle.garbage_laws.proofs.Shuns.{Spares, Misses, SeatShuns, CoreShuns}

-- A list that is part of another names no more than this.
first_part : (xs ys : List ℕ) (x : ℕ) → IsRoot xs x → IsRoot (xs ++ ys) x
first_part xs ys x r = (r.0, omega (arith, r.1, length-append xs ys), get_or_append_left xs ys 0 r.0 r.1 ∙ r.2)

last_part : (xs ys : List ℕ) (x : ℕ) → IsRoot ys x → IsRoot (xs ++ ys) x
last_part xs ys x r = (length xs + r.0, omega (arith, r.1, length-append xs ys), get_or-append-add xs ys r.0 0 ∙ r.2)

-- what a seat may store is part of what all may store
seat_part : (seats : List SeatState) (j : ℕ) (d : SeatState) (x : ℕ) → j < length seats → IsRoot (references_of (get_or seats j d)) x → IsRoot (held_references seats) x
seat_part [] j d x h r = absurd (omega (arith, h))
seat_part (s ∷ ss) zero d x h r = first_part (references_of s) (held_references ss) x r
seat_part (s ∷ ss) (suc j) d x h r = last_part (references_of s) (held_references ss) x (seat_part ss j d x (omega (arith, h)) r)

-- what one of the references names isn't garbage
reached : (c : Core) (found : List ℕ) (x : ℕ) → IsRoot ((words_of c.shape c.words).roots ++ (held_references c.seats ++ found)) x → Spares (IsGarbage c found) x
reached c found x r g = g.unreached ([], r)

pub found-spared : (c : Core) (found : List ℕ) (x : ℕ) → IsRoot found x → Spares (IsGarbage c found) x
found-spared c found x r = reached c found x (last_part (words_of c.shape c.words).roots (held_references c.seats ++ found) x (last_part (held_references c.seats) found x r))

roots_miss : (c : Core) (found : List ℕ) → All (Misses (IsGarbage c found)) (words_of c.shape c.words).roots
roots_miss c found j d h x e =
    let roots : List ℕ = (words_of c.shape c.words).roots in
    reached c found x (first_part roots (held_references c.seats ++ found) x (j, h, sym (get_or_default_zero roots j d h) ∙ e))

-- what a seat may store
held_misses : (c : Core) (found : List ℕ) (j : ℕ) (d : SeatState) → j < length c.seats → (k : ℕ) → k < length (references_of (get_or c.seats j d)) → Misses (IsGarbage c found) (get_or (references_of (get_or c.seats j d)) k 0)
held_misses c found j d h k l x e =
    reached c found x (last_part (words_of c.shape c.words).roots (held_references c.seats ++ found) x (first_part (held_references c.seats) found x (seat_part c.seats j d x h (k, l, e))))

env_misses : (c : Core) (found : List ℕ) (j : ℕ) (d : SeatState) → j < length c.seats → All (Misses (IsGarbage c found)) (get_or c.seats j d).env
env_misses c found j d h k z l =
    let env : List ℕ = (get_or c.seats j d).env in
    subst (Misses (IsGarbage c found)) (sym (get_or_default_zero env k z l)) (held_misses c found j d h (suc (suc k)) (omega (arith, l)))

seats_shun : (c : Core) (found : List ℕ) → IsCore c → IsTrue (is_phase (words_of c.shape c.words).phase Idle) → All (SeatShuns (IsGarbage c found)) c.seats
seats_shun c found k idle j d h =
    let phase : ℕ = (words_of c.shape c.words).phase in
    record {
      got = held_misses c found j d h 0 (omega arith);
      last = held_misses c found j d h 1 (omega arith);
      env = env_misses c found j d h;
      value = subst (λ (o : Option ℕ). IfSome o (Spares (IsGarbage c found))) (sym (no-values c k (ap (λ n. eqb n 0 || eqb n 4) (eqb-true phase 0 idle)) j d h)) tt;
    }

-- a cell in use that isn't garbage names none
fields_miss : (c : Core) (found : List ℕ) (x j y : ℕ) → IsTrue (is_used c x) → Spares (IsGarbage c found) x → j < c.shape.fields → field c.shape (words_of c.shape c.words).fields x j ≡ y + 1 → Spares (IsGarbage c found) y
fields_miss c found x j y u n l e g = n (record { used = u; unreached = λ r. g.unreached (x ∷ r.0, ((j, l, e), r.1)) })

-- in Idle all of this holds
pub garbage-shunned : (c : Core) (found : List ℕ) → IsCore c → IsTrue (is_phase (words_of c.shape c.words).phase Idle) → CoreShuns (IsGarbage c found) c
garbage-shunned c found k idle =
    let phase : ℕ = (words_of c.shape c.words).phase in
    let zero : phase ≡ 0 = eqb-true phase 0 idle in
    record {
      roots = roots_miss c found;
      seats_shun = seats_shun c found k idle;
      marks = λ x h e. absurd (true≢false (sym e ∙ k.sound.phases.resting_white (ap (λ n. eqb n 0 || eqb n 5) zero) x h));
      fields = λ x h u n j l y e. fields_miss c found x j y u n l e;
      remain = λ e x g. g.used;
      kept = λ e. absurd (omega (arith, zero, e));
    }
