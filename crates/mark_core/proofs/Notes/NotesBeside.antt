-- What the record of one seat says of another's: who takes part while some seat knows that the world is stopped, is alone, or helps.
use Rattle.std.proofs.Common.{ℕ, ◌≡◌, ◌≢◌, ◌<◌, get_or, length, ap, ◌∙◌, subst, true, false, Some, ⊎_elim}
use Rattle.std.specs.Prelude.{IsTrue, IsFalse, slice_get}
use Rattle.std.specs.List.{All}
use Rattle.std.proofs.lemmas.Bool.{cases_Bool, or_from}
use Rattle.std.proofs.lemmas.List.{length-map, get_or-map}
use Rattle.std.proofs.lemmas.Option.{slice_get_within, get_or_from_slice_get}
use Rattle.mark_core.specs.Seats.{takes_part}
use Rattle.mark_core.specs.Views.{Standing, standings, standing_of, some_knows}
use Rattle.mark_core.specs.Rules.WorldRules.{NoneAdmitted, is_raised}
use Rattle.mark_core.specs.Steps.{Core}
use Rattle.mark_core.specs.Laws.{IsCore}
use Rattle.mark_core.proofs.World.WorldReading.{at-standing}
use Rattle.mark_core.proofs.Blocks.BlocksStopped.{AllStill, still-known, knower, one-passes}
use Rattle.mark_core.specs.declared.seat.SeatState.{SeatState}

-- seat i has the record s
pub record Sits (c : Core) (i : ℕ) (s : SeatState) : Type 0 where
  pub within : i < length c.seats
  pub is : get_or c.seats i s ≡ s

pub sits : (c : Core) (i : ℕ) (s : SeatState) → slice_get c.seats i ≡ Some s → Sits c i s
sits c i s g = record { within = slice_get_within c.seats i s g; is = get_or_from_slice_get c.seats i s s g }

-- a fact of every seat, at this one
pub of-sits : (P : SeatState → Type 0) (c : Core) (i : ℕ) (s : SeatState) → Sits c i s → All P c.seats → P s
of-sits P c i s k a = subst P k.is (a i s k.within)

-- a fact of how every seat stands, at this one
standing_at : (P : Standing → Type 0) (c : Core) (i : ℕ) (s : SeatState) → Sits c i s → All P (standings c.seats) → P (standing_of s)
standing_at P c i s k a = subst (λ (x : SeatState). P (standing_of x)) k.is (at-standing P c.seats i s k.within a)

-- while a seat knows, no seat is active
still_beside : (c : Core) (i : ℕ) (s : SeatState) → IsCore c → Sits c i s → IsTrue s.knows → AllStill c
still_beside c i s core k e = still-known c core (knower c.seats i s k.within (ap (λ (x : SeatState). x.knows) k.is ∙ e))

-- while a seat helps, no seat is active
still_helped : (c : Core) (i : ℕ) (s : SeatState) → IsCore c → Sits c i s → IsTrue s.admitted → AllStill c
still_helped c i s core k e = still-known c core (standing_at (λ (x : Standing). IsTrue x.admitted → IsTrue (some_knows (standings c.seats))) c i s k core.sound.world.admitted_stopped e)

raised_at : (c : Core) (i : ℕ) (s : SeatState) (d : Standing) → IsCore c → Sits c i s → IsTrue s.knows → is_raised (get_or (standings c.seats) i d) ≡ true
raised_at c i s d core k e =
    let raised = of-sits (λ (x : SeatState). IsTrue x.knows → IsTrue x.raised) c i s k (λ j b h. (core.strong.seats_strong j b h).knows_is_raised) e in
    ap is_raised (get_or-map standing_of c.seats i s d k.within) ∙ (ap (λ (x : SeatState). x.raised) k.is ∙ raised)

-- only one seat knows
one_knows : (c : Core) (i j : ℕ) (s t : SeatState) → IsCore c → i ≢ j → Sits c i s → Sits c j t → IsTrue s.knows → IsFalse t.knows
one_knows c i j s t core n k l e =
    ⊎_elim
    (λ (f : t.knows ≡ true).
    absurd (n (one-passes is_raised (standings c.seats) i j (standing_of s) (rw length-map k.within) (rw length-map l.within) core.sound.world.one_raised (raised_at c i s (standing_of s) core k e) (raised_at c j t (standing_of s) core l f))))
    (λ (f : t.knows ≡ false). f)
    (cases_Bool t.knows)

-- what the record s of one seat says of the record t of another
pub record Beside (s t : SeatState) : Type 0 where
  pub knows_still : IsTrue s.knows → IsFalse t.active
  pub knows_alone : IsTrue s.knows → IsFalse t.knows
  pub helps_still : IsTrue s.admitted → IsFalse t.active
  pub alone_quiet : IsTrue s.alone → IsFalse (takes_part t)

pub beside : (c : Core) (i j : ℕ) (s t : SeatState) → IsCore c → i ≢ j → Sits c i s → Sits c j t → Beside s t
beside c i j s t core n k l =
    let still = λ (a : AllStill c). of-sits (λ (x : SeatState). IsFalse x.active) c j t l a in
    let knows = of-sits (λ (x : SeatState). IsTrue x.alone → IsTrue x.knows) c i s k (λ m d h. (core.strong.seats_strong m d h).alone_knows) in
    let unhelped = λ (e : IsTrue s.alone). standing_at (λ (x : Standing). IsFalse x.admitted) c j t l (standing_at (λ (x : Standing). IsTrue x.alone → NoneAdmitted (standings c.seats)) c i s k core.sound.world.alone_unhelped e) in
    record {
      knows_still = λ e. still (still_beside c i s core k e);
      knows_alone = one_knows c i j s t core n k l;
      helps_still = λ e. still (still_helped c i s core k e);
      alone_quiet = λ e. or_from _ _ (or_from _ _ (still (still_beside c i s core k (knows e))) (one_knows c i j s t core n k l (knows e))) (unhelped e);
    }
