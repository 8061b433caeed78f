-- What a call keeps that changes no section, and what a mutator keeps that goes out.
use Rattle.std.proofs.Common.{ℕ, ◌≡◌, List, refl, ap, true, false, not}
use Rattle.std.proofs.lemmas.Bool.{false≢true}
use Rattle.mark_core.specs.Effects.{seat_after}
use Rattle.mark_core.specs.declared.kinds.Shape.{Shape}
use Rattle.mark_core.specs.declared.kinds.Step.{Step}
use Rattle.mark_core.specs.declared.kinds.Step.TheVariants.{ClaimBlock, NextSeason, RaiseStep, ReadCat, ReadOwn, StoreField, StoreNew, StorePhase, StoreRoot, StoreValue, ReadStat, ReadSlot, ReadWeak, HoldRoot}
use Rattle.mark_core.specs.declared.seat.SeatState.{SeatState}
use Rattle.gc_table.specs.Taking.{after}
use Rattle.gc_table.specs.declared.view.Entry.{Entry}
use Rattle.gc_table.specs.declared.view.View.{View}
use Rattle.gc_table.specs.Log.{all_steps, events, Only}
use Rattle.gc_table.specs.Running.{Ran}
use Rattle.gc_table.proofs.History.Log.{only-more, only-none}
use Rattle.gc_table.proofs.Running.{ran-identity, ran-join, ran-only, ran-refl, run-keeps, state-kept}
use Rattle.gc_cycle.specs.Cycles.{never_fills}
use Rattle.gc_cycle.specs.Events.{never}
use Rattle.gc_cycle.specs.Mutating.{GoesOut, keeps_section, stays_calm, tries_stopping}
use Rattle.gc_cycle.specs.Sorts.{claims, moves_to, raises_flag}
use Rattle.mark_core.specs.declared.kinds.Phase.TheVariants.{Full}
use Rattle.gc_cycle.specs.Standing.{KeepsSeat, KeepsSection}
use Rattle.gc_cycle.proofs.Sequences.{none-of-steps}

-- what the steps keep that don't change the section

env-kept : (sh : Shape) (s : SeatState) (step : Step) (old : ℕ) → keeps_section step ≡ true → (seat_after sh s step old).env ≡ s.env
env-kept sh s (StoreRoot v r) old e = absurd (false≢true e)
env-kept sh s (HoldRoot v r) old e = absurd (false≢true e)
env-kept sh s step old e = refl

made-kept : (sh : Shape) (s : SeatState) (step : Step) (old : ℕ) → keeps_section step ≡ true → (seat_after sh s step old).made ≡ s.made
made-kept sh s (StoreNew c part word) old e = absurd (false≢true e)
made-kept sh s step old e = refl

section-step : (v x : View) (step : Step) (n : ℕ) → keeps_section step ≡ true → KeepsSection v x → KeepsSection v (after step n x)
section-step v x (ReadOwn c i) n e k = absurd (false≢true e)
section-step v x (ReadCat u) n e k = absurd (false≢true e)
section-step v x (ReadSlot j) n e k = absurd (false≢true e)
section-step v x (ReadWeak c) n e k = absurd (false≢true e)
section-step v x (StoreField u i w) n e k = absurd (false≢true e)
section-step v x (StoreValue u m) n e k = absurd (false≢true e)
section-step v x (StoreRoot u r) n e k = absurd (false≢true e)
section-step v x (HoldRoot u r) n e k = absurd (false≢true e)
section-step v x (StoreNew c part word) n e k = absurd (false≢true e)
section-step v x NextSeason n e k = absurd (false≢true e)
section-step v x step n e k = record { meaning = k.meaning; places = k.places; turns = k.turns; seasons = k.seasons }

pub keeps-section : (v w : View) → Ran v w → Only keeps_section v w → KeepsSection v w
keeps-section v w r o = run-keeps keeps_section (λ (x : View). KeepsSection v x) (λ x step n p s k. section-step v x step n p k) v w r o (record { meaning = refl; places = refl; turns = refl; seasons = refl })

pub keeps-seat : (v w : View) → Ran v w → Only keeps_section v w → KeepsSeat v w
keeps-seat v w r o =
    let who = ran-identity v w r in
    record {
      number = ap (λ p. p.0) who;
      section = ap (λ p. p.1) who;
      env = state-kept (λ (s : SeatState). s.env) keeps_section env-kept v w r o;
      made = state-kept (λ (s : SeatState). s.made) keeps_section made-kept v w r o;
      spent = ap (λ p. p.2) who;
    }

pub calm-keeps : (step : Step) → stays_calm step ≡ true → keeps_section step ≡ true
calm-keeps (ClaimBlock b) e = absurd (false≢true e)
calm-keeps RaiseStep e = absurd (false≢true e)
calm-keeps (StorePhase to) e = absurd (false≢true e)
calm-keeps (ReadStat which) e = refl
calm-keeps step e = e

pub calm-tries : (step : Step) → stays_calm step ≡ true → tries_stopping step ≡ true
calm-tries RaiseStep e = refl
calm-tries step e = e

pub tries-keep : (step : Step) → tries_stopping step ≡ true → keeps_section step ≡ true
tries-keep RaiseStep e = refl
tries-keep (ClaimBlock b) e = absurd (false≢true e)
tries-keep (StorePhase to) e = absurd (false≢true e)
tries-keep (ReadStat which) e = refl
tries-keep step e = e

no-full : (step : Step) (n : ℕ) → tries_stopping step ≡ true → moves_to Full step n ≡ false
no-full (StorePhase to) n e = absurd (false≢true e)
no-full step n e = refl

no-claim : (step : Step) (n : ℕ) → tries_stopping step ≡ true → claims step n ≡ false
no-claim (ClaimBlock b) n e = absurd (false≢true e)
no-claim step n e = refl

pub no-raise : (step : Step) (n : ℕ) → stays_calm step ≡ true → raises_flag step n ≡ false
no-raise RaiseStep n e = absurd (false≢true e)
no-raise step n e = refl

pub tries-never-fill : (es : List Entry) → all_steps tries_stopping es ≡ true → never_fills es ≡ true
tries-never-fill es o = ap not (none-of-steps tries_stopping (moves_to Full) no-full es o)

pub tries-never-claim : (es : List Entry) → all_steps tries_stopping es ≡ true → never claims es ≡ true
tries-never-claim es o = ap not (none-of-steps tries_stopping claims no-claim es o)

pub goes-out : (v w : View) → Ran v w → Only stays_calm v w → GoesOut v w
goes-out v w r o =
    let keeps = only-more stays_calm keeps_section calm-keeps v w o in
    let tries = only-more stays_calm tries_stopping calm-tries v w o in
    record {
      ran = r;
      only = o;
      seat = keeps-seat v w r keeps;
      section = keeps-section v w r keeps;
      not_full = tries-never-fill (events v w) tries;
      calm = ap not (none-of-steps stays_calm raises_flag no-raise (events v w) o);
      unclaimed = tries-never-claim (events v w) tries;
    }

pub out-none : (v : View) → GoesOut v v
out-none v = goes-out v v (ran-refl v) (only-none stays_calm v)

pub out-join : (u v w : View) → GoesOut u v → GoesOut v w → GoesOut u w
out-join u v w a b = goes-out u w (ran-join u v w a.ran b.ran) (ran-only stays_calm u v w a.ran b.ran a.only b.only)
