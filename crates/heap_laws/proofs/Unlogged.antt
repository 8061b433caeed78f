-- A seat with an empty log has assigned no variable, so none of its roots lags.
use Rattle.std.proofs.Common.{ℕ, zero, suc, ◌≡◌, List, [], ◌∷◌, ◌++◌, set, length, arith, refl, sym, ap, ◌∙◌, subst, Option, Some}
use Rattle.std.specs.Prelude.{IfSome, slice_get}
use Rattle.mark_core.specs.Effects.{seat_after}
use Rattle.mark_core.specs.Start.{spent_seat, start_seat}
use Rattle.mark_core.specs.Steps.{Core, after_event, run_of, start_core}
use Rattle.mark_core.specs.declared.kinds.Event.{Event}
use Rattle.mark_core.specs.declared.kinds.Shape.{Shape}
use Rattle.mark_core.specs.declared.kinds.Step.{Step}
use Rattle.mark_core.specs.declared.kinds.Step.TheVariants.{Join, Split}
use Rattle.mark_core.specs.declared.seat.SeatState.{SeatState}
use Rattle.mark_core.proofs.Known.{found, seats_left}
use Rattle.mark_core.proofs.Lagging.{Shows}
use Rattle.mark_core.proofs.Blocks.BlocksStopped.{kept-after}
use Rattle.gc_table.specs.Past.{adds, entries_of, log_from, log_of}
use Rattle.gc_table.specs.Runs.{AreAllowed}
use Rattle.gc_table.specs.declared.view.Entry.{Entry}
use Rattle.gc_table.proofs.Counted.{own_adds}
use Rattle.gc_table.proofs.History.Past.{run-first}
use Rattle.gc_table.proofs.Lending.{Sound, later-sound}
use Rattle.heap_laws.specs.Moments.{IsHistory}
use Rattle.heap_laws.proofs.Moments.{each-allowed}

-- a record is written, or added
set_shows : (xs : List SeatState) (i k : ℕ) (t : SeatState) → (k ≡ i → Shows t) → IfSome (slice_get xs k) Shows → IfSome (slice_get (set xs i t) k) Shows
set_shows [] i zero t new a = tt
set_shows [] i (suc k) t new a = tt
set_shows (x ∷ xs) zero zero t new a = new refl
set_shows (x ∷ xs) zero (suc k) t new a = a
set_shows (x ∷ xs) (suc i) zero t new a = a
set_shows (x ∷ xs) (suc i) (suc k) t new a = set_shows xs i k t (λ e. new (ap (λ (n : ℕ). suc n) e)) a

more_shows : (xs : List SeatState) (k : ℕ) (t : SeatState) → Shows t → IfSome (slice_get xs k) Shows → IfSome (slice_get (xs ++ t ∷ []) k) Shows
more_shows [] zero t new a = new
more_shows [] (suc zero) t new a = tt
more_shows [] (suc (suc k)) t new a = tt
more_shows (x ∷ xs) zero t new a = a
more_shows (x ∷ xs) (suc k) t new a = more_shows xs k t new a

no_entry : (x : Entry) (xs : List Entry) → x ∷ xs ≡ [] → ⊥
no_entry x xs e = let long = ap length e in omega (arith, long)

split_none : (xs ys : List Entry) → xs ++ ys ≡ [] → (xs ≡ []) × (ys ≡ [])
split_none [] ys e = (refl, e)
split_none (x ∷ xs) ys e = absurd (no_entry x (xs ++ ys) e)

-- a step, if the log of seat k gets nothing from it
step_shows : (c : Core) (i : ℕ) (s : SeatState) (step : Step) (k : ℕ) → slice_get c.seats i ≡ Some s → (k ≡ i → entries_of c (Some s) step ≡ []) → IfSome (slice_get c.seats k) Shows → IfSome (slice_get (seats_left c i s step) k) Shows
step_shows c i s Split k got none a =
    more_shows (set c.seats i s) k (start_seat c.shape (length (set c.seats i s))) refl
    (set_shows c.seats i k s (λ e. subst (λ (o : Option SeatState). IfSome o Shows) (ap (slice_get c.seats) e ∙ got) a) a)
step_shows c i s (Join other) k got none a =
    set_shows (set c.seats i s) other k (spent_seat c.shape other) (λ e. refl)
    (set_shows c.seats i k s (λ e. subst (λ (o : Option SeatState). IfSome o Shows) (ap (slice_get c.seats) e ∙ got) a) a)
step_shows c i s step k got none a = set_shows c.seats i k (seat_after c.shape s step (found c s step)) (λ e. absurd (no_entry _ [] (none e))) a

shows_on : (es : List Event) (c : Core) (k : ℕ) → Sound c es → AreAllowed c es → log_from k c es ≡ [] → IfSome (slice_get c.seats k) Shows → IfSome (slice_get (run_of es c).seats k) Shows
shows_on [] c k sound ok none a = a
shows_on (e ∷ es) c k sound ok none a =
    let d : Core = after_event c e in
    let parts = split_none (adds k c e) (log_from k d es) none in
    let next : IfSome (slice_get d.seats k) Shows =
    kept-after (λ sh w seats. IfSome (slice_get seats k) Shows) c e (sound 0) ok.0
    (λ s acted t. step_shows c e.seat s e.step k t.got (λ same. sym (own_adds c e s t.got) ∙ (sym (ap (λ (j : ℕ). adds j c e) same) ∙ parts.0)) a) in
    subst (λ (x : Core). IfSome (slice_get x.seats k) Shows) (sym (run-first c e es ok.0)) (shows_on es d k (later-sound c e es ok.0 sound) ok.1 parts.1 next)

start_shows : (sh : Shape) (k : ℕ) → IfSome (slice_get (start_core sh 1).seats k) Shows
start_shows sh zero = refl
start_shows sh (suc zero) = tt
start_shows sh (suc (suc k)) = tt

pub unlogged-shows : (sh : Shape) (es : List Event) (k : ℕ) → IsHistory sh es → log_of sh es k ≡ [] → IfSome (slice_get (run_of es (start_core sh 1)).seats k) Shows
unlogged-shows sh es k h none = shows_on es (start_core sh 1) k h.sound (each-allowed sh es h) none (start_shows sh k)
