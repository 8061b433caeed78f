-- What a seat does on its way that no plain heap sees.
use Rattle.std.proofs.Common.{ℕ, ◌≡◌, ◌∙◌, ap, refl, subst, sym, true, None, ⊎_elim, ◌+◌, length}
use Rattle.std.proofs.lemmas.Bool.{false≢true}
use Rattle.mark_core.specs.declared.kinds.Step.{Step}
use Rattle.mark_core.specs.declared.kinds.Step.TheVariants.{AddStat, ExchangeField, ExchangeValue, ReadSeason, StoreField, StoreNew, StoreRoot, StoreSlot, StoreValue, HoldRoot}
use Rattle.mark_core.specs.declared.seat.SeatState.{SeatState}
use Rattle.gc_table.specs.Log.{Only, events}
use Rattle.gc_table.specs.Running.{Ran}
use Rattle.gc_table.specs.Seats.{Found}
use Rattle.gc_table.specs.declared.view.View.{View}
use Rattle.gc_table.proofs.History.Log.{only-after, only-more, only-none}
use Rattle.gc_table.proofs.Running.{ran-found, ran-join, ran-only, ran-refl, ran-events}
use Rattle.gc_cycle.specs.Answering.{retires}
use Rattle.gc_cycle.specs.Sparing.{fills_part, spares_part}
use Rattle.gc_cycle.specs.Standing.{KeepsSeat}
use Rattle.seat_turns.specs.SeasonLooks.{LooksAtSeason}
use Rattle.seat_turns.specs.Sharing.{LeavesHeap, spares_heap, spares_tracers}
use Rattle.std.proofs.lemmas.List.{length-append}

fills_spares : (step : Step) → fills_part step ≡ true → spares_heap step ≡ true
fills_spares (StoreField v i w) e = absurd (false≢true e)
fills_spares (StoreValue v n) e = absurd (false≢true e)
fills_spares (StoreRoot v r) e = absurd (false≢true e)
fills_spares (HoldRoot v r) e = absurd (false≢true e)
fills_spares (StoreSlot k r) e = absurd (false≢true e)
fills_spares (ExchangeField v i x y) e = absurd (false≢true e)
fills_spares (ExchangeValue v m n) e = absurd (false≢true e)
fills_spares (StoreNew c part word) e = absurd (false≢true e)
fills_spares step e = refl

pub spared : (step : Step) → spares_part step ≡ true → spares_heap step ≡ true
spared (StoreField v i w) e = absurd (false≢true e)
spared (StoreValue v n) e = absurd (false≢true e)
spared (StoreRoot v r) e = absurd (false≢true e)
spared (HoldRoot v r) e = absurd (false≢true e)
spared (StoreSlot k r) e = absurd (false≢true e)
spared (ExchangeField v i x y) e = absurd (false≢true e)
spared (ExchangeValue v m n) e = absurd (false≢true e)
spared (StoreNew c part word) e = absurd (false≢true e)
spared step e = refl

pub retired : (step : Step) → retires step ≡ true → spares_heap step ≡ true
retired (StoreField v i w) e = absurd (false≢true e)
retired (StoreValue v n) e = absurd (false≢true e)
retired (StoreRoot v r) e = absurd (false≢true e)
retired (HoldRoot v r) e = absurd (false≢true e)
retired (StoreSlot k r) e = absurd (false≢true e)
retired (ExchangeField v i x y) e = absurd (false≢true e)
retired (ExchangeValue v m n) e = absurd (false≢true e)
retired (StoreNew c part word) e = absurd (false≢true e)
retired step e = refl

-- none of them counts a part
fills_tracers : (step : Step) → fills_part step ≡ true → spares_tracers step ≡ true
fills_tracers (AddStat which by down) e = e
fills_tracers step e = refl

part_tracers : (step : Step) → spares_part step ≡ true → spares_tracers step ≡ true
part_tracers (AddStat which by down) e = e
part_tracers step e = refl

retired_tracers : (step : Step) → retires step ≡ true → spares_tracers step ≡ true
retired_tracers (AddStat which by down) e = e
retired_tracers step e = refl

pub leaves-none : (v : View) → LeavesHeap v v
leaves-none v = record { ran = ran-refl v; only = only-none spares_heap v; tracers = only-none spares_tracers v; words = refl }

pub leaves-join : (u v w : View) → LeavesHeap u v → LeavesHeap v w → LeavesHeap u w
leaves-join u v w a b =
    record {
      ran = ran-join u v w a.ran b.ran;
      only = ran-only spares_heap u v w a.ran b.ran a.only b.only;
      tracers = ran-only spares_tracers u v w a.ran b.ran a.tracers b.tracers;
      words = b.words ∙ a.words;
    }

pub leaves-filled : (v w : View) → Ran v w → Only fills_part v w → KeepsSeat v w → LeavesHeap v w
leaves-filled v w ran only keeps = record { ran = ran; only = only-more fills_part spares_heap fills_spares v w only; tracers = only-more fills_part spares_tracers fills_tracers v w only; words = keeps.env }

pub leaves-spared : (v w : View) → Ran v w → Only spares_part v w → KeepsSeat v w → LeavesHeap v w
leaves-spared v w ran only keeps = record { ran = ran; only = only-more spares_part spares_heap spared v w only; tracers = only-more spares_part spares_tracers part_tracers v w only; words = keeps.env }

pub leaves-retired : (v w : View) → Ran v w → Only retires v w → w.state ≡ record v.state { cache = None } → LeavesHeap v w
leaves-retired v w ran only state = record { ran = ran; only = only-more retires spares_heap retired v w only; tracers = only-more retires spares_tracers retired_tracers v w only; words = ap (λ (s : SeatState). s.env) state }

pub leaves-looked : (v w : View) → LooksAtSeason v w → LeavesHeap v w
leaves-looked v w looks =
    ⊎_elim (λ (same : w ≡ v). subst (LeavesHeap v) (sym same) (leaves-none v))
    (λ (read : (n : ℕ) × Found ReadSeason n v w).
    record {
      ran = ran-found v w ReadSeason read.0 refl read.1;
      only = only-after spares_heap v w ReadSeason read.0 refl read.1.0;
      tracers = only-after spares_tracers v w ReadSeason read.0 refl read.1.0;
      words = ap (λ (y : View). y.state.env) read.1.0;
    })
    looks

-- one call after another
pub counts-join : (u v w : View) → Ran u v → Ran v w → length (events u w) ≡ length (events u v) + length (events v w)
counts-join u v w a b = ap length (ran-events u v w a b) ∙ length-append (events u v) (events v w)

pub ruleset leaving = (leaves-none, leaves-join, leaves-spared, leaves-retired, leaves-looked, ran-join, ran-found, counts-join)
