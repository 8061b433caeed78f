-- What the seat of section 0 does until the world is open.
use Rattle.std.proofs.Common.{ℕ, ◌≡◌, ◌<◌, ◌∙◌, List, [], ◌∷◌, ◌++◌, ap, refl, subst, sym, Bool, true, ⊎_elim}
use Rattle.std.proofs.lemmas.Bool.{and_from, and_parts, false≢true}
use Rattle.mark_core.specs.declared.kinds.Step.{Step}
use Rattle.mark_core.specs.declared.kinds.Step.TheVariants.{NextSeason, ReadSeason, StoreField, StoreValue, StoreRoot, StoreSlot, ExchangeField, ExchangeValue, StoreNew, StorePhase, HoldRoot}
use Rattle.alloc_cache.specs.Claiming.{Claims, claimed_by, seeks_block}
use Rattle.alloc_cache.specs.Retiring.{retiring_steps}
use Rattle.alloc_cache.specs.declared.cache.Cache.{Cache}
use Rattle.gc_table.specs.Log.{Only, all_steps, events, steps_of}
use Rattle.gc_table.specs.Running.{Ran}
use Rattle.gc_table.specs.Seats.{Found, Took}
use Rattle.gc_table.specs.declared.view.Entry.{Entry}
use Rattle.gc_table.specs.declared.view.View.{View}
use Rattle.gc_table.proofs.History.Log.{only-after, only-more, only-none}
use Rattle.gc_table.proofs.Running.{ran-found, ran-join, ran-only, ran-refl}
use Rattle.gc_cycle.specs.Answering.{retires}
use Rattle.gc_cycle.specs.Sparing.{spares_part}
use Rattle.gc_cycle.proofs.Refills.Retired.{retired-only}
use Rattle.mutator_ops.specs.Flushing.{Flushes}
use Rattle.mutator_ops.specs.Sharing.{ShareCreates}
use Rattle.seat_turns.proofs.Held.{flushes-leave}
use Rattle.seat_turns.specs.Sharing.{spares_heap}
use Rattle.seat_turns.specs.SeasonLooks.{LooksAtSeason}
use Rattle.shared_heap.specs.Rooting.{MakesRoot, Spares, SparesSeason, spares_season}

entered : (step : Step) → spares_part step ≡ true → spares_season step ≡ true
entered (StorePhase to) e = refl
entered (StoreField v i w) e = absurd (false≢true e)
entered (StoreValue v n) e = absurd (false≢true e)
entered (StoreRoot v r) e = absurd (false≢true e)
entered (HoldRoot v r) e = absurd (false≢true e)
entered (StoreSlot k r) e = absurd (false≢true e)
entered (ExchangeField v i x y) e = absurd (false≢true e)
entered (ExchangeValue v m n) e = absurd (false≢true e)
entered (StoreNew c part word) e = absurd (false≢true e)
entered NextSeason e = absurd (false≢true e)
entered step e = refl

sought : (step : Step) → seeks_block step ≡ true → spares_season step ≡ true
sought (StoreField v i w) e = absurd (false≢true e)
sought (StoreValue v n) e = absurd (false≢true e)
sought (StoreRoot v r) e = absurd (false≢true e)
sought (HoldRoot v r) e = absurd (false≢true e)
sought (StoreSlot k r) e = absurd (false≢true e)
sought (ExchangeField v i x y) e = absurd (false≢true e)
sought (ExchangeValue v m n) e = absurd (false≢true e)
sought (StoreNew c part word) e = absurd (false≢true e)
sought NextSeason e = absurd (false≢true e)
sought step e = refl

retired : (step : Step) → retires step ≡ true → spares_heap step ≡ true
retired (StoreField v i w) e = absurd (false≢true e)
retired (StoreValue v n) e = absurd (false≢true e)
retired (StoreRoot v r) e = absurd (false≢true e)
retired (HoldRoot v r) e = absurd (false≢true e)
retired (StoreSlot k r) e = absurd (false≢true e)
retired (ExchangeField v i x y) e = absurd (false≢true e)
retired (ExchangeValue v m n) e = absurd (false≢true e)
retired (StoreNew c part word) e = absurd (false≢true e)
retired step e = refl

pub all-join : (P : Step → Bool) (xs ys : List Entry) → all_steps P xs ≡ true → all_steps P ys ≡ true → all_steps P (xs ++ ys) ≡ true
all-join P [] ys a b = b
all-join P (x ∷ xs) ys a b = let p = and_parts (P x.step) (all_steps P xs) a in and_from (P x.step) (all_steps P (xs ++ ys)) p.0 (all-join P xs ys p.1 b)

pub all-more : (P Q : Step → Bool) → ((step : Step) → P step ≡ true → Q step ≡ true) → (xs : List Entry) → all_steps P xs ≡ true → all_steps Q xs ≡ true
all-more P Q h [] a = refl
all-more P Q h (x ∷ xs) a = let p = and_parts (P x.step) (all_steps P xs) a in and_from (Q x.step) (all_steps Q xs) (h x.step p.0) (all-more P Q h xs p.1)

-- one thing after the other
pub spares-join : (u v w : View) → Spares u v → Spares v w → Spares u w
spares-join u v w a b = record { ran = ran-join u v w a.ran b.ran; only = ran-only spares_heap u v w a.ran b.ran a.only b.only }

pub season-join : (u v w : View) → SparesSeason u v → SparesSeason v w → SparesSeason u w
season-join u v w a b = record { ran = ran-join u v w a.ran b.ran; only = ran-only spares_season u v w a.ran b.ran a.only b.only }

season_none : (v : View) → SparesSeason v v
season_none v = record { ran = ran-refl v; only = only-none spares_season v }

-- one step
pub spares-took : (v w : View) (step : Step) → spares_heap step ≡ true → Ran v w → Took step v w → Spares v w
spares-took v w step k ran t = record { ran = ran; only = only-after spares_heap v w step t.0 k t.1.0 }

-- the seat went in and read the season
pub season-entered : (u v w : View) → Ran u v → Only spares_part u v → LooksAtSeason v w → SparesSeason u w
season-entered u v w ran only looks =
    season-join u v w (record { ran = ran; only = only-more spares_part spares_season entered u v only })
    (⊎_elim (λ (same : w ≡ v). subst (SparesSeason v) (sym same) (season_none v))
    (λ (read : (n : ℕ) × Found ReadSeason n v w). record { ran = ran-found v w ReadSeason read.0 refl read.1; only = only-after spares_season v w ReadSeason read.0 refl read.1.0 }) looks)

-- a block was claimed
pub season-claimed : (h : Cache) (v w : View) → Ran v w → Claims h v w → SparesSeason v w
season-claimed h v w ran k =
    let f = k.events_are in
    record { ran = ran; only = ap (all_steps spares_season) f.3 ∙ all-join spares_season f.0 (claimed_by h f.1 f.2) (all-more seeks_block spares_season sought f.0 f.5) refl }

-- the root was made and stored, and then the cache given up
pub makes-retired : (h : Cache) (used cell : ℕ) (v w x y : View) → cell < v.shape.cells → ShareCreates 0 0 cell v w → Flushes w x → Ran x y → steps_of (events x y) ≡ retiring_steps h used → MakesRoot v y
makes-retired h used cell v w x y inside creates flush ran steps =
    record {
      before = v;
      comes = season_none v;
      cell = cell;
      inside = inside;
      made = w;
      creates = creates;
      rest = spares-join w x y (record { ran = flush.ran; only = (flushes-leave w x flush).only }) (record { ran = ran; only = only-more retires spares_heap retired x y (retired-only x y h used steps) });
    }

-- after what no plain heap sees
pub makes-after : (u v w : View) → SparesSeason u v → MakesRoot v w → MakesRoot u w
makes-after u v w a m = record { before = m.before; comes = season-join u v m.before a m.comes; cell = m.cell; inside = m.inside; made = m.made; creates = m.creates; rest = m.rest }

-- and before it
pub makes-then : (u v w : View) → MakesRoot u v → Spares v w → MakesRoot u w
makes-then u v w m b = record { before = m.before; comes = m.comes; cell = m.cell; inside = m.inside; made = m.made; creates = m.creates; rest = spares-join m.made v w m.rest b }

pub makes-ran : (u w : View) → MakesRoot u w → Ran u w
makes-ran u w m = ran-join u m.before w m.comes.ran (ran-join m.before m.made w m.creates.ran m.rest.ran)
