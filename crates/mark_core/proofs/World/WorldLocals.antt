-- Each step that is allowed keeps what its seat doesn't have outside the world, and unless it is active.
use Rattle.std.proofs.Common.{ℕ, ◌≡◌, List, arith, refl, sym, ap, ◌∙◌, Bool, true, false, not, ◌&&◌, ◌||◌, cond, eqb, Option, Some, None, ⊎_elim}
use Rattle.std.specs.Prelude.{IsTrue, IsFalse, is_some, is_none, nat_lt}
use Rattle.std.proofs.lemmas.Bool.{cases_Bool, and_parts, not-true, true≢false, false≢true, or_cases, eqb-true, ltb-true}
use Rattle.mark_core.specs.Layout.{Words}
use Rattle.mark_core.specs.Held.{holds_any}
use Rattle.mark_core.specs.Seats.{takes_part, may_sweep, may_clear, work_in_hand, has_used, has_making, is_unread, empty_handed}
use Rattle.mark_core.specs.Steps.ColourSteps.{may_read_field}
use Rattle.mark_core.specs.Steps.MutatorSteps.{with_free, without_used}
use Rattle.mark_core.specs.Parts.{parts}
use Rattle.mark_core.specs.Effects.{seat_after}
use Rattle.mark_core.specs.Steps.{AllTrue}
use Rattle.mark_core.specs.Views.{standing_of}
use Rattle.mark_core.proofs.Count.CountMoves.{bit}
use Rattle.mark_core.proofs.Count.CountWork.{work-reads}
use Rattle.mark_core.proofs.Pool.PoolSlots.{any-held}
use Rattle.mark_core.proofs.World.WorldMoves.{Fits}
use Rattle.mark_core.proofs.World.WorldNumbers.{Local, inside, stays, mutates, tracer-in, sweeper-in, runner-in, holder-in, worker-in, block-in, cache-in, bare-out, part-from_active, none-takes}
use Rattle.mark_core.proofs.Basics.{none-is, or-second}
use Rattle.mark_core.specs.declared.kinds.Shape.{Shape}
use Rattle.mark_core.specs.declared.kinds.Step.{Step}
use Rattle.mark_core.specs.declared.kinds.Step.TheVariants.{Reserve, Take, Give, Credit, Push, Pop, ReadAlloc, ReadField, ReadRoot, SetMark, DirtyCard, ClearCard, ReadMarks, ReadPhase, ReadOwn, ReadCat, StoreField, StoreRoot, ClaimBlock, ReleaseBlock, ReadFree, StoreNew, PublishCells, EnterStep, LeaveStep, Observe, DropStep, NextBlock, ReadBlockMarks, StoreAlloc, ClearMarks, StoreLength, ReadLength, JoinHelpStep, LeaveHelpStep, ExchangeField, LoadSlot, StoreSlot, ReadSlot, ReadWeak, CheckCard, HoldRoot, FlushRoot}
use Rattle.mark_core.specs.declared.seat.SeatState.{SeatState}
use Rattle.mark_core.specs.declared.seat.CacheState.{CacheState}
use Rattle.mark_core.specs.Bits.{flag}

-- an admitted seat is neither active nor knows that the world is stopped
not_admitted : (s : SeatState) (P : Type 0) → Fits (standing_of s) → (s.active || s.knows) ≡ true → IsTrue s.admitted → P
not_admitted s P f e a =
    absurd
    (⊎_elim
    (λ (h : s.active ≡ true). omega (arith, ap bit h, ap bit a, f.active_counted, f.one_role))
    (λ (h : s.knows ≡ true). omega (arith, ap bit h, ap bit a, f.knows_raised, f.one_role))
    (or_cases s.active s.knows e))

-- a cache whose free cells were read
free_used : (o : Option CacheState) (word : ℕ) → has_used (with_free o word) ≡ has_used o
free_used None word = refl
free_used (Some x) word = refl

free_making : (o : Option CacheState) (word : ℕ) → has_making (with_free o word) ≡ has_making o
free_making None word = refl
free_making (Some x) word = refl

unread_there : (o : Option CacheState) → is_unread o ≡ true → is_some o ≡ true
unread_there None e = absurd (false≢true e)
unread_there (Some x) e = refl

-- a cache whose used cells were published
published_used : (o : Option CacheState) → has_used (without_used o) ≡ false
published_used None = refl
published_used (Some x) = refl

published_making : (o : Option CacheState) → has_making (without_used o) ≡ has_making o
published_making None = refl
published_making (Some x) = refl

no_cache : (o : Option CacheState) (P : Type 0) → is_some o ≡ true → o ≡ None → P
no_cache o P e f = absurd (true≢false (sym e ∙ ap is_some f))

-- a claimed cache has no cell
claimed_used : (b : Bool) (x : CacheState) (o : Option CacheState) → eqb x.used 0 ≡ true → IsFalse (has_used o) → IsFalse (has_used (cond b (Some x) o))
claimed_used true x o e h = rw e refl
claimed_used false x o e h = h

claimed_making : (b : Bool) (x : CacheState) (o : Option CacheState) → x.making ≡ None → IsFalse (has_making o) → IsFalse (has_making (cond b (Some x) o))
claimed_making true x o e h = rw e refl
claimed_making false x o e h = h

none_of : (a k d : Bool) → (a || k || d) ≡ false → (a ≡ false) × (k ≡ false) × (d ≡ false)
none_of true k d e = absurd (true≢false e)
none_of false true d e = absurd (true≢false e)
none_of false false d e = (refl, refl, e)

observed_out : (a k d z : Bool) → (a || (k || z) || d) ≡ false → (a || k || d) ≡ false
observed_out true k d z e = absurd (true≢false e)
observed_out false true d z e = absurd (true≢false e)
observed_out false false d true e = absurd (true≢false e)
observed_out false false d false e = e

empty_parts : (s : SeatState) → empty_handed s ≡ true → IsFalse (holds_any s.held) × IsFalse s.reserved × IsFalse s.credit
empty_parts s e =
    let a = and_parts (not (holds_any s.held) && not s.reserved) (not s.credit) e in
    let b = and_parts (not (holds_any s.held)) (not s.reserved) a.0 in
    (not-true _ b.0, not-true _ b.1, not-true _ a.1)

-- the seat's facts after its step
pub local-at : (sh : Shape) (w : Words) (seats : List SeatState) (s : SeatState) (step : Step) (old : ℕ) → Local sh s → Fits (standing_of s) → (IsTrue s.active → s.block ≡ None) → AllTrue (parts sh w seats s step) → Local sh (seat_after sh s step old)
local-at sh w seats s Reserve old k f b ok = stays sh s (seat_after sh s Reserve old) k (tracer-in w.phase s ok.0) refl refl refl (λ a. (k.calm a).0) refl refl
local-at sh w seats s (Take q p) old k f b ok = stays sh s (seat_after sh s (Take q p) old) k (tracer-in w.phase s (and_parts _ _ ok.0).1) refl refl refl (λ a. (k.calm a).0) refl refl
local-at sh w seats s (Give p d) old k f b ok = stays sh s (seat_after sh s (Give p d) old) k (holder-in sh s k (any-held s.held p (and_parts _ _ ok.0).1)) refl refl refl (λ a. (k.calm a).0) refl refl
local-at sh w seats s Credit old k f b ok =
    record {
      outside = λ e. let o = k.outside e in (o.0, refl, refl, o.3, o.4, o.5);
      calm = k.calm;
      unseen = k.unseen;
      uncached = k.uncached;
    }
local-at sh w seats s (Push p c) old k f b ok = stays sh s (seat_after sh s (Push p c) old) k (holder-in sh s k (any-held s.held p (and_parts _ _ ok.0).1)) refl refl refl (λ a. (k.calm a).0) refl refl
local-at sh w seats s (Pop p) old k f b ok = stays sh s (seat_after sh s (Pop p) old) k (holder-in sh s k (any-held s.held p (and_parts _ _ ok.0).1)) refl refl refl (λ a. (k.calm a).0) refl refl
local-at sh w seats s (StoreLength p) old k f b ok = stays sh s (seat_after sh s (StoreLength p) old) k (holder-in sh s k (any-held s.held p (and_parts _ _ ok.0).1)) refl refl refl (λ a. (k.calm a).0) refl refl
local-at sh w seats s (ReadLength p) old k f b ok = stays sh s (seat_after sh s (ReadLength p) old) k (holder-in sh s k (any-held s.held p (and_parts _ _ ok.0).1)) refl refl refl (λ a. (k.calm a).0) refl refl
local-at sh w seats s (ReadAlloc g) old k f b ok = stays sh s (seat_after sh s (ReadAlloc g) old) k (and_parts _ _ ok.0).1 refl refl refl (λ a. (k.calm a).0) refl refl
local-at sh w seats s (ReadField c i) old k f b ok =
    let range = and_parts (nat_lt c sh.cells && nat_lt i sh.fields) (may_read_field sh s c i) ok.0 in
    let cell = and_parts (nat_lt c sh.cells) (nat_lt i sh.fields) range.0 in
    stays sh s (seat_after sh s (ReadField c i) old) k (worker-in sh s k (work-reads sh s c i (ltb-true i sh.fields cell.1) range.1)) refl refl refl (λ a. (k.calm a).0) refl refl
local-at sh w seats s (ReadRoot section v) old k f b ok = stays sh s (seat_after sh s (ReadRoot section v) old) k (tracer-in w.phase s (and_parts _ _ (and_parts _ _ ok.0).0).1) refl refl refl (λ a. (k.calm a).0) refl refl
local-at sh w seats s (LoadSlot section j) old k f b ok = stays sh s (seat_after sh s (LoadSlot section j) old) k (tracer-in w.phase s (and_parts _ _ (and_parts _ _ ok.0).0).1) refl refl refl (λ a. (k.calm a).0) refl refl
local-at sh w seats s (SetMark c) old k f b ok = stays sh s (seat_after sh s (SetMark c) old) k (tracer-in w.phase s ok.1.0) refl refl refl (λ a. (k.calm a).0) refl refl
local-at sh w seats s (DirtyCard card) old k f b ok =
    stays sh s (seat_after sh s (DirtyCard card) old) k (and_parts _ _ ok.0).1 refl refl refl (λ a. rw (k.calm a).0 refl) refl refl
local-at sh w seats s (CheckCard card) old k f b ok =
    stays sh s (seat_after sh s (CheckCard card) old) k (and_parts _ _ ok.0).1 refl refl refl (λ a. rw (k.calm a).0 refl) refl refl
local-at sh w seats s (ClearCard card) old k f b ok =
    stays sh s (seat_after sh s (ClearCard card) old) k (tracer-in w.phase s (and_parts _ _ (and_parts _ _ ok.0).0).1) refl refl refl (λ a. (k.calm a).0) refl refl
local-at sh w seats s (ReadMarks g) old k f b ok = stays sh s (seat_after sh s (ReadMarks g) old) k (and_parts _ _ ok.0).1 refl refl refl (λ a. (k.calm a).0) refl refl
local-at sh w seats s ReadPhase old k f b ok = record { outside = k.outside; calm = k.calm; unseen = λ e. rw e (k.unseen e); uncached = k.uncached }
local-at sh w seats s (ReadOwn c i) old k f b ok =
    let run = (and_parts s.active _ (and_parts _ _ ok.0).1).0 in
    mutates sh s (seat_after sh s (ReadOwn c i) old) k run (runner-in s run) refl refl k.uncached refl
local-at sh w seats s (ReadCat v) old k f b ok =
    let run = (and_parts s.active _ (and_parts _ _ ok.0).1).0 in
    mutates sh s (seat_after sh s (ReadCat v) old) k run (runner-in s run) refl refl k.uncached refl
local-at sh w seats s (StoreField v i x) old k f b ok =
    let run = (and_parts s.active _ (and_parts _ _ ok.0).1).0 in
    mutates sh s (seat_after sh s (StoreField v i x) old) k run (runner-in s run) refl refl k.uncached refl
local-at sh w seats s (ExchangeField v i x y) old k f b ok =
    let run = (and_parts s.active _ (and_parts _ _ ok.0).1).0 in
    mutates sh s (seat_after sh s (ExchangeField v i x y) old) k run (runner-in s run) refl refl k.uncached refl
local-at sh w seats s (StoreRoot v r) old k f b ok =
    let run = (and_parts s.active _ (and_parts _ _ ok.0).1).0 in
    mutates sh s (seat_after sh s (StoreRoot v r) old) k run (runner-in s run) refl refl k.uncached refl
local-at sh w seats s (FlushRoot v) old k f b ok =
    let run = (and_parts s.active _ (and_parts _ _ ok.0).1).0 in
    mutates sh s (seat_after sh s (FlushRoot v) old) k run (runner-in s run) refl refl k.uncached refl
local-at sh w seats s (HoldRoot v r) old k f b ok =
    let run = (and_parts s.active _ (and_parts _ _ ok.0).1).0 in
    mutates sh s (seat_after sh s (HoldRoot v r) old) k run (runner-in s run) refl refl k.uncached refl
local-at sh w seats s (StoreSlot j r) old k f b ok =
    let run = (and_parts s.active _ (and_parts _ _ ok.0).1).0 in
    mutates sh s (seat_after sh s (StoreSlot j r) old) k run (runner-in s run) refl refl k.uncached refl
local-at sh w seats s (ReadSlot j) old k f b ok =
    let run = (and_parts s.active _ (and_parts _ _ ok.0).1).0 in
    mutates sh s (seat_after sh s (ReadSlot j) old) k run (runner-in s run) refl refl k.uncached refl
local-at sh w seats s (ReadWeak c) old k f b ok =
    let run = (and_parts s.active _ (and_parts _ _ ok.0).1).0 in
    mutates sh s (seat_after sh s (ReadWeak c) old) k run (runner-in s run) refl refl k.uncached refl
local-at sh w seats s (ClaimBlock g) old k f b ok =
    let who = (and_parts (s.active || s.knows) _ ok.1.0).0 in
    record {
      outside = inside s _ (part-from_active s.active s.knows s.admitted who);
      calm = λ e. let c = k.calm e in (c.0, claimed_used (eqb old 0) (record { block = g; unread = true; free = 0; used = 0; making = None; last = None }) s.cache refl c.1, claimed_making (eqb old 0) (record { block = g; unread = true; free = 0; used = 0; making = None; last = None }) s.cache refl c.2, c.3);
      unseen = k.unseen;
      uncached = not_admitted s _ f who;
    }
local-at sh w seats s ReleaseBlock old k f b ok =
    record {
      outside = λ e. let o = k.outside e in (o.0, o.1, o.2, o.3, refl, o.5);
      calm = λ e. let c = k.calm e in (c.0, refl, refl, c.3);
      unseen = k.unseen;
      uncached = λ e. refl;
    }
local-at sh w seats s ReadFree old k f b ok =
    let there = unread_there s.cache ok.0 in
    record {
      outside = inside s _ (cache-in sh s k there);
      calm = λ e. let c = k.calm e in (c.0, free_used s.cache old ∙ c.1, free_making s.cache old ∙ c.2, c.3);
      unseen = k.unseen;
      uncached = λ e. no_cache s.cache _ there (k.uncached e);
    }
local-at sh w seats s (StoreNew c part word) old k f b ok =
    let run = (and_parts s.active _ (and_parts _ _ ok.0).1).0 in
    mutates sh s (seat_after sh s (StoreNew c part word) old) k run (runner-in s run) refl refl (not_admitted s _ f (ap (λ a. a || s.knows) run)) refl
local-at sh w seats s PublishCells old k f b ok =
    record {
      outside = inside s _ (cache-in sh s k ok.0);
      calm = λ e. let c = k.calm e in (c.0, published_used s.cache, published_making s.cache ∙ c.2, c.3);
      unseen = k.unseen;
      uncached = λ e. no_cache s.cache _ ok.0 (k.uncached e);
    }
local-at sh w seats s EnterStep old k f b ok =
    let out = bare-out s f ok.0 in
    let nothing = none_of s.active s.knows s.admitted out in
    record { outside = λ e. k.outside out; calm = λ e. k.calm nothing.0; unseen = λ e. k.unseen out; uncached = k.uncached }
local-at sh w seats s LeaveStep old k f b ok =
    let empty = empty_parts s ok.1.0 in
    let rest = and_parts (is_none s.owes && is_none s.cache) (eqb s.got 0) (and_parts (is_none s.owes && is_none s.cache && eqb s.got 0) (eqb s.lags 0) ok.1.1.1.0).0 in
    let owes = none-is s.owes (and_parts (is_none s.owes) (is_none s.cache) rest.0).0 in
    let cache = none-is s.cache (and_parts (is_none s.owes) (is_none s.cache) rest.0).1 in
    let block : s.block ≡ None =
    ⊎_elim
    (λ (e : s.active ≡ true). b e)
    (λ (e : s.active ≡ false). (k.outside (none-takes s.active s.knows s.admitted (omega (arith, ap bit e, ap bit ok.0, f.one_role, f.knows_raised)))).5)
    (cases_Bool s.active) in
    record {
      outside = λ e. (empty.0, empty.1, empty.2, not-true _ ok.1.1.0, cache, block);
      calm = λ e. (owes, ap has_used cache, ap has_making cache, eqb-true s.got 0 rest.1);
      unseen = λ e. refl;
      uncached = λ e. cache;
    }
local-at sh w seats s Observe old k f b ok =
    let still = λ (e : IsFalse (s.active || (s.knows || (s.raised && eqb old flag)) || s.admitted)). observed_out s.active s.knows s.admitted (s.raised && eqb old flag) e in
    record { outside = λ e. k.outside (still e); calm = k.calm; unseen = λ e. k.unseen (still e); uncached = k.uncached }
local-at sh w seats s DropStep old k f b ok = record { outside = λ e. absurd (true≢false e); calm = λ e. absurd (true≢false e); unseen = λ e. absurd (true≢false e); uncached = k.uncached }
local-at sh w seats s NextBlock old k f b ok =
    let part : takes_part s ≡ true =
    ⊎_elim
    (λ (e : may_sweep w.phase s ≡ true). sweeper-in w.phase s e)
    (λ (e : may_clear w.phase s ≡ true). or-second s.active s.knows s.admitted (and_parts s.knows _ e).0)
    (or_cases (may_sweep w.phase s) (may_clear w.phase s) ok.0) in
    stays sh s (seat_after sh s NextBlock old) k part refl refl refl (λ a. (k.calm a).0) refl refl
local-at sh w seats s ReadBlockMarks old k f b ok =
    stays sh s (seat_after sh s ReadBlockMarks old) k (block-in sh s k (and_parts _ _ ok.0).0) refl refl refl (λ a. (k.calm a).0) refl refl
local-at sh w seats s StoreAlloc old k f b ok = stays sh s (seat_after sh s StoreAlloc old) k (sweeper-in w.phase s ok.0) refl refl refl (λ a. (k.calm a).0) refl refl
local-at sh w seats s ClearMarks old k f b ok = stays sh s (seat_after sh s ClearMarks old) k (block-in sh s k ok.0) refl refl refl (λ a. (k.calm a).0) refl refl
local-at sh w seats s JoinHelpStep old k f b ok =
    let out = bare-out s f ok.0 in
    record { outside = λ e. k.outside out; calm = k.calm; unseen = λ e. k.unseen out; uncached = λ e. (k.outside out).4 }
local-at sh w seats s LeaveHelpStep old k f b ok =
    let empty = empty_parts s ok.1.0 in
    let rest = and_parts (not (work_in_hand sh.fields s)) (is_none s.block) ok.1.1.0 in
    let cache = λ (e : IsFalse (s.active || s.knows || false)).
    ⊎_elim
    (λ (a : s.admitted ≡ true). k.uncached a)
    (λ (a : s.admitted ≡ false). (k.outside (rw a e)).4)
    (cases_Bool s.admitted) in
    record {
      outside = λ e. (empty.0, empty.1, empty.2, not-true _ rest.0, cache e, none-is s.block rest.1);
      calm = k.calm;
      unseen = λ e. refl;
      uncached = λ e. absurd (false≢true e);
    }
local-at sh w seats s step old k f b ok = record { outside = k.outside; calm = k.calm; unseen = k.unseen; uncached = k.uncached }
