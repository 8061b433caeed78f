-- The words for which another seat is steady stay.
use Rattle.std.proofs.Common.{ℕ, ◌≡◌, zero, suc, ◌+◌, ◌<◌, ◌≤◌, arith, refl, sym, ap, ◌∙◌, Bool, true, false, not, ◌&&◌, ◌||◌, cond, eqb, ⊎_elim, ◌≢◌, List, set, get_or, subst, Some}
use Rattle.std.specs.Prelude.{IsTrue, IsFalse, is_some, nat_le, slice_index}
use Rattle.std.proofs.lemmas.Bool.{cases_Bool, and_parts, or_cases, or_from, or_parts, false_from_ne_true, eqb-true, ne_eqb, leb-true, true≢false, false≢true, cases_eq, eq-eqb}
use Rattle.mark_core.specs.Places.{counter_at}
use Rattle.mark_core.specs.Held.{holds, holds_any}
use Rattle.mark_core.specs.Seats.{takes_part, may_sweep, may_clear}
use Rattle.mark_core.specs.Rules.WorldRules.{IsEmpty}
use Rattle.mark_core.specs.Notes.{steady, keeps_phase, word_at}
use Rattle.mark_core.specs.Effects.{place, written}
use Rattle.mark_core.specs.Steps.{Core, after_of, after_event}
use Rattle.mark_core.proofs.Known.{found, Acted, acts}
use Rattle.mark_core.proofs.Count.CountMoves.{follows}
use Rattle.mark_core.proofs.Writing.Writes.{at_part}
use Rattle.mark_core.proofs.Pool.PoolSlots.{any-held}
use Rattle.mark_core.proofs.World.WorldNumbers.{tracer-in, sweeper-in, runner-in, part-from_active}
use Rattle.mark_core.proofs.Blocks.BlocksStopped.{Taken, mine, in-place}
use Rattle.mark_core.proofs.Blocks.BlocksWords.{statistic}
use Rattle.mark_core.proofs.Notes.NotesBeside.{Beside, Sits, sits, beside}
use Rattle.mark_core.proofs.Basics.{or-second}
use Rattle.mark_core.specs.declared.kinds.Phase.{Phase}
use Rattle.mark_core.specs.declared.kinds.Phase.TheVariants.{Idle, Marking, Drain, Sweep, Clear, Full}
use Rattle.mark_core.specs.declared.kinds.Step.{Step}
use Rattle.mark_core.specs.declared.kinds.Step.TheVariants.{Reserve, Take, Give, Credit, Push, SetMark, DirtyCard, ClearCard, StoreField, StoreValue, StoreRoot, ClaimBlock, ReleaseBlock, StoreNew, PublishCells, EnterStep, LeaveStep, RaiseStep, DropStep, StorePhase, NextBlock, NextOfCards, StoreAlloc, ClearMarks, WipeCard, StorePosition, StoreNamed, Reset, AddStat, StoreLength, OpenStep, JoinHelpStep, LeaveHelpStep, CloseStep, NextSeason, ExchangeField, ExchangeValue, StoreSlot, FlushRoot}
use Rattle.mark_core.specs.declared.seat.SeatState.{SeatState}
use Rattle.mark_core.specs.Numbers.{done_count, last_count, free_count}
use Rattle.std.proofs.lemmas.List.{get_or-set_other, get_or-take, set-get_or}
use Rattle.mark_core.specs.Layout.{address, region_sizes, region_words}
use Rattle.mark_core.specs.Laws.{EventsKeepNotes}
use Rattle.mark_core.proofs.Writing.Places.{words-get, region-put}
use Rattle.mark_core.proofs.Writing.Ranges.{IsPlace}
use Rattle.mark_core.specs.declared.kinds.Shape.{Shape}

-- Who may write which word: a step of one seat leaves each word for which another seat is steady.
-- a word for which the seat is steady only if it is alone
abbrev IsPlain : SeatState → ℕ × ℕ → ℕ → Type 0
IsPlain t at word = steady t at word ≡ true → (t.alone || false) ≡ true

-- the seat that acts, and another that is steady
pub record Acts (c : Core) (i : ℕ) (s : SeatState) (step : Step) (t : SeatState) : Type 0 where
  pub taken : Taken c i s step
  -- what each says of the other
  pub of_other : Beside s t
  pub by_other : Beside t s
  pub steady : steady t (place c.shape s step) (found c s step) ≡ true

-- the step leaves its word
abbrev pub Leaves : Core → SeatState → Step → Type 0
Leaves c s step = written c.shape s step (found c s step) ≡ found c s step

or_none : (b : Bool) → (b || false) ≡ true → b ≡ true
or_none true e = refl
or_none false e = e

knower_in : (s : SeatState) → s.knows ≡ true → takes_part s ≡ true
knower_in s e = or-second s.active s.knows s.admitted e

-- a seat that takes part works on no word for which another is steady, if that one has to be alone
works : (c : Core) (i : ℕ) (s : SeatState) (step : Step) (t : SeatState) → Acts c i s step t → IsPlain t (place c.shape s step) (found c s step) → takes_part s ≡ true → Leaves c s step
works c i s step t a plain e = absurd (true≢false (sym e ∙ a.by_other.alone_quiet (or_none t.alone (plain a.steady))))

-- a seat that is alone knows
alone_knows : (c : Core) (i : ℕ) (s : SeatState) (step : Step) → Taken c i s step → s.alone ≡ true → s.knows ≡ true
alone_knows c i s step t = mine c i s step (λ (x : SeatState). IsTrue x.alone → IsTrue x.knows) t (λ j d h. (t.core.strong.seats_strong j d h).alone_knows)

-- a seat that has something in hand takes part
has_in : (c : Core) (i : ℕ) (s : SeatState) (step : Step) (b : Bool) → Taken c i s step → (IsEmpty c.shape s → b ≡ false) → b ≡ true → takes_part s ≡ true
has_in c i s step b t none e =
    let empty = mine c i s step (λ (x : SeatState). IsFalse (takes_part x) → IsEmpty c.shape x) t t.core.sound.world.outside_empty in
    ⊎_elim
    (λ (f : takes_part s ≡ true). f)
    (λ (f : takes_part s ≡ false). absurd (true≢false (sym e ∙ none (empty f))))
    (cases_Bool (takes_part s))

holder_in : (c : Core) (i : ℕ) (s : SeatState) (step : Step) (p : ℕ) → Taken c i s step → holds s.held p ≡ true → takes_part s ≡ true
holder_in c i s step p t e = has_in c i s step (holds_any s.held) t (λ k. k.no_packet) (any-held s.held p e)

sweep_or_clear : (phase : ℕ) (s : SeatState) → (may_sweep phase s || may_clear phase s) ≡ true → takes_part s ≡ true
sweep_or_clear phase s e =
    ⊎_elim
    (λ (a : may_sweep phase s ≡ true). sweeper-in phase s a)
    (λ (a : may_clear phase s ≡ true). knower_in s (and_parts s.knows _ a).0)
    (or_cases (may_sweep phase s) (may_clear phase s) e)

mutator_in : (s : SeatState) (b : Bool) → (s.active && b) ≡ true → takes_part s ≡ true
mutator_in s b e = runner-in s (and_parts s.active b e).0

stat_plain : (t : SeatState) (n word : ℕ) → 2 ≤ n → IsPlain t (0, 4 + n) word
stat_plain t n word h e =
    let none = λ (k : ℕ) (l : k ≤ 5). ne_eqb (4 + n) k (λ g. omega (arith, h, l, g)) in
    rw (none 0 (omega arith), none 1 (omega arith), none 5 (omega arith)) at e

-- a counter or a statistic, but for the named section and the positions
counter_plain : (t : SeatState) (which word : ℕ) → which ≤ done_count → IsPlain t (counter_at which) word
counter_plain t zero word h e = e
counter_plain t (suc zero) word h e = e
counter_plain t (suc (suc n)) word h e = statistic (λ at. IsPlain t at word) (suc (suc n)) (omega arith) h (stat_plain t (suc (suc n)) word (omega arith)) e

-- if the seat that acts takes part, no other is alone
never_alone : (c : Core) (i : ℕ) (s : SeatState) (step : Step) (t : SeatState) → Acts c i s step t → takes_part s ≡ true → t.alone ≡ false
never_alone c i s step t a e = false_from_ne_true t.alone (λ f. true≢false (sym e ∙ a.by_other.alone_quiet f))

-- the season and the section that found the heap full are the business of the seat that knows
season_leaves : (c : Core) (i : ℕ) (s : SeatState) (t : SeatState) → Acts c i s NextSeason t → s.knows ≡ true → Leaves c s NextSeason
season_leaves c i s t a k =
    let alone = never_alone c i s NextSeason t a (knower_in s k) in
    absurd (true≢false (sym a.steady ∙ or_from _ _ alone (or_from _ _ (a.of_other.knows_alone k) (a.of_other.knows_still k))))

named_leaves : (c : Core) (i : ℕ) (s : SeatState) (t : SeatState) → Acts c i s StoreNamed t → s.knows ≡ true → Leaves c s StoreNamed
named_leaves c i s t a k =
    let alone = never_alone c i s StoreNamed t a (knower_in s k) in absurd (true≢false (sym a.steady ∙ or_from _ _ alone (a.of_other.knows_alone k)))

no_part : (t : SeatState) (phase : ℕ) → t.alone ≡ false → takes_part t ≡ false → eqb phase 5 ≡ false → (t.alone || keeps_phase t phase) ≡ false
no_part t phase alone quiet n =
    let out = or_parts (t.active || t.knows) t.admitted quiet in
    let inner = or_parts t.active t.knows out.0 in
    rw (alone, inner.0, inner.1, out.1, n) refl

-- a move of the phase by the seat that is alone finds no other seat that is steady for it, as long as the heap isn't full
move_leaves : (c : Core) (i : ℕ) (s : SeatState) (to : Phase) (t : SeatState) → Acts c i s (StorePhase to) t → s.knows ≡ true → (not s.knows || s.alone) ≡ true → eqb (found c s (StorePhase to)) 5 ≡ false → Leaves c s (StorePhase to)
move_leaves c i s to t a k l n =
    let alone = never_alone c i s (StorePhase to) t a (knower_in s k) in
    let quiet = a.of_other.alone_quiet (follows s.knows s.alone l k) in
    absurd (true≢false (sym a.steady ∙ no_part t (found c s (StorePhase to)) alone quiet n))

-- a try to start marking finds marking under way, or a full heap
finds : (old n : ℕ) → 0 < n → eqb old n ≡ true → cond (eqb old 0) 1 old ≡ old
finds old n h e = rw (ne_eqb old 0 (λ g. omega (arith, h, g, eqb-true old n e))) refl

marks_or_full : (t : SeatState) (old : ℕ) → t.alone ≡ false → t.knows ≡ false → t.admitted ≡ false → (t.alone || keeps_phase t old) ≡ true → cond (eqb old 0) 1 old ≡ old
marks_or_full t old alone knows helps e =
    let left : ((t.active && eqb old 1) || eqb old 5) ≡ true = rw (alone, knows, helps) at e in
    ⊎_elim
    (λ (f : (t.active && eqb old 1) ≡ true). finds old 1 (omega arith) (and_parts t.active (eqb old 1) f).1)
    (λ (f : eqb old 5 ≡ true). finds old 5 (omega arith) f)
    (or_cases (t.active && eqb old 1) (eqb old 5) left)

try_leaves : (c : Core) (i : ℕ) (s : SeatState) (t : SeatState) → Acts c i s (StorePhase Marking) t → s.active ≡ true → Leaves c s (StorePhase Marking)
try_leaves c i s t a run =
    let alone = never_alone c i s (StorePhase Marking) t a (runner-in s run) in
    let knows = false_from_ne_true t.knows (λ e. true≢false (sym run ∙ a.by_other.knows_still e)) in
    let helps = false_from_ne_true t.admitted (λ e. true≢false (sym run ∙ a.by_other.helps_still e)) in
    marks_or_full t (found c s (StorePhase Marking)) alone knows helps a.steady

-- no move but the try to start marking leaves a full heap
from_full : (phase n : ℕ) → n < 5 → eqb phase n ≡ true → eqb phase 5 ≡ false
from_full phase n h e = ne_eqb phase 5 (λ g. omega (arith, h, g, eqb-true phase n e))

from_drain : (phase : ℕ) → (eqb phase 0 || eqb phase 1 || eqb phase 4) ≡ true → eqb phase 5 ≡ false
from_drain phase e =
    ⊎_elim
    (λ f. ⊎_elim (from_full phase 0 (omega arith)) (from_full phase 1 (omega arith)) (or_cases (eqb phase 0) (eqb phase 1) f))
    (from_full phase 4 (omega arith))
    (or_cases (eqb phase 0 || eqb phase 1) (eqb phase 4) e)

phase_leaves : (c : Core) (i : ℕ) (s : SeatState) (to : Phase) (t : SeatState) → Acts c i s (StorePhase to) t → Leaves c s (StorePhase to)
phase_leaves c i s Marking t a = try_leaves c i s t a a.taken.ok.1.0
phase_leaves c i s Idle t a = move_leaves c i s Idle t a (and_parts s.knows _ a.taken.ok.1.0).0 a.taken.ok.1.1.0 (from_full _ 3 (omega arith) a.taken.ok.0)
phase_leaves c i s Drain t a = move_leaves c i s Drain t a (and_parts s.knows _ a.taken.ok.1.0).0 a.taken.ok.1.1.0 (from_drain _ a.taken.ok.0)
phase_leaves c i s Sweep t a = move_leaves c i s Sweep t a (and_parts s.knows _ (and_parts _ _ (and_parts _ _ (and_parts _ _ a.taken.ok.1.0).0).0).0).0 a.taken.ok.1.1.0 (from_full _ 2 (omega arith) a.taken.ok.0)
phase_leaves c i s Clear t a = move_leaves c i s Clear t a (and_parts s.knows _ (and_parts _ _ a.taken.ok.1.0).0).0 a.taken.ok.1.1.0 (from_full _ 2 (omega arith) a.taken.ok.0)
phase_leaves c i s Full t a = move_leaves c i s Full t a (and_parts s.knows _ (and_parts _ _ a.taken.ok.1.0).0).0 a.taken.ok.1.1.0 (from_full _ 0 (omega arith) a.taken.ok.0)

-- a step leaves each word for which another seat is steady
pub leaves : (c : Core) (i : ℕ) (s : SeatState) (step : Step) (t : SeatState) → Acts c i s step t → Leaves c s step
leaves c i s EnterStep t a = absurd (false≢true a.steady)
leaves c i s LeaveStep t a = absurd (false≢true a.steady)
leaves c i s RaiseStep t a = absurd (false≢true a.steady)
leaves c i s DropStep t a = absurd (false≢true a.steady)
leaves c i s OpenStep t a = absurd (false≢true a.steady)
leaves c i s JoinHelpStep t a = absurd (false≢true a.steady)
leaves c i s LeaveHelpStep t a = absurd (false≢true a.steady)
leaves c i s CloseStep t a = absurd (false≢true a.steady)
leaves c i s (StorePhase to) t a = phase_leaves c i s to t a
leaves c i s StoreNamed t a = named_leaves c i s t a (and_parts s.knows _ (and_parts _ _ a.taken.ok.0).0).0
leaves c i s NextSeason t a = season_leaves c i s t a a.taken.ok.0
leaves c i s Reserve t a = works c i s Reserve t a (λ e. e) (tracer-in _ s a.taken.ok.0)
leaves c i s (Take q p) t a = works c i s (Take q p) t a (λ e. e) (tracer-in _ s (and_parts _ _ a.taken.ok.0).1)
leaves c i s (Give p deferred) t a = works c i s (Give p deferred) t a (λ e. e) (holder_in c i s _ p a.taken (and_parts _ _ a.taken.ok.0).1)
leaves c i s Credit t a = works c i s Credit t a (λ e. e) (has_in c i s Credit (s.credit || s.reserved) a.taken (λ k. or_from _ _ k.no_credit k.no_reservation) a.taken.ok.0)
leaves c i s (Push p x) t a = works c i s (Push p x) t a (λ e. e) (holder_in c i s _ p a.taken (and_parts _ _ a.taken.ok.0).1)
leaves c i s (SetMark x) t a = works c i s (SetMark x) t a (λ e. e) (tracer-in _ s a.taken.ok.1.0)
leaves c i s (DirtyCard card) t a = works c i s (DirtyCard card) t a (λ e. e) (and_parts _ _ a.taken.ok.0).1
leaves c i s (ClearCard card) t a = works c i s (ClearCard card) t a (λ e. e) (tracer-in _ s (and_parts _ _ (and_parts _ _ a.taken.ok.0).0).1)
leaves c i s (StoreField v f x) t a = works c i s (StoreField v f x) t a (λ e. e) (mutator_in s _ (and_parts _ _ a.taken.ok.0).1)
leaves c i s (ExchangeField v f x y) t a = works c i s (ExchangeField v f x y) t a (λ e. e) (mutator_in s _ (and_parts _ _ a.taken.ok.0).1)
leaves c i s (StoreValue v n) t a = works c i s (StoreValue v n) t a (λ e. e) (mutator_in s _ (and_parts _ _ a.taken.ok.0).1)
leaves c i s (ExchangeValue v m n) t a = works c i s (ExchangeValue v m n) t a (λ e. e) (mutator_in s _ (and_parts _ _ a.taken.ok.0).1)
leaves c i s (FlushRoot v) t a = works c i s (FlushRoot v) t a (λ e. e) (mutator_in s _ (and_parts _ _ a.taken.ok.0).1)
leaves c i s (StoreRoot v r) t a = works c i s (StoreRoot v r) t a (λ e. e) (mutator_in s _ (and_parts _ _ a.taken.ok.0).1)
leaves c i s (StoreSlot k r) t a = works c i s (StoreSlot k r) t a (λ e. e) (mutator_in s _ (and_parts _ _ a.taken.ok.0).1)
leaves c i s (ClaimBlock b) t a = works c i s (ClaimBlock b) t a (λ e. e) (part-from_active s.active s.knows s.admitted (and_parts _ _ a.taken.ok.1.0).0)
leaves c i s ReleaseBlock t a = works c i s ReleaseBlock t a (λ e. e) (has_in c i s ReleaseBlock (is_some s.cache) a.taken (λ k. ap is_some k.no_cache) a.taken.ok.0)
leaves c i s (StoreNew x part word) t a =
    works c i s (StoreNew x part word) t a (at_part (λ at. IsPlain t at (found c s (StoreNew x part word))) c.shape x part (λ k e. e) (λ k e. e) (λ k e. e)) (mutator_in s _ (and_parts _ _ a.taken.ok.0).1)
leaves c i s PublishCells t a = works c i s PublishCells t a (λ e. e) (has_in c i s PublishCells (is_some s.cache) a.taken (λ k. ap is_some k.no_cache) a.taken.ok.0)
leaves c i s NextBlock t a = works c i s NextBlock t a (λ e. e) (sweep_or_clear _ s a.taken.ok.0)
leaves c i s NextOfCards t a = works c i s NextOfCards t a (λ e. e) (tracer-in _ s a.taken.ok.0)
leaves c i s StoreAlloc t a = works c i s StoreAlloc t a (λ e. e) (sweeper-in _ s a.taken.ok.0)
leaves c i s ClearMarks t a = works c i s ClearMarks t a (λ e. e) (has_in c i s ClearMarks (is_some s.block) a.taken (λ k. ap is_some k.no_block) a.taken.ok.0)
leaves c i s (WipeCard card) t a = works c i s (WipeCard card) t a (λ e. e) (sweep_or_clear _ s (and_parts _ _ a.taken.ok.0).1)
leaves c i s (StorePosition done) t a = works c i s (StorePosition done) t a (λ e. e) (part-from_active s.active s.knows s.admitted a.taken.ok.1.0)
leaves c i s (Reset which) t a =
    let few = and_parts (nat_le which free_count) s.alone (and_parts _ _ a.taken.ok.0).0 in
    works c i s (Reset which) t a (counter_plain t which _ (omega (arith, leb-true which free_count few.0))) (knower_in s (alone_knows c i s (Reset which) a.taken few.1))
leaves c i s (AddStat which by down) t a =
    let range = and_parts (nat_le last_count which && nat_le which done_count) (takes_part s) a.taken.ok.0 in
    works c i s (AddStat which by down) t a (counter_plain t which _ (leb-true which done_count (and_parts _ _ range.0).1)) range.1
leaves c i s (StoreLength p) t a = works c i s (StoreLength p) t a (λ e. e) (holder_in c i s _ p a.taken (and_parts _ _ a.taken.ok.0).1)
leaves c i s step t a = refl

-- what a step finds at its place
pub word-found : (sh : Shape) (ws : List ℕ) (at : ℕ × ℕ) → IsPlace sh at → slice_index ws (address sh at) ≡ word_at sh ws at
word-found sh ws at h = words-get (region_sizes sh) at.0 ws at.1 0 h

-- the single words, by their index
pub single-word : (sh : Shape) (ws : List ℕ) (k : ℕ) → k < 11 → word_at sh ws (0, k) ≡ slice_index ws k
single-word sh ws k h = get_or-take 11 ws k 0 h

-- a write elsewhere leaves the word at a place
pub word-elsewhere : (sh : Shape) (ws : List ℕ) (at to : ℕ × ℕ) (v : ℕ) → IsPlace sh to → ((at.0 ≡ to.0) × (at.1 ≡ to.1) → ⊥) → word_at sh (set ws (address sh to) v) at ≡ word_at sh ws at
word-elsewhere sh ws at to v h n =
    let put = region-put (region_sizes sh) to.0 at.0 ws to.1 v h in
    ⊎_elim
    (λ (e : to.0 ≡ at.0).
    let apart : at.1 ≢ to.1 = λ z. n (sym e, z) in
    ap (λ xs. get_or xs at.1 0) (put ∙ rw (eq-eqb to.0 at.0 e) refl) ∙ get_or-set_other (region_words (region_sizes sh) at.0 ws) to.1 at.1 v 0 apart)
    (λ (m : to.0 ≡ at.0 → ⊥). ap (λ xs. get_or xs at.1 0) (put ∙ rw (ne_eqb to.0 at.0 m) refl))
    (cases_eq to.0 at.0)

pub pairs : (x y : ℕ × ℕ) → x.0 ≡ y.0 → x.1 ≡ y.1 → x ≡ y
pairs x y e f = ap (λ a. (a, x.1)) e ∙ ap (λ b. (y.0, b)) f

-- a step leaves the word at a place for which another seat is steady
note_stays : (c : Core) (i j : ℕ) (s t : SeatState) (step : Step) (at : ℕ × ℕ) (word : ℕ) → Taken c i s step → j ≢ i → Sits c i s → Sits c j t → steady t at word ≡ true → word_at c.shape c.words at ≡ word → word_at c.shape (set c.words (address c.shape (place c.shape s step)) (written c.shape s step (found c s step))) at ≡ word
note_stays c i j s t step at word k n hs ht st is =
    let p : ℕ × ℕ = place c.shape s step in
    let here : IsPlace c.shape p = in-place c i s step k in
    let other = λ (m : (at.0 ≡ p.0) × (at.1 ≡ p.1) → ⊥). word-elsewhere c.shape c.words at p (written c.shape s step (found c s step)) here m ∙ is in
    ⊎_elim
    (λ (e : at.0 ≡ p.0).
    ⊎_elim
    (λ (f : at.1 ≡ p.1).
    let same : at ≡ p = pairs at p e f in
    let old : found c s step ≡ word = word-found c.shape c.words p here ∙ (ap (word_at c.shape c.words) (sym same) ∙ is) in
    let own : steady t p (found c s step) ≡ true = subst (λ n. steady t p n ≡ true) (sym old) (subst (λ x. steady t x word ≡ true) same st) in
    let left = leaves c i s step t (record { taken = k; of_other = beside c i j s t k.core (λ z. n (sym z)) hs ht; by_other = beside c j i t s k.core n ht hs; steady = own }) in
    ap (λ ws. word_at c.shape ws at) (ap (set c.words (address c.shape p)) left ∙ set-get_or c.words (address c.shape p) 0) ∙ is)
    (λ (m : at.1 ≡ p.1 → ⊥). other (λ z. m z.1))
    (cases_eq at.1 p.1))
    (λ (m : at.0 ≡ p.0 → ⊥). other (λ z. m z.0))
    (cases_eq at.0 p.0)

-- each event that is allowed leaves the words for which another seat is steady
pub notes_kept : EventsKeepNotes
notes_kept c e k f j t n got at word st is =
    let r : (s : SeatState) × Acted c e s = acts c e k f in
    let a : Acted c e r.0 = r.1 in
    let s : SeatState = r.0 in
    let taken : Taken c e.seat s e.step = record { core = k; got = a.seat; live = a.live; ok = a.ok } in
    let after : (after_event c e).words ≡ (after_of c e.seat (Some s) e.step).words = ap (λ o. (after_of c e.seat o e.step).words) a.seat in
    ap (λ ws. word_at c.shape ws at) after ∙ note_stays c e.seat j s t e.step at word taken n (sits c e.seat s a.seat) (sits c j t got) st is
