-- What each step that is allowed writes fits a word of sixty-four bits.
use Rattle.std.proofs.Common.{ℕ, ◌≡◌, ◌+◌, ◌*◌, ◌%◌, ◌<◌, ◌≤◌, List, get_or, length, arith, Bool, true, false, not, ◌&&◌, Option, Some, None, cond, eqb, ⊎_elim}
use Rattle.std.specs.Prelude.{IfSome, IsFalse, unwrap_or, nat_lt, is_some, bit_and}
use Rattle.std.specs.List.{All}
use Rattle.std.proofs.lemmas.Bool.{cases_lt, and_parts, ltb-true, eqb-true, not-true, false≢true}
use Rattle.std.proofs.lemmas.List.{get_or_past}
use Rattle.std.proofs.lemmas.List.Elements.{All-get_or}
use Rattle.mark_core.specs.Shapes.{IsShape}
use Rattle.mark_core.specs.Layout.{Words}
use Rattle.mark_core.specs.Bits.{flag, wrapped_sum, wrapped_difference}
use Rattle.mark_core.specs.Held.{holds}
use Rattle.mark_core.specs.Seats.{is_phase, may_store}
use Rattle.mark_core.specs.Steps.MutatorSteps.{variable_or_nil, used_bits, has_reference}
use Rattle.mark_core.specs.Steps.SweepSteps.{survivors}
use Rattle.mark_core.specs.Steps.WorldSteps.{phase_after}
use Rattle.mark_core.specs.Parts.{parts}
use Rattle.mark_core.specs.Effects.{written}
use Rattle.mark_core.specs.Steps.{AllTrue}
use Rattle.mark_core.specs.WellFormed.{IsCache}
use Rattle.mark_core.specs.Laws.{NumbersFit}
use Rattle.mark_core.specs.declared.kinds.Phase.{Phase}
use Rattle.mark_core.specs.declared.kinds.Phase.TheVariants.{Idle, Marking, Drain, Sweep, Clear, Full}
use Rattle.mark_core.proofs.Writing.Ranges.{InRange}
use Rattle.mark_core.proofs.Writing.SeatBoundsKept.{choose}
use Rattle.mark_core.proofs.Formed.FormedGrasps.{and-left_fits, or-fits, with-fits, without-fits}
use Rattle.mark_core.specs.declared.kinds.Shape.{Shape}
use Rattle.mark_core.specs.declared.kinds.Step.{Step}
use Rattle.mark_core.specs.declared.kinds.Step.TheVariants.{Reserve, Take, Give, Credit, Push, SetMark, DirtyCard, ClearCard, StoreField, StoreValue, StoreRoot, ClaimBlock, ReleaseBlock, StoreNew, PublishCells, EnterStep, LeaveStep, RaiseStep, DropStep, StorePhase, NextBlock, NextOfCards, StoreAlloc, ClearMarks, WipeCard, StorePosition, StoreNamed, Reset, AddStat, StoreLength, OpenStep, JoinHelpStep, LeaveHelpStep, CloseStep, NextSeason, ExchangeField, ExchangeValue, StoreSlot, FlushRoot}
use Rattle.mark_core.specs.declared.seat.SeatState.{SeatState}
use Rattle.mark_core.specs.declared.seat.CacheState.{CacheState}
use Rattle.mark_core.specs.declared.seat.BlockState.{BlockState}
use Rattle.mark_core.specs.Numbers.{section_span, value_bound}

-- a word of sixty-four bits
abbrev pub IsWord : ℕ → Type 0
IsWord n = n < 18446744073709551616

-- a word of a list, or the nil past its end
pub word-in : (ws : List ℕ) (i : ℕ) → All IsWord ws → IsWord (get_or ws i 0)
word-in ws i a =
    ⊎_elim
    (λ (h : i < length ws). All-get_or IsWord ws i 0 h a)
    (λ (h : length ws ≤ i). omega (arith, get_or_past ws i 0 h))
    (cases_lt i (length ws))

-- the allocation bits that the seat keeps of its block are a word
abbrev pub KeepsBits : BlockState → Type 0
KeepsBits x = IsFalse x.stored → IfSome x.alloc_word IsWord

-- what the seat that acts says of the words that it writes
pub record Writer (sh : Shape) (s : SeatState) : Type 0 where
  pub range : InRange sh s
  pub number : s.number < 41
  pub made : s.made ≤ sh.objects
  pub references : (r : ℕ) → has_reference s r ≡ true → r ≤ sh.cells
  pub cache : IfSome s.cache (IsCache sh)
  pub block : IfSome s.block KeepsBits

sum_fits : (a b : ℕ) → IsWord (wrapped_sum a b)
sum_fits a b = omega arith

difference_fits : (a b : ℕ) → IsWord (wrapped_difference a b)
difference_fits a b = omega arith

cell_fits : (sh : Shape) (c : ℕ) → IsShape sh → c ≤ sh.cells → IsWord (c + 1)
cell_fits sh c k h = omega (arith, k.cells, h)

variable_fits : (sh : Shape) (s : SeatState) (o : Option ℕ) → InRange sh s → IsWord (variable_or_nil s o)
variable_fits sh s None k = omega arith
variable_fits sh s (Some v) k = omega (arith, k.shaped.cells, k.env v)

identity_fits : (sh : Shape) (section made word : ℕ) → IsShape sh → section < sh.sections → made ≤ sh.objects → word ≡ section * section_span + made → IsWord word
identity_fits sh section made word k h m e = omega (arith, k.sections, k.objects, h, m, e)

-- a word of a new cell
new_fits : (sh : Shape) (s : SeatState) (a b : Bool) (word : ℕ) → Writer sh s → cond a (eqb word 0) (cond b (nat_lt word value_bound) (is_some s.section && nat_lt s.made sh.objects && eqb word (unwrap_or s.section 0 * section_span + s.made))) ≡ true → IsWord word
new_fits sh s true b word k e = omega (arith, eqb-true word 0 e)
new_fits sh s false true word k e = omega (arith, ltb-true word value_bound e)
new_fits sh s false false word k e =
    identity_fits sh (unwrap_or s.section 0) s.made word k.range.shaped k.range.section k.made (eqb-true word (unwrap_or s.section 0 * section_span + s.made) (and_parts (is_some s.section && nat_lt s.made sh.objects) (eqb word (unwrap_or s.section 0 * section_span + s.made)) e).1)

used_fits : (sh : Shape) (o : Option CacheState) → IfSome o (IsCache sh) → IsWord (used_bits o)
used_fits sh None k = omega arith
used_fits sh (Some x) k = k.words.1

kept_fits : (a : Option ℕ) (m : ℕ) → is_some a ≡ true → IfSome a IsWord → IsWord (bit_and (unwrap_or a 0) m)
kept_fits None m e k = absurd (false≢true e)
kept_fits (Some n) m e k = and-left_fits n m k

survivors_fit : (o : Option BlockState) → may_store o ≡ true → IfSome o KeepsBits → IsWord (survivors o)
survivors_fit None e k = absurd (false≢true e)
survivors_fit (Some x) e k =
    let a = and_parts (is_some x.alloc_word && is_some x.mark_word) (not x.stored) e in
    let b = and_parts (is_some x.alloc_word) (is_some x.mark_word) a.0 in
    kept_fits x.alloc_word (unwrap_or x.mark_word 0) b.0 (k (not-true x.stored a.1))

-- the phase after a move
pub phase-fits : (old : ℕ) (to : Phase) → old ≤ 5 → phase_after old to ≤ 5
phase-fits old Idle h = omega arith
phase-fits old Marking h = choose (λ n. n ≤ 5) (is_phase old Idle) 1 old (omega arith) h
phase-fits old Drain h = omega arith
phase-fits old Sweep h = omega arith
phase-fits old Clear h = omega arith
phase-fits old Full h = omega arith

-- a move writes the phase that it finds, or a small number
phase_word : (old : ℕ) (to : Phase) → IsWord old → IsWord (phase_after old to)
phase_word old Idle h = omega arith
phase_word old Marking h = choose IsWord (is_phase old Idle) 1 old (omega arith) h
phase_word old Drain h = omega arith
phase_word old Sweep h = omega arith
phase_word old Clear h = omega arith
phase_word old Full h = omega arith

pub written-fits : (sh : Shape) (w : Words) (seats : List SeatState) (s : SeatState) (step : Step) (old : ℕ) → Writer sh s → NumbersFit step → AllTrue (parts sh w seats s step) → IsWord old → IsWord (written sh s step old)
written-fits sh w seats s Reserve old k n ok h = difference_fits old 1
written-fits sh w seats s (Take q p) old k n ok h = without-fits old (p % 64) h
written-fits sh w seats s (Give p deferred) old k n ok h = with-fits old (p % 64) (omega arith) h
written-fits sh w seats s Credit old k n ok h = sum_fits old 1
written-fits sh w seats s (Push p c) old k n ok h =
    let below : c < sh.cells = ltb-true c sh.cells (and_parts (nat_lt p sh.packets) (nat_lt c sh.cells) (and_parts (nat_lt p sh.packets && nat_lt c sh.cells) (holds s.held p) ok.0).0).1 in
    cell_fits sh c k.range.shaped (omega (arith, below))
written-fits sh w seats s (SetMark c) old k n ok h = with-fits old (c % 64) (omega arith) h
written-fits sh w seats s (DirtyCard card) old k n ok h = omega arith
written-fits sh w seats s (ClearCard card) old k n ok h = omega arith
written-fits sh w seats s (StoreField v i x) old k n ok h = variable_fits sh s x k.range
written-fits sh w seats s (StoreValue v m) old k n ok h = omega (arith, n)
written-fits sh w seats s (StoreRoot v r) old k n ok h = omega (arith, k.range.shaped.cells, k.references r ok.1.0)
written-fits sh w seats s (FlushRoot v) old k n ok h = omega (arith, k.range.shaped.cells, k.range.env v)
written-fits sh w seats s (StoreSlot j r) old k n ok h = omega (arith, k.range.shaped.cells, k.references r ok.1.0)
written-fits sh w seats s (ExchangeField v i x y) old k n ok h = choose IsWord (eqb old (variable_or_nil s x)) (variable_or_nil s y) old (variable_fits sh s y k.range) h
written-fits sh w seats s (ExchangeValue v m new) old k n ok h =
    let below : new < 4294967296 = ltb-true new value_bound (and_parts (nat_lt v 32) (nat_lt new value_bound) (and_parts _ _ ok.0).0).1 in choose IsWord (eqb old m) new old (omega (arith, below)) h
written-fits sh w seats s (ClaimBlock b) old k n ok h = choose IsWord (eqb old 0) (s.number + 1) old (omega (arith, k.number)) h
written-fits sh w seats s ReleaseBlock old k n ok h = omega arith
written-fits sh w seats s (StoreNew c part word) old k n ok h = new_fits sh s (nat_lt part sh.fields) (eqb part sh.fields) word k ok.1.1.0
written-fits sh w seats s PublishCells old k n ok h = or-fits old (used_bits s.cache) h (used_fits sh s.cache k.cache)
written-fits sh w seats s EnterStep old k n ok h = sum_fits old 1
written-fits sh w seats s LeaveStep old k n ok h = difference_fits old 1
written-fits sh w seats s RaiseStep old k n ok h = or-fits old flag h (omega arith)
written-fits sh w seats s DropStep old k n ok h = difference_fits old 4294967295
written-fits sh w seats s (StorePhase to) old k n ok h = phase_word old to h
written-fits sh w seats s NextBlock old k n ok h = sum_fits old sh.stretch
written-fits sh w seats s NextOfCards old k n ok h = sum_fits old 1
written-fits sh w seats s StoreAlloc old k n ok h = survivors_fit s.block ok.1.0 k.block
written-fits sh w seats s ClearMarks old k n ok h = omega arith
written-fits sh w seats s (WipeCard card) old k n ok h = omega arith
written-fits sh w seats s (StorePosition done) old k n ok h = omega (arith, n)
written-fits sh w seats s StoreNamed old k n ok h = omega (arith, k.range.section, k.range.shaped.sections)
written-fits sh w seats s (Reset which) old k n ok h = omega arith
written-fits sh w seats s (AddStat which by down) old k n ok h = choose IsWord down (wrapped_difference old by) (wrapped_sum old by) (difference_fits old by) (sum_fits old by)
written-fits sh w seats s (StoreLength p) old k n ok h =
    let at : p < sh.packets = ltb-true p sh.packets (and_parts _ _ ok.0).0 in omega (arith, k.range.shaped.entries, k.range.lengths p at)
written-fits sh w seats s OpenStep old k n ok h = or-fits old flag h (omega arith)
written-fits sh w seats s JoinHelpStep old k n ok h = sum_fits old 1
written-fits sh w seats s LeaveHelpStep old k n ok h = difference_fits old 1
written-fits sh w seats s CloseStep old k n ok h = difference_fits old flag
written-fits sh w seats s NextSeason old k n ok h = sum_fits old 1
written-fits sh w seats s step old k n ok h = h
