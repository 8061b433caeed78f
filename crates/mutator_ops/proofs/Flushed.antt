-- Variables are stored in their roots, one after the other, until none lags.
use Rattle.std.proofs.Common.{ℕ, zero, suc, ◌≡◌, ◌≢◌, ◌≤◌, ◌<◌, ◌+◌, ◌*◌, ◌/◌, ◌%◌, ◌^◌, ◌∙◌, [], ◌∷◌, ◌++◌, Bool, true, false, ap, arith, refl, sym, subst, length, pow_mono, ⊎_elim}
use Rattle.std.specs.Int.{bit_at}
use Rattle.std.specs.Prelude.{◌==◌, bit_or}
use Rattle.std.proofs.lemmas.Bool.{and_from, cases_eq, lt-ltb, true≢false}
use Rattle.std.proofs.lemmas.Nat.{and_le_l, or_lt}
use Rattle.std.proofs.lemmas.Nat.Bits.{bit_at-lt, bit_at-suc, bit_at_lowest}
use Rattle.std.proofs.lemmas.List.{append-nil, length-append}
use Rattle.mark_core.specs.Bits.{complement, has_bit, with_bit, without_bit}
use Rattle.mark_core.specs.Numbers.{section_variables}
use Rattle.mark_core.specs.Seats.{may_mutate}
use Rattle.mark_core.specs.declared.kinds.Step.TheVariants.{FlushRoot}
use Rattle.mark_core.specs.declared.seat.SeatState.{SeatState}
use Rattle.mark_core.proofs.Writing.CellBits.{without_same, without_other}
use Rattle.alloc_cache.proofs.Cells.{steps-after, steps-join}
use Rattle.gc_table.specs.Log.{events, steps_of}
use Rattle.gc_table.specs.Running.{Ran}
use Rattle.gc_table.specs.Seats.{Stored}
use Rattle.gc_table.specs.Taking.{May}
use Rattle.gc_table.specs.declared.view.View.{View}
use Rattle.gc_table.proofs.History.Log.{events-none}
use Rattle.gc_table.proofs.Running.{ran-join, ran-refl, ran-stored}
use Rattle.mutator_ops.specs.Few.{AtMost}
use Rattle.mutator_ops.specs.Flushing.{Flushes, FlushesIf, FlushesOne, flushing_step, flushing_steps, word_of_variables}
use Rattle.mutator_ops.proofs.Few.{at-most-steps}

-- a variable may be stored while its seat mutates
pub may-flush : (u : ℕ) (v : View) → may_mutate v.state ≡ true → u < section_variables → May (FlushRoot u) v
may-flush u v turn low y i st a = (and_from _ _ (lt-ltb u section_variables low) turn, tt)

-- The first k variables whose roots lagged were stored.
pub record FlushesTo (k : ℕ) (v w : View) : Type 0 where
  pub ran : Ran v w
  pub steps_are : steps_of (events v w) ≡ flushing_steps v.state.lags k
  pub state : w.state ≡ record v.state { lags = w.state.lags }
  pub own : w.own ≡ v.own
  pub done : (i : ℕ) → i < k → has_bit w.state.lags i ≡ false
  pub left : (i : ℕ) → k ≤ i → i < 64 → has_bit w.state.lags i ≡ has_bit v.state.lags i
  pub few : w.state.lags ≤ v.state.lags

pub flushes-none : (v : View) → FlushesTo 0 v v
flushes-none v = record { ran = ran-refl v; steps_are = ap steps_of (events-none v); state = refl; own = refl; done = λ i l. absurd (omega (arith, l)); left = λ i l s. refl; few = omega arith }

-- the bits of a word in which bit k is cleared
cleared : (k : ℕ) (word next : ℕ) → k < 64 → next ≡ without_bit word k → ((i : ℕ) → i < k → has_bit word i ≡ false) → (i : ℕ) → i < suc k → has_bit next i ≡ false
cleared k word next low is below i l =
    ⊎_elim
    (λ (same : i ≡ k). (λ j. has_bit (is j) (same j)) ∙ without_same word k low)
    (λ (other : i ≢ k). let less : i < k = omega (arith, l, other) in ap (λ n. has_bit n i) is ∙ without_other word k i low (omega (arith, less, low)) other ∙ below i less)
    (cases_eq i k)

kept : (k : ℕ) (word next was : ℕ) → k < 64 → next ≡ without_bit word k → ((i : ℕ) → k ≤ i → i < 64 → has_bit word i ≡ has_bit was i) → (i : ℕ) → suc k ≤ i → i < 64 → has_bit next i ≡ has_bit was i
kept k word next was low is above i le small =
    ap (λ n. has_bit n i) is ∙ without_other word k i low small (λ e. omega (arith, e, le)) ∙ above i (omega (arith, le)) small

-- and then variable k, if its root lagged
flushes-set : (k : ℕ) (u v w : View) → k < section_variables → has_bit v.state.lags k ≡ true → FlushesTo k u v → Stored (FlushRoot k) v w → FlushesTo (suc k) u w
flushes-set k u v w low lags a e =
    let is : w.state.lags ≡ without_bit v.state.lags k = ap (λ (y : View). y.state.lags) e in
    let s : w.state ≡ record v.state { lags = w.state.lags } = ap (λ (y : View). y.state) e ∙ ap (λ (y : View). record v.state { lags = y.state.lags }) (sym e) in
    let ran : Ran v w = ran-stored v w (FlushRoot k) refl e in
    let bit : has_bit u.state.lags k ≡ true = sym (a.left k (omega arith) (omega (arith, low))) ∙ lags in
    let less = and_le_l v.state.lags (complement (2 ^ k)) in
    record {
      ran = ran-join u v w a.ran ran;
      steps_are = steps-join u v w (flushing_steps u.state.lags k) (FlushRoot k ∷ []) a.ran ran a.steps_are (steps-after v w (FlushRoot k) _ e) ∙ ap (λ b. flushing_steps u.state.lags k ++ flushing_step b k) (sym bit);
      state = s ∙ ap (λ (t : SeatState). record t { lags = w.state.lags }) a.state;
      own = ap (λ (y : View). y.own) e ∙ a.own;
      done = cleared k v.state.lags w.state.lags (omega (arith, low)) is a.done;
      left = kept k v.state.lags w.state.lags u.state.lags (omega (arith, low)) is a.left;
      few = omega (arith, is, less, a.few);
    }

flushes-clear : (k : ℕ) (u v w : View) → k < section_variables → has_bit v.state.lags k ≡ false → FlushesTo k u v → w ≡ v → FlushesTo (suc k) u w
flushes-clear k u v w low lags a same =
    let bit : has_bit u.state.lags k ≡ false = sym (a.left k (omega arith) (omega (arith, low))) ∙ lags in
    subst (FlushesTo (suc k) u) (sym same)
    (record {
      ran = a.ran;
      steps_are = a.steps_are ∙ sym (append-nil (flushing_steps u.state.lags k)) ∙ ap (λ b. flushing_steps u.state.lags k ++ flushing_step b k) (sym bit);
      state = a.state;
      own = a.own;
      done = λ i l. ⊎_elim (λ (is : i ≡ k). ap (has_bit v.state.lags) is ∙ lags) (λ (other : i ≢ k). a.done i (omega (arith, l, other))) (cases_eq i k);
      left = λ i le small. a.left i (omega (arith, le)) small;
      few = a.few;
    })

flushes-by : (b : Bool) (k : ℕ) (u v w : View) → k < section_variables → has_bit v.state.lags k ≡ b → FlushesTo k u v → FlushesIf b k v w → FlushesTo (suc k) u w
flushes-by true k u v w low lags a e = flushes-set k u v w low lags a e
flushes-by false k u v w low lags a e = flushes-clear k u v w low lags a e

pub flushes-more : (k : ℕ) (u v w : View) → k < section_variables → FlushesTo k u v → FlushesOne k v w → FlushesTo (k + 1) u w
flushes-more k u v w low a e =
    let more : suc k ≡ k + 1 = omega arith in
    subst (λ n. FlushesTo n u w) more (flushes-by (has_bit v.state.lags k) k u v w low refl a e)

-- the seat mutates still
pub flushes-turn : (k : ℕ) (v w : View) → FlushesTo k v w → may_mutate v.state ≡ true → may_mutate w.state ≡ true
flushes-turn k v w a turn = ap may_mutate a.state ∙ turn

-- a number below 2 ^ k without bits is 0
bits-none : (k n : ℕ) → n < 2 ^ k → ((i : ℕ) → i < k → bit_at n i ≡ 0) → n ≡ 0
bits-none zero n h f = omega (arith, h)
bits-none (suc k) n h f =
    let low : n % 2 ≡ 0 = sym (bit_at_lowest n) ∙ f 0 (omega arith) in
    let double : 2 ^ suc k ≡ 2 * 2 ^ k = omega arith in
    let half : n / 2 ≡ 0 = bits-none k (n / 2) (omega (arith, h, double)) (λ i l. sym (bit_at-suc n i) ∙ f (suc i) (omega (arith, l))) in
    omega (arith, low, half)

no-bit_is : (n i : ℕ) → has_bit n i ≡ false → bit_at n i ≡ 0
no-bit_is n i e =
    ⊎_elim (λ (o : bit_at n i ≡ 1). absurd (true≢false (sym (ap (λ x. x == 1) o) ∙ e))) (λ (o : bit_at n i ≢ 1). omega (arith, bit_at-lt n i, o)) (cases_eq (bit_at n i) 1)

-- all were: none lags
pub flushes-all : (v w : View) → v.state.lags < word_of_variables → FlushesTo section_variables v w → Flushes v w
flushes-all v w small a =
    let none : w.state.lags ≡ 0 = bits-none 32 w.state.lags (omega (arith, small, a.few)) (λ i l. no-bit_is w.state.lags i (a.done i l)) in
    record { ran = a.ran; steps_are = a.steps_are; state = a.state ∙ ap (λ n. record v.state { lags = n }) none; own = a.own }

-- at most thirty-two steps
one-long : (b : Bool) (u : ℕ) → length (flushing_step b u) ≤ 1
one-long true u = omega arith
one-long false u = omega arith

pub flushing-long : (lags n : ℕ) → length (flushing_steps lags n) ≤ n
flushing-long lags zero = omega arith
flushing-long lags (suc n) =
    let all = length-append (flushing_steps lags n) (flushing_step (has_bit lags n) n) in
    omega (arith, all, flushing-long lags n, one-long (has_bit lags n) n)

pub flushes-few : (v w : View) → Flushes v w → AtMost section_variables v w
flushes-few v w f = at-most-steps section_variables v w (flushing_steps v.state.lags section_variables) f.steps_are (flushing-long v.state.lags section_variables)

-- a word with one more bit
pub flush-with : (word u : ℕ) → word < word_of_variables → u < section_variables → with_bit word u < word_of_variables
flush-with word u small low =
    let pow : 2 ^ u ≤ 2 ^ 31 = (let le : u ≤ 31 = omega (arith, low) in pow_mono {i = u} {j = 31} le) in
    let one : 2 ^ u < 2 ^ 32 = omega (arith, pow) in
    let joined : bit_or word (2 ^ u) < 2 ^ 32 = or_lt 32 word (2 ^ u) (omega (arith, small)) one in
    omega (arith, joined)
