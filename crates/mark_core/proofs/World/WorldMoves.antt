-- What a step makes of the words of the world and of help, and of how its seat stands, keeps the rule on the numbers.
use Rattle.std.proofs.Common.{ℕ, ◌≡◌, ◌≢◌, ◌+◌, ◌-◌, ◌*◌, ◌^◌, ◌<◌, ◌≤◌, arith, refl, ap, ◌∙◌, not, ⊎_elim, Bool, true, false, List, [], ◌∷◌, set, get_or, length, subst}
use Rattle.std.specs.Prelude.{bit_or}
use Rattle.std.specs.Int.{bit_at}
use Rattle.std.proofs.lemmas.Bool.{cases_lt, cases_eq, lt-ltb, le-ltb}
use Rattle.std.proofs.lemmas.Nat.Bits.{bit_at_or, bit_at-pow_same, bit_at-pow_other, bit_at_cat_low, bit_at_cat_high, bit_at_above, same_from_bits, bit_at-lt}
use Rattle.mark_core.specs.Bits.{flag, has_flag, wrapped_sum, wrapped_difference}
use Rattle.mark_core.proofs.Count.CountMoves.{bit, bit-below, count-cons}
use Rattle.mark_core.specs.Views.{Standing}
use Rattle.std.specs.List.{All, count_by}
use Rattle.std.proofs.lemmas.List.{set-set, set-get_or, length-set, get_or-set_same}
use Rattle.std.proofs.lemmas.List.Elements.{All-head, All-tail, All-set}
use Rattle.std.proofs.lemmas.List.Sums.{sum_by-set, count_by-le-length}

-- How many seats stand how, and the rule of the world as a rule on these numbers.
-- how many seats stand how
pub record Census : Type 0 where
  pub counted : ℕ
  pub active : ℕ
  pub raised : ℕ
  pub knows : ℕ
  pub helping : ℕ
  pub admitted : ℕ
  pub opened : ℕ
  pub alone : ℕ

abbrev pub census : List Standing → Census
census ss =
    record {
      counted = count_by (λ (s : Standing). s.counted) ss;
      active = count_by (λ (s : Standing). s.active) ss;
      raised = count_by (λ (s : Standing). s.raised) ss;
      knows = count_by (λ (s : Standing). s.knows) ss;
      helping = count_by (λ (s : Standing). s.helping) ss;
      admitted = count_by (λ (s : Standing). s.admitted) ss;
      opened = count_by (λ (s : Standing). s.opened) ss;
      alone = count_by (λ (s : Standing). s.alone) ss;
    }

-- the counts with one seat more
abbrev pub plus : Census → Standing → Census
plus r x =
    record {
      counted = r.counted + bit x.counted;
      active = r.active + bit x.active;
      raised = r.raised + bit x.raised;
      knows = r.knows + bit x.knows;
      helping = r.helping + bit x.helping;
      admitted = r.admitted + bit x.admitted;
      opened = r.opened + bit x.opened;
      alone = r.alone + bit x.alone;
    }

-- how one seat may stand
pub record Fits (x : Standing) : Type 0 where
  pub opened_or_alone : bit x.opened + bit x.alone ≤ bit x.knows
  pub knows_raised : bit x.knows ≤ bit x.raised
  pub active_counted : bit x.active ≤ bit x.counted
  pub admitted_helps : bit x.admitted ≤ bit x.helping
  pub one_role : bit x.counted + bit x.raised + bit x.admitted ≤ 1

-- what follows for their numbers
pub record CensusFits (r : Census) : Type 0 where
  pub opened_or_alone : r.opened + r.alone ≤ r.knows
  pub knows_raised : r.knows ≤ r.raised
  pub active_counted : r.active ≤ r.counted
  pub admitted_helps : r.admitted ≤ r.helping

pub census-fits : (ss : List Standing) → All Fits ss → CensusFits (census ss)
census-fits [] a = record { opened_or_alone = omega arith; knows_raised = omega arith; active_counted = omega arith; admitted_helps = omega arith }
census-fits (x ∷ ss) a =
    let k = census-fits ss (All-tail Fits x ss a) in
    let h : Fits x = All-head Fits x ss a in
    let knows = count-cons (λ (s : Standing). s.knows) x ss in
    record {
      opened_or_alone = omega (arith, k.opened_or_alone, h.opened_or_alone, knows, count-cons (λ (s : Standing). s.opened) x ss, count-cons (λ (s : Standing). s.alone) x ss);
      knows_raised = omega (arith, k.knows_raised, h.knows_raised, knows, count-cons (λ (s : Standing). s.raised) x ss);
      active_counted = omega (arith, k.active_counted, h.active_counted, count-cons (λ (s : Standing). s.active) x ss, count-cons (λ (s : Standing). s.counted) x ss);
      admitted_helps = omega (arith, k.admitted_helps, h.admitted_helps, count-cons (λ (s : Standing). s.admitted) x ss, count-cons (λ (s : Standing). s.helping) x ss);
    }

-- the rule of the world on the numbers
pub record IsTally (world help : ℕ) (t : Census) : Type 0 where
  pub world_word : world ≡ t.counted + flag * t.raised
  pub one_raised : t.raised ≤ 1
  pub help_word : help ≡ t.helping + flag * t.opened
  pub admitted_stopped : 0 < t.admitted → 0 < t.knows
  pub knows_stopped : 0 < t.knows → t.active ≡ 0
  pub alone_unhelped : 0 < t.alone → t.admitted ≡ 0

-- a seat that doesn't stand anyhow
abbrev pub nowhere : Standing
nowhere = record { counted = false; active = false; raised = false; knows = false; helping = false; admitted = false; opened = false; alone = false }

pub nowhere-fits : Fits nowhere
nowhere-fits = record { opened_or_alone = omega arith; knows_raised = omega arith; active_counted = omega arith; admitted_helps = omega arith; one_role = omega arith }

-- the seats other than i
abbrev pub others : List Standing → ℕ → Census
others ss i = census (set ss i nowhere)

counts_one : (f : Standing → Bool) (ss : List Standing) (i : ℕ) (y : Standing) → i < length ss → f nowhere ≡ false → count_by f (set ss i y) ≡ count_by f (set ss i nowhere) + bit (f y)
counts_one f ss i y h z =
    let long : i < length (set ss i nowhere) = rw length-set h in
    let moved = sum_by-set (λ (s : Standing). bit (f s)) (set ss i nowhere) i y nowhere long in
    let at : bit (f (get_or (set ss i nowhere) i nowhere)) ≡ 0 = ap (λ (s : Standing). bit (f s)) (get_or-set_same ss i nowhere nowhere h) ∙ ap bit z in
    rw set-set at (let e : count_by f (set (set ss i nowhere) i y) ≡ count_by f (set ss i nowhere) + bit (f y) = omega (arith, moved, at) in e)

-- the numbers if seat i stands as y
pub census-set : (ss : List Standing) (i : ℕ) (y : Standing) → i < length ss → census (set ss i y) ≡ plus (others ss i) y
census-set ss i y h =
    rw (
      counts_one (λ (s : Standing). s.counted) ss i y h refl,
      counts_one (λ (s : Standing). s.active) ss i y h refl,
      counts_one (λ (s : Standing). s.raised) ss i y h refl,
      counts_one (λ (s : Standing). s.knows) ss i y h refl,
      counts_one (λ (s : Standing). s.helping) ss i y h refl,
      counts_one (λ (s : Standing). s.admitted) ss i y h refl,
      counts_one (λ (s : Standing). s.opened) ss i y h refl,
      counts_one (λ (s : Standing). s.alone) ss i y h refl,
    )
    refl

pub census-now : (ss : List Standing) (i : ℕ) (x : Standing) → i < length ss → get_or ss i x ≡ x → census ss ≡ plus (others ss i) x
census-now ss i x h is = subst (λ (ts : List Standing). census ts ≡ plus (others ss i) x) (subst (λ (y : Standing). set ss i y ≡ ss) is (set-get_or ss i x)) (census-set ss i x h)

pub others-fit : (ss : List Standing) (i : ℕ) → All Fits ss → CensusFits (others ss i)
others-fit ss i a = census-fits (set ss i nowhere) (All-set Fits ss i nowhere nowhere-fits a)

-- there are at most forty-one of them
pub record IsFew (r : Census) : Type 0 where
  pub counted : r.counted ≤ 41
  pub helping : r.helping ≤ 41

pub others-few : (ss : List Standing) (i : ℕ) → length ss ≤ 41 → IsFew (others ss i)
others-few ss i h =
    record {
      counted = omega (arith, count_by-le-length (λ (s : Standing). s.counted) (set ss i nowhere), length-set ss i nowhere);
      helping = omega (arith, count_by-le-length (λ (s : Standing). s.helping) (set ss i nowhere), length-set ss i nowhere);
    }

-- The words that hold a number of seats below a flag.
pub flag-is : (word c r : ℕ) → word ≡ c + flag * r → c ≤ 42 → r ≤ 1 → bit (has_flag word) ≡ r
flag-is word c r e h l =
    ⊎_elim
    (λ (b : word < flag). ap (λ x. bit (not x)) (lt-ltb word flag b) ∙ omega arith)
    (λ (b : flag ≤ word). ap (λ x. bit (not x)) (le-ltb word flag b) ∙ omega arith)
    (cases_lt word flag)

-- the bits of a flag and what is below it
or_bits : (a b i : ℕ) → a ≤ 1 → b < 2 ^ 32 → bit_at (bit_or (a * 2 ^ 32 + b) (2 ^ 32)) i ≡ bit_at (1 * 2 ^ 32 + b) i
or_bits a b i h l =
    bit_at_or (a * 2 ^ 32 + b) (2 ^ 32) i
    ∙ ⊎_elim
    (λ (s : i < 32).
    let other : i ≢ 32 = λ e. omega arith in
    rw (bit_at_cat_low a 32 b i s, bit_at_cat_low 1 32 b i s, bit_at-pow_other 32 i other) (omega (arith, bit_at-lt b i)))
    (λ (s : 32 ≤ i).
    rw (bit_at_cat_high a 32 b i l s, bit_at_cat_high 1 32 b i l s)
    (⊎_elim
    (λ (e : i ≡ 32). rw e (rw bit_at-pow_same (omega (arith, bit_at-lt a 0))))
    (λ (n : i ≡ 32 → ⊥). rw (bit_at-pow_other 32 i n, bit_at_above a 1 (i - 32) (omega arith) (omega arith), bit_at_above 1 1 (i - 32) (omega arith) (omega arith)) refl)
    (cases_eq i 32)))
    (cases_lt i 32)

-- the flag is set beside the count
pub or-flag : (word c r : ℕ) → word ≡ c + flag * r → c ≤ 42 → r ≤ 1 → bit_or word flag ≡ c + flag
or-flag word c r e h l =
    let at : word ≡ r * 2 ^ 32 + c = omega (arith, e) in
    rw at (same_from_bits (bit_or (r * 2 ^ 32 + c) (2 ^ 32)) (1 * 2 ^ 32 + c) (λ i. or_bits r c i l (omega arith)) ∙ omega arith)

zero_if : (a b : ℕ) → (0 < a → 0 < b) → b ≡ 0 → a ≡ 0
zero_if a b h e =
    ⊎_elim
    (λ (g : 0 < a). absurd (omega (arith, h g, e)))
    (λ (g : a ≤ 0). omega arith)
    (cases_lt 0 a)

-- seat x stands beside the others, whose numbers are r
pub record Stands (world help : ℕ) (r : Census) (x : Standing) : Type 0 where
  pub fits : Fits x
  pub tally : IsTally world help (plus r x)
  pub others : CensusFits r
  pub few : IsFew r

-- the seat is in neither number, and has not raised the flag
pub record Bare (x : Standing) : Type 0 where
  pub counted : bit x.counted ≡ 0
  pub raised : bit x.raised ≡ 0
  pub helping : bit x.helping ≡ 0

not_bit : (b : Bool) → bit (not b) + bit b ≡ 1
not_bit true = refl
not_bit false = refl

world_flag : (world help : ℕ) (r : Census) (x : Standing) → Stands world help r x → bit (has_flag world) ≡ r.raised + bit x.raised
world_flag world help r x k = flag-is world (r.counted + bit x.counted) (r.raised + bit x.raised) k.tally.world_word (omega (arith, k.few.counted, bit-below x.counted)) k.tally.one_raised

help_flag : (world help : ℕ) (r : Census) (x : Standing) → Stands world help r x → bit (has_flag help) ≡ r.opened + bit x.opened
help_flag world help r x k =
    flag-is help (r.helping + bit x.helping) (r.opened + bit x.opened) k.tally.help_word (omega (arith, k.few.helping, bit-below x.helping)) (omega (arith, k.fits, k.others, k.tally.one_raised))

-- 25
pub enters : (world help : ℕ) (r : Census) (x : Standing) → Stands world help r x → Bare x → Stands (wrapped_sum world 1) help r (record x { counted = true; active = not (has_flag world) })
enters world help r x k b =
    let flagged = world_flag world help r x k in
    let other = not_bit (has_flag world) in
    grind (arith, k.tally, k.fits, k.others, k.few)

-- 26: the seat was counted
pub leaves : (world help : ℕ) (r : Census) (x : Standing) → Stands world help r x → bit x.counted ≡ 1 → Stands (wrapped_difference world 1) help r (record x { counted = false; active = false })
leaves world help r x k b =
    grind (arith, k.tally, k.fits, k.others, k.few)

-- 27
pub raises : (world help : ℕ) (r : Census) (x : Standing) → Stands world help r x → Bare x → Stands (bit_or world flag) help r (record x { raised = not (has_flag world) })
raises world help r x k b =
    let flagged = world_flag world help r x k in
    let other = not_bit (has_flag world) in
    let set = or-flag world (r.counted + bit x.counted) (r.raised + bit x.raised) k.tally.world_word (omega (arith, k.few.counted, bit-below x.counted)) k.tally.one_raised in
    grind (arith, k.tally, k.fits, k.others, k.few)

-- 29: the seat knows, and is alone
pub drops : (world help : ℕ) (r : Census) (x : Standing) → Stands world help r x → bit x.knows ≡ 1 → bit x.alone ≡ 1 → Stands (wrapped_difference world 4294967295) help r (record x { raised = false; knows = false; alone = false; counted = true; active = true })
drops world help r x k b d =
    grind (arith, k.tally, k.fits, k.others, k.few)

-- 43: the seat knows, and has not opened
pub opens : (world help : ℕ) (r : Census) (x : Standing) → Stands world help r x → bit x.knows ≡ 1 → bit x.opened ≡ 0 → Stands world (bit_or help flag) r (record x { opened = true; alone = false })
opens world help r x k b d =
    let set = or-flag help (r.helping + bit x.helping) (r.opened + bit x.opened) k.tally.help_word (omega (arith, k.few.helping, bit-below x.helping)) (omega (arith, k.fits, k.others, k.tally.one_raised)) in
    grind (arith, k.tally, k.fits, k.others, k.few)

-- 44
pub joins : (world help : ℕ) (r : Census) (x : Standing) → Stands world help r x → Bare x → Stands world (wrapped_sum help 1) r (record x { helping = true; admitted = has_flag help })
joins world help r x k b =
    let flagged = help_flag world help r x k in
    let below = bit-below (has_flag help) in
    grind (arith, k.tally, k.fits, k.others, k.few)

-- 45: the seat helps
pub leaves-help : (world help : ℕ) (r : Census) (x : Standing) → Stands world help r x → bit x.helping ≡ 1 → Stands world (wrapped_difference help 1) r (record x { helping = false; admitted = false })
leaves-help world help r x k b =
    grind (arith, k.tally, k.fits, k.others, k.few)

-- 46: the seat has opened
pub closes : (world help : ℕ) (r : Census) (x : Standing) → Stands world help r x → bit x.opened ≡ 1 → Stands world (wrapped_difference help flag) r (record x { opened = false })
closes world help r x k b =
    let below = bit-below x.helping in
    grind (arith, k.tally, k.fits, k.others, k.few)

-- 28: the seat that raised the flag finds no seat counted
pub observes : (world help : ℕ) (r : Census) (x : Standing) → Stands world help r x → world ≡ flag → bit x.raised ≡ 1 → bit x.knows ≡ 0 → Stands world help r (record x { knows = true; alone = true })
observes world help r x k e b d =
    let least = k.tally.one_raised in
    let fewer = k.others.knows_raised in
    let none = zero_if (r.admitted + bit x.admitted) (r.knows + bit x.knows) k.tally.admitted_stopped (omega arith) in
    grind (arith, k.tally, k.fits, k.others, k.few)

-- 47: the seat knows, has not opened, and finds no seat helping
pub sees : (world help : ℕ) (r : Census) (x : Standing) → Stands world help r x → help ≡ 0 → bit x.knows ≡ 1 → bit x.opened ≡ 0 → Stands world help r (record x { alone = true })
sees world help r x k e b d =
    grind (arith, k.tally, k.fits, k.others, k.few)
