-- How many steps a payment takes.
use Rattle.std.proofs.Common.{ℕ, ◌≡◌, ◌≤◌, ◌+◌, ◌-◌, ◌*◌, length, ap, arith, Bool, true, false, Option, Some, None}
use Rattle.std.specs.Prelude.{IfNone}
use Rattle.std.proofs.Math.Nat.{mul-le-mul_right}
use Rattle.mark_core.specs.declared.kinds.Shape.{Shape}
use Rattle.gc_table.specs.Log.{events}
use Rattle.gc_table.specs.Running.{Ran}
use Rattle.gc_table.specs.declared.view.View.{View}
use Rattle.packet_pools.proofs.Few.{another}
use Rattle.tracer.specs.StepBounds.{trace_steps}
use Rattle.tracer.proofs.Few.{traces-apart, traces-fewer}
use Rattle.card_clean.specs.StepBounds.{clean_next_steps, next_steps}
use Rattle.card_clean.proofs.Few.{sum-cells}
use Rattle.gc_cycle.specs.declared.counts.Refill.{Refill}
use Rattle.gc_cycle.proofs.Few.{few-join}
use Rattle.cache_refills.specs.Pace.Pacing.{card_looks, looks_by}
use Rattle.cache_refills.specs.Pace.StepBounds.{payment_steps, quota_steps, round_steps}

-- one more round, by which fewer looks are left
pub round-more : (m n rounds looks a b : ℕ) (sh : Shape) (u v w : View) → Ran u v → Ran v w → m ≤ n → a ≤ looks → b ≤ a → length (events u v) ≤ trace_steps m sh + rounds * round_steps sh + (looks - a) * next_steps sh → length (events v w) ≤ clean_next_steps (a - b) sh + trace_steps (n - m) sh
    → length (events u w) ≤ trace_steps n sh + (rounds + 1) * round_steps sh + (looks - b) * next_steps sh
round-more m n rounds looks a b sh u v w r q l k j p o =
    let all = few-join (trace_steps m sh + rounds * round_steps sh + (looks - a) * next_steps sh) (clean_next_steps (a - b) sh + trace_steps (n - m) sh) u v w r q p o in
    let more = traces-apart m n sh l in
    let grown = another rounds (round_steps sh) in
    let sum = sum-cells (looks - a) (a - b) (next_steps sh) in
    let same : (looks - a + (a - b)) * next_steps sh ≡ (looks - b) * next_steps sh = ap (λ x. x * next_steps sh) (rest-of-looks looks a b k j) in
    omega (arith, all, more, grown, sum, same)
  where
    rest-of-looks : (looks a b : ℕ) → a ≤ looks → b ≤ a → looks - a + (a - b) ≡ looks - b
    rest-of-looks looks a b k j = omega (arith, k, j)

-- the last one, in which no card was cleaned
pub round-last : (m rounds looks a : ℕ) (sh : Shape) (u v w : View) → Ran u v → Ran v w → a ≤ looks → length (events u v) ≤ trace_steps m sh + rounds * round_steps sh + (looks - a) * next_steps sh → length (events v w) ≤ clean_next_steps a sh
    → length (events u w) ≤ trace_steps m sh + (rounds + 1) * round_steps sh + looks * next_steps sh
round-last m rounds looks a sh u v w r q k p o =
    let all = few-join (trace_steps m sh + rounds * round_steps sh + (looks - a) * next_steps sh) (clean_next_steps a sh) u v w r q p o in
    let grown = another rounds (round_steps sh) in
    let sum = sum-cells (looks - a) a (next_steps sh) in
    let same : (looks - a + a) * next_steps sh ≡ looks * next_steps sh = ap (λ x. x * next_steps sh) (all-looks looks a k) in
    omega (arith, all, grown, sum, same)
  where
    all-looks : (looks a : ℕ) → a ≤ looks → looks - a + a ≡ looks
    all-looks looks a k = omega (arith, k)

-- fewer rounds and looks
pub rounds-fewer : (m a b j k : ℕ) (sh : Shape) (n : ℕ) → a ≤ b → j ≤ k → n ≤ trace_steps m sh + a * round_steps sh + j * next_steps sh → n ≤ trace_steps m sh + b * round_steps sh + k * next_steps sh
rounds-fewer m a b j k sh n l o few =
    let rounds = mul-le-mul_right {m = a} {n = b} (round_steps sh) l in
    let looks = mul-le-mul_right {m = j} {n = k} (next_steps sh) o in
    omega (arith, few, rounds, looks)

pub quota-fewer : (m a b : ℕ) (sh : Shape) (k : ℕ) → a ≤ b → k ≤ quota_steps m a sh → k ≤ quota_steps m b sh
quota-fewer m a b sh k l few = let most = mul-le-mul_right {m = a} {n = b} (next_steps sh) l in omega (arith, few, most)

pub payment-fewer : (a b looks : ℕ) (sh : Shape) (k : ℕ) → a ≤ b → k ≤ payment_steps a looks sh → k ≤ payment_steps b looks sh
payment-fewer a b looks sh k l few = let most = traces-fewer a b sh l in omega (arith, few, most)

pub looks-most : (late : Bool) → looks_by (Some late) ≤ card_looks
looks-most true = omega arith
looks-most false = omega arith

-- no cache was got after other steps
pub none-few : (o : Option Refill) (j k : ℕ) (u v w : View) → Ran u v → Ran v w → length (events u v) ≤ j → IfNone o (length (events v w) ≤ k) → IfNone o (length (events u w) ≤ k + j)
none-few None j k u v w a b p q = let all = few-join j k u v w a b p q in omega (arith, all)
none-few (Some r) j k u v w a b p q = tt
