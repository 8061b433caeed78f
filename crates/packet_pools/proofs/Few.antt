-- How many steps calls take, one after another, and in the search of a pool.
use Rattle.std.proofs.Common.{ℕ, ◌≡◌, ◌<◌, ◌≤◌, ◌+◌, ◌*◌, ◌-◌, List, [], ◌∷◌, length, arith, subst, sym, ap, ◌∙◌, ⊎_elim, Bool, true, false, Option, Some, None}
use Rattle.std.specs.Prelude.{◌==◌, if◌then◌else◌}
use Rattle.std.proofs.Math.Nat.{mul-le-mul_left, mul-le-mul_right}
use Rattle.std.proofs.lemmas.Bool.{cases_lt, ne_eqb}
use Rattle.std.proofs.lemmas.List.{length-append, length-map}
use Rattle.mark_core.specs.Layout.{pool_words}
use Rattle.mark_core.specs.Numbers.{word_bits}
use Rattle.mark_core.specs.declared.kinds.Shape.{Shape}
use Rattle.mark_core.specs.declared.kinds.Step.{Step}
use Rattle.mark_core.specs.declared.kinds.Step.TheVariants.{Credit, Give, StoreLength}
use Rattle.gc_table.specs.Log.{events, steps_of}
use Rattle.gc_table.specs.Running.{Ran}
use Rattle.gc_table.specs.Taking.{after}
use Rattle.gc_table.specs.declared.view.Entry.{Entry}
use Rattle.gc_table.specs.declared.view.View.{View}
use Rattle.gc_table.proofs.History.Log.{events-after, events-none}
use Rattle.gc_table.proofs.Running.{ran-events}
use Rattle.packet_pools.specs.declared.held.Held.{Held}
use Rattle.packet_pools.specs.StepBounds.{TriesPackets, give_steps, had_steps, pool_steps, try_steps}

-- one call after another
pub few-sum : (u v w : View) → Ran u v → Ran v w → length (events u w) ≡ length (events u v) + length (events v w)
few-sum u v w a b = ap length (ran-events u v w a b) ∙ length-append (events u v) (events v w)

pub few-join : (j k : ℕ) (u v w : View) → Ran u v → Ran v w → length (events u v) ≤ j → length (events v w) ≤ k → length (events u w) ≤ j + k
few-join j k u v w a b p q = let both = few-sum u v w a b in omega (arith, both, p, q)

-- one step
pub few-after : (v w : View) (step : Step) (n : ℕ) → w ≡ after step n v → length (events v w) ≤ 1
few-after v w step n e = let one = ap length (events-after v w step n e) in omega (arith, one)

-- a call without steps
pub few-none : (v : View) → length (events v v) ≤ 0
few-none v = let none = ap length (events-none v) in omega (arith, none)

-- by the list of the events, and by that of the steps
pub few-events : (k : ℕ) (v w : View) (es : List Entry) → events v w ≡ es → length es ≤ k → length (events v w) ≤ k
few-events k v w es e le = let long = ap length e in omega (arith, long, le)

pub few-steps : (k : ℕ) (v w : View) (xs : List Step) → steps_of (events v w) ≡ xs → length xs ≤ k → length (events v w) ≤ k
few-steps k v w xs e le = let long = sym (length-map (events v w) (λ (x : Entry). x.step)) ∙ ap length e in omega (arith, long, le)

pub some-tries : (b : Bool) → 1 ≤ try_steps b
some-tries true = omega arith
some-tries false = omega arith

another-try : (b : Bool) (n : ℕ) → try_steps b * (n + 1) ≡ try_steps b * n + try_steps b
another-try true n = omega arith
another-try false n = omega arith

sum-tries : (b : Bool) (m n : ℕ) → try_steps b * (m + n) ≡ try_steps b * m + try_steps b * n
sum-tries true m n = omega arith
sum-tries false m n = omega arith

-- the search of a word has read the word, and of a pool nothing
pub tries-start : (sh : Shape) (b : Bool) (words lo : ℕ) (es : List Entry) → lo ≤ sh.packets → length es ≤ words → TriesPackets sh b words lo lo 0 es
tries-start sh b words lo es there few = record { tried = 0; within = omega arith; there = omega (arith, there); few = omega (arith, few) }

-- a word of a pool stands for some packet
pub word-there : (sh : Shape) (g : ℕ) → g < pool_words sh → word_bits * g ≤ sh.packets
word-there sh g l = omega (arith, l)

-- the search of a word begins at a later packet
pub tries-later : (sh : Shape) (b : Bool) (words lo p q more : ℕ) (es : List Entry) → p ≤ q → TriesPackets sh b words lo p more es → TriesPackets sh b words lo q more es
tries-later sh b words lo p q more es l t = let w = t.within in record { tried = t.tried; within = omega (arith, w, l); there = t.there; few = t.few }

-- one more packet, if it is there
pub tries-next : (sh : Shape) (b : Bool) (words lo p more : ℕ) (u v w : View) → Ran u v → Ran v w → TriesPackets sh b words lo p 0 (events u v) → (p < sh.packets → length (events v w) ≤ try_steps b + more) → (sh.packets ≤ p → length (events v w) ≤ 0) → TriesPackets sh b words lo (p + 1) more (events u w)
tries-next sh b words lo p more u v w ran later t one none =
    let within = t.within in
    let there = t.there in
    let k : ℕ = t.tried in
    ⊎_elim
    (λ (l : p < sh.packets).
    let few = few-join (words + try_steps b * k + 0) (try_steps b + more) u v w ran later t.few (one l) in
    let grown = another-try b k in
    record { tried = k + 1; within = omega (arith, within); there = omega (arith, within, l); few = omega (arith, few, grown) })
    (λ (l : sh.packets ≤ p).
    let few = few-join (words + try_steps b * k + 0) 0 u v w ran later t.few (none l) in
    record { tried = k; within = omega (arith, within); there = there; few = omega (arith, few) })
    (cases_lt p sh.packets)

-- one more word
pub tries-word : (sh : Shape) (b : Bool) (g more : ℕ) (u v w : View) → Ran u v → Ran v w → TriesPackets sh b g 0 (word_bits * g) 0 (events u v) → TriesPackets sh b 1 (word_bits * g) (word_bits * g + word_bits) more (events v w) → TriesPackets sh b (g + 1) 0 (word_bits * (g + 1)) more (events u w)
tries-word sh b g more u v w ran later s t =
    let few = few-join (g + try_steps b * s.tried + 0) (1 + try_steps b * t.tried + more) u v w ran later s.few t.few in
    let sum = sum-tries b s.tried t.tried in
    let a = s.within in
    let d = t.within in
    let there = t.there in
    record { tried = s.tried + t.tried; within = omega (arith, a, d); there = omega (arith, a, there); few = omega (arith, few, sum) }

-- of the words up to this one
pub tries-all : (sh : Shape) (b : Bool) (g more : ℕ) (hi : ℕ) (es : List Entry) → g ≤ pool_words sh → TriesPackets sh b g 0 hi more es → length es ≤ pool_steps b sh + more
tries-all sh b g more hi es l t =
    let few = t.few in
    let there = t.there in
    let most = mul-le-mul_left {m = t.tried} {n = sh.packets} (try_steps b) (omega (arith, there)) in
    omega (arith, few, most, l)

-- a packet goes back
pub given-few : (p : ℕ) (deferred empty : Bool) → length (StoreLength p ∷ Give p deferred ∷ (if empty then Credit ∷ [] else [])) ≤ give_steps
given-few p deferred true = omega arith
given-few p deferred false = omega arith

-- a packet with a cell goes back, which isn't counted
pub given-full : (p n : ℕ) (deferred : Bool) → 0 < n → length (StoreLength p ∷ Give p deferred ∷ (if n == 0 then Credit ∷ [] else [])) ≤ 2
given-full p n deferred l = subst (λ b. length (StoreLength p ∷ Give p deferred ∷ (if b then Credit ∷ [] else [])) ≤ 2) (sym (ne_eqb n 0 (λ z. absurd (omega (arith, l, z))))) (omega arith)

pub had-most : (o : Option Held) → had_steps o ≤ 1
had-most None = omega arith
had-most (Some h) = omega arith

-- one more round
pub another : (k each : ℕ) → (k + 1) * each ≡ k * each + each
another k each = omega arith

-- the first of some rounds
pub first-more : (n each : ℕ) → 0 < n → each + (n - 1) * each ≡ n * each
first-more n each l =
    let next : n - 1 + 1 ≡ n = omega (arith, l) in
    let grown = sym (ap (λ k. k * each) next) ∙ another (n - 1) each in
    omega (arith, grown)

-- no field beyond these is read
pub last-fields : (first i end each n : ℕ) → i ≤ end → n ≤ (i - first) * each → n ≤ (end - first) * each
last-fields first i end each n l few =
    let most = mul-le-mul_right {m = i - first} {n = end - first} each (omega (arith, l)) in
    omega (arith, few, most)
