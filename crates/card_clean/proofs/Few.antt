-- How many steps the calls that clean cards take.
use Rattle.std.proofs.Common.{ℕ, ◌≡◌, ◌≤◌, ◌+◌, ◌-◌, ◌*◌, length, ap, arith, Option, Some, None}
use Rattle.std.specs.Prelude.{IfNone, IfSome, min}
use Rattle.std.proofs.Math.Nat.{le-min, min-le_left, min-le_right, mul-le-mul_right}
use Rattle.mark_core.specs.Cards.{card_cells}
use Rattle.mark_core.specs.declared.kinds.Shape.{Shape}
use Rattle.gc_table.specs.Log.{events}
use Rattle.gc_table.specs.Running.{Ran}
use Rattle.gc_table.specs.declared.view.View.{View}
use Rattle.packet_pools.proofs.Few.{another, few-join, few-sum}
use Rattle.packet_pools.proofs.RoomLeft.{room-join}
use Rattle.packet_pools.specs.StepBounds.{give_steps, output_steps, room_steps, scan_steps}
use Rattle.card_clean.specs.StepBounds.{clean_next_steps, clean_some_steps, clean_steps, next_steps, pass_steps, rescan_steps}

-- the cells that are scanned again are counted
pub sum-cells : (m n each : ℕ) → (m + n) * each ≡ m * each + n * each
sum-cells m n each = omega arith

pub rescans-few : (m n a b c : ℕ) (sh : Shape) (u v w : View) → Ran u v → Ran v w → length (events u v) + b ≤ a + rescan_steps m sh → length (events v w) + c ≤ b + rescan_steps n sh → length (events u w) + c ≤ a + rescan_steps (m + n) sh
rescans-few m n a b c sh u v w q r d e =
    let all = room-join a b c (rescan_steps m sh) (rescan_steps n sh) u v w q r d e in
    let sum = sum-cells m n (scan_steps sh.fields sh) in
    omega (arith, all, sum)

-- another card of a pass
pub pass-few : (first card m n a b c : ℕ) (sh : Shape) (u v w : View) → first ≤ card → Ran u v → Ran v w → length (events u v) + b ≤ a + pass_steps (card - first) m sh → length (events v w) + c ≤ b + pass_steps 1 n sh → length (events u w) + c ≤ a + pass_steps (card + 1 - first) (m + n) sh
pass-few first card m n a b c sh u v w l q r d e =
    let all = room-join a b c (pass_steps (card - first) m sh) (pass_steps 1 n sh) u v w q r d e in
    let sum = sum-cells m n (scan_steps sh.fields sh) in
    omega (arith, all, sum, l)

-- this many cards are left of a stretch
pub stretch-few : (first cards n : ℕ) → min (first + n) cards - first ≤ min n cards
stretch-few first cards n =
    let a = min-le_left (first + n) cards in
    let b = min-le_right (first + n) cards in
    le-min (omega (arith, a)) (omega (arith, b))

-- fewer cards
pub some-fewer : (a b n : ℕ) (sh : Shape) (k : ℕ) → a ≤ b → k ≤ clean_some_steps a n sh → k ≤ clean_some_steps b n sh
some-fewer a b n sh k l few = omega (arith, l, few)

-- another stretch of a round
pub round-few : (i m n cards : ℕ) (sh : Shape) (u v w : View) → Ran u v → Ran v w → length (events u v) ≤ i * clean_some_steps cards 0 sh + rescan_steps m sh → length (events v w) ≤ clean_some_steps cards n sh → length (events u w) ≤ (i + 1) * clean_some_steps cards 0 sh + rescan_steps (m + n) sh
round-few i m n cards sh u v w a b p q =
    let each : ℕ = clean_some_steps cards 0 sh in
    let all = few-join (i * each + rescan_steps m sh) (clean_some_steps cards n sh) u v w a b p q in
    let sum = sum-cells m n (scan_steps sh.fields sh) in
    let grown = another i each in
    omega (arith, all, sum, grown)

-- a look at a clean card takes no more than one at a dirty one
pub looks-fewer : (looks : ℕ) (sh : Shape) (n : ℕ) → n ≤ output_steps sh + 3 * looks → n ≤ clean_next_steps looks sh
looks-fewer looks sh n few = let each = mul-le-mul_right {m = 3} {n = next_steps sh} looks (omega arith) in omega (arith, few, each)

-- what a pass over the next cards takes, whatever it came to
pub next-few : (o : Option ℕ) (looks : ℕ) (sh : Shape) (n : ℕ) → IfSome o (λ left. (left ≤ looks) × (n ≤ clean_next_steps (looks - left) sh)) × IfNone o (n ≤ output_steps sh + 3 * looks) → n ≤ clean_next_steps looks sh
next-few (Some left) looks sh n few =
    let most = mul-le-mul_right {m = looks - left} {n = looks} (next_steps sh) (omega arith) in
    let some = few.0.1 in
    omega (arith, some, most)
next-few None looks sh n few = looks-fewer looks sh n few.1

-- looks up to the first dirty card, which is cleaned, and then those that follow
pub next-sum : (looks more left meet from : ℕ) (sh : Shape) → more + 1 ≤ looks → left ≤ more → meet + 3 * more ≤ 3 * looks → from ≤ output_steps sh + clean_steps card_cells sh + (more - left) * next_steps sh + room_steps sh + give_steps → meet + from ≤ clean_next_steps (looks - left) sh
next-sum looks more left meet from sh l k m f =
    let one = mul-le-mul_right {m = 1} {n = looks - more} (clean_steps card_cells sh) (omega (arith, l)) in
    let sum = sum-cells (looks - more) (more - left) (next_steps sh) in
    let same : (looks - more + (more - left)) * next_steps sh ≡ (looks - left) * next_steps sh = ap (λ x. x * next_steps sh) (all-looks looks more left l k) in
    omega (arith, one, sum, same, m, f, l)
  where
    all-looks : (looks more left : ℕ) → more + 1 ≤ looks → left ≤ more → looks - more + (more - left) ≡ looks - left
    all-looks looks more left l k = omega (arith, l, k)

pub from-few : (o : Option ℕ) (looks more : ℕ) (sh : Shape) (u v w : View) → Ran u v → Ran v w → more + 1 ≤ looks → length (events u v) + 3 * more ≤ 3 * looks
    → IfSome o (λ left. (left ≤ more) × (length (events v w) ≤ output_steps sh + clean_steps card_cells sh + (more - left) * next_steps sh + room_steps sh + give_steps)) × IfNone o (length (events v w) ≤ output_steps sh)
    → IfSome o (λ left. (left ≤ looks) × (length (events u w) ≤ clean_next_steps (looks - left) sh)) × IfNone o (length (events u w) ≤ output_steps sh + 3 * looks)
from-few (Some left) looks more sh u v w a b l m f =
    let all = few-sum u v w a b in
    let k = f.0.0 in
    let sum = next-sum looks more left (length (events u v)) (length (events v w)) sh l k m f.0.1 in
    ((omega (arith, k, l), omega (arith, all, sum)), tt)
from-few None looks more sh u v w a b l m f =
    let all = few-sum u v w a b in
    let none = f.1 in
    (tt, omega (arith, all, m, none))
