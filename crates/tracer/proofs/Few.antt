-- How many steps the calls of a tracer take.
use Rattle.std.proofs.Common.{ℕ, ◌≡◌, ◌<◌, ◌≤◌, ◌+◌, ◌-◌, ◌*◌, ◌/◌, ◌%◌, [], ◌∷◌, arith, ap, Option, Some, None, ⊎_elim}
use Rattle.std.specs.Prelude.{IfSome, IfNone}
use Rattle.std.proofs.Math.Nat.{mul-le-mul_left, mul-le-mul_right}
use Rattle.std.proofs.lemmas.Bool.{cases_lt}
use Rattle.mark_core.specs.declared.kinds.Shape.{Shape}
use Rattle.gc_table.specs.declared.view.View.{View}
use Rattle.packet_pools.specs.declared.held.Held.{Held}
use Rattle.packet_pools.specs.declared.search.Search.{Search}
use Rattle.packet_pools.specs.declared.search.Search.TheVariants.{Open, Tried}
use Rattle.packet_pools.specs.StepBounds.{filling_steps, give_steps, left_steps, room_left, room_steps, spare_room}
use Rattle.packet_pools.proofs.Few.{another}
use Rattle.packet_pools.proofs.RoomLeft.{room-push, room-whole}
use Rattle.tracer.specs.declared.packets.Packets.{Packets}
use Rattle.tracer.specs.Hands.{Carries, in_front, packets_of}
use Rattle.tracer.specs.StepBounds.{aside_steps, deferring_left, each_steps, filled_in, filled_length, given_steps, put_aside, share_each, sharing_steps, trace_steps}

pub given-most : (o : Option Held) → given_steps o ≤ give_steps
given-most None = omega arith
given-most (Some h) = omega arith

pub given-nothing : (o : Option Held) → o ≡ None → given_steps o ≡ 0
given-nothing o e = ap given_steps e

-- an object has a field
pub some-field : (n each : ℕ) → 0 < n → each ≤ n * each
some-field n each l = let most = mul-le-mul_right {m = 1} {n = n} each (omega (arith, l)) in omega (arith, most)

-- a packet in hand is no longer than it may be
pub filled-fits : (x : Packets) (v : View) → Carries (packets_of x) v → filled_length x ≤ v.shape.entries
filled-fits x v c = either x.input x.output x.deferred c
  where
    either : (i : Held) (o d : Option Held) → Carries (i ∷ in_front o (in_front d [])) v → filled_in i o ≤ v.shape.entries
    either i None d c = c.fit.1
    either i (Some o) d c = c.fit.2.1

module _ (sh : Shape) where
  -- another packet is filled
  pub room-any : (s : Search) (n m : ℕ) → n ≤ sh.entries → room_left sh s n ≤ room_left sh s m + aside_steps sh
  room-any s n m fits =
      let most = mul-le-mul_left {m = n + spare_room sh - sh.entries} {n = spare_room sh} (filling_steps sh) (omega (arith, fits)) in
      omega (arith, most)

  pub room-most : (s : Search) (n : ℕ) → n ≤ sh.entries → room_left sh s n ≤ room_steps sh
  room-most Open n fits = room-whole sh n fits
  room-most (Tried k) n fits =
      let most = mul-le-mul_left {m = n + spare_room sh - sh.entries} {n = spare_room sh} (filling_steps sh) (omega (arith, fits)) in
      omega (arith, most)

  -- a packet that is full has put all aside
  full-aside : (n : ℕ) → n ≡ sh.entries → put_aside sh n ≡ aside_steps sh
  full-aside n full = ap (λ k. filling_steps sh * k) (let same : n + spare_room sh - sh.entries ≡ spare_room sh = omega (arith, full) in same)

  -- a packet to defer into was looked for
  pub deferring-found : (s t : Search) (r : Option Held) (n : ℕ) → IfSome r (λ h. n + give_steps + room_left sh t h.length ≤ room_left sh s sh.entries) → IfNone r (n + left_steps sh t ≤ left_steps sh s) → n + left_steps sh t + deferring_left sh r ≤ left_steps sh s + deferring_left sh None
  deferring-found s t None n some none = omega (arith, none)
  deferring-found s t (Some h) n some none = let whole = full-aside sh.entries (omega arith) in omega (arith, some, whole)

  -- a deferred cell was pushed
  pub deferring-push : (h k : Held) (n : ℕ) → k.length ≡ h.length + 1 → n ≤ 1 → n + deferring_left sh (Some k) ≤ deferring_left sh (Some h) + filling_steps sh + 1
  deferring-push h k n more few =
      let grown = room-push sh Open h.length in
      let same = ap (put_aside sh) more in
      omega (arith, grown, same, few)

  pub deferring-full : (h k : Held) (n : ℕ) → k.length ≡ h.length + 1 → k.length ≡ sh.entries → n ≤ 1 + give_steps → n + deferring_left sh None ≤ deferring_left sh (Some h) + filling_steps sh + 1
  deferring-full h k n more full few =
      let grown = room-push sh Open h.length in
      let same = ap (put_aside sh) more in
      let whole = full-aside k.length full in
      omega (arith, grown, same, whole, few)

-- By numbers: another object is traced, in a turn in which the seat may share.
pub turn : (k all each find object aside share room : ℕ) (a b c d before between after : ℕ) → each ≡ find + object + aside → a + before ≤ all + (k * each + k / share_each * (share + room)) → (k % share_each < share_each - 1 → (b ≤ 0) × (between ≤ before + aside)) → b ≤ share → between ≤ before + room → c ≤ find → d + after ≤ between + object → a + (b + (c + d)) + after ≤ all + ((k + 1) * each + (k + 1) / share_each * (share + room))
turn k all each find object aside share room a b c d before between after is done unshared few most found traced =
    let grown = another k each in
    ⊎_elim
    (λ (l : k % share_each < share_each - 1).
    let none = unshared l in
    let same : k / share_each ≡ (k + 1) / share_each = omega (arith, l) in
    let shared = ap (λ n. n * (share + room)) same in
    let quiet = none.0 in
    let kept = none.1 in
    omega (arith, is, done, quiet, kept, found, traced, grown, shared))
    (λ (l : share_each - 1 ≤ k % share_each).
    let next : k / share_each + 1 ≡ (k + 1) / share_each = omega (arith, l) in
    let shared = ap (λ n. n * (share + room)) next in
    let more = another (k / share_each) (share + room) in
    omega (arith, is, done, few, most, found, traced, grown, shared, more))
    (cases_lt (k % share_each) (share_each - 1))

-- fewer objects take fewer steps
pub traces-fewer : (m n : ℕ) (sh : Shape) → m ≤ n → trace_steps m sh ≤ trace_steps n sh
traces-fewer m n sh l =
    let objects = mul-le-mul_right {m = m} {n = n} (each_steps sh) l in
    let shares = mul-le-mul_right {m = m / share_each} {n = n / share_each} (sharing_steps sh) (omega (arith, l)) in
    omega (arith, objects, shares)

sum-rounds : (m n each : ℕ) → (m + n) * each ≡ m * each + n * each
sum-rounds m n each = omega arith

-- objects that are traced in two calls take what they take in one, and what a call without any does
pub traces-apart : (m n : ℕ) (sh : Shape) → m ≤ n → trace_steps m sh + trace_steps (n - m) sh ≤ trace_steps n sh + trace_steps 0 sh
traces-apart m n sh l =
    let objects = sum-rounds m (n - m) (each_steps sh) in
    let all : m + (n - m) ≡ n = omega (arith, l) in
    let same = ap (λ k. k * each_steps sh) all in
    let shares = sum-rounds (m / share_each) ((n - m) / share_each) (sharing_steps sh) in
    let fewer = mul-le-mul_right {m = m / share_each + (n - m) / share_each} {n = n / share_each} (sharing_steps sh) (omega (arith, l)) in
    omega (arith, objects, same, shares, fewer)
