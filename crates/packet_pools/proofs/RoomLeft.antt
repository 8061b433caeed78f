-- What the searches of a call may still take, step by step.
use Rattle.std.proofs.Common.{ℕ, ◌≡◌, ◌<◌, ◌≤◌, ◌+◌, ◌*◌, ◌-◌, zero, suc, length, arith, sym, subst}
use Rattle.std.proofs.Math.Nat.{mul-le-mul_left}
use Rattle.std.proofs.lemmas.Grind.{div_ceil_times}
use Rattle.mark_core.specs.declared.kinds.Shape.{Shape}
use Rattle.gc_table.specs.Log.{events}
use Rattle.gc_table.specs.Running.{Ran}
use Rattle.gc_table.specs.declared.view.View.{View}
use Rattle.packet_pools.specs.declared.search.Search.{Search}
use Rattle.packet_pools.specs.declared.search.Search.TheVariants.{Open, Tried}
use Rattle.packet_pools.specs.StepBounds.{filling_steps, give_steps, left_steps, output_steps, room_left, room_steps, spare_room, spare_steps}
use Rattle.packet_pools.proofs.Few.{another, few-sum}

-- By numbers: each cell of so many puts something aside.
each-some : (each free k : ℕ) → 1 ≤ k → k ≤ each * free → 1 ≤ each
each-some zero free k some most = absurd (omega (arith, some, most))
each-some (suc n) free k some most = omega arith

one-more : (each n : ℕ) → each * (n + 1) ≡ each * n + each
one-more each n = omega arith

all-aside : (each free left d k : ℕ) → d + k ≤ each * free → d + k + (left + each * 0) ≤ left + each * free
all-aside each free left d k most = omega (arith, most)

some-aside : (each free n s t d k : ℕ) → 1 ≤ each → n + 1 ≤ free → d + k + t ≤ s → d + (k + 1) + (t + each * n) ≤ s + each * free
some-aside each free n s t d k some less few =
    let most = mul-le-mul_left {m = n + 1} {n = free} each less in
    let more = one-more each n in
    omega (arith, most, more, some, few)

more-aside : (each m n left : ℕ) → m ≤ n + 1 → left + each * m ≤ left + each * n + each
more-aside each m n left l =
    let most = mul-le-mul_left {m = m} {n = n + 1} each l in
    let more = one-more each n in
    omega (arith, most, more)

module _ (sh : Shape) where
  room-some : 1 ≤ spare_room sh
  room-some = omega arith

  -- the cells that fill a packet pay for a search, and for the full packet that goes back
  pays : spare_steps sh + give_steps ≤ filling_steps sh * spare_room sh
  pays = (div_ceil_times (spare_steps sh + give_steps) (spare_room sh) room-some).0

  whole : sh.entries + spare_room sh - sh.entries ≡ spare_room sh
  whole = omega arith

  -- a packet that is more than half free was found
  pub room-spare : (n d : ℕ) → 2 ≤ sh.entries → 2 * n < sh.entries → d ≤ spare_steps sh → d + give_steps + room_left sh Open n ≤ room_left sh Open sh.entries
  room-spare n d two half few =
      let none : n + spare_room sh - sh.entries ≡ 0 = omega (arith, two, half) in
      let most : d + give_steps ≤ filling_steps sh * spare_room sh = let paid = pays in omega (arith, paid, few) in
      subst (λ x. d + give_steps + (left_steps sh Open + filling_steps sh * x) ≤ left_steps sh Open + filling_steps sh * (sh.entries + spare_room sh - sh.entries)) (sym none)
      (subst (λ x. d + give_steps + (left_steps sh Open + filling_steps sh * 0) ≤ left_steps sh Open + filling_steps sh * x) (sym whole)
      (all-aside (filling_steps sh) (spare_room sh) (left_steps sh Open) d give_steps most))

  -- a packet with room was found in the high pool
  pub room-found : (s t : Search) (n d : ℕ) → n < sh.entries → d + 2 + left_steps sh t ≤ left_steps sh s → d + give_steps + room_left sh t n ≤ room_left sh s sh.entries
  room-found s t n d room few =
      let some = room-some in
      let less : n + spare_room sh - sh.entries + 1 ≤ spare_room sh = omega (arith, room, some) in
      let one = each-some (filling_steps sh) (spare_room sh) (spare_steps sh + give_steps) (omega arith) pays in
      subst (λ x. d + give_steps + room_left sh t n ≤ left_steps sh s + filling_steps sh * x) (sym whole)
      (some-aside (filling_steps sh) (spare_room sh) (n + spare_room sh - sh.entries) (left_steps sh s) (left_steps sh t) d 2 one less few)

  -- none was found in the first two pools, and one in the high pool
  pub room-late : (t : Search) (n d f : ℕ) → n < sh.entries → d + 1 ≤ spare_steps sh → f + 2 + left_steps sh t ≤ left_steps sh (Tried 0) → d + f + give_steps + room_left sh t n ≤ room_left sh Open sh.entries
  room-late t n d f room few last = room-found Open t n (d + f) room (omega (arith, few, last))

  -- a cell was pushed
  pub room-push : (s : Search) (n : ℕ) → room_left sh s (n + 1) ≤ room_left sh s n + filling_steps sh
  room-push s n = more-aside (filling_steps sh) (n + 1 + spare_room sh - sh.entries) (n + spare_room sh - sh.entries) (left_steps sh s) (omega arith)

  -- all that a call may take
  pub room-whole : (n : ℕ) → n ≤ sh.entries → room_left sh Open n ≤ room_steps sh
  room-whole n fits =
      let most = mul-le-mul_left {m = n + spare_room sh - sh.entries} {n = spare_room sh} (filling_steps sh) (omega (arith, fits)) in
      omega (arith, most)

  -- a whole search for a packet with room, with a cell that goes into it and the packet that goes back, takes no more
  pub room-output : output_steps sh + give_steps + 1 ≤ room_steps sh
  room-output = let paid = pays in omega (arith, paid)

-- one call after another
pub room-join : (a b c x y : ℕ) (u v w : View) → Ran u v → Ran v w → length (events u v) + b ≤ a + x → length (events v w) + c ≤ b + y → length (events u w) + c ≤ a + (x + y)
room-join a b c x y u v w q r d e = let all = few-sum u v w q r in omega (arith, all, d, e)

-- one more field
pub room-fields : (first i each a b c : ℕ) (u v w : View) → first ≤ i → Ran u v → Ran v w → length (events u v) + b ≤ a + (i - first) * each → length (events v w) + c ≤ b + each → length (events u w) + c ≤ a + (i + 1 - first) * each
room-fields first i each a b c u v w l q r d e =
    let next : i + 1 - first ≡ i - first + 1 = omega (arith, l) in
    subst (λ k. length (events u w) + c ≤ a + k * each) (sym next) (let all = room-join a b c ((i - first) * each) each u v w q r d e in let more = another (i - first) each in omega (arith, all, more))
