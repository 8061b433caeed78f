-- What a seat's cache says of itself after each step that is allowed: an unread cache is empty, free and used cells are apart, and a cell is made from a free
-- one.
use Rattle.std.proofs.Common.{ℕ, ◌≡◌, ◌≢◌, ◌+◌, ◌/◌, ◌%◌, ◌<◌, List, arith, refl, sym, ap, ◌∙◌, Bool, true, false, ◌&&◌, Option, Some, None, eqb, ⊎_elim, subst, not, cond, ◌⊎◌, inl, inr}
use Rattle.std.specs.Prelude.{IfSome, IsTrue, IsFalse, nat_le}
use Rattle.std.proofs.lemmas.Bool.{and_right, cases_eq, true≢false, false≢true, and_parts, eqb-true, ne_eqb}
use Rattle.mark_core.specs.Layout.{Words, words_of}
use Rattle.mark_core.specs.Bits.{has_bit, with_bit, without_bit}
use Rattle.mark_core.specs.Seats.{in_set, free_in, used_in, is_unread, has_making, scans, makes}
use Rattle.mark_core.specs.Steps.MutatorSteps.{with_free, with_making, with_made, without_used}
use Rattle.mark_core.specs.Parts.{parts}
use Rattle.mark_core.specs.Effects.{seat_after}
use Rattle.mark_core.specs.Steps.{AllTrue, Core, failing_part, after_event, start_core}
use Rattle.mark_core.specs.Strong.{IsEmptyWhereUnread, IsStrongSeat}
use Rattle.mark_core.proofs.Writing.SeatBoundsKept.{choose}
use Rattle.mark_core.proofs.Writing.CellBits.{with_other, without_same, without_other}
use Rattle.mark_core.proofs.Used.UsedSeats.{empty-set}
use Rattle.mark_core.specs.declared.kinds.Shape.{Shape}
use Rattle.mark_core.specs.declared.kinds.Step.{Step}
use Rattle.mark_core.specs.declared.kinds.Step.TheVariants.{ClaimBlock, ReleaseBlock, ReadFree, StoreNew, PublishCells}
use Rattle.mark_core.specs.declared.seat.SeatState.{SeatState}
use Rattle.mark_core.specs.declared.seat.CacheState.{CacheState}
use Rattle.std.specs.List.{All}
use Rattle.mark_core.specs.Shapes.{IsShape}
use Rattle.mark_core.specs.Laws.{IsCore}
use Rattle.mark_core.proofs.Known.{Acted, found, acts}
use Rattle.mark_core.proofs.Doing.{local-kept}
use Rattle.mark_core.proofs.Pool.PoolStart.{each-seat}
use Rattle.mark_core.proofs.Formed.FormedLearns.{one-of}
use Rattle.mark_core.specs.declared.kinds.Event.{Event}

-- A cell that is made, part by part, is a free cell of its cache up to its last part.
-- the cell being made is a free cell of the cache
abbrev pub MakesFree : CacheState → Type 0
MakesFree x = IfSome x.making (λ m. IsTrue (in_set x.block x.free m.0))

-- this part of cell c may be stored next
abbrev pub is_next : Option CacheState → ℕ → ℕ → Bool
is_next o c part = cond (eqb part 0) (free_in o c && not (has_making o)) (makes o c part)

made_free : (b free c part : ℕ) (m : Option (ℕ × ℕ)) → IfSome m (λ y. IsTrue (in_set b free y.0)) → scans m c part ≡ true → in_set b free c ≡ true
made_free b free c part None h e = absurd (false≢true e)
made_free b free c part (Some y) h e = subst (λ d. in_set b free d ≡ true) (eqb-true y.0 c (and_parts (eqb y.0 c) (eqb y.1 part) e).0) h

-- the cell being made is free
pub making-free : (o : Option CacheState) (c part : ℕ) → IfSome o MakesFree → makes o c part ≡ true → free_in o c ≡ true
making-free None c part h e = absurd (false≢true e)
making-free (Some x) c part h e = made_free x.block x.free c part x.making h e

split_next : (b x y z : Bool) → cond b (x && y) z ≡ true → (x ≡ true) ⊎ (z ≡ true)
split_next true x y z e = inl (and_parts x y e).0
split_next false x y z e = inr e

-- the cell whose next part may be stored is free
pub next-free : (o : Option CacheState) (c part : ℕ) → IfSome o MakesFree → is_next o c part ≡ true → free_in o c ≡ true
next-free o c part h e =
    ⊎_elim
    (λ (f : free_in o c ≡ true). f)
    (λ (m : makes o c part ≡ true). making-free o c part h m)
    (split_next (eqb part 0) (free_in o c) (not (has_making o)) (makes o c part) e)

-- a part past the first goes to the cell being made
pub next-makes : (o : Option CacheState) (c part : ℕ) → part ≢ 0 → is_next o c part ≡ true → makes o c part ≡ true
next-makes o c part n e = ap (λ b. cond b (free_in o c && not (has_making o)) (makes o c part)) (sym (ne_eqb part 0 n)) ∙ e

-- a free cell of the cache is a cell of its block
pub free-block : (x : CacheState) (c : ℕ) → free_in (Some x) c ≡ true → x.block ≡ c / 64
free-block x c e = eqb-true x.block (c / 64) (and_parts _ _ e).0

pub used-block : (x : CacheState) (c : ℕ) → used_in (Some x) c ≡ true → x.block ≡ c / 64
used-block x c e = eqb-true x.block (c / 64) (and_parts _ _ e).0

-- the facts of a cache
pub record CacheFacts (o : Option CacheState) : Type 0 where
  pub unread_is_empty : IfSome o IsEmptyWhereUnread
  pub free_apart_from_used : (c : ℕ) → IsFalse (free_in o c && used_in o c)
  pub made_from_free : IfSome o MakesFree

pub no-facts : CacheFacts None
no-facts = record { unread_is_empty = tt; free_apart_from_used = λ c. refl; made_from_free = tt }

claimed : (b : ℕ) → CacheFacts (Some (record { block = b; unread = true; free = 0; used = 0; making = None; last = None }))
claimed b = record { unread_is_empty = λ e. (refl, refl, refl); free_apart_from_used = λ c. and_right _ _ (empty-set b c); made_from_free = tt }

-- no cell is used if the set is empty
none_used : (b free used c : ℕ) → used ≡ 0 → (in_set b free c && in_set b used c) ≡ false
none_used b free used c e = and_right _ _ (ap (λ n. in_set b n c) e ∙ empty-set b c)

read : (o : Option CacheState) (word : ℕ) → CacheFacts o → is_unread o ≡ true → CacheFacts (with_free o word)
read None word k e = no-facts
read (Some x) word k e =
    let empty : (x.free ≡ 0) × (x.used ≡ 0) × (x.making ≡ None) = k.unread_is_empty e in
    record { unread_is_empty = λ f. absurd (false≢true f); free_apart_from_used = λ c. none_used x.block _ x.used c empty.1; made_from_free = rw empty.2 tt }

-- a cache with a free cell was read
free_read : (x : CacheState) (c : ℕ) → IsEmptyWhereUnread x → free_in (Some x) c ≡ true → IsTrue x.unread → ⊥
free_read x c k f e = true≢false (sym f ∙ (ap (λ n. in_set x.block n c) (k e).0 ∙ empty-set x.block c))

making : (o : Option CacheState) (c part : ℕ) → CacheFacts o → free_in o c ≡ true → CacheFacts (with_making o c part)
making None c part k f = no-facts
making (Some x) c part k f = record { unread_is_empty = λ e. absurd (free_read x c k.unread_is_empty f e); free_apart_from_used = k.free_apart_from_used; made_from_free = f }

-- a cell that becomes used is no longer free
moved_bit : (free used k i : ℕ) → k < 64 → i < 64 → (has_bit free i && has_bit used i) ≡ false → (has_bit (without_bit free k) i && has_bit (with_bit used k) i) ≡ false
moved_bit free used k i hk hi e =
    ⊎_elim
    (λ (s : i ≡ k). ap (λ b. b && has_bit (with_bit used k) i) (ap (λ j. has_bit (without_bit free k) j) s ∙ without_same free k hk))
    (λ (d : i ≢ k). rw (without_other free k i hk hi d, with_other used k i d) e)
    (cases_eq i k)

both_in : (p a b : Bool) → ((p && a) && (p && b)) ≡ false → p ≡ true → (a && b) ≡ false
both_in true a b e f = e
both_in false a b e f = absurd (false≢true f)

in_both : (p a b : Bool) → (p ≡ true → (a && b) ≡ false) → ((p && a) && (p && b)) ≡ false
in_both true a b h = h refl
in_both false a b h = refl

made : (o : Option CacheState) (c : ℕ) → CacheFacts o → free_in o c ≡ true → CacheFacts (with_made o c)
made None c k f = no-facts
made (Some x) c k f =
    record {
      unread_is_empty = λ e. absurd (free_read x c k.unread_is_empty f e);
      free_apart_from_used =
          λ d.
          in_both (eqb x.block (d / 64)) (has_bit (without_bit x.free (c % 64)) (d % 64)) (has_bit (with_bit x.used (c % 64)) (d % 64))
          (λ e. moved_bit x.free x.used (c % 64) (d % 64) (omega arith) (omega arith) (both_in (eqb x.block (d / 64)) (has_bit x.free (d % 64)) (has_bit x.used (d % 64)) (k.free_apart_from_used d) e));
      made_from_free = tt;
    }

published : (o : Option CacheState) → CacheFacts o → CacheFacts (without_used o)
published None k = no-facts
published (Some x) k =
    record {
      unread_is_empty = λ e. let a = k.unread_is_empty e in (a.0, refl, a.2);
      free_apart_from_used = λ c. none_used x.block x.free 0 c refl;
      made_from_free = k.made_from_free;
    }

-- each step that is allowed keeps the facts of its seat's cache
pub facts-after : (sh : Shape) (w : Words) (seats : List SeatState) (s : SeatState) (step : Step) (old : ℕ) → CacheFacts s.cache → AllTrue (parts sh w seats s step) → CacheFacts (seat_after sh s step old).cache
facts-after sh w seats s (ClaimBlock b) old k ok = choose CacheFacts (eqb old 0) _ s.cache (claimed b) k
facts-after sh w seats s ReleaseBlock old k ok = no-facts
facts-after sh w seats s ReadFree old k ok = read s.cache old k ok.0
facts-after sh w seats s (StoreNew c part word) old k ok =
    let f : free_in s.cache c ≡ true = next-free s.cache c part k.made_from_free ok.1.0 in
    choose CacheFacts (nat_le part sh.fields) (with_making s.cache c (part + 1)) (with_made s.cache c) (making s.cache c (part + 1) k f) (made s.cache c k f)
facts-after sh w seats s PublishCells old k ok = published s.cache k
facts-after sh w seats s step old k ok = k

-- What each seat's cache says of itself holds at the start, and after each event that is allowed.
-- the facts of the seat's cache
abbrev pub SeatFacts : SeatState → Type 0
SeatFacts s = CacheFacts s.cache

strong_facts : (sh : Shape) (s : SeatState) → IsStrongSeat sh s → SeatFacts s
strong_facts sh s k = record { unread_is_empty = k.unread_is_empty; free_apart_from_used = k.free_apart_from_used; made_from_free = k.made_from_free }

-- these facts of all seats, in a state that meets the rule
pub all-facts : (c : Core) → IsCore c → All SeatFacts c.seats
all-facts c k i d h = strong_facts c.shape _ (k.strong.seats_strong i d h)

-- each event that is allowed keeps them
pub facts-kept_by : (c : Core) (e : Event) → IsCore c → failing_part c e ≡ None → All SeatFacts (after_event c e).seats
facts-kept_by c e k f =
    let r : (s : SeatState) × Acted c e s = acts c e k f in
    let a : Acted c e r.0 = r.1 in
    let s : SeatState = r.0 in
    let mine : SeatFacts s = one-of SeatFacts c.seats e.seat s a.seat (all-facts c k) in
    let after : SeatFacts (seat_after c.shape s e.step (found c s e.step)) = facts-after c.shape (words_of c.shape c.words) c.seats s e.step (found c s e.step) mine a.ok in
    subst (All SeatFacts) (sym a.seats) (local-kept SeatFacts c.shape e.step c.seats e.seat _ (λ j. no-facts) (λ j. no-facts) (all-facts c k) after)

-- they hold at the start
pub facts-starts : (sh : Shape) (n : ℕ) → IsShape sh → All SeatFacts (start_core sh n).seats
facts-starts sh n k = each-seat SeatFacts sh n (λ j. no-facts)
