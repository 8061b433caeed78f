-- The rule of the count is kept, from what one step does to one seat, to the pools and to the count.
use Rattle.std.proofs.Common.{ℕ, ◌≡◌, ◌≢◌, ◌+◌, ◌<◌, ◌≤◌, List, [], ◌∷◌, set, get_or, length, arith, refl, sym, ◌∙◌, Bool, true, false, ◌&&◌, ⊎_elim, suc, zero, ap, cond, not, ◌||◌}
use Rattle.std.specs.Prelude.{IsTrue, IsFalse, slice_index}
use Rattle.std.specs.List.{All, count_by, range_with_len}
use Rattle.std.proofs.lemmas.List.{get_or-set_other, get_or-set_same, length-set}
use Rattle.std.proofs.lemmas.List.Elements.{All-set, All-head, All-tail}
use Rattle.std.proofs.lemmas.List.Sums.{sum_by-set, count_by-le-length, sum_by-cons}
use Rattle.std.proofs.lemmas.List.FromFn.{length-range_with_len}
use Rattle.std.proofs.lemmas.Bool.{cases_eq, true≢false, false≢true}
use Rattle.mark_core.specs.Held.{has_length, is_stored, length_in_hand, holds_any}
use Rattle.mark_core.specs.Seats.{work_in_hand}
use Rattle.mark_core.specs.Cells.{in_pool, empty_packets}
use Rattle.mark_core.specs.Rules.PacketRules.{Counts, HeadsAgree, has_reservation, has_credit}
use Rattle.mark_core.proofs.Pool.PoolSlots.{SameInHand}
use Rattle.mark_core.specs.declared.kinds.Shape.{Shape}
use Rattle.mark_core.specs.declared.seat.SeatState.{SeatState}

-- How many numbers of a range, and how many records of a list, pass a test.
-- Tests as numbers, and what tests say together.
-- 1 if it holds
abbrev pub bit : Bool → ℕ
bit b = cond b 1 0

pub bit-below : (b : Bool) → bit b ≤ 1
bit-below true = omega arith
bit-below false = omega arith

pub bit-one : (b : Bool) → 1 ≤ bit b → b ≡ true
bit-one true h = refl
bit-one false h = absurd (omega arith)

pub bit-zero : (b : Bool) → bit b ≤ 0 → b ≡ false
bit-zero true h = absurd (omega arith)
bit-zero false h = refl

-- neither holds
pub neither : (a b : Bool) → (not a && not b) ≡ true → (a ≡ false) × (b ≡ false)
neither true b e = absurd (false≢true e)
neither false true e = absurd (false≢true e)
neither false false e = (refl, refl)

-- the second holds if the first does
pub follows : (a b : Bool) → (not a || b) ≡ true → a ≡ true → b ≡ true
follows true b h e = h
follows false b h e = absurd (false≢true e)

pub count-cons : {X : Type 0} (f : X → Bool) (x : X) (xs : List X) → count_by f (x ∷ xs) ≡ bit (f x) + count_by f xs
count-cons f x xs = sum_by-cons (λ y. cond (f y) 1 0) x xs

-- a count over a range of numbers stays if each of them passes as before
pub count-same : (f g : ℕ → Bool) (a n : ℕ) → ((x : ℕ) → a ≤ x → x < a + n → g x ≡ f x) → count_by g (range_with_len a n) ≡ count_by f (range_with_len a n)
count-same f g a zero s = refl
count-same f g a (suc n) s =
    let rest : count_by g (range_with_len (a + 1) n) ≡ count_by f (range_with_len (a + 1) n) = count-same f g (a + 1) n (λ x l h. s x (omega arith) (omega arith)) in
    let here : bit (g a) ≡ bit (f a) = ap bit (s a (omega arith) (omega arith)) in
    omega (arith, count-cons f a (range_with_len (a + 1) n), count-cons g a (range_with_len (a + 1) n))

-- if one of them changes, the count changes by it
pub count-but-one : (f g : ℕ → Bool) (p a n : ℕ) → a ≤ p → p < a + n → ((x : ℕ) → a ≤ x → x < a + n → x ≢ p → g x ≡ f x) → count_by g (range_with_len a n) + bit (f p) ≡ count_by f (range_with_len a n) + bit (g p)
count-but-one f g p a zero l h s = absurd (omega (arith, l, h))
count-but-one f g p a (suc n) l h s =
    let x = count-cons f a (range_with_len (a + 1) n) in
    let y = count-cons g a (range_with_len (a + 1) n) in
    ⊎_elim
    (λ (e : a ≡ p).
    let rest : count_by g (range_with_len (a + 1) n) ≡ count_by f (range_with_len (a + 1) n) = count-same f g (a + 1) n (λ z k m. s z (omega arith) (omega arith) (λ d. omega arith)) in
    omega (arith, ap (λ z. bit (f z)) e, ap (λ z. bit (g z)) e))
    (λ (d : a ≡ p → ⊥).
    let here : bit (g a) ≡ bit (f a) = ap bit (s a (omega arith) (omega arith) d) in
    let rest : count_by g (range_with_len (a + 1) n) + bit (f p) ≡ count_by f (range_with_len (a + 1) n) + bit (g p) = count-but-one f g p (a + 1) n (omega arith) (omega arith) (λ z k m. s z (omega arith) (omega arith)) in
    omega arith)
    (cases_eq a p)

-- if as many pass as there are, each passes
pub all-pass : {X : Type 0} (p : X → Bool) (xs : List X) → length xs ≤ count_by p xs → (k : ℕ) (d : X) → k < length xs → p (get_or xs k d) ≡ true
all-pass p [] h k d l = absurd (omega arith)
all-pass p (x ∷ xs) h zero d l = bit-one (p x) (omega (arith, count-cons p x xs, count_by-le-length p xs))
all-pass p (x ∷ xs) h (suc k) d l = all-pass p xs (omega (arith, count-cons p x xs, bit-below (p x))) k d (omega arith)

pub count-none : {X : Type 0} (p : X → Bool) (xs : List X) → All (λ x. p x ≡ false) xs → count_by p xs ≡ 0
count-none p [] a = refl
count-none {X} p (x ∷ xs) a =
    let P : X → Type 0 = λ (y : X). p y ≡ false in
    omega (arith, count-cons p x xs, ap bit (All-head P x xs a), count-none p xs (All-tail P x xs a))

-- what holds of the new element and of each other one
all_set_but : {X : Type 0} (P : X → Type 0) (xs : List X) (i : ℕ) (y : X) → P y → ((k : ℕ) (d : X) → k ≢ i → k < length xs → P (get_or xs k d)) → All P (set xs i y)
all_set_but P xs i y here others k d h =
    let h' : k < length xs = omega (arith, length-set xs i y) in
    ⊎_elim
    (λ (e : k ≡ i). rw e (let hi : i < length xs = omega arith in rw get_or-set_same here))
    (λ (n : k ≡ i → ⊥). rw get_or-set_other (others k d n h'))
    (cases_eq k i)

-- what one step does to the record of its seat, to the heads, to the pools and to the count of empty packets
pub record CountMove (sh : Shape) (s t : SeatState) (empty empty' : ℕ) (heads' pools pools' : List ℕ) : Type 0 where
  pub counted : empty' + bit t.reserved + bit t.credit + empty_packets sh pools ≡ empty + bit s.reserved + bit s.credit + empty_packets sh pools'
  pub one_debt : IsFalse (t.reserved && t.credit)
  pub heads_agree : HeadsAgree sh heads' t
  pub work_holds : IsTrue (work_in_hand sh.fields t) → IsTrue (holds_any t.held)

count_moves : (sh : Shape) (empty empty' : ℕ) (pools pools' : List ℕ) (seats : List SeatState) (i : ℕ) (s t : SeatState) → i < length seats → get_or seats i s ≡ s
    → empty' + bit t.reserved + bit t.credit + empty_packets sh pools ≡ empty + bit s.reserved + bit s.credit + empty_packets sh pools'
    → empty + count_by has_reservation seats + count_by has_credit seats ≡ 64 + empty_packets sh pools
    → empty' + count_by has_reservation (set seats i t) + count_by has_credit (set seats i t) ≡ 64 + empty_packets sh pools'
count_moves sh empty empty' pools pools' seats i s t hi is local old =
    let a = rw is at (sum_by-set (λ (x : SeatState). bit (has_reservation x)) seats i t s hi) in
    let b = rw is at (sum_by-set (λ (x : SeatState). bit (has_credit x)) seats i t s hi) in
    omega (arith, a, b, local, old)

-- the rule is kept if the other seats' packets have their heads as before
pub counts-moved : (sh : Shape) (empty empty' : ℕ) (heads heads' pools pools' : List ℕ) (seats : List SeatState) (i : ℕ) (s t : SeatState) → Counts sh empty heads pools seats → i < length seats → get_or seats i s ≡ s
    → CountMove sh s t empty empty' heads' pools pools' → ((j : ℕ) (d : SeatState) → j ≢ i → j < length seats → HeadsAgree sh heads' (get_or seats j d)) → Counts sh empty' heads' pools' (set seats i t)
counts-moved sh empty empty' heads heads' pools pools' seats i s t c hi is m others =
    record {
      counted = count_moves sh empty empty' pools pools' seats i s t hi is m.counted c.counted;
      one_debt = All-set (λ (x : SeatState). IsFalse (x.reserved && x.credit)) seats i t m.one_debt c.one_debt;
      heads_agree = all_set_but (HeadsAgree sh heads') seats i t m.heads_agree others;
      work_holds = All-set (λ (x : SeatState). IsTrue (work_in_hand sh.fields x) → IsTrue (holds_any x.held)) seats i t m.work_holds c.work_holds;
    }

-- the heads agree with a seat's hand if they did, except for packet p
pub agrees-but-one : (sh : Shape) (heads heads' : List ℕ) (s t : SeatState) (p : ℕ) → HeadsAgree sh heads s → ((x : ℕ) → x ≢ p → slice_index heads' x ≡ slice_index heads x) → ((x : ℕ) → x ≢ p → SameInHand s.held t.held x)
    → (p < sh.packets → IsTrue (is_stored t.held p) → IsTrue (has_length t.held p) → slice_index heads' p ≡ length_in_hand t.held p) → HeadsAgree sh heads' t
agrees-but-one sh heads heads' s t p old head hand here x hx e f =
    ⊎_elim
    (λ (d : x ≡ p). rw d (here (rw d at hx) (rw d at e) (rw d at f)))
    (λ (n : x ≡ p → ⊥).
    let h = hand x n in
    let known : length_in_hand t.held x ≡ length_in_hand s.held x = rw h.known_same refl in
    head x n ∙ (old x hx (sym h.stored_same ∙ e) (rw h.known_same at f) ∙ sym known))
    (cases_eq x p)

one_of : (a b : Bool) → (a && b) ≡ false → bit a + bit b ≤ 1
one_of true true e = absurd (true≢false e)
one_of true false e = omega arith
one_of false true e = omega arith
one_of false false e = omega arith

-- a seat owes or has reserved at most one packet
debts : (seats : List SeatState) → All (λ (x : SeatState). IsFalse (x.reserved && x.credit)) seats → count_by has_reservation seats + count_by has_credit seats ≤ length seats
debts [] a = omega arith
debts (s ∷ ss) a =
    let P : SeatState → Type 0 = λ (x : SeatState). IsFalse (x.reserved && x.credit) in
    let rest = debts ss (All-tail P s ss a) in
    let one = one_of s.reserved s.credit (All-head P s ss a) in
    omega (arith, count-cons has_reservation s ss, count-cons has_credit s ss)

-- the count is far from both ends of its word
pub count-above : (sh : Shape) (empty : ℕ) (heads pools : List ℕ) (seats : List SeatState) → Counts sh empty heads pools seats → length seats ≤ 41 → 23 ≤ empty
count-above sh empty heads pools seats c h = omega (arith, c.counted, debts seats c.one_debt)

pub count-below : (sh : Shape) (empty : ℕ) (heads pools : List ℕ) (seats : List SeatState) → Counts sh empty heads pools seats → empty ≤ 64 + sh.packets
count-below sh empty heads pools seats c = omega (arith, c.counted, count_by-le-length (in_pool sh pools 0) (range_with_len 0 sh.packets), length-range_with_len 0 sh.packets)
