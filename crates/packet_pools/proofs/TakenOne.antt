-- A take of one packet: lost, or won with its length read.
use Rattle.std.proofs.Common.{ℕ, ◌≡◌, ◌<◌, ◌≤◌, ◌+◌, ◌*◌, ◌%◌, zero, suc, List, [], ◌∷◌, arith, refl, sym, ap, ◌∙◌, subst, ⊎_elim, Bool, true, false, not, ◌&&◌, ◌||◌, Some, None, cond, eqb, eqb-true, eq-eqb}
use Rattle.std.specs.Prelude.{IsTrue, ◌==◌, nat_lt, nat_le}
use Rattle.std.proofs.lemmas.Bool.{true≢false, false≢true, and_parts, and_from, or_left, or_right, or_cases, ltb-true, leb-true, not_from_false, or_parts, or_from}
use Rattle.std.proofs.lemmas.Option.{slice_get_within, get_or_from_slice_get}
use Rattle.mark_core.specs.Bits.{has_bit, reference_in}
use Rattle.mark_core.specs.Held.{holds, holds_any, put_packet, has_length}
use Rattle.mark_core.specs.Effects.{seat_after}
use Rattle.mark_core.specs.Numbers.{empty_pool_number, pools_in_all, word_bits}
use Rattle.mark_core.specs.Seats.{work_in_hand}
use Rattle.mark_core.specs.Cells.{or_else}
use Rattle.mark_core.specs.declared.kinds.Shape.{Shape}
use Rattle.mark_core.specs.declared.kinds.Step.{Step}
use Rattle.mark_core.specs.declared.kinds.Step.TheVariants.{Credit, Give, ReadLength, StoreLength, Take}
use Rattle.mark_core.specs.declared.seat.SeatState.{SeatState}
use Rattle.mark_core.proofs.Basics.{whole-length}
use Rattle.gc_table.specs.declared.view.Entry.{Entry}
use Rattle.gc_table.specs.declared.view.View.{View}
use Rattle.gc_table.specs.Fetching.{last_pool, is_in_range}
use Rattle.gc_table.specs.Taking.{after, Finds}
use Rattle.gc_table.proofs.Fetching.{last-snoc}
use Rattle.gc_table.specs.Log.{steps_of}
use Rattle.packet_pools.specs.Seeking.{gets, gets_from, loses, was_got}
use Rattle.packet_pools.specs.Gains.{MissesPackets, missed}
use Rattle.gc_table.proofs.History.Log.{entry_of}
use Rattle.packet_pools.proofs.Searches.{take-moves}

-- a take that another seat was first to do leaves the record
pub lost-state : (sh : Shape) (s : SeatState) (q p n : ℕ) → has_bit n (p % word_bits) ≡ false → seat_after sh s (Take q p) n ≡ s
lost-state sh s q p n e = ap (λ (b : Bool). record s { held = cond b (put_packet s.held p) s.held; reserved = s.reserved && not ((q == empty_pool_number) && b) }) e ∙ (λ i. record s { reserved = keeps s.reserved (q == empty_pool_number) i })
  where
    keeps : (a b : Bool) → (a && not (b && false)) ≡ a
    keeps true true = refl
    keeps true false = refl
    keeps false b = refl

-- a take that wins puts the packet into a slot, and uses the reservation
pub won-state : (sh : Shape) (s : SeatState) (q p n : ℕ) → s.reserved ≡ (q == empty_pool_number) → has_bit n (p % word_bits) ≡ true → seat_after sh s (Take q p) n ≡ record s { held = put_packet s.held p; reserved = false }
won-state sh s q p n r e = ap (λ (b : Bool). record s { held = cond b (put_packet s.held p) s.held; reserved = s.reserved && not ((q == empty_pool_number) && b) }) e ∙ (λ i. record s { held = put_packet s.held p; reserved = (ap (λ (b : Bool). b && not ((q == empty_pool_number) && true)) r ∙ uses (q == empty_pool_number)) i })
  where
    uses : (b : Bool) → (b && not (b && true)) ≡ false
    uses true = refl
    uses false = refl

-- only the packet that is asked for is got
pub got-asked : (q p n x : ℕ) → gets x (Take q p) n ≡ true → x ≡ p
got-asked q p n x e = sym (eqb-true p x (and_parts (eqb p x) (has_bit n (x % word_bits)) e).0)

pub lost-misses : (sh : Shape) (q : ℕ) (not_full : Bool) (p n : ℕ) → has_bit n (p % word_bits) ≡ false → MissesPackets sh q not_full p (p + 1) (entry_of (Take q p) n ∷ [])
lost-misses sh q not_full p n e =
    record {
      all =
          λ x l h there.
          let is : p ≡ x = omega (arith, l, h) in
          subst (λ y. IsTrue (missed sh.entries q not_full y (entry_of (Take q p) n ∷ []))) is
          (or_left _ _ (or_right _ _ (or_left (loses q p (Take q p) n) _ (and_from _ _ (and_from _ _ (eq-eqb q q refl) (eq-eqb p p refl)) (not_from_false _ e)))));
      got =
          λ x g.
          absurd
          (⊎_elim
          (λ (f : gets x (Take q p) n ≡ true). true≢false (sym (and_parts (eqb p x) (has_bit n (x % word_bits)) f).1 ∙ (ap (λ y. has_bit n (y % word_bits)) (got-asked q p n x f) ∙ e)))
          (λ (f : false ≡ true). false≢true f)
          (or_cases (gets x (Take q p) n) false g));
      moves = and_from _ _ (take-moves q p) refl;
    }

pub got-from : (q p n : ℕ) → has_bit n (p % word_bits) ≡ true → gets_from q p (Take q p) n ≡ true
got-from q p n e = and_from _ _ (and_from _ _ (eq-eqb q q refl) (eq-eqb p p refl)) e

pub range-fits : (sh : Shape) (q n : ℕ) → q < pools_in_all → is_in_range sh q n ≡ true → n ≤ sh.entries
range-fits sh zero n b e = let z = eqb-true n 0 e in omega (arith, z)
range-fits sh (suc zero) n b e = let z = ltb-true (2 * n) sh.entries (and_parts (nat_lt 0 n) (nat_lt (2 * n) sh.entries) e).1 in omega (arith, z)
range-fits sh (suc (suc zero)) n b e = leb-true n sh.entries (and_parts (nat_le sh.entries (2 * n)) (nat_le n sh.entries) e).1
range-fits sh (suc (suc (suc zero))) n b e = leb-true n sh.entries (and_parts (nat_lt 0 n) (nat_le n sh.entries) e).1
range-fits sh (suc (suc (suc (suc q)))) n b e = absurd (omega (arith, b))

-- the length that is read from the head is one of its pool
pub fetched-range : (v : View) (q p m : ℕ) → q < pools_in_all → p < v.shape.packets → holds v.state.held p ≡ true → has_length v.state.held p ≡ false → last_pool p v.log ≡ Some q → Finds (ReadLength p) m v → (is_in_range v.shape q m ≡ true) × (reference_in m ≡ m)
fetched-range v q p m b there h u last f =
    let range : is_in_range v.shape q m ≡ true = ap (is_in_range v.shape q) (sym f.word) ∙ f.agrees.fetched p q there h u last in
    (range, whole-length m v.shape.entries (range-fits v.shape q m b range) (subst (λ (sh : Shape). sh.entries ≤ 512) (sym f.agrees.shape) f.whole.core.formed.shaped.entries.1))

pub last-taken : (v w : View) (q p n : ℕ) → w ≡ after (Take q p) n v → has_bit n (p % word_bits) ≡ true → last_pool p w.log ≡ Some q
last-taken v w q p n e b =
    ap (λ (x : View). last_pool p x.log) e
    ∙ (last-snoc p v.log (entry_of (Take q p) n) ∙ ap (λ (c : Bool). or_else (cond c (Some q) None) (last_pool p v.log)) (and_from _ _ (eq-eqb p p refl) b))

-- the rule of the count: work in hand is never without a packet
pub work-holds : (step : Step) (n : ℕ) (v : View) → Finds step n v → work_in_hand v.shape.fields v.state ≡ true → holds_any v.state.held ≡ true
work-holds step n v f e =
    let k = f.whole.core.sound.counts.work_holds in
    let l = slice_get_within f.state.core.seats f.index v.state f.agrees.seat in
    let is = get_or_from_slice_get f.state.core.seats f.index v.state v.state f.agrees.seat in
    subst (λ (s : SeatState). IsTrue (work_in_hand f.state.core.shape.fields s) → IsTrue (holds_any s.held)) is (k f.index v.state l) (ap (λ (sh : Shape). work_in_hand sh.fields v.state) (sym f.agrees.shape) ∙ e)

-- a step that takes a packet
abbrev pub is_take : Step → Bool
is_take (Take q p) = true
is_take step = false

abbrev pub some_take : List Step → Bool
some_take [] = false
some_take (x ∷ xs) = is_take x || some_take xs

gets-take : (x : ℕ) (step : Step) (n : ℕ) → is_take step ≡ false → gets x step n ≡ false
gets-take x (Take q p) n e = absurd (true≢false e)
gets-take x step n e = refl

pub none-taken : (x : ℕ) (es : List Entry) → some_take (steps_of es) ≡ false → was_got x es ≡ false
none-taken x [] e = refl
none-taken x (y ∷ ys) e =
    let b = or_parts (is_take y.step) (some_take (steps_of ys)) e in
    or_from _ _ (gets-take x y.step y.found b.0) (none-taken x ys b.1)

-- a packet that is given back
pub none-given : (x p : ℕ) (b : Bool) (es : List Entry) → steps_of es ≡ StoreLength p ∷ Give p false ∷ (cond b (Credit ∷ []) []) → was_got x es ≡ false
none-given x p b es e = none-taken x es (ap some_take e ∙ nothing b)
  where
    nothing : (c : Bool) → some_take (StoreLength p ∷ Give p false ∷ (cond c (Credit ∷ []) [])) ≡ false
    nothing true = refl
    nothing false = refl

-- no other packet than this one is taken
abbrev takes_just : ℕ → Step → Bool
takes_just p (Take q x) = eqb x p
takes_just p step = true

abbrev all_take_just : ℕ → List Step → Bool
all_take_just p [] = true
all_take_just p (x ∷ xs) = takes_just p x && all_take_just p xs

got-just : (x p : ℕ) (step : Step) (n : ℕ) → takes_just p step ≡ true → gets x step n ≡ true → x ≡ p
got-just x p (Take q y) n a g = sym (eqb-true y x (and_parts (eqb y x) (has_bit n (x % word_bits)) g).0) ∙ eqb-true y p a
got-just x p step n a g = absurd (false≢true g)

all-got-just : (x p : ℕ) (es : List Entry) → all_take_just p (steps_of es) ≡ true → was_got x es ≡ true → x ≡ p
all-got-just x p [] a g = absurd (false≢true g)
all-got-just x p (y ∷ ys) a g =
    let b = and_parts (takes_just p y.step) (all_take_just p (steps_of ys)) a in
    ⊎_elim (λ h. got-just x p y.step y.found b.0 h) (λ h. all-got-just x p ys b.1 h) (or_cases (gets x y.step y.found) (was_got x ys) g)

-- a packet that is taken, whose length is read
pub one-taken : (x q p : ℕ) (es : List Entry) → steps_of es ≡ Take q p ∷ ReadLength p ∷ [] → was_got x es ≡ true → x ≡ p
one-taken x q p es e g = all-got-just x p es (ap (all_take_just p) e ∙ and_from _ _ (eq-eqb p p refl) refl) g
