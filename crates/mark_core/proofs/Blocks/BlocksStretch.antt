-- The blocks of a stretch, and what is left of it once its first block is done.
use Rattle.std.proofs.Common.{ℕ, ◌≡◌, ◌≢◌, ◌+◌, ◌<◌, ◌≤◌, arith, refl, sym, ap, ◌∙◌, Bool, true, false, not, ◌&&◌, cond, eqb, ◌⊎◌, inl, inr, Option, Some, None, ⊎_elim, List, [], ◌∷◌, ◌++◌, set, get_or, length, subst, ◌||◌}
use Rattle.std.specs.Prelude.{nat_le, nat_lt, unwrap_or, IsFalse, IfSome, is_some}
use Rattle.std.proofs.lemmas.Bool.{and_parts, and_from, and_left, and_right, and_cases, cases_eq, cases_lt, eq-eqb, ne_eqb, false_from_ne_true, leb-true, le-leb, lt-leb, lt-ltb, le-ltb, ltb-true, ltb-false, true≢false, false≢true, eqb-true, eqb-false}
use Rattle.std.proofs.Math.Bool.{and-false}
use Rattle.mark_core.specs.Layout.{block_count}
use Rattle.mark_core.specs.Seats.{block_in_hand, in_stretch, is_swept, is_phase, may_store}
use Rattle.mark_core.specs.Cells.{is_unswept}
use Rattle.mark_core.specs.Steps.SweepSteps.{untouched, stretch_end, next_in_stretch, with_mark_word, with_stored}
use Rattle.mark_core.specs.Strong.{overlap, IsStrongBlock}
use Rattle.mark_core.specs.declared.kinds.Shape.{Shape}
use Rattle.mark_core.specs.declared.seat.BlockState.{BlockState}
use Rattle.std.specs.List.{All, AllPairs}
use Rattle.std.proofs.lemmas.List.{map-set, map_push, get_or-set_other}
use Rattle.std.proofs.lemmas.List.Elements.{All-push}
use Rattle.std.proofs.lemmas.List.Quantifiers.{all_pairs_push}
use Rattle.mark_core.specs.Start.{start_seat, spent_seat}
use Rattle.mark_core.specs.Views.{blocks}
use Rattle.mark_core.specs.Steps.{others_after}
use Rattle.mark_core.proofs.Blocks.BlocksStopped.{Others, all-but, all-set, pairs-set, pairs-but}
use Rattle.mark_core.specs.declared.kinds.Step.{Step}
use Rattle.mark_core.specs.declared.kinds.Step.TheVariants.{Split, Join}
use Rattle.mark_core.specs.declared.seat.SeatState.{SeatState}
use Rattle.mark_core.specs.Steps.ColourSteps.{with_alloc_word}
use Rattle.mark_core.specs.declared.kinds.Phase.TheVariants.{Sweep, Clear}

pub in-from : (b : ℕ) (x : BlockState) → x.block ≤ b → b < x.until → in_stretch b (Some x) ≡ true
in-from b x l h = and_from (nat_le x.block b) (nat_lt b x.until) (le-leb x.block b l) (lt-ltb b x.until h)

pub in-to : (b : ℕ) (x : BlockState) → in_stretch b (Some x) ≡ true → (x.block ≤ b) × (b < x.until)
in-to b x e = let two = and_parts (nat_le x.block b) (nat_lt b x.until) e in (leb-true x.block b two.0, ltb-true b x.until two.1)

pub out-from : (b : ℕ) (x : BlockState) → (x.block ≤ b → b < x.until → ⊥) → in_stretch b (Some x) ≡ false
out-from b x n = false_from_ne_true (in_stretch b (Some x)) (λ e. let two = in-to b x e in n two.0 two.1)

pub out-to : (b : ℕ) (x : BlockState) → in_stretch b (Some x) ≡ false → x.block ≤ b → x.until ≤ b
out-to b x e l = ⊎_elim (λ (h : b < x.until). absurd (true≢false (sym (in-from b x l h) ∙ e))) (λ (h : x.until ≤ b). h) (cases_lt b x.until)

-- a stretch that begins below the counter's end has blocks, and ends there or where the counter comes to
pub some-taken : (sh : Shape) (n : ℕ) → 1 ≤ sh.stretch → n < block_count sh → n < stretch_end sh n
some-taken sh n s h = omega (arith, s, h)

pub end-counted : (sh : Shape) (n : ℕ) → stretch_end sh n ≤ n + sh.stretch
end-counted sh n = omega arith

-- no stretch ends behind the last block
pub end-within : (sh : Shape) (n : ℕ) → stretch_end sh n ≤ block_count sh
end-within sh n = omega arith

-- two stretches without a block in common follow each other
pub apart-to : (x y : BlockState) → overlap (Some x) (Some y) ≡ false → (y.until ≤ x.block) ⊎ (x.until ≤ y.block)
apart-to x y e = ⊎_elim (λ a. inl (ltb-false x.block y.until a)) (λ a. inr (ltb-false y.block x.until a)) (and_cases (nat_lt x.block y.until) (nat_lt y.block x.until) e)

pub apart-from : (x y : BlockState) → (y.until ≤ x.block) ⊎ (x.until ≤ y.block) → overlap (Some x) (Some y) ≡ false
apart-from x y (inl h) = and_left (nat_lt x.block y.until) (nat_lt y.block x.until) (le-ltb x.block y.until h)
apart-from x y (inr h) = and_right (nat_lt x.block y.until) (nat_lt y.block x.until) (le-ltb y.block x.until h)

-- the first block of a stretch is in no other
pub first-apart : (x y : BlockState) → overlap (Some x) (Some y) ≡ false → x.block < x.until → in_stretch x.block (Some y) ≡ false
first-apart x y e s = out-from x.block y (λ l h. ⊎_elim (λ (a : y.until ≤ x.block). absurd (omega (arith, a, h))) (λ (a : x.until ≤ y.block). absurd (omega (arith, a, l, s))) (apart-to x y e))

pub firsts-differ : (x y : BlockState) → overlap (Some x) (Some y) ≡ false → x.block < x.until → y.block < y.until → eqb x.block y.block ≡ false
firsts-differ x y e s t = ne_eqb x.block y.block (λ z. ⊎_elim (λ (a : y.until ≤ x.block). absurd (omega (arith, a, z, t))) (λ (a : x.until ≤ y.block). absurd (omega (arith, a, z, s))) (apart-to x y e))

-- another number is above the last one if it isn't below it
next_above : (a b : ℕ) → b ≢ a → nat_le (a + 1) b ≡ nat_le a b
next_above a b n =
    ⊎_elim
    (λ (h : b < a). lt-leb (a + 1) b (omega (arith, h)) ∙ sym (lt-leb a b h))
    (λ (h : a ≤ b). ⊎_elim (λ (l : a < b). le-leb (a + 1) b (omega (arith, l)) ∙ sym (le-leb a b h)) (λ (l : b ≤ a). absurd (n (omega (arith, h, l)))) (cases_lt a b))
    (cases_lt b a)

rest_in : (b : ℕ) (x : BlockState) (e : Bool) → nat_lt (x.block + 1) x.until ≡ e → b ≢ x.block → in_stretch b (cond e (Some (untouched (x.block + 1) x.until)) None) ≡ in_stretch b (Some x)
rest_in b x true e n = ap (λ t. t && nat_lt b x.until) (next_above x.block b n)
rest_in b x false e n =
    let end = ltb-false (x.block + 1) x.until e in
    sym (out-from b x (λ l h. n (omega (arith, l, h, end))))

-- another block than the first is in the rest of a stretch if it is in the stretch
pub rest-in : (b : ℕ) (o : Option BlockState) → b ≢ unwrap_or (block_in_hand o) 0 → in_stretch b (next_in_stretch o) ≡ in_stretch b o
rest-in b None n = refl
rest-in b (Some x) n = rest_in b x (nat_lt (x.block + 1) x.until) refl n

rest_first : (x : BlockState) (e : Bool) → in_stretch x.block (cond e (Some (untouched (x.block + 1) x.until)) None) ≡ false
rest_first x true = and_left (nat_le (x.block + 1) x.block) (nat_lt x.block x.until) (lt-leb (x.block + 1) x.block (omega arith))
rest_first x false = refl

-- the first block isn't in the rest
pub rest-first : (x : BlockState) → in_stretch x.block (next_in_stretch (Some x)) ≡ false
rest-first x = rest_first x (nat_lt (x.block + 1) x.until)

rest_apart : (x : BlockState) (e : Bool) (y : Option BlockState) → overlap (Some x) y ≡ false → overlap (cond e (Some (untouched (x.block + 1) x.until)) None) y ≡ false
rest_apart x false y a = refl
rest_apart x true None a = refl
rest_apart x true (Some y) a = apart-from (untouched (x.block + 1) x.until) y (⊎_elim (λ (h : y.until ≤ x.block). inl (omega (arith, h))) (λ (h : x.until ≤ y.block). inr h) (apart-to x y a))

-- what a stretch has in common with no other, its rest hasn't either
pub rest-apart : (o y : Option BlockState) → overlap o y ≡ false → overlap (next_in_stretch o) y ≡ false
rest-apart None y a = refl
rest-apart (Some x) y a = rest_apart x (nat_lt (x.block + 1) x.until) y a

and_true : (b : Bool) → (b && true) ≡ b
and_true true = refl
and_true false = refl

unswept_by : (b : ℕ) (x : BlockState) → (eqb x.block b && x.stored) ≡ false → is_unswept b (Some x) ≡ in_stretch b (Some x)
unswept_by b x e = ap (λ t. in_stretch b (Some x) && not t) e ∙ and_true (in_stretch b (Some x))

-- a block of which the bits weren't stored is unswept throughout its stretch
pub unswept-unstored : (b : ℕ) (x : BlockState) → x.stored ≡ false → is_unswept b (Some x) ≡ in_stretch b (Some x)
unswept-unstored b x e = unswept_by b x (and_right (eqb x.block b) x.stored e)

-- and so is each other block of the stretch
pub unswept-elsewhere : (b : ℕ) (x : BlockState) → b ≢ x.block → is_unswept b (Some x) ≡ in_stretch b (Some x)
unswept-elsewhere b x n = unswept_by b x (and_left (eqb x.block b) x.stored (ne_eqb x.block b (λ e. n (sym e))))

-- the first block is unswept until its bits are stored
pub unswept-first : (x : BlockState) → x.block < x.until → is_unswept x.block (Some x) ≡ not x.stored
unswept-first x h = rw (in-from x.block x (omega arith) h, eq-eqb x.block x.block refl) refl

rest_unswept : (b : ℕ) (x : BlockState) (e : Bool) → is_unswept b (cond e (Some (untouched (x.block + 1) x.until)) None) ≡ in_stretch b (cond e (Some (untouched (x.block + 1) x.until)) None)
rest_unswept b x true = unswept-unstored b (untouched (x.block + 1) x.until) refl
rest_unswept b x false = refl

stored_first : (b : ℕ) (x : BlockState) → x.stored ≡ true → b ≡ x.block → is_unswept b (Some x) ≡ false
stored_first b x e z = ap (λ t. in_stretch b (Some x) && not (t && x.stored)) (eq-eqb x.block b (sym z)) ∙ (ap (λ t. in_stretch b (Some x) && not t) e ∙ and-false (in_stretch b (Some x)))

rest_swept : (b : ℕ) (x : BlockState) → x.stored ≡ true → (b ≡ x.block) ⊎ (b ≢ x.block) → is_unswept b (next_in_stretch (Some x)) ≡ is_unswept b (Some x)
rest_swept b x e (inl z) = rest_unswept b x (nat_lt (x.block + 1) x.until) ∙ (ap (λ g. in_stretch g (next_in_stretch (Some x))) z ∙ (rest-first x ∙ sym (stored_first b x e z)))
rest_swept b x e (inr n) = rest_unswept b x (nat_lt (x.block + 1) x.until) ∙ (rest-in b (Some x) n ∙ sym (unswept-elsewhere b x n))

-- a seat whose block is swept goes on to the next one, and leaves no block behind that is to be swept
pub rest-swept : (b : ℕ) (o : Option BlockState) → is_swept o ≡ true → is_unswept b (next_in_stretch o) ≡ is_unswept b o
rest-swept b None e = absurd (false≢true e)
rest-swept b (Some x) e = rest_swept b x e (cases_eq b x.block)

-- The rule of the blocks in hand, and how it is kept when one seat's block is replaced.
-- a seat's block, if it has one
abbrev pub IsBlock : ℕ → ℕ → List ℕ → List ℕ → Option BlockState → Type 0
IsBlock phase nb allocs marks b = IfSome b (IsStrongBlock phase nb allocs marks)

-- two seats have no block in common
abbrev pub AreApart : Option BlockState → Option BlockState → Type 0
AreApart x y = IsFalse (overlap x y)

-- the blocks in hand
pub record InHand (phase nb : ℕ) (allocs marks : List ℕ) (bs : List (Option BlockState)) : Type 0 where
  pub strong : All (IsBlock phase nb allocs marks) bs
  pub apart : AllPairs AreApart bs

pub turned : (x y : Option BlockState) → AreApart x y → AreApart y x
turned None None e = refl
turned None (Some y) e = refl
turned (Some x) None e = refl
turned (Some x) (Some y) e = apart-from y x (⊎_elim (λ (h : y.until ≤ x.block). inr h) (λ (h : x.until ≤ y.block). inl h) (apart-to x y e))

-- one block is replaced, and the others are still right
pub hand-set : (phase nb phase' nb' : ℕ) (allocs marks allocs' marks' : List ℕ) (bs : List (Option BlockState)) (i : ℕ) (b : Option BlockState) → InHand phase nb allocs marks bs → Others i (IsBlock phase' nb' allocs' marks') bs → IsBlock phase' nb' allocs' marks' b → Others i (AreApart b) bs
    → InHand phase' nb' allocs' marks' (set bs i b)
hand-set phase nb phase' nb' allocs marks allocs' marks' bs i b k others own apart =
    record {
      strong = all-set (IsBlock phase' nb' allocs' marks') bs i b others own;
      apart = pairs-set AreApart bs i b k.apart apart (λ j d h n. turned b (get_or bs j d) (apart j d h n));
    }

-- the block in hand stands apart from each other
pub own-apart : (phase nb : ℕ) (allocs marks : List ℕ) (bs : List (Option BlockState)) (i : ℕ) (b : Option BlockState) → InHand phase nb allocs marks bs → i < length bs → ((d : Option BlockState) → get_or bs i d ≡ b) → Others i (AreApart b) bs
own-apart phase nb allocs marks bs i b k h is = pairs-but AreApart bs i b turned h is k.apart

-- no block is in hand
pub none-right : (phase nb : ℕ) (allocs marks : List ℕ) (bs : List (Option BlockState)) → All (λ b. b ≡ None) bs → InHand phase nb allocs marks bs
none-right phase nb allocs marks bs a = record { strong = λ j d h. rw (a j d h) tt; apart = λ j k d h l. rw (a j d (omega (arith, h, l))) refl }

-- a seat's block that is none
none_apart : (x : Option BlockState) → AreApart x None
none_apart None = refl
none_apart (Some x) = refl

hand_push : (phase nb : ℕ) (allocs marks : List ℕ) (bs : List (Option BlockState)) → InHand phase nb allocs marks bs → InHand phase nb allocs marks (bs ++ None ∷ [])
hand_push phase nb allocs marks bs k =
    record {
      strong = All-push (IsBlock phase nb allocs marks) bs None k.strong tt;
      apart = all_pairs_push AreApart bs None k.apart (λ j d h. none_apart (get_or bs j d));
    }

hand_end : (phase nb : ℕ) (allocs marks : List ℕ) (bs : List (Option BlockState)) (j : ℕ) → InHand phase nb allocs marks bs → InHand phase nb allocs marks (set bs j None)
hand_end phase nb allocs marks bs j k =
    hand-set phase nb phase nb allocs marks allocs marks bs j None k (all-but (IsBlock phase nb allocs marks) bs j k.strong) tt (λ l d h n. refl)

-- a further seat has no block, and neither has one whose record ends
pub hand-others : (phase nb : ℕ) (allocs marks : List ℕ) (sh : Shape) (step : Step) (seats : List SeatState) → InHand phase nb allocs marks (blocks seats) → InHand phase nb allocs marks (blocks (others_after sh step seats))
hand-others phase nb allocs marks sh Split seats k =
    subst (InHand phase nb allocs marks) (sym (map_push (λ (s : SeatState). s.block) seats (start_seat sh (length seats)))) (hand_push phase nb allocs marks (blocks seats) k)
hand-others phase nb allocs marks sh (Join other) seats k =
    subst (InHand phase nb allocs marks) (sym (map-set (λ (s : SeatState). s.block) seats other (spent_seat sh other))) (hand_end phase nb allocs marks (blocks seats) other k)
hand-others phase nb allocs marks sh step seats k = k

-- What each step does to the blocks in hand, over the seat's own block.
-- the counter of blocks has grown
pub later : (phase nb nb' : ℕ) (allocs marks : List ℕ) (o : Option BlockState) → nb ≤ nb' → IsBlock phase nb allocs marks o → IsBlock phase nb' allocs marks o
later phase nb nb' allocs marks None h k = tt
later phase nb nb' allocs marks (Some x) h k =
    record { block_in_time = k.block_in_time; block_first = k.block_first; stretch_counted = omega (arith, h, k.stretch_counted); alloc_kept = k.alloc_kept; mark_kept = k.mark_kept }

-- the mark bits were read
pub reads-marks : (phase nb : ℕ) (allocs marks : List ℕ) (o : Option BlockState) (word : ℕ) → IsBlock phase nb allocs marks o → get_or marks (unwrap_or (block_in_hand o) 0) 0 ≡ word → IsBlock phase nb allocs marks (with_mark_word o word)
reads-marks phase nb allocs marks None word k e = tt
reads-marks phase nb allocs marks (Some x) word k e = record { block_in_time = k.block_in_time; block_first = k.block_first; stretch_counted = k.stretch_counted; alloc_kept = k.alloc_kept; mark_kept = λ s. e }

read_allocs : (phase nb : ℕ) (allocs marks : List ℕ) (x : BlockState) (b word : ℕ) (c : Bool) → (c ≡ true → x.block ≡ b) → IsStrongBlock phase nb allocs marks x → get_or allocs b 0 ≡ word
    → IsStrongBlock phase nb allocs marks (cond c (record x { alloc_word = Some word }) x)
read_allocs phase nb allocs marks x b word true h k e =
    record { block_in_time = k.block_in_time; block_first = k.block_first; stretch_counted = k.stretch_counted; alloc_kept = λ s. ap (λ i. get_or allocs i 0) (h refl) ∙ e; mark_kept = k.mark_kept }
read_allocs phase nb allocs marks x b word false h k e = k

-- the allocation bits of some block were read
pub reads-allocs : (phase nb : ℕ) (allocs marks : List ℕ) (o : Option BlockState) (b word : ℕ) → IsBlock phase nb allocs marks o → get_or allocs b 0 ≡ word → IsBlock phase nb allocs marks (with_alloc_word o b word)
reads-allocs phase nb allocs marks None b word k e = tt
reads-allocs phase nb allocs marks (Some x) b word k e = read_allocs phase nb allocs marks x b word (eqb x.block b) (eqb-true x.block b) k e

-- a stretch of whose block words were read, or stored, is the same stretch
pub apart-marks : (o y : Option BlockState) (word : ℕ) → AreApart o y → AreApart (with_mark_word o word) y
apart-marks None y word a = a
apart-marks (Some x) None word a = a
apart-marks (Some x) (Some y) word a = a

apart_read : (x : BlockState) (y : Option BlockState) (word : ℕ) (c : Bool) → AreApart (Some x) y → AreApart (Some (cond c (record x { alloc_word = Some word }) x)) y
apart_read x None word c a = refl
apart_read x (Some y) word true a = a
apart_read x (Some y) word false a = a

pub apart-allocs : (o y : Option BlockState) (b word : ℕ) → AreApart o y → AreApart (with_alloc_word o b word) y
apart-allocs None y b word a = a
apart-allocs (Some x) y b word a = apart_read x y word (eqb x.block b) a

pub apart-stored : (o y : Option BlockState) → AreApart o y → AreApart (with_stored o) y
apart-stored None y a = a
apart-stored (Some x) None a = a
apart-stored (Some x) (Some y) a = a

-- the bits of what survives were stored in this block, and its own words needn't be kept any more
pub stores : (phase nb : ℕ) (allocs allocs' marks : List ℕ) (o : Option BlockState) → IsBlock phase nb allocs marks o → IsBlock phase nb allocs' marks (with_stored o)
stores phase nb allocs allocs' marks None k = tt
stores phase nb allocs allocs' marks (Some x) k =
    record { block_in_time = k.block_in_time; block_first = k.block_first; stretch_counted = k.stretch_counted; alloc_kept = λ e. absurd (true≢false e); mark_kept = λ e. absurd (true≢false e) }

-- a write in this block leaves the words of each other block in hand
other_word : (ws : List ℕ) (b v g : ℕ) (stored : Bool) (kept : Option ℕ) → eqb b g ≡ false → (stored ≡ false → IfSome kept (λ word. get_or ws g 0 ≡ word)) → stored ≡ false → IfSome kept (λ word. get_or (set ws b v) g 0 ≡ word)
other_word ws b v g stored None n k e = tt
other_word ws b v g stored (Some word) n k e = get_or-set_other ws b g v 0 (λ z. eqb-false b g n (sym z)) ∙ k e

pub other-allocs : (phase nb : ℕ) (allocs marks : List ℕ) (v : ℕ) (o y : Option BlockState) → is_some o ≡ true → IsBlock phase nb allocs marks o → AreApart o y → IsBlock phase nb allocs marks y → IsBlock phase nb (set allocs (unwrap_or (block_in_hand o) 0) v) marks y
other-allocs phase nb allocs marks v None y s own a k = absurd (false≢true s)
other-allocs phase nb allocs marks v (Some x) None s own a k = tt
other-allocs phase nb allocs marks v (Some x) (Some y) s own a k =
    let n : eqb x.block y.block ≡ false = firsts-differ x y a own.block_first k.block_first in
    record { block_in_time = k.block_in_time; block_first = k.block_first; stretch_counted = k.stretch_counted; alloc_kept = other_word allocs x.block v y.block y.stored y.alloc_word n k.alloc_kept; mark_kept = k.mark_kept }

pub other-marks : (phase nb : ℕ) (allocs marks : List ℕ) (v : ℕ) (o y : Option BlockState) → is_some o ≡ true → IsBlock phase nb allocs marks o → AreApart o y → IsBlock phase nb allocs marks y → IsBlock phase nb allocs (set marks (unwrap_or (block_in_hand o) 0) v) y
other-marks phase nb allocs marks v None y s own a k = absurd (false≢true s)
other-marks phase nb allocs marks v (Some x) None s own a k = tt
other-marks phase nb allocs marks v (Some x) (Some y) s own a k =
    let n : eqb x.block y.block ≡ false = firsts-differ x y a own.block_first k.block_first in
    record { block_in_time = k.block_in_time; block_first = k.block_first; stretch_counted = k.stretch_counted; alloc_kept = k.alloc_kept; mark_kept = other_word marks x.block v y.block y.stored y.mark_word n k.mark_kept }

pub may-store-some : (o : Option BlockState) → may_store o ≡ true → is_some o ≡ true
may-store-some None e = absurd (false≢true e)
may-store-some (Some x) e = refl

-- blocks that are taken in hand, and none if all were handed out
pub takes : (phase nb nb' u : ℕ) (allocs marks : List ℕ) (b : Bool) (o : Option BlockState) → (is_phase phase Sweep || is_phase phase Clear) ≡ true → (b ≡ true → nb < u) → u ≤ nb' → o ≡ None → IsBlock phase nb' allocs marks (cond b (Some (untouched nb u)) o)
takes phase nb nb' u allocs marks true o e some counted n = record { block_in_time = e; block_first = some refl; stretch_counted = counted; alloc_kept = λ s. tt; mark_kept = λ s. tt }
takes phase nb nb' u allocs marks false o e some counted n = rw n tt

taken_apart : (nb u : ℕ) (y : Option BlockState) (phase : ℕ) (allocs marks : List ℕ) → IsBlock phase nb allocs marks y → AreApart (Some (untouched nb u)) y
taken_apart nb u None phase allocs marks k = refl
taken_apart nb u (Some y) phase allocs marks k = apart-from (untouched nb u) y (inl k.stretch_counted)

pub takes-apart : (phase nb u : ℕ) (allocs marks : List ℕ) (b : Bool) (o y : Option BlockState) → o ≡ None → IsBlock phase nb allocs marks y → AreApart (cond b (Some (untouched nb u)) o) y
takes-apart phase nb u allocs marks true o y n k = taken_apart nb u y phase allocs marks k
takes-apart phase nb u allocs marks false o y n k = rw n refl

next_right : (phase nb : ℕ) (allocs marks marks' : List ℕ) (x : BlockState) (e : Bool) → nat_lt (x.block + 1) x.until ≡ e → IsStrongBlock phase nb allocs marks x → IsBlock phase nb allocs marks' (cond e (Some (untouched (x.block + 1) x.until)) None)
next_right phase nb allocs marks marks' x true e k = record { block_in_time = k.block_in_time; block_first = ltb-true (x.block + 1) x.until e; stretch_counted = k.stretch_counted; alloc_kept = λ s. tt; mark_kept = λ s. tt }
next_right phase nb allocs marks marks' x false e k = tt

-- the seat goes on to the next block of its stretch
pub goes-on : (phase nb : ℕ) (allocs marks marks' : List ℕ) (o : Option BlockState) → IsBlock phase nb allocs marks o → IsBlock phase nb allocs marks' (next_in_stretch o)
goes-on phase nb allocs marks marks' None k = tt
goes-on phase nb allocs marks marks' (Some x) k = next_right phase nb allocs marks marks' x (nat_lt (x.block + 1) x.until) refl k
