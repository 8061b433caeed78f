-- The roots as the seats have them: where nothing lags they are the roots, and what each step makes of them.
use Rattle.std.proofs.Common.{ℕ, zero, suc, ◌≡◌, ◌≢◌, ◌+◌, ◌*◌, ◌/◌, ◌%◌, ◌<◌, List, [], ◌∷◌, ◌++◌, set, get_or, length, arith, refl, sym, ap, ◌∙◌, subst, Bool, true, false, not, ◌&&◌, ⊎_elim, Option, Some, None}
use Rattle.std.specs.Prelude.{IfSome, IsTrue, IsFalse, slice_index, slice_get, if◌then◌else◌}
use Rattle.std.specs.List.{All}
use Rattle.std.proofs.lemmas.Bool.{cases_eq, cases_Bool, and_parts, not-true, true≢false}
use Rattle.std.proofs.lemmas.List.{ext_get_or, get_or-set_same, get_or-set_other, length-set}
use Rattle.std.proofs.lemmas.List.FromFn.{get_or-map-range_with_len, length-map-range_with_len}
use Rattle.std.proofs.lemmas.List.Elements.{All-head, All-tail}
use Rattle.mark_core.specs.Bits.{has_bit, with_bit, without_bit}
use Rattle.mark_core.specs.Seats.{may_mutate, has_turn, is_bare}
use Rattle.mark_core.specs.Variables.{held_word, root_now, roots_now}
use Rattle.mark_core.proofs.Writing.CellBits.{no-bit, with_same, with_other, without_same, without_other}
use Rattle.mark_core.specs.declared.seat.SeatState.{SeatState}

-- an element of a list in which one was written, and of one that got one more
get_same : {X : Type 0} (xs : List X) (i : ℕ) (x y : X) → slice_get xs i ≡ Some x → slice_get (set xs i y) i ≡ Some y
get_same [] zero x y e = cc
get_same [] (suc i) x y e = cc
get_same (z ∷ xs) zero x y e = refl
get_same (z ∷ xs) (suc i) x y e = get_same xs i x y e

get_other : {X : Type 0} (xs : List X) (i k : ℕ) (y : X) → k ≢ i → slice_get (set xs i y) k ≡ slice_get xs k
get_other [] i k y d = refl
get_other (x ∷ xs) zero zero y d = absurd (d refl)
get_other (x ∷ xs) zero (suc k) y d = refl
get_other (x ∷ xs) (suc i) zero y d = refl
get_other (x ∷ xs) (suc i) (suc k) y d = get_other xs i k y (λ e. d (ap (λ (n : ℕ). suc n) e))

pub all-get : {X : Type 0} (P : X → Type 0) (xs : List X) (k : ℕ) → All P xs → IfSome (slice_get xs k) P
all-get P [] zero a = tt
all-get P [] (suc k) a = tt
all-get P (x ∷ xs) zero a = All-head P x xs a
all-get P (x ∷ xs) (suc k) a = all-get P xs k (All-tail P x xs a)

-- the seat's roots show its variables
abbrev pub Shows : SeatState → Type 0
Shows s = s.lags ≡ 0

pub held-still : (o : Option SeatState) (v root : ℕ) → IfSome o Shows → held_word o v root ≡ root
held-still None v root e = refl
held-still (Some s) v root e = ap (λ (b : Bool). if b then slice_index s.env v else root) (ap (λ (l : ℕ). has_bit l v) e ∙ no-bit v)

pub now-length : (roots : List ℕ) (seats : List SeatState) → length (roots_now roots seats) ≡ length roots
now-length roots seats = length-map-range_with_len (root_now roots seats) 0 (length roots)

pub now-at : (roots : List ℕ) (seats : List SeatState) (k : ℕ) → k < length roots → get_or (roots_now roots seats) k 0 ≡ root_now roots seats k
now-at roots seats k h = get_or-map-range_with_len (root_now roots seats) 0 (length roots) k k 0 h (omega arith)

-- if no root lags
pub now-still : (roots : List ℕ) (seats : List SeatState) → All Shows seats → roots_now roots seats ≡ roots
now-still roots seats a =
    ext_get_or 0 (roots_now roots seats) roots (now-length roots seats)
    (λ k h.
    now-at roots seats k (subst (λ (n : ℕ). k < n) (now-length roots seats) h) ∙ held-still (slice_get seats (k / 32)) (k % 32) (slice_index roots k) (all-get Shows seats (k / 32) a))

-- the roots as seats have them stay, if each does
pub now-same : (roots roots' : List ℕ) (seats seats' : List SeatState) → length roots' ≡ length roots → ((k : ℕ) → k < length roots → root_now roots' seats' k ≡ root_now roots seats k) → roots_now roots' seats' ≡ roots_now roots seats
now-same roots roots' seats seats' l f =
    ext_get_or 0 (roots_now roots' seats') (roots_now roots seats) (now-length roots' seats' ∙ l ∙ sym (now-length roots seats))
    (λ k h.
    let h' : k < length roots' = subst (λ (n : ℕ). k < n) (now-length roots' seats') h in
    let h'' : k < length roots = subst (λ (n : ℕ). k < n) l h' in
    now-at roots' seats' k h' ∙ f k h'' ∙ sym (now-at roots seats k h''))

-- one of them becomes r, and the others stay
pub now-moved : (roots roots' : List ℕ) (seats seats' : List SeatState) (at r : ℕ) → length roots' ≡ length roots → at < length roots → root_now roots' seats' at ≡ r
    → ((k : ℕ) → k < length roots → k ≢ at → root_now roots' seats' k ≡ root_now roots seats k) → roots_now roots' seats' ≡ set (roots_now roots seats) at r
now-moved roots roots' seats seats' at r l h e f =
    let now : List ℕ = roots_now roots seats in
    ext_get_or 0 (roots_now roots' seats') (set now at r) (now-length roots' seats' ∙ l ∙ sym (now-length roots seats) ∙ sym (length-set now at r))
    (λ k m.
    let h' : k < length roots' = subst (λ (n : ℕ). k < n) (now-length roots' seats') m in
    let h'' : k < length roots = subst (λ (n : ℕ). k < n) l h' in
    ⊎_elim
    (λ (a : k ≡ at).
    now-at roots' seats' k h' ∙ ap (root_now roots' seats') a ∙ e ∙ sym (get_or-set_same now at r 0 (subst (λ (n : ℕ). at < n) (sym (now-length roots seats)) h)) ∙ sym (ap (λ (j : ℕ). get_or (set now at r) j 0) a))
    (λ (n : k ≢ at). now-at roots' seats' k h' ∙ f k h'' n ∙ sym (now-at roots seats k h'') ∙ sym (get_or-set_other now at k r 0 n))
    (cases_eq k at))

-- Root k when the record of seat i is t.
held_alike : (s t : SeatState) (v root : ℕ) → t.lags ≡ s.lags → t.env ≡ s.env → held_word (Some t) v root ≡ held_word (Some s) v root
held_alike s t v root lags env =
    ap (λ (l : ℕ). if has_bit l v then slice_index t.env v else root) lags ∙ ap (λ (e : List ℕ). if has_bit s.lags v then slice_index e v else root) env

at-own : (roots : List ℕ) (seats : List SeatState) (i k : ℕ) (s t : SeatState) → slice_get seats i ≡ Some s → k / 32 ≡ i → root_now roots (set seats i t) k ≡ held_word (Some t) (k % 32) (slice_index roots k)
at-own roots seats i k s t g e = ap (λ (o : Option SeatState). held_word o (k % 32) (slice_index roots k)) (ap (slice_get (set seats i t)) e ∙ get_same seats i s t g)

pub was-own : (roots : List ℕ) (seats : List SeatState) (i k : ℕ) (s : SeatState) → slice_get seats i ≡ Some s → k / 32 ≡ i → root_now roots seats k ≡ held_word (Some s) (k % 32) (slice_index roots k)
was-own roots seats i k s g e = ap (λ (o : Option SeatState). held_word o (k % 32) (slice_index roots k)) (ap (slice_get seats) e ∙ g)

at-other : (roots : List ℕ) (seats : List SeatState) (i k : ℕ) (t : SeatState) → k / 32 ≢ i → root_now roots (set seats i t) k ≡ root_now roots seats k
at-other roots seats i k t d = ap (λ (o : Option SeatState). held_word o (k % 32) (slice_index roots k)) (get_other seats i (k / 32) t d)

-- a seat whose variables and lags stay
pub now-seat : (roots : List ℕ) (seats : List SeatState) (i : ℕ) (s t : SeatState) → slice_get seats i ≡ Some s → t.lags ≡ s.lags → t.env ≡ s.env → roots_now roots (set seats i t) ≡ roots_now roots seats
now-seat roots seats i s t g lags env =
    now-same roots roots seats (set seats i t) refl
    (λ k h.
    ⊎_elim
    (λ (e : k / 32 ≡ i). at-own roots seats i k s t g e ∙ held_alike s t (k % 32) (slice_index roots k) lags env ∙ sym (was-own roots seats i k s g e))
    (λ (d : k / 32 ≢ i). at-other roots seats i k t d)
    (cases_eq (k / 32) i))

-- a record in which nothing lags comes in the place of another
pub now-ended : (roots : List ℕ) (seats : List SeatState) (i : ℕ) (t : SeatState) → IfSome (slice_get seats i) Shows → Shows t → roots_now roots (set seats i t) ≡ roots_now roots seats
now-ended roots seats i t a b =
    now-same roots roots seats (set seats i t) refl
    (λ k h.
    ⊎_elim
    (λ (e : k / 32 ≡ i).
    held-still (slice_get (set seats i t) (k / 32)) (k % 32) (slice_index roots k) (subst (λ (j : ℕ). IfSome (slice_get (set seats i t) j) Shows) (sym e) (shows_set seats i t a b))
    ∙ sym (held-still (slice_get seats (k / 32)) (k % 32) (slice_index roots k) (subst (λ (j : ℕ). IfSome (slice_get seats j) Shows) (sym e) a)))
    (λ (d : k / 32 ≢ i). at-other roots seats i k t d)
    (cases_eq (k / 32) i))
  where
    shows_set : (xs : List SeatState) (j : ℕ) (x : SeatState) → IfSome (slice_get xs j) Shows → Shows x → IfSome (slice_get (set xs j x) j) Shows
    shows_set [] zero x c d = tt
    shows_set [] (suc j) x c d = tt
    shows_set (y ∷ xs) zero x c d = d
    shows_set (y ∷ xs) (suc j) x c d = shows_set xs j x c d

-- a record in which nothing lags is added
pub now-pushed : (roots : List ℕ) (seats : List SeatState) (t : SeatState) → Shows t → roots_now roots (seats ++ t ∷ []) ≡ roots_now roots seats
now-pushed roots seats t b = now-same roots roots seats (seats ++ t ∷ []) refl (λ k h. pushed seats (k / 32) (k % 32) (slice_index roots k))
  where
    pushed : (xs : List SeatState) (j v root : ℕ) → held_word (slice_get (xs ++ t ∷ []) j) v root ≡ held_word (slice_get xs j) v root
    pushed [] zero v root = held-still (Some t) v root b
    pushed [] (suc j) v root = refl
    pushed (x ∷ xs) zero v root = refl
    pushed (x ∷ xs) (suc j) v root = pushed xs j v root

-- a root that nobody's variable stands before
pub now-root : (roots : List ℕ) (seats : List SeatState) (at r : ℕ) → at < length roots → IfSome (slice_get seats (at / 32)) Shows → roots_now (set roots at r) seats ≡ set (roots_now roots seats) at r
now-root roots seats at r h a =
    now-moved roots (set roots at r) seats seats at r (length-set roots at r) h (held-still (slice_get seats (at / 32)) (at % 32) (get_or (set roots at r) at 0) a ∙ get_or-set_same roots at r 0 h)
    (λ k l n. ap (λ (x : ℕ). held_word (slice_get seats (k / 32)) (k % 32) x) (get_or-set_other roots at k r 0 n))

-- variable v of seat i is held: its root lags
pub now-held : (roots : List ℕ) (seats : List SeatState) (i v r : ℕ) (s t : SeatState) → slice_get seats i ≡ Some s → v < 32 → i * 32 + v < length roots → length s.env ≡ 32 → t.lags ≡ with_bit s.lags v → t.env ≡ set s.env v r
    → roots_now roots (set seats i t) ≡ set (roots_now roots seats) (i * 32 + v) r
now-held roots seats i v r s t g hv h len lags env =
    let at : ℕ = i * 32 + v in
    let low : at % 32 ≡ v = omega (arith, hv) in
    now-moved roots roots seats (set seats i t) at r refl h
    (at-own roots seats i at s t g (omega (arith, hv))
    ∙ ap (λ (u : ℕ). held_word (Some t) u (slice_index roots at)) low
    ∙ ap (λ (b : Bool). if b then slice_index t.env v else slice_index roots at) (ap (λ (l : ℕ). has_bit l v) lags ∙ with_same s.lags v)
    ∙ ap (λ (e : List ℕ). slice_index e v) env
    ∙ get_or-set_same s.env v r 0 (omega (arith, hv, len)))
    (λ k l n.
    ⊎_elim
    (λ (e : k / 32 ≡ i).
    let d : k % 32 ≢ v = λ z. n (omega (arith, e, z)) in
    at-own roots seats i k s t g e
    ∙ ap (λ (b : Bool). if b then slice_index t.env (k % 32) else slice_index roots k) (ap (λ (x : ℕ). has_bit x (k % 32)) lags ∙ with_other s.lags v (k % 32) d)
    ∙ ap (λ (x : ℕ). if has_bit s.lags (k % 32) then x else slice_index roots k) (ap (λ (e : List ℕ). slice_index e (k % 32)) env ∙ get_or-set_other s.env v (k % 32) r 0 d)
    ∙ sym (was-own roots seats i k s g e))
    (λ (d : k / 32 ≢ i). at-other roots seats i k t d)
    (cases_eq (k / 32) i))

held_both : (s : SeatState) (v root r : ℕ) → slice_index s.env v ≡ r → root ≡ r → held_word (Some s) v root ≡ r
held_both s v root r e f =
    ⊎_elim
    (λ (b : has_bit s.lags v ≡ true). ap (λ (x : Bool). if x then slice_index s.env v else root) b ∙ e)
    (λ (b : has_bit s.lags v ≡ false). ap (λ (x : Bool). if x then slice_index s.env v else root) b ∙ f)
    (cases_Bool (has_bit s.lags v))

-- variable v of seat i is stored, in its root and in its record
pub now-stored : (roots : List ℕ) (seats : List SeatState) (i v r : ℕ) (s t : SeatState) → slice_get seats i ≡ Some s → v < 32 → i * 32 + v < length roots → length s.env ≡ 32 → t.lags ≡ s.lags → t.env ≡ set s.env v r
    → roots_now (set roots (i * 32 + v) r) (set seats i t) ≡ set (roots_now roots seats) (i * 32 + v) r
now-stored roots seats i v r s t g hv h len lags env =
    let at : ℕ = i * 32 + v in
    let low : at % 32 ≡ v = omega (arith, hv) in
    let new : List ℕ = set roots at r in
    now-moved roots new seats (set seats i t) at r (length-set roots at r) h
    (at-own new seats i at s t g (omega (arith, hv))
    ∙ ap (λ (u : ℕ). held_word (Some t) u (slice_index new at)) low
    ∙ held_both t v (slice_index new at) r (ap (λ (e : List ℕ). slice_index e v) env ∙ get_or-set_same s.env v r 0 (omega (arith, hv, len))) (get_or-set_same roots at r 0 h))
    (λ k l n.
    ⊎_elim
    (λ (e : k / 32 ≡ i).
    let d : k % 32 ≢ v = λ z. n (omega (arith, e, z)) in
    at-own new seats i k s t g e
    ∙ ap (λ (y : ℕ). held_word (Some t) (k % 32) y) (get_or-set_other roots at k r 0 n)
    ∙ ap (λ (y : ℕ). if has_bit y (k % 32) then slice_index t.env (k % 32) else slice_index roots k) lags
    ∙ ap (λ (y : ℕ). if has_bit s.lags (k % 32) then y else slice_index roots k) (ap (λ (e : List ℕ). slice_index e (k % 32)) env ∙ get_or-set_other s.env v (k % 32) r 0 d)
    ∙ sym (was-own roots seats i k s g e))
    (λ (d : k / 32 ≢ i). at-other new seats i k t d ∙ ap (λ (y : ℕ). held_word (slice_get seats (k / 32)) (k % 32) y) (get_or-set_other roots at k r 0 n))
    (cases_eq (k / 32) i))

-- Variables lag only while their seat mutates.
abbrev pub LagsInTurn : SeatState → Type 0
LagsInTurn s = IsFalse (may_mutate s) → s.lags ≡ 0

pub idle-lags : (s : SeatState) → IsFalse s.active → LagsInTurn s → Shows s
idle-lags s e h = h (ap (λ (a : Bool). a && has_turn s.section s.season_seen) e)

pub not-counted : (s : SeatState) → is_bare s ≡ true → IsFalse s.counted
not-counted s e = not-true s.counted (and_parts (not s.counted) (not s.raised) (and_parts (not s.counted && not s.raised) (not s.helping) e).0).0

-- an active seat is counted
pub not-active : (s : SeatState) → (IsTrue s.active → IsTrue s.counted) → IsFalse s.counted → IsFalse s.active
not-active s f e = ⊎_elim (λ (a : s.active ≡ true). absurd (true≢false (sym (f a) ∙ e))) (λ (a : s.active ≡ false). a) (cases_Bool s.active)

pub held-here : (s : SeatState) (v root : ℕ) → (IsFalse (has_bit s.lags v) → slice_index s.env v ≡ root) → held_word (Some s) v root ≡ slice_index s.env v
held-here s v root h =
    ⊎_elim
    (λ (e : has_bit s.lags v ≡ true). ap (λ (b : Bool). if b then slice_index s.env v else root) e)
    (λ (e : has_bit s.lags v ≡ false). ap (λ (b : Bool). if b then slice_index s.env v else root) e ∙ sym (h e))
    (cases_Bool (has_bit s.lags v))

-- variable v of seat i is stored in its root: what the seats have stays
pub now-flushed : (roots : List ℕ) (seats : List SeatState) (i v : ℕ) (s t : SeatState) → slice_get seats i ≡ Some s → v < 32 → i * 32 + v < length roots → (IsFalse (has_bit s.lags v) → slice_index s.env v ≡ slice_index roots (i * 32 + v))
    → t.lags ≡ without_bit s.lags v → t.env ≡ s.env → roots_now (set roots (i * 32 + v) (slice_index s.env v)) (set seats i t) ≡ roots_now roots seats
now-flushed roots seats i v s t g hv h shown lags env =
    let at : ℕ = i * 32 + v in
    let r : ℕ = slice_index s.env v in
    let low : at % 32 ≡ v = omega (arith, hv) in
    let new : List ℕ = set roots at r in
    now-same roots new seats (set seats i t) (length-set roots at r)
    (λ k l.
    ⊎_elim
    (λ (a : k ≡ at).
    ap (root_now new (set seats i t)) a
    ∙ (at-own new seats i at s t g (omega (arith, hv))
    ∙ ap (λ (u : ℕ). held_word (Some t) u (slice_index new at)) low
    ∙ ap (λ (b : Bool). if b then slice_index t.env v else slice_index new at) (ap (λ (x : ℕ). has_bit x v) lags ∙ without_same s.lags v (omega (arith, hv)))
    ∙ get_or-set_same roots at r 0 h)
    ∙ sym (was-own roots seats i at s g (omega (arith, hv)) ∙ ap (λ (u : ℕ). held_word (Some s) u (slice_index roots at)) low ∙ held-here s v (slice_index roots at) shown)
    ∙ sym (ap (root_now roots seats) a))
    (λ (n : k ≢ at).
    ⊎_elim
    (λ (e : k / 32 ≡ i).
    let d : k % 32 ≢ v = λ z. n (omega (arith, e, z)) in
    at-own new seats i k s t g e
    ∙ ap (λ (y : ℕ). held_word (Some t) (k % 32) y) (get_or-set_other roots at k r 0 n)
    ∙ ap (λ (b : Bool). if b then slice_index t.env (k % 32) else slice_index roots k) (ap (λ (y : ℕ). has_bit y (k % 32)) lags ∙ without_other s.lags v (k % 32) (omega (arith, hv)) (omega arith) d)
    ∙ ap (λ (y : List ℕ). if has_bit s.lags (k % 32) then slice_index y (k % 32) else slice_index roots k) env
    ∙ sym (was-own roots seats i k s g e))
    (λ (d : k / 32 ≢ i). at-other new seats i k t d ∙ ap (λ (y : ℕ). held_word (slice_get seats (k / 32)) (k % 32) y) (get_or-set_other roots at k r 0 n))
    (cases_eq (k / 32) i))
    (cases_eq k at))
