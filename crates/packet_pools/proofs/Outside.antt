-- What a seat that is alone has noted of the pools stays, step by step.
use Rattle.std.proofs.Common.{ℕ, ◌≡◌, ◌≢◌, ◌<◌, ◌≤◌, ◌+◌, ◌*◌, ◌/◌, ◌⊎◌, ⊎_elim, List, [], ◌∷◌, inl, inr, arith, refl, sym, ap, ◌∙◌, subst, Bool, true, false, eqb, eq-eqb, cond, Option, None, Some}
use Rattle.std.specs.Prelude.{IfNone, nat_le}
use Rattle.std.proofs.lemmas.Bool.{ne_eqb, or_parts, true≢false, le-leb, cases_lt, or_from}
use Rattle.mark_core.specs.Effects.{place, seat_after, written}
use Rattle.mark_core.specs.Layout.{pool_words}
use Rattle.mark_core.specs.Notes.{same_place}
use Rattle.mark_core.specs.Numbers.{word_bits, empty_pool_number, low_pool_number, high_pool_number}
use Rattle.mark_core.specs.Places.{pool_at}
use Rattle.mark_core.specs.Held.{length_in_hand}
use Rattle.mark_core.specs.Steps.PacketSteps.{pool_for}
use Rattle.mark_core.specs.declared.kinds.Shape.{Shape}
use Rattle.mark_core.specs.declared.kinds.Step.{Step}
use Rattle.mark_core.specs.declared.kinds.Step.TheVariants.{Take, Give, Credit, Reserve, Look, ReadLength, StoreLength}
use Rattle.mark_core.proofs.Pool.PoolPlaces as places
use Rattle.gc_table.specs.declared.view.View.{View}
use Rattle.gc_table.specs.Notes.{look}
use Rattle.gc_table.specs.Running.{IsSeen, ends_alone}
use Rattle.gc_table.specs.Taking.{after, Finds}
use Rattle.gc_table.proofs.Noticing.{is_load, known-step, known-here, alone-steady, alone-stays}
use Rattle.packet_pools.specs.Outside.{IsNotedOutside, KeepsOutside, LooksInVain}
use Rattle.packet_pools.specs.Seeking.{in_pools}
use Rattle.packet_pools.specs.declared.held.Held.{Held}
use Rattle.packet_pools.proofs.TracedSteps.{seen-found, seen-stored, place-again}

-- words of two pools are at two places
pub pools-apart : (sh : Shape) (q x g h : ℕ) → g < pool_words sh → h < pool_words sh → q ≢ x → same_place (pool_at sh q g) (pool_at sh x h) ≡ false
pools-apart sh q x g h a b n = ne_eqb (q * pool_words sh + g) (x * pool_words sh + h) (λ e. n (places.same_place (pool_words sh) q x g h a b e).0)

-- the word of a packet is one of the pool's
pub word-of : (sh : Shape) (p : ℕ) → p < sh.packets → p / word_bits < pool_words sh
word-of sh p l = omega (arith, l)

-- the pool isn't the first of these
pub not-first : (q x : ℕ) (xs : List ℕ) → in_pools q (x ∷ xs) ≡ false → x ≢ q
not-first q x xs e d = true≢false (sym (eq-eqb x q d) ∙ (or_parts (eqb x q) (in_pools q xs) e).0)

pub not-rest : (q x : ℕ) (xs : List ℕ) → in_pools q (x ∷ xs) ≡ false → in_pools q xs ≡ false
not-rest q x xs e = (or_parts (eqb x q) (in_pools q xs) e).1

-- it isn't the only one of a list
pub head-only : (q x : ℕ) (xs : List ℕ) → in_pools q (x ∷ xs) ≡ false → in_pools q (x ∷ []) ≡ false
head-only q x xs e = or_from (eqb x q) false (or_parts (eqb x q) (in_pools q xs) e).0 refl

-- a step that reads, or writes elsewhere
pub outside-step : (v : View) (step : Step) (n q p : ℕ) → ends_alone step ≡ false → v.state.alone ≡ true → IsSeen step n v → (same_place (place v.shape v.state step) (pool_at v.shape q (p / word_bits)) ≡ false) ⊎ (is_load step ≡ true) → IsNotedOutside q p v → IsNotedOutside q p (after step n v)
outside-step v step n q p e a s spares k =
    let at : ℕ × ℕ = pool_at v.shape q (p / word_bits) in
    (k.0, (known-step v step n at k.0 spares s (alone-steady (seat_after v.shape v.state step n) at k.0 refl (alone-stays v.shape v.state step n e a)) k.1).0, k.2)

-- a step that leaves the words of other pools than these
pub keeps-step : (qs : List ℕ) (v w : View) (step : Step) (n : ℕ) → ends_alone step ≡ false → IsSeen step n v → ((q p : ℕ) → in_pools q qs ≡ false → p < v.shape.packets → (same_place (place v.shape v.state step) (pool_at v.shape q (p / word_bits)) ≡ false) ⊎ (is_load step ≡ true)) → w ≡ after step n v → KeepsOutside qs v w
keeps-step qs v w step n e s spares is = λ a q p other low k. subst (IsNotedOutside q p) (sym is) (outside-step v step n q p e a s (spares q p other low) k)

pub keeps-refl : (qs : List ℕ) (v : View) → KeepsOutside qs v v
keeps-refl qs v = λ a q p other low k. k

-- one call after another
pub keeps-join : (qs : List ℕ) (u v w : View) → v.shape ≡ u.shape → v.state.alone ≡ u.state.alone → KeepsOutside qs u v → KeepsOutside qs v w → KeepsOutside qs u w
keeps-join qs u v w shape alone a b = λ here q p other low k. b (alone ∙ here) q p other (subst (λ (sh : Shape). p < sh.packets) (sym shape) low) (a here q p other low k)

-- more pools
pub keeps-more : (qs rs : List ℕ) (v w : View) → ((q : ℕ) → in_pools q rs ≡ false → in_pools q qs ≡ false) → KeepsOutside qs v w → KeepsOutside rs v w
keeps-more qs rs v w h k = λ a q p other low m. k a q p (h q other) low m

module _ (v w : View) (n : ℕ) where
  pub keeps-take : (q p : ℕ) → p < v.shape.packets → Finds (Take q p) n v → w ≡ after (Take q p) n v → KeepsOutside (q ∷ []) v w
  keeps-take q p low f e =
      keeps-step (q ∷ []) v w (Take q p) n refl (seen-found v (Take q p) n refl f)
      (λ x y other below. inl (pools-apart v.shape q x (p / word_bits) (y / word_bits) (word-of v.shape p low) (word-of v.shape y below) (not-first x q [] other)))
      e

  pub keeps-look : (qs : List ℕ) (q g : ℕ) → Finds (Look q g) n v → w ≡ after (Look q g) n v → KeepsOutside qs v w
  keeps-look qs q g f e = keeps-step qs v w (Look q g) n refl (seen-found v (Look q g) n refl f) (λ x y other below. inr refl) e

  pub keeps-read_length : (qs : List ℕ) (p : ℕ) → Finds (ReadLength p) n v → w ≡ after (ReadLength p) n v → KeepsOutside qs v w
  keeps-read_length qs p f e = keeps-step qs v w (ReadLength p) n refl (seen-found v (ReadLength p) n refl f) (λ x y other below. inr refl) e

  pub keeps-reserve : (qs : List ℕ) → Finds Reserve n v → w ≡ after Reserve n v → KeepsOutside qs v w
  keeps-reserve qs f e = keeps-step qs v w Reserve n refl (seen-found v Reserve n refl f) (λ x y other below. inl refl) e

  pub keeps-credit : (qs : List ℕ) → Finds Credit n v → w ≡ after Credit n v → KeepsOutside qs v w
  keeps-credit qs f e = keeps-step qs v w Credit n refl (seen-found v Credit n refl f) (λ x y other below. inl refl) e

  pub keeps-give : (q p : ℕ) (d : Bool) → p < v.shape.packets → pool_for v.shape (length_in_hand v.state.held p) d ≡ q → Finds (Give p d) n v → w ≡ after (Give p d) n v → KeepsOutside (q ∷ []) v w
  keeps-give q p d low is f e =
      keeps-step (q ∷ []) v w (Give p d) n refl (seen-found v (Give p d) n refl f)
      (λ x y other below.
      inl (pools-apart v.shape (pool_for v.shape (length_in_hand v.state.held p) d) x (p / word_bits) (y / word_bits) (word-of v.shape p low) (word-of v.shape y below) (λ z. not-first x q [] other (sym is ∙ z))))
      e

  pub keeps-store_length : (qs : List ℕ) (p : ℕ) → n ≡ written v.shape v.state (StoreLength p) 0 → w ≡ after (StoreLength p) n v → KeepsOutside qs v w
  keeps-store_length qs p f e = keeps-step qs v w (StoreLength p) n refl (seen-stored v (StoreLength p) n refl f) (λ x y other below. inl refl) e

-- what a look found is noted
pub look-noted : (v w : View) (q g n : ℕ) → v.state.alone ≡ true → w ≡ after (Look q g) n v → look (pool_at w.shape q g) w.known ≡ Some n
look-noted v w q g n a e =
    let at : ℕ × ℕ = pool_at v.shape q g in
    subst (λ (z : View). look (pool_at z.shape q g) z.known ≡ Some n) (sym e) (known-here v (Look q g) n at (place-again at) (alone-steady v.state at n refl a)).0

-- a full packet goes back to the high pool
pub full-high : (sh : Shape) (n : ℕ) → 2 ≤ sh.entries → n ≡ sh.entries → pool_for sh n false ≡ high_pool_number
full-high sh n two is =
    ap (λ m. pool_for sh m false) is
    ∙ (ap (λ (b : Bool). cond b empty_pool_number (cond (nat_le sh.entries (2 * sh.entries)) high_pool_number low_pool_number)) (ne_eqb sh.entries 0 (λ e. omega (arith, two, e)))
    ∙ ap (λ (b : Bool). cond b high_pool_number low_pool_number) (le-leb sh.entries (2 * sh.entries) (omega arith)))

pub if-both : (o : Option Held) (P Q R : Type 0) → (P → Q → R) → IfNone o P → IfNone o Q → IfNone o R
if-both None P Q R f p q = f p q
if-both (Some h) P Q R f p q = tt

-- one word after another
pub noted-next : (sh : Shape) (q g : ℕ) (w u : View) → w.state.alone ≡ true → LooksInVain sh q g w u → ((p : ℕ) → p < sh.packets → p < word_bits * g → IsNotedOutside q p w) → (p : ℕ) → p < sh.packets → p < word_bits * (g + 1) → IsNotedOutside q p u
noted-next sh q g w u alone k before p low below =
    ⊎_elim
    (λ (e : p < word_bits * g). subst (IsNotedOutside q p) (sym k.1.0) (outside-step w (Look q g) k.0 q p refl alone (seen-found w (Look q g) k.0 refl k.1.1) (inr refl) (before p low e)))
    (λ (e : word_bits * g ≤ p).
    let here : p / word_bits ≡ g = omega (arith, e, below) in
    (k.0, subst (λ x. look (pool_at u.shape q x) u.known ≡ Some k.0) (sym here) (look-noted w u q g k.0 alone k.1.0), k.2 p low here))
    (cases_lt p (word_bits * g))
