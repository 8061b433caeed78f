-- What the four slots say of a packet, once one was put into them or taken out, or its length became known.
use Rattle.std.proofs.Common.{ℕ, ◌≡◌, ◌≢◌, [], ◌∷◌, arith, refl, Bool, true, false, Some, None}
use Rattle.std.proofs.lemmas.Bool.{false≢true, true≢false}
use Rattle.mark_core.specs.Held.{Slots, holds, known_length, is_stored, holds_any, has_free_slot, put_packet, drop_packet, set_length}

-- two hands say the same of packet q
pub record SameInHand (hs gs : Slots) (q : ℕ) : Type 0 where
  pub holds_same : holds gs q ≡ holds hs q
  pub known_same : known_length gs q ≡ known_length hs q
  pub stored_same : is_stored gs q ≡ is_stored hs q

pub same-in-hand : (hs : Slots) (q : ℕ) → SameInHand hs hs q
same-in-hand hs q = record { holds_same = refl; known_same = refl; stored_same = refl }

holds-drop_other : (hs : Slots) (p q : ℕ) → q ≢ p → holds (drop_packet hs p) q ≡ holds hs q
holds-drop_other [] p q n = refl
holds-drop_other (None ∷ hs) p q n = holds-drop_other hs p q n
holds-drop_other (Some x ∷ hs) p q n = grind (arith, holds-drop_other hs p q n)

known-drop_other : (hs : Slots) (p q : ℕ) → q ≢ p → known_length (drop_packet hs p) q ≡ known_length hs q
known-drop_other [] p q n = refl
known-drop_other (None ∷ hs) p q n = known-drop_other hs p q n
known-drop_other (Some x ∷ hs) p q n = grind (arith, known-drop_other hs p q n)

stored-drop_other : (hs : Slots) (p q : ℕ) → q ≢ p → is_stored (drop_packet hs p) q ≡ is_stored hs q
stored-drop_other [] p q n = refl
stored-drop_other (None ∷ hs) p q n = stored-drop_other hs p q n
stored-drop_other (Some x ∷ hs) p q n = grind (arith, stored-drop_other hs p q n)

pub drop-other : (hs : Slots) (p q : ℕ) → q ≢ p → SameInHand hs (drop_packet hs p) q
drop-other hs p q n = record { holds_same = holds-drop_other hs p q n; known_same = known-drop_other hs p q n; stored_same = stored-drop_other hs p q n }

pub holds-drop_same : (hs : Slots) (p : ℕ) → holds (drop_packet hs p) p ≡ false
holds-drop_same [] p = refl
holds-drop_same (None ∷ hs) p = holds-drop_same hs p
holds-drop_same (Some x ∷ hs) p = grind (arith, holds-drop_same hs p)

holds-put_other : (hs : Slots) (p q : ℕ) → q ≢ p → holds (put_packet hs p) q ≡ holds hs q
holds-put_other [] p q n = refl
holds-put_other (None ∷ hs) p q n = grind arith
holds-put_other (Some x ∷ hs) p q n = grind (arith, holds-put_other hs p q n)

known-put_other : (hs : Slots) (p q : ℕ) → q ≢ p → known_length (put_packet hs p) q ≡ known_length hs q
known-put_other [] p q n = refl
known-put_other (None ∷ hs) p q n = grind arith
known-put_other (Some x ∷ hs) p q n = grind (arith, known-put_other hs p q n)

stored-put_other : (hs : Slots) (p q : ℕ) → q ≢ p → is_stored (put_packet hs p) q ≡ is_stored hs q
stored-put_other [] p q n = refl
stored-put_other (None ∷ hs) p q n = grind arith
stored-put_other (Some x ∷ hs) p q n = grind (arith, stored-put_other hs p q n)

pub put-other : (hs : Slots) (p q : ℕ) → q ≢ p → SameInHand hs (put_packet hs p) q
put-other hs p q n = record { holds_same = holds-put_other hs p q n; known_same = known-put_other hs p q n; stored_same = stored-put_other hs p q n }

pub holds-put_same : (hs : Slots) (p : ℕ) → has_free_slot hs ≡ true → holds (put_packet hs p) p ≡ true
holds-put_same [] p f = absurd (false≢true f)
holds-put_same (None ∷ hs) p f = grind arith
holds-put_same (Some x ∷ hs) p f = grind (arith, holds-put_same hs p)

-- the length of a packet that was just taken isn't known
pub known-put_same : (hs : Slots) (p : ℕ) → holds hs p ≡ false → known_length (put_packet hs p) p ≡ None
known-put_same [] p h = refl
known-put_same (None ∷ hs) p h = grind arith
known-put_same (Some x ∷ hs) p h = grind (arith, known-put_same hs p)

holds-set : (hs : Slots) (p n : ℕ) (b : Bool) (q : ℕ) → holds (set_length hs p n b) q ≡ holds hs q
holds-set [] p n b q = refl
holds-set (None ∷ hs) p n b q = holds-set hs p n b q
holds-set (Some x ∷ hs) p n b q = grind (arith, holds-set hs p n b q)

known-set_other : (hs : Slots) (p n : ℕ) (b : Bool) (q : ℕ) → q ≢ p → known_length (set_length hs p n b) q ≡ known_length hs q
known-set_other [] p n b q h = refl
known-set_other (None ∷ hs) p n b q h = known-set_other hs p n b q h
known-set_other (Some x ∷ hs) p n b q h = grind (arith, known-set_other hs p n b q h)

stored-set_other : (hs : Slots) (p n : ℕ) (b : Bool) (q : ℕ) → q ≢ p → is_stored (set_length hs p n b) q ≡ is_stored hs q
stored-set_other [] p n b q h = refl
stored-set_other (None ∷ hs) p n b q h = stored-set_other hs p n b q h
stored-set_other (Some x ∷ hs) p n b q h = grind (arith, stored-set_other hs p n b q h)

pub set-other : (hs : Slots) (p n : ℕ) (b : Bool) (q : ℕ) → q ≢ p → SameInHand hs (set_length hs p n b) q
set-other hs p n b q h = record { holds_same = holds-set hs p n b q; known_same = known-set_other hs p n b q h; stored_same = stored-set_other hs p n b q h }

pub holds-set_same : (hs : Slots) (p n : ℕ) (b : Bool) → holds (set_length hs p n b) p ≡ holds hs p
holds-set_same hs p n b = holds-set hs p n b p

pub known-set_same : (hs : Slots) (p n : ℕ) (b : Bool) → holds hs p ≡ true → known_length (set_length hs p n b) p ≡ Some n
known-set_same [] p n b h = absurd (false≢true h)
known-set_same (None ∷ hs) p n b h = known-set_same hs p n b h
known-set_same (Some x ∷ hs) p n b h = grind (arith, known-set_same hs p n b)

-- a length that was set as not stored isn't stored
pub stored-set_same : (hs : Slots) (p n : ℕ) (b : Bool) → is_stored (set_length hs p n b) p ≡ true → b ≡ true
stored-set_same [] p n b h = absurd (false≢true h)
stored-set_same (None ∷ hs) p n b h = stored-set_same hs p n b h
stored-set_same (Some x ∷ hs) p n true h = refl
stored-set_same (Some x ∷ hs) p n false h = grind (arith, stored-set_same hs p n false)

-- what is stored is held
pub stored-held : (hs : Slots) (p : ℕ) → is_stored hs p ≡ true → holds hs p ≡ true
stored-held [] p h = h
stored-held (None ∷ hs) p h = stored-held hs p h
stored-held (Some x ∷ hs) p h = grind (arith, stored-held hs p)

pub any-held : (hs : Slots) (p : ℕ) → holds hs p ≡ true → holds_any hs ≡ true
any-held [] p h = h
any-held (None ∷ hs) p h = any-held hs p h
any-held (Some x ∷ hs) p h = refl

-- if none is held, this one isn't
pub none-held : (hs : Slots) (p : ℕ) → holds_any hs ≡ false → holds hs p ≡ false
none-held [] p h = refl
none-held (None ∷ hs) p h = none-held hs p h
none-held (Some x ∷ hs) p h = absurd (true≢false h)

pub any-put : (hs : Slots) (p : ℕ) → holds_any hs ≡ true → holds_any (put_packet hs p) ≡ true
any-put [] p h = h
any-put (None ∷ hs) p h = refl
any-put (Some x ∷ hs) p h = refl
