-- What a seat has in hand is marked, or published, or in use: kept by each step of the seat, if what it finds is so too.
use Rattle.std.proofs.Common.{ℕ, ◌≡◌, ◌/◌, ◌%◌, ◌<◌, List, arith, refl, sym, ◌∙◌, subst, Bool, true, false, not, cond, eqb, ◌&&◌, Option, Some, None, ⊎_elim}
use Rattle.std.specs.Prelude.{IsTrue, IfSome, nat_lt}
use Rattle.std.proofs.lemmas.Bool.{false≢true, and_parts, or_cases, eqb-true, ltb-true, lt-ltb}
use Rattle.mark_core.specs.Layout.{Words}
use Rattle.mark_core.specs.Bits.{has_bit, cell_of, cell_named}
use Rattle.mark_core.specs.Seats.{scan_left, left_in, may_scan, scans, is_the}
use Rattle.mark_core.specs.Steps.ColourSteps.{popped_after, scan_after, fresh_off, popped_off, may_read_field}
use Rattle.mark_core.specs.Parts.{parts}
use Rattle.mark_core.specs.Effects.{seat_after}
use Rattle.mark_core.specs.Steps.{AllTrue}
use Rattle.mark_core.proofs.Writing.SeatBoundsKept.{choose}
use Rattle.mark_core.proofs.Hands.HandsCleaning.{in_set-none, scan-left, left-read, left-without, left-dirtied, left-known, scan-read, scan-without, scan-dirtied, scan-known}
use Rattle.mark_core.specs.declared.kinds.Shape.{Shape}
use Rattle.mark_core.specs.declared.kinds.Step.{Step}
use Rattle.mark_core.specs.declared.kinds.Step.TheVariants.{Push, Pop, ReadAlloc, ReadField, ReadRoot, SetMark, DirtyCard, ClearCard, ReadMarks, LoadSlot}
use Rattle.mark_core.specs.declared.seat.SeatState.{SeatState}
use Rattle.mark_core.specs.declared.seat.Cleaning.{Cleaning}
use Rattle.mark_core.specs.Cards.{block_of_card, card_of}

-- the cells that a seat has in hand pass the test
pub record HandMarked (fields : ℕ) (m : ℕ → Bool) (s : SeatState) : Type 0 where
  pub popped : IfSome s.popped (λ x. IsTrue (m x.0))
  pub fresh : IfSome s.fresh (λ c. IsTrue (m c))
  pub scan : IsTrue (scan_left fields s.scan) → IfSome s.scan (λ x. IsTrue (m x.0))
  pub left : (c : ℕ) → IsTrue (left_in s.cleaning c) → IsTrue (m c)

-- the cells that a seat scans, and those that it may, pass the test
pub record HandPublished (fields : ℕ) (a : ℕ → Bool) (s : SeatState) : Type 0 where
  pub scan : IsTrue (scan_left fields s.scan) → IfSome s.scan (λ x. IsTrue (a x.0))
  pub left : (c : ℕ) → IsTrue (may_scan s.cleaning c) → IsTrue (a c)

-- the cell that the seat loaded has the property
abbrev pub HandUsed : (ℕ → Bool) → SeatState → Type 0
HandUsed u s = IfSome s.value (λ c. IsTrue (u c))

some_more : {A : Type 0} (o : Option A) (P Q : A → Type 0) → ((x : A) → P x → Q x) → IfSome o P → IfSome o Q
some_more None P Q f k = tt
some_more (Some x) P Q f k = f x k

-- more cells pass the test
pub marked-more : (fields : ℕ) (m m' : ℕ → Bool) (s : SeatState) → ((x : ℕ) → m x ≡ true → m' x ≡ true) → HandMarked fields m s → HandMarked fields m' s
marked-more fields m m' s f k =
    record {
      popped = some_more s.popped (λ x. IsTrue (m x.0)) (λ x. IsTrue (m' x.0)) (λ x. f x.0) k.popped;
      fresh = some_more s.fresh (λ c. IsTrue (m c)) (λ c. IsTrue (m' c)) f k.fresh;
      scan = λ e. some_more s.scan (λ x. IsTrue (m x.0)) (λ x. IsTrue (m' x.0)) (λ x. f x.0) (k.scan e);
      left = λ c e. f c (k.left c e);
    }

pub published-more : (fields : ℕ) (a a' : ℕ → Bool) (s : SeatState) → ((x : ℕ) → a x ≡ true → a' x ≡ true) → HandPublished fields a s → HandPublished fields a' s
published-more fields a a' s f k =
    record { scan = λ e. some_more s.scan (λ x. IsTrue (a x.0)) (λ x. IsTrue (a' x.0)) (λ x. f x.0) (k.scan e); left = λ c e. f c (k.left c e) }

pub used-more : (u u' : ℕ → Bool) (s : SeatState) → ((x : ℕ) → u x ≡ true → u' x ≡ true) → HandUsed u s → HandUsed u' s
used-more u u' s f k = some_more s.value (λ c. IsTrue (u c)) (λ c. IsTrue (u' c)) f k

-- 9: what is left of a popped cell
popped_read : (P : ℕ → Type 0) (o : Option (ℕ × Bool)) (b word : ℕ) → IfSome o (λ x. P x.0) → IfSome (popped_after o b word) (λ x. P x.0)
popped_read P None b word k = tt
popped_read P (Some x) b word k =
    let Q : Option (ℕ × Bool) → Type 0 = λ o. IfSome o (λ y. P y.0) in
    choose Q (eqb (x.0 / 64) b) (cond (has_bit word (x.0 % 64)) None (Some (x.0, true))) (Some x) (choose Q (has_bit word (x.0 % 64)) None (Some (x.0, true)) tt k) k

-- the scan afterwards is that of the popped cell, or as before
scan_now : (fields : ℕ) (P : ℕ → Type 0) (t : Bool) (c : ℕ) (scan : Option (ℕ × ℕ)) → (t ≡ true → P c) → (IsTrue (scan_left fields scan) → IfSome scan (λ x. P x.0))
    → IsTrue (scan_left fields (cond t (Some (c, 0)) scan)) → IfSome (cond t (Some (c, 0)) scan) (λ x. P x.0)
scan_now fields P true c scan f k e = f refl
scan_now fields P false c scan f k e = k e

scan_read : (fields : ℕ) (P : ℕ → Type 0) (o : Option (ℕ × Bool)) (scan : Option (ℕ × ℕ)) (b word : ℕ) → IfSome o (λ x. x.0 / 64 ≡ b → has_bit word (x.0 % 64) ≡ true → P x.0) → (IsTrue (scan_left fields scan) → IfSome scan (λ x. P x.0))
    → IsTrue (scan_left fields (scan_after o scan b word)) → IfSome (scan_after o scan b word) (λ x. P x.0)
scan_read fields P None scan b word f k e = k e
scan_read fields P (Some x) scan b word f k e =
    scan_now fields P (eqb (x.0 / 64) b && has_bit word (x.0 % 64)) x.0 scan (λ t. let a = and_parts (eqb (x.0 / 64) b) (has_bit word (x.0 % 64)) t in f (eqb-true (x.0 / 64) b a.0) a.1) k e

-- 10: the cell of which a field is loaded
scanned : (fields : ℕ) (P : ℕ → Type 0) (o : Option (ℕ × ℕ)) (c i : ℕ) → i < fields → (IsTrue (scan_left fields o) → IfSome o (λ x. P x.0)) → scans o c i ≡ true → P c
scanned fields P None c i h k e = absurd (false≢true e)
scanned fields P (Some x) c i h k e =
    let a = and_parts (eqb x.0 c) (eqb x.1 i) e in
    subst P (eqb-true x.0 c a.0) (k (lt-ltb x.1 fields (omega (arith, h, eqb-true x.1 i a.1))))

pub field-cell : (sh : Shape) (P : ℕ → Type 0) (s : SeatState) (c i : ℕ) → i < sh.fields → (IsTrue (scan_left sh.fields s.scan) → IfSome s.scan (λ x. P x.0)) → (IsTrue (may_scan s.cleaning c) → P c) → may_read_field sh s c i ≡ true → P c
field-cell sh P s c i h k f e =
    ⊎_elim
    (λ (a : scans s.scan c i ≡ true). scanned sh.fields P s.scan c i h k a)
    (λ (a : (eqb i 0 && may_scan s.cleaning c && not (scan_left sh.fields s.scan)) ≡ true). f (and_parts (eqb i 0) (may_scan s.cleaning c) (and_parts (eqb i 0 && may_scan s.cleaning c) _ a).0).1)
    (or_cases (scans s.scan c i) (eqb i 0 && may_scan s.cleaning c && not (scan_left sh.fields s.scan)) e)

-- the field that is loaded exists, and may be loaded
pub may-load : (sh : Shape) (s : SeatState) (c i : ℕ) → (nat_lt c sh.cells && nat_lt i sh.fields && may_read_field sh s c i) ≡ true → (c < sh.cells) × (i < sh.fields) × (may_read_field sh s c i ≡ true)
may-load sh s c i e =
    let a = and_parts (nat_lt c sh.cells && nat_lt i sh.fields) (may_read_field sh s c i) e in
    let b = and_parts (nat_lt c sh.cells) (nat_lt i sh.fields) a.0 in
    (ltb-true c sh.cells b.0, ltb-true i sh.fields b.1, a.1)

-- 12: debts of the card end
fresh_kept : (P : ℕ → Type 0) (o : Option ℕ) (card : ℕ) → IfSome o P → IfSome (fresh_off o card) P
fresh_kept P None card k = tt
fresh_kept P (Some c) card k = choose (λ o. IfSome o P) (eqb (card_of c) card) None (Some c) tt k

popped_kept : (P : ℕ → Type 0) (o : Option (ℕ × Bool)) (card : ℕ) → IfSome o (λ x. P x.0) → IfSome (popped_off o card) (λ x. P x.0)
popped_kept P None card k = tt
popped_kept P (Some x) card k = choose (λ (o : Option (ℕ × Bool)). IfSome o (λ y. P y.0)) (x.1 && eqb (card_of x.0) card) None (Some x) tt k

-- 13: a new cleaning has no cell left
new_left : (b : Bool) (card c : ℕ) (o : Option Cleaning) (P : Type 0) → (left_in o c ≡ true → P) → left_in (cond b (Some (record { card = card; known = false; left = 0; published = 0; redirty = false })) o) c ≡ true → P
new_left true card c o P k e = in_set-none (block_of_card card) c P e
new_left false card c o P k e = k e

new_scan : (b : Bool) (card c : ℕ) (o : Option Cleaning) (P : Type 0) → (may_scan o c ≡ true → P) → may_scan (cond b (Some (record { card = card; known = false; left = 0; published = 0; redirty = false })) o) c ≡ true → P
new_scan true card c o P k e = in_set-none (block_of_card card) c P (scan-left (Some (record { card = card; known = false; left = 0; published = 0; redirty = false })) c e)
new_scan false card c o P k e = k e

-- the cells that come into hand pass the test
abbrev pub ComesMarked : (ℕ → Bool) → Step → ℕ → Type 0
ComesMarked m (Pop p) old = m (cell_of old) ≡ true
ComesMarked m (SetMark c) old = m c ≡ true
ComesMarked m (ReadMarks b) old = (x : ℕ) → b ≡ x / 64 → has_bit old (x % 64) ≡ true → m x ≡ true
ComesMarked m step old = Unit {0}

pub marked-after : (sh : Shape) (w : Words) (seats : List SeatState) (s : SeatState) (step : Step) (old : ℕ) (m : ℕ → Bool) → HandMarked sh.fields m s → AllTrue (parts sh w seats s step) → ComesMarked m step old → HandMarked sh.fields m (seat_after sh s step old)
marked-after sh w seats s (Push p c) old m k ok f =
    record {
      popped = choose (λ (o : Option (ℕ × Bool)). IfSome o (λ x. IsTrue (m x.0))) (is_the s.fresh c) s.popped None k.popped tt;
      fresh = choose (λ o. IfSome o (λ x. IsTrue (m x))) (is_the s.fresh c) None s.fresh tt k.fresh;
      scan = k.scan;
      left = k.left;
    }
marked-after sh w seats s (Pop p) old m k ok f = record { popped = f; fresh = k.fresh; scan = k.scan; left = k.left }
marked-after sh w seats s (ReadAlloc b) old m k ok f =
    record {
      popped = popped_read (λ x. IsTrue (m x)) s.popped b old k.popped;
      fresh = k.fresh;
      scan = scan_read sh.fields (λ x. IsTrue (m x)) s.popped s.scan b old (some_more s.popped (λ x. IsTrue (m x.0)) _ (λ x h _ _. h) k.popped) k.scan;
      left = λ c e. k.left c (left-read s.cleaning b old c e);
    }
marked-after sh w seats s (ReadField c i) old m k ok f =
    let a = may-load sh s c i ok.0 in
    record {
      popped = k.popped;
      fresh = k.fresh;
      scan = λ e. field-cell sh (λ x. IsTrue (m x)) s c i a.1 k.scan (λ h. k.left c (scan-left s.cleaning c h)) a.2;
      left = λ x e. k.left x (left-without s.cleaning c x e);
    }
marked-after sh w seats s (SetMark c) old m k ok f =
    record { popped = k.popped; fresh = choose (λ o. IfSome o (λ x. IsTrue (m x))) (has_bit old (c % 64)) s.fresh (Some c) k.fresh f; scan = k.scan; left = k.left }
marked-after sh w seats s (DirtyCard card) old m k ok f =
    record {
      popped = popped_kept (λ x. IsTrue (m x)) s.popped card k.popped;
      fresh = fresh_kept (λ x. IsTrue (m x)) s.fresh card k.fresh;
      scan = k.scan;
      left = λ c e. k.left c (sym (left-dirtied s.cleaning card c) ∙ e);
    }
marked-after sh w seats s (ClearCard card) old m k ok f =
    record { popped = k.popped; fresh = k.fresh; scan = k.scan; left = λ c e. new_left (eqb old 1) card c s.cleaning _ (k.left c) e }
marked-after sh w seats s (ReadMarks b) old m k ok f =
    record {
      popped = k.popped;
      fresh = k.fresh;
      scan = k.scan;
      left = λ c e. ⊎_elim (λ h. k.left c h) (λ h. f c h.0 h.1) (left-known s.cleaning b old c e);
    }
marked-after sh w seats s step old m k ok f = record { popped = k.popped; fresh = k.fresh; scan = k.scan; left = k.left }

-- cells of the word that is read pass the test
abbrev pub ComesPublished : (ℕ → Bool) → Step → ℕ → Type 0
ComesPublished a (ReadAlloc b) old = (x : ℕ) → b ≡ x / 64 → has_bit old (x % 64) ≡ true → a x ≡ true
ComesPublished a step old = Unit {0}

each_some : {A : Type 0} (o : Option A) (P : A → Type 0) → ((x : A) → P x) → IfSome o P
each_some None P f = tt
each_some (Some x) P f = f x

pub published-after : (sh : Shape) (w : Words) (seats : List SeatState) (s : SeatState) (step : Step) (old : ℕ) (a : ℕ → Bool) → HandPublished sh.fields a s → AllTrue (parts sh w seats s step) → ComesPublished a step old
    → HandPublished sh.fields a (seat_after sh s step old)
published-after sh w seats s (ReadAlloc b) old a k ok f =
    record {
      scan = scan_read sh.fields (λ x. IsTrue (a x)) s.popped s.scan b old (each_some s.popped _ (λ x e h. f x.0 (sym e) h)) k.scan;
      left = λ c e. ⊎_elim (λ h. k.left c h) (λ h. f c h.0 h.1) (scan-read s.cleaning b old c e);
    }
published-after sh w seats s (ReadField c i) old a k ok f =
    let r = may-load sh s c i ok.0 in
    record { scan = λ e. field-cell sh (λ x. IsTrue (a x)) s c i r.1 k.scan (k.left c) r.2; left = λ x e. k.left x (scan-without s.cleaning c x e) }
published-after sh w seats s (DirtyCard card) old a k ok f = record { scan = k.scan; left = λ c e. k.left c (sym (scan-dirtied s.cleaning card c) ∙ e) }
published-after sh w seats s (ClearCard card) old a k ok f = record { scan = k.scan; left = λ c e. new_scan (eqb old 1) card c s.cleaning _ (k.left c) e }
published-after sh w seats s (ReadMarks b) old a k ok f = record { scan = k.scan; left = λ c e. k.left c (scan-known s.cleaning b old c e) }
published-after sh w seats s step old a k ok f = record { scan = k.scan; left = k.left }

-- the cell that is loaded passes the test
abbrev pub ComesUsed : (ℕ → Bool) → Step → ℕ → Type 0
ComesUsed u (ReadField c i) old = IfSome (cell_named old) (λ x. IsTrue (u x))
ComesUsed u (ReadRoot section v) old = IfSome (cell_named old) (λ x. IsTrue (u x))
ComesUsed u (LoadSlot section k) old = IfSome (cell_named old) (λ x. IsTrue (u x))
ComesUsed u step old = Unit {0}

pub used-after : (sh : Shape) (s : SeatState) (step : Step) (old : ℕ) (u : ℕ → Bool) → HandUsed u s → ComesUsed u step old → HandUsed u (seat_after sh s step old)
used-after sh s (ReadField c i) old u k f = f
used-after sh s (ReadRoot section v) old u k f = f
used-after sh s (LoadSlot section j) old u k f = f
used-after sh s (SetMark c) old u k f = tt
used-after sh s step old u k f = k
