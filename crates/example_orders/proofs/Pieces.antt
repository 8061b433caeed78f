-- Entries of the threads' logs, and how what was done joins what is done next.
use Rattle.std.proofs.Common.{ℕ, ◌≡◌, ◌<◌, ◌+◌, ◌==◌, ◌∙◌, List, [], ◌∷◌, ◌++◌, ap, arith, not, refl, Bool, true, Option, None, Some}
use Rattle.std.specs.Prelude.{if◌then◌else◌}
use Rattle.std.proofs.lemmas.Bool.{and_from, and_parts, eq-eqb, false≢true, ne_eqb, not-true}
use Rattle.std.proofs.Math.Nat.{mod-mod}
use Rattle.mark_core.specs.Bits.{reference_in}
use Rattle.mark_core.specs.declared.kinds.Step.{Step}
use Rattle.mark_core.specs.declared.kinds.Step.TheVariants.{ExchangeField, ExchangeValue, HoldRoot, ReadCat, ReadOwn, ReadValue, StoreField, StoreRoot, StoreValue}
use Rattle.gc_table.specs.Entries.{event}
use Rattle.gc_table.specs.Log.{all_steps}
use Rattle.gc_table.specs.declared.view.Entry.{Entry}
use Rattle.heap_laws.specs.Lent.{is_lent, lent_after}
use Rattle.seat_turns.specs.Sharing.{spares_heap}
use Rattle.example_orders.specs.Orders.{FieldThenValue, ReadsField, ReadsValue, ValueThenField, all_fill, fills, is_root}
use Rattle.example_orders.specs.Threads.{FindsRoot, StoresNone, spares_objects, spares_root}
use Rattle.example_orders.specs.Variables.{Variables, after_log, after_step, all_nil, word_after}
use Rattle.example_orders.proofs.Happening.{log_join}

-- One thing after the other.
pub fill_join : (k : Variables) (xs ys : List Entry) → all_fill k xs ≡ true → all_fill (after_log k xs) ys ≡ true → all_fill k (xs ++ ys) ≡ true
fill_join k [] ys s t = t
fill_join k (x ∷ xs) ys s t =
    let p = and_parts (fills k x.step) (all_fill (after_step k x.step x.found) xs) s in
    and_from (fills k x.step) (all_fill (after_step k x.step x.found) (xs ++ ys)) p.0 (fill_join (after_step k x.step x.found) xs ys p.1 t)

pub all_more : (P Q : Step → Bool) → ((step : Step) → P step ≡ true → Q step ≡ true) → (xs : List Entry) → all_steps P xs ≡ true → all_steps Q xs ≡ true
all_more P Q h [] a = refl
all_more P Q h (x ∷ xs) a = let p = and_parts (P x.step) (all_steps P xs) a in and_from (Q x.step) (all_steps Q xs) (h x.step p.0) (all_more P Q h xs p.1)

-- what no plain heap sees leaves variable 0, and all values and fields
spared_root : (step : Step) → spares_heap step ≡ true → spares_root step ≡ true
spared_root (StoreField v i x) e = absurd (false≢true e)
spared_root (StoreValue v n) e = absurd (false≢true e)
spared_root (StoreRoot v r) e = absurd (false≢true e)
spared_root (HoldRoot v r) e = absurd (false≢true e)
spared_root (ExchangeField v i x y) e = absurd (false≢true e)
spared_root (ExchangeValue v m n) e = absurd (false≢true e)
spared_root step e = refl

pub quiet-spares : (es : List Entry) → all_steps spares_heap es ≡ true → all_steps spares_root es ≡ true
quiet-spares es a = all_more spares_heap spares_root spared_root es a

-- nor does it store in an object
spared_objects : (step : Step) → spares_root step ≡ true → spares_objects step ≡ true
spared_objects (StoreField v i x) e = absurd (false≢true e)
spared_objects (StoreValue v n) e = absurd (false≢true e)
spared_objects (ExchangeField v i x y) e = absurd (false≢true e)
spared_objects (ExchangeValue v m n) e = absurd (false≢true e)
spared_objects step e = refl

pub stores-none : (es : List Entry) → all_steps spares_root es ≡ true → StoresNone es
stores-none es a = all_more spares_root spares_objects spared_objects es a

pub steps-join : (P : Step → Bool) (xs ys : List Entry) → all_steps P xs ≡ true → all_steps P ys ≡ true → all_steps P (xs ++ ys) ≡ true
steps-join P [] ys p q = q
steps-join P (x ∷ xs) ys p q = let r = and_parts (P x.step) (all_steps P xs) p in and_from (P x.step) (all_steps P (xs ++ ys)) r.0 (steps-join P xs ys r.1 q)

-- What such steps leave.
spared_fills : (k : Variables) (step : Step) → spares_objects step ≡ true → fills k step ≡ true
spared_fills k (StoreField v i x) e = absurd (false≢true e)
spared_fills k (StoreValue v n) e = absurd (false≢true e)
spared_fills k (ExchangeField v i x y) e = absurd (false≢true e)
spared_fills k (ExchangeValue v m n) e = absurd (false≢true e)
spared_fills k step e = refl

other_lent : (v r : ℕ) (loaded : Option ℕ) (b : Bool) → not (v == 0) ≡ true → (if v == 0 then is_lent loaded r else b) ≡ b
other_lent v r loaded b e = ap (λ (q : Bool). if q then is_lent loaded r else b) (not-true (v == 0) e)

spared_lent : (loaded : Option ℕ) (b : Bool) (step : Step) → spares_root step ≡ true → lent_after 0 loaded b step ≡ b
spared_lent loaded b (StoreRoot v r) e = other_lent v r loaded b e
spared_lent loaded b (HoldRoot v r) e = other_lent v r loaded b e
spared_lent loaded b step e = refl

other_word : (v r w : ℕ) → not (v == 0) ≡ true → (if v == 0 then reference_in r else w) ≡ w
other_word v r w e = ap (λ (q : Bool). if q then reference_in r else w) (not-true (v == 0) e)

spared_word : (w : ℕ) (step : Step) → spares_root step ≡ true → word_after 0 w step ≡ w
spared_word w (StoreRoot v r) e = other_word v r w e
spared_word w (HoldRoot v r) e = other_word v r w e
spared_word w step e = refl

pub none-fill : (k : Variables) (es : List Entry) → StoresNone es → all_fill k es ≡ true
none-fill k [] a = refl
none-fill k (x ∷ xs) a =
    let p = and_parts (spares_objects x.step) (all_steps spares_objects xs) a in
    and_from (fills k x.step) (all_fill (after_step k x.step x.found) xs) (spared_fills k x.step p.0) (none-fill (after_step k x.step x.found) xs p.1)

spared_lents : (k : Variables) (es : List Entry) → all_steps spares_root es ≡ true → (after_log k es).lent ≡ k.lent
spared_lents k [] a = refl
spared_lents k (x ∷ xs) a =
    let p = and_parts (spares_root x.step) (all_steps spares_root xs) a in
    spared_lents (after_step k x.step x.found) xs p.1 ∙ spared_lent k.loaded k.lent x.step p.0

spared_words : (k : Variables) (es : List Entry) → all_steps spares_root es ≡ true → (after_log k es).first ≡ k.first
spared_words k [] a = refl
spared_words k (x ∷ xs) a =
    let p = and_parts (spares_root x.step) (all_steps spares_root xs) a in
    spared_words (after_step k x.step x.found) xs p.1 ∙ spared_word k.first x.step p.0

-- such entries may follow
pub root-then : (cell : ℕ) (xs ys : List Entry) → all_steps spares_root ys ≡ true → FindsRoot cell xs → FindsRoot cell (xs ++ ys)
root-then cell xs ys a f =
    let k : Variables = after_log all_nil xs in
    let p = and_parts k.lent (k.first == cell + 1) f.root in
    let joined = log_join all_nil xs ys in
    record {
      none = steps-join spares_objects xs ys f.none (stores-none ys a);
      root =
          ap (λ (z : Variables). is_root z cell) joined
          ∙ and_from (after_log k ys).lent ((after_log k ys).first == cell + 1) (spared_lents k ys a ∙ p.0) (ap (λ (w : ℕ). w == cell + 1) (spared_words k ys a) ∙ p.1);
    }

-- The root is asked for, and found.
abbrev pub asking : ℕ → ℕ → List Entry
asking word old = event (ReadCat 0) word ∷ event (HoldRoot 0 (reference_in word)) old ∷ []

lent_word : (x : ℕ) → 0 < x → is_lent (if not (x == 0) then Some x else None) x ≡ true
lent_word x some = ap (λ (b : Bool). is_lent (if not b then Some x else None) x) (ne_eqb x 0 (λ e. omega (arith, e, some))) ∙ eq-eqb x x refl

asked : (k : Variables) (word old cell : ℕ) → reference_in word ≡ cell + 1 → is_root (after_log k (asking word old)) cell ≡ true
asked k word old cell is =
    let r : ℕ = reference_in word in
    and_from (is_lent (if not (r == 0) then Some r else None) r) (reference_in r == cell + 1) (lent_word r (omega (arith, is))) (eq-eqb (reference_in r) (cell + 1) (mod-mod word _ ∙ is))

pub root-asked : (word old cell : ℕ) (xs : List Entry) → all_steps spares_root xs ≡ true → reference_in word ≡ cell + 1 → FindsRoot cell (xs ++ asking word old)
root-asked word old cell xs a is =
    record {
      none = steps-join spares_objects xs (asking word old) (stores-none xs a) refl;
      root = ap (λ (z : Variables). is_root z cell) (log_join all_nil xs (asking word old)) ∙ asked (after_log all_nil xs) word old cell is;
    }

-- What was read stays read.
pub value-read : (cell n : ℕ) (xs : List Entry) → FindsRoot cell xs → ReadsValue xs (event (ReadValue cell) n) n
value-read cell n xs f = (cell, refl, f.root)

pub field-read : (cell found : ℕ) (some : Bool) (xs : List Entry) → some ≡ not (reference_in found == 0) → FindsRoot cell xs → ReadsField xs (event (ReadOwn cell 0) found) some
field-read cell found some xs is f = (cell, found, refl, f.root, is)

pub value-field : (cell n found : ℕ) (some : Bool) (xs rest : List Entry) → FindsRoot cell xs → all_steps spares_root rest ≡ true → some ≡ not (reference_in found == 0)
    → ValueThenField n some (xs ++ event (ReadValue cell) n ∷ event (ReadOwn cell 0) found ∷ rest) × StoresNone (xs ++ event (ReadValue cell) n ∷ event (ReadOwn cell 0) found ∷ rest)
value-field cell n found some xs rest f a is = (
  record {
    before = xs;
    first = event (ReadValue cell) n;
    between = [];
    second = event (ReadOwn cell 0) found;
    after = rest;
    is = refl;
    value = value-read cell n xs f;
    field = field-read cell found some (xs ++ event (ReadValue cell) n ∷ []) is (root-then cell xs (event (ReadValue cell) n ∷ []) refl f);
  },
  (root-then cell xs (event (ReadValue cell) n ∷ event (ReadOwn cell 0) found ∷ rest) a f).none,
)

pub field-value : (cell n found : ℕ) (some : Bool) (xs rest more : List Entry) → FindsRoot cell xs → all_steps spares_root rest ≡ true → all_steps spares_root more ≡ true → some ≡ not (reference_in found == 0)
    → FieldThenValue some n (xs ++ event (ReadOwn cell 0) found ∷ (rest ++ event (ReadValue cell) n ∷ more)) × StoresNone (xs ++ event (ReadOwn cell 0) found ∷ (rest ++ event (ReadValue cell) n ∷ more))
field-value cell n found some xs rest more f a b is = (
  record {
    before = xs;
    first = event (ReadOwn cell 0) found;
    between = rest;
    second = event (ReadValue cell) n;
    after = more;
    is = refl;
    field = field-read cell found some xs is f;
    value = value-read cell n (xs ++ event (ReadOwn cell 0) found ∷ rest) (root-then cell xs (event (ReadOwn cell 0) found ∷ rest) a f);
  },
  (root-then cell xs (event (ReadOwn cell 0) found ∷ (rest ++ event (ReadValue cell) n ∷ more)) (steps-join spares_root rest (event (ReadValue cell) n ∷ more) a b) f).none,
)
