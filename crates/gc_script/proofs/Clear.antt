-- A line without a fault: what holds of it, and of the context after it.
use Rattle.std.proofs.Common.{◌≡◌, ℕ, ◌≤◌, ◌<◌, zero, suc, List, [], ◌∷◌, ◌++◌, length, refl, ap, sym, ◌∙◌, subst, cond, Bool, true, false, arith, ◌+◌}
use Rattle.std.proofs.lemmas.Bool.Decides.{nat_tests}
use Rattle.std.proofs.lemmas.List.{length-append}
use Rattle.std.specs.Prelude.{not, nat_le, nat_lt, Option, Some, None, is_none, unwrap_or, ◌&&◌, ◌||◌, ◌^◌}
use Rattle.plain_heap.specs.PlainStep.{IsInRange}
use Rattle.gc_script.specs.Statement.{Spoken, NewOf, LetOf, NilOf, SetOf, GetOf, CatOf, PutOf, SayOf, SumOf, CollectOf, Statement, Blank, Fields, Catalogue, Warehouse, Season, Repeat, End, Command, Wrong}
use Rattle.gc_script.specs.Earlier.{place, has_name, with_name}
use Rattle.gc_script.specs.Faults.{Fault, starts_section, unless_, cuts_repeat}
use Rattle.gc_script.specs.Context.{Context, context_after, closing, placed_in, large_in, knows_in, names_after, warehouses_after, seasons_after, uncut_fault_in, fault_in, IsClear, IsSane, operation_in}
use Rattle.std.specs.List.{position_or_len, position}

-- Places of elements.
pub or_end : (k n : ℕ) → k ≤ n → unwrap_or (cond (nat_lt k n) (Some k) None) n ≡ k
or_end k n h = grind (arith, nat_tests)

pub within : {X : Type 0} (p : X → Bool) (xs : List X) → position_or_len p xs ≤ length xs
within p [] = omega arith
within p (x ∷ xs) = by_head (p x) _ _ (within p xs)
  where
    by_head : (b : Bool) (k n : ℕ) → k ≤ n → cond (not b) (1 + k) 0 ≤ suc n
    by_head true k n h = omega arith
    by_head false k n h = omega arith

-- if the first element passes, by the position if there is one
pub end_by_position : {X : Type 0} (p : X → Bool) (xs : List X) (r : Option ℕ) (k : ℕ) → r ≡ position p xs → k ≡ unwrap_or r (length xs) → k ≡ position_or_len p xs
end_by_position p xs r k e f = f ∙ ap (λ (o : Option ℕ). unwrap_or o (length xs)) e ∙ or_end _ (length xs) (within p xs)

test_of : (t : Bool) (f : Fault) (others : Option Fault) → unless_ t f others ≡ None → t ≡ true
test_of true f others e = refl
test_of false f others e = cc

others_of : (t : Bool) (f : Fault) (others : Option Fault) → unless_ t f others ≡ None → others ≡ None
others_of true f others e = e
others_of false f others e = cc

uncut_of : (s : Statement) (o : Option (ℕ × ℕ)) (others : Option Fault) → cuts_repeat s o others ≡ None → starts_section s ≡ true → is_none o ≡ true
uncut_of s None others e h = refl
uncut_of s (Some opened) others e h = by_test (starts_section s) e h
  where
    by_test : (b : Bool) → cond b (Some (Rattle.gc_script.specs.Faults.RepeatOpen opened.0)) others ≡ None → b ≡ true → is_none (Some opened) ≡ true
    by_test true e h = cc
    by_test false e h = cc

rest_of : (s : Statement) (o : Option (ℕ × ℕ)) (others : Option Fault) → cuts_repeat s o others ≡ None → others ≡ None
rest_of s None others e = e
rest_of s (Some opened) others e = by_test (starts_section s) e
  where
    by_test : (b : Bool) → cond b (Some (Rattle.gc_script.specs.Faults.RepeatOpen opened.0)) others ≡ None → others ≡ None
    by_test true e = cc
    by_test false e = e

not_true : (b : Bool) → not b ≡ true → b ≡ false
not_true true e = cc
not_true false e = refl

at_most : (a b : ℕ) → nat_le a b ≡ true → a ≤ b
at_most a b e = grind (arith, nat_tests)

pub is_clear : (c : Context) (s : Statement) → fault_in c s ≡ None → IsClear c s
is_clear c s e =
    let a = rest_of s c.opened (uncut_fault_in c s) e in
    let b = others_of (placed_in c s) _ _ a in
    let d = others_of (not (large_in c s)) _ _ b in
    let f = others_of (knows_in c s) _ _ d in
    let g = others_of (nat_le (length (names_after c s)) 32) _ _ f in
    let h = others_of (nat_le (warehouses_after c s) 32) _ _ g in
    record {
      uncut = uncut_of s c.opened (uncut_fault_in c s) e;
      placed = test_of (placed_in c s) _ _ a;
      small = not_true (large_in c s) (test_of (not (large_in c s)) _ _ b);
      known = test_of (knows_in c s) _ _ d;
      names = at_most _ _ (test_of (nat_le (length (names_after c s)) 32) _ _ f);
      warehouses = at_most _ _ (test_of (nat_le (warehouses_after c s) 32) _ _ g);
      seasons = at_most _ _ (test_of (nat_le (seasons_after c s) 63) _ _ h);
    }

uncut : (s : Statement) (o : Option (ℕ × ℕ)) (others : Option Fault) → (starts_section s ≡ true → is_none o ≡ true) → cuts_repeat s o others ≡ others
uncut s None others h = refl
uncut s (Some opened) others h = by_test (starts_section s) h
  where
    by_test : (b : Bool) → (b ≡ true → false ≡ true) → cond b (Some (Rattle.gc_script.specs.Faults.RepeatOpen opened.0)) others ≡ others
    by_test true h = let never = h refl in cc
    by_test false h = refl

passed : (t : Bool) (f : Fault) (others : Option Fault) → t ≡ true → others ≡ None → unless_ t f others ≡ None
passed t f others p q = subst (λ (b : Bool). unless_ b f others ≡ None) (sym p) q

within_most : (a b : ℕ) → a ≤ b → nat_le a b ≡ true
within_most a b h = grind (arith, nat_tests)

-- a clear line has no fault
pub no_fault : (c : Context) (s : Statement) → IsClear c s → fault_in c s ≡ None
no_fault c s h =
    uncut s c.opened (uncut_fault_in c s) h.uncut
    ∙ passed (placed_in c s) _ _ h.placed
    (passed (not (large_in c s)) _ _ (ap not h.small)
    (passed (knows_in c s) _ _ h.known
    (passed (nat_le (length (names_after c s)) 32) _ _ (within_most _ _ h.names)
    (passed (nat_le (warehouses_after c s) 32) _ _ (within_most _ _ h.warehouses)
    (passed (nat_le (seasons_after c s) 63) _ _ (within_most _ _ h.seasons) refl)))))

-- the catalogue's names, as a warehouse begins, are few
few_closing : (o : Option ℕ) (names closed : List (List ℕ)) → length names ≤ 32 → length closed ≤ 32 → length (closing o names closed) ≤ 32
few_closing None names closed h k = k
few_closing (Some zero) names closed h k = h
few_closing (Some (suc w)) names closed h k = k

not_past : (n : ℕ) → nat_lt 16 n ≡ false → n ≤ 16
not_past n e = grind (arith, nat_tests)

-- the context stays sane
pub sane_step : (c : Context) (s : Statement) → IsSane c → IsClear c s → IsSane (context_after c s)
sane_step c Blank h k = record { names = h.names; catalogue = h.catalogue; warehouses = h.warehouses; seasons = h.seasons; fields = h.fields }
sane_step c (Fields n) h k = record { names = h.names; catalogue = h.catalogue; warehouses = h.warehouses; seasons = h.seasons; fields = not_past n k.small }
sane_step c Catalogue h k = record { names = k.names; catalogue = h.catalogue; warehouses = h.warehouses; seasons = k.seasons; fields = h.fields }
sane_step c Warehouse h k = record { names = k.names; catalogue = few_closing c.section c.names c.catalogue h.names h.catalogue; warehouses = k.warehouses; seasons = k.seasons; fields = h.fields }
sane_step c Season h k = record { names = h.names; catalogue = h.catalogue; warehouses = h.warehouses; seasons = k.seasons; fields = h.fields }
sane_step c (Repeat n) h k = record { names = h.names; catalogue = h.catalogue; warehouses = h.warehouses; seasons = h.seasons; fields = h.fields }
sane_step c End h k = record { names = h.names; catalogue = h.catalogue; warehouses = h.warehouses; seasons = h.seasons; fields = h.fields }
sane_step c (Command spoken) h k = record { names = k.names; catalogue = h.catalogue; warehouses = h.warehouses; seasons = h.seasons; fields = h.fields }
sane_step c Wrong h k = record { names = h.names; catalogue = h.catalogue; warehouses = h.warehouses; seasons = h.seasons; fields = h.fields }

assigned_place : (names : List (List ℕ)) (v : List ℕ) → length (with_name (Some v) names) ≤ 32 → place names v < 32
assigned_place names v few = by_test (nat_lt (place names v) (length names)) refl few
  where
    end : place names v ≤ length names
    end = within (λ (other : List ℕ). Rattle.std.specs.Str.bytes_eq other v) names

    by_test : (b : Bool) → nat_lt (place names v) (length names) ≡ b → length (cond b names (names ++ v ∷ [])) ≤ 32 → place names v < 32
    by_test true e h = grind (arith, nat_tests)
    by_test false e h = let longer = length-append names (v ∷ []) in omega (arith, end)

known_place : (names : List (List ℕ)) (v : List ℕ) → has_name v names ≡ true → length names ≤ 32 → place names v < 32
known_place names v e few = grind (arith, nat_tests)

pub left : (a b : Bool) → (a && b) ≡ true → a ≡ true
left true b e = refl
left false b e = e

pub right : (a b : Bool) → (a && b) ≡ true → b ≡ true
right true b e = e
right false b e = cc

below : (fields i : ℕ) → nat_le fields i ≡ false → i < fields
below fields i e = grind (arith, nat_tests)

small : (b n : ℕ) → nat_lt b n ≡ false → n ≤ b
small b n e = grind (arith, nat_tests)

pub or_left : (a b : Bool) → (a || b) ≡ false → a ≡ false
or_left true b e = e
or_left false b e = refl

pub or_right : (a b : Bool) → (a || b) ≡ false → b ≡ false
or_right true b e = cc
or_right false b e = e

word : (n : ℕ) → nat_lt 4294967295 n ≡ false → n < 2 ^ 32
word n e = let few = small 4294967295 n e in omega arith

-- a command's operation is in range
pub in_range : (c : Context) (s : Spoken) → IsSane c → IsClear c (Command s) → IsInRange (unwrap_or c.fields 0) (operation_in c s)
in_range c (NewOf v n) h k = (assigned_place c.names v k.names, word n k.small)
in_range c (LetOf v w) h k = (assigned_place c.names v k.names, known_place c.names w (left (has_name w c.names) true (left _ true k.known)) h.names)
in_range c (NilOf v) h k = assigned_place c.names v k.names
in_range c (SetOf v i w) h k =
    let both : (has_name v c.names && (has_name w c.names && true)) ≡ true = left _ true k.known in
    (known_place c.names v (left (has_name v c.names) _ both) h.names, below _ i k.small, known_place c.names w (left (has_name w c.names) true (right (has_name v c.names) _ both)) h.names)
in_range c (GetOf v w i) h k = (assigned_place c.names v k.names, known_place c.names w (left (has_name w c.names) true (left _ true k.known)) h.names, below _ i k.small)
in_range c (CatOf v name) h k = (assigned_place c.names v k.names, known_place c.catalogue name (left (has_name name c.catalogue) true k.known) h.catalogue)
in_range c (PutOf v n) h k = (known_place c.names v (left (has_name v c.names) true (left _ true k.known)) h.names, word n k.small)
in_range c (SayOf label v) h k = known_place c.names v (left (has_name v c.names) true (left _ true k.known)) h.names
in_range c (SumOf label v i limit) h k =
    (known_place c.names v (left (has_name v c.names) true (left _ true k.known)) h.names, below _ i (or_left (nat_le (unwrap_or c.fields 0) i) _ k.small), small 65536 limit (or_right (nat_le (unwrap_or c.fields 0) i) _ k.small))
in_range c CollectOf h k = tt
