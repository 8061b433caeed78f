-- The rule of the world and the rule on the numbers of seats say the same.
use Rattle.std.proofs.Common.{ℕ, ◌≡◌, ◌+◌, ◌*◌, ◌<◌, ◌≤◌, suc, List, [], ◌∷◌, get_or, length, arith, refl, sym, ap, ◌∙◌, subst, Bool, true, false, ◌||◌, ⊎_elim}
use Rattle.std.specs.Prelude.{IsTrue, IsFalse}
use Rattle.std.specs.List.{All, count_by, list_any}
use Rattle.std.proofs.lemmas.Bool.{cases_Bool, false≢true, or_cases}
use Rattle.std.proofs.lemmas.List.{length-map, get_or-map}
use Rattle.std.proofs.lemmas.List.Elements.{All-map}
use Rattle.std.proofs.lemmas.List.Sums.{get_or-le-sum_by}
use Rattle.mark_core.specs.Bits.{flag_where, flag}
use Rattle.mark_core.specs.Views.{Standing, standings, standing_of, some_knows}
use Rattle.mark_core.specs.Rules.WorldRules.{World, NoneActive, NoneAdmitted, HelpsOnly, is_in_world, is_raised, is_helping, is_opened}
use Rattle.mark_core.specs.Strong.{IsStrongSeat}
use Rattle.mark_core.proofs.Count.CountMoves.{bit, bit-below, bit-zero, count-cons, count-none}
use Rattle.mark_core.proofs.World.WorldMoves.{nowhere, Fits, census-fits}
use Rattle.mark_core.proofs.World.WorldNumbers.{Numbers}
use Rattle.mark_core.specs.declared.kinds.Shape.{Shape}
use Rattle.mark_core.specs.declared.seat.SeatState.{SeatState}

any_bit : {X : Type 0} (f : X → Bool) (xs : List X) → count_by f xs ≤ 1 → bit (list_any f xs) ≡ count_by f xs
any_bit f [] h = refl
any_bit f (x ∷ xs) h =
    let c = count-cons f x xs in
    ⊎_elim
    (λ (e : f x ≡ true).
    let one : count_by f (x ∷ xs) ≡ 1 = omega (arith, c, ap bit e, h) in
    ap (λ (b : Bool). bit (b || list_any f xs)) e ∙ sym one)
    (λ (e : f x ≡ false).
    let rest : count_by f (x ∷ xs) ≡ count_by f xs = omega (arith, c, ap bit e) in
    ap (λ (b : Bool). bit (b || list_any f xs)) e ∙ (any_bit f xs (omega (arith, rest, h)) ∙ sym rest))
    (cases_Bool (f x))

-- if some pass, one does
pub some-passes : {X : Type 0} (f : X → Bool) (xs : List X) → 0 < count_by f xs → (k : ℕ) × (k < length xs) × ((d : X) → f (get_or xs k d) ≡ true)
some-passes f [] h = absurd (omega (arith, h))
some-passes f (x ∷ xs) h =
    let c = count-cons f x xs in
    ⊎_elim
    (λ (e : f x ≡ true). (0, omega arith, λ d. e))
    (λ (e : f x ≡ false). let r = some-passes f xs (omega (arith, c, h, ap bit e)) in (suc r.0, omega (arith, r.1), r.2))
    (cases_Bool (f x))

pub any-passes : {X : Type 0} (f : X → Bool) (xs : List X) → list_any f xs ≡ true → 0 < count_by f xs
any-passes f [] e = absurd (false≢true e)
any-passes f (x ∷ xs) e =
    let c = count-cons f x xs in
    ⊎_elim
    (λ (a : f x ≡ true). omega (arith, c, ap bit a))
    (λ (a : list_any f xs ≡ true). omega (arith, c, any-passes f xs a))
    (or_cases (f x) (list_any f xs) e)

pub passes-any : {X : Type 0} (f : X → Bool) (xs : List X) → 0 < count_by f xs → list_any f xs ≡ true
passes-any f [] h = absurd (omega (arith, h))
passes-any f (x ∷ xs) h =
    let c = count-cons f x xs in
    ⊎_elim
    (λ (e : f x ≡ true). ap (λ (b : Bool). b || list_any f xs) e)
    (λ (e : f x ≡ false). ap (λ (b : Bool). b || list_any f xs) e ∙ passes-any f xs (omega (arith, c, h, ap bit e)))
    (cases_Bool (f x))

-- one that passes is counted
pub passes-counted : {X : Type 0} (f : X → Bool) (xs : List X) (k : ℕ) (d : X) → k < length xs → f (get_or xs k d) ≡ true → 0 < count_by f xs
passes-counted f xs k d h e = omega (arith, get_or-le-sum_by (λ x. bit (f x)) xs k d h, ap bit e)

-- if none is counted, none passes
none_passes : {X : Type 0} (f : X → Bool) (xs : List X) → count_by f xs ≡ 0 → All (λ x. f x ≡ false) xs
none_passes f xs e k d h = bit-zero (f (get_or xs k d)) (omega (arith, get_or-le-sum_by (λ x. bit (f x)) xs k d h, e))

flag_bit : (b : Bool) → flag_where b ≡ flag * bit b
flag_bit true = refl
flag_bit false = refl

pub implied : (a b : Bool) → (a ≡ true → b ≡ true) → bit a ≤ bit b
implied true b h = rw (h refl) (omega arith)
implied false b h = omega arith

implies : (a b : Bool) → bit a ≤ bit b → a ≡ true → b ≡ true
implies true true h e = refl
implies true false h e = absurd (omega arith)
implies false b h e = absurd (false≢true e)

opened_bits : (o l k : Bool) → (o ≡ true → (k ≡ true) × (l ≡ false)) → (l ≡ true → k ≡ true) → bit o + bit l ≤ bit k
opened_bits true l k f g = rw ((f refl).0, (f refl).1) (omega arith)
opened_bits false true k f g = rw (g refl) (omega arith)
opened_bits false false k f g = omega arith

role_bits : (c r a : Bool) → (r ≡ true → c ≡ false) → (a ≡ true → (c ≡ false) × (r ≡ false)) → bit c + bit r + bit a ≤ 1
role_bits c r true f g = rw ((g refl).0, (g refl).1) (omega arith)
role_bits c true false f g = rw (f refl) (omega arith)
role_bits true false false f g = omega arith
role_bits false false false f g = omega arith

-- a fact of each standing, at that of seat i
pub at-standing : (P : Standing → Type 0) (seats : List SeatState) (i : ℕ) (d : SeatState) → i < length seats → All P (standings seats) → P (standing_of (get_or seats i d))
at-standing P seats i d h a = subst P (get_or-map standing_of seats i d (standing_of d) h) (a i (standing_of d) (rw length-map h))

all_fit : (sh : Shape) (world help : ℕ) (seats : List SeatState) → World sh world help (standings seats) seats → All (IsStrongSeat sh) seats → All Fits (standings seats)
all_fit sh world help seats w k =
    All-map Fits standing_of seats
    (λ i d h.
    let s : SeatState = get_or seats i d in
    let strong : IsStrongSeat sh s = k i d h in
    let opened = at-standing (λ (x : Standing). IsTrue x.opened → IsTrue x.knows × IsFalse x.alone) seats i d h w.opened_knows in
    let active = at-standing (λ (x : Standing). IsTrue x.active → IsTrue x.counted) seats i d h w.active_counted in
    let helps = at-standing HelpsOnly seats i d h w.admitted_helps in
    record {
      opened_or_alone = opened_bits s.opened s.alone s.knows opened strong.alone_knows;
      knows_raised = implied s.knows s.raised strong.knows_is_raised;
      active_counted = implied s.active s.counted active;
      admitted_helps = implied s.admitted s.helping (λ e. (helps e).0);
      one_role = role_bits s.counted s.raised s.admitted strong.raised_not_counted (λ e. ((helps e).1, (helps e).2));
    })

-- the rule of the world, read as numbers
pub numbers-of : (sh : Shape) (world help : ℕ) (seats : List SeatState) → World sh world help (standings seats) seats → All (IsStrongSeat sh) seats → Numbers world help (standings seats)
numbers-of sh world help seats w k =
    let ss : List Standing = standings seats in
    let fits = all_fit sh world help seats w k in
    let few = census-fits ss fits in
    let raised = any_bit is_raised ss w.one_raised in
    let opened = any_bit is_opened ss (omega (arith, few.opened_or_alone, few.knows_raised, w.one_raised)) in
    record {
      fits = fits;
      tally =
          record {
            world_word = omega (arith, w.world_word, flag_bit (list_any is_raised ss), raised);
            one_raised = w.one_raised;
            help_word = omega (arith, w.help_word, flag_bit (list_any is_opened ss), opened);
            admitted_stopped = λ h.
                let one = some-passes (λ (x : Standing). x.admitted) ss h in
                any-passes (λ (x : Standing). x.knows) ss (w.admitted_stopped one.0 nowhere one.1 (one.2 nowhere));
            knows_stopped = λ h.
                let one = some-passes (λ (x : Standing). x.knows) ss h in
                count-none (λ (x : Standing). x.active) ss (w.knows_stopped one.0 nowhere one.1 (one.2 nowhere));
            alone_unhelped = λ h.
                let one = some-passes (λ (x : Standing). x.alone) ss h in
                count-none (λ (x : Standing). x.admitted) ss (w.alone_unhelped one.0 nowhere one.1 (one.2 nowhere));
          };
    }

-- the rule of the world in terms of the standings only, and what is true of each besides
pub record StandsRight (world help : ℕ) (ss : List Standing) : Type 0 where
  pub world_word : world ≡ count_by is_in_world ss + flag_where (list_any is_raised ss)
  pub one_raised : count_by is_raised ss ≤ 1
  pub help_word : help ≡ count_by is_helping ss + flag_where (list_any is_opened ss)
  pub opened_knows : All (λ (s : Standing). IsTrue s.opened → IsTrue s.knows × IsFalse s.alone) ss
  pub active_counted : All (λ (s : Standing). IsTrue s.active → IsTrue s.counted) ss
  pub admitted_helps : All HelpsOnly ss
  pub admitted_stopped : All (λ (s : Standing). IsTrue s.admitted → IsTrue (some_knows ss)) ss
  pub knows_stopped : All (λ (s : Standing). IsTrue s.knows → NoneActive ss) ss
  pub alone_unhelped : All (λ (s : Standing). IsTrue s.alone → NoneAdmitted ss) ss
  pub knows_is_raised : All (λ (s : Standing). IsTrue s.knows → IsTrue s.raised) ss
  pub raised_not_counted : All (λ (s : Standing). IsTrue s.raised → IsFalse s.counted) ss
  pub alone_knows : All (λ (s : Standing). IsTrue s.alone → IsTrue s.knows) ss

bits_opened : (o l k : Bool) → bit o + bit l ≤ bit k → o ≡ true → (k ≡ true) × (l ≡ false)
bits_opened true true k h e = absurd (omega (arith, h, bit-below k))
bits_opened true false true h e = (refl, refl)
bits_opened true false false h e = absurd (omega arith)
bits_opened false l k h e = absurd (false≢true e)

bits_role : (c r a : Bool) → bit c + bit r + bit a ≤ 1 → a ≡ true → (c ≡ false) × (r ≡ false)
bits_role true r true h e = absurd (omega arith)
bits_role false true true h e = absurd (omega arith)
bits_role false false true h e = (refl, refl)
bits_role c r false h e = absurd (false≢true e)

bits_raised : (c r a : Bool) → bit c + bit r + bit a ≤ 1 → r ≡ true → c ≡ false
bits_raised true true a h e = absurd (omega arith)
bits_raised false true a h e = refl
bits_raised c false a h e = absurd (false≢true e)

-- the numbers, read as the rule of the world
pub right-from : (world help : ℕ) (ss : List Standing) → Numbers world help ss → StandsRight world help ss
right-from world help ss k =
    let t = k.tally in
    let few = census-fits ss k.fits in
    let raised = any_bit is_raised ss t.one_raised in
    let opened = any_bit is_opened ss (omega (arith, few.opened_or_alone, few.knows_raised, t.one_raised)) in
    record {
      world_word = omega (arith, t.world_word, flag_bit (list_any is_raised ss), raised);
      one_raised = t.one_raised;
      help_word = omega (arith, t.help_word, flag_bit (list_any is_opened ss), opened);
      opened_knows = λ i d h. let f = k.fits i d h in bits_opened (get_or ss i d).opened (get_or ss i d).alone (get_or ss i d).knows f.opened_or_alone;
      active_counted = λ i d h. let f = k.fits i d h in implies (get_or ss i d).active (get_or ss i d).counted f.active_counted;
      admitted_helps =
          λ i d h e.
          let f = k.fits i d h in
          let x : Standing = get_or ss i d in
          let role = bits_role x.counted x.raised x.admitted f.one_role e in
          (implies x.admitted x.helping f.admitted_helps e, role.0, role.1);
      admitted_stopped = λ i d h e. passes-any (λ (x : Standing). x.knows) ss (t.admitted_stopped (passes-counted (λ (x : Standing). x.admitted) ss i d h e));
      knows_stopped = λ i d h e. none_passes (λ (x : Standing). x.active) ss (t.knows_stopped (passes-counted (λ (x : Standing). x.knows) ss i d h e));
      alone_unhelped = λ i d h e. none_passes (λ (x : Standing). x.admitted) ss (t.alone_unhelped (passes-counted (λ (x : Standing). x.alone) ss i d h e));
      knows_is_raised = λ i d h. let f = k.fits i d h in implies (get_or ss i d).knows (get_or ss i d).raised f.knows_raised;
      raised_not_counted = λ i d h. let f = k.fits i d h in bits_raised (get_or ss i d).counted (get_or ss i d).raised (get_or ss i d).admitted f.one_role;
      alone_knows = λ i d h. let f = k.fits i d h in let x : Standing = get_or ss i d in implies x.alone x.knows (omega (arith, f.opened_or_alone));
    }
