-- Packets that are recycled, one after another.
use Rattle.std.proofs.Common.{ℕ, ◌≡◌, ◌<◌, ◌≤◌, ◌+◌, ◌*◌, ◌/◌, ◌%◌, inl, inr, List, [], ◌∷◌, ◌++◌, refl, sym, ap, ◌∙◌, subst, arith, ◌≢◌, cond, Bool, true, false, not, eqb-true, eq-eqb, ⊎_elim}
use Rattle.std.specs.Prelude.{◌&&◌, ◌||◌, ◌==◌, IsTrue}
use Rattle.std.proofs.lemmas.Bool.{and_from, and_parts, cases_lt, false≢true, false_from_ne_true, ne_eqb, not_from_false, or_cases, or_left, or_right}
use Rattle.mark_core.specs.Bits.{has_bit}
use Rattle.mark_core.proofs.Writing.CellBits.{no-bit}
use Rattle.mark_core.specs.Numbers.{deferred_pool_number, word_bits}
use Rattle.mark_core.specs.Seats.{work_in_hand}
use Rattle.mark_core.specs.declared.seat.SeatState.{SeatState}
use Rattle.mark_core.specs.declared.kinds.Step.{Step}
use Rattle.mark_core.specs.declared.kinds.Step.TheVariants.{Credit, Give, Look, ReadLength, StoreLength, Take}
use Rattle.gc_table.specs.declared.view.Entry.{Entry}
use Rattle.gc_table.specs.Log.{steps_of}
use Rattle.packet_pools.specs.Seeking.{deferred_pools, gets, gets_from, only_moves, shows_outside, some_event, was_got, was_got_from}
use Rattle.packet_pools.specs.Counts.{count_of}
use Rattle.packet_pools.proofs.Counting.{count-join}
use Rattle.gc_table.proofs.History.Log.{entry_of}
use Rattle.packet_pools.proofs.Searches.{all_move, either-way, moves-join, moves-steps, some-left, some-parts, some-right, was-missed-left, was-missed-right}
use Rattle.gc_table.specs.declared.view.View.{View}
use Rattle.tracer.specs.Hands.{IsIdle}
use Rattle.tracer.specs.Recycling.{gives, gives_to, is_settled, Recycles, was_moved}

moved-left : (p : ℕ) (xs ys : List Entry) → was_moved p xs ≡ true → was_moved p (xs ++ ys) ≡ true
moved-left p [] ys h = absurd (false≢true h)
moved-left p (x ∷ xs) ys h =
    ⊎_elim
    (λ e. let b = and_parts (gets_from deferred_pool_number p x.step x.found) (some_event (gives_to p) xs) e in or_left _ _ (and_from _ _ b.0 (some-left (gives_to p) xs ys b.1)))
    (λ e. or_right (gets_from deferred_pool_number p x.step x.found && some_event (gives_to p) (xs ++ ys)) _ (moved-left p xs ys e))
    (or_cases (gets_from deferred_pool_number p x.step x.found && some_event (gives_to p) xs) (was_moved p xs) h)

pub moved-right : (p : ℕ) (xs ys : List Entry) → was_moved p ys ≡ true → was_moved p (xs ++ ys) ≡ true
moved-right p [] ys h = h
moved-right p (x ∷ xs) ys h = or_right (gets_from deferred_pool_number p x.step x.found && some_event (gives_to p) (xs ++ ys)) _ (moved-right p xs ys h)

-- taken before, and given back after
pub moved-both : (p : ℕ) (xs ys : List Entry) → was_got_from deferred_pool_number p xs ≡ true → some_event (gives_to p) ys ≡ true → was_moved p (xs ++ ys) ≡ true
moved-both p [] ys g h = absurd (false≢true g)
moved-both p (x ∷ xs) ys g h =
    ⊎_elim
    (λ e. or_left _ _ (and_from _ _ e (some-right (gives_to p) xs ys h)))
    (λ e. or_right (gets_from deferred_pool_number p x.step x.found && some_event (gives_to p) (xs ++ ys)) _ (moved-both p xs ys e h))
    (or_cases (gets_from deferred_pool_number p x.step x.found) (was_got_from deferred_pool_number p xs) g)

settled-left : (p : ℕ) (xs ys : List Entry) → is_settled p xs ≡ true → is_settled p (xs ++ ys) ≡ true
settled-left p xs ys h = either-way _ _ _ _ (was-missed-left deferred_pool_number p xs ys) (moved-left p xs ys) h

pub settled-right : (p : ℕ) (xs ys : List Entry) → was_got p xs ≡ false → is_settled p ys ≡ true → is_settled p (xs ++ ys) ≡ true
settled-right p xs ys n h = either-way _ _ _ _ (was-missed-right deferred_pool_number p xs ys n) (moved-right p xs ys) h

-- one packet after others
pub recycles-join : (lo mid hi k l m : ℕ) (xs ys es : List Entry) → es ≡ xs ++ ys → lo ≤ mid → mid ≤ hi → k + l ≡ m → Recycles lo mid k xs → Recycles mid hi l ys → Recycles lo hi m es
recycles-join lo mid hi k l m xs ys es whole low high kl a b =
    record {
      all =
          λ p x y.
          subst (λ zs. IsTrue (is_settled p zs)) (sym whole)
          (⊎_elim
          (λ (e : p < mid). settled-left p xs ys (a.all p x e))
          (λ (e : mid ≤ p). settled-right p xs ys (false_from_ne_true (was_got p xs) (λ g. let r = (a.got p g).1 in absurd (omega (arith, e, r)))) (b.all p e y))
          (cases_lt p mid));
      got =
          λ p g.
          ⊎_elim
          (λ x. let r = a.got p x in let s = r.0 in let t = r.1 in (s, omega (arith, t, high)))
          (λ x. let r = b.got p x in let s = r.0 in (omega (arith, s, low), r.1))
          (some-parts (gets p) xs ys (ap (was_got p) (sym whole) ∙ g));
      once = λ p. subst (λ n. n ≤ 1) (sym (both p)) (⊎_elim (λ (e : p < mid). let x = a.once p in let y = b.none p (inl e) in omega (arith, x, y)) (λ (e : mid ≤ p). let x = a.none p (inr e) in let y = b.once p in omega (arith, x, y)) (cases_lt p mid));
      none =
          λ p o.
          both p
          ∙ ⊎_elim
          (λ (e : p < lo). let x = a.none p (inl e) in let y = b.none p (inl (omega (arith, e, low))) in omega (arith, x, y))
          (λ (e : hi ≤ p). let x = a.none p (inr (omega (arith, e, high))) in let y = b.none p (inr e) in omega (arith, x, y))
          o;
      count = ap (count_of gives) whole ∙ (count-join gives xs ys ∙ ((λ i. a.count i + b.count i) ∙ kl));
      moves = ap (only_moves deferred_pools) whole ∙ moves-join deferred_pools xs ys a.moves b.moves;
    }
  where
    both : (p : ℕ) → count_of (gives_to p) es ≡ count_of (gives_to p) xs + count_of (gives_to p) ys
    both p = ap (count_of (gives_to p)) whole ∙ count-join (gives_to p) xs ys

-- packet p was seen outside
pub recycles-outside : (p n : ℕ) (es : List Entry) → es ≡ entry_of (Look deferred_pool_number (p / word_bits)) n ∷ [] → has_bit n (p % word_bits) ≡ false → Recycles p (p + 1) 0 es
recycles-outside p n es whole clear =
    subst (Recycles p (p + 1) 0) (sym whole)
    (record {
      all =
          λ x a b.
          let same : p ≡ x = omega (arith, a, b) in
          subst (λ y. IsTrue (is_settled y (entry_of (Look deferred_pool_number (p / word_bits)) n ∷ []))) same
          (or_left _ _ (or_left _ _ (or_left (shows_outside deferred_pool_number p (Look deferred_pool_number (p / word_bits)) n) _ (and_from _ _ (eq-eqb (p / word_bits) (p / word_bits) refl) (not_from_false _ clear)))));
      got = λ x g. absurd (false≢true g);
      once = λ x. omega arith;
      none = λ x o. refl;
      count = refl;
      moves = refl;
    })

-- a look takes and gives none
pub recycles-look : (lo g n : ℕ) (es : List Entry) → es ≡ entry_of (Look deferred_pool_number g) n ∷ [] → Recycles lo lo 0 es
recycles-look lo g n es whole =
    subst (Recycles lo lo 0) (sym whole)
    (record {
      all = λ x a b. absurd (omega (arith, a, b));
      got = λ x h. absurd (false≢true h);
      once = λ x. omega arith;
      none = λ x o. refl;
      count = refl;
      moves = refl;
    })

-- a word that shows none
pub recycles-empty : (g hi n : ℕ) (es : List Entry) → hi ≤ word_bits * g + word_bits → n ≡ 0 → es ≡ entry_of (Look deferred_pool_number g) n ∷ [] → Recycles (word_bits * g) hi 0 es
recycles-empty g hi n es most nothing whole =
    subst (Recycles (word_bits * g) hi 0) (sym whole)
    (record {
      all =
          λ x a b.
          let here : g ≡ x / word_bits = omega (arith, a, b, most) in
          let clear : has_bit n (x % word_bits) ≡ false = ap (λ w. has_bit w (x % word_bits)) nothing ∙ no-bit (x % word_bits) in
          or_left _ _ (or_left _ _ (or_left (shows_outside deferred_pool_number x (Look deferred_pool_number g) n) _ (and_from _ _ (eq-eqb g (x / word_bits) here) (not_from_false _ clear))));
      got = λ x h. absurd (false≢true h);
      once = λ x. omega arith;
      none = λ x o. refl;
      count = refl;
      moves = refl;
    })

-- a seat that is idle is so while its record stays
pub idle-still : (v w : View) → w.shape ≡ v.shape → w.state ≡ v.state → IsIdle v → IsIdle w
idle-still v w shape same a =
    record {
      held = ap (λ (s : SeatState). s.held) same ∙ a.held;
      work = (λ i. work_in_hand (shape i).fields (same i)) ∙ a.work;
      block = ap (λ (s : SeatState). s.block) same ∙ a.block;
    }

-- the packets that some steps ask for
abbrev asks : ℕ → Step → Bool
asks p (Take q x) = x == p
asks p step = false

abbrev all_ask : ℕ → List Step → Bool
all_ask p [] = false
all_ask p (x ∷ xs) = asks p x || all_ask p xs

got-asks : (p : ℕ) (step : Step) (n : ℕ) → gets p step n ≡ true → asks p step ≡ true
got-asks p (Take q x) n g = (and_parts (x == p) (has_bit n (p % word_bits)) g).0
got-asks p step n g = absurd (false≢true g)

was-asked : (p : ℕ) (es : List Entry) → was_got p es ≡ true → all_ask p (steps_of es) ≡ true
was-asked p [] g = absurd (false≢true g)
was-asked p (e ∷ es) g = ⊎_elim (λ x. or_left _ _ (got-asks p e.step e.found x)) (λ x. or_right (asks p e.step) _ (was-asked p es x)) (or_cases (gets p e.step e.found) (was_got p es) g)

-- what is given, by the steps only
abbrev gives_step : ℕ → Step → Bool
gives_step p (Give q deferred) = (q == p) && not deferred
gives_step p step = false

abbrev gives_any : Step → Bool
gives_any (Give q deferred) = true
gives_any step = false

abbrev count_steps : (Step → Bool) → List Step → ℕ
count_steps f [] = 0
count_steps f (x ∷ xs) = cond (f x) 1 0 + count_steps f xs

same-step : (p : ℕ) (step : Step) (n : ℕ) → gives_to p step n ≡ gives_step p step
same-step p (Give q d) n = refl
same-step p step n = refl

same-any : (step : Step) (n : ℕ) → gives step n ≡ gives_any step
same-any (Give q d) n = refl
same-any step n = refl

count-to : (p : ℕ) (es : List Entry) → count_of (gives_to p) es ≡ count_steps (gives_step p) (steps_of es)
count-to p [] = refl
count-to p (e ∷ es) = λ i. cond (same-step p e.step e.found i) 1 0 + count-to p es i

count-any : (es : List Entry) → count_of gives es ≡ count_steps gives_any (steps_of es)
count-any [] = refl
count-any (e ∷ es) = λ i. cond (same-any e.step e.found i) 1 0 + count-any es i

event-to : (p : ℕ) (es : List Entry) → 0 < count_of (gives_to p) es → some_event (gives_to p) es ≡ true
event-to p [] l = absurd (omega (arith, l))
event-to p (e ∷ es) l = either (gives_to p e.step e.found) l (event-to p es)
  where
    either : (b : Bool) → 0 < cond b 1 0 + count_of (gives_to p) es → (0 < count_of (gives_to p) es → some_event (gives_to p) es ≡ true) → (b || some_event (gives_to p) es) ≡ true
    either true l f = refl
    either false l f = f (omega (arith, l))

-- it was given back
pub given-event : (p : ℕ) (b : Bool) (es : List Entry) → steps_of es ≡ StoreLength p ∷ Give p false ∷ (cond b (Credit ∷ []) []) → some_event (gives_to p) es ≡ true
given-event p b es steps =
    let rest : ℕ = count_steps (gives_step p) (cond b (Credit ∷ []) []) in
    let n : count_of (gives_to p) es ≡ 0 + (1 + rest) = count-to p es ∙ (ap (count_steps (gives_step p)) steps ∙ ap (λ (c : Bool). 0 + (cond (c && true) 1 0 + rest)) (eq-eqb p p refl)) in
    event-to p es (omega (arith, n))

pub steps-append : (xs ys : List Entry) → steps_of (xs ++ ys) ≡ steps_of xs ++ steps_of ys
steps-append [] ys = refl
steps-append (x ∷ xs) ys = ap (λ l. x.step ∷ l) (steps-append xs ys)

asked-one : (p x : ℕ) → ((p == x) || false) ≡ true → x ≡ p
asked-one p x h = ⊎_elim (λ e. sym (eqb-true p x e)) (λ e. absurd (false≢true e)) (or_cases (p == x) false h)

-- packet p was looked for, and lost
module _ (p g : ℕ) (es : List Entry) (steps : steps_of es ≡ Look deferred_pool_number g ∷ Take deferred_pool_number p ∷ []) where
  lost-got : (x : ℕ) → was_got x es ≡ true → (p ≤ x) × (x < p + 1)
  lost-got x e =
      let is : x ≡ p = asked-one p x (sym (ap (all_ask x) steps) ∙ was-asked x es e) in
      (omega (arith, is), omega (arith, is))

  pub recycles-lost : is_settled p es ≡ true → Recycles p (p + 1) 0 es
  recycles-lost settled =
      record {
        all = λ x a b. let same : p ≡ x = omega (arith, a, b) in subst (λ y. IsTrue (is_settled y es)) same settled;
        got = lost-got;
        once = λ x. (let z : count_of (gives_to x) es ≡ 0 = count-to x es ∙ ap (count_steps (gives_step x)) steps in omega (arith, z));
        none = λ x o. count-to x es ∙ ap (count_steps (gives_step x)) steps;
        count = count-any es ∙ ap (count_steps gives_any) steps;
        moves = moves-steps deferred_pools es ∙ ap (all_move deferred_pools) steps;
      }

-- it was moved
module _ (p g : ℕ) (b : Bool) (es : List Entry) (steps : steps_of es ≡ Look deferred_pool_number g ∷ Take deferred_pool_number p ∷ ReadLength p ∷ StoreLength p ∷ Give p false ∷ (cond b (Credit ∷ []) [])) where
  given-asks : (x : ℕ) (d : Bool) → all_ask x (Look deferred_pool_number g ∷ Take deferred_pool_number p ∷ ReadLength p ∷ StoreLength p ∷ Give p false ∷ (cond d (Credit ∷ []) [])) ≡ ((p == x) || false)
  given-asks x true = refl
  given-asks x false = refl

  moved-got : (x : ℕ) → was_got x es ≡ true → (p ≤ x) × (x < p + 1)
  moved-got x e =
      let is : x ≡ p = asked-one p x (sym (ap (all_ask x) steps ∙ given-asks x b) ∙ was-asked x es e) in
      (omega (arith, is), omega (arith, is))

  counted : (x : ℕ) (c d : Bool) → c ≡ ((p == x) && true) → count_steps (gives_step x) (Look deferred_pool_number g ∷ Take deferred_pool_number p ∷ ReadLength p ∷ StoreLength p ∷ Give p false ∷ (cond d (Credit ∷ []) [])) ≡ cond c 1 0
  counted x true true e = ap (λ (y : Bool). 0 + (0 + (0 + (0 + (cond y 1 0 + (0 + 0)))))) (sym e)
  counted x true false e = ap (λ (y : Bool). 0 + (0 + (0 + (0 + (cond y 1 0 + 0))))) (sym e)
  counted x false true e = ap (λ (y : Bool). 0 + (0 + (0 + (0 + (cond y 1 0 + (0 + 0)))))) (sym e)
  counted x false false e = ap (λ (y : Bool). 0 + (0 + (0 + (0 + (cond y 1 0 + 0))))) (sym e)

  pub count-moved : (x : ℕ) → count_of (gives_to x) es ≡ cond ((p == x) && true) 1 0
  count-moved x = count-to x es ∙ (ap (count_steps (gives_step x)) steps ∙ counted x ((p == x) && true) b refl)

  one-most : (c : Bool) → cond c 1 0 ≤ 1
  one-most true = omega arith
  one-most false = omega arith

  any-moved : (d : Bool) → count_steps gives_any (Look deferred_pool_number g ∷ Take deferred_pool_number p ∷ ReadLength p ∷ StoreLength p ∷ Give p false ∷ (cond d (Credit ∷ []) [])) ≡ 1
  any-moved true = refl
  any-moved false = refl

  all-moved : (d : Bool) → all_move deferred_pools (Look deferred_pool_number g ∷ Take deferred_pool_number p ∷ ReadLength p ∷ StoreLength p ∷ Give p false ∷ (cond d (Credit ∷ []) [])) ≡ true
  all-moved true = refl
  all-moved false = refl

  pub recycles-moved : is_settled p es ≡ true → Recycles p (p + 1) 1 es
  recycles-moved settled =
      record {
        all = λ x a b. let same : p ≡ x = omega (arith, a, b) in subst (λ y. IsTrue (is_settled y es)) same settled;
        got = moved-got;
        once = λ x. subst (λ n. n ≤ 1) (sym (count-moved x)) (one-most ((p == x) && true));
        none =
            λ x o.
            let apart : p ≢ x = λ e. ⊎_elim (λ (l : x < p). absurd (omega (arith, l, e))) (λ (l : p + 1 ≤ x). absurd (omega (arith, l, e))) o in
            count-moved x ∙ ap (λ (c : Bool). cond (c && true) 1 0) (ne_eqb p x apart);
        count = count-any es ∙ (ap (count_steps gives_any) steps ∙ any-moved b);
        moves = moves-steps deferred_pools es ∙ (ap (all_move deferred_pools) steps ∙ all-moved b);
      }
