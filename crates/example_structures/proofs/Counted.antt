-- What one change makes of a queue, a map, or a structure that is made.
use Rattle.std.proofs.Common.{ℕ, ◌≡◌, ◌+◌, ◌==◌, ◌&&◌, ◌||◌, ◌∙◌, ◌⊎◌, ⊎_elim, [], ◌∷◌, ◌++◌, ap, arith, not, refl, Bool, true, false, Some}
use Rattle.std.specs.Prelude.{if◌then◌else◌}
use Rattle.std.proofs.lemmas.Bool.{and_from, eq-eqb}
use Rattle.mark_core.specs.declared.kinds.Step.{Step}
use Rattle.mark_core.specs.declared.kinds.Step.TheVariants.{ExchangeField, StoreField}
use Rattle.shared_heap.specs.declared.mutator.SharedMutator.{SharedMutator}
use Rattle.example_structures.specs.Changes.{changes_of, count_of}
use Rattle.example_structures.specs.Making.{Lays, is_laid, is_not_laid}
use Rattle.example_structures.specs.Maps.{Renews, is_renewed, is_unlike}
use Rattle.example_structures.specs.Queues.{Moves, is_other, is_put, is_taking}
use Rattle.example_structures.proofs.Changed.{count-join}

-- one call after another
pub moves-join : (x y z : SharedMutator) (q a b c d : ℕ) → Moves q a b x y → Moves q c d y z → Moves q (a + c) (b + d) x z
moves-join x y z q a b c d k l =
    record {
      put = let one = k.put in let two = l.put in omega (arith, one, two);
      taken = let one = k.taken in let two = l.taken in omega (arith, one, two);
      others = l.others ∙ k.others;
    }

-- the first one did nothing that counts
pub moves-later : (x y z : SharedMutator) (q c d : ℕ) → changes_of y ≡ changes_of x → Moves q c d y z → Moves q c d x z
moves-later x y z q c d e l =
    record {
      put = l.put ∙ ap (λ n. n + c) (ap (count_of is_put) e);
      taken = l.taken ∙ ap (λ n. n + d) (ap (count_of (is_taking q)) e);
      others = l.others ∙ ap (count_of (is_other q)) e;
    }

-- the second one
pub moves-before : (x y z : SharedMutator) (q a b : ℕ) → Moves q a b x y → changes_of z ≡ changes_of y → Moves q a b x z
moves-before x y z q a b k e = record { put = ap (count_of is_put) e ∙ k.put; taken = ap (count_of (is_taking q)) e ∙ k.taken; others = ap (count_of (is_other q)) e ∙ k.others }

module _ (x y : SharedMutator) where
  -- one change more
  one_more : (P : Step → Bool → Bool) (step : Step) (won b : Bool) → P step won ≡ b → changes_of y ≡ changes_of x ++ record { step = step; won = won } ∷ [] → count_of P (changes_of y) ≡ count_of P (changes_of x) + (if b then 1 else 0)
  one_more P step won b is e =
      let all : count_of P (changes_of y) ≡ count_of P (changes_of x ++ record { step = step; won = won } ∷ []) = ap (count_of P) e in
      let joined = count-join P (changes_of x) (record { step = step; won = won } ∷ []) in
      let last : (if P step won then 1 else 0) ≡ (if b then 1 else 0) = ap {B = ℕ} (λ (c : Bool). if c then 1 else 0) is in
      omega (arith, all, joined, last)

  -- none
  none_more : (P : Step → Bool → Bool) → changes_of y ≡ changes_of x → count_of P (changes_of y) ≡ count_of P (changes_of x) + 0
  none_more P e = let same : count_of P (changes_of y) ≡ count_of P (changes_of x) = ap (count_of P) e in omega (arith, same)

  pub none-moves : (q : ℕ) → changes_of y ≡ changes_of x → Moves q 0 0 x y
  none-moves q e = record { put = none_more is_put e; taken = none_more (is_taking q) e; others = ap (count_of (is_other q)) e }

  pub none-renews : changes_of y ≡ changes_of x → Renews 0 x y
  none-renews e = record { renewed = none_more is_renewed e; others = ap (count_of is_unlike) e }

  pub none-lays : (v : ℕ) → changes_of y ≡ changes_of x → Lays v 0 x y
  none-lays v e = record { laid = none_more (is_laid v) e; others = ap (count_of (is_not_laid v)) e }

  no_more : (P : Step → Bool → Bool) (step : Step) (won : Bool) → P step won ≡ false → changes_of y ≡ changes_of x ++ record { step = step; won = won } ∷ [] → count_of P (changes_of y) ≡ count_of P (changes_of x)
  no_more P step won is e = let more = one_more P step won false is e in omega (arith, more)

  -- a node came behind the last
  put_other : (won : Bool) → not (won || false || (not won || false)) ≡ false
  put_other true = refl
  put_other false = refl

  pub put-moves : (q : ℕ) (won : Bool) → changes_of y ≡ changes_of x ++ record { step = ExchangeField 22 0 (Some 21) (Some 20); won = won } ∷ [] → Moves q (if won then 1 else 0) 0 x y
  put-moves q won e =
      record {
        put = one_more is_put (ExchangeField 22 0 (Some 21) (Some 20)) won won refl e;
        taken = one_more (is_taking q) (ExchangeField 22 0 (Some 21) (Some 20)) won false refl e;
        others = no_more (is_other q) (ExchangeField 22 0 (Some 21) (Some 20)) won (put_other won) e;
      }

  -- a node was taken
  taking : (q : ℕ) (won : Bool) → (q == q) && won ≡ won
  taking q won = ap (λ (b : Bool). b && won) (eq-eqb q q refl)

  taken_other : (q : ℕ) (won : Bool) → not (((q == q) && won) || (not won || false)) ≡ false
  taken_other q won = ap (λ (b : Bool). not ((b && won) || (not won || false))) (eq-eqb q q refl) ∙ either won
    where
      either : (won : Bool) → not (won || (not won || false)) ≡ false
      either true = refl
      either false = refl

  pub taken-moves : (q : ℕ) (won : Bool) → changes_of y ≡ changes_of x ++ record { step = ExchangeField q 0 (Some 21) (Some 23); won = won } ∷ [] → Moves q 0 (if won then 1 else 0) x y
  taken-moves q won e =
      record {
        put = one_more is_put (ExchangeField q 0 (Some 21) (Some 23)) won false refl e;
        taken = one_more (is_taking q) (ExchangeField q 0 (Some 21) (Some 23)) won won (taking q won) e;
        others = no_more (is_other q) (ExchangeField q 0 (Some 21) (Some 23)) won (taken_other q won) e;
      }

  -- the queue's last moved on, or not
  moved_other : (q : ℕ) (won : Bool) → not (not won || (q == q)) ≡ false
  moved_other q won = ap (λ (b : Bool). not (not won || b)) (eq-eqb q q refl) ∙ either won
    where
      either : (won : Bool) → not (not won || true) ≡ false
      either true = refl
      either false = refl

  pub last-moves : (q to : ℕ) (won : Bool) → changes_of y ≡ changes_of x ++ record { step = ExchangeField q 1 (Some 22) (Some to); won = won } ∷ [] → Moves q 0 0 x y
  last-moves q to won e =
      record {
        put = one_more is_put (ExchangeField q 1 (Some 22) (Some to)) won false refl e;
        taken = one_more (is_taking q) (ExchangeField q 1 (Some 22) (Some to)) won false refl e;
        others = no_more (is_other q) (ExchangeField q 1 (Some 22) (Some to)) won (moved_other q won) e;
      }

  -- what a node keeps was stored
  pub kept-moves : (q v w : ℕ) → (v ≡ 20) ⊎ (v ≡ 23) → (changes_of y ≡ changes_of x) ⊎ (changes_of y ≡ changes_of x ++ record { step = StoreField v 1 (Some w); won = true } ∷ []) → Moves q 0 0 x y
  kept-moves q v w node = ⊎_elim (none-moves q) (λ e.
      record {
        put = one_more is_put (StoreField v 1 (Some w)) true false refl e;
        taken = one_more (is_taking q) (StoreField v 1 (Some w)) true false refl e;
        others = no_more (is_other q) (StoreField v 1 (Some w)) true (⊎_elim (λ (i : v ≡ 20). ap (λ (k : ℕ). not ((k == 20) || (k == 23))) i) (λ (i : v ≡ 23). ap (λ (k : ℕ). not ((k == 20) || (k == 23))) i) node) e;
      })

  -- a chain was renewed
  renewed_other : (won : Bool) → not (won || not won) ≡ false
  renewed_other true = refl
  renewed_other false = refl

  pub renewed-one : (i : ℕ) (won : Bool) → changes_of y ≡ changes_of x ++ record { step = ExchangeField 20 i (Some 21) (Some 24); won = won } ∷ [] → Renews (if won then 1 else 0) x y
  renewed-one i won e =
      record {
        renewed = one_more is_renewed (ExchangeField 20 i (Some 21) (Some 24)) won won refl e;
        others = no_more is_unlike (ExchangeField 20 i (Some 21) (Some 24)) won (renewed_other won) e;
      }

  -- an entry that is made was stored in
  pub kept-renews : (i w : ℕ) → (changes_of y ≡ changes_of x) ⊎ (changes_of y ≡ changes_of x ++ record { step = StoreField 26 i (Some w); won = true } ∷ []) → Renews 0 x y
  kept-renews i w = ⊎_elim none-renews (λ e.
      record {
        renewed = one_more is_renewed (StoreField 26 i (Some w)) true false refl e;
        others = no_more is_unlike (StoreField 26 i (Some w)) true refl e;
      })

  -- a reference of what is made was laid
  laid_here : (v : ℕ) → (v == v) && true ≡ true
  laid_here v = and_from (v == v) true (eq-eqb v v refl) refl

  pub laid-one : (v i : ℕ) → changes_of y ≡ changes_of x ++ record { step = StoreField v i (Some 20); won = true } ∷ [] → Lays v 1 x y
  laid-one v i e =
      record {
        laid = one_more (is_laid v) (StoreField v i (Some 20)) true true (laid_here v) e;
        others = no_more (is_not_laid v) (StoreField v i (Some 20)) true (ap not (laid_here v)) e;
      }
