-- The seats among the tokens, and histories that begin others.
use Rattle.std.proofs.Common.{ℕ, ◌≡◌, ◌≢◌, zero, suc, List, [], ◌∷◌, ◌++◌, set, arith, refl, sym, ap, ◌∙◌, subst, ⊎_elim, Bool, true, false, cond, append_assoc}
use Rattle.std.specs.Prelude.{IsFalse, IsTrue, Contains}
use mathlib.Core.Option.{some, some-injective, some-ne-none}
use lib.ListN.{get_elem?}
use Rattle.atomic_table.specs.Table.{State}
use Rattle.atomic_table.proofs.Lists.{at_set}
use Rattle.plain_heap.specs.declared.operation.Op.{Op}
use Rattle.mark_core.specs.declared.kinds.Event.{Event}
use Rattle.mark_core.specs.declared.kinds.Shape.{Shape}
use Rattle.gc_table.specs.declared.view.TokenState.{TokenState}
use Rattle.gc_table.specs.declared.view.View.{View}
use Rattle.gc_table.specs.Past.{log_of}
use Rattle.gc_table.specs.Rule.{Agrees, Holds, table_state}
use Rattle.gc_table.specs.Seen.{Begins, IsHistory, OneHistory, Recalls, rank, seats_in, seats_of}
use Rattle.gc_table.proofs.History.Log.{append-none}

pub begins-self : (es : List Event) → Begins es es
begins-self es = ([], append-none es)

pub begins-more : (es fs : List Event) (e : Event) → Begins es fs → Begins es (fs ++ e ∷ [])
begins-more es fs e b = (b.0 ++ e ∷ [], ap (λ l. l ++ e ∷ []) b.1 ∙ append_assoc es b.0 (e ∷ []))

pub begins-on : (es fs gs : List Event) → Begins es fs → Begins fs gs → Begins es gs
begins-on es fs gs b c = (b.0 ++ c.0, c.1 ∙ (ap (λ l. l ++ c.0) b.1 ∙ append_assoc es b.0 c.0))

pub set-got : (ks : List TokenState) (i : ℕ) (k l : TokenState) → get_elem? ks i ≡ some k → get_elem? (set ks i l) i ≡ some l
set-got [] i k l e = absurd (some-ne-none k (sym e))
set-got (x ∷ xs) zero k l e = refl
set-got (x ∷ xs) (suc i) k l e = set-got xs i k l e

-- the view of a seat among the seats
pub seats-get : (ks : List TokenState) (i : ℕ) (k : TokenState) → get_elem? ks i ≡ some k → IsFalse k.stamp → get_elem? (seats_of ks) (rank ks i) ≡ some k.view
seats-get [] i k e seat = absurd (some-ne-none k (sym e))
seats-get (x ∷ xs) zero k e seat =
    let same : x ≡ k = some-injective x k e in
    let is : x.stamp ≡ false = ap (λ (y : TokenState). y.stamp) same ∙ seat in
    ap (λ (b : Bool). get_elem? (cond b (seats_of xs) (x.view ∷ seats_of xs)) 0) is ∙ ap (λ (y : TokenState). some y.view) same
seats-get (x ∷ xs) (suc i) k e seat = by_stamp x.stamp (seats-get xs i k e seat)
  where
    by_stamp : (b : Bool) → get_elem? (seats_of xs) (rank xs i) ≡ some k.view → get_elem? (cond b (seats_of xs) (x.view ∷ seats_of xs)) (cond b (rank xs i) (suc (rank xs i))) ≡ some k.view
    by_stamp true h = h
    by_stamp false h = h

-- the seats when the view of one changes
pub seats-set : (ks : List TokenState) (i : ℕ) (k l : TokenState) → get_elem? ks i ≡ some k → IsFalse k.stamp → IsFalse l.stamp → seats_of (set ks i l) ≡ set (seats_of ks) (rank ks i) l.view
seats-set [] i k l e a b = absurd (some-ne-none k (sym e))
seats-set (x ∷ xs) zero k l e a b =
    let is : x.stamp ≡ false = ap (λ (y : TokenState). y.stamp) (some-injective x k e) ∙ a in
    ap (λ (c : Bool). cond c (seats_of xs) (l.view ∷ seats_of xs)) b ∙ sym (ap (λ (c : Bool). set (cond c (seats_of xs) (x.view ∷ seats_of xs)) 0 l.view) is)
seats-set (x ∷ xs) (suc i) k l e a b = by_stamp x.stamp (seats-set xs i k l e a b)
  where
    by_stamp : (c : Bool) → seats_of (set xs i l) ≡ set (seats_of xs) (rank xs i) l.view → cond c (seats_of (set xs i l)) (x.view ∷ seats_of (set xs i l)) ≡ set (cond c (seats_of xs) (x.view ∷ seats_of xs)) (cond c (rank xs i) (suc (rank xs i))) l.view
    by_stamp true h = h
    by_stamp false h = ap (λ l. x.view ∷ l) h

-- a stamp that changes leaves the seats
pub stamps-set : (ks : List TokenState) (i : ℕ) (k l : TokenState) → get_elem? ks i ≡ some k → IsTrue k.stamp → IsTrue l.stamp → seats_of (set ks i l) ≡ seats_of ks
stamps-set [] i k l e a b = refl
stamps-set (x ∷ xs) zero k l e a b =
    let is : x.stamp ≡ true = ap (λ (y : TokenState). y.stamp) (some-injective x k e) ∙ a in
    ap (λ (c : Bool). cond c (seats_of xs) (l.view ∷ seats_of xs)) b ∙ sym (ap (λ (c : Bool). cond c (seats_of xs) (x.view ∷ seats_of xs)) is)
stamps-set (x ∷ xs) (suc i) k l e a b = ap (λ vs. cond x.stamp vs (x.view ∷ vs)) (stamps-set xs i k l e a b)

-- one seat more, or one stamp more
pub seats-snoc : (ks : List TokenState) (l : TokenState) → IsFalse l.stamp → seats_of (ks ++ l ∷ []) ≡ seats_of ks ++ l.view ∷ []
seats-snoc [] l b = ap (λ (c : Bool). cond c [] (l.view ∷ [])) b
seats-snoc (x ∷ xs) l b = by_stamp x.stamp (seats-snoc xs l b)
  where
    by_stamp : (c : Bool) → seats_of (xs ++ l ∷ []) ≡ seats_of xs ++ l.view ∷ [] → cond c (seats_of (xs ++ l ∷ [])) (x.view ∷ seats_of (xs ++ l ∷ [])) ≡ cond c (seats_of xs) (x.view ∷ seats_of xs) ++ l.view ∷ []
    by_stamp true h = h
    by_stamp false h = ap (λ l. x.view ∷ l) h

pub stamps-snoc : (ks : List TokenState) (l : TokenState) → IsTrue l.stamp → seats_of (ks ++ l ∷ []) ≡ seats_of ks
stamps-snoc [] l b = ap (λ (c : Bool). cond c [] (l.view ∷ [])) b
stamps-snoc (x ∷ xs) l b = ap (λ vs. cond x.stamp vs (x.view ∷ vs)) (stamps-snoc xs l b)

-- the others keep their places
pub rank-set : (ks : List TokenState) (i j : ℕ) (k l : TokenState) → get_elem? ks i ≡ some k → k.stamp ≡ l.stamp → rank (set ks i l) j ≡ rank ks j
rank-set [] i j k l e same = refl
rank-set (x ∷ xs) zero zero k l e same = refl
rank-set (x ∷ xs) (suc i) zero k l e same = refl
rank-set (x ∷ xs) zero (suc j) k l e same =
    let is : l.stamp ≡ x.stamp = sym same ∙ ap (λ (y : TokenState). y.stamp) (sym (some-injective x k e)) in
    ap (λ (c : Bool). cond c (rank xs j) (suc (rank xs j))) is
rank-set (x ∷ xs) (suc i) (suc j) k l e same = ap (λ (n : ℕ). cond x.stamp n (suc n)) (rank-set xs i j k l e same)

-- two seats have two places
pub rank-apart : (ks : List TokenState) (i j : ℕ) (k l : TokenState) → get_elem? ks i ≡ some k → get_elem? ks j ≡ some l → IsFalse k.stamp → IsFalse l.stamp → j ≢ i → rank ks j ≢ rank ks i
rank-apart [] i j k l e f a b far same = absurd (some-ne-none k (sym e))
rank-apart (x ∷ xs) zero zero k l e f a b far same = far refl
rank-apart (x ∷ xs) zero (suc j) k l e f a b far same =
    let is : x.stamp ≡ false = ap (λ (y : TokenState). y.stamp) (some-injective x k e) ∙ a in
    let z : suc (rank xs j) ≡ 0 = sym (ap (λ (c : Bool). cond c (rank xs j) (suc (rank xs j))) is) ∙ same in
    absurd (omega (arith, z))
rank-apart (x ∷ xs) (suc i) zero k l e f a b far same =
    let is : x.stamp ≡ false = ap (λ (y : TokenState). y.stamp) (some-injective x l f) ∙ b in
    let z : 0 ≡ suc (rank xs i) = same ∙ ap (λ (c : Bool). cond c (rank xs i) (suc (rank xs i))) is in
    absurd (omega (arith, z))
rank-apart (x ∷ xs) (suc i) (suc j) k l e f a b far same = rank-apart xs i j k l e f a b (λ z. far (ap suc z)) (by_stamp x.stamp same)
  where
    by_stamp : (c : Bool) → cond c (rank xs j) (suc (rank xs j)) ≡ cond c (rank xs i) (suc (rank xs i)) → rank xs j ≡ rank xs i
    by_stamp true h = h
    by_stamp false h = let z : rank xs j ≡ rank xs i = omega (arith, h) in z

-- the rule of the seats, with this history
abbrev pub Kept : Shape → List (List Op) → State (Unit {0}) View → List Event → Type 0
Kept sh plan s es = (h : Holds sh plan s) × (h.past ≡ es)

-- a live seat that has seen all that has happened recalls it
pub recalls-all : (sh : Shape) (plan : List (List Op)) (t : State (Unit {0}) View) (h : Holds sh plan t) (j : ℕ) (k : TokenState) → get_elem? t.views j ≡ some k.view → IsFalse k.view.state.spent → h.past ≡ k.seen → Recalls k
recalls-all sh plan t h j k got live same =
    let a : Agrees (table_state sh plan h.sections t) j k.view = h.each j k.view got live in
    let number : k.view.state.number ≡ j = (h.whole.core.formed.seats j k.view.state a.seat).number in
    record {
      history = subst (λ (p : Shape × List (List Op) × List Event). IsHistory p.0 p.1 p.2) (λ y. (sym a.shape y, sym a.plan y, same y)) (record { state = table_state sh plan h.sections t; whole = h.whole; led = h.led; came = h.came });
      log = (h.logged j k.view got live).log ∙ (λ y. log_of (sym a.shape y) (same y) (sym number y));
    }

-- a token changes, and what has happened goes on
pub history-set : (sh : Shape) (plan : List (List Op)) (s s' : State (Unit {0}) TokenState) (o : OneHistory sh plan s) (i : ℕ) (l : TokenState) (es : List Event) → s'.views ≡ set s.views i l → Kept sh plan (seats_in s') es → Begins o.holds.past es → Begins l.seen es → ((fs : List Event) → Contains l.heard fs → Begins fs es)
    → OneHistory sh plan s'
history-set sh plan s s' o i l es is kept on mine told =
    record {
      holds = kept.0;
      seen = λ j u h. subst (Begins u.seen) (sym kept.1)
          (⊎_elim
          (λ (p : (j ≡ i) × (l ≡ u)). subst (λ (x : TokenState). Begins x.seen es) p.1 mine)
          (λ (p : (j ≢ i) × (get_elem? s.views j ≡ some u)). begins-on u.seen o.holds.past es (o.seen j u p.1) on)
          (at_set s.views i j l u (ap (λ ks. get_elem? ks j) (sym is) ∙ h)));
      heard = λ j u fs h c. subst (Begins fs) (sym kept.1)
          (⊎_elim
          (λ (p : (j ≡ i) × (l ≡ u)). told fs (subst (λ (x : TokenState). Contains x.heard fs) (sym p.1) c))
          (λ (p : (j ≢ i) × (get_elem? s.views j ≡ some u)). begins-on fs o.holds.past es (o.heard j u fs p.1 c) on)
          (at_set s.views i j l u (ap (λ ks. get_elem? ks j) (sym is) ∙ h)));
    }
