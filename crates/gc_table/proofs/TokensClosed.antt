-- The rule of the tokens when a seat takes in another or is told what a stamp has, and in the end.
use Rattle.std.proofs.Common.{ℕ, ◌≡◌, ◌≢◌, zero, suc, List, [], ◌∷◌, ◌++◌, set, arith, refl, sym, ap, ◌∙◌, subst, inl, inr, ◌⊎◌, ⊎_elim}
use Rattle.std.specs.Prelude.{IsFalse, IsTrue, Contains}
use mathlib.Core.Option.{some}
use lib.ListN.{get_elem?}
use Rattle.atomic_table.specs.Table.{State, Final, Joins, Seen}
use Rattle.atomic_table.proofs.Lists.{at_set, set_again, set_else}
use Rattle.plain_heap.specs.declared.operation.Op.{Op}
use Rattle.mark_core.specs.Seats.{is_bare}
use Rattle.mark_core.specs.declared.kinds.Event.{Event}
use Rattle.mark_core.specs.declared.kinds.Shape.{Shape}
use Rattle.mark_core.specs.declared.kinds.Step.TheVariants.{Join}
use Rattle.gc_table.specs.declared.view.TokenState.{TokenState}
use Rattle.gc_table.specs.declared.view.View.{View}
use Rattle.gc_table.specs.Rule.{IsFinal, nobody}
use Rattle.gc_table.specs.Seen.{Begins, OneHistory, Learns, hears, no_stamp, nobody_token, rank, seats_in, seats_of, takes_in_token}
use Rattle.gc_table.proofs.Closing.{closes, joins}
use Rattle.gc_table.proofs.Opening.{none-in}
use Rattle.gc_table.proofs.State.StateSteps.{event}
use Rattle.gc_table.proofs.Tokens.{Kept, begins-more, begins-on, begins-self, stamps-set, rank-apart, rank-set, seats-get, seats-set}

head_or : (e : List Event) (es : List (List Event)) (fs : List Event) → Contains (e ∷ es) fs → (e ≡ fs) ⊎ Contains es fs
head_or e es fs (zero, l, h) = inl h
head_or e es fs (suc k, l, h) = inr (k, (omega (arith, l)), h)

-- two tokens change: the one is told the history of the other, of which nothing is left
both-history : (sh : Shape) (plan : List (List Op)) (s : State (Unit {0}) TokenState) (o : OneHistory sh plan s) (i j : ℕ) (k w l r : TokenState) (es : List Event) → get_elem? s.views i ≡ some k → get_elem? s.views j ≡ some w → l.seen ≡ k.seen → l.heard ≡ w.seen ∷ k.heard → r.seen ≡ [] → r.heard ≡ [] → Begins o.holds.past es
    → Kept sh plan (record { words = s.words; homes = s.homes; views = seats_of (set (set s.views i l) j r) }) es → OneHistory sh plan (record { words = s.words; homes = s.homes; views = set (set s.views i l) j r })
both-history sh plan s o i j k w l r es me other seen heard none none' on kept =
    record {
      holds = kept.0;
      seen = λ n u h. subst (Begins u.seen) (sym kept.1)
          (⊎_elim
          (λ (p : (n ≡ j) × (r ≡ u)). (es, ap (λ xs. xs ++ es) (sym none ∙ ap (λ (x : TokenState). x.seen) p.1)))
          (λ (p : (n ≢ j) × (get_elem? (set s.views i l) n ≡ some u)).
          ⊎_elim
          (λ (q : (n ≡ i) × (l ≡ u)). subst (λ xs. Begins xs es) (sym seen ∙ ap (λ (x : TokenState). x.seen) q.1) (begins-on k.seen o.holds.past es (o.seen i k me) on))
          (λ (q : (n ≢ i) × (get_elem? s.views n ≡ some u)). begins-on u.seen o.holds.past es (o.seen n u q.1) on)
          (at_set s.views i n l u p.1))
          (at_set (set s.views i l) j n r u h));
      heard = λ n u fs h c. subst (Begins fs) (sym kept.1)
          (⊎_elim
          (λ (p : (n ≡ j) × (r ≡ u)). absurd (none-in fs (subst (λ xs. Contains xs fs) (ap (λ (x : TokenState). x.heard) (sym p.1) ∙ none') c)))
          (λ (p : (n ≢ j) × (get_elem? (set s.views i l) n ≡ some u)).
          ⊎_elim
          (λ (q : (n ≡ i) × (l ≡ u)).
          ⊎_elim
          (λ (e : w.seen ≡ fs). subst (λ xs. Begins xs es) e (begins-on w.seen o.holds.past es (o.seen j w other) on))
          (λ (e : Contains k.heard fs). begins-on fs o.holds.past es (o.heard i k fs me e) on)
          (head_or w.seen k.heard fs (subst (λ xs. Contains xs fs) (ap (λ (x : TokenState). x.heard) (sym q.1) ∙ heard) c)))
          (λ (q : (n ≢ i) × (get_elem? s.views n ≡ some u)). begins-on fs o.holds.past es (o.heard n u fs q.1 c) on)
          (at_set s.views i n l u p.1))
          (at_set (set s.views i l) j n r u h));
    }

-- a seat takes in another
pub joins-seat : (sh : Shape) (plan : List (List Op)) (id : ℕ) (k : TokenState) (other : ℕ) (w : TokenState) → IsFalse k.stamp → IsFalse w.stamp → IsFalse k.view.state.spent → IsTrue (is_bare k.view.state) → IsFalse w.view.state.spent → IsTrue (is_bare w.view.state) → w.view.state.number ≢ 0
    → Joins (OneHistory sh plan) id k other w (takes_in_token k w) nobody_token
joins-seat sh plan id k other w seat seat' live bare live' bare' second s o me apart there' =
    let both : TokenState = takes_in_token k w in
    let there : get_elem? s.views other ≡ some w = sym (set_else s.views id other both apart) ∙ there' in
    let i : ℕ = rank s.views id in
    let j : ℕ = rank s.views other in
    let got : get_elem? (seats_of s.views) i ≡ some k.view = seats-get s.views id k me seat in
    let far : j ≢ i = rank-apart s.views id other k w me there seat seat' apart in
    let one : seats_of (set s.views id both) ≡ set (seats_of s.views) i both.view = seats-set s.views id k both me seat seat in
    let got' : get_elem? (set (seats_of s.views) i both.view) j ≡ some w.view = set_else (seats_of s.views) i j both.view far ∙ seats-get s.views other w there seat' in
    let two : seats_of (set (set s.views id both) other nobody_token) ≡ set (set (seats_of s.views) i both.view) j nobody =
    seats-set (set s.views id both) other w nobody_token there' seat' refl ∙ (λ y. set (one y) (rank-set s.views id other k both me refl y) nobody) in
    let es : List Event = o.holds.past ++ event i (Join j) ∷ [] in
    let kept = joins sh plan i k.view j w.view live bare live' bare' second (seats_in s) o.holds got far got' in
    both-history sh plan s o id other k w both nobody_token es me there refl refl refl refl (begins-more o.holds.past o.holds.past (event i (Join j)) (begins-self o.holds.past))
    (subst (λ (vs : List View). Kept sh plan (record { words = s.words; homes = s.homes; views = vs }) es) (sym two) kept)

-- what a seat has learned goes on from what it had seen, and from what the stamp has
pub learned : (k w j l : TokenState) → j ≡ hears k w → Learns j l → Begins k.seen l.seen × Begins w.seen l.seen
learned k w j l is q = (subst (λ (x : TokenState). Begins x.seen l.seen) is q.0, q.1 w.seen (subst (λ (x : TokenState). Contains x.heard w.seen) (sym is) (0, omega arith, refl)))

-- a seat is told what a stamp has
pub joins-stamp : (sh : Shape) (plan : List (List Op)) (id : ℕ) (k : TokenState) (other : ℕ) (w : TokenState) → IsFalse k.stamp → IsTrue w.stamp → Joins (OneHistory sh plan) id k other w (hears k w) no_stamp
joins-stamp sh plan id k other w seat is_stamp s o me apart there' =
    let both : TokenState = hears k w in
    let there : get_elem? s.views other ≡ some w = sym (set_else s.views id other both apart) ∙ there' in
    let es : List Event = o.holds.past in
    let views : seats_of (set (set s.views id both) other no_stamp) ≡ seats_of s.views =
    stamps-set (set s.views id both) other w no_stamp there' is_stamp refl ∙ (seats-set s.views id k both me seat seat ∙ set_again (seats_of s.views) (rank s.views id) k.view (seats-get s.views id k me seat)) in
    both-history sh plan s o id other k w both no_stamp es me there refl refl refl refl (begins-self es)
    (subst (λ (vs : List View). Kept sh plan (record { words = s.words; homes = s.homes; views = vs }) es) (sym views) (o.holds, refl))

-- the words in the end, and what the last seat's view says of all sections; and its history goes on from all that the seat has seen and was told
pub closes-history : (sh : Shape) (plan : List (List Op)) (id : ℕ) (k : TokenState) (ws : List ℕ) (xs : List (Unit {0})) → IsFalse k.stamp → IsFalse k.view.state.spent → Final (Seen (OneHistory sh plan) id k) ws xs → (f : IsFinal k.view ws) × Begins k.seen f.past × ((es : List Event) → Contains k.heard es → Begins es f.past)
closes-history sh plan id k ws xs seat live f =
    let s = f.0 in
    let o = f.1.0 in
    let g = closes sh plan (rank s.views id) k.view ws xs live (seats_in s, (o.holds, seats-get s.views id k f.1.1 seat), f.2, f.3, f.4) in
    (g.0, subst (Begins k.seen) (sym g.1) (o.seen id k f.1.1), λ es c. subst (Begins es) (sym g.1) (o.heard id k es f.1.1 c))
