-- The rule of the tokens at the start, when the first seat makes another, and when a stamp is taken.
use Rattle.std.proofs.Common.{ℕ, ◌≡◌, ◌<◌, List, [], ◌∷◌, ◌++◌, set, arith, refl, sym, ap, ◌∙◌, subst, ⊎_elim}
use Rattle.std.specs.Prelude.{IsFalse, Contains}
use mathlib.Core.Option.{some, some-ne-none}
use lib.ListN.{get_elem?}
use Rattle.atomic_table.specs.Table.{State, Splits, opening}
use Rattle.atomic_table.proofs.Lists.{at_set, set_again}
use Rattle.plain_heap.specs.declared.operation.Op.{Op}
use Rattle.mark_core.specs.Shapes.{IsShape}
use Rattle.mark_core.specs.Start.{start_seat, start_words}
use Rattle.mark_core.specs.declared.kinds.Event.{Event}
use Rattle.mark_core.specs.declared.kinds.Shape.{Shape}
use Rattle.mark_core.specs.declared.kinds.Step.TheVariants.{Split}
use Rattle.gc_table.specs.declared.view.TokenState.{TokenState}
use Rattle.gc_table.specs.declared.view.View.{View}
use Rattle.gc_table.specs.Rule.{Holds, newcomer}
use Rattle.gc_table.specs.TableState.{start_state}
use Rattle.gc_table.specs.Seen.{Begins, OneHistory, Recalls, newcomer_token, stamped, opened_in, opens_in, rank, same_token, seats_in, seats_of}
use Rattle.gc_table.proofs.Opening.{at-end, none-in, splits, starts}
use Rattle.gc_table.proofs.State.StateStart.{whole_starts}
use Rattle.gc_table.proofs.State.StateSteps.{event}
use Rattle.gc_table.proofs.Tokens.{Kept, begins-more, begins-on, begins-self, stamps-snoc, seats-get, seats-set, seats-snoc}

none-at : (u : TokenState) (j : ℕ) → get_elem? [] j ≡ some u → ⊥
none-at u j e = absurd (some-ne-none u (sym e))

pub newcomer-recalls : (sh : Shape) (plan : List (List Op)) (i : ℕ) → IsShape sh → Recalls (newcomer_token sh plan i)
newcomer-recalls sh plan i z =
    record {
      history = record { state = start_state sh plan 1; whole = whole_starts sh plan 1 z (omega arith) (omega arith); led = record { allowed = refl; fit = λ k e there. absurd (omega (arith, there)); leads = refl }; came = refl };
      log = refl;
    }

pub opens-recalls : (k : TokenState) → Recalls k → Recalls (opens_in k)
opens-recalls k r = record { history = r.history; log = r.log }

pub stamp-recalls : (k : TokenState) → Recalls k → Recalls (stamped k)
stamp-recalls k r = record { history = r.history; log = r.log }

pub starts-history : (sh : Shape) (plan : List (List Op)) (ws : List ℕ) → IsShape sh → ws ≡ start_words sh → OneHistory sh plan (opening ws [] (newcomer_token sh plan 0))
starts-history sh plan ws z is =
    let h : Holds sh plan (opening ws [] (newcomer sh plan 0)) = starts sh plan ws z is in
    record {
      holds = h;
      seen = λ j u e.
          ⊎_elim
          (λ e. absurd (none-at u j e))
          (λ p. subst (λ (x : TokenState). Begins x.seen h.past) p.1 (h.past, refl))
          (at-end [] (newcomer_token sh plan 0) u j e);
      heard = λ j u fs e c.
          ⊎_elim
          (λ e. absurd (none-at u j e))
          (λ p. absurd (none-in fs (subst (λ (x : TokenState). Contains x.heard fs) (sym p.1) c)))
          (at-end [] (newcomer_token sh plan 0) u j e);
    }

-- one token more, whose histories are those of the one that changes
longer-history : (sh : Shape) (plan : List (List Op)) (s : State (Unit {0}) TokenState) (o : OneHistory sh plan s) (i : ℕ) (k l r : TokenState) (es : List Event) → get_elem? s.views i ≡ some k → l.seen ≡ k.seen → l.heard ≡ k.heard → Begins r.seen es → ((fs : List Event) → Contains r.heard fs → Begins fs es) → Begins o.holds.past es
    → Kept sh plan (record { words = s.words; homes = s.homes; views = seats_of (set s.views i l ++ r ∷ []) }) es → OneHistory sh plan (record { words = s.words; homes = s.homes; views = set s.views i l ++ r ∷ [] })
longer-history sh plan s o i k l r es me seen heard mine told on kept =
    record {
      holds = kept.0;
      seen = λ j u h. subst (Begins u.seen) (sym kept.1)
          (⊎_elim
          (λ (g : get_elem? (set s.views i l) j ≡ some u).
          ⊎_elim
          (λ (p : (j ≡ i) × (l ≡ u)). subst (λ (x : TokenState). Begins x.seen es) p.1 (subst (λ xs. Begins xs es) (sym seen) (begins-on k.seen o.holds.past es (o.seen i k me) on)))
          (λ p. begins-on u.seen o.holds.past es (o.seen j u p.1) on)
          (at_set s.views i j l u g))
          (λ p. subst (λ (x : TokenState). Begins x.seen es) p.1 mine)
          (at-end (set s.views i l) r u j h));
      heard = λ j u fs h c. subst (Begins fs) (sym kept.1)
          (⊎_elim
          (λ (g : get_elem? (set s.views i l) j ≡ some u).
          ⊎_elim
          (λ (p : (j ≡ i) × (l ≡ u)). begins-on fs o.holds.past es (o.heard i k fs me (subst (λ xs. Contains xs fs) (ap (λ (x : TokenState). x.heard) (sym p.1) ∙ heard) c)) on)
          (λ p. begins-on fs o.holds.past es (o.heard j u fs p.1 c) on)
          (at_set s.views i j l u g))
          (λ p. told fs (subst (λ (x : TokenState). Contains x.heard fs) (sym p.1) c))
          (at-end (set s.views i l) r u j h));
    }

-- the first seat may make another
pub splits-seat : (sh : Shape) (plan : List (List Op)) (id : ℕ) (k : TokenState) → IsFalse k.stamp → k.view.shape ≡ sh → k.view.plan ≡ plan → k.view.state ≡ start_seat sh 0 → k.view.opened < 41 → Splits (OneHistory sh plan) id k (opens_in k) (opened_in k)
splits-seat sh plan id k seat shaped planned first few s o me =
    let j : ℕ = rank s.views id in
    let got : get_elem? (seats_of s.views) j ≡ some k.view = seats-get s.views id k me seat in
    let es : List Event = o.holds.past ++ event 0 Split ∷ [] in
    let kept = splits sh plan j k.view shaped planned first few (seats_in s) o.holds got in
    let views : seats_of (set s.views id (opens_in k) ++ opened_in k ∷ []) ≡ set (seats_of s.views) j (opens_in k).view ++ (opened_in k).view ∷ [] =
    seats-snoc (set s.views id (opens_in k)) (opened_in k) refl ∙ ap (λ l. l ++ (opened_in k).view ∷ []) (seats-set s.views id k (opens_in k) me seat seat) in
    longer-history sh plan s o id k (opens_in k) (opened_in k) es me refl refl (es, refl) (λ fs c. absurd (none-in fs c)) (begins-more o.holds.past o.holds.past (event 0 Split) (begins-self o.holds.past))
    (subst (λ (vs : List View). Kept sh plan (record { words = s.words; homes = s.homes; views = vs }) es) (sym views) kept)

-- whoever has a token may take a stamp of it
pub splits-stamp : (sh : Shape) (plan : List (List Op)) (id : ℕ) (k : TokenState) → Splits (OneHistory sh plan) id k (same_token k) (stamped k)
splits-stamp sh plan id k s o me =
    let es : List Event = o.holds.past in
    let views : seats_of (set s.views id k ++ stamped k ∷ []) ≡ seats_of s.views = stamps-snoc (set s.views id k) (stamped k) refl ∙ ap seats_of (set_again s.views id k me) in
    longer-history sh plan s o id k k (stamped k) es me refl refl (o.seen id k me) (λ fs c. o.heard id k fs me c) (begins-self es)
    (subst (λ (vs : List View). Kept sh plan (record { words = s.words; homes = s.homes; views = vs }) es) (sym views) (o.holds, refl))
