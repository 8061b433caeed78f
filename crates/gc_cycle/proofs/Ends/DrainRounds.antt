-- A drain goes on in rounds.
use Rattle.std.proofs.Common.{◌≡◌, List, [], ◌∷◌, ◌++◌, refl, subst, sym}
use Rattle.mark_core.specs.declared.kinds.Phase.TheVariants.{Drain}
use Rattle.mark_core.specs.declared.kinds.Shape.{Shape}
use Rattle.gc_table.specs.Log.{events}
use Rattle.gc_table.specs.Running.{Ran}
use Rattle.gc_table.specs.declared.view.View.{View}
use Rattle.card_clean.specs.Drained.{FindsNoDirtyCard, FindsWork}
use Rattle.gc_cycle.specs.DrainRounds.{DrainsAlone, GoesInRounds, GoesRound}
use Rattle.gc_cycle.specs.Drained.{DrainedAlone, RootedAlone}
use Rattle.gc_cycle.specs.Finishing.{IsPart}
use Rattle.gc_cycle.specs.RoundParts.{BringsBack, CleansLast}
use Rattle.gc_cycle.specs.Turns.{DrainsFor, round_quota}

-- the rounds up to now
abbrev pub HasGone : List View → View → View → Type 0
HasGone [] v w = w ≡ v
HasGone (x ∷ xs) v w = GoesRound v x × HasGone xs x w

-- the roots were seen to, and rounds were made
pub record IsDraining (v w : View) : Type 0 where
  pub rooted : View
  pub first : IsPart Drain v rooted
  pub roots : RootedAlone rooted
  pub rounds : List View
  pub gone : HasGone rounds rooted w

pub begins-rounds : (v w : View) → IsPart Drain v w → RootedAlone w → IsDraining v w
begins-rounds v w p r = record { rooted = w; first = p; roots = r; rounds = []; gone = refl }

one-more : (xs : List View) (v w x : View) → HasGone xs v w → GoesRound w x → HasGone (xs ++ x ∷ []) v x
one-more [] v w x h g = (subst (λ y. GoesRound y x) h g, refl)
one-more (y ∷ ys) v w x h g = (h.0, one-more ys y w x h.1 g)

at-last : (xs : List View) (v w x : View) → HasGone xs v w → Ran w x × FindsNoDirtyCard w.shape (events w x) → GoesInRounds xs v x
at-last [] v w x h e = subst (λ y. Ran y x × FindsNoDirtyCard y.shape (events y x)) h e
at-last (y ∷ ys) v w x h e = (h.0, at-last ys y w x h.1 e)

-- after a look that found something left, a round was made
pub goes-round : (sh : Shape) (v w x : View) → v.shape ≡ sh → Ran v w → FindsWork sh (events v w) → Ran w x → BringsBack w x → DrainsFor round_quota w x → CleansLast w x → GoesRound v x
goes-round sh v w x e r f q b d c = record { looked = w; looks = r; left = subst (λ s. FindsWork s (events v w)) (sym e) f; ran = q; brings = b; worked = d; cleans = c }

pub goes-on : (u v w : View) → IsDraining u v → GoesRound v w → IsDraining u w
goes-on u v w d g = record { rooted = d.rooted; first = d.first; roots = d.roots; rounds = d.rounds ++ w ∷ []; gone = one-more d.rounds d.rooted v w d.gone g }

-- a look found nothing left
pub drains-alone : (sh : Shape) (u v w : View) → IsDraining u v → v.shape ≡ sh → Ran v w → FindsNoDirtyCard sh (events v w) → IsPart Drain u w → DrainedAlone w → DrainsAlone u w
drains-alone sh u v w d e r n p i =
    record {
      rooted = d.rooted;
      first = d.first;
      roots = d.roots;
      rounds = d.rounds;
      goes = at-last d.rounds d.rooted v w d.gone (r, subst (λ s. FindsNoDirtyCard s (events v w)) (sym e) n);
      part = p;
      drained = i;
    }
