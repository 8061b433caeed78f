-- An order of commands over an event that is no plain step, where the season may move on.
use Rattle.std.proofs.Common.{◌≡◌, ℕ, ◌+◌, ◌<◌, ◌≤◌, ap, sym, ◌∙◌, subst, arith, List, ◌∷◌, ◌++◌, length, ⊎_elim}
use Rattle.mark_core.specs.declared.kinds.Event.{Event}
use Rattle.plain_heap.specs.PlainHeap.{Heap}
use Rattle.plain_heap.specs.Sections.{Sections, section_numbers}
use Rattle.plain_heap.specs.PlainRun.{plain}
use Rattle.plain_heap.proofs.Turns.{ends-grow}
use Rattle.gc_table.specs.declared.view.PlainStep.{PlainStep}
use Rattle.gc_table.specs.Rule.{Leads}
use Rattle.gc_table.specs.TableState.{TableState, section_at, state_after}
use Rattle.play_end.specs.Alike.{AreAlike}
use Rattle.play_end.specs.Done.{IsQuiet}
use Rattle.play_end.proofs.OneEvent.{season_in, Rests}
use Rattle.play_end.proofs.Orders.{Order, recounted}
use Rattle.play_end.proofs.SeasonOrder.{come, season-on, ended, ended-grows}
use Rattle.play_end.proofs.Standing.{IsPlayed, Stands, still-quiet}

-- an event that changes no plain heap
module _ (s : Sections) (f : TableState) (places : List (List ℕ)) (g : IsPlayed s f places) (e : Event) (es : List Event) (y : TableState) (at : ℕ → ℕ) (l : Leads (e ∷ es) y f) (stand : (w : ℕ) → w < length (section_numbers s) → Stands s f places g y w (at w)) (r : Rests y.sections (state_after y e).sections) where
  abbrev n : ℕ
  n = length (section_numbers s)

  abbrev d : TableState
  d = state_after y e

  still : (w : ℕ) (low : w < n) → (section_at f.sections w).history ≡ (section_at d.sections w).history ++ (stand w low).rest
  still w low = (stand w low).history ∙ ap (λ (h : List PlainStep). h ++ (stand w low).rest) (sym (r.history w))

  later-season : season_in y.sections ≤ season_in d.sections
  later-season = ⊎_elim (λ (e : season_in d.sections ≡ season_in y.sections). omega (arith, e)) (λ (e : season_in d.sections ≡ season_in y.sections + 1). omega (arith, e)) r.season

  pub stand-still : (w : ℕ) → w < n → Stands s f places g d w (at w)
  stand-still w low =
      let t = stand w low in
      record {
        heap = subst (λ (h : Heap). AreAlike h (plain s w (at w))) (sym (r.heap w)) t.heap;
        rest = t.rest;
        history = still w low;
        follow = t.follow;
        far = omega (arith, t.far, ends-grow s w (ended w (season_in y.sections + 1)) (ended w (season_in d.sections + 1)) (ended-grows w (season_in y.sections + 1) (season_in d.sections + 1) (omega (arith, later-season))));
      }

  pub order-still : Order s places (λ w. come s w (at w) (season_in y.sections)) → Order s places (λ w. come s w (at w) (season_in d.sections))
  order-still ord = ⊎_elim same next r.season
    where
      same : season_in d.sections ≡ season_in y.sections → Order s places (λ w. come s w (at w) (season_in d.sections))
      same e = recounted s places (λ w. come s w (at w) (season_in y.sections)) (λ w. come s w (at w) (season_in d.sections)) (λ w low. ap (come s w (at w)) e) ord

      next : season_in d.sections ≡ season_in y.sections + 1 → Order s places (λ w. come s w (at w) (season_in d.sections))
      next e =
          recounted s places (λ w. come s w (at w) (season_in y.sections + 1)) (λ w. come s w (at w) (season_in d.sections)) (λ w low. ap (come s w (at w)) e)
          (season-on s places at (season_in y.sections) (λ w low. (stand w low).far)
          (λ w low. subst (λ k. IsQuiet s w (at w) (come s w (at w) k)) e (still-quiet s f places g es d w (at w) (stand w low).rest l.2 low (still w low) (stand w low).follow)) ord)
