-- An order of commands over an event that is a plain step: it gets the section's commands up to the one that the step does.
use Rattle.std.proofs.Common.{◌≡◌, ◌≢◌, ◌⊎◌, ℕ, ◌+◌, ◌-◌, ◌<◌, ◌≤◌, refl, ap, sym, ◌∙◌, subst, arith, List, [], ◌∷◌, ◌++◌, length, cond, eqb, eq-eqb, ne_eqb, append_assoc, ⊎_elim}
use Rattle.std.proofs.lemmas.Bool.{cases_eq, cases_lt}
use Rattle.std.proofs.lemmas.List.{append_cancel_left}
use Rattle.mark_core.specs.declared.kinds.Event.{Event}
use Rattle.plain_heap.specs.Sections.{Execution, Sections, section_numbers, end_of, IsNext}
use Rattle.plain_heap.specs.PlainRun.{plain}
use Rattle.plain_heap.specs.Paths.{Name, IsReachable}
use Rattle.plain_heap.specs.Placement.{IsNew, LiesIn, position}
use Rattle.plain_heap.proofs.Turns.{ends-grow}
use Rattle.play_report.specs.Order.{heaps_done}
use Rattle.gc_table.specs.declared.view.PlainStep.{PlainStep}
use Rattle.gc_table.specs.declared.view.SectionState.{SectionState}
use Rattle.gc_table.specs.Rule.{Leads}
use Rattle.gc_table.specs.TableState.{TableState, section_at, state_after}
use Rattle.play_end.specs.Alike.{AreAlike}
use Rattle.play_end.specs.Done.{IsStepOf, Follow}
use Rattle.play_end.proofs.Alike.{alike-back, alike-then, alike-same, alike-objects}
use Rattle.play_end.proofs.OneEvent.{season_in, Steps}
use Rattle.play_end.proofs.OnTheWay.{Later, later, same-shape, way-whole}
use Rattle.play_end.proofs.Orders.{Between, Fits, Order, raise, recounted}
use Rattle.play_end.proofs.SeasonOrder.{come, new-more, not-new, ended, IsInSeason, in-turn, ended-grows, turn-ended, next-after, next-inside}
use Rattle.play_end.proofs.Standing.{IsPlayed, Stands, still-quiet, free-cell, heaps-among}

-- an event after which one plain step was done
module _ (s : Sections) (f : TableState) (places : List (List ℕ)) (g : IsPlayed s f places) (e : Event) (es : List Event) (y : TableState) (at : ℕ → ℕ) (l : Leads (e ∷ es) y f) (stand : (w : ℕ) → w < length (section_numbers s) → Stands s f places g y w (at w)) (r : Steps y (state_after y e).sections) where
  abbrev pub n : ℕ
  n = length (section_numbers s)

  abbrev pub w : ℕ
  w = r.section

  abbrev pub season : ℕ
  season = season_in y.sections

  abbrev pub d : TableState
  d = state_after y e

  pub low : w < n
  low = omega (arith, r.within, (way-whole f g.state.heap.whole g.state.heap.owned (e ∷ es) y l).sections, ap (λ sh. sh.sections) (same-shape f g.state.heap.whole g.state.heap.owned (e ∷ es) y l), g.state.heap.sections)

  pub after : Later f g.state.heap.whole g.state.heap.owned d w
  after = later f g.state.heap.whole g.state.heap.owned es d l.2 w

  pub left : (stand w low).rest ≡ r.step ∷ after.more
  left =
      append_cancel_left (section_at y.sections w).history (stand w low).rest (r.step ∷ after.more)
      (sym (stand w low).history ∙ (after.history ∙ (ap (λ (h : List PlainStep). h ++ after.more) r.history ∙ append_assoc (section_at y.sections w).history (r.step ∷ []) after.more)))

  pub follow : (b : ℕ) × IsStepOf s w (at w) b r.step × Follow s w (position g.done w) (b + 1) after.more
  follow = subst (Follow s w (position g.done w) (at w)) left (stand w low).follow

  abbrev pub b : ℕ
  b = follow.0

  command : IsStepOf s w (at w) b r.step
  command = follow.1

  turn : (ended w season + 1 ≡ command.season) × (ended w (season + 1) ≡ command.season)
  turn = turn-ended w command.season season command.next.season (sym r.now ∙ command.turn)

  -- where the sections stand then
  abbrev pub moved : ℕ → ℕ
  moved u = cond (eqb u w) (b + 1) (at u)

  moved-here : moved w ≡ b + 1
  moved-here = ap (λ x. cond x (b + 1) (at w)) (eq-eqb w w refl)

  moved-else : (u : ℕ) → u ≢ w → moved u ≡ at u
  moved-else u far = ap (λ x. cond x (b + 1) (at u)) (ne_eqb u w far)

  stand-here : Stands s f places g d w (b + 1)
  stand-here = record {
    heap = alike-then (section_at d.sections w).meaning.heap r.step.heap (plain s w (b + 1)) (alike-same (section_at d.sections w).meaning.heap r.step.heap r.heap) command.heap;
    rest = after.more;
    history = after.history;
    follow = follow.2;
    far = omega (arith, next-inside s w b command.season command.command command.next, ap (end_of s w) turn.1, ap (λ k. end_of s w (ended w (k + 1))) r.season);
  }

  stand-else : (u : ℕ) → u < n → u ≢ w → Stands s f places g d u (at u)
  stand-else u low' far =
      let t = stand u low' in
      let same : section_at d.sections u ≡ section_at y.sections u = r.others u far in
      record {
        heap = subst (λ (x : SectionState). AreAlike x.meaning.heap (plain s u (at u))) (sym same) t.heap;
        rest = t.rest;
        history = t.history ∙ ap (λ (x : SectionState). x.history ++ t.rest) (sym same);
        follow = t.follow;
        far = omega (arith, t.far, ap (λ k. end_of s u (ended u (k + 1))) r.season);
      }

  pub stand-next : (u : ℕ) → u < n → Stands s f places g d u (moved u)
  stand-next u low' =
      ⊎_elim
      (λ (same : u ≡ w). subst (λ v. Stands s f places g d v (moved v)) (sym same) (subst (Stands s f places g d w) (sym moved-here) stand-here))
      (λ (far : u ≢ w). subst (Stands s f places g d u) (sym (moved-else u far)) (stand-else u low' far))
      (cases_eq u w)

  abbrev c : ℕ → ℕ
  c u = come s u (at u) season

  abbrev c' : ℕ → ℕ
  c' u = come s u (moved u) season

  come-else : (u : ℕ) → u ≢ w → c' u ≡ c u
  come-else u far = ap (λ k. come s u k season) (moved-else u far)

  come-here : c' w ≡ b + 1
  come-here = omega (arith, moved-here, next-after s w b command.season command.command command.next, ap (end_of s w) (let g : ended w season ≡ command.season - 1 = omega (arith, turn.0) in g))

  up : (u : ℕ) → u < n → c u ≤ c' u
  up u low' = ⊎_elim (λ (same : u ≡ w). omega (arith, ap c same, ap c' same, come-here, here)) (λ (far : u ≢ w). omega (arith, come-else u far)) (cases_eq u w)
    where
      here : c w ≤ b + 1
      here = omega (arith, come-here, moved-here, command.from)

  within : (u q : ℕ) → u < n → c u ≤ q → q ≤ c' u → IsInSeason s season u q
  within u q low' from to = (omega (arith, from), ⊎_elim here else (cases_eq u w))
    where
      here : u ≡ w → q ≤ end_of s u (ended u (season + 1))
      here same =
          subst (λ v. q ≤ end_of s v (ended v (season + 1))) (sym same)
          (omega (arith, to, ap c' same, come-here, next-inside s w b command.season command.command command.next, ap (end_of s w) turn.1))

      else : u ≢ w → q ≤ end_of s u (ended u (season + 1))
      else far = omega (arith, to, come-else u far, (stand u low').far, ends-grow s u (ended u season) (ended u (season + 1)) (ended-grows u season (season + 1) (omega arith)))

  -- where another section stands
  elsewhere : (ks : List ℕ) (u : ℕ) → u ≢ w → (position ks u ≡ c u) ⊎ (position ks u ≡ c' u) → position ks u ≡ c u
  elsewhere ks u far h = ⊎_elim (λ (e : position ks u ≡ c u). e) (λ (e : position ks u ≡ c' u). e ∙ come-else u far) h

  -- a `new` that this step did
  taken : (ks : List ℕ) (z : ℕ) (next : Execution) → position ks w ≡ b → ((u : ℕ) → u < n → u ≢ w → position ks u ≡ c u) → IsNext s w (position ks w) z next → IsNew next.op
      → (name : Name) (cell : ℕ) → IsReachable (heaps_done s ks) name → LiesIn places name cell → LiesIn places (record { section = w; number = length (plain s w (position ks w)).objects }) cell → ⊥
  taken ks z next here others is new name cell reach lies there =
      free-cell s f places g (e ∷ es) y w (heaps_done s ks) l low (heaps-among s f places g (e ∷ es) y ks l alike) (r.makes more) name cell reach lies
      (subst (λ k. LiesIn places (record { section = w; number = k }) cell) (sym count) there)
    where
      own : AreAlike (section_at y.sections w).meaning.heap (plain s w b)
      own = alike-then (section_at y.sections w).meaning.heap (plain s w (at w)) (plain s w b) (stand w low).heap (alike-back (plain s w b) (plain s w (at w)) (command.quiet b command.from (omega arith)))

      count : length (section_at y.sections w).meaning.heap.objects ≡ length (plain s w (position ks w)).objects
      count = ap length (alike-objects (section_at y.sections w).meaning.heap (plain s w b) own) ∙ ap (λ k. length (plain s w k).objects) (sym here)

      more : length r.step.heap.objects ≡ length (section_at y.sections w).meaning.heap.objects + 1
      more = omega (
        arith,
        ap length (alike-objects r.step.heap (plain s w (b + 1)) command.heap),
        ap (λ k. length (plain s w (k + 1)).objects) here,
        new-more s w (position ks w) z next is new,
        count,
      )

      alike : (u : ℕ) → u < n → AreAlike (section_at y.sections u).meaning.heap (plain s u (position ks u))
      alike u low' = ⊎_elim same else (cases_eq u w)
        where
          same : u ≡ w → AreAlike (section_at y.sections u).meaning.heap (plain s u (position ks u))
          same e = subst (λ v. AreAlike (section_at y.sections v).meaning.heap (plain s v (position ks v))) (sym e) (subst (λ k. AreAlike (section_at y.sections w).meaning.heap (plain s w k)) (sym here) own)

          else : u ≢ w → AreAlike (section_at y.sections u).meaning.heap (plain s u (position ks u))
          else far =
              let t = stand u low' in
              let q : ℕ = position ks u in
              let at-q : q ≡ c u = others u low' far in
              alike-then (section_at y.sections u).meaning.heap (plain s u (at u)) (plain s u q) t.heap
              (alike-back (plain s u q) (plain s u (at u)) (still-quiet s f places g (e ∷ es) y u (at u) t.rest l low' t.history t.follow q (omega (arith, at-q)) (omega (arith, at-q))))

  between : Between s places c c'
  between ks u long inside from to others = ⊎_elim here else (cases_eq u w)
    where
      else : u ≢ w → Fits s places ks u
      else far = absurd (omega (arith, from, to, come-else u far))

      here : u ≡ w → Fits s places ks u
      here same = subst (Fits s places ks) (sym same) (record {
        turn = λ z next is. in-turn s season ks w z next each (omega (arith, low, long)) (omega (arith, below, next-inside s w b command.season command.command command.next, ap (end_of s w) turn.1)) is;
        free = λ z next is new. ⊎_elim
            (λ (less : position ks w < b). λ name cell reach lies there. not-new s w (at w) b (position ks w) z next command.quiet (omega (arith, above)) less is new)
            (λ (more : b ≤ position ks w). taken ks z next (omega (arith, below, more)) others' is new)
            (cases_lt (position ks w) b);
      })
        where
          above : c w ≤ position ks w
          above = subst (λ v. c v ≤ position ks v) same from

          below : position ks w < b + 1
          below = omega (arith, subst (λ v. position ks v < c' v) same to, come-here)

          others' : (v : ℕ) → v < n → v ≢ w → position ks v ≡ c v
          others' v low' far = elsewhere ks v far (others v low' (λ e. far (e ∙ same)))

          each : (v : ℕ) → v < length ks → IsInSeason s season v (position ks v)
          each v low' =
              let inside' : v < n = omega (arith, low', long) in
              ⊎_elim
              (λ (e : v ≡ w). subst (λ x. IsInSeason s season x (position ks x)) (sym e) (within w (position ks w) low above (omega (arith, below, come-here))))
              (λ (far : v ≢ w). within v (position ks v) inside' (omega (arith, others' v inside' far)) (omega (arith, others' v inside' far, up v inside')))
              (cases_eq v w)

  pub order-step : Order s places c → Order s places (λ u. come s u (moved u) (season_in d.sections))
  order-step ord = recounted s places c' (λ u. come s u (moved u) (season_in d.sections)) (λ u low'. ap (come s u (moved u)) r.season) (raise s places c c' between up ord)
