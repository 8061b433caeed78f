-- What the searches of a call tried before a card was dirtied for a cell that was just marked, as more events come.
use Rattle.std.proofs.Common.{ℕ, ◌≡◌, List, [], ◌∷◌, ◌++◌, refl, sym, ap, ◌∙◌, subst, Bool, true, false, not, cond, ◌%◌, ⊎_elim, Some, None}
use Rattle.std.specs.Prelude.{◌&&◌, ◌||◌, is_some}
use Rattle.std.proofs.lemmas.Bool.{false≢true, cases_Bool, or_right, not-true}
use Rattle.mark_core.specs.Bits.{has_bit}
use Rattle.mark_core.specs.Cards.{block_cells}
use Rattle.mark_core.specs.declared.kinds.Shape.{Shape}
use Rattle.mark_core.specs.declared.kinds.Step.{Step}
use Rattle.mark_core.specs.declared.kinds.Step.TheVariants.{Credit, DirtyCard, Give, Look, ReadLength, Reserve, SetMark, StoreLength, Take}
use Rattle.gc_table.specs.declared.view.Entry.{Entry}
use Rattle.gc_table.specs.declared.view.View.{View}
use Rattle.gc_table.specs.Log.{event, events}
use Rattle.gc_table.specs.Running.{Ran, after_all}
use Rattle.gc_table.specs.Taking.{after}
use Rattle.packet_pools.specs.declared.held.Held.{Held}
use Rattle.packet_pools.specs.declared.search.Search.{Search}
use Rattle.packet_pools.specs.declared.search.Search.TheVariants.{Open}
use Rattle.packet_pools.specs.Counts.{dirties, marks_white}
use Rattle.packet_pools.specs.Orders.{some_end}
use Rattle.packet_pools.specs.Seeking.{moves_packet, output_pools, some_event}
use Rattle.packet_pools.specs.Tried.{IsTried, Leads, OverflowsLast, OverflowsTried, SearchesOn, SearchesThrough, all_tried, ends_fresh, fresh_after, may_overflow}
use Rattle.packet_pools.proofs.Counting.{after-earlier, after-join, after-none}
use Rattle.packet_pools.proofs.Tried.{leads-join}

-- more events
pub fresh-more : (b : Bool) (xs ys : List Entry) → fresh_after b (xs ++ ys) ≡ fresh_after (fresh_after b xs) ys
fresh-more b [] ys = refl
fresh-more b (x ∷ xs) ys = fresh-more (cond (moves_packet output_pools x.step) b (marks_white x.step x.found)) xs ys

-- a move of a packet leaves what was marked in hand
moved-fresh : (v : View) (step : Step) (n : ℕ) → moves_packet output_pools step ≡ true → (after step n v).state.fresh ≡ v.state.fresh
moved-fresh v Reserve n m = refl
moved-fresh v (Take q p) n m = refl
moved-fresh v (Give p deferred) n m = refl
moved-fresh v Credit n m = refl
moved-fresh v (Look q g) n m = refl
moved-fresh v (StoreLength p) n m = refl
moved-fresh v (ReadLength p) n m = refl
moved-fresh v step n m = absurd (false≢true m)

-- a cell that was white is in hand once it is marked
marked-fresh : (v : View) (step : Step) (n : ℕ) → marks_white step n ≡ true → is_some (after step n v).state.fresh ≡ true
marked-fresh v (SetMark c) n m = ap (λ b. is_some (cond b v.state.fresh (Some c))) (not-true (has_bit n (c % block_cells)) m)
marked-fresh v step n m = absurd (false≢true m)

fresh-step : (v : View) (step : Step) (n : ℕ) (b : Bool) → (b ≡ true → is_some v.state.fresh ≡ true) → cond (moves_packet output_pools step) b (marks_white step n) ≡ true → is_some (after step n v).state.fresh ≡ true
fresh-step v step n b h e =
    ⊎_elim
    (λ (m : moves_packet output_pools step ≡ true). ap is_some (moved-fresh v step n m) ∙ h (sym (ap (λ k. cond k b (marks_white step n)) m) ∙ e))
    (λ (m : moves_packet output_pools step ≡ false). marked-fresh v step n (sym (ap (λ k. cond k b (marks_white step n)) m) ∙ e))
    (cases_Bool (moves_packet output_pools step))

fresh-all : (es : List Entry) (v : View) (b : Bool) → (b ≡ true → is_some v.state.fresh ≡ true) → fresh_after b es ≡ true → is_some (after_all es v).state.fresh ≡ true
fresh-all [] v b h e = h e
fresh-all (x ∷ es) v b h e = fresh-all es (after x.step x.found v) (cond (moves_packet output_pools x.step) b (marks_white x.step x.found)) (fresh-step v x.step x.found b h) e

-- if nothing that was marked is in hand, the events didn't end with such a mark
pub fresh-none : (v w : View) → Ran v w → w.state.fresh ≡ None → fresh_after false (events v w) ≡ false
fresh-none v w r none =
    ⊎_elim
    (λ (e : fresh_after false (events v w) ≡ true).
    absurd (false≢true (sym (ap is_some none) ∙ (ap (λ (x : View). is_some x.state.fresh) r.steps ∙ fresh-all (events v w) v false (λ f. absurd (false≢true f)) e))))
    (λ (e : fresh_after false (events v w) ≡ false). e)
    (cases_Bool (fresh_after false (events v w)))

module _ (sh : Shape) where
  -- of cards that were dirtied only after all packets were tried
  pub overflows-tried : (s t : Search) (h k : Held) (es : List Entry) → SearchesOn sh s t h k es → SearchesThrough sh s t h k es
  overflows-tried s t h k es on =
      record {
        cause =
            λ excused before i.
            after-earlier (some_end (all_tried sh excused)) (may_overflow sh excused) dirties [] (λ xs a. or_right (not (ends_fresh xs)) _ a) before es (on.cause excused before i);
        leads = on.leads;
      }

  -- no card was dirtied
  pub overflows-none : (s t : Search) (h k : Held) (es : List Entry) → some_event dirties es ≡ false → Leads sh s t h k es → SearchesThrough sh s t h k es
  overflows-none s t h k es quiet leads = record { cause = λ excused before i. after-none (may_overflow sh excused) dirties before es quiet; leads = leads }

  -- one part after another
  pub overflows-join : (s t u : Search) (h k l : Held) (xs ys es : List Entry) → es ≡ xs ++ ys → SearchesThrough sh s t h k xs → SearchesThrough sh t u k l ys → SearchesThrough sh s u h l es
  overflows-join s t u h k l xs ys es all a b =
      record {
        cause =
            λ excused before i.
            subst (OverflowsTried sh excused before) (sym all) (after-join (may_overflow sh excused) dirties before xs ys (a.cause excused before i) (b.cause excused (before ++ xs) (a.leads excused before i)));
        leads = leads-join sh s t u h k l xs ys es all a.leads b.leads;
      }

  -- a card was dirtied again, with nothing in hand that was just marked
  again : (excused : ℕ → Bool) (before : List Entry) (b : Bool) (card : ℕ) → ends_fresh before ≡ false → OverflowsTried sh excused before (cond b (event (DirtyCard card) 1 ∷ []) [])
  again excused before true card none = ap (λ e. (not e || some_end (all_tried sh excused) before) && true) none
  again excused before false card none = refl

  -- so at the end of events that don't end with such a mark, whatever came before
  pub overflows-again : (s t : Search) (h k : Held) (b : Bool) (card : ℕ) (xs ys es : List Entry) → es ≡ xs ++ ys → ys ≡ cond b (event (DirtyCard card) 1 ∷ []) [] → ((c : Bool) → fresh_after c xs ≡ false) → Leads sh t t k k ys → SearchesThrough sh s t h k xs → SearchesThrough sh s t h k es
  overflows-again s t h k b card xs ys es all last none still a =
      record {
        cause =
            λ excused before i.
            subst (OverflowsTried sh excused before) (sym all)
            (after-join (may_overflow sh excused) dirties before xs ys (a.cause excused before i)
            (subst (OverflowsTried sh excused (before ++ xs)) (sym last) (again excused (before ++ xs) b card (fresh-more false before xs ∙ none (fresh_after false before)))));
        leads = leads-join sh s t t h k k xs ys es all a.leads still;
      }

  -- from the begin of a call
  pub overflows-begun : (s t : Search) (h k : Held) (es : List Entry) → s ≡ Open → SearchesThrough sh s t h k es → OverflowsLast sh es
  overflows-begun s t h k es begun on = on.cause (λ p. false) [] (subst (λ (x : Search). IsTried sh (λ p. false) x h []) (sym begun) tt)
