-- What a trace has tried of the packets with room, as more events come.
use Rattle.std.proofs.Common.{ℕ, ◌≡◌, ◌<◌, ◌+◌, ◌⊎◌, ⊎_elim, inl, inr, List, [], ◌∷◌, ◌++◌, arith, refl, sym, ap, ◌∙◌, subst, Bool, true, false, cond}
use Rattle.std.specs.Prelude.{◌||◌, ◌&&◌}
use Rattle.std.specs.List.{list_all, range_with_len}
use Rattle.std.proofs.lemmas.Bool.{and_parts, and_from, cases_Bool, or_cases, or_from, or_left, or_right}
use Rattle.std.proofs.lemmas.List.{append-nil, append_assoc}
use Rattle.mark_core.specs.Numbers.{high_pool_number}
use Rattle.mark_core.specs.declared.kinds.Shape.{Shape}
use Rattle.mark_core.specs.declared.kinds.Step.TheVariants.{DirtyCard}
use Rattle.gc_table.specs.declared.view.Entry.{Entry}
use Rattle.gc_table.proofs.History.Log.{entry_of}
use Rattle.packet_pools.specs.declared.held.Held.{Held}
use Rattle.packet_pools.specs.declared.search.Search.{Search}
use Rattle.packet_pools.specs.declared.search.Search.TheVariants.{Open, Tried}
use Rattle.packet_pools.specs.Counts.{count_of, dirties}
use Rattle.packet_pools.specs.Orders.{each_after, some_end}
use Rattle.packet_pools.specs.Seeking.{all_missed, gets, some_event, was_got, was_missed}
use Rattle.packet_pools.specs.Tried.{IsTried, Leads, SearchesOn, all_tried, fill_of, is_spent, spare_pools, was_filled}
use Rattle.packet_pools.proofs.Counting.{after-join, after-none, end-more, end-whole}
use Rattle.packet_pools.proofs.Searches.{all-missed-left, all-more, all-range, either-way, some-left, some-right, was-missed-left, was-missed-right}
use Rattle.tracer.specs.Searched.{DirtiesOnceTried, IsSearched, Searches, is_passed, tries_all}

-- a packet that was tried, with events after and before
passed-left : (p : ℕ) (xs ys : List Entry) → is_passed p xs ≡ true → is_passed p (xs ++ ys) ≡ true
passed-left p xs ys h = either-way _ _ _ _ (some-left (gets p) xs ys) (was-missed-left high_pool_number p xs ys) h

passed-right : (p : ℕ) (xs ys : List Entry) → is_passed p ys ≡ true → is_passed p (xs ++ ys) ≡ true
passed-right p xs ys h =
    ⊎_elim
    (λ (g : was_got p xs ≡ true). or_left _ _ (some-left (gets p) xs ys g))
    (λ (n : was_got p xs ≡ false). either-way _ _ _ _ (some-right (gets p) xs ys) (was-missed-right high_pool_number p xs ys n) h)
    (cases_Bool (was_got p xs))

spent-passed : (m p : ℕ) (es : List Entry) → is_spent m p es ≡ true → is_passed p es ≡ true
spent-passed m p es h =
    ⊎_elim
    (λ (a : was_missed high_pool_number p es ≡ true). or_right (was_got p es) _ a)
    (λ f. or_left _ _ (and_parts (was_got p es) (was_filled m p es) f).0)
    (or_cases (was_missed high_pool_number p es) (was_got p es && was_filled m p es) h)

missed-spent : (a b c : Bool) → (a || b) ≡ true → (a || (b || c)) ≡ true
missed-spent true b c h = refl
missed-spent false b c h = or_left b c h

-- of two ends of a list one is an end of the other
abbrev rest : List Entry → List Entry
rest [] = []
rest (x ∷ xs) = xs

two-ends : (a b c d : List Entry) → a ++ b ≡ c ++ d → ((xs : List Entry) × (b ≡ xs ++ d)) ⊎ ((xs : List Entry) × (d ≡ xs ++ b))
two-ends [] b c d e = inl (c, e)
two-ends (x ∷ a) b [] d e = inr (x ∷ a, sym e)
two-ends (x ∷ a) b (y ∷ c) d e = two-ends a b c d (ap rest e)

end-of : (test : List Entry → Bool) (es : List Entry) → some_end test es ≡ true → (earlier later : List Entry) × (es ≡ earlier ++ later) × (test later ≡ true)
end-of test [] h = ([], [], refl, h)
end-of test (x ∷ es) h =
    ⊎_elim
    (λ (a : test (x ∷ es) ≡ true). ([], x ∷ es, refl, a))
    (λ (b : some_end test es ≡ true). let r = end-of test es b in (x ∷ r.0, r.1, ap (λ zs. x ∷ zs) r.2, r.3))
    (or_cases _ _ h)

module _ (sh : Shape) where
  -- the packets that were taken are excused
  abbrev excused : (s : Search) (es : List Entry) → IsSearched sh s es → ℕ → Bool
  excused Open es i p = false
  excused (Tried n) es i p = was_got p i.1

  tried-of : (s : Search) (h : Held) (es : List Entry) (i : IsSearched sh s es) → IsTried sh (excused s es i) s h es
  tried-of Open h es i = tt
  tried-of (Tried n) h es i = (
    i.0,
    i.1,
    i.2,
    record {
      missed = i.3.missed;
      spent =
          λ p low which.
          ⊎_elim
          (λ (l : p < n). missed-spent (was_got p i.1) (was_missed high_pool_number p i.1) (was_got p i.1 && was_filled (fill_of sh h p) p i.1) (i.3.passed p low l))
          (λ (g : was_got p i.1 ≡ true). or_left _ _ g)
          which;
    },
  )

  -- the longer one of two ends in which packets were tried
  record Longer (but : ℕ → Bool) (end all : List Entry) : Type 0 where
    earlier : List Entry
    later : List Entry
    whole : all ≡ earlier ++ later
    missed : all_missed sh spare_pools later ≡ true
    passed : (m p : ℕ) → (but p || is_spent m p end) ≡ true → is_passed p later ≡ true

  longer : (s : Search) (before : List Entry) (i : IsSearched sh s before) (xs front end : List Entry) → before ++ xs ≡ front ++ end → all_missed sh spare_pools end ≡ true → Longer (excused s before i) end (before ++ xs)
  longer Open before i xs front end e missed = record { earlier = front; later = end; whole = e; missed = missed; passed = λ m p h. spent-passed m p end h }
  longer (Tried n) before i xs front end e missed =
      let known : List Entry = i.1 in
      let all : before ++ xs ≡ i.0 ++ (known ++ xs) = ap (λ zs. zs ++ xs) i.2 ∙ append_assoc i.0 known xs in
      ⊎_elim
      (λ (r : (ys : List Entry) × (known ++ xs ≡ ys ++ end)).
      record {
        earlier = i.0;
        later = known ++ xs;
        whole = all;
        missed = all-missed-left sh spare_pools known xs i.3.missed;
        passed =
            λ m p h.
            ⊎_elim
            (λ (a : was_got p known ≡ true). or_left _ _ (some-left (gets p) known xs a))
            (λ (b : is_spent m p end ≡ true). subst (λ zs. is_passed p zs ≡ true) (sym r.1) (passed-right p r.0 end (spent-passed m p end b)))
            (or_cases _ _ h);
      })
      (λ (r : (ys : List Entry) × (end ≡ ys ++ (known ++ xs))).
      record {
        earlier = front;
        later = end;
        whole = e;
        missed = missed;
        passed =
            λ m p h.
            ⊎_elim
            (λ (a : was_got p known ≡ true). subst (λ zs. is_passed p zs ≡ true) (sym r.1) (passed-right p r.0 (known ++ xs) (or_left _ _ (some-left (gets p) known xs a))))
            (λ (b : is_spent m p end ≡ true). spent-passed m p end b)
            (or_cases _ _ h);
      })
      (two-ends i.0 (known ++ xs) front end (sym all ∙ e))

  searched-of : (s t : Search) (k : Held) (before xs : List Entry) (i : IsSearched sh s before) → IsTried sh (excused s before i) t k (before ++ xs) → IsSearched sh t (before ++ xs)
  searched-of s Open k before xs i j = tt
  searched-of s (Tried n) k before xs i j =
      let c = longer s before i xs j.0 j.1 j.2 j.3.missed in
      (c.earlier, c.later, c.whole, record { missed = c.missed; passed = λ p low l. c.passed (fill_of sh k p) p (j.3.spent p low (inl l)) })

  -- packets are looked for in a scan
  searched-on : (s t : Search) (h k : Held) (es : List Entry) → Leads sh s t h k es → (before : List Entry) → IsSearched sh s before → IsSearched sh t (before ++ es)
  searched-on s t h k es leads before i = searched-of s t k before es i (leads (excused s before i) before (tried-of s h before i))

  -- all packets were tried
  end-tried : (s : Search) (before : List Entry) (i : IsSearched sh s before) (xs : List Entry) → some_end (all_tried sh (excused s before i)) (before ++ xs) ≡ true → some_end (tries_all sh) (before ++ xs) ≡ true
  end-tried s before i xs h =
      let but : ℕ → Bool = excused s before i in
      let e = end-of (all_tried sh but) (before ++ xs) h in
      let parts = and_parts (all_missed sh spare_pools e.1) (list_all (λ p. but p || is_spent sh.entries p e.1) (range_with_len 0 sh.packets)) e.3 in
      let c = longer s before i xs e.0 e.1 e.2 parts.0 in
      subst (λ zs. some_end (tries_all sh) zs ≡ true) (sym c.whole)
      (end-more (tries_all sh) c.earlier c.later
      (end-whole (tries_all sh) c.later
      (and_from _ _ c.missed
      (all-more (λ p. but p || is_spent sh.entries p e.1) (λ p. is_passed p c.later) (λ p a. c.passed sh.entries p a) (range_with_len 0 sh.packets) parts.1))))

  grown : (s : Search) (before : List Entry) (i : IsSearched sh s before) (xs es : List Entry) → each_after (some_end (all_tried sh (excused s before i))) dirties (before ++ xs) es ≡ true → DirtiesOnceTried sh (before ++ xs) es
  grown s before i xs [] h = refl
  grown s before i xs (e ∷ es) h =
      let test : List Entry → Bool = some_end (all_tried sh (excused s before i)) in
      let parts = and_parts _ (each_after test dirties ((before ++ xs) ++ e ∷ []) es) h in
      let same = append_assoc before xs (e ∷ []) in
      and_from _ _ (either-way _ _ _ _ (λ a. a) (end-tried s before i xs) parts.0)
      (subst (λ zs. DirtiesOnceTried sh zs es) (sym same) (grown s before i (xs ++ e ∷ []) es (subst (λ zs. each_after test dirties zs es ≡ true) same parts.1)))

  -- an object was scanned
  pub searches-scan : (s t : Search) (h k : Held) (es : List Entry) → SearchesOn sh s t h k es → Searches sh s t es
  searches-scan s t h k es on =
      record {
        cause =
            λ before i.
            let test : List Entry → Bool = some_end (all_tried sh (excused s before i)) in
            subst (λ zs. DirtiesOnceTried sh zs es) (append-nil before)
            (grown s before i [] es (subst (λ zs. each_after test dirties zs es ≡ true) (sym (append-nil before)) (on.cause (excused s before i) before (tried-of s h before i))));
        leads = searched-on s t h k es on.leads;
      }

  -- one part after another
  pub searches-join : (s t u : Search) (xs ys es : List Entry) → es ≡ xs ++ ys → Searches sh s t xs → Searches sh t u ys → Searches sh s u es
  searches-join s t u xs ys es all a b =
      record {
        cause =
            λ before i.
            subst (DirtiesOnceTried sh before) (sym all) (after-join (some_end (tries_all sh)) dirties before xs ys (a.cause before i) (b.cause (before ++ xs) (a.leads before i)));
        leads = λ before i. subst (IsSearched sh u) (append_assoc before xs ys ∙ ap (λ zs. before ++ zs) (sym all)) (b.leads (before ++ xs) (a.leads before i));
      }

  -- what was tried stays so
  stays : (s : Search) (before es : List Entry) → IsSearched sh s before → IsSearched sh s (before ++ es)
  stays Open before es i = tt
  stays (Tried n) before es i =
      let later : List Entry = i.1 in
      let t = i.3 in (
        i.0,
        later ++ es,
        ap (λ l. l ++ es) i.2 ∙ append_assoc i.0 later es,
        record {
          missed = all-missed-left sh spare_pools later es t.missed;
          passed = λ p low l. passed-left p later es (t.passed p low l);
        },
      )

  -- no card was dirtied, and nothing searched for
  pub searches-still : (s : Search) (es : List Entry) → some_event dirties es ≡ false → Searches sh s s es
  searches-still s es quiet = record { cause = λ before i. after-none (some_end (tries_all sh)) dirties before es quiet; leads = λ before i. stays s before es i }

  -- the search begins anew
  pub searches-anew : (s t : Search) (es : List Entry) → t ≡ Open → some_event dirties es ≡ false → Searches sh s t es
  searches-anew s t es anew quiet = record { cause = λ before i. after-none (some_end (tries_all sh)) dirties before es quiet; leads = λ before i. subst (λ x. IsSearched sh x (before ++ es)) (sym anew) tt }

  -- a packet was looked for
  pub searches-looked : (s t : Search) (h k : Held) (es : List Entry) → some_event dirties es ≡ false → Leads sh s t h k es → Searches sh s t es
  searches-looked s t h k es quiet leads = record { cause = λ before i. after-none (some_end (tries_all sh)) dirties before es quiet; leads = searched-on s t h k es leads }

  all-tried : (es : List Entry) → IsSearched sh (Tried sh.packets) es → some_end (tries_all sh) es ≡ true
  all-tried es i =
      ap (some_end (tries_all sh)) i.2
      ∙ end-more (tries_all sh) i.0 i.1
      (end-whole (tries_all sh) i.1
      (and_from _ _ i.3.missed (all-range (λ p. is_passed p i.1) 0 sh.packets (λ p l. let low : p < sh.packets = omega (arith, l) in i.3.passed p low low))))

  -- all packets were tried, and a card dirtied
  pub searches-spill : (s : Search) (card n : ℕ) (es : List Entry) → s ≡ Tried sh.packets → es ≡ entry_of (DirtyCard card) n ∷ [] → Searches sh s s es
  searches-spill s card n es over is =
      subst (Searches sh s s) (sym is)
      (record {
        cause = λ before i. and_from _ _ (all-tried before (subst (λ x. IsSearched sh x before) over i)) refl;
        leads = λ before i. stays s before (entry_of (DirtyCard card) n ∷ []) i;
      })

-- by the count of the cards that were dirtied
pub quiet-of : (es : List Entry) → count_of dirties es ≡ 0 → some_event dirties es ≡ false
quiet-of [] c = refl
quiet-of (e ∷ es) c = let h = parts (dirties e.step e.found) (count_of dirties es) c in or_from _ _ h.0 (quiet-of es h.1)
  where
    parts : (b : Bool) (n : ℕ) → cond b 1 0 + n ≡ 0 → (b ≡ false) × (n ≡ 0)
    parts true n c = absurd (omega (arith, c))
    parts false n c = (refl, omega (arith, c))
