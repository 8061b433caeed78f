use Rattle.std.proofs.Common.{◌≡◌, ℕ, zero, suc, ◌<◌, ◌≤◌, List, length, map, sym, ap, ◌∙◌, inl, inr, arith}
use Rattle.std.specs.Prelude.{count_by}
use Rattle.std.proofs.lemmas.Bool.{cases_eq, cases_lt}
use Rattle.std.proofs.lemmas.List.{ext_get_or}
use Rattle.heap_dump.specs.Final.{Object}
use Rattle.dump_census.specs.declared.counts.SectionCount.{SectionCount}
use Rattle.dump_census.specs.declared.counts.ValueCount.{ValueCount}
use Rattle.dump_census.specs.Counted.{CensusCounts, level_counts}
use Rattle.dump_census.specs.Rounds.{is_unknown}
use Rattle.dump_census.specs.Surviving.{OneCensus}
use Rattle.dump_census.specs.Values.{value_count_at, occurrences, AreValueCounts}
use Rattle.dump_census.proofs.Found.{levels_fixed}
use Rattle.dump_census.proofs.Tally.{rises_to}
use Rattle.dump_census.proofs.laws.one_census.Goals as goal

-- A dump has one census.
-- the values stand in order, so that a greater one comes later
later : (values : List ℕ) (vs : List ValueCount) (i j : ℕ) → AreValueCounts values vs → i < length vs → (value_count_at vs i).value < (value_count_at vs j).value → i < j
later values vs i j a inside less =
    elim (cases_lt i j) [
      | inl before ↦ before
      | inr after ↦ elim (cases_eq i j) [
        | inl same ↦ absurd (omega (arith, less, ap (λ (k : ℕ). (value_count_at vs k).value) same))
        | inr other ↦ absurd (omega (arith, less, rises_to vs a.rising j i (omega (arith, after, other)) inside))
      ]
    ]

-- the place of a value that the one list has, in the other
record Match (vs ws : List ValueCount) (i : ℕ) : Type 0 where
  place : ℕ
  inside : place < length ws
  same : (value_count_at ws place).value ≡ (value_count_at vs i).value
  beyond : i ≤ place

matched : (values : List ℕ) (vs ws : List ValueCount) (i : ℕ) → AreValueCounts values vs → AreValueCounts values ws → i < length vs → Match vs ws i
matched values vs ws zero a b lt =
    let found = b.each (value_count_at vs zero).value (omega (arith, (a.counted zero lt).0, (a.counted zero lt).1)) in
    record { place = found.0; inside = found.1; same = found.2; beyond = omega arith }
matched values vs ws (suc i) a b lt =
    let found = b.each (value_count_at vs (suc i)).value (omega (arith, (a.counted (suc i) lt).0, (a.counted (suc i) lt).1)) in
    let before = matched values vs ws i a b (omega (arith, lt)) in
    let less = later values ws before.place found.0 b before.inside (omega (arith, before.same, found.2, a.rising i lt)) in
    record { place = found.0; inside = found.1; same = found.2; beyond = omega (arith, before.beyond, less) }

-- so the two lists have the same at each place
agree : (values : List ℕ) (vs ws : List ValueCount) (i : ℕ) → AreValueCounts values vs → AreValueCounts values ws → i < length vs → (i < length ws) × (value_count_at vs i ≡ value_count_at ws i)
agree values vs ws i a b lt = (inside, whole (value_count_at vs i) (value_count_at ws i) value (omega (arith, (a.counted i lt).0, (b.counted i inside).0, ap (occurrences values) value)))
  where
    there : Match vs ws i
    there = matched values vs ws i a b lt

    back : Match ws vs there.place
    back = matched values ws vs there.place b a there.inside

    place : there.place ≡ i
    place =
        elim (cases_lt i back.place) [
          | inl more ↦ absurd (omega (arith, rises_to vs a.rising i back.place more back.inside, back.same, there.same))
          | inr less ↦ (let e : there.place ≡ i = omega (arith, there.beyond, back.beyond, less) in e)
        ]

    inside : i < length ws
    inside = omega (arith, place, there.inside)

    value : (value_count_at vs i).value ≡ (value_count_at ws i).value
    value = sym there.same ∙ ap (λ (k : ℕ). (value_count_at ws k).value) place

    whole : (x y : ValueCount) → x.value ≡ y.value → x.count ≡ y.count → x ≡ y
    whole x y p q = ap (λ (n : ℕ). record { value = n; count = x.count }) p ∙ ap (λ (n : ℕ). record { value = y.value; count = n }) q

no_longer : (values : List ℕ) (vs ws : List ValueCount) → AreValueCounts values vs → AreValueCounts values ws → length vs ≤ length ws
no_longer values vs ws a b =
    elim (cases_lt (length ws) (length vs)) [
      | inl more ↦ absurd (omega (arith, (agree values vs ws (length ws) a b more).0))
      | inr less ↦ less
    ]

same_values : (values : List ℕ) (vs ws : List ValueCount) → AreValueCounts values vs → AreValueCounts values ws → vs ≡ ws
same_values values vs ws a b =
    ext_get_or (record { value = 0; count = 0 }) vs ws (omega (arith, no_longer values vs ws a b, no_longer values ws vs b a)) (λ i lt. (agree values vs ws i a b lt).1)

one_census : OneCensus
one_census h c d p q = whole c d levels unreached (p.sections ∙ sym q.sections) (same_values (map (λ (o : Object). o.value) h.records) c.values d.values p.values q.values)
  where
    fixed : p.of ≡ q.of
    fixed = levels_fixed h p.of q.of p.leveled q.leveled

    levels : c.levels ≡ d.levels
    levels = p.levels ∙ (ap level_counts fixed ∙ sym q.levels)

    unreached : c.unreached ≡ d.unreached
    unreached = p.unreached ∙ (ap (count_by is_unknown) fixed ∙ sym q.unreached)

    whole : (x y : CensusCounts) → x.levels ≡ y.levels → x.unreached ≡ y.unreached → x.sections ≡ y.sections → x.values ≡ y.values → x ≡ y
    whole x y l u s v =
        ap (λ (n : List ℕ). record x { levels = n }) l
        ∙ (ap (λ (n : ℕ). record { levels = y.levels; unreached = n; sections = x.sections; values = x.values }) u
        ∙ (ap (λ (n : List SectionCount). record { levels = y.levels; unreached = y.unreached; sections = n; values = x.values }) s
        ∙ ap (λ (n : List ValueCount). record { levels = y.levels; unreached = y.unreached; sections = y.sections; values = n }) v))

pub returns : goal.returns
returns c = one_census
