-- The search for levels, round by round, and what it finds.
use Rattle.std.proofs.Common.{◌≡◌, ℕ, zero, suc, ◌+◌, ◌-◌, ◌<◌, ◌≤◌, List, [], ◌∷◌, ◌++◌, length, get_or, map, Option, Some, None, All, refl, sym, ap, subst, ◌∙◌, inl, inr, arith}
use Rattle.std.specs.Prelude.{count_by, replicate}
use Rattle.std.specs.List.{range_with_len}
use Rattle.std.proofs.lemmas.Bool.{cases_eq, cases_lt}
use Rattle.std.proofs.lemmas.List.{ext_get_or, length-replicate, length_push, get_or_push, get_or_append_left}
use Rattle.std.specs.Prelude.{Result, Ok, Err, OnOk}
use Rattle.std.proofs.lemmas.List.Elements.{All-from_get_or}
use Rattle.std.proofs.lemmas.List.FromFn.{length-map-range_with_len, get_or-map-range_with_len}
use Rattle.heap_dump.specs.Final.{DumpedHeap, object, HasDump}
use Rattle.dump_census.specs.Levels.{HasPath, IsLevel, AreLevels}
use Rattle.dump_census.specs.Rounds.{Progress, is_at, is_unknown, reach_all, reach_from, IsSearch, AreCounts, IsLeveling}
use Rattle.dump_census.specs.Counted.{depth, level_counts}
use Rattle.dump_census.proofs.Found.{Found, at, known_not_new, known_within, same_level, none_at, some_at, nothing_known, all_unknown}
use Rattle.dump_census.proofs.Rounding.{Advances, nothing_advances, then_advances, Steps, IsReached, reached_later, Leads, all_steps, root_within, field_within}

-- ---- all references of some records

-- these records end paths of this length
abbrev Ends : DumpedHeap → ℕ → List ℕ → Type 0
Ends h level ks = (i : ℕ) → i < length ks → (get_or ks i 0 < length h.records) × HasPath h level (get_or ks i 0)

leads_on : (h : DumpedHeap) (level k : ℕ) → HasDump h → k < length h.records → HasPath h level k → Leads h (suc level) (object h k).refs
leads_on h level k legal lt path = record { within = field_within h legal k lt; path = λ i j small e. (k, path, (i, small, e)) }

pub record ReachesFrom (h : DumpedHeap) (level known : ℕ) (s t : Progress) (ks : List ℕ) : Type 0 where
  pub steps : Steps h level known s t
  pub each : (i : ℕ) → i < length ks → (f : ℕ) → f < length (object h (get_or ks i 0)).refs → IsReached t (get_or (object h (get_or ks i 0)).refs f 0)

from_steps : (h : DumpedHeap) (level known : ℕ) (s : Progress) (ks : List ℕ) → HasDump h → IsSearch h (suc level) known s → Ends h level ks
    → ReachesFrom h (suc level) known s (reach_from h (suc level) s ks) ks
from_steps h level known s [] legal q ends = record { steps = record { search = q; advances = nothing_advances (suc level) s }; each = λ i lt. absurd (omega arith) }
from_steps h level known s (k ∷ ks) legal q ends =
    let first = all_steps h (suc level) known s (object h k).refs q (leads_on h level k legal (ends 0 (omega arith)).0 (ends 0 (omega arith)).1) in
    let later = from_steps h level known (reach_all (suc level) s (object h k).refs) ks legal first.steps.search (λ i lt. ends (suc i) (omega arith)) in
    record {
      steps = record { search = later.steps.search; advances = then_advances (suc level) _ _ _ first.steps.advances later.steps.advances };
      each = each_of h k ks (reach_from h (suc level) (reach_all (suc level) s (object h k).refs) ks)
          (λ f lt. reached_later (suc level) _ _ (get_or (object h k).refs f 0) later.steps.advances (first.each f lt)) later.each;
    }
  where
    each_of : (h : DumpedHeap) (k : ℕ) (ks : List ℕ) (t : Progress) → ((f : ℕ) → f < length (object h k).refs → IsReached t (get_or (object h k).refs f 0))
        → ((i : ℕ) → i < length ks → (f : ℕ) → f < length (object h (get_or ks i 0)).refs → IsReached t (get_or (object h (get_or ks i 0)).refs f 0))
        → (i : ℕ) → i < length (k ∷ ks) → (f : ℕ) → f < length (object h (get_or (k ∷ ks) i 0)).refs → IsReached t (get_or (object h (get_or (k ∷ ks) i 0)).refs f 0)
    each_of h k ks t a b zero lt = a
    each_of h k ks t a b (suc i) lt = b i (omega arith)

-- ---- one round

abbrev pub cleared : Progress → Progress
cleared s = record { found = s.found; fresh = [] }

next_search : (h : DumpedHeap) (level : ℕ) (s : Progress) → IsSearch h level (suc level) s → IsSearch h (suc level) (suc level) (cleared s)
next_search h level s q =
    let none : (k : ℕ) → at s.found k ≡ Some (suc level) → ⊥ = λ k e. absurd (omega (arith, (q.sound k (suc level) e).1)) in
    record {
      long = q.long;
      sound = λ k n e. let p = q.sound k n e in (p.0, omega (arith, p.1));
      complete = q.complete;
      listed = λ k e. absurd (none k e);
      fresh = λ i lt. absurd (omega arith);
      counted = sym (none_at s.found (suc level) none);
    }

-- the records that were found last end paths
ends_of : (h : DumpedHeap) (level known : ℕ) (s : Progress) → IsSearch h level known s → Ends h level s.fresh
ends_of h level known s q i lt =
    let e = q.fresh i lt in
    (omega (arith, known_within s.found (get_or s.fresh i 0) level e, q.long), (q.sound (get_or s.fresh i 0) level e).0)

-- a path to a record of the next level
last_complete : (h : DumpedHeap) (level : ℕ) (s t : Progress) → IsSearch h level (suc level) s → ReachesFrom h (suc level) (suc level) (cleared s) t s.fresh
    → (k : ℕ) → HasPath h (suc level) k → (least : ℕ) × (least ≤ suc level) × (at t.found k ≡ Some least)
last_complete h level s t q r k (j, path, names) =
    let before = q.complete j level (omega arith) path in
    elim (cases_eq before.0 level) [
      | inl same ↦ (
          let here : at s.found j ≡ Some level = before.2 ∙ ap Some same in
          let l = q.listed j here in
          let each : (g : ℕ) → g < length (object h j).refs → IsReached t (get_or (object h j).refs g 0) =
          subst (λ i. (g : ℕ) → g < length (object h i).refs → IsReached t (get_or (object h i).refs g 0)) l.2 (r.each l.0 l.1) in
          let found = each names.0 names.1 k names.2 in
          (found.0, (r.steps.search.sound k found.0 found.1).1, found.1))
      | inr sooner ↦ (
          let path_before = (q.sound j before.0 before.2).0 in
          let l = r.steps.search.complete k (suc before.0) (omega (arith, before.1)) (j, path_before, names) in
          (l.0, omega (arith, l.1, before.1), l.2))
    ]

round_search : (h : DumpedHeap) (level : ℕ) (s t : Progress) → IsSearch h level (suc level) s → ReachesFrom h (suc level) (suc level) (cleared s) t s.fresh
    → IsSearch h (suc level) (suc (suc level)) t
round_search h level s t q r =
    let u = r.steps.search in
    record {
      long = u.long;
      sound = u.sound;
      complete = λ k n less path. elim (cases_eq n (suc level)) [
        | inl same ↦ (
            let l = last_complete h level s t q r k (subst (λ m. HasPath h m k) same path) in
            (l.0, omega (arith, l.1), l.2))
        | inr other ↦ u.complete k n (omega arith) path
      ];
      listed = u.listed;
      fresh = u.fresh;
      counted = u.counted;
    }

pub round : (h : DumpedHeap) (s : Progress) (level : ℕ) → HasDump h → IsSearch h level (suc level) s
    → IsSearch h (suc level) (suc (suc level)) (reach_from h (suc level) (cleared s) s.fresh) × Advances (suc level) (cleared s) (reach_from h (suc level) (cleared s) s.fresh)
round h s level legal q =
    let r = from_steps h level (suc level) (cleared s) s.fresh legal (next_search h level s q) (ends_of h level (suc level) s q) in
    (round_search h level s _ q r, r.steps.advances)

-- ---- the counts of levels

pub counts_more : (found later : Found) (counts : List ℕ) (x : ℕ) → AreCounts found counts → x ≡ count_by (is_at (length counts)) found → 0 < x
    → ((n : ℕ) → n < suc (length counts) → count_by (is_at n) later ≡ count_by (is_at n) found) → AreCounts later (counts ++ x ∷ [])
counts_more found later counts x are is some same n lt =
    let long = length_push counts x in
    elim (cases_lt n (length counts)) [
      | inl old ↦ (
          let e = get_or_append_left counts (x ∷ []) 0 n old in
          (e ∙ (are n old).0 ∙ sym (same n (omega arith)), omega (arith, e, (are n old).1)))
      | inr last ↦ (
          let here : length counts ≡ n = omega arith in
          let e = get_or_push counts x 0 n here in
          (e ∙ is ∙ ap (λ m. count_by (is_at m) found) here ∙ sym (same n (omega arith)), omega (arith, e)))
    ]

-- ---- the first round

start : (h : DumpedHeap) → IsSearch h 0 0 (record { found = replicate (length h.records) None; fresh = [] })
start h =
    let none : (k n : ℕ) → at (replicate (length h.records) None) k ≡ Some n → ⊥ = λ k n e. known_not_new (at (replicate (length h.records) None) k) n (nothing_known (length h.records) k) e in
    record {
      long = length-replicate (length h.records) None;
      sound = λ k n e. absurd (none k n e);
      complete = λ k n lt. absurd (omega arith);
      listed = λ k e. absurd (none k 0 e);
      fresh = λ i lt. absurd (omega arith);
      counted = sym (none_at (replicate (length h.records) None) 0 (λ k e. none k 0 e));
    }

pub first : (h : DumpedHeap) (records : ℕ) (t : Progress) → HasDump h → records ≡ length h.records → t ≡ reach_all 0 (record { found = replicate records None; fresh = [] }) h.roots → IsLeveling h t []
first h records t legal count is =
    let from : ℕ → Progress = λ n. record { found = replicate n None; fresh = [] } in
    let r = all_steps h 0 0 (from (length h.records)) h.roots (start h) (record { within = root_within h legal; path = λ i k lt e. (i, lt, e) }) in
    let u = r.steps.search in
    let whole : IsLeveling h (reach_all 0 (from (length h.records)) h.roots) [] = record {
      search = record {
        long = u.long;
        sound = u.sound;
        complete = λ k n less path.
            let none : n ≡ 0 = omega arith in
            let held = subst (λ m. HasPath h m k) none path in
            let found = r.each held.0 held.1 k held.2 in
            (found.0, omega (arith, (u.sound k found.0 found.1).1), found.1);
        listed = u.listed;
        fresh = u.fresh;
        counted = u.counted;
      };
      counted = λ n lt. absurd (omega arith);
      few = omega (arith, r.steps.advances.rest, all_unknown (length h.records));
    } in
    subst (λ p. IsLeveling h p []) (sym (is ∙ ap (λ n. reach_all 0 (from n) h.roots) count)) whole

-- ---- the end

-- every path's end has a level that is no greater
any_path : (h : DumpedHeap) (level : ℕ) (s : Progress) → IsSearch h level (suc level) s → length s.fresh ≡ 0 → (n k : ℕ) → HasPath h n k → (least : ℕ) × (least ≤ n) × (at s.found k ≡ Some least)
any_path h level s q none zero k path = q.complete k zero (omega arith) path
any_path h level s q none (suc n) k (j, path, names) =
    let before = any_path h level s q none n j path in
    let known = q.sound j before.0 before.2 in
    let sooner : before.0 ≡ level → ⊥ = λ same. let l = q.listed j (before.2 ∙ ap Some same) in absurd (omega (arith, l.1)) in
    let l = q.complete k (suc before.0) (omega (arith, known.1)) (j, known.0, names) in
    (l.0, omega (arith, l.1, before.1), l.2)

level_is : (h : DumpedHeap) (level : ℕ) (s : Progress) → IsSearch h level (suc level) s → length s.fresh ≡ 0 → (k : ℕ) (o : Option ℕ) → at s.found k ≡ o → IsLevel h k o
level_is h level s q none k None e = λ n path. let l = any_path h level s q none n k path in known_not_new (at s.found k) l.0 e l.2
level_is h level s q none k (Some m) e = (
  (q.sound k m e).0,
  λ n path.
      let l = any_path h level s q none n k path in
      let same : l.0 ≡ m = same_level l.0 m (sym l.2 ∙ e) in
      omega (arith, l.1),
)

depth_within : (found : Found) (top : ℕ) → ((k n : ℕ) → at found k ≡ Some n → n < top) → depth found ≤ top
depth_within [] top h = omega arith
depth_within (None ∷ found) top h = depth_within found top (λ k n e. h (suc k) n e)
depth_within (Some m ∷ found) top h = omega (arith, h 0 m refl, depth_within found top (λ k n e. h (suc k) n e))

below_depth : (found : Found) (k n : ℕ) → at found k ≡ Some n → n < depth found
below_depth [] zero n e = absurd (known_not_new None n refl e)
below_depth [] (suc k) n e = absurd (known_not_new None n refl e)
below_depth (None ∷ found) zero n e = absurd (known_not_new None n refl e)
below_depth (None ∷ found) (suc k) n e = below_depth found k n e
below_depth (Some m ∷ found) zero n e = omega (arith, same_level m n e)
below_depth (Some m ∷ found) (suc k) n e = omega (arith, below_depth found k n e)

depth_is : (found : Found) (counts : List ℕ) → AreCounts found counts → ((k n : ℕ) → at found k ≡ Some n → n < length counts) → depth found ≡ length counts
depth_is found counts are below =
    let most = depth_within found (length counts) below in
    elim (cases_eq (length counts) 0) [
      | inl none ↦ omega arith
      | inr some ↦ (
          let last : length counts - 1 < length counts = omega arith in
          let p = are (length counts - 1) last in
          let l = some_at found (length counts - 1) (omega (arith, p.0, p.1)) in
          omega (arith, below_depth found l.0 (length counts - 1) l.1))
    ]

counts_are : (found : Found) (counts : List ℕ) → AreCounts found counts → depth found ≡ length counts → counts ≡ level_counts found
counts_are found counts are e =
    let f = λ (n : ℕ). count_by (is_at n) found in
    let long : length counts ≡ length (map f (range_with_len 0 (depth found))) = omega (arith, e, length-map-range_with_len f 0 (depth found)) in
    ext_get_or 0 counts (map f (range_with_len 0 (depth found))) long (λ n lt.
    (are n lt).0 ∙ sym (get_or-map-range_with_len f 0 (depth found) n n 0 (omega arith) (omega arith)))

pub levels_found : (h : DumpedHeap) (s : Progress) (counts : List ℕ) → IsLeveling h s counts → length s.fresh ≡ 0 → AreLevels h s.found × (counts ≡ level_counts s.found)
levels_found h s counts l none =
    let q = l.search in
    let below : (k n : ℕ) → at s.found k ≡ Some n → n < length counts = λ k n e.
    let last : n ≡ length counts → ⊥ = λ same. let x = q.listed k (e ∙ ap Some same) in absurd (omega (arith, x.1)) in
    omega (arith, (q.sound k n e).1) in
    ((q.long, λ k lt. level_is h (length counts) s q none k (at s.found k) refl), counts_are s.found counts l.counted (depth_is s.found counts l.counted below))

-- one round, as the code makes it
pub leveling_more : (h : DumpedHeap) (s t : Progress) (counts : List ℕ) (x level : ℕ) → HasDump h → IsLeveling h s counts → 0 < length s.fresh → x ≡ length s.fresh → level ≡ length (counts ++ x ∷ [])
    → t ≡ reach_from h level (cleared s) s.fresh
    → IsLeveling h t (counts ++ x ∷ []) × (count_by is_unknown t.found + length t.fresh < count_by is_unknown s.found + length s.fresh)
leveling_more h s t counts x level legal l some is len made =
    let long = length_push counts x in
    let next : level ≡ suc (length counts) = omega arith in
    let r = round h s (length counts) legal l.search in
    let same : reach_from h (suc (length counts)) (cleared s) s.fresh ≡ t = sym (made ∙ ap (λ n. reach_from h n (cleared s) s.fresh) next) in
    let search : IsSearch h (suc (length counts)) (suc (suc (length counts))) t = subst (λ p. IsSearch h (suc (length counts)) (suc (suc (length counts))) p) same r.0 in
    let advances : Advances (suc (length counts)) (cleared s) t = subst (λ p. Advances (suc (length counts)) (cleared s) p) same r.1 in
    let longer : suc (length counts) ≡ length (counts ++ x ∷ []) = omega arith in (
      record {
        search = subst (λ n. IsSearch h n (suc n) t) longer search;
        counted = counts_more s.found t.found counts x l.counted (is ∙ l.search.counted) (omega arith) advances.counts;
        few = omega (arith, l.few, advances.rest);
      },
      omega (arith, advances.rest),
    )

pub round_made : (h : DumpedHeap) (s before t : Progress) (counts longer front : List ℕ) (x level : ℕ) → HasDump h → IsLeveling h s counts → 0 < length s.fresh → before ≡ cleared s → front ≡ s.fresh
    → x ≡ length front → longer ≡ counts ++ x ∷ [] → level ≡ length longer → t ≡ reach_from h level before front
    → IsLeveling h t longer × (count_by is_unknown t.found + length t.fresh < count_by is_unknown s.found + length s.fresh)
round_made h s before t counts longer front x level legal l some b f is pushed len made =
    let same = made ∙ ap (λ (p : Progress). reach_from h level p front) b ∙ ap (reach_from h level (cleared s)) f in
    let r = leveling_more h s t counts x level legal l some (is ∙ ap length f) (len ∙ ap length pushed) same in
    (subst (λ (c : List ℕ). IsLeveling h t c) (sym pushed) r.0, r.1)

-- the records that were found last are the heap's
pub fresh_within : (h : DumpedHeap) (s : Progress) (counts front : List ℕ) → IsLeveling h s counts → front ≡ s.fresh → All (λ k. k < length h.records) front
fresh_within h s counts front l e =
    subst (λ (ks : List ℕ). All (λ k. k < length h.records) ks) (sym e) (All-from_get_or (λ k. k < length h.records) s.fresh 0 (λ i lt. (ends_of h _ _ s l.search i lt).0))

pub on_ok : {T E : Type 0} (r : Result T E) (P Q : Type 0) → (P → Q) → OnOk r P → OnOk r Q
on_ok (Ok x) P Q f p = f p
on_ok (Err e) P Q f p = tt
