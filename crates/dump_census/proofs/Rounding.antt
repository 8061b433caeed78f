-- The search for levels, one reference, one record and one round at a time.
use Rattle.std.proofs.Common.{◌≡◌, ℕ, zero, suc, ◌+◌, ◌<◌, ◌≤◌, List, [], ◌∷◌, ◌++◌, length, get_or, set, take, cond, Option, Some, None, refl, sym, ap, subst, ◌∙◌, inl, inr, arith}
use Rattle.std.specs.Prelude.{count_by}
use Rattle.std.proofs.lemmas.Bool.{cases_lt}
use Rattle.std.proofs.lemmas.List.{length-set, get_or-set_same, length_push, get_or_push, get_or_append_left}
use Rattle.std.proofs.lemmas.List.Sums.{fold_more}
use Rattle.heap_dump.specs.Final.{DumpedHeap, object, HasDump, RefersWithin}
use Rattle.dump_census.specs.Levels.{HasPath}
use Rattle.dump_census.specs.Rounds.{Progress, is_at, is_unknown, reach, reach_all, reach_from, IsSearch}
use Rattle.dump_census.proofs.Found.{at, one, cases_known, set_shows, set_keeps, set_counts, at_level, at_other}

-- the length of what is found stays
reach_long_at : (level : ℕ) (s : Progress) (k : ℕ) (o : Option ℕ) → at s.found k ≡ o → length (reach level s (suc k)).found ≡ length s.found
reach_long_at level s k None e = rw e (length-set s.found k (Some level))
reach_long_at level s k (Some n) e = rw e refl

pub reach_long : (level : ℕ) (s : Progress) (ref : ℕ) → length (reach level s ref).found ≡ length s.found
reach_long level s zero = refl
reach_long level s (suc k) = reach_long_at level s k (at s.found k) refl

pub reach_all_long : (level : ℕ) (s : Progress) (refs : List ℕ) → length (reach_all level s refs).found ≡ length s.found
reach_all_long level s [] = refl
reach_all_long level s (r ∷ refs) = reach_all_long level (reach level s r) refs ∙ reach_long level s r

-- ---- what a legal heap refers to

pub ref_within : (h : DumpedHeap) (section ref : ℕ) → RefersWithin h section ref → ref ≤ length h.records
ref_within h section ref (inl e) = omega arith
ref_within h section ref (inr p) = p.1

pub root_within : (h : DumpedHeap) → HasDump h → (i : ℕ) → i < length h.roots → get_or h.roots i 0 ≤ length h.records
root_within h legal i lt = ref_within h _ _ (legal.roots i (omega (arith, legal.variables)))

pub field_within : (h : DumpedHeap) → HasDump h → (k : ℕ) → k < length h.records → (i : ℕ) → i < length (object h k).refs → get_or (object h k).refs i 0 ≤ length h.records
field_within h legal k lt i small =
    let o = legal.objects k lt in
    ref_within h _ _ (o.refs i (omega (arith, o.fields)))

-- ---- one step of each loop

pub from_more : (h : DumpedHeap) (level : ℕ) (s t u : Progress) (ks : List ℕ) (i k : ℕ) → i < length ks → k ≡ get_or ks i 0 → t ≡ reach_from h level s (take i ks) → u ≡ reach_all level t (object h k).refs
    → u ≡ reach_from h level s (take (i + 1) ks)
from_more h level s t u ks i k lt is before turn =
    turn ∙ ap (λ (p : Progress). reach_all level p (object h k).refs) before ∙ ap (λ j. reach_all level (reach_from h level s (take i ks)) (object h j).refs) is
    ∙ sym (fold_more (λ (p : Progress) j. reach_all level p (object h j).refs) s ks i 0 lt)

pub long_stays_all : (level : ℕ) (t u : Progress) (refs : List ℕ) (n : ℕ) → u ≡ reach_all level t refs → length t.found ≡ n → length u.found ≡ n
long_stays_all level t u refs n turn e = ap (λ (p : Progress). length p.found) turn ∙ reach_all_long level t refs ∙ e

-- ---- one step of the search

-- what the records of this level change: no level that was known, and no count of a level before
pub record Advances (level : ℕ) (s t : Progress) : Type 0 where
  pub kept : (k n : ℕ) → at s.found k ≡ Some n → at t.found k ≡ Some n
  pub older : (k n : ℕ) → n < level → at t.found k ≡ Some n → at s.found k ≡ Some n
  pub counts : (n : ℕ) → n < level → count_by (is_at n) t.found ≡ count_by (is_at n) s.found
  pub rest : count_by is_unknown t.found + length t.fresh ≡ count_by is_unknown s.found + length s.fresh

pub nothing_advances : (level : ℕ) (s : Progress) → Advances level s s
nothing_advances level s = record { kept = λ k n e. e; older = λ k n lt e. e; counts = λ n lt. refl; rest = refl }

pub then_advances : (level : ℕ) (s t u : Progress) → Advances level s t → Advances level t u → Advances level s u
then_advances level s t u a b = record {
  kept = λ k n e. b.kept k n (a.kept k n e);
  older = λ k n lt e. a.older k n lt (b.older k n lt e);
  counts = λ n lt. b.counts n lt ∙ a.counts n lt;
  rest = b.rest ∙ a.rest;
}

-- a search after a step that gave levels to more records
pub record Steps (h : DumpedHeap) (level known : ℕ) (s t : Progress) : Type 0 where
  pub search : IsSearch h level known t
  pub advances : Advances level s t

-- the record of the reference has a level
abbrev pub IsReached : Progress → ℕ → Type 0
IsReached t ref = (k : ℕ) → ref ≡ suc k → (n : ℕ) × (at t.found k ≡ Some n)

abbrev with_level : ℕ → Progress → ℕ → Progress
with_level level s k = record { found = set s.found k (Some level); fresh = s.fresh ++ k ∷ [] }

new_advances : (level k : ℕ) (s : Progress) → k < length s.found → at s.found k ≡ None → Advances level s (with_level level s k)
new_advances level k s lt new = record {
  kept = λ j n e. set_keeps s.found k level j n new e;
  older = λ j n less e. elim (set_shows s.found k level j n lt e) [ inl p ↦ absurd (omega (arith, p.1)) | inr old ↦ old ];
  counts = λ n less.
      let other : one (is_at n) (Some level) ≡ 0 = ap (λ b. cond {A = ℕ} b 1 0) (at_other n level (λ e. omega arith)) in
      omega (arith, set_counts (is_at n) s.found k level lt new, other);
  rest = omega (arith, set_counts is_unknown s.found k level lt new, length_push s.fresh k);
}

new_listed : (h : DumpedHeap) (level known k : ℕ) (s : Progress) → IsSearch h level known s → k < length s.found → (j : ℕ) → at (set s.found k (Some level)) j ≡ Some level
    → (i : ℕ) × (i < length (s.fresh ++ k ∷ [])) × (get_or (s.fresh ++ k ∷ []) i 0 ≡ j)
new_listed h level known k s q lt j e =
    let long = length_push s.fresh k in
    elim (set_shows s.found k level j level lt e) [
      | inl p ↦ (length s.fresh, omega (arith, long), get_or_push s.fresh k 0 (length s.fresh) refl ∙ sym p.0)
      | inr old ↦ (let l = q.listed j old in (l.0, omega (arith, long, l.1), get_or_append_left s.fresh (k ∷ []) 0 l.0 l.1 ∙ l.2))
    ]

new_fresh : (h : DumpedHeap) (level known k : ℕ) (s : Progress) → IsSearch h level known s → k < length s.found → at s.found k ≡ None → (i : ℕ) → i < length (s.fresh ++ k ∷ [])
    → at (set s.found k (Some level)) (get_or (s.fresh ++ k ∷ []) i 0) ≡ Some level
new_fresh h level known k s q lt new i small =
    elim (cases_lt i (length s.fresh)) [
      | inl old ↦ ap (λ j. at (set s.found k (Some level)) j) (get_or_append_left s.fresh (k ∷ []) 0 i old) ∙ set_keeps s.found k level (get_or s.fresh i 0) level new (q.fresh i old)
      | inr last ↦ ap (λ j. at (set s.found k (Some level)) j) (get_or_push s.fresh k 0 i (omega (arith, length_push s.fresh k))) ∙ get_or-set_same s.found k (Some level) None lt
    ]

new_sound : (h : DumpedHeap) (level known k : ℕ) (s : Progress) → IsSearch h level known s → k < length s.found → HasPath h level k → (j n : ℕ) → at (set s.found k (Some level)) j ≡ Some n
    → HasPath h n j × (n ≤ level)
new_sound h level known k s q lt path j n e =
    elim (set_shows s.found k level j n lt e) [
      | inl p ↦ (subst (λ m. HasPath h m j) (sym p.1) (subst (λ i. HasPath h level i) (sym p.0) path), omega (arith, p.1))
      | inr old ↦ q.sound j n old
    ]

new_step : (h : DumpedHeap) (level known k : ℕ) (s : Progress) → IsSearch h level known s → k < length s.found → at s.found k ≡ None → HasPath h level k
    → Steps h level known s (with_level level s k)
new_step h level known k s q lt new path = record {
  search = record {
    long = length-set s.found k (Some level) ∙ q.long;
    sound = new_sound h level known k s q lt path;
    complete = λ j n less p. let l = q.complete j n less p in (l.0, l.1, set_keeps s.found k level j l.0 new l.2);
    listed = new_listed h level known k s q lt;
    fresh = new_fresh h level known k s q lt new;
    counted =
        (let here : one (is_at level) (Some level) ≡ 1 = ap (λ b. cond {A = ℕ} b 1 0) (at_level level) in
        omega (arith, set_counts (is_at level) s.found k level lt new, here, length_push s.fresh k, q.counted));
  };
  advances = new_advances level k s lt new;
}

reach_new : (level : ℕ) (s : Progress) (k : ℕ) → at s.found k ≡ None → reach level s (suc k) ≡ with_level level s k
reach_new level s k e = rw e refl

reach_known : (level : ℕ) (s : Progress) (k n : ℕ) → at s.found k ≡ Some n → reach level s (suc k) ≡ s
reach_known level s k n e = rw e refl

abbrev Reaches : DumpedHeap → ℕ → ℕ → Progress → Progress → ℕ → Type 0
Reaches h level known s t ref = Steps h level known s t × IsReached t ref

-- one reference, whose record ends a path
one_step : (h : DumpedHeap) (level known : ℕ) (s : Progress) (ref : ℕ) → IsSearch h level known s → ref ≤ length h.records → ((k : ℕ) → ref ≡ suc k → HasPath h level k)
    → Reaches h level known s (reach level s ref) ref
one_step h level known s zero q le path = (record { search = q; advances = nothing_advances level s }, λ k e. absurd (omega arith))
one_step h level known s (suc k) q le path =
    elim (cases_known (at s.found k)) [
      | inl new ↦ (
          let lt : k < length s.found = omega (arith, q.long) in
          let step = new_step h level known k s q lt new (path k refl) in
          let reached : IsReached (with_level level s k) (suc k) = λ j e.
          let same : k ≡ j = omega arith in
          (level, subst (λ i. at (set s.found k (Some level)) i ≡ Some level) same (get_or-set_same s.found k (Some level) None lt)) in
          subst (λ t. Reaches h level known s t (suc k)) (sym (reach_new level s k new)) (step, reached))
      | inr old ↦ (
          let reached : IsReached s (suc k) = λ j e.
          let same : k ≡ j = omega arith in
          (old.0, subst (λ i. at s.found i ≡ Some old.0) same old.1) in
          subst (λ t. Reaches h level known s t (suc k)) (sym (reach_known level s k old.0 old.1)) (record { search = q; advances = nothing_advances level s }, reached))
    ]

-- a record that is reached stays so
pub reached_later : (level : ℕ) (s t : Progress) (ref : ℕ) → Advances level s t → IsReached s ref → IsReached t ref
reached_later level s t ref a r = λ k e. let l = r k e in (l.0, a.kept k l.0 l.1)

-- what each of these references names is in the heap and ends a path
pub record Leads (h : DumpedHeap) (level : ℕ) (refs : List ℕ) : Type 0 where
  pub within : (i : ℕ) → i < length refs → get_or refs i 0 ≤ length h.records
  pub path : (i k : ℕ) → i < length refs → get_or refs i 0 ≡ suc k → HasPath h level k

pub record ReachesAll (h : DumpedHeap) (level known : ℕ) (s t : Progress) (refs : List ℕ) : Type 0 where
  pub steps : Steps h level known s t
  pub each : (i : ℕ) → i < length refs → IsReached t (get_or refs i 0)

pub all_steps : (h : DumpedHeap) (level known : ℕ) (s : Progress) (refs : List ℕ) → IsSearch h level known s → Leads h level refs → ReachesAll h level known s (reach_all level s refs) refs
all_steps h level known s [] q leads = record { steps = record { search = q; advances = nothing_advances level s }; each = λ i lt. absurd (omega arith) }
all_steps h level known s (ref ∷ refs) q leads =
    let first = one_step h level known s ref q (leads.within 0 (omega arith)) (λ k e. leads.path 0 k (omega arith) e) in
    let later = all_steps h level known (reach level s ref) refs first.0.search (record { within = λ i lt. leads.within (suc i) (omega arith); path = λ i k lt e. leads.path (suc i) k (omega arith) e }) in
    record {
      steps = record { search = later.steps.search; advances = then_advances level _ _ _ first.0.advances later.steps.advances };
      each = each_of ref refs (reach_all level (reach level s ref) refs) (reached_later level _ _ ref later.steps.advances first.1) later.each;
    }
  where
    each_of : (ref : ℕ) (refs : List ℕ) (t : Progress) → IsReached t ref → ((i : ℕ) → i < length refs → IsReached t (get_or refs i 0)) → (i : ℕ) → i < length (ref ∷ refs) → IsReached t (get_or (ref ∷ refs) i 0)
    each_of ref refs t a b zero lt = a
    each_of ref refs t a b (suc i) lt = b i (omega arith)
