-- Orders of commands that grow command by command.
use Rattle.std.proofs.Common.{◌≡◌, ◌≢◌, ◌⊎◌, inl, inr, ℕ, zero, suc, ◌+◌, ◌-◌, ◌<◌, ◌≤◌, refl, ap, sym, ◌∙◌, subst, arith, List, [], ◌∷◌, ◌++◌, length, length-append, take, Bool, cond, eqb, eq-eqb, ne_eqb, Some, ⊎_elim}
use Rattle.std.proofs.lemmas.Bool.{cases_lt, cases_eq}
use Rattle.std.proofs.lemmas.List.{length-map, take-append-le, take_all}
use Rattle.std.proofs.lemmas.List.Sums.{sum_by-append}
use Rattle.std.proofs.lemmas.Option.{slice_get_within, get_or_from_slice_get, same_Some}
use Rattle.std.specs.Prelude.{count_by, slice_get}
use Rattle.plain_heap.specs.Sections.{Execution, Sections, section_numbers, IsNext}
use Rattle.plain_heap.specs.Placement.{AreOfTurn, position}
use Rattle.play_report.specs.Order.{done_in, TakesFreeCell}
use Rattle.play_end.proofs.SectionLists.{map-at}
use Rattle.play_end.proofs.Doing.{got-left, got-first}

-- the next command of section w, after these of each section, is in its turn and takes a free cell
pub record Fits (s : Sections) (places : List (List ℕ)) (done : List ℕ) (w : ℕ) : Type 0 where
  pub turn : (z : ℕ) (e : Execution) → IsNext s w (position done w) z e → AreOfTurn s done w z
  pub free : TakesFreeCell s places done w

-- an order whose commands all do, which has this many of each section
pub record Order (s : Sections) (places : List (List ℕ)) (c : ℕ → ℕ) : Type 0 where
  pub order : List ℕ
  pub fits : (k w : ℕ) → slice_get order k ≡ Some w → Fits s places (done_in s (take k order)) w
  pub counts : (w : ℕ) → w < length (section_numbers s) → position (done_in s order) w ≡ c w

module _ (s : Sections) (places : List (List ℕ)) where
  abbrev n : ℕ
  n = length (section_numbers s)

  -- how many are of section w
  count-is : (o : List ℕ) (w : ℕ) → w < n → position (done_in s o) w ≡ count_by (λ v. eqb v w) o
  count-is o w inside = get_or_from_slice_get (done_in s o) w (count_by (λ v. eqb v w) o) 0 (map-at (λ u. count_by (λ v. eqb v u) o) s w inside)

  count-more : (o : List ℕ) (w u : ℕ) → u < n → position (done_in s (o ++ w ∷ [])) u ≡ position (done_in s o) u + cond (eqb w u) 1 0
  count-more o w u inside =
      omega (arith, count-is (o ++ w ∷ []) u inside, count-is o u inside, sum_by-append (λ (v : ℕ). cond (eqb v u) 1 0) o (w ∷ []))

  -- one command more
  one-more : (c d : ℕ → ℕ) (w : ℕ) (o : Order s places c) → w < n → ((u : ℕ) → u < n → u ≢ w → d u ≡ c u) → d w ≡ c w + 1 → Fits s places (done_in s o.order) w → Order s places d
  one-more c d w o inside same more fits = record { order = o.order ++ w ∷ []; fits = each; counts = counts }
    where
      counts : (u : ℕ) → u < n → position (done_in s (o.order ++ w ∷ [])) u ≡ d u
      counts u low = of (cases_eq u w)
        where
          of : (u ≡ w) ⊎ (u ≢ w) → position (done_in s (o.order ++ w ∷ [])) u ≡ d u
          of (inl e) = omega (arith, count-more o.order w u low, o.counts u low, ap (λ (b : Bool). cond {A = ℕ} b 1 0) (eq-eqb w u (sym e)), more, ap d e, ap c e)
          of (inr far) = omega (arith, count-more o.order w u low, o.counts u low, ap (λ (b : Bool). cond {A = ℕ} b 1 0) (ne_eqb w u (λ e. far (sym e))), same u low far)

      each : (k v : ℕ) → slice_get (o.order ++ w ∷ []) k ≡ Some v → Fits s places (done_in s (take k (o.order ++ w ∷ []))) v
      each k v at = of (cases_lt k (length o.order))
        where
          of : (k < length o.order) ⊎ (length o.order ≤ k) → Fits s places (done_in s (take k (o.order ++ w ∷ []))) v
          of (inl before) =
              subst (λ (l : List ℕ). Fits s places (done_in s l) v) (sym (take-append-le k o.order (w ∷ []) (omega (arith, before)))) (o.fits k v (sym (got-left o.order (w ∷ []) k before) ∙ at))
          of (inr here) =
              let last : k ≡ length o.order = omega (arith, here, slice_get_within (o.order ++ w ∷ []) k v at, length-append o.order (w ∷ [])) in
              let is : w ≡ v = same_Some w v (sym (got-first o.order w) ∙ (ap (slice_get (o.order ++ w ∷ [])) (sym last) ∙ at)) in
              let front : take k (o.order ++ w ∷ []) ≡ o.order = take-append-le k o.order (w ∷ []) (omega (arith, last)) ∙ take_all k o.order (omega (arith, last)) in
              subst (λ (l : List ℕ). Fits s places (done_in s l) v) (sym front) (subst (Fits s places (done_in s o.order)) is fits)

  -- the same counts
  pub recounted : (c d : ℕ → ℕ) → ((u : ℕ) → u < n → d u ≡ c u) → Order s places c → Order s places d
  recounted c d same o = record { order = o.order; fits = o.fits; counts = λ u low. o.counts u low ∙ sym (same u low) }

  -- what is asked of each command between the two counts: it fits if each other section stands at one of them
  abbrev pub Between : (ℕ → ℕ) → (ℕ → ℕ) → Type 0
  Between c d = (done : List ℕ) (w : ℕ) → length done ≡ n → w < n → c w ≤ position done w → position done w < d w → ((u : ℕ) → u < n → u ≢ w → (position done u ≡ c u) ⊎ (position done u ≡ d u)) → Fits s places done w

  -- an order of other counts, in which section m has this many, and each other section as many as before
  record Raised (g : ℕ → ℕ) (m to : ℕ) : Type 0 where
    pub counts : ℕ → ℕ
    pub raised : Order s places counts
    pub here : counts m ≡ to
    pub others : (u : ℕ) → u < n → u ≢ m → counts u ≡ g u

  -- the commands of section m that are missing
  raise-one : (c d g : ℕ → ℕ) → Between c d → (m f : ℕ) → m < n → ((u : ℕ) → u < n → u ≢ m → (g u ≡ c u) ⊎ (g u ≡ d u)) → c m ≤ g m → g m + f ≡ d m → Order s places g → Raised g m (d m)
  raise-one c d g may m zero inside others above to o = record { counts = g; raised = o; here = (let e : g m ≡ d m = omega (arith, to) in e); others = λ u low far. refl }
  raise-one c d g may m (suc f) inside others above to o =
      let done : List ℕ = done_in s o.order in
      let at : position done m ≡ g m = o.counts m inside in
      let fits : Fits s places done m =
      may done m (length-map (section_numbers s) (λ u. count_by (λ v. eqb v u) o.order)) inside (omega (arith, at, above)) (omega (arith, at, to))
      (λ u low far. ⊎_elim (λ (e : g u ≡ c u). inl (o.counts u low ∙ e)) (λ (e : g u ≡ d u). inr (o.counts u low ∙ e)) (others u low far)) in
      let h : ℕ → ℕ = λ u. cond (eqb u m) (g m + 1) (g u) in
      let now : h m ≡ g m + 1 = ap (λ (b : Bool). cond b (g m + 1) (g m)) (eq-eqb m m refl) in
      let else : (u : ℕ) → u < n → u ≢ m → h u ≡ g u = λ u low far. ap (λ (b : Bool). cond b (g m + 1) (g u)) (ne_eqb u m far) in
      let more : Order s places h = one-more g h m o inside else now fits in
      let r : Raised h m (d m) =
      raise-one c d h may m f inside
      (λ u low far. ⊎_elim (λ (e : g u ≡ c u). inl (else u low far ∙ e)) (λ (e : g u ≡ d u). inr (else u low far ∙ e)) (others u low far))
      (omega (arith, now, above)) (omega (arith, now, to)) more in
      record { counts = r.counts; raised = r.raised; here = r.here; others = λ u low far. r.others u low far ∙ else u low far }

  -- an order in which the sections before m have what the one count says, and the others what the other one says
  record Part (c d : ℕ → ℕ) (m : ℕ) : Type 0 where
    pub counts : ℕ → ℕ
    pub so_far : Order s places counts
    pub before : (u : ℕ) → u < n → u < m → counts u ≡ d u
    pub after : (u : ℕ) → u < n → m ≤ u → counts u ≡ c u

  raise-part : (c d : ℕ → ℕ) → Between c d → ((u : ℕ) → u < n → c u ≤ d u) → (m : ℕ) → m ≤ n → Order s places c → Part c d m
  raise-part c d may up zero inside o = record { counts = c; so_far = o; before = λ u low less. absurd (omega (arith, less)); after = λ u low more. refl }
  raise-part c d may up (suc m) inside o =
      let p : Part c d m = raise-part c d may up m (omega (arith, inside)) o in
      let within : m < n = omega (arith, inside) in
      let here : p.counts m ≡ c m = p.after m within (omega arith) in
      let r : Raised p.counts m (d m) =
      raise-one c d p.counts may m (d m - c m) within
      (λ u low far. ⊎_elim (λ (less : u < m). inr (p.before u low less)) (λ (more : m ≤ u). inl (p.after u low more)) (cases_lt u m))
      (omega (arith, here)) (omega (arith, here, up m within)) p.so_far in
      record {
        counts = r.counts;
        so_far = r.raised;
        before = λ u low less.
            ⊎_elim (λ (e : u ≡ m). ap r.counts e ∙ (r.here ∙ ap d (sym e))) (λ (far : u ≢ m). r.others u low far ∙ p.before u low (omega (arith, less, far))) (cases_eq u m);
        after = λ u low more. r.others u low (λ e. omega (arith, e, more)) ∙ p.after u low (omega (arith, more));
      }

  -- an order of greater counts, if each command between may come next
  pub raise : (c d : ℕ → ℕ) → Between c d → ((u : ℕ) → u < n → c u ≤ d u) → Order s places c → Order s places d
  raise c d may up o =
      let p : Part c d n = raise-part c d may up n (omega arith) o in
      recounted p.counts d (λ u low. sym (p.before u low low)) p.so_far
