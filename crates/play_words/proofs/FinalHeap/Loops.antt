-- What the loops keep.
use Rattle.std.proofs.Common.{◌≡◌, ◌⊎◌, inl, inr, ℕ, ◌+◌, ◌<◌, ◌≤◌, ap, sym, ◌∙◌, subst, arith, List, [], ◌∷◌, ◌++◌, length, get_or, set, Some, zero, suc, refl, map, None, true, false, eqb}
use Rattle.std.specs.Prelude.{slice_get, slice_index}
use Rattle.std.proofs.lemmas.List.{get_or-set_same, get_or-set_other, length-append, get_or-map, length-map}
use Rattle.std.proofs.lemmas.Option.{same_Some, slice_get-get_or, get_or_from_slice_get, slice_get_within}
use Rattle.play_report.specs.declared.report.Report.{Report}
use Rattle.play_report.specs.declared.report.Survivor.{Survivor}
use Rattle.gc_table.specs.declared.words.Words.{Words}
use Rattle.heap_dump.specs.declared.final_heap.FinalRecord.{FinalRecord}
use Rattle.play_words.specs.DumpTelling.{IsSurvivor, cell_of_survivor, dumped_word, ArePlaced, IsRecord, AreRecords}
use Rattle.std.specs.List.{list_any}
use Rattle.std.proofs.lemmas.Bool.{eqb-true}
use Rattle.std.proofs.lemmas.Map.Keys.{IsDistinct-from_apart}
use Rattle.std.proofs.lemmas.Map.Steps.{length-le_from_distinct_below}
use Rattle.std.proofs.lemmas.Map.Views.{Contains-from_any}

-- Lists by their places.
nothing-there : {X : Type 0} (x : X) → None ≡ Some x → ⊥
nothing-there x e = cc

-- what stands at a place after a push stood there before, or was pushed
pub got-pushed : {X : Type 0} (xs : List X) (y z : X) (k : ℕ) → slice_get (xs ++ y ∷ []) k ≡ Some z → (slice_get xs k ≡ Some z) ⊎ ((k ≡ length xs) × (y ≡ z))
got-pushed [] y z zero e = inr (refl, same_Some y z e)
got-pushed [] y z (suc k) e = absurd (nothing-there z e)
got-pushed (x ∷ xs) y z zero e = inl e
got-pushed {X} (x ∷ xs) y z (suc k) e = later (got-pushed xs y z k e)
  where
    later : (slice_get xs k ≡ Some z) ⊎ ((k ≡ length xs) × (y ≡ z)) → (slice_get xs k ≡ Some z) ⊎ ((suc k ≡ length (x ∷ xs)) × (y ≡ z))
    later (inl here) = inl here
    later (inr (at, same)) = inr (ap (λ (n : ℕ). suc n) at, same)

-- an image by its place
pub image-at : {X Y : Type 0} (f : X → Y) (xs : List X) (x : X) (d : Y) (k : ℕ) → slice_get xs k ≡ Some x → get_or (map f xs) k d ≡ f x
image-at f xs x d k at = get_or-map f xs k x d (slice_get_within xs k x at) ∙ ap f (get_or_from_slice_get xs k x x at)

-- images that are below n, of which no two are the same, are at most n
pub few-images : {X : Type 0} (f : X → ℕ) (xs : List X) (n : ℕ) (first : X) → ((k : ℕ) (x : X) → slice_get xs k ≡ Some x → f x < n) → ((j k : ℕ) (x y : X) → slice_get xs j ≡ Some x → slice_get xs k ≡ Some y → f x ≡ f y → j ≡ k) → length xs ≤ n
few-images {X} f xs n first below apart = omega (arith, length-map xs f, length-le_from_distinct_below (map f xs) n (IsDistinct-from_apart eqb (map f xs) distinct) small)
  where
    here : (k : ℕ) → k < length xs → slice_get xs k ≡ Some (get_or xs k first)
    here k inside = slice_get-get_or xs k first inside

    inside_of : (k : ℕ) → k < length (map f xs) → k < length xs
    inside_of k inside = omega (arith, inside, length-map xs f)

    differ : (m n : ℕ) → (m ≡ n → ⊥) → eqb m n ≡ false
    differ m n apart = grind (arith, apart)

    distinct : (i j : ℕ) (d : ℕ) → i < j → j < length (map f xs) → eqb (get_or (map f xs) i d) (get_or (map f xs) j d) ≡ false
    distinct i j d less short =
        let at-i : slice_get xs i ≡ Some (get_or xs i first) = here i (inside_of i (omega (arith, less, short))) in
        let at-j : slice_get xs j ≡ Some (get_or xs j first) = here j (inside_of j short) in
        differ (get_or (map f xs) i d) (get_or (map f xs) j d)
        (λ same. omega (arith, less, apart i j (get_or xs i first) (get_or xs j first) at-i at-j (sym (image-at f xs (get_or xs i first) d i at-i) ∙ (same ∙ image-at f xs (get_or xs j first) d j at-j))))

    small : (q : ℕ) → list_any (eqb q) (map f xs) ≡ true → q < n
    small q there =
        let at = Contains-from_any {eq = eqb} (λ x y e. eqb-true x y e) q (map f xs) there in
        let inside : at.0 < length xs = inside_of at.0 at.1 in
        omega (arith, at.2, image-at f xs (get_or xs at.0 first) q at.0 (here at.0 inside), below at.0 (get_or xs at.0 first) (here at.0 inside))

-- a survivor by its place
pub survivor-at : (r : Report) (items : List Survivor) (k : ℕ) (d : Survivor) → items ≡ r.survivors.items → k < length items → IsSurvivor r k (get_or items k d)
survivor-at r items k d same below = ap (λ (l : List Survivor). slice_get l k) (sym same) ∙ slice_get-get_or items k d below

-- the first k survivors have their numbers in the table
abbrev pub NumbersTo : Report → ℕ → List ℕ → Type 0
NumbersTo r k numbers = (j : ℕ) (x : Survivor) → j < k → IsSurvivor r j x → slice_index numbers (cell_of_survivor r x) ≡ j + 1

pub numbers-more : (r : Report) (cells k : ℕ) (y : Survivor) (numbers : List ℕ) → ArePlaced r cells → length numbers ≡ cells → IsSurvivor r k y → NumbersTo r k numbers → NumbersTo r (k + 1) (set numbers (cell_of_survivor r y) (k + 1))
numbers-more r cells k y numbers placed count here before j x low at = of (cases j k low)
  where
    cases : (j k : ℕ) → j < k + 1 → (j < k) ⊎ (j ≡ k)
    cases j k low = grind (arith, low)

    of : (j < k) ⊎ (j ≡ k) → slice_index (set numbers (cell_of_survivor r y) (k + 1)) (cell_of_survivor r x) ≡ j + 1
    of (inl less) = get_or-set_other numbers (cell_of_survivor r y) (cell_of_survivor r x) (k + 1) 0 (λ same. omega (arith, less, placed.apart j k x y at here same)) ∙ before j x less at
    of (inr same) =
        let one : y ≡ x = same_Some y x (sym here ∙ (ap (slice_get r.survivors.items) (sym same) ∙ at)) in
        ap (λ (z : Survivor). slice_index (set numbers (cell_of_survivor r y) (k + 1)) (cell_of_survivor r z)) (sym one)
        ∙ (get_or-set_same numbers (cell_of_survivor r y) (k + 1) 0 (omega (arith, count, (placed.each k y here).cell)) ∙ ap (λ (n : ℕ). n + 1) (sym same))

pub records-more : (numbers : List ℕ) (r : Report) (w : Words) (fields n : ℕ) (told : List FinalRecord) (x : Survivor) (t : FinalRecord) → AreRecords numbers r w fields n told → IsSurvivor r n x → IsRecord numbers r w fields x t
    → AreRecords numbers r w fields (n + 1) (told ++ t ∷ [])
records-more numbers r w fields n told x t before here new = record { count = length-append told (t ∷ []) ∙ ap (λ (k : ℕ). k + 1) before.count; each = λ k y u at got. of k y u at (got-pushed told t u k got) }
  where
    of : (k : ℕ) (y : Survivor) (u : FinalRecord) → IsSurvivor r k y → (slice_get told k ≡ Some u) ⊎ ((k ≡ length told) × (t ≡ u)) → IsRecord numbers r w fields y u
    of k y u at (inl got) = before.each k y u at got
    of k y u at (inr (last, same)) =
        let one : x ≡ y = same_Some x y (sym here ∙ (ap (slice_get r.survivors.items) (sym (last ∙ before.count)) ∙ at)) in
        subst (λ (z : Survivor). IsRecord numbers r w fields z u) one (subst (λ (v : FinalRecord). IsRecord numbers r w fields x v) same new)

-- the references of a cell, field by field
pub refs-more : (numbers refs : List ℕ) (word : ℕ → ℕ) (i : ℕ) → i < length refs → ((k : ℕ) → k < i → get_or refs k 0 ≡ dumped_word numbers (word k)) → ((k : ℕ) → k < i + 1 → get_or (set refs i (dumped_word numbers (word i))) k 0 ≡ dumped_word numbers (word k))
refs-more numbers refs word i inside before k low = of (cases k i low)
  where
    cases : (k i : ℕ) → k < i + 1 → (k < i) ⊎ (k ≡ i)
    cases k i low = grind (arith, low)

    of : (k < i) ⊎ (k ≡ i) → get_or (set refs i (dumped_word numbers (word i))) k 0 ≡ dumped_word numbers (word k)
    of (inl less) = get_or-set_other refs i k (dumped_word numbers (word i)) 0 (λ same. omega (arith, less, same)) ∙ before k less
    of (inr same) = ap (λ (j : ℕ). get_or (set refs i (dumped_word numbers (word i))) j 0) same ∙ (get_or-set_same refs i (dumped_word numbers (word i)) 0 inside ∙ ap (λ (j : ℕ). dumped_word numbers (word j)) (sym same))

pub refs-rest : (refs : List ℕ) (i told : ℕ) → ((k : ℕ) → i ≤ k → get_or refs k 0 ≡ 0) → ((k : ℕ) → i + 1 ≤ k → get_or (set refs i told) k 0 ≡ 0)
refs-rest refs i told before k late = get_or-set_other refs i k told 0 (λ same. omega (arith, late, same)) ∙ before k (omega (arith, late))
