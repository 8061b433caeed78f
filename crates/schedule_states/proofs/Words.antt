-- How many words a state has, and what is read of a list by its index.
use Rattle.std.proofs.Common.{◌≡◌, ℕ, ◌*◌, ◌≤◌, ◌<◌, List, length, take, get_or, sym, ap, subst, ◌∙◌, arith, ⊎_elim}
use Rattle.std.proofs.lemmas.List.{take_all}
use Rattle.std.proofs.lemmas.Nat.{mul-le}
use Rattle.std.proofs.lemmas.Option.{slice_get_cases, slice_get_within, slice_get-get_or}
use Rattle.std.specs.Io.KnownBytes.{Appends}
use Rattle.std.specs.List.{flat_map}
use Rattle.std.specs.Prelude.{slice_get, Option, Some, None, unwrap_or}
use Rattle.mark_core.specs.Laws.{IsCore}
use Rattle.mark_core.specs.Shapes.{IsShape}
use Rattle.mark_core.specs.Layout.{region_sizes, total_words}
use Rattle.mark_core.specs.Steps.{Core}
use Rattle.mark_core.specs.declared.kinds.Shape.{Shape}
use Rattle.mark_core.proofs.Known.{some_none}

-- their indices have 32 bits
few_words : (s : Shape) → IsShape s → total_words (region_sizes s) < 4294967296
few_words s k =
    let slots : s.sections * s.slots ≤ 33 * 65536 = mul-le s.sections s.slots 33 65536 k.sections.1 k.slots in
    let entries : s.packets * s.entries ≤ 1024 * 512 = mul-le s.packets s.entries 1024 512 k.packets.1 k.entries.1 in
    let fields : s.cells * s.fields ≤ 16777216 * 16 = mul-le s.cells s.fields 16777216 16 k.cells.1 k.fields.1 in
    omega (arith, slots, entries, fields, k.cells.1, k.packets.1, k.sections.1)

below : (i end all : ℕ) → i < end → end ≡ all → all < 4294967296 → i < 4294967296
below i end all h e few = omega (arith, h, e, few)

-- of a state whose shape was read, and its number of words computed
module _ (c : Core) (s : Shape) (end i : ℕ) (computed : end ≡ total_words (region_sizes s)) (shape : s ≡ c.shape) (core : IsCore c) (within : i < end) where
  whole : end ≡ length c.words
  whole = computed ∙ ap (λ (x : Shape). total_words (region_sizes x)) shape ∙ sym core.formed.words

  pub index_fits : i < 4294967296
  index_fits = below i end (total_words (region_sizes c.shape)) within (computed ∙ ap (λ (x : Shape). total_words (region_sizes x)) shape) (few_words c.shape core.formed.shaped)

  pub index_within : i < length c.words
  index_within = subst (λ (n : ℕ). i < n) whole within

-- nothing is at an index past the end
none_past : {X : Type 0} (xs : List X) (i : ℕ) → slice_get xs i ≡ None → length xs ≤ i
none_past xs i h = ⊎_elim (λ x. absurd (some_none x.0 (sym x.2 ∙ h))) (λ p. p.0) (slice_get_cases xs i).1

-- what was written of the elements before such an index was written of all
pub all_written : {X : Type 0} (text : X → List ℕ) (xs : List X) (i : ℕ) (a b : Option (List ℕ)) (f g : ℕ) → None ≡ slice_get xs i → Appends a b (flat_map text (take i xs)) × (g ≡ f)
    → Appends a b (flat_map text xs) × (g ≡ f)
all_written text xs i a b f g h w =
    subst (λ (x : List ℕ). Appends a b x × (g ≡ f)) (ap (flat_map text) (take_all i xs (none_past xs i (sym h)))) w

-- what is at an index is the element there
pub some_at : {X : Type 0} (xs : List X) (i : ℕ) (x : X) → Some x ≡ slice_get xs i → (i < length xs) × (x ≡ get_or xs i x)
some_at xs i x e =
    let h : slice_get xs i ≡ Some x = sym e in
    (slice_get_within xs i x h, ap (λ o. unwrap_or o x) (sym h ∙ slice_get-get_or xs i x (slice_get_within xs i x h)))
