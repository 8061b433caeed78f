-- The fields that a scan reads, one after another.
use Rattle.std.proofs.Common.{ℕ, ◌≡◌, ◌≤◌, ◌+◌, ◌-◌, zero, suc, List, [], ◌∷◌, ◌++◌, arith, refl, sym, ap, ◌∙◌, true, false, cond, append_assoc}
use Rattle.std.specs.Prelude.{◌==◌}
use Rattle.std.proofs.lemmas.Bool.{and_parts, false≢true}
use Rattle.mark_core.specs.Bits.{cell_of}
use Rattle.mark_core.specs.declared.kinds.Step.{Step}
use Rattle.mark_core.specs.declared.kinds.Step.TheVariants.{ReadField, SetMark}
use Rattle.gc_table.specs.declared.view.Entry.{Entry}
use Rattle.packet_pools.specs.Seeking.{moves_packet, only_moves, output_pools}
use Rattle.packet_pools.specs.Fields.{fields_read, cells_named, cells_asked, picked, AsksToMark, Follows, fields_from}
use Rattle.gc_table.proofs.History.Log.{entry_of}

pub picked-join : {X : Type 0} (f : Step → ℕ → List X) (xs ys : List Entry) → picked f (xs ++ ys) ≡ picked f xs ++ picked f ys
picked-join f [] ys = refl
picked-join f (x ∷ xs) ys = ap (λ l. f x.step x.found ++ l) (picked-join f xs ys) ∙ sym (append_assoc (f x.step x.found) (picked f xs) (picked f ys))

-- a step that moves a packet reads and marks nothing
idle : (step : Step) (found : ℕ) → moves_packet output_pools step ≡ true → (fields_read step found ≡ []) × (cells_named step found ≡ []) × (cells_asked step found ≡ [])
idle (ReadField c i) found m = absurd (false≢true m)
idle (SetMark c) found m = absurd (false≢true m)
idle step found m = (refl, refl, refl)

pub asks-moves : (es : List Entry) → only_moves output_pools es ≡ true → AsksToMark [] es
asks-moves [] m = record { read = refl; named = refl; asked = refl }
asks-moves (e ∷ es) m =
    let h = and_parts (moves_packet output_pools e.step) (only_moves output_pools es) m in
    let k = idle e.step e.found h.0 in
    let r = asks-moves es h.1 in
    record { read = λ i. k.0 i ++ r.read i; named = λ i. k.1 i ++ r.named i; asked = λ i. k.2 i ++ r.asked i }

pub asks-join : (cs ds : List ℕ) (xs ys es : List Entry) → es ≡ xs ++ ys → AsksToMark cs xs → AsksToMark ds ys → AsksToMark (cs ++ ds) es
asks-join cs ds xs ys es all a b =
    record {
      read = ap (picked fields_read) all ∙ (picked-join fields_read xs ys ∙ (λ i. a.read i ++ b.read i));
      named = ap (picked cells_named) all ∙ (picked-join cells_named xs ys ∙ (λ i. a.named i ++ b.named i));
      asked = ap (picked cells_asked) all ∙ (picked-join cells_asked xs ys ∙ (λ i. a.asked i ++ b.asked i));
    }

pub follows-join : (fs gs : List (ℕ × ℕ)) (xs ys es : List Entry) → es ≡ xs ++ ys → Follows fs xs → Follows gs ys → Follows (fs ++ gs) es
follows-join fs gs xs ys es all a b =
    record {
      read = ap (picked fields_read) all ∙ (picked-join fields_read xs ys ∙ (λ i. a.read i ++ b.read i));
      asked =
          ap (picked cells_asked) all
          ∙ (picked-join cells_asked xs ys ∙ ((λ i. a.asked i ++ b.asked i) ∙ sym (ap (picked cells_named) all ∙ picked-join cells_named xs ys)));
    }

-- a nil field
pub follows-nil : (c i n : ℕ) (es : List Entry) → es ≡ entry_of (ReadField c i) n ∷ [] → n ≡ 0 → Follows ((c, i) ∷ []) es
follows-nil c i n es all e = record { read = ap (picked fields_read) all; asked = ap (picked cells_asked) all ∙ sym (ap (picked cells_named) all ∙ ap (λ (m : ℕ). cond (m == 0) [] (cell_of m ∷ []) ++ []) e) }

-- a field that refers to a cell, which then is to be marked
pub follows-cell : (c i n : ℕ) (ys es : List Entry) → es ≡ entry_of (ReadField c i) n ∷ ys → (n == 0) ≡ false → AsksToMark (cell_of n ∷ []) ys → Follows ((c, i) ∷ []) es
follows-cell c i n ys es all e a =
    record {
      read = ap (picked fields_read) all ∙ ap (λ l. (c, i) ∷ l) a.read;
      asked =
          ap (picked cells_asked) all
          ∙ (a.asked
          ∙ sym (ap (picked cells_named) all ∙ (λ j. cond (e j) [] (cell_of n ∷ []) ++ a.named j)));
    }

one-more : (c i n : ℕ) → fields_from c i (suc n) ≡ fields_from c i n ++ (c, i + n) ∷ []
one-more c i zero = let z : i ≡ i + 0 = omega arith in ap (λ x. (c, x) ∷ []) z
one-more c i (suc n) = let z : i + 1 + n ≡ i + suc n = omega arith in ap (λ l. (c, i) ∷ l) (one-more c (i + 1) n ∙ ap (λ x. fields_from c (i + 1) n ++ (c, x) ∷ []) z)

-- the fields so far, and the next one
pub fields-next : (c next i : ℕ) → next ≤ i → fields_from c next (i - next) ++ (c, i) ∷ [] ≡ fields_from c next (i + 1 - next)
fields-next c next i l =
    let n : suc (i - next) ≡ i + 1 - next = omega (arith, l) in
    let x : next + (i - next) ≡ i = omega (arith, l) in
    sym (ap (fields_from c next) (sym n) ∙ (one-more c next (i - next) ∙ ap (λ y. fields_from c next (i - next) ++ (c, y) ∷ []) x))

-- the first field, and the others
pub fields-first : (c n : ℕ) → 1 ≤ n → (c, 0) ∷ fields_from c 1 (n - 1) ≡ fields_from c 0 n
fields-first c n l = let e : suc (n - 1) ≡ n = omega (arith, l) in ap (fields_from c 0) e
