-- Sums over the records' sections and values.
use Rattle.std.proofs.Common.{◌≡◌, ℕ, ◌+◌, ◌*◌, ◌<◌, ◌≤◌, ◌^◌, List, [], ◌∷◌, length, refl, map, All, cond, sym, ap, ◌∙◌, arith, get_or}
use Rattle.std.specs.Prelude.{sum, nat_eq, Bool, true, false}
use Rattle.std.specs.List.{range_with_len}
use Rattle.std.proofs.Math.Nat.{mul-le-mul_right}
use Rattle.std.proofs.lemmas.List.{ext_get_or, get_or-map, length-map}
use Rattle.std.proofs.lemmas.List.Sums.{sum-map, sum_by-le}
use Rattle.std.proofs.lemmas.List.Elements.{All-map, All-from_get_or}
use Rattle.std.proofs.lemmas.List.Folds.{fold-map}
use Rattle.std.proofs.lemmas.List.FromFn.{get_or-map-range_with_len, length-map-range_with_len}
use Rattle.heap_dump.specs.Final.{DumpedHeap, Object, blank, object, HasDump}
use Rattle.dump_census.specs.declared.entries.Entry.{Entry}
use Rattle.dump_census.specs.Entries.{entry_of, entry_count}
use Rattle.dump_census.specs.Counted.{section_count}

cond_most : (b : Bool) (x m : ℕ) → x ≤ m → cond b x 0 ≤ m
cond_most true x m le = le
cond_most false x m le = omega arith

-- each of at most 65,536 terms is at most m
pub sum_small : (f : Entry → ℕ) (m : ℕ) (entries : List Entry) → length entries ≤ 65536 → All (λ e. f e ≤ m) entries → sum (map f entries) ≤ 65536 * m
sum_small f m entries few each = omega (arith, sum-map f entries, sum_by-le f m entries each, mul-le-mul_right m few)

pub ones_small : (w : ℕ) (entries : List Entry) → length entries ≤ 65536 → sum (map (λ (e : Entry). cond (nat_eq e.section w) 1 0) entries) ≤ 65536
ones_small w entries few =
    let each : All (λ (e : Entry). cond (nat_eq e.section w) 1 0 ≤ 1) entries = λ k d lt. cond_most (nat_eq (get_or entries k d).section w) 1 1 (omega arith) in
    omega (arith, sum_small (λ (e : Entry). cond (nat_eq e.section w) 1 0) 1 entries few each)

pub values_small : (w : ℕ) (entries : List Entry) → length entries ≤ 65536 → All (λ (e : Entry). e.value < 2 ^ 32) entries
    → sum (map (λ (e : Entry). cond (nat_eq e.section w) e.value 0) entries) ≤ 65536 * 2 ^ 32
values_small w entries few small =
    let each : All (λ (e : Entry). cond (nat_eq e.section w) e.value 0 ≤ 2 ^ 32) entries =
    λ k d lt. cond_most (nat_eq (get_or entries k d).section w) (get_or entries k d).value (2 ^ 32) (omega (arith, small k d lt)) in
    sum_small (λ (e : Entry). cond (nat_eq e.section w) e.value 0) (2 ^ 32) entries few each

-- the numbers of the records, each read
pub all_read : (h : DumpedHeap) (entries : List Entry) → entries ≡ map (λ k. entry_of (object h k)) (range_with_len 0 (length h.records)) → entries ≡ map entry_of h.records
all_read h entries e =
    let d : Entry = entry_of blank in
    let n = length h.records in
    let f = λ (k : ℕ). entry_of (object h k) in
    e ∙ ext_get_or d (map f (range_with_len 0 n)) (map entry_of h.records) (length-map-range_with_len f 0 n ∙ sym (length-map h.records entry_of)) (λ i lt.
    let small : i < n = omega (arith, length-map-range_with_len f 0 n) in
    get_or-map-range_with_len f 0 n i i d small (omega arith) ∙ sym (get_or-map entry_of h.records i blank d small))

-- what the entries of a heap count is what its records do
pub entries_count : (records : List Object) (w : ℕ) → entry_count (map entry_of records) w ≡ section_count records w
entries_count records w = λ i. record {
  count = (fold-map (λ n (e : Entry). n + cond (nat_eq e.section w) 1 0) entry_of 0 records) i;
  total = (fold-map (λ n (e : Entry). n + cond (nat_eq e.section w) e.value 0) entry_of 0 records) i;
}

pub values_below : (h : DumpedHeap) → HasDump h → All (λ (e : Entry). e.value < 2 ^ 32) (map entry_of h.records)
values_below h legal = All-map (λ (e : Entry). e.value < 2 ^ 32) entry_of h.records (All-from_get_or (λ (o : Object). o.value < 2 ^ 32) h.records blank (λ k lt. (legal.objects k lt).value))

pub entry_values : (records : List Object) → map (λ (e : Entry). e.value) (map entry_of records) ≡ map (λ (o : Object). o.value) records
entry_values [] = refl
entry_values (o ∷ records) = ap (λ xs. o.value ∷ xs) (entry_values records)
