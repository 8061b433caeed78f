-- The parts and the warehouses of a script without a fault are few.
use Rattle.std.proofs.Common.{◌≡◌, ℕ, ◌+◌, ◌≤◌, zero, suc, List, [], ◌∷◌, ◌++◌, length, refl, ap, ◌∙◌, arith}
use Rattle.std.proofs.lemmas.List.{append-nil, length-append}
use Rattle.std.proofs.lemmas.List.Elements.{All-nil, All-push, All-same}
use Rattle.std.specs.Prelude.{Option, Some, None, is_some, unwrap_or, ◌&&◌}
use Rattle.std.specs.Option.{option_or}
use Rattle.std.specs.List.{All}
use Rattle.plain_heap.specs.Sections.{Execution}
use Rattle.gc_script.specs.Statement.{Statement, Blank, Fields, Catalogue, Warehouse, Season, Repeat, End, Command, Wrong}
use Rattle.gc_script.specs.Earlier.{known_fields, open_section, season_count, warehouse_count}
use Rattle.gc_script.specs.Script.{executed, ended_parts, parts_of_open_section, if_warehouse, if_catalogue, closed_warehouses, closed_catalogue}
use Rattle.gc_script.specs.Context.{AreClear}
use Rattle.gc_script.proofs.History.{none_is}
use Rattle.gc_script.proofs.Ranges.{sane}
use Rattle.gc_script.proofs.Clear.{right}

ended_count : (catalogue : List (List ℕ)) (e : List Statement) → length (ended_parts catalogue e) ≡ season_count e
ended_count catalogue [] = refl
ended_count catalogue (Blank ∷ e) = ended_count catalogue e
ended_count catalogue (Fields n ∷ e) = ended_count catalogue e
ended_count catalogue (Catalogue ∷ e) = refl
ended_count catalogue (Warehouse ∷ e) = refl
ended_count catalogue (Season ∷ e) = length-append (ended_parts catalogue e) (executed catalogue e ∷ []) ∙ ap (λ (n : ℕ). n + 1) (ended_count catalogue e)
ended_count catalogue (Repeat n ∷ e) = ended_count catalogue e
ended_count catalogue (End ∷ e) = ended_count catalogue e
ended_count catalogue (Command spoken ∷ e) = ended_count catalogue e
ended_count catalogue (Wrong ∷ e) = ended_count catalogue e

pub open_count : (version : ℕ) (catalogue : List (List ℕ)) (e : List Statement) → AreClear version e → length (parts_of_open_section catalogue e) ≤ 64
open_count version catalogue e h =
    let more = length-append (ended_parts catalogue e) (executed catalogue e ∷ []) in
    let same = ended_count catalogue e in
    let few = (sane version e h).seasons in
    omega arith

abbrev AreFew : List (List Execution) → Type 0
AreFew parts = length parts ≤ 64

few_catalogue : (o : Option ℕ) (parts : List (List Execution)) (closed : Option (List (List Execution))) → AreFew parts → AreFew (unwrap_or closed []) → AreFew (unwrap_or (option_or (if_catalogue o parts) closed) [])
few_catalogue None parts closed h k = k
few_catalogue (Some zero) parts closed h k = h
few_catalogue (Some (suc w)) parts closed h k = k

few_warehouses : (o : Option ℕ) (parts : List (List Execution)) (closed : List (List (List Execution))) → AreFew parts → All AreFew closed → All AreFew (closed ++ if_warehouse o parts)
few_warehouses None parts closed h k = All-same AreFew _ closed (append-nil closed) k
few_warehouses (Some zero) parts closed h k = All-same AreFew _ closed (append-nil closed) k
few_warehouses (Some (suc w)) parts closed h k = All-push AreFew closed parts k h

pub record AreFewParts (catalogue : List (List ℕ)) (e : List Statement) : Type 0 where
  pub first : AreFew (unwrap_or (closed_catalogue catalogue e) [])
  pub others : All AreFew (closed_warehouses catalogue e)

pub few_parts : (version : ℕ) (catalogue : List (List ℕ)) (e : List Statement) → AreClear version e → AreFewParts catalogue e
few_parts version catalogue [] h = record { first = omega arith; others = All-nil AreFew }
few_parts version catalogue (Blank ∷ e) h = let f = few_parts version catalogue e h.1 in record { first = f.first; others = f.others }
few_parts version catalogue (Fields n ∷ e) h = let f = few_parts version catalogue e h.1 in record { first = f.first; others = f.others }
few_parts version catalogue (Catalogue ∷ e) h = let f = few_parts version catalogue e h.1 in record { first = f.first; others = f.others }
few_parts version catalogue (Warehouse ∷ e) h =
    let f = few_parts version catalogue e h.1 in
    let few = open_count version catalogue e h.1 in
    record {
      first = few_catalogue (open_section e) (parts_of_open_section catalogue e) (closed_catalogue catalogue e) few f.first;
      others = few_warehouses (open_section e) (parts_of_open_section catalogue e) (closed_warehouses catalogue e) few f.others;
    }
few_parts version catalogue (Season ∷ e) h = let f = few_parts version catalogue e h.1 in record { first = f.first; others = f.others }
few_parts version catalogue (Repeat n ∷ e) h = let f = few_parts version catalogue e h.1 in record { first = f.first; others = f.others }
few_parts version catalogue (End ∷ e) h = let f = few_parts version catalogue e h.1 in record { first = f.first; others = f.others }
few_parts version catalogue (Command spoken ∷ e) h = let f = few_parts version catalogue e h.1 in record { first = f.first; others = f.others }
few_parts version catalogue (Wrong ∷ e) h = let f = few_parts version catalogue e h.1 in record { first = f.first; others = f.others }

-- all sections at the end of these lines
pub all_few : (version : ℕ) (catalogue : List (List ℕ)) (e : List Statement) → AreClear version e
    → AreFew (unwrap_or (option_or (if_catalogue (open_section e) (parts_of_open_section catalogue e)) (closed_catalogue catalogue e)) []) × All AreFew (closed_warehouses catalogue e ++ if_warehouse (open_section e) (parts_of_open_section catalogue e))
all_few version catalogue e h =
    let f = few_parts version catalogue e h in
    let few = open_count version catalogue e h in
    (few_catalogue (open_section e) (parts_of_open_section catalogue e) (closed_catalogue catalogue e) few f.first, few_warehouses (open_section e) (parts_of_open_section catalogue e) (closed_warehouses catalogue e) few f.others)

-- a warehouse is open
abbrev open_one : Option ℕ → ℕ
open_one None = 0
open_one (Some zero) = 0
open_one (Some (suc w)) = 1

open_one_is : (o : Option ℕ) (parts : List (List Execution)) → length (if_warehouse o parts) ≡ open_one o
open_one_is None parts = refl
open_one_is (Some zero) parts = refl
open_one_is (Some (suc w)) parts = refl

late : (n : ℕ) → open_one (Some (n + 1)) ≡ 1
late n = ap (λ (k : ℕ). open_one (Some k)) (Rattle.std.proofs.Common.add-one n)

all_warehouses : (catalogue : List (List ℕ)) (e : List Statement) → length (closed_warehouses catalogue e ++ if_warehouse (open_section e) (parts_of_open_section catalogue e)) ≡ length (closed_warehouses catalogue e) + open_one (open_section e)
all_warehouses catalogue e = length-append (closed_warehouses catalogue e) _ ∙ ap (λ (n : ℕ). length (closed_warehouses catalogue e) + n) (open_one_is (open_section e) (parts_of_open_section catalogue e))

warehouses_are : (version : ℕ) (catalogue : List (List ℕ)) (e : List Statement) → AreClear version e → length (closed_warehouses catalogue e) + open_one (open_section e) ≡ warehouse_count e
warehouses_are version catalogue [] h = refl
warehouses_are version catalogue (Blank ∷ e) h = warehouses_are version catalogue e h.1
warehouses_are version catalogue (Fields n ∷ e) h = warehouses_are version catalogue e h.1
warehouses_are version catalogue (Catalogue ∷ e) h =
    let same = warehouses_are version catalogue e h.1 in
    let none = ap open_one (none_is _ (right (is_some (known_fields version e)) _ h.0.placed)) in
    omega arith
warehouses_are version catalogue (Warehouse ∷ e) h =
    let same = warehouses_are version catalogue e h.1 in
    let all = all_warehouses catalogue e in
    let one = late (warehouse_count e) in
    omega arith
warehouses_are version catalogue (Season ∷ e) h = warehouses_are version catalogue e h.1
warehouses_are version catalogue (Repeat n ∷ e) h = warehouses_are version catalogue e h.1
warehouses_are version catalogue (End ∷ e) h = warehouses_are version catalogue e h.1
warehouses_are version catalogue (Command spoken ∷ e) h = warehouses_are version catalogue e h.1
warehouses_are version catalogue (Wrong ∷ e) h = warehouses_are version catalogue e h.1

pub few_warehouses_all : (version : ℕ) (catalogue : List (List ℕ)) (e : List Statement) → AreClear version e → length (closed_warehouses catalogue e ++ if_warehouse (open_section e) (parts_of_open_section catalogue e)) ≤ 32
few_warehouses_all version catalogue e h =
    let same = warehouses_are version catalogue e h in
    let all = all_warehouses catalogue e in
    let few = (sane version e h).warehouses in
    omega arith
