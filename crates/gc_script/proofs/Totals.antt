-- The commands that are counted by lines are those that the sections have.
use Rattle.std.proofs.Common.{◌≡◌, ℕ, ◌+◌, ◌*◌, zero, suc, List, [], ◌∷◌, ◌++◌, refl, ap, sym, ◌∙◌, subst, cond, Bool, true, false, arith}
use Rattle.std.proofs.lemmas.List.{append-nil}
use Rattle.std.proofs.lemmas.List.Sums.{sum_by-append}
use Rattle.std.proofs.lemmas.List.Concat.{flat_map-append}
use Rattle.std.specs.Prelude.{Option, Some, None, is_none, is_some, ◌&&◌}
use Rattle.std.specs.Option.{option_or}
use Rattle.std.specs.List.{count_by}
use Rattle.plain_heap.specs.Sections.{Execution, joined}
use Rattle.gc_script.specs.Statement.{Spoken, Statement, Blank, Fields, Catalogue, Warehouse, Season, Repeat, End, Command, Wrong}
use Rattle.gc_script.specs.Earlier.{known_fields, open_repeat, open_section}
use Rattle.gc_script.specs.Script.{repeated, repetitions, pending, executed, execution, ended_parts, parts_of_open_section, if_warehouse, if_catalogue, closed_warehouses, closed_catalogue, one_if, pending_count, executed_count}
use Rattle.gc_script.specs.Context.{AreClear}
use Rattle.gc_script.specs.Sectioned.{in_parts, in_sections}
use Rattle.gc_script.proofs.Sectioning.{count_by-append, count_repeated}
use Rattle.gc_script.proofs.History.{bare, none_is}
use Rattle.gc_script.proofs.Clear.{right}

-- no section, or the catalogue, is open
abbrev pub IsEarly : Option ℕ → Type 0
IsEarly None = Unit {0}
IsEarly (Some zero) = Unit {0}
IsEarly (Some (suc w)) = ⊥

late : (n : ℕ) → IsEarly (Some (n + 1)) → ⊥
late n h = subst (λ (k : ℕ). IsEarly (Some k)) (Rattle.std.proofs.Common.add-one n) h

-- the catalogue isn't closed before a warehouse is started
pub not_closed : (version : ℕ) (catalogue : List (List ℕ)) (e : List Statement) → AreClear version e → IsEarly (open_section e) → closed_catalogue catalogue e ≡ None
not_closed version catalogue [] h i = refl
not_closed version catalogue (Blank ∷ e) h i = not_closed version catalogue e h.1 i
not_closed version catalogue (Fields n ∷ e) h i = not_closed version catalogue e h.1 i
not_closed version catalogue (Catalogue ∷ e) h i =
    not_closed version catalogue e h.1 (subst IsEarly (sym (none_is _ (right (is_some (known_fields version e)) _ h.0.placed))) tt)
not_closed version catalogue (Warehouse ∷ e) h i = absurd (late _ i)
not_closed version catalogue (Season ∷ e) h i = not_closed version catalogue e h.1 i
not_closed version catalogue (Repeat n ∷ e) h i = not_closed version catalogue e h.1 i
not_closed version catalogue (End ∷ e) h i = not_closed version catalogue e h.1 i
not_closed version catalogue (Command spoken ∷ e) h i = not_closed version catalogue e h.1 i
not_closed version catalogue (Wrong ∷ e) h i = not_closed version catalogue e h.1 i

parts_more : (test : Execution → Bool) (parts : List (List Execution)) (part : List Execution) → in_parts test (parts ++ part ∷ []) ≡ in_parts test parts + count_by test part
parts_more test parts part =
    ap (count_by test) (flat_map-append (λ (p : List Execution). p) parts (part ∷ []))
    ∙ count_by-append test (joined parts) (joined (part ∷ []))
    ∙ ap (λ (p : List Execution). in_parts test parts + count_by test p) (append-nil part)

-- a section is closed
pub closing_total : (test : Execution → Bool) (o : Option ℕ) (parts : List (List Execution)) (catalogue : Option (List (List Execution))) (warehouses : List (List (List Execution)))
    → (o ≡ None → in_parts test parts ≡ 0) → (IsEarly o → catalogue ≡ None)
    → in_sections test (option_or (if_catalogue o parts) catalogue) (warehouses ++ if_warehouse o parts) ≡ in_sections test catalogue warehouses + in_parts test parts
closing_total test None parts catalogue warehouses bare early =
    let same = ap (λ (ws : List (List (List Execution))). in_sections test catalogue ws) (append-nil warehouses) in
    let nothing = bare refl in
    omega arith
closing_total test (Some zero) parts catalogue warehouses bare early =
    let same = ap (λ (ws : List (List (List Execution))). in_sections test (Some parts) ws) (append-nil warehouses) in
    let nothing = ap (λ (c : Option (List (List Execution))). in_sections test c warehouses) (early tt) in
    omega arith
closing_total test (Some (suc w)) parts catalogue warehouses bare early =
    let more = sum_by-append (in_parts test) warehouses (parts ∷ []) in
    omega arith

-- how many commands pass a test, in the closed sections, the ended parts and the open one
abbrev pub total : (Execution → Bool) → List (List ℕ) → List Statement → ℕ
total test catalogue e =
    in_sections test (closed_catalogue catalogue e) (closed_warehouses catalogue e) + (in_parts test (ended_parts catalogue e) + count_by test (executed catalogue e))

not_both : (o : Option (ℕ × ℕ)) → is_some o ≡ true → is_none o ≡ true → ⊥
not_both None e f = cc
not_both (Some opened) e f = cc

-- a test of executed commands is one of the commands as they are written
abbrev pub Agree : (Spoken → Bool) → (Execution → Bool) → List (List ℕ) → Type 0
Agree said test catalogue = (e : List Statement) (s : Spoken) → test (execution catalogue e s) ≡ said s

-- inside a `repeat`
pending_total : (version : ℕ) (said : Spoken → Bool) (test : Execution → Bool) (catalogue : List (List ℕ)) (e : List Statement) → Agree said test catalogue → AreClear version e → is_some (open_repeat e) ≡ true
    → count_by test (pending catalogue e) ≡ pending_count said e
pending_total version said test catalogue [] a h o = refl
pending_total version said test catalogue (Blank ∷ e) a h o = pending_total version said test catalogue e a h.1 o
pending_total version said test catalogue (Fields n ∷ e) a h o = pending_total version said test catalogue e a h.1 o
pending_total version said test catalogue (Catalogue ∷ e) a h o = refl
pending_total version said test catalogue (Warehouse ∷ e) a h o = refl
pending_total version said test catalogue (Season ∷ e) a h o = absurd (not_both _ o (right (is_some (open_section e)) _ (right _ _ h.0.placed)))
pending_total version said test catalogue (Repeat n ∷ e) a h o = refl
pending_total version said test catalogue (End ∷ e) a h o = refl
pending_total version said test catalogue (Command spoken ∷ e) a h o =
    let more = count_by-append test (pending catalogue e) (execution catalogue e spoken ∷ []) in
    let same = pending_total version said test catalogue e a h.1 o in
    let one = ap one_if (a e spoken) in
    omega arith
pending_total version said test catalogue (Wrong ∷ e) a h o = pending_total version said test catalogue e a h.1 o

command_total : (test : Execution → Bool) (inside : Bool) (es : List Execution) (d : Execution) (t : Bool) → test d ≡ t
    → count_by test (cond inside es (es ++ d ∷ [])) ≡ count_by test es + cond inside 0 (one_if t)
command_total test true es d t e = omega arith
command_total test false es d t e = let more = count_by-append test es (d ∷ []) in let one = ap one_if e in omega arith

-- the parts of the open section
open_total : (test : Execution → Bool) (catalogue : List (List ℕ)) (e : List Statement) → in_parts test (parts_of_open_section catalogue e) ≡ in_parts test (ended_parts catalogue e) + count_by test (executed catalogue e)
open_total test catalogue e = parts_more test (ended_parts catalogue e) (executed catalogue e)

bare_total : (version : ℕ) (test : Execution → Bool) (catalogue : List (List ℕ)) (e : List Statement) → AreClear version e → open_section e ≡ None → in_parts test (parts_of_open_section catalogue e) ≡ 0
bare_total version test catalogue e h o =
    let b = bare version catalogue e h o in
    let parts = ap (in_parts test) b.ended in
    let part = ap (count_by test) b.executed in
    let all = open_total test catalogue e in
    omega arith

-- all sections of these lines
pub sections_total : (version : ℕ) (test : Execution → Bool) (catalogue : List (List ℕ)) (e : List Statement) → AreClear version e
    → in_sections test (option_or (if_catalogue (open_section e) (parts_of_open_section catalogue e)) (closed_catalogue catalogue e)) (closed_warehouses catalogue e ++ if_warehouse (open_section e) (parts_of_open_section catalogue e)) ≡ total test catalogue e
sections_total version test catalogue e h =
    closing_total test (open_section e) (parts_of_open_section catalogue e) (closed_catalogue catalogue e) (closed_warehouses catalogue e) (bare_total version test catalogue e h) (not_closed version catalogue e h)
    ∙ ap (λ (n : ℕ). in_sections test (closed_catalogue catalogue e) (closed_warehouses catalogue e) + n) (open_total test catalogue e)

pub total_is : (version : ℕ) (said : Spoken → Bool) (test : Execution → Bool) (catalogue : List (List ℕ)) (e : List Statement) → Agree said test catalogue → AreClear version e
    → total test catalogue e ≡ executed_count said e
total_is version said test catalogue [] a h = refl
total_is version said test catalogue (Blank ∷ e) a h = total_is version said test catalogue e a h.1
total_is version said test catalogue (Fields n ∷ e) a h = total_is version said test catalogue e a h.1
total_is version said test catalogue (Catalogue ∷ e) a h =
    let same = total_is version said test catalogue e a h.1 in
    let none = bare_total version test catalogue e h.1 (none_is _ (right (is_some (known_fields version e)) _ h.0.placed)) in
    let parts = open_total test catalogue e in
    omega arith
total_is version said test catalogue (Warehouse ∷ e) a h =
    let same = total_is version said test catalogue e a h.1 in
    let all = sections_total version test catalogue e h.1 in
    omega arith
total_is version said test catalogue (Season ∷ e) a h =
    let same = total_is version said test catalogue e a h.1 in
    let parts = open_total test catalogue e in
    omega arith
total_is version said test catalogue (Repeat n ∷ e) a h = total_is version said test catalogue e a h.1
total_is version said test catalogue (End ∷ e) a h =
    let same = total_is version said test catalogue e a h.1 in
    let body = ap (λ (n : ℕ). repetitions (open_repeat e) * n) (pending_total version said test catalogue e a h.1 h.0.placed) in
    let more = count_by-append test (executed catalogue e) (repeated (repetitions (open_repeat e)) (pending catalogue e)) in
    let times = count_repeated test (repetitions (open_repeat e)) (pending catalogue e) in
    omega arith
total_is version said test catalogue (Command spoken ∷ e) a h =
    let same = total_is version said test catalogue e a h.1 in
    let more = command_total test (is_some (open_repeat e)) (executed catalogue e) (execution catalogue e spoken) (said spoken) (a e spoken) in
    omega arith
total_is version said test catalogue (Wrong ∷ e) a h = total_is version said test catalogue e a h.1
