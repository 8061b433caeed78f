-- Lines of version 1, with the line `fields 4` of version 2 before them, mean the same.
use Rattle.std.proofs.Common.{◌≡◌, ℕ, zero, suc, List, [], ◌∷◌, ◌++◌, map, refl, ap, sym, ◌∙◌, cond, Bool, true, false}
use Rattle.std.proofs.lemmas.List.{append-nil, map-append}
use Rattle.std.specs.Prelude.{nat_lt, Option, Some, None, is_some, unwrap_or, option_map, Ok}
use Rattle.std.specs.Option.{option_or}
use Rattle.plain_heap.specs.Sections.{Execution}
use Rattle.gc_script.specs.Statement.{Spoken, Statement, Blank, Fields, Catalogue, Warehouse, Season, Repeat, End, Command, Wrong}
use Rattle.gc_script.specs.Earlier.{place, stated_fields, open_repeat, open_section, catalogue_names, is_printing}
use Rattle.gc_script.specs.Faults.{Fault, first_fault, line_fault}
use Rattle.gc_script.specs.Script.{Script, repeated, repetitions, pending, executed, execution, operation, label_of, ended_parts, parts_of_open_section, if_warehouse, if_catalogue, closed_warehouses, closed_catalogue, sections, executed_count, turned, limited, judged, body}
use Rattle.gc_script.specs.Convert.{without_line, without_lines}
use Rattle.gc_script.proofs.Shifted.{after_fields, same_section, same_names, same_repeat, some_shifted, times_shifted, fields_shifted, first_clear, later_clear, first_shifted, turned_after, same_count}

abbrev bare : List Execution → List Execution
bare es = map without_line es

abbrev bares : List (List Execution) → List (List Execution)
bares parts = map bare parts

map_push : {A B : Type 0} (f : A → B) (xs ys : List A) (x y : A) → map f xs ≡ map f ys → f x ≡ f y → map f (xs ++ x ∷ []) ≡ map f (ys ++ y ∷ [])
map_push f xs ys x y e g = map-append f xs (x ∷ []) ∙ ap (λ l. l ++ f x ∷ []) e ∙ ap (λ z. map f ys ++ z ∷ []) g ∙ sym (map-append f ys (y ∷ []))

bare_repeated : (n : ℕ) (body : List Execution) → bare (repeated n body) ≡ repeated n (bare body)
bare_repeated zero body = refl
bare_repeated (suc n) body = map-append without_line body (repeated n body) ∙ ap (λ l. bare body ++ l) (bare_repeated n body)

same_bare : (catalogue : List (List ℕ)) (e : List Statement) (s : Spoken) → without_line (execution catalogue (after_fields e) s) ≡ without_line (execution catalogue e s)
same_bare catalogue e s = ap (λ (names : List (List ℕ)). record { line = 0; label = label_of s; op = operation (place names) (place catalogue) s }) (same_names e)

same_pending : (catalogue : List (List ℕ)) (e : List Statement) → bare (pending catalogue (after_fields e)) ≡ bare (pending catalogue e)
same_pending catalogue [] = refl
same_pending catalogue (Blank ∷ e) = same_pending catalogue e
same_pending catalogue (Fields n ∷ e) = same_pending catalogue e
same_pending catalogue (Catalogue ∷ e) = refl
same_pending catalogue (Warehouse ∷ e) = refl
same_pending catalogue (Season ∷ e) = refl
same_pending catalogue (Repeat n ∷ e) = refl
same_pending catalogue (End ∷ e) = refl
same_pending catalogue (Command spoken ∷ e) = map_push without_line _ (pending catalogue e) _ _ (same_pending catalogue e) (same_bare catalogue e spoken)
same_pending catalogue (Wrong ∷ e) = same_pending catalogue e

by_inside : (b : Bool) (xs ys : List Execution) (x y : Execution) → bare xs ≡ bare ys → without_line x ≡ without_line y → bare (cond b xs (xs ++ x ∷ [])) ≡ bare (cond b ys (ys ++ y ∷ []))
by_inside true xs ys x y e f = e
by_inside false xs ys x y e f = map_push without_line xs ys x y e f

same_executed : (catalogue : List (List ℕ)) (e : List Statement) → bare (executed catalogue (after_fields e)) ≡ bare (executed catalogue e)
same_executed catalogue [] = refl
same_executed catalogue (Blank ∷ e) = same_executed catalogue e
same_executed catalogue (Fields n ∷ e) = same_executed catalogue e
same_executed catalogue (Catalogue ∷ e) = refl
same_executed catalogue (Warehouse ∷ e) = refl
same_executed catalogue (Season ∷ e) = refl
same_executed catalogue (Repeat n ∷ e) = same_executed catalogue e
same_executed catalogue (End ∷ e) =
    let times : repetitions (open_repeat (after_fields e)) ≡ repetitions (open_repeat e) = ap repetitions (same_repeat e) ∙ times_shifted (open_repeat e) in
    map-append without_line (executed catalogue (after_fields e)) (repeated (repetitions (open_repeat (after_fields e))) (pending catalogue (after_fields e)))
    ∙ ap (λ (l : List Execution). l ++ bare (repeated (repetitions (open_repeat (after_fields e))) (pending catalogue (after_fields e)))) (same_executed catalogue e)
    ∙ ap (λ (l : List Execution). bare (executed catalogue e) ++ l)
    (bare_repeated (repetitions (open_repeat (after_fields e))) (pending catalogue (after_fields e)) ∙ ap (λ (n : ℕ). repeated n (bare (pending catalogue (after_fields e)))) times
    ∙ ap (repeated (repetitions (open_repeat e))) (same_pending catalogue e) ∙ sym (bare_repeated (repetitions (open_repeat e)) (pending catalogue e)))
    ∙ sym (map-append without_line (executed catalogue e) (repeated (repetitions (open_repeat e)) (pending catalogue e)))
same_executed catalogue (Command spoken ∷ e) =
    ap (λ (b : Bool). bare (cond b (executed catalogue (after_fields e)) (executed catalogue (after_fields e) ++ execution catalogue (after_fields e) spoken ∷ []))) (ap is_some (same_repeat e) ∙ some_shifted (open_repeat e))
    ∙ by_inside (is_some (open_repeat e)) (executed catalogue (after_fields e)) (executed catalogue e) _ _ (same_executed catalogue e) (same_bare catalogue e spoken)
same_executed catalogue (Wrong ∷ e) = same_executed catalogue e

same_ended : (catalogue : List (List ℕ)) (e : List Statement) → bares (ended_parts catalogue (after_fields e)) ≡ bares (ended_parts catalogue e)
same_ended catalogue [] = refl
same_ended catalogue (Blank ∷ e) = same_ended catalogue e
same_ended catalogue (Fields n ∷ e) = same_ended catalogue e
same_ended catalogue (Catalogue ∷ e) = refl
same_ended catalogue (Warehouse ∷ e) = refl
same_ended catalogue (Season ∷ e) = map_push bare (ended_parts catalogue (after_fields e)) (ended_parts catalogue e) _ _ (same_ended catalogue e) (same_executed catalogue e)
same_ended catalogue (Repeat n ∷ e) = same_ended catalogue e
same_ended catalogue (End ∷ e) = same_ended catalogue e
same_ended catalogue (Command spoken ∷ e) = same_ended catalogue e
same_ended catalogue (Wrong ∷ e) = same_ended catalogue e

same_open : (catalogue : List (List ℕ)) (e : List Statement) → bares (parts_of_open_section catalogue (after_fields e)) ≡ bares (parts_of_open_section catalogue e)
same_open catalogue e = map_push bare (ended_parts catalogue (after_fields e)) (ended_parts catalogue e) _ _ (same_ended catalogue e) (same_executed catalogue e)

closing_warehouses : (o q : Option ℕ) (xs ys : List (List (List Execution))) (a b : List (List Execution)) → o ≡ q → map bares xs ≡ map bares ys → bares a ≡ bares b → map bares (xs ++ if_warehouse o a) ≡ map bares (ys ++ if_warehouse q b)
closing_warehouses o q xs ys a b s e f = ap (λ (p : Option ℕ). map bares (xs ++ if_warehouse p a)) s ∙ by_section q
  where
    by_section : (p : Option ℕ) → map bares (xs ++ if_warehouse p a) ≡ map bares (ys ++ if_warehouse p b)
    by_section None = ap (map bares) (append-nil xs) ∙ e ∙ sym (ap (map bares) (append-nil ys))
    by_section (Some zero) = ap (map bares) (append-nil xs) ∙ e ∙ sym (ap (map bares) (append-nil ys))
    by_section (Some (suc w)) = map_push bares xs ys a b e f

closing_catalogue : (o q : Option ℕ) (x y : Option (List (List Execution))) (a b : List (List Execution)) → o ≡ q → option_map bares x ≡ option_map bares y → bares a ≡ bares b
    → option_map bares (option_or (if_catalogue o a) x) ≡ option_map bares (option_or (if_catalogue q b) y)
closing_catalogue o q x y a b s e f = ap (λ (p : Option ℕ). option_map bares (option_or (if_catalogue p a) x)) s ∙ by_section q
  where
    by_section : (p : Option ℕ) → option_map bares (option_or (if_catalogue p a) x) ≡ option_map bares (option_or (if_catalogue p b) y)
    by_section None = e
    by_section (Some zero) = ap Some f
    by_section (Some (suc w)) = e

same_closed : (catalogue : List (List ℕ)) (e : List Statement) → map bares (closed_warehouses catalogue (after_fields e)) ≡ map bares (closed_warehouses catalogue e)
same_closed catalogue [] = refl
same_closed catalogue (Blank ∷ e) = same_closed catalogue e
same_closed catalogue (Fields n ∷ e) = same_closed catalogue e
same_closed catalogue (Catalogue ∷ e) = same_closed catalogue e
same_closed catalogue (Warehouse ∷ e) =
    closing_warehouses (open_section (after_fields e)) (open_section e) (closed_warehouses catalogue (after_fields e)) (closed_warehouses catalogue e) (parts_of_open_section catalogue (after_fields e)) (parts_of_open_section catalogue e)
    (same_section e) (same_closed catalogue e) (same_open catalogue e)
same_closed catalogue (Season ∷ e) = same_closed catalogue e
same_closed catalogue (Repeat n ∷ e) = same_closed catalogue e
same_closed catalogue (End ∷ e) = same_closed catalogue e
same_closed catalogue (Command spoken ∷ e) = same_closed catalogue e
same_closed catalogue (Wrong ∷ e) = same_closed catalogue e

same_catalogue : (catalogue : List (List ℕ)) (e : List Statement) → option_map bares (closed_catalogue catalogue (after_fields e)) ≡ option_map bares (closed_catalogue catalogue e)
same_catalogue catalogue [] = refl
same_catalogue catalogue (Blank ∷ e) = same_catalogue catalogue e
same_catalogue catalogue (Fields n ∷ e) = same_catalogue catalogue e
same_catalogue catalogue (Catalogue ∷ e) = same_catalogue catalogue e
same_catalogue catalogue (Warehouse ∷ e) =
    closing_catalogue (open_section (after_fields e)) (open_section e) (closed_catalogue catalogue (after_fields e)) (closed_catalogue catalogue e) (parts_of_open_section catalogue (after_fields e)) (parts_of_open_section catalogue e)
    (same_section e) (same_catalogue catalogue e) (same_open catalogue e)
same_catalogue catalogue (Season ∷ e) = same_catalogue catalogue e
same_catalogue catalogue (Repeat n ∷ e) = same_catalogue catalogue e
same_catalogue catalogue (End ∷ e) = same_catalogue catalogue e
same_catalogue catalogue (Command spoken ∷ e) = same_catalogue catalogue e
same_catalogue catalogue (Wrong ∷ e) = same_catalogue catalogue e

same_sections : (catalogue : List (List ℕ)) (e : List Statement) → stated_fields (after_fields e) ≡ Some 4 → without_lines (sections 2 catalogue (after_fields e)) ≡ without_lines (sections 1 catalogue e)
same_sections catalogue e f =
    ap (λ (o : Option ℕ). record (without_lines (sections 2 catalogue (after_fields e))) { fields = unwrap_or o 0 }) f
    ∙ ap (λ (c : Option (List (List Execution))). record (without_lines (sections 2 catalogue (after_fields e))) { fields = 4; catalogue = c })
    (closing_catalogue (open_section (after_fields e)) (open_section e) (closed_catalogue catalogue (after_fields e)) (closed_catalogue catalogue e) (parts_of_open_section catalogue (after_fields e)) (parts_of_open_section catalogue e)
    (same_section e) (same_catalogue catalogue e) (same_open catalogue e))
    ∙ ap (λ (w : List (List (List Execution))). record (without_lines (sections 1 catalogue e)) { warehouses = w })
    (closing_warehouses (open_section (after_fields e)) (open_section e) (closed_warehouses catalogue (after_fields e)) (closed_warehouses catalogue e) (parts_of_open_section catalogue (after_fields e)) (parts_of_open_section catalogue e)
    (same_section e) (same_closed catalogue e) (same_open catalogue e))

stated_at_end : (catalogue : List (List ℕ)) (e all : List Statement) → stated_fields (after_fields e) ≡ Some 4 → first_fault 1 catalogue e all ≡ None → stated_fields (after_fields (turned e all)) ≡ Some 4
stated_at_end catalogue e [] f h = f
stated_at_end catalogue e (s ∷ rest) f h =
    stated_at_end catalogue (s ∷ e) rest (fields_shifted catalogue e s f (first_clear (line_fault 1 catalogue e s) _ h)) (later_clear (line_fault 1 catalogue e s) _ h)

judged_ok : (f : Option Fault) (version : ℕ) (catalogue : List (List ℕ)) (e : List Statement) (s : Script) → judged f version catalogue e ≡ Ok s → f ≡ None
judged_ok None version catalogue e s h = refl
judged_ok (Some fault) version catalogue e s h = cc

pub limited_ok : (a b : Bool) (version : ℕ) (catalogue : List (List ℕ)) (e : List Statement) (s : Script) → limited a b version catalogue e ≡ Ok s
    → (a ≡ false) × (b ≡ false) × (s ≡ record { version = version; sections = sections version catalogue e })
limited_ok true b version catalogue e s h = cc
limited_ok false true version catalogue e s h = cc
limited_ok false false version catalogue e s h = (refl, refl, cc)

-- a script of these lines has no fault, is within the limits, and is that of its version
pub record IsScript (version : ℕ) (all : List Statement) (s : Script) : Type 0 where
  pub fault : first_fault version (catalogue_names all) [] all ≡ None
  pub commands : nat_lt 2000000 (executed_count (λ spoken. true) (turned [] all)) ≡ false
  pub lines : nat_lt 65536 (executed_count is_printing (turned [] all)) ≡ false
  pub same : s ≡ record { version = version; sections = sections version (catalogue_names all) (turned [] all) }

pub body_ok : (version : ℕ) (all : List Statement) (s : Script) → body version all ≡ Ok s → IsScript version all s
body_ok version all s h =
    let none = judged_ok (first_fault version (catalogue_names all) [] all) version (catalogue_names all) (turned [] all) s h in
    let within = limited_ok _ _ version (catalogue_names all) (turned [] all) s (sym (ap (λ (f : Option Fault). judged f version (catalogue_names all) (turned [] all)) none) ∙ h) in
    record { fault = none; commands = within.0; lines = within.1; same = within.2 }

pub body_same : (all : List Statement) (s : Script) → body 1 all ≡ Ok s → (t : Script) × (body 2 (Fields 4 ∷ all) ≡ Ok t) × (without_lines t.sections ≡ without_lines s.sections)
body_same all s h =
    let catalogue : List (List ℕ) = catalogue_names all in
    let e : List Statement = turned [] all in
    let k : IsScript 1 all s = body_ok 1 all s h in
    let moved : turned (Fields 4 ∷ []) all ≡ after_fields e = turned_after [] (Fields 4 ∷ []) all in
    let none : first_fault 2 catalogue (Fields 4 ∷ []) all ≡ None = first_shifted catalogue [] all refl k.fault in
    let commands : nat_lt 2000000 (executed_count (λ spoken. true) (after_fields e)) ≡ false = ap (λ (n : ℕ). nat_lt 2000000 n) (same_count (λ spoken. true) e) ∙ k.commands in
    let lines : nat_lt 65536 (executed_count is_printing (after_fields e)) ≡ false = ap (λ (n : ℕ). nat_lt 65536 n) (same_count is_printing e) ∙ k.lines in (
      record { version = 2; sections = sections 2 catalogue (after_fields e) },
      ap (λ (f : Option Fault). judged f 2 catalogue (turned (Fields 4 ∷ []) all)) none
          ∙ ap (judged None 2 catalogue) moved
          ∙ ap (λ (b : Bool). limited b (nat_lt 65536 (executed_count is_printing (after_fields e))) 2 catalogue (after_fields e)) commands
          ∙ ap (λ (b : Bool). limited false b 2 catalogue (after_fields e)) lines,
      same_sections catalogue e (stated_at_end catalogue [] all refl k.fault) ∙ sym (ap (λ (z : Script). without_lines z.sections) k.same),
    )
