-- The commands of a script without a fault are in range.
use Rattle.std.proofs.Common.{◌≡◌, ℕ, ◌≤◌, zero, suc, List, [], ◌∷◌, ◌++◌, refl, ap, sym, ◌∙◌, subst, cond, Bool, true, false, add-one, arith}
use Rattle.std.proofs.lemmas.List.{append-nil}
use Rattle.std.proofs.lemmas.List.Concat.{flat_map-append}
use Rattle.std.proofs.lemmas.List.Elements.{All-append, All-nil, All-push, All-same}
use Rattle.std.specs.Prelude.{Option, Some, None, is_none, is_some, unwrap_or, ◌&&◌, ◌==◌}
use Rattle.std.specs.Option.{option_or}
use Rattle.std.specs.List.{All}
use Rattle.plain_heap.specs.PlainStep.{IsInRange}
use Rattle.plain_heap.specs.Sections.{Execution, joined}
use Rattle.gc_script.specs.Statement.{Spoken, Statement, Blank, Fields, Catalogue, Warehouse, Season, Repeat, End, Command, Wrong}
use Rattle.gc_script.specs.Earlier.{known_fields, known_names, warehouse_count, open_repeat, open_section}
use Rattle.gc_script.specs.Script.{repeated, repetitions, pending, executed, execution, ended_parts, parts_of_open_section, if_warehouse, if_catalogue, closed_warehouses, closed_catalogue}
use Rattle.gc_script.specs.Context.{IsCatalogueKnown, Context, context_of, closed_names, IsClear, AreClear, IsSane, execution_in}
use Rattle.gc_script.proofs.Contexts.{context_step}
use Rattle.gc_script.proofs.Clear.{sane_step, in_range, right, left}
use Rattle.gc_script.proofs.History.{same_execution}

pub first_sane : (version : ℕ) → IsSane (context_of version [])
first_sane version = record { names = omega arith; catalogue = omega arith; warehouses = omega arith; seasons = omega arith; fields = four (version == 1) }
  where
    four : (b : Bool) → unwrap_or (cond b (Some 4) None) 0 ≤ 16
    four true = omega arith
    four false = omega arith

pub sane : (version : ℕ) (e : List Statement) → AreClear version e → IsSane (context_of version e)
sane version [] h = first_sane version
sane version (s ∷ e) h = subst IsSane (sym (context_step version e s h.0.placed)) (sane_step _ s (sane version e h.1) h.0)

-- what the catalogue's names are at the end, they were in each warehouse
agreed : (version : ℕ) (catalogue : List (List ℕ)) (e : List Statement) (s : Statement) → IsClear (context_of version e) s → IsCatalogueKnown catalogue (s ∷ e) → IsCatalogueKnown catalogue e
agreed version catalogue e Blank k a = a
agreed version catalogue e (Fields n) k a = a
agreed version catalogue e Catalogue k a = λ w o. absurd (opened (open_section e) w o (right (is_some (known_fields version e)) _ k.placed))
  where
    opened : (o : Option ℕ) (w : ℕ) → o ≡ Some (suc w) → is_none o ≡ true → ⊥
    opened None w e f = cc
    opened (Some n) w e f = cc
agreed version catalogue e Warehouse k a = λ w o.
    sym (ap (λ s. Rattle.gc_script.specs.Context.closing s (known_names e) (closed_names e)) o) ∙ a (warehouse_count e) (ap Some (add-one (warehouse_count e)))
agreed version catalogue e Season k a = a
agreed version catalogue e (Repeat n) k a = a
agreed version catalogue e End k a = a
agreed version catalogue e (Command spoken) k a = a
agreed version catalogue e Wrong k a = a

-- an execution is in range
abbrev pub Fits : ℕ → Execution → Type 0
Fits fields e = IsInRange fields e.op

-- each of these parts' executions is so
abbrev pub AllFit : (Execution → Type 0) → List (List Execution) → Type 0
AllFit P parts = All P (joined parts)

pub fit_push : (P : Execution → Type 0) (parts : List (List Execution)) (part : List Execution) → AllFit P parts → All P part → AllFit P (parts ++ part ∷ [])
fit_push P parts part h k =
    All-same P _ (joined parts ++ part) (flat_map-append (λ (p : List Execution). p) parts (part ∷ []) ∙ ap (λ (p : List Execution). joined parts ++ p) (append-nil part))
    (All-append P (joined parts) part h k)

pub fit_repeated : (P : Execution → Type 0) (n : ℕ) (body : List Execution) → All P body → All P (repeated n body)
fit_repeated P zero body h = All-nil P
fit_repeated P (suc n) body h = All-append P body (repeated n body) h (fit_repeated P n body h)

-- everything that these lines make is in range
pub record AreRanged (fields : ℕ) (catalogue : List (List ℕ)) (e : List Statement) : Type 0 where
  pub first : AllFit (Fits fields) (unwrap_or (closed_catalogue catalogue e) [])
  pub warehouses : All (AllFit (Fits fields)) (closed_warehouses catalogue e)
  pub ended : AllFit (Fits fields) (ended_parts catalogue e)
  pub executed : All (Fits fields) (executed catalogue e)
  pub pending : All (Fits fields) (pending catalogue e)

-- a section is closed
pub fit_catalogue : (P : Execution → Type 0) (o : Option ℕ) (parts : List (List Execution)) (closed : Option (List (List Execution))) → (o ≡ Some 0 → AllFit P parts) → AllFit P (unwrap_or closed [])
    → AllFit P (unwrap_or (option_or (if_catalogue o parts) closed) [])
fit_catalogue P None parts closed h k = k
fit_catalogue P (Some zero) parts closed h k = h refl
fit_catalogue P (Some (suc w)) parts closed h k = k

pub fit_warehouses : (P : Execution → Type 0) (o : Option ℕ) (parts : List (List Execution)) (closed : List (List (List Execution))) → AllFit P parts → All (AllFit P) closed → All (AllFit P) (closed ++ if_warehouse o parts)
fit_warehouses P None parts closed h k = All-same (AllFit P) _ closed (append-nil closed) k
fit_warehouses P (Some zero) parts closed h k = All-same (AllFit P) _ closed (append-nil closed) k
fit_warehouses P (Some (suc w)) parts closed h k = All-push (AllFit P) closed parts k h

-- a section stands only if the number of fields is known
fields_known : (version : ℕ) (e : List Statement) → AreClear version e → is_some (open_section e) ≡ true → is_none (known_fields version e) ≡ true → ⊥
fields_known version [] h o n = cc
fields_known version (Blank ∷ e) h o n = fields_known version e h.1 o n
fields_known version (Fields f ∷ e) h o n = fields_known version e h.1 o (left (is_none (known_fields version e)) _ h.0.placed)
fields_known version (Catalogue ∷ e) h o n = both (known_fields version e) (left (is_some (known_fields version e)) _ h.0.placed) n
  where
    both : (f : Option ℕ) → is_some f ≡ true → is_none f ≡ true → ⊥
    both None e f = cc
    both (Some k) e f = cc
fields_known version (Warehouse ∷ e) h o n = both (known_fields version e) h.0.placed n
  where
    both : (f : Option ℕ) → is_some f ≡ true → is_none f ≡ true → ⊥
    both None e f = cc
    both (Some k) e f = cc
fields_known version (Season ∷ e) h o n = fields_known version e h.1 o n
fields_known version (Repeat k ∷ e) h o n = fields_known version e h.1 o n
fields_known version (End ∷ e) h o n = fields_known version e h.1 o n
fields_known version (Command spoken ∷ e) h o n = fields_known version e h.1 o n
fields_known version (Wrong ∷ e) h o n = fields_known version e h.1 o n

some_is : (o : Option ℕ) (s : Spoken) → Rattle.gc_script.specs.Faults.may_stand o s ≡ true → is_some o ≡ true
some_is None s h = h
some_is (Some n) s h = refl

pub more_executed : (P : Execution → Type 0) (inside : Bool) (es : List Execution) (d : Execution) → All P es → P d → All P (cond inside es (es ++ d ∷ []))
more_executed P true es d h k = h
more_executed P false es d h k = All-push P es d h k

pub ranged : (version fields : ℕ) (catalogue : List (List ℕ)) (e : List Statement) → AreClear version e → IsCatalogueKnown catalogue e → (is_some (open_section e) ≡ true → known_fields version e ≡ Some fields)
    → AreRanged fields catalogue e
ranged version fields catalogue [] h a f = record { first = All-nil _; warehouses = All-nil _; ended = All-nil _; executed = All-nil _; pending = All-nil _ }
ranged version fields catalogue (Blank ∷ e) h a f = let r = ranged version fields catalogue e h.1 a f in record { first = r.first; warehouses = r.warehouses; ended = r.ended; executed = r.executed; pending = r.pending }
ranged version fields catalogue (Fields n ∷ e) h a f =
    let r = ranged version fields catalogue e h.1 a (λ o. absurd (fields_known version e h.1 o (left (is_none (known_fields version e)) _ h.0.placed))) in
    record { first = r.first; warehouses = r.warehouses; ended = r.ended; executed = r.executed; pending = r.pending }
ranged version fields catalogue (Catalogue ∷ e) h a f =
    let r = ranged version fields catalogue e h.1 (agreed version catalogue e Catalogue h.0 a) (λ o. f refl) in
    record { first = r.first; warehouses = r.warehouses; ended = All-nil _; executed = All-nil _; pending = All-nil _ }
ranged version fields catalogue (Warehouse ∷ e) h a f =
    let r = ranged version fields catalogue e h.1 (agreed version catalogue e Warehouse h.0 a) (λ o. f refl) in
    let parts : AllFit (Fits fields) (parts_of_open_section catalogue e) = fit_push (Fits fields) (ended_parts catalogue e) (executed catalogue e) r.ended r.executed in
    record {
      first = fit_catalogue (Fits fields) (open_section e) (parts_of_open_section catalogue e) (closed_catalogue catalogue e) (λ o. parts) r.first;
      warehouses = fit_warehouses (Fits fields) (open_section e) (parts_of_open_section catalogue e) (closed_warehouses catalogue e) parts r.warehouses;
      ended = All-nil _;
      executed = All-nil _;
      pending = All-nil _;
    }
ranged version fields catalogue (Season ∷ e) h a f =
    let r = ranged version fields catalogue e h.1 a f in
    record { first = r.first; warehouses = r.warehouses; ended = fit_push (Fits fields) (ended_parts catalogue e) (executed catalogue e) r.ended r.executed; executed = All-nil _; pending = All-nil _ }
ranged version fields catalogue (Repeat n ∷ e) h a f =
    let r = ranged version fields catalogue e h.1 a f in record { first = r.first; warehouses = r.warehouses; ended = r.ended; executed = r.executed; pending = All-nil _ }
ranged version fields catalogue (End ∷ e) h a f =
    let r = ranged version fields catalogue e h.1 a f in
    let body = fit_repeated (Fits fields) (repetitions (open_repeat e)) (pending catalogue e) r.pending in
    record { first = r.first; warehouses = r.warehouses; ended = r.ended; executed = All-append (Fits fields) (executed catalogue e) _ r.executed body; pending = All-nil _ }
ranged version fields catalogue (Command spoken ∷ e) h a f =
    let r = ranged version fields catalogue e h.1 a f in
    let here : IsInRange (unwrap_or (known_fields version e) 0) (execution_in (context_of version e) spoken).op = in_range (context_of version e) spoken (sane version e h.1) h.0 in
    let known : known_fields version e ≡ Some fields = f (some_is (open_section e) spoken h.0.placed) in
    let told : Fits fields (execution_in (context_of version e) spoken) = subst (λ (o : Option ℕ). IsInRange (unwrap_or o 0) (execution_in (context_of version e) spoken).op) known here in
    let one : Fits fields (execution catalogue e spoken) = subst (Fits fields) (sym (same_execution version catalogue e spoken a h.0)) told in
    record {
      first = r.first;
      warehouses = r.warehouses;
      ended = r.ended;
      executed = more_executed (Fits fields) (is_some (open_repeat e)) (executed catalogue e) (execution catalogue e spoken) r.executed one;
      pending = All-push (Fits fields) (pending catalogue e) (execution catalogue e spoken) r.pending one;
    }
ranged version fields catalogue (Wrong ∷ e) h a f = let r = ranged version fields catalogue e h.1 a f in record { first = r.first; warehouses = r.warehouses; ended = r.ended; executed = r.executed; pending = r.pending }
