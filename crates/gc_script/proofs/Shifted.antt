-- Lines of version 1, with the line `fields 4` of version 2 before them: what stands after it, one line further on.
use Rattle.std.proofs.Common.{◌≡◌, ℕ, ◌+◌, ◌*◌, List, [], ◌∷◌, ◌++◌, refl, ap, sym, ◌∙◌, subst, cond, Bool, true, arith}
use Rattle.std.proofs.lemmas.List.{length-append}
use Rattle.std.specs.Prelude.{Option, Some, None, is_some, is_none, ◌&&◌, ◌==◌}
use Rattle.gc_script.specs.Statement.{Spoken, Statement, Blank, Fields, Catalogue, Warehouse, Season, Repeat, End, Command, Wrong}
use Rattle.gc_script.specs.Earlier.{next_line, assigns, with_name, stated_fields, known_names, open_repeat, open_section, warehouse_count, season_count}
use Rattle.gc_script.specs.Faults.{Fault, BadHeader, unless_, left_open, line_fault, or_later, first_fault}
use Rattle.gc_script.specs.Script.{repetitions, one_if, pending_count, executed_count, turned}
use Rattle.gc_script.specs.Context.{Context, context_of, fault_in, IsClear}
use Rattle.gc_script.proofs.Clear.{is_clear, no_fault, left}

abbrev pub after_fields : List Statement → List Statement
after_fields e = e ++ Fields 4 ∷ []

-- an open `repeat`, one line further on
abbrev pub shifted : Option (ℕ × ℕ) → Option (ℕ × ℕ)
shifted None = None
shifted (Some o) = Some (o.0 + 1, o.1)

pub same_warehouses : (e : List Statement) → warehouse_count (after_fields e) ≡ warehouse_count e
same_warehouses [] = refl
same_warehouses (Blank ∷ e) = same_warehouses e
same_warehouses (Fields n ∷ e) = same_warehouses e
same_warehouses (Catalogue ∷ e) = same_warehouses e
same_warehouses (Warehouse ∷ e) = ap (λ (n : ℕ). n + 1) (same_warehouses e)
same_warehouses (Season ∷ e) = same_warehouses e
same_warehouses (Repeat n ∷ e) = same_warehouses e
same_warehouses (End ∷ e) = same_warehouses e
same_warehouses (Command spoken ∷ e) = same_warehouses e
same_warehouses (Wrong ∷ e) = same_warehouses e

pub same_section : (e : List Statement) → open_section (after_fields e) ≡ open_section e
same_section [] = refl
same_section (Blank ∷ e) = same_section e
same_section (Fields n ∷ e) = same_section e
same_section (Catalogue ∷ e) = refl
same_section (Warehouse ∷ e) = ap (λ (n : ℕ). Some (n + 1)) (same_warehouses e)
same_section (Season ∷ e) = same_section e
same_section (Repeat n ∷ e) = same_section e
same_section (End ∷ e) = same_section e
same_section (Command spoken ∷ e) = same_section e
same_section (Wrong ∷ e) = same_section e

same_seasons : (e : List Statement) → season_count (after_fields e) ≡ season_count e
same_seasons [] = refl
same_seasons (Blank ∷ e) = same_seasons e
same_seasons (Fields n ∷ e) = same_seasons e
same_seasons (Catalogue ∷ e) = refl
same_seasons (Warehouse ∷ e) = refl
same_seasons (Season ∷ e) = ap (λ (n : ℕ). n + 1) (same_seasons e)
same_seasons (Repeat n ∷ e) = same_seasons e
same_seasons (End ∷ e) = same_seasons e
same_seasons (Command spoken ∷ e) = same_seasons e
same_seasons (Wrong ∷ e) = same_seasons e

pub same_names : (e : List Statement) → known_names (after_fields e) ≡ known_names e
same_names [] = refl
same_names (Blank ∷ e) = same_names e
same_names (Fields n ∷ e) = same_names e
same_names (Catalogue ∷ e) = refl
same_names (Warehouse ∷ e) = refl
same_names (Season ∷ e) = same_names e
same_names (Repeat n ∷ e) = same_names e
same_names (End ∷ e) = same_names e
same_names (Command spoken ∷ e) = ap (with_name (assigns spoken)) (same_names e)
same_names (Wrong ∷ e) = same_names e

next_line_shifted : (e : List Statement) → next_line (after_fields e) ≡ next_line e + 1
next_line_shifted e = let long = length-append e (Fields 4 ∷ []) in omega arith

pub same_repeat : (e : List Statement) → open_repeat (after_fields e) ≡ shifted (open_repeat e)
same_repeat [] = refl
same_repeat (Blank ∷ e) = same_repeat e
same_repeat (Fields n ∷ e) = same_repeat e
same_repeat (Catalogue ∷ e) = refl
same_repeat (Warehouse ∷ e) = refl
same_repeat (Season ∷ e) = same_repeat e
same_repeat (Repeat n ∷ e) = ap (λ (l : ℕ). Some (l, n)) (next_line_shifted e)
same_repeat (End ∷ e) = refl
same_repeat (Command spoken ∷ e) = same_repeat e
same_repeat (Wrong ∷ e) = same_repeat e

pub some_shifted : (o : Option (ℕ × ℕ)) → is_some (shifted o) ≡ is_some o
some_shifted None = refl
some_shifted (Some o) = refl

none_shifted : (o : Option (ℕ × ℕ)) → is_none (shifted o) ≡ is_none o
none_shifted None = refl
none_shifted (Some o) = refl

pub times_shifted : (o : Option (ℕ × ℕ)) → repetitions (shifted o) ≡ repetitions o
times_shifted None = refl
times_shifted (Some o) = refl

-- the context, with names of the catalogue that are known from elsewhere
abbrev with_catalogue : ℕ → List (List ℕ) → List Statement → Context
with_catalogue version catalogue e = record (context_of version e) { catalogue = catalogue }

fault_with : (version : ℕ) (catalogue : List (List ℕ)) (e : List Statement) (s : Statement) → line_fault version catalogue e s ≡ fault_in (with_catalogue version catalogue e) s
fault_with version catalogue e Blank = refl
fault_with version catalogue e (Fields n) = refl
fault_with version catalogue e Catalogue = refl
fault_with version catalogue e Warehouse = refl
fault_with version catalogue e Season = refl
fault_with version catalogue e (Repeat n) = refl
fault_with version catalogue e End = refl
fault_with version catalogue e (Command spoken) = refl
fault_with version catalogue e Wrong = refl

-- a context of version 1 as one of version 2
abbrev moved : Context → Context
moved c = record c { version = 2; line = c.line + 1; opened = shifted c.opened }

never_season : (v : ℕ) → v ≡ 1 → (v == 3) ≡ true → ⊥
never_season v e f = let g = ap (λ (n : ℕ). n == 3) (sym e) ∙ f in cc

moved_clear : (c : Context) (s : Statement) → c.version ≡ 1 → IsClear c s → IsClear (moved c) s
moved_clear c Blank v k = record { uncut = λ h. none_shifted c.opened ∙ k.uncut h; placed = refl; small = k.small; known = k.known; names = k.names; warehouses = k.warehouses; seasons = k.seasons }
moved_clear c (Fields n) v k = record { uncut = λ h. none_shifted c.opened ∙ k.uncut h; placed = k.placed; small = k.small; known = k.known; names = k.names; warehouses = k.warehouses; seasons = k.seasons }
moved_clear c Catalogue v k = record { uncut = λ h. none_shifted c.opened ∙ k.uncut h; placed = k.placed; small = k.small; known = k.known; names = k.names; warehouses = k.warehouses; seasons = k.seasons }
moved_clear c Warehouse v k = record { uncut = λ h. none_shifted c.opened ∙ k.uncut h; placed = k.placed; small = k.small; known = k.known; names = k.names; warehouses = k.warehouses; seasons = k.seasons }
moved_clear c Season v k = absurd (never_season c.version v (left (c.version == 3) _ k.placed))
moved_clear c (Repeat n) v k = record { uncut = λ h. none_shifted c.opened ∙ k.uncut h; placed = ap (λ (b : Bool). is_some c.section && b) (none_shifted c.opened) ∙ k.placed; small = k.small; known = k.known; names = k.names; warehouses = k.warehouses; seasons = k.seasons }
moved_clear c End v k = record { uncut = λ h. none_shifted c.opened ∙ k.uncut h; placed = some_shifted c.opened ∙ k.placed; small = k.small; known = k.known; names = k.names; warehouses = k.warehouses; seasons = k.seasons }
moved_clear c (Command spoken) v k = record { uncut = λ h. none_shifted c.opened ∙ k.uncut h; placed = k.placed; small = k.small; known = k.known; names = k.names; warehouses = k.warehouses; seasons = k.seasons }
moved_clear c Wrong v k = record { uncut = λ h. none_shifted c.opened ∙ k.uncut h; placed = k.placed; small = k.small; known = k.known; names = k.names; warehouses = k.warehouses; seasons = k.seasons }

context_moved : (catalogue : List (List ℕ)) (e : List Statement) → stated_fields (after_fields e) ≡ Some 4 → moved (with_catalogue 1 catalogue e) ≡ with_catalogue 2 catalogue (after_fields e)
context_moved catalogue e f =
    ap (λ (x : ℕ). record (moved (with_catalogue 1 catalogue e)) { line = x }) (sym (next_line_shifted e))
    ∙ ap (λ (x : Option ℕ). record (moved (with_catalogue 1 catalogue e)) { line = next_line (after_fields e); fields = x }) (sym f)
    ∙ ap (λ (x : Option ℕ). record (moved (with_catalogue 1 catalogue e)) { line = next_line (after_fields e); fields = stated_fields (after_fields e); section = x }) (sym (same_section e))
    ∙ ap (λ (x : ℕ). record (moved (with_catalogue 1 catalogue e)) { line = next_line (after_fields e); fields = stated_fields (after_fields e); section = open_section (after_fields e); warehouses = x }) (sym (same_warehouses e))
    ∙ ap (λ (x : ℕ). record (with_catalogue 2 catalogue (after_fields e)) { seasons = x; opened = shifted (open_repeat e); names = known_names e }) (sym (same_seasons e))
    ∙ ap (λ (x : Option (ℕ × ℕ)). record (with_catalogue 2 catalogue (after_fields e)) { opened = x; names = known_names e }) (sym (same_repeat e))
    ∙ ap (λ (x : List (List ℕ)). record (with_catalogue 2 catalogue (after_fields e)) { names = x }) (sym (same_names e))

-- a line without a fault has none in version 2
line_shifted : (catalogue : List (List ℕ)) (e : List Statement) (s : Statement) → stated_fields (after_fields e) ≡ Some 4 → line_fault 1 catalogue e s ≡ None → line_fault 2 catalogue (after_fields e) s ≡ None
line_shifted catalogue e s f h =
    let clear : IsClear (with_catalogue 1 catalogue e) s = is_clear _ s (sym (fault_with 1 catalogue e s) ∙ h) in
    fault_with 2 catalogue (after_fields e) s ∙ no_fault _ s (subst (λ (c : Context). IsClear c s) (context_moved catalogue e f) (moved_clear _ s refl clear))

-- it doesn't state the number of fields
pub fields_shifted : (catalogue : List (List ℕ)) (e : List Statement) (s : Statement) → stated_fields (after_fields e) ≡ Some 4 → line_fault 1 catalogue e s ≡ None → stated_fields (after_fields (s ∷ e)) ≡ Some 4
fields_shifted catalogue e Blank f h = f
fields_shifted catalogue e (Fields n) f h = let clear : IsClear (with_catalogue 1 catalogue e) (Fields n) = is_clear _ (Fields n) h in let never = clear.placed in cc
fields_shifted catalogue e Catalogue f h = f
fields_shifted catalogue e Warehouse f h = f
fields_shifted catalogue e Season f h = f
fields_shifted catalogue e (Repeat n) f h = f
fields_shifted catalogue e End f h = f
fields_shifted catalogue e (Command spoken) f h = f
fields_shifted catalogue e Wrong f h = f

pub first_clear : (f later : Option Fault) → or_later f later ≡ None → f ≡ None
first_clear None later e = refl
first_clear (Some fault) later e = cc

pub later_clear : (f later : Option Fault) → or_later f later ≡ None → later ≡ None
later_clear None later e = e
later_clear (Some fault) later e = cc

both_clear : (f later : Option Fault) → f ≡ None → later ≡ None → or_later f later ≡ None
both_clear f later e g = ap (λ (x : Option Fault). or_later x later) e ∙ g

ended_shifted : (o : Option (ℕ × ℕ)) → left_open o ≡ None → left_open (shifted o) ≡ None
ended_shifted None e = refl
ended_shifted (Some o) e = cc

pub first_shifted : (catalogue : List (List ℕ)) (e all : List Statement) → stated_fields (after_fields e) ≡ Some 4 → first_fault 1 catalogue e all ≡ None → first_fault 2 catalogue (after_fields e) all ≡ None
first_shifted catalogue e [] f h =
    ap (λ (x : Option ℕ). unless_ (is_some x) BadHeader (left_open (open_repeat (after_fields e)))) f ∙ ap left_open (same_repeat e) ∙ ended_shifted (open_repeat e) h
first_shifted catalogue e (s ∷ rest) f h =
    let here : line_fault 1 catalogue e s ≡ None = first_clear _ _ h in
    both_clear _ _ (line_shifted catalogue e s f here) (first_shifted catalogue (s ∷ e) rest (fields_shifted catalogue e s f here) (later_clear (line_fault 1 catalogue e s) _ h))

pub turned_after : (e x all : List Statement) → turned (e ++ x) all ≡ turned e all ++ x
turned_after e x [] = refl
turned_after e x (s ∷ rest) = turned_after (s ∷ e) x rest

same_pending_count : (test : Spoken → Bool) (e : List Statement) → pending_count test (after_fields e) ≡ pending_count test e
same_pending_count test [] = refl
same_pending_count test (Blank ∷ e) = same_pending_count test e
same_pending_count test (Fields n ∷ e) = same_pending_count test e
same_pending_count test (Catalogue ∷ e) = refl
same_pending_count test (Warehouse ∷ e) = refl
same_pending_count test (Season ∷ e) = same_pending_count test e
same_pending_count test (Repeat n ∷ e) = refl
same_pending_count test (End ∷ e) = refl
same_pending_count test (Command spoken ∷ e) = ap (λ (n : ℕ). n + one_if (test spoken)) (same_pending_count test e)
same_pending_count test (Wrong ∷ e) = same_pending_count test e

pub same_count : (test : Spoken → Bool) (e : List Statement) → executed_count test (after_fields e) ≡ executed_count test e
same_count test [] = refl
same_count test (Blank ∷ e) = same_count test e
same_count test (Fields n ∷ e) = same_count test e
same_count test (Catalogue ∷ e) = same_count test e
same_count test (Warehouse ∷ e) = same_count test e
same_count test (Season ∷ e) = same_count test e
same_count test (Repeat n ∷ e) = same_count test e
same_count test (End ∷ e) =
    ap (λ (n : ℕ). n + repetitions (open_repeat (after_fields e)) * pending_count test (after_fields e)) (same_count test e)
    ∙ ap (λ (n : ℕ). executed_count test e + n * pending_count test (after_fields e)) (ap repetitions (same_repeat e) ∙ times_shifted (open_repeat e))
    ∙ ap (λ (n : ℕ). executed_count test e + repetitions (open_repeat e) * n) (same_pending_count test e)
same_count test (Command spoken ∷ e) =
    ap (λ (n : ℕ). n + cond (is_some (open_repeat (after_fields e))) 0 (one_if (test spoken))) (same_count test e)
    ∙ ap (λ (b : Bool). executed_count test e + cond b 0 (one_if (test spoken))) (ap is_some (same_repeat e) ∙ some_shifted (open_repeat e))
same_count test (Wrong ∷ e) = same_count test e
