use Rattle.std.proofs.Common.{◌≡◌, ℕ, ◌≤◌, List, [], ◌∷◌, subst, cond, Bool, true, false, arith, ◌++◌, refl, ap, sym, ◌∙◌}
use Rattle.std.proofs.lemmas.Bool.Decides.{nat_tests}
use Rattle.std.proofs.lemmas.Option.{same_Some}
use Rattle.std.specs.Prelude.{Some, is_none, ◌&&◌, ◌==◌, not, nat_lt, Option, None, is_some, unwrap_or, Result, Ok, Err}
use Rattle.gc_script.specs.Statement.{Statement, Blank, Fields, Catalogue, Warehouse, Season, Repeat, End, Command, Wrong, NewOf, LetOf, NilOf, SetOf, GetOf, CatOf, PutOf, SayOf, SumOf, CollectOf}
use Rattle.gc_script.specs.Earlier.{known_fields, stated_fields, open_repeat, open_section, catalogue_names, is_printing}
use Rattle.gc_script.specs.Context.{AreClear, Context, context_of, IsCatalogueKnown}
use Rattle.std.specs.Option.{option_or}
use Rattle.std.specs.List.{All}
use Rattle.plain_heap.specs.Sections.{Execution}
use Rattle.gc_script.specs.Faults.{Fault, BadHeader, TooManyCommands, TooManyLines, unless_, left_open, end_fault}
use Rattle.gc_script.specs.Script.{Script, executed, ended_parts, parts_of_open_section, if_warehouse, if_catalogue, closed_warehouses, closed_catalogue, sections, executed_count, turned, limited, judged, body}
use Rattle.gc_script.specs.Kept.{context_shown}
use Rattle.gc_script.specs.Content.{content_of, kept_shown, end_part, close}
use Rattle.gc_script.specs.Blocks.{counts}
use Rattle.gc_script.specs.Sectioned.{AreLegal, in_sections}
use Rattle.gc_script.specs.Reading.{AreRead}
use Rattle.gc_script.specs.Finished.{limited_script, ended_script, finished_script, IsWhole, ReadAnswers}
use Rattle.gc_script.specs.declared.block.Kind.TheVariants.{All as AllOf, Printing}
use Rattle.gc_script.specs.declared.progress.Progress.{Progress}
use Rattle.gc_script.proofs.History.{executed_outside}
use Rattle.gc_script.proofs.Totals.{Agree, total_is, sections_total}
use Rattle.gc_script.proofs.Ranges.{AllFit, Fits, AreRanged, ranged, sane, fit_push, fit_catalogue, fit_warehouses}
use Rattle.gc_script.proofs.Alone.{alone-end}
use Rattle.gc_script.proofs.Seasons.{all_few, few_warehouses_all}
use Rattle.gc_script.proofs.Lines.{statements}
use Rattle.gc_script.proofs.reader.script_of_body.Goals as goal

-- Lines that were read to their end are the script.
-- An object of a script without a fault has one field at least.
some_field : (b : Bool) (n : ℕ) → (b && not (n == 0)) ≡ true → 1 ≤ n
some_field true n h = grind (arith, nat_tests)
some_field false n h = cc

stated : (version : ℕ) (e : List Statement) → AreClear version e → (n : ℕ) → stated_fields e ≡ Some n → 1 ≤ n
stated version [] h n k = cc
stated version (Blank ∷ e) h n k = stated version e h.1 n k
stated version (Fields m ∷ e) h n k = subst (λ (f : ℕ). 1 ≤ f) (same_Some m n k) (some_field (is_none (known_fields version e)) m h.0.placed)
stated version (Catalogue ∷ e) h n k = stated version e h.1 n k
stated version (Warehouse ∷ e) h n k = stated version e h.1 n k
stated version (Season ∷ e) h n k = stated version e h.1 n k
stated version (Repeat r ∷ e) h n k = stated version e h.1 n k
stated version (End ∷ e) h n k = stated version e h.1 n k
stated version (Command spoken ∷ e) h n k = stated version e h.1 n k
stated version (Wrong ∷ e) h n k = stated version e h.1 n k

least : (version : ℕ) (e : List Statement) → AreClear version e → (n : ℕ) → known_fields version e ≡ Some n → 1 ≤ n
least version e h n k = of (version == 1) k
  where
    of : (b : Bool) → cond b (Some 4) (stated_fields e) ≡ Some n → 1 ≤ n
    of true k = subst (λ (m : ℕ). 1 ≤ m) (same_Some 4 n k) (omega arith)
    of false k = stated version e h n k

printing : (catalogue : List (List ℕ)) → Agree is_printing (counts Printing) catalogue
printing catalogue e (NewOf v n) = refl
printing catalogue e (LetOf v w) = refl
printing catalogue e (NilOf v) = refl
printing catalogue e (SetOf v i w) = refl
printing catalogue e (GetOf v w i) = refl
printing catalogue e (CatOf v name) = refl
printing catalogue e (PutOf v n) = refl
printing catalogue e (SayOf label v) = refl
printing catalogue e (SumOf label v i limit) = refl
printing catalogue e CollectOf = refl

-- the input may end here
ends_outside : (f : Option ℕ) (o : Option (ℕ × ℕ)) → unless_ (is_some f) BadHeader (left_open o) ≡ None → o ≡ None
ends_outside None o e = cc
ends_outside (Some f) None e = refl
ends_outside (Some f) (Some opened) e = cc

ends_known : (f : Option ℕ) (o : Option (ℕ × ℕ)) → unless_ (is_some f) BadHeader (left_open o) ≡ None → f ≡ Some (unwrap_or f 0)
ends_known None o e = cc
ends_known (Some f) o e = refl

-- the parts of the catalogue and of the warehouses, at the end of these lines
abbrev first_parts : List (List ℕ) → List Statement → List (List Execution) → Option (List (List Execution))
first_parts catalogue e parts = option_or (if_catalogue (open_section e) parts) (closed_catalogue catalogue e)

abbrev other_parts : List (List ℕ) → List Statement → List (List Execution) → List (List (List Execution))
other_parts catalogue e parts = closed_warehouses catalogue e ++ if_warehouse (open_section e) parts

-- the parts of the open section, as they are kept
kept_parts : (version : ℕ) (catalogue : List (List ℕ)) (e : List Statement) → AreClear version e → end_fault version e ≡ None → (end_part (content_of catalogue e)).ended ≡ parts_of_open_section catalogue e
kept_parts version catalogue e h f =
    ap (λ (part : List Execution). ended_parts catalogue e ++ part ∷ []) (sym (executed_outside version catalogue e h (ends_outside (known_fields version e) (open_repeat e) f)))

legal : (version : ℕ) (catalogue : List (List ℕ)) (e : List Statement) → AreClear version e → IsCatalogueKnown catalogue e → end_fault version e ≡ None
    → AreLegal (unwrap_or (known_fields version e) 0) (first_parts catalogue e (parts_of_open_section catalogue e)) (other_parts catalogue e (parts_of_open_section catalogue e))
legal version catalogue e h a f =
    let fields : ℕ = unwrap_or (known_fields version e) 0 in
    let r : AreRanged fields catalogue e = ranged version fields catalogue e h a (λ o. ends_known (known_fields version e) (open_repeat e) f) in
    let parts : AllFit (Fits fields) (parts_of_open_section catalogue e) = fit_push (Fits fields) (ended_parts catalogue e) (executed catalogue e) r.ended r.executed in
    let few = all_few version catalogue e h in
    let warehouses : All (AllFit (Fits fields)) (other_parts catalogue e (parts_of_open_section catalogue e)) = fit_warehouses (Fits fields) (open_section e) (parts_of_open_section catalogue e) (closed_warehouses catalogue e) parts r.warehouses in
    record {
      first = record { range = fit_catalogue (Fits fields) (open_section e) (parts_of_open_section catalogue e) (closed_catalogue catalogue e) (λ o. parts) r.first; seasons = few.0 };
      others = λ k d l. record { range = warehouses k d l; seasons = few.1 k d l };
      count = few_warehouses_all version catalogue e h;
      most = (sane version e h).fields;
      least = least version e h (unwrap_or (known_fields version e) 0) (ends_known (known_fields version e) (open_repeat e) f);
      alone = alone-end version catalogue e h;
    }

whole_content : (version : ℕ) (catalogue : List (List ℕ)) (e : List Statement) → AreClear version e → IsCatalogueKnown catalogue e → IsWhole (context_of version e) (content_of catalogue e)
whole_content version catalogue e h a f =
    subst (λ (parts : List (List Execution)). AreLegal (unwrap_or (known_fields version e) 0) (first_parts catalogue e parts) (other_parts catalogue e parts))
    (sym (kept_parts version catalogue e h f)) (legal version catalogue e h a f)

whole : (version : ℕ) (all : List Statement) (p : Progress) → AreRead version all p → IsWhole (context_shown p.context) (kept_shown p.kept)
whole version all p h =
    subst (λ (c : Context). IsWhole c (kept_shown p.kept)) (sym h.shows.context)
    (subst (IsWhole (context_of version (turned [] all))) (sym h.shows.kept) (whole_content version (catalogue_names all) (turned [] all) h.shows.clear h.names))

by_limits : (a b : Bool) (version : ℕ) (catalogue : List (List ℕ)) (e : List Statement)
    → cond a (Err TooManyCommands) (cond b (Err TooManyLines) (Ok (record { version = version; sections = sections version catalogue e }))) ≡ limited a b version catalogue e
by_limits true b version catalogue e = refl
by_limits false true version catalogue e = refl
by_limits false false version catalogue e = refl

limited_is : (version : ℕ) (catalogue : List (List ℕ)) (e : List Statement) → AreClear version e
    → limited_script version (unwrap_or (known_fields version e) 0) (first_parts catalogue e (parts_of_open_section catalogue e)) (other_parts catalogue e (parts_of_open_section catalogue e))
    ≡ limited (nat_lt 2000000 (executed_count (λ spoken. true) e)) (nat_lt 65536 (executed_count is_printing e)) version catalogue e
limited_is version catalogue e h =
    let commands = sections_total version (counts AllOf) catalogue e h ∙ total_is version (λ spoken. true) (counts AllOf) catalogue e (λ f s. refl) h in
    let lines = sections_total version (counts Printing) catalogue e h ∙ total_is version is_printing (counts Printing) catalogue e (printing catalogue) h in
    let made : Result Script Fault = Ok (record { version = version; sections = sections version catalogue e }) in
    ap (λ (n : ℕ). cond (nat_lt 2000000 n) (Err TooManyCommands) (cond (nat_lt 65536 (in_sections (counts Printing) (first_parts catalogue e (parts_of_open_section catalogue e)) (other_parts catalogue e (parts_of_open_section catalogue e)))) (Err TooManyLines) made)) commands
    ∙ ap (λ (n : ℕ). cond (nat_lt 2000000 (executed_count (λ spoken. true) e)) (Err TooManyCommands) (cond (nat_lt 65536 n) (Err TooManyLines) made)) lines
    ∙ by_limits _ _ version catalogue e

at_end : (version : ℕ) (catalogue : List (List ℕ)) (e : List Statement) → AreClear version e → (f : Option Fault) → end_fault version e ≡ f
    → ended_script f (context_of version e) (close (open_section e) (end_part (content_of catalogue e))) ≡ judged f version catalogue e
at_end version catalogue e h (Some fault) f = refl
at_end version catalogue e h None f =
    ap (λ (parts : List (List Execution)). limited_script version (unwrap_or (known_fields version e) 0) (first_parts catalogue e parts) (other_parts catalogue e parts)) (kept_parts version catalogue e h f)
    ∙ limited_is version catalogue e h

-- the script of the lines that were read
finished : (version : ℕ) (all : List Statement) (p : Progress) → AreRead version all p → finished_script (context_shown p.context) (kept_shown p.kept) ≡ body version all
finished version all p h =
    ap (λ (c : Context). finished_script c (kept_shown p.kept)) h.shows.context
    ∙ ap (finished_script (context_of version (turned [] all))) h.shows.kept
    ∙ at_end version (catalogue_names all) (turned [] all) h.shows.clear (end_fault version (turned [] all)) refl
    ∙ ap (λ (f : Option Fault). judged f version (catalogue_names all) (turned [] all)) (sym h.fault)

pub script_of-requires : goal.script_of-requires
script_of-requires c = whole c.args.version (statements c.args.text.now) c.in-Ok.progress c.in-Ok.ensures

pub returns-in-Ok : goal.returns-in-Ok
returns-in-Ok c = subst (ReadAnswers c.script_of.result) (finished c.args.version (statements c.args.text.now) c.in-Ok.progress c.in-Ok.ensures) c.script_of.ensures
