-- The loop over the lines.
use Rattle.std.proofs.Common.{◌≡◌, ℕ, zero, suc, List, [], ◌∷◌, refl, ap, sym, ◌∙◌, Bool, true, false, add-one, length-drop, ◌+◌, ◌≤◌, ◌<◌, ◌++◌, length, take, drop, get_or, map, subst, cond, arith}
use Rattle.std.specs.Prelude.{Option, Some, None, is_some, ◌&&◌, unwrap_or, ◌==◌}
use Rattle.gc_script.specs.Statement.{Spoken, NewOf, LetOf, NilOf, SetOf, GetOf, CatOf, PutOf, SayOf, SumOf, CollectOf, Statement, Blank, Fields, Catalogue, Warehouse, Season, Repeat, End, Command, Wrong, statement}
use Rattle.gc_script.specs.Earlier.{assigns, with_name, warehouse_count, known_fields, known_names, open_section, open_repeat, assigned_names, catalogue_names}
use Rattle.gc_script.specs.Faults.{Fault, unless_, cuts_repeat, may_stand, line_fault, first_fault, end_fault, or_later}
use Rattle.gc_script.specs.Context.{IsCatalogueKnown, context_of, closing, closed_names, IsClear, AreClear, Context, context_after, fault_in, IsSane}
use Rattle.gc_script.proofs.History.{bare, none_is, content_step}
use Rattle.std.proofs.lemmas.List.{nil_from_length, take_more, take_all, drop_all, drop_more, length-map, get_or-map}
use Rattle.gc_script.specs.ScriptText.{words, lines}
use Rattle.gc_script.specs.FirstLine.{first_line, after_line}
use Rattle.gc_script.proofs.Cuts.{lines_step}
use Rattle.gc_script.specs.Script.{turned}
use Rattle.gc_script.specs.Kept.{context_shown}
use Rattle.gc_script.specs.Content.{Content, content_of, content_after, kept_shown}
use Rattle.gc_script.specs.Reading.{is_told, TellsFault, IsTaken, Shows, AreRead}
use Rattle.gc_script.specs.Shown.{fault_of}
use Rattle.gc_script.specs.declared.progress.Progress.{Progress}
use Rattle.gc_script.specs.declared.script.ScriptError.{ScriptError}
use Rattle.gc_script.proofs.Contexts.{fault_is, context_step, line_more}
use Rattle.gc_script.proofs.Clear.{sane_step, no_fault, right}

-- The names that the catalogue assigns anywhere are those that were known as it ended.
-- the catalogue's names, by the section that was started last, the names known in it, those of the closed catalogue, and the rest of the lines
abbrev names_by : Option ℕ → List (List ℕ) → List (List ℕ) → List Statement → List (List ℕ)
names_by None known closed rest = catalogue_names rest
names_by (Some zero) known closed rest = assigned_names known rest
names_by (Some (suc w)) known closed rest = closed

-- the catalogue's names, in the midst of the lines
abbrev pub names_from : List Statement → List Statement → List (List ℕ)
names_from e rest = names_by (open_section e) (known_names e) (closed_names e) rest

skip : (o : Option ℕ) (known closed : List (List ℕ)) (s : Statement) (rest : List Statement)
    → catalogue_names (s ∷ rest) ≡ catalogue_names rest → assigned_names known (s ∷ rest) ≡ assigned_names known rest → names_by o known closed (s ∷ rest) ≡ names_by o known closed rest
skip None known closed s rest e f = e
skip (Some zero) known closed s rest e f = f
skip (Some (suc w)) known closed s rest e f = refl

at_warehouse : (o : Option ℕ) (known closed : List (List ℕ)) (rest : List Statement) → (o ≡ None → closed ≡ []) → names_by o known closed (Warehouse ∷ rest) ≡ closing o known closed
at_warehouse None known closed rest e = sym (e refl)
at_warehouse (Some zero) known closed rest e = refl
at_warehouse (Some (suc w)) known closed rest e = refl

at_command : (o : Option ℕ) (known closed : List (List ℕ)) (s : Spoken) (rest : List Statement) → names_by o known closed (Command s ∷ rest) ≡ names_by o (with_name (assigns s) known) closed rest
at_command None known closed s rest = refl
at_command (Some zero) known closed s rest = refl
at_command (Some (suc w)) known closed s rest = refl

-- one line further
pub names_step : (version : ℕ) (e : List Statement) (s : Statement) (rest : List Statement) → AreClear version e → IsClear (context_of version e) s → names_from e (s ∷ rest) ≡ names_from (s ∷ e) rest
names_step version e Blank rest h k = skip (open_section e) _ _ Blank rest refl refl
names_step version e (Fields n) rest h k = skip (open_section e) _ _ (Fields n) rest refl refl
names_step version e Catalogue rest h k = ap (λ o. names_by o (known_names e) (closed_names e) (Catalogue ∷ rest)) (none_is _ (right (is_some (known_fields version e)) _ k.placed))
names_step version e Warehouse rest h k =
    at_warehouse (open_section e) (known_names e) (closed_names e) rest (λ o. (bare version [] e h o).names)
    ∙ sym (ap (λ n. names_by (Some n) [] (closing (open_section e) (known_names e) (closed_names e)) rest) (add-one (warehouse_count e)))
names_step version e Season rest h k = skip (open_section e) _ _ Season rest refl refl
names_step version e (Repeat n) rest h k = skip (open_section e) _ _ (Repeat n) rest refl refl
names_step version e End rest h k = skip (open_section e) _ _ End rest refl refl
names_step version e (Command spoken) rest h k = at_command (open_section e) _ _ spoken rest
names_step version e Wrong rest h k = skip (open_section e) _ _ Wrong rest refl refl

pub agrees : (catalogue : List (List ℕ)) (e rest : List Statement) → names_from e rest ≡ catalogue → IsCatalogueKnown catalogue e
agrees catalogue e rest h w o = sym (ap (λ s. names_by s (known_names e) (closed_names e) rest) o) ∙ h

unplaced : (p : Bool) (f : Fault) (x y : Option Fault) → p ≡ false → unless_ p f x ≡ unless_ p f y
unplaced true f x y e = cc
unplaced false f x y e = refl

at_cat : (version : ℕ) (catalogue : List (List ℕ)) (e : List Statement) (v name : List ℕ) → IsCatalogueKnown catalogue e → (o : Option ℕ) → open_section e ≡ o
    → line_fault version catalogue e (Command (CatOf v name)) ≡ line_fault version (closed_names e) e (Command (CatOf v name))
at_cat version catalogue e v name a None o =
    ap (cuts_repeat (Command (CatOf v name)) (open_repeat e)) (unplaced (may_stand (open_section e) (CatOf v name)) _ _ _ (ap (λ s. may_stand s (CatOf v name)) o))
at_cat version catalogue e v name a (Some zero) o =
    ap (cuts_repeat (Command (CatOf v name)) (open_repeat e)) (unplaced (may_stand (open_section e) (CatOf v name)) _ _ _ (ap (λ s. may_stand s (CatOf v name)) o))
at_cat version catalogue e v name a (Some (suc w)) o = ap (λ names. line_fault version names e (Command (CatOf v name))) (sym (a w o))

-- the fault of a line, by the catalogue's names as they are known by then
pub same_fault : (version : ℕ) (catalogue : List (List ℕ)) (e : List Statement) (s : Statement) → IsCatalogueKnown catalogue e → line_fault version catalogue e s ≡ line_fault version (closed_names e) e s
same_fault version catalogue e Blank a = refl
same_fault version catalogue e (Fields n) a = refl
same_fault version catalogue e Catalogue a = refl
same_fault version catalogue e Warehouse a = refl
same_fault version catalogue e Season a = refl
same_fault version catalogue e (Repeat n) a = refl
same_fault version catalogue e End a = refl
same_fault version catalogue e (Command (NewOf v n)) a = refl
same_fault version catalogue e (Command (LetOf v w)) a = refl
same_fault version catalogue e (Command (NilOf v)) a = refl
same_fault version catalogue e (Command (SetOf v i w)) a = refl
same_fault version catalogue e (Command (GetOf v w i)) a = refl
same_fault version catalogue e (Command (CatOf v name)) a = at_cat version catalogue e v name a (open_section e) refl
same_fault version catalogue e (Command (PutOf v n)) a = refl
same_fault version catalogue e (Command (SayOf label v)) a = refl
same_fault version catalogue e (Command (SumOf label v i limit)) a = refl
same_fault version catalogue e (Command CollectOf) a = refl
same_fault version catalogue e Wrong a = refl

-- the progress after the first i lines
pub record SoFar (version : ℕ) (all : List Statement) (i : ℕ) (p : Progress) : Type 0 where
  pub shows : Shows version (catalogue_names all) (turned [] (take i all)) p
  pub fault : first_fault version (catalogue_names all) (turned [] (take i all)) (drop i all) ≡ first_fault version (catalogue_names all) [] all
  pub names : names_from (turned [] (take i all)) (drop i all) ≡ catalogue_names all
  pub line : (context_shown p.context).line ≡ i + 2
  pub sane : IsSane (context_shown p.context)

turned_more : (e xs : List Statement) (s : Statement) → turned e (xs ++ s ∷ []) ≡ s ∷ turned e xs
turned_more e [] s = refl
turned_more e (x ∷ xs) s = turned_more (x ∷ e) xs s

-- one line more
next_turned : (all : List Statement) (i : ℕ) → i < length all → turned [] (take (i + 1) all) ≡ get_or all i Blank ∷ turned [] (take i all)
next_turned all i h = ap (turned []) (take_more all i Blank h) ∙ turned_more [] (take i all) (get_or all i Blank)

later_fault : (f later : Option Fault) → f ≡ None → or_later f later ≡ later
later_fault f later e = ap (λ (o : Option Fault). or_later o later) e

now_fault : (f later : Option Fault) (told : Option Fault) → is_told told f → is_told told (or_later f later)
now_fault f later None h = tt
now_fault f later (Some t) h = ap (λ (o : Option Fault). or_later o later) h

pub so_far_next : (version : ℕ) (all : List Statement) (i : ℕ) (p q : Progress) → i < length all → SoFar version all i p
    → IsTaken (context_shown p.context) (kept_shown p.kept) (get_or all i Blank) q → SoFar version all (i + 1) q
so_far_next version all i p q l h t =
    let e : List Statement = turned [] (take i all) in
    let s : Statement = get_or all i Blank in
    let rest : List Statement = drop (i + 1) all in
    let cat : List (List ℕ) = catalogue_names all in
    let parted : drop i all ≡ s ∷ rest = drop_more all i Blank l in
    let next : turned [] (take (i + 1) all) ≡ s ∷ e = next_turned all i l in
    let clear : IsClear (context_of version e) s = subst (λ (c : Context). IsClear c s) h.shows.context t.clear in
    let agreed : IsCatalogueKnown cat e = agrees cat e (drop i all) h.names in
    let context : context_shown q.context ≡ context_of version (s ∷ e) =
    t.context ∙ ap (λ (c : Context). context_after c s) h.shows.context ∙ sym (context_step version e s clear.placed) in
    let kept : kept_shown q.kept ≡ content_of cat (s ∷ e) =
    t.kept ∙ ap (λ (c : Context). content_after c (kept_shown p.kept) s) h.shows.context ∙ ap (λ (k : Content). content_after (context_of version e) k s) h.shows.kept
    ∙ sym (content_step version cat e s h.shows.clear clear agreed) in
    let sane : IsSane (context_of version (s ∷ e)) = subst IsSane (sym (context_step version e s clear.placed)) (sane_step _ s h.shows.sane clear) in
    let none : line_fault version cat e s ≡ None = same_fault version cat e s agreed ∙ fault_is version e s ∙ no_fault _ s clear in
    let shows : Shows version cat (s ∷ e) q = record { clear = (clear, h.shows.clear); sane = sane; context = context; kept = kept } in
    record {
      shows = subst (λ (x : List Statement). Shows version cat x q) (sym next) shows;
      fault = ap (λ (x : List Statement). first_fault version cat x rest) next ∙ sym (later_fault (line_fault version cat e s) _ none) ∙ ap (first_fault version cat e) (sym parted) ∙ h.fault;
      names = ap (λ (x : List Statement). names_from x rest) next ∙ sym (names_step version e s rest h.shows.clear clear) ∙ ap (names_from e) (sym parted) ∙ h.names;
      line = ap (λ (c : Context). c.line) context ∙ line_more e s ∙ ap (λ (n : ℕ). n + 1) (sym (ap (λ (c : Context). c.line) h.shows.context) ∙ h.line) ∙ moved i;
      sane = subst IsSane (sym context) sane;
    }
  where
    moved : (n : ℕ) → n + 2 + 1 ≡ n + 1 + 2
    moved n = omega arith

pub so_far_refused : (version : ℕ) (all : List Statement) (i : ℕ) (p : Progress) (e : ScriptError) → i < length all → SoFar version all i p
    → TellsFault e (fault_in (context_shown p.context) (get_or all i Blank)) → TellsFault e (first_fault version (catalogue_names all) [] all)
so_far_refused version all i p error l h t =
    let e : List Statement = turned [] (take i all) in
    let s : Statement = get_or all i Blank in
    let cat : List (List ℕ) = catalogue_names all in
    let parted : drop i all ≡ s ∷ drop (i + 1) all = drop_more all i Blank l in
    let here : fault_in (context_shown p.context) s ≡ line_fault version cat e s =
    ap (λ (c : Context). fault_in c s) h.shows.context ∙ sym (fault_is version e s) ∙ sym (same_fault version cat e s (agrees cat e (drop i all) h.names)) in
    subst (is_told (fault_of error)) (ap (first_fault version cat e) (sym parted) ∙ h.fault)
    (now_fault (line_fault version cat e s) _ (fault_of error) (subst (is_told (fault_of error)) here t))

pub so_far_start : (version : ℕ) (all : List Statement) (p : Progress) → context_shown p.context ≡ context_of version [] → kept_shown p.kept ≡ content_of (catalogue_names all) [] → SoFar version all 0 p
so_far_start version all p context kept =
    let fields : (b : Bool) → unwrap_or (cond b (Some 4) None) 0 ≤ 16 = four in
    let sane : IsSane (context_of version []) = record { names = omega arith; catalogue = omega arith; warehouses = omega arith; seasons = omega arith; fields = fields (version == 1) } in
    record {
      shows = record { clear = tt; sane = sane; context = context; kept = kept };
      fault = refl;
      names = refl;
      line = ap (λ (c : Context). c.line) context;
      sane = subst IsSane (sym context) sane;
    }
  where
    four : (b : Bool) → unwrap_or (cond b (Some 4) None) 0 ≤ 16
    four true = omega arith
    four false = omega arith

pub so_far_end : (version : ℕ) (all : List Statement) (i : ℕ) (p : Progress) → length all ≡ i → SoFar version all i p → AreRead version all p
so_far_end version all i p l h =
    let whole : take i all ≡ all = take_all i all (omega arith) in
    let none : drop i all ≡ [] = drop_all i all (omega arith) in
    record {
      fault = sym h.fault ∙ ap (first_fault version (catalogue_names all) (turned [] (take i all))) none ∙ ap (λ (x : List Statement). end_fault version (turned [] x)) whole;
      shows = subst (λ (x : List Statement). Shows version (catalogue_names all) (turned [] x) p) whole h.shows;
      names = subst (λ (x : List Statement). IsCatalogueKnown (catalogue_names all) (turned [] x)) whole (agrees (catalogue_names all) (turned [] (take i all)) (drop i all) h.names);
    }

-- the statements of a text's lines
abbrev pub statements : List ℕ → List Statement
statements text = map statement (map words (lines text))

-- the progress after some lines of a text, with what is left of it
pub record UpTo (version : ℕ) (text rest : List ℕ) (p : Progress) : Type 0 where
  pub read : ℕ
  pub within : read ≤ length (lines text)
  pub so_far : SoFar version (statements text) read p
  pub left : drop read (lines text) ≡ lines rest

statement_count : (ls : List (List ℕ)) → length (map statement (map words ls)) ≡ length ls
statement_count ls = length-map (map words ls) statement ∙ length-map ls words

statement_at : (ls : List (List ℕ)) (i : ℕ) → i < length ls → get_or (map statement (map words ls)) i Blank ≡ statement (words (get_or ls i []))
statement_at ls i h =
    let b : length (map words ls) ≡ length ls = length-map ls words in
    get_or-map statement (map words ls) i [] Blank (omega arith) ∙ ap statement (get_or-map words ls i [] [] h)

-- a line is left
one_left : (ls : List (List ℕ)) (i : ℕ) (line : List ℕ) (rest : List (List ℕ)) → drop i ls ≡ line ∷ rest → i < length ls
one_left ls i line rest e = let long = length-drop i ls in let more : length (drop i ls) ≡ length (line ∷ rest) = ap length e in omega arith

-- the first line of what is left
first_left : (ls : List (List ℕ)) (i : ℕ) (line : List ℕ) (rest : List (List ℕ)) → drop i ls ≡ line ∷ rest → (get_or ls i [] ≡ line) × (drop (i + 1) ls ≡ rest)
first_left ls i line rest e =
    let parted : get_or ls i [] ∷ drop (i + 1) ls ≡ line ∷ rest = sym (drop_more ls i [] (one_left ls i line rest e)) ∙ e in
    (ap (λ (x : List (List ℕ)). get_or x 0 []) parted, ap (λ (x : List (List ℕ)). drop 1 x) parted)

parted : (text rest : List ℕ) (i : ℕ) → 0 < length rest → drop i (lines text) ≡ lines rest → drop i (lines text) ≡ first_line rest ∷ lines (after_line rest)
parted text rest i h e = e ∙ lines_step rest h

statement_left : (text rest : List ℕ) (i : ℕ) → 0 < length rest → drop i (lines text) ≡ lines rest → get_or (statements text) i Blank ≡ statement (words (first_line rest))
statement_left text rest i h e =
    let now = parted text rest i h e in
    statement_at (lines text) i (one_left (lines text) i (first_line rest) (lines (after_line rest)) now)
    ∙ ap (λ (l : List ℕ). statement (words l)) (first_left (lines text) i (first_line rest) (lines (after_line rest)) now).0

inside : (text rest : List ℕ) (i : ℕ) → 0 < length rest → drop i (lines text) ≡ lines rest → i < length (statements text)
inside text rest i h e =
    subst (λ (n : ℕ). i < n) (sym (statement_count (lines text))) (one_left (lines text) i (first_line rest) (lines (after_line rest)) (parted text rest i h e))

pub up_to_start : (version : ℕ) (text : List ℕ) (p : Progress) → context_shown p.context ≡ context_of version [] → kept_shown p.kept ≡ content_of (catalogue_names (statements text)) []
    → UpTo version text text p
up_to_start version text p context kept = record { read = 0; within = omega arith; so_far = so_far_start version (statements text) p context kept; left = refl }

pub up_to_next : (version : ℕ) (text rest left : List ℕ) (p q : Progress) → 0 < length rest → UpTo version text rest p
    → IsTaken (context_shown p.context) (kept_shown p.kept) (statement (words (first_line rest))) q → left ≡ after_line rest → UpTo version text left q
up_to_next version text rest left p q h u t e =
    let now = parted text rest u.read h u.left in
    let more : u.read < length (lines text) = one_left (lines text) u.read (first_line rest) (lines (after_line rest)) now in
    record {
      read = u.read + 1;
      within = omega arith;
      so_far = so_far_next version (statements text) u.read p q (inside text rest u.read h u.left) u.so_far
          (subst (λ (s : Statement). IsTaken (context_shown p.context) (kept_shown p.kept) s q) (sym (statement_left text rest u.read h u.left)) t);
      left = (first_left (lines text) u.read (first_line rest) (lines (after_line rest)) now).1 ∙ ap lines (sym e);
    }

pub up_to_refused : (version : ℕ) (text rest : List ℕ) (p : Progress) (e : ScriptError) → 0 < length rest → UpTo version text rest p
    → TellsFault e (fault_in (context_shown p.context) (statement (words (first_line rest)))) → TellsFault e (first_fault version (catalogue_names (statements text)) [] (statements text))
up_to_refused version text rest p e h u t =
    so_far_refused version (statements text) u.read p e (inside text rest u.read h u.left) u.so_far
    (subst (λ (s : Statement). TellsFault e (fault_in (context_shown p.context) s)) (sym (statement_left text rest u.read h u.left)) t)

pub up_to_end : (version : ℕ) (text rest : List ℕ) (p : Progress) → length rest ≡ 0 → UpTo version text rest p → AreRead version (statements text) p
up_to_end version text rest p h u =
    let none : length (drop u.read (lines text)) ≡ 0 = ap length (u.left ∙ ap lines (nil_from_length rest h)) in
    let long = length-drop u.read (lines text) in
    let all : length (statements text) ≡ length (lines text) = statement_count (lines text) in
    so_far_end version (statements text) u.read p (omega (arith, u.within)) u.so_far
