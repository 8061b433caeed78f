-- The generated text is a script, line by line.
use Rattle.std.proofs.Common.{◌≡◌, ℕ, ◌+◌, ◌*◌, ◌%◌, ◌<◌, ◌≤◌, suc, List, [], ◌∷◌, ◌++◌, length, map, refl, ap, sym, ◌∙◌, subst, cond, Bool, true, false, arith, length-append, zero, codes}
use Rattle.std.proofs.lemmas.Bool.Decides.{nat_tests}
use Rattle.std.proofs.lemmas.List.{map-append}
use Rattle.std.proofs.lemmas.List.Elements.{All-nil, All-push}
use Rattle.std.specs.Prelude.{not, ◌&&◌, ◌==◌, nat_le, All, Option, Some, None, is_some, Ok, nat_lt, Result, Err}
use Rattle.std.specs.List.{list_all}
use Rattle.std.specs.Option.{option_or}
use Rattle.plain_heap.specs.Sections.{Execution}
use Rattle.gc_script.specs.Statement.{Spoken, Statement, Warehouse, Command}
use Rattle.gc_script.specs.Earlier.{place, has_name, names_read, reads_of_catalogue, assigns, is_printing, known_names, open_repeat, open_section, warehouse_count, season_count, with_name, catalogue_names}
use Rattle.gc_script.specs.Faults.{Fault, unless_, cuts_repeat, may_stand, line_fault, first_fault, TooLong, left_open, or_later}
use Rattle.gc_script.specs.Script.{execution, executed, ended_parts, parts_of_open_section, if_warehouse, if_catalogue, closed_warehouses, closed_catalogue, sections, executed_count, one_if, Script, turned, limited, judged, body, of_lines, of_text, script}
use Rattle.load_gen.proofs.Cut.{and_true, lines_first, statements, statements_first}
use Rattle.load_gen.proofs.Known.{Knows, few_names, knows_none}
use Rattle.load_gen.proofs.LineText.{MayStand, IsLine, line_is}
use Rattle.load_gen.proofs.Blocks.{IsStep, AreSteps, AreBlocks, steps_push}
use Rattle.gc_script.specs.ScriptText.{first_foreign, words}
use Rattle.gc_script.proofs.Bytes.{none_foreign as no_foreign}
use Rattle.load_gen.specs.Generated.{state_after_line, generated_line, lines_text, last_state, generated_warehouses, generated}
use Rattle.load_gen.specs.FourWarehouses.{HasFourWarehouses}
use Rattle.load_gen.proofs.Source.{line_no_end, IsSource, generated_source}

-- What the lines so far make, latest first, between two warehouses and inside one.
-- how many commands each part of each warehouse has
abbrev pub part_lengths : List (List (List Execution)) → List (List ℕ)
part_lengths warehouses = map (λ parts. map length parts) warehouses

-- w warehouses of `size` commands each are whole
pub record AreClosed (size w : ℕ) (lengths : List (List ℕ)) (earlier : List Statement) : Type 0 where
  pub no_repeat : open_repeat earlier ≡ None
  pub count : warehouse_count earlier ≡ w
  pub catalogue : (sections 1 [] earlier).catalogue ≡ None
  pub warehouses : part_lengths (sections 1 [] earlier).warehouses ≡ lengths
  pub commands : executed_count (λ spoken. true) earlier ≡ w * size
  pub printed : 64 * executed_count is_printing earlier ≤ w * size
  pub blocks : All AreBlocks (sections 1 [] earlier).warehouses

-- w warehouses are whole, and the next one has m commands
pub record IsOpen (size w m : ℕ) (lengths : List (List ℕ)) (earlier : List Statement) : Type 0 where
  pub no_repeat : open_repeat earlier ≡ None
  pub count : warehouse_count earlier ≡ suc w
  pub section : open_section earlier ≡ Some (suc w)
  pub seasons : season_count earlier ≡ 0
  pub names : Knows (known_names earlier) m
  pub ended : ended_parts [] earlier ≡ []
  pub steps : AreSteps 0 (executed [] earlier)
  pub executed : length (executed [] earlier) ≡ m
  pub catalogue : closed_catalogue [] earlier ≡ None
  pub warehouses : part_lengths (closed_warehouses [] earlier) ≡ lengths
  pub commands : executed_count (λ spoken. true) earlier ≡ w * size + m
  pub printed : 64 * executed_count is_printing earlier + m % 64 ≤ w * size + m
  pub blocks : All AreBlocks (closed_warehouses [] earlier)

pub none_closed : (size : ℕ) → AreClosed size 0 [] []
none_closed size = record { no_repeat = refl; count = refl; catalogue = refl; warehouses = refl; commands = omega arith; printed = omega arith; blocks = All-nil AreBlocks }

at_most : (n m : ℕ) → n ≤ m → nat_le n m ≡ true
at_most n m h = grind (arith, nat_tests)

-- a test that passes is no fault
passes : (test : Bool) (fault : Fault) (others : Option Fault) → test ≡ true → others ≡ None → unless_ test fault others ≡ None
passes true fault others h e = e
passes false fault others h e = cc

no_cut : (s : Statement) (o : Option (ℕ × ℕ)) (others : Option Fault) → o ≡ None → others ≡ None → cuts_repeat s o others ≡ None
no_cut s None others h e = e
no_cut s (Some opened) others h e = cc

-- a warehouse is started
pub start_fault : (size w : ℕ) (lengths : List (List ℕ)) (earlier : List Statement) → w < 32 → AreClosed size w lengths earlier → line_fault 1 [] earlier Warehouse ≡ None
start_fault size w lengths earlier l h = no_cut Warehouse (open_repeat earlier) _ h.no_repeat (passes _ _ _ (at_most (warehouse_count earlier + 1) 32 (omega (arith, h.count, l))) refl)

pub started : (size w : ℕ) (lengths : List (List ℕ)) (earlier : List Statement) → AreClosed size w lengths earlier → IsOpen size w 0 lengths (Warehouse ∷ earlier)
started size w lengths earlier h = record {
  no_repeat = refl;
  count = omega (arith, h.count);
  section = ap (λ (n : ℕ). Some n) (next_count (warehouse_count earlier) w h.count);
  seasons = refl;
  names = knows_none;
  ended = refl;
  executed = refl;
  catalogue = h.catalogue;
  warehouses = h.warehouses;
  commands = omega (arith, h.commands);
  printed = omega (arith, h.printed);
  steps = tt;
  blocks = h.blocks;
}
  where
    next_count : (n w : ℕ) → n ≡ w → n + 1 ≡ suc w
    next_count n w e = omega arith

stands_there : (o : Option ℕ) (w : ℕ) (spoken : Spoken) → o ≡ Some (suc w) → may_stand o spoken ≡ true
stands_there o w spoken e = ap (λ (p : Option ℕ). may_stand p spoken) e

names_known : (names : List (List ℕ)) (spoken : Spoken) → list_all (λ name. has_name name names) (names_read spoken) ≡ true → reads_of_catalogue spoken ≡ []
    → (list_all (λ name. has_name name names) (names_read spoken) && list_all (λ name. has_name name []) (reads_of_catalogue spoken)) ≡ true
names_known names spoken h e = and_true _ _ h (ap (list_all (λ (name : List ℕ). has_name name [])) e)

-- a command stands on the next line
pub command_fault : (size w m : ℕ) (lengths : List (List ℕ)) (earlier : List Statement) (prints : Bool) (spoken : Spoken) → w < 32 → IsOpen size w m lengths earlier
    → MayStand (known_names earlier) m prints spoken → line_fault 1 [] earlier (Command spoken) ≡ None
command_fault size w m lengths earlier prints spoken l h s =
    no_cut (Command spoken) (open_repeat earlier) _ h.no_repeat
    (passes _ _ _ (stands_there (open_section earlier) w spoken h.section)
    (passes _ _ _ (ap not s.small)
    (passes _ _ _ (names_known (known_names earlier) spoken s.known s.catalogue)
    (passes _ _ _ (at_most (length (with_name (assigns spoken) (known_names earlier))) 32 (omega (arith, few_names _ (m + 1) s.after)))
    (passes _ _ _ (at_most (warehouse_count earlier) 32 (omega (arith, h.count, l)))
    (passes _ _ _ (at_most (season_count earlier) 63 (omega (arith, h.seasons)))
    refl))))))

-- it is executed once
executed_once : (o : Option (ℕ × ℕ)) (before : List Execution) (e : Execution) → o ≡ None → length (cond (is_some o) before (before ++ e ∷ [])) ≡ length before + 1
executed_once None before e h = length-append before (e ∷ [])
executed_once (Some opened) before e h = cc

steps_once : (o : Option (ℕ × ℕ)) (before : List Execution) (e : Execution) (m : ℕ) → o ≡ None → length before ≡ m → AreSteps 0 before → IsStep (m % 64) e.op → AreSteps 0 (cond (is_some o) before (before ++ e ∷ []))
steps_once None before e m h l s t = steps_push 0 before e s (subst (λ (n : ℕ). IsStep (n % 64) e.op) (let same : m ≡ 0 + length before = omega (arith, l) in same) t)
steps_once (Some opened) before e m h l s t = cc

counted_once : (o : Option (ℕ × ℕ)) (n : ℕ) (test : Bool) → o ≡ None → n + cond (is_some o) 0 (one_if test) ≡ n + one_if test
counted_once None n test h = refl
counted_once (Some opened) n test h = cc

-- each 64th line prints
printed_more : (n m base : ℕ) (prints : Bool) → prints ≡ (m % 64 == 63) → 64 * n + m % 64 ≤ base + m → 64 * (n + one_if prints) + (m + 1) % 64 ≤ base + (m + 1)
printed_more n m base true e h = let last : m % 64 ≡ 63 = sixty_three (m % 64) e in omega arith
  where
    sixty_three : (k : ℕ) → true ≡ (k == 63) → k ≡ 63
    sixty_three k e = grind (arith, nat_tests)
printed_more n m base false e h = let other : m % 64 < 63 = below (m % 64) e (omega arith) in omega arith
  where
    below : (k : ℕ) → false ≡ (k == 63) → k < 64 → k < 63
    below k e l = grind (arith, nat_tests)

pub commanded : (size w m : ℕ) (lengths : List (List ℕ)) (earlier : List Statement) (spoken : Spoken) → IsOpen size w m lengths earlier → MayStand (known_names earlier) m (m % 64 == 63) spoken
    → IsOpen size w (m + 1) lengths (Command spoken ∷ earlier)
commanded size w m lengths earlier spoken h s =
    let once : length (executed [] (Command spoken ∷ earlier)) ≡ length (executed [] earlier) + 1 = executed_once (open_repeat earlier) (executed [] earlier) (execution [] earlier spoken) h.no_repeat in
    let count : executed_count (λ spoken. true) (Command spoken ∷ earlier) ≡ executed_count (λ spoken. true) earlier + 1 = counted_once (open_repeat earlier) (executed_count (λ spoken. true) earlier) true h.no_repeat in
    let lines : executed_count is_printing (Command spoken ∷ earlier) ≡ executed_count is_printing earlier + one_if (is_printing spoken) = counted_once (open_repeat earlier) (executed_count is_printing earlier) (is_printing spoken) h.no_repeat in
    record {
      no_repeat = h.no_repeat;
      count = h.count;
      section = h.section;
      seasons = h.seasons;
      names = s.after;
      ended = h.ended;
      executed = once ∙ ap (λ (n : ℕ). n + 1) h.executed;
      catalogue = h.catalogue;
      warehouses = h.warehouses;
      commands = omega (arith, count, h.commands);
      printed = subst (λ (n : ℕ). 64 * n + (m + 1) % 64 ≤ w * size + (m + 1)) (sym lines) (printed_more (executed_count is_printing earlier) m (w * size) (is_printing spoken) s.printing h.printed);
      steps = steps_once (open_repeat earlier) (executed [] earlier) (execution [] earlier spoken) m h.no_repeat h.executed h.steps (s.step (place []));
      blocks = h.blocks;
    }

-- a section that is open is one of one part
one_more : (o : Option ℕ) (w m : ℕ) (closed : List (List (List Execution))) (ended : List (List Execution)) (commands : List Execution) (lengths : List (List ℕ))
    → o ≡ Some (suc w) → ended ≡ [] → part_lengths closed ≡ lengths → length commands ≡ m → part_lengths (closed ++ if_warehouse o (ended ++ commands ∷ [])) ≡ lengths ++ (m ∷ []) ∷ []
one_more o w m closed ended commands lengths a b c d =
    rw (a, b)
    (map-append (λ (parts : List (List Execution)). map length parts) closed ((commands ∷ []) ∷ [])
    ∙ ap (λ (ls : List (List ℕ)). ls ++ (length commands ∷ []) ∷ []) c
    ∙ ap (λ (n : ℕ). lengths ++ (n ∷ []) ∷ []) d)

blocks_more : (o : Option ℕ) (w : ℕ) (closed : List (List (List Execution))) (ended : List (List Execution)) (commands : List Execution)
    → o ≡ Some (suc w) → ended ≡ [] → All AreBlocks closed → AreSteps 0 commands → All AreBlocks (closed ++ if_warehouse o (ended ++ commands ∷ []))
blocks_more o w closed ended commands a b c d = rw (a, b) (All-push AreBlocks closed (commands ∷ []) c d)

no_catalogue : (o : Option ℕ) (w : ℕ) (parts : List (List Execution)) (closed : Option (List (List Execution))) → o ≡ Some (suc w) → closed ≡ None → option_or (if_catalogue o parts) closed ≡ None
no_catalogue o w parts closed a b = rw a b

-- a warehouse of all its commands is whole
pub closed : (size w : ℕ) (lengths : List (List ℕ)) (earlier : List Statement) → IsOpen size w size lengths earlier → AreClosed size (w + 1) (lengths ++ (size ∷ []) ∷ []) earlier
closed size w lengths earlier h = record {
  no_repeat = h.no_repeat;
  count = omega (arith, h.count);
  catalogue = no_catalogue (open_section earlier) w (parts_of_open_section [] earlier) (closed_catalogue [] earlier) h.section h.catalogue;
  warehouses = one_more (open_section earlier) w size (closed_warehouses [] earlier) (ended_parts [] earlier) (executed [] earlier) lengths h.section h.ended h.warehouses h.executed;
  commands = omega (arith, h.commands);
  printed = omega (arith, h.printed);
  blocks = blocks_more (open_section earlier) w (closed_warehouses [] earlier) (ended_parts [] earlier) (executed [] earlier) h.section h.ended h.blocks h.steps;
}

-- When lines after a header are a script.
-- the script of these lines after the header
abbrev pub script_from : ℕ → List Statement → Script
script_from version all = record { version = version; sections = sections version (catalogue_names all) (turned [] all) }

of_judged : (f : Option Fault) (many too_many : Bool) (version : ℕ) (catalogue : List (List ℕ)) (all : List Statement)
    → f ≡ None → many ≡ nat_lt 2000000 (executed_count (λ spoken. true) all) → too_many ≡ nat_lt 65536 (executed_count is_printing all) → many ≡ false → too_many ≡ false
    → judged f version catalogue all ≡ Ok (record { version = version; sections = sections version catalogue all })
of_judged f many too_many version catalogue all none a b c d =
    ap (λ (g : Option Fault). judged g version catalogue all) none
    ∙ ap (λ (t : Bool). limited t (nat_lt 65536 (executed_count is_printing all)) version catalogue all) (sym a ∙ c)
    ∙ ap (λ (t : Bool). limited false t version catalogue all) (sym b ∙ d)

pub body_is : (version : ℕ) (all : List Statement) → first_fault version (catalogue_names all) [] all ≡ None
    → nat_lt 2000000 (executed_count (λ spoken. true) (turned [] all)) ≡ false → nat_lt 65536 (executed_count is_printing (turned [] all)) ≡ false
    → body version all ≡ Ok (script_from version all)
body_is version all none few_commands few_lines =
    of_judged (first_fault version (catalogue_names all) [] all) _ _ version (catalogue_names all) (turned [] all) none refl refl few_commands few_lines

-- what four warehouses of this many commands are
abbrev pub four : ℕ → List (List ℕ)
four size = (size ∷ []) ∷ (size ∷ []) ∷ (size ∷ []) ∷ (size ∷ []) ∷ []

-- the rest has no fault, and with it there are four warehouses
pub record Passes (size : ℕ) (earlier rest : List Statement) : Type 0 where
  pub no_fault : first_fault 1 [] earlier rest ≡ None
  pub end : AreClosed size 4 (four size) (turned earlier rest)

passes_next : (size : ℕ) (earlier rest : List Statement) (s : Statement) → line_fault 1 [] earlier s ≡ None → Passes size (s ∷ earlier) rest → Passes size earlier (s ∷ rest)
passes_next size earlier rest s e p = record { no_fault = ap (λ (o : Option Fault). or_later o (first_fault 1 [] (s ∷ earlier) rest)) e ∙ p.no_fault; end = p.end }

passes_end : (size : ℕ) (last : List Statement) → AreClosed size 4 (four size) last → Passes size last []
passes_end size last h = record { no_fault = ap left_open h.no_repeat; end = h }

cut_line : (line more rest : List ℕ) → line ++ codes "\n" ++ more ++ rest ≡ line ++ 10 ∷ (more ++ rest)
cut_line [] more rest = refl
cut_line (b ∷ line) more rest = ap (λ (bs : List ℕ). b ∷ bs) (cut_line line more rest)

-- this many lines of a warehouse pass, if what follows them does
lines_pass : (more j state size w : ℕ) (lengths : List (List ℕ)) (earlier : List Statement) (rest : List ℕ) → w < 32 → IsOpen size w j lengths earlier
    → ((last : List Statement) → IsOpen size w (j + more) lengths last → Passes size last (statements rest)) → Passes size earlier (statements (lines_text more j state ++ rest))
lines_pass zero j state size w lengths earlier rest l h f = f earlier (subst (λ (m : ℕ). IsOpen size w m lengths earlier) (let e : j ≡ j + 0 = omega arith in e) h)
lines_pass (suc more) j state size w lengths earlier rest l h f =
    let after : ℕ = state_after_line (j % 64) state in
    let line : List ℕ = generated_line (j % 64) after in
    let others : List ℕ = lines_text more (j + 1) after ++ rest in
    let here : IsLine (known_names earlier) j (j % 64 == 63) line = line_is (known_names earlier) j after h.names in
    let first : statements (line ++ codes "\n" ++ lines_text more (j + 1) after ++ rest) ≡ Command here.spoken ∷ statements others =
    ap statements (cut_line line (lines_text more (j + 1) after) rest) ∙ statements_first line others (line_no_end (j % 64) after) ∙ ap (λ (s : Statement). s ∷ statements others) here.says in
    let count : j + 1 + more ≡ j + suc more = omega arith in
    subst (Passes size earlier) (sym first)
    (passes_next size earlier (statements others) (Command here.spoken) (command_fault size w j lengths earlier (j % 64 == 63) here.spoken l h here.stands)
    (lines_pass more (j + 1) after size w lengths (Command here.spoken ∷ earlier) rest l (commanded size w j lengths earlier here.spoken h here.stands)
    (λ last o. f last (subst (λ (m : ℕ). IsOpen size w m lengths last) count o))))

-- a warehouse passes, if what follows it does
warehouse_passes : (state size w : ℕ) (lengths : List (List ℕ)) (earlier : List Statement) (rest : List ℕ) → w < 32 → AreClosed size w lengths earlier
    → ((last : List Statement) → AreClosed size (w + 1) (lengths ++ (size ∷ []) ∷ []) last → Passes size last (statements rest)) → Passes size earlier (statements (codes "warehouse\n" ++ lines_text size 0 state ++ rest))
warehouse_passes state size w lengths earlier rest l h f =
    let all : 0 + size ≡ size = omega arith in
    subst (Passes size earlier) (sym (statements_first (codes "warehouse") (lines_text size 0 state ++ rest) refl))
    (passes_next size earlier (statements (lines_text size 0 state ++ rest)) Warehouse (start_fault size w lengths earlier l h)
    (lines_pass size 0 state size w lengths (Warehouse ∷ earlier) rest l (started size w lengths earlier h)
    (λ last o. f last (closed size w lengths last (subst (λ (m : ℕ). IsOpen size w m lengths last) all o)))))

-- all four pass
warehouses_pass : (size state : ℕ) → Passes size [] (statements (generated_warehouses 4 size state))
warehouses_pass size state =
    let next : ℕ → ℕ = last_state size 0 in
    warehouse_passes state size 0 [] [] (generated_warehouses 3 size (next state)) (omega arith) (none_closed size)
    (λ a p. warehouse_passes (next state) size 1 ((size ∷ []) ∷ []) a (generated_warehouses 2 size (next (next state))) (omega arith) p
    (λ b q. warehouse_passes (next (next state)) size 2 ((size ∷ []) ∷ (size ∷ []) ∷ []) b (generated_warehouses 1 size (next (next (next state)))) (omega arith) q
    (λ c r. warehouse_passes (next (next (next state))) size 3 ((size ∷ []) ∷ (size ∷ []) ∷ (size ∷ []) ∷ []) c [] (omega arith) r
    (λ d s. passes_end size d s))))

not_past : (n most : ℕ) → n ≤ most → nat_lt most n ≡ false
not_past n most h = grind (arith, nat_tests)

-- what was read is a script of four warehouses, each of blocks
pub record AreFourOfBlocks (size : ℕ) (read : Result Script Fault) : Type 0 where
  pub four : HasFourWarehouses size read
  pub blocks : All AreBlocks four.whole.sections.warehouses

-- lines that pass after a header
body_passes : (size : ℕ) (rest : List Statement) → size ≤ 20000 → Passes size [] (Warehouse ∷ rest) → AreFourOfBlocks size (body 1 (Warehouse ∷ rest))
body_passes size rest h p = record {
  four = record {
    whole = script_from 1 (Warehouse ∷ rest);
    no_fault = body_is 1 (Warehouse ∷ rest) p.no_fault (not_past _ 2000000 (omega (arith, p.end.commands, h))) (not_past _ 65536 (omega (arith, p.end.printed, h)));
    version = refl;
    catalogue = p.end.catalogue;
    warehouses = p.end.warehouses;
  };
  blocks = p.end.blocks;
}

-- a text with a header means what the lines after it do
after_header : (rest : List ℕ) → IsSource (codes "gcscript 1\n" ++ rest) 800051 → script (codes "gcscript 1\n" ++ rest) ≡ body 1 (statements rest)
after_header rest s =
    let bytes : List ℕ = codes "gcscript 1\n" ++ rest in
    ap (λ (test : Bool). cond test (Err TooLong) (of_text (first_foreign bytes) bytes)) (not_past (length bytes) 1048576 (omega (arith, s.short)))
    ∙ ap (λ (o : Option ℕ). of_text o bytes) (no_foreign bytes s.allowed)
    ∙ ap (λ (ls : List (List ℕ)). of_lines (map words ls)) (lines_first (codes "gcscript 1") rest refl)

first_warehouse : (size more state : ℕ) → (rest : List Statement) × (statements (generated_warehouses (suc more) size state) ≡ Warehouse ∷ rest)
first_warehouse size more state =
    let rest : List ℕ = lines_text size 0 state ++ generated_warehouses more size (last_state size 0 state) in
    (statements rest, statements_first (codes "warehouse") rest refl)

-- the generated text is a script of four warehouses
pub generated_script : (number size : ℕ) → size ≤ 20000 → AreFourOfBlocks size (script (generated number size))
generated_script number size h =
    let first = first_warehouse size 3 number in
    let read : script (generated number size) ≡ body 1 (Warehouse ∷ first.0) = after_header (generated_warehouses 4 size number) (generated_source number size h) ∙ ap (body 1) first.1 in
    subst (AreFourOfBlocks size) (sym read) (body_passes size first.0 h (subst (Passes size []) first.1 (warehouses_pass size number)))
