-- What the matches of a command's words say, and when the parse fails.
use Rattle.std.proofs.Common.{◌≡◌, ◌∙◌, ◌&&◌, ◌||◌, Bool, true, false, not, cond, refl, sym, ap, ap₂, inl, inr, List, [], ◌∷◌, ◌++◌, map, Option, Some, None, is_some, bytes_eq, codes, true≢false, if◌then◌else◌, subst, append_assoc, append-nil, IfSome, fold}
use Rattle.std.specs.Prelude.{option_and_then, option_map, slice_get}
use Rattle.std.specs.Option.{option_map_or}
use Rattle.std.specs.List.{find, list_any, list_all}
use Rattle.std.proofs.lemmas.List.{map-append}
use Rattle.std.proofs.lemmas.List.Folds.{list_all-append}
use Rattle.std.proofs.lemmas.Slice.Eq.{bytes_eq-Decides}
use Rattle.clap.specs.Facts.{explicit_source}
use Rattle.clap.specs.Walk.{Row, Text, Walk, has_row, idle, more_values, nothing_held, one_of, row_text, rows_after, settled, walk, walk_from, walked, with_default, with_values}
use Rattle.clap.specs.Simple.{Shape}
use Rattle.clap.specs.Kinds.{Kinds, check_kinds, or_else}
use Rattle.clap.specs.Takes.{is_given}
use Rattle.clap.specs.Faults.{default_fault, defaults_fault, level_fault, settle_fault, turn_fault, walk_fault}
use Rattle.clap.specs.declared.builder.value_parser.Reading.TheVariants.{AsWritten}
use Rattle.clap.specs.declared.parser.matches.ValueSource.TheVariants.{DefaultValue}
use Rattle.clap.proofs.WalkLemmas.{find-map}
use Rattle.command_words.specs.Words.{Setting, given, settings}
use Rattle.command_words.specs.Parsing.{IsToldFlag, MatchesTell, are_allowed, dashed, flag_rule, has_no_dashes, is_flag, is_required, option_rule, read_command, read_rule, told_values}
use Rattle.command_words.proofs.LeafTurns.{by_kind, has_name, rules, at, ends, held, if_sound}
use Rattle.command_words.proofs.Uses.{IsOnce, Use, at_no_row, row_of_use, row_with, rows_of_uses, settings_of, shown, use_of}
use Rattle.command_words.proofs.LeafRefused.{flip, is_bad}
use Rattle.command_words.proofs.LeafWalk.{Found, Result, fits, leaf_result}

-- ---- the rows of defaults

abbrev unset_row : Text → Row
unset_row n = row_with DefaultValue n (codes "false")

record Extra (rows after : List Row) : Type 0 where
  names : List Text
  rows_are : after ≡ rows ++ map unset_row names
  flags : list_all is_flag names ≡ true

one_default : (n : Text) (rows : List Row) → Extra rows (with_default rows (read_rule n))
one_default n rows = go (is_flag n) refl (has_row n rows) refl
  where
    nothing : Extra rows rows
    nothing = record { names = []; rows_are = sym (append-nil rows); flags = refl }

    go : (flag : Bool) → is_flag n ≡ flag → (b : Bool) → has_row n rows ≡ b → Extra rows (with_default rows (if flag then flag_rule n else option_rule n))
    go true f true e = subst (Extra rows) (sym (ap (λ (t : Bool). cond t rows (with_values n AsWritten DefaultValue (codes "false" ∷ []) rows)) e)) nothing
    go true f false e = record {
      names = n ∷ [];
      rows_are = ap (λ (t : Bool). cond t rows (with_values n AsWritten DefaultValue (codes "false" ∷ []) rows)) e ∙ at_no_row n (more_values DefaultValue (codes "false" ∷ [])) (unset_row n ∷ []) rows e;
      flags = ap (λ b. b && true) f;
    }
    go false f true e = subst (Extra rows) (sym (ap (λ (t : Bool). cond t rows rows) e)) nothing
    go false f false e = subst (Extra rows) (sym (ap (λ (t : Bool). cond t rows rows) e)) nothing

extra_rows : (ns : List Text) (rows : List Row) → Extra rows (fold with_default rows (rules ns))
extra_rows [] rows = record { names = []; rows_are = sym (append-nil rows); flags = refl }
extra_rows (n ∷ ns) rows =
    let one = one_default n rows in
    let more = extra_rows ns (with_default rows (read_rule n)) in
    record {
      names = one.names ++ more.names;
      rows_are = more.rows_are ∙ (ap (λ l. l ++ map unset_row more.names) one.rows_are ∙ (append_assoc rows (map unset_row one.names) (map unset_row more.names) ∙ ap (λ l. rows ++ l) (sym (map-append unset_row one.names more.names))));
      flags = list_all-append is_flag one.names more.names ∙ ap₂ ◌&&◌ one.flags more.flags;
    }

-- ---- looking a name up

abbrev or_next : {X : Type 0} → Option X → Option X → Option X
or_next None b = b
or_next (Some x) b = Some x

find_in_both : {X : Type 0} (p : X → Bool) (xs ys : List X) → find p (xs ++ ys) ≡ or_next (find p xs) (find p ys)
find_in_both p [] ys = refl
find_in_both p (x ∷ xs) ys = go (p x) (find_in_both p xs ys)
  where
    go : (b : Bool) → find p (xs ++ ys) ≡ or_next (find p xs) (find p ys) → cond b (Some x) (find p (xs ++ ys)) ≡ or_next (cond b (Some x) (find p xs)) (find p ys)
    go true h = refl
    go false h = h

row_found : (n : Text) (uses : List Use) (extra : List Text)
    → find (λ r. bytes_eq r.id n) (rows_of_uses uses ++ map unset_row extra) ≡ or_next (option_map row_of_use (use_of n uses)) (option_map unset_row (find (λ m. bytes_eq m n) extra))
row_found n uses extra =
    find_in_both (λ r. bytes_eq r.id n) (rows_of_uses uses) (map unset_row extra)
    ∙ ap₂ or_next (sym (find-map (λ r. bytes_eq r.id n) row_of_use uses)) (sym (find-map (λ r. bytes_eq r.id n) unset_row extra))

-- the extra rows are those of flags
no_option_extra : (n : Text) (extra : List Text) → is_flag n ≡ false → list_all is_flag extra ≡ true → find (λ m. bytes_eq m n) extra ≡ None
no_option_extra n [] f h = refl
no_option_extra n (m ∷ ms) f h = go (bytes_eq m n) (bytes_eq-Decides m n).0 (is_flag m) refl h (no_option_extra n ms f)
  where
    go : (b : Bool) → (b ≡ true → m ≡ n) → (g : Bool) → is_flag m ≡ g → (g && list_all is_flag ms) ≡ true → (list_all is_flag ms ≡ true → find (λ x. bytes_eq x n) ms ≡ None)
        → cond b (Some m) (find (λ x. bytes_eq x n) ms) ≡ None
    go b same false k t next = absurd (true≢false (sym t))
    go true same true k t next = absurd (true≢false (sym k ∙ (ap is_flag (same refl) ∙ f)))
    go false same true k t next = next t

-- the use of a name fits its kind
abbrev FitsKind : Bool → Option Use → Type 0
FitsKind flag found = IfSome found (λ u. (if flag then not (is_some u.1) else is_some u.1) ≡ true)

use_fits : (names : List Text) (n : Text) (uses : List Use) → list_all (fits names) uses ≡ true → FitsKind (is_flag n) (use_of n uses)
use_fits names n [] h = tt
use_fits names n (u ∷ us) h = go (bytes_eq u.0 n) (bytes_eq-Decides u.0 n).0 (has_name names u.0) (if is_flag u.0 then not (is_some u.1) else is_some u.1) refl h (use_fits names n us)
  where
    go : (b : Bool) → (b ≡ true → u.0 ≡ n) → (x y : Bool) → (if is_flag u.0 then not (is_some u.1) else is_some u.1) ≡ y → ((x && y) && list_all (fits names) us) ≡ true
        → (list_all (fits names) us ≡ true → FitsKind (is_flag n) (use_of n us)) → FitsKind (is_flag n) (cond b (Some u) (use_of n us))
    go b same false y e t next = absurd (true≢false (sym t))
    go b same true false e t next = absurd (true≢false (sym t))
    go true same true true e t next = subst (λ m. (if is_flag m then not (is_some u.1) else is_some u.1) ≡ true) (same refl) e
    go false same true true e t next = next t

tells_uses : (names : List Text) (uses : List Use) (extra : List Text) → list_all (fits names) uses ≡ true → IsOnce uses → list_all is_flag extra ≡ true
    → MatchesTell (rows_of_uses uses ++ map unset_row extra) (settings_of uses)
tells_uses names uses extra fit once flags = record {
  option = λ n f. once n ∙ (option_told (use_of n uses) (subst (λ b. FitsKind b (use_of n uses)) f (use_fits names n uses fit))
      ∙ ap (λ o. told_values (option_and_then (λ (r : Row). slice_get r.values 0) o)) (sym (row_found n uses extra ∙ ap (or_next (option_map row_of_use (use_of n uses))) (ap (option_map unset_row) (no_option_extra n extra f flags)))));
  flag = λ n f. subst (λ l. IsToldFlag (one_of n (rows_of_uses uses ++ map unset_row extra)) l) (sym (once n))
      (subst (λ o. IsToldFlag (option_and_then row_text o) (shown (use_of n uses))) (sym (row_found n uses extra))
      (flag_told (use_of n uses) (find (λ m. bytes_eq m n) extra) (subst (λ b. FitsKind b (use_of n uses)) f (use_fits names n uses fit))));
}
  where
    option_told : (o : Option Use) → FitsKind false o → shown o ≡ told_values (option_and_then (λ (r : Row). slice_get r.values 0) (or_next (option_map row_of_use o) None))
    option_told None k = refl
    option_told (Some (m, Some v)) k = refl
    option_told (Some (m, None)) k = absurd (true≢false (sym k))

    flag_told : (o : Option Use) (e : Option Text) → FitsKind true o → IsToldFlag (option_and_then row_text (or_next (option_map row_of_use o) (option_map unset_row e))) (shown o)
    flag_told None None k = inr (inr refl, refl)
    flag_told None (Some m) k = inr (inl refl, refl)
    flag_told (Some (m, None)) e k = inl (refl, refl)
    flag_told (Some (m, Some v)) e k = absurd (true≢false (sym k))

-- ---- each name is allowed

named_so : (n : Text) (names : List Text) → list_any (λ m. bytes_eq (dashed n) m) (map dashed names) ≡ has_name names n
named_so n [] = refl
named_so n (m ∷ ms) = ap₂ ◌||◌ (flip n m) (named_so n ms)

allowed : (names : List Text) (uses : List Use) → list_all (fits names) uses ≡ true → are_allowed names (settings_of uses) ≡ true
allowed names [] h = refl
allowed names (u ∷ us) h = go (has_name names u.0) (if is_flag u.0 then not (is_some u.1) else is_some u.1) h (named_so u.0 names) (allowed names us)
  where
    go : (x y : Bool) → ((x && y) && list_all (fits names) us) ≡ true → list_any (λ m. bytes_eq (dashed u.0) m) (map dashed names) ≡ x → (list_all (fits names) us ≡ true → are_allowed names (settings_of us) ≡ true)
        → (list_any (λ m. bytes_eq (dashed u.0) m) (map dashed names) && are_allowed names (settings_of us)) ≡ true
    go false y t e next = absurd (true≢false (sym t))
    go true false t e next = absurd (true≢false (sym t))
    go true true t e next = ap₂ ◌&&◌ e (next t)

-- ---- the faults of the whole level

pub or_else_none : (a : Kinds) → or_else a [] ≡ a
or_else_none [] = refl
or_else_none (k ∷ ks) = refl

or_else_both : (a b d : Kinds) → or_else (or_else a b) d ≡ or_else a (or_else b d)
or_else_both [] b d = refl
or_else_both (k ∷ ks) b d = refl

no_default_fault : (rows : List Row) (ns : List Text) → defaults_fault rows (rules ns) ≡ []
unfolding defaults_fault
no_default_fault rows [] = refl
no_default_fault rows (n ∷ ns) = ap (λ k. or_else k (defaults_fault (with_default rows (read_rule n)) (rules ns))) (by_kind (default_fault rows) [] n (either (has_row n rows) false) (either (has_row n rows) true)) ∙ no_default_fault (with_default rows (read_rule n)) ns
  where
    either : (a b : Bool) → ◌≡◌ {A = Kinds} (cond (a || b) [] []) []
    either true b = refl
    either false true = refl
    either false false = refl

-- an option that is required is missing
abbrev is_missing : List Row → List Text → Bool
is_missing rows ns = list_any (λ a. a.required && not (is_given a.id rows)) (rules ns)

record Missing (rows : List Row) (ns : List Text) : Type 0 where
  name : Text
  known : has_name ns name ≡ true
  needed : is_required name ≡ true
  option : is_flag name ≡ false
  missing : is_given name rows ≡ false

missing_one : (rows : List Row) (ns : List Text) → is_missing rows ns ≡ true → Missing rows ns
missing_one rows [] h = absurd (true≢false (sym h))
missing_one rows (n ∷ ns) h = go (is_flag n) refl (is_required n) refl (is_given n rows) refl h (missing_one rows ns)
  where
    or_yes : (a : Bool) → (a || true) ≡ true
    or_yes true = refl
    or_yes false = refl

    later : Missing rows ns → Missing rows (n ∷ ns)
    later m = record { name = m.name; known = ap (λ b. bytes_eq n m.name || b) m.known ∙ or_yes (bytes_eq n m.name); needed = m.needed; option = m.option; missing = m.missing }

    here : is_flag n ≡ false → is_required n ≡ true → is_given n rows ≡ false → Missing rows (n ∷ ns)
    here f r g = record { name = n; known = ap (λ b. b || has_name ns n) ((bytes_eq-Decides n n).1 refl); needed = r; option = f; missing = g }

    go : (f : Bool) → is_flag n ≡ f → (r : Bool) → is_required n ≡ r → (g : Bool) → is_given n rows ≡ g
        → ((if f then flag_rule n else option_rule n).required && not (is_given (if f then flag_rule n else option_rule n).id rows) || is_missing rows ns) ≡ true
        → (is_missing rows ns ≡ true → Missing rows ns) → Missing rows (n ∷ ns)
    go true f r e g d t next = later (next t)
    go false f false e g d t next = later (next (ap (λ b. b && not (is_given n rows) || is_missing rows ns) (sym e) ∙ t))
    go false f true e true d t next = later (next (ap₂ (λ b x. b && not x || is_missing rows ns) (sym e) (sym d) ∙ t))
    go false f true e false d t next = here f e d

-- no use of the option is among them
not_used : (n : Text) (uses : List Use) (extra : List Text) → is_flag n ≡ false → list_all is_flag extra ≡ true → is_given n (rows_of_uses uses ++ map unset_row extra) ≡ false → use_of n uses ≡ None
not_used n uses extra f flags h =
    go (use_of n uses) (sym (ap (λ o. option_map_or (λ (r : Row). explicit_source r.source) o false) (row_found n uses extra ∙ ap (λ o. or_next (option_map row_of_use (use_of n uses)) (option_map unset_row o)) (no_option_extra n extra f flags))) ∙ h)
  where
    go : (o : Option Use) → option_map_or (λ (r : Row). explicit_source r.source) (or_next (option_map row_of_use o) None) false ≡ false → o ≡ None
    go None e = refl
    go (Some u) e = absurd (true≢false e)

-- the fault of a missing option, if nothing else failed
abbrev missing_fault : Bool → Kinds
missing_fault missing = check_kinds false false missing

level_is : (name : Text) (names : List Text) (words : List Text)
    → level_fault (read_command name names) [] nothing_held words false []
    ≡ or_else (or_else (walk_fault (read_command name names) [] (walk_from nothing_held) words) (settle_fault (rules names) false (walk (rules names) [] nothing_held words).held))
    (missing_fault (is_missing (rows_after (rules names) [] words) names))
level_is name names words =
    let s = read_command name names in
    let end = (walk (rules names) [] nothing_held words).held in
    let missing = missing_fault (is_missing (rows_after (rules names) [] words) names) in
    ap (λ (d : Kinds). or_else (walk_fault s [] (walk_from nothing_held) words) (or_else (settle_fault (rules names) false end) (or_else d missing))) (no_default_fault (settled (rules names) end).rows names)
    ∙ sym (or_else_both (walk_fault s [] (walk_from nothing_held) words) (settle_fault (rules names) false end) missing)

-- the walk and its end, word by word
ends_is : (s : Shape) (words : List Text) (w : Walk)
    → if_sound (or_else (walk_fault s [] w words) (settle_fault s.rules s.args_override_self (fold (walked s.rules []) w words).held)) (Some (settled s.rules (fold (walked s.rules []) w words).held).rows) ≡ ends s w words
unfolding walk_fault
ends_is s [] w = refl
ends_is s (x ∷ xs) w = go (turn_fault s [] w x) (walk_fault s [] (walked s.rules [] w x) xs) (settle_fault s.rules s.args_override_self (fold (walked s.rules []) (walked s.rules [] w x) xs).held) _ _ (ends_is s xs (walked s.rules [] w x))
  where
    go : (f a b : Kinds) (o e : Option (List Row)) → if_sound (or_else a b) o ≡ e → if_sound (or_else (or_else f a) b) o ≡ if_sound f e
    go [] a b o e h = h
    go (k ∷ ks) a b o e h = refl

-- ---- a command's words

-- the settings of the words are allowed, and the matches say what they say
pub record Says (names : List Text) (rows : List Row) (sets : Option (List Setting)) : Type 0 where
  pub all : List Setting
  pub sets_are : sets ≡ Some all
  pub allowed : are_allowed names all ≡ true
  pub tells : MatchesTell rows all

module _ {Z : Type 0} (name : Text) (names : List Text) (K : List Setting → Option Z)
    (refuses : (done more : List Setting) (x : Setting) → is_bad names done x ≡ true → K (done ++ x ∷ more) ≡ None)
    (needs : (all : List Setting) (n : Text) → has_name names n ≡ true → is_required n ≡ true → given (dashed n) all ≡ [] → K all ≡ None) where
  -- a parse without a fault says the settings, and after a fault there is no command
  abbrev pub Answers : Kinds → List Row → Option (List Setting) → Type 0
  Answers [] rows sets = Says names rows sets
  Answers (k ∷ ks) rows sets = option_and_then K sets ≡ None

  abbrev end_rows : List Text → List Row
  end_rows words = (settled (rules names) (walk (rules names) [] nothing_held words).held).rows

  found_answers : (rows : List Row) (sets : Option (List Setting)) → Found name names K refuses rows sets
      → Answers (missing_fault (is_missing (fold with_default rows (rules names)) names)) (fold with_default rows (rules names)) sets
  found_answers rows sets found = go (is_missing (fold with_default rows (rules names)) names) refl
    where
      extra : Extra rows (fold with_default rows (rules names))
      extra = extra_rows names rows

      rows_are : fold with_default rows (rules names) ≡ rows_of_uses found.uses ++ map unset_row extra.names
      rows_are = extra.rows_are ∙ ap (λ l. l ++ map unset_row extra.names) found.rows_are

      go : (b : Bool) → is_missing (fold with_default rows (rules names)) names ≡ b → Answers (missing_fault b) (fold with_default rows (rules names)) sets
      go false e = record {
        all = settings_of found.uses;
        sets_are = found.sets_are;
        allowed = allowed names found.uses found.fit;
        tells = subst (λ r. MatchesTell r (settings_of found.uses)) (sym rows_are) (tells_uses names found.uses extra.names found.fit found.once extra.flags);
      }
      go true e =
          let one = missing_one (fold with_default rows (rules names)) names e in
          let unused = not_used one.name found.uses extra.names one.option extra.flags (ap (is_given one.name) (sym rows_are) ∙ one.missing) in
          ap (option_and_then K) found.sets_are ∙ needs (settings_of found.uses) one.name one.known one.needed (found.once one.name ∙ ap shown unused)

  pub leaf_answers : (words : List Text) → has_no_dashes words ≡ true
      → Answers (level_fault (read_command name names) [] nothing_held words false []) (rows_after (rules names) [] words) (settings words None)
  leaf_answers words nd =
      let start = walk_fault (read_command name names) [] (walk_from nothing_held) words in
      let last = settle_fault (rules names) false (walk (rules names) [] nothing_held words).held in
      subst (λ f. Answers f (rows_after (rules names) [] words) (settings words None)) (sym (level_is name names words))
      (go (or_else start last) (subst (λ o. Result name names K refuses o (settings words None)) (sym (ends_is (read_command name names) words (at idle (held [] None)))) (leaf_result name names K refuses words nd)))
    where
      go : (f : Kinds) → Result name names K refuses (if_sound f (Some (end_rows words))) (settings words None)
          → Answers (or_else f (missing_fault (is_missing (rows_after (rules names) [] words) names))) (rows_after (rules names) [] words) (settings words None)
      go [] r = found_answers (end_rows words) (settings words None) r
      go (k ∷ ks) r = r
