-- A parse of one command's options: it takes the words of which the definition reads settings that are allowed, each once.
use Rattle.std.proofs.Common.{◌≡◌, ◌∙◌, ◌&&◌, Bool, true, false, not, refl, sym, ap, ap₂, inl, inr, List, [], ◌∷◌, ◌++◌, Option, Some, None, is_some, codes, if◌then◌else◌, subst, append_assoc, append-nil, nat_lt}
use Rattle.std.specs.Prelude.{option_and_then, unwrap_or}
use Rattle.std.specs.Option.{option_map_or}
use Rattle.std.specs.List.{list_all}
use Rattle.std.proofs.lemmas.List.{map-append}
use Rattle.std.proofs.lemmas.List.Folds.{list_all-append}
use Rattle.std.proofs.lemmas.Slice.Eq.{bytes_eq-Decides}
use Rattle.clap.specs.Walk.{Row, Rule, Text, has_row, idle, option, option_word, settled, settled_rows, used_by_id, with_values, without}
use Rattle.clap.specs.Simple.{Shape}
use Rattle.clap.specs.Kinds.{Kinds, or_else}
use Rattle.clap.specs.Faults.{settle_fault, use_fault}
use Rattle.clap.specs.declared.builder.value_parser.Reading.TheVariants.{AsWritten}
use Rattle.clap.specs.declared.parser.matches.ValueSource.TheVariants.{CommandLine}
use Rattle.clap.specs.declared.error.kind.ErrorKind.TheVariants as kind
use Rattle.command_words.specs.Words.{Setting, Flag, Named, word_kind, settings_begun, settings, with_setting}
use Rattle.command_words.specs.Parsing.{dashed, has_no_dashes, is_flag, read_command}
use Rattle.command_words.proofs.LeafTurns.{has_name, rules, at, broken, ends, first_word, for_none, for_value, held, id_is, if_sound, long_fails, long_turn, long_turn_is, met_is, never_dashes, other_fails, other_is, plain_turn, rule_met, begins_with_hyphen}
use Rattle.command_words.proofs.Uses.{IsOnce, Use, has_used, is_used, once_more, one_row_more, rows_of_uses, setting_of, settings_of}
use Rattle.command_words.proofs.LongWords.{Look, begins_as, begins_other, dashes, long, look, other}
use Rattle.command_words.proofs.LeafRefused.{again, hyphened, is_bad, misused, other_refused, preceded, read, refused_again, refused_name, refused_use, unknown, waiting_refused}

-- the use of an option fits its kind
abbrev pub fits : List Text → Use → Bool
fits names u = has_name names u.0 && (if is_flag u.0 then not (is_some u.1) else is_some u.1)

module _ {Z : Type 0} (name : Text) (names : List Text) (K : List Setting → Option Z)
    (refuses : (done more : List Setting) (x : Setting) → is_bad names done x ≡ true → K (done ++ x ∷ more) ≡ None) where
  abbrev c : List Rule
  c = rules names

  abbrev s : Shape
  s = read_command name names

  pub record Found (rows : List Row) (sets : Option (List Setting)) : Type 0 where
    pub uses : List Use
    pub rows_are : rows ≡ rows_of_uses uses
    pub sets_are : sets ≡ Some (settings_of uses)
    pub fit : list_all (fits names) uses ≡ true
    pub once : IsOnce uses

  -- the parse gives the rows of the settings, or it fails and the command is refused
  abbrev pub Result : Option (List Row) → Option (List Setting) → Type 0
  Result None sets = option_and_then K sets ≡ None
  Result (Some rows) sets = Found rows sets

  abbrev IsReady : List Use → Type 0
  IsReady uses = (list_all (fits names) uses ≡ true) × IsOnce uses

  result_as : (e f : Option (List Row)) (a b : Option (List Setting)) → e ≡ f → a ≡ b → Result f b → Result e a
  result_as e f a b p q r = subst (λ o. Result o a) (sym p) (subst (λ o. Result f o) (sym q) r)

  abbrev IdleAt : List Text → Type 0
  IdleAt words = (uses : List Use) (rows : List Row) (p : Option (Text × List Text)) → IsReady uses → settle_fault c false (held rows p) ≡ []
      → settled_rows c p rows ≡ rows_of_uses uses → Result (ends s (at idle (held rows p)) words) (read uses words None)

  abbrev OpenAt : List Text → Type 0
  OpenAt words = (uses : List Use) (n : Text) → IsReady uses → has_name names n ≡ true → is_flag n ≡ false
      → Result (ends s (at (option n) (held (rows_of_uses uses) (Some (n, [])))) words) (read uses words (Some (dashed n)))

  failed : (e : Option (List Row)) (a : Option (List Setting)) → e ≡ None → option_and_then K a ≡ None → Result e a
  failed e a is none = subst (λ o. Result o a) (sym is) none

  -- one use more
  ready_more : (uses : List Use) (n : Text) (v : Option Text) (flag : Bool) → IsReady uses → has_name names n ≡ true → is_flag n ≡ flag → (if flag then not (is_some v) else is_some v) ≡ true
      → is_used n uses ≡ false → IsReady (uses ++ (n, v) ∷ [])
  ready_more uses n v flag ready known sort right unused =
      let one : fits names (n, v) ≡ true = ap₂ (λ a b. a && (if b then not (is_some v) else is_some v)) known sort ∙ right in
      let all : list_all (fits names) (uses ++ (n, v) ∷ []) ≡ true = list_all-append (fits names) uses ((n, v) ∷ []) ∙ ap₂ (λ a b. a && (b && true)) ready.0 one in
      (all, once_more uses n v unused ready.1)

  read_more : (uses : List Use) (n : Text) (v : Option Text) (others : Option (List Setting))
      → preceded (settings_of uses) (with_setting (dashed n) v others) ≡ preceded (settings_of (uses ++ (n, v) ∷ [])) others
  read_more uses n v None = refl
  read_more uses n v (Some all) =
      ap Some (sym (append_assoc (settings_of uses) (setting_of (n, v) ∷ []) all) ∙ ap (λ l. l ++ all) (sym (map-append setting_of uses ((n, v) ∷ []))))

  -- ---- one use

  -- a second use of an option is an error
  abbrev repeat : Bool → Kinds
  repeat used_before = or_else (if used_before && not false then kind.ArgumentConflict ∷ [] else []) []

  abbrev after_use : Text → Text → List Text → Kinds → List Row → Option (List Row)
  after_use n value xs before rows =
      if_sound (or_else (or_else before (repeat (has_row n rows))) []) (ends s (at idle (held (with_values n AsWritten CommandLine (value ∷ []) (without n rows)) None)) xs)

  abbrev by_use : List Use → Text → Text → List Text → Bool → Option (List Row)
  by_use uses n value xs b =
      if_sound (or_else (or_else [] (repeat b)) []) (ends s (at idle (held (with_values n AsWritten CommandLine (value ∷ []) (without n (rows_of_uses uses))) None)) xs)

  use_step : (xs : List Text) → IdleAt xs → (uses : List Use) (n value : Text) (v : Option Text) (flag : Bool) → IsReady uses → has_name names n ≡ true → is_flag n ≡ flag
      → (if flag then not (is_some v) else is_some v) ≡ true → value ≡ unwrap_or v (codes "true")
      → Result (after_use n value xs [] (rows_of_uses uses)) (preceded (settings_of uses) (with_setting (dashed n) v (settings xs None)))
  use_step xs ih uses n value v flag ready known sort right is = go (is_used n uses) refl
    where
      go : (b : Bool) → is_used n uses ≡ b → Result (after_use n value xs [] (rows_of_uses uses)) (preceded (settings_of uses) (with_setting (dashed n) v (settings xs None)))
      go true e = failed _ _ (ap (by_use uses n value xs) (has_used n uses ∙ e)) (refused_again names K refuses uses (dashed n) v (settings xs None) (again uses n e))
      go false e = result_as _ _ _ _
          (ap (by_use uses n value xs) (has_used n uses ∙ e) ∙ ap (λ r. ends s (at idle (held r None)) xs) (one_row_more uses n value v e is))
          (read_more uses n v (settings xs None))
          (ih (uses ++ (n, v) ∷ []) (rows_of_uses (uses ++ (n, v) ∷ [])) None (ready_more uses n v flag ready known sort right e) refl refl)

  -- a value that stands in a word of its own
  full : (xs : List Text) → IdleAt xs → has_no_dashes xs ≡ true → (uses : List Use) (n v : Text) → IsReady uses → has_name names n ≡ true → is_flag n ≡ false
      → Result (ends s (at idle (held (rows_of_uses uses) (Some (n, v ∷ [])))) xs) (preceded (settings_of uses) (with_setting (dashed n) (Some v) (settings xs None)))
  full xs ih nd uses n v ready known sort = go (is_used n uses) refl
    where
      settles : settle_fault c false (held (rows_of_uses uses) (Some (n, v ∷ []))) ≡ repeat (is_used n uses)
      settles = ap (λ o. option_map_or (λ a. use_fault false a (v ∷ []) (rows_of_uses uses)) o []) (id_is name names n known sort) ∙ ap repeat (has_used n uses)

      go : (b : Bool) → is_used n uses ≡ b → Result (ends s (at idle (held (rows_of_uses uses) (Some (n, v ∷ [])))) xs) (preceded (settings_of uses) (with_setting (dashed n) (Some v) (settings xs None)))
      go true e = failed _ _ (broken name names xs _ _ kind.ArgumentConflict [] (settles ∙ ap repeat e) nd)
          (refused_again names K refuses uses (dashed n) (Some v) (settings xs None) (again uses n e))
      go false e = result_as _ _ _ _ refl (read_more uses n (Some v) (settings xs None))
          (ih (uses ++ (n, Some v) ∷ []) (rows_of_uses uses) (Some (n, v ∷ [])) (ready_more uses n (Some v) false ready known sort refl e) (settles ∙ ap repeat e)
          (ap (λ o. used_by_id o (v ∷ []) (rows_of_uses uses)) (id_is name names n known sort) ∙ one_row_more uses n v (Some v) e refl))

  -- ---- a word where an option waits for its value

  none_given : (uses : List Use) (n : Text) → has_name names n ≡ true → is_flag n ≡ false → settle_fault c false (held (rows_of_uses uses) (Some (n, []))) ≡ kind.InvalidValue ∷ []
  none_given uses n known sort = ap (λ o. option_map_or (λ a. use_fault false a [] (rows_of_uses uses)) o []) (id_is name names n known sort)

  value_taken : (rows : List Row) (n x : Text) (xs : List Text) → has_name names n ≡ true → is_flag n ≡ false
      → plain_turn name names (option n) (held rows (Some (n, []))) x xs ≡ ends s (at idle (held rows (Some (n, x ∷ [])))) xs
  value_taken rows n x xs known sort =
      ap (λ o. ends s (at (option_word o n x (held rows (Some (n, [])))).1 (option_word o n x (held rows (Some (n, [])))).0) xs) (id_is name names n known sort)
      ∙ ap (λ b. ends s (at (if nat_lt (if b then 1 else 0) 1 then option n else idle) (held rows (Some (n, x ∷ [])))) xs) ((bytes_eq-Decides n n).1 refl)

  open_step : (x : Text) (xs : List Text) → has_no_dashes (x ∷ xs) ≡ true → IdleAt xs → OpenAt (x ∷ xs)
  open_step x xs nd ih uses n ready known sort = go (look x)
    where
      hyphen_refused : begins_with_hyphen x ≡ true → option_and_then K (read uses (x ∷ xs) (Some (dashed n))) ≡ None
      hyphen_refused h = refused_use names K refuses uses (dashed n) (Some x) (settings xs None) (misused n (Some x) false sort h)

      go : Look x → Result (ends s (at (option n) (held (rows_of_uses uses) (Some (n, [])))) (x ∷ xs)) (read uses (x ∷ xs) (Some (dashed n)))
      go (dashes e) = never_dashes x (first_word x xs nd).0 e
      go (long m v l b d) = failed _ _
          (long_turn_is name names (option n) (for_value n) _ x xs m v (first_word x xs nd).0 l
          ∙ (ap (λ o. long_turn name names o v (option n) (held (rows_of_uses uses) (Some (n, []))) x xs) (met_is name names m (has_name names m) (is_flag m) refl refl)
          ∙ long_fails name names (has_name names m) (is_flag m) m v (option n) _ x xs kind.InvalidValue [] (none_given uses n known sort)))
          (hyphen_refused (hyphened x d))
      go (other l d) = elim (other_is name names (option n) (for_value n) (rows_of_uses uses) (Some (n, [])) x xs (first_word x xs nd).0 l) [
        | inl f ↦ failed _ _ f.0 (hyphen_refused f.1)
        | inr f ↦ result_as _ _ _ _ (f ∙ value_taken (rows_of_uses uses) n x xs known sort) refl (full xs ih (first_word x xs nd).1 uses n x ready known sort)
      ]

  -- ---- a word where an option may begin

  flag_begun : (uses : List Use) (n : Text) (xs : List Text) → is_flag n ≡ true
      → preceded (settings_of uses) (settings_begun (begins_as n None) (settings xs)) ≡ preceded (settings_of uses) (with_setting (dashed n) None (settings xs None))
  flag_begun uses n xs e =
      ap (λ b. preceded (settings_of uses) (settings_begun (if b then Flag else Named (dashed n)) (settings xs))) e
      ∙ ap (λ m. preceded (settings_of uses) (with_setting (dashed m) None (settings xs None))) (sym ((bytes_eq-Decides n (codes "place")).0 e))

  name_begun : (uses : List Use) (n : Text) (xs : List Text) → is_flag n ≡ false
      → preceded (settings_of uses) (settings_begun (begins_as n None) (settings xs)) ≡ read uses xs (Some (dashed n))
  name_begun uses n xs e = ap (λ b. preceded (settings_of uses) (settings_begun (if b then Flag else Named (dashed n)) (settings xs))) e

  idle_long : (x : Text) (xs : List Text) → IdleAt xs → OpenAt xs → (uses : List Use) (rows : List Row) (p : Option (Text × List Text)) → IsReady uses
      → settle_fault c false (held rows p) ≡ [] → settled_rows c p rows ≡ rows_of_uses uses
      → (n : Text) (v : Option Text) (known flag : Bool) → has_name names n ≡ known → is_flag n ≡ flag
      → Result (long_turn name names (rule_met known flag n) v idle (held rows p) x xs) (preceded (settings_of uses) (settings_begun (begins_as n v) (settings xs)))
  idle_long x xs ih io uses rows p ready f q n (Some y) false flag e k = refused_name names K refuses uses (dashed n) (Some y) (settings xs None) (unknown names K refuses n e)
  idle_long x xs ih io uses rows p ready f q n None false true e k =
      ap (option_and_then K) (flag_begun uses n xs k) ∙ refused_name names K refuses uses (dashed n) None (settings xs None) (unknown names K refuses n e)
  idle_long x xs ih io uses rows p ready f q n None false false e k =
      ap (option_and_then K) (name_begun uses n xs k) ∙ waiting_refused names K refuses uses (dashed n) xs (unknown names K refuses n e)
  idle_long x xs ih io uses rows p ready f q n (Some y) true true e k =
      refused_use names K refuses uses (dashed n) (Some y) (settings xs None) (misused n (Some y) true k refl)
  idle_long x xs ih io uses rows p ready f q n None true true e k =
      result_as _ _ _ _ (ap₂ (after_use n (codes "true") xs) f q) (flag_begun uses n xs k) (use_step xs ih uses n (codes "true") None true ready e k refl refl)
  idle_long x xs ih io uses rows p ready f q n (Some y) true false e k =
      result_as _ _ _ _ (ap₂ (after_use n y xs) f q) refl (use_step xs ih uses n y (Some y) false ready e k refl refl)
  idle_long x xs ih io uses rows p ready f q n None true false e k =
      result_as _ _ _ _ (ap₂ (λ (o : Kinds) r. if_sound (or_else o []) (ends s (at (option n) (held r (Some (n, [])))) xs)) f q) (name_begun uses n xs k) (io uses n ready e k)

  idle_step : (x : Text) (xs : List Text) → has_no_dashes (x ∷ xs) ≡ true → IdleAt xs → OpenAt xs → IdleAt (x ∷ xs)
  idle_step x xs nd ih io uses rows p ready f q = go (look x)
    where
      go : Look x → Result (ends s (at idle (held rows p)) (x ∷ xs)) (read uses (x ∷ xs) None)
      go (dashes e) = never_dashes x (first_word x xs nd).0 e
      go (other l d) = failed _ _ (other_fails name names rows p x xs (first_word x xs nd).0 l) (other_refused names K refuses uses (word_kind x) xs (begins_other x d))
      go (long n v l b d) = result_as _ _ _ _
          (long_turn_is name names idle for_none (held rows p) x xs n v (first_word x xs nd).0 l ∙ ap (λ o. long_turn name names o v idle (held rows p) x xs) (met_is name names n (has_name names n) (is_flag n) refl refl))
          (ap (λ o. preceded (settings_of uses) (settings_begun o (settings xs))) b)
          (idle_long x xs ih io uses rows p ready f q n v (has_name names n) (is_flag n) refl refl)

  both : (words : List Text) → has_no_dashes words ≡ true → IdleAt words × OpenAt words
  both [] nd = (
    λ uses rows p ready f q. result_as _ _ _ _ (ap₂ (λ (o : Kinds) r. if_sound o (Some r)) f q) refl (record { uses = uses; rows_are = refl; sets_are = ap Some (append-nil (settings_of uses)); fit = ready.0; once = ready.1 }),
    λ uses n ready known sort. failed _ _ (ap (λ (o : Kinds). if_sound o (Some (settled c (held (rows_of_uses uses) (Some (n, [])))).rows)) (none_given uses n known sort)) refl,
  )
  both (x ∷ xs) nd =
      let rest = both xs (first_word x xs nd).1 in
      (idle_step x xs nd rest.0 rest.1, open_step x xs nd rest.0)

  -- the parse of a command's words, from the start
  pub leaf_result : (words : List Text) → has_no_dashes words ≡ true → Result (ends s (at idle (held [] None)) words) (settings words None)
  leaf_result words nd = result_as _ _ _ _ refl (go (settings words None)) ((both words nd).0 [] [] None (refl, λ n. refl) refl refl)
    where
      go : (o : Option (List Setting)) → o ≡ preceded [] o
      go None = refl
      go (Some all) = refl
