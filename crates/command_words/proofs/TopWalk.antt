-- The walk over the whole command line stops at a command's name, and leaves the words after it to that command.
use Rattle.std.proofs.Common.{◌≡◌, ◌∙◌, ◌&&◌, ◌||◌, Bool, true, false, cond, refl, sym, ap, ap₂, inl, inr, List, [], ◌∷◌, ◌++◌, length, Option, Some, None, is_some, bytes_eq, codes, true≢false, if◌then◌else◌, subst, fold, find, unwrap_or}
use Rattle.std.specs.Prelude.{option_and_then, option_map}
use Rattle.std.specs.Option.{option_map_or}
use Rattle.std.proofs.lemmas.Slice.Eq.{bytes_eq-Decides}
use Rattle.clap.specs.Lexer.{long_of, short_of}
use Rattle.clap.specs.Walk.{Held, Outcome as FlagOutcome, Row, Text, Walk, after_flag, after_step, answers_to, finished, settled, idle, nothing_held, rows_after, subcommand_or_other, walk, walk_from, walked, long_or_other, trailing, short_or_plain}
use Rattle.clap.specs.Simple.{App, Shape, entered, label_of, names_of, rows_at}
use Rattle.clap.specs.Kinds.{Kinds, or_else}
use Rattle.clap.specs.Faults.{built_fault, bundle_fault, check_fault, defaults_fault, settle_fault, entered_fault, flag_word_fault, level_fault, other_fault, step_fault, turn_fault, walk_fault}
use Rattle.clap.specs.declared.error.kind.ErrorKind.{ErrorKind}
use Rattle.clap.specs.declared.error.kind.ErrorKind.TheVariants as kind
use Rattle.clap.proofs.WalkLemmas.{walk_stopped}
use Rattle.clap.proofs.FaultLemmas.{stopped_fault}
use Rattle.command_words.specs.Words.{Setting, given, settings}
use Rattle.command_words.specs.Parsing.{Form, MatchesTell, are_allowed, dashed, form_named, has_no_dashes, is_required, read_command, read_program}
use Rattle.command_words.proofs.LeafTurns.{has_name, or_no, rules, bundle_fails, first_word}
use Rattle.command_words.proofs.LeafRefused.{is_bad}
use Rattle.command_words.proofs.LeafMatches.{Answers, leaf_answers, or_else_none}

-- the parse failed
pub data IsFault : Kinds → Type 0 where
  fault : (k : ErrorKind) (ks : Kinds) → IsFault (k ∷ ks)

fault_first : (a b : Kinds) → IsFault a → IsFault (or_else a b)
fault_first _ b (fault k ks) = fault k ks

-- ---- names

label_found : (forms : List Form) (word : Text) → find (answers_to word) (names_of (read_program forms)) ≡ option_map (λ p. (p.0, [])) (form_named word forms)
label_found [] word = refl
label_found (p ∷ ps) word = go (bytes_eq p.0 word || false) (bytes_eq p.0 word) (or_no (bytes_eq p.0 word)) (label_found ps word)
  where
    go : (a b : Bool) → a ≡ b → find (answers_to word) (names_of (read_program ps)) ≡ option_map (λ p. (p.0, [])) (form_named word ps)
        → cond a (Some (p.0, [])) (find (answers_to word) (names_of (read_program ps))) ≡ option_map (λ p. (p.0, [])) (cond b (Some p) (form_named word ps))
    go a true e h = ap (λ t. cond t (Some (p.0, [])) (find (answers_to word) (names_of (read_program ps)))) e
    go a false e h = ap (λ t. cond t (Some (p.0, [])) (find (answers_to word) (names_of (read_program ps)))) e ∙ h

command_found : (forms : List Form) (word : Text) → find (λ s. answers_to word (label_of s)) (read_program forms).subs ≡ option_map (λ p. read_command p.0 p.1) (form_named word forms)
command_found [] word = refl
command_found (p ∷ ps) word = go (bytes_eq p.0 word || false) (bytes_eq p.0 word) (or_no (bytes_eq p.0 word)) (command_found ps word)
  where
    go : (a b : Bool) → a ≡ b → find (λ s. answers_to word (label_of s)) (read_program ps).subs ≡ option_map (λ p. read_command p.0 p.1) (form_named word ps)
        → cond a (Some (read_command p.0 p.1)) (find (λ s. answers_to word (label_of s)) (read_program ps).subs) ≡ option_map (λ p. read_command p.0 p.1) (cond b (Some p) (form_named word ps))
    go a true e h = ap (λ t. cond t (Some (read_command p.0 p.1)) (find (λ s. answers_to word (label_of s)) (read_program ps).subs)) e
    go a false e h = ap (λ t. cond t (Some (read_command p.0 p.1)) (find (λ s. answers_to word (label_of s)) (read_program ps).subs)) e ∙ h

pub name_is : (forms : List Form) (word : Text) (p : Form) → form_named word forms ≡ Some p → p.0 ≡ word
name_is [] word p e = absurd (true≢false (ap is_some (sym e)))
name_is (q ∷ qs) word p e = go (bytes_eq q.0 word) (bytes_eq-Decides q.0 word).0 e (name_is qs word p)
  where
    go : (b : Bool) → (b ≡ true → q.0 ≡ word) → cond b (Some q) (form_named word qs) ≡ Some p → (form_named word qs ≡ Some p → p.0 ≡ word) → p.0 ≡ word
    go true same h next = ap (λ o. (unwrap_or o q).0) (sym h) ∙ same refl
    go false same h next = next h

-- ---- the first word

module _ (forms : List Form) where
  abbrev a : App
  a = read_program forms

  abbrev first_fault : Option Text → Text → Kinds
  first_fault met x = or_else (other_fault a.top met x nothing_held) (step_fault a.top 1 (subcommand_or_other [] met idle 1 x nothing_held).0 (subcommand_or_other [] met idle 1 x nothing_held).1)

  turn_is : (x : Text) → turn_fault a.top (names_of a) (walk_from nothing_held) x ≡ first_fault (option_map (λ (s : Text × List Text). s.0) (find (answers_to x) (names_of a))) x
  turn_is x = refl

  abbrev by_look : Text → Bool → Option (Text × Option Text) → Kinds
  by_look x b l =
      let met = if b then (nothing_held, trailing 1) else long_or_other [] idle x l nothing_held in
      or_else (if b then [] else flag_word_fault [] false l x nothing_held) (step_fault a.top 1 met.0 met.1)

  abbrev by_short : Text → Option Text → Kinds
  by_short x o =
      or_else (option_map_or (λ f. bundle_fault [] false f nothing_held) o []) (step_fault a.top 1 (short_or_plain [] idle x o nothing_held).0 (short_or_plain [] idle x o nothing_held).1)

  no_short : (x : Text) (o : Option Text) → IsFault (by_short x o)
  no_short x None = fault _ _
  no_short x (Some flags) = elim (bundle_fails x [] (length flags) flags nothing_held) [
    | inl f ↦ subst IsFault (ap (λ (k : Kinds). or_else k (step_fault a.top 1 (short_or_plain [] idle x (Some flags) nothing_held).0 (short_or_plain [] idle x (Some flags) nothing_held).1)) (sym f)) (fault _ _)
    | inr f ↦ subst IsFault (ap₂ (λ (k : Kinds) (m : Held × FlagOutcome). or_else k (step_fault a.top 1 (after_flag [] idle x m.0 m.1).0 (after_flag [] idle x m.0 m.1).1)) (sym f.0) (sym f.1)) (fault _ _)
  ]

  no_word : (x : Text) (l : Option (Text × Option Text)) → IsFault (by_look x false l)
  no_word x (Some p) = fault _ _
  no_word x None = no_short x (short_of x)

  -- a word that is no command's name
  pub unnamed : (x : Text) → form_named x forms ≡ None → bytes_eq x (dashed []) ≡ false → IsFault (turn_fault a.top (names_of a) (walk_from nothing_held) x)
  unnamed x none nd =
      subst IsFault (sym (turn_is x ∙ ap (λ o. first_fault (option_map (λ (s : Text × List Text). s.0) o) x) (label_found forms x ∙ ap (option_map (λ p. (p.0, []))) none) ∙ ap (λ b. by_look x b (long_of x)) nd)) (no_word x (long_of x))

  -- ---- the words after a command's name

  met_name : (x : Text) (p : Form) → form_named x forms ≡ Some p → option_map (λ (s : Text × List Text). s.0) (find (answers_to x) (names_of a)) ≡ Some p.0
  met_name x p is = ap (option_map (λ (s : Text × List Text). s.0)) (label_found forms x ∙ ap (option_map (λ (q : Form). (q.0, []))) is)

  no_help : (b : Bool) (ks : Kinds) → (if b && false then ks else []) ≡ []
  no_help true ks = refl
  no_help false ks = refl

  named_turn : (x : Text) (p : Form) → form_named x forms ≡ Some p → turn_fault a.top (names_of a) (walk_from nothing_held) x ≡ []
  named_turn x p is = turn_is x ∙ ap (λ o. first_fault o x) (met_name x p is) ∙ ap (λ (k : Kinds). or_else k []) (no_help (bytes_eq p.0 (codes "help")) (kind.DisplayHelp ∷ kind.InvalidSubcommand ∷ []))

  abbrev stopped_at : Text → List Text → Walk
  stopped_at n words = record (walk_from nothing_held) { stopped = Some (n, words) }

  named_walked : (x : Text) (p : Form) → form_named x forms ≡ Some p → walked [] (names_of a) (walk_from nothing_held) x ≡ stopped_at p.0 []
  unfolding walked
  named_walked x p is = ap (λ o. after_step [] x (walk_from nothing_held) (subcommand_or_other [] o idle 1 x nothing_held).0 (subcommand_or_other [] o idle 1 x nothing_held).1) (met_name x p is)

  named_walk : (x : Text) (xs : List Text) (p : Form) → form_named x forms ≡ Some p → walk [] (names_of a) nothing_held (x ∷ xs) ≡ stopped_at p.0 xs
  named_walk x xs p is = ap (λ w. fold (walked [] (names_of a)) w xs) (named_walked x p is) ∙ sym (walk_stopped [] (names_of a) (walk_from nothing_held) p.0 [] xs)

  named_walk_fault : (x : Text) (xs : List Text) (p : Form) → form_named x forms ≡ Some p → walk_fault a.top (names_of a) (walk_from nothing_held) (x ∷ xs) ≡ []
  unfolding walk_fault
  named_walk_fault x xs p is =
      ap₂ (λ (k : Kinds) w. or_else k (walk_fault a.top (names_of a) w xs)) (named_turn x p is) (named_walked x p is)
      ∙ stopped_fault a.top (names_of a) (walk_from nothing_held) (p.0, []) xs

  -- the faults, from the walk and the command that it entered
  abbrev from_walk : Kinds → Walk → Kinds
  from_walk faults w =
      or_else faults (or_else (entered_fault a w.stopped) (or_else (settle_fault [] false w.held)
      (or_else (defaults_fault (settled [] w.held).rows []) (check_fault a.top (finished [] w.held) (is_some (entered a w.stopped))))))

  abbrev from_command : List Text → Option Shape → Kinds
  from_command xs o =
      or_else (option_map_or (λ s. level_fault s [] nothing_held xs false []) o []) (check_fault a.top [] (is_some (option_map (λ s. rows_at s xs) o)))

  named_commands : (p : Form) (xs : List Text) → from_walk [] (stopped_at p.0 xs) ≡ from_command xs (find (λ s. answers_to p.0 (label_of s)) a.subs)
  unfolding defaults_fault
  named_commands p xs = refl

  pub named_fault : (x : Text) (xs : List Text) (p : Form) → form_named x forms ≡ Some p
      → built_fault a nothing_held (x ∷ xs) ≡ level_fault (read_command p.0 p.1) [] nothing_held xs false []
  named_fault x xs p is =
      ap₂ from_walk (named_walk_fault x xs p is) (named_walk x xs p is)
      ∙ (named_commands p xs
      ∙ (ap (from_command xs) (command_found forms p.0 ∙ ap (option_map (λ q. read_command q.0 q.1)) (ap (λ n. form_named n forms) (name_is forms x p is) ∙ is))
      ∙ or_else_none (level_fault (read_command p.0 p.1) [] nothing_held xs false [])))

  pub named_rows : (x : Text) (xs : List Text) (p : Form) → form_named x forms ≡ Some p
      → entered a (walk [] (names_of a) nothing_held (x ∷ xs)).stopped ≡ Some (p.0, rows_after (rules p.1) [] xs)
  named_rows x xs p is =
      ap (λ (w : Walk). entered a w.stopped) (named_walk x xs p is)
      ∙ ap (option_map (λ s. rows_at s xs)) (command_found forms p.0 ∙ ap (option_map (λ q. read_command q.0 q.1)) (ap (λ n. form_named n forms) (name_is forms x p is) ∙ is))

-- ---- what the words mean

-- the command is none if a setting is bad, or a required option is missing; no option has the empty name
pub record Keeps {Z : Type 0} (names : List Text) (K : List Setting → Option Z) : Type 0 where
  pub named : has_name names [] ≡ false
  pub refuses : (done more : List Setting) (x : Setting) → is_bad names done x ≡ true → K (done ++ x ∷ more) ≡ None
  pub needs : (all : List Setting) (n : Text) → has_name names n ≡ true → is_required n ≡ true → given (dashed n) all ≡ [] → K all ≡ None

abbrev pub CoversAt : {Z : Type 0} → (List Setting → Option Z) → Option Form → Type 0
CoversAt K None = (all : List Setting) → K all ≡ None
CoversAt K (Some p) = Keeps p.1 K

module _ {Z : Type 0} (forms : List Form) (B : Text → List Setting → Option Z) where
  abbrev pub meant : List Text → Option Z
  meant [] = None
  meant (n ∷ words) = option_and_then (B n) (settings words None)

  -- no command has another name, and each keeps to its options
  abbrev pub Covers : Type 0
  Covers = (n : Text) → CoversAt (B n) (form_named n forms)

  -- the command that the parse entered, with what its matches say
  pub record Entered (words : List Text) (sub : Option (Text × List Row)) : Type 0 where
    pub form : Form
    pub known : form_named form.0 forms ≡ Some form
    pub rows : List Row
    pub sub_is : sub ≡ Some (form.0, rows)
    pub all : List Setting
    pub meant_is : meant words ≡ B form.0 all
    pub allowed : are_allowed form.1 all ≡ true
    pub tells : MatchesTell rows all

  abbrev pub Outcome : List Text → Kinds → Option (Text × List Row) → Type 0
  Outcome words [] sub = Entered words sub
  Outcome words (k ∷ ks) sub = meant words ≡ None

  of_fault : (words : List Text) (f : Kinds) (sub : Option (Text × List Row)) → IsFault f → meant words ≡ None → Outcome words f sub
  of_fault words _ sub (fault k ks) none = none

  none_known : (n : Text) (xs : List Text) → Covers → form_named n forms ≡ None → meant (n ∷ xs) ≡ None
  none_known n xs covers is = go (settings xs None)
    where
      go : (o : Option (List Setting)) → option_and_then (B n) o ≡ None
      go None = refl
      go (Some all) = subst (CoversAt (B n)) is (covers n) all

  of_command : (n : Text) (xs : List Text) (p : Form) → Covers → form_named n forms ≡ Some p → has_no_dashes xs ≡ true
      → Outcome (n ∷ xs) (level_fault (read_command p.0 p.1) [] nothing_held xs false []) (Some (p.0, rows_after (rules p.1) [] xs))
  of_command n xs p covers is nd = go (level_fault (read_command p.0 p.1) [] nothing_held xs false []) (leaf_answers p.0 p.1 (B n) keeps.refuses keeps.needs xs nd)
    where
      keeps : Keeps p.1 (B n)
      keeps = subst (CoversAt (B n)) is (covers n)

      go : (f : Kinds) → Answers p.0 p.1 (B n) keeps.refuses keeps.needs f (rows_after (rules p.1) [] xs) (settings xs None) → Outcome (n ∷ xs) f (Some (p.0, rows_after (rules p.1) [] xs))
      go [] says = record {
        form = p;
        known = ap (λ m. form_named m forms) (name_is forms n p is) ∙ is;
        rows = rows_after (rules p.1) [] xs;
        sub_is = refl;
        all = says.all;
        meant_is = ap (option_and_then (B n)) says.sets_are ∙ ap (λ m. B m says.all) (sym (name_is forms n p is));
        allowed = says.allowed;
        tells = says.tells;
      }
      go (k ∷ ks) none = none

  abbrev faults_of : List Text → Kinds
  faults_of words = built_fault (read_program forms) nothing_held words

  abbrev entered_by : List Text → Option (Text × List Row)
  entered_by words = entered (read_program forms) (walk [] (names_of (read_program forms)) nothing_held words).stopped

  fails_at_once : (x : Text) (xs : List Text) → IsFault (turn_fault (read_program forms).top (names_of (read_program forms)) (walk_from nothing_held) x) → IsFault (faults_of (x ∷ xs))
  unfolding walk_fault
  fails_at_once x xs h = fault_first _ _ (fault_first _ _ h)

  -- a parse of the words enters the command that they mean, or it fails and they mean none
  pub program_outcome : Covers → (words : List Text) → has_no_dashes words ≡ true → Outcome words (faults_of words) (entered_by words)
  unfolding walk_fault defaults_fault
  program_outcome covers [] nd = refl
  program_outcome covers (x ∷ xs) nd = go (form_named x forms) refl
    where
      go : (o : Option Form) → form_named x forms ≡ o → Outcome (x ∷ xs) (faults_of (x ∷ xs)) (entered_by (x ∷ xs))
      go None is = of_fault (x ∷ xs) (faults_of (x ∷ xs)) (entered_by (x ∷ xs)) (fails_at_once x xs (unnamed forms x is (first_word x xs nd).0)) (none_known x xs covers is)
      go (Some p) is = subst (λ f. Outcome (x ∷ xs) f (entered_by (x ∷ xs))) (sym (named_fault forms x xs p is))
          (subst (λ s. Outcome (x ∷ xs) (level_fault (read_command p.0 p.1) [] nothing_held xs false []) s) (sym (named_rows forms x xs p is)) (of_command x xs p covers is (first_word x xs nd).1))
