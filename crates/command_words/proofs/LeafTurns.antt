-- One word of a command's options, as a parse takes it.
use Rattle.std.proofs.Common.{◌≡◌, ◌⊎◌, ◌∙◌, ◌&&◌, ◌==◌, ℕ, zero, suc, Bool, true, false, not, cond, refl, sym, ap, ap₂, inl, inr, List, [], ◌∷◌, length, drop, Option, Some, None, is_some, bytes_eq, true≢false, if◌then◌else◌, encode_utf8, slice_get, chars, ◌||◌, map, option_map}
use Rattle.std.specs.Prelude.{option_and_then}
use Rattle.std.specs.Option.{option_map_or}
use Rattle.std.proofs.lemmas.Slice.Eq.{bytes_eq-Decides}
use Rattle.clap.specs.Lexer.{long_of, short_of, short_of_rest}
use Rattle.clap.specs.Walk.{Held, Outcome, Row, Rule, Step, Text, Waiting, Walk, after_flag, after_step, arg_by_id, arg_by_long, bundle_met, bundle_step, idle, long_met, long_or_other, next, option, plain_word, plain, settled, short_or_plain, short_word, to_positional, trailing, walked, arg_by_index, arg_by_short, has_long, has_short}
use Rattle.clap.specs.Simple.{Shape}
use Rattle.clap.specs.Kinds.{Kinds, or_else}
use Rattle.clap.specs.Faults.{bundle_fault, flags_fault, flag_word_fault, bundle_step_fault, long_fault, positional_fault, settle_fault, short_fault, step_fault, stray_fault, turn_fault, use_fault}
use Rattle.clap.specs.declared.error.kind.ErrorKind.{ErrorKind}
use Rattle.clap.specs.declared.error.kind.ErrorKind.TheVariants as kind
use Rattle.command_words.specs.Parsing.{dashed, flag_rule, has_no_dashes, is_flag, option_rule, read_command, read_rule}
use Rattle.command_words.proofs.LongWords.{Look, dashes, long, look, other}
use Rattle.std.specs.List.{find, list_any}
use Rattle.clap.proofs.WalkLemmas.{find-map}

-- Which rule a name, a position or an id finds among the rules of names.
pub or_no : (b : Bool) → (b || false) ≡ b
or_no true = refl
or_no false = refl

-- some name of the list is this one
abbrev pub has_name : List Text → Text → Bool
has_name names n = list_any (λ m. bytes_eq m n) names

abbrev pub rules : List Text → List Rule
rules names = map read_rule names

pub by_kind : {X : Type 0} (f : Rule → X) (x : X) (n : Text) → f (flag_rule n) ≡ x → f (option_rule n) ≡ x → f (read_rule n) ≡ x
by_kind f x n p q = go (is_flag n)
  where
    go : (b : Bool) → f (cond b (flag_rule n) (option_rule n)) ≡ x
    go true = p
    go false = q

-- the first name that is this one is this one
first_name : (names : List Text) (n : Text) → find (λ m. bytes_eq m n) names ≡ cond (has_name names n) (Some n) None
first_name [] n = refl
first_name (m ∷ ms) n = go (bytes_eq m n) (bytes_eq-Decides m n).0 (first_name ms n)
  where
    go : (b : Bool) → (b ≡ true → m ≡ n) → find (λ x. bytes_eq x n) ms ≡ cond (has_name ms n) (Some n) None
        → cond b (Some m) (find (λ x. bytes_eq x n) ms) ≡ cond (b || has_name ms n) (Some n) None
    go true same h = ap Some (same refl)
    go false same h = h

found : (p : Rule → Bool) (names : List Text) (n : Text) → ((m : Text) → p (read_rule m) ≡ bytes_eq m n) → find p (rules names) ≡ cond (has_name names n) (Some (read_rule n)) None
found p names n same = sym (find-map p read_rule names) ∙ ((λ i. option_map read_rule (find (λ m. same m i) names)) ∙ (ap (option_map read_rule) (first_name names n) ∙ go (has_name names n)))
  where
    go : (b : Bool) → option_map read_rule (cond b (Some n) None) ≡ cond b (Some (read_rule n)) None
    go true = refl
    go false = refl

none_found : (p : Rule → Bool) (names : List Text) → ((m : Text) → p (read_rule m) ≡ false) → find p (rules names) ≡ None
none_found p [] none = refl
none_found p (m ∷ ms) none = rw (none m) (none_found p ms none)

pub by_long : (names : List Text) (n : Text) → arg_by_long (rules names) n ≡ cond (has_name names n) (Some (read_rule n)) None
by_long names n = found _ names n (λ m. by_kind (λ a. not (is_some a.index) && has_long a n) _ m (or_no (bytes_eq m n)) (or_no (bytes_eq m n)))

pub by_id : (names : List Text) (n : Text) → arg_by_id (rules names) n ≡ cond (has_name names n) (Some (read_rule n)) None
by_id names n = found _ names n (λ m. by_kind (λ a. bytes_eq a.id n) _ m refl refl)

pub by_short : (names : List Text) (x : ℕ) → arg_by_short (rules names) x ≡ None
by_short names x = none_found _ names (λ m. by_kind (λ a. not (is_some a.index) && has_short a x) _ m refl refl)

pub by_index : (names : List Text) (i : ℕ) → arg_by_index (rules names) i ≡ None
by_index names i = none_found _ names (λ m. by_kind (λ a. option_map_or (λ k. k == i) a.index false) _ m refl refl)

abbrev pub begins_with_hyphen : Text → Bool
begins_with_hyphen [] = false
begins_with_hyphen (b ∷ bs) = b == 45

abbrev pub if_sound : {X : Type 0} → Kinds → Option X → Option X
if_sound [] found = found
if_sound (k ∷ ks) found = None

abbrev pub ends : Shape → Walk → List Text → Option (List Row)
ends s w [] = if_sound (settle_fault s.rules s.args_override_self w.held) (Some (settled s.rules w.held).rows)
ends s w (x ∷ xs) = if_sound (turn_fault s [] w x) (ends s (walked s.rules [] w x) xs)

abbrev pub held : List Row → Option (Text × List Text) → Held
held rows pending = record { rows = rows; pending = pending; skip = 0 }

abbrev pub at : Waiting → Held → Walk
at waiting h = record { held = h; waiting = waiting; position = 1; is_trailing = false; stopped = None }

pub first_word : (x : Text) (xs : List Text) → has_no_dashes (x ∷ xs) ≡ true → (bytes_eq x (dashed []) ≡ false) × (has_no_dashes xs ≡ true)
first_word x xs h = go (bytes_eq x (dashed [])) h
  where
    go : (b : Bool) → (not b && has_no_dashes xs) ≡ true → (b ≡ false) × (has_no_dashes xs ≡ true)
    go true e = absurd (true≢false (sym e))
    go false e = (refl, e)

pub never_dashes : {X : Type 0} (x : Text) → bytes_eq x (dashed []) ≡ false → x ≡ dashed [] → X
never_dashes x nd e = absurd (true≢false (sym ((bytes_eq-Decides x (dashed [])).1 e) ∙ nd))

-- a word waits for an option's value, or none does
pub data Waits : Waiting → Type 0 where
  for_none : Waits idle
  for_value : (n : Text) → Waits (option n)

-- which rule an option of the words is
abbrev pub rule_met : Bool → Bool → Text → Option Rule
rule_met known flag n = cond known (Some (if flag then flag_rule n else option_rule n)) None

module _ (name : Text) (names : List Text) where
  abbrev c : List Rule
  c = rules names

  abbrev s : Shape
  s = read_command name names

  -- ---- one turn, by what the word looks like

  abbrev turned : Kinds → Waiting → Text → Held → Held × Step → List Text → Option (List Row)
  turned fault waiting x h met xs = if_sound (or_else fault (step_fault s 1 met.0 met.1)) (ends s (after_step c x (at waiting h) met.0 met.1) xs)

  abbrev pub long_turn : Option Rule → Option Text → Waiting → Held → Text → List Text → Option (List Row)
  long_turn found v waiting h x xs =
      turned (long_fault c false found v h) waiting x h (after_flag c waiting x (long_met c found v h).0 (long_met c found v h).1) xs

  abbrev by_look : Bool → Option (Text × Option Text) → Waiting → Held → Text → List Text → Option (List Row)
  by_look b l waiting h x xs =
      turned (if b then [] else flag_word_fault c false l x h) waiting x h (if b then (h, trailing 1) else long_or_other c waiting x l h) xs

  turn_is : (waiting : Waiting) → Waits waiting → (h : Held) (x : Text) (xs : List Text) → ends s (at waiting h) (x ∷ xs) ≡ by_look (bytes_eq x (dashed [])) (long_of x) waiting h x xs
  unfolding walked
  turn_is _ for_none h x xs = refl
  turn_is _ (for_value n) h x xs = refl

  pub long_turn_is : (waiting : Waiting) → Waits waiting → (h : Held) (x : Text) (xs : List Text) (n : Text) (v : Option Text) → bytes_eq x (dashed []) ≡ false → long_of x ≡ Some (n, v)
      → ends s (at waiting h) (x ∷ xs) ≡ long_turn (arg_by_long c n) v waiting h x xs
  long_turn_is waiting w h x xs n v nd l = turn_is waiting w h x xs ∙ ap₂ (λ b o. by_look b o waiting h x xs) nd l

  pub met_is : (n : Text) (known flag : Bool) → has_name names n ≡ known → is_flag n ≡ flag → arg_by_long c n ≡ rule_met known flag n
  met_is n known flag e f = by_long names n ∙ ap₂ (λ b d. rule_met b d n) e f

  pub id_is : (n : Text) → has_name names n ≡ true → is_flag n ≡ false → arg_by_id c n ≡ Some (option_rule n)
  id_is n e f = by_id names n ∙ ap₂ (λ b d. rule_met b d n) e f

  -- if the option before cannot be used, no option follows
  pub long_fails : (known flag : Bool) (n : Text) (v : Option Text) (waiting : Waiting) (h : Held) (x : Text) (xs : List Text) (k : ErrorKind) (ks : Kinds)
      → settle_fault c false h ≡ k ∷ ks → long_turn (rule_met known flag n) v waiting h x xs ≡ None
  long_fails false flag n v waiting h x xs k ks f = refl
  long_fails true true n (Some y) waiting h x xs k ks f = refl
  long_fails true true n None waiting h x xs k ks f =
      ap (λ (o : Kinds). if_sound (or_else (or_else o (use_fault false (flag_rule n) [] (settled c h).rows)) []) (ends s (after_step c x (at waiting h) (long_met c (Some (flag_rule n)) None h).0 (next idle)) xs)) f
  long_fails true false n (Some y) waiting h x xs k ks f =
      ap (λ (o : Kinds). if_sound (or_else (or_else o (use_fault false (option_rule n) (y ∷ []) (settled c h).rows)) []) (ends s (after_step c x (at waiting h) (long_met c (Some (option_rule n)) (Some y) h).0 (next idle)) xs)) f
  long_fails true false n None waiting h x xs k ks f =
      ap (λ (o : Kinds). if_sound (or_else o []) (ends s (after_step c x (at waiting h) (long_met c (Some (option_rule n)) None h).0 (next (option n))) xs)) f

  -- ---- a word that is no long option

  abbrev short_turn : Option Text → Waiting → Held → Text → List Text → Option (List Row)
  short_turn flags waiting h x xs = turned (option_map_or (λ f. bundle_fault c false f h) flags []) waiting x h (short_or_plain c waiting x flags h) xs

  abbrev pub plain_turn : Waiting → Held → Text → List Text → Option (List Row)
  plain_turn waiting h x xs = turned [] waiting x h (plain_word c waiting x h) xs

  -- a bundle of short options fails, or has no character and so is no option
  pub bundle_fails : (k : ℕ) (flags : Text) (h : Held)
      → (flags_fault c false k flags 0 h ≡ kind.UnknownArgument ∷ []) ⊎ ((flags_fault c false k flags 0 h ≡ []) × (bundle_met c k flags 0 plain h ≡ (h, plain)))
  unfolding flags_fault bundle_met
  bundle_fails zero flags h = inr (refl, refl)
  bundle_fails (suc k) flags h = go (slice_get (chars flags) 0)
    where
      go : (o : Option ℕ) → (bundle_step_fault c false o flags 0 h (flags_fault c false k) ≡ kind.UnknownArgument ∷ [])
          ⊎ ((bundle_step_fault c false o flags 0 h (flags_fault c false k) ≡ []) × (bundle_step c o flags 0 plain h (bundle_met c k) ≡ (h, plain)))
      go None = inr (refl, refl)
      go (Some ch) = inl (ap (λ o. short_fault c false o (drop (length (encode_utf8 ch)) flags) h (flags_fault c false k (drop (length (encode_utf8 ch)) flags) 0)) (by_short names ch))

  short_hyphen : (x flags : Text) → short_of x ≡ Some flags → begins_with_hyphen x ≡ true
  short_hyphen [] flags e = absurd (true≢false (ap is_some (sym e)))
  short_hyphen (y ∷ ys) flags e = go (y == 45) e
    where
      go : (b : Bool) → option_and_then short_of_rest (if b then Some ys else None) ≡ Some flags → b ≡ true
      go true h = refl
      go false h = absurd (true≢false (ap is_some (sym h)))

  short_is : (waiting : Waiting) (rows : List Row) (p : Option (Text × List Text)) (x : Text) (xs : List Text) (o : Option Text) → short_of x ≡ o
      → ((short_turn o waiting (held rows p) x xs ≡ None) × (begins_with_hyphen x ≡ true)) ⊎ (short_turn o waiting (held rows p) x xs ≡ plain_turn waiting (held rows p) x xs)
  short_is waiting rows p x xs None e = inr refl
  short_is waiting rows p x xs (Some flags) e = elim (bundle_fails (length flags) flags (held rows p)) [
    | inl f ↦ inl (ap (λ (k : Kinds). turned k waiting x (held rows p) (short_word c waiting x flags (held rows p)) xs) f, short_hyphen x flags e)
    | inr f ↦ inr (ap₂ (λ (k : Kinds) (m : Held × Outcome). turned k waiting x (held rows p) (after_flag c waiting x m.0 m.1) xs) f.0 f.1)
  ]

  pub other_is : (waiting : Waiting) → Waits waiting → (rows : List Row) (p : Option (Text × List Text)) (x : Text) (xs : List Text) → bytes_eq x (dashed []) ≡ false → long_of x ≡ None
      → ((ends s (at waiting (held rows p)) (x ∷ xs) ≡ None) × (begins_with_hyphen x ≡ true)) ⊎ (ends s (at waiting (held rows p)) (x ∷ xs) ≡ plain_turn waiting (held rows p) x xs)
  other_is waiting w rows p x xs nd l =
      let is : ends s (at waiting (held rows p)) (x ∷ xs) ≡ short_turn (short_of x) waiting (held rows p) x xs =
      turn_is waiting w (held rows p) x xs ∙ ap₂ (λ b o. by_look b o waiting (held rows p) x xs) nd l in
      elim (short_is waiting rows p x xs (short_of x) refl) [
        | inl f ↦ inl (is ∙ f.0, f.1)
        | inr f ↦ inr (is ∙ f)
      ]

  -- no option waits for a value
  stray_fails : (h : Held) (x : Text) (xs : List Text) → plain_turn idle h x xs ≡ None
  stray_fails h x xs = ap (λ o. if_sound (or_else [] (option_map_or (λ a. positional_fault c false a h) o (stray_fault s))) (ends s (to_positional c o x (at idle h) h) xs)) (by_index names 1)

  pub other_fails : (rows : List Row) (p : Option (Text × List Text)) (x : Text) (xs : List Text) → bytes_eq x (dashed []) ≡ false → long_of x ≡ None → ends s (at idle (held rows p)) (x ∷ xs) ≡ None
  other_fails rows p x xs nd l = elim (other_is idle for_none rows p x xs nd l) [
    | inl f ↦ f.0
    | inr f ↦ f ∙ stray_fails (held rows p) x xs
  ]

  -- an option that cannot be used fails at the next word, or at the end
  pub broken : (words : List Text) (rows : List Row) (p : Option (Text × List Text)) (k : ErrorKind) (ks : Kinds) → settle_fault c false (held rows p) ≡ k ∷ ks → has_no_dashes words ≡ true
      → ends s (at idle (held rows p)) words ≡ None
  broken [] rows p k ks f nd = ap (λ (o : Kinds). if_sound o (Some (settled c (held rows p)).rows)) f
  broken (x ∷ xs) rows p k ks f nd = go (look x)
    where
      go : Look x → ends s (at idle (held rows p)) (x ∷ xs) ≡ None
      go (dashes e) = never_dashes x (first_word x xs nd).0 e
      go (long n v l b d) =
          long_turn_is idle for_none (held rows p) x xs n v (first_word x xs nd).0 l
          ∙ (ap (λ o. long_turn o v idle (held rows p) x xs) (met_is n (has_name names n) (is_flag n) refl refl)
          ∙ long_fails (has_name names n) (is_flag n) n v idle (held rows p) x xs k ks f)
      go (other l d) = other_fails rows p x xs (first_word x xs nd).0 l
