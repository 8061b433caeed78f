-- The definition refuses what is not allowed, misused or given again, and a word `--`, whatever stands before and after.
use Rattle.std.proofs.Common.{◌≡◌, ◌∙◌, ◌&&◌, ◌||◌, ◌==◌, Bool, true, false, not, refl, sym, ap, ap₂, List, [], ◌∷◌, ◌++◌, Option, Some, None, is_some, bytes_eq, codes, true≢false, if◌then◌else◌, append_assoc}
use Rattle.std.specs.Prelude.{option_and_then, option_map}
use Rattle.std.specs.Option.{option_map_or}
use Rattle.std.specs.List.{list_any}
use Rattle.std.proofs.lemmas.Slice.Eq.{bytes_eq-Decides}
use Rattle.clap.specs.Walk.{Text}
use Rattle.command_words.specs.Words.{Setting, Begins, Flag, Named, Whole, word_kind, settings_begun, settings, with_setting}
use Rattle.command_words.specs.Parsing.{dashed, has_no_dashes, is_flag}
use Rattle.command_words.proofs.LeafTurns.{has_name, begins_with_hyphen}
use Rattle.command_words.proofs.Uses.{Use, has_setting, is_used, settings_of}
use Rattle.command_words.proofs.LongWords.{BeginsOther, has_dashes, lacks_names}
use Rattle.play_end.proofs.EndClosed.{or_there as or_second}

-- a flag with a value, or an option whose value begins with a hyphen
abbrev pub is_misused : Setting → Bool
is_misused s = if bytes_eq s.name (codes "--place") then is_some s.value else option_map_or begins_with_hyphen s.value false

-- one more setting is not allowed, or misused, or given again
abbrev pub is_bad : List Text → List Setting → Setting → Bool
is_bad names done s =
    not (list_any (λ n. bytes_eq s.name (dashed n)) names) || (is_misused s || list_any (λ d. bytes_eq d.name s.name) done)

-- the settings that were read, and then these
abbrev pub preceded : List Setting → Option (List Setting) → Option (List Setting)
preceded done others = option_map (λ all. done ++ all) others

pub flip : (xs ys : Text) → bytes_eq xs ys ≡ bytes_eq ys xs
flip xs ys = go (bytes_eq xs ys) refl (bytes_eq ys xs) refl
  where
    go : (a : Bool) → bytes_eq xs ys ≡ a → (b : Bool) → bytes_eq ys xs ≡ b → a ≡ b
    go true e true f = refl
    go true e false f = absurd (true≢false (sym ((bytes_eq-Decides ys xs).1 (sym ((bytes_eq-Decides xs ys).0 e))) ∙ f))
    go false e true f = absurd (true≢false (sym ((bytes_eq-Decides xs ys).1 (sym ((bytes_eq-Decides ys xs).0 f))) ∙ e))
    go false e false f = refl

abbrev pub read : List Use → List Text → Option Text → Option (List Setting)
read uses words waiting = preceded (settings_of uses) (settings words waiting)

same_flipped : (n : Text) (l : List Text) → list_any (λ m. bytes_eq n m) l ≡ has_name l n
same_flipped n [] = refl
same_flipped n (m ∷ ms) = ap₂ ◌||◌ (flip n m) (same_flipped n ms)

pub again : (uses : List Use) (n : Text) → is_used n uses ≡ true → list_any (λ d. bytes_eq d.name (dashed n)) (settings_of uses) ≡ true
again uses n e = has_setting n uses ∙ e

abbrev pair : Text → Option Text → Setting
pair m v = record { name = m; value = v }

pub misused : (n : Text) (v : Option Text) (flag : Bool) → is_flag n ≡ flag → (if flag then is_some v else option_map_or begins_with_hyphen v false) ≡ true → is_misused (record { name = dashed n; value = v }) ≡ true
misused n v flag e h = ap (λ b. if b then is_some v else option_map_or begins_with_hyphen v false) e ∙ h

pub hyphened : (x : Text) → has_dashes x ≡ true → begins_with_hyphen x ≡ true
hyphened [] e = e
hyphened (a ∷ []) e = absurd (true≢false (sym e))
hyphened (a ∷ b ∷ rest) e = go (a == 45) e
  where
    go : (t : Bool) → (t && (b == 45)) ≡ true → t ≡ true
    go true h = refl
    go false h = h

module _ {Z : Type 0} (names : List Text) (K : List Setting → Option Z)
    (refuses : (done more : List Setting) (x : Setting) → is_bad names done x ≡ true → K (done ++ x ∷ more) ≡ None) where
  refused : (done : List Setting) (x : Setting) (others : Option (List Setting)) → is_bad names done x ≡ true
      → option_and_then K (preceded done (with_setting x.name x.value others)) ≡ None
  refused done x None bad = refl
  refused done x (Some more) bad = refuses done more x bad

  -- why a setting is not allowed
  bad_name : (done : List Setting) (x : Setting) → list_any (λ n. bytes_eq x.name (dashed n)) names ≡ false → is_bad names done x ≡ true
  bad_name done x e = ap (λ b. not b || (is_misused x || list_any (λ d. bytes_eq d.name x.name) done)) e

  bad_use : (done : List Setting) (x : Setting) → is_misused x ≡ true → is_bad names done x ≡ true
  bad_use done x e = or_second _ _ (ap (λ b. b || list_any (λ d. bytes_eq d.name x.name) done) e)

  bad_again : (done : List Setting) (x : Setting) → list_any (λ d. bytes_eq d.name x.name) done ≡ true → is_bad names done x ≡ true
  bad_again done x e = or_second _ _ (or_second (is_misused x) _ e)

  pub refused_name : (uses : List Use) (m : Text) (v : Option Text) (others : Option (List Setting)) → list_any (λ n. bytes_eq m (dashed n)) names ≡ false
      → option_and_then K (preceded (settings_of uses) (with_setting m v others)) ≡ None
  refused_name uses m v others e = refused (settings_of uses) (pair m v) others (bad_name (settings_of uses) (pair m v) e)

  pub refused_use : (uses : List Use) (m : Text) (v : Option Text) (others : Option (List Setting)) → is_misused (pair m v) ≡ true
      → option_and_then K (preceded (settings_of uses) (with_setting m v others)) ≡ None
  refused_use uses m v others e = refused (settings_of uses) (pair m v) others (bad_use (settings_of uses) (pair m v) e)

  pub refused_again : (uses : List Use) (m : Text) (v : Option Text) (others : Option (List Setting)) → list_any (λ d. bytes_eq d.name m) (settings_of uses) ≡ true
      → option_and_then K (preceded (settings_of uses) (with_setting m v others)) ≡ None
  refused_again uses m v others e = refused (settings_of uses) (pair m v) others (bad_again (settings_of uses) (pair m v) e)

  pub unknown : (n : Text) → has_name names n ≡ false → list_any (λ m. bytes_eq (dashed n) (dashed m)) names ≡ false
  unknown n e = same_flipped n names ∙ e

  pub waiting_refused : (uses : List Use) (m : Text) (xs : List Text) → list_any (λ n. bytes_eq m (dashed n)) names ≡ false → option_and_then K (read uses xs (Some m)) ≡ None
  waiting_refused uses m [] bad = refl
  waiting_refused uses m (y ∷ ys) bad = refused_name uses m (Some y) (settings ys None) bad

  pub other_refused : (uses : List Use) (b : Begins) (xs : List Text) → BeginsOther b → option_and_then K (preceded (settings_of uses) (settings_begun b (settings xs))) ≡ None
  other_refused uses Flag xs is = absurd is
  other_refused uses (Whole m v) xs lacks = refused_name uses m (Some v) (settings xs None) (lacks_names m names lacks)
  other_refused uses (Named m) xs lacks = waiting_refused uses m xs (lacks_names m names lacks)

  -- ---- words with `--`

  refused_front : (done : List Setting) (m : Text) (v : Option Text) (others : Option (List Setting)) → preceded done (with_setting m v others) ≡ preceded (done ++ pair m v ∷ []) others
  refused_front done m v None = refl
  refused_front done m v (Some all) = ap Some (sym (append_assoc done (pair m v ∷ []) all))

  dashes_misused : (m : Text) → is_misused (pair m (Some (dashed []))) ≡ true
  dashes_misused m = go (bytes_eq m (codes "--place"))
    where
      go : (b : Bool) → (if b then true else true) ≡ true
      go true = refl
      go false = refl

  -- the definition refuses a word `--`, as a name and as a value
  dashes_refused : (words : List Text) (done : List Setting) → has_name names [] ≡ false → has_no_dashes words ≡ false
      → (option_and_then K (preceded done (settings words None)) ≡ None) × ((m : Text) → option_and_then K (preceded done (settings words (Some m))) ≡ None)
  dashes_refused [] done empty h = absurd (true≢false h)
  dashes_refused (x ∷ xs) done empty h = (idle_case (bytes_eq x (dashed [])) (bytes_eq-Decides x (dashed [])).0 h (λ d e. dashes_refused xs d empty e), λ m. open_case m (bytes_eq x (dashed [])) (bytes_eq-Decides x (dashed [])).0 h (λ d e. dashes_refused xs d empty e))
    where
      by_begins : (b : Begins) → has_no_dashes xs ≡ false → ((d : List Setting) → has_no_dashes xs ≡ false → (option_and_then K (preceded d (settings xs None)) ≡ None) × ((m : Text) → option_and_then K (preceded d (settings xs (Some m))) ≡ None))
          → option_and_then K (preceded done (settings_begun b (settings xs))) ≡ None
      by_begins Flag e rest = ap (option_and_then K) (refused_front done (codes "--place") None (settings xs None)) ∙ (rest (done ++ pair (codes "--place") None ∷ []) e).0
      by_begins (Whole m v) e rest = ap (option_and_then K) (refused_front done m (Some v) (settings xs None)) ∙ (rest (done ++ pair m (Some v) ∷ []) e).0
      by_begins (Named m) e rest = (rest done e).1 m

      named_dashes : (ys : List Text) → option_and_then K (preceded done (settings ys (Some (dashed [])))) ≡ None
      named_dashes [] = refl
      named_dashes (y ∷ ys) = refused done (pair (dashed []) (Some y)) (settings ys None) (bad_name done (pair (dashed []) (Some y)) (unknown [] empty))

      idle_case : (b : Bool) → (b ≡ true → x ≡ dashed []) → (not b && has_no_dashes xs) ≡ false
          → ((d : List Setting) → has_no_dashes xs ≡ false → (option_and_then K (preceded d (settings xs None)) ≡ None) × ((m : Text) → option_and_then K (preceded d (settings xs (Some m))) ≡ None))
          → option_and_then K (preceded done (settings (x ∷ xs) None)) ≡ None
      idle_case true same e rest = ap (λ w. option_and_then K (preceded done (settings_begun (word_kind w) (settings xs)))) (same refl) ∙ named_dashes xs
      idle_case false same e rest = by_begins (word_kind x) e rest

      open_case : (m : Text) (b : Bool) → (b ≡ true → x ≡ dashed []) → (not b && has_no_dashes xs) ≡ false
          → ((d : List Setting) → has_no_dashes xs ≡ false → (option_and_then K (preceded d (settings xs None)) ≡ None) × ((m : Text) → option_and_then K (preceded d (settings xs (Some m))) ≡ None))
          → option_and_then K (preceded done (settings (x ∷ xs) (Some m))) ≡ None
      open_case m true same e rest = ap (λ w. option_and_then K (preceded done (with_setting m (Some w) (settings xs None)))) (same refl)
          ∙ refused done (pair m (Some (dashed []))) (settings xs None) (bad_use done (pair m (Some (dashed []))) (dashes_misused m))
      open_case m false same e rest = ap (option_and_then K) (refused_front done m (Some x) (settings xs None)) ∙ (rest (done ++ pair m (Some x) ∷ []) e).0

  pub dashes_mean_none : (words : List Text) → has_name names [] ≡ false → has_no_dashes words ≡ false → option_and_then K (settings words None) ≡ None
  dashes_mean_none words empty h = ap (option_and_then K) (go (settings words None)) ∙ (dashes_refused words [] empty h).0
    where
      go : (o : Option (List Setting)) → o ≡ preceded [] o
      go None = refl
      go (Some all) = refl
