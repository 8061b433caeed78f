-- The definition refuses what is not allowed, misused or given again.
use Rattle.std.proofs.Common.{◌≡◌, ◌∙◌, ◌&&◌, ◌||◌, ◌==◌, ◌%◌, ℕ, Bool, true, false, not, refl, sym, ap, List, [], ◌∷◌, ◌++◌, map, Option, Some, None, is_some, bytes_eq, codes, true≢false, if◌then◌else◌, subst, eqb-true}
use Rattle.std.specs.Prelude.{option_and_then}
use Rattle.std.specs.Option.{option_map_or}
use Rattle.std.specs.List.{list_any, cons_option}
use Rattle.std.proofs.lemmas.List.Elements.{filter_map-append}
use Rattle.std.proofs.lemmas.List.Folds.{list_all-append}
use Rattle.std.proofs.lemmas.Slice.Eq.{bytes_eq-Decides}
use Rattle.clap.specs.Walk.{Text}
use Rattle.clap.proofs.WalkLemmas.{list_any-map}
use Rattle.command_words.specs.Words.{Batch, Command, Dump, Gen, Load, Options, Run, Setting, allowing, cells, chosen, entries, given, is_set, number, number_in, options, packets, runners, size, tracers, workers}
use Rattle.command_words.specs.Parsing.{are_allowed, batch_options, dashed, is_flag, load_options, made_options, play_options, run_options}
use Rattle.command_words.proofs.LeafTurns.{has_name, begins_with_hyphen}
use Rattle.command_words.proofs.LeafRefused.{is_bad, is_misused}

-- ---- what is given is of no use

pub data Spoilt (flag : Bool) : List (Option Text) → Type 0 where
  twice : (a b : Option Text) (rest : List (Option Text)) → Spoilt flag (a ∷ b ∷ rest)
  valued : (v : Text) → flag ≡ true → Spoilt flag (Some v ∷ [])
  hyphened : (v : Text) → flag ≡ false → begins_with_hyphen v ≡ true → Spoilt flag (Some v ∷ [])

no_number : (least greatest : ℕ) (v : Text) → begins_with_hyphen v ≡ true → number_in least greatest v ≡ None
no_number least greatest [] h = refl
no_number least greatest (b ∷ bs) h = ap (λ c. number_in least greatest (c ∷ bs)) (eqb-true b 45 h)

none_chosen : (flag : Bool) (all : List (Option Text)) (least greatest : ℕ) (default : Option ℕ) → flag ≡ false → Spoilt flag all → chosen least greatest default all ≡ None
none_chosen flag _ least greatest default f (twice None b rest) = refl
none_chosen flag _ least greatest default f (twice (Some a) b rest) = refl
none_chosen flag _ least greatest default f (valued v t) = absurd (true≢false (sym t ∙ f))
none_chosen flag _ least greatest default f (hyphened v _ h) = no_number least greatest v h

none_set : (flag : Bool) (all : List (Option Text)) → flag ≡ true → Spoilt flag all → is_set all ≡ None
none_set flag _ f (twice None b rest) = refl
none_set flag _ f (twice (Some a) b rest) = refl
none_set flag _ f (valued v t) = refl
none_set flag _ f (hyphened v e h) = refl

after_some : (flag : Bool) (xs ys : List (Option Text)) (v : Option Text) → Spoilt flag (v ∷ []) → Spoilt flag (xs ++ v ∷ ys)
after_some flag [] [] v s = s
after_some flag [] (y ∷ ys) v s = twice v y ys
after_some flag (a ∷ []) ys v s = twice a v ys
after_some flag (a ∷ b ∷ xs) ys v s = twice a b (xs ++ v ∷ ys)

after_one : (flag : Bool) (xs ys : List (Option Text)) (v a : Option Text) (rest : List (Option Text)) → xs ≡ a ∷ rest → Spoilt flag (xs ++ v ∷ ys)
after_one flag xs ys v a rest e = subst (λ l. Spoilt flag (l ++ v ∷ ys)) (sym e) (go rest)
  where
    go : (r : List (Option Text)) → Spoilt flag ((a ∷ r) ++ v ∷ ys)
    go [] = twice a v ys
    go (b ∷ bs) = twice a b (bs ++ v ∷ ys)

-- ---- a setting that is bad spoils what is given for its name

given_here : (n : Text) (done more : List Setting) (x : Setting) → x.name ≡ dashed n → given (dashed n) (done ++ x ∷ more) ≡ given (dashed n) done ++ x.value ∷ given (dashed n) more
given_here n done more x is =
    filter_map-append (λ (s : Setting). if bytes_eq s.name (dashed n) then Some s.value else None) done (x ∷ more)
    ∙ ap (λ b. given (dashed n) done ++ cons_option (if b then Some x.value else None) (given (dashed n) more)) ((bytes_eq-Decides x.name (dashed n)).1 is)

record IsSomeList (xs : List (Option Text)) : Type 0 where
  first : Option Text
  rest : List (Option Text)
  is : xs ≡ first ∷ rest

given_before : (n : Text) (done : List Setting) → list_any (λ d. bytes_eq d.name (dashed n)) done ≡ true → IsSomeList (given (dashed n) done)
given_before n [] h = absurd (true≢false (sym h))
given_before n (s ∷ ss) h = go (bytes_eq s.name (dashed n)) h (given_before n ss)
  where
    go : (b : Bool) → (b || list_any (λ d. bytes_eq d.name (dashed n)) ss) ≡ true → (list_any (λ d. bytes_eq d.name (dashed n)) ss ≡ true → IsSomeList (given (dashed n) ss))
        → IsSomeList (cons_option (if b then Some s.value else None) (given (dashed n) ss))
    go true t next = record { first = s.value; rest = given (dashed n) ss; is = refl }
    go false t next = next t

misuse : (flag : Bool) (v : Option Text) → (if flag then is_some v else option_map_or begins_with_hyphen v false) ≡ true → Spoilt flag (v ∷ [])
misuse true None h = absurd (true≢false (sym h))
misuse true (Some v) h = valued v refl
misuse false None h = absurd (true≢false (sym h))
misuse false (Some v) h = hyphened v refl h

spoils : (n : Text) (done more : List Setting) (x : Setting) → x.name ≡ dashed n → (is_misused x || list_any (λ d. bytes_eq d.name x.name) done) ≡ true
    → Spoilt (is_flag n) (given (dashed n) (done ++ x ∷ more))
spoils n done more x is h = subst (Spoilt (is_flag n)) (sym (given_here n done more x is)) (go (is_misused x) refl h)
  where
    go : (b : Bool) → is_misused x ≡ b → (b || list_any (λ d. bytes_eq d.name x.name) done) ≡ true → Spoilt (is_flag n) (given (dashed n) done ++ x.value ∷ given (dashed n) more)
    go true e t = after_some (is_flag n) (given (dashed n) done) (given (dashed n) more) x.value
        (misuse (is_flag n) x.value (ap (λ m. if bytes_eq m (codes "--place") then is_some x.value else option_map_or begins_with_hyphen x.value false) (sym is) ∙ e))
    go false e t =
        let one = given_before n done (ap (λ m. list_any (λ d. bytes_eq d.name m) done) (sym is) ∙ t) in
        after_one (is_flag n) (given (dashed n) done) (given (dashed n) more) x.value one.first one.rest one.is

-- ---- commands that read their settings refuse

record IsNamed (names : List Text) (text : Text) : Type 0 where
  name : Text
  is : text ≡ dashed name
  known : has_name names name ≡ true

named_so : (names : List Text) (text : Text) → list_any (λ n. bytes_eq text (dashed n)) names ≡ true → IsNamed names text
named_so [] text h = absurd (true≢false (sym h))
named_so (n ∷ ns) text h = go (bytes_eq text (dashed n)) (bytes_eq-Decides text (dashed n)).0 h (named_so ns text)
  where
    or_yes : (a : Bool) → (a || true) ≡ true
    or_yes true = refl
    or_yes false = refl

    go : (b : Bool) → (b ≡ true → text ≡ dashed n) → (b || list_any (λ m. bytes_eq text (dashed m)) ns) ≡ true → (list_any (λ m. bytes_eq text (dashed m)) ns ≡ true → IsNamed ns text) → IsNamed (n ∷ ns) text
    go true same t next = record { name = n; is = same refl; known = ap (λ b. b || has_name ns n) ((bytes_eq-Decides n n).1 refl) }
    go false same t next =
        let one = next t in
        record { name = one.name; is = one.is; known = ap (λ b. bytes_eq n one.name || b) one.known ∙ or_yes (bytes_eq n one.name) }

-- the command is none if what is given for one of its names is of no use
abbrev pub IsStrict : List Text → (List Setting → Option Command) → Type 0
IsStrict names inner = (all : List Setting) (n : Text) → has_name names n ≡ true → Spoilt (is_flag n) (given (dashed n) all) → inner all ≡ None

pub none_either : (b : Bool) (o : Option Command) → o ≡ None → (if b then o else None) ≡ None
none_either true o e = e
none_either false o e = refl

pub refuses_by : (names : List Text) (inner : List Setting → Option Command) → IsStrict names inner → (done more : List Setting) (x : Setting) → is_bad names done x ≡ true
    → allowing (map dashed names) (done ++ x ∷ more) (inner (done ++ x ∷ more)) ≡ None
refuses_by names inner strict done more x bad = go (list_any (λ n. bytes_eq x.name (dashed n)) names) refl bad
  where
    and_no : (a b : Bool) → (a && (false && b)) ≡ false
    and_no true b = refl
    and_no false b = refl

    go : (known : Bool) → list_any (λ n. bytes_eq x.name (dashed n)) names ≡ known → (not known || (is_misused x || list_any (λ d. bytes_eq d.name x.name) done)) ≡ true
        → allowing (map dashed names) (done ++ x ∷ more) (inner (done ++ x ∷ more)) ≡ None
    go false e t = ap (λ b. if b then inner (done ++ x ∷ more) else None)
        (list_all-append (λ (s : Setting). list_any (λ n. bytes_eq s.name n) (map dashed names)) done (x ∷ more)
        ∙ (ap (λ b. are_allowed names done && (b && are_allowed names more)) (sym (list_any-map (λ n. bytes_eq x.name n) dashed names) ∙ e) ∙ and_no (are_allowed names done) (are_allowed names more)))
    go true e t =
        let one = named_so names x.name e in
        none_either (are_allowed names (done ++ x ∷ more)) (inner (done ++ x ∷ more)) (strict (done ++ x ∷ more) one.name one.known (spoils one.name done more x one.is t))

-- ---- the commands

pub either_name : {P : Type 0} (m n : Text) (rest : List Text) → (m ≡ n → P) → (has_name rest n ≡ true → P) → has_name (m ∷ rest) n ≡ true → P
either_name {P = P} m n rest here there h = go (bytes_eq m n) (bytes_eq-Decides m n).0 h
  where
    go : (b : Bool) → (b ≡ true → m ≡ n) → (b || has_name rest n) ≡ true → P
    go true same t = here (same refl)
    go false same t = there t

abbrev options_by : Option ℕ → Option ℕ → Option ℕ → Option ℕ → Option ℕ → Option Bool → Option Options
options_by c w t p e l =
    option_and_then (λ cells. option_and_then (λ workers. option_and_then (λ tracers. option_and_then (λ packets. option_and_then (λ entries. option_and_then (λ place.
    Some (record { cells = cells; workers = workers; tracers = tracers; packets = packets; entries = entries; place = place })) l) e) p) t) w) c

no_workers : (c t p e : Option ℕ) (l : Option Bool) → options_by c None t p e l ≡ None
no_workers None t p e l = refl
no_workers (Some c) t p e l = refl

no_tracers : (c w p e : Option ℕ) (l : Option Bool) → options_by c w None p e l ≡ None
no_tracers None w p e l = refl
no_tracers (Some c) None p e l = refl
no_tracers (Some c) (Some w) p e l = refl

no_packets : (c w t e : Option ℕ) (l : Option Bool) → options_by c w t None e l ≡ None
no_packets None w t e l = refl
no_packets (Some c) None t e l = refl
no_packets (Some c) (Some w) None e l = refl
no_packets (Some c) (Some w) (Some t) e l = refl

no_entries : (c w t p : Option ℕ) (l : Option Bool) → options_by c w t p None l ≡ None
no_entries None w t p l = refl
no_entries (Some c) None t p l = refl
no_entries (Some c) (Some w) None p l = refl
no_entries (Some c) (Some w) (Some t) None l = refl
no_entries (Some c) (Some w) (Some t) (Some p) l = refl

no_place : (c w t p e : Option ℕ) → options_by c w t p e None ≡ None
no_place None w t p e = refl
no_place (Some c) None t p e = refl
no_place (Some c) (Some w) None p e = refl
no_place (Some c) (Some w) (Some t) None e = refl
no_place (Some c) (Some w) (Some t) (Some p) None = refl
no_place (Some c) (Some w) (Some t) (Some p) (Some e) = refl

module _ (all : List Setting) (n : Text) (spoilt : Spoilt (is_flag n) (given (dashed n) all)) where
  at_name : (m : Text) → m ≡ n → Spoilt (is_flag m) (given (dashed m) all)
  at_name m e = subst (λ k. Spoilt (is_flag k) (given (dashed k) all)) (sym e) spoilt

  none_of : (m : Text) → m ≡ n → is_flag m ≡ false → (least greatest : ℕ) (default : Option ℕ) → chosen least greatest default (given (dashed m) all) ≡ None
  none_of m e f least greatest default = none_chosen (is_flag m) (given (dashed m) all) least greatest default f (at_name m e)

  place_strict : codes "place" ≡ n → options all ≡ None
  place_strict e = ap (options_by (cells all) (workers all) (tracers all) (packets all) (entries all)) (none_set true (given (codes "--place") all) refl (at_name (codes "place") e))
      ∙ no_place (cells all) (workers all) (tracers all) (packets all) (entries all)

  play_strict : has_name play_options n ≡ true → options all ≡ None
  play_strict =
      let place = is_set (given (codes "--place") all) in
      either_name (codes "cells") n (codes "workers" ∷ codes "tracers" ∷ codes "packets" ∷ codes "entries" ∷ [])
      (λ e. ap (λ o. options_by (option_and_then (λ k. if k % 64 == 0 then Some k else None) o) (workers all) (tracers all) (packets all) (entries all) place) (none_of (codes "cells") e refl 64 65536 (Some 4096)))
      (either_name (codes "workers") n (codes "tracers" ∷ codes "packets" ∷ codes "entries" ∷ [])
      (λ e. ap (λ o. options_by (cells all) o (tracers all) (packets all) (entries all) place) (none_of (codes "workers") e refl 1 32 (Some 4)) ∙ no_workers (cells all) (tracers all) (packets all) (entries all) place)
      (either_name (codes "tracers") n (codes "packets" ∷ codes "entries" ∷ [])
      (λ e. ap (λ o. options_by (cells all) (workers all) o (packets all) (entries all) place) (none_of (codes "tracers") e refl 0 8 (Some 1)) ∙ no_tracers (cells all) (workers all) (packets all) (entries all) place)
      (either_name (codes "packets") n (codes "entries" ∷ [])
      (λ e. ap (λ o. options_by (cells all) (workers all) (tracers all) o (entries all) place) (none_of (codes "packets") e refl 2 1024 (Some 64)) ∙ no_packets (cells all) (workers all) (tracers all) (entries all) place)
      (either_name (codes "entries") n []
      (λ e. ap (λ o. options_by (cells all) (workers all) (tracers all) (packets all) o place) (none_of (codes "entries") e refl 2 512 (Some 32)) ∙ no_entries (cells all) (workers all) (tracers all) (packets all) place)
      (λ h. absurd (true≢false (sym h)))))))

abbrev pub numbers_by : {X : Type 0} → (ℕ → ℕ → X) → Option ℕ → Option ℕ → Option X
numbers_by make n m = option_and_then (λ a. option_and_then (λ b. Some (make a b)) m) n

pub no_second : {X : Type 0} (make : ℕ → ℕ → X) (n : Option ℕ) → numbers_by make n None ≡ None
no_second make None = refl
no_second make (Some a) = refl

abbrev pub loads_by : Option Options → Option ℕ → Option ℕ → Option Command
loads_by o n m = option_and_then (λ options. numbers_by (Load options) n m) o

pub no_load_number : (o : Option Options) (m : Option ℕ) → loads_by o None m ≡ None
no_load_number None m = refl
no_load_number (Some o) m = refl

pub no_load_size : (o : Option Options) (n : Option ℕ) → loads_by o n None ≡ None
no_load_size None n = refl
no_load_size (Some o) n = no_second (Load o) n

pub run_strict : IsStrict run_options (λ all. option_and_then (λ o. Some (Run o)) (options all))
run_strict all n known spoilt =
    ap (option_and_then (λ (o : Options). Some (Run o))) (either_name (codes "place") n play_options (place_strict all n spoilt) (play_strict all n spoilt) known)

pub gen_strict : IsStrict made_options (λ all. numbers_by Gen (number all) (size all))
gen_strict all n known spoilt =
    either_name (codes "number") n (codes "size" ∷ [])
    (λ e. ap (λ o. numbers_by Gen o (size all)) (none_of all n spoilt (codes "number") e refl 0 4294967295 None))
    (either_name (codes "size") n []
    (λ e. ap (numbers_by Gen (number all)) (none_of all n spoilt (codes "size") e refl 1 20000 None) ∙ no_second Gen (number all))
    (λ h. absurd (true≢false (sym h)))) known

pub load_strict : IsStrict load_options (λ all. loads_by (options all) (number all) (size all))
load_strict all n known spoilt =
    either_name (codes "number") n (codes "size" ∷ play_options)
    (λ e. ap (λ k. loads_by (options all) k (size all)) (none_of all n spoilt (codes "number") e refl 0 4294967295 None) ∙ no_load_number (options all) (size all))
    (either_name (codes "size") n play_options
    (λ e. ap (loads_by (options all) (number all)) (none_of all n spoilt (codes "size") e refl 1 20000 None) ∙ no_load_size (options all) (number all))
    (λ h. ap (λ o. loads_by o (number all) (size all)) (play_strict all n spoilt h))) known

-- a command without options
pub bare_strict : (command : Command) → IsStrict [] (λ all. Some command)
bare_strict command all n known spoilt = absurd (true≢false (sym known))

pub dump_strict : IsStrict play_options (λ all. option_and_then (λ o. Some (Dump o)) (options all))
dump_strict all n known spoilt = ap (option_and_then (λ (o : Options). Some (Dump o))) (play_strict all n spoilt known)

abbrev pub batches_by : Option Options → Option ℕ → Option Command
batches_by o r = option_and_then (λ options. option_and_then (λ runners. Some (Batch options runners)) r) o

no_batch_runners : (o : Option Options) → batches_by o None ≡ None
no_batch_runners None = refl
no_batch_runners (Some o) = refl

pub batch_strict : IsStrict batch_options (λ all. batches_by (options all) (runners all))
batch_strict all n known spoilt =
    either_name (codes "runners") n play_options
    (λ e. ap (batches_by (options all)) (none_of all n spoilt (codes "runners") e refl 1 8 (Some 2)) ∙ no_batch_runners (options all))
    (λ h. ap (λ o. batches_by o (runners all)) (play_strict all n spoilt h)) known
