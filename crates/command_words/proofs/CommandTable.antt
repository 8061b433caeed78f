-- The commands by their names.
use Rattle.std.proofs.Common.{◌≡◌, ◌∙◌, true, false, refl, sym, ap, List, [], ◌∷◌, map, Option, Some, None, codes, true≢false, ◌&&◌, Bool, not, cond, bytes_eq, if◌then◌else◌, subst, inl, inr, is_some}
use Rattle.std.specs.Prelude.{option_and_then, option_map, unwrap_or, Box}
use Rattle.clap.specs.Walk.{Text, Row}
use Rattle.command_words.specs.Words.{Command, Dump, Gen, Run, Setting, allowing, chosen, given, number, options, runners, size, Census, Convert, Schedule, Undump, by_name, command, settings}
use Rattle.command_words.specs.Parsing.{are_allowed, batch_options, dashed, is_required, load_options, made_options, play_options, run_options, Form, form_named, forms, IsAsked, MatchesTell, asked_program, has_no_dashes}
use Rattle.command_words.proofs.LeafTurns.{has_name}
use Rattle.command_words.proofs.TopWalk.{Keeps, Covers, CoversAt, Entered, Outcome, meant, program_outcome}
use Rattle.command_words.proofs.Refusing.{IsStrict, batches_by, either_name, loads_by, no_load_number, no_load_size, no_second, none_either, numbers_by, refuses_by, bare_strict, batch_strict, dump_strict, gen_strict, load_strict, run_strict}
use Rattle.std.specs.List.{list_all}
use Rattle.command_words.proofs.LeafRefused.{flip, dashes_mean_none}
use Rattle.std.specs.Box.{box_value}
use Rattle.std.proofs.lemmas.Slice.Eq.{bytes_eq-Decides}
use Rattle.clap.specs.Matches.{has_subcommand, subcommand_name_of}
use Rattle.clap.specs.Simple.{subcommand_of, subcommand_rows, subcommand_rows_of}
use Rattle.clap.specs.Kinds.{HasKind, Kinds}
use Rattle.clap.specs.Values.{kind_of}
use Rattle.clap.specs.Faults.{fault_of}
use Rattle.clap.specs.declared.error.Error.{Error}
use Rattle.clap.specs.declared.error.kind.ErrorKind.TheVariants.{OutOfMemory}
use Rattle.clap.specs.declared.parser.matches.ArgMatches.{ArgMatches}
use Rattle.clap.specs.declared.parser.matches.ArgMatches.TheViews.{out-ArgMatches, out-SubCommand}
use Rattle.clap.specs.declared.parser.matches.SubCommand.{SubCommand}

-- The definition refuses a command that lacks an option which it needs.
-- the command is none if a required option is missing
abbrev pub NeedsAll : List Text → (List Setting → Option Command) → Type 0
NeedsAll names inner = (all : List Setting) (n : Text) → has_name names n ≡ true → is_required n ≡ true → given (dashed n) all ≡ [] → inner all ≡ None

not_needed : {P : Type 0} (m n : Text) → is_required m ≡ false → is_required n ≡ true → m ≡ n → P
not_needed m n free needed e = absurd (true≢false (sym needed ∙ (ap is_required (sym e) ∙ free)))

play_free : {P : Type 0} (n : Text) → is_required n ≡ true → has_name play_options n ≡ true → P
play_free n needed =
    either_name (codes "cells") n (codes "workers" ∷ codes "tracers" ∷ codes "packets" ∷ codes "entries" ∷ []) (not_needed (codes "cells") n refl needed)
    (either_name (codes "workers") n (codes "tracers" ∷ codes "packets" ∷ codes "entries" ∷ []) (not_needed (codes "workers") n refl needed)
    (either_name (codes "tracers") n (codes "packets" ∷ codes "entries" ∷ []) (not_needed (codes "tracers") n refl needed)
    (either_name (codes "packets") n (codes "entries" ∷ []) (not_needed (codes "packets") n refl needed)
    (either_name (codes "entries") n [] (not_needed (codes "entries") n refl needed)
    (λ h. absurd (true≢false (sym h)))))))

pub run_needs : NeedsAll run_options (λ all. option_and_then (λ o. Some (Run o)) (options all))
run_needs all n known needed missing = either_name (codes "place") n play_options (not_needed (codes "place") n refl needed) (play_free n needed) known

pub gen_needs : NeedsAll made_options (λ all. numbers_by Gen (number all) (size all))
gen_needs all n known needed missing =
    either_name (codes "number") n (codes "size" ∷ [])
    (λ e. ap (λ l. numbers_by Gen (chosen 0 4294967295 None l) (size all)) (ap (λ m. given (dashed m) all) e ∙ missing))
    (either_name (codes "size") n []
    (λ e. ap (λ l. numbers_by Gen (number all) (chosen 1 20000 None l)) (ap (λ m. given (dashed m) all) e ∙ missing) ∙ no_second Gen (number all))
    (λ h. absurd (true≢false (sym h)))) known

pub load_needs : NeedsAll load_options (λ all. loads_by (options all) (number all) (size all))
load_needs all n known needed missing =
    either_name (codes "number") n (codes "size" ∷ play_options)
    (λ e. ap (λ l. loads_by (options all) (chosen 0 4294967295 None l) (size all)) (ap (λ m. given (dashed m) all) e ∙ missing) ∙ no_load_number (options all) (size all))
    (either_name (codes "size") n play_options
    (λ e. ap (λ l. loads_by (options all) (number all) (chosen 1 20000 None l)) (ap (λ m. given (dashed m) all) e ∙ missing) ∙ no_load_size (options all) (number all))
    (play_free n needed)) known

pub bare_needs : (command : Command) → NeedsAll [] (λ all. Some command)
bare_needs command all n known needed missing = absurd (true≢false (sym known))

pub dump_needs : NeedsAll play_options (λ all. option_and_then (λ o. Some (Dump o)) (options all))
dump_needs all n known needed missing = play_free n needed known

pub batch_needs : NeedsAll batch_options (λ all. batches_by (options all) (runners all))
batch_needs all n known needed missing = either_name (codes "runners") n play_options (not_needed (codes "runners") n refl needed) (play_free n needed) known

pub keeps_by : (names : List Text) (inner : List Setting → Option Command) → has_name names [] ≡ false → IsStrict names inner → NeedsAll names inner
    → Keeps names (λ all. allowing (map dashed names) all (inner all))
keeps_by names inner named strict needs = record {
  named = named;
  refuses = refuses_by names inner strict;
  needs = λ all n known needed missing. none_either (are_allowed names all) (inner all) (needs all n known needed missing);
}

-- ---- the table

abbrev pub ByName : Type 0
ByName = Text → List Setting → Option Command

abbrev next_command : Text → List Text → (List Setting → Option Command) → ByName → ByName
next_command name names inner rest n all = if bytes_eq n name then allowing (map dashed names) all (inner all) else rest n all

data Table : List Form → ByName → Type 0 where
  nothing : Table [] (λ n all. None)
  has : {fs : List Form} {rest : ByName} (name : Text) (names : List Text) (inner : List Setting → Option Command) → has_name names [] ≡ false → IsStrict names inner → NeedsAll names inner
      → Table fs rest → Table ((name, names) ∷ fs) (next_command name names inner rest)

table_covers : (fs : List Form) (f : ByName) → Table fs f → (n : Text) → CoversAt (f n) (form_named n fs)
table_covers _ _ nothing n = λ all. refl
table_covers _ _ (has {fs = fs} {rest = rest} name names inner named strict needs more) n =
    subst (λ b. CoversAt (next_command name names inner rest n) (cond b (Some (name, names)) (form_named n fs))) (flip n name) (go (bytes_eq n name) (table_covers fs rest more n))
  where
    go : (b : Bool) → CoversAt (rest n) (form_named n fs)
        → CoversAt (λ all. if b then allowing (map dashed names) all (inner all) else rest n all) (cond b (Some (name, names)) (form_named n fs))
    go true below = keeps_by names inner named strict needs
    go false below = below

the_table : Table forms by_name
the_table =
    has (codes "run") run_options (λ all. option_and_then (λ o. Some (Run o)) (options all)) refl run_strict run_needs
    (has (codes "gen") made_options (λ all. numbers_by Gen (number all) (size all)) refl gen_strict gen_needs
    (has (codes "load") load_options (λ all. loads_by (options all) (number all) (size all)) refl load_strict load_needs
    (has (codes "convert") [] (λ all. Some Convert) refl (bare_strict Convert) (bare_needs Convert)
    (has (codes "schedule") [] (λ all. Some Schedule) refl (bare_strict Schedule) (bare_needs Schedule)
    (has (codes "dump") play_options (λ all. option_and_then (λ o. Some (Dump o)) (options all)) refl dump_strict dump_needs
    (has (codes "undump") [] (λ all. Some Undump) refl (bare_strict Undump) (bare_needs Undump)
    (has (codes "census") [] (λ all. Some Census) refl (bare_strict Census) (bare_needs Census)
    (has (codes "batch") batch_options (λ all. batches_by (options all) (runners all)) refl batch_strict batch_needs
    nothing))))))))

pub covers : Covers forms by_name
covers = table_covers forms by_name the_table

-- a name that is no command's
pub unknown_form : (fs : List Form) (n : Text) → list_all (λ p. not (bytes_eq n p.0)) fs ≡ true → form_named n fs ≡ None
unknown_form [] n h = refl
unknown_form (p ∷ ps) n h = go (bytes_eq n p.0) (flip n p.0) h (unknown_form ps n)
  where
    go : (b : Bool) → b ≡ bytes_eq p.0 n → (not b && list_all (λ q. not (bytes_eq n q.0)) ps) ≡ true → (list_all (λ q. not (bytes_eq n q.0)) ps ≡ true → form_named n ps ≡ None)
        → cond (bytes_eq p.0 n) (Some p) (form_named n ps) ≡ None
    go true e t next = absurd (true≢false (sym t))
    go false e t next = ap (λ b. cond b (Some p) (form_named n ps)) (sym e) ∙ next t

-- What a parse of the program's words answers, beside what the words mean.
means : (words : List Text) → command words ≡ meant forms by_name words
means [] = refl
means (n ∷ words) = refl

outcome : (words : List Text) → has_no_dashes words ≡ true → Outcome forms by_name words (fault_of asked_program words) (subcommand_of asked_program words)
outcome words nd = program_outcome forms by_name covers words nd

-- a parse that fails for another reason than memory
pub none_after_fault : (words : List Text) (e : Error) → has_no_dashes words ≡ true → HasKind (fault_of asked_program words) e → (kind_of e ≡ OutOfMemory → ⊥) → None ≡ command words
none_after_fault words e nd kind other = sym (means words ∙ go (fault_of asked_program words) (subcommand_of asked_program words) kind (outcome words nd))
  where
    go : (f : Kinds) (sub : Option (Text × List Row)) → HasKind f e → Outcome forms by_name words f sub → meant forms by_name words ≡ None
    go [] sub (inl m) r = absurd (other m)
    go [] sub (inr none) r = absurd none
    go (k ∷ ks) sub h r = r

-- a parse that succeeds
pub entered_by : (words : List Text) → has_no_dashes words ≡ true → fault_of asked_program words ≡ [] → Entered forms by_name words (subcommand_of asked_program words)
entered_by words nd none = subst (λ f. Outcome forms by_name words f (subcommand_of asked_program words)) none (outcome words nd)

-- what the subcommand's name and matches mean
pub asked_is : (words : List Text) (m : ArgMatches) (name : Text) (rows : List Row) (answer : Option Command) → has_no_dashes words ≡ true → fault_of asked_program words ≡ []
    → subcommand_rows_of m ≡ subcommand_of asked_program words → Some name ≡ subcommand_name_of m → Some rows ≡ option_map (λ p. p.1) (subcommand_rows_of m)
    → ((all : List Setting) → IsAsked name rows all → answer ≡ by_name name all) → answer ≡ command words
asked_is words m name rows answer nd none same named rowed asked =
    let entered = entered_by words nd none in
    let sub : subcommand_rows_of m ≡ Some (entered.form.0, entered.rows) = same ∙ entered.sub_is in
    let name_is : name ≡ entered.form.0 = ap (λ o. unwrap_or o name) (named ∙ (go (out-ArgMatches m).subcommand ∙ ap (option_map (λ p. p.0)) sub)) in
    let rows_are : rows ≡ entered.rows = ap (λ o. unwrap_or o rows) (rowed ∙ ap (option_map (λ p. p.1)) sub) in
    asked entered.all (record {
      form = entered.form;
      known = ap (λ n. form_named n forms) name_is ∙ entered.known;
      allowed = entered.allowed;
      tells = subst (λ r. MatchesTell r entered.all) (sym rows_are) entered.tells;
    })
    ∙ (ap (λ n. by_name n entered.all) name_is ∙ (sym entered.meant_is ∙ sym (means words)))
  where
    go : {Z : Type 0} (o : Option (Box SubCommand Z)) → option_map (λ b. (out-SubCommand (box_value b)).name.now) o ≡ option_map (λ p. p.0) (subcommand_rows o)
    go None = refl
    go (Some b) = refl

-- a parse that succeeds enters a command
pub some_entered : (words : List Text) (m : ArgMatches) → has_no_dashes words ≡ true → fault_of asked_program words ≡ [] → subcommand_rows_of m ≡ subcommand_of asked_program words
    → has_subcommand m ≡ true
some_entered words m nd none same =
    let entered = entered_by words nd none in
    go (out-ArgMatches m).subcommand ∙ ap is_some (same ∙ entered.sub_is)
  where
    go : {Z : Type 0} (o : Option (Box SubCommand Z)) → is_some o ≡ is_some (subcommand_rows o)
    go None = refl
    go (Some b) = refl

-- ---- words with `--`

pub none_with_dashes : (words : List Text) → has_no_dashes words ≡ false → None ≡ command words
none_with_dashes [] h = absurd (true≢false h)
none_with_dashes (n ∷ words) h = sym (means (n ∷ words) ∙ first (bytes_eq n (dashed [])) (bytes_eq-Decides n (dashed [])).0 h)
  where
    nothing : (o : Option (List Setting)) → option_and_then (by_name (dashed [])) o ≡ None
    nothing None = refl
    nothing (Some all) = refl

    keeps : (p : Form) → form_named n forms ≡ Some p → Keeps p.1 (by_name n)
    keeps p e = subst (CoversAt (by_name n)) e (covers n)

    covered : (found : Option Form) → form_named n forms ≡ found → has_no_dashes words ≡ false → (o : Option (List Setting)) → o ≡ settings words None → option_and_then (by_name n) o ≡ None
    covered None e d None s = refl
    covered None e d (Some all) s = subst (CoversAt (by_name n)) e (covers n) all
    covered (Some p) e d o s = ap (option_and_then (by_name n)) s ∙ dashes_mean_none p.1 (by_name n) (keeps p e).refuses words (keeps p e).named d

    first : (b : Bool) → (b ≡ true → n ≡ dashed []) → (not b && has_no_dashes words) ≡ false → option_and_then (by_name n) (settings words None) ≡ None
    first true same d = ap (λ w. option_and_then (by_name w) (settings words None)) (same refl) ∙ nothing (settings words None)
    first false same d = covered (form_named n forms) refl d (settings words None) refl
