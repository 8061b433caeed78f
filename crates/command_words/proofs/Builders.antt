-- What a chain of `arg` and `subcommand` builds.
use Rattle.std.proofs.Common.{◌≡◌, ◌∙◌, ◌||◌, ◌<◌, ◌≤◌, ◌+◌, ℕ, false, refl, sym, ap, ap₂, subst, List, [], ◌∷◌, ◌++◌, length, map, take, append_assoc, append-nil}
use Rattle.std.specs.Prelude.{slice_index_or}
use Rattle.std.specs.Borrow.{Bor}
use Rattle.std.proofs.lemmas.List.{map-append, take_all, take_more}
use Rattle.clap.specs.Walk.{Rule, Text, rule_of}
use Rattle.clap.specs.Simple.{App, Shape, app_of, new_app, shape_of, with_rule, with_subcommand}
use Rattle.clap.specs.Built.{AddsArg, AddsSubcommand}
use Rattle.clap.specs.declared.builder.arg.Arg.{Arg}
use Rattle.clap.specs.declared.builder.command.Command.{Command}
use Rattle.clap.specs.declared.builder.command.Command.TheViews.{out-Command}
use Rattle.command_words.specs.Building.{HasMore, IsCommand, texts_of, with_commands, with_options}
use Rattle.command_words.specs.declared.program.Form.{Form as WrittenForm}
use Rattle.command_words.specs.Parsing.{asked_command, asked_rule}
use Rattle.command_words.proofs.LeafTurns.{or_no}

pub one_more : (old new : Command) (a : Arg) (n : Text) → AddsArg old a new → rule_of a ≡ asked_rule n → a.global ≡ false → HasMore old (n ∷ []) new
one_more old new a n adds rule plain = record {
  shape = adds.shape plain ∙ ap (λ r. with_rule (app_of old) r) rule;
  local = adds.globals ∙ (ap (λ b. (out-Command old).has_globals || b) plain ∙ or_no (out-Command old).has_globals);
}

with_more : (a : App) (xs ys : List Text) → with_options (with_options a xs) ys ≡ with_options a (xs ++ ys)
with_more a xs ys = ap (λ (l : List Rule). record a { top = record a.top { rules = l } })
    (append_assoc a.top.rules (map asked_rule xs) (map asked_rule ys) ∙ ap (λ l. a.top.rules ++ l) (sym (map-append asked_rule xs ys)))

pub then_more : (old middle new : Command) (xs ys : List Text) → HasMore old xs middle → HasMore middle ys new → HasMore old (xs ++ ys) new
then_more old middle new xs ys first second = record {
  shape = second.shape ∙ (ap (λ a. with_options a ys) first.shape ∙ with_more (app_of old) xs ys);
  local = second.local ∙ first.local;
}

-- no option yet
pub none_more : (c : Command) → HasMore c [] c
none_more c = record {
  shape = ap (λ (rules : List Rule). record (app_of c) { top = record (app_of c).top { rules = rules } }) (sym (append-nil (app_of c).top.rules));
  local = refl;
}

-- the next of these options
pub next_option : (old middle new : Command) (options : List (Bor Text)) (i : ℕ) (none : Bor Text) (a : Arg) → i < length options → HasMore old (texts_of (take i options)) middle
    → AddsArg middle a new → rule_of a ≡ asked_rule (slice_index_or options i none).now → a.global ≡ false → HasMore old (texts_of (take (i + 1) options)) new
next_option old middle new options i none a below more adds rule plain =
    subst (λ (names : List Text). HasMore old names new) (sym longer) (then_more old middle new _ _ more (one_more middle new a (slice_index_or options i none).now adds rule plain))
  where
    longer : texts_of (take (i + 1) options) ≡ texts_of (take i options) ++ (slice_index_or options i none).now ∷ []
    longer = ap texts_of (take_more options i none below) ∙ map-append (λ (t : Bor Text). t.now) (take i options) (slice_index_or options i none ∷ [])

-- a new command with these options
pub command_is : (old new : Command) (name : Text) (options : List (Bor Text)) (i : ℕ) → app_of old ≡ new_app name → (out-Command old).has_globals ≡ false → length options ≤ i
    → HasMore old (texts_of (take i options)) new → IsCommand name (texts_of options) new
command_is old new name options i is local past some = record {
  shape = more.shape ∙ ap (λ a. with_options a (texts_of options)) is;
  local = more.local ∙ local;
}
  where
    more : HasMore old (texts_of options) new
    more = subst (λ (l : List (Bor Text)). HasMore old (texts_of l) new) (take_all i options past) some

one_subcommand : (old sub new : Command) (a : App) (s : Shape) → AddsSubcommand old sub new → (out-Command sub).has_globals ≡ false → app_of old ≡ a → shape_of sub ≡ s → app_of new ≡ with_subcommand a s
one_subcommand old sub new a s adds local is shaped = adds.shape local ∙ ap₂ with_subcommand is shaped

with_last : (a : App) (fs : List WrittenForm) (f : WrittenForm) → with_commands a (fs ++ f ∷ []) ≡ with_subcommand (with_commands a fs) (asked_command f.name.now (texts_of f.options.now))
with_last a [] f = refl
with_last a (g ∷ gs) f = with_last (with_subcommand a (asked_command g.name.now (texts_of g.options.now))) gs f

-- the command of the next line
pub next_command : (a : App) (middle sub new : Command) (forms : List WrittenForm) (i : ℕ) (none : WrittenForm) → i < length forms → app_of middle ≡ with_commands a (take i forms)
    → IsCommand (slice_index_or forms i none).name.now (texts_of (slice_index_or forms i none).options.now) sub → AddsSubcommand middle sub new → app_of new ≡ with_commands a (take (i + 1) forms)
next_command a middle sub new forms i none below is command adds =
    one_subcommand middle sub new _ _ adds command.local is (ap (λ (x : App). x.top) command.shape)
    ∙ (sym (with_last a (take i forms) (slice_index_or forms i none)) ∙ ap (with_commands a) (sym (take_more forms i none below)))

-- all lines
pub all_commands : (a : App) (c : Command) (forms : List WrittenForm) (i : ℕ) → length forms ≤ i → app_of c ≡ with_commands a (take i forms) → app_of c ≡ with_commands a forms
all_commands a c forms i past is = is ∙ ap (with_commands a) (take_all i forms past)
